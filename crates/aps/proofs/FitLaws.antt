-- Which sets are of a kind and writable.
use mathlib.Core.Path.{◌≡◌, refl, ap, ◌∙◌}
use mathlib.Core.Bool.{Bool, true, false}
use Prim.Native.Nat.{ℕ}
use lib.Dec.{eqb}
use Rattle.aps.specs.ApsSyntax.{Payload, ApsData, from_aps, number_of}
use Rattle.aps.specs.Reading.{head_of}
use Rattle.aps.specs.Writing.{plain, writable, fit}
use Rattle.aps.specs.declared.aps.ApsHead.{ApsHead}
use Rattle.aps.specs.declared.aps.ApsKind.{ApsKind}
use Rattle.aps.specs.declared.aps.VvcAps.{VvcAps}

kinds-differ : (k l : ApsKind) → (k ≡ l → ⊥) → eqb (number_of k) (number_of l) ≡ false
kinds-differ ApsKind.Alf ApsKind.Alf n = absurd (n refl)
kinds-differ ApsKind.Alf ApsKind.Lmcs n = refl
kinds-differ ApsKind.Alf ApsKind.Scaling n = refl
kinds-differ ApsKind.Lmcs ApsKind.Alf n = refl
kinds-differ ApsKind.Lmcs ApsKind.Lmcs n = absurd (n refl)
kinds-differ ApsKind.Lmcs ApsKind.Scaling n = refl
kinds-differ ApsKind.Scaling ApsKind.Alf n = refl
kinds-differ ApsKind.Scaling ApsKind.Lmcs n = refl
kinds-differ ApsKind.Scaling ApsKind.Scaling n = absurd (n refl)

kind-same : (k : ApsKind) → eqb (number_of k) (number_of k) ≡ true
kind-same ApsKind.Alf = refl
kind-same ApsKind.Lmcs = refl
kind-same ApsKind.Scaling = refl

-- the kind of a set is its head's
pub kind-of-head : (a : VvcAps) (h : ApsHead) → head_of a ≡ h → a.kind ≡ h.kind
kind-of-head a h e = ap (λ (x : ApsHead). x.kind) e

-- a set of another kind does not fit
pub other-unfit : (k : ApsKind) (a : VvcAps) → (a.kind ≡ k → ⊥) → fit k a ≡ false
unfolding fit
other-unfit k a n = rw (kinds-differ a.kind k n) refl

-- one of the kind fits where it is writable
pub own-fit : (k : ApsKind) (a : VvcAps) → a.kind ≡ k → fit k a ≡ writable a
unfolding fit
own-fit k a e = rw (e, kind-same k) refl

-- what is sent of a set with extension flag 0, by its head
pub plain-sent : (a : VvcAps) (h : ApsHead) → head_of a ≡ h → (n : ℕ) (f : Bool → Payload)
    → from_aps a ≡ (n, (a.aps_adaptation_parameter_set_id, (a.aps_chroma_present_flag, (f a.aps_chroma_present_flag, a.aps_extension_flag))))
    → from_aps (plain a) ≡ (n, (h.aps_adaptation_parameter_set_id, (h.aps_chroma_present_flag, (f h.aps_chroma_present_flag, false))))
unfolding from_aps plain
plain-sent a h e n f s =
    ap (λ (x : ApsData). (x.0, (x.1.0, (x.1.1.0, (x.1.1.1.0, false))))) s
    ∙ ap (λ (x : ApsHead). (n, (x.aps_adaptation_parameter_set_id, (x.aps_chroma_present_flag, (f x.aps_chroma_present_flag, false))))) e
