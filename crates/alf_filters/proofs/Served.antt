-- A set that was read is served, whatever its extension flag: only a depth or number out of range and a component that was not sent are refused of it.
use mathlib.Core.Path.{◌≡◌, refl, sym, ◌∙◌}
use mathlib.Core.Bool.{Bool, true, false, cond, ◌&&◌}
use mathlib.Core.List.{List}
use Prim.Native.Nat.{ℕ}
use lib.Dec.{ltb}
use lib.ListN.{length}
use Rattle.std.specs.Prelude.{Ok, Err}
use Rattle.bitstream.specs.Outcome.{value, refused}
use Rattle.bitstream.proofs.CodeLaws.{value-refused}
use Rattle.aps.specs.Codec.{u, ◌▷◌, via}
use Rattle.aps.specs.Elements.{flag}
use Rattle.aps.specs.ApsSyntax.{aps_syntax, from_aps, aps}
use Rattle.aps.specs.Rbsp.{read_rbsp, parse_aps_rbsp}
use Rattle.aps.specs.Writing.{plain, writable, fit}
use Rattle.aps.specs.declared.aps.ApsKind.{ApsKind}
use Rattle.aps.specs.declared.aps.VvcAps.{VvcAps}
use Rattle.aps.proofs.FitLaws.{own-fit}
use Rattle.aps.proofs.RbspLaws.{rbsp-sound}
use Rattle.alf_filters.specs.Answers.{asked}

-- either flag is one bit
one_bit : (b : Bool) → (ltb (cond b 1 0) 2 && true) ≡ true
one_bit true = refl
one_bit false = refl

-- the writer takes either extension flag alike
extension-alike : (a : VvcAps) → aps.ok a ≡ writable a
unfolding writable plain aps via from_aps aps_syntax ◌▷◌ flag u
extension-alike a = rw (one_bit a.aps_extension_flag) refl

-- what was read is not over 2,048 bytes
read-whole : (s : List ℕ) (a : VvcAps) (q : ℕ) → parse_aps_rbsp s ≡ value a q → read_rbsp s ≡ value a q
unfolding parse_aps_rbsp
read-whole s a q = go (ltb 2048 (length s))
  where
    go : (long : Bool) → cond long (refused 4) (read_rbsp s) ≡ value a q → read_rbsp s ≡ value a q
    go true e = absurd (value-refused (sym e))
    go false e = e

-- a set that was read is of its kind and writable
pub read-fit : (s : List ℕ) (a : VvcAps) (q : ℕ) → parse_aps_rbsp s ≡ value a q → (k : ApsKind) → a.kind ≡ k → fit k a ≡ true
read-fit s a q e k h = own-fit k a h ∙ sym (extension-alike a) ∙ (rbsp-sound s a q (read-whole s a q e)).0

-- so every call answers by its argument and the component's flag alone
pub read-asked : {A : Type 0} (s : List ℕ) (a : VvcAps) (q : ℕ) → parse_aps_rbsp s ≡ value a q → a.kind ≡ ApsKind.Alf → (allowed : Bool) (otherwise : ℕ) (sent : Bool) (x : A)
    → asked a allowed otherwise sent x ≡ cond allowed (cond sent (Ok x) (Err 8)) (Err otherwise)
unfolding asked
read-asked s a q e k allowed otherwise sent x = rw (read-fit s a q e ApsKind.Alf k) refl
