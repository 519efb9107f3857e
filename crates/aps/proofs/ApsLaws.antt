-- The set up to its extension flag is lawful, up to what is inferred.
use mathlib.Core.Path.{◌≡◌, refl, ap}
use mathlib.Core.Bool.{Bool, true, ◌&&◌}
use mathlib.Core.List.{List}
use Prim.Native.Nat.{ℕ, zero, suc, ◌+◌, ◌≤◌}
use native.Mathlib.Omega.{arith}
use lib.Dec.{leb, lit≤}
use lib.ListN.{length, length-append}
use borrow.Author.Tests.{leb-true}
use Rattle.bitstream.specs.Outcome.{value}
use Rattle.bitstream.specs.Bits.{Holds, AreBits}
use Rattle.aps.specs.Kinds.{largest_id}
use Rattle.aps.specs.Codec.{Codec, u, ◌▷◌, via, judged, provided, never}
use Rattle.aps.specs.Elements.{flag}
use Rattle.aps.specs.AlfSyntax.{alf}
use Rattle.aps.specs.LmcsSyntax.{lmcs}
use Rattle.aps.specs.ScalingSyntax.{scaling_syntax}
use Rattle.aps.specs.ApsSyntax.{Payload, of_alf, of_lmcs, of_scaling, kind_of, alf_in, lmcs_in, entries_in, scaling_in, is_alf, is_lmcs, is_scaling, payload, ApsData, aps_syntax, to_aps, number_of, payload_of, from_aps, aps, inferred}
use Rattle.aps.specs.declared.aps.ApsKind.{ApsKind}
use Rattle.aps.specs.declared.aps.VvcAps.{VvcAps}
use Rattle.aps.proofs.Lawful.{Lawful}
use Rattle.aps.proofs.FieldLaws.{u-law}
use Rattle.aps.proofs.CodecLaws.{never_true, and_left, and_right, ▷-law, judged-law, provided-law, never-law, via-value, via-law, most-law}
use Rattle.aps.proofs.ElementLaws.{flag-law}
use Rattle.aps.proofs.AlfLaws.{alf-law}
use Rattle.aps.proofs.LmcsLaws.{lmcs-law}
use Rattle.aps.proofs.ScalingLaws.{scaling_syntax-law}
use Rattle.aps.proofs.KeepLaws.{look-keep}

-- the bits of a payload at most
abbrev pub payload_bits : ℕ → ℕ
payload_bits zero = 6645
payload_bits (suc zero) = 285
payload_bits (suc (suc k)) = 23432

-- what passes for a payload of a kind is one
only-alf : (p : Payload) → is_alf p ≡ true → of_alf (alf_in p) ≡ p
only-alf (of_alf d) t = refl
only-alf (of_lmcs d) t = never_true t
only-alf (of_scaling d) t = never_true t

only-lmcs : (p : Payload) → is_lmcs p ≡ true → of_lmcs (lmcs_in p) ≡ p
only-lmcs (of_alf d) t = never_true t
only-lmcs (of_lmcs d) t = refl
only-lmcs (of_scaling d) t = never_true t

only-scaling : (p : Payload) → is_scaling p ≡ true → of_scaling (entries_in p) ≡ p
only-scaling (of_alf d) t = never_true t
only-scaling (of_lmcs d) t = never_true t
only-scaling (of_scaling d) t = refl

-- the payload of each kind is lawful
pub payload-law : (kind id : ℕ) (chroma : Bool) → Lawful (payload kind id chroma) (payload_bits kind)
unfolding payload
payload-law zero id chroma = judged-law (λ p. leb id (largest_id 0)) (via-law of_alf alf_in is_alf (alf-law chroma) (λ d o. (refl, refl)) (λ p o t. only-alf p t))
payload-law (suc zero) id chroma = provided-law (leb id (largest_id 1)) (via-law of_lmcs lmcs_in is_lmcs (lmcs-law chroma) (λ d o. (refl, refl)) (λ p o t. only-lmcs p t))
payload-law (suc (suc zero)) id chroma =
    judged-law (λ p. leb id (largest_id 2)) (via-law of_scaling entries_in is_scaling (scaling_syntax-law chroma) (λ d o. (refl, refl)) (λ p o t. only-scaling p t))
payload-law (suc (suc (suc kind))) id chroma = never-law 3

-- the most of them
pub payload_bits-le : (kind : ℕ) → payload_bits kind ≤ 23432
payload_bits-le zero = lit≤ tt
payload_bits-le (suc zero) = lit≤ tt
payload_bits-le (suc (suc k)) = lit≤ tt

-- the syntax of a set is lawful
pub aps_syntax-law : Lawful aps_syntax 23442
unfolding aps_syntax
aps_syntax-law =
    ▷-law (u-law 3) λ kind o.
    ▷-law (u-law 5) λ id o.
    ▷-law flag-law λ chroma o.
    ▷-law (most-law (payload_bits-le kind) (payload-law kind id chroma)) λ d o.
    flag-law

-- a payload that its kind's syntax takes is of that kind, and is had back from the set's arrays
payload-kind : (kind id : ℕ) (chroma : Bool) (p : Payload) → (payload kind id chroma).ok p ≡ true
    → (number_of (kind_of p) ≡ kind) × (payload_of (kind_of p) chroma (alf_in p) (lmcs_in p) (scaling_in p) ≡ p)
unfolding payload judged provided via never
payload-kind zero id chroma p o =
    let t = and_right ((alf chroma).ok (alf_in p)) (is_alf p) (and_left ((alf chroma).ok (alf_in p) && is_alf p) (leb id (largest_id 0)) o) in
    rw (← only-alf p t) (refl, refl)
payload-kind (suc zero) id chroma p o =
    let t = and_right ((lmcs chroma).ok (lmcs_in p)) (is_lmcs p) (and_right (leb id (largest_id 1)) ((lmcs chroma).ok (lmcs_in p) && is_lmcs p) o) in
    rw (← only-lmcs p t) (refl, refl)
payload-kind (suc (suc zero)) id chroma p o =
    let r = and_left ((scaling_syntax chroma).ok (entries_in p) && is_scaling p) (leb id (largest_id 2)) o in
    let t = and_right ((scaling_syntax chroma).ok (entries_in p)) (is_scaling p) r in
    let l = look-keep chroma (entries_in p) (and_left ((scaling_syntax chroma).ok (entries_in p)) (is_scaling p) r) in
    rw (← only-scaling p t) (refl, ap of_scaling l)
payload-kind (suc (suc (suc kind))) id chroma p o = never_true o

-- a set that the syntax takes has a payload that its kind takes
payload-ok : (x : ApsData) → aps_syntax.ok x ≡ true → (payload x.0 x.1.0 x.1.1.0).ok x.1.1.1.0 ≡ true
unfolding aps_syntax ◌▷◌
payload-ok x o =
    let p = (payload x.0 x.1.0 x.1.1.0).ok x.1.1.1.0 in
    let e = flag.ok x.1.1.1.1 in
    let c = flag.ok x.1.1.0 in
    let i = (u 5).ok x.1.0 in
    let k = (u 3).ok x.0 in
    and_left p e (and_right c (p && e) (and_right i (c && (p && e)) (and_right k (i && (c && (p && e))) o)))

-- what is read is had back from the set
from-to : (x : ApsData) → aps_syntax.ok x ≡ true → from_aps (to_aps x) ≡ x
unfolding from_aps to_aps
from-to x o =
    let (e, e') = payload-kind x.0 x.1.0 x.1.1.0 x.1.1.1.0 (payload-ok x o) in
    λ i. (e i, (x.1.0, (x.1.1.0, (e' i, x.1.1.1.1))))

-- ---- the laws of the set: only reading what was written differs from `Lawful`, as what is not sent is read as inferred

module _ (s : List ℕ) (p : ℕ) where
  -- a set is read as the syntax of what the writer looks at
  pub aps-value : (a : VvcAps) (q : ℕ) → aps.read s p ≡ value a q → (aps_syntax.read s p ≡ value (from_aps a) q) × (inferred a ≡ a)
  unfolding aps inferred
  aps-value a q e = via-value to_aps from_aps (λ a. true) aps_syntax-law from-to s p a q e

  -- a set that is read is one that the writer takes, and is as it is inferred
  pub aps-sound : (a : VvcAps) (q : ℕ) → aps.read s p ≡ value a q → (aps.ok a ≡ true) × (inferred a ≡ a)
  unfolding aps via
  aps-sound a q e =
      let (ex, f) = aps-value a q e in
      (rw (aps_syntax-law.sound s p (from_aps a) q ex), f)

  -- and stands there as it is written
  pub aps-exact : (a : VvcAps) (q : ℕ) → aps.read s p ≡ value a q → Holds s p (aps.emit a) × (q ≡ p + length (aps.emit a))
  unfolding aps via
  aps-exact a q e = aps_syntax-law.exact s p (from_aps a) q (aps-value a q e).0

  -- a set that is written is read where it stands, with what is not sent as it is inferred
  pub aps-back : (a : VvcAps) → aps.ok a ≡ true → Holds s p (aps.emit a)
      → aps.read s p ≡ value (inferred a) (p + length (aps.emit a))
  unfolding aps via inferred
  aps-back a o h = rw (aps_syntax-law.back s p (from_aps a) (and_left (aps_syntax.ok (from_aps a)) true o) h)

-- what is written is bits
pub aps-bits : (a : VvcAps) → aps.ok a ≡ true → AreBits (aps.emit a)
unfolding aps via
aps-bits a o = aps_syntax-law.bits (from_aps a) (and_left (aps_syntax.ok (from_aps a)) true o)

-- what comes after the kind
abbrev after_kind : ℕ → Codec (ℕ × (Bool × (Payload × Bool)))
after_kind kind = u 5 ▷ λ id. flag ▷ λ chroma. payload kind id chroma ▷ λ d. flag

after_kind-law : (kind : ℕ) → Lawful (after_kind kind) (5 + (1 + (payload_bits kind + 1)))
after_kind-law kind = ▷-law (u-law 5) λ id o. ▷-law flag-law λ chroma o. ▷-law (payload-law kind id chroma) λ d o. flag-law

syntax-most : (x : ApsData) → aps_syntax.ok x ≡ true → length (aps_syntax.emit x) ≤ 10 + payload_bits x.0
unfolding aps_syntax ◌▷◌
syntax-most x o =
    let oa = and_left ((u 3).ok x.0) ((after_kind x.0).ok x.1) o in
    let ob = and_right ((u 3).ok x.0) ((after_kind x.0).ok x.1) o in
    let a = (u-law 3).most x.0 oa in
    let b = (after_kind-law x.0).most x.1 ob in
    let n = length-append ((u 3).emit x.0) ((after_kind x.0).emit x.1) in
    omega arith

-- the bits of a set of each kind at most: the payload's and 10 around it
pub aps-most : (a : VvcAps) → aps.ok a ≡ true → length (aps.emit a) ≤ 10 + payload_bits (number_of a.kind)
unfolding aps via from_aps
aps-most a o = syntax-most (from_aps a) (and_left (aps_syntax.ok (from_aps a)) true o)

-- ---- the id

payload-id : (kind : ApsKind) (id : ℕ) (chroma : Bool) (p : Payload) → (payload (number_of kind) id chroma).ok p ≡ true → id ≤ largest_id (number_of kind)
unfolding payload judged provided via
payload-id ApsKind.Alf id chroma p o = leb-true id (largest_id 0) (and_right ((alf chroma).ok (alf_in p) && is_alf p) (leb id (largest_id 0)) o)
payload-id ApsKind.Lmcs id chroma p o = leb-true id (largest_id 1) (and_left (leb id (largest_id 1)) ((lmcs chroma).ok (lmcs_in p) && is_lmcs p) o)
payload-id ApsKind.Scaling id chroma p o = leb-true id (largest_id 2) (and_right ((scaling_syntax chroma).ok (entries_in p) && is_scaling p) (leb id (largest_id 2)) o)

-- a set that the writer takes has an id of its kind
pub aps-id : (a : VvcAps) → aps.ok a ≡ true → a.aps_adaptation_parameter_set_id ≤ largest_id (number_of a.kind)
unfolding aps via from_aps
aps-id a o =
    payload-id a.kind a.aps_adaptation_parameter_set_id a.aps_chroma_present_flag _ (payload-ok (from_aps a) (and_left (aps_syntax.ok (from_aps a)) true o))

-- ---- what is inferred

-- nor the extension flag
pub inferred-flag : (a : VvcAps) → (inferred a).aps_extension_flag ≡ a.aps_extension_flag
unfolding inferred to_aps from_aps
inferred-flag a = refl
