-- The first byte of a set's RBSP tells its kind and its id; so a place whose RBSP begins with another has no set.
use borrow.Author.Tests.{eqb-true}
use mathlib.Core.Path.{◌≡◌, refl, sym, ◌∙◌}
use mathlib.Core.Bool.{Bool, true, false, cond, ◌&&◌}
use mathlib.Core.List.{List, ◌++◌}
use mathlib.Core.Option.{none, some}
use Prim.Native.Nat.{ℕ, zero, suc, ◌+◌, ◌*◌, ◌%◌, ◌^◌, ◌<◌}
use native.Mathlib.Omega.{arith}
use lib.Dec.{eqb}
use lib.ListN.{length, get_or, take, drop}
use lib.Seq.{get_or-take, get_or-drop}
use Rattle.bitstream.specs.Outcome.{Outcome, value, refused}
use Rattle.bitstream.specs.Bits.{field_at, field_bits, Holds}
use Rattle.bitstream.specs.Fields.{trailing_bits}
use Rattle.bitstream.proofs.FieldLaws.{field-add, field-byte}
use Rattle.bitstream.proofs.HoldLaws.{holds-append, holds-field}
use Rattle.bitstream.proofs.WriteLaws.{length-field}
use Rattle.aps.specs.Codec.{u, ◌▷◌, via}
use Rattle.aps.specs.ApsSyntax.{number_of, from_aps, aps_syntax, aps}
use Rattle.aps.specs.Rbsp.{read_rbsp, rbsp_bits}
use Rattle.aps.specs.declared.aps.VvcAps.{VvcAps}
use Rattle.aps.proofs.CodecLaws.{and_left, and_right}
use Rattle.aps.proofs.RbspLaws.{set_bits, read-stands}
use Rattle.aps_table.specs.Places.{HeldAps, place_at, place_size, place_bytes, kind_in, id_in, read_place, under, held, present}
use Rattle.aps_table.proofs.PlaceSteps.{largest-most}
use Rattle.aps_table.proofs.PlaceReads.{place-parts}
use Rattle.aps_table.proofs.StoreLaws.{read_names}

module _ (s : List ℕ) (a : VvcAps) (q : ℕ) (e : read_rbsp s ≡ value a q) where
  -- the bits of the set stand at the start
  emitted : Holds s 0 (aps.emit a)
  unfolding set_bits rbsp_bits
  emitted = go a.aps_extension_flag (read-stands s a q e).0
    where
      go : (b : Bool) → Holds s 0 (cond b (aps.emit a) (aps.emit a ++ trailing_bits (length (aps.emit a)))) → Holds s 0 (aps.emit a)
      go true h = h
      go false h = (holds-append s 0 (aps.emit a) (trailing_bits (length (aps.emit a))) h).0

  -- the kind's first, then those of the id
  first-fields : (field_at s 0 3 ≡ number_of a.kind % 2 ^ 3) × (field_at s 3 5 ≡ a.aps_adaptation_parameter_set_id % 2 ^ 5)
  unfolding aps via aps_syntax ◌▷◌ u from_aps
  first-fields =
      let k = number_of a.kind in
      let i = a.aps_adaptation_parameter_set_id in
      let (x, y) = holds-append s 0 (field_bits k 3) _ emitted in
      let (z, w) = holds-append s (0 + length (field_bits k 3)) (field_bits i 5) _ y in
      (holds-field s 0 k 3 x, holds-field s 3 i 5 (rw (length-field k 3) at z))

  pub first_byte : field_at s 0 8 ≡ kind_in a * 32 + id_in a
  unfolding kind_in id_in
  first_byte = omega (arith, field-add s 0 3 5, first-fields, read_names s a q e, largest-most (number_of a.kind))

-- every place has bytes after its header
some_bytes : (k : ℕ) → 2 < place_size k
some_bytes zero = omega arith
some_bytes (suc zero) = omega arith
some_bytes (suc (suc k)) = omega arith

-- the first byte of a place's RBSP
place-third : (t : List ℕ) (k i : ℕ) → get_or (drop 2 (place_bytes t k i)) 0 0 ≡ get_or t (place_at k i + 2) 0
unfolding place_bytes
place-third t k i =
    get_or-drop 2 (take (place_size k) (drop (place_at k i) t)) 0 0
    ∙ get_or-take (place_size k) (drop (place_at k i) t) 2 0 (some_bytes k)
    ∙ get_or-drop (place_at k i) t 2 0

-- a place where it is another has no set
pub first-other : (t : List ℕ) (k i b : ℕ) → b ≡ get_or t (place_at k i + 2) 0 → b < 256 → (b ≡ k * 32 + i → ⊥) → eqb (present (held t k i)) 1 ≡ false
unfolding held
first-other t k i b f l x = go (read_place (place_bytes t k i)) refl
  where
    s : List ℕ
    s = drop 2 (place_bytes t k i)

    by : (y : HeldAps) (q : ℕ) → read_rbsp s ≡ value y.set q → (c : Bool) → (eqb (kind_in y.set) k && eqb (id_in y.set) i) ≡ c → eqb (present (cond c (some y) none)) 1 ≡ false
    by y q e true h =
        let a = y.set in
        let g = eqb-true (kind_in a) k (and_left (eqb (kind_in a) k) (eqb (id_in a) i) h) in
        let j = eqb-true (id_in a) i (and_right (eqb (kind_in a) k) (eqb (id_in a) i) h) in
        absurd (x (sym (field-byte s 0 b (f ∙ sym (place-third t k i), l)) ∙ first_byte s a q e ∙ rw (g, j)))
    by y q e false h = refl

    go : (o : Outcome HeldAps) → read_place (place_bytes t k i) ≡ o → eqb (present (under k i o)) 1 ≡ false
    go (value y q) e = by y q (place-parts (place_bytes t k i) y q e).1 (eqb (kind_in y.set) k && eqb (id_in y.set) i) refl
    go (refused n) e = refl
