-- A piece is gone over byte by byte: a turn takes the first byte that is left, and at the end none is.
use Prim.Native.Nat.{ℕ, ◌+◌, ◌≤◌, ◌<◌}
use mathlib.Core.Path.{◌≡◌, refl, sym, ap, ◌∙◌}
use mathlib.Core.List.{List}
use lib.ListN.{length, drop, get_or, drop_of_length-le, length-drop}
use native.Mathlib.Omega.{arith}
use lib.Seq.{drop-cons, drop-drop}
use native.Mathlib.Numerals.{add-one}
use Rattle.recording.specs.declared.recording.Recording.{Recording}
use Rattle.recording.specs.Inner.{Passed}
use Rattle.recording.specs.Feeding.{stepped, step_table, fed, fed_table}

module _ (s : List ℕ) (i : ℕ) where
  pub fed-turn : i < length s → (r r' : Recording) (t t' : List ℕ) → r' ≡ stepped r (get_or s i 0) → t' ≡ step_table r (get_or s i 0) t
      → (fed r' (drop (i + 1) s) ≡ fed r (drop i s)) × (fed_table r' (drop (i + 1) s) t' ≡ fed_table r (drop i s) t)
  unfolding fed fed_table
  fed-turn h r r' t t' e f = rw (e, f, add-one i, drop-cons s i 0 h) (refl, refl)

  pub fed-over : length s ≤ i → (r : Recording) (t : List ℕ) → (fed r (drop i s) ≡ r) × (fed_table r (drop i s) t ≡ t)
  unfolding fed fed_table
  fed-over h r t = rw (drop_of_length-le s h) (refl, refl)

-- a turn that passes bytes after one
pub passed-turn : (s : List ℕ) (i n : ℕ) → i < length s → (r r' r'' : Recording) (t t' : List ℕ) → r' ≡ stepped r (get_or s i 0) → t' ≡ step_table r (get_or s i 0) t → Passed r' (drop (i + 1) s) n r''
    → (i + 1 + n ≤ length s) × ((fed r'' (drop (i + 1 + n) s) ≡ fed r (drop i s)) × (fed_table r'' (drop (i + 1 + n) s) t' ≡ fed_table r (drop i s) t))
passed-turn s i n h r r' r'' t t' e f p =
    let k = fed-turn s i h r r' t t' e f in
    let d : drop n (drop (i + 1) s) ≡ drop (i + 1 + n) s = drop-drop n (i + 1) s in (
      omega (arith, p.within, length-drop (i + 1) s),
      (
        ap (fed r'') (sym d) ∙ sym p.state ∙ k.0,
        ap (λ (l : List ℕ). fed_table r'' l t') (sym d) ∙ sym (p.table t') ∙ k.1,
      ),
    )
