-- What is answered of a set and of built factors: the calls refuse alike, and built factors are those of the definitions.
use mathlib.Core.Path.{◌≡◌, refl, ap, ◌∙◌}
use mathlib.Core.Bool.{Bool, true, false, cond, ◌&&◌}
use Prim.Native.Nat.{ℕ, ◌+◌, ◌*◌, ◌-◌, ◌<◌}
use native.Mathlib.Omega.{arith}
use borrow.Author.Tests.{ltb-true, eqb-true}
use lib.Dec.{ltb}
use lib.ListN.{get_or}
use Rattle.std.proofs.Common.{Result, Ok, Err}
use Rattle.aps.specs.ScalingSyntax.{matrix_size, entries}
use Rattle.aps.specs.Writing.{fit}
use Rattle.aps.specs.declared.scaling_list.VvcScalingListData.{VvcScalingListData}
use Rattle.aps.specs.declared.aps.ApsKind.{ApsKind}
use Rattle.aps.specs.declared.aps.VvcAps.{VvcAps}
use Rattle.aps.proofs.CodecLaws.{and_left, and_right}
use Rattle.aps.proofs.KeepLaws.{tabulate-at}
use Rattle.aps.proofs.ScalingLaws.{entries-le}
use Rattle.scaling_factors.specs.Factors.{factor, dc, any_zero}
use Rattle.scaling_factors.specs.Matrix.{matrix}
use Rattle.scaling_factors.specs.Answers.{asked, given, has_matrix, has_dc, matrix_of, dc_of, flat, built, factors_of, matrix_in, dc_in}
use Rattle.scaling_factors.specs.Inner.{Scans}
use Rattle.scaling_factors.specs.declared.ScalingFactors.{ScalingFactors}
use Rattle.scaling_factors.proofs.FillLaws.{flat-in}
use Rattle.scaling_factors.proofs.MatrixLaws.{matrix-same}

-- ---- refusals

and-none : (f : Bool) → (f && false) ≡ false
and-none true = refl
and-none false = refl

module _ (a : VvcAps) where
  -- what may not be asked for
  pub given-none : {A : Type 0} (x : A) {b : Bool} → b ≡ false → Err 2 ≡ given a b x
  unfolding given
  given-none x e = rw (e, and-none (fit ApsKind.Scaling a))

  -- of a set that does not fit
  pub given-unfit : {A : Type 0} (b : Bool) (x : A) → fit ApsKind.Scaling a ≡ false → Err 2 ≡ given a b x
  unfolding given
  given-unfit b x e = rw e

  -- of one with a factor or a DC of 0
  pub given-zero : {A : Type 0} (x : A) → fit ApsKind.Scaling a ≡ true → any_zero a.aps_chroma_present_flag a.scaling ≡ true → Err 9 ≡ given a true x
  unfolding given
  given-zero x e f = rw (e, f)

  pub given-some : {A : Type 0} (x : A) → fit ApsKind.Scaling a ≡ true → any_zero a.aps_chroma_present_flag a.scaling ≡ false → Ok x ≡ given a true x
  unfolding given
  given-some x e f = rw (e, f)

module _ {A B : Type 0} where
  -- another value, the same refusal
  abbrev instead : B → Result A ℕ → Result B ℕ
  instead y (Ok x) = Ok y
  instead y (Err n) = Err n

  instead-cases : (f z : Bool) (x : A) (y : B) → instead y (asked (f && true) (cond z (Err 9) (Ok x))) ≡ asked (f && true) (cond z (Err 9) (Ok y))
  instead-cases true true x y = refl
  instead-cases true false x y = refl
  instead-cases false z x y = refl

  -- what refuses one value refuses each
  pub given-refused : (a : VvcAps) (x : A) (y : B) {n : ℕ} → Err n ≡ given a true x → Err n ≡ given a true y
  unfolding given
  given-refused a x y e = ap (instead y) e ∙ instead-cases (fit ApsKind.Scaling a) (any_zero a.aps_chroma_present_flag a.scaling) x y

  some-cases : (f z : Bool) (x v : A) (y : B) → Ok v ≡ asked (f && true) (cond z (Err 9) (Ok x)) → (v ≡ x) × (Ok y ≡ asked (f && true) (cond z (Err 9) (Ok y)))
  some-cases true true x v y e = absurd (cc)
  some-cases true false x v y e = let q : v ≡ x = cc in (q, refl)
  some-cases false z x v y e = absurd (cc)

  -- what gives one value gives each
  pub given-value : (a : VvcAps) (x v : A) (y : B) → Ok v ≡ given a true x → (v ≡ x) × (Ok y ≡ given a true y)
  unfolding given
  given-value a x v y e = some-cases (fit ApsKind.Scaling a) (any_zero a.aps_chroma_present_flag a.scaling) x v y e

-- ---- built factors

module _ (chroma : Bool) (d : VvcScalingListData) where
  pub built-factor : (id i : ℕ) → id < 28 → i < entries id → get_or (built chroma d).factors (64 * id + i) 0 ≡ factor chroma d id i
  unfolding built
  built-factor id i h b =
      let n = entries-le id in
      tabulate-at 0 1792 (flat chroma d) (64 * id + i) 0 (omega arith) ∙ flat-in chroma d (0 + (64 * id + i)) id i (omega arith) b

  pub built-matrix : {n : ℕ} → Scans n → (id : ℕ) → has_matrix n id ≡ true → matrix n (λ i. get_or (built chroma d).factors (64 * id + i) 0) ≡ matrix n (factor chroma d id)
  unfolding has_matrix entries
  built-matrix {n} s id h =
      let k = ltb-true id 28 (and_left (ltb id 28) _ h) in
      let e = eqb-true (matrix_size id) n (and_right (ltb id 28) _ h) in
      matrix-same s _ _ (λ i b. built-factor id i k (rw e b))

  pub built-dc : (id : ℕ) → has_dc id ≡ true → get_or (built chroma d).dcs (id - 14) 0 ≡ dc chroma d id
  unfolding has_dc built
  built-dc id h =
      let l = ltb-true 13 id (and_left (ltb 13 id) _ h) in
      let k = ltb-true id 28 (and_right (ltb 13 id) _ h) in
      let e : 14 + (id - 14) ≡ id = omega arith in
      tabulate-at 14 14 (dc chroma d) (id - 14) 0 (omega arith) ∙ ap (dc chroma d) e

-- ---- one value of a set, out of its built factors

module _ (a : VvcAps) (b : ScalingFactors) (e : Ok b ≡ factors_of a) where
  pub matrix-given : {n : ℕ} → Scans n → (id : ℕ) → has_matrix n id ≡ true → matrix_in n b id ≡ matrix_of n a id
  unfolding factors_of matrix_in matrix_of
  matrix-given {n} s id h =
      let chroma = a.aps_chroma_present_flag in
      let v = given-value a (built chroma a.scaling) b (matrix n (factor chroma a.scaling id)) e in
      rw (h, v.0) (ap Ok (built-matrix chroma a.scaling s id h) ∙ v.1)

  pub dc-given : (id : ℕ) → has_dc id ≡ true → dc_in b id ≡ dc_of a id
  unfolding factors_of dc_in dc_of
  dc-given id h =
      let chroma = a.aps_chroma_present_flag in
      let v = given-value a (built chroma a.scaling) b (dc chroma a.scaling id) e in
      rw (h, v.0) (ap Ok (built-dc chroma a.scaling id h) ∙ v.1)
