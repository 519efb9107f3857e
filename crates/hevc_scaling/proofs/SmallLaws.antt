-- The elements of lists that were read are bytes, and a DC is never 0: it is at least 1, since dc_coef_minus8 is at least -7.
use mathlib.Core.Path.{◌≡◌, refl}
use mathlib.Core.Bool.{Bool, true, false, cond, ◌&&◌}
use mathlib.Core.List.{List, [], ◌∷◌}
use Prim.Native.Nat.{ℕ, zero, suc, ◌+◌, ◌*◌, ◌/◌, ◌%◌, ◌≤◌, ◌<◌}
use native.Mathlib.Omega.{arith}
use borrow.Author.Tests.{leb-true, ltb-true, eqb-true, eqb-false}
use lib.Dec.{eqb, ltb, leb}
use lib.IntN.{ℤ, pos, negsuc}
use lib.ListN.{get_or, take, replicate}
use Rattle.bitstream.specs.Outcome.{value}
use Rattle.aps.specs.Codec.{◌▷◌, via}
use Rattle.aps.specs.Elements.{every}
use Rattle.aps.proofs.CodecLaws.{and_left, and_right, never_true}
use Rattle.hevc_scaling.specs.Inner.{in_range}
use Rattle.hevc_scaling.specs.ListData.{filled, coefs_at, list_in, parse_scaling_list_data}
use Rattle.hevc_scaling.specs.ListSyntax.{coef_num, coefficient, coefficients, dc_coef, max_delta}
use Rattle.hevc_scaling.specs.Resolved.{Factors, intra, inter, default_list, default_factors, ref_matrix_id, resolved}
use Rattle.hevc_scaling.specs.declared.scaling_list.HevcScalingListData.{HevcScalingListData}
use Rattle.hevc_scaling.proofs.CoefLaws.{coefficient-lt, dc_coef-lt}
use Rattle.hevc_scaling.proofs.RowLaws.{coef_num-le}
use Rattle.hevc_scaling.proofs.ConvertedSteps.{filled-at}
use Rattle.hevc_scaling.proofs.RangeLaws.{read-delta, read-dc, read-coefs}
use Rattle.hevc_scaling.proofs.ResolvedLaws.{ref-below, resolved-explicit, resolved-default, resolved-predicted}

-- bytes, and a DC in 1..255
pub record Small (n : ℕ) (f : Factors) : Type 0 where
  pub element : (i : ℕ) → i < n → get_or f.0 i 0 < 256
  pub dc-some : 0 < f.1
  pub dc-byte : f.1 < 256

-- ---- one list

-- coefficients that are taken are bytes
coefs-small : (n next : ℕ) (l : List ℕ) → (coefficients n next).ok l ≡ true → (i : ℕ) → i < n → get_or l i 0 < 256
unfolding coefficients via ◌▷◌
coefs-small zero next l o i h = absurd (omega arith)
coefs-small (suc n) next [] o i h = never_true (and_right ((coefficient next).ok 0 && (coefficients n 0).ok []) false o)
coefs-small (suc n) next (v ∷ l) o zero h =
    let a = and_left ((coefficient next).ok v && (coefficients n v).ok l) true o in
    coefficient-lt next v (and_left ((coefficient next).ok v) ((coefficients n v).ok l) a)
coefs-small (suc n) next (v ∷ l) o (suc i) h =
    let a = and_left ((coefficient next).ok v && (coefficients n v).ok l) true o in
    coefs-small n v l (and_right ((coefficient next).ok v) ((coefficients n v).ok l) a) i (omega arith)

-- a DC is at least 1
dc-least : (dc : ℤ) → in_range dc → 0 < dc_coef dc
unfolding dc_coef
dc-least (pos n) r = omega arith
dc-least (negsuc n) r = let h = leb-true n 6 (and_left (leb n 6) true r) in omega arith

every-at : (l : List ℕ) → every (λ v. ltb v 256) l ≡ true → (i : ℕ) → get_or l i 0 < 256
every-at [] o i = omega arith
every-at (v ∷ l) o zero = ltb-true v 256 (and_left (ltb v 256) (every (λ v. ltb v 256) l) o)
every-at (v ∷ l) o (suc i) = every-at l (and_right (ltb v 256) (every (λ v. ltb v 256) l) o) i

intra-small : every (λ v. ltb v 256) intra ≡ true
unfolding intra
intra-small = refl

inter-small : every (λ v. ltb v 256) inter ≡ true
unfolding inter
inter-small = refl

default-small : (s m i : ℕ) → get_or (default_list s m) i 0 < 256
unfolding default_list
default-small s m i = go (eqb s 0) (ltb m 3)
  where
    go : (a b : Bool) → get_or (cond a (replicate 16 16) (cond b intra inter)) i 0 < 256
    go true b = every-at (replicate 16 16) refl i
    go false true = every-at intra intra-small i
    go false false = every-at inter inter-small i

default-all : (n s m : ℕ) → Small n (default_factors s m)
unfolding default_factors
default-all n s m = record { element = λ i h. default-small s m i; dc-some = omega arith; dc-byte = omega arith }

-- ---- the resolved lists

module _ (b : List ℕ) (d : HevcScalingListData) (q : ℕ) (e : parse_scaling_list_data b ≡ value d q) (s : ℕ) (g : s < 4) where
  explicit-element : (k m : ℕ) → k / 6 ≡ s → k % 6 ≡ m → k < 24 → (list_in d k).pred_mode_flag ≡ true → (i : ℕ) → i < coef_num s → get_or (coefs_at d s m) i 0 < 256
  unfolding list_in
  explicit-element k m u v h f i l =
      let o = coefs-small (coef_num (k / 6)) (dc_coef (list_in d k).dc_coef_minus8) (take (coef_num (k / 6)) (filled 64 (coefs_at d (k / 6) (k % 6)))) (read-coefs b d q e k h f) i (rw u l) in
      rw (u, v, filled-at (coefs_at d s m) (coef_num s) (coef_num-le s) i l) at o

  resolved-by : (n m : ℕ) → m < n → m < 6 → Small (coef_num s) (resolved d s m)
  resolved-by zero m h l = absurd (omega arith)
  resolved-by (suc n) m h l = go (resolved-by n) (list_in d k).pred_mode_flag refl (eqb (list_in d k).pred_matrix_id_delta 0) refl
    where
      k : ℕ
      k = s * 6 + m

      u : k / 6 ≡ s
      u = omega arith

      v : k % 6 ≡ m
      v = omega arith

      go : ((m : ℕ) → m < n → m < 6 → Small (coef_num s) (resolved d s m)) → (t : Bool) → (list_in d k).pred_mode_flag ≡ t → (z : Bool) → eqb (list_in d k).pred_matrix_id_delta 0 ≡ z
          → Small (coef_num s) (resolved d s m)
      go r true f z p =
          let w = read-dc b d q e k (omega arith) f in
          rw (resolved-explicit d s m f)
          (record { element = explicit-element k m u v (omega arith) f; dc-some = dc-least (list_in d k).dc_coef_minus8 w; dc-byte = dc_coef-lt (list_in d k).dc_coef_minus8 w })
      go r false f true p = rw (resolved-default d s m f (eqb-true (list_in d k).pred_matrix_id_delta 0 p)) (default-all (coef_num s) s m)
      go r false f false p =
          let delta = (list_in d k).pred_matrix_id_delta in
          let w = eqb-false delta 0 p in
          let x : delta ≤ max_delta s m = rw (u, v) at (read-delta b d q e k (omega arith) f) in
          let y = ref-below s m delta w x in
          rw (resolved-predicted d s m f w x) (r (ref_matrix_id s m delta) (omega arith) (omega arith))

  -- of each list
  pub resolved-small : (m : ℕ) → m < 6 → Small (coef_num s) (resolved d s m)
  resolved-small m l = resolved-by (suc m) m (omega arith) l
