-- Lists that were read are in the ranges of H.265 7.4.5: reading takes nothing else.
use mathlib.Core.Path.{◌≡◌, refl, sym, ap, ◌∙◌}
use mathlib.Core.Bool.{Bool, true, false, cond, ◌&&◌}
use mathlib.Core.List.{List, []}
use Prim.Native.Nat.{ℕ, ◌/◌, ◌%◌, ◌≤◌, ◌<◌}
use native.Mathlib.Nat.{zero-add}
use native.Mathlib.Omega.{arith}
use borrow.Author.Tests.{leb-true, lt-leb}
use lib.Dec.{leb}
use lib.IntN.{ℤ, pos, negsuc}
use lib.Signed.{le_z}
use lib.ListN.{take, replicate}
use Rattle.bitstream.specs.Outcome.{value, refused}
use Rattle.bitstream.proofs.CodeLaws.{value-refused}
use Rattle.aps.specs.Codec.{Codec, ue, ◌▷◌, via, judged, when}
use Rattle.aps.specs.Elements.{flag, ue_to, se, se_in}
use Rattle.aps.proofs.CodecLaws.{then-value, and_left, and_right, never_true}
use Rattle.aps.proofs.EachLaws.{each_at}
use Rattle.hevc_scaling.specs.Inner.{InRanges, in_range}
use Rattle.hevc_scaling.specs.ListData.{list_in, look, looked, parse_scaling_list_data}
use Rattle.hevc_scaling.specs.ListSyntax.{is_coded, max_delta, coef_num, wrapped, coefficient, dc_coef, dc_at, coefficients, explicit, entry_syntax, no_entry, list_at, list_syntax}
use Rattle.hevc_scaling.specs.declared.scaling_list.ScalingList.{ScalingList}
use Rattle.hevc_scaling.specs.declared.scaling_list.HevcScalingListData.{HevcScalingListData}
use Rattle.hevc_scaling.proofs.KeepLaws.{look_at}
use Rattle.hevc_scaling.proofs.ListLaws.{dc-range}
use Rattle.hevc_scaling.proofs.RoundTrips.{read-taken, read-kept}
use Rattle.hevc_scaling.proofs.SentLaws.{sent-delta, sent-coefs, back-uncoded}

-- a delta that is taken
delta-taken : (s m delta : ℕ) (x : ℤ × List ℕ) → (entry_syntax s m).ok (false, (delta, x)) ≡ true → delta ≤ max_delta s m
unfolding entry_syntax ◌▷◌ when ue_to judged
delta-taken s m delta x o =
    leb-true delta (max_delta s m) (and_right (ue.ok delta) (leb delta (max_delta s m)) (and_left (ue.ok delta && leb delta (max_delta s m)) _ (and_right (flag.ok false) _ o)))

-- a DC and coefficients that are taken
explicit-taken : (s m : ℕ) (x : ℤ × List ℕ) → (entry_syntax s m).ok (true, (0, x)) ≡ true → (explicit s).ok x ≡ true
unfolding entry_syntax ◌▷◌ when
explicit-taken s m x o = and_right true ((explicit s).ok x) (and_right (flag.ok true) _ o)

dc-taken : (s : ℕ) (dc : ℤ) (l : List ℕ) → (explicit s).ok (dc, l) ≡ true → ((dc_at s).ok dc ≡ true) × ((coefficients (coef_num s) (dc_coef dc)).ok l ≡ true)
unfolding explicit ◌▷◌
dc-taken s dc l o = (and_left ((dc_at s).ok dc) _ o, and_right ((dc_at s).ok dc) _ o)

module _ (s : List ℕ) (d : HevcScalingListData) (q : ℕ) (e : parse_scaling_list_data s ≡ value d q) where
  module _ (k : ℕ) (h : k < 24) where
    list-taken : (list_at k).ok (looked k (list_in d k)) ≡ true
    unfolding list_syntax
    list-taken = rw (look_at d k no_entry.default h) at (rw (zero-add k) at (each_at 0 24 list_at no_entry.default (look d) (read-taken s d q e) k h))

    entry-taken : is_coded (k / 6) (k % 6) ≡ true → (entry_syntax (k / 6) (k % 6)).ok (looked k (list_in d k)) ≡ true
    unfolding when
    entry-taken c = rw c at list-taken

    -- nothing is sent of a list that is not coded
    uncoded-none : is_coded (k / 6) (k % 6) ≡ false → list_in d k ≡ record { pred_mode_flag = false; pred_matrix_id_delta = 0; dc_coef_minus8 = pos 0; coefs = replicate 64 0 }
    uncoded-none c = ap (λ (x : HevcScalingListData). list_in x k) (sym (read-kept s d q e)) ∙ back-uncoded d k h c

    -- a delta is at most matrixId, at sizeId 3 matrixId / 3
    pub read-delta : (list_in d k).pred_mode_flag ≡ false → (list_in d k).pred_matrix_id_delta ≤ max_delta (k / 6) (k % 6)
    read-delta f = go (is_coded (k / 6) (k % 6)) refl
      where
        go : (t : Bool) → is_coded (k / 6) (k % 6) ≡ t → (list_in d k).pred_matrix_id_delta ≤ max_delta (k / 6) (k % 6)
        go true c = delta-taken (k / 6) (k % 6) (list_in d k).pred_matrix_id_delta (pos 0, []) (rw (sent-delta k (list_in d k) c f) at (entry-taken c))
        go false c = let z : (list_in d k).pred_matrix_id_delta ≡ 0 = ap (λ (l : ScalingList). l.pred_matrix_id_delta) (uncoded-none c) in omega (arith, z)

    -- a list that is sent is coded, and is taken
    pub read-explicit : (list_in d k).pred_mode_flag ≡ true → (explicit (k / 6)).ok ((list_in d k).dc_coef_minus8, take (coef_num (k / 6)) (list_in d k).coefs) ≡ true
    read-explicit f = go (is_coded (k / 6) (k % 6)) refl
      where
        go : (t : Bool) → is_coded (k / 6) (k % 6) ≡ t → (explicit (k / 6)).ok ((list_in d k).dc_coef_minus8, take (coef_num (k / 6)) (list_in d k).coefs) ≡ true
        go true c = explicit-taken (k / 6) (k % 6) _ (rw (sent-coefs k (list_in d k) c f) at (entry-taken c))
        go false c = never_true (sym (ap (λ (l : ScalingList). l.pred_mode_flag) (uncoded-none c)) ∙ f)

    -- a DC minus 8 is in -7..247
    pub read-dc : (list_in d k).pred_mode_flag ≡ true → in_range (list_in d k).dc_coef_minus8
    read-dc f = dc-range (k / 6) (list_in d k).dc_coef_minus8 (dc-taken (k / 6) (list_in d k).dc_coef_minus8 _ (read-explicit f)).0

    -- each coefficient is a byte, and follows by a step in -128..127
    pub read-coefs : (list_in d k).pred_mode_flag ≡ true → (coefficients (coef_num (k / 6)) (dc_coef (list_in d k).dc_coef_minus8)).ok (take (coef_num (k / 6)) (list_in d k).coefs) ≡ true
    read-coefs f = (dc-taken (k / 6) (list_in d k).dc_coef_minus8 _ (read-explicit f)).1

  pub read-ranges : InRanges d
  read-ranges = record { delta = read-delta; dc = read-dc }

-- ---- fields: what is read is in its range, and what is out of it is refused with 2

module _ {A : Type 0} (test : A → Bool) (c : Codec A) (s : List ℕ) (p : ℕ) where
  judged-cases : (t : Bool) (a v : A) (r q : ℕ) → test a ≡ t → c.read s p ≡ value a r → cond t (value a r) (refused 2) ≡ value v q → (c.read s p ≡ value v q) × (test v ≡ true)
  judged-cases true a v r q f g e = let x : a ≡ v = cc in (g ∙ e, ap test (sym x) ∙ f)
  judged-cases false a v r q f g e = absurd (value-refused (sym e))

  -- a judged value is the one read, and passes
  pub judged-read : (v : A) (q : ℕ) → (judged test c).read s p ≡ value v q → (c.read s p ≡ value v q) × (test v ≡ true)
  unfolding judged
  judged-read v q e =
      let (a, r, f, g) = then-value (c.read s p) (λ a q. cond (test a) (value a q) (refused 2)) e in
      judged-cases (test a) a v r q refl f g

  -- one that does not pass is refused
  pub judged-refused : (v : A) (q : ℕ) → c.read s p ≡ value v q → test v ≡ false → (judged test c).read s p ≡ refused 2
  unfolding judged
  judged-refused v q e f = rw (e, f)

module _ (s : List ℕ) (p : ℕ) where
  -- scaling_list_pred_matrix_id_delta
  pub delta-read : (most v q : ℕ) → (ue_to most).read s p ≡ value v q → (ue.read s p ≡ value v q) × (v ≤ most)
  unfolding ue_to
  delta-read most v q e = let (a, b) = judged-read (λ v. leb v most) ue s p v q e in (a, leb-true v most b)

  pub delta-refused : (most v q : ℕ) → ue.read s p ≡ value v q → most < v → (ue_to most).read s p ≡ refused 2
  unfolding ue_to
  delta-refused most v q e h = judged-refused (λ v. leb v most) ue s p v q e (lt-leb v most h)

  -- scaling_list_dc_coef_minus8 and scaling_list_delta_coef
  pub signed-read : (low high v : ℤ) (q : ℕ) → (se_in low high).read s p ≡ value v q → (se.read s p ≡ value v q) × ((le_z low v && le_z v high) ≡ true)
  unfolding se_in
  signed-read low high v q e = judged-read (λ z. le_z low z && le_z z high) se s p v q e

  pub signed-refused : (low high v : ℤ) (q : ℕ) → se.read s p ≡ value v q → (le_z low v && le_z v high) ≡ false → (se_in low high).read s p ≡ refused 2
  unfolding se_in
  signed-refused low high v q e f = judged-refused (λ z. le_z low z && le_z z high) se s p v q e f

  -- a coefficient follows by a step in -128..127
  pub step-read : (next v q : ℕ) → (coefficient next).read s p ≡ value v q
      → (z : ℤ) × (se.read s p ≡ value z q) × ((le_z (negsuc 127) z && le_z z (pos 127)) ≡ true) × (v ≡ wrapped next z)
  unfolding coefficient via
  step-read next v q e =
      let (z, r, f, g) = then-value ((se_in (negsuc 127) (pos 127)).read s p) (λ z q. value (wrapped next z) q) e in
      let x : v ≡ wrapped next z = cc in
      let y : r ≡ q = cc in
      let (a, b) = signed-read (negsuc 127) (pos 127) z r f in
      (z, a ∙ ap (λ t. value z t) y, b, x)
