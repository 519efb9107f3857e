-- What the call answers: a refusal of reading, 13 at an id with an element of 0, or the set with all ids done.
use mathlib.Core.Path.{◌≡◌, refl, ap, ◌∙◌}
use mathlib.Core.Bool.{Bool, true, false, cond}
use mathlib.Core.List.{List}
use Prim.Native.Nat.{ℕ, ◌<◌}
use Rattle.scaling_factors.specs.Factors.{any_below}
use Rattle.scaling_factors.proofs.AnyLaws.{any-some}
use Rattle.std.proofs.Common.{Ok, Err}
use Rattle.bitstream.specs.Outcome.{value, refused}
use Rattle.aps.specs.declared.aps.ApsKind.{ApsKind}
use Rattle.aps.specs.declared.payload.ApsOf.{ApsOf}
use Rattle.aps.specs.declared.scaling_list.VvcScalingListData.{VvcScalingListData}
use Rattle.hevc_scaling.specs.Converted.{is_named, has_zero, vvc_lists, vvc_set, converted, after_reading, vvc_scaling_set}
use Rattle.hevc_scaling.specs.Inner.{converted_lists, done_below}
use Rattle.hevc_scaling.specs.ListData.{parse_scaling_list_data}
use Rattle.hevc_scaling.specs.declared.scaling_list.HevcScalingListData.{HevcScalingListData}
use Rattle.hevc_scaling.proofs.ConvertedSteps.{done-all}

module _ (d : HevcScalingListData) where
  pub unnamed-zero : (id : ℕ) → is_named id ≡ false → has_zero d id ≡ false
  unfolding has_zero
  unnamed-zero id e = rw e refl

  pub converted-zero : (id : ℕ) → id < 28 → has_zero d id ≡ true → Err 13 ≡ converted_lists d
  unfolding converted_lists
  converted-zero id h e = rw (any-some (has_zero d) 28 id h e)

  pub converted-all : {s : VvcScalingListData} {n : ℕ} → s ≡ done_below d n → n ≡ 28 → any_below n (has_zero d) ≡ false → Ok s ≡ converted_lists d
  unfolding converted_lists
  converted-all p q r = let t = rw q at r in rw (t, p, q) (ap Ok (done-all d))

err-cases : {A B : Type 0} (b : Bool) (m : ℕ) (x : A) (y : B) {n : ℕ} → Err n ≡ cond b (Err m) (Ok x) → Err n ≡ cond b (Err m) (Ok y)
err-cases true m x y {n} e = let q : n ≡ m = cc in ap Err q
err-cases false m x y e = absurd (cc)

ok-cases : {A B : Type 0} (b : Bool) (m : ℕ) (x p : A) (f : A → B) → Ok p ≡ cond b (Err m) (Ok x) → Ok (f p) ≡ cond b (Err m) (Ok (f x))
ok-cases true m x p f e = absurd (cc)
ok-cases false m x p f e = let q : p ≡ x = cc in ap (λ y. Ok (f y)) q

-- the set of its lists
abbrev pub set_with : VvcScalingListData → ApsOf VvcScalingListData
set_with p =
    record {
      head = record { kind = ApsKind.Scaling; aps_adaptation_parameter_set_id = 0; aps_chroma_present_flag = true; aps_extension_flag = false };
      payload = p;
    }

converted-err : (d : HevcScalingListData) {n : ℕ} → Err n ≡ converted_lists d → Err n ≡ converted d
unfolding converted_lists converted
converted-err d f = err-cases (any_below 28 (has_zero d)) 13 (vvc_lists d) (vvc_set d) f

converted-ok : (d : HevcScalingListData) {p : VvcScalingListData} → Ok p ≡ converted_lists d → Ok (set_with p) ≡ converted d
unfolding converted_lists converted vvc_set
converted-ok d {p} f = ok-cases (any_below 28 (has_zero d)) 13 (vvc_lists d) p set_with f

module _ (s : List ℕ) where
  pub call-refused : {n : ℕ} → refused n ≡ parse_scaling_list_data s → Err n ≡ vvc_scaling_set s
  unfolding vvc_scaling_set
  call-refused e = ap after_reading e

  module _ {d : HevcScalingListData} {q : ℕ} (e : value d q ≡ parse_scaling_list_data s) where
    pub call-read : converted d ≡ vvc_scaling_set s
    unfolding vvc_scaling_set
    call-read = ap after_reading e

    pub call-zero : {n : ℕ} → Err n ≡ converted_lists d → Err n ≡ vvc_scaling_set s
    call-zero f = converted-err d f ∙ call-read

    pub call-set : {p : VvcScalingListData} → Ok p ≡ converted_lists d → Ok (set_with p) ≡ vvc_scaling_set s
    call-set f = converted-ok d f ∙ call-read
