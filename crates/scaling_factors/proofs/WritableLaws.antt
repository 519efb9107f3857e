-- What the writer's taking a set says of it: its deltas stay within the ids of their size, and the corner of ids 26 and 27 that is not sent repeats the sum before it.
use mathlib.Core.Path.{◌≡◌, sym, ap, ◌∙◌}
use mathlib.Core.Bool.{Bool, true, false, cond, not, ◌&&◌, ◌||◌}
use mathlib.Core.List.{List, [], ◌∷◌}
use Prim.Native.Nat.{ℕ, zero, suc, ◌+◌, ◌*◌, ◌-◌, ◌≤◌, ◌<◌}
use native.Mathlib.Nat.{add-zero, zero-add}
use native.Mathlib.Omega.{arith}
use borrow.Author.Tests.{leb-true}
use lib.Dec.{ltb, leb, eqb}
use lib.IntN.{ℤ, pos}
use lib.ListN.{get_or, take, drop}
use lib.Seq.{get_or-take, get_or-drop}
use Rattle.aps.specs.Codec.{u, ue, ◌▷◌, via, judged, when}
use Rattle.aps.specs.Elements.{flag, ue_to, no_flag, no_number}
use Rattle.aps.specs.ScalingSyntax.{skipped, entries, max_id_delta, id_coded, just, step, step_at, sums, dc_at, delta_sent, delta_at, coefficients, entry_syntax, no_entry, id_at, scaling_syntax, looked, looked_at, look}
use Rattle.aps.specs.ApsSyntax.{payload, payload_of, number_of, aps_syntax, from_aps, aps}
use Rattle.aps.specs.Writing.{plain, writable, fit}
use Rattle.aps.specs.declared.alf.VvcAlfData.{VvcAlfData}
use Rattle.aps.specs.declared.lmcs.VvcLmcsData.{VvcLmcsData}
use Rattle.aps.specs.declared.scaling_list.VvcScalingListData.{VvcScalingListData}
use Rattle.aps.specs.declared.aps.ApsKind.{ApsKind}
use Rattle.aps.specs.declared.aps.VvcAps.{VvcAps}
use Rattle.aps.proofs.CodecLaws.{and_left, and_right, never_true}
use Rattle.aps.proofs.EachLaws.{each_at}
use Rattle.aps.proofs.KeepLaws.{look_at}
use Rattle.aps.proofs.ScalingLaws.{entries-le, eq_z-only}
use Rattle.scaling_factors.specs.Factors.{copied, refers, delta}
use Rattle.scaling_factors.specs.Inner.{DeltasFit}

-- ---- the description takes its lists

lists-by : (k : ApsKind) (id : ℕ) (chroma : Bool) (a : VvcAlfData) (l : VvcLmcsData) (d : VvcScalingListData) → eqb (number_of k) 2 ≡ true
    → (payload (number_of k) id chroma).ok (payload_of k chroma a l d) ≡ true → (scaling_syntax chroma).ok (look chroma d) ≡ true
unfolding payload judged via
lists-by ApsKind.Alf id chroma a l d e o = never_true e
lists-by ApsKind.Lmcs id chroma a l d e o = never_true e
lists-by ApsKind.Scaling id chroma a l d e o = and_left ((scaling_syntax chroma).ok (look chroma d)) true (and_left ((scaling_syntax chroma).ok (look chroma d) && true) (leb id 7) o)

pub lists-taken : (a : VvcAps) → fit ApsKind.Scaling a ≡ true → (scaling_syntax a.aps_chroma_present_flag).ok (look a.aps_chroma_present_flag a.scaling) ≡ true
unfolding fit writable plain aps aps_syntax from_aps via ◌▷◌
lists-taken a o =
    let k = number_of a.kind in
    let id = a.aps_adaptation_parameter_set_id in
    let chroma = a.aps_chroma_present_flag in
    let p = payload_of a.kind chroma a.alf a.lmcs a.scaling in
    let w = and_left ((u 3).ok k && ((u 5).ok id && (flag.ok chroma && ((payload k id chroma).ok p && flag.ok false)))) true (and_right (eqb k 2) _ o) in
    lists-by a.kind id chroma a.alf a.lmcs a.scaling (and_left (eqb k 2) _ o)
    (and_left ((payload k id chroma).ok p) (flag.ok false) (and_right (flag.ok chroma) _ (and_right ((u 5).ok id) _ (and_right ((u 3).ok k) _ w))))

-- ---- an entry

sent-fits : (id delta : ℕ) (b : Bool) → (when b no_number (ue_to (max_id_delta id))).ok delta ≡ true → cond b delta 0 ≤ max_id_delta id
unfolding when ue_to judged
sent-fits id delta true e = leb-true delta (max_id_delta id) (and_right (ue.ok delta) (leb delta (max_id_delta id)) e)
sent-fits id delta false e = omega arith

coded-fits : (copy pred : Bool) (delta id : ℕ) (rest : ℤ × List ℤ) → (entry_syntax id).ok (copy, (pred, (delta, rest))) ≡ true
    → cond (delta_sent id (copy || pred)) delta 0 ≤ max_id_delta id
unfolding entry_syntax ◌▷◌
coded-fits copy pred delta id rest e =
    sent-fits id delta (delta_sent id (copy || pred))
    (and_left ((delta_at id (copy || pred)).ok delta) _ (and_right ((when (not copy) no_flag flag).ok pred) _ (and_right (flag.ok copy) _ e)))

fits-by : (coded copy pred : Bool) (delta id : ℕ) (rest : ℤ × List ℤ)
    → (when coded no_entry (entry_syntax id)).ok (cond coded (copy, (pred, (delta, rest))) no_entry.default) ≡ true
    → cond (coded && delta_sent id ((not coded || copy) || pred)) delta 0 ≤ max_id_delta id
unfolding when
fits-by true copy pred delta id rest e = coded-fits copy pred delta id rest e
fits-by false copy pred delta id rest e = omega arith

-- ---- a repeated sum

same-sum : (b : Bool) (prev v : ℤ) → b ≡ true → (when (not b) (just prev) (step prev)).ok v ≡ true → v ≡ prev
unfolding when
same-sum true prev v e o = eq_z-only v prev o
same-sum false prev v e o = never_true e

sums-repeat : (id i n : ℕ) (prev : ℤ) (l : List ℤ) → (sums id i n prev).ok l ≡ true → (j : ℕ) → j < n → skipped id (i + j) ≡ true
    → get_or (prev ∷ l) (suc j) (pos 0) ≡ get_or (prev ∷ l) j (pos 0)
unfolding sums via ◌▷◌
sums-repeat id i zero prev l o j h k = absurd (omega arith)
sums-repeat id i (suc n) prev [] o j h k = never_true (and_right ((step_at id i prev).ok (pos 0) && (sums id (suc i) n (pos 0)).ok []) false o)
sums-repeat id i (suc n) prev (v ∷ l) o zero h k =
    let a = and_left ((step_at id i prev).ok v && (sums id (suc i) n v).ok l) true o in
    same-sum (skipped id i) prev v (rw add-zero at k) (and_left ((step_at id i prev).ok v) _ a)
sums-repeat id i (suc n) prev (v ∷ l) o (suc j) h k =
    let a = and_left ((step_at id i prev).ok v && (sums id (suc i) n v).ok l) true o in
    let e : i + suc j ≡ suc i + j = omega arith in
    sums-repeat id (suc i) n v l (and_right ((step_at id i prev).ok v) _ a) j (omega arith) (ap (skipped id) (sym e) ∙ k)

repeats-by : (coded copy pred : Bool) (delta id : ℕ) (dc : ℤ) (row : List ℤ) → (not coded || copy) ≡ false
    → (when coded no_entry (entry_syntax id)).ok (cond coded (copy, (pred, (delta, cond copy (pos 0, []) (cond (ltb 13 id) dc (pos 0), row)))) no_entry.default) ≡ true
    → (sums id 0 (entries id) (cond (ltb 13 id) dc (pos 0))).ok row ≡ true
unfolding when entry_syntax coefficients ◌▷◌
repeats-by false copy pred delta id dc row e o = never_true (sym e)
repeats-by true true pred delta id dc row e o = never_true (sym e)
repeats-by true false pred delta id dc row e o =
    and_right ((dc_at id).ok (cond (ltb 13 id) dc (pos 0))) _
    (and_right ((delta_at id pred).ok delta) _ (and_right (flag.ok pred) _ (and_right (flag.ok false) _ o)))

module _ (chroma : Bool) (d : VvcScalingListData) (o : (scaling_syntax chroma).ok (look chroma d) ≡ true) where
  taken : (id : ℕ) → id < 28 → (id_at chroma id).ok (looked_at chroma d id) ≡ true
  unfolding scaling_syntax
  taken id h = rw (look_at chroma d id no_entry.default h) at (rw (zero-add id) at (each_at 0 28 (id_at chroma) no_entry.default (look chroma d) o id h))

  -- no delta leaves the ids of its size
  pub writable-fit : DeltasFit chroma d
  unfolding copied refers delta looked
  writable-fit =
      record {
        fits = λ id h.
            fits-by (id_coded chroma id) (get_or d.copy_mode_flag id true) (get_or d.pred_mode_flag id false) (get_or d.pred_id_delta id 0) id _ (taken id h);
      }

  sums-taken : (id : ℕ) → id < 28 → copied chroma d id ≡ false
      → (sums id 0 (entries id) (cond (ltb 13 id) (get_or d.dc_coef (id - 14) (pos 0)) (pos 0))).ok (take (entries id) (take 64 (drop (id * 64) d.scaling_list))) ≡ true
  unfolding copied looked
  sums-taken id h e =
      repeats-by (id_coded chroma id) (get_or d.copy_mode_flag id true) (get_or d.pred_mode_flag id false) (get_or d.pred_id_delta id 0) id (get_or d.dc_coef (id - 14) (pos 0)) _
      e (taken id h)

  -- an entry that is not sent, of a list that is not copied, is the one before it
  pub corner-repeats : (id i : ℕ) → id < 28 → copied chroma d id ≡ false → suc i < entries id → skipped id (suc i) ≡ true
      → get_or d.scaling_list (64 * id + suc i) (pos 0) ≡ get_or d.scaling_list (64 * id + i) (pos 0)
  corner-repeats id i h e n k =
      sym (entry (suc i) n) ∙ sums-repeat id 0 (entries id) _ (take (entries id) (take 64 (drop (id * 64) d.scaling_list))) (sums-taken id h e) (suc i) n (rw (zero-add (suc i)) k) ∙ entry i (omega arith)
    where
      entry : (j : ℕ) → j < entries id → get_or (take (entries id) (take 64 (drop (id * 64) d.scaling_list))) j (pos 0) ≡ get_or d.scaling_list (64 * id + j) (pos 0)
      entry j b =
          let m = entries-le id in
          let q : id * 64 + j ≡ 64 * id + j = omega arith in
          get_or-take (entries id) (take 64 (drop (id * 64) d.scaling_list)) j (pos 0) b ∙ get_or-take 64 (drop (id * 64) d.scaling_list) j (pos 0) (omega arith)
          ∙ get_or-drop (id * 64) d.scaling_list j (pos 0) ∙ ap (λ x. get_or d.scaling_list x (pos 0)) q

-- ---- of a set of lists that fits

module _ (a : VvcAps) (o : fit ApsKind.Scaling a ≡ true) where
  pub deltas-of-fit : DeltasFit a.aps_chroma_present_flag a.scaling
  deltas-of-fit = writable-fit a.aps_chroma_present_flag a.scaling (lists-taken a o)

  pub corner-of-fit : (id i : ℕ) → id < 28 → copied a.aps_chroma_present_flag a.scaling id ≡ false → suc i < entries id → skipped id (suc i) ≡ true
      → get_or a.scaling.scaling_list (64 * id + suc i) (pos 0) ≡ get_or a.scaling.scaling_list (64 * id + i) (pos 0)
  corner-of-fit = corner-repeats a.aps_chroma_present_flag a.scaling (lists-taken a o)
