-- What is sent of a named id follows from its factors alone: without copy or prediction no other DC and no other steps in -128..127 give them.
use mathlib.Core.Path.{◌≡◌, refl, sym, ap, ◌∙◌}
use mathlib.Core.Bool.{Bool, true, false, cond, ◌&&◌}
use mathlib.Core.List.{List, [], ◌∷◌}
use Prim.Native.Nat.{ℕ, zero, suc, ◌+◌, ◌-◌, ◌*◌, ◌/◌, ◌%◌, ◌<◌}
use native.Mathlib.Nat.{zero-add, add-zero}
use native.Mathlib.Omega.{arith}
use borrow.Author.Tests.{ltb-true, leb-true, lt-ltb, le-ltb}
use lib.Dec.{ltb}
use lib.IntN.{ℤ, pos, negsuc, ◌+ℤ◌, ◌-ℤ◌, -ℤ-+ℤ_cancel, +ℤ_comm}
use lib.Signed.{le_z}
use lib.ListN.{get_or, take, drop}
use lib.Seq.{get_or-take, get_or-drop}
use Rattle.aps.specs.Codec.{◌▷◌, via, when}
use Rattle.aps.specs.Elements.{flag, se_in}
use Rattle.aps.specs.ScalingSyntax.{skipped, entries, id_coded, eq_z, step, step_at, sums, dc_at, delta_at, coefficients, entry_syntax, no_entry, id_at, scaling_syntax, looked, looked_at, look}
use Rattle.aps.proofs.CodecLaws.{and_left, and_right, never_true}
use Rattle.scaling_factors.specs.Factors.{byte_of, copied, refers, predicted, counted, factor, dc}
use Rattle.scaling_factors.proofs.ByteLaws.{byte-small}
use Rattle.aps.specs.declared.scaling_list.VvcScalingListData.{VvcScalingListData}
use Rattle.aps.proofs.EachLaws.{each_at}
use Rattle.aps.proofs.KeepLaws.{look_at}
use Rattle.aps.proofs.ScalingLaws.{entries-le}
use Rattle.scaling_factors.proofs.FactorLaws.{factor-is, dc-is}
use Rattle.hevc_scaling.specs.Resolved.{resolved}
use Rattle.hevc_scaling.specs.declared.scaling_list.HevcScalingListData.{HevcScalingListData}
use Rattle.hevc_scaling.proofs.SmallLaws.{Small}
use Rattle.hevc_scaling.proofs.TakenLaws.{low-sum}
use Rattle.hevc_scaling.proofs.ConvertedSteps.{named-range}
use Rattle.hevc_scaling.specs.Converted.{is_named, before, sum, element, first_of, dc_entry, list_entry}
use Rattle.hevc_scaling.specs.ListSyntax.{difference}
use Rattle.hevc_scaling.proofs.CoefLaws.{se_in-range}
use Rattle.hevc_scaling.proofs.FactorLaws.{byte-add, sum-byte, named-entry, named-dc-entry, first-small}

-- one number in -128..127 is a residue modulo 256
only-residue : (z : ℤ) (a b : ℕ) → le_z (negsuc 127) z ≡ true → le_z z (pos 127) ≡ true → byte_of z ≡ (b + 256 - a) % 256 → z ≡ difference a b
unfolding byte_of difference
only-residue (pos n) a b low high e =
    let l = leb-true n 127 high in
    let q : (b + 256 - a) % 256 ≡ n = omega arith in
    rw (q, lt-ltb n 128 (omega arith))
only-residue (negsuc n) a b low high e =
    let l = leb-true n 127 low in
    let q : (b + 256 - a) % 256 ≡ 255 - n = omega arith in
    let r : 255 - (255 - n) ≡ n = omega arith in
    rw (q, le-ltb (255 - n) 128 (omega arith), r)

-- a step that is taken, by the two sums beside it
only-step : (prev v : ℤ) (a b : ℕ) → a < 256 → b < 256 → (8 + byte_of prev) % 256 ≡ a → (8 + byte_of v) % 256 ≡ b → (step prev).ok v ≡ true → v ≡ prev +ℤ difference a b
unfolding step via
only-step prev v a b h k p q o =
    let z : ℤ = v -ℤ prev in
    let t = se_in-range (negsuc 127) (pos 127) z (and_left ((se_in (negsuc 127) (pos 127)).ok z) true o) in
    let s : z +ℤ prev ≡ v = -ℤ-+ℤ_cancel v prev in
    let m : byte_of v ≡ (byte_of z + byte_of prev) % 256 = ap byte_of (sym s) ∙ byte-add z prev in
    let d : z ≡ difference a b = only-residue z a b (and_left (le_z (negsuc 127) z) (le_z z (pos 127)) t) (and_right (le_z (negsuc 127) z) (le_z z (pos 127)) t) (omega (arith, m, p, q, byte-small z)) in
    sym s ∙ +ℤ_comm z prev ∙ ap (λ (x : ℤ). prev +ℤ x) d

before-byte : (first : ℕ) (l : List ℕ) (i : ℕ) → first < 256 → ((j : ℕ) → j < i → get_or l j 0 < 256) → before first l i < 256
unfolding before
before-byte first l zero h s = h
before-byte first l (suc i) h s = s i (omega arith)

-- the DC
pub only-dc : (first : ℕ) (l : List ℕ) (dc : ℤ) → first < 256 → (se_in (negsuc 127) (pos 127)).ok dc ≡ true → (8 + byte_of dc) % 256 ≡ first → dc ≡ sum first l 0
unfolding sum
only-dc first l dc h o e =
    let t = se_in-range (negsuc 127) (pos 127) dc o in
    only-residue dc 8 first (and_left (le_z (negsuc 127) dc) (le_z dc (pos 127)) t) (and_right (le_z (negsuc 127) dc) (le_z dc (pos 127)) t) (omega (arith, e, byte-small dc))

-- and the running sums after it
pub only-sums : (id : ℕ) → id < 26 → (first : ℕ) (l : List ℕ) → first < 256 → (n i : ℕ) (prev : ℤ) (row : List ℤ) → ((j : ℕ) → j < i + n → get_or l j 0 < 256)
    → prev ≡ sum first l i → (8 + byte_of prev) % 256 ≡ before first l i → (sums id i n prev).ok row ≡ true → ((j : ℕ) → j < n → (8 + byte_of (get_or row j (pos 0))) % 256 ≡ get_or l (i + j) 0)
    → (j : ℕ) → j < n → get_or row j (pos 0) ≡ sum first l (suc (i + j))
unfolding sums via ◌▷◌ when skipped before sum
only-sums id g first l h zero i prev row s p q o f j k = absurd (omega arith)
only-sums id g first l h (suc n) i prev [] s p q o f j k = never_true (and_right ((step_at id i prev).ok (pos 0) && (sums id (suc i) n (pos 0)).ok []) false o)
only-sums id g first l h (suc n) i prev (v ∷ row) s p q o f j k =
    let a = and_left ((step_at id i prev).ok v && (sums id (suc i) n v).ok row) true o in
    let t : (step prev).ok v ≡ true = rw (le-ltb 25 id (omega arith)) at (and_left ((step_at id i prev).ok v) ((sums id (suc i) n v).ok row) a) in
    let r = and_right ((step_at id i prev).ok v) ((sums id (suc i) n v).ok row) a in
    let w : (8 + byte_of v) % 256 ≡ get_or l i 0 = rw add-zero at (f 0 (omega arith)) in
    let c : v ≡ prev +ℤ difference (before first l i) (get_or l i 0) = only-step prev v (before first l i) (get_or l i 0) (before-byte first l i h (λ j b. s j (omega arith))) (s i (omega arith)) q w t in
    go j k (c ∙ ap (λ (x : ℤ). x +ℤ difference (before first l i) (get_or l i 0)) p) (only-sums id g first l h n (suc i) v row) r w
  where
    go : (j : ℕ) → j < suc n → v ≡ sum first l i +ℤ difference (before first l i) (get_or l i 0)
        → (((j : ℕ) → j < suc i + n → get_or l j 0 < 256) → v ≡ sum first l (suc i) → (8 + byte_of v) % 256 ≡ before first l (suc i) → (sums id (suc i) n v).ok row ≡ true
        → ((j : ℕ) → j < n → (8 + byte_of (get_or row j (pos 0))) % 256 ≡ get_or l (suc i + j) 0) → (j : ℕ) → j < n → get_or row j (pos 0) ≡ sum first l (suc (suc i + j)))
        → (sums id (suc i) n v).ok row ≡ true → (8 + byte_of v) % 256 ≡ get_or l i 0 → get_or (v ∷ row) j (pos 0) ≡ sum first l (suc (i + j))
    go zero b c rec r w = rw add-zero c
    go (suc j) b c rec r w =
        let x : i + suc j ≡ suc i + j = omega arith in
        rec (λ y z. s y (omega arith)) c w r (λ y z. let u : i + suc y ≡ suc i + y = omega arith in f (suc y) (omega arith) ∙ ap (λ (k : ℕ). get_or l k 0) u) j (omega arith) ∙ ap (λ (k : ℕ). sum first l (suc k)) (sym x)

-- ---- of a record that the writer takes

-- the DC and the sums of an id that is neither copied nor predicted are taken
parts-taken : (id delta : ℕ) (dc : ℤ) (row : List ℤ) → (entry_syntax id).ok (false, (false, (delta, (dc, row)))) ≡ true → ((dc_at id).ok dc ≡ true) × ((sums id 0 (entries id) dc).ok row ≡ true)
unfolding entry_syntax coefficients ◌▷◌ when
parts-taken id delta dc row o =
    let a = and_right ((delta_at id false).ok delta) _ (and_right (flag.ok false) _ (and_right (flag.ok false) _ o)) in
    (and_left ((dc_at id).ok dc) _ a, and_right ((dc_at id).ok dc) _ a)

module _ (p : VvcScalingListData) (o : (scaling_syntax true).ok (look true p) ≡ true) (id : ℕ) (c : get_or p.copy_mode_flag id true ≡ false) (r : get_or p.pred_mode_flag id false ≡ false) where
  own-copied : copied true p id ≡ false
  unfolding copied id_coded
  own-copied = rw c

  own-refers : refers true p id ≡ false
  unfolding refers
  own-refers = rw (own-copied, r)

  own-factor : (i : ℕ) → factor true p id i ≡ (8 + byte_of (get_or p.scaling_list (64 * id + i) (pos 0))) % 256
  unfolding predicted counted
  own-factor i = factor-is true p id i ∙ rw (own-refers, own-copied)

  own-dc : 13 < id → dc true p id ≡ (8 + byte_of (get_or p.dc_coef (id - 14) (pos 0))) % 256
  unfolding predicted counted
  own-dc h = dc-is true p id h ∙ rw (own-refers, own-copied)

  abbrev own_start : ℤ
  own_start = cond (ltb 13 id) (get_or p.dc_coef (id - 14) (pos 0)) (pos 0)

  abbrev own_row : List ℤ
  own_row = take (entries id) (take 64 (drop (id * 64) p.scaling_list))

  own-looked : looked_at true p id ≡ (false, (false, (get_or p.pred_id_delta id 0, (own_start, own_row))))
  unfolding looked id_coded
  own-looked = rw (c, r)

  own-taken : id < 28 → ((dc_at id).ok own_start ≡ true) × ((sums id 0 (entries id) own_start).ok own_row ≡ true)
  unfolding scaling_syntax when id_coded
  own-taken h =
      parts-taken id (get_or p.pred_id_delta id 0) own_start own_row
      (rw own-looked at (rw (look_at true p id no_entry.default h) at (rw (zero-add id) at (each_at 0 28 (id_at true) no_entry.default (look true p) o id h))))

  own-entry : (j : ℕ) → j < entries id → get_or own_row j (pos 0) ≡ get_or p.scaling_list (64 * id + j) (pos 0)
  own-entry j b =
      let m = entries-le id in
      let q : id * 64 + j ≡ 64 * id + j = omega arith in
      get_or-take (entries id) (take 64 (drop (id * 64) p.scaling_list)) j (pos 0) b ∙ get_or-take 64 (drop (id * 64) p.scaling_list) j (pos 0) (omega arith)
      ∙ get_or-drop (id * 64) p.scaling_list j (pos 0) ∙ ap (λ x. get_or p.scaling_list x (pos 0)) q

  -- with the elements and the DC of a list for its factors
  module _ (d : HevcScalingListData) (n : is_named id ≡ true) (S : Small (entries id) (resolved d ((id - 2) / 6) ((id - 2) % 6)))
      (f : (i : ℕ) → i < entries id → factor true p id i ≡ element d id i) (g : 13 < id → dc true p id ≡ (resolved d ((id - 2) / 6) ((id - 2) % 6)).1) where
    abbrev its_list : List ℕ
    its_list = (resolved d ((id - 2) / 6) ((id - 2) % 6)).0

    start-is : own_start ≡ sum (first_of d id) its_list 0
    unfolding when first_of
    start-is = go (ltb 13 id) refl (own-taken (omega (arith, named-range id n))).0
      where
        go : (t : Bool) → ltb 13 id ≡ t → cond t ((se_in (negsuc 127) (pos 127)).ok (cond t (get_or p.dc_coef (id - 14) (pos 0)) (pos 0))) (eq_z (cond t (get_or p.dc_coef (id - 14) (pos 0)) (pos 0)) (pos 0)) ≡ true
            → cond t (get_or p.dc_coef (id - 14) (pos 0)) (pos 0) ≡ sum (first_of d id) its_list 0
        go true l a =
            let h = ltb-true 13 id l in
            let e : first_of d id ≡ (resolved d ((id - 2) / 6) ((id - 2) % 6)).1 = rw l refl in
            only-dc (first_of d id) its_list (get_or p.dc_coef (id - 14) (pos 0)) (first-small d id n S) a (sym (own-dc h) ∙ g h ∙ sym e)
        go false l a = sym (low-sum d id (omega (arith, named-range id n)) l)

    -- its DC is what is sent
    pub only-dc-entry : 13 < id → get_or p.dc_coef (id - 14) (pos 0) ≡ dc_entry d id
    only-dc-entry h = let s = rw (lt-ltb 13 id h) at start-is in s ∙ sym (named-dc-entry d id n)

    -- and so are its sums
    pub only-entry : (i : ℕ) → i < entries id → get_or p.scaling_list (64 * id + i) (pos 0) ≡ list_entry d id i
    unfolding element before
    only-entry i h =
        let b = named-range id n in
        let q : (8 + byte_of own_start) % 256 ≡ before (first_of d id) its_list 0 = ap (λ (z : ℤ). (8 + byte_of z) % 256) start-is ∙ sum-byte (first_of d id) its_list (first-small d id n S) (entries id) S.element 0 (omega arith) in
        sym (own-entry i h)
        ∙ only-sums id (omega arith) (first_of d id) its_list (first-small d id n S) (entries id) 0 own_start own_row (λ j k. S.element j (omega arith)) start-is q (own-taken (omega arith)).1
        (λ j k. rw (own-entry j k, zero-add j) (sym (own-factor j) ∙ f j k)) i h
        ∙ ap (λ (k : ℕ). sum (first_of d id) its_list (suc k)) (zero-add i) ∙ sym (named-entry d id n i h)
