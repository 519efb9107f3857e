-- The writer takes the set: its steps are differences in -128..127, and of the other ids a copy at delta 0 is sent.
use mathlib.Core.Path.{◌≡◌, refl, sym, ap, ◌∙◌}
use mathlib.Core.Bool.{Bool, true, false, cond}
use mathlib.Core.List.{List, []}
use Prim.Native.Nat.{ℕ, zero, suc, ◌+◌, ◌-◌, ◌*◌, ◌/◌, ◌%◌, ◌<◌}
use native.Mathlib.Nat.{zero-add, add-zero}
use native.Mathlib.Omega.{arith}
use borrow.Author.Tests.{ltb-true, le-ltb, le-leb}
use lib.Dec.{ltb}
use lib.IntN.{ℤ, pos, negsuc, ◌+ℤ◌, ◌-ℤ◌, +ℤ_comm, +ℤ-neg_ℤ_cancel}
use lib.ListN.{length, get_or, take, drop, length-drop}
use lib.Seq.{get_or-take, get_or-drop, length-take-le, ext_get_or}
use Rattle.std.proofs.lemmas.Bool.{and_from}
use Rattle.aps.specs.Codec.{Codec, u, ue, ◌▷◌, via, judged, when, each_from}
use Rattle.aps.specs.Elements.{flag, ue_to, se_in, no_number}
use Rattle.aps.specs.ScalingSyntax.{skipped, entries, max_id_delta, id_coded, eq_z, step, sums, dc_at, delta_sent, coefficients, entry_syntax, id_at, scaling_syntax, looked, looked_at, look, tabulate}
use Rattle.aps.specs.ApsSyntax.{payload, aps_syntax, from_aps, aps}
use Rattle.aps.specs.Rbsp.{rbsp_bytes}
use Rattle.aps.specs.Writing.{not_long, rbsp_due, bytes_due, plain, writable, fit, whole_scaling}
use Rattle.aps.specs.declared.aps.ApsKind.{ApsKind}
use Rattle.aps.proofs.FieldWrites.{se8-fits}
use Rattle.aps.proofs.KeepLaws.{length-tabulate, tabulate-at}
use Rattle.aps.proofs.ScalingLaws.{entries-le}
use Rattle.hevc_scaling.specs.Converted.{is_named, before, sum, first_of, list_entry, vvc_lists, vvc_set}
use Rattle.hevc_scaling.specs.ListSyntax.{difference}
use Rattle.hevc_scaling.specs.Resolved.{resolved}
use Rattle.hevc_scaling.specs.declared.scaling_list.HevcScalingListData.{HevcScalingListData}
use Rattle.hevc_scaling.proofs.ConvertedSteps.{named-range}
use Rattle.hevc_scaling.proofs.CoefWrites.{difference-low, difference-high}
use Rattle.hevc_scaling.proofs.FactorLaws.{copy-at, pred-at, delta-at, dc-at, entry-at, named-entry, named-dc-entry}

-- a table is taken where each of its entries is
each-taken : {A : Type 0} (i n : ℕ) (k : ℕ → Codec A) (f : ℕ → A) → ((j : ℕ) → j < n → (k (i + j)).ok (f (i + j)) ≡ true) → (each_from i n k).ok (tabulate i n f) ≡ true
unfolding each_from
each-taken i zero k f h = refl
each-taken i (suc n) k f h =
    let a : (k i).ok (f i) ≡ true = rw add-zero at (h 0 (omega arith)) in
    and_from _ _ a (each-taken (suc i) n k f (λ j b. let e : suc i + j ≡ i + suc j = omega arith in rw e (h (suc j) (omega arith))))

-- ---- the steps

difference-taken : (a b : ℕ) → (se_in (negsuc 127) (pos 127)).ok (difference a b) ≡ true
difference-taken a b = se8-fits (difference a b) (difference-low a b) (difference-high a b)

-- a step is what is added
step-taken : (prev : ℤ) (a b : ℕ) → (step prev).ok (prev +ℤ difference a b) ≡ true
unfolding step via
step-taken prev a b =
    let e : (prev +ℤ difference a b) -ℤ prev ≡ difference a b = ap (λ (z : ℤ). z -ℤ prev) (+ℤ_comm prev (difference a b)) ∙ +ℤ-neg_ℤ_cancel (difference a b) prev in
    rw (e, difference-taken a b)

sums-taken : (id : ℕ) → id < 26 → (first : ℕ) (l : List ℕ) (n i : ℕ) → (sums id i n (sum first l i)).ok (tabulate i n (λ j. sum first l (suc j))) ≡ true
unfolding sums via ◌▷◌ when skipped each_from sum
sums-taken id h first l zero i = refl
sums-taken id h first l (suc n) i =
    rw (le-ltb 25 id (omega arith), step-taken (sum first l i) (before first l i) (get_or l i 0)) (and_from _ _ (sums-taken id h first l n (suc i)) refl)

-- ---- an id

-- one that is not copied
list-taken : (id : ℕ) (dc : ℤ) (row : List ℤ) → (dc_at id).ok dc ≡ true → (sums id 0 (entries id) dc).ok row ≡ true → (entry_syntax id).ok (false, (false, (0, (dc, row)))) ≡ true
unfolding entry_syntax coefficients ◌▷◌ when flag via u
list-taken id dc row a b = and_from _ _ a b

delta-cases : (b : Bool) (most : ℕ) → (when b no_number (ue_to most)).ok 0 ≡ true
unfolding when ue_to judged ue
delta-cases true most = rw (le-leb 0 most (omega arith))
delta-cases false most = refl

-- a copy at delta 0
copy-taken : (id : ℕ) → (entry_syntax id).ok (true, (false, (0, (pos 0, [])))) ≡ true
unfolding entry_syntax ◌▷◌ when flag via u
copy-taken id = and_from _ _ (delta-cases (delta_sent id true) (max_id_delta id)) refl

module _ (d : HevcScalingListData) (id : ℕ) (h : id < 28) where
  abbrev first : ℕ
  first = first_of d id

  abbrev its_list : List ℕ
  its_list = (resolved d ((id - 2) / 6) ((id - 2) % 6)).0

  abbrev its_row : List ℤ
  its_row = take (entries id) (take 64 (drop (id * 64) (vvc_lists d).scaling_list))

  abbrev its_sums : List ℤ
  its_sums = tabulate 0 (entries id) (λ j. sum first its_list (suc j))

  low-first : ltb 13 id ≡ false → first_of d id ≡ 8
  unfolding first_of
  low-first l = rw l refl

  pub low-sum : ltb 13 id ≡ false → sum first its_list 0 ≡ pos 0
  unfolding sum difference
  low-sum l = ap (λ (f : ℕ). sum f its_list 0) (low-first l)

  dc-taken : (dc_at id).ok (sum first its_list 0) ≡ true
  unfolding when sum
  dc-taken = go (ltb 13 id) refl
    where
      go : (t : Bool) → ltb 13 id ≡ t → cond t ((se_in (negsuc 127) (pos 127)).ok (difference 8 first)) (eq_z (difference 8 first) (pos 0)) ≡ true
      go true l = difference-taken 8 first
      go false l = rw (low-sum l) refl

  row-length : length (vvc_lists d).scaling_list ≡ 1792
  unfolding vvc_lists
  row-length = length-tabulate 0 1792 (λ j. list_entry d (j / 64) (j % 64))

  module _ (e : is_named id ≡ true) where
    dc-is : cond (ltb 13 id) (get_or (vvc_lists d).dc_coef (id - 14) (pos 0)) (pos 0) ≡ sum first its_list 0
    dc-is = go (ltb 13 id) refl
      where
        go : (t : Bool) → ltb 13 id ≡ t → cond t (get_or (vvc_lists d).dc_coef (id - 14) (pos 0)) (pos 0) ≡ sum first its_list 0
        go true l = dc-at d id (ltb-true 13 id l) h ∙ named-dc-entry d id e
        go false l = sym (low-sum l)

    row-is : its_row ≡ its_sums
    row-is =
        let n = entries-le id in
        let f : ℕ → ℤ = λ j. sum first its_list (suc j) in
        let all = (vvc_lists d).scaling_list in
        let long : length (take 64 (drop (id * 64) all)) ≡ 64 = length-take-le 64 (drop (id * 64) all) (omega (arith, length-drop (id * 64) all, row-length)) in
        let short : length its_row ≡ entries id = length-take-le (entries id) (take 64 (drop (id * 64) all)) (omega (arith, long, n)) in
        ext_get_or (pos 0) its_row its_sums (short ∙ sym (length-tabulate 0 (entries id) f)) λ j l.
        let b : j < entries id = omega (arith, short) in
        let q : id * 64 + j ≡ 64 * id + j = omega arith in
        get_or-take (entries id) (take 64 (drop (id * 64) all)) j (pos 0) b ∙ get_or-take 64 (drop (id * 64) all) j (pos 0) (omega arith)
        ∙ get_or-drop (id * 64) all j (pos 0) ∙ ap (λ x. get_or all x (pos 0)) q
        ∙ entry-at d id j h (omega arith) ∙ named-entry d id e j b ∙ sym (tabulate-at 0 (entries id) f j (pos 0) b ∙ rw (zero-add j))

    named-looked : looked_at true (vvc_lists d) id ≡ (false, (false, (0, (sum first its_list 0, its_sums))))
    unfolding looked id_coded
    named-looked = rw (copy-at d id h, e, pred-at d id h, delta-at d id h, dc-is, row-is)

    named-taken : (id_at true id).ok (looked_at true (vvc_lists d) id) ≡ true
    unfolding when id_coded
    named-taken = rw named-looked (list-taken id (sum first its_list 0) its_sums dc-taken (sums-taken id (omega (arith, named-range id e)) first its_list (entries id) 0))

  module _ (e : is_named id ≡ false) where
    other-looked : looked_at true (vvc_lists d) id ≡ (true, (false, (0, (pos 0, []))))
    unfolding looked id_coded
    other-looked = rw (copy-at d id h, e, pred-at d id h, delta-at d id h)

    other-taken : (id_at true id).ok (looked_at true (vvc_lists d) id) ≡ true
    unfolding when id_coded
    other-taken = rw other-looked (copy-taken id)

  id-taken : (id_at true id).ok (looked_at true (vvc_lists d) id) ≡ true
  id-taken = go (is_named id) refl
    where
      go : (t : Bool) → is_named id ≡ t → (id_at true id).ok (looked_at true (vvc_lists d) id) ≡ true
      go true e = named-taken e
      go false e = other-taken e

-- ---- the set

module _ (d : HevcScalingListData) where
  lists-taken : (scaling_syntax true).ok (look true (vvc_lists d)) ≡ true
  unfolding scaling_syntax look
  lists-taken = each-taken 0 28 (id_at true) (looked_at true (vvc_lists d)) (λ j h. rw (zero-add j) (id-taken d j h))

  -- it is a set of scaling lists that the writer takes
  pub set-fits : fit ApsKind.Scaling (whole_scaling (vvc_set d)) ≡ true
  unfolding fit writable plain vvc_set aps aps_syntax from_aps payload judged via ◌▷◌ u flag
  set-fits = rw lists-taken refl

  set-ok : aps.ok (whole_scaling (vvc_set d)) ≡ true
  unfolding vvc_set aps aps_syntax from_aps payload judged via ◌▷◌ u flag
  set-ok = rw lists-taken refl

  -- whose answer is its bytes; 4: they are over 2,048
  pub set-written : bytes_due (whole_scaling (vvc_set d)) ≡ not_long (rbsp_bytes (whole_scaling (vvc_set d)))
  unfolding bytes_due rbsp_due vvc_set
  set-written = rw set-ok refl
