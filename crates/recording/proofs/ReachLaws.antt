-- What bytes fed and a close come to: state, table and answers are those of the scan's units taken one by one.
use Prim.Native.Nat.{ℕ, zero, suc, ◌+◌, ◌≤◌}
use mathlib.Core.Path.{◌≡◌, refl, sym, ap, ◌∙◌}
use mathlib.Core.Bool.{Bool, true, false, cond}
use mathlib.Core.List.{List, [], ◌∷◌, ◌++◌}
use native.Mathlib.Nat.{add-zero}
use native.Mathlib.Numerals.{add-one}
use native.Mathlib.Omega.{arith}
use borrow.Author.Tests.{ltb-true, ltb-false}
use lib.Dec.{ltb, leb, eqb}
use lib.ListN.{length-replicate}
use Rattle.aps_table.specs.Taking.{Verdict, accept, pass, damage, refuse, count}
use Rattle.aps_table.specs.declared.table.Counts.{Counts}
use Rattle.recording.specs.declared.scan.Scan.{Scan}
use Rattle.recording.specs.declared.recording.Recording.{Recording}
use Rattle.recording.specs.Pieces.{State, outside, inside, broken, after, given, feed, emits, pending, closes, is_broken, start, good_step, good_from}
use Rattle.recording.specs.Collected.{up_to, Short, kept_verdict, kept_taken}
use Rattle.recording.specs.Recorded.{recorded, take_one, take_all, count_all}
use Rattle.recording.specs.Feeding.{new_recording, one_more, capped, count_up, short_of, stepped, step_table, fed, fed_table, closed, closed_table, Answer, counted, misplaced, answer_of}
use Rattle.recording.proofs.CollectLaws.{up-over, up-under, two_of}
use Rattle.recording.proofs.RecordedLaws.{kept-decides, kept-takes}
use Rattle.recording.proofs.PushLaws.{Roomy}
use Rattle.recording.proofs.FollowLaws.{Like, counts_up, acts}
use Rattle.recording.proofs.PieceLaws.{broken-is}

-- ---- counts

one-more-capped : (n : ℕ) → one_more (up_to 18446744073709551615 n) ≡ up_to 18446744073709551615 (n + 1)
unfolding one_more
one-more-capped n = go (ltb n 18446744073709551615) refl
  where
    go : (t : Bool) → ltb n 18446744073709551615 ≡ t → one_more (up_to 18446744073709551615 n) ≡ up_to 18446744073709551615 (n + 1)
    go true e =
        let h = ltb-true n 18446744073709551615 e in
        rw (up-under 18446744073709551615 n (omega arith), e) (sym (up-under 18446744073709551615 (n + 1) (omega arith)))
    go false e =
        let h = ltb-false n 18446744073709551615 e in
        rw (up-over 18446744073709551615 n h) (sym (up-over 18446744073709551615 (n + 1) (omega arith)))

same-counts : (a b c a' b' c' : ℕ) → a ≡ a' → b ≡ b' → c ≡ c' → ◌≡◌ {A = Counts} (record { accepted = a; refused = b; passed = c }) (record { accepted = a'; refused = b'; passed = c' })
same-counts a b c a' b' c' e f g = rw (e, f, g)

count-capped : (v : Verdict) (c : Counts) → count_up v (capped c) ≡ capped (count v c)
count-capped (accept x q) c = same-counts _ _ _ _ _ _ (one-more-capped c.accepted) refl refl
count-capped pass c = same-counts _ _ _ _ _ _ refl refl (one-more-capped c.passed)
count-capped (damage k i n) c = same-counts _ _ _ _ _ _ refl (one-more-capped c.refused) refl
count-capped (refuse n) c = same-counts _ _ _ _ _ _ refl (one-more-capped c.refused) refl

counts-capped : (us : List (List ℕ)) (c : Counts) → counts_up us (capped c) ≡ capped (count_all us c)
unfolding counts_up count_all
counts-capped [] c = refl
counts-capped (u ∷ us) c = ap (counts_up us) (count-capped (recorded u) c) ∙ counts-capped us (count (recorded u) c)

pub count-append : (us vs : List (List ℕ)) (c : Counts) → count_all (us ++ vs) c ≡ count_all vs (count_all us c)
unfolding count_all
count-append [] vs c = refl
count-append (u ∷ us) vs c = count-append us vs (count (recorded u) c)

pub take-append : (us vs : List (List ℕ)) (t : List ℕ) → take_all (us ++ vs) t ≡ take_all vs (take_all us t)
unfolding take_all
take-append [] vs t = refl
take-append (u ∷ us) vs t = take-append us vs (take_one u t)

-- ---- the state that a scan has reached, with its units counted and n bytes gone over

pub record Reached (q : State) (c : Counts) (n : ℕ) (r : Recording) : Type 0 where
  pub like : Like q r
  pub roomy : Roomy r.unit
  pub counts : r.counts ≡ capped c
  pub place : r.place ≡ up_to 18446744073709551615 n

place-next : (t : Bool) (m n : ℕ) → m ≡ up_to 18446744073709551615 n → cond t m (one_more m) ≡ up_to 18446744073709551615 (cond t n (suc n))
place-next true m n e = e
place-next false m n e = ap one_more e ∙ one-more-capped n ∙ ap (up_to 18446744073709551615) (add-one n)

module _ {q : State} {c : Counts} {n : ℕ} {r : Recording} (R : Reached q c n r) (b : ℕ) where
  pub reached-step : Reached (after q b) (count_all (given q b) c) (cond (is_broken (after q b)) n (suc n)) (stepped r b)
  unfolding stepped
  reached-step =
      let a = acts q r b R.like R.roomy in
      record {
        like = a.like;
        roomy = a.roomy;
        counts = a.counts ∙ ap (counts_up (given q b)) R.counts ∙ counts-capped (given q b) c;
        place = a.place ∙ place-next (is_broken (after q b)) r.place n R.place;
      }

  pub step-takes : (t : List ℕ) → step_table r b t ≡ take_all (given q b) t
  unfolding step_table
  step-takes t = (acts q r b R.like R.roomy).table t

-- no byte is good once the scan broke
pub good-broken : (q : State) (s : List ℕ) → is_broken q ≡ true → good_from q s ≡ 0
unfolding good_from after
good-broken q [] e = refl
good-broken q (b ∷ s) e = rw (broken-is q e)

good-next : (q : State) (s : List ℕ) (n : ℕ) → cond (is_broken q) n (suc n) + good_from q s ≡ n + good_step (is_broken q) (good_from q s)
good-next q s n = go (is_broken q) refl
  where
    go : (t : Bool) → is_broken q ≡ t → cond t n (suc n) + good_from q s ≡ n + good_step t (good_from q s)
    go true e = rw (good-broken q s e)
    go false e = omega arith

pub reached-fed : (s : List ℕ) {q : State} {c : Counts} {n : ℕ} {r : Recording} → Reached q c n r → Reached (feed q s) (count_all (emits q s) c) (n + good_from q s) (fed r s)
unfolding feed emits fed good_from count_all
reached-fed [] {q} {c} {n} {r} R = rw add-zero R
reached-fed (b ∷ s) {q} {c} {n} {r} R =
    rw (count-append (given q b) (emits (after q b) s) c, ← good-next (after q b) s n) (reached-fed s (reached-step R b))

pub fed-takes : (s : List ℕ) {q : State} {c : Counts} {n : ℕ} {r : Recording} → Reached q c n r → (t : List ℕ) → fed_table r s t ≡ take_all (emits q s) t
unfolding emits fed_table take_all
fed-takes [] R t = refl
fed-takes (b ∷ s) {q} {c} {n} {r} R t =
    ap (fed_table (stepped r b) s) (step-takes R b t)
    ∙ fed-takes s (reached-step R b) (take_all (given q b) t)
    ∙ sym (take-append (given q b) (emits (after q b) s) t)

-- ---- before the first byte, at a close, and the answer

pub new-reached : Reached start (record { accepted = 0; refused = 0; passed = 0 }) 0 new_recording
unfolding new_recording up_to
new-reached = record { like = refl; roomy = record { room = length-replicate {A = ℕ} 3075 0; few = omega arith }; counts = refl; place = refl }

-- a pending unit ends
module _ {u : List ℕ} {z n : ℕ} {c : Counts} {r : Recording} (R : Reached (inside z u) c n r) where
  ends-phase : eqb r.scan.phase 1 ≡ true
  ends-phase = ap (λ (s : Scan). eqb s.phase 1) R.like.0

  two-same : (y : ℕ) → y ≤ 2 → y ≡ two_of y
  two-same zero h = refl
  two-same (suc zero) h = refl
  two-same (suc (suc zero)) h = refl
  two-same (suc (suc (suc y))) h = absurd (omega arith)

  pub ended-reached : Reached (outside z) (count (recorded u) c) n (closed r)
  unfolding closed
  ended-reached =
      let k : kept_verdict (short_of r.unit) ≡ recorded u = ap kept_verdict R.like.1.0 ∙ kept-decides u in
      rw ends-phase
      (record {
        like = ap (λ (s : Scan). record { phase = 0; zeros = s.zeros }) R.like.0 ∙ ap (λ (y : ℕ). record { phase = 0; zeros = y }) (two-same z R.like.1.1);
        roomy = R.roomy;
        counts = ap (λ (v : Verdict). count_up v r.counts) k ∙ ap (count_up (recorded u)) R.counts ∙ count-capped (recorded u) c;
        place = R.place;
      })

  pub ended-takes : (t : List ℕ) → closed_table r t ≡ take_one u t
  unfolding closed_table
  ended-takes t = rw ends-phase (ap (λ (k : Short). kept_taken k t) R.like.1.0 ∙ kept-takes u t)

-- no unit is pending
module _ (r : Recording) (p : ℕ) (e : r.scan.phase ≡ p) (f : eqb p 1 ≡ false) where
  closed-none : closed r ≡ r
  unfolding closed
  closed-none = rw (ap (λ (x : ℕ). eqb x 1) e ∙ f)

  takes-none : (t : List ℕ) → closed_table r t ≡ t
  unfolding closed_table
  takes-none t = rw (ap (λ (x : ℕ). eqb x 1) e ∙ f)

pub reached-closed : (q : State) {c : Counts} {n : ℕ} {r : Recording} → Reached q c n r → Reached (closes q) (count_all (pending q) c) n (closed r)
unfolding count_all
reached-closed (outside z) {c} {n} {r} R = rw (closed-none r 0 (ap (λ (s : Scan). s.phase) R.like) refl) R
reached-closed (inside z u) R = ended-reached R
reached-closed broken {c} {n} {r} R = rw (closed-none r 2 R.like refl) R

pub closed-takes : (q : State) {c : Counts} {n : ℕ} {r : Recording} → Reached q c n r → (t : List ℕ) → closed_table r t ≡ take_all (pending q) t
unfolding take_all
closed-takes (outside z) {c} {n} {r} R t = takes-none r 0 (ap (λ (s : Scan). s.phase) R.like) refl t
closed-takes (inside z u) R t = ended-takes R t
closed-takes broken {c} {n} {r} R t = takes-none r 2 R.like refl t

told : Bool → Counts → ℕ → Answer
told true c n = misplaced 2 (up_to 18446744073709551615 n)
told false c n = counted (capped c)

answer-at : (p : ℕ) (t : Bool) (r : Recording) (c : Counts) (n : ℕ) → r.scan.phase ≡ p → leb 2 p ≡ t → r.counts ≡ capped c → r.place ≡ up_to 18446744073709551615 n → answer_of r ≡ told t c n
unfolding answer_of told
answer-at p true r c n e f g h = rw (ap (leb 2) e ∙ f) (ap (misplaced 2) h)
answer-at p false r c n e f g h = rw (ap (leb 2) e ∙ f) (ap counted g)

pub answered : (q : State) {c : Counts} {n : ℕ} {r : Recording} → Reached q c n r → is_broken q ≡ false → answer_of r ≡ counted (capped c)
unfolding told
answered (outside z) {c} {n} {r} R e = answer-at 0 false r c n (ap (λ (s : Scan). s.phase) R.like) refl R.counts R.place
answered (inside z u) {c} {n} {r} R e = answer-at 1 false r c n (ap (λ (s : Scan). s.phase) R.like.0) refl R.counts R.place
answered broken R e = cc

pub misplaced-at : {c : Counts} {n : ℕ} {r : Recording} → Reached broken c n r → answer_of r ≡ misplaced 2 (up_to 18446744073709551615 n)
unfolding told
misplaced-at {c} {n} {r} R = answer-at 2 true r c n R.like refl R.counts R.place
