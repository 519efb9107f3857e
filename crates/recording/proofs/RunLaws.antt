-- In a unit with no zero byte right before, bytes up to the next zero byte are the unit's own: they are collected and counted at once.
use Prim.Native.Nat.{ℕ, zero, suc, ◌≤◌}
use mathlib.Core.Path.{◌≡◌, refl, sym, ap, ◌∙◌}
use mathlib.Core.Bool.{Bool, true, false, cond}
use mathlib.Core.List.{List, [], ◌∷◌, ◌++◌}
use native.Mathlib.Omega.{arith}
use borrow.Author.Tests.{ltb-false}
use lib.Dec.{ltb, eqb}
use lib.ListN.{length, take, drop, take-append-drop}
use lib.Seq.{length-take-le}
use Rattle.std.specs.List.{position_or_len}
use Rattle.std.specs.Prelude.{Option, Some, None}
use Rattle.std.specs.Option.{unwrap_or}
use Rattle.recording.specs.declared.scan.Scan.{Scan}
use Rattle.aps_table.specs.declared.table.Counts.{Counts}
use Rattle.recording.specs.declared.collected.Collected.{Collected}
use Rattle.recording.specs.declared.recording.Recording.{Recording}
use Rattle.recording.specs.declared.scan.Event.{Event}
use Rattle.recording.specs.Feeding.{one_more, collected, with_zeros, acted, acted_table, stepped, step_table, fed, fed_table}
use Rattle.recording.specs.Inner.{collected_all, more, Passed}
use Rattle.recording.proofs.EventLaws.{within, in-collects-0}
use Rattle.recording.proofs.AnyCut.{fed-append, table-append}

-- ---- the scan

NonZero : List ℕ → Type 0
NonZero [] = Unit {0}
NonZero (b ∷ l) = (b ≡ 0 → ⊥) × NonZero l

abbrev inside : Collected → Counts → ℕ → Recording
inside u c p = record { scan = within 0; unit = u; counts = c; place = p }

step-inside : (b : ℕ) (u : Collected) (c : Counts) (p : ℕ) → stepped (inside u c p) (suc b) ≡ inside (collected (suc b) u) c (one_more p)
unfolding stepped with_zeros
step-inside b u c p = ap (λ (e : Event). acted e (suc b) (inside u c p)) (in-collects-0 b)

step-leaves : (b : ℕ) (u : Collected) (c : Counts) (p : ℕ) (t : List ℕ) → step_table (inside u c p) (suc b) t ≡ t
unfolding step_table
step-leaves b u c p t = ap (λ (e : Event). acted_table e (inside u c p) t) (in-collects-0 b)

run-fed : (l : List ℕ) → NonZero l → (u : Collected) (c : Counts) (p : ℕ) → fed (inside u c p) l ≡ inside (collected_all l u) c (more p (length l))
unfolding fed collected_all more NonZero
run-fed [] h u c p = refl
run-fed (zero ∷ l) h u c p = absurd (h.0 refl)
run-fed (suc b ∷ l) h u c p = ap (λ (r : Recording). fed r l) (step-inside b u c p) ∙ run-fed l h.1 (collected (suc b) u) c (one_more p)

run-leaves : (l : List ℕ) → NonZero l → (u : Collected) (c : Counts) (p : ℕ) (t : List ℕ) → fed_table (inside u c p) l t ≡ t
unfolding fed_table NonZero
run-leaves [] h u c p t = refl
run-leaves (zero ∷ l) h u c p t = absurd (h.0 refl)
run-leaves (suc b ∷ l) h u c p t =
    ap (fed_table (stepped (inside u c p) (suc b)) l) (step-leaves b u c p t)
    ∙ ap (λ (r : Recording). fed_table r l t) (step-inside b u c p)
    ∙ run-leaves l h.1 (collected (suc b) u) c (one_more p) t

-- up to the first zero byte, or the end
abbrev pub first-zero : List ℕ → ℕ
first-zero s = position_or_len (λ b. eqb b 0) s

run-first : (s : List ℕ) → (first-zero s ≤ length s) × NonZero (take (first-zero s) s)
unfolding NonZero
run-first [] = (omega arith, tt)
run-first (zero ∷ s) = (omega arith, tt)
run-first (suc b ∷ s) =
    let r = run-first s in
    let p : first-zero (suc b ∷ s) ≡ suc (first-zero s) = grind arith in
    rw p (omega (arith, r.0), ((λ e. omega arith), r.1))

passed-inside : (s : List ℕ) (u : Collected) (c : Counts) (p : ℕ) → Passed (inside u c p) s (first-zero s) (inside (collected_all (take (first-zero s) s) u) c (more p (length (take (first-zero s) s))))
passed-inside s u c p =
    let n = first-zero s in
    let (h, z) = run-first s in
    let e : s ≡ take n s ++ drop n s = sym (take-append-drop n s) in
    let f = run-fed (take n s) z u c p in
    record {
      within = h;
      state = ap (fed (inside u c p)) e ∙ fed-append (inside u c p) (take n s) (drop n s) ∙ ap (λ (r : Recording). fed r (drop n s)) f;
      table = λ t.
          ap (λ (l : List ℕ). fed_table (inside u c p) l t) e
          ∙ table-append (inside u c p) (take n s) (drop n s) t
          ∙ ap (fed_table (fed (inside u c p) (take n s)) (drop n s)) (run-leaves (take n s) z u c p t)
          ∙ ap (λ (r : Recording). fed_table r (drop n s) t) f;
    }

pub passed-run : (r : Recording) (s : List ℕ) → r.scan ≡ within 0
    → Passed r s (first-zero s) (record { scan = r.scan; unit = collected_all (take (first-zero s) s) r.unit; counts = r.counts; place = more r.place (length (take (first-zero s) s)) })
passed-run r s e = rw e (passed-inside s r.unit r.counts r.place)

pub passed-none : (r : Recording) (s : List ℕ) → Passed r s 0 r
passed-none r s = record { within = omega arith; state = refl; table = λ t. refl }

-- where it is found as the first place, or is the length where there is none
pub found-first : (s : List ℕ) (o : Option ℕ) → o ≡ cond (ltb (first-zero s) (length s)) (Some (first-zero s)) None → unwrap_or o (length s) ≡ first-zero s
found-first s o e = rw e (go (ltb (first-zero s) (length s)) refl)
  where
    go : (t : Bool) → ltb (first-zero s) (length s) ≡ t → unwrap_or (cond t (Some (first-zero s)) None) (length s) ≡ first-zero s
    go true f = refl
    go false f = omega (arith, ltb-false _ _ f, (run-first s).0)

scan-is : (p z : ℕ) → p ≡ 1 → z ≡ 0 → ◌≡◌ {A = Scan} (record { phase = p; zeros = z }) (within 0)
scan-is p z e f = rw (e, f)

pub passed-found : (r : Recording) (s : List ℕ) (n m : ℕ) (u : Collected) → r.scan.phase ≡ 1 → r.scan.zeros ≡ 0 → n ≡ first-zero s → u ≡ collected_all (take n s) r.unit → m ≡ more r.place n
    → Passed r s n (record { scan = r.scan; unit = u; counts = r.counts; place = m })
passed-found r s n m u e f g h k =
    let w : length (take (first-zero s) s) ≡ first-zero s = length-take-le (first-zero s) s (run-first s).0 in
    rw (h, k, g) (rw w at (passed-run r s (scan-is r.scan.phase r.scan.zeros e f)))
