-- The theorem of a recording: feeding is a fold over its bytes, and the scan's units are the split's.
use Prim.Native.Nat.{ℕ, ◌≤◌, ◌<◌}
use mathlib.Core.Path.{◌≡◌, refl, sym, ap, ◌∙◌}
use mathlib.Core.Bool.{false}
use mathlib.Core.List.{List, [], ◌∷◌, ◌++◌, append-nil}
use mathlib.Core.Option.{none, some}
use native.Mathlib.Omega.{arith}
use native.Mathlib.Nat.{zero-add, add-zero}
use lib.ListN.{length, length-append}
use Rattle.aps_table.specs.Taking.{no_units}
use Rattle.aps_table.specs.declared.table.Counts.{Counts}
use Rattle.aps_table.specs.Split.{split}
use Rattle.recording.specs.declared.recording.Recording.{Recording}
use Rattle.recording.specs.Pieces as P
use Rattle.recording.specs.Pieces.{State, start, feed, emits, pending, closes, is_broken, good_from}
use Rattle.recording.specs.Recorded.{take_all, count_all}
use Rattle.recording.specs.Feeding.{new_recording, capped, capped_at, stepped, step_table, fed, fed_table, closed, closed_table, misplaced, answer_of}
use Rattle.recording.specs.Feeding as F
use Rattle.recording.specs.Cuts.{joined, feeds, feeds_table, state_fed, table_fed, table_closed, answer_closed, Held, Broken, AnyCut}
use Rattle.recording.proofs.PieceLaws.{split-held, split-refused, broken-stays, broken-emits}
use Rattle.recording.proofs.CollectLaws.{up-under}
use Rattle.recording.proofs.LengthLaws.{units-few, counts-exact}
use Rattle.recording.proofs.ReachLaws.{count-append, take-append, Reached, reached-fed, fed-takes, new-reached, reached-closed, closed-takes, answered, misplaced-at, good-broken}

-- ---- pieces

pub fed-append : (r : Recording) (a b : List ℕ) → fed r (a ++ b) ≡ fed (fed r a) b
unfolding fed
fed-append r [] b = refl
fed-append r (x ∷ a) b = fed-append (stepped r x) a b

pub table-append : (r : Recording) (a b t : List ℕ) → fed_table r (a ++ b) t ≡ fed_table (fed r a) b (fed_table r a t)
unfolding fed fed_table
table-append r [] b t = refl
table-append r (x ∷ a) b t = table-append (stepped r x) a b (step_table r x t)

pub state-uncut : (ps : List (List ℕ)) (r : Recording) → feeds r ps ≡ fed r (joined ps)
unfolding feeds joined fed
state-uncut [] r = refl
state-uncut (p ∷ ps) r = state-uncut ps (fed r p) ∙ sym (fed-append r p (joined ps))

pub table-uncut : (ps : List (List ℕ)) (r : Recording) (t : List ℕ) → feeds_table r ps t ≡ fed_table r (joined ps) t
unfolding feeds_table joined fed_table
table-uncut [] r t = refl
table-uncut (p ∷ ps) r t = table-uncut ps (fed r p) (fed_table r p t) ∙ sym (table-append r p (joined ps) t)

-- ---- the whole

module _ (ps : List (List ℕ)) where
  reached : Reached (feed start (joined ps)) (count_all (emits start (joined ps)) no_units) (good_from start (joined ps)) (state_fed ps)
  reached = rw (state-uncut ps new_recording, ← zero-add (good_from start (joined ps))) (reached-fed (joined ps) new-reached)

  takes : (t : List ℕ) → table_fed ps t ≡ take_all (emits start (joined ps)) t
  takes t = table-uncut ps new_recording t ∙ fed-takes (joined ps) new-reached t

  closed-reached : Reached (closes (feed start (joined ps))) (count_all (pending (feed start (joined ps))) (count_all (emits start (joined ps)) no_units)) (good_from start (joined ps)) (closed (state_fed ps))
  closed-reached = reached-closed (feed start (joined ps)) reached

  closed-all : (t : List ℕ) → table_closed ps t ≡ take_all (emits start (joined ps) ++ pending (feed start (joined ps))) t
  closed-all t =
      closed-takes (feed start (joined ps)) reached (table_fed ps t)
      ∙ ap (take_all (pending (feed start (joined ps)))) (takes t)
      ∙ sym (take-append (emits start (joined ps)) (pending (feed start (joined ps))) t)

  few-pending : (q : State) → length (pending q) ≤ 1
  few-pending (P.outside z) = omega arith
  few-pending (P.inside z u) = omega arith
  few-pending P.broken = omega arith

  closes-broken : (q : State) → is_broken q ≡ false → is_broken (closes q) ≡ false
  closes-broken (P.outside z) e = refl
  closes-broken (P.inside z u) e = refl
  closes-broken P.broken e = e

  exact-counts : (us : List (List ℕ)) → emits start (joined ps) ++ pending (feed start (joined ps)) ≡ us → length (joined ps) < 18446744073709551615 → capped (count_all us no_units) ≡ count_all us no_units
  exact-counts us e l =
      let k = length-append (emits start (joined ps)) (pending (feed start (joined ps))) in
      counts-exact us no_units (omega (arith, ap length e, k, units-few (joined ps) start, few-pending (feed start (joined ps))))

  pub holds : (us : List (List ℕ)) → split (joined ps) ≡ some us → Held ps us
  holds us e =
      let h = split-held (joined ps) us e in
      record {
        ended = emits start (joined ps);
        rest = pending (feed start (joined ps));
        all = h.1;
        one = few-pending (feed start (joined ps));
        table-is = takes;
        answer-is = answered (feed start (joined ps)) reached h.0;
        closed-table = λ t. closed-all t ∙ ap (λ (l : List (List ℕ)). take_all l t) h.1;
        closed-answer =
            answered (closes (feed start (joined ps))) closed-reached (closes-broken (feed start (joined ps)) h.0)
            ∙ ap (λ (c : Counts). F.counted (capped c)) (sym (count-append (emits start (joined ps)) (pending (feed start (joined ps))) no_units) ∙ ap (λ (l : List (List ℕ)). count_all l no_units) h.1);
        exact = λ l. exact-counts us h.1 l;
      }

  -- ---- the whole does not split

  none-pending : (q : State) (us : List (List ℕ)) → q ≡ P.broken → us ++ pending q ≡ us
  none-pending q us e = ap (λ (p : State). us ++ pending p) e ∙ append-nil us

  module _ (e : feed start (joined ps) ≡ P.broken) where
    reached-broken : Reached P.broken (count_all (emits start (joined ps)) no_units) (good_from start (joined ps)) (state_fed ps)
    reached-broken = rw e at reached

    closed-broken : answer_closed ps ≡ misplaced 2 (capped_at (good_from start (joined ps)))
    closed-broken = misplaced-at (rw (ap closes e) at closed-reached)

    still-broken : (qs : List (List ℕ)) → Reached P.broken (count_all (emits P.broken (joined qs)) (count_all (emits start (joined ps)) no_units)) (good_from start (joined ps)) (fed (state_fed ps) (joined qs))
    still-broken qs = rw (broken-stays (joined qs), good-broken P.broken (joined qs) refl, add-zero) at (reached-fed (joined qs) reached-broken)

    stays-at : (qs : List (List ℕ)) → answer_of (feeds (state_fed ps) qs) ≡ misplaced 2 (capped_at (good_from start (joined ps)))
    stays-at qs = ap answer_of (state-uncut qs (state_fed ps)) ∙ misplaced-at (still-broken qs)

    leaves-table : (qs : List (List ℕ)) (t : List ℕ) → feeds_table (state_fed ps) qs t ≡ t
    unfolding take_all
    leaves-table qs t = table-uncut qs (state_fed ps) t ∙ fed-takes (joined qs) reached-broken t ∙ ap (λ (l : List (List ℕ)). take_all l t) (broken-emits (joined qs))

  pub breaks : split (joined ps) ≡ none → Broken ps (good_from start (joined ps)) (emits start (joined ps))
  breaks e =
      let r = split-refused (joined ps) e in
      record {
        inside = r.within;
        before = r.units;
        here = r.here;
        first = r.first;
        table-is = takes;
        answer-is = misplaced-at (reached-broken r.state);
        exact = λ l. up-under 18446744073709551615 (good_from start (joined ps)) (omega (arith, r.within));
        closed-table = λ t. closed-all t ∙ ap (λ (l : List (List ℕ)). take_all l t) (none-pending (feed start (joined ps)) (emits start (joined ps)) r.state);
        closed-answer = closed-broken r.state;
        stays = stays-at r.state;
        leaves = leaves-table r.state;
      }

-- the theorem of a recording
pub any-cut : (ps : List (List ℕ)) → AnyCut ps
any-cut ps = record {
  same-state = state-uncut ps;
  same-table = table-uncut ps;
  held = holds ps;
  broken = λ e. (good_from start (joined ps), (emits start (joined ps), breaks ps e));
}
