-- The theorem of a recording, as a stream and at a cut: its units are calls to the table.
use Prim.Native.Nat.{ℕ, ◌≤◌}
use mathlib.Core.Path.{◌≡◌, refl, sym, ap, ◌∙◌}
use mathlib.Core.List.{List, [], ◌∷◌, ◌++◌, map}
use mathlib.Core.Option.{some}
use native.Mathlib.Omega.{arith}
use lib.ListN.{length}
use Rattle.bitstream.specs.Outcome.{Outcome}
use Rattle.aps_table.specs.Split.{split}
use Rattle.aps_table.specs.Taking.{no_units, tally}
use Rattle.aps_table.specs.Calls.{Step, longest, alone, taking, State, counting, after_units, step_after}
use Rattle.aps_table.specs.Demand3.{after, work_for, needed, walks, new_state}
use Rattle.aps_table.proofs.Demand3.{demand3}
use Rattle.recording.specs.Recorded.{take_all}
use Rattle.recording.specs.Feeding.{counted}
use Rattle.recording.specs.Cuts.{joined, table_closed, Held, AsStream, calls, InForce, Recorded}
use Rattle.recording.proofs.PieceLaws.{split-held}
use Rattle.recording.proofs.LengthLaws.{Below, below-more, whole-below}
use Rattle.recording.proofs.StreamLaws.{one-alone, stream-takes, stream-counts, taken-some, taken-none}
use Rattle.recording.proofs.AnyCut.{any-cut, holds}

-- units taken one by one are steps
steps-take : (us : List (List ℕ)) (x : State) → (walks (map taking (calls us)) x).0 ≡ take_all us x.0
unfolding walks take_all
steps-take [] x = refl
steps-take (u ∷ us) x = steps-take us (step_after (taking (alone u 2048)) x) ∙ ap (take_all us) (sym (one-alone u x.0))

-- after steps
walks-append : (xs ys : List Step) (x : State) → walks (xs ++ ys) x ≡ walks ys (walks xs x)
unfolding walks
walks-append [] ys x = refl
walks-append (y ∷ xs) ys x = walks-append xs ys (step_after y x)

taken-in-force : (ps us : List (List ℕ)) → ((t : List ℕ) → table_closed ps t ≡ take_all us t) → (xs : List Step) → InForce ps us xs
taken-in-force ps us h xs = record {
  closed-table = h (after xs) ∙ sym (ap (λ (x : State). x.0) (walks-append xs (map taking (calls us)) new_state) ∙ steps-take us (walks xs new_state));
  cut = demand3 (xs ++ map taking (calls us));
}

module _ (ps : List (List ℕ)) (us : List (List ℕ)) (e : split (joined ps) ≡ some us) where
  held-at : Held ps us
  held-at = holds ps us e

  module _ (h : length (joined ps) ≤ 65536) (room : ℕ) (w : work_for (joined ps) ≤ room) where
    long-enough : longest us ≤ room
    long-enough = rw (ap needed e) at w

    none-long : Below 65536 us
    none-long = below-more (length (joined ps)) 65536 us h (rw (split-held (joined ps) us e).1 at (whole-below (joined ps)))

    as-stream-at : AsStream ps room
    as-stream-at =
        let x = taken-some (joined ps) us room h e long-enough in
        record {
          counts = tally room us no_units;
          answer-is = ap (counting room) x;
          closed-answer = held-at.closed-answer ∙ ap counted (held-at.exact (omega arith) ∙ stream-counts us room none-long long-enough no_units);
          closed-table = λ t. held-at.closed-table t ∙ stream-takes us room none-long long-enough t ∙ sym (ap (λ (o : Outcome (List (List ℕ))). after_units room o t) x);
        }

pub recorded : (ps : List (List ℕ)) → Recorded ps
recorded ps = record {
  any-cut = any-cut ps;
  as-stream = λ h us e room w. as-stream-at ps us e h room w;
  stream-refused = λ h e room. ap (counting room) (taken-none (joined ps) room h e);
  in-force = λ us e. taken-in-force ps us (held-at ps us e).closed-table;
  in-force-broken = λ n us b. taken-in-force ps us b.closed-table;
}
