-- `weights_of`: the row is the filter's.
use Prim.Native.Nat.{ℕ}
use lib.IntN.{pos}
use lib.ListN.{get_or}
use Rattle.alf_filters.proofs.WeightLaws.{luma-abs, weights-by-row}
use Rattle.alf_filters.proofs.weights.weights_of.Goals as goal

pub weigh-requires : goal.weigh-requires
weigh-requires c = λ j h. rw (c.put_luma_coefficients.ensures j h) (luma-abs c.args.luma.now c.requires.0 c.args.i j)

pub returns : goal.returns
returns c =
    weights-by-row c.args.luma.now c.requires.0 c.args.i (λ (j : ℕ). get_or c.put_luma_coefficients.new.out j (pos 0)) c.put_luma_coefficients.ensures c.weigh.result c.weigh.ensures.taps c.weigh.ensures.centre
