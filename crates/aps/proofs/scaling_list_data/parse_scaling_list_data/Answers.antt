-- `parse_scaling_list_data`: the record is what is kept of the ids before `number`.
use Rattle.aps.proofs.ReaderLaws.{fills-exit}
use Rattle.aps.proofs.ScalingKeep.{storing-start, storing-blank, storing-more, storing-refused, storing-done}
use Rattle.aps.proofs.scaling_list_data.parse_scaling_list_data.Goals as goal

pub loop-number-init : goal.loop-number-init
loop-number-init c = storing-start _ c.requires

pub read_id-requires : goal.read_id-requires
read_id-requires c = storing-blank _ c.loop-number.invariant c.loop-number-test.true

pub returns-in_err-read_id : goal.returns-in_err-read_id
returns-in_err-read_id c =
    fills-exit _ _ _ _ c.from_residual.ensures.1 (storing-refused _ c.loop-number.invariant c.loop-number-test.true c.in_err-read_id.ensures)

pub loop-number-preserved : goal.loop-number-preserved
loop-number-preserved c = storing-more _ c.loop-number.invariant c.loop-number-test.true c.in_ok-read_id.ensures

pub returns : goal.returns
returns c = storing-done _ c.loop-number.invariant c.loop-number.auto.number-end c.loop-number-test.false
