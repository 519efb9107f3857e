-- `put_lists`: one list more is written, or it is refused.
use native.Mathlib.Omega.{arith}
use Rattle.hevc_scaling.proofs.ListWrites.{total-more, total-room, sending-start, sending-more, sending-refused, sending-done}
use Rattle.hevc_scaling.proofs.KeepLaws.{length-look, look-cons, no-dc}
use Rattle.hevc_scaling.proofs.ByteWrites.{written-exit}
use Rattle.hevc_scaling.proofs.scaling_list_write.put_lists.Goals as goal

pub loop-number-init : goal.loop-number-init
loop-number-init c = record { within = omega (arith, c.requires); wrote = sending-start _ _ _ }

pub put_list-requires : goal.put_list-requires
put_list-requires c =
    let o = c.loop-number in
    record {
      room = omega (arith, o.invariant.within, total-room o.number c.loop-number-test.true);
      unsent = λ h. rw c.list-list.ensures (no-dc c.args.lists.now o.number h);
    }

pub returns-in_err-put_list : goal.returns-in_err-put_list
returns-in_err-put_list c =
    let o = c.loop-number in
    written-exit _ _ _ c.from_residual.ensures.1
    (sending-refused _ _ _ o.invariant.wrote c.loop-number-test.true (look-cons c.args.lists.now o.number c.loop-number-test.true) (rw c.list-list.ensures at c.in_err-put_list.ensures.wrote))

pub loop-number-preserved : goal.loop-number-preserved
loop-number-preserved c =
    let o = c.loop-number in
    record {
      within = omega (arith, o.invariant.within, c.in_ok-put_list.ensures.within, total-more o.number);
      wrote = sending-more _ _ _ o.invariant.wrote c.loop-number-test.true (look-cons c.args.lists.now o.number c.loop-number-test.true) (rw c.list-list.ensures at c.in_ok-put_list.ensures.wrote);
    }

pub returns : goal.returns
returns c = sending-done _ _ _ c.loop-number.invariant.wrote (omega (arith, c.loop-number.auto.number-end, c.loop-number-test.false)) (length-look c.args.lists.now)
