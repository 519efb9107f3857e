-- `put_clips`: one clip more is written, or it is refused; the rest are 0 or the array is not taken.
use mathlib.Core.Path.{refl}
use native.Mathlib.Omega.{arith}
use lib.ListN.{length}
use lib.Seq.{length-take-le}
use Rattle.aps.specs.Codec.{u}
use Rattle.aps.specs.Elements.{no_number}
use Rattle.aps.proofs.WriterLaws.{wrote-exit}
use Rattle.aps.proofs.EntryWrites.{entry, rest-all, sent-more, sent-refused, sent-done}
use Rattle.aps.proofs.alf_write.put_clips.Goals as goal

pub returns-in_err-u-clause-wrote : goal.returns-in_err-u-clause-wrote
returns-in_err-u-clause-wrote c =
    let a = c.args in
    let s = a.clips.now in
    wrote-exit c.from_residual.ensures.1
    (sent-refused no_number (u 2) a.n (length s) s a.writer.now (omega (arith, length-take-le a.n s)) c.requires.1 (entry a.n s c.loop-clip.clip-index 0 c.loop-clip-test.true)
    c.loop-clip.invariant.wrote (rw c.from.ensures at c.in_err-u.ensures.wrote))

pub loop-clip-preserved : goal.loop-clip-preserved
loop-clip-preserved c =
    let a = c.args in
    let s = a.clips.now in
    record {
      within = omega arith;
      wrote =
          sent-more no_number (u 2) a.n (length s) s a.writer.now (omega (arith, length-take-le a.n s)) c.requires.1 (entry a.n s c.loop-clip.clip-index 0 c.loop-clip-test.true)
          c.loop-clip.invariant.wrote (rw c.from.ensures at c.in_ok-u.ensures.wrote);
    }

pub returns-clause-wrote : goal.returns-clause-wrote
returns-clause-wrote c =
    let a = c.args in
    let s = a.clips.now in
    sent-done no_number (u 2) a.n (length s) s a.writer.now (omega (arith, length-take-le a.n s)) refl c.loop-clip.invariant.wrote (rw (c.all_inferred.ensures, rest-all a.n s _ refl) at c.unsent.ensures)
