-- `put_head`: three values in range, one after another.
use native.Mathlib.Omega.{arith}
use lib.Count.{count_leading_zeros}
use Rattle.bitstream.specs.Fields.{ue_zeros}
use Rattle.aps.proofs.LmcsSteps.{in-range}
use Rattle.aps.proofs.WriterLaws.{wrote-exit, wrote-judged, wrote-▷, wrote-▷-first}
use Rattle.aps.proofs.LmcsWrites.{ue-wrote}
use Rattle.aps.proofs.lmcs_write.put_head.Goals as goal

pub returns-in_err-ue_to-clause-wrote : goal.returns-in_err-ue_to-clause-wrote
returns-in_err-ue_to-clause-wrote c =
    let t = c.args.bins.range in
    wrote-exit c.from_residual.ensures.1 (wrote-judged _ t (wrote-▷-first _ (ue-wrote (omega (arith, (in-range _ _ _ t).0)) c.in_err-ue_to.ensures.wrote)))

pub returns-in_err-ue_to-clause-within : goal.returns-in_err-ue_to-clause-within
unfolding ue_zeros count_leading_zeros
returns-in_err-ue_to-clause-within c = omega arith

pub ue_to-requires-2 : goal.ue_to-requires-2
unfolding ue_zeros count_leading_zeros
ue_to-requires-2 c = (omega arith, omega arith)

pub returns-in_err-ue_to-2-clause-wrote : goal.returns-in_err-ue_to-2-clause-wrote
returns-in_err-ue_to-2-clause-wrote c =
    let t = c.args.bins.range in
    let r = in-range _ _ _ t in
    wrote-exit c.from_residual-in_err-ue_to-2.ensures.1
    (wrote-judged _ t (wrote-▷ _ (ue-wrote (omega (arith, r.0)) c.in_ok-ue_to.ensures.wrote) (wrote-▷-first _ (ue-wrote r.1 c.in_err-ue_to-2.ensures.wrote))))

pub returns-in_err-ue_to-2-clause-within : goal.returns-in_err-ue_to-2-clause-within
unfolding ue_zeros count_leading_zeros
returns-in_err-ue_to-2-clause-within c = omega arith

pub ue_to-requires-3 : goal.ue_to-requires-3
unfolding ue_zeros count_leading_zeros
ue_to-requires-3 c = (omega arith, omega arith)

pub returns : goal.returns
unfolding ue_zeros count_leading_zeros
returns c =
    let t = c.args.bins.range in
    let r = in-range _ _ _ t in
    record {
      wrote =
          wrote-judged _ t
          (wrote-▷ _ (ue-wrote (omega (arith, r.0)) c.in_ok-ue_to.ensures.wrote) (wrote-▷ _ (ue-wrote r.1 c.in_ok-ue_to-2.ensures.wrote) (ue-wrote r.2 c.ue_to-3.ensures.wrote)));
      within = omega arith;
    }
