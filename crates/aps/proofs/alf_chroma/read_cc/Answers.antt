-- `read_cc`: the count, then the coefficients.
use Rattle.aps.specs.AlfSyntax.{cc_syntax, to_cc}
use Rattle.aps.proofs.AlfSteps.{blank-cc, cc-sent, cc-unsent}
use Rattle.aps.proofs.ReaderLaws.{reads-▷, reads-▷-first, reads-most, fills-exit}
use Rattle.aps.proofs.alf_chroma.read_cc.Goals as goal

pub returns-then-not-signal : goal.returns-then-not-signal
returns-then-not-signal c = cc-unsent c.if-not-signal.true c.requires

pub returns-in_err-count_minus1 : goal.returns-in_err-count_minus1
unfolding cc_syntax
returns-in_err-count_minus1 c = fills-exit _ _ _ _ c.from_residual.ensures.1 (cc-sent c.if-not-signal.false (reads-▷-first _ c.in_err-count_minus1.ensures))

pub read_cc_coefficients-requires : goal.read_cc_coefficients-requires
read_cc_coefficients-requires c = let (a, s) = blank-cc c.requires in (reads-most 3 c.in_ok-count_minus1.ensures, a, s)

pub returns-in_err-read_cc_coefficients : goal.returns-in_err-read_cc_coefficients
unfolding cc_syntax
returns-in_err-read_cc_coefficients c =
    fills-exit _ _ _ _ c.from_residual-in_err-read_cc_coefficients.ensures.1
    (cc-sent c.if-not-signal.false (reads-▷ _ c.in_ok-count_minus1.ensures c.in_err-read_cc_coefficients.ensures.field))

pub returns : goal.returns
unfolding cc_syntax to_cc
returns c =
    rw (← c.read_cc_coefficients.ensures.others) at (cc-sent c.if-not-signal.false (reads-▷ _ c.in_ok-count_minus1.ensures c.in_ok-read_cc_coefficients.ensures.field))
