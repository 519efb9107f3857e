-- `read_chroma`: the head, then the alternatives that it announces.
use mathlib.Core.Path.{sym, ◌∙◌}
use Rattle.aps.specs.AlfSyntax.{chroma_syntax, to_chroma}
use Rattle.aps.proofs.AlfSteps.{blank-chroma, chroma-sent, chroma-unsent}
use Rattle.aps.proofs.PairLaws.{firsts-zipped, seconds-zipped}
use Rattle.aps.proofs.ReaderLaws.{reads-▷, reads-▷-first, reads-most, fills-exit}
use Rattle.aps.proofs.alf_chroma.read_chroma.Goals as goal

pub returns-then-not-signal : goal.returns-then-not-signal
returns-then-not-signal c = chroma-unsent c.if-not-signal.true c.requires

pub returns-in_err-clip : goal.returns-in_err-clip
unfolding chroma_syntax
returns-in_err-clip c = fills-exit _ _ _ _ c.from_residual.ensures.1 (chroma-sent c.if-not-signal.false (reads-▷-first _ c.in_err-clip.ensures))

pub returns-in_err-count_minus1 : goal.returns-in_err-count_minus1
unfolding chroma_syntax
returns-in_err-count_minus1 c =
    fills-exit _ _ _ _ c.from_residual-in_err-count_minus1.ensures.1
    (chroma-sent c.if-not-signal.false (reads-▷ _ c.in_ok-clip.ensures (reads-▷-first _ c.in_err-count_minus1.ensures)))

pub read_alternatives-requires : goal.read_alternatives-requires
read_alternatives-requires c = let (a, s, k) = blank-chroma c.requires in (reads-most 7 c.in_ok-count_minus1.ensures, a, s, k)

pub returns-in_err-read_alternatives : goal.returns-in_err-read_alternatives
unfolding chroma_syntax
returns-in_err-read_alternatives c =
    fills-exit _ _ _ _ c.from_residual-in_err-read_alternatives.ensures.1
    (chroma-sent c.if-not-signal.false (reads-▷ _ c.in_ok-clip.ensures (reads-▷ _ c.in_ok-count_minus1.ensures c.in_err-read_alternatives.ensures.field)))

pub returns : goal.returns
unfolding chroma_syntax to_chroma
returns c =
    let k = c.read_alternatives in
    let d = k.new.filters in
    let same = k.ensures.sizes.0 ∙ sym k.ensures.sizes.1 in
    rw (firsts-zipped d.coeff_abs d.coeff_sign same, seconds-zipped d.coeff_abs d.coeff_sign same, ← k.ensures.others.0, ← k.ensures.others.1) at
    (chroma-sent c.if-not-signal.false (reads-▷ _ c.in_ok-clip.ensures (reads-▷ _ c.in_ok-count_minus1.ensures c.in_ok-read_alternatives.ensures.field)))
