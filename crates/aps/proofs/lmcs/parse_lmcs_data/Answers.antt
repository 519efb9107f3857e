-- `parse_lmcs_data`: the head, the codewords, then the chroma delta, whose 3 bits fit a byte.
use mathlib.Core.Path.{sym, ap}
use native.Mathlib.Omega.{arith}
use Rattle.aps.specs.Elements.{no_signed}
use Rattle.aps.specs.ApsSyntax.{zero_lmcs}
use Rattle.aps.specs.LmcsSyntax.{lmcs, lmcs_syntax, to_lmcs}
use Rattle.aps.specs.declared.lmcs.VvcLmcsData.{VvcLmcsData}
use Rattle.aps.proofs.FieldSteps.{signed-u-lt}
use Rattle.aps.proofs.ReaderLaws.{fills-exit, reads-via, reads-▷, reads-▷-first, reads-sent, reads-unsent, stays}
use Rattle.aps.proofs.lmcs.parse_lmcs_data.Goals as goal

pub returns-in_err-bins : goal.returns-in_err-bins
unfolding lmcs lmcs_syntax
returns-in_err-bins c = fills-exit _ _ _ _ c.from_residual.ensures.1 (reads-via _ _ _ (reads-▷-first _ c.in_err-bins.ensures))

pub read_codewords-requires : goal.read_codewords-requires
unfolding zero_lmcs
read_codewords-requires c = (ap (λ (d : VvcLmcsData). d.lmcs_delta_abs_cw) c.requires, ap (λ (d : VvcLmcsData). d.lmcs_delta_sign_cw_flag) c.requires)

pub returns-in_err-read_codewords : goal.returns-in_err-read_codewords
unfolding lmcs lmcs_syntax
returns-in_err-read_codewords c =
    fills-exit _ _ _ _ c.from_residual-in_err-read_codewords.ensures.1 (reads-via _ _ _ (reads-▷ _ c.in_ok-bins.ensures (reads-▷-first _ c.in_err-read_codewords.ensures)))

pub returns-then-not-chroma : goal.returns-then-not-chroma
unfolding lmcs lmcs_syntax to_lmcs zero_lmcs
returns-then-not-chroma c =
    rw (ap (λ (d : VvcLmcsData). d.lmcs_delta_abs_crs) c.requires, ap (λ (d : VvcLmcsData). d.lmcs_delta_sign_crs_flag) c.requires)
    (reads-via _ _ _ (reads-▷ _ c.in_ok-bins.ensures (reads-▷ _ c.in_ok-read_codewords.ensures (reads-unsent _ _ no_signed c.if-not-chroma.true stays))))

pub returns-in_err-abs : goal.returns-in_err-abs
unfolding lmcs lmcs_syntax
returns-in_err-abs c =
    fills-exit _ _ _ _ c.from_residual-in_err-abs.ensures.1
    (reads-via _ _ _ (reads-▷ _ c.in_ok-bins.ensures (reads-▷ _ c.in_ok-read_codewords.ensures (reads-sent _ _ c.if-not-chroma.false c.in_err-abs.ensures))))

pub overflow_cast-d : goal.overflow_cast-d
overflow_cast-d c = record { fits = omega (arith, signed-u-lt 3 _ _ (sym c.in_ok-abs.ensures.field)) }

pub returns : goal.returns
unfolding lmcs lmcs_syntax to_lmcs
returns c = reads-via _ _ _ (reads-▷ _ c.in_ok-bins.ensures (reads-▷ _ c.in_ok-read_codewords.ensures (reads-sent _ _ c.if-not-chroma.false c.in_ok-abs.ensures)))
