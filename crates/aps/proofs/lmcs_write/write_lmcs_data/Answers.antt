-- `write_lmcs_data`: the head, the codewords, then the chroma delta.
use Rattle.std.proofs.Common.{rules, ◌≡◌, Err}
use mathlib.Core.Path.{refl}
use Rattle.aps.specs.LmcsSyntax.{lmcs, lmcs_syntax, from_lmcs}
use Rattle.aps.proofs.LmcsWrites.{curve-not}
use Rattle.aps.proofs.WriterLaws.{wrote-exit, wrote-not, wrote-via, wrote-▷, wrote-▷-first}
use Rattle.aps.proofs.lmcs_write.write_lmcs_data.Goals as goal

pub returns-in_err-bins-clause-wrote : goal.returns-in_err-bins-clause-wrote
returns-in_err-bins-clause-wrote c =
    let k = c.in_err-bins.ensures.err in
    let e : c.from_residual.result ≡ Err c.in_err-bins.field-0.0 = search rules in
    rw (e, k.0) (wrote-not (curve-not c.args.chroma c.args.curve.now k.1))

pub returns-in_err-put_head-clause-wrote : goal.returns-in_err-put_head-clause-wrote
unfolding lmcs lmcs_syntax from_lmcs
returns-in_err-put_head-clause-wrote c =
    let b = c.in_ok-bins.ensures.ok in
    wrote-exit c.from_residual-in_err-put_head.ensures.1 (wrote-via _ _ _ refl (wrote-▷-first _ (rw (b.0, b.1, b.2) at c.in_err-put_head.ensures.wrote)))

pub returns-in_err-put_codewords-clause-wrote : goal.returns-in_err-put_codewords-clause-wrote
unfolding lmcs lmcs_syntax from_lmcs
returns-in_err-put_codewords-clause-wrote c =
    let b = c.in_ok-bins.ensures.ok in
    wrote-exit c.from_residual-in_err-put_codewords.ensures.1
    (wrote-via _ _ _ refl (wrote-▷ _ (rw (b.0, b.1, b.2) at c.in_ok-put_head.ensures.wrote) (wrote-▷-first _ (rw (b.0, b.1, b.2) at c.in_err-put_codewords.ensures.wrote))))

pub returns-clause-wrote : goal.returns-clause-wrote
unfolding lmcs lmcs_syntax from_lmcs
returns-clause-wrote c =
    let b = c.in_ok-bins.ensures.ok in
    wrote-via _ _ _ refl
    (wrote-▷ _ (rw (b.0, b.1, b.2) at c.in_ok-put_head.ensures.wrote) (wrote-▷ _ (rw (b.0, b.1, b.2) at c.in_ok-put_codewords.ensures.wrote) (rw c.from.ensures at c.put_delta.ensures.wrote)))
