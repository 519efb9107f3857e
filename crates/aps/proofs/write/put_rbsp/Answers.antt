-- `put_rbsp`: the set, then its end, unless they are too long.
use mathlib.Core.Path.{sym, ◌∙◌}
use native.Mathlib.Omega.{arith}
use Rattle.aps.proofs.RbspWrites.{closed-exit, extension-sent, due-extended, due-plain, due-refused, due-long, due-written}
use Rattle.aps.proofs.write.put_rbsp.Goals as goal

pub returns-then-extension-clause-bytes : goal.returns-then-extension-clause-bytes
returns-then-extension-clause-bytes g c a e = due-extended a (extension-sent a e ∙ c.if-extension.true)

pub returns-in_err-put_set-clause-bytes : goal.returns-in_err-put_set-clause-bytes
returns-in_err-put_set-clause-bytes g c a e =
    closed-exit _ _ _ c.from_residual.ensures.1
    (due-refused a (c.in_err-put_set.ensures.wrote a (rw c.if-extension.false at e)) ∙ sym (due-plain a (extension-sent a e ∙ c.if-extension.false)))

pub returns-then-writer-clause-bytes : goal.returns-then-writer-clause-bytes
returns-then-writer-clause-bytes g c a e =
    due-long a c.args.writer.now c.put_set.new.writer c.trailing_bits.new.self c.requires.0 c.requires.1 (c.in_ok-put_set.ensures.wrote a (rw c.if-extension.false at e)) c.in_ok-trailing_bits.ensures.wrote (omega arith)
    ∙ sym (due-plain a (extension-sent a e ∙ c.if-extension.false))

pub returns-clause-bytes : goal.returns-clause-bytes
returns-clause-bytes g c a e =
    due-written a c.args.writer.now c.put_set.new.writer c.trailing_bits.new.self c.requires.0 c.requires.1 (c.in_ok-put_set.ensures.wrote a (rw c.if-extension.false at e)) c.in_ok-trailing_bits.ensures.wrote (omega arith)
    ∙ sym (due-plain a (extension-sent a e ∙ c.if-extension.false))
