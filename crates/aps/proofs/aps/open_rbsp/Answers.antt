-- `open_rbsp`: kind, id and chroma flag.
use mathlib.Core.Path.{◌∙◌}
use native.Mathlib.Omega.{arith}
use Rattle.aps.specs.ApsSyntax.{aps, aps_syntax}
use Rattle.aps.proofs.ClipSteps.{read-lt}
use Rattle.aps.proofs.ReaderLaws.{reads-via, reads-▷, reads-▷-first}
use Rattle.aps.proofs.RbspSteps.{opened, opens-exit, open-refused, headed, other-kind, in-limits, too_long}
use Rattle.aps.proofs.aps.open_rbsp.Goals as goal

pub returns-then-bytes-gt-LONGEST_RBSP : goal.returns-then-bytes-gt-LONGEST_RBSP
returns-then-bytes-gt-LONGEST_RBSP c = too_long c.args.bytes.now (omega arith)

pub returns-in_err-number : goal.returns-in_err-number
unfolding aps aps_syntax
returns-in_err-number c =
    opens-exit _ _ _ c.from_residual.ensures.1 (open-refused (omega arith) c.new-reader.ensures (reads-via _ _ _ (reads-▷-first _ c.in_err-number.ensures)))

pub returns-in_err-id : goal.returns-in_err-id
unfolding aps aps_syntax
returns-in_err-id c =
    opens-exit _ _ _ c.from_residual-in_err-id.ensures.1 (open-refused (omega arith) c.new-reader.ensures (reads-via _ _ _ (reads-▷ _ c.in_ok-number.ensures (reads-▷-first _ c.in_err-id.ensures))))

pub returns-in_err-chroma : goal.returns-in_err-chroma
unfolding aps aps_syntax
returns-in_err-chroma c =
    opens-exit _ _ _ c.from_residual-in_err-chroma.ensures.1
    (open-refused (omega arith) c.new-reader.ensures (reads-via _ _ _ (reads-▷ _ c.in_ok-number.ensures (reads-▷ _ c.in_ok-id.ensures (reads-▷-first _ c.in_err-chroma.ensures)))))

pub overflow_cast-number : goal.overflow_cast-number
overflow_cast-number c = record { fits = omega (arith, read-lt 3 c.in_ok-number.ensures) }

pub returns-in_err-kind : goal.returns-in_err-kind
returns-in_err-kind c =
    let s = c.args.bytes.now in
    let h = headed (omega arith) c.new-reader.ensures c.in_ok-number.ensures c.in_ok-id.ensures c.in_ok-chroma.ensures in
    let k = c.in_err-kind.ensures in
    opens-exit _ _ _ c.from_residual-in_err-kind.ensures.1 (rw k.1 (in-limits s (omega arith) ∙ other-kind s _ _ _ h.0 k.0))

pub overflow_cast-head : goal.overflow_cast-head
overflow_cast-head c = record { fits = omega (arith, read-lt 5 c.in_ok-id.ensures) }

pub invariant_of-result : goal.invariant_of-result
invariant_of-result c =
    let h = headed (omega arith) c.new-reader.ensures c.in_ok-number.ensures c.in_ok-id.ensures c.in_ok-chroma.ensures in
    record { first = h.2; heading = rw (h.1, ← c.in_ok-kind.ensures) h.0 }

pub returns : goal.returns
returns c =
    let h = headed (omega arith) c.new-reader.ensures c.in_ok-number.ensures c.in_ok-id.ensures c.in_ok-chroma.ensures in
    opened (omega arith) h.1
