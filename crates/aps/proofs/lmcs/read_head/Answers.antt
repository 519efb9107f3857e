-- `read_head`: three codes one after another, then the judgement.
use Rattle.std.proofs.Common.{rules, ◌≡◌, Result, Ok, Err, IfOk, IfErr, ℕ, true, false}
use Rattle.bitstream.specs.Outcome.{value, map_outcome}
use Rattle.bitstream.specs.declared.Refusal.{Refusal}
use Rattle.bitstream.specs.declared.Refusal.TheVariants.{InvalidData}
use Rattle.aps.specs.Codec.{Codec, judged}
use Rattle.aps.specs.LmcsSyntax.{LmcsHead, in_range}
use Rattle.aps.specs.Reads.{given, Reads}
use Rattle.aps.specs.declared.lmcs.Bins.{Bins}
use Rattle.aps.specs.declared.reader.Reader.{Reader}
use Rattle.aps.proofs.ReaderLaws.{reads-▷, reads-▷-first, reads-judged, reads-not-judged, reads-judged-first}
use Rattle.aps.proofs.lmcs.read_head.Goals as goal

pub returns-in_err-min : goal.returns-in_err-min
returns-in_err-min c =
    let e : c.from_residual.result ≡ Err c.in_err-min.field-0.0 = search rules in
    rw e (reads-judged-first _ (reads-▷-first _ c.in_err-min.ensures))

pub returns-in_err-max : goal.returns-in_err-max
returns-in_err-max c =
    let e : c.from_residual-in_err-max.result ≡ Err c.in_err-max.field-0.0 = search rules in
    rw e (reads-judged-first _ (reads-▷ _ c.in_ok-min.ensures (reads-▷-first _ c.in_err-max.ensures)))

pub returns-in_err-prec : goal.returns-in_err-prec
returns-in_err-prec c =
    let e : c.from_residual-in_err-prec.result ≡ Err c.in_err-prec.field-0.0 = search rules in
    rw e (reads-judged-first _ (reads-▷ _ c.in_ok-min.ensures (reads-▷ _ c.in_ok-max.ensures c.in_err-prec.ensures)))

-- what is in range is given, the rest is refused
new-judged : {min max prec q : ℕ} {k : Codec LmcsHead} {before after : Reader} (r : Result Bins Refusal)
    → IfOk r (λ bins. (bins.min ≡ min) × (bins.max ≡ max) × (bins.prec ≡ prec)) → IfErr r (λ why. (why ≡ InvalidData) × (in_range (min, (max, prec)) ≡ false))
    → Reads k (value (min, (max, prec)) q) before after → Reads (judged in_range k) (map_outcome (λ (bins : Bins). (bins.min, (bins.max, bins.prec))) (given r q)) before after
new-judged {min} {max} {prec} (Ok bins) o e h =
    let t : in_range (min, (max, prec)) ≡ true = rw (o.0, o.1, o.2) at bins.range in
    rw (o.0, o.1, o.2) (reads-judged in_range t h)
new-judged (Err why) o e h = rw e.0 (reads-not-judged in_range e.1 h)

pub returns : goal.returns
returns c = new-judged c.new.result c.new.ensures.ok c.new.ensures.err (reads-▷ _ c.in_ok-min.ensures (reads-▷ _ c.in_ok-max.ensures c.in_ok-prec.ensures))
