-- `put_line`: the part that the line is written into is just as long as it.
use Rattle.std.proofs.Common.{◌+◌, ◌-◌, ◌*◌, ◌∙◌, length, drop, arith}
use Rattle.std.proofs.lemmas.List.{length-take-le, length-drop}
use Rattle.small_sets.specs.Lines.{line}
use Rattle.small_sets.proofs.LineLaws.{length-line}
use Rattle.small_sets.proofs.PutLaws.{put-short}
use Rattle.small_sets.proofs.lines.put_line.Goals as goal

pub write_line-requires : goal.write_line-requires
write_line-requires c =
    let s = c.args.rbsp.now in
    let p = c.args.p in
    let n = length-line s in
    let d = length-drop p c.args.out.now in
    length-take-le (p + 3 * length s - p) (drop p c.args.out.now) (omega arith) ∙ omega arith

pub returns-else-q-out : goal.returns-else-q-out
returns-else-q-out c =
    let n = length-line c.args.rbsp.now in
    put-short (line c.args.rbsp.now) c.args.p _ c.args.out.now (omega arith) c.if-q-out.false
