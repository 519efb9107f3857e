-- `write_line`: three bytes more of the line stand after each byte.
use Rattle.std.proofs.Common.{◌≡◌, ◌*◌, ◌∙◌, refl, sym, ap, get_or, arith}
use Rattle.std.proofs.lemmas.List.{take_all}
use Rattle.small_sets.specs.Lines.{line}
use Rattle.small_sets.proofs.LineLaws.{length-line, piece, line-last, line-more, stands-more}
use Rattle.small_sets.proofs.lines.write_line.Goals as goal
use Rattle.small_sets.proofs.lines.write_line.Goals.{then-i-rbsp, else-i-rbsp}

pub overflow_mul-at : goal.overflow_mul-at
overflow_mul-at c = omega (arith, length-line c.args.rbsp.now)

pub overflow_add-at : goal.overflow_add-at
overflow_add-at c = omega (arith, length-line c.args.rbsp.now)

pub slice_bounds-copy_from_slice-end : goal.slice_bounds-copy_from_slice-end
slice_bounds-copy_from_slice-end c = omega (arith, length-line c.args.rbsp.now)

pub loop-i-preserved : goal.loop-i-preserved
loop-i-preserved c =
    let s = c.args.rbsp.now in
    let i = c.loop-i.i in
    let n = length-line s in
    let part = c.copy_from_slice.new.self in
    let put : part ≡ piece (get_or s i 0) c.if-i-rbsp.separator = c.copy_from_slice.ensures.after ∙ rw (c.digit.ensures, c.digit-in-loop-i.ensures) in
    elim c.if-i-rbsp.branch [
      | then-i-rbsp w ↦
          stands-more s c.loop-i.out part _ i (put ∙ ap (piece (get_or s i 0)) w.separator-is) refl (omega arith) c.loop-i.invariant (line-last s i 0 w.if-i-rbsp.true)
      | else-i-rbsp w ↦
          stands-more s c.loop-i.out part _ i (put ∙ ap (piece (get_or s i 0)) w.separator-is) refl (omega arith) c.loop-i.invariant (line-more s i 0 (omega arith))
    ]

pub returns : goal.returns
returns c =
    let n = length-line c.args.rbsp.now in
    sym (take_all (3 * c.loop-i.i) c.loop-i.out (omega arith)) ∙ c.loop-i.invariant ∙ take_all (3 * c.loop-i.i) (line c.args.rbsp.now) (omega arith)
