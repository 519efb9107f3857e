-- `read_alternatives`: the loop has stored the first alternatives as rows.
use borrow.Author.Rules.{rules}
use mathlib.Core.Path.{◌≡◌, refl}
use Prim.Native.Nat.{◌+◌, ◌-◌, ◌*◌}
use native.Mathlib.Omega.{arith}
use lib.ListN.{length}
use Rattle.aps.proofs.AlternativeSteps.{rows-from, rows-more, rows-refused, rows-done}
use Rattle.aps.proofs.ReaderLaws.{fills-exit}
use Rattle.aps.proofs.RowLaws.{part-stored}
use Rattle.aps.proofs.alf_chroma.read_alternatives.Goals as goal

pub loop-row-init : goal.loop-row-init
loop-row-init c =
    let d = c.args.filters.now in
    record { rows = rows-from d.alf_chroma_clip_flag d.alf_chroma_num_alt_filters_minus1 c.requires.1 c.requires.2 c.requires.3; others = (refl, refl) }

pub returns-in_err-read_alternative-clause-field : goal.returns-in_err-read_alternative-clause-field
returns-in_err-read_alternative-clause-field c =
    let d = c.args.filters.now in
    fills-exit _ _ _ _ c.from_residual.ensures.1
    (rows-refused d.alf_chroma_clip_flag d.alf_chroma_num_alt_filters_minus1 c.loop-row.invariant.rows (omega arith) (omega arith) c.in_err-read_alternative.ensures)

pub loop-row-preserved : goal.loop-row-preserved
loop-row-preserved c =
    let o = c.loop-row in
    let R = o.invariant.rows in
    let d = c.args.filters.now in
    let k = c.read_alternative in
    let n : length k.new.abs ≡ 6 * o.row + 6 - 6 * o.row = search rules in
    let m : length k.new.sign ≡ 6 * o.row + 6 - 6 * o.row = search rules in
    let l : length k.new.clips ≡ 6 * o.row + 6 - 6 * o.row = search rules in
    record {
      rows =
          rw (
            part-stored o.filters.coeff_abs k.new.abs (6 * o.row) _ n (omega (arith, R.size-abs)),
            part-stored o.filters.coeff_sign k.new.sign (6 * o.row) _ m (omega (arith, R.size-sign)),
            part-stored o.filters.clip_idx k.new.clips (6 * o.row) _ l (omega (arith, R.size-clips)),
          )
          (rows-more d.alf_chroma_clip_flag d.alf_chroma_num_alt_filters_minus1 R k.new.abs k.new.sign k.new.clips (omega arith) (omega arith) (omega arith) (omega arith) (omega arith) c.in_ok-read_alternative.ensures);
      others = o.invariant.others;
    }

pub returns-clause-field : goal.returns-clause-field
returns-clause-field c =
    let d = c.args.filters.now in
    rows-done d.alf_chroma_clip_flag d.alf_chroma_num_alt_filters_minus1 c.loop-row.invariant.rows (omega arith) (omega arith)
