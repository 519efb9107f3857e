-- `read_row`: zeros behind the coefficients.
use borrow.Author.Rules.{rules}
use mathlib.Core.Path.{◌≡◌, ap, ◌∙◌}
use lib.ListN.{length}
use lib.Seq.{length-take-le}
use Rattle.bitstream.specs.Outcome.{value}
use Rattle.hevc_scaling.proofs.FieldReads.{reading-exit}
use Rattle.hevc_scaling.proofs.RowLaws.{filled-is}
use Rattle.hevc_scaling.proofs.ListReads.{row-read}
use Rattle.hevc_scaling.proofs.scaling_list_data.read_row.Goals as goal

pub returns-in_err-end-clause-field : goal.returns-in_err-end-clause-field
returns-in_err-end-clause-field c =
    reading-exit _ _ c.from_residual.ensures.1 (row-read c.args.next_coef c.args.input.bytes.now c.args.at (length-take-le c.args.n _ c.requires.1) c.in_err-end.ensures.field)

pub returns-clause-field : goal.returns-clause-field
returns-clause-field c =
    let row = c.read_coefs.new.coefs in
    let n : length row ≡ c.args.n = search rules in
    ap (λ l. value l c.in_ok-end.end) (filled-is row c.args.n n c.requires.1) ∙ row-read c.args.next_coef c.args.input.bytes.now c.args.at (length-take-le c.args.n _ c.requires.1) c.in_ok-end.ensures.field
