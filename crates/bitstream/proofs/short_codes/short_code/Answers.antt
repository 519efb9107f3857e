-- `short_code`: the table says of a word what its zeros say.
use mathlib.Core.Path.{◌∙◌}
use native.Mathlib.Omega.{arith}
use Rattle.bitstream.proofs.WindowLaws.{table-code}
use Rattle.bitstream.proofs.short_codes.short_code.Goals as goal

pub returns : goal.returns
returns c = c.code_by_table.ensures ∙ table-code c.short_codes.ensures c.args.w (omega arith)
