-- `eight`: one byte after the other.
use mathlib.Core.Path.{◌∙◌}
use native.Mathlib.Omega.{arith}
use Rattle.std.proofs.Common.{rules}
use Rattle.bitstream.proofs.WindowLaws.{field-eight}
use Rattle.bitstream.proofs.window.eight.Goals as goal

pub returns : goal.returns
returns c = c.from_be_bytes.ensures ∙ field-eight c.args.bytes.now c.unwrap.result.now c.args.i (λ j. omega (arith, c.type_inv.bytes j)) (search rules)
