-- `code_in`: at most 8 zeros leave a code of at most 9 bits from its 1 bit on.
use mathlib.Core.Path.{refl}
use native.Mathlib.Omega.{arith}
use Rattle.bitstream.proofs.WindowLaws.{code-small, code-none, code-by-zeros}
use Rattle.bitstream.proofs.window.code_in.Goals as goal

pub returns-then-z-gt8 : goal.returns-then-z-gt8
returns-then-z-gt8 c = code-none c.args.w (omega arith)

pub overflow_cast-result : goal.overflow_cast-result
overflow_cast-result c = omega (arith, (code-small c.args.w (omega arith) (omega arith)).1)

pub overflow_sub-result-2 : goal.overflow_sub-result-2
overflow_sub-result-2 c = (code-small c.args.w (omega arith) (omega arith)).0

pub returns : goal.returns
returns c = code-by-zeros c.args.w (omega arith) refl refl
