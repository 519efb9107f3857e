-- `se_value`: both signs fit, since the code is below 2 ^ 32 - 1.
use Rattle.bitstream.proofs.CodeLaws.{se-odd, se-odd-fits, se-even, se-even-fits}
use Rattle.bitstream.proofs.bit_reader.se_value.Goals as goal

pub overflow_cast-result : goal.overflow_cast-result
overflow_cast-result c = se-odd-fits _ c.requires c.if-k-eq1.true

pub overflow_sub-result : goal.overflow_sub-result
overflow_sub-result c = se-even-fits _ c.requires c.if-k-eq1.false

pub returns-then-k-eq1 : goal.returns-then-k-eq1
returns-then-k-eq1 c = se-odd _ c.requires c.if-k-eq1.true

pub returns-else-k-eq1 : goal.returns-else-k-eq1
returns-else-k-eq1 c = se-even _ c.requires c.if-k-eq1.false
