-- `bitstream_se_by_table`: what the library answers, handed on.
use Rattle.kendwyra.proofs.SePlace.{se-fits}
use Rattle.kendwyra.proofs.fields.bitstream_se_by_table.Goals as goal

pub signed-requires : goal.signed-requires
signed-requires c = rw c.se_by_table.ensures.field (se-fits _ _)
