-- `bitstream_se`: what the library answers, handed on.
use Rattle.kendwyra.proofs.SePlace.{se-fits}
use Rattle.kendwyra.proofs.fields.bitstream_se.Goals as goal

pub signed-requires : goal.signed-requires
signed-requires c = rw c.se.ensures.field (se-fits _ _)
