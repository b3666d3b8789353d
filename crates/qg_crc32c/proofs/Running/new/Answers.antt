use Rattle.std.proofs.Common.{refl}
use Rattle.qg_crc32c.specs.Crc32c.{remainder}
use Rattle.qg_crc32c.proofs.Running.new.Goals as goal

pub returns : goal.returns
unfolding remainder
returns c = record { is = refl }
