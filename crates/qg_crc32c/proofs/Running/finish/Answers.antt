use Rattle.std.proofs.Common.{refl}
use Rattle.qg_crc32c.specs.Crc32c.{crc32c_of}
use Rattle.qg_crc32c.proofs.Running.finish.Goals as goal

pub returns : goal.returns
unfolding crc32c_of
returns c = λ taken is. rw (c.self.view_is, is.is) refl
