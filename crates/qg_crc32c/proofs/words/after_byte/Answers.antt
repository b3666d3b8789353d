use Rattle.std.proofs.Common.{[], arith, sym}
use Rattle.qg_crc32c.proofs.WordLaws.{remainder-byte}
use Rattle.qg_crc32c.proofs.words.after_byte.Goals as goal

pub returns : goal.returns
returns c = sym (remainder-byte c.args.register c.args.byte (omega arith) [])
