use Rattle.std.proofs.Common.{arith}
use Rattle.qg_words.proofs.spelling.is_option.Goals as goal

pub returns : goal.returns
returns c = c.starts_with.ensures.byte (omega arith) (omega arith) (λ word found finds. finds)
