use Rattle.std.proofs.Common.{rules}
use Rattle.std.proofs.lemmas.Fn.{filter_same}
use Rattle.qg_space.specs.Lying.{is_used}
use Rattle.qg_space.proofs.runs.keep_used.Goals as goal

pub returns : goal.returns
returns c = filter_same _ is_used _ (λ x r f' k. search rules) _ _ c.retain.ensures.filtered
