use Rattle.std.proofs.Common.{rules}
use Rattle.std.proofs.lemmas.Fn.{filter_same}
use Rattle.qg_space.specs.Run.{Run}
use Rattle.qg_space.proofs.runs.keep_present.Goals as goal

pub returns : goal.returns
returns c = filter_same _ (λ (run : Run). run.present) _ (λ x r f' k. search rules) _ _ c.retain.ensures.filtered
