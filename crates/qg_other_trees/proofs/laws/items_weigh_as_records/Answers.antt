use Rattle.std.proofs.Common.{ℕ}
use Rattle.std.proofs.lemmas.List.Elements.{recursion_from_All}
use Rattle.qg_refs.specs.declared.kept.Kept.{Kept}
use Rattle.qg_refs.specs.Counts.{Ascend}
use Rattle.qg_extents.proofs.Sayable.{entry-may}
use Rattle.qg_other_trees.proofs.Bound.{records_within}
use Rattle.qg_other_trees.proofs.Weight.{records_weigh}
use Rattle.qg_other_trees.proofs.laws.items_weigh_as_records.Goals as goal

pub returns-clause-weigh : goal.returns-clause-weigh
returns-clause-weigh c book is =
    records_weigh book is.ascend
    (recursion_from_All (λ (entry : ℕ × Kept). Ascend entry.1.references) book
    (λ i d inside. (entry-may book i d is inside).sound.ascend))

pub returns-clause-within : goal.returns-clause-within
returns-clause-within c = records_within
