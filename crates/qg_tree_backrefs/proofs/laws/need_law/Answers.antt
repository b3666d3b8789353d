use Rattle.qg_tree_backrefs.proofs.Covered.{covers-need, leaves-need}
use Rattle.qg_tree_backrefs.proofs.laws.need_law.Goals as goal

pub returns-clause-covers : goal.returns-clause-covers
returns-clause-covers c nodesize level pieces height edits names before after is =
    covers-need nodesize level pieces height edits names before after is

pub returns-clause-leaves : goal.returns-clause-leaves
returns-clause-leaves c nodesize level pieces height edits names before after free left is enough taken =
    leaves-need nodesize level pieces height edits names before after free left is enough taken
