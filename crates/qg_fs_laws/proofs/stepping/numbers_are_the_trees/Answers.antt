use Rattle.qg_fs_laws.proofs.Free.{space-told}
use Rattle.qg_fs_laws.proofs.Kept.{level-told}
use Rattle.qg_fs_laws.proofs.OtherWeight.{others-weigh}
use Rattle.qg_fs_laws.proofs.Others.{changes-told, weight-told}
use Rattle.qg_fs_laws.proofs.stepping.numbers_are_the_trees.Goals as goal

pub returns-clause-space : goal.returns-clause-space
returns-clause-space c = space-told

pub returns-clause-level : goal.returns-clause-level
returns-clause-level c = level-told

pub returns-clause-weight : goal.returns-clause-weight
returns-clause-weight c = λ fs history bytes state mine files names kept keeps recorded others.
    weight-told fs history bytes state mine files kept keeps names recorded others

pub returns-clause-others : goal.returns-clause-others
returns-clause-others c = others-weigh

pub returns-clause-changes : goal.returns-clause-changes
returns-clause-changes c = changes-told
