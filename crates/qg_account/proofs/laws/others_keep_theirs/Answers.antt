use Rattle.qg_account.proofs.GroupMembers.{only-groups-above}
use Rattle.qg_account.proofs.PivotOwners.{others-keep-theirs}
use Rattle.qg_account.proofs.laws.others_keep_theirs.Goals as goal

pub returns : goal.returns
returns c = record { members = others-keep-theirs; above = only-groups-above }
