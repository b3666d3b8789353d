use Rattle.qg_account.proofs.ChangeSteps.{changes-add-up}
use Rattle.qg_account.proofs.CountsByOwners.{one-list}
use Rattle.qg_account.proofs.GroupsAddUp.{changes-taken, groups-add-up}
use Rattle.qg_account.proofs.MovedGroups.{same-owners}
use Rattle.qg_account.proofs.laws.changes_add_up.Goals as goal

pub returns : goal.returns
returns c = record {
  counts = changes-add-up;
  groups = groups-add-up;
  taken = changes-taken;
  sizes = one-list;
  owners = same-owners;
}
