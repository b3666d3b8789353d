use Rattle.qg_account.proofs.DeletionChanges.{deletion-change}
use Rattle.qg_account.proofs.SnapshotChanges.{snapshot-change}
use Rattle.qg_account.proofs.laws.snapshots_and_deletions_are_changes.Goals as goal

pub returns : goal.returns
returns c = record { snapshot = snapshot-change; deletion = deletion-change }
