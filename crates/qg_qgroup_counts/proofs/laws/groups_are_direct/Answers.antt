use Rattle.qg_qgroup_counts.proofs.DirectCounts.{groups-direct}
use Rattle.qg_qgroup_counts.proofs.laws.groups_are_direct.Goals as goal

pub returns : goal.returns
returns c = record { direct = groups-direct }
