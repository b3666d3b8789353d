use Rattle.qg_qgroup_counts.proofs.GroupsAbove.{found_group}
use Rattle.qg_qgroup_counts.proofs.groups_above.place_of_group.Goals as goal

pub returns : goal.returns
returns c =
    found_group c.args.groups.now c.args.group c.binary_search.result c.ok.result c.requires
    c.binary_search.ensures.position c.ok.ensures.value
