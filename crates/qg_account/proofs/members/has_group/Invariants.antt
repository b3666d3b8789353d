use Rattle.std.proofs.Common.{◌≡◌, drop}
use Rattle.qg_qgroups.specs.Groups.{has_number}
use Rattle.qg_account.proofs.members.has_group.Given as goal

abbrev pub invariant-loop-one : goal.invariant-loop-one
invariant-loop-one l = has_number l.group l.groups ≡ has_number l.group (drop l.one-index l.groups)
