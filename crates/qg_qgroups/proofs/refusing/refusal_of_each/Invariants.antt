use Rattle.std.proofs.Common.{◌≡◌, [], Some, drop}
use Rattle.qg_qgroups.specs.OnOrOff.{parents_refusal}
use Rattle.qg_qgroups.proofs.refusing.refusal_of_each.Given as goal

-- none so far is refused
abbrev pub invariant-loop-parent : goal.invariant-loop-parent
invariant-loop-parent l =
    parents_refusal (Some l.state.quota) [] l.parents ≡ parents_refusal (Some l.state.quota) l.earlier.keys
    (drop l.parent-index l.parents)
