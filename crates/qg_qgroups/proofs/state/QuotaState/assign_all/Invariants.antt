use Rattle.std.proofs.Common.{◌≡◌, ℕ, take}
use Rattle.std.specs.Prelude.{◌==◌}
use Rattle.std.specs.List.{fold, list_any}
use Rattle.qg_qgroups.specs.Limit.{SameHeld}
use Rattle.qg_machine.specs.GroupChange.{assigned, has_pair}
use Rattle.qg_qgroups.specs.Tracked.{IsTracked}
use Rattle.qg_qgroups.proofs.state.QuotaState.assign_all.Given as goal

-- the group is a member of those so far, and of no other
abbrev pub invariant-loop-parent : goal.invariant-loop-parent
invariant-loop-parent l = record {
  tracked : IsTracked l.self;
  quota : l.self.quota ≡ fold (λ made parent. assigned l.member parent made) l.initial.self.quota
      (take l.parent-index l.parents);
  groups : l.self.quota.groups ≡ l.initial.self.quota.groups;
  pairs : (parent : ℕ) → has_pair l.member parent l.self.quota.pairs ≡ list_any (λ other. other == parent)
      (take l.parent-index l.parents);
  held : SameHeld l.initial.self.limits l.self.limits;
}
