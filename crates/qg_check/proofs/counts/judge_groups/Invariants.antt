use Rattle.std.proofs.Common.{◌≡◌}
use Rattle.qg_image.specs.Table.{keys_of}
use Rattle.qg_image.specs.declared.quota.Quota.{Quota}
use Rattle.qg_image.specs.Members.{hierarchy_of}
use Rattle.qg_image.specs.State.{Layout}
use Rattle.qg_image.specs.Verdict.{group_failure}
use Rattle.qg_qgroup_counts.specs.Direct.{AreGroupCounts}
use Rattle.qg_check.proofs.Counters.{HaveJudged}
use Rattle.qg_check.proofs.counts.judge_groups.Given as goal

abbrev pub invariant-loop-i : goal.invariant-loop-i
invariant-loop-i l =
    (layout : Layout) (quota : Quota) → keys_of quota.groups ≡ keys_of l.groups
    → AreGroupCounts layout (hierarchy_of quota) l.counters
    → HaveJudged (group_failure layout quota) l.i l.groups
