use Rattle.std.proofs.Common.{ℕ, List, map, length, sym, ap, subst, ◌∙◌}
use Rattle.qg_num.specs.declared.counters.Counters.{Counters}
use Rattle.qg_image.specs.Table.{keys_of}
use Rattle.qg_image.specs.declared.quota.Group.{Group}
use Rattle.qg_image.specs.Members.{Hierarchy, hierarchy_of}
use Rattle.qg_image.specs.Failure.{first_failure}
use Rattle.qg_image.specs.Verdict.{group_failure}
use Rattle.qg_qgroup_counts.specs.Direct.{AreGroupCounts}
use Rattle.qg_check.proofs.Counters.{as_many, counts_judged}
use Rattle.qg_check.proofs.Staging.{fails_same}
use Rattle.qg_check.proofs.counts.judge_state.Goals as goal

pub judge_groups-requires : goal.judge_groups-requires
judge_groups-requires c =
    ap length c.as_slice-2.ensures.value
    ∙ as_many c.args.state.now c.in_ok-counters.counters.items c.requires.tracked c.in_ok-counters.ensures.all
    ∙ sym (ap length c.as_slice.ensures)

pub returns-clause-failure : goal.returns-clause-failure
returns-clause-failure c = λ layout are.
    let quota = c.args.state.now.quota in
    let own = subst (λ (hierarchy : Hierarchy). AreGroupCounts layout hierarchy c.in_ok-counters.counters.items)
    c.requires.tracked.same
    (c.in_ok-counters.ensures.direct layout are) in
    let direct = subst (λ (counters : List Counters). AreGroupCounts layout (hierarchy_of c.args.state.now.quota)
    counters) (sym c.as_slice-2.ensures.value) own in
    let judged = c.judge_groups.ensures.failure layout quota (ap keys_of (sym c.as_slice.ensures))
    direct in
    let same = counts_judged layout quota
    ∙ ap (λ (groups : List (ℕ × Group)). first_failure
    (map (group_failure layout quota) groups)) (sym c.as_slice.ensures) in
    fails_same c.judge_groups.result same judged
