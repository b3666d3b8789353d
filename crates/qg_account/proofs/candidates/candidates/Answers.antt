use Rattle.std.proofs.Common.{ℕ, List, ap, ◌∙◌}
use Rattle.std.specs.Prelude.{◌||◌}
use Rattle.std.proofs.lemmas.List.{get_or_default}
use Rattle.qg_qgroups.specs.Groups.{has_number}
use Rattle.qg_account.specs.Standing.{groups_with}
use Rattle.qg_account.proofs.GroupMembers.{candidates-more}
use Rattle.qg_account.proofs.candidates.candidates.Goals as goal

pub loop-sub-preserved : goal.loop-sub-preserved
loop-sub-preserved c =
    let hierarchy = c.args.hierarchy.now in
    let subs = c.args.subs.now in
    let i = c.loop-sub.sub-index in
    let sub = c.sub-item.result in
    let short = c.loop-sub-test.true in
    let groups =
    c.as_slice.ensures ∙ c.in_ok-groups.ensures
    ∙ ap (groups_with hierarchy) (c.sub-item.is ∙ get_or_default subs i sub 0 short) in
    record {
      has = λ group.
          candidates-more hierarchy subs i group (has_number group c.loop-sub.found.keys)
          (has_number group c.put_all.new.numbers.keys) short (c.loop-sub.invariant.has group)
          (c.in_ok-put_all.ensures.has group
          ∙ ap (λ (ns : List ℕ). has_number group ns || has_number group c.loop-sub.found.keys) groups);
      ordered = c.put_all.ensures.ordered;
    }
