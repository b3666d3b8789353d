use Rattle.std.proofs.Common.{List, IfOk, map, sym, subst, ◌∙◌}
use Rattle.std.specs.List.Sorted.{IsStrictlyIncreasing}
use Rattle.qg_owner_rule.specs.declared.linked.Linked.{Linked}
use Rattle.qg_qgroup_counts.specs.Reached.{TellsReach}
use Rattle.qg_qgroup_counts.proofs.PortionWeights.{links_ascend}
use Rattle.qg_qgroup_counts.proofs.links.reached_of.Goals as goal

pub reached_from-requires : goal.reached_from-requires
reached_from-requires c =
    subst (λ (links : List Linked). IsStrictlyIncreasing (map (λ (link : Linked). link.address) links))
    (sym (c.as_slice.ensures.value ∙ c.in_ok-links.ensures)) (links_ascend c.args.nodes.now c.requires)

pub returns : goal.returns
returns c =
    subst (λ (links : List Linked). IfOk c.reached_from.result (λ reached. TellsReach links c.args.roots.now reached))
    (c.as_slice.ensures.value ∙ c.in_ok-links.ensures) c.reached_from.ensures
