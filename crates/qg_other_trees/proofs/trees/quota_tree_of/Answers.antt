use Rattle.std.proofs.Common.{◌+◌, ◌*◌, ◌≤◌, length, sym, subst, arith}
use Rattle.std.specs.Prelude.{Option, Some, None, IfSome}
use Rattle.qg_image.specs.Need.{nodes_filled}
use Rattle.qg_image.specs.declared.quota.Quota.{Quota}
use Rattle.qg_quota.specs.Writable.{AreWritableQuota}
use Rattle.qg_other_trees.specs.Trees.{AreEnough, IsQuotaTreeOf, most_nodes, quota_tree_bytes, quota_trees}
use Rattle.qg_other_trees.proofs.Enough.{most_filled}
use Rattle.qg_other_trees.proofs.trees.quota_tree_of.Goals as goal

pub quota_tree-requires-clause-groups : goal.quota_tree-requires-clause-groups
quota_tree-requires-clause-groups c =
    subst (λ (quota : Option Quota). IfSome quota (AreWritableQuota c.args.next)) c.in-Some.is c.requires.groups

pub quota_tree-requires-clause-slots : goal.quota_tree-requires-clause-slots
quota_tree-requires-clause-slots c =
    subst
    (λ (quota : Option Quota). AreEnough (5 * nodes_filled c.args.nodesize (quota_tree_bytes quota) + quota_trees quota)
    c.args.slots.now)
    c.in-Some.is c.requires.slots

pub returns-in_ok-built-in-Some-clause-tree : goal.returns-in_ok-built-in-Some-clause-tree
returns-in_ok-built-in-Some-clause-tree c =
    subst (λ (quota : Option Quota). IsQuotaTreeOf c.args.nodesize c.args.next quota c.args.slots.now
    (Some c.in_ok-built-in-Some.built))
    (sym c.in-Some.is) c.in_ok-built-in-Some.ensures.tree

pub returns-in_ok-built-in-Some-clause-few : goal.returns-in_ok-built-in-Some-clause-few
returns-in_ok-built-in-Some-clause-few c =
    let bytes = quota_tree_bytes (Some c.in-Some.quota) in
    let here : length c.in_ok-built-in-Some.built.nodes ≤ 1 * most_nodes c.args.nodesize bytes =
    omega (arith, c.in_ok-built-in-Some.ensures.few) in
    subst
    (λ (quota : Option Quota). length c.in_ok-built-in-Some.built.nodes
    ≤ quota_trees quota * most_nodes c.args.nodesize (quota_tree_bytes quota))
    (sym c.in-Some.is) here

pub returns-in_ok-built-in-Some-clause-there : goal.returns-in_ok-built-in-Some-clause-there
returns-in_ok-built-in-Some-clause-there c =
    let bytes = quota_tree_bytes (Some c.in-Some.quota) in
    let slots = subst
    (λ (quota : Option Quota). AreEnough (5 * nodes_filled c.args.nodesize (quota_tree_bytes quota) + quota_trees quota)
    c.args.slots.now)
    c.in-Some.is c.requires.slots in
    omega (arith, c.in_ok-built-in-Some.ensures.few, most_filled c.args.nodesize bytes, slots.enough)

pub returns-in-None-clause-tree : goal.returns-in-None-clause-tree
returns-in-None-clause-tree c =
    subst (λ (quota : Option Quota). IsQuotaTreeOf c.args.nodesize c.args.next quota c.args.slots.now None)
    (sym c.in-None.is) tt
