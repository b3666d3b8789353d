use Rattle.std.proofs.Common.{◌≡◌, ℕ, ◌+◌, ◌*◌, ◌≤◌, List, ◌++◌, length, drop, sym, ap, subst, ◌∙◌, arith}
use Rattle.std.proofs.Common.{length-append}
use Rattle.qg_node.specs.declared.node.Node.{Node}
use Rattle.qg_node.specs.Nodes.{items_bytes}
use Rattle.qg_image.specs.Table.{keys_of}
use Rattle.qg_image.specs.Need.{nodes_filled}
use Rattle.qg_root_items.specs.Written.{quota_roots}
use Rattle.qg_extents.specs.Written.{items_of_book}
use Rattle.qg_other_trees.specs.Trees.{AreEnough, IsQuotaTreeOf, most_nodes, quota_nodes_laid, quota_tree_bytes}
use Rattle.qg_other_trees.specs.Trees.{quota_trees, root_tree_bytes}
use Rattle.qg_other_trees.proofs.Enough.{most_filled}
use Rattle.qg_other_trees.proofs.QuotaTree.{as_many, can_write, few_there, one_most, quota_low}
use Rattle.qg_other_trees.proofs.Slots.{AreEnough-drop, AreEnough-less}
use Rattle.qg_other_trees.proofs.laying.lay_other_trees.Goals as goal

-- how many nodes a tree has at most whose items take so many bytes
abbrev most : ℕ → ℕ → ℕ
most nodesize bytes = 5 * nodes_filled nodesize bytes + 1

-- so many nodes three trees have at most together
three_few : (roots extents quotas : List Node) (x y z : ℕ) → length extents ≤ x → length roots ≤ y → length quotas ≤ z
    → length (roots ++ extents ++ quotas) ≤ x + y + z
three_few roots extents quotas x y z first second third =
    omega (arith, length-append (roots ++ extents) quotas, length-append roots extents)

pub extent_tree-requires-clause-slots : goal.extent_tree-requires-clause-slots
extent_tree-requires-clause-slots c =
    rw c.node_size-nodesize.ensures.value
    (AreEnough-less c.args.slots.now _
    (most c.args.sizes.nodesize (items_bytes (items_of_book c.args.told.now.book.now)))
    c.requires.room (omega arith))

pub quota_tree_of-requires-clause-groups : goal.quota_tree_of-requires-clause-groups
quota_tree_of-requires-clause-groups c =
    can_write c.args.next (keys_of c.args.told.now.roots.now) c.args.told.now.quota.now c.requires.groups

pub quota_tree_of-requires-clause-slots : goal.quota_tree_of-requires-clause-slots
quota_tree_of-requires-clause-slots c =
    let nodesize = c.args.sizes.nodesize in
    let quota = c.args.told.now.quota.now in
    let book = items_bytes (items_of_book c.args.told.now.book.now) in
    let roots = root_tree_bytes (length c.args.told.now.roots.now) quota in
    let own = 5 * nodes_filled nodesize (quota_tree_bytes quota) + quota_trees quota in
    let few : length c.in_ok-extents.extents.nodes ≤ most_nodes nodesize book =
    rw (← c.node_size-nodesize.ensures.value) c.in_ok-extents.ensures.few in
    let extents : c.len.result ≤ most nodesize book = omega (arith, c.len.ensures, few, most_filled nodesize book) in
    let first = AreEnough-drop c.args.slots.now _ c.len.result (most nodesize book) (own + most nodesize roots)
    c.requires.room extents (omega (arith, one_most quota)) in
    rw (c.split_at.ensures.back, c.node_size-nodesize.ensures.value)
    (AreEnough-less _ (own + most nodesize roots) own first (omega arith))

-- the quota tree's nodes are told by the quota
pub quota_root-requires : goal.quota_root-requires
quota_root-requires c =
    quota_low c.node_size-nodesize.result c.args.next c.args.told.now.quota.now c.split_at.result.1.now
    c.in_ok-quotas.quotas c.in_ok-quotas.ensures.tree

pub root_tree-requires-clause-slots : goal.root_tree-requires-clause-slots
root_tree-requires-clause-slots c =
    let nodesize = c.args.sizes.nodesize in
    let quota = c.args.told.now.quota.now in
    let quotas = c.in_ok-quotas.quotas in
    let book = items_bytes (items_of_book c.args.told.now.book.now) in
    let roots = root_tree_bytes (length c.args.told.now.roots.now) quota in
    let own = 5 * nodes_filled nodesize (quota_tree_bytes quota) + quota_trees quota in
    let few : length c.in_ok-extents.extents.nodes ≤ most_nodes nodesize book =
    rw (← c.node_size-nodesize.ensures.value) c.in_ok-extents.ensures.few in
    let extents : c.len.result ≤ most nodesize book = omega (arith, c.len.ensures, few, most_filled nodesize book) in
    let first = AreEnough-drop c.args.slots.now _ c.len.result (most nodesize book) (own + most nodesize roots)
    c.requires.room extents (omega (arith, one_most quota)) in
    let few_quotas : length (quota_nodes_laid quotas) ≤ quota_trees quota * most_nodes nodesize
    (quota_tree_bytes quota) =
    rw (← c.node_size-nodesize.ensures.value) c.in_ok-quotas.ensures.few in
    let taken : c.quota_len.result ≤ own = subst (λ (n : ℕ). n ≤ own) (sym c.quota_len.ensures)
    (few_there nodesize quota (length (quota_nodes_laid quotas)) few_quotas) in
    let second = AreEnough-drop _ (own + most nodesize roots) c.quota_len.result own (most nodesize roots) first taken
    (omega arith) in
    let there : AreEnough (most nodesize roots) c.split_at-2.result.1.now =
    rw (c.split_at-2.ensures.back, c.split_at.ensures.back) second in
    let sized : AreEnough (most c.node_size-nodesize.result roots) c.split_at-2.result.1.now =
    subst (λ (n : ℕ). AreEnough (most n roots) c.split_at-2.result.1.now) (sym c.node_size-nodesize.ensures.value)
    there in
    let named : quota_roots c.quota_root.result ≡ quota_trees quota = ap quota_roots c.quota_root.ensures.value
    ∙ as_many c.node_size-nodesize.result c.args.next quota c.split_at.result.1.now quotas
    c.in_ok-quotas.ensures.tree in
    subst
    (λ (n : ℕ). AreEnough (most c.node_size-nodesize.result (464 * (length c.args.told.now.roots.now + 1 + n)))
    c.split_at-2.result.1.now)
    (sym named) sized

pub root_tree-requires-clause-subvolumes : goal.root_tree-requires-clause-subvolumes
root_tree-requires-clause-subvolumes c = c.requires.subvolumes

pub returns-clause-trees : goal.returns-clause-trees
returns-clause-trees c =
    let quota = c.args.told.now.quota.now in
    let extents = c.in_ok-extents.extents in
    let quotas = c.in_ok-quotas.quotas in
    let behind : c.split_at.result.1.now ≡ drop (length extents.nodes) c.args.slots.now =
    c.split_at.ensures.back ∙ ap (λ (n : ℕ). drop n c.args.slots.now) c.len.ensures in
    let there = subst (λ (here : List ℕ). IsQuotaTreeOf c.node_size-nodesize.result c.args.next quota here quotas)
    behind
    c.in_ok-quotas.ensures.tree in
    record {
      subvolumes = c.requires.subvolumes;
      groups = c.requires.groups;
      extent_tree = rw c.node_size-nodesize.ensures.value at c.in_ok-extents.ensures.tree;
      quota_tree = subst
          (λ (n : ℕ). IsQuotaTreeOf n c.args.next quota (drop (length extents.nodes) c.args.slots.now) quotas)
          c.node_size-nodesize.ensures.value there;
      root_tree =
          rw (
            c.split_at-2.ensures.back,
            c.quota_len.ensures,
            behind,
            c.root_of.ensures.value,
            c.quota_root.ensures.value,
            c.node_size-nodesize.ensures.value,
          ) at c.in_ok-roots.ensures.tree;
      leads = c.superblock_of.ensures.value;
    }

pub returns-clause-few : goal.returns-clause-few
returns-clause-few c =
    let nodesize = c.args.sizes.nodesize in
    let quota = c.args.told.now.quota.now in
    let extents = c.in_ok-extents.extents.nodes in
    let quotas = quota_nodes_laid c.in_ok-quotas.quotas in
    let roots = c.in_ok-roots.roots.nodes in
    let few : length extents ≤ most_nodes nodesize (items_bytes (items_of_book c.args.told.now.book.now)) =
    rw (← c.node_size-nodesize.ensures.value) c.in_ok-extents.ensures.few in
    let few_quotas : length quotas ≤ quota_trees quota * most_nodes nodesize (quota_tree_bytes quota) =
    rw (← c.node_size-nodesize.ensures.value) c.in_ok-quotas.ensures.few in
    let named : quota_roots c.quota_root.result ≡ quota_trees quota = ap quota_roots c.quota_root.ensures.value
    ∙ as_many c.node_size-nodesize.result c.args.next quota c.split_at.result.1.now c.in_ok-quotas.quotas
    c.in_ok-quotas.ensures.tree in
    let sized = subst
    (λ (n : ℕ). length roots ≤ most_nodes n
    (464 * (length c.args.told.now.roots.now + 1 + quota_roots c.quota_root.result)))
    c.node_size-nodesize.ensures.value c.in_ok-roots.ensures.few in
    let few_roots : length roots ≤ most_nodes nodesize (root_tree_bytes (length c.args.told.now.roots.now) quota) =
    subst (λ (n : ℕ). length roots ≤ most_nodes nodesize (464 * (length c.args.told.now.roots.now + 1 + n))) named
    sized in
    three_few roots extents quotas _ _ _ few few_roots few_quotas
