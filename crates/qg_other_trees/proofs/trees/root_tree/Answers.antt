use Rattle.std.proofs.lemmas.Result.{IfOk-weaker}
use Rattle.qg_items.specs.declared.root.RootItem.{RootItem}
use Rattle.qg_root_items.specs.Writable.{IsRootBy, IsWritableRoot}
use Rattle.qg_other_trees.specs.Trees.{RootsTell}
use Rattle.qg_other_trees.proofs.Enough.{few_nodes}
use Rattle.qg_other_trees.proofs.QuotaTree.{of_some}
use Rattle.qg_other_trees.proofs.trees.root_tree.Goals as goal

pub root_items-requires-clause-subvolumes : goal.root_items-requires-clause-subvolumes
root_items-requires-clause-subvolumes c = record {
  ascending = c.requires.subvolumes.ascending;
  numbers = c.requires.subvolumes.numbers;
  counted = c.requires.subvolumes.counted;
}

pub root_items-requires-clause-quotas : goal.root_items-requires-clause-quotas
root_items-requires-clause-quotas c =
    of_some (λ (root : RootItem). IsWritableRoot root × IsRootBy c.args.next root) IsWritableRoot c.args.own.now.quotas
    (λ root both. both.0) c.requires.quotas

pub build-requires-clause-room : goal.build-requires-clause-room
build-requires-clause-room c = rw c.in_ok-items.ensures.weight c.requires.slots.enough

pub returns-clause-tree : goal.returns-clause-tree
returns-clause-tree c =
    let own = c.args.own.now in
    let told : RootsTell own.extents c.args.subvolumes.now own.quotas c.in_ok-items.items =
    record { written = c.in_ok-items.ensures.exact; told = c.in_ok-items.ensures.told } in
    let quotas = of_some (λ (root : RootItem). IsWritableRoot root × IsRootBy c.args.next root)
    (IsRootBy c.args.next) own.quotas
    (λ root both. both.1) c.requires.quotas in
    let allowed = c.in_ok-items.ensures.allowed c.args.next c.requires.extents.1 c.requires.subvolumes.by quotas in
    IfOk-weaker c.build.result _ _
    (λ built stands. record { items = c.in_ok-items.items; stands = stands; allowed = allowed; told = told })
    (rw c.new.ensures at c.build.ensures)

pub returns-clause-few : goal.returns-clause-few
returns-clause-few c =
    IfOk-weaker c.build.result _ _
    (λ built stands.
    rw (← c.in_ok-items.ensures.weight)
    (few_nodes c.args.nodesize c.new.result c.args.next c.in_ok-items.items c.args.slots.now built.nodes built.root
    built.level
    stands))
    c.build.ensures
