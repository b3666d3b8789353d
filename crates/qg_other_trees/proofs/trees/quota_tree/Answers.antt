use Rattle.std.proofs.lemmas.Result.{IfOk-weaker}
use Rattle.qg_other_trees.specs.Trees.{QuotaTells}
use Rattle.qg_other_trees.proofs.Enough.{few_nodes}
use Rattle.qg_other_trees.proofs.trees.quota_tree.Goals as goal

pub build-requires-clause-room : goal.build-requires-clause-room
build-requires-clause-room c = rw c.in_ok-items.ensures.weight c.requires.slots.enough

pub returns-clause-tree : goal.returns-clause-tree
returns-clause-tree c =
    let told : QuotaTells c.args.next c.args.quota.now c.in_ok-items.items =
    record { written = c.in_ok-items.ensures.exact; told = c.in_ok-items.ensures.told } in
    IfOk-weaker c.build.result _ _
    (λ built stands. record {
      items = c.in_ok-items.items;
      stands = stands;
      allowed = c.in_ok-items.ensures.allowed;
      told = told;
    })
    (rw c.new.ensures at c.build.ensures)

pub returns-clause-few : goal.returns-clause-few
returns-clause-few c =
    IfOk-weaker c.build.result _ _
    (λ built stands.
    rw (← c.in_ok-items.ensures.weight)
    (few_nodes c.args.nodesize c.new.result c.args.next c.in_ok-items.items c.args.slots.now built.nodes built.root
    built.level
    stands))
    c.build.ensures
