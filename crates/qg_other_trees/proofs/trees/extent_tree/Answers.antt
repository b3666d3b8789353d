use Rattle.std.proofs.lemmas.Result.{IfOk-weaker}
use Rattle.qg_image.specs.ItemMeaning.{extent_part}
use Rattle.qg_extents.specs.Written.{parts_of_book}
use Rattle.qg_other_trees.specs.Trees.{ExtentsTell}
use Rattle.qg_other_trees.proofs.Enough.{few_nodes}
use Rattle.qg_other_trees.proofs.Slots.{all_said}
use Rattle.qg_other_trees.proofs.trees.extent_tree.Goals as goal

pub build-requires-clause-room : goal.build-requires-clause-room
build-requires-clause-room c = rw c.in_ok-items.ensures.exact c.requires.slots.enough

pub returns-clause-tree : goal.returns-clause-tree
returns-clause-tree c =
    let items = c.in_ok-items.items in
    let book = c.args.book.now in
    let told : ExtentsTell book items = record {
      written = c.in_ok-items.ensures.exact;
      told = all_said extent_part items (parts_of_book book) c.in_ok-items.ensures.told;
    } in
    let allowed = c.in_ok-items.ensures.allowed c.args.next c.requires.known in
    IfOk-weaker c.build.result _ _
    (λ built stands. record { items = items; stands = stands; allowed = allowed; told = told })
    (rw c.new.ensures at c.build.ensures)

pub returns-clause-few : goal.returns-clause-few
returns-clause-few c =
    IfOk-weaker c.build.result _ _
    (λ built stands.
    rw (← c.in_ok-items.ensures.exact)
    (few_nodes c.args.nodesize c.new.result c.args.next c.in_ok-items.items c.args.slots.now built.nodes built.root
    built.level
    stands))
    c.build.ensures
