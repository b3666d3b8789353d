use Rattle.std.proofs.Common.{◌+◌, ◌++◌, List, [], ◌∷◌, length, map, arith, refl, sym, ap, subst, ◌∙◌}
use Rattle.std.specs.Prelude.{◌==◌}
use Rattle.std.specs.List.{IsDistinct}
use Rattle.std.proofs.lemmas.List.{append-nil}
use Rattle.qg_node.specs.declared.node.Node.{Node}
use Rattle.qg_node_alloc.specs.Tellings.{Telling}
use Rattle.qg_node_alloc.specs.Tellings.Telling.{Made}
use Rattle.qg_node_alloc.proofs.Lands.{Rests-draft}
use Rattle.qg_tree_layout.specs.Row.{address_of}
use Rattle.qg_tree_read.specs.Tree.{Root}
use Rattle.qg_tree_build.specs.Building.{IsBuildTold, IsBuiltIn, most_nodes}
use Rattle.qg_tree_build.proofs.Laid.{all-laid, drafted-last, free-last, laying-more, laying-none, none-left}
use Rattle.qg_tree_build.proofs.Laid.{rests-last, sound-last, split-last, whole-long}
use Rattle.qg_tree_build.proofs.Laid.{whole-more}
use Rattle.qg_tree_build.proofs.Standing.{IsBuildTold-laid, IsBuiltIn-laid}
use Rattle.qg_tree_build.proofs.Telling.{log-more, log-none, slots_laid}
use Rattle.qg_tree_build.proofs.building.build.Goals as goal

pub nodes-init : goal.nodes-init
nodes-init g c =
    let land = c.args.land.now in
    let history = g.D.Disk.history c.args.disk.now in
    let nodes = c.in_ok-nodes.field-0.nodes in
    let plan = c.in_ok-nodes.ensures in
    let editable = c.requires.ready.editable in
    let rests = Rests-draft land land history c.args.next refl refl refl editable.backed editable.drafted in
    let apart = subst (λ (ns : List Node). IsDistinct (λ a b. a == b) (map address_of ns)) (sym (append-nil nodes))
    plan.apart in
    record {
      laid = [];
      whole = sym (append-nil nodes);
      laying = laying-none land history c.args.owner c.args.next nodes rests plan.free apart plan.built.made;
      stands = c.requires.stands;
      settled = λ settled. settled;
      told = λ before log follows.
          subst (λ (l : List Telling). g.B.Book.follows before l c.args.book.now) (log-none log) follows;
      history = refl;
      size = refl;
      later = omega arith;
      reads = omega arith;
    }

pub lay_node-requires-clause-ready : goal.lay_node-requires-clause-ready
lay_node-requires-clause-ready g c =
    let laying = c.nodes.invariant.laying in
    let history = g.D.Disk.history c.nodes.disk in
    let parts = split-last c.args.land.now c.nodes.land history c.args.owner c.args.next c.nodes.nodes
    c.remove-node.new.self c.nodes.invariant.laid c.remove-node.result c.is_empty.result c.len-last.result
    c.is_empty.ensures c.nodes-test.true c.len-last.ensures c.remove-node.ensures.taken
    c.remove-node.ensures.left laying in
    let land = c.args.land.now in
    let laid = c.nodes.invariant.laid in
    record {
      backed = laying.rests.backed;
      drafted = drafted-last land c.nodes.land history c.args.owner c.args.next c.remove-node.new.self laid
          c.remove-node.result parts.laying;
      sound = sound-last land c.nodes.land history c.args.owner c.args.next c.remove-node.new.self laid
          c.remove-node.result parts.laying;
      free = free-last land c.nodes.land history c.args.owner c.args.next c.remove-node.new.self laid
          c.remove-node.result parts.laying;
    }

pub nodes-preserved : goal.nodes-preserved
nodes-preserved g c =
    let node = c.remove-node.result in
    let invariant = c.nodes.invariant in
    let laying = c.nodes.invariant.laying in
    let parts = split-last c.args.land.now c.nodes.land (g.D.Disk.history c.nodes.disk) c.args.owner c.args.next
    c.nodes.nodes c.remove-node.new.self c.nodes.invariant.laid c.remove-node.result c.is_empty.result c.len-last.result
    c.is_empty.ensures c.nodes-test.true c.len-last.ensures c.remove-node.ensures.taken
    c.remove-node.ensures.left laying in
    let made = c.in_ok-lay_node.ensures in
    let rests = rests-last c.args.land.now c.nodes.land (g.D.Disk.history c.nodes.disk) c.args.owner c.args.next
    c.remove-node.new.self invariant.laid node parts.laying c.lay_node.new.land
    (g.D.Disk.history c.lay_node.new.disk) made.rests.rests in
    record {
      laid = node ∷ invariant.laid;
      whole = whole-more c.in_ok-nodes.field-0.nodes c.nodes.nodes c.remove-node.new.self invariant.laid node
          invariant.whole parts.is;
      laying = laying-more c.args.land.now c.nodes.land (g.D.Disk.history c.nodes.disk) c.args.owner c.args.next
          c.remove-node.new.self invariant.laid node parts.laying c.lay_node.new.land
          (g.D.Disk.history c.lay_node.new.disk) made.made made.takes rests;
      stands = made.book.stands;
      settled = λ settled. made.book.settled (invariant.settled settled);
      told = λ before log follows.
          subst (λ (l : List Telling). g.B.Book.follows before l c.lay_node.new.book) (log-more log node invariant.laid)
          (made.told before (log ++ map Made (slots_laid invariant.laid)) (invariant.told before log follows));
      history = made.rests.history ∙ invariant.history;
      size = made.rests.size ∙ invariant.size;
      later = let first = invariant.later in let second = made.fails.cause.fine in omega (arith, first, second);
      reads = let late = made.reads in let early = invariant.reads in omega (arith, late, early);
    }

pub returns-in_err-lay_node-clause-reads : goal.returns-in_err-lay_node-clause-reads
returns-in_err-lay_node-clause-reads g c =
    let node = c.remove-node.result in
    let invariant = c.nodes.invariant in
    let laying = c.nodes.invariant.laying in
    let parts = split-last c.args.land.now c.nodes.land (g.D.Disk.history c.nodes.disk) c.args.owner c.args.next
    c.nodes.nodes c.remove-node.new.self c.nodes.invariant.laid c.remove-node.result c.is_empty.result c.len-last.result
    c.is_empty.ensures c.nodes-test.true c.len-last.ensures c.remove-node.ensures.taken
    c.remove-node.ensures.left laying in
    let nodes = c.in_ok-nodes.field-0.nodes in
    let whole = whole-more nodes c.nodes.nodes c.remove-node.new.self invariant.laid node invariant.whole parts.is in
    let bound = most_nodes c.args.land.now.space.sizes.nodesize c.args.items.now in
    let few = whole-long nodes c.remove-node.new.self invariant.laid node bound whole c.in_ok-nodes.ensures.built.few in
    let late = c.lay_node.ensures.reads in
    let early = invariant.reads in
    omega (arith, late, early, few)

pub returns-clause-reads : goal.returns-clause-reads
returns-clause-reads g c =
    let invariant = c.nodes.invariant in
    let nodes = c.in_ok-nodes.field-0.nodes in
    let none = none-left c.nodes.nodes c.is_empty.result c.is_empty.ensures c.nodes-test.false in
    let done = all-laid c.args.land.now c.nodes.land (g.D.Disk.history c.nodes.disk) c.args.owner c.args.next nodes
    c.nodes.nodes invariant.laid invariant.whole none invariant.laying in
    let bound = most_nodes c.args.land.now.space.sizes.nodesize c.args.items.now in
    let few = c.in_ok-nodes.ensures.built.few in
    let same = ap (λ (ns : List Node). length ns) done.0 in
    let early = invariant.reads in
    omega (arith, early, few, same)

pub returns-clause-built : goal.returns-clause-built
returns-clause-built g c history =
    let invariant = c.nodes.invariant in
    let nodes = c.in_ok-nodes.field-0.nodes in
    let none = none-left c.nodes.nodes c.is_empty.result c.is_empty.ensures c.nodes-test.false in
    let done = all-laid c.args.land.now c.nodes.land (g.D.Disk.history c.nodes.disk) c.args.owner c.args.next nodes
    c.nodes.nodes invariant.laid invariant.whole none invariant.laying in
    let bound = most_nodes c.args.land.now.space.sizes.nodesize c.args.items.now in
    let root = c.in_ok-nodes.field-0.root in
    let level = c.in_ok-nodes.field-0.level in
    let is = IsBuiltIn-laid g.P.TreePart.tree c.args.land.now c.nodes.land (g.D.Disk.history c.args.disk.now)
    (g.D.Disk.history c.nodes.disk) (g.D.Disk.size c.args.disk.now) c.args.owner c.args.next c.args.items.now nodes root
    level c.requires.ready c.in_ok-nodes.ensures done.1 history in
    subst (λ (r : Root). IsBuiltIn g.P.TreePart.tree r c.args.land.now c.nodes.land history c.args.owner c.args.next
    bound c.args.items.now) (sym c.at.ensures) is

pub returns-clause-told : goal.returns-clause-told
returns-clause-told g c before log follows =
    let invariant = c.nodes.invariant in
    let nodes = c.in_ok-nodes.field-0.nodes in
    let none = none-left c.nodes.nodes c.is_empty.result c.is_empty.ensures c.nodes-test.false in
    let done = all-laid c.args.land.now c.nodes.land (g.D.Disk.history c.nodes.disk) c.args.owner c.args.next nodes
    c.nodes.nodes invariant.laid invariant.whole none invariant.laying in
    let bound = most_nodes c.args.land.now.space.sizes.nodesize c.args.items.now in
    let root = c.in_ok-nodes.field-0.root in
    let level = c.in_ok-nodes.field-0.level in
    let told = subst (λ (ns : List Node). g.B.Book.follows before (log ++ map Made (slots_laid ns)) c.nodes.book) done.0
    (invariant.told before log follows) in
    let turns = λ (history : _). IsBuildTold-laid g.P.TreePart.tree c.args.land.now c.nodes.land
    (g.D.Disk.history c.args.disk.now) (g.D.Disk.history c.nodes.disk) (g.D.Disk.size c.args.disk.now) c.args.owner
    c.args.next c.args.items.now nodes root level c.requires.ready c.in_ok-nodes.ensures done.1 history in (
      slots_laid nodes,
      told,
      λ history.
          subst (λ (r : Root). IsBuildTold r c.args.land.now c.nodes.land history bound (slots_laid nodes))
          (sym c.at.ensures) (turns history),
    )
