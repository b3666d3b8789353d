use Rattle.std.proofs.Common.{◌+◌, ℕ, [], ◌∙◌, append-nil, arith, refl, subst, sym, inr}
use Rattle.std.specs.Prelude.{List}
use Rattle.std.proofs.lemmas.Result.{IfOk-weaker}
use Rattle.qg_device.proofs.Causes.{cause-other}
use Rattle.qg_node.specs.declared.item.Item.{Item}
use Rattle.qg_shape.specs.Filled.{IsThin}
use Rattle.qg_node_alloc.specs.Tellings.{Telling}
use Rattle.qg_tree_edits.specs.declared.instead.Instead.{Instead}
use Rattle.qg_tree_edits.specs.Editing.{IsUnsettled}
use Rattle.qg_tree_edits.specs.Steps.{FailsToSettle, SetsPointers, SettlesItems}
use Rattle.qg_tree_read.specs.Tree.{super_of}
use Rattle.qg_edit.proofs.Leaves.{ok-known}
use Rattle.qg_tree_edits.proofs.Cutting.{ready-same, rewritten-moves, rewritten-rests, rewritten-spares}
use Rattle.qg_tree_edits.proofs.Levels.{rewritten-levels, rewritten-space}
use Rattle.qg_tree_edits.proofs.LeavesSettled.{ok-both, settled-high, settled-leaves}
use Rattle.qg_tree_edits.proofs.Served.{fresh-inner, instead-named, node-drafted, places-few, size-blocks}
use Rattle.qg_tree_edits.proofs.Served.{size-drafted, sizes-drafted}
use Rattle.qg_tree_edits.proofs.Settled.{settled, settled-told}
use Rattle.qg_tree_edits.proofs.Unjoined.{can-lead}
use Rattle.qg_tree_edits.proofs.Owners.{rewritten-owners}
use Rattle.qg_tree_edits.proofs.Naming.{names-weaker}
use Rattle.qg_tree_edits.proofs.Unfit.{misled-then}
use Rattle.qg_tree_edits.specs.Failing.{CantSettle, IsMisled, NamesOnly}
use Rattle.qg_tree_edits.proofs.Rewritten.{same_node}
use Rattle.qg_blocks.specs.NodesFound.{fresh_at}
use Rattle.qg_node.specs.declared.node.Node.{Node}
use Rattle.qg_num.specs.declared.rule.Rule.{Rule}
use Rattle.qg_blocks.specs.Stopping.{IsMisfit}
use Rattle.qg_blocks.proofs.Stopping.{misfit-refs}
use Rattle.qg_tree_edits.proofs.Stopped.{stops-names}
use Rattle.qg_tree_edits.proofs.settling.settle.Goals as goal

pub is_too_thin-requires-clause-size : goal.is_too_thin-requires-clause-size
is_too_thin-requires-clause-size g c = size-blocks c.args.land.now c.args.tree.now.next
    c.requires.ready.editable.drafted

-- ---- the child is joined

pub join_child-requires-clause-child : goal.join_child-requires-clause-child
join_child-requires-clause-child g c =
    let thin = c.is_too_thin.ensures.thin c.if-is_too_thin.true in
    let sizes = c.requires.ready.editable.drafted.sizes.nodesize in
    record {
      fresh = c.requires.child.now;
      thin = λ node here. subst (λ (n : ℕ). IsThin n node) sizes (thin.1 node here);
    }

pub returns-then-is_too_thin-clause-set : goal.returns-then-is_too_thin-clause-set
returns-then-is_too_thin-clause-set g c =
    let thin = c.is_too_thin.ensures.thin c.if-is_too_thin.true in
    subst (λ (child : Instead). SetsPointers c.args.tree.now c.args.level c.args.at child c.args.land.now
    c.join_child.new.land c.join_child.result) (sym thin.0) c.join_child.ensures.set

pub returns-then-is_too_thin-clause-settled : goal.returns-then-is_too_thin-clause-settled
returns-then-is_too_thin-clause-settled g c =
    let tree = g.P.TreePart.tree in
    let root = c.args.tree.now in
    let land = c.args.land.now in
    let history = g.D.Disk.history c.args.disk.now in
    let thin = c.is_too_thin.ensures.thin c.if-is_too_thin.true in
    subst (λ (child : Instead). (items : List Item)
    → (un : IsUnsettled tree root land history c.args.level c.args.at c.args.to c.args.place child items)
    → SettlesItems g.B.Book.follows tree root c.args.level c.args.at c.args.place child land c.join_child.new.land
    history un.pointers un.header items c.args.book.now c.join_child.new.book c.join_child.result)
    (sym thin.0) c.join_child.ensures.settled

pub returns-then-is_too_thin-clause-fails : goal.returns-then-is_too_thin-clause-fails
returns-then-is_too_thin-clause-fails g c =
    let thin = c.is_too_thin.ensures.thin c.if-is_too_thin.true in
    subst (λ (child : Instead). FailsToSettle g.P.TreePart.tree c.args.tree.now c.args.level c.args.at c.args.to
    c.args.place child c.args.land.now c.join_child.new.land (g.D.Disk.history c.args.disk.now)
    (g.D.Disk.faults c.args.disk.now) (g.D.Disk.faults c.join_child.new.disk) c.join_child.result)
    (sym thin.0) c.join_child.ensures.fails

-- ---- it stays

pub overflow_add-place : goal.overflow_add-place
overflow_add-place g c =
    let parent = c.requires.place.fresh in
    let drafted = c.requires.ready.editable.drafted in
    let inside = c.requires.place.inside parent.node parent.here in
    let few = places-few c.args.land.now.space.sizes.nodesize parent.node
    (size-drafted c.args.land.now c.args.tree.now.next drafted)
    (node-drafted c.args.land.now c.args.tree.now.next c.args.at parent.node drafted parent.here) in
    omega (arith, inside, few)

pub lead_to-requires-clause-sizes : goal.lead_to-requires-clause-sizes
lead_to-requires-clause-sizes g c = sizes-drafted c.args.land.now c.args.tree.now.next
    c.requires.ready.editable.drafted

pub lead_to-requires-clause-fresh : goal.lead_to-requires-clause-fresh
lead_to-requires-clause-fresh g c =
    instead-named c.args.land.now c.args.tree.now.next c.args.level c.args.child c.requires.ready.editable.drafted
    c.requires.child

pub lead_to-requires-clause-parent : goal.lead_to-requires-clause-parent
lead_to-requires-clause-parent g c =
    let land = c.args.land.now in
    let next = c.args.tree.now.next in
    let drafted = c.requires.ready.editable.drafted in
    let parent = c.requires.place.fresh in
    let inside = c.requires.place.inside parent.node parent.here in (
      parent.node,
      parent.here,
      fresh-inner land next c.args.level c.args.at parent.node drafted parent parent.here,
      node-drafted land next c.args.at parent.node drafted parent.here,
      omega (arith, inside),
    )

pub returns-clause-set : goal.returns-clause-set
returns-clause-set g c =
    let root = c.args.tree.now in
    let owner = root.owner in
    let land = c.args.land.now in
    let new = c.lead_to.new.land in
    let at = c.args.at in
    let parent = c.requires.place.fresh in
    let node = parent.node in
    let here = parent.here in
    let low = parent.levelled in
    let dated = (c.requires.ready.editable.drafted.each at node here).dated in
    let rewritten = c.lead_to.ensures.rewritten node here in
    let moved = rewritten-moves land new at root.next node here rewritten (c.args.level + 1) (omega (arith, low)) in
    let count = moved.count in
    let edited = rewritten-owners owner land new at node here rewritten in
    let stays = c.lead_to.ensures.rest node here in
    record {
      parent = IfOk-weaker c.lead_to.result _ _
          (λ rest cut. record { node = cut.stays.node; here = cut.stays.here; levelled = cut.stays.levelled ∙ low })
          stays;
      ready = IfOk-weaker c.lead_to.result _ _
          (λ rest cut. ready-same land.space.sizes.nodesize _ _ _ _ rest low dated cut.ready) stays;
      whole = c.lead_to.ensures.whole;
      moves = IfOk-weaker c.lead_to.result _ _ (λ rest cut. record {
        count = omega (arith, count);
        above = moved.above;
      }) stays;
      owners = IfOk-weaker c.lead_to.result _ _ (λ rest cut. edited) stays;
    }

pub returns-clause-settled : goal.returns-clause-settled
returns-clause-settled g c items un =
    let tree = g.P.TreePart.tree in
    let root = c.args.tree.now in
    let land = c.args.land.now in
    let new = c.lead_to.new.land in
    let history = g.D.Disk.history c.args.disk.now in
    let level = c.args.level in
    let at = c.args.at in
    let to = c.args.to in
    let place = c.args.place in
    let child = c.args.child in
    let drafted = c.requires.ready.editable.drafted in
    let full = c.is_too_thin.ensures.full c.if-is_too_thin.false in
    let can = can-lead tree root land history level at root.next to place child items drafted c.requires.child full
    un in
    let led = c.lead_to.ensures.led tree (super_of root land.blocks.draft) history level un.pointers un.header items
    can in
    record {
      settled = IfOk-weaker c.lead_to.result _ _
          (λ rest has. settled tree root land new history level at to place child items rest un can has) led;
      leaves = λ first single empty. ok-both c.lead_to.result _ _ _
          (λ rest has none. settled-leaves tree root land new history level at to place child items rest un can has
          first single none
          (settled-high tree root land new history level at to place child items rest un can has root.next
          c.requires.child.now (size-blocks land root.next drafted) (full single) empty))
          led (c.lead_to.ensures.whole single);
      told = λ before log follows. IfOk-weaker c.lead_to.result _ _
          (λ rest has. (
            [],
            subst (λ (ts : List Telling). g.B.Book.follows before ts c.args.book.now) (sym (append-nil log)) follows,
            settled-told tree root land new history level at to place child items rest un can has,
          ))
          led;
    }

pub returns-clause-fails : goal.returns-clause-fails
returns-clause-fails g c =
    let tree = g.P.TreePart.tree in
    let root = c.args.tree.now in
    let land = c.args.land.now in
    let new = c.lead_to.new.land in
    let history = g.D.Disk.history c.args.disk.now in
    let level = c.args.level in
    let at = c.args.at in
    let to = c.args.to in
    let place = c.args.place in
    let child = c.args.child in
    let drafted = c.requires.ready.editable.drafted in
    let full = c.is_too_thin.ensures.full c.if-is_too_thin.false in
    let parent = c.requires.place.fresh in
    let mine = parent.node in
    let there = parent.here in
    let rewritten = c.lead_to.ensures.rewritten mine there in
    record {
      sound = λ events told_is items un.
          let can = can-lead tree root land history level at root.next to place child items drafted c.requires.child
          full un in
          c.lead_to.ensures.fails.sound tree (super_of root land.blocks.draft) history level un.pointers un.header
          items can;
      broken = λ node here events told_is.
          let names = names-weaker c.lead_to.result (IsMisled land mine place (place + 1) child)
          (CantSettle tree root new events mine at to level place child.now)
          (λ rule address bad. inr (inr (misled-then land new at level mine there parent.levelled rewritten place
          (place + 1) place child rule address (omega arith) (omega arith) c.requires.child bad)))
          (c.lead_to.ensures.fails.broken mine there) in
          subst (λ (n : Node). NamesOnly (CantSettle tree root new events n at to level place child.now)
          c.lead_to.result) (same_node (fresh_at land.blocks.draft at) mine node there here) names;
      cause = cause-other (g.D.Disk.faults c.args.disk.now) (g.D.Disk.faults c.args.disk.now) c.lead_to.result
          (omega arith) c.lead_to.ensures.fails.no_disk;
    }

-- ---- what is left so

pub returns-clause-rests : goal.returns-clause-rests
returns-clause-rests g c =
    let parent = c.requires.place.fresh in
    let editable = c.requires.ready.editable in
    record {
      rests = rewritten-rests c.args.land.now c.lead_to.new.land c.args.at c.args.tree.now.next parent.node parent.here
          (c.lead_to.ensures.rewritten parent.node parent.here) (g.D.Disk.history c.args.disk.now) editable.backed
          editable.drafted;
      history = refl;
      size = refl;
    }

pub returns-clause-book : goal.returns-clause-book
returns-clause-book g c =
    let book = c.args.book.now in
    let land = c.args.land.now in
    let new = c.lead_to.new.land in
    let disk = c.args.disk.now in
    let at = c.args.at in
    let next = c.args.tree.now.next in
    let parent = c.requires.place.fresh in
    let node = parent.node in
    let here = parent.here in
    let editable = c.requires.ready.editable in
    let rewritten = c.lead_to.ensures.rewritten node here in
    let rests = rewritten-rests land new at next node here rewritten (g.D.Disk.history disk) editable.backed
    editable.drafted in
    record {
      stands = ok-known _ c.lead_to.result
          (g.met.B.Book.lasts book land new disk disk refl refl rests.backed
          (rewritten-spares land new at next node here rewritten) c.requires.stands);
      settled = λ stood. IfOk-weaker c.lead_to.result _ _
          (λ rest cut. g.met.B.Book.keeps book land new disk disk refl (rewritten-space land new at node here rewritten)
          (rewritten-levels land new at node here rewritten cut.stays) stood)
          (c.lead_to.ensures.rest node here);
    }

-- ---- over any disk

pub returns-then-is_too_thin-clause-stops : goal.returns-then-is_too_thin-clause-stops
returns-then-is_too_thin-clause-stops g c = c.join_child.ensures.stops

pub returns-clause-stops : goal.returns-clause-stops
returns-clause-stops g c =
    let land = c.args.land.now in
    let parent = c.requires.place.fresh in
    stops-names c.lead_to.result (IsMisled land parent.node c.args.place (c.args.place + 1) c.args.child)
    land.blocks.draft.sizes (g.D.Disk.size c.args.disk.now)
    (λ rule address bad. subst (λ (r : Rule). IsMisfit r) (sym bad.refs) misfit-refs)
    (c.lead_to.ensures.fails.broken parent.node parent.here)
