use Rattle.std.proofs.Common.{ℕ, ◌+◌, List, ◌++◌, append_assoc, arith, refl, ap, subst, ◌∙◌, inl, inr}
use Rattle.std.specs.Prelude.{Option}
use Rattle.std.proofs.lemmas.Result.{IfOk-weaker, err_from_is_err_and}
use Rattle.qg_node.specs.declared.node.Node.{Node}
use Rattle.qg_node.specs.declared.node.Node.TheVariants.{Inner}
use Rattle.qg_node.specs.Nodes.{own_pointers}
use Rattle.qg_node_alloc.specs.Tellings.{Telling}
use Rattle.qg_node_alloc.proofs.Lands.{Rests-after}
use Rattle.qg_tree_edits.specs.declared.instead.Instead.{Instead}
use Rattle.qg_tree_edits.specs.declared.pairing.Pair.{Pair}
use Rattle.qg_tree_read.specs.Tree.{super_of}
use Rattle.qg_tree_edits.specs.Editing.{RestIsReady}
use Rattle.qg_tree_edits.specs.Counting.{tellings_owned}
use Rattle.qg_edit.proofs.Leaves.{ok-known}
use Rattle.qg_tree_edits.proofs.Cutting.{ready-same, rewritten-moves, rewritten-rests, rewritten-spares}
use Rattle.qg_tree_edits.proofs.Levels.{rewritten-levels, rewritten-space}
use Rattle.qg_tree_edits.proofs.LeavesSettled.{ok-both, rejoined-leaves}
use Rattle.qg_tree_edits.proofs.Paired.{are-pair, pair-differ, pair-inside, pair-levels}
use Rattle.qg_tree_edits.proofs.PairedHolds.{pair-front}
use Rattle.qg_tree_edits.proofs.PlacedTold.{ok-both as known-both}
use Rattle.qg_tree_edits.proofs.Rejoined.{rejoined-above, rejoined-count, rejoined-stands, unbroken-other}
use Rattle.qg_tree_edits.proofs.RejoinedHolds.{rejoined-can}
use Rattle.qg_tree_edits.proofs.RejoinedSettled.{rejoined-settled}
use Rattle.qg_tree_edits.proofs.RejoinedTold.{rejoined-told}
use Rattle.qg_tree_edits.proofs.Served.{fresh-inner, instead-named, node-drafted, places-few, size-drafted}
use Rattle.qg_tree_edits.proofs.Served.{sizes-drafted, slots-none}
use Rattle.qg_device.proofs.Causes.{cause-handed, cause-other}
use Rattle.qg_node_alloc.proofs.Owners.{IsOwnedBy-after}
use Rattle.qg_tree_edits.proofs.Owners.{rewritten-owners, united-owners}
use Rattle.qg_tree_edits.proofs.Naming.{names-other, names-weaker}
use Rattle.qg_tree_edits.proofs.Unfit.{misled-then, paired-one, paired-over}
use Rattle.qg_tree_edits.specs.Failing.{ArentJoined, CantSettle, IsMisled, LacksNeighbour, NamesOnly}
use Rattle.qg_tree_edits.proofs.Rewritten.{same_node}
use Rattle.qg_blocks.specs.NodesFound.{fresh_at}
use Rattle.std.proofs.Common.{sym}
use Rattle.qg_num.specs.declared.rule.Rule.{Rule}
use Rattle.qg_blocks.specs.Stopping.{IsMisfit}
use Rattle.qg_blocks.proofs.Stopping.{misfit-refs, stops-err}
use Rattle.qg_tree_edits.proofs.Stopped.{stops-err-after, stops-names}
use Rattle.qg_tree_edits.proofs.settling.join_child.Goals as goal

pub unite-requires-clause-apart : goal.unite-requires-clause-apart
unite-requires-clause-apart g c =
    let node = c.requires.place.fresh.node in
    pair-differ g.P.TreePart.tree c.args.tree.now c.args.land.now c.own_neighbour.new.land
    (g.D.Disk.history c.args.disk.now) (g.D.Disk.history c.own_neighbour.new.disk) (own_pointers node) c.args.to
    c.args.level c.args.place c.args.child c.in_ok-pair.pair (c.in_ok-pair.ensures.paired.is node
    c.requires.place.fresh.here) c.own_neighbour.ensures.rests.rests c.requires.child.fresh c.requires.child.thin

pub unite-requires-clause-pair : goal.unite-requires-clause-pair
unite-requires-clause-pair g c =
    let node = c.requires.place.fresh.node in
    are-pair g.P.TreePart.tree c.args.tree.now c.args.land.now c.own_neighbour.new.land
    (g.D.Disk.history c.args.disk.now) (g.D.Disk.history c.own_neighbour.new.disk) (own_pointers node) c.args.to
    c.args.level c.args.place c.args.child c.in_ok-pair.pair (c.in_ok-pair.ensures.paired.is node
    c.requires.place.fresh.here) c.own_neighbour.ensures.rests.rests c.requires.child.fresh c.requires.child.thin

pub overflow_add-pair : goal.overflow_add-pair
overflow_add-pair g c =
    let node = c.requires.place.fresh.node in
    let inside = pair-inside g.P.TreePart.tree c.args.tree.now c.args.land.now c.own_neighbour.new.land
    (g.D.Disk.history c.args.disk.now) (g.D.Disk.history c.own_neighbour.new.disk) (own_pointers node) c.args.to
    c.args.level c.args.place c.args.child c.in_ok-pair.pair (c.in_ok-pair.ensures.paired.is node
    c.requires.place.fresh.here) c.own_neighbour.ensures.rests.rests c.requires.child.fresh c.requires.child.thin
    (c.requires.place.inside node c.requires.place.fresh.here) in
    let few = places-few c.args.land.now.space.sizes.nodesize node (size-drafted c.args.land.now c.args.tree.now.next
    c.requires.ready.editable.drafted) (node-drafted c.args.land.now c.args.tree.now.next c.args.at node
    c.requires.ready.editable.drafted c.requires.place.fresh.here) in
    omega (arith, inside, few)

pub lead_to-requires-clause-sizes : goal.lead_to-requires-clause-sizes
lead_to-requires-clause-sizes g c =
    sizes-drafted c.unite.new.land c.args.tree.now.next (c.unite.ensures.drafted c.args.tree.now.next
    c.own_neighbour.ensures.rests.rests.drafted).rests.drafted

pub lead_to-requires-clause-fresh : goal.lead_to-requires-clause-fresh
lead_to-requires-clause-fresh g c =
    let node = c.requires.place.fresh.node in
    let after = (c.unite.ensures.drafted c.args.tree.now.next c.own_neighbour.ensures.rests.rests.drafted).rests in
    instead-named c.unite.new.land c.args.tree.now.next c.args.level c.in_ok-instead.instead after.drafted
    (rejoined-stands g.P.TreePart.tree c.args.tree.now c.args.land.now c.own_neighbour.new.land c.unite.new.land
    (g.D.Disk.history c.args.disk.now) (g.D.Disk.history c.own_neighbour.new.disk) (g.D.Disk.history c.unite.new.disk)
    (own_pointers node) c.args.to c.args.level c.args.place c.args.child c.in_ok-pair.pair c.in_ok-instead.instead
    (c.in_ok-pair.ensures.paired.is node c.requires.place.fresh.here) c.own_neighbour.ensures.rests.rests
    c.requires.child.fresh c.requires.child.thin c.in_ok-instead.ensures.united after)

pub lead_to-requires-clause-parent : goal.lead_to-requires-clause-parent
lead_to-requires-clause-parent g c =
    let node = c.requires.place.fresh.node in
    let after = (c.unite.ensures.drafted c.args.tree.now.next c.own_neighbour.ensures.rests.rests.drafted).rests in
    let high = c.requires.place.fresh.levelled in
    let here = rejoined-above g.P.TreePart.tree c.args.tree.now c.args.land.now c.own_neighbour.new.land
    c.unite.new.land (g.D.Disk.history c.args.disk.now) (g.D.Disk.history c.own_neighbour.new.disk)
    (g.D.Disk.history c.unite.new.disk) (own_pointers node) c.args.to c.args.level c.args.place c.args.child
    c.in_ok-pair.pair c.in_ok-instead.instead (c.in_ok-pair.ensures.paired.is node c.requires.place.fresh.here)
    c.own_neighbour.ensures.rests.rests c.requires.child.fresh c.requires.child.thin c.in_ok-instead.ensures.united
    after c.args.at node c.requires.place.fresh.here (omega (arith, high)) in (
      node,
      here,
      fresh-inner c.unite.new.land c.args.tree.now.next c.args.level c.args.at node after.drafted
          (record { node = node; here = here; levelled = c.requires.place.fresh.levelled }) here,
      node-drafted c.unite.new.land c.args.tree.now.next c.args.at node after.drafted here,
      pair-inside g.P.TreePart.tree c.args.tree.now c.args.land.now c.own_neighbour.new.land
          (g.D.Disk.history c.args.disk.now) (g.D.Disk.history c.own_neighbour.new.disk) (own_pointers node) c.args.to
          c.args.level c.args.place c.args.child c.in_ok-pair.pair (c.in_ok-pair.ensures.paired.is node
          c.requires.place.fresh.here) c.own_neighbour.ensures.rests.rests c.requires.child.fresh c.requires.child.thin
          (c.requires.place.inside node c.requires.place.fresh.here),
    )

-- ---- the node's pointers

pub returns-clause-set : goal.returns-clause-set
returns-clause-set g c =
    let tree = g.P.TreePart.tree in
    let root = c.args.tree.now in
    let owner = root.owner in
    let land = c.args.land.now in
    let mid = c.own_neighbour.new.land in
    let both = c.unite.new.land in
    let new = c.lead_to.new.land in
    let history = g.D.Disk.history c.args.disk.now in
    let later = g.D.Disk.history c.own_neighbour.new.disk in
    let last = g.D.Disk.history c.unite.new.disk in
    let at = c.args.at in
    let to = c.args.to in
    let level = c.args.level in
    let place = c.args.place in
    let child = c.args.child in
    let node = c.requires.place.fresh.node in
    let there = c.requires.place.fresh.here in
    let high = c.requires.place.fresh.levelled in
    let is_child = c.requires.child.fresh in
    let thin = c.requires.child.thin in
    let pointers = own_pointers node in
    let pair = c.in_ok-pair.pair in
    let instead = c.in_ok-instead.instead in
    let rests = c.own_neighbour.ensures.rests.rests in
    let after = (c.unite.ensures.drafted root.next rests.drafted).rests in
    let paired = c.in_ok-pair.ensures.paired.is node there in
    let united = c.in_ok-instead.ensures.united in
    let here = rejoined-above tree root land mid both history later last pointers to level place child pair instead
    paired rests is_child thin united after at node there (omega (arith, high)) in
    let rewritten = c.lead_to.ensures.rewritten node here in
    let moved = rewritten-moves both new at root.next node here rewritten (level + 1) (omega (arith, high)) in
    let joined = rejoined-count tree root land mid both history later last pointers to level place child pair instead
    paired rests is_child thin united after in
    let owned = c.in_ok-pair.ensures.paired.count in
    let count = moved.count in
    let differ = pair-differ tree root land mid history later pointers to level place child pair paired rests is_child
    thin in
    let are = are-pair tree root land mid history later pointers to level place child pair paired rests is_child thin in
    let before = IsOwnedBy-after owner land mid both c.in_ok-pair.ensures.paired.owners
    (united-owners owner mid both pair.left pair.right instead differ are united) in
    let edited = rewritten-owners owner both new at node here rewritten in
    let stays = c.lead_to.ensures.rest node here in
    record {
      parent = IfOk-weaker c.lead_to.result _ _
          (λ rest cut. record { node = cut.stays.node; here = cut.stays.here; levelled = cut.stays.levelled ∙ high })
          stays;
      ready = IfOk-weaker c.lead_to.result _ _
          (λ rest cut. subst (λ (n : ℕ). RestIsReady n (level + 1) root.next rest)
          (ap (λ (s : _). s.nodesize) (after.sizes ∙ rests.sizes))
          (ready-same both.space.sizes.nodesize _ _ _ _ rest high (after.drafted.each at node here).dated cut.ready))
          stays;
      whole = λ none. c.lead_to.ensures.fits refl;
      moves = IfOk-weaker c.lead_to.result _ _ (λ rest none. let zero_slots = slots-none rest none in record {
        count = omega (arith, owned, joined, count, zero_slots);
        above = λ q other was far. moved.above q other
            (rejoined-above tree root land mid both history later last pointers to level place child pair instead paired
            rests is_child thin united after q other was (omega (arith, far))) far;
      })
          (c.lead_to.ensures.fits refl);
      owners = IfOk-weaker c.lead_to.result _ _
          (λ rest cut. IsOwnedBy-after owner land both new before edited) stays;
    }

pub returns-clause-settled : goal.returns-clause-settled
returns-clause-settled g c items un =
    let tree = g.P.TreePart.tree in
    let root = c.args.tree.now in
    let land = c.args.land.now in
    let mid = c.own_neighbour.new.land in
    let both = c.unite.new.land in
    let new = c.lead_to.new.land in
    let history = g.D.Disk.history c.args.disk.now in
    let later = g.D.Disk.history c.own_neighbour.new.disk in
    let last = g.D.Disk.history c.unite.new.disk in
    let at = c.args.at in
    let to = c.args.to in
    let level = c.args.level in
    let place = c.args.place in
    let child = c.args.child in
    let is_child = c.requires.child.fresh in
    let thin = c.requires.child.thin in
    let makes = c.requires.ready.makes in
    let drafted = c.requires.ready.editable.drafted in
    let pair = c.in_ok-pair.pair in
    let instead = c.in_ok-instead.instead in
    let rests = c.own_neighbour.ensures.rests.rests in
    let after = (c.unite.ensures.drafted root.next rests.drafted).rests in
    let paired = c.in_ok-pair.ensures.paired.is (Inner un.header un.pointers) un.here in
    let united = c.in_ok-instead.ensures.united in
    let can = rejoined-can tree root land mid both history later last level at to place child items un pair instead
    paired makes drafted rests is_child thin united after in
    let led = c.lead_to.ensures.led tree (super_of root land.blocks.draft) history level un.pointers un.header items
    can in
    let fits = c.lead_to.ensures.fits refl in
    record {
      settled = IfOk-weaker c.lead_to.result _ _
          (λ rest has. rejoined-settled tree root land mid both new history later last level at to place child items
          rest un pair instead paired makes drafted rests is_child thin united after has)
          led;
      leaves = λ first single empty. ok-both c.lead_to.result _ _ _
          (λ rest has none. rejoined-leaves tree root land mid both new history later last level at to place child items
          rest un pair instead paired makes drafted rests is_child thin united after has first none empty)
          led fits;
      told = λ before log follows.
          let owned = c.in_ok-pair.ensures.told items un before log follows in
          let first = tellings_owned owned.0.owned.node owned.0.beside.way.address owned.0.now in
          let second = (c.in_ok-instead.ensures.drafted root.next rests.drafted).told before (log ++ first) owned.1 in
          let can_then = rejoined-can tree root land mid both history later last level at to place child items un pair
          instead owned.0 makes drafted rests is_child thin united after in
          known-both c.lead_to.result _ _ _
          (λ rest has whole. (
            first ++ second.0,
            subst (λ (ts : List Telling). g.B.Book.follows before ts c.unite.new.book) (append_assoc log first second.0)
                second.1,
            rejoined-told tree root land mid both new history later last level at to place child items rest un pair
                instead owned.0 makes drafted rests is_child thin united after has second.0 second.2 whole,
          ))
          (c.lead_to.ensures.led tree (super_of root land.blocks.draft) history level un.pointers un.header items
          can_then) fits;
    }

-- ---- where it fails

pub returns-in_err-pair-clause-fails : goal.returns-in_err-pair-clause-fails
returns-in_err-pair-clause-fails g c =
    let p = err_from_is_err_and c.from_residual.result c.from_residual.ensures.1 in
    let tree = g.P.TreePart.tree in
    let root = c.args.tree.now in
    let new = c.own_neighbour.new.land in
    let fault = c.in_err-pair.field-0.0 in
    let old = g.D.Disk.faults c.args.disk.now in
    rw (p.1, p.2) (record {
      sound = λ events told items un. unbroken-other Pair (Option Node) fault
          (c.in_err-pair.ensures.fails.sound items un);
      broken = λ node here events told_is. names-other Pair (Option Node) fault
          (LacksNeighbour tree root new events node c.args.at c.args.to c.args.level c.args.place c.args.child)
          (CantSettle tree root new events node c.args.at c.args.to c.args.level c.args.place c.args.child)
          (λ rule address bad. inl bad) (c.in_err-pair.ensures.fails.broken node here c.requires.child.fresh events
          told_is);
      cause = cause-handed Pair (Option Node) old old (g.D.Disk.faults c.own_neighbour.new.disk) fault (omega arith)
          c.in_err-pair.ensures.fails.cause;
    })

pub returns-in_err-instead-clause-fails : goal.returns-in_err-instead-clause-fails
returns-in_err-instead-clause-fails g c =
    let p = err_from_is_err_and c.from_residual-in_err-instead.result c.from_residual-in_err-instead.ensures.1 in
    let tree = g.P.TreePart.tree in
    let root = c.args.tree.now in
    let land = c.args.land.now in
    let mid = c.own_neighbour.new.land in
    let new = c.unite.new.land in
    let history = g.D.Disk.history c.args.disk.now in
    let later = g.D.Disk.history c.own_neighbour.new.disk in
    let same = c.own_neighbour.ensures.rests.history in
    let at = c.args.at in
    let to = c.args.to in
    let level = c.args.level in
    let place = c.args.place in
    let child = c.args.child in
    let mine = c.requires.place.fresh.node in
    let is_child = c.requires.child.fresh in
    let thin = c.requires.child.thin in
    let rests = c.own_neighbour.ensures.rests.rests in
    let pair = c.in_ok-pair.pair in
    let paired = c.in_ok-pair.ensures.paired.is in
    let fault = c.in_err-instead.field-0.0 in
    rw (p.1, p.2) (record {
      sound = λ events told items un.
          let both = are-pair tree root land mid history later (own_pointers mine) to level place child pair
          (paired mine c.requires.place.fresh.here) rests is_child thin in
          let front = pair-front tree root land mid history level at to place child items un pair
          (paired (Inner un.header un.pointers) un.here) c.requires.ready.makes both.a both.b both.left_here
          both.right_here in
          unbroken-other Instead (Option Node) fault
          (c.in_err-instead.ensures.fails.sound events (same ∙ told) both.a both.b both.left_here both.right_here
          front.0 front.1 front.2);
      broken = λ node here events told_is.
          let is = paired node here in
          let both = are-pair tree root land mid history later (own_pointers node) to level place child pair is rests
          is_child thin in
          let levels = pair-levels tree root land mid history later (own_pointers node) to level place child pair is
          rests is_child thin in
          names-other Instead (Option Node) fault (ArentJoined new pair.left pair.right both.a both.b)
          (CantSettle tree root new events node at to level place child)
          (λ rule address bad. inr (inl (record {
            left = pair.left;
            right = pair.right;
            one = paired-one tree root land mid history (own_pointers node) to level place child pair is;
            a = both.a;
            b = both.b;
            levels = levels both.a both.b both.left_here both.right_here;
            arent = bad;
          })))
          (c.in_err-instead.ensures.fails.broken events (same ∙ told_is) both.a both.b both.left_here both.right_here);
      cause = cause-handed Instead (Option Node) (g.D.Disk.faults c.args.disk.now)
          (g.D.Disk.faults c.own_neighbour.new.disk) (g.D.Disk.faults c.unite.new.disk) fault
          c.in_ok-pair.ensures.fails.cause.fine c.in_err-instead.ensures.fails.cause;
    })

pub returns-clause-fails : goal.returns-clause-fails
returns-clause-fails g c =
    let tree = g.P.TreePart.tree in
    let root = c.args.tree.now in
    let land = c.args.land.now in
    let mid = c.own_neighbour.new.land in
    let both = c.unite.new.land in
    let new = c.lead_to.new.land in
    let history = g.D.Disk.history c.args.disk.now in
    let later = g.D.Disk.history c.own_neighbour.new.disk in
    let last = g.D.Disk.history c.unite.new.disk in
    let at = c.args.at in
    let to = c.args.to in
    let level = c.args.level in
    let place = c.args.place in
    let child = c.args.child in
    let mine = c.requires.place.fresh.node in
    let at_first = c.requires.place.fresh.here in
    let high = c.requires.place.fresh.levelled in
    let is_child = c.requires.child.fresh in
    let thin = c.requires.child.thin in
    let pointers = own_pointers mine in
    let pair = c.in_ok-pair.pair in
    let instead = c.in_ok-instead.instead in
    let rests = c.own_neighbour.ensures.rests.rests in
    let after = (c.unite.ensures.drafted root.next rests.drafted).rests in
    let united = c.in_ok-instead.ensures.united in
    let paired = c.in_ok-pair.ensures.paired.is mine at_first in
    let first = c.in_ok-pair.ensures.fails.cause.fine in
    let second = c.in_ok-instead.ensures.fails.cause.fine in
    record {
      sound = λ events told items un.
          let can = rejoined-can tree root land mid both history later last level at to place child items un pair
          instead (c.in_ok-pair.ensures.paired.is (Inner un.header un.pointers) un.here) c.requires.ready.makes
          c.requires.ready.editable.drafted rests is_child thin united after in
          c.lead_to.ensures.fails.sound tree (super_of root land.blocks.draft) history level un.pointers un.header
          items can;
      broken = λ node here events told_is.
          let there = rejoined-above tree root land mid both history later last pointers to level place child pair
          instead paired rests is_child thin united after at mine at_first (omega (arith, high)) in
          let stands = rejoined-stands tree root land mid both history later last pointers to level place child pair
          instead paired rests is_child thin united after in
          let over = paired-over tree root land mid history pointers to level place child pair paired in
          let rewritten = c.lead_to.ensures.rewritten mine there in
          let names = names-weaker c.lead_to.result (IsMisled both mine pair.front (pair.front + 2) instead)
          (CantSettle tree root new events mine at to level place child)
          (λ rule address bad. inr (inr (misled-then both new at level mine there high rewritten pair.front
          (pair.front + 2) place instead rule address over.0 over.1 stands bad)))
          (c.lead_to.ensures.fails.broken mine there) in
          subst (λ (n : Node). NamesOnly (CantSettle tree root new events n at to level place child) c.lead_to.result)
          (same_node (fresh_at land.blocks.draft at) mine node at_first here) names;
      cause = cause-other (g.D.Disk.faults c.args.disk.now) (g.D.Disk.faults c.unite.new.disk) c.lead_to.result
          (omega (arith, first, second)) c.lead_to.ensures.fails.no_disk;
    }

-- ---- what is left so

pub returns-in_err-instead-clause-rests : goal.returns-in_err-instead-clause-rests
returns-in_err-instead-clause-rests g c =
    let next = c.args.tree.now.next in
    let rests = c.own_neighbour.ensures.rests.rests in
    let first = c.own_neighbour.ensures.rests in
    let second = c.unite.ensures.disk in
    record {
      rests = Rests-after c.args.land.now c.own_neighbour.new.land c.unite.new.land
          (g.D.Disk.history c.own_neighbour.new.disk) (g.D.Disk.history c.unite.new.disk) next rests
          (c.unite.ensures.drafted next rests.drafted).rests;
      history = second.0 ∙ first.history;
      size = second.1 ∙ first.size;
    }

pub returns-clause-rests : goal.returns-clause-rests
returns-clause-rests g c =
    let tree = g.P.TreePart.tree in
    let root = c.args.tree.now in
    let land = c.args.land.now in
    let mid = c.own_neighbour.new.land in
    let both = c.unite.new.land in
    let history = g.D.Disk.history c.args.disk.now in
    let later = g.D.Disk.history c.own_neighbour.new.disk in
    let last = g.D.Disk.history c.unite.new.disk in
    let node = c.requires.place.fresh.node in
    let there = c.requires.place.fresh.here in
    let high = c.requires.place.fresh.levelled in
    let rests = c.own_neighbour.ensures.rests.rests in
    let after = (c.unite.ensures.drafted root.next rests.drafted).rests in
    let here = rejoined-above tree root land mid both history later last (own_pointers node) c.args.to c.args.level
    c.args.place c.args.child c.in_ok-pair.pair c.in_ok-instead.instead (c.in_ok-pair.ensures.paired.is node there)
    rests c.requires.child.fresh c.requires.child.thin c.in_ok-instead.ensures.united after c.args.at node there
    (omega (arith, high)) in
    let third = rewritten-rests both c.lead_to.new.land c.args.at root.next node here
    (c.lead_to.ensures.rewritten node here) last after.backed after.drafted in
    let first = c.own_neighbour.ensures.rests in
    let second = c.unite.ensures.disk in
    record {
      rests = Rests-after land both c.lead_to.new.land last last root.next
          (Rests-after land mid both later last root.next rests after) third;
      history = second.0 ∙ first.history;
      size = second.1 ∙ first.size;
    }

pub returns-clause-book : goal.returns-clause-book
returns-clause-book g c =
    let tree = g.P.TreePart.tree in
    let root = c.args.tree.now in
    let land = c.args.land.now in
    let mid = c.own_neighbour.new.land in
    let both = c.unite.new.land in
    let new = c.lead_to.new.land in
    let book = c.unite.new.book in
    let disk = c.unite.new.disk in
    let history = g.D.Disk.history c.args.disk.now in
    let later = g.D.Disk.history c.own_neighbour.new.disk in
    let last = g.D.Disk.history c.unite.new.disk in
    let at = c.args.at in
    let node = c.requires.place.fresh.node in
    let there = c.requires.place.fresh.here in
    let high = c.requires.place.fresh.levelled in
    let rests = c.own_neighbour.ensures.rests.rests in
    let after = (c.unite.ensures.drafted root.next rests.drafted).rests in
    let here = rejoined-above tree root land mid both history later last (own_pointers node) c.args.to c.args.level
    c.args.place c.args.child c.in_ok-pair.pair c.in_ok-instead.instead (c.in_ok-pair.ensures.paired.is node there)
    rests c.requires.child.fresh c.requires.child.thin c.in_ok-instead.ensures.united after at node there
    (omega (arith, high)) in
    let rewritten = c.lead_to.ensures.rewritten node here in
    let third = rewritten-rests both new at root.next node here rewritten last after.backed after.drafted in
    record {
      stands = ok-known _ c.lead_to.result
          (g.met.B.Book.lasts book both new disk disk refl refl third.backed
          (rewritten-spares both new at root.next node here rewritten) c.in_ok-instead.ensures.stands);
      settled = λ settled. IfOk-weaker c.lead_to.result _ _
          (λ rest cut. g.met.B.Book.keeps book both new disk disk refl (rewritten-space both new at node here rewritten)
          (rewritten-levels both new at node here rewritten cut.stays)
          ((c.in_ok-instead.ensures.drafted root.next rests.drafted).settled
          (c.in_ok-pair.ensures.book.settled settled)))
          (c.lead_to.ensures.rest node here);
    }

-- ---- over any disk

pub returns-in_err-pair-clause-stops : goal.returns-in_err-pair-clause-stops
returns-in_err-pair-clause-stops g c =
    let sizes = c.args.land.now.blocks.draft.sizes in
    let bytes = g.D.Disk.size c.args.disk.now in
    stops-err Pair c.from_residual.result c.in_err-pair.field-0.0 sizes sizes bytes bytes c.from_residual.ensures.1 refl
    refl c.in_err-pair.ensures.stops

pub returns-in_err-instead-clause-stops : goal.returns-in_err-instead-clause-stops
returns-in_err-instead-clause-stops g c =
    let residual = c.from_residual-in_err-instead in
    stops-err-after Instead residual.result c.in_err-instead.field-0.0 residual.ensures.1 c.own_neighbour.ensures.rests
    c.in_err-instead.ensures.stops

pub returns-clause-stops : goal.returns-clause-stops
returns-clause-stops g c =
    let tree = g.P.TreePart.tree in
    let root = c.args.tree.now in
    let land = c.args.land.now in
    let mid = c.own_neighbour.new.land in
    let both = c.unite.new.land in
    let history = g.D.Disk.history c.args.disk.now in
    let later = g.D.Disk.history c.own_neighbour.new.disk in
    let last = g.D.Disk.history c.unite.new.disk in
    let mine = c.requires.place.fresh.node in
    let high = c.requires.place.fresh.levelled in
    let pair = c.in_ok-pair.pair in
    let instead = c.in_ok-instead.instead in
    let rests = c.own_neighbour.ensures.rests.rests in
    let after = (c.unite.ensures.drafted root.next rests.drafted).rests in
    let paired = c.in_ok-pair.ensures.paired.is mine c.requires.place.fresh.here in
    let there = rejoined-above tree root land mid both history later last (own_pointers mine) c.args.to c.args.level
    c.args.place c.args.child pair instead paired rests c.requires.child.fresh c.requires.child.thin
    c.in_ok-instead.ensures.united after c.args.at mine c.requires.place.fresh.here (omega (arith, high)) in
    stops-names c.lead_to.result (IsMisled both mine pair.front (pair.front + 2) instead) land.blocks.draft.sizes
    (g.D.Disk.size c.args.disk.now)
    (λ rule address bad. subst (λ (r : Rule). IsMisfit r) (sym bad.refs) misfit-refs)
    (c.lead_to.ensures.fails.broken mine there)
