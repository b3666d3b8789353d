use Rattle.std.proofs.Common.{ℕ, List, ◌++◌, append_assoc, arith, refl, sym, ap, subst, ◌∙◌}
use Rattle.std.specs.Prelude.{IfOk, Option}
use Rattle.std.proofs.lemmas.Result.{IfOk-weaker, err_from_is_err_and, on_ok_weaker}
use Rattle.qg_node.specs.declared.node.Node.{Node}
use Rattle.qg_node.specs.declared.node.Node.TheVariants.{Leaf}
use Rattle.qg_node.specs.Nodes.{header_of, own_items}
use Rattle.qg_shape.specs.Filled.{HasShortBodies}
use Rattle.qg_blocks.specs.NodesFound.{told}
use Rattle.qg_node_alloc.specs.declared.ground.Ground.{Ground}
use Rattle.qg_node_alloc.specs.Tellings.{Telling}
use Rattle.qg_node_alloc.proofs.Lands.{Rests-after}
use Rattle.qg_edit.specs.Edits.{CanEdit}
use Rattle.qg_tree_edits.specs.declared.instead.Instead.{Instead}
use Rattle.qg_tree_read.specs.Tree.{super_of}
use Rattle.qg_tree_edits.specs.Editing.{IsPartEdited, RestIsReady}
use Rattle.qg_tree_edits.specs.Counting.{tellings_made, tellings_owned}
use Rattle.qg_tree_edits.proofs.FitTold.{fit-told}
use Rattle.qg_tree_edits.proofs.PlacedTold.{ok-both}
use Rattle.qg_tree_edits.proofs.Cutting.{ready-same, rewritten-moves, rewritten-rests, rewritten-spares, stays-cut}
use Rattle.qg_tree_edits.proofs.LeafEdited.{header-with_items, leaf-edited, leaf-told, mine-leaf_is}
use Rattle.qg_tree_edits.proofs.LeavesBelow.{leaf-leaves}
use Rattle.qg_tree_edits.proofs.Levels.{rewritten-levels, rewritten-space}
use Rattle.qg_tree_edits.proofs.Paired.{owned-levelled}
use Rattle.qg_tree_edits.proofs.Rejoined.{unbroken-other}
use Rattle.qg_tree_edits.proofs.Served.{fresh-leaf, sizes-drafted, slots-most}
use Rattle.qg_node_alloc.specs.Calls.{LeavesBe}
use Rattle.qg_node_alloc.proofs.Calls.{LeavesBe-after}
use Rattle.qg_device.proofs.Causes.{cause-handed, cause-last, cause-none}
use Rattle.qg_tree_read.proofs.Under.{under-leaf}
use Rattle.qg_node_alloc.proofs.Owners.{IsOwnedBy-after}
use Rattle.qg_tree_edits.proofs.Owners.{placed-owners, rewritten-owners}
use Rattle.qg_tree_edits.proofs.Naming.{names-none, names-other}
use Rattle.qg_tree_edits.proofs.Unfit.{fails-leaf, fails-read, owned-stands, placed-stands}
use Rattle.qg_tree_edits.specs.Failing.{FailsUnder, IsRefused}
use Rattle.qg_edit.specs.Answering.{IsBrokenByChange}
use Rattle.qg_blocks.proofs.Stopping.{stops-err}
use Rattle.qg_tree_edits.proofs.Stopped.{misfit-change, stops-after, stops-names-err}
use Rattle.qg_tree_edits.proofs.editing.edit_there.Goals as goal

pub rewrite_leaf-requires-clause-sizes : goal.rewrite_leaf-requires-clause-sizes
rewrite_leaf-requires-clause-sizes g c = sizes-drafted c.own.new.land c.args.tree.now.next
    c.own.ensures.rests.rests.drafted

pub rewrite_leaf-requires-clause-leaf : goal.rewrite_leaf-requires-clause-leaf
rewrite_leaf-requires-clause-leaf g c node there =
    let owned = c.in_ok-now.ensures.owned.is in
    let levelled = owned-levelled g.P.TreePart.tree c.args.tree.now c.args.land.now c.own.new.land
    (g.D.Disk.history c.args.disk.now) c.args.way.now.expected c.args.way.now.address c.in_ok-now.now owned 0
    c.requires.levelled in
    fresh-leaf c.own.new.land c.args.tree.now.next c.in_ok-now.now node c.own.ensures.rests.rests.drafted
    (record { node = owned.mine; here = owned.here; levelled = levelled }) there

pub place_rest-requires-clause-editable : goal.place_rest-requires-clause-editable
place_rest-requires-clause-editable g c =
    let owned = c.in_ok-now.ensures.owned.is in
    let first = c.own.ensures.rests.rests in
    let rewritten = c.rewrite_leaf.ensures.rewritten owned.mine owned.here in
    let second = rewritten-rests c.own.new.land c.rewrite_leaf.new.land c.in_ok-now.now c.args.tree.now.next owned.mine
    owned.here rewritten (g.D.Disk.history c.own.new.disk) first.backed first.drafted in
    let size = c.own.ensures.rests.size in
    let room = c.requires.ready.editable.room in
    record { backed = second.backed; drafted = second.drafted; room = omega (arith, size, room) }

pub place_rest-requires-clause-stands : goal.place_rest-requires-clause-stands
place_rest-requires-clause-stands g c =
    let owned = c.in_ok-now.ensures.owned.is in
    let first = c.own.ensures.rests.rests in
    let rewritten = c.rewrite_leaf.ensures.rewritten owned.mine owned.here in
    let second = rewritten-rests c.own.new.land c.rewrite_leaf.new.land c.in_ok-now.now c.args.tree.now.next owned.mine
    owned.here rewritten (g.D.Disk.history c.own.new.disk) first.backed first.drafted in
    g.met.B.Book.lasts c.own.new.book c.own.new.land c.rewrite_leaf.new.land c.own.new.disk c.own.new.disk refl refl
    second.backed (rewritten-spares c.own.new.land c.rewrite_leaf.new.land c.in_ok-now.now c.args.tree.now.next
    owned.mine owned.here rewritten) c.in_ok-now.ensures.book.stands

pub place_rest-requires-clause-slots : goal.place_rest-requires-clause-slots
place_rest-requires-clause-slots g c =
    let owned = c.in_ok-now.ensures.owned.is in
    let rewritten = c.rewrite_leaf.ensures.rewritten owned.mine owned.here in
    let levelled = owned-levelled g.P.TreePart.tree c.args.tree.now c.args.land.now c.own.new.land
    (g.D.Disk.history c.args.disk.now) c.args.way.now.expected c.args.way.now.address c.in_ok-now.now owned 0
    c.requires.levelled in
    let moved = rewritten-moves c.own.new.land c.rewrite_leaf.new.land c.in_ok-now.now c.args.tree.now.next owned.mine
    owned.here rewritten 0 (omega (arith, levelled)) in
    let count = moved.count in
    let taken = c.in_ok-now.ensures.owned.count in
    let slots = c.requires.ready.slots in
    omega (arith, count, taken, slots)

pub place_rest-requires-clause-rest : goal.place_rest-requires-clause-rest
place_rest-requires-clause-rest g c =
    let mid = c.own.new.land in
    let set = c.rewrite_leaf.new.land in
    let now = c.in_ok-now.now in
    let next = c.args.tree.now.next in
    let rest = c.in_ok-rest.rest in
    let owned = c.in_ok-now.ensures.owned.is in
    let rewritten = c.rewrite_leaf.ensures.rewritten owned.mine owned.here in
    let levelled = owned-levelled g.P.TreePart.tree c.args.tree.now c.args.land.now mid
    (g.D.Disk.history c.args.disk.now) c.args.way.now.expected c.args.way.now.address now owned 0 c.requires.levelled in
    let stays = stays-cut mid.space.sizes.nodesize owned.mine _ set now rest (header-with_items owned.mine _)
    (c.in_ok-rest.ensures.cut owned.mine owned.here) in
    let dated = (c.own.ensures.rests.rests.drafted.each now owned.mine owned.here).dated in
    record {
      fresh = record { node = stays.stays.node; here = stays.stays.here; levelled = stays.stays.levelled ∙ levelled };
      ready = ready-same _ _ _ 0 next rest levelled dated
          (subst (λ (n : ℕ). RestIsReady n (header_of owned.mine).level (header_of owned.mine).generation rest)
          (ap (λ (g : Ground). g.space.sizes.nodesize) (sym rewritten.is)) stays.ready);
    }

-- ---- what stands in the leaf's place

pub returns-clause-part : goal.returns-clause-part
returns-clause-part g c =
    let tree = g.P.TreePart.tree in
    let root = c.args.tree.now in
    let owner = root.owner in
    let land = c.args.land.now in
    let mid = c.own.new.land in
    let set = c.rewrite_leaf.new.land in
    let end = c.place_rest.new.land in
    let history = g.D.Disk.history c.args.disk.now in
    let way = c.args.way.now in
    let now = c.in_ok-now.now in
    let rest = c.in_ok-rest.rest in
    let owned = c.in_ok-now.ensures.owned.is in
    let rewritten = c.rewrite_leaf.ensures.rewritten owned.mine owned.here in
    let levelled = owned-levelled tree root land mid history way.expected way.address now owned 0 c.requires.levelled in
    let moved = rewritten-moves mid set now root.next owned.mine owned.here rewritten 0 (omega (arith, levelled)) in
    let count = moved.count in
    let taken = c.in_ok-now.ensures.owned.count in
    let most = slots-most rest in
    let edited = rewritten-owners owner mid set now owned.mine owned.here rewritten in
    let stands = owned-stands tree root land mid history way.expected way.address now owned in
    let placed = c.place_rest.ensures.placed in
    record {
      stood = placed.stood;
      whole = λ none. placed.whole (c.in_ok-rest.ensures.whole none);
      there = IfOk-weaker c.place_rest.result _ _
          (λ instead behind. placed-stands owner land set end way.address now rest instead stands behind) placed.placed;
      moves = on_ok_weaker c.place_rest.result
          (λ last. let third = last.count in record {
            count = omega (arith, count, taken, third, most);
            above = λ q node here high. last.above q node (moved.above q node (owned.keeps q node here) high) high;
          })
          placed.moves;
      owners = IfOk-weaker c.place_rest.result _ _
          (λ instead behind. IsOwnedBy-after owner land mid end c.in_ok-now.ensures.owned.owners
          (placed-owners owner mid set end now rest instead edited behind))
          placed.placed;
    }

pub returns-clause-edited : goal.returns-clause-edited
returns-clause-edited g c items fit =
    let tree = g.P.TreePart.tree in
    let root = c.args.tree.now in
    let land = c.args.land.now in
    let mid = c.own.new.land in
    let set = c.rewrite_leaf.new.land in
    let end = c.place_rest.new.land in
    let history = g.D.Disk.history c.args.disk.now in
    let own_history = g.D.Disk.history c.own.new.disk in
    let last_history = g.D.Disk.history c.place_rest.new.disk in
    let expected = c.args.way.now.expected in
    let at = c.args.way.now.address in
    let now = c.in_ok-now.now in
    let edit = c.args.edit in
    let rest = c.in_ok-rest.rest in
    let owned = c.in_ok-now.ensures.owned.is in
    let makes = c.requires.ready.makes in
    let drafted = c.requires.ready.editable.drafted in
    let first = c.own.ensures.rests.rests in
    let rewritten = c.rewrite_leaf.ensures.rewritten owned.mine owned.here in
    let second = rewritten-rests mid set now root.next owned.mine owned.here rewritten own_history first.backed
    first.drafted in
    let third = c.place_rest.ensures.rests in
    let cut = c.in_ok-rest.ensures.cut owned.mine owned.here in
    let there = fit-told tree root land mid history 0 expected at now edit items fit owned in
    let log_own = tellings_owned owned.node at now in
    let placed = c.place_rest.ensures.placed.placed in
    let part : IfOk c.place_rest.result (λ (i : Instead). IsPartEdited tree root land end history 0 at edit items i) =
    IfOk-weaker c.place_rest.result _ _
    (λ instead behind. leaf-edited tree root land mid set end history own_history last_history expected at now edit
    items rest instead owned makes fit drafted first rewritten second.drafted third.rests cut behind)
    placed in
    record {
      edited = part;
      leaves = λ least_key clear. IfOk-weaker c.place_rest.result _ _
          (λ instead is. leaf-leaves tree root land end history expected at edit items instead fit is least_key clear)
          part;
      told = λ before log follows. ok-both c.place_rest.result _ _ _
          (λ instead behind told_rest. (
            log_own ++ tellings_made instead.more,
            subst (λ (ts : List Telling). g.B.Book.follows before ts c.place_rest.new.book)
                (append_assoc log log_own (tellings_made instead.more)) told_rest,
            leaf-told tree root land mid set end history own_history last_history expected at now edit items rest
                instead owned makes fit drafted first rewritten second.drafted third.rests cut behind,
          ))
          placed
          (c.place_rest.ensures.told before (log ++ log_own)
          (c.in_ok-now.ensures.told owned.node there.0 there.1 before log follows));
    }

-- ---- where it fails

pub returns-in_err-now-clause-fails : goal.returns-in_err-now-clause-fails
returns-in_err-now-clause-fails g c =
    let p = err_from_is_err_and c.from_residual.result c.from_residual.ensures.1 in
    let tree = g.P.TreePart.tree in
    let root = c.args.tree.now in
    let land = c.args.land.now in
    let new = c.own.new.land in
    let history = g.D.Disk.history c.args.disk.now in
    let expected = c.args.way.now.expected in
    let at = c.args.way.now.address in
    let fault = c.in_err-now.field-0.0 in
    let old = g.D.Disk.faults c.args.disk.now in
    rw (p.1, p.2) (record {
      sound = λ events told_is items fit.
          let under = under-leaf tree (super_of root land.blocks.draft) (told land.blocks.draft history) expected at
          items (record { levelled = fit.levelled; walked = fit.walked; items_are = fit.items_are }) in
          unbroken-other ℕ Instead fault (c.in_err-now.ensures.fails.sound (Leaf under.header items) under.here
          under.formed);
      broken = λ events told_is. names-other ℕ Instead fault (IsRefused tree root land new events expected at)
          (FailsUnder tree root c.args.edit events 0 expected at land new)
          (λ rule address bad. fails-read tree root c.args.edit events expected at land new rule address 0 bad.0)
          (c.in_err-now.ensures.fails.broken events told_is);
      cause = cause-handed ℕ Instead old old (g.D.Disk.faults c.own.new.disk) fault (omega arith)
          c.in_err-now.ensures.fails.cause;
    })

pub returns-in_err-rest-clause-fails : goal.returns-in_err-rest-clause-fails
returns-in_err-rest-clause-fails g c =
    let p = err_from_is_err_and c.from_residual-in_err-rest.result c.from_residual-in_err-rest.ensures.1 in
    let tree = g.P.TreePart.tree in
    let root = c.args.tree.now in
    let edit = c.args.edit in
    let land = c.args.land.now in
    let mid = c.own.new.land in
    let new = c.rewrite_leaf.new.land in
    let history = g.D.Disk.history c.args.disk.now in
    let expected = c.args.way.now.expected in
    let at = c.args.way.now.address in
    let now = c.in_ok-now.now in
    let owned = c.in_ok-now.ensures.owned.is in
    let fault = c.in_err-rest.field-0.0 in
    rw (p.1, p.2) (record {
      sound = λ events told_is items fit.
          let mine = mine-leaf_is tree root land mid history expected at now edit items owned c.requires.ready.makes
          fit in
          let can = subst (λ (n : Node). CanEdit edit (own_items n)) (sym mine.1) fit.can in
          let short = subst (λ (n : Node). HasShortBodies n) (sym mine.1) fit.short in
          unbroken-other (Option Node) Instead fault
          (c.in_err-rest.ensures.fails.sound owned.mine owned.here (can, short));
      broken = λ events told_is. names-other (Option Node) Instead fault
          (IsBrokenByChange mid.space.sizes.nodesize edit.key edit.change owned.mine)
          (FailsUnder tree root edit events 0 expected at land new)
          (λ rule address bad. fails-leaf tree root edit events expected at land new rule address mid now history
          told_is owned bad)
          (c.in_err-rest.ensures.fails.broken owned.mine owned.here);
      cause = cause-none (Option Node) Instead (g.D.Disk.faults c.args.disk.now) (g.D.Disk.faults c.own.new.disk) fault
          c.in_ok-now.ensures.fails.cause.fine c.in_err-rest.ensures.fails.no_disk;
    })

pub returns-clause-fails : goal.returns-clause-fails
returns-clause-fails g c =
    let fails = c.place_rest.ensures.fails in
    record {
      sound = λ events told_is items fit. fails.sound events (c.own.ensures.rests.history ∙ told_is);
      broken = λ events told_is. names-none c.place_rest.result
          (FailsUnder g.P.TreePart.tree c.args.tree.now c.args.edit events 0 c.args.way.now.expected
          c.args.way.now.address c.args.land.now c.place_rest.new.land)
          (fails.sound events (c.own.ensures.rests.history ∙ told_is));
      cause = cause-last (g.D.Disk.faults c.args.disk.now) (g.D.Disk.faults c.own.new.disk)
          (g.D.Disk.faults c.place_rest.new.disk) c.place_rest.result c.in_ok-now.ensures.fails.cause.fine fails.cause;
    }

-- ---- what is left so

pub returns-in_err-rest-clause-rests : goal.returns-in_err-rest-clause-rests
returns-in_err-rest-clause-rests g c =
    let owned = c.in_ok-now.ensures.owned.is in
    let first = c.own.ensures.rests.rests in
    let rewritten = c.rewrite_leaf.ensures.rewritten owned.mine owned.here in
    let second = rewritten-rests c.own.new.land c.rewrite_leaf.new.land c.in_ok-now.now c.args.tree.now.next owned.mine
    owned.here rewritten (g.D.Disk.history c.own.new.disk) first.backed first.drafted in
    record {
      rests = Rests-after c.args.land.now c.own.new.land c.rewrite_leaf.new.land (g.D.Disk.history c.own.new.disk)
          (g.D.Disk.history c.own.new.disk) c.args.tree.now.next first second;
      history = c.own.ensures.rests.history;
      size = c.own.ensures.rests.size;
    }

pub returns-clause-rests : goal.returns-clause-rests
returns-clause-rests g c =
    let land = c.args.land.now in
    let mid = c.own.new.land in
    let set = c.rewrite_leaf.new.land in
    let next = c.args.tree.now.next in
    let own_history = g.D.Disk.history c.own.new.disk in
    let owned = c.in_ok-now.ensures.owned.is in
    let first = c.own.ensures.rests.rests in
    let rewritten = c.rewrite_leaf.ensures.rewritten owned.mine owned.here in
    let second = rewritten-rests mid set c.in_ok-now.now next owned.mine owned.here rewritten own_history first.backed
    first.drafted in
    let third = c.place_rest.ensures.rests in
    LeavesBe-after land set c.place_rest.new.land (g.D.Disk.history c.args.disk.now) own_history
    (g.D.Disk.history c.place_rest.new.disk) (g.D.Disk.size c.args.disk.now) (g.D.Disk.size c.own.new.disk)
    (g.D.Disk.size c.place_rest.new.disk) next
    (record {
      rests = Rests-after land mid set own_history own_history next first second;
      history = c.own.ensures.rests.history;
      size = c.own.ensures.rests.size;
    })
    third

pub returns-clause-book : goal.returns-clause-book
returns-clause-book g c =
    let mid = c.own.new.land in
    let set = c.rewrite_leaf.new.land in
    let now = c.in_ok-now.now in
    let owned = c.in_ok-now.ensures.owned.is in
    let rewritten = c.rewrite_leaf.ensures.rewritten owned.mine owned.here in
    let stays = stays-cut mid.space.sizes.nodesize owned.mine _ set now c.in_ok-rest.rest
    (header-with_items owned.mine _) (c.in_ok-rest.ensures.cut owned.mine owned.here) in
    let book = c.place_rest.ensures.book in
    record {
      stands = book.stands;
      settled = λ settled. book.settled
          (g.met.B.Book.keeps c.own.new.book mid set c.own.new.disk c.own.new.disk refl
          (rewritten-space mid set now owned.mine owned.here rewritten)
          (rewritten-levels mid set now owned.mine owned.here rewritten stays.stays)
          (c.in_ok-now.ensures.book.settled settled));
    }

-- ---- over any disk

pub returns-in_err-now-clause-stops : goal.returns-in_err-now-clause-stops
returns-in_err-now-clause-stops g c =
    let sizes = c.args.land.now.blocks.draft.sizes in
    let bytes = g.D.Disk.size c.args.disk.now in
    stops-err ℕ c.from_residual.result c.in_err-now.field-0.0 sizes sizes bytes bytes c.from_residual.ensures.1 refl
    refl c.in_err-now.ensures.stops

pub returns-in_err-rest-clause-stops : goal.returns-in_err-rest-clause-stops
returns-in_err-rest-clause-stops g c =
    let residual = c.from_residual-in_err-rest in
    let nodesize = c.own.new.land.space.sizes.nodesize in
    let edit = c.args.edit in
    let owned = c.in_ok-now.ensures.owned.is in
    stops-names-err (Option Node) residual.result c.in_err-rest.field-0.0
    (IsBrokenByChange nodesize edit.key edit.change owned.mine) c.args.land.now.blocks.draft.sizes
    (g.D.Disk.size c.args.disk.now) residual.ensures.1
    (λ rule address bad. misfit-change nodesize edit.key edit.change owned.mine rule address bad)
    (c.in_err-rest.ensures.fails.broken owned.mine owned.here)

pub returns-clause-stops : goal.returns-clause-stops
returns-clause-stops g c =
    let land = c.args.land.now in
    let mid = c.own.new.land in
    let set = c.rewrite_leaf.new.land in
    let next = c.args.tree.now.next in
    let own_history = g.D.Disk.history c.own.new.disk in
    let owned = c.in_ok-now.ensures.owned.is in
    let first = c.own.ensures.rests.rests in
    let rewritten = c.rewrite_leaf.ensures.rewritten owned.mine owned.here in
    let second = rewritten-rests mid set c.in_ok-now.now next owned.mine owned.here rewritten own_history first.backed
    first.drafted in
    let leaves : LeavesBe land set (g.D.Disk.history c.args.disk.now) own_history (g.D.Disk.size c.args.disk.now)
    (g.D.Disk.size c.own.new.disk) next = record {
      rests = Rests-after land mid set own_history own_history next first second;
      history = c.own.ensures.rests.history;
      size = c.own.ensures.rests.size;
    } in
    stops-after c.place_rest.result leaves c.place_rest.ensures.stops
