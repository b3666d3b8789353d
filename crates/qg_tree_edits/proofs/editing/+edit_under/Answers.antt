use Rattle.std.proofs.Common.{◌≡◌, ℕ, ◌+◌, ◌-◌, ◌*◌, ◌<◌, ◌++◌, ◌∙◌, ap, arith, subst, suc, sym}
use Rattle.std.specs.Prelude.{IfOk, Err, IsTrue, List, None, Option, Some, length, map}
use Rattle.std.proofs.lemmas.Result.{IfOk-weaker, err_from_is_err_and, on_ok_weaker}
use Rattle.qg_node.specs.declared.item.Item.{Item}
use Rattle.qg_node.specs.declared.node.Node.{Node}
use Rattle.qg_node.specs.declared.pointer.Pointer.{Pointer}
use Rattle.qg_node.specs.Nodes.{is_ascending, own_pointers}
use Rattle.qg_super.specs.declared.sizes.Sizes.{Sizes}
use Rattle.qg_shape.specs.Parts.{IsInner}
use Rattle.qg_node_alloc.specs.Tellings.{Telling}
use Rattle.qg_blocks.specs.NodesFound.{told}
use Rattle.qg_blocks.proofs.Telling.{fresh-held}
use Rattle.qg_edit.specs.Edits.{growth_of}
use Rattle.qg_tree_edits.specs.declared.instead.Instead.{Instead}
use Rattle.qg_device.specs.History.{History}
use Rattle.qg_node.specs.declared.node.Node.TheVariants.{Inner}
use Rattle.qg_tree_edits.specs.First.{leaves, leaves_behind}
use Rattle.qg_tree_edits.specs.Editing.{IsFreshOn, IsPartEdited, IsPartFit, IsPlacedBehind, RestIsReady}
use Rattle.qg_tree_edits.specs.Counting.{IsPartTold, tellings_made, tellings_owned}
use Rattle.qg_tree_edits.specs.Steps.{EditsItems, EditsPart, FailsToEdit}
use Rattle.qg_tree_edits.proofs.Descended.{descended-edited, descended-first, descended-fit, descended-items}
use Rattle.qg_tree_edits.proofs.Descended.{descended-leaves, descended-mine, descended-told, descended-unsettled}
use Rattle.qg_tree_edits.proofs.FitTold.{fit-told}
use Rattle.qg_tree_edits.proofs.Handed.{child-edited, child-leaves, child-told, settle-leaves, settle-settled}
use Rattle.qg_tree_edits.proofs.Handed.{settle-sound, settle-told}
use Rattle.qg_tree_edits.proofs.LeafLists.{behind-leaf}
use Rattle.qg_tree_edits.proofs.LeavesBelow.{placed-leaves}
use Rattle.qg_tree_edits.proofs.PartBelow.{fit-inner, fit-there}
use Rattle.qg_tree_edits.proofs.Inner.{inner-ascending, inner-here, inner-some, place-inside}
use Rattle.qg_tree_edits.proofs.Paired.{owned-levelled}
use Rattle.qg_tree_edits.proofs.PlacedTold.{ok-both}
use Rattle.qg_tree_edits.proofs.Rejoined.{unbroken-other}
use Rattle.qg_tree_edits.proofs.Served.{node-drafted, slots-most}
use Rattle.qg_node_alloc.proofs.Calls.{LeavesBe-after}
use Rattle.qg_device.proofs.Causes.{cause-handed, cause-last}
use Rattle.qg_tree_edits.proofs.Turning.{four-in-row}
use Rattle.qg_node_alloc.proofs.Owners.{IsOwnedBy-after}
use Rattle.qg_tree_edits.proofs.Owners.{placed-owners}
use Rattle.qg_tree_edits.proofs.Naming.{names-none, names-other}
use Rattle.qg_tree_edits.proofs.Unfit.{fails-above, fails-below, fails-read, leads-down, owned-stands, placed-stands}
use Rattle.qg_tree_edits.specs.Failing.{CantSettle, FailsUnder, IsRefused}
use Rattle.std.proofs.Common.{refl}
use Rattle.qg_blocks.proofs.Stopping.{stops-err}
use Rattle.qg_tree_edits.proofs.Stopped.{stops-after, stops-err-after}
use Rattle.qg_tree_edits.proofs.editing.+edit_under.Given.{Over}
use Rattle.qg_tree_edits.proofs.editing.+edit_under.Goals as goal
use Rattle.qg_tree_edits.proofs.editing.+edit_under.Goals.{After-place_rest}

pub place_for-place-requires-clause-inner : goal.place_for-place-requires-clause-inner
place_for-place-requires-clause-inner g t c =
    let owned = c.in_ok-now.ensures.owned.is in
    let levelled = owned-levelled g.P.TreePart.tree c.args.tree.now c.args.land.now c.own.new.land
    (g.D.Disk.history c.args.disk.now) c.args.way.expected c.args.way.address c.in_ok-now.now owned c.args.level
    c.requires.levelled in
    let same : c.peek.result.now ≡ owned.mine = fresh-held c.own.new.land.blocks c.in_ok-now.now owned.mine
    c.peek.result.now owned.here c.peek.ensures in
    let sound = node-drafted c.own.new.land c.args.tree.now.next c.in_ok-now.now owned.mine
    c.own.ensures.rests.rests.drafted owned.here in
    subst (λ (n : Node). IsInner n) (sym same) (inner-here owned.mine sound.levelled (omega (arith, levelled)))

pub place_for-place-requires-clause-some : goal.place_for-place-requires-clause-some
place_for-place-requires-clause-some g t c =
    let owned = c.in_ok-now.ensures.owned.is in
    let levelled = owned-levelled g.P.TreePart.tree c.args.tree.now c.args.land.now c.own.new.land
    (g.D.Disk.history c.args.disk.now) c.args.way.expected c.args.way.address c.in_ok-now.now owned c.args.level
    c.requires.levelled in
    let same : c.peek.result.now ≡ owned.mine = fresh-held c.own.new.land.blocks c.in_ok-now.now owned.mine
    c.peek.result.now owned.here c.peek.ensures in
    let sound = node-drafted c.own.new.land c.args.tree.now.next c.in_ok-now.now owned.mine
    c.own.ensures.rests.rests.drafted owned.here in
    subst (λ (n : Node). 0 < length (own_pointers n)) (sym same) (inner-some owned.mine sound.levelled
    (omega (arith, levelled)))

pub place_for-place-requires-clause-ascending : goal.place_for-place-requires-clause-ascending
place_for-place-requires-clause-ascending g t c =
    let owned = c.in_ok-now.ensures.owned.is in
    let levelled = owned-levelled g.P.TreePart.tree c.args.tree.now c.args.land.now c.own.new.land
    (g.D.Disk.history c.args.disk.now) c.args.way.expected c.args.way.address c.in_ok-now.now owned c.args.level
    c.requires.levelled in
    let same : c.peek.result.now ≡ owned.mine = fresh-held c.own.new.land.blocks c.in_ok-now.now owned.mine
    c.peek.result.now owned.here c.peek.ensures in
    let sound = node-drafted c.own.new.land c.args.tree.now.next c.in_ok-now.now owned.mine
    c.own.ensures.rests.rests.drafted owned.here in
    subst (λ (n : Node). IsTrue (is_ascending (map (λ (p : Pointer). p.key) (own_pointers n)))) (sym same)
    (inner-ascending owned.mine sound.levelled (omega (arith, levelled)) sound.ascending)

pub settle-requires-clause-place : goal.settle-requires-clause-place
settle-requires-clause-place g t c =
    let mid = c.own.new.land in
    let now = c.in_ok-now.now in
    let place = c.place_for-place.result in
    let owned = c.in_ok-now.ensures.owned.is in
    let levelled = owned-levelled g.P.TreePart.tree c.args.tree.now c.args.land.now mid
    (g.D.Disk.history c.args.disk.now) c.args.way.expected c.args.way.address now owned c.args.level
    c.requires.levelled in
    let above = c.in_ok-child.ensures.part.moves.above now owned.mine owned.here (omega (arith, levelled)) in
    let same : c.peek.result.now ≡ owned.mine = fresh-held mid.blocks now owned.mine c.peek.result.now owned.here
    c.peek.ensures in
    record {
      fresh = record { node = owned.mine; here = above; levelled = omega (arith, levelled) };
      inside = λ node there.
          let that : Some owned.mine ≡ Some node = sym above ∙ there in
          let one : owned.mine ≡ node = cc in
          subst (λ (n : Node). place < length (own_pointers n)) (same ∙ one)
          (place-inside (own_pointers c.peek.result.now) c.args.edit.key place c.place_for-place.ensures);
    }

pub place_rest-requires-clause-slots : goal.place_rest-requires-clause-slots
place_rest-requires-clause-slots g t c =
    let slots = c.requires.ready.slots in
    let first = c.in_ok-now.ensures.owned.count in
    let second = c.in_ok-child.ensures.part.moves.count in
    let third = c.in_ok-rest.ensures.set.moves.count in
    omega (arith, slots, first, second, third)

pub place_rest-requires-clause-rest : goal.place_rest-requires-clause-rest
place_rest-requires-clause-rest g t c =
    let set = c.settle.new.land in
    let now = c.in_ok-now.now in
    let next = c.args.tree.now.next in
    let rest = c.in_ok-rest.rest in
    let up : c.args.level - 1 + 1 ≡ c.args.level = omega arith in
    let settled = c.in_ok-rest.ensures.set in
    let sizes = ap (λ (s : Sizes). s.nodesize) (sym c.settle.ensures.rests.rests.sizes) in
    record {
      fresh = subst (λ (n : ℕ). IsFreshOn set n now) up settled.parent;
      ready = subst (λ (n : ℕ). RestIsReady set.space.sizes.nodesize n next rest) up
          (subst (λ (n : ℕ). RestIsReady n (c.args.level - 1 + 1) next rest) sizes settled.ready);
    }

-- ---- a leaf

pub returns-then-level-eq0-clause-part : goal.returns-then-level-eq0-clause-part
returns-then-level-eq0-clause-part g t c =
    let part = c.edit_there.ensures.part in
    subst (λ (n : ℕ). EditsPart c.args.edit c.args.tree.now.owner n c.args.way.address c.args.land.now
    c.edit_there.new.land c.edit_there.result) (sym c.if-level-eq0.true) part

pub returns-then-level-eq0-clause-edited : goal.returns-then-level-eq0-clause-edited
returns-then-level-eq0-clause-edited g t c =
    let tree = g.P.TreePart.tree in
    let root = c.args.tree.now in
    let land = c.args.land.now in
    let history = g.D.Disk.history c.args.disk.now in
    let at = c.args.way.address in
    let edit = c.args.edit in
    subst (λ (n : ℕ). (items : List Item) → IsPartFit tree root land history n c.args.way.expected at edit items
    → EditsItems g.B.Book.follows tree root edit n at land c.edit_there.new.land history items c.args.book.now
    c.edit_there.new.book c.edit_there.result)
    (sym c.if-level-eq0.true) c.edit_there.ensures.edited

pub returns-then-level-eq0-clause-fails : goal.returns-then-level-eq0-clause-fails
returns-then-level-eq0-clause-fails g t c =
    subst (λ (n : ℕ). FailsToEdit g.P.TreePart.tree c.args.tree.now c.args.edit n c.args.way.expected c.args.way.address
    c.args.land.now c.edit_there.new.land (g.D.Disk.history c.args.disk.now) (g.D.Disk.faults c.args.disk.now)
    (g.D.Disk.faults c.edit_there.new.disk) c.edit_there.result)
    (sym c.if-level-eq0.true) c.edit_there.ensures.fails

pub returns-then-level-eq0-clause-reads : goal.returns-then-level-eq0-clause-reads
returns-then-level-eq0-clause-reads g t c =
    let reads = c.edit_there.ensures.reads in
    let once = c.if-level-eq0.true in
    omega (arith, reads, once)

-- ---- an inner node

pub returns-clause-part : goal.returns-clause-part
returns-clause-part g t c =
    let tree = g.P.TreePart.tree in
    let root = c.args.tree.now in
    let owner = root.owner in
    let land = c.args.land.now in
    let mid = c.own.new.land in
    let low = c.edit_under.new.land in
    let set = c.settle.new.land in
    let end = c.place_rest.new.land in
    let way = c.args.way in
    let now = c.in_ok-now.now in
    let rest = c.in_ok-rest.rest in
    let owned = c.in_ok-now.ensures.owned.is in
    let below = c.in_ok-child.ensures.part in
    let settled = c.in_ok-rest.ensures.set in
    let placed = c.place_rest.ensures.placed in
    let first = c.in_ok-now.ensures.owned.count in
    let second = below.moves.count in
    let third = settled.moves.count in
    let most = slots-most rest in
    let stands = owned-stands tree root land mid (g.D.Disk.history c.args.disk.now) way.expected way.address now
    owned in
    record {
      stood = placed.stood;
      whole = λ none. placed.whole (settled.whole (below.whole none));
      there = IfOk-weaker c.place_rest.result _ _
          (λ instead behind. placed-stands owner land set end way.address now rest instead stands behind) placed.placed;
      moves = on_ok_weaker c.place_rest.result
          (λ last. let fourth = last.count in record {
            count = omega (arith, first, second, third, fourth, most);
            above = λ q node here high. last.above q node
                (settled.moves.above q node (below.moves.above q node (owned.keeps q node here) (omega (arith, high)))
                (omega (arith, high))) high;
          })
          placed.moves;
      owners = IfOk-weaker c.place_rest.result _ _
          (λ instead behind. IsOwnedBy-after owner land mid end c.in_ok-now.ensures.owned.owners
          (IsOwnedBy-after owner mid low end below.owners
          (placed-owners owner low set end now rest instead settled.owners behind)))
          placed.placed;
    }

-- what the book is told meanwhile
told_edited : (g : Over) (t : ℕ) (c : After-place_rest g t) (items : List Item)
    → IsPartFit g.P.TreePart.tree c.args.tree.now c.args.land.now (g.D.Disk.history c.args.disk.now) c.args.level
    c.args.way.expected c.args.way.address c.args.edit items
    → (before : g.row.B.Denot) (log : List Telling) → g.B.Book.follows before log c.args.book.now
    → IfOk c.place_rest.result (λ instead. (tellings : List Telling)
    × g.B.Book.follows before (log ++ tellings) c.place_rest.new.book
    × IsPartTold c.args.land.now c.place_rest.new.land (g.D.Disk.history c.args.disk.now) c.args.level
    c.args.way.address instead tellings)
told_edited g t c items fit before log follows =
    let tree = g.P.TreePart.tree in
    let root = c.args.tree.now in
    let land = c.args.land.now in
    let mid = c.own.new.land in
    let low = c.edit_under.new.land in
    let set = c.settle.new.land in
    let end = c.place_rest.new.land in
    let history = g.D.Disk.history c.args.disk.now in
    let own_history = g.D.Disk.history c.own.new.disk in
    let low_history = g.D.Disk.history c.edit_under.new.disk in
    let set_history = g.D.Disk.history c.settle.new.disk in
    let end_history = g.D.Disk.history c.place_rest.new.disk in
    let same = c.own.ensures.rests.history in
    let same_low : low_history ≡ history = c.edit_under.ensures.rests.history ∙ c.own.ensures.rests.history in
    let low_level = c.args.level - 1 in
    let expected = c.args.way.expected in
    let at = c.args.way.address in
    let now = c.in_ok-now.now in
    let edit = c.args.edit in
    let makes = c.requires.ready.makes in
    let drafted = c.requires.ready.editable.drafted in
    let short = c.requires.short in
    let owned = c.in_ok-now.ensures.owned.is in
    let own_rests = c.own.ensures.rests.rests in
    let low_rests = c.edit_under.ensures.rests.rests in
    let node = c.peek.result.now in
    let node_still = c.peek-2.result.now in
    let place = c.place_for-place.result in
    let leads = c.place_for-place.ensures in
    let below = c.way_at-below.result in
    let is_way = c.way_at-below.ensures in
    let child = c.in_ok-child.child in
    let above = c.in_ok-child.ensures.part.moves.above in
    let rest = c.in_ok-rest.rest in
    let up : c.args.level ≡ suc low_level = omega arith in
    let fit_up : IsPartFit tree root land history (suc low_level) expected at edit items =
    subst (λ (n : ℕ). IsPartFit tree root land history n expected at edit items) up fit in
    let mine = descended-mine tree root land mid history low_level expected at now edit items fit_up owned makes drafted
    own_rests.node_sizes node node_still c.peek.ensures c.peek-2.ensures place leads below is_way in
    let fit_low = descended-fit tree root land mid history low_level expected at now edit items fit_up owned makes
    drafted own_rests.node_sizes node node_still c.peek.ensures c.peek-2.ensures place leads below is_way in
    let edited_child = child-edited tree root mid low low_level below edit mine history own_history same child fit_low
    (λ under under_fit. (c.in_ok-child.ensures.edited under under_fit).edited) in
    let items_new = descended-items tree root land mid history low_level expected at now edit items fit_up owned makes
    drafted own_rests.node_sizes node node_still c.peek.ensures c.peek-2.ensures place leads below is_way low child
    edited_child above low_rests.node_sizes short in
    let un = descended-unsettled tree root land mid history low_level expected at now edit items fit_up owned makes
    drafted own_rests.node_sizes node node_still c.peek.ensures c.peek-2.ensures place leads below is_way low child
    edited_child above low_rests.node_sizes short in
    let last = c.place_rest.ensures.rests in
    let placed = c.place_rest.ensures.placed.placed in
    let own_log = tellings_owned owned.node at now in
    let top = fit-told tree root land mid history c.args.level expected at now edit items fit owned in
    let first = c.in_ok-now.ensures.told owned.node top.0 top.1 before log follows in
    let second = child-told tree root mid low low_level below edit mine history own_history same child
    (λ tellings. g.B.Book.follows before ((log ++ own_log) ++ tellings) c.edit_under.new.book) fit_low
    (λ under under_fit. (c.in_ok-child.ensures.edited under under_fit).told before (log ++ own_log) first) in
    let third = settle-told tree root low set low_level now expected.to place child history low_history same_low
    rest (λ tellings. g.B.Book.follows before (((log ++ own_log) ++ second.0) ++ tellings) c.settle.new.book)
    (λ all all_un. (c.in_ok-rest.ensures.settled all all_un).told before ((log ++ own_log) ++ second.0) second.1)
    items_new un in
    let log_up = ((log ++ own_log) ++ second.0) ++ third.0 in
    ok-both c.place_rest.result (λ instead. IsPlacedBehind root.owner set end now rest instead)
    (λ instead. g.B.Book.follows before (log_up ++ tellings_made instead.more) c.place_rest.new.book)
    (λ instead. (tellings : List Telling) × g.B.Book.follows before (log ++ tellings) c.place_rest.new.book
    × IsPartTold land end history c.args.level at instead tellings)
    (λ instead behind told_rest. (
      own_log ++ (second.0 ++ (third.0 ++ tellings_made instead.more)),
      subst (λ (ts : List Telling). g.B.Book.follows before ts c.place_rest.new.book)
          {x = (((log ++ own_log) ++ second.0) ++ third.0) ++ tellings_made instead.more}
          {y = log ++ (own_log ++ (second.0 ++ (third.0 ++ tellings_made instead.more)))}
          (four-in-row log own_log second.0 third.0 (tellings_made instead.more)) told_rest,
      subst (λ (n : ℕ). IsPartTold land end history n at instead
          (own_log ++ (second.0 ++ (third.0 ++ tellings_made instead.more)))) {x = suc low_level}
          {y = c.args.level} (sym up)
          (descended-told tree root land mid history low_level expected at now edit items fit_up owned makes
          drafted own_rests.node_sizes node node_still c.peek.ensures c.peek-2.ensures place leads below is_way
          low child edited_child above low_rests.node_sizes short set end own_history low_history set_history
          end_history rest instead third.2.settled behind own_rests low_rests c.settle.ensures.rests.rests
          last.rests second.0 third.0 second.2 third.2.told),
    ))
    placed
    (c.place_rest.ensures.told before (((log ++ own_log) ++ second.0) ++ third.0) third.1)

pub returns-clause-edited : goal.returns-clause-edited
returns-clause-edited g t c items fit =
    let tree = g.P.TreePart.tree in
    let root = c.args.tree.now in
    let land = c.args.land.now in
    let mid = c.own.new.land in
    let low = c.edit_under.new.land in
    let set = c.settle.new.land in
    let end = c.place_rest.new.land in
    let history = g.D.Disk.history c.args.disk.now in
    let own_history = g.D.Disk.history c.own.new.disk in
    let low_history = g.D.Disk.history c.edit_under.new.disk in
    let set_history = g.D.Disk.history c.settle.new.disk in
    let end_history = g.D.Disk.history c.place_rest.new.disk in
    let same = c.own.ensures.rests.history in
    let same_low : low_history ≡ history = c.edit_under.ensures.rests.history ∙ c.own.ensures.rests.history in
    let low_level = c.args.level - 1 in
    let expected = c.args.way.expected in
    let at = c.args.way.address in
    let now = c.in_ok-now.now in
    let edit = c.args.edit in
    let makes = c.requires.ready.makes in
    let drafted = c.requires.ready.editable.drafted in
    let short = c.requires.short in
    let owned = c.in_ok-now.ensures.owned.is in
    let own_rests = c.own.ensures.rests.rests in
    let low_rests = c.edit_under.ensures.rests.rests in
    let node = c.peek.result.now in
    let node_still = c.peek-2.result.now in
    let place = c.place_for-place.result in
    let leads = c.place_for-place.ensures in
    let below = c.way_at-below.result in
    let is_way = c.way_at-below.ensures in
    let child = c.in_ok-child.child in
    let above = c.in_ok-child.ensures.part.moves.above in
    let rest = c.in_ok-rest.rest in
    let up : c.args.level ≡ suc low_level = omega arith in
    let fit_up : IsPartFit tree root land history (suc low_level) expected at edit items =
    subst (λ (n : ℕ). IsPartFit tree root land history n expected at edit items) up fit in
    let mine = descended-mine tree root land mid history low_level expected at now edit items fit_up owned makes drafted
    own_rests.node_sizes node node_still c.peek.ensures c.peek-2.ensures place leads below is_way in
    let fit_low = descended-fit tree root land mid history low_level expected at now edit items fit_up owned makes
    drafted own_rests.node_sizes node node_still c.peek.ensures c.peek-2.ensures place leads below is_way in
    let edited_child = child-edited tree root mid low low_level below edit mine history own_history same child fit_low
    (λ under under_fit. (c.in_ok-child.ensures.edited under under_fit).edited) in
    let items_new = descended-items tree root land mid history low_level expected at now edit items fit_up owned makes
    drafted own_rests.node_sizes node node_still c.peek.ensures c.peek-2.ensures place leads below is_way low child
    edited_child above low_rests.node_sizes short in
    let un = descended-unsettled tree root land mid history low_level expected at now edit items fit_up owned makes
    drafted own_rests.node_sizes node node_still c.peek.ensures c.peek-2.ensures place leads below is_way low child
    edited_child above low_rests.node_sizes short in
    let settled = settle-settled tree root low set low_level now expected.to place child history low_history same_low
    rest (λ all all_un. (c.in_ok-rest.ensures.settled all all_un).settled) items_new un in
    let last = c.place_rest.ensures.rests in
    let placed = c.place_rest.ensures.placed.placed in
    record {
      edited = IfOk-weaker c.place_rest.result (λ instead. IsPlacedBehind root.owner set end now rest instead)
          (λ instead. IsPartEdited tree root land end history c.args.level at edit items instead)
          (λ instead behind. subst (λ (n : ℕ). IsPartEdited tree root land end history n at edit items instead)
          {x = suc low_level} {y = c.args.level} (sym up)
          (descended-edited tree root land mid history low_level expected at now edit items fit_up owned makes drafted
          own_rests.node_sizes node node_still c.peek.ensures c.peek-2.ensures place leads below is_way low child
          edited_child above low_rests.node_sizes short set end own_history low_history set_history end_history rest
          instead settled behind own_rests low_rests c.settle.ensures.rests.rests last.rests))
          placed;
      leaves = λ first clear.
          let cleared = child-leaves tree root mid low low_level below edit mine history own_history same child fit_low
          (λ under under_fit. (c.in_ok-child.ensures.edited under under_fit).leaves) first clear in
          let none : child.more ≡ None = c.in_ok-child.ensures.part.whole (ap growth_of clear) in
          let start = descended-first tree root land mid history low_level expected at now edit items fit_up owned makes
          drafted own_rests.node_sizes node node_still c.peek.ensures c.peek-2.ensures place leads below is_way first in
          let kept = settle-leaves tree root low set low_level now expected.to place child history low_history same_low
          (λ all all_un. (c.in_ok-rest.ensures.settled all all_un).leaves) items_new un start none
          (λ bottom. cleared ∙ behind-leaf (told mid.blocks.draft history) low_level below.address bottom) in
          let all = descended-leaves tree root land mid history low_level expected at now edit items fit_up owned makes
          drafted own_rests.node_sizes node node_still c.peek.ensures c.peek-2.ensures place leads below is_way low
          child edited_child above low_rests.node_sizes short set first kept cleared in
          let there = subst (λ (n : ℕ). leaves (told set.blocks.draft history) n now
          ≡ leaves_behind (leaves (told land.blocks.draft history) n at)) {x = suc low_level} {y = c.args.level}
          (sym up) all in
          IfOk-weaker c.place_rest.result (λ instead. IsPlacedBehind root.owner set end now rest instead)
          (λ instead. leaves (told end.blocks.draft history) c.args.level instead.now
          ≡ leaves_behind (leaves (told land.blocks.draft history) c.args.level at))
          (λ instead behind. placed-leaves root.owner set end history c.args.level now rest instead
          (c.in_ok-rest.ensures.set.whole none) behind ∙ there)
          placed;
      told = told_edited g t c items fit;
    }

-- ---- how many steps

pub returns-in_err-child-clause-reads : goal.returns-in_err-child-clause-reads
returns-in_err-child-clause-reads g t c =
    let own = c.own.ensures.reads in
    let below = c.edit_under.ensures.reads in
    omega (arith, own, below)

pub returns-in_err-rest-clause-reads : goal.returns-in_err-rest-clause-reads
returns-in_err-rest-clause-reads g t c =
    let own = c.own.ensures.reads in
    let below = c.edit_under.ensures.reads in
    let settled = c.settle.ensures.reads in
    omega (arith, own, below, settled)

pub returns-clause-reads : goal.returns-clause-reads
returns-clause-reads g t c =
    let own = c.own.ensures.reads in
    let below = c.edit_under.ensures.reads in
    let settled = c.settle.ensures.reads in
    let placed = c.place_rest.ensures.reads in
    omega (arith, own, below, settled, placed)

-- ---- where it fails

pub returns-in_err-now-clause-fails : goal.returns-in_err-now-clause-fails
returns-in_err-now-clause-fails g t c =
    let p = err_from_is_err_and c.from_residual.result c.from_residual.ensures.1 in
    let tree = g.P.TreePart.tree in
    let root = c.args.tree.now in
    let land = c.args.land.now in
    let new = c.own.new.land in
    let history = g.D.Disk.history c.args.disk.now in
    let low = c.args.level - 1 in
    let up : c.args.level ≡ suc low = omega arith in
    let expected = c.args.way.expected in
    let at = c.args.way.address in
    let edit = c.args.edit in
    let fault = c.in_err-now.field-0.0 in
    let old = g.D.Disk.faults c.args.disk.now in
    rw (p.1, p.2) (record {
      sound = λ events told_is items fit.
          let fit_up : IsPartFit tree root land history (suc low) expected at edit items =
          subst (λ (n : ℕ). IsPartFit tree root land history n expected at edit items) up fit in
          let inner = fit-inner tree root land history low expected at edit items fit_up in
          let there = fit-there tree root land history low expected at edit items fit_up inner.0 inner.1 inner.2 in
          unbroken-other ℕ Instead fault (c.in_err-now.ensures.fails.sound (Inner inner.0 inner.1) inner.2 there.0);
      broken = λ events told_is. names-other ℕ Instead fault (IsRefused tree root land new events expected at)
          (FailsUnder tree root edit events c.args.level expected at land new)
          (λ rule address bad. fails-read tree root edit events expected at land new rule address c.args.level bad.0)
          (c.in_err-now.ensures.fails.broken events told_is);
      cause = cause-handed ℕ Instead old old (g.D.Disk.faults c.own.new.disk) fault (omega arith)
          c.in_err-now.ensures.fails.cause;
    })

pub returns-in_err-child-clause-fails : goal.returns-in_err-child-clause-fails
returns-in_err-child-clause-fails g t c =
    let p = err_from_is_err_and c.from_residual-in_err-child.result c.from_residual-in_err-child.ensures.1 in
    let tree = g.P.TreePart.tree in
    let root = c.args.tree.now in
    let edit = c.args.edit in
    let land = c.args.land.now in
    let mid = c.own.new.land in
    let new = c.edit_under.new.land in
    let history = g.D.Disk.history c.args.disk.now in
    let own_history = g.D.Disk.history c.own.new.disk in
    let same : own_history ≡ history = c.own.ensures.rests.history in
    let expected = c.args.way.expected in
    let at = c.args.way.address in
    let now = c.in_ok-now.now in
    let low = c.args.level - 1 in
    let up : c.args.level ≡ suc low = omega arith in
    let node = c.peek.result.now in
    let node_still = c.peek-2.result.now in
    let place = c.place_for-place.result in
    let below = c.way_at-below.result in
    let makes = c.requires.ready.makes in
    let drafted = c.requires.ready.editable.drafted in
    let owned = c.in_ok-now.ensures.owned.is in
    let leads = leads-down mid now owned.mine node node_still expected.to low edit place below owned.here c.peek.ensures
    c.peek-2.ensures c.place_for-place.ensures c.way_at-below.ensures in
    let fault = c.in_err-child.field-0.0 in
    rw (p.1, p.2) (record {
      sound = λ events told_is items fit.
          let fit_up : IsPartFit tree root land history (suc low) expected at edit items =
          subst (λ (n : ℕ). IsPartFit tree root land history n expected at edit items) up fit in
          let mine = descended-mine tree root land mid history low expected at now edit items fit_up owned makes drafted
          c.own.ensures.rests.rests.node_sizes node node_still c.peek.ensures c.peek-2.ensures place
          c.place_for-place.ensures below c.way_at-below.ensures in
          let fit_low = descended-fit tree root land mid history low expected at now edit items fit_up owned makes
          drafted c.own.ensures.rests.rests.node_sizes node node_still c.peek.ensures c.peek-2.ensures place
          c.place_for-place.ensures below c.way_at-below.ensures in
          unbroken-other Instead Instead fault (c.in_err-child.ensures.fails.sound events (same ∙ told_is) mine
          (subst (λ (h : History). IsPartFit tree root mid h low below.expected below.address edit mine)
          (sym same) fit_low));
      broken = λ events told_is. names-other Instead Instead fault
          (FailsUnder tree root edit events low below.expected below.address mid new)
          (FailsUnder tree root edit events c.args.level expected at land new)
          (λ rule address bad. subst (λ (n : ℕ). FailsUnder tree root edit events n expected at land new rule address)
          (sym up)
          (fails-below tree root edit events expected at land new rule address mid now history told_is low place below
          owned leads bad))
          (c.in_err-child.ensures.fails.broken events (same ∙ told_is));
      cause = cause-handed Instead Instead (g.D.Disk.faults c.args.disk.now) (g.D.Disk.faults c.own.new.disk)
          (g.D.Disk.faults c.edit_under.new.disk) fault c.in_ok-now.ensures.fails.cause.fine
          c.in_err-child.ensures.fails.cause;
    })

pub returns-in_err-rest-clause-fails : goal.returns-in_err-rest-clause-fails
returns-in_err-rest-clause-fails g t c =
    let p = err_from_is_err_and c.from_residual-in_err-rest.result c.from_residual-in_err-rest.ensures.1 in
    let tree = g.P.TreePart.tree in
    let root = c.args.tree.now in
    let edit = c.args.edit in
    let land = c.args.land.now in
    let mid = c.own.new.land in
    let low_land = c.edit_under.new.land in
    let new = c.settle.new.land in
    let history = g.D.Disk.history c.args.disk.now in
    let own_history = g.D.Disk.history c.own.new.disk in
    let low_history = g.D.Disk.history c.edit_under.new.disk in
    let same : low_history ≡ history = c.edit_under.ensures.rests.history ∙ c.own.ensures.rests.history in
    let expected = c.args.way.expected in
    let at = c.args.way.address in
    let now = c.in_ok-now.now in
    let low = c.args.level - 1 in
    let up : c.args.level ≡ suc low = omega arith in
    let node = c.peek.result.now in
    let node_still = c.peek-2.result.now in
    let below = c.way_at-below.result in
    let place = c.place_for-place.result in
    let child = c.in_ok-child.child in
    let makes = c.requires.ready.makes in
    let drafted = c.requires.ready.editable.drafted in
    let short = c.requires.short in
    let owned = c.in_ok-now.ensures.owned.is in
    let moved = c.in_ok-child.ensures.part.moves.above in
    let sizes = c.own.ensures.rests.rests.node_sizes in
    let low_sizes = c.edit_under.ensures.rests.rests.node_sizes in
    let levelled = owned-levelled tree root land mid history expected at now owned c.args.level c.requires.levelled in
    let above = moved now owned.mine owned.here (omega (arith, levelled)) in
    let leads = leads-down mid now owned.mine node node_still expected.to low edit place below owned.here c.peek.ensures
    c.peek-2.ensures c.place_for-place.ensures c.way_at-below.ensures in
    let fault = c.in_err-rest.field-0.0 in
    let fails = c.in_err-rest.ensures.fails in
    let first = c.in_ok-now.ensures.fails.cause.fine in
    let second = c.in_ok-child.ensures.fails.cause.fine in
    rw (p.1, p.2) (record {
      sound = λ events told_is items fit.
          let fit_up : IsPartFit tree root land history (suc low) expected at edit items =
          subst (λ (n : ℕ). IsPartFit tree root land history n expected at edit items) up fit in
          let mine = descended-mine tree root land mid history low expected at now edit items fit_up owned makes drafted
          sizes node node_still c.peek.ensures c.peek-2.ensures place c.place_for-place.ensures below
          c.way_at-below.ensures in
          let fit_low = descended-fit tree root land mid history low expected at now edit items fit_up owned makes
          drafted sizes node node_still c.peek.ensures c.peek-2.ensures place c.place_for-place.ensures below
          c.way_at-below.ensures in
          let edited_child = child-edited tree root mid low_land low below edit mine history own_history
          c.own.ensures.rests.history child fit_low
          (λ under under_fit. (c.in_ok-child.ensures.edited under under_fit).edited) in
          let items_new = descended-items tree root land mid history low expected at now edit items fit_up owned makes
          drafted sizes node node_still c.peek.ensures c.peek-2.ensures place c.place_for-place.ensures below
          c.way_at-below.ensures low_land child edited_child moved low_sizes short in
          let un = descended-unsettled tree root land mid history low expected at now edit items fit_up owned makes
          drafted sizes node node_still c.peek.ensures c.peek-2.ensures place c.place_for-place.ensures below
          c.way_at-below.ensures low_land child edited_child moved low_sizes short in
          unbroken-other (Option Node) Instead fault
          (settle-sound tree root low_land low now expected.to place child history low_history same (Err fault) events
          told_is fails.sound items_new un);
      broken = λ events told_is. names-other (Option Node) Instead fault
          (CantSettle tree root new events owned.mine now expected.to low place child.now)
          (FailsUnder tree root edit events c.args.level expected at land new)
          (λ rule address bad. subst (λ (n : ℕ). FailsUnder tree root edit events n expected at land new rule address)
          (sym up)
          (fails-above tree root edit events expected at land new rule address mid now history told_is low place below
          child.now owned leads c.in_ok-child.ensures.part.there bad))
          (fails.broken owned.mine above events (same ∙ told_is));
      cause = cause-handed (Option Node) Instead (g.D.Disk.faults c.args.disk.now)
          (g.D.Disk.faults c.edit_under.new.disk) (g.D.Disk.faults c.settle.new.disk) fault
          (omega (arith, first, second)) fails.cause;
    })

pub returns-clause-fails : goal.returns-clause-fails
returns-clause-fails g t c =
    let history = g.D.Disk.history c.args.disk.now in
    let set_history = g.D.Disk.history c.settle.new.disk in
    let same : set_history ≡ history =
    c.settle.ensures.rests.history ∙ c.edit_under.ensures.rests.history ∙ c.own.ensures.rests.history in
    let fails = c.place_rest.ensures.fails in
    let first = c.in_ok-now.ensures.fails.cause.fine in
    let second = c.in_ok-child.ensures.fails.cause.fine in
    let third = c.in_ok-rest.ensures.fails.cause.fine in
    record {
      sound = λ events told_is items fit. fails.sound events (same ∙ told_is);
      broken = λ events told_is. names-none c.place_rest.result
          (FailsUnder g.P.TreePart.tree c.args.tree.now c.args.edit events c.args.level c.args.way.expected
          c.args.way.address c.args.land.now c.place_rest.new.land)
          (fails.sound events (same ∙ told_is));
      cause = cause-last (g.D.Disk.faults c.args.disk.now) (g.D.Disk.faults c.settle.new.disk)
          (g.D.Disk.faults c.place_rest.new.disk) c.place_rest.result (omega (arith, first, second, third)) fails.cause;
    }

-- ---- what is left so

pub returns-in_err-child-clause-rests : goal.returns-in_err-child-clause-rests
returns-in_err-child-clause-rests g t c =
    LeavesBe-after c.args.land.now c.own.new.land c.edit_under.new.land (g.D.Disk.history c.args.disk.now)
    (g.D.Disk.history c.own.new.disk) (g.D.Disk.history c.edit_under.new.disk) (g.D.Disk.size c.args.disk.now)
    (g.D.Disk.size c.own.new.disk) (g.D.Disk.size c.edit_under.new.disk) c.args.tree.now.next
    c.own.ensures.rests
    c.edit_under.ensures.rests

pub returns-in_err-rest-clause-rests : goal.returns-in_err-rest-clause-rests
returns-in_err-rest-clause-rests g t c =
    let history = g.D.Disk.history c.args.disk.now in
    let low_history = g.D.Disk.history c.edit_under.new.disk in
    let size = g.D.Disk.size c.args.disk.now in
    let low_size = g.D.Disk.size c.edit_under.new.disk in
    LeavesBe-after c.args.land.now c.edit_under.new.land c.settle.new.land history low_history
    (g.D.Disk.history c.settle.new.disk) size low_size (g.D.Disk.size c.settle.new.disk) c.args.tree.now.next
    (LeavesBe-after c.args.land.now c.own.new.land c.edit_under.new.land history (g.D.Disk.history c.own.new.disk)
    low_history size (g.D.Disk.size c.own.new.disk) low_size c.args.tree.now.next
    c.own.ensures.rests
    c.edit_under.ensures.rests)
    c.settle.ensures.rests

pub returns-clause-rests : goal.returns-clause-rests
returns-clause-rests g t c =
    let land = c.args.land.now in
    let low = c.edit_under.new.land in
    let set = c.settle.new.land in
    let next = c.args.tree.now.next in
    let history = g.D.Disk.history c.args.disk.now in
    let low_history = g.D.Disk.history c.edit_under.new.disk in
    let set_history = g.D.Disk.history c.settle.new.disk in
    let size = g.D.Disk.size c.args.disk.now in
    let low_size = g.D.Disk.size c.edit_under.new.disk in
    let set_size = g.D.Disk.size c.settle.new.disk in
    let first = LeavesBe-after land c.own.new.land low history (g.D.Disk.history c.own.new.disk) low_history size
    (g.D.Disk.size c.own.new.disk) low_size next
    c.own.ensures.rests
    c.edit_under.ensures.rests in
    let second = LeavesBe-after land low set history low_history set_history size low_size set_size next first
    c.settle.ensures.rests in
    let third = c.place_rest.ensures.rests in
    LeavesBe-after land set c.place_rest.new.land history set_history (g.D.Disk.history c.place_rest.new.disk) size
    set_size (g.D.Disk.size c.place_rest.new.disk) next second third

pub returns-clause-book : goal.returns-clause-book
returns-clause-book g t c =
    let book = c.place_rest.ensures.book in
    record {
      stands = book.stands;
      settled = λ settled. book.settled (c.in_ok-rest.ensures.book.settled
          (c.in_ok-child.ensures.book.settled (c.in_ok-now.ensures.book.settled settled)));
    }

-- ---- over any disk

pub returns-then-level-eq0-clause-stops : goal.returns-then-level-eq0-clause-stops
returns-then-level-eq0-clause-stops g t c = c.edit_there.ensures.stops

pub returns-in_err-now-clause-stops : goal.returns-in_err-now-clause-stops
returns-in_err-now-clause-stops g t c =
    let sizes = c.args.land.now.blocks.draft.sizes in
    let bytes = g.D.Disk.size c.args.disk.now in
    stops-err ℕ c.from_residual.result c.in_err-now.field-0.0 sizes sizes bytes bytes c.from_residual.ensures.1 refl
    refl c.in_err-now.ensures.stops

pub returns-in_err-child-clause-stops : goal.returns-in_err-child-clause-stops
returns-in_err-child-clause-stops g t c =
    let residual = c.from_residual-in_err-child in
    stops-err-after Instead residual.result c.in_err-child.field-0.0 residual.ensures.1 c.own.ensures.rests
    c.in_err-child.ensures.stops

pub returns-in_err-rest-clause-stops : goal.returns-in_err-rest-clause-stops
returns-in_err-rest-clause-stops g t c =
    let residual = c.from_residual-in_err-rest in
    let first = LeavesBe-after c.args.land.now c.own.new.land c.edit_under.new.land (g.D.Disk.history c.args.disk.now)
    (g.D.Disk.history c.own.new.disk) (g.D.Disk.history c.edit_under.new.disk) (g.D.Disk.size c.args.disk.now)
    (g.D.Disk.size c.own.new.disk) (g.D.Disk.size c.edit_under.new.disk) c.args.tree.now.next c.own.ensures.rests
    c.edit_under.ensures.rests in
    stops-err-after (Option Node) residual.result c.in_err-rest.field-0.0 residual.ensures.1 first
    c.in_err-rest.ensures.stops

pub returns-clause-stops : goal.returns-clause-stops
returns-clause-stops g t c =
    let land = c.args.land.now in
    let low = c.edit_under.new.land in
    let history = g.D.Disk.history c.args.disk.now in
    let low_history = g.D.Disk.history c.edit_under.new.disk in
    let size = g.D.Disk.size c.args.disk.now in
    let low_size = g.D.Disk.size c.edit_under.new.disk in
    let first = LeavesBe-after land c.own.new.land low history (g.D.Disk.history c.own.new.disk) low_history size
    (g.D.Disk.size c.own.new.disk) low_size c.args.tree.now.next c.own.ensures.rests c.edit_under.ensures.rests in
    let second = LeavesBe-after land low c.settle.new.land history low_history (g.D.Disk.history c.settle.new.disk) size
    low_size (g.D.Disk.size c.settle.new.disk) c.args.tree.now.next first c.settle.ensures.rests in
    stops-after c.place_rest.result second c.place_rest.ensures.stops
