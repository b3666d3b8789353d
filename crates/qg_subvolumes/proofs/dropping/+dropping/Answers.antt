use Rattle.std.proofs.Common.{◌≡◌, ℕ, suc, ◌+◌, ◌*◌, ◌-◌, ◌<◌, ◌≤◌, Bool, true, List, [], ◌∷◌, Some, arith, refl, sym}
use Rattle.std.proofs.Common.{ap, subst}
use Rattle.std.proofs.Common.{◌∙◌}
use Rattle.std.specs.Prelude.{◌==◌, ◌&&◌, not}
use Rattle.std.specs.List.{All}
use Rattle.std.proofs.lemmas.List.{nil_from_length}
use Rattle.std.proofs.lemmas.List.Elements.{All-tail}
use Rattle.std.proofs.lemmas.Result.{on_ok_weaker}
use Rattle.qg_node.specs.declared.node.Node.{Node}
use Rattle.qg_node.specs.Nodes.{own_pointers}
use Rattle.qg_device.specs.History.{History}
use Rattle.qg_super.specs.Places.{capacity, is_served}
use Rattle.qg_super.specs.declared.sizes.Sizes.{Sizes}
use Rattle.qg_image.specs.State.{State}
use Rattle.qg_node_alloc.specs.declared.ground.Ground.{Ground}
use Rattle.qg_node_alloc.proofs.Editing.{ArePlaced-drafted}
use Rattle.qg_extents.specs.Table.{book_of}
use Rattle.qg_tree_backrefs.specs.Heavier.{BookGetsHeavier}
use Rattle.qg_device.proofs.Causes.{cause-told}
use Rattle.qg_subvolumes.proofs.Resting.{handed, unbroken-handed}
use Rattle.qg_subvolumes.specs.declared.child.Child.{Child}
use Rattle.qg_subvolumes.specs.Dropping.{AreParts, HoldsPartly, IsPart, KnowsNoMore, RestsButRuns}
use Rattle.qg_subvolumes.specs.Dropping.{children_told, parts_reached}
use Rattle.qg_subvolumes.proofs.Children.{children-levelled}
use Rattle.qg_subvolumes.proofs.Knowing.{knows-on, knows-same}
use Rattle.qg_subvolumes.proofs.Opened.{open-part}
use Rattle.qg_subvolumes.proofs.Under.{children-are, top-formed, top-open}
use Rattle.qg_subvolumes.proofs.Leaving.{holds-read, inner-counts, inner-leaves, leaf-leaves, part-some, peeked}
use Rattle.qg_subvolumes.proofs.Stepping.{Went, edit-still, few-all, few-part, never-ok, times_on, rests-on}
use Rattle.qg_subvolumes.proofs.Stepping.{rests-read, rests-still, times-some, weighs-all, weighs-most}
use Rattle.qg_subvolumes.proofs.Stepping.{weighs-on, went-all, went-none, went-on}
use Rattle.std.specs.Prelude.{Err}
use Rattle.qg_num.specs.declared.rule.Rule.TheVariants.{Refs}
use Rattle.qg_image.specs.declared.tree.TreeKind.TheVariants.{Files}
use Rattle.qg_blocks.proofs.Stopping.{misfit-refs, stops-err, stops-rule, stops-same}
use Rattle.qg_tree_read.proofs.Stopping.{stops-visit}
use Rattle.qg_subvolumes.proofs.dropping.+dropping.Given.{Over}
use Rattle.qg_subvolumes.proofs.dropping.+dropping.Goals as goal
use Rattle.qg_subvolumes.proofs.dropping.+dropping.Goals.{drop_each-In_default, drop_under-After-as_slice}
use Rattle.qg_subvolumes.proofs.dropping.+dropping.Goals.{drop_under-After-part_with, drop_under-After-visit}

pub drop_each-parts-init : goal.drop_each-parts-init
drop_each-parts-init g t c = record {
  editable = c.requires.editable;
  levelled = c.requires.levelled;
  went = λ state waiting holds are.
      went-none state c.args.tree.now.owner c.args.level (capacity c.args.land.now.space.sizes.nodesize) waiting
      c.args.parts.now c.args.land.now (g.D.Disk.history c.args.disk.now) (g.D.Disk.history c.args.disk.now)
      c.args.book.now c.args.reads.now holds are;
  book = (refl, refl, refl);
  known = knows-same c.args.book.now;
  rests = rests-still c.args.land.now (g.D.Disk.history c.args.disk.now) (g.D.Disk.size c.args.disk.now)
      c.args.tree.now.next c.requires.editable;
  history = refl;
  size = refl;
  count = omega arith;
}

pub drop_each-parts-preserved : goal.drop_each-parts-preserved
drop_each-parts-preserved g t c =
    let met = c.parts.invariant in
    let part = c.in-Some.part.now in
    let others = c.in-Some.others.now in
    let rest = c.in-Some.ensures.cases.0 in
    let made = c.in_ok-drop_under.ensures in
    let rests = rests-on c.args.land.now c.parts.land c.drop_under.new.land (g.D.Disk.history c.parts.disk)
    (g.D.Disk.history c.drop_under.new.disk) c.args.tree.now.next met.rests made.rests in
    record {
      editable = edit-still c.parts.land c.drop_under.new.land (g.D.Disk.history c.parts.disk)
          (g.D.Disk.history c.drop_under.new.disk) (g.D.Disk.size c.parts.disk) (g.D.Disk.size c.drop_under.new.disk)
          c.args.tree.now.next met.editable made.disk.1 made.rests;
      levelled = All-tail (λ (part : Child). part.way.expected.level ≡ Some c.args.level) part others
          (rw rest at met.levelled);
      went = λ state waiting holds are.
          let went = rw rest at (met.went state waiting holds are) in
          let size = ap (λ (sizes : Sizes). capacity sizes.nodesize) met.rests.sizes in
          went-on state c.args.tree.now.owner c.args.level (capacity c.args.land.now.space.sizes.nodesize) waiting
          c.args.parts.now part others c.parts.land c.drop_under.new.land (g.D.Disk.history c.parts.disk)
          (g.D.Disk.history c.drop_under.new.disk) (g.D.Disk.history c.args.disk.now) c.args.book.now c.parts.book
          c.drop_under.new.book c.args.reads.now c.parts.reads c.drop_under.new.reads went
          (made.dropped state went.left went.holds went.are.0)
          (λ events is. made.reads state went.left events (met.history ∙ is) went.holds went.are.0)
          (subst (λ (n : ℕ). BookGetsHeavier c.parts.book c.drop_under.new.book
          (parts_reached state c.args.level (part ∷ []) * n)) size
          (made.heavier state went.left went.holds went.are.0));
      book = (made.book.tree ∙ met.book.0, made.book.nodesize ∙ met.book.1, made.book.next ∙ met.book.2);
      known = knows-on c.args.book.now c.parts.book c.drop_under.new.book met.known made.book.known;
      rests = rests;
      history = made.disk.0 ∙ met.history;
      size = made.disk.1 ∙ met.size;
      count = let now = made.cause.fine in let before = met.count in omega (arith, now, before);
    }

pub drop_each-drop_under-requires : goal.drop_each-drop_under-requires
drop_each-drop_under-requires g t c κs within =
    let falls : 2 * c.args.level + 1 < t = omega (arith, c.decreases) in
    let levelled = rw c.in-Some.ensures.cases.0 at c.parts.invariant.levelled in
    (falls, (within.0, (within.1, (c.parts.invariant.editable, levelled 0 c.in-Some.part.now (omega arith)))))

pub drop_each-returns-in_err-drop_under-clause-sound :
    goal.drop_each-returns-in_err-drop_under-clause-sound
drop_each-returns-in_err-drop_under-clause-sound g t c state waiting events told same holds are =
    let met = c.parts.invariant in
    let went = rw c.in-Some.ensures.cases.0 at (met.went state waiting holds are) in
    unbroken-handed c.from_residual.result _ c.from_residual.ensures.1
    (c.in_err-drop_under.ensures.sound state went.left events (met.history ∙ told) same went.holds went.are.0)

pub drop_each-returns-in_err-drop_under-clause-reads :
    goal.drop_each-returns-in_err-drop_under-clause-reads
drop_each-returns-in_err-drop_under-clause-reads g t c state waiting events told holds are =
    let met = c.parts.invariant in
    let rest = c.in-Some.ensures.cases.0 in
    let went = rw rest at (met.went state waiting holds are) in
    few-part state c.args.tree.now.owner c.args.level (capacity c.args.land.now.space.sizes.nodesize) waiting
    c.args.parts.now c.in-Some.part.now c.in-Some.others.now c.parts.land (g.D.Disk.history c.parts.disk)
    (g.D.Disk.history c.args.disk.now) c.args.book.now c.parts.book c.args.reads.now c.parts.reads
    c.drop_under.new.reads went events told
    (c.in_err-drop_under.ensures.reads state went.left events (met.history ∙ told) went.holds went.are.0)

pub drop_each-returns-in_err-drop_under-clause-book :
    goal.drop_each-returns-in_err-drop_under-clause-book
drop_each-returns-in_err-drop_under-clause-book g t c =
    let now = c.in_err-drop_under.ensures.book in
    let before = c.parts.invariant.book in
    record {
      tree = now.tree ∙ before.0;
      nodesize = now.nodesize ∙ before.1;
      next = now.next ∙ before.2;
      known = never-ok c.from_residual.result _ c.from_residual.ensures.1
          (KnowsNoMore c.args.book.now c.drop_under.new.book);
    }

pub drop_each-returns-in_err-drop_under-clause-rests :
    goal.drop_each-returns-in_err-drop_under-clause-rests
drop_each-returns-in_err-drop_under-clause-rests g t c =
    rests-on c.args.land.now c.parts.land c.drop_under.new.land (g.D.Disk.history c.parts.disk)
    (g.D.Disk.history c.drop_under.new.disk) c.args.tree.now.next c.parts.invariant.rests
    c.in_err-drop_under.ensures.rests

pub drop_each-returns-in_err-drop_under-clause-disk :
    goal.drop_each-returns-in_err-drop_under-clause-disk
drop_each-returns-in_err-drop_under-clause-disk g t c =
    let now = c.in_err-drop_under.ensures.disk in
    (now.0 ∙ c.parts.invariant.history, now.1 ∙ c.parts.invariant.size)

pub drop_each-returns-in_err-drop_under-clause-cause :
    goal.drop_each-returns-in_err-drop_under-clause-cause
drop_each-returns-in_err-drop_under-clause-cause g t c =
    cause-told (g.D.Disk.faults c.args.disk.now) (g.D.Disk.faults c.parts.disk)
    (g.D.Disk.faults c.drop_under.new.disk) c.from_residual.result _ c.parts.invariant.count
    (handed c.from_residual.result _ c.from_residual.ensures.1) c.in_err-drop_under.ensures.cause

-- no part is left
none-left : (g : Over) (t : ℕ) (c : drop_each-In_default g t) (state : State) (waiting : ℕ → Bool)
    → HoldsPartly c.args.land.now (g.D.Disk.history c.args.disk.now) c.args.book.now state c.args.tree.now.owner waiting
    → AreParts state waiting c.args.level c.args.parts.now
    → Went state c.args.tree.now.owner c.args.level (capacity c.args.land.now.space.sizes.nodesize) waiting
    c.args.parts.now [] c.parts.land (g.D.Disk.history c.parts.disk) (g.D.Disk.history c.args.disk.now) c.args.book.now
    c.parts.book c.args.reads.now c.parts.reads
none-left g t c state waiting holds are =
    rw (nil_from_length c.parts.rest.now c.in_default.ensures.cases) at (c.parts.invariant.went state waiting holds are)

pub drop_each-returns-clause-dropped : goal.drop_each-returns-clause-dropped
drop_each-returns-clause-dropped g t c state waiting holds are =
    let went = none-left g t (goal.at.drop_each-returns-clause-dropped g t c).In_default state waiting holds
    are in
    went-all state c.args.tree.now.owner c.args.level (capacity c.args.land.now.space.sizes.nodesize) waiting
    c.args.parts.now c.parts.land (g.D.Disk.history c.parts.disk) (g.D.Disk.history c.args.disk.now) c.args.book.now
    c.parts.book c.args.reads.now c.parts.reads went

pub drop_each-returns-clause-reads : goal.drop_each-returns-clause-reads
drop_each-returns-clause-reads g t c state waiting events told holds are =
    let went = none-left g t (goal.at.drop_each-returns-clause-reads g t c).In_default state waiting holds
    are in
    few-all state c.args.tree.now.owner c.args.level (capacity c.args.land.now.space.sizes.nodesize) waiting
    c.args.parts.now c.parts.land (g.D.Disk.history c.parts.disk) (g.D.Disk.history c.args.disk.now) c.args.book.now
    c.parts.book c.args.reads.now c.parts.reads went events told

pub drop_each-returns-clause-heavier : goal.drop_each-returns-clause-heavier
drop_each-returns-clause-heavier g t c state waiting holds are =
    let went = none-left g t (goal.at.drop_each-returns-clause-heavier g t c).In_default state waiting holds
    are in
    weighs-all state c.args.tree.now.owner c.args.level (capacity c.args.land.now.space.sizes.nodesize) waiting
    c.args.parts.now c.parts.land (g.D.Disk.history c.parts.disk) (g.D.Disk.history c.args.disk.now) c.args.book.now
    c.parts.book c.args.reads.now c.parts.reads went

pub drop_each-returns-clause-book : goal.drop_each-returns-clause-book
drop_each-returns-clause-book g t c =
    let book = c.parts.invariant.book in
    record { tree = book.0; nodesize = book.1; next = book.2; known = c.parts.invariant.known }

pub drop_each-returns-clause-rests : goal.drop_each-returns-clause-rests
drop_each-returns-clause-rests g t c = c.parts.invariant.rests

pub drop_each-returns-clause-disk : goal.drop_each-returns-clause-disk
drop_each-returns-clause-disk g t c = (c.parts.invariant.history, c.parts.invariant.size)

pub drop_each-returns-clause-cause : goal.drop_each-returns-clause-cause
drop_each-returns-clause-cause g t c = record { fine = c.parts.invariant.count; met = tt }

-- ---- a part's node

module _ (g : Over) (t : ℕ) (c : drop_under-After-visit g t) where
  -- what was visited leaves all but clean nodes
  rested : RestsButRuns c.args.land.now (record c.args.land.now { blocks = c.visit.new.blocks })
      (g.D.Disk.history c.visit.new.disk) c.args.tree.now.next
  rested = rests-read c.args.land.now c.visit.new.blocks (g.D.Disk.history c.visit.new.disk) c.args.tree.now.next
      c.visit.ensures.read.draft c.visit.ensures.read.bound c.visit.ensures.readable.backed c.requires.editable.drafted

  read-once : (state : State) (waiting : ℕ → Bool)
      → HoldsPartly c.args.land.now (g.D.Disk.history c.args.disk.now) c.args.book.now state c.args.tree.now.owner
      waiting
      → IsPart state waiting c.args.level c.args.part.now
      → c.visit.new.reads ≤ c.args.reads.now + parts_reached state c.args.level (c.args.part.now ∷ [])
  read-once state waiting holds are =
      let some = part-some c.args.land.now (g.D.Disk.history c.args.disk.now) c.args.book.now state
      c.args.tree.now.owner waiting holds c.requires.editable.drafted.sizes.served c.args.level c.args.part.now are in
      omega (arith, some, c.visit.ensures.reads)

parted-rested : (g : Over) (t : ℕ) (c : drop_under-After-part_with g t)
    → RestsButRuns c.args.land.now c.part_with.new.land (g.D.Disk.history c.visit.new.disk) c.args.tree.now.next
parted-rested g t c =
    let mid : Ground = record c.args.land.now { blocks = c.visit.new.blocks } in
    let after = g.D.Disk.history c.visit.new.disk in
    let read = rests-read c.args.land.now c.visit.new.blocks after c.args.tree.now.next c.visit.ensures.read.draft
    c.visit.ensures.read.bound c.visit.ensures.readable.backed c.requires.editable.drafted in
    rests-on c.args.land.now mid c.part_with.new.land after after c.args.tree.now.next read
    (c.part_with.ensures.rests after c.args.tree.now.next read.backed read.drafted)

-- ---- the children of one that isn't a leaf

module _ (g : Over) (t : ℕ) (c : drop_under-After-as_slice g t) where
  children-seen : c.as_slice.result.now ≡ children_told (book_of c.args.book.now.refs) c.args.part.now.way.expected.to
      (c.args.level - 1) (own_pointers c.peek-node.result.now)
  children-seen =
      c.as_slice.ensures.value ∙ c.in_ok-children.ensures
      ∙ ap (λ (n : ℕ). children_told (book_of c.args.book.now.refs) c.args.part.now.way.expected.to n
      (own_pointers c.peek-node.result.now)) c.saturating_sub.ensures

  module _ (state : State) (waiting : ℕ → Bool)
      (holds : HoldsPartly c.args.land.now (g.D.Disk.history c.args.disk.now) c.args.book.now state
      c.args.tree.now.owner waiting) (are : IsPart state waiting c.args.level c.args.part.now) where
    abbrev served : is_served c.args.land.now.space.sizes ≡ true
    served = c.requires.editable.drafted.sizes.served

    abbrev before : History
    before = g.D.Disk.history c.args.disk.now

    high : c.args.level ≡ suc (c.args.level - 1)
    high = omega (arith, c.if-level-eq0.false)

    -- what is open still
    abbrev less : ℕ → Bool
    less q = waiting q && not (q == c.args.part.now.way.address)

    parted : HoldsPartly c.part_with.new.land (g.D.Disk.history c.visit.new.disk) c.part_with.new.book state
        c.args.tree.now.owner less
    parted =
        c.in_ok-part_with.ensures.parted state c.args.tree.now.owner waiting (g.D.Disk.history c.visit.new.disk)
        are.placed c.visit.ensures.readable.backed
        (holds-read c.args.land.now before c.args.book.now state c.args.tree.now.owner waiting holds c.visit.new.blocks
        (g.D.Disk.history c.visit.new.disk) c.visit.ensures.read.draft c.visit.ensures.read.history)
        are.there are.mark
        (top-open c.args.land.now before c.args.book.now state c.args.tree.now.owner waiting holds served c.args.level
        c.args.part.now are) are.under

    children-told : c.as_slice.result.now ≡ children_told (book_of c.args.book.now.refs)
        c.args.part.now.way.expected.to (c.args.level - 1) (own_pointers are.placed.node)
    children-told =
        children-seen
        ∙ ap (λ (n : Node). children_told (book_of c.args.book.now.refs) c.args.part.now.way.expected.to
        (c.args.level - 1) (own_pointers n))
        (peeked c.args.land.now before c.args.book.now state c.args.tree.now.owner waiting holds served c.args.level
        c.args.part.now are _ c.args.part.now.way.expected c.visit.new.blocks c.in_ok-visit.ensures.visited
        c.peek-node.result.now c.peek-node.ensures)

    parts : AreParts state less (c.args.level - 1) c.as_slice.result.now
    parts =
        subst (λ (list : List Child). AreParts state less (c.args.level - 1) list) (sym children-told)
        (children-are c.args.land.now before c.args.book.now state c.args.tree.now.owner waiting holds served
        c.args.level c.args.part.now are (c.args.level - 1) high)

    counted : parts_reached state c.args.level (c.args.part.now ∷ [])
        ≡ parts_reached state (c.args.level - 1) c.as_slice.result.now + 1
    counted =
        inner-counts c.args.land.now before c.args.book.now state c.args.tree.now.owner waiting holds served
        c.args.level c.args.part.now are (c.args.level - 1) high c.as_slice.result.now children-told

pub drop_under-visit-requires : goal.drop_under-visit-requires
drop_under-visit-requires g t c = record {
  readable = record {
    backed = c.requires.editable.backed;
    placed = ArePlaced-drafted c.args.land.now c.args.tree.now.next (g.D.Disk.size c.args.disk.now)
        c.requires.editable.room c.requires.editable.drafted;
  };
}

pub drop_under-returns-in_err-visit-clause-sound :
    goal.drop_under-returns-in_err-visit-clause-sound
drop_under-returns-in_err-visit-clause-sound g t c state waiting events told same holds are =
    let history = g.D.Disk.history c.args.disk.now in
    let served = c.requires.editable.drafted.sizes.served in
    let size = c.requires.editable.drafted.sizes.nodesize ∙ ap (λ (s : Sizes). s.nodesize) (sym holds.sizes) in
    unbroken-handed c.from_residual.result _ c.from_residual.ensures.1
    (c.in_err-visit.ensures.sound are.placed.node
    (open-part c.args.land.now history c.args.book.now state c.args.tree.now.owner waiting holds served
    c.args.part.now.way.address are.placed are.there
    (top-open c.args.land.now history c.args.book.now state c.args.tree.now.owner waiting holds served c.args.level
    c.args.part.now are)).told
    (top-formed c.args.land.now history c.args.book.now state c.args.tree.now.owner waiting holds served c.args.level
    c.args.part.now are c.args.tree.now.next c.args.land.now.blocks.draft.sizes.nodesize same size))

pub drop_under-returns-in_err-visit-clause-reads : goal.drop_under-returns-in_err-visit-clause-reads
drop_under-returns-in_err-visit-clause-reads g t c state waiting events told holds are =
    read-once g t (goal.at.drop_under-returns-in_err-visit-clause-reads g t c).After-visit state waiting
    holds are

pub drop_under-returns-in_err-visit-clause-rests : goal.drop_under-returns-in_err-visit-clause-rests
drop_under-returns-in_err-visit-clause-rests g t c =
    rested g t (goal.at.drop_under-returns-in_err-visit-clause-rests g t c).After-visit

pub drop_under-returns-in_err-children-clause-reads :
    goal.drop_under-returns-in_err-children-clause-reads
drop_under-returns-in_err-children-clause-reads g t c state waiting events told holds are =
    read-once g t (goal.at.drop_under-returns-in_err-children-clause-reads g t c).After-visit state waiting
    holds are

pub drop_under-returns-in_err-children-clause-rests :
    goal.drop_under-returns-in_err-children-clause-rests
drop_under-returns-in_err-children-clause-rests g t c =
    rested g t (goal.at.drop_under-returns-in_err-children-clause-rests g t c).After-visit

pub drop_under-returns-in_err-part_with-clause-sound :
    goal.drop_under-returns-in_err-part_with-clause-sound
drop_under-returns-in_err-part_with-clause-sound g t c state waiting events told same holds are =
    let history = g.D.Disk.history c.args.disk.now in
    let read = holds-read c.args.land.now history c.args.book.now state c.args.tree.now.owner waiting holds
    c.visit.new.blocks (g.D.Disk.history c.visit.new.disk) c.visit.ensures.read.draft c.visit.ensures.read.history in
    unbroken-handed c.from_residual-in_err-part_with.result _ c.from_residual-in_err-part_with.ensures.1
    (c.in_err-part_with.ensures.sound state c.args.tree.now.owner waiting (g.D.Disk.history c.visit.new.disk) are.placed
    c.args.tree.now.next c.visit.ensures.readable.backed
    (rested g t (goal.at.drop_under-returns-in_err-part_with-clause-sound g t c).After-visit).drafted read
    are.there are.mark
    (top-open c.args.land.now history c.args.book.now state c.args.tree.now.owner waiting holds
    c.requires.editable.drafted.sizes.served c.args.level c.args.part.now are) are.under)

pub drop_under-returns-in_err-part_with-clause-reads :
    goal.drop_under-returns-in_err-part_with-clause-reads
drop_under-returns-in_err-part_with-clause-reads g t c state waiting events told holds are =
    read-once g t (goal.at.drop_under-returns-in_err-part_with-clause-reads g t c).After-visit state waiting
    holds are

pub drop_under-returns-in_err-part_with-clause-rests :
    goal.drop_under-returns-in_err-part_with-clause-rests
drop_under-returns-in_err-part_with-clause-rests g t c =
    parted-rested g t (goal.at.drop_under-returns-in_err-part_with-clause-rests g t c).After-part_with

pub drop_under-returns-then-level-eq0-clause-dropped :
    goal.drop_under-returns-then-level-eq0-clause-dropped
drop_under-returns-then-level-eq0-clause-dropped g t c state waiting holds are =
    let history = g.D.Disk.history c.args.disk.now in
    let served = c.requires.editable.drafted.sizes.served in
    let read = holds-read c.args.land.now history c.args.book.now state c.args.tree.now.owner waiting holds
    c.visit.new.blocks (g.D.Disk.history c.visit.new.disk) c.visit.ensures.read.draft c.visit.ensures.read.history in
    leaf-leaves c.args.land.now history c.args.book.now state c.args.tree.now.owner waiting holds served c.args.level
    c.args.part.now are c.if-level-eq0.true c.part_with.new.land (g.D.Disk.history c.visit.new.disk)
    c.part_with.new.book
    (c.in_ok-part_with.ensures.parted state c.args.tree.now.owner waiting (g.D.Disk.history c.visit.new.disk) are.placed
    c.visit.ensures.readable.backed read are.there are.mark
    (top-open c.args.land.now history c.args.book.now state c.args.tree.now.owner waiting holds served c.args.level
    c.args.part.now are) are.under)

pub drop_under-returns-then-level-eq0-clause-reads :
    goal.drop_under-returns-then-level-eq0-clause-reads
drop_under-returns-then-level-eq0-clause-reads g t c state waiting events told holds are =
    read-once g t (goal.at.drop_under-returns-then-level-eq0-clause-reads g t c).After-visit state waiting
    holds are

pub drop_under-returns-then-level-eq0-clause-heavier :
    goal.drop_under-returns-then-level-eq0-clause-heavier
drop_under-returns-then-level-eq0-clause-heavier g t c state waiting holds are =
    let read = rested g t (goal.at.drop_under-returns-then-level-eq0-clause-heavier g t c).After-visit in
    let some = part-some c.args.land.now (g.D.Disk.history c.args.disk.now) c.args.book.now state
    c.args.tree.now.owner waiting holds c.requires.editable.drafted.sizes.served c.args.level c.args.part.now are in
    let most = capacity c.args.land.now.space.sizes.nodesize in
    let many = parts_reached state c.args.level (c.args.part.now ∷ []) in
    weighs-most c.args.book.now c.part_with.new.book most (many * most) (times-some many most some)
    (c.in_ok-part_with.ensures.heavier (g.D.Disk.history c.visit.new.disk) c.args.tree.now.next read.backed
    read.drafted)

pub drop_under-returns-then-level-eq0-clause-rests :
    goal.drop_under-returns-then-level-eq0-clause-rests
drop_under-returns-then-level-eq0-clause-rests g t c =
    parted-rested g t (goal.at.drop_under-returns-then-level-eq0-clause-rests g t c).After-part_with

pub drop_under-drop_each-requires : goal.drop_under-drop_each-requires
drop_under-drop_each-requires g t c κs within =
    let at = goal.at.drop_under-drop_each-requires g t c in
    let falls : 2 * ((c.args.level - 1) + 1) < t = omega (arith, c.decreases, c.if-level-eq0.false) in
    let editable = edit-still c.args.land.now c.part_with.new.land (g.D.Disk.history c.args.disk.now)
    (g.D.Disk.history c.visit.new.disk) (g.D.Disk.size c.args.disk.now) (g.D.Disk.size c.visit.new.disk)
    c.args.tree.now.next c.requires.editable c.visit.ensures.read.size
    (parted-rested g t at.After-part_with) in
    let levelled = subst (λ (list : List Child). All (λ child. child.way.expected.level ≡ Some (c.args.level - 1)) list)
    (sym (children-seen g t at.After-as_slice))
    (children-levelled (book_of c.args.book.now.refs) c.args.part.now.way.expected.to (c.args.level - 1)
    (own_pointers c.peek-node.result.now)) in
    (falls, (within.0, (within.1, (editable, levelled))))

pub drop_under-returns-clause-dropped : goal.drop_under-returns-clause-dropped
drop_under-returns-clause-dropped g t c state waiting holds are =
    let at = (goal.at.drop_under-returns-clause-dropped g t c).After-as_slice in
    on_ok_weaker c.drop_each.result
    (inner-leaves c.args.land.now (g.D.Disk.history c.args.disk.now) c.args.book.now state c.args.tree.now.owner waiting
    holds c.requires.editable.drafted.sizes.served c.args.level c.args.part.now are (c.args.level - 1)
    (high g t at state waiting holds are) c.as_slice.result.now (children-told g t at state waiting holds are)
    c.drop_each.new.land (g.D.Disk.history c.drop_each.new.disk) c.drop_each.new.book)
    (c.drop_each.ensures.dropped state (less g t at state waiting holds are) (parted g t at state waiting holds are)
    (parts g t at state waiting holds are))

pub drop_under-returns-clause-sound : goal.drop_under-returns-clause-sound
drop_under-returns-clause-sound g t c state waiting events told same holds are =
    let at = (goal.at.drop_under-returns-clause-sound g t c).After-as_slice in
    c.drop_each.ensures.sound state (less g t at state waiting holds are) events (c.visit.ensures.read.history ∙ told)
    same (parted g t at state waiting holds are) (parts g t at state waiting holds are)

pub drop_under-returns-clause-reads : goal.drop_under-returns-clause-reads
drop_under-returns-clause-reads g t c state waiting events told holds are =
    let at = (goal.at.drop_under-returns-clause-reads g t c).After-as_slice in
    let below = c.drop_each.ensures.reads state (less g t at state waiting holds are) events
    (c.visit.ensures.read.history ∙ told) (parted g t at state waiting holds are) (parts g t at state waiting holds are)
    in
    omega (arith, counted g t at state waiting holds are, below, c.visit.ensures.reads)

pub drop_under-returns-clause-heavier : goal.drop_under-returns-clause-heavier
drop_under-returns-clause-heavier g t c state waiting holds are =
    let at = goal.at.drop_under-returns-clause-heavier g t c in
    let below = at.After-as_slice in
    let after = g.D.Disk.history c.visit.new.disk in
    let rests = rested g t at.After-visit in
    let moved = c.part_with.ensures.rests after c.args.tree.now.next rests.backed rests.drafted in
    let size = ap (λ (sizes : Sizes). capacity sizes.nodesize) moved.sizes in
    let most = capacity c.args.land.now.space.sizes.nodesize in
    let many = parts_reached state (c.args.level - 1) c.as_slice.result.now in
    let own = c.in_ok-part_with.ensures.heavier after c.args.tree.now.next rests.backed rests.drafted in
    let sum = times_on many 1 most in
    let all = ap (λ (n : ℕ). n * most) (counted g t below state waiting holds are) in
    on_ok_weaker c.drop_each.result
    (λ (last : BookGetsHeavier c.part_with.new.book c.drop_each.new.book
    (many * capacity c.part_with.new.land.space.sizes.nodesize)).
    weighs-most c.args.book.now c.drop_each.new.book (most + many * most)
    (parts_reached state c.args.level (c.args.part.now ∷ []) * most) (omega (arith, sum, all))
    (weighs-on c.args.book.now c.part_with.new.book c.drop_each.new.book most (many * most) own
    (subst (λ (n : ℕ). BookGetsHeavier c.part_with.new.book c.drop_each.new.book (many * n)) size last)))
    (c.drop_each.ensures.heavier state (less g t below state waiting holds are)
    (parted g t below state waiting holds are) (parts g t below state waiting holds are))

pub drop_under-returns-then-level-eq0-clause-book :
    goal.drop_under-returns-then-level-eq0-clause-book
drop_under-returns-then-level-eq0-clause-book g t c = c.in_ok-part_with.ensures.book

pub drop_under-returns-clause-book : goal.drop_under-returns-clause-book
drop_under-returns-clause-book g t c =
    let parted = c.in_ok-part_with.ensures.book in
    let left = c.drop_each.ensures.book in
    record {
      tree = left.tree ∙ parted.tree;
      nodesize = left.nodesize ∙ parted.nodesize;
      next = left.next ∙ parted.next;
      known = on_ok_weaker c.drop_each.result
          (λ (last : KnowsNoMore c.part_with.new.book c.drop_each.new.book).
          knows-on c.args.book.now c.part_with.new.book c.drop_each.new.book parted.known last)
          left.known;
    }

pub drop_under-returns-clause-rests : goal.drop_under-returns-clause-rests
drop_under-returns-clause-rests g t c =
    rests-on c.args.land.now c.part_with.new.land c.drop_each.new.land (g.D.Disk.history c.visit.new.disk)
    (g.D.Disk.history c.drop_each.new.disk) c.args.tree.now.next
    (parted-rested g t (goal.at.drop_under-returns-clause-rests g t c).After-part_with)
    c.drop_each.ensures.rests

-- ---- over any disk

pub drop_under-returns-in_err-visit-clause-stops : goal.drop_under-returns-in_err-visit-clause-stops
drop_under-returns-in_err-visit-clause-stops g t c =
    stops-visit c.from_residual.result c.in_err-visit.field-0.0 Files c.args.tree.now c.args.land.now.blocks.draft
    (g.D.Disk.size c.args.disk.now) c.args.part.now.way.expected c.args.part.now.way.address
    c.from_residual.ensures.1 c.in_err-visit.ensures.stops

pub drop_under-returns-in_err-part_with-clause-stops :
    goal.drop_under-returns-in_err-part_with-clause-stops
drop_under-returns-in_err-part_with-clause-stops g t c =
    let residual = c.from_residual-in_err-part_with in
    let sizes = c.args.land.now.blocks.draft.sizes in
    let bytes = g.D.Disk.size c.args.disk.now in
    let fault = c.in_err-part_with.field-0.0 in
    stops-err (Unit {0}) residual.result fault sizes sizes bytes bytes residual.ensures.1 refl refl
    (stops-rule {A = Unit {0}} (Err fault) Refs sizes bytes misfit-refs c.in_err-part_with.ensures.refs)

pub drop_under-returns-clause-stops : goal.drop_under-returns-clause-stops
drop_under-returns-clause-stops g t c =
    stops-same c.drop_each.result c.part_with.new.land.blocks.draft.sizes c.args.land.now.blocks.draft.sizes
    (g.D.Disk.size c.visit.new.disk) (g.D.Disk.size c.args.disk.now)
    (parted-rested g t (goal.at.drop_under-returns-clause-stops g t c).After-part_with).node_sizes
    c.visit.ensures.read.size c.drop_each.ensures.stops

pub drop_each-returns-in_err-drop_under-clause-stops :
    goal.drop_each-returns-in_err-drop_under-clause-stops
drop_each-returns-in_err-drop_under-clause-stops g t c =
    let met = c.parts.invariant in
    stops-err (Unit {0}) c.from_residual.result c.in_err-drop_under.field-0.0 c.parts.land.blocks.draft.sizes
    c.args.land.now.blocks.draft.sizes (g.D.Disk.size c.parts.disk) (g.D.Disk.size c.args.disk.now)
    c.from_residual.ensures.1 met.rests.node_sizes met.size c.in_err-drop_under.ensures.stops
