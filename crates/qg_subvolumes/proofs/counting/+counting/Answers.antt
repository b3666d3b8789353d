use Rattle.std.proofs.Common.{◌≡◌, ℕ, suc, ◌+◌, ◌*◌, ◌-◌, ◌<◌, ◌≤◌, List, Some, arith, refl, sym, ap, subst, ◌∙◌}
use Rattle.std.specs.List.{All}
use Rattle.std.proofs.lemmas.List.{nil_from_length}
use Rattle.std.proofs.lemmas.List.Elements.{All-tail}
use Rattle.qg_node.specs.Nodes.{own_pointers}
use Rattle.qg_tree_read.specs.declared.way.Way.{Way}
use Rattle.qg_device.proofs.Causes.{cause-told}
use Rattle.qg_subvolumes.proofs.Resting.{handed, unbroken-handed}
use Rattle.qg_subvolumes.specs.Counting.{LeadsToBranch, TellsNodes, node_count_below, ways_reached, ways_told}
use Rattle.qg_image.specs.State.{State}
use Rattle.qg_subvolumes.proofs.NodesBelow.{children-lead, inner-count, leaf-count, read-on, some-below, tells-read}
use Rattle.qg_subvolumes.proofs.NodesBelow.{top-told}
use Rattle.qg_subvolumes.proofs.Ways.{ways-first, ways-levelled}
use Rattle.qg_image.specs.declared.tree.TreeKind.TheVariants.{Files}
use Rattle.qg_blocks.specs.NodesInMemory.{Draft}
use Rattle.qg_blocks.proofs.Stopping.{stops-err}
use Rattle.qg_tree_read.proofs.Stopping.{stops-visit}
use Rattle.qg_subvolumes.proofs.counting.+counting.Given.{Over}
use Rattle.qg_subvolumes.proofs.counting.+counting.Goals as goal
use Rattle.qg_subvolumes.proofs.counting.+counting.Goals.{count_under-After-as_slice, count_under-After-visit}

pub count_each-ways-init : goal.count_each-ways-init
count_each-ways-init g t c = record {
  readable = c.requires.readable;
  levelled = c.requires.levelled;
  branches = λ state all. all;
  counted = λ state tells all. omega arith;
  fits = omega arith;
  reads = λ state tells all. omega arith;
  read = record { draft = refl; bound = refl; history = refl; size = refl };
  count = omega arith;
}

pub count_each-ways-preserved : goal.count_each-ways-preserved
count_each-ways-preserved g t c =
    let met = c.ways.invariant in
    let way = c.in-Some.way.now in
    let others = c.in-Some.others.now in
    let rest = c.in-Some.ensures.cases.0 in
    let made = c.in_ok-more.ensures in
    record {
      readable = made.readable;
      levelled = All-tail (λ (way : Way). way.expected.level ≡ Some c.args.level) way others (rw rest at met.levelled);
      branches = λ state all.
          All-tail (LeadsToBranch state c.args.level) way others (rw rest at (met.branches state all));
      counted = λ state tells all.
          let leads = rw rest at (met.branches state all) in
          let still = tells-read c.args.blocks.now.draft c.ways.blocks.draft (g.D.Disk.history c.args.disk.now)
          (g.D.Disk.history c.ways.disk) state met.read.draft met.read.history tells in
          let own = made.counted state still (leads 0 way (omega arith)) in
          let before = rw rest at (met.counted state tells all) in
          let first = ways-first state c.args.level way others in
          let sum = c.saturating_add-count.ensures in
          omega (arith, own, before, first, sum);
      fits = let sum = c.saturating_add-count.ensures in omega (arith, sum);
      reads = λ state tells all.
          let leads = rw rest at (met.branches state all) in
          let still = tells-read c.args.blocks.now.draft c.ways.blocks.draft (g.D.Disk.history c.args.disk.now)
          (g.D.Disk.history c.ways.disk) state met.read.draft met.read.history tells in
          let own = made.reads state still (leads 0 way (omega arith)) in
          let before = rw rest at (met.reads state tells all) in
          let first = ways-first state c.args.level way others in
          omega (arith, own, before, first);
      read = read-on c.args.blocks.now c.ways.blocks c.count_under.new.blocks (g.D.Disk.history c.args.disk.now)
          (g.D.Disk.history c.ways.disk) (g.D.Disk.history c.count_under.new.disk) (g.D.Disk.size c.args.disk.now)
          (g.D.Disk.size c.ways.disk) (g.D.Disk.size c.count_under.new.disk) met.read made.read;
      count = let now = made.cause.fine in let before = met.count in omega (arith, now, before);
    }

pub count_each-count_under-requires : goal.count_each-count_under-requires
count_each-count_under-requires g t c κs within =
    let falls : 2 * c.args.level + 1 < t = omega (arith, c.decreases) in
    let levelled = rw c.in-Some.ensures.cases.0 at c.ways.invariant.levelled in
    (falls, (within.0, (within.1, (c.ways.invariant.readable, levelled 0 c.in-Some.way.now (omega arith)))))

pub count_each-returns-in_err-more-clause-sound : goal.count_each-returns-in_err-more-clause-sound
count_each-returns-in_err-more-clause-sound g t c state same tells all =
    let met = c.ways.invariant in
    let leads = rw c.in-Some.ensures.cases.0 at (met.branches state all) in
    let still = tells-read c.args.blocks.now.draft c.ways.blocks.draft (g.D.Disk.history c.args.disk.now)
    (g.D.Disk.history c.ways.disk) state met.read.draft met.read.history tells in
    unbroken-handed c.from_residual.result _ c.from_residual.ensures.1
    (c.in_err-more.ensures.sound state same still (leads 0 c.in-Some.way.now (omega arith)))

pub count_each-returns-in_err-more-clause-reads : goal.count_each-returns-in_err-more-clause-reads
count_each-returns-in_err-more-clause-reads g t c state tells all =
    let met = c.ways.invariant in
    let rest = c.in-Some.ensures.cases.0 in
    let leads = rw rest at (met.branches state all) in
    let still = tells-read c.args.blocks.now.draft c.ways.blocks.draft (g.D.Disk.history c.args.disk.now)
    (g.D.Disk.history c.ways.disk) state met.read.draft met.read.history tells in
    let own = c.in_err-more.ensures.reads state still (leads 0 c.in-Some.way.now (omega arith)) in
    let before = rw rest at (met.reads state tells all) in
    let first = ways-first state c.args.level c.in-Some.way.now c.in-Some.others.now in
    omega (arith, own, before, first)

pub count_each-returns-in_err-more-clause-read : goal.count_each-returns-in_err-more-clause-read
count_each-returns-in_err-more-clause-read g t c =
    read-on c.args.blocks.now c.ways.blocks c.count_under.new.blocks (g.D.Disk.history c.args.disk.now)
    (g.D.Disk.history c.ways.disk) (g.D.Disk.history c.count_under.new.disk) (g.D.Disk.size c.args.disk.now)
    (g.D.Disk.size c.ways.disk) (g.D.Disk.size c.count_under.new.disk) c.ways.invariant.read
    c.in_err-more.ensures.read

pub count_each-returns-in_err-more-clause-cause : goal.count_each-returns-in_err-more-clause-cause
count_each-returns-in_err-more-clause-cause g t c =
    cause-told (g.D.Disk.faults c.args.disk.now) (g.D.Disk.faults c.ways.disk)
    (g.D.Disk.faults c.count_under.new.disk) c.from_residual.result _ c.ways.invariant.count
    (handed c.from_residual.result _ c.from_residual.ensures.1) c.in_err-more.ensures.cause

pub count_each-returns-clause-counted : goal.count_each-returns-clause-counted
count_each-returns-clause-counted g t c state tells all =
    let none = nil_from_length c.ways.rest.now c.in_default.ensures.cases in
    let before = rw none at (c.ways.invariant.counted state tells all) in
    let fits = c.ways.invariant.fits in
    omega (arith, before, fits)

pub count_each-returns-clause-reads : goal.count_each-returns-clause-reads
count_each-returns-clause-reads g t c state tells all =
    let before = c.ways.invariant.reads state tells all in
    omega (arith, before)

pub count_each-returns-clause-read : goal.count_each-returns-clause-read
count_each-returns-clause-read g t c = c.ways.invariant.read

pub count_each-returns-clause-cause : goal.count_each-returns-clause-cause
count_each-returns-clause-cause g t c = record { fine = c.ways.invariant.count; met = tt }

-- a node is read
read-once : (g : Over) (t : ℕ) (c : count_under-After-visit g t) (state : State)
    → TellsNodes c.args.blocks.now.draft (g.D.Disk.history c.args.disk.now) state
    → LeadsToBranch state c.args.level c.args.way.now
    → c.visit.new.reads ≤ c.args.reads.now + node_count_below state c.args.level c.args.way.now.address
read-once g t c state tells leads =
    let some = some-below c.args.blocks.now.draft (g.D.Disk.history c.args.disk.now) state tells c.args.level
    c.args.way.now c.requires.levelled leads in
    omega (arith, some, c.visit.ensures.reads)

pub count_under-returns-in_err-visit-clause-sound : goal.count_under-returns-in_err-visit-clause-sound
count_under-returns-in_err-visit-clause-sound g t c state same tells leads =
    let top = top-told c.args.blocks.now.draft (g.D.Disk.history c.args.disk.now) state tells c.args.level
    c.args.way.now c.requires.levelled leads in
    unbroken-handed c.from_residual.result _ c.from_residual.ensures.1
    (c.in_err-visit.ensures.sound top.0 top.1 (top.2 c.args.tree.now.next same))

pub count_under-returns-in_err-visit-clause-reads : goal.count_under-returns-in_err-visit-clause-reads
count_under-returns-in_err-visit-clause-reads g t c state tells leads =
    read-once g t (goal.at.count_under-returns-in_err-visit-clause-reads g t c).After-visit state tells
    leads

pub count_under-returns-in_err-ways-clause-reads : goal.count_under-returns-in_err-ways-clause-reads
count_under-returns-in_err-ways-clause-reads g t c state tells leads =
    read-once g t (goal.at.count_under-returns-in_err-ways-clause-reads g t c).After-visit state tells leads

pub count_under-returns-then-level-eq0-clause-counted : goal.count_under-returns-then-level-eq0-clause-counted
count_under-returns-then-level-eq0-clause-counted g t c state tells leads =
    let one = leaf-count c.args.blocks.now.draft (g.D.Disk.history c.args.disk.now) state tells c.args.level
    c.args.way.now c.requires.levelled leads c.if-level-eq0.true in
    omega (arith, one)

pub count_under-returns-then-level-eq0-clause-reads : goal.count_under-returns-then-level-eq0-clause-reads
count_under-returns-then-level-eq0-clause-reads g t c state tells leads =
    read-once g t (goal.at.count_under-returns-then-level-eq0-clause-reads g t c).After-visit state tells
    leads

-- ---- the nodes below one that isn't a leaf

module _ (g : Over) (t : ℕ) (c : count_under-After-as_slice g t) where
  ways-seen : c.as_slice.result.now
      ≡ ways_told c.args.way.now.expected.to (c.args.level - 1) (own_pointers c.peek-node.result.now)
  ways-seen =
      c.as_slice.ensures.value ∙ c.in_ok-ways.ensures
      ∙ ap (λ (n : ℕ). ways_told c.args.way.now.expected.to n (own_pointers c.peek-node.result.now))
      c.saturating_sub.ensures

  module _ (state : State)
      (tells : TellsNodes c.args.blocks.now.draft (g.D.Disk.history c.args.disk.now) state)
      (leads : LeadsToBranch state c.args.level c.args.way.now) where
    abbrev lower : ℕ
    lower = c.args.level - 1

    high : c.args.level ≡ suc lower
    high = omega (arith, c.if-level-eq0.false)

    still : TellsNodes c.visit.new.blocks.draft (g.D.Disk.history c.visit.new.disk) state
    still =
        tells-read c.args.blocks.now.draft c.visit.new.blocks.draft (g.D.Disk.history c.args.disk.now)
        (g.D.Disk.history c.visit.new.disk) state c.visit.ensures.read.draft c.visit.ensures.read.history tells

    lead : All (LeadsToBranch state lower) c.as_slice.result.now
    lead =
        subst (λ (list : List Way). All (LeadsToBranch state lower) list) (sym ways-seen)
        (children-lead c.args.blocks.now.draft (g.D.Disk.history c.args.disk.now) state tells c.args.level
        c.args.way.now c.requires.levelled leads lower high _ c.visit.new.blocks c.in_ok-visit.ensures.visited
        c.peek-node.result.now c.peek-node.ensures)

    counted : node_count_below state c.args.level c.args.way.now.address
        ≡ ways_reached state lower c.as_slice.result.now + 1
    counted =
        inner-count c.args.blocks.now.draft (g.D.Disk.history c.args.disk.now) state tells c.args.level
        c.args.way.now c.requires.levelled leads lower high _ c.visit.new.blocks c.in_ok-visit.ensures.visited
        c.peek-node.result.now c.peek-node.ensures
        ∙ ap (λ (list : List Way). ways_reached state lower list + 1) (sym ways-seen)

pub count_under-count_each-requires : goal.count_under-count_each-requires
count_under-count_each-requires g t c κs within =
    let falls : 2 * ((c.args.level - 1) + 1) < t = omega (arith, c.decreases, c.if-level-eq0.false) in
    let levelled = subst (λ (list : List Way). All (λ way. way.expected.level ≡ Some (c.args.level - 1)) list)
    (sym (ways-seen g t (goal.at.count_under-count_each-requires g t c).After-as_slice))
    (ways-levelled c.args.way.now.expected.to (c.args.level - 1) (own_pointers c.peek-node.result.now)) in
    (falls, (within.0, (within.1, (c.visit.ensures.readable, levelled))))

pub count_under-returns-in_err-below-clause-sound : goal.count_under-returns-in_err-below-clause-sound
count_under-returns-in_err-below-clause-sound g t c state same tells leads =
    let at = (goal.at.count_under-returns-in_err-below-clause-sound g t c).After-as_slice in
    unbroken-handed c.from_residual-in_err-below.result _ c.from_residual-in_err-below.ensures.1
    (c.in_err-below.ensures.sound state same (still g t at state tells leads) (lead g t at state tells leads))

pub count_under-returns-in_err-below-clause-reads : goal.count_under-returns-in_err-below-clause-reads
count_under-returns-in_err-below-clause-reads g t c state tells leads =
    let at = (goal.at.count_under-returns-in_err-below-clause-reads g t c).After-as_slice in
    let own = c.in_err-below.ensures.reads state (still g t at state tells leads) (lead g t at state tells leads) in
    omega (arith, own, counted g t at state tells leads, c.visit.ensures.reads)

pub count_under-returns-in_err-below-clause-read : goal.count_under-returns-in_err-below-clause-read
count_under-returns-in_err-below-clause-read g t c =
    read-on c.args.blocks.now c.visit.new.blocks c.count_each.new.blocks (g.D.Disk.history c.args.disk.now)
    (g.D.Disk.history c.visit.new.disk) (g.D.Disk.history c.count_each.new.disk)
    (g.D.Disk.size c.args.disk.now) (g.D.Disk.size c.visit.new.disk) (g.D.Disk.size c.count_each.new.disk)
    c.visit.ensures.read c.in_err-below.ensures.read

pub count_under-returns-clause-counted : goal.count_under-returns-clause-counted
count_under-returns-clause-counted g t c state tells leads =
    let at = (goal.at.count_under-returns-clause-counted g t c).After-as_slice in
    let own = c.in_ok-below.ensures.counted state (still g t at state tells leads) (lead g t at state tells leads) in
    omega (arith, own, counted g t at state tells leads, c.saturating_add.ensures)

pub count_under-returns-clause-reads : goal.count_under-returns-clause-reads
count_under-returns-clause-reads g t c state tells leads =
    let at = (goal.at.count_under-returns-clause-reads g t c).After-as_slice in
    let own = c.in_ok-below.ensures.reads state (still g t at state tells leads) (lead g t at state tells leads) in
    omega (arith, own, counted g t at state tells leads, c.visit.ensures.reads)

pub count_under-returns-clause-read : goal.count_under-returns-clause-read
count_under-returns-clause-read g t c =
    read-on c.args.blocks.now c.visit.new.blocks c.count_each.new.blocks (g.D.Disk.history c.args.disk.now)
    (g.D.Disk.history c.visit.new.disk) (g.D.Disk.history c.count_each.new.disk)
    (g.D.Disk.size c.args.disk.now) (g.D.Disk.size c.visit.new.disk) (g.D.Disk.size c.count_each.new.disk)
    c.visit.ensures.read c.in_ok-below.ensures.read

-- ---- over any disk

pub count_under-returns-in_err-visit-clause-stops : goal.count_under-returns-in_err-visit-clause-stops
count_under-returns-in_err-visit-clause-stops g t c =
    stops-visit c.from_residual.result c.in_err-visit.field-0.0 Files c.args.tree.now c.args.blocks.now.draft
    (g.D.Disk.size c.args.disk.now) c.args.way.now.expected c.args.way.now.address c.from_residual.ensures.1
    c.in_err-visit.ensures.stops

pub count_under-returns-in_err-below-clause-stops : goal.count_under-returns-in_err-below-clause-stops
count_under-returns-in_err-below-clause-stops g t c =
    let residual = c.from_residual-in_err-below in
    let read = c.visit.ensures.read in
    stops-err ℕ residual.result c.in_err-below.field-0.0 c.visit.new.blocks.draft.sizes
    c.args.blocks.now.draft.sizes (g.D.Disk.size c.visit.new.disk) (g.D.Disk.size c.args.disk.now)
    residual.ensures.1 (ap (λ (d : Draft). d.sizes) read.draft) read.size c.in_err-below.ensures.stops

pub count_each-returns-in_err-more-clause-stops : goal.count_each-returns-in_err-more-clause-stops
count_each-returns-in_err-more-clause-stops g t c =
    let read = c.ways.invariant.read in
    stops-err ℕ c.from_residual.result c.in_err-more.field-0.0 c.ways.blocks.draft.sizes c.args.blocks.now.draft.sizes
    (g.D.Disk.size c.ways.disk) (g.D.Disk.size c.args.disk.now) c.from_residual.ensures.1
    (ap (λ (d : Draft). d.sizes) read.draft) read.size c.in_err-more.ensures.stops
