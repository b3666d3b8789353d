use Rattle.std.proofs.Common.{◌≡◌, ◌-◌, ◌<◌, ℕ, suc, Some, None, length, arith, refl, sym, ap, subst, ◌∙◌, inl}
use Rattle.std.proofs.Common.{inr}
use Rattle.std.proofs.lemmas.Result.{err_from_is_err_and}
use Rattle.qg_device.specs.History.{History, Recorded}
use Rattle.qg_node.specs.declared.node.Node.{Node}
use Rattle.qg_node.specs.Nodes.{header_of, own_pointers}
use Rattle.qg_blocks.specs.Types.{Expected}
use Rattle.qg_blocks.specs.Walk.{root_expected}
use Rattle.qg_blocks.specs.NodesFound.{told}
use Rattle.qg_tree_items.specs.Types.{Extents}
use Rattle.qg_walk.proofs.Failures.{IsFormed-form}
use Rattle.qg_tree_read.specs.declared.way.Way.{Way}
use Rattle.qg_tree_read.specs.Tree.{super_of}
use Rattle.qg_tree_read.specs.Stopping.{MayComeTo}
use Rattle.qg_tree_read.specs.Way.{ComesTo, IsVisited, LeadsFor}
use Rattle.qg_tree_read.proofs.Under.{level-told}
use Rattle.qg_tree_read.proofs.Leads.{leads-past, on_way-root}
use Rattle.qg_tree_read.proofs.Visits.{HasRead-after, visited-inner}
use Rattle.qg_tree_read.proofs.Reached.{comes-step, fails-on_way, leads-on, told-on_way, visited-step}
use Rattle.qg_tree_read.proofs.Stopping.{may-come-step, stops-on_way}
use Rattle.qg_extent_read.proofs.Arrived.{arrived, level-low, steps-few}
use Rattle.qg_extent_read.proofs.Ways.{down-end, down-step}
use Rattle.qg_extent_read.proofs.descent.reach.Goals as goal

pub down-init : goal.down-init
unfolding ComesTo MayComeTo
down-init g c =
    let root = c.args.tree.now in
    let draft = c.args.blocks.now.draft in
    let history = g.D.Disk.history c.args.disk.now in
    let none : root.height - c.height-level.result ≡ 0 = omega arith in
    record {
      read = record { draft = refl; bound = refl; history = refl; size = refl };
      readable = c.requires.readable;
      count = omega arith;
      steps = omega arith;
      low = omega arith;
      few = inl c.height-level.ensures;
      levelled = ap (λ (e : Expected). e.level) c.way-way.ensures.expected ∙ ap Some (sym c.height-level.ensures);
      past = rw c.way-way.ensures.expected refl;
      comes = λ events is. rw none (c.way-way.ensures.expected, c.way-way.ensures.address);
      led = rw none (c.way-way.ensures.expected, c.way-way.ensures.address);
      on = λ whole tells. rw (c.way-way.ensures.expected, c.way-way.ensures.address, c.height-level.ensures)
          (on_way-root Extents (super_of root draft) (told draft history) c.args.key root.height root.address whole
          tells);
      down = λ whole tells leaf at leads.
          rw (c.way-way.ensures.expected, c.way-way.ensures.address, c.height-level.ensures) at leads;
    }

pub returns-in_err-visit-clause-sound : goal.returns-in_err-visit-clause-sound
returns-in_err-visit-clause-sound g c items tells =
    let draft = c.args.blocks.now.draft in
    let history = g.D.Disk.history c.args.disk.now in
    let here = told-on_way Extents (super_of c.args.tree.now draft) (told draft history) c.args.key
    c.down.level c.down.way.expected c.down.way.address items (c.down.invariant.on items tells) in
    let p = err_from_is_err_and c.from_residual.result c.from_residual.ensures.1 in
    let sound = rw (c.down.invariant.read.draft, c.down.invariant.read.history) at c.in_err-visit.ensures.sound in
    rw (p.1, p.2) (sound here.node here.there here.formed)

pub returns-in_err-visit-clause-broken : goal.returns-in_err-visit-clause-broken
returns-in_err-visit-clause-broken g c events is =
    let p = err_from_is_err_and c.from_residual.result c.from_residual.ensures.1 in
    rw (p.1, p.2)
    (fails-on_way (Unit {0}) Way Extents c.args.tree.now c.args.blocks.now.draft c.down.blocks.draft events
    (c.args.tree.now.height - c.down.level) c.down.way.expected c.down.way.address
    c.in_err-visit.field-0.0 c.down.invariant.read.draft (c.down.invariant.comes events is)
    (c.in_err-visit.ensures.broken events (c.down.invariant.read.history ∙ is)))

pub returns-in_err-visit-clause-stops : goal.returns-in_err-visit-clause-stops
returns-in_err-visit-clause-stops g c =
    let residual = c.from_residual in
    let p = err_from_is_err_and residual.result residual.ensures.1 in
    rw (p.1, p.2)
    (stops-on_way (Unit {0}) Way Extents c.args.tree.now c.args.blocks.now.draft c.down.blocks.draft
    (g.D.Disk.size c.args.disk.now) (g.D.Disk.size c.down.disk) (c.args.tree.now.height - c.down.level)
    c.down.way.expected c.down.way.address c.in_err-visit.field-0.0 c.down.invariant.read.draft
    c.down.invariant.read.size c.down.invariant.led c.in_err-visit.ensures.stops)

pub returns-in_err-visit-clause-reads : goal.returns-in_err-visit-clause-reads
returns-in_err-visit-clause-reads g c =
    steps-few c.args.reads.now c.down.reads c.visit.new.reads c.down.level c.args.tree.now.height
    c.down.invariant.steps c.down.invariant.few (omega (arith, c.in_err-visit.ensures.reads))

pub next_way-way-requires-clause-some : goal.next_way-way-requires-clause-some
next_way-way-requires-clause-some g c =
    let visited = c.in_ok-visit.ensures.visited in
    let same : visited.node ≡ c.peek.result.now = let e = sym visited.is ∙ c.peek.ensures in cc in
    let above : 0 < c.down.level = omega arith in
    subst (λ (n : Node). 0 < length (own_pointers n)) same
    (visited-inner Extents (super_of c.args.tree.now c.down.blocks.draft) c.down.way.expected
    c.down.way.address c.down.blocks.draft.sizes.nodesize c.down.level visited.node
    visited.kept.sound c.down.invariant.levelled visited.formed above)

pub down-preserved : goal.down-preserved
down-preserved g c =
    let root = c.args.tree.now in
    let draft = c.args.blocks.now.draft in
    let history = g.D.Disk.history c.args.disk.now in
    let way = c.down.way in
    let visited : IsVisited Extents (super_of root draft) way.expected draft history c.visit.new.blocks way.address =
    rw (c.down.invariant.read.draft, c.down.invariant.read.history) at c.in_ok-visit.ensures.visited in
    let same : c.peek.result.now ≡ visited.node = let e = sym c.peek.ensures ∙ visited.is in cc in
    let leads = subst (λ (n : Node). LeadsFor (own_pointers n) way.expected.to (c.down.level - 1) c.args.key
    c.next_way-way.result) same c.next_way-way.ensures in
    let level = level-told way.expected.level c.down.level (header_of visited.node).level c.down.invariant.levelled
    (IsFormed-form Extents (super_of root draft) way.expected way.address visited.node visited.formed).level in
    let low : (header_of visited.node).level - 1 ≡ c.down.level - 1 = ap (λ (n : ℕ). n - 1) level in
    let next : c.down.level ≡ suc (c.down.level - 1) = omega arith in
    let more : root.height - (c.down.level - 1) ≡ suc (root.height - c.down.level) =
    omega (arith, c.down.invariant.low) in
    record {
      read = HasRead-after c.args.blocks.now c.down.blocks c.visit.new.blocks history (g.D.Disk.history c.down.disk)
          (g.D.Disk.history c.visit.new.disk)
          (g.D.Disk.size c.args.disk.now) (g.D.Disk.size c.down.disk) (g.D.Disk.size c.visit.new.disk)
          c.down.invariant.read c.in_ok-visit.ensures.read;
      readable = c.in_ok-visit.ensures.readable;
      count = omega (arith, c.in_ok-visit.ensures.cause.fine, c.down.invariant.count);
      steps = omega (arith, c.in_ok-visit.ensures.reads, c.down.invariant.steps);
      low = omega (arith, c.down.invariant.low);
      few = inr (level-low draft.sizes.nodesize visited.node c.down.level root.height visited.kept.sound level
          c.down.invariant.few);
      levelled = ap (λ (e : Expected). e.level) leads.expects;
      past = leads-past c.args.key (own_pointers visited.node) way.expected.to (c.down.level - 1) c.next_way-way.result
          leads c.down.invariant.past;
      comes = λ events is.
          let there = subst (λ (h : History). told draft h way.address ≡ Some visited.node) is
          (visited.tells events is) in
          comes-step Extents (super_of root draft) (told draft (Recorded events))
          (root_expected (Some root.height) None) root.address (root.height - c.down.level)
          (root.height - (c.down.level - 1))
          way.expected c.next_way-way.result.expected way.address c.next_way-way.result.address visited.node more
          (c.down.invariant.comes events is) there visited.formed
          (leads-on visited.node way.expected (c.down.level - 1) c.args.key c.next_way-way.result low leads);
      led = may-come-step Extents (super_of root draft) (root_expected (Some root.height) None) root.address
          (root.height - c.down.level) (root.height - (c.down.level - 1))
          way.expected c.next_way-way.result.expected way.address c.next_way-way.result.address visited.node more
          c.down.invariant.led visited.kept visited.formed
          (leads-on visited.node way.expected (c.down.level - 1) c.args.key c.next_way-way.result low leads);
      on = λ whole tells. visited-step Extents (super_of root draft) draft history c.visit.new.blocks c.args.key
          c.down.level (c.down.level - 1) whole way c.next_way-way.result next visited leads
          (c.down.invariant.on whole tells);
      down = λ whole tells leaf at below.
          let here = told-on_way Extents (super_of root draft) (told draft history) c.args.key c.down.level way.expected
          way.address whole (c.down.invariant.on whole tells) in
          let there : told draft history way.address ≡ Some visited.node = here.there
          ∙ ap Some (visited.alone here.node here.there) in
          c.down.invariant.down whole tells leaf at
          (down-step (told draft history) c.args.key c.down.level (c.down.level - 1) way.expected way.address
          visited.node c.next_way-way.result leaf at next there visited.kept.sound.ascending leads below);
    }

pub returns-in_err-visit-2-clause-sound : goal.returns-in_err-visit-2-clause-sound
returns-in_err-visit-2-clause-sound g c items tells =
    let draft = c.args.blocks.now.draft in
    let history = g.D.Disk.history c.args.disk.now in
    let here = told-on_way Extents (super_of c.args.tree.now draft) (told draft history) c.args.key
    c.down.level c.down.way.expected c.down.way.address items (c.down.invariant.on items tells) in
    let p = err_from_is_err_and c.from_residual-in_err-visit-2.result c.from_residual-in_err-visit-2.ensures.1 in
    let sound = rw (c.down.invariant.read.draft, c.down.invariant.read.history) at c.in_err-visit-2.ensures.sound in
    rw (p.1, p.2) (sound here.node here.there here.formed)

pub returns-in_err-visit-2-clause-broken : goal.returns-in_err-visit-2-clause-broken
returns-in_err-visit-2-clause-broken g c events is =
    let p = err_from_is_err_and c.from_residual-in_err-visit-2.result c.from_residual-in_err-visit-2.ensures.1 in
    rw (p.1, p.2)
    (fails-on_way (Unit {0}) Way Extents c.args.tree.now c.args.blocks.now.draft c.down.blocks.draft events
    (c.args.tree.now.height - c.down.level) c.down.way.expected c.down.way.address
    c.in_err-visit-2.field-0.0 c.down.invariant.read.draft (c.down.invariant.comes events is)
    (c.in_err-visit-2.ensures.broken events (c.down.invariant.read.history ∙ is)))

pub returns-in_err-visit-2-clause-stops : goal.returns-in_err-visit-2-clause-stops
returns-in_err-visit-2-clause-stops g c =
    let residual = c.from_residual-in_err-visit-2 in
    let p = err_from_is_err_and residual.result residual.ensures.1 in
    rw (p.1, p.2)
    (stops-on_way (Unit {0}) Way Extents c.args.tree.now c.args.blocks.now.draft c.down.blocks.draft
    (g.D.Disk.size c.args.disk.now) (g.D.Disk.size c.down.disk) (c.args.tree.now.height - c.down.level)
    c.down.way.expected c.down.way.address c.in_err-visit-2.field-0.0 c.down.invariant.read.draft
    c.down.invariant.read.size c.down.invariant.led c.in_err-visit-2.ensures.stops)

pub returns-in_err-visit-2-clause-reads : goal.returns-in_err-visit-2-clause-reads
returns-in_err-visit-2-clause-reads g c =
    steps-few c.args.reads.now c.down.reads c.visit-2.new.reads c.down.level c.args.tree.now.height
    c.down.invariant.steps c.down.invariant.few (omega (arith, c.in_err-visit-2.ensures.reads))

pub returns-clause-reads : goal.returns-clause-reads
returns-clause-reads g c =
    steps-few c.args.reads.now c.down.reads c.visit-2.new.reads c.down.level c.args.tree.now.height
    c.down.invariant.steps c.down.invariant.few (omega (arith, c.in_ok-visit-2.ensures.reads))

pub returns-clause-reached : goal.returns-clause-reached
returns-clause-reached g c =
    let root = c.args.tree.now in
    let draft = c.args.blocks.now.draft in
    let history = g.D.Disk.history c.args.disk.now in
    let way = c.down.way in
    let visited : IsVisited Extents (super_of root draft) way.expected draft history c.visit-2.new.blocks way.address =
    rw (c.down.invariant.read.draft, c.down.invariant.read.history) at c.in_ok-visit-2.ensures.visited in
    let low : c.down.level ≡ 0 = omega arith in
    arrived root draft history c.args.key c.visit-2.new.blocks way visited (c.down.invariant.levelled
    ∙ ap Some low) c.down.invariant.past
    (λ whole tells. rw low at (c.down.invariant.on whole tells))
    (λ whole tells. c.down.invariant.down whole tells way.expected way.address
    (down-end (told draft history) c.args.key c.down.level way.expected way.address low))
