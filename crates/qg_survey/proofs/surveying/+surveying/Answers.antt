use Rattle.std.proofs.Common.{◌≡◌, ℕ, suc, ◌+◌, ◌*◌, ◌-◌, ◌<◌, ◌≤◌, Bool, List, Some, None, arith, sym, ap, subst, ◌∙◌}
use Rattle.std.specs.Prelude.{is_some}
use Rattle.std.specs.List.{All}
use Rattle.std.proofs.lemmas.List.Elements.{All-tail}
use Rattle.qg_node.specs.Nodes.{header_of, own_pointers}
use Rattle.qg_refs.specs.Book.{full_in}
use Rattle.qg_extents.specs.Table.{book_of}
use Rattle.qg_qgroup_counts.specs.Surveyed.{surveyed_of}
use Rattle.qg_tree_read.specs.declared.way.Way.{Way}
use Rattle.qg_qgroup_counts.specs.declared.surveyed.Surveyed.{Surveyed}
use Rattle.qg_subvolumes.specs.Counting.{LeadsToBranch, ways_told}
use Rattle.qg_subvolumes.proofs.NodesBelow.{children-lead, read-on, tells-read, top-told}
use Rattle.qg_subvolumes.proofs.Resting.{unbroken-handed}
use Rattle.qg_subvolumes.proofs.Ways.{ways-levelled}
use Rattle.qg_survey.specs.Surveying.{AreRead, EndBelow, GoesOn, link_at}
use Rattle.qg_survey.proofs.Reading.{none-there, on-err}
use Rattle.qg_survey.proofs.Rounds.{surveyed-on, surveyed-stops}
use Rattle.qg_survey.proofs.Stepped.{ends-there, goes-higher, goes-none, inner-goes, leaf-goes}
use Rattle.qg_survey.proofs.surveying.+surveying.Goals.{survey_under-then-level-gt0+in_ok-survey_each}
use Rattle.qg_survey.proofs.surveying.+surveying.Goals.{survey_under-else-level-gt0}
use Rattle.qg_image.specs.declared.tree.TreeKind.TheVariants.{Files}
use Rattle.qg_blocks.specs.NodesInMemory.{Draft}
use Rattle.qg_blocks.proofs.Stopping.{stops-err}
use Rattle.qg_tree_read.proofs.Stopping.{stops-visit}
use Rattle.qg_survey.proofs.surveying.+surveying.Goals as goal

pub survey_each-returns-in_err-survey_under-clause-surveyed :
    goal.survey_each-returns-in_err-survey_under-clause-surveyed
survey_each-returns-in_err-survey_under-clause-surveyed g t c state tells marks all read =
    let met = c.ways.invariant in
    let leads = rw c.in-Some.ensures.cases.0 at (met.branches state all) in
    let still = tells-read c.args.blocks.now.draft c.ways.blocks.draft (g.D.Disk.history c.args.disk.now)
    (g.D.Disk.history c.ways.disk) state met.read.draft met.read.history tells in
    let done = met.surveyed state tells marks all read in
    let own = c.in_err-survey_under.ensures.surveyed state still marks (leads 0 c.in-Some.way.now (omega arith))
    done.read in (
      surveyed-stops state c.args.level c.args.ways.now c.ways.rest.now c.args.links.now.entries c.ways.links.entries
          c.survey_under.new.links.entries c.args.reads.now c.ways.reads c.survey_under.new.reads done own.0,
      on-err c.from_residual.result _ c.from_residual.ensures.0,
    )

pub survey_each-ways-preserved : goal.survey_each-ways-preserved
survey_each-ways-preserved g t c =
    let met = c.ways.invariant in
    let way = c.in-Some.way.now in
    let others = c.in-Some.others.now in
    let rest = c.in-Some.ensures.cases.0 in
    let made = c.in_ok-survey_under.ensures in
    record {
      readable = made.readable;
      levelled = All-tail (λ (way : Way). way.expected.level ≡ Some c.args.level) way others (rw rest at met.levelled);
      branches = λ state all.
          All-tail (LeadsToBranch state c.args.level) way others (rw rest at (met.branches state all));
      surveyed = λ state tells marks all read.
          let leads = rw rest at (met.branches state all) in
          let still = tells-read c.args.blocks.now.draft c.ways.blocks.draft (g.D.Disk.history c.args.disk.now)
          (g.D.Disk.history c.ways.disk) state met.read.draft met.read.history tells in
          let done = met.surveyed state tells marks all read in
          let own = made.surveyed state still marks (leads 0 way (omega arith)) done.read in
          surveyed-on state c.args.level c.args.ways.now others way c.args.links.now.entries c.ways.links.entries
          c.survey_under.new.links.entries c.args.reads.now c.ways.reads c.survey_under.new.reads (rw rest at done)
          own.0 own.1;
      read = read-on c.args.blocks.now c.ways.blocks c.survey_under.new.blocks (g.D.Disk.history c.args.disk.now)
          (g.D.Disk.history c.ways.disk) (g.D.Disk.history c.survey_under.new.disk) (g.D.Disk.size c.args.disk.now)
          (g.D.Disk.size c.ways.disk) (g.D.Disk.size c.survey_under.new.disk) met.read made.read;
      count = let now = made.cause.fine in let before = met.count in omega (arith, now, before);
    }

pub survey_under-returns-then-contains_key-clause-surveyed :
    goal.survey_under-returns-then-contains_key-clause-surveyed
survey_under-returns-then-contains_key-clause-surveyed g t c state tells marks leads read =
    let links = c.args.links.now.entries in
    let reads = c.args.reads.now in (
      goes-none state c.args.level links reads reads read (omega arith),
      ends-there c.args.blocks.now.draft (g.D.Disk.history c.args.disk.now) (book_of c.args.book.now) state tells marks
          c.args.level c.args.way.now
          c.requires.levelled leads links reads read
          (ap (λ (q : ℕ). is_some (link_at links q)) (sym c.value.ensures) ∙ sym c.contains_key.ensures
          ∙ c.if-contains_key.true),
    )

pub survey_under-returns-in_err-visit-clause-sound :
    goal.survey_under-returns-in_err-visit-clause-sound
survey_under-returns-in_err-visit-clause-sound g t c state same tells leads =
    let top = top-told c.args.blocks.now.draft (g.D.Disk.history c.args.disk.now) state tells c.args.level
    c.args.way.now c.requires.levelled leads in
    unbroken-handed c.from_residual.result _ c.from_residual.ensures.1
    (c.in_err-visit.ensures.sound top.0 top.1 (top.2 c.args.tree.now.next same))

pub survey_under-survey_each-requires : goal.survey_under-survey_each-requires
survey_under-survey_each-requires g t c κs within =
    let falls : 2 * (c.args.level - 1 + 1) < t = omega (arith, c.decreases, c.if-level-gt0.true) in
    let told : c.as_slice.result.now
    ≡ ways_told c.args.way.now.expected.to (c.args.level - 1) (own_pointers c.peek-node.result.now)
    = c.as_slice.ensures.value ∙ c.in_ok-ways.ensures
    ∙ ap (λ (n : ℕ). ways_told c.args.way.now.expected.to n (own_pointers c.peek-node.result.now))
    c.saturating_sub.ensures in
    let levelled = subst (λ (list : List Way). All (λ (w : Way). w.expected.level ≡ Some (c.args.level - 1)) list)
    (sym told) (ways-levelled c.args.way.now.expected.to (c.args.level - 1) (own_pointers c.peek-node.result.now)) in
    (falls, (within.0, (within.1, (c.visit.ensures.readable, levelled))))

pub survey_under-returns-in_err-survey_each-clause-surveyed :
    goal.survey_under-returns-in_err-survey_each-clause-surveyed
survey_under-returns-in_err-survey_each-clause-surveyed g t c state tells marks leads read =
    let lower = c.args.level - 1 in
    let high : c.args.level ≡ suc lower = omega (arith, c.if-level-gt0.true) in
    let still = tells-read c.args.blocks.now.draft c.visit.new.blocks.draft (g.D.Disk.history c.args.disk.now)
    (g.D.Disk.history c.visit.new.disk) state c.visit.ensures.read.draft c.visit.ensures.read.history tells in
    let told : c.as_slice.result.now ≡ ways_told c.args.way.now.expected.to lower (own_pointers c.peek-node.result.now)
    = c.as_slice.ensures.value ∙ c.in_ok-ways.ensures
    ∙ ap (λ (n : ℕ). ways_told c.args.way.now.expected.to n (own_pointers c.peek-node.result.now))
    c.saturating_sub.ensures in
    let below = subst (λ (list : List Way). All (LeadsToBranch state lower) list) (sym told)
    (children-lead c.args.blocks.now.draft (g.D.Disk.history c.args.disk.now) state tells c.args.level c.args.way.now
    c.requires.levelled leads lower high _ c.visit.new.blocks c.in_ok-visit.ensures.visited c.peek-node.result.now
    c.peek-node.ensures) in
    let own = c.in_err-survey_each.ensures.surveyed state still marks below read in (
      goes-higher state lower c.args.level c.args.links.now.entries c.survey_each.new.links.entries c.args.reads.now
          c.visit.new.reads c.survey_each.new.reads high c.visit.ensures.reads own.0,
      on-err c.from_residual-in_err-survey_each.result _ c.from_residual-in_err-survey_each.ensures.0,
    )

pub survey_under-returns-in_err-survey_each-clause-sound :
    goal.survey_under-returns-in_err-survey_each-clause-sound
survey_under-returns-in_err-survey_each-clause-sound g t c state same tells leads =
    let lower = c.args.level - 1 in
    let high : c.args.level ≡ suc lower = omega (arith, c.if-level-gt0.true) in
    let still = tells-read c.args.blocks.now.draft c.visit.new.blocks.draft (g.D.Disk.history c.args.disk.now)
    (g.D.Disk.history c.visit.new.disk) state c.visit.ensures.read.draft c.visit.ensures.read.history tells in
    let told : c.as_slice.result.now ≡ ways_told c.args.way.now.expected.to lower (own_pointers c.peek-node.result.now)
    = c.as_slice.ensures.value ∙ c.in_ok-ways.ensures
    ∙ ap (λ (n : ℕ). ways_told c.args.way.now.expected.to n (own_pointers c.peek-node.result.now))
    c.saturating_sub.ensures in
    let below = subst (λ (list : List Way). All (LeadsToBranch state lower) list) (sym told)
    (children-lead c.args.blocks.now.draft (g.D.Disk.history c.args.disk.now) state tells c.args.level c.args.way.now
    c.requires.levelled leads lower high _ c.visit.new.blocks c.in_ok-visit.ensures.visited c.peek-node.result.now
    c.peek-node.ensures) in
    unbroken-handed c.from_residual-in_err-survey_each.result _ c.from_residual-in_err-survey_each.ensures.1
    (c.in_err-survey_each.ensures.sound state same still below)

pub survey_under-returns-in_err-put_link-clause-surveyed :
    goal.survey_under-returns-in_err-put_link-clause-surveyed
survey_under-returns-in_err-put_link-clause-surveyed g t c state tells marks leads read =
    let old = c.args.links.now.entries in
    let mid = c.if-level-gt0.links.entries in
    let new = c.put_link.new.links.entries in
    let same : new ≡ mid = c.in_err-put_link.ensures.refused in
    let still = tells-read c.args.blocks.now.draft c.visit.new.blocks.draft (g.D.Disk.history c.args.disk.now)
    (g.D.Disk.history c.visit.new.disk) state c.visit.ensures.read.draft c.visit.ensures.read.history tells in
    let goes : GoesOn state c.args.level old mid c.args.reads.now c.if-level-gt0.reads
    = elim c.if-level-gt0.branch [
      | survey_under-then-level-gt0+in_ok-survey_each w ↦
          let lower = c.args.level - 1 in
          let high : c.args.level ≡ suc lower = omega (arith, w.if-level-gt0.true) in
          let told : w.as_slice.result.now
          ≡ ways_told c.args.way.now.expected.to lower (own_pointers c.peek-node.result.now)
          = w.as_slice.ensures.value ∙ c.in_ok-ways.ensures
          ∙ ap (λ (n : ℕ). ways_told c.args.way.now.expected.to n (own_pointers c.peek-node.result.now))
          c.saturating_sub.ensures in
          let below = subst (λ (list : List Way). All (LeadsToBranch state lower) list) (sym told)
          (children-lead c.args.blocks.now.draft (g.D.Disk.history c.args.disk.now) state tells c.args.level
          c.args.way.now c.requires.levelled leads lower high _ c.visit.new.blocks c.in_ok-visit.ensures.visited
          c.peek-node.result.now c.peek-node.ensures) in
          let own = w.in_ok-survey_each.ensures.surveyed state still marks below read in
          subst (λ (n : ℕ). GoesOn state c.args.level old mid c.args.reads.now n) (sym w.reads-is)
          (subst (λ l. GoesOn state c.args.level old l.entries c.args.reads.now w.survey_each.new.reads)
          (sym w.links-is)
          (goes-higher state lower c.args.level old w.survey_each.new.links.entries c.args.reads.now c.visit.new.reads
          w.survey_each.new.reads high c.visit.ensures.reads own.0))
      | survey_under-else-level-gt0 w ↦
          let reads : c.if-level-gt0.reads ≤ c.args.reads.now + 1 = omega (arith, w.reads-is, c.visit.ensures.reads) in
          subst (λ l. GoesOn state c.args.level old l.entries c.args.reads.now c.if-level-gt0.reads) (sym w.links-is)
          (goes-none state c.args.level old c.args.reads.now c.if-level-gt0.reads read reads)
    ] in (
      subst (λ (l : List (ℕ × Surveyed)). GoesOn state c.args.level old l c.args.reads.now c.if-level-gt0.reads)
          (sym same) goes,
      on-err c.from_residual-in_err-put_link.result _ c.from_residual-in_err-put_link.ensures.0,
    )

pub survey_under-returns-in_err-put_link-clause-readable :
    goal.survey_under-returns-in_err-put_link-clause-readable
survey_under-returns-in_err-put_link-clause-readable g t c = elim c.if-level-gt0.branch [
  | survey_under-then-level-gt0+in_ok-survey_each w ↦
      rw w.blocks-is (rw w.disk-is w.in_ok-survey_each.ensures.readable)
  | survey_under-else-level-gt0 w ↦ rw w.blocks-is (rw w.disk-is c.visit.ensures.readable)
]

pub survey_under-returns-clause-surveyed : goal.survey_under-returns-clause-surveyed
survey_under-returns-clause-surveyed g t c state tells marks leads read =
    let history = g.D.Disk.history c.args.disk.now in
    let draft = c.args.blocks.now.draft in
    let way = c.args.way.now in
    let seen = c.peek-node.result.now in
    let old = c.args.links.now.entries in
    let mid = c.if-level-gt0.links.entries in
    let new = c.put_link.new.links.entries in
    let before = c.args.reads.now in
    let then = c.visit.new.reads in
    let absent : link_at old way.address ≡ None
    = none-there (link_at old way.address) (ap (λ (q : ℕ). is_some (link_at old q)) (sym c.value.ensures)
    ∙ sym c.contains_key.ensures ∙ c.if-contains_key.false) in
    let still = tells-read draft c.visit.new.blocks.draft history (g.D.Disk.history c.visit.new.disk) state
    c.visit.ensures.read.draft c.visit.ensures.read.history tells in
    let is : c.in_ok-link.link ≡ surveyed_of (header_of seen).address
    (record { node = seen; full = full_in (book_of c.args.book.now way.address) })
    = c.in_ok-link.ensures ∙ ap (λ (b : Bool). surveyed_of (header_of seen).address (record { node = seen; full = b }))
    c.is_marked.ensures in
    elim c.if-level-gt0.branch [
      | survey_under-then-level-gt0+in_ok-survey_each w ↦
          let lower = c.args.level - 1 in
          let high : c.args.level ≡ suc lower = omega (arith, w.if-level-gt0.true) in
          let told : w.as_slice.result.now ≡ ways_told way.expected.to lower (own_pointers seen)
          = w.as_slice.ensures.value ∙ c.in_ok-ways.ensures
          ∙ ap (λ (n : ℕ). ways_told way.expected.to n (own_pointers seen)) c.saturating_sub.ensures in
          let below = subst (λ (list : List Way). All (LeadsToBranch state lower) list) (sym told)
          (children-lead draft history state tells c.args.level way c.requires.levelled leads lower high _
          c.visit.new.blocks c.in_ok-visit.ensures.visited seen c.peek-node.ensures) in
          let own = w.in_ok-survey_each.ensures.surveyed state still marks below read in
          let mid_is : mid ≡ w.survey_each.new.links.entries = ap (λ l. l.entries) w.links-is in
          let goes : GoesOn state lower old mid then c.if-level-gt0.reads
          = subst (λ (n : ℕ). GoesOn state lower old mid then n) (sym w.reads-is)
          (subst (λ (l : List (ℕ × Surveyed)). GoesOn state lower old l then w.survey_each.new.reads)
          (sym mid_is) own.0) in
          let ends : EndBelow state lower w.as_slice.result.now old mid then c.if-level-gt0.reads
          = subst (λ (n : ℕ). EndBelow state lower w.as_slice.result.now old mid then n) (sym w.reads-is)
          (subst (λ (l : List (ℕ × Surveyed)). EndBelow state lower w.as_slice.result.now old l then
          w.survey_each.new.reads)
          (sym mid_is) own.1) in
          inner-goes draft history (book_of c.args.book.now) state tells marks c.args.level way c.requires.levelled
          leads _
          c.visit.new.blocks c.in_ok-visit.ensures.visited seen c.peek-node.ensures c.in_ok-link.link is old mid new
          before
          then c.if-level-gt0.reads c.visit.ensures.reads absent goes.read c.in_ok-put_link.ensures.put.0
          c.in_ok-put_link.ensures.grown lower high w.as_slice.result.now way.expected.to told goes ends
      | survey_under-else-level-gt0 w ↦
          let low : c.args.level ≡ 0 = omega (arith, w.if-level-gt0.false) in
          let mid_is : mid ≡ old = ap (λ l. l.entries) w.links-is in
          leaf-goes draft history (book_of c.args.book.now) state tells marks c.args.level way c.requires.levelled leads
          _
          c.visit.new.blocks c.in_ok-visit.ensures.visited seen c.peek-node.ensures c.in_ok-link.link is old mid new
          before
          then c.if-level-gt0.reads c.visit.ensures.reads absent
          (subst (λ (l : List (ℕ × Surveyed)). AreRead state l) (sym mid_is) read) c.in_ok-put_link.ensures.put.0
          c.in_ok-put_link.ensures.grown low mid_is w.reads-is
    ]

pub survey_under-returns-clause-readable : goal.survey_under-returns-clause-readable
survey_under-returns-clause-readable g t c = elim c.if-level-gt0.branch [
  | survey_under-then-level-gt0+in_ok-survey_each w ↦
      rw w.blocks-is (rw w.disk-is w.in_ok-survey_each.ensures.readable)
  | survey_under-else-level-gt0 w ↦ rw w.blocks-is (rw w.disk-is c.visit.ensures.readable)
]

-- ---- over any disk

pub survey_under-returns-in_err-visit-clause-stops :
    goal.survey_under-returns-in_err-visit-clause-stops
survey_under-returns-in_err-visit-clause-stops g t c =
    stops-visit c.from_residual.result c.in_err-visit.field-0.0 Files c.args.tree.now c.args.blocks.now.draft
    (g.D.Disk.size c.args.disk.now) c.args.way.now.expected c.args.way.now.address c.from_residual.ensures.1
    c.in_err-visit.ensures.stops

pub survey_under-returns-in_err-survey_each-clause-stops :
    goal.survey_under-returns-in_err-survey_each-clause-stops
survey_under-returns-in_err-survey_each-clause-stops g t c =
    let residual = c.from_residual-in_err-survey_each in
    let read = c.visit.ensures.read in
    stops-err (Unit {0}) residual.result c.in_err-survey_each.field-0.0 c.visit.new.blocks.draft.sizes
    c.args.blocks.now.draft.sizes (g.D.Disk.size c.visit.new.disk) (g.D.Disk.size c.args.disk.now)
    residual.ensures.1 (ap (λ (d : Draft). d.sizes) read.draft) read.size c.in_err-survey_each.ensures.stops

pub survey_each-returns-in_err-survey_under-clause-stops :
    goal.survey_each-returns-in_err-survey_under-clause-stops
survey_each-returns-in_err-survey_under-clause-stops g t c =
    let read = c.ways.invariant.read in
    stops-err (Unit {0}) c.from_residual.result c.in_err-survey_under.field-0.0 c.ways.blocks.draft.sizes
    c.args.blocks.now.draft.sizes (g.D.Disk.size c.ways.disk) (g.D.Disk.size c.args.disk.now)
    c.from_residual.ensures.1 (ap (λ (d : Draft). d.sizes) read.draft) read.size c.in_err-survey_under.ensures.stops
