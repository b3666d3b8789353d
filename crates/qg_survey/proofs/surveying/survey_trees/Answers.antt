use Rattle.std.proofs.Common.{◌≡◌, ℕ, ◌+◌, List, Some, arith, sym, ap, subst, ◌∙◌}
use Rattle.std.specs.List.{All}
use Rattle.std.proofs.lemmas.List.Elements.{All-tail}
use Rattle.qg_image.specs.State.{next_generation}
use Rattle.qg_image.specs.declared.expected.Expected.{Expected}
use Rattle.qg_tree_read.specs.Tree.{Root}
use Rattle.qg_subvolumes.proofs.NodesBelow.{read-on, tells-read}
use Rattle.qg_subvolumes.proofs.Resting.{unbroken-handed}
use Rattle.qg_survey.specs.Surveying.{EndsBelow, GoesOn, LeadsOn}
use Rattle.qg_survey.proofs.Reading.{on-err}
use Rattle.qg_survey.proofs.Rounds.{gone-on, gone-stops, tree-leads}
use Rattle.qg_blocks.specs.NodesInMemory.{Draft}
use Rattle.qg_blocks.proofs.Stopping.{stops-err}
use Rattle.qg_survey.proofs.surveying.survey_trees.Goals as goal

pub survey_under-requires-clause-levelled : goal.survey_under-requires-clause-levelled
survey_under-requires-clause-levelled g c =
    ap (λ (e : Expected). e.level) c.way.ensures.expected ∙ sym (ap (λ (n : ℕ). Some n) c.height.ensures)

pub returns-in_err-survey_under-clause-surveyed : goal.returns-in_err-survey_under-clause-surveyed
returns-in_err-survey_under-clause-surveyed g c state tells marks all read =
    let met = c.trees.invariant in
    let tree = c.in-Some.tree.now in
    let leads = rw c.in-Some.ensures.cases.0 at (met.branches state all) in
    let still = tells-read c.args.blocks.now.draft c.trees.blocks.draft (g.D.Disk.history c.args.disk.now)
    (g.D.Disk.history c.trees.disk) state met.read.draft met.read.history tells in
    let done = met.surveyed state tells marks all read in
    let first : LeadsOn state tree = leads 0 tree (omega arith) in
    let one = tree-leads state tree first c.height.result c.way.result c.height.ensures c.way.ensures.address
    c.way.ensures.expected in
    let own = c.in_err-survey_under.ensures.surveyed state still marks one done.read in
    let goes = subst (λ (n : ℕ). GoesOn state n c.trees.links.entries c.survey_under.new.links.entries c.trees.reads
    c.survey_under.new.reads) c.height.ensures own.0 in (
      gone-stops state c.args.trees.now c.trees.rest.now tree c.args.links.now.entries c.trees.links.entries
          c.survey_under.new.links.entries c.args.reads.now c.trees.reads c.survey_under.new.reads first.low done goes,
      on-err c.from_residual.result _ c.from_residual.ensures.0,
    )

pub returns-in_err-survey_under-clause-sound : goal.returns-in_err-survey_under-clause-sound
returns-in_err-survey_under-clause-sound g c state nexts tells all =
    let met = c.trees.invariant in
    let tree = c.in-Some.tree.now in
    let rest = c.in-Some.ensures.cases.0 in
    let leads = rw rest at (met.branches state all) in
    let next = rw rest at (met.nexts state nexts) in
    let still = tells-read c.args.blocks.now.draft c.trees.blocks.draft (g.D.Disk.history c.args.disk.now)
    (g.D.Disk.history c.trees.disk) state met.read.draft met.read.history tells in
    let one = tree-leads state tree (leads 0 tree (omega arith)) c.height.result c.way.result c.height.ensures
    c.way.ensures.address c.way.ensures.expected in
    unbroken-handed c.from_residual.result _ c.from_residual.ensures.1
    (c.in_err-survey_under.ensures.sound state (next 0 tree (omega arith)) still one)

pub trees-preserved : goal.trees-preserved
trees-preserved g c =
    let met = c.trees.invariant in
    let tree = c.in-Some.tree.now in
    let others = c.in-Some.others.now in
    let rest = c.in-Some.ensures.cases.0 in
    let made = c.in_ok-survey_under.ensures in
    record {
      readable = made.readable;
      branches = λ state all. All-tail (LeadsOn state) tree others (rw rest at (met.branches state all));
      nexts = λ state all.
          All-tail (λ (t : Root). t.next ≡ next_generation state) tree others (rw rest at (met.nexts state all));
      surveyed = λ state tells marks all read.
          let leads = rw rest at (met.branches state all) in
          let still = tells-read c.args.blocks.now.draft c.trees.blocks.draft (g.D.Disk.history c.args.disk.now)
          (g.D.Disk.history c.trees.disk) state met.read.draft met.read.history tells in
          let done = met.surveyed state tells marks all read in
          let first : LeadsOn state tree = leads 0 tree (omega arith) in
          let one = tree-leads state tree first c.height.result c.way.result c.height.ensures c.way.ensures.address
          c.way.ensures.expected in
          let own = made.surveyed state still marks one done.read in
          let goes = subst (λ (n : ℕ). GoesOn state n c.trees.links.entries c.survey_under.new.links.entries
          c.trees.reads
          c.survey_under.new.reads) c.height.ensures own.0 in
          let ends = subst (λ (n : ℕ). EndsBelow state n tree.address c.trees.links.entries
          c.survey_under.new.links.entries c.trees.reads c.survey_under.new.reads) c.height.ensures
          (subst (λ (a : ℕ). EndsBelow state c.height.result a c.trees.links.entries c.survey_under.new.links.entries
          c.trees.reads c.survey_under.new.reads) c.way.ensures.address own.1) in
          gone-on state c.args.trees.now others tree c.args.links.now.entries c.trees.links.entries
          c.survey_under.new.links.entries c.args.reads.now c.trees.reads c.survey_under.new.reads first.low
          (rw rest at done) goes ends;
      read = read-on c.args.blocks.now c.trees.blocks c.survey_under.new.blocks (g.D.Disk.history c.args.disk.now)
          (g.D.Disk.history c.trees.disk) (g.D.Disk.history c.survey_under.new.disk) (g.D.Disk.size c.args.disk.now)
          (g.D.Disk.size c.trees.disk) (g.D.Disk.size c.survey_under.new.disk) met.read made.read;
      count = let now = made.cause.fine in let before = met.count in omega (arith, now, before);
    }

-- ---- over any disk

pub returns-in_err-survey_under-clause-stops : goal.returns-in_err-survey_under-clause-stops
returns-in_err-survey_under-clause-stops g c =
    let read = c.trees.invariant.read in
    stops-err (Unit {0}) c.from_residual.result c.in_err-survey_under.field-0.0 c.trees.blocks.draft.sizes
    c.args.blocks.now.draft.sizes (g.D.Disk.size c.trees.disk) (g.D.Disk.size c.args.disk.now)
    c.from_residual.ensures.1 (ap (λ (d : Draft). d.sizes) read.draft) read.size c.in_err-survey_under.ensures.stops
