use Rattle.std.proofs.Common.{refl, ap, ◌∙◌}
use Rattle.std.proofs.lemmas.Result.{on_ok_weaker}
use Rattle.qg_device.proofs.Causes.{cause-last}
use Rattle.qg_device.specs.History.{content}
use Rattle.qg_blocks.specs.NodesFound.{found}
use Rattle.qg_blocks.specs.NodesInMemory.{Draft}
use Rattle.qg_blocks.proofs.Broken.{unread-handed}
use Rattle.qg_blocks.proofs.Stopping.{stops-read, stops-same}
use Rattle.qg_node_alloc.specs.declared.ground.Ground.{Ground}
use Rattle.qg_node_alloc.proofs.Calls.{Answers-sound}
use Rattle.qg_node_alloc.proofs.Lands.{LetsGo-draft, Rests-after, Rests-draft, Takes-left}
use Rattle.qg_node_alloc.proofs.Settling.{Empties-draft, KeepsLevels-draft}
use Rattle.qg_node_alloc.proofs.making.leave_node.Goals as goal

pub returns-clause-rests : goal.returns-clause-rests
returns-clause-rests g c generation drafted =
    let mid : Ground = record { blocks = c.load.new.self; space = c.args.land.now.space } in
    let history = g.D.Disk.history c.load.new.disk in
    let first = Rests-draft c.args.land.now mid history generation c.load.ensures.stays.draft c.load.ensures.stays.bound
    refl c.load.ensures.stays.backed drafted in
    Rests-after c.args.land.now mid c.left.new.land history (g.D.Disk.history c.left.new.disk) generation first
    (c.left.ensures.rests generation first.drafted)

pub returns-clause-takes : goal.returns-clause-takes
returns-clause-takes g c generation drafted =
    let mid : Ground = record { blocks = c.load.new.self; space = c.args.land.now.space } in
    let rests = returns-clause-rests g c generation drafted in
    on_ok_weaker c.left.result
    (λ gone. Takes-left c.args.land.now c.left.new.land c.args.at rests.sizes rests.held_slots
    (LetsGo-draft c.args.land.now mid c.left.new.land c.args.at c.load.ensures.stays.draft refl gone))
    c.left.ensures.gone

pub returns-clause-settled : goal.returns-clause-settled
returns-clause-settled g c before empties settled =
    let mid : Ground = record { blocks = c.load.new.self; space = c.args.land.now.space } in
    c.left.ensures.settled before (Empties-draft before c.args.land.now mid c.args.at c.load.ensures.stays.draft refl
    empties)
    (g.met.B.Book.keeps c.args.book.now before before c.args.disk.now c.load.new.disk c.load.ensures.disk.0 refl
    (KeepsLevels-draft before before refl) settled)

pub returns-clause-stops : goal.returns-clause-stops
returns-clause-stops g c =
    stops-same c.left.result c.load.new.self.draft.sizes c.args.land.now.blocks.draft.sizes
    (g.D.Disk.size c.load.new.disk) (g.D.Disk.size c.args.disk.now)
    (ap (λ (d : Draft). d.sizes) c.load.ensures.stays.draft) c.load.ensures.disk.1 c.left.ensures.stops

pub returns-in_err-load-clause-stops : goal.returns-in_err-load-clause-stops
returns-in_err-load-clause-stops g c =
    let sizes = c.args.land.now.blocks.draft.sizes in
    let bytes = g.D.Disk.size c.args.disk.now in
    stops-read c.from_residual.result sizes bytes c.args.at
    (unread-handed (Unit {0}) c.from_residual.result c.in_err-load.field-0.0 sizes bytes c.args.at
    c.from_residual.ensures.1 c.in_err-load.ensures.broken)

pub returns-clause-fails : goal.returns-clause-fails
returns-clause-fails g c = record {
  answers = λ events told. Answers-sound c.left.result c.args.at
      (found c.args.land.now.blocks.draft (content events) c.args.at) (c.in_ok-load.ensures.answers events told)
      (c.left.ensures.fails.sound events (c.load.ensures.disk.0 ∙ told));
  cause = cause-last (g.D.Disk.faults c.args.disk.now) (g.D.Disk.faults c.load.new.disk)
      (g.D.Disk.faults c.left.new.disk) c.left.result c.in_ok-load.ensures.cause.fine c.left.ensures.fails.cause;
}
