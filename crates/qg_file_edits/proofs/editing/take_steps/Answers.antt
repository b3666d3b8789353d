use Rattle.std.proofs.Common.{◌≤◌, length, arith}
use Rattle.std.proofs.lemmas.List.{take_all}
use Rattle.qg_file_edits.specs.Applying.{after_steps}
use Rattle.qg_device.proofs.Causes.{cause-told}
use Rattle.qg_file_edits.proofs.Handed.{handed, made-handed}
use Rattle.qg_file_edits.proofs.Items.{is-at}
use Rattle.qg_file_edits.proofs.Kept.{leaves-then}
use Rattle.qg_file_edits.proofs.Stepped.{steps-all, steps-failed, steps-more, steps-none}
use Rattle.qg_blocks.proofs.Stopping.{stops-err}
use Rattle.qg_file_edits.proofs.editing.take_steps.Goals as goal

pub loop-step-init : goal.loop-step-init
loop-step-init g c =
    steps-none c.args.ino c.args.steps.now c.args.fs.now (g.D.Disk.history c.args.disk.now)
    (g.D.Disk.size c.args.disk.now) (g.D.Disk.faults c.args.disk.now) c.args.reads.now c.requires

pub take_step-requires : goal.take_step-requires
take_step-requires g c = c.loop-step.invariant.leaves.subvolume

pub loop-step-preserved : goal.loop-step-preserved
loop-step-preserved g c =
    let step = c.step-item.result in
    let i = c.loop-step.step-index in
    let at = is-at c.args.steps.now i step c.loop-step-test.true c.step-item.is in
    let call = c.in_ok-take_step.ensures in
    steps-more c.args.ino c.args.steps.now i step at c.args.fs.now c.loop-step.fs (g.D.Disk.history c.args.disk.now)
    (g.D.Disk.history c.loop-step.disk) (g.D.Disk.size c.args.disk.now) (g.D.Disk.size c.loop-step.disk)
    (g.D.Disk.faults c.args.disk.now) (g.D.Disk.faults c.loop-step.disk) c.args.reads.now c.loop-step.reads
    c.loop-step.invariant c.take_step.new.fs (g.D.Disk.history c.take_step.new.disk) (g.D.Disk.size
    c.take_step.new.disk)
    (g.D.Disk.faults c.take_step.new.disk) c.take_step.new.reads call.leaves call.own call.cause.fine call.told

pub returns-in_err-take_step-clause-told : goal.returns-in_err-take_step-clause-told
returns-in_err-take_step-clause-told g c items names stands applies named =
    let step = c.step-item.result in
    let i = c.loop-step.step-index in
    let steps = c.args.steps.now in
    let at = is-at steps i step c.loop-step-test.true c.step-item.is in
    let before = g.D.Disk.history c.args.disk.now in
    made-handed (length steps) 0 c.args.fs.now c.take_step.new.fs before (after_steps c.args.ino steps items) names
    c.args.reads.now c.take_step.new.reads c.from_residual.result _
    (handed c.from_residual.result _ c.from_residual.ensures.1)
    (steps-failed c.args.ino steps i step at c.args.fs.now c.loop-step.fs before (g.D.Disk.history c.loop-step.disk)
    (g.D.Disk.size c.args.disk.now) (g.D.Disk.size c.loop-step.disk) (g.D.Disk.faults c.args.disk.now)
    (g.D.Disk.faults c.loop-step.disk) c.args.reads.now c.loop-step.reads c.loop-step.invariant c.take_step.new.fs
    c.take_step.new.reads _ c.loop-step-test.true c.in_err-take_step.ensures.told items names stands applies named)

pub returns-in_err-take_step-clause-leaves : goal.returns-in_err-take_step-clause-leaves
returns-in_err-take_step-clause-leaves g c =
    leaves-then c.args.fs.now c.loop-step.fs c.take_step.new.fs (g.D.Disk.history c.args.disk.now)
    (g.D.Disk.history c.loop-step.disk) (g.D.Disk.history c.take_step.new.disk) (g.D.Disk.size c.args.disk.now)
    (g.D.Disk.size c.loop-step.disk) (g.D.Disk.size c.take_step.new.disk) c.loop-step.invariant.leaves
    c.in_err-take_step.ensures.leaves

pub returns-in_err-take_step-clause-cause : goal.returns-in_err-take_step-clause-cause
returns-in_err-take_step-clause-cause g c =
    cause-told (g.D.Disk.faults c.args.disk.now) (g.D.Disk.faults c.loop-step.disk)
    (g.D.Disk.faults c.take_step.new.disk) c.from_residual.result _ c.loop-step.invariant.later
    (handed c.from_residual.result _ c.from_residual.ensures.1) c.in_err-take_step.ensures.cause

pub returns-clause-told : goal.returns-clause-told
returns-clause-told g c items names stands applies named =
    let steps = c.args.steps.now in
    let i = c.loop-step.step-index in
    let below : i ≤ length steps = omega arith in
    steps-all c.args.ino steps i c.args.fs.now c.loop-step.fs (g.D.Disk.history c.args.disk.now)
    (g.D.Disk.history c.loop-step.disk) (g.D.Disk.size c.args.disk.now) (g.D.Disk.size c.loop-step.disk)
    (g.D.Disk.faults c.args.disk.now) (g.D.Disk.faults c.loop-step.disk) c.args.reads.now c.loop-step.reads
    c.loop-step-test.false below (take_all i steps c.loop-step-test.false) c.loop-step.invariant items names stands
    applies named

pub returns-clause-leaves : goal.returns-clause-leaves
returns-clause-leaves g c = c.loop-step.invariant.leaves

pub returns-clause-own : goal.returns-clause-own
returns-clause-own g c = c.loop-step.invariant.own

pub returns-clause-cause : goal.returns-clause-cause
returns-clause-cause g c = record { fine = c.loop-step.invariant.later; met = tt }

pub returns-in_err-take_step-clause-stops : goal.returns-in_err-take_step-clause-stops
returns-in_err-take_step-clause-stops g c =
    let leaves = c.loop-step.invariant.leaves in
    stops-err (Unit {0}) c.from_residual.result c.in_err-take_step.field-0.0 c.loop-step.fs.land.blocks.draft.sizes
    c.args.fs.now.land.blocks.draft.sizes (g.D.Disk.size c.loop-step.disk) (g.D.Disk.size c.args.disk.now)
    c.from_residual.ensures.1 leaves.node_sizes leaves.size c.in_err-take_step.ensures.stops
