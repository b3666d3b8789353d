use Rattle.std.proofs.Common.{List, sym, subst}
use Rattle.qg_device.proofs.Causes.{cause-last}
use Rattle.qg_num.specs.declared.fault.BlockFault.TheVariants.{NoMemory}
use Rattle.qg_file_edits.specs.declared.step.Step.{Step}
use Rattle.qg_file_edits.specs.Steps.{AreSteps}
use Rattle.qg_file_edits.specs.Exchanging.{after_exchange}
use Rattle.qg_file_edits.proofs.Edited.{made-not}
use Rattle.qg_file_edits.proofs.Handed.{handed, made-handed}
use Rattle.qg_file_edits.proofs.Kept.{leaves-itself, leaves-then, own-then-ok}
use Rattle.qg_file_edits.proofs.Phases.{items-edited, items-failed}
use Rattle.std.proofs.Common.{refl}
use Rattle.qg_blocks.proofs.Stopping.{stops-err, stops-memory, stops-same}
use Rattle.qg_file_edits.proofs.exchange.edit_items.Goals as goal

pub edit_inode-requires : goal.edit_inode-requires
edit_inode-requires g c = c.in_ok-take_steps.ensures.leaves.subvolume

pub returns-in_err-steps-clause-told : goal.returns-in_err-steps-clause-told
returns-in_err-steps-clause-told g c edits items names stands can covers =
    let fs = c.args.fs.now in
    let before = g.D.Disk.history c.args.disk.now in
    let left = after_exchange c.args.ino c.args.change.now items in
    made-handed edits 0 fs fs before left names c.args.reads.now c.args.reads.now c.from_residual.result NoMemory
    (handed c.from_residual.result NoMemory c.from_residual.ensures.1)
    (made-not edits 0 fs fs before left names c.args.reads.now NoMemory tt)

pub returns-in_err-steps-clause-leaves : goal.returns-in_err-steps-clause-leaves
returns-in_err-steps-clause-leaves g c =
    leaves-itself c.args.fs.now (g.D.Disk.history c.args.disk.now) (g.D.Disk.size c.args.disk.now) c.requires.subvolume

pub returns-in_err-take_steps-clause-told : goal.returns-in_err-take_steps-clause-told
returns-in_err-take_steps-clause-told g c edits items names stands can covers =
    let change = c.args.change.now in
    let before = g.D.Disk.history c.args.disk.now in
    let steps = c.as_slice.result.now in
    let are = subst (λ (xs : List Step). AreSteps change.gone change.put xs) (sym c.as_slice.ensures.value)
    c.in_ok-steps.ensures.value in
    made-handed edits 0 c.args.fs.now c.take_steps.new.fs before (after_exchange c.args.ino change items) names
    c.args.reads.now c.take_steps.new.reads c.from_residual-in_err-take_steps.result _
    (handed c.from_residual-in_err-take_steps.result _ c.from_residual-in_err-take_steps.ensures.1)
    (items-failed edits c.args.ino change steps c.args.fs.now c.take_steps.new.fs before c.args.reads.now
    c.take_steps.new.reads are _ c.in_err-take_steps.ensures.told items names stands can covers)

pub returns-clause-told : goal.returns-clause-told
returns-clause-told g c edits items names stands can covers =
    let change = c.args.change.now in
    let before = g.D.Disk.history c.args.disk.now in
    let steps = c.as_slice.result.now in
    let are = subst (λ (xs : List Step). AreSteps change.gone change.put xs) (sym c.as_slice.ensures.value)
    c.in_ok-steps.ensures.value in
    items-edited edits c.args.ino change steps c.args.fs.now c.take_steps.new.fs before c.args.reads.now
    c.take_steps.new.reads are c.edit_inode.new.fs (g.D.Disk.history c.take_steps.new.disk) c.edit_inode.new.reads
    c.edit_inode.result c.in_ok-take_steps.ensures.leaves.history c.in_ok-take_steps.ensures.told
    c.edit_inode.ensures.told c.in_ok-take_steps.ensures.own items names stands can covers

pub returns-clause-leaves : goal.returns-clause-leaves
returns-clause-leaves g c =
    leaves-then c.args.fs.now c.take_steps.new.fs c.edit_inode.new.fs (g.D.Disk.history c.args.disk.now)
    (g.D.Disk.history c.take_steps.new.disk) (g.D.Disk.history c.edit_inode.new.disk) (g.D.Disk.size c.args.disk.now)
    (g.D.Disk.size c.take_steps.new.disk) (g.D.Disk.size c.edit_inode.new.disk) c.in_ok-take_steps.ensures.leaves
    c.edit_inode.ensures.leaves

pub returns-clause-own : goal.returns-clause-own
returns-clause-own g c =
    own-then-ok c.args.fs.now c.take_steps.new.fs c.edit_inode.new.fs c.edit_inode.result c.in_ok-take_steps.ensures.own
    c.edit_inode.ensures.own

pub returns-clause-cause : goal.returns-clause-cause
returns-clause-cause g c =
    cause-last (g.D.Disk.faults c.args.disk.now) (g.D.Disk.faults c.take_steps.new.disk)
    (g.D.Disk.faults c.edit_inode.new.disk) c.edit_inode.result c.in_ok-take_steps.ensures.cause.fine
    c.edit_inode.ensures.cause

-- ---- over any disk

pub returns-in_err-steps-clause-stops : goal.returns-in_err-steps-clause-stops
returns-in_err-steps-clause-stops g c =
    stops-memory c.from_residual.result c.args.fs.now.land.blocks.draft.sizes (g.D.Disk.size c.args.disk.now)
    (handed c.from_residual.result NoMemory c.from_residual.ensures.1)

pub returns-in_err-take_steps-clause-stops : goal.returns-in_err-take_steps-clause-stops
returns-in_err-take_steps-clause-stops g c =
    let residual = c.from_residual-in_err-take_steps in
    let sizes = c.args.fs.now.land.blocks.draft.sizes in
    let bytes = g.D.Disk.size c.args.disk.now in
    stops-err (Unit {0}) residual.result c.in_err-take_steps.field-0.0 sizes sizes bytes bytes residual.ensures.1 refl
    refl c.in_err-take_steps.ensures.stops

pub returns-clause-stops : goal.returns-clause-stops
returns-clause-stops g c =
    let leaves = c.in_ok-take_steps.ensures.leaves in
    stops-same c.edit_inode.result c.take_steps.new.fs.land.blocks.draft.sizes c.args.fs.now.land.blocks.draft.sizes
    (g.D.Disk.size c.take_steps.new.disk) (g.D.Disk.size c.args.disk.now) leaves.node_sizes leaves.size
    c.edit_inode.ensures.stops
