use Rattle.std.proofs.Common.{refl}
use Rattle.std.specs.Prelude.{IsTrue}
use Rattle.qg_num.specs.declared.fault.BlockFault.TheVariants.{NoMemory}
use Rattle.qg_num.specs.declared.key.Key.{Key}
use Rattle.qg_edit.specs.Edits.{has_key, with_item}
use Rattle.qg_file_edits.proofs.Edited.{made-not}
use Rattle.qg_file_edits.proofs.Handed.{handed, made-handed}
use Rattle.qg_file_edits.proofs.Kept.{leaves-itself}
use Rattle.qg_file_edits.proofs.Once.{once-leaves, once-own, once-put}
use Rattle.qg_blocks.proofs.Stopping.{stops-memory}
use Rattle.qg_file_edits.proofs.editing.put_again.Goals as goal

pub returns-in_err-body-clause-told : goal.returns-in_err-body-clause-told
returns-in_err-body-clause-told g c items names stands can covered =
    let fs = c.args.fs.now in
    let before = g.D.Disk.history c.args.disk.now in
    let put = with_item (record { key = c.args.key; body = c.args.bytes.now }) items in
    made-handed 1 0 fs fs before put names c.args.reads.now c.args.reads.now c.from_residual.result NoMemory
    (handed c.from_residual.result NoMemory c.from_residual.ensures.1)
    (made-not 1 0 fs fs before put names c.args.reads.now NoMemory tt)

pub returns-in_err-body-clause-leaves : goal.returns-in_err-body-clause-leaves
returns-in_err-body-clause-leaves g c =
    leaves-itself c.args.fs.now (g.D.Disk.history c.args.disk.now) (g.D.Disk.size c.args.disk.now) c.requires.subvolume

pub returns-clause-told : goal.returns-clause-told
returns-clause-told g c items names stands can covered =
    let call = c.replace.ensures in
    once-put c.args.fs.now c.replace.new.self (g.D.Disk.history c.args.disk.now) (g.D.Disk.history c.replace.new.disk)
    (g.D.Disk.size c.args.disk.now) (g.D.Disk.size c.replace.new.disk) c.args.reads.now c.replace.new.reads
    c.replace.result
    c.requires.subvolume call.rests call.subvolume call.others call.reads items names stands
    (λ (k : Key). IsTrue (has_key k items))
    c.args.key c.args.key c.in_ok-body.body c.args.bytes.now refl c.in_ok-body.ensures
    (call.replaced items names stands) call.grows
    (λ events known there room. call.sound events known items names stands there room) can covered

pub returns-clause-leaves : goal.returns-clause-leaves
returns-clause-leaves g c =
    once-leaves c.args.fs.now c.replace.new.self (g.D.Disk.history c.args.disk.now)
    (g.D.Disk.history c.replace.new.disk) (g.D.Disk.size c.args.disk.now) (g.D.Disk.size c.replace.new.disk)
    c.args.reads.now c.replace.new.reads c.replace.result c.requires.subvolume c.replace.ensures.rests
    c.replace.ensures.subvolume c.replace.ensures.others

pub returns-clause-own : goal.returns-clause-own
returns-clause-own g c =
    once-own c.args.fs.now c.replace.new.self (g.D.Disk.history c.args.disk.now)
    (g.D.Disk.history c.replace.new.disk) (g.D.Disk.size c.args.disk.now) (g.D.Disk.size c.replace.new.disk)
    c.args.reads.now c.replace.new.reads c.replace.result c.requires.subvolume c.replace.ensures.rests
    c.replace.ensures.subvolume c.replace.ensures.others
    1 c.replace.ensures.grows

-- ---- over any disk

pub returns-in_err-body-clause-stops : goal.returns-in_err-body-clause-stops
returns-in_err-body-clause-stops g c =
    stops-memory c.from_residual.result c.args.fs.now.land.blocks.draft.sizes (g.D.Disk.size c.args.disk.now)
    (handed c.from_residual.result NoMemory c.from_residual.ensures.1)

pub returns-clause-stops : goal.returns-clause-stops
returns-clause-stops g c = c.replace.ensures.stops
