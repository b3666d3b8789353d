use Rattle.std.proofs.Common.{refl}
use Rattle.qg_file_edits.proofs.Once.{once-leaves, once-own, once-removed}
use Rattle.qg_file_edits.proofs.editing.take_out.Goals as goal

pub returns-clause-told : goal.returns-clause-told
returns-clause-told g c items names stands there =
    let call = c.remove.ensures in
    once-removed c.args.fs.now c.remove.new.self (g.D.Disk.history c.args.disk.now) (g.D.Disk.history c.remove.new.disk)
    (g.D.Disk.size c.args.disk.now) (g.D.Disk.size c.remove.new.disk) c.args.reads.now c.remove.new.reads
    c.remove.result c.requires call.rests call.subvolume call.others call.reads items names stands c.args.key c.args.key
    refl
    (call.removed items names stands) call.grows
    (λ events known there room. call.sound events known items names stands there room) there

pub returns-clause-leaves : goal.returns-clause-leaves
returns-clause-leaves g c =
    once-leaves c.args.fs.now c.remove.new.self (g.D.Disk.history c.args.disk.now)
    (g.D.Disk.history c.remove.new.disk) (g.D.Disk.size c.args.disk.now) (g.D.Disk.size c.remove.new.disk)
    c.args.reads.now c.remove.new.reads c.remove.result c.requires c.remove.ensures.rests c.remove.ensures.subvolume
    c.remove.ensures.others

pub returns-clause-own : goal.returns-clause-own
returns-clause-own g c =
    once-own c.args.fs.now c.remove.new.self (g.D.Disk.history c.args.disk.now)
    (g.D.Disk.history c.remove.new.disk) (g.D.Disk.size c.args.disk.now) (g.D.Disk.size c.remove.new.disk)
    c.args.reads.now c.remove.new.reads c.remove.result c.requires c.remove.ensures.rests c.remove.ensures.subvolume
    c.remove.ensures.others
    0 c.remove.ensures.grows

pub returns-clause-stops : goal.returns-clause-stops
returns-clause-stops g c = c.remove.ensures.stops
