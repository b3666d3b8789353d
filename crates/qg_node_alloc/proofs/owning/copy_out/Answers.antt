use Rattle.std.proofs.Common.{ap, refl, subst}
use Rattle.std.specs.Prelude.{is_some}
use Rattle.qg_node.specs.NodeText.{IsNode}
use Rattle.qg_blocks.proofs.Broken.{unread-handed}
use Rattle.qg_node_alloc.specs.declared.ground.Ground.{Ground}
use Rattle.qg_node_alloc.proofs.Calls.{LeavesBe-read, LeavesBe-with}
use Rattle.qg_node_alloc.proofs.Lands.{Copies-made, IsDrafted-copied, Rests-spares, Rests-taken}
use Rattle.qg_node_alloc.proofs.owning.copy_out.Goals as goal

pub returns-in_err-load-clause-rests : goal.returns-in_err-load-clause-rests
returns-in_err-load-clause-rests g c =
    LeavesBe-read c.args.land.now c.load.new.self (g.D.Disk.history c.args.disk.now) (g.D.Disk.history c.load.new.disk)
    (g.D.Disk.size c.args.disk.now) (g.D.Disk.size c.load.new.disk)
    c.args.next c.load.ensures.stays c.load.ensures.disk c.requires.ready.drafted

pub returns-in_err-copy-clause-rests : goal.returns-in_err-copy-clause-rests
returns-in_err-copy-clause-rests g c =
    LeavesBe-read c.args.land.now c.load.new.self (g.D.Disk.history c.args.disk.now) (g.D.Disk.history c.load.new.disk)
    (g.D.Disk.size c.args.disk.now) (g.D.Disk.size c.load.new.disk)
    c.args.next c.load.ensures.stays c.load.ensures.disk c.requires.ready.drafted

pub returns-in_err-put_node-clause-rests : goal.returns-in_err-put_node-clause-rests
returns-in_err-put_node-clause-rests g c =
    let mid : Ground = record { blocks = c.load.new.self; space = c.args.land.now.space } in
    let history = g.D.Disk.history c.load.new.disk in
    let left = g.D.Disk.size c.load.new.disk in
    let read = LeavesBe-read c.args.land.now c.load.new.self (g.D.Disk.history c.args.disk.now) history
    (g.D.Disk.size c.args.disk.now) left c.args.next
    c.load.ensures.stays c.load.ensures.disk c.requires.ready.drafted in
    LeavesBe-with c.args.land.now mid c.put_node.new.land (g.D.Disk.history c.args.disk.now) history
    (g.D.Disk.size c.args.disk.now) left c.args.next read
    (Rests-taken mid c.put_node.new.land history c.args.next c.put_node.ensures.spares c.in_err-put_node.ensures.err
    (c.put_node.ensures.backed history c.load.ensures.stays.backed) read.rests.drafted)

pub returns-clause-copied : goal.returns-clause-copied
returns-clause-copied g c =
    let mid : Ground = record { blocks = c.load.new.self; space = c.args.land.now.space } in
    Copies-made c.args.land.now mid c.put_node.new.land (g.D.Disk.history c.args.disk.now) c.args.at
    c.in_ok-put_node.field-0 c.args.owner c.args.next c.peek.result.now c.in_ok-copy.copy
    c.load.ensures.stays.draft refl c.in_ok-put_node.ensures.made c.in_ok-copy.ensures
    (λ node there. let held = c.in_ok-load.ensures.lent.told node there in let lent = c.peek.ensures in cc)
    (λ node there. let kept = (c.load.ensures.again (ap is_some there)).1 in let lent = c.peek.ensures in cc)

pub returns-clause-rests : goal.returns-clause-rests
returns-clause-rests g c =
    let mid : Ground = record { blocks = c.load.new.self; space = c.args.land.now.space } in
    let history = g.D.Disk.history c.load.new.disk in
    let left = g.D.Disk.size c.load.new.disk in
    let ready = c.requires.ready in
    let read = LeavesBe-read c.args.land.now c.load.new.self (g.D.Disk.history c.args.disk.now) history
    (g.D.Disk.size c.args.disk.now) left c.args.next
    c.load.ensures.stays c.load.ensures.disk ready.drafted in
    let kept = c.in_ok-load.ensures.lent.kept c.peek.result.now c.requires.clean c.peek.ensures in
    let sound : IsNode c.args.land.now.space.sizes.nodesize c.peek.result.now =
    subst (λ n. IsNode n c.peek.result.now) ready.drafted.sizes.nodesize kept.sound in
    LeavesBe-with c.args.land.now mid c.put_node.new.land (g.D.Disk.history c.args.disk.now) history
    (g.D.Disk.size c.args.disk.now) left c.args.next read
    (Rests-spares mid c.put_node.new.land history c.args.next c.put_node.ensures.spares c.put_node.ensures.bound
    (c.put_node.ensures.backed history c.load.ensures.stays.backed)
    (IsDrafted-copied mid c.put_node.new.land c.in_ok-put_node.field-0 c.args.owner c.args.next c.peek.result.now
    c.in_ok-copy.copy c.put_node.ensures.spares c.in_ok-put_node.ensures.made
    c.in_ok-copy.ensures sound read.rests.drafted))

pub returns-in_err-load-clause-broken : goal.returns-in_err-load-clause-broken
returns-in_err-load-clause-broken g c =
    unread-handed (Unit {0}) c.from_residual.result c.in_err-load.field-0.0 c.args.land.now.blocks.draft.sizes
    (g.D.Disk.size c.args.disk.now) c.args.at c.from_residual.ensures.1 c.in_err-load.ensures.broken
