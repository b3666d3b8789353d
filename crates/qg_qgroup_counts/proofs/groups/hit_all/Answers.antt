use Rattle.std.proofs.Common.{get_or, arith}
use Rattle.qg_qgroup_counts.proofs.Hits.{hit_none, hits_few, hit_more, hit_all, room_for}
use Rattle.qg_qgroup_counts.proofs.groups.hit_all.Goals as goal

pub loop-group-init : goal.loop-group-init
loop-group-init c = hit_none c.args.named.now c.args.set c.args.many c.args.bytes c.args.tallies.now c.requires.unseen

pub hit-requires-clause-room : goal.hit-requires-clause-room
hit-requires-clause-room c =
    room_for c.args.named.now c.args.set c.args.many c.args.bytes c.loop-group.group-index c.args.tallies.now
    c.loop-group.tallies (get_or c.args.named.now c.loop-group.group-index 0)
    (c.requires.inside c.loop-group.group-index 0 c.loop-group-test.true) c.requires.room c.loop-group.invariant

pub hit-requires-clause-few : goal.hit-requires-clause-few
hit-requires-clause-few c =
    let few =
    hits_few c.args.named.now c.args.set c.args.many c.args.bytes c.loop-group.group-index c.args.tallies.now
    c.loop-group.tallies (get_or c.args.named.now c.loop-group.group-index 0) (omega arith)
    (c.requires.inside c.loop-group.group-index 0 c.loop-group-test.true) c.loop-group.invariant in
    omega (arith, few)

pub loop-group-preserved : goal.loop-group-preserved
loop-group-preserved c =
    hit_more c.args.named.now c.args.set c.args.many c.args.bytes c.loop-group.group-index c.args.tallies.now
    c.loop-group.tallies c.hit.result c.loop-group-test.true
    (c.requires.inside c.loop-group.group-index 0 c.loop-group-test.true) c.hit.ensures c.loop-group.invariant

pub returns : goal.returns
returns c =
    hit_all c.args.named.now c.args.set c.args.many c.args.bytes c.loop-group.group-index c.args.tallies.now
    c.loop-group.tallies c.loop-group-test.false c.loop-group.invariant
