use Rattle.std.proofs.Common.{arith}
use Rattle.std.proofs.lemmas.Bool.{eqb-true}
use Rattle.qg_qgroup_counts.proofs.groups.hit.Goals as goal

pub added_if-requires : goal.added_if-requires
added_if-requires c = λ is. c.requires.room.first
    (omega (arith, eqb-true c.next_hit-hits.result 1 is, c.next_hit-hits.ensures))

pub added_if-requires-2 : goal.added_if-requires-2
added_if-requires-2 c = λ is.
    c.requires.room.last (omega (arith, eqb-true c.next_hit-hits.result c.args.many is, c.next_hit-hits.ensures))
