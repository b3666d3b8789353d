use Rattle.std.proofs.Common.{refl, rules, ◌∙◌, sym}
use Rattle.qg_shape.proofs.Inners.{IsJoined-inner}
use Rattle.qg_shape.proofs.Weights.{sum_by-same}
use Rattle.qg_shape.proofs.joining.join.Goals as goal

pub join_lists-requires-in-Inner-right-2-clause-first : goal.join_lists-requires-in-Inner-right-2-clause-first
join_lists-requires-in-Inner-right-2-clause-first c = c.used_bytes-first.ensures
    ∙ rw c.in-Inner.is (sym (sum_by-same 33 c.in-Inner.pointers))

pub join_lists-requires-in-Inner-right-2-clause-total : goal.join_lists-requires-in-Inner-right-2-clause-total
join_lists-requires-in-Inner-right-2-clause-total c =
    rw (
      c.used_bytes-first.ensures,
      c.used_bytes.ensures,
      c.in-Inner.is,
      c.in-Inner-right-2.is,
      sum_by-same 33
          c.in-Inner.pointers,
      sum_by-same 33 c.in-Inner-right-2.others,
    ) refl

pub returns-in-Inner-right-2-clause-joined : goal.returns-in-Inner-right-2-clause-joined
returns-in-Inner-right-2-clause-joined c =
    rw (c.in-Inner.is, c.in-Inner-right-2.is)
    (IsJoined-inner c.args.nodesize c.in-Inner.header c.in-Inner-right-2.header c.in-Inner.pointers
    c.in-Inner-right-2.others c.join_lists-in-Inner-right-2.new.left c.join_lists-in-Inner-right-2.new.right
    c.join_lists-in-Inner-right-2.result (search rules) c.join_lists-in-Inner-right-2.ensures.joined)
