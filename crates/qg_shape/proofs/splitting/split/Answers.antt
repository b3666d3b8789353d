use Rattle.std.proofs.Common.{◌∙◌, ap, rules, sym}
use Rattle.qg_node.specs.Nodes.{header_of}
use Rattle.qg_shape.proofs.Inners.{IsSplit-inner}
use Rattle.qg_shape.proofs.Weights.{sum_by-same}
use Rattle.qg_shape.proofs.splitting.split.Goals as goal

pub cut_off-requires-in-Inner-clause-total : goal.cut_off-requires-in-Inner-clause-total
cut_off-requires-in-Inner-clause-total c = c.used_bytes-total.ensures
    ∙ rw c.in-Inner.is (sym (sum_by-same 33 c.in-Inner.pointers))

pub returns-in_ok-pointers-in-Inner-clause-split : goal.returns-in_ok-pointers-in-Inner-clause-split
returns-in_ok-pointers-in-Inner-clause-split c =
    rw c.in-Inner.is
    (IsSplit-inner c.args.nodesize c.args.address c.in-Inner.header c.header.result c.in-Inner.pointers
    c.cut_off-in-Inner.new.list c.in_ok-pointers-in-Inner.pointers (search rules)
    (c.header.ensures ∙ ap header_of c.in-Inner.is) c.in_ok-pointers-in-Inner.ensures.cut)
