use Rattle.std.proofs.Common.{Some}
use Rattle.qg_extents.proofs.Tables.{table-put, updated_put}
use Rattle.qg_extents.proofs.extents.Extents.put.Goals as goal

pub invariant_of-self-2 : goal.invariant_of-self-2
invariant_of-self-2 c =
    let m = c.self.inside.table in
    let n = c.insert.new.self in
    table-put m.entries n.entries c.args.at (Some c.args.kept) c.self.invariant c.in_ok-insert.ensures.ordered
    (updated_put m n c.value.result c.args.at (Some c.args.kept) c.value.ensures c.in_ok-insert.ensures.updates.0)
    c.requires
