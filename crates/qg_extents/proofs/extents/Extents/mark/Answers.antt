use Rattle.std.proofs.Common.{Some, subst, true}
use Rattle.qg_refs.specs.declared.kept.Kept.{Kept}
use Rattle.qg_extents.specs.Table.{MayKeep}
use Rattle.qg_extents.proofs.Tables.{found_there, kept_at, lent_put, may_full, table-put}
use Rattle.qg_extents.proofs.extents.Extents.mark.Goals as goal

pub invariant_of-self : goal.invariant_of-self
invariant_of-self c =
    let m = c.self.inside.table in
    let kept = c.in-Some.kept.now in
    let next : Kept = record kept { full = true } in
    let n = c.get_mut.follows.lender next in
    let writes = c.get_mut.follows.holds next in
    let there = found_there m c.value.result c.args.at (Some kept) c.value.ensures c.in-Some.ensures.value in
    table-put m.entries n.entries c.args.at (Some next) c.self.invariant writes.4
    (lent_put m n c.value.result c.args.at kept next c.value.ensures c.in-Some.ensures.value writes)
    (may_full kept (subst MayKeep there (kept_at m.entries c.args.at c.self.invariant)))
