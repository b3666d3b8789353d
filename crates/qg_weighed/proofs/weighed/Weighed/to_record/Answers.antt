use Rattle.std.proofs.Common.{◌∙◌, refl, subst, sym}
use Rattle.qg_extents.specs.Table.{IsTable}
use Rattle.qg_weighed.proofs.Known.{weighed-own}
use Rattle.qg_weighed.proofs.weighed.Weighed.to_record.Goals as goal

pub invariant_of-result : goal.invariant_of-result
invariant_of-result c =
    let copied = c.in_ok-refs.ensures.cases in
    weighed-own c.in_ok-refs.refs c.in_ok-refs.refs c.table.result.now.entries c.in_ok-bytes.bytes
    (subst IsTable (sym copied) c.self.invariant.refs_kept) refl (c.table.ensures.same ∙ sym copied)
    c.in_ok-bytes.ensures
