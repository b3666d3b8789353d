use Rattle.qg_weighed.proofs.Known.{weighed-own}
use Rattle.qg_weighed.proofs.weighed.Weighed.new.Goals as goal

pub invariant_of-result : goal.invariant_of-result
invariant_of-result c =
    weighed-own c.args.refs c.in_ok-held.held c.table.result.now.entries c.in_ok-bytes.bytes c.table.ensures.table
    c.in_ok-held.ensures.cases c.table.ensures.same c.in_ok-bytes.ensures
