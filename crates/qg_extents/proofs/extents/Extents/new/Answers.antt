use Rattle.std.proofs.Common.{sym, subst}
use Rattle.qg_extents.specs.Table.{IsTable}
use Rattle.qg_extents.proofs.Tables.{empty_table}
use Rattle.qg_extents.proofs.extents.Extents.new.Goals as goal

pub invariant_of-result : goal.invariant_of-result
invariant_of-result c = subst IsTable (sym c.new.ensures.empty) empty_table
