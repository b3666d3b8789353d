use Rattle.std.proofs.Common.{sym, arith}
use Rattle.qg_num.specs.Fields.{IsBytes}
use Rattle.qg_items.proofs.QuotaBodies.{limit_text-from_fields}
use Rattle.qg_items.proofs.quota.read_limit.Goals as goal

pub returns-clause-spelled : goal.returns-clause-spelled
returns-clause-spelled c =
    let are : IsBytes c.args.bytes.now = λ i. omega (arith, c.type_inv.bytes i) in
    let spelled = limit_text-from_fields c.args.bytes.now are c.if-bytes-ne-QGROUP_LIMIT_BYTES.false
    (sym c.if-not-is_zero.ensures) in
    cc
