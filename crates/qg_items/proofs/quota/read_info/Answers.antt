use Rattle.std.proofs.Common.{arith}
use Rattle.qg_num.specs.Fields.{IsBytes}
use Rattle.qg_items.proofs.QuotaBodies.{info_text-from_fields}
use Rattle.qg_items.proofs.quota.read_info.Goals as goal

pub returns-clause-spelled : goal.returns-clause-spelled
returns-clause-spelled c =
    let are : IsBytes c.args.bytes.now = λ i. omega (arith, c.type_inv.bytes i) in
    let spelled = info_text-from_fields c.args.bytes.now are c.if-bytes-ne-QGROUP_INFO_BYTES.false in
    cc
