use Rattle.std.proofs.Common.{sym, ◌∙◌, arith}
use Rattle.qg_num.specs.Fields.{IsBytes}
use Rattle.qg_items.proofs.QuotaBodies.{status_text-from_fields}
use Rattle.qg_items.proofs.quota.read_status.Goals as goal

pub returns-clause-spelled : goal.returns-clause-spelled
returns-clause-spelled c =
    let are : IsBytes c.args.bytes.now = λ i. omega (arith, c.type_inv.bytes i) in
    let spelled = status_text-from_fields c.args.bytes.now are c.if-bytes-ne-QGROUP_STATUS_BYTES.false
    (sym c.u64_at.ensures ∙ c.if-u64_at-ne1.false) in
    cc
