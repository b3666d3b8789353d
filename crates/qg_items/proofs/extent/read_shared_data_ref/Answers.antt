use Rattle.std.proofs.Common.{arith}
use Rattle.qg_num.specs.Fields.{IsBytes}
use Rattle.qg_items.proofs.ExtentBodies.{shared_data_ref_text-from_fields}
use Rattle.qg_items.proofs.extent.read_shared_data_ref.Goals as goal

pub returns-clause-spelled : goal.returns-clause-spelled
returns-clause-spelled c =
    let are : IsBytes c.args.bytes.now = λ i. omega (arith, c.type_inv.bytes i) in
    let spelled = shared_data_ref_text-from_fields c.args.bytes.now are c.if-bytes-ne-SHARED_DATA_REF_BYTES.false in
    cc
