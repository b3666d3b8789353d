use Rattle.std.proofs.Common.{sym, arith}
use Rattle.qg_num.specs.Fields.{IsBytes}
use Rattle.qg_items.proofs.FileBodies.{extent_data_text-from_fields}
use Rattle.qg_items.proofs.file.read_extent_data.Goals as goal

pub returns-clause-spelled : goal.returns-clause-spelled
returns-clause-spelled c =
    let are : IsBytes c.args.bytes.now = λ i. omega (arith, c.type_inv.bytes i) in
    let spelled = extent_data_text-from_fields c.args.bytes.now are c.if-bytes-ne-EXTENT_DATA_BYTES.false
    (sym c.if-not-is_zero.ensures) c.if-bytes-ne-REGULAR.false in
    cc
