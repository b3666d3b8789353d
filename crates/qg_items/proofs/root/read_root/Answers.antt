use Rattle.std.proofs.Common.{sym, arith}
use Rattle.qg_num.specs.Fields.{IsBytes}
use Rattle.qg_items.proofs.RootBody.{root_text-from_fields}
use Rattle.qg_items.proofs.root.read_root.Goals as goal

pub returns-clause-spelled : goal.returns-clause-spelled
returns-clause-spelled c =
    let are : IsBytes c.args.bytes.now = λ i. omega (arith, c.type_inv.bytes i) in
    let spelled = root_text-from_fields c.args.bytes.now are c.if-bytes-ne-ROOT_ITEM_BYTES.false
    (sym c.if-not-is_zero.ensures) (sym c.if-not-is_zero-2.ensures) (sym c.if-not-is_zero-3.ensures)
    (sym c.if-not-is_zero-4.ensures) (sym c.if-not-is_zero-5.ensures) (sym c.if-not-is_zero-6.ensures) in
    cc
