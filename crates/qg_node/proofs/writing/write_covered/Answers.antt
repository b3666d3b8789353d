use Rattle.std.proofs.Common.{◌∙◌, arith}
use Rattle.qg_node.proofs.Filling.{drop_zeros, take_zeros}
use Rattle.qg_node.proofs.Texts.{items_bytes-parts}
use Rattle.qg_node.proofs.writing.write_covered.Goals as goal

pub overflow_cast-len : goal.overflow_cast-len
overflow_cast-len c =
    let fits = rw c.in-Leaf.is at c.requires.node.fits in
    omega (arith, fits, items_bytes-parts c.in-Leaf.items, c.len.ensures)

pub write_header-requires : goal.write_header-requires
write_header-requires c = c.split_at_mut-head.ensures.front
    ∙ take_zeros 69 c.args.bytes.now c.requires.zero (omega arith)

pub write_items-requires-clause-zero : goal.write_items-requires-clause-zero
write_items-requires-clause-zero c =
    rw c.split_at_mut-head.ensures.back (drop_zeros 69 c.args.bytes.now c.requires.zero)

pub write_header-requires-in-Inner : goal.write_header-requires-in-Inner
write_header-requires-in-Inner c = c.split_at_mut-head.ensures.front
    ∙ take_zeros 69 c.args.bytes.now c.requires.zero (omega arith)

pub write_pointers-requires-clause-zero : goal.write_pointers-requires-clause-zero
write_pointers-requires-clause-zero c =
    rw c.split_at_mut-head.ensures.back (drop_zeros 69 c.args.bytes.now c.requires.zero)
