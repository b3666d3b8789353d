use Rattle.std.proofs.Common.{Some, sym, ap, ◌∙◌}
use Rattle.qg_node.specs.declared.item.Item.{Item}
use Rattle.qg_tree_read.proofs.Leaves.{at-found, body-absent, body-there}
use Rattle.qg_tree_read.proofs.leaf.body_of.Goals as goal

pub returns-in_ok-from_slice-in-Ok : goal.returns-in_ok-from_slice-in-Ok
returns-in_ok-from_slice-in-Ok c =
    let there = at-found c.args.items.now c.in-Ok.place c.args.key c.index-items-place.result c.in-Ok.ensures.found
    c.index-items-place.is in
    ap Some (c.in_ok-from_slice-in-Ok.ensures ∙ c.as_slice-bytes.ensures
    ∙ ap (λ (x : Item). x.body) (sym c.index-items-place.is))
    ∙ sym (body-there c.args.key c.args.items.now c.in-Ok.place c.index-items-place.result c.requires there.0 there.1)

pub returns-in-Err : goal.returns-in-Err
returns-in-Err c = sym (body-absent c.args.key c.args.items.now c.in-Err.field-0 c.in-Err.ensures.absent)
