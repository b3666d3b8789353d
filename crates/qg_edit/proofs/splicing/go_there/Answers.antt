use Rattle.std.proofs.Common.{◌≡◌, ◌-◌, true, drop, length, subst}
use Rattle.qg_node.specs.declared.node.Node.{Node}
use Rattle.qg_node.specs.Nodes.{is_ascending, own_pointers}
use Rattle.qg_edit.proofs.Order.{back-ascends, front-ascends, keys_to}
use Rattle.qg_edit.proofs.splicing.go_there.Goals as goal

pub are_in_order-requires-clause-front : goal.are_in_order-requires-clause-front
are_in_order-requires-clause-front c =
    front-ascends c.as_slice-pointers.result.now c.args.from
    (rw (c.as_slice-pointers.ensures)
    (subst (λ (n : Node). is_ascending (keys_to (own_pointers n)) ≡ true) c.in-Inner.is c.requires.ascending))

pub are_in_order-requires-clause-back : goal.are_in_order-requires-clause-back
are_in_order-requires-clause-back c =
    let pointers = c.as_slice-pointers.result.now in
    let ascends : is_ascending (keys_to pointers) ≡ true =
    rw (c.as_slice-pointers.ensures)
    (subst (λ (n : Node). is_ascending (keys_to (own_pointers n)) ≡ true) c.in-Inner.is c.requires.ascending) in
    front-ascends (drop c.args.to pointers) (length pointers - c.args.to) (back-ascends pointers c.args.to ascends)
