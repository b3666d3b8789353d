use Rattle.std.proofs.Common.{◌≡◌, ◌+◌, drop}
use Rattle.qg_node.specs.Nodes.{items_bytes}
use Rattle.qg_node.proofs.node.items_bytes.Given as goal

abbrev pub invariant-loop-item : goal.invariant-loop-item
invariant-loop-item l = l.total + items_bytes (drop l.item-index l.items) ≡ items_bytes l.items
