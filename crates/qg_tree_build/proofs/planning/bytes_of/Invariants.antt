use Rattle.std.proofs.Common.{◌≡◌, ◌+◌, drop}
use Rattle.qg_node.specs.Nodes.{items_bytes}
use Rattle.qg_tree_build.proofs.planning.bytes_of.Given as goal

abbrev pub invariant-loop-item : goal.invariant-loop-item
invariant-loop-item l = l.bytes + items_bytes (drop l.item-index l.items) ≡ items_bytes l.items
