use Rattle.std.proofs.Common.{◌≡◌, ◌+◌, drop}
use Rattle.qg_node.specs.Nodes.{items_bytes}
use Rattle.tree_setting.proofs.buildable.fit.Given as goal

abbrev pub invariant-loop-item : goal.invariant-loop-item
invariant-loop-item l = items_bytes l.items + l.left ≡ items_bytes (drop l.item-index l.items) + l.fn.room
