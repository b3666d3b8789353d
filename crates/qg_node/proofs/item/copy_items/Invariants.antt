use Rattle.std.proofs.Common.{take}
use Rattle.qg_node.proofs.Copied.{HasCopied}
use Rattle.qg_node.proofs.item.copy_items.Given as goal

abbrev pub invariant-loop-item : goal.invariant-loop-item
invariant-loop-item l = HasCopied l.copy (take l.item-index l.items)
