use Rattle.std.proofs.Common.{◌≡◌, drop}
use Rattle.qg_image.specs.Table.{value_at}
use Rattle.qg_tree_items.proofs.roots.root_of.Given as goal

abbrev pub invariant-loop-part : goal.invariant-loop-part
invariant-loop-part l = value_at l.tree l.parts ≡ value_at l.tree (drop l.part-index l.parts)
