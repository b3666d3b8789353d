use Rattle.std.proofs.Common.{◌≡◌, length}
use Rattle.std.specs.List.{All}
use Rattle.qg_node.specs.Fits.{PointerFits}
use Rattle.qg_tree_layout.proofs.LevelsStacked.{HasLevels}
use Rattle.qg_tree_layout.proofs.building.build.Given as goal

abbrev pub invariant-levels : goal.invariant-levels
invariant-levels l = record {
  size : l.level.nodesize ≡ l.fn.nodesize;
  owned : l.level.owner ≡ l.fn.owner;
  made : l.level.generation ≡ l.fn.next;
  fit : All PointerFits l.pointers;
  levels : HasLevels l.fn.nodesize l.fn.owner l.fn.next l.items l.slots l.nodes l.level.level l.pointers;
}

abbrev pub decreases-levels : goal.decreases-levels
decreases-levels l = length l.pointers
