use Rattle.std.proofs.Common.{length}
use Rattle.std.specs.List.{All}
use Rattle.qg_node.specs.Fits.{PointerFits}
use Rattle.qg_tree_layout.proofs.Growing.{IsGrowing}
use Rattle.qg_tree_layout.proofs.row.put_row.Given as goal

abbrev pub invariant-left : goal.invariant-left
invariant-left g l = record {
  growing : IsGrowing g.T.Part.own g.T.Weighed.weight l.level.nodesize l.level.owner l.level.generation l.level.level
      l.slots l.parts l.left l.weight l.initial.nodes l.nodes l.pointers;
  left_fit : All g.T.Part.fits l.left;
  fit : All PointerFits l.pointers;
}

abbrev pub decreases-left : goal.decreases-left
decreases-left g l = length l.left
