use Rattle.std.proofs.Common.{◌≡◌, true, take}
use Rattle.std.specs.List.{list_all}
use Rattle.qg_image.specs.Walk.{is_item_of}
use Rattle.qg_walk.specs.Added.{AddsSaid}
use Rattle.qg_walk.proofs.items.add_said.Given as goal

abbrev pub invariant-loop-item : goal.invariant-loop-item
invariant-loop-item g l = record {
  held : list_all (is_item_of g.P.TreePart.tree l.generation) (take l.item-index l.items) ≡ true;
  said : AddsSaid g.P.TreePart.meaning (take l.item-index l.items) (g.L.PartList.list l.initial.parts)
      (g.L.PartList.list l.parts);
}
