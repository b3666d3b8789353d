use Rattle.std.proofs.Common.{◌≡◌, true, take}
use Rattle.std.specs.List.{filter_map, list_all}
use Rattle.qg_image.specs.ItemMeaning.{quota_part}
use Rattle.qg_image.specs.declared.tree.TreeKind.TheVariants.{Quotas}
use Rattle.qg_image.specs.Walk.{is_item_of}
use Rattle.qg_quota.proofs.state.parts_in.Given as goal

abbrev pub invariant-loop-item : goal.invariant-loop-item
invariant-loop-item l = record {
  allowed : list_all (is_item_of Quotas l.generation) (take l.item-index l.items) ≡ true;
  parts : l.parts ≡ filter_map quota_part (take l.item-index l.items);
}
