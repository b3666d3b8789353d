use Rattle.std.proofs.Common.{◌≡◌, ◌++◌, take}
use Rattle.std.specs.List.{flat_map}
use Rattle.qg_image.specs.ItemMeaning.{file_part}
use Rattle.qg_image.specs.Owed.{owed_by_part}
use Rattle.qg_backref_rule.specs.OwedLists.{owings_told}
use Rattle.qg_backref_rule.proofs.collect.owings_of_items.Given as goal

abbrev pub invariant-loop-item : goal.invariant-loop-item
invariant-loop-item l = owings_told l.owings.items ≡ owings_told l.initial.owings.items
    ++ flat_map (λ item. owed_by_part l.header l.full (file_part item)) (take l.item-index l.items)
