-- What an edit makes of items in the order of their keys (on-disk format, "B-tree").
use Rattle.std.specs.Prelude.{⊤, ℕ, ◌≤◌, Bool, not, List, [], ◌∷◌, length, IsTrue, if◌then◌else◌}
use Rattle.std.specs.List.{filter, list_any}
use Rattle.std.specs.Ordering.{is_lt}
use Rattle.qg_num.specs.Key.{key_cmp}
use Rattle.qg_num.specs.declared.key.Key.{Key}
use Rattle.qg_node.specs.declared.item.Item.{Item}
use Rattle.qg_image.specs.IsShaped.{same_key}
use Rattle.qg_edit.specs.declared.edit.Edit.{Edit}
use Rattle.qg_edit.specs.declared.edit.Change.{Change}
use Rattle.qg_edit.specs.declared.edit.Change.TheVariants.{Insert, Replace, Remove, Clear}

-- an item has a key
abbrev pub has_key : Key → List Item → Bool
has_key key items = list_any (λ item. same_key item.key key) items

-- these items with one more, in its place, or in the place of the one with its key
abbrev pub with_item : Item → List Item → List Item
with_item new [] = new ∷ []
with_item new (item ∷ items) =
    if is_lt (key_cmp item.key new.key) then item ∷ with_item new items
    else (if same_key item.key new.key then new ∷ items else new ∷ item ∷ items)

-- these items without the one that has a key
abbrev pub without_key : Key → List Item → List Item
without_key key items = filter (λ item. not (same_key item.key key)) items

-- what a change under a key makes of a leaf's items
abbrev pub changed : Key → Change → List Item → List Item
changed key (Insert body) items = with_item (record { key = key; body = body }) items
changed key (Replace body) items = with_item (record { key = key; body = body }) items
changed key Remove items = without_key key items
changed key Clear items = []

-- what a change relies on: no item has the key of one that is put in, and one has it that is replaced or taken out
abbrev pub CanChange : Key → Change → List Item → Type 0
CanChange key (Insert body) items = IsTrue (not (has_key key items))
CanChange key (Replace body) items = IsTrue (has_key key items)
CanChange key Remove items = IsTrue (has_key key items)
CanChange key Clear items = ⊤

-- a new body has 1024 bytes at most
abbrev pub IsShort : Change → Type 0
IsShort (Insert body) = length body ≤ 1024
IsShort (Replace body) = length body ≤ 1024
IsShort Remove = ⊤
IsShort Clear = ⊤

-- how many nodes more an edit may make of one
abbrev pub growth_of : Change → ℕ
growth_of (Insert body) = 1
growth_of (Replace body) = 1
growth_of Remove = 0
growth_of Clear = 0

-- what an edit makes of items
abbrev pub edited : Edit → List Item → List Item
edited edit items = changed edit.key edit.change items

-- an edit can be made of items
abbrev pub CanEdit : Edit → List Item → Type 0
CanEdit edit items = CanChange edit.key edit.change items
