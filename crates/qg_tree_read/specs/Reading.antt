-- What is read of some items in the order of their keys (on-disk format, "B-tree").
use Rattle.std.specs.Prelude.{ℕ, Bool, ◌&&◌, not, List, [], ◌∷◌, filter, Option, Some, None, if◌then◌else◌}
use Rattle.std.specs.Ordering.{is_lt}
use Rattle.qg_num.specs.Key.{key_cmp}
use Rattle.qg_num.specs.declared.key.Key.{Key}
use Rattle.qg_node.specs.declared.item.Item.{Item}
use Rattle.qg_blocks.specs.IsShaped.{same_key}

-- the body under a key, if an item has it
abbrev pub body_at : Key → List Item → Option (List ℕ)
body_at key [] = None
body_at key (item ∷ items) = if same_key item.key key then Some item.body else body_at key items

-- a key is not greater than another
abbrev pub is_upto : Key → Key → Bool
is_upto to key = not (is_lt (key_cmp to key))

-- the last of some items, or else this one
abbrev pub last_or : Option Item → List Item → Option Item
last_or other [] = other
last_or other (item ∷ items) = last_or (Some item) items

-- the last item whose key is not greater than another
abbrev pub last_upto : Key → List Item → Option Item
last_upto to items = last_or None (filter (λ item. is_upto to item.key) items)

-- a key is neither less than one nor greater than another
abbrev pub is_within : Key → Key → Key → Bool
is_within from to key = not (is_lt (key_cmp key from)) && is_upto to key

-- the items from one key to another, both included, in their order
abbrev pub items_within : Key → Key → List Item → List Item
items_within from to items = filter (λ item. is_within from to item.key) items

-- those from a key on, where one is told from which there may be more
abbrev pub rest_within : Option Key → Key → List Item → List Item
rest_within None to items = []
rest_within (Some from) to items = items_within from to items
