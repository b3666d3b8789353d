-- How much a file command touches: what its work, and that of the commit after it, may grow with (this project's own).
-- The number of references counts each reference once, whatever its count.
use Rattle.std.specs.Prelude.{ℕ, ◌+◌, Bool, true, false, ◌&&◌, not, List, ◌++◌, map, ◌==◌, nat_lt, bytes_eq}
use Rattle.std.specs.Prelude.{if◌then◌else◌}
use Rattle.std.specs.List.{list_any, filter, flat_map, count_by, sum_by}
use Rattle.qg_node.specs.declared.item.Item.{Item}
use Rattle.qg_image.specs.Table.{value_at, keys_of, number_set}
use Rattle.qg_image.specs.IsShaped.{same_key}
use Rattle.qg_image.specs.ItemMeaning.{some_passes}
use Rattle.qg_image.specs.State.{State, Layout, layout_of, node_at}
use Rattle.qg_image.specs.Reach.{reach, reaches}
use Rattle.qg_image.specs.Owed.{owed, owed_to, owed_count}
use Rattle.qg_machine.specs.FileChange.{FileChange}
use Rattle.qg_machine.specs.Near.{distinct_references, items_in, references_at}

-- ---- a subvolume's tree

-- the items of a subvolume's tree: those of the leaves that it reaches
unfoldable pub tree_items : Layout → ℕ → List Item
tree_items layout sub = flat_map (λ element. items_in (node_at layout.nodes element.address)) (reach layout sub)

-- two items have one key and one body
abbrev pub same_item : Item → Item → Bool
same_item a b = same_key a.key b.key && bytes_eq a.body b.body

-- how many items are removed, changed or added, each key once
abbrev pub items_changed : List Item → List Item → ℕ
items_changed before after =
    count_by (λ item. not (list_any (same_item item) after)) before
    + count_by (λ item. not (list_any (λ was. same_key was.key item.key) before)) after

-- how many nodes of one layout a subvolume reaches there, and not in another
unfoldable pub nodes_only_in : Layout → Layout → ℕ → ℕ
nodes_only_in layout other sub =
    count_by (λ node. reaches layout sub node && not (reaches other sub node)) (keys_of layout.nodes)

-- ---- what is owed

-- a node lies at an address, and is full
abbrev pub is_full_at : Layout → ℕ → Bool
is_full_at layout address = some_passes (λ placed. placed.full) (value_at address layout.nodes)

-- one of two holds, and the other doesn't
abbrev pub differ : Bool → Bool → Bool
differ true b = not b
differ false b = b

-- how many references to what begins at an address are owed in another count, and one more where its full mark changes
unfoldable pub owing_changed : Layout → Layout → ℕ → ℕ
owing_changed before after address =
    count_by (λ reference. not (owed_count before address reference == owed_count after address reference))
    (distinct_references (owed_to before address ++ owed_to after address))
    + (if differ (is_full_at before address) (is_full_at after address) then 1 else 0)

-- the addresses of nodes and of what something is owed to, in either layout, each once
unfoldable pub addresses_owed : Layout → Layout → List ℕ
addresses_owed before after =
    number_set (keys_of before.nodes ++ keys_of after.nodes ++ map (λ owing. owing.address) (owed before ++ owed after))

-- ---- all of it

-- What a file command touches, between the state before it and the layout after it: the pieces that it meets; the items
-- of its subvolume's tree that change; the nodes that the subvolume gains and loses; the references and full marks that
-- change; and for each node or extent with such a change the references to it, before or at the last commit
unfoldable pub touched : State → FileChange → Layout → ℕ
touched state change after =
    let before = layout_of state in
    let addresses = addresses_owed before after in
    change.pieces
    + items_changed (tree_items before change.sub) (tree_items after change.sub)
    + nodes_only_in before after change.sub + nodes_only_in after before change.sub
    + sum_by (owing_changed before after) addresses
    + sum_by (references_at state) (filter (λ address. nat_lt 0 (owing_changed before after address)) addresses)
