-- How many node slots a command needs, so that no commit ever wants one (this project's own). Weights are in bytes, the
-- rest in slots.
use Rattle.std.specs.Prelude.{ℕ, ◌+◌, ◌-◌, ◌*◌, ◌/◌, ◌≤◌, List, [], ◌∷◌, ◌++◌, length, map, Option, Some, None}
use Rattle.std.specs.Prelude.{if◌then◌else◌}
use Rattle.std.specs.List.{filter_map, flat_map, sum_by}
use Rattle.qg_items.specs.declared.tree.TheConstants.{EXTENT_TREE, QUOTA_TREE}
use Rattle.qg_node.specs.Nodes.{header_of, own_items}
use Rattle.qg_super.specs.Places.{capacity}
use Rattle.qg_image.specs.Table.{keys_of}
use Rattle.qg_image.specs.declared.file.File.{File}
use Rattle.qg_image.specs.Record.{Record, RootOf, ExtentOf, NodeOf, ReferenceTo, Status, InfoOf, LimitOf, RelationOf}
use Rattle.qg_image.specs.Record.{record_named, records_bytes}
use Rattle.qg_image.specs.declared.quota.Quota.{Quota}
use Rattle.qg_image.specs.State.{State, Layout, Accepted, Committed, layout_of, subvolume_numbers}
use Rattle.qg_image.specs.Owed.{owed, layout_extents}
use Rattle.qg_image.specs.Space.{free_slots}

-- ---- what the root, extent and quota trees would name if a commit came now

-- what the quota tree would name: that quota is on, two items for each group, and two for each relation
abbrev pub quota_records : Option Quota → List Record
quota_records None = []
quota_records (Some quota) =
    Status ∷ flat_map (λ group. InfoOf group ∷ LimitOf group ∷ []) (keys_of quota.groups)
    ++ flat_map (λ pair. RelationOf pair.0 pair.1 ∷ RelationOf pair.1 pair.0 ∷ []) quota.pairs

-- what the root tree would name: the extent tree, the subvolumes, and the quota tree while quota is on
abbrev pub root_records : State → List Record
root_records state = RootOf EXTENT_TREE ∷ map RootOf (subvolume_numbers state) ++ quota_root state.quota where
  quota_root : Option Quota → List Record
  quota_root None = []
  quota_root (Some quota) = RootOf QUOTA_TREE ∷ []

-- what the extent tree would name: the nodes, the extents, and the references to them
abbrev pub extent_records : Layout → List Record
extent_records layout =
    map (λ entry. NodeOf entry.0 (header_of entry.1.node).level) layout.nodes
    ++ map (λ extent. ExtentOf extent.address extent.bytes) (layout_extents layout)
    ++ map (λ owing. ReferenceTo owing.address owing.reference) (owed layout)

-- what all three would name
unfoldable pub present_records : State → List Record
present_records state = root_records state ++ extent_records (layout_of state) ++ quota_records state.quota

-- what the items of those trees name that the last commit holds
unfoldable pub held_records : Committed → List Record
held_records held = filter_map record_named (flat_map own_items held.others)

-- ---- weights

-- what those trees' items take that the last commit holds or a commit now would hold, each once
unfoldable pub weight : State → ℕ
weight state = records_bytes (held_records state.held ++ present_records state)

-- what a file's items take: its INODE_ITEM, and an EXTENT_DATA for each piece
abbrev pub file_bytes : File → ℕ
file_bytes file = (25 + 160) + (25 + 53) * length file.pieces

-- ---- need

-- the nodes that so many bytes fill: the least number of nodes with so much room
abbrev pub nodes_filled : ℕ → ℕ → ℕ
nodes_filled nodesize bytes = (bytes + (capacity nodesize - 1)) / capacity nodesize

-- the nodes that a file command may copy, in a tree whose root has this level, where so many pieces are touched
abbrev pub file_copies : ℕ → ℕ → ℕ
file_copies level pieces = 3 * (level + 2) * (pieces + 3)

-- the slots that a file command needs
abbrev pub file_need : State → ℕ → ℕ
file_need state copies = 10 * copies + 8 * nodes_filled state.sizes.nodesize (weight state) + 40

-- the slots that a structural command needs
abbrev pub structural_need : State → ℕ → ℕ
structural_need state copies = 10 * copies + 16 * nodes_filled state.sizes.nodesize (weight state) + 80

-- the slots that a commit of what is pending may want, for the root, extent and quota trees
abbrev pub commit_room : State → ℕ
commit_room state = 5 * nodes_filled state.sizes.nodesize (weight state) + 40

-- The slots that the commit to come may want are free behind the file command that was accepted last: those that this
-- command needed when it was accepted, less those that it may have taken; and those that a commit may want now
pub record HasReserve (state : State) (last : Accepted) : Type 0 where
  pub left : last.need - last.copies ≤ free_slots state
  pub room : commit_room state ≤ free_slots state

-- nothing is pending, or the slots that the commit to come may want are free
abbrev pub IsReserved : State → Type 0
IsReserved state = is_enough state.pending where
  is_enough : List Accepted → Type 0
  is_enough [] = Unit {0}
  is_enough (last ∷ before) = HasReserve state last
