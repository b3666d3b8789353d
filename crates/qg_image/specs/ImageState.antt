-- What an image holds, read from its roots down (this project's own). Of an image that is not sound these words say
-- nothing of use.
use Rattle.std.specs.Prelude.{◌≡◌, ℕ, ◌+◌, ◌/◌, ◌%◌, Bool, false, ◌&&◌, List, [], ◌++◌, map, Option, Some, None, Result}
use Rattle.std.specs.Prelude.{Ok, Err, slice_range, ◌==◌, nat_lt, unwrap_or}
use Rattle.std.specs.Bool.{then_some}
use Rattle.std.specs.List.{list_any, filter, filter_map, flat_map, fold}
use Rattle.std.specs.Option.{option_map, option_and_then}
use Rattle.qg_node.specs.declared.item.Item.{Item}
use Rattle.qg_node.specs.declared.node.Node.{Node}
use Rattle.qg_node.specs.Nodes.{header_of}
use Rattle.qg_items.specs.declared.root.RootItem.{RootItem}
use Rattle.qg_items.specs.declared.quota.QgroupInfo.{QgroupInfo}
use Rattle.qg_items.specs.declared.quota.QgroupLimit.{QgroupLimit}
use Rattle.qg_items.specs.declared.tree.TheConstants.{EXTENT_TREE, QUOTA_TREE}
use Rattle.qg_super.specs.declared.superblock.Super.{Super}
use Rattle.qg_super.specs.Places.{first_place, second_place}
use Rattle.qg_super.specs.SuperText.{super_read, choose, sizes_of}
use Rattle.qg_image.specs.Table.{value_at, with_value, keys_of}
use Rattle.qg_image.specs.declared.part.ExtentPart.{ExtentPart}
use Rattle.qg_image.specs.declared.part.ExtentPart.TheVariants.{DataRecord, NodeRecord, Referenced}
use Rattle.qg_image.specs.declared.part.QuotaPart.{QuotaPart}
use Rattle.qg_image.specs.declared.part.QuotaPart.TheVariants.{Status, Info, Limits, Relation}
use Rattle.qg_image.specs.ItemMeaning.{is_subvolume_number, root_part, extent_part, quota_part}
use Rattle.qg_image.specs.declared.file.File.{File}
use Rattle.qg_image.specs.declared.failure.Failure.{Failure}
use Rattle.qg_image.specs.declared.tree.TreeKind.{TreeKind}
use Rattle.qg_image.specs.declared.tree.TreeKind.TheVariants.{Roots, Extents, Quotas, Files}
use Rattle.qg_image.specs.declared.expected.Expected.{Expected}
use Rattle.qg_image.specs.Walk.{root_expected, root_told, node_found}
use Rattle.qg_image.specs.ItemsUnder.{items_under, nodes_under}
use Rattle.qg_image.specs.declared.quota.Group.{Group}
use Rattle.qg_image.specs.declared.quota.Quota.{Quota}
use Rattle.qg_image.specs.State.{State, Subvolume, Placed, Committed, blank_state, blank_subvolume, blank_quota}
use Rattle.qg_image.specs.Members.{level_of_group}
use Rattle.qg_image.specs.Space.{present_extents}
use Rattle.qg_image.specs.FilesOf.{files_told}

-- ---- superblocks

-- the superblock that an image has at a place of 4096 bytes
abbrev pub super_in : List ℕ → ℕ → Option Super
super_in image place = super_read place (slice_range image place (place + 4096))

-- the one that counts
unfoldable pub super_of : List ℕ → Option Super
super_of image = choose (super_in image first_place) (super_in image second_place)

-- ---- trees

-- the level of the node at an address of the image
abbrev pub level_in : Super → List ℕ → ℕ → ℕ
level_in super image address = level_told (node_found super image address) where
  level_told : Result Node Failure → ℕ
  level_told (Err failure) = 0
  level_told (Ok node) = (header_of node).level

-- the items of a tree, by what is expected of its root and the root's address
unfoldable pub tree_items : TreeKind → Super → List ℕ → Expected → ℕ → List Item
tree_items tree super image expected root =
    unwrap_or (items_under tree super (node_found super image) (level_in super image root) expected root) []

-- the nodes of a tree, by the same
unfoldable pub tree_nodes : TreeKind → Super → List ℕ → Expected → ℕ → List Node
tree_nodes tree super image expected root =
    unwrap_or (nodes_under tree super (node_found super image) (level_in super image root) expected root) []

-- the items of the root tree
abbrev pub root_items : Super → List ℕ → List Item
root_items super image = tree_items Roots super image (root_expected None None) super.root

-- the nodes of the root tree
abbrev pub root_nodes : Super → List ℕ → List Node
root_nodes super image = tree_nodes Roots super image (root_expected None None) super.root

-- the trees by number, with their ROOT_ITEMs
unfoldable pub roots_in : Super → List ℕ → List (ℕ × RootItem)
roots_in super image = filter_map root_part (root_items super image)

-- the ROOT_ITEMs of subvolumes
abbrev pub subvolume_roots : List (ℕ × RootItem) → List (ℕ × RootItem)
subvolume_roots roots = filter (λ entry. is_subvolume_number entry.0) roots

-- the items of a tree by its ROOT_ITEM
abbrev pub items_of_root : TreeKind → Super → List ℕ → RootItem → List Item
items_of_root tree super image root = tree_items tree super image (root_told root) root.bytenr

-- the nodes of a tree by its ROOT_ITEM
abbrev pub nodes_of_root : TreeKind → Super → List ℕ → RootItem → List Node
nodes_of_root tree super image root = tree_nodes tree super image (root_told root) root.bytenr

-- a list of a tree by its number; of a tree that is not there it is empty
abbrev pub of_tree : {A : Type 0} → (RootItem → List A) → Option RootItem → List A
of_tree list None = []
of_tree list (Some root) = list root

-- the ROOT_ITEM of the extent tree
abbrev pub extent_root : Super → List ℕ → Option RootItem
extent_root super image = value_at EXTENT_TREE (roots_in super image)

-- the ROOT_ITEM of the quota tree, which is there while quota is on
abbrev pub quota_root : Super → List ℕ → Option RootItem
quota_root super image = value_at QUOTA_TREE (roots_in super image)

-- what the items of the extent tree say
unfoldable pub extent_parts : Super → List ℕ → List ExtentPart
extent_parts super image =
    filter_map extent_part (of_tree (items_of_root Extents super image) (extent_root super image))

-- what the items of the quota tree say
unfoldable pub quota_parts : Super → List ℕ → List QuotaPart
quota_parts super image = filter_map quota_part (of_tree (items_of_root Quotas super image) (quota_root super image))

-- ---- the layout

-- the record of a node has the flag FULL_BACKREF, the bit of 256; its other flags are judged by the rule `refs`
abbrev pub is_full_record : ℕ → ExtentPart → Bool
is_full_record address (DataRecord other bytes extent) = false
is_full_record address (NodeRecord other level extent) = (other == address) && (extent.flags / 256 % 2 == 1)
is_full_record address (Referenced other reference count) = false

-- the node, with what the extent tree says of it
abbrev pub placed : List ExtentPart → Node → Placed
placed parts node = record { node = node; full = list_any (is_full_record (header_of node).address) parts }

-- the nodes of all subvolumes by address
unfoldable pub layout_in : Super → List ℕ → List (ℕ × Placed)
layout_in super image =
    fold (λ layout node. with_value (header_of node).address (placed (extent_parts super image) node) layout) []
    (flat_map (λ entry. nodes_of_root Files super image entry.1) (subvolume_roots (roots_in super image)))

-- ---- subvolumes

-- the subvolume with these files and this ROOT_ITEM
abbrev pub subvolume_told : List (ℕ × File) → RootItem → Subvolume
subvolume_told files root = record (blank_subvolume root.bytenr) { files = files; last_snapshot = root.last_snapshot }

-- the subvolume with this ROOT_ITEM
abbrev pub subvolume_in : Super → List ℕ → RootItem → Subvolume
subvolume_in super image root =
    subvolume_told (files_told super.generation (items_of_root Files super image root)) root

-- the subvolumes by number
unfoldable pub subvolumes_in : Super → List ℕ → List (ℕ × Subvolume)
subvolumes_in super image = map (λ entry. (entry.0, subvolume_in super image entry.1))
    (subvolume_roots (roots_in super image))

-- ---- quota

-- a group's counters, where the item tells them
abbrev pub info_told : QuotaPart → Option (ℕ × QgroupInfo)
info_told (Status status) = None
info_told (Info group info) = Some (group, info)
info_told (Limits group limit) = None
info_told (Relation group other) = None

-- a group's limits, where the item tells them
abbrev pub limit_told : QuotaPart → Option (ℕ × QgroupLimit)
limit_told (Status status) = None
limit_told (Info group info) = None
limit_told (Limits group limit) = Some (group, limit)
limit_told (Relation group other) = None

-- a relation, told where the group of lesser level comes first: that is the member
abbrev pub pair_told : QuotaPart → Option (ℕ × ℕ)
pair_told (Status status) = None
pair_told (Info group info) = None
pair_told (Limits group limit) = None
pair_told (Relation group other) = then_some (nat_lt (level_of_group group) (level_of_group other)) (group, other)

-- a limit on referenced bytes is set where flag 1 is
abbrev pub max_rfer_told : QgroupLimit → Option ℕ
max_rfer_told limit = then_some (limit.flags % 2 == 1) limit.max_rfer

-- a limit on exclusive bytes is set where flag 2 is
abbrev pub max_excl_told : QgroupLimit → Option ℕ
max_excl_told limit = then_some (limit.flags / 2 % 2 == 1) limit.max_excl

-- the group with these counters and limits
abbrev pub group_told : QgroupInfo → Option QgroupLimit → Group
group_told info limit = record {
  counters = record { rfer = info.rfer; excl = info.excl };
  max_rfer = option_and_then max_rfer_told limit;
  max_excl = option_and_then max_excl_told limit;
  stamp = info.generation;
}

-- the groups and relations that items tell
unfoldable pub quota_told : List QuotaPart → Quota
quota_told parts = record blank_quota {
  groups = map (λ entry. (entry.0, group_told entry.1 (value_at entry.0 (filter_map limit_told parts))))
      (filter_map info_told parts);
  pairs = filter_map pair_told parts;
}

-- quota is on where the quota tree is there
abbrev pub quota_in : Super → List ℕ → Option Quota
quota_in super image = option_map (λ root. quota_told (quota_parts super image)) (quota_root super image)

-- ---- the state

-- the nodes of the root, extent and quota trees
abbrev pub other_nodes : Super → List ℕ → List Node
other_nodes super image =
    root_nodes super image ++ of_tree (nodes_of_root Extents super image) (extent_root super image)
    ++ of_tree (nodes_of_root Quotas super image) (quota_root super image)

-- where nodes lie, in bytes
abbrev pub addresses_of : List Node → List ℕ
addresses_of nodes = map (λ node. (header_of node).address) nodes

-- what a commit of a state holds, its root, extent and quota trees having these nodes
abbrev pub committed_by : List Node → State → Committed
committed_by others state = record {
  nodes = addresses_of others ++ keys_of state.layout;
  others = others;
  extents = present_extents state;
}

-- the same state, holding what a commit of it holds
abbrev pub as_committed : List Node → State → State
as_committed others state = record state { held = committed_by others state }

-- the state of the image with this superblock: nothing is pending, and the last commit is the state itself
unfoldable pub state_in : Super → List ℕ → State
state_in super image = as_committed (other_nodes super image) (record (blank_state (sizes_of super)) {
  generation = super.generation;
  subvolumes = subvolumes_in super image;
  layout = layout_in super image;
  quota = quota_in super image;
})
