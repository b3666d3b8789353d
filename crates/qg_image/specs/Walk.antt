-- The walk of one tree, depth first, children in order, each node judged before its children (this project's own).
use Rattle.std.specs.Prelude.{ℕ, zero, suc, ◌+◌, ◌-◌, Bool, true, false, ◌&&◌, not, List, [], ◌∷◌, Option, Some, None}
use Rattle.std.specs.Prelude.{Result, Ok, Err, slice_range, ◌==◌, nat_le, nat_lt}
use Rattle.std.specs.List.{list_all}
use Rattle.std.specs.Ordering.{is_lt}
use Rattle.qg_num.specs.Key.{key_cmp}
use Rattle.qg_num.specs.declared.key.Key.{Key}
use Rattle.qg_num.specs.declared.rule.Rule.TheVariants as rule
use Rattle.qg_node.specs.declared.fault.NodeFault.{NodeFault}
use Rattle.qg_node.specs.declared.item.Item.{Item}
use Rattle.qg_node.specs.declared.pointer.Pointer.{Pointer}
use Rattle.qg_node.specs.declared.node.Node.{Node}
use Rattle.qg_node.specs.Nodes.{header_of, own_items, own_keys, own_pointers}
use Rattle.qg_node.specs.Reading.{node_read}
use Rattle.qg_items.specs.declared.root.RootItem.{RootItem}
use Rattle.qg_items.specs.declared.tree.TheConstants.{ROOT_TREE, EXTENT_TREE, QUOTA_TREE}
use Rattle.qg_super.specs.declared.superblock.Super.{Super}
use Rattle.qg_super.specs.Places.{is_slot}
use Rattle.qg_super.specs.SuperText.{sizes_of}
use Rattle.qg_image.specs.IsShaped.{same_key, is_shaped}
use Rattle.qg_image.specs.declared.part.QuotaPart.{QuotaPart}
use Rattle.qg_image.specs.declared.part.QuotaPart.TheVariants.{Status, Info, Limits, Relation}
use Rattle.qg_image.specs.ItemMeaning.{some_passes, is_subvolume_number, root_part, root_part_stamps, extent_part}
use Rattle.qg_image.specs.ItemMeaning.{extent_part_stamps, quota_part, quota_part_stamps}
use Rattle.qg_image.specs.FilesOf.{is_file_item}
use Rattle.qg_image.specs.declared.failure.Failure.{Failure}
use Rattle.qg_image.specs.declared.failure.Failure.TheVariants.{Broken}
use Rattle.qg_image.specs.declared.tree.TreeKind.{TreeKind}
use Rattle.qg_image.specs.declared.tree.TreeKind.TheVariants.{Roots, Extents, Quotas, Files}
use Rattle.qg_image.specs.declared.expected.Expected.{Expected}
use Rattle.qg_image.specs.Failure.{unless, first_failure}
use Rattle.qg_node.specs.Rules.{rule_of}

-- ---- what a tree may hold

-- a node of the tree may have this owner
abbrev pub is_owner : TreeKind → ℕ → Bool
is_owner Roots owner = owner == ROOT_TREE
is_owner Extents owner = owner == EXTENT_TREE
is_owner Quotas owner = owner == QUOTA_TREE
is_owner Files owner = is_subvolume_number owner

-- no generation is past this one
abbrev pub are_by : ℕ → List ℕ → Bool
are_by generation stamps = list_all (λ stamp. nat_le stamp generation) stamps

-- the state of quota tells the superblock's generation
abbrev pub tells_generation : ℕ → QuotaPart → Bool
tells_generation generation (Status status) = status.generation == generation
tells_generation generation (Info group info) = true
tells_generation generation (Limits group limit) = true
tells_generation generation (Relation group other) = true

-- the tree may hold this item in an image of this generation
unfoldable pub is_item_of : TreeKind → ℕ → Item → Bool
is_item_of Roots generation item = some_passes (λ part. are_by generation (root_part_stamps part)) (root_part item)
is_item_of Extents generation item = some_passes (λ part. are_by generation (extent_part_stamps part))
    (extent_part item)
is_item_of Quotas generation item =
    some_passes (λ part. are_by generation (quota_part_stamps part) && tells_generation generation part)
    (quota_part item)
is_item_of Files generation item = is_file_item generation item

-- ---- what a walk expects of a node

-- a number is the one that was told, if one was
abbrev pub is_told : Option ℕ → ℕ → Bool
is_told None n = true
is_told (Some told) n = told == n

-- the first of the keys is the pointer's, and none is less
abbrev pub begins_at : Option Key → List Key → Bool
begins_at None keys = true
begins_at (Some from) [] = true
begins_at (Some from) (key ∷ keys) = same_key key from && list_all (λ later. not (is_lt (key_cmp later from))) keys

-- each key is less than the next one on the way
abbrev pub ends_before : Option Key → List Key → Bool
ends_before None keys = true
ends_before (Some to) keys = list_all (λ key. is_lt (key_cmp key to)) keys

-- a generation that a node may have
abbrev pub is_generation : ℕ → Option ℕ → ℕ → Bool
is_generation last told generation = is_told told generation && nat_lt 0 generation && nat_le generation last

-- the rules on a node that was read which say that the way to it is right, in their order
unfoldable pub way_failure : TreeKind → Super → Expected → ℕ → Node → Option Failure
way_failure tree super expected address node = first_failure
    (unless (is_told expected.level (header_of node).level) rule.Depth address
    ∷ unless (is_owner tree (header_of node).owner) rule.Owner address
    ∷ unless (is_generation super.generation expected.generation (header_of node).generation) rule.Gen address
    ∷ unless (begins_at expected.from (own_keys node) && ends_before expected.to (own_keys node)) rule.Range address
    ∷ [])

-- the rule on its shape
abbrev pub shape_failure : ℕ → Expected → ℕ → Node → Option Failure
shape_failure nodesize expected address node = unless (is_shaped nodesize expected.from node) rule.Shape address

-- all rules on a node that was read, in their order
unfoldable pub node_failure : TreeKind → Super → Expected → ℕ → Node → Option Failure
node_failure tree super expected address node = first_failure
    (way_failure tree super expected address node
    ∷ shape_failure super.nodesize expected address node
    ∷ unless (list_all (is_item_of tree super.generation) (own_items node)) rule.Item address
    ∷ [])

-- ---- the walk

-- what was read at an address, or the rule that its bytes break
abbrev pub read_there : ℕ → Result Node NodeFault → Result Node Failure
read_there address (Ok node) = Ok node
read_there address (Err fault) = Err (Broken (rule_of fault) address)

-- what stands at an address, if it is that of a slot
abbrev pub in_slot : Bool → ℕ → Result Node NodeFault → Result Node Failure
in_slot true address read = read_there address read
in_slot false address read = Err (Broken rule.Slot address)

-- what stands at an address of an image: a node, or the first rule that is broken there
unfoldable pub node_found : Super → List ℕ → ℕ → Result Node Failure
node_found super image address =
    in_slot (is_slot (sizes_of super) address) address
    (node_read address (slice_range image address (address + super.nodesize)))

-- the key of the first pointer, or else the one on the way
abbrev pub next_key : Option Key → List Pointer → Option Key
next_key to [] = to
next_key to (pointer ∷ pointers) = Some pointer.key

-- the first failure under pointers, in their order
abbrev pub pointers_failure : (Expected → ℕ → Option Failure) → ℕ → Option Key → List Pointer → Option Failure
pointers_failure walk level to [] = None
pointers_failure walk level to (pointer ∷ pointers) = first_failure
    (walk (record {
      level = Some level;
      generation = Some pointer.generation;
      from = Some pointer.key;
      to = next_key to pointers;
    }) pointer.child
    ∷ pointers_failure walk level to pointers
    ∷ [])

-- the first failure at a node and below it, where `judge` tells the rule that a node breaks
abbrev pub found_failure : (Expected → ℕ → Node → Option Failure) → (Expected → ℕ → Option Failure) → Expected → ℕ
    → Result Node Failure → Option Failure
found_failure judge walk expected address (Err failure) = Some failure
found_failure judge walk expected address (Ok node) = first_failure
    (judge expected address node
    ∷ pointers_failure walk ((header_of node).level - 1) expected.to (own_pointers node)
    ∷ [])

-- the first failure of the walk from an address down, so many levels deep at most, where `found` tells what stands at
-- an address
unfoldable pub walk_failure : (Expected → ℕ → Node → Option Failure) → (ℕ → Result Node Failure) → ℕ → Expected → ℕ
    → Option Failure
walk_failure judge found zero expected address = found_failure judge (λ expected address. None) expected address
    (found address)
walk_failure judge found (suc depth) expected address =
    found_failure judge (walk_failure judge found depth) expected address (found address)

-- the greatest level of a node
abbrev pub deepest : ℕ
deepest = 7

-- ---- a tree

-- what is expected of a root: its level and generation, where they are told
abbrev pub root_expected : Option ℕ → Option ℕ → Expected
root_expected level generation = record { level = level; generation = generation; from = None; to = None }

-- what its ROOT_ITEM tells of it
abbrev pub root_told : RootItem → Expected
root_told root = root_expected (Some root.level) (Some root.generation)

-- the first failure of a tree whose root lies at an address
unfoldable pub tree_failure : TreeKind → Super → List ℕ → Expected → ℕ → Option Failure
tree_failure tree super image expected address =
    walk_failure (node_failure tree super) (node_found super image) deepest expected address
