-- The extent tree's leaf of a fresh image, and the calls that write one. All was worked out by hand.
use Rattle.std.specs.Prelude.{◌≡◌, ℕ, ◌-◌, List, [], ◌∷◌, ◌++◌, refl}
use Rattle.qg_num.specs.Fields.{u64_bytes, u32_bytes, zeros}
use Rattle.qg_device.specs.History.{Event, Wrote, Cut, Synced}
use Rattle.qg_node.specs.NodeText.{bodies, covered_text, header_text, item_headers, leaf_text, node_text}
use Rattle.qg_items.specs.ItemText.{extent_text}
use Rattle.qg_super.specs.declared.sizes.Sizes.{Sizes}
use Rattle.qg_super.specs.Places.{first_place, second_place, sector, slot_at, total_bytes}
use Rattle.qg_super.specs.SuperText.{super_text}
use Rattle.qg_image.specs.IsFresh.{fresh_leaf}
use Rattle.qg_extents.specs.Examples.{eight, four}
use Rattle.qg_commit.specs.Calls.{with_image}
use Rattle.qg_commit.specs.Fresh.{extent_items, fresh_nodes, fresh_super, quota_items, root_items}

-- ---- the leaf of an image of 16384 bytes a node, in the second slot: what its checksum covers

-- 1064960, the second slot, and 1081344, the third
abbrev second_slot : List ℕ
second_slot = 0 ∷ 0x40 ∷ 0x10 ∷ 0 ∷ 0 ∷ 0 ∷ 0 ∷ 0 ∷ []

abbrev third_slot : List ℕ
third_slot = 0 ∷ 0x80 ∷ 0x10 ∷ 0 ∷ 0 ∷ 0 ∷ 0 ∷ 0 ∷ []

-- fsid, the address, flags and the chunk tree's uuid, generation 1, owner 2, two items, level 0
abbrev header : List ℕ
header = zeros 16 ++ second_slot ++ zeros 24 ++ eight 1 ++ eight 2 ++ four 2 ++ 0 ∷ []

-- the root's record: METADATA_ITEM 169 of level 0, whose body of 24 bytes ends with the node, 16283 bytes behind the
-- header; and TREE_BLOCK_REF 176 of subvolume 5, with no body
abbrev headers : List ℕ
headers =
    third_slot ++ 169 ∷ eight 0 ++ (0x83 ∷ 0x3f ∷ 0 ∷ 0 ∷ []) ++ four 24
    ++ third_slot ++ 176 ∷ eight 5 ++ (0x83 ∷ 0x3f ∷ 0 ∷ 0 ∷ []) ++ four 0

-- one reference, generation 1, TREE_BLOCK
abbrev body : List ℕ
body = eight 1 ++ eight 1 ++ eight 2

leaf-bytes : covered_text 16384 (fresh_leaf 2 1064960 (extent_items 1081344)) ≡ header ++ headers
    ++ (zeros 16209 ++ body)
unfolding covered_text header_text leaf_text item_headers bodies extent_text u64_bytes u32_bytes
leaf-bytes = refl

-- ---- the calls: the disk is cut and its last sector written, then the four leaves, and then the superblocks

fresh-calls : (sizes : Sizes) (before : List Event)
    → with_image (fresh_super sizes (slot_at sizes 0)) (fresh_nodes sizes) before
    ≡ Synced
    ∷ Wrote second_place (super_text second_place (fresh_super sizes (slot_at sizes 0)))
    ∷ Synced
    ∷ Wrote first_place (super_text first_place (fresh_super sizes (slot_at sizes 0)))
    ∷ Synced
    ∷ Wrote (slot_at sizes 3) (node_text sizes.nodesize (fresh_leaf 8 (slot_at sizes 3) (quota_items sizes.nodesize)))
    ∷ Wrote (slot_at sizes 2) (node_text sizes.nodesize (fresh_leaf 5 (slot_at sizes 2) []))
    ∷ Wrote (slot_at sizes 1)
    (node_text sizes.nodesize (fresh_leaf 2 (slot_at sizes 1) (extent_items (slot_at sizes 2))))
    ∷ Wrote (slot_at sizes 0) (node_text sizes.nodesize (fresh_leaf 1 (slot_at sizes 0)
    (root_items (slot_at sizes 1) (slot_at sizes 2) (slot_at sizes 3))))
    ∷ Wrote (total_bytes sizes - sector) (zeros sector)
    ∷ Cut 0
    ∷ before
fresh-calls sizes before = refl
