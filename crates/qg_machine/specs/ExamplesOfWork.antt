-- How much lies near an element, what a write touches, which changes of groups are quick, and how many groups a commit
-- changes. All numbers were worked out by hand.
use Rattle.std.specs.Prelude.{◌≡◌, ℕ, true, false, List, [], ◌∷◌, ◌++◌, None, refl}
use Rattle.qg_num.specs.Fields.{u64_bytes, u16_bytes, u64_at}
use Rattle.qg_num.specs.declared.command.Command.TheVariants.{Write}
use Rattle.qg_num.specs.declared.counters.Counters.{Counters}
use Rattle.qg_items.specs.ItemText.{inode_text, extent_data_text}
use Rattle.qg_items.specs.ItemReading.{inode_read, extent_data_read}
use Rattle.qg_items.specs.declared.extent.Reference.TheVariants.{KeyedData}
use Rattle.qg_image.specs.ItemMeaning.{file_part}
use Rattle.qg_image.specs.declared.element.Element.{Element}
use Rattle.qg_image.specs.State.{Accepted, State, layout_of}
use Rattle.qg_image.specs.Reach.{pieces_of, reach_of_root, reach}
use Rattle.qg_image.specs.Members.{Hierarchy, leads, is_below, members}
use Rattle.qg_image.specs.Counts.{reach_of_group, is_reached_outside, referenced, exclusive}
use Rattle.qg_image.specs.Owed.{layout_extents, owed_by_node, owed, owed_count}
use Rattle.qg_image.specs.Need.{held_records}
use Rattle.qg_image.specs.ExamplesOfState.{state_of, groups_of, fresh, fresh-records, snapshot, diamond}
use Rattle.qg_image.specs.ExamplesOfState.{one_one, one_two, two_one, piece, piece_item}
use Rattle.qg_image.specs.ExamplesOfReferences.{leaf_of, inner_of, pointer, layout, first_file, second_file}
use Rattle.qg_machine.specs.FileChange.{FileChange}
use Rattle.qg_machine.specs.GroupChange.{groups_changed}
use Rattle.qg_machine.specs.Near.{references_owed, references_held, nodes_above, is_near_node, near_nodes}
use Rattle.qg_machine.specs.Near.{is_near_item, near, near_by}
use Rattle.qg_machine.specs.Step.{accepted, with_change}
use Rattle.qg_machine.specs.Touched.{tree_items, nodes_only_in, owing_changed, addresses_owed, touched}
use Rattle.qg_machine.specs.Work.{reads_of_look_up}
use Rattle.qg_machine.specs.Quick.{have_same_groups, is_root_alone, is_quick_snapshot, are_disjoint}
use Rattle.qg_machine.specs.Quick.{is_quick_assignment}
use Rattle.qg_machine.specs.ExamplesOfCopies.{subvolume, before, after}

-- ---- leaves that three subvolumes share: 5, its snapshot 256 and its snapshot 257 have each a root of its own above
-- the leaves 1048576 and 1064960, which 5 made

abbrev pub shared_leaves : State
shared_leaves = state_of
    ((5, subvolume 1081344 (first_file ∷ second_file ∷ []))
    ∷ (256, subvolume 1097728 (first_file ∷ second_file ∷ []))
    ∷ (257, subvolume 1114112 (first_file ∷ second_file ∷ []))
    ∷ [])
    (leaf_of 1048576 2 5 false (first_file ∷ [])
    ∷ leaf_of 1064960 2 5 false (second_file ∷ [])
    ∷ inner_of 1081344 2 5 false (pointer 257 1048576 2 ∷ pointer 258 1064960 2 ∷ [])
    ∷ inner_of 1097728 3 256 false (pointer 257 1048576 2 ∷ pointer 258 1064960 2 ∷ [])
    ∷ inner_of 1114112 4 257 false (pointer 257 1048576 2 ∷ pointer 258 1064960 2 ∷ [])
    ∷ [])
    [] []

abbrev pub first_extent : Element
first_extent = record { address = 67174400; bytes = 8192 }

-- one of each root
shared_leaf-references : references_owed (layout_of shared_leaves) 1048576 ≡ 3
unfolding references_owed owed owed_by_node file_part inode_read extent_data_read inode_text extent_data_text u64_bytes
    u16_bytes u64_at
shared_leaf-references = refl

shared_leaf-above : nodes_above (layout_of shared_leaves) 1048576 ≡ 1081344 ∷ 1097728 ∷ 1114112 ∷ []
unfolding nodes_above reach_of_root pieces_of file_part inode_read extent_data_read inode_text extent_data_text
    u64_bytes u16_bytes u64_at
shared_leaf-above = refl

-- three to the leaf, and one to each root
shared_leaf-near : near shared_leaves (record { address = 1048576; bytes = 16384 }) ≡ 6
unfolding near_by nodes_above near_nodes is_near_node references_owed references_held held_records owed owed_by_node
    reach reach_of_root pieces_of file_part inode_read extent_data_read inode_text extent_data_text u64_bytes u16_bytes
    u64_at
shared_leaf-near = refl

-- the extent is owed one keyed reference of 5, by the leaf's owner
shared_extent-references : references_owed (layout_of shared_leaves) 67174400 ≡ 1
unfolding references_owed owed owed_by_node file_part inode_read extent_data_read inode_text extent_data_text u64_bytes
    u16_bytes u64_at
shared_extent-references = refl

-- in the tree of 5 the leaf is near, and so is the root above it; the other leaf has no piece at a near position
shared_extent-near_nodes : near_nodes (layout_of shared_leaves) 8192 (KeyedData 5 257 0) ≡ 2
unfolding near_nodes is_near_node reach reach_of_root pieces_of file_part inode_read extent_data_read inode_text
    extent_data_text u64_bytes u16_bytes u64_at
shared_extent-near_nodes = refl

-- one to the extent, three to the leaf, one to each root, and the two near nodes
shared_extent-near : near shared_leaves first_extent ≡ 9
unfolding near_by nodes_above near_nodes is_near_node references_owed references_held held_records owed owed_by_node
    reach reach_of_root pieces_of file_part inode_read extent_data_read inode_text extent_data_text u64_bytes u16_bytes
    u64_at
shared_extent-near = refl

-- a piece whose position is less than its offset in the extent: the reference's offset is 2^64 less 4096, and the
-- extent's second half begins at position 0
behind-near : is_near_item 258 18446744073709547520 8192 (piece_item 258 (piece 0 4096 4096)) ≡ true
behind-near = refl

behind-not_near : is_near_item 258 18446744073709547520 8192 (piece_item 258 (piece 4096 4096 0)) ≡ false
behind-not_near = refl

-- ---- an inner root has nothing above it

inner_root-near : near shared_leaves (record { address = 1081344; bytes = 16384 }) ≡ 1
unfolding near_by nodes_above near_nodes is_near_node references_owed references_held held_records owed owed_by_node
    reach reach_of_root pieces_of file_part inode_read extent_data_read inode_text extent_data_text u64_bytes u16_bytes
    u64_at
inner_root-near = refl

-- ---- a reference that is gone now, but that the last commit's extent tree names

held_root-references : references_held fresh.held 1097728 ≡ 1
unfolding references_held
held_root-references = rw fresh-records refl

-- ---- how many nodes a look-up may ask for

-- 64, and 64 for each of the six that lie near the leaf
shared_leaf-look_up : reads_of_look_up shared_leaves 1048576 ≡ 448
unfolding reads_of_look_up near_by nodes_above near_nodes is_near_node references_owed references_held held_records
    owed owed_by_node reach reach_of_root pieces_of file_part inode_read extent_data_read inode_text extent_data_text
    u64_bytes u16_bytes u64_at
shared_leaf-look_up = refl

-- and of the nine near the extent, whose length is told by the piece that names it
shared_extent-look_up : reads_of_look_up shared_leaves 67174400 ≡ 640
unfolding reads_of_look_up layout_extents near_by nodes_above near_nodes is_near_node references_owed references_held
    held_records owed owed_by_node reach reach_of_root pieces_of file_part inode_read extent_data_read inode_text
    extent_data_text u64_bytes u16_bytes u64_at
shared_extent-look_up = refl

-- where nothing begins, within the extent
nothing-look_up : reads_of_look_up shared_leaves 67178496 ≡ 64
unfolding reads_of_look_up layout_extents near_by nodes_above near_nodes is_near_node references_owed references_held
    held_records owed owed_by_node reach reach_of_root pieces_of file_part inode_read extent_data_read inode_text
    extent_data_text u64_bytes u16_bytes u64_at
nothing-look_up = refl

-- ---- a write into the source of a snapshot

-- the piece that the write meets, in subvolume 5
abbrev pub write : FileChange
write = record { sub = 5; files = []; amount = 20480; pieces = 1 }

-- the root and the first leaf are exchanged for copies
write-nodes_lost : nodes_only_in (layout_of before) (layout_of after) 5 ≡ 2
unfolding nodes_only_in reach reach_of_root pieces_of file_part inode_read extent_data_read inode_text extent_data_text
    u64_bytes u16_bytes u64_at
write-nodes_lost = refl

-- the old leaf loses the reference of 5, and becomes full
write-old_leaf : owing_changed (layout_of before) (layout_of after) 1048576 ≡ 2
unfolding owing_changed owed_count owed owed_by_node file_part inode_read extent_data_read inode_text extent_data_text
    u64_bytes u16_bytes u64_at
write-old_leaf = refl

-- the old extent gets a shared reference, and keeps the keyed one
write-old_extent : owing_changed (layout_of before) (layout_of after) 67174400 ≡ 1
unfolding owing_changed owed_count owed owed_by_node file_part inode_read extent_data_read inode_text extent_data_text
    u64_bytes u16_bytes u64_at
write-old_extent = refl

-- 1 piece is met; the first piece changes and a second one comes; 2 nodes go and 2 come; 7 references and marks change:
-- 2 at the old leaf, and 1 at the old root, the new root, the new leaf, the old extent and the new one; and before
-- there were 2 references to the old leaf, 1 to the old root and 1 to the old extent
write-touched : touched before write (layout_of after) ≡ 18
unfolding touched tree_items nodes_only_in owing_changed addresses_owed references_owed references_held held_records
    owed_count owed owed_by_node reach reach_of_root pieces_of file_part inode_read extent_data_read inode_text
    extent_data_text u64_bytes u16_bytes u64_at
write-touched = refl

-- the write as it is pending, whose layout is the one after it
abbrev pub pending_write : Accepted
pending_write = accepted before (Write 5 257 0 4096) write (layout_of (with_change before write 1114112 after.layout))

pending_write-touched : pending_write.touched ≡ 18
unfolding touched tree_items nodes_only_in owing_changed addresses_owed references_owed references_held held_records
    owed_count owed owed_by_node reach reach_of_root pieces_of file_part inode_read extent_data_read inode_text
    extent_data_text u64_bytes u16_bytes u64_at
pending_write-touched = refl

-- the root's level is 1, and 1 piece is met: 3 · (1 + 2) · (1 + 3)
pending_write-copies : pending_write.copies ≡ 36
pending_write-copies = refl

-- ---- a snapshot of 0/5, which a diamond of groups leads to 2/1

-- the hierarchy in which 256 has these parents besides
abbrev pub diamond_with : List (ℕ × ℕ) → Hierarchy
diamond_with parents = groups_of (256 ∷ diamond.groups) (parents ++ diamond.pairs)

-- in both groups under the top the copy has the same groups over it
in_both : is_quick_snapshot (layout_of shared_leaves) (diamond_with ((256, one_one) ∷ (256, one_two) ∷ [])) 5 256 ≡ true
unfolding have_same_groups is_below leads is_root_alone references_owed owed owed_by_node file_part inode_read
    extent_data_read inode_text extent_data_text u64_bytes u16_bytes u64_at
in_both = refl

-- in one of them it lacks the other
in_one : have_same_groups (diamond_with ((256, one_one) ∷ [])) 5 256 ≡ false
unfolding have_same_groups is_below leads
in_one = refl

-- a leaf that is the root of 5 and lies under the root of 256 too has two references
shared_root : is_root_alone (layout ((5, 1048576) ∷ (256, 1097728) ∷ [])
    (leaf_of 1048576 2 5 false (first_file ∷ [])
    ∷ leaf_of 1064960 2 5 false (second_file ∷ [])
    ∷ inner_of 1097728 3 256 false (pointer 257 1048576 2 ∷ pointer 258 1064960 2 ∷ [])
    ∷ [])) 5 ≡ false
unfolding is_root_alone references_owed owed owed_by_node file_part inode_read extent_data_read inode_text
    extent_data_text u64_bytes u16_bytes u64_at
shared_root = refl

-- ---- assignments

abbrev pub counters : ℕ → ℕ → Counters
counters rfer excl = record { rfer = rfer; excl = excl }

-- 256 comes under the diamond, with nothing that others reach
stranger_comes : is_quick_assignment (diamond_with []) (counters 16384 16384) 256 one_one ≡ true
unfolding are_disjoint members is_below leads
stranger_comes = refl

-- with something that others reach it is counted
sharer_comes : is_quick_assignment (diamond_with []) (counters 24576 16384) 256 one_one ≡ false
unfolding are_disjoint members is_below leads
sharer_comes = refl

-- the diamond's last side: 0/5 is a member of 2/1 already
diamond_closes : is_quick_assignment
    (groups_of (5 ∷ one_one ∷ one_two ∷ two_one ∷ []) ((5, one_one) ∷ (5, one_two) ∷ (one_one, two_one) ∷ []))
    (counters 16384 16384) one_two two_one ≡ false
unfolding are_disjoint members is_below leads
diamond_closes = refl

-- ---- groups whose counters a commit changes

-- all three, which are stored as 0
all_change : groups_changed (layout_of snapshot) snapshot.quota ≡ 3
unfolding groups_changed referenced exclusive is_reached_outside reach_of_group members is_below leads reach
    reach_of_root pieces_of file_part inode_read extent_data_read inode_text extent_data_text u64_bytes u16_bytes u64_at
all_change = refl

none_changes : groups_changed (layout_of fresh) fresh.quota ≡ 0
unfolding groups_changed referenced exclusive is_reached_outside reach_of_group members is_below leads reach
    reach_of_root pieces_of file_part inode_read extent_data_read inode_text extent_data_text u64_bytes u16_bytes u64_at
none_changes = refl

none_while_off : groups_changed (layout_of fresh) None ≡ 0
unfolding groups_changed
none_while_off = refl
