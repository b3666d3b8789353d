-- What a write by copy on write and a deletion leave of shared trees. All were worked out by hand.
use Rattle.std.specs.Prelude.{◌≡◌, ℕ, true, false, List, [], ◌∷◌, refl}
use Rattle.std.specs.List.{list_all}
use Rattle.qg_num.specs.Fields.{u64_bytes, u16_bytes, u64_at}
use Rattle.qg_items.specs.ItemText.{inode_text, extent_data_text}
use Rattle.qg_items.specs.ItemReading.{inode_read, extent_data_read}
use Rattle.qg_super.specs.Places.{is_slot}
use Rattle.qg_image.specs.declared.file.File.{File}
use Rattle.qg_image.specs.ItemMeaning.{file_part}
use Rattle.qg_image.specs.Table.{keys_of}
use Rattle.qg_image.specs.State.{State, Subvolume, blank_subvolume, layout_of, nothing_held}
use Rattle.qg_image.specs.Reach.{pieces_of, reach_of_root, reach, owners}
use Rattle.qg_image.specs.Space.{is_free_slot}
use Rattle.qg_image.specs.ExamplesOfState.{state_of}
use Rattle.qg_image.specs.ExamplesOfReferences.{leaf_of, inner_of, pointer, first_file, second_file, rewritten_file}
use Rattle.qg_image.specs.ExamplesOfReferences.{written_source, deleted_source}
use Rattle.qg_machine.specs.Layout.{is_fixed, is_full_after, StaysAs, is_made_node, made_nodes}

-- ---- a snapshot, and then a write into its source

abbrev pub subvolume : ℕ → List (ℕ × File) → Subvolume
subvolume root files = record (blank_subvolume root) { files = files; last_snapshot = 3 }

-- generation 3 has committed the snapshot 256 of subvolume 5: two roots, 1081344 and 1097728, above the same two leaves
abbrev pub before : State
before = record (state_of
    ((5, subvolume 1081344 (first_file ∷ second_file ∷ [])) ∷ (256, subvolume 1097728 (first_file ∷ second_file ∷ []))
    ∷ [])
    (leaf_of 1048576 2 5 false (first_file ∷ [])
    ∷ leaf_of 1064960 2 5 false (second_file ∷ [])
    ∷ inner_of 1081344 2 5 false (pointer 257 1048576 2 ∷ pointer 258 1064960 2 ∷ [])
    ∷ inner_of 1097728 3 256 false (pointer 257 1048576 2 ∷ pointer 258 1064960 2 ∷ [])
    ∷ [])
    [] []) {
      generation = 3;
      held = record nothing_held { nodes = 1048576 ∷ 1064960 ∷ 1081344 ∷ 1097728 ∷ [] };
    }

-- subvolume 5 has written into its first file: the root and the first leaf are copied to 1114112 and 1130496
abbrev pub after : State
after = record before {
  subvolumes = (5, subvolume 1114112 (rewritten_file ∷ second_file ∷ []))
      ∷ (256, subvolume 1097728 (first_file ∷ second_file ∷ [])) ∷ [];
  layout = written_source.nodes;
}

after-layout : layout_of after ≡ written_source
after-layout = refl

copies : keys_of (made_nodes before after) ≡ 1114112 ∷ 1130496 ∷ []
copies = refl

copies_are_made : list_all (is_made_node before 5) (made_nodes before after) ≡ true
unfolding is_free_slot is_slot
copies_are_made = refl

-- a node that the write made is the subvolume's that was written into, of the generation to come, not full, and in a
-- slot that was free
made_for_another : is_made_node before 5 (leaf_of 1130496 4 256 false []) ≡ false
unfolding is_free_slot is_slot
made_for_another = refl

made_in_the_last_generation : is_made_node before 5 (leaf_of 1130496 3 5 false []) ≡ false
unfolding is_free_slot is_slot
made_in_the_last_generation = refl

made_full : is_made_node before 5 (leaf_of 1130496 4 5 true []) ≡ false
unfolding is_free_slot is_slot
made_full = refl

made_where_a_node_lies : is_made_node before 5 (leaf_of 1081344 4 5 false []) ≡ false
unfolding is_free_slot is_slot
made_where_a_node_lies = refl

-- the old root is in no tree now, but the last commit holds it
made_where_a_node_lay : is_made_node after 5 (leaf_of 1081344 4 5 false []) ≡ false
unfolding is_free_slot is_slot
made_where_a_node_lay = refl

-- the old leaf is 5's, and 5 no longer reaches it
old_leaf_becomes_full : is_full_after after (leaf_of 1048576 2 5 false (first_file ∷ [])).1 1048576 ≡ true
unfolding reach reach_of_root pieces_of file_part inode_read extent_data_read inode_text extent_data_text u64_bytes
    u16_bytes u64_at
old_leaf_becomes_full = refl

shared_leaf_does_not : is_full_after after (leaf_of 1064960 2 5 false (second_file ∷ [])).1 1064960 ≡ false
unfolding reach reach_of_root pieces_of file_part inode_read extent_data_read inode_text extent_data_text u64_bytes
    u16_bytes u64_at
shared_leaf_does_not = refl

-- a full node stays full, though its owner reaches it
full_leaf_stays_full : is_full_after after (leaf_of 1064960 2 5 true (second_file ∷ [])).1 1064960 ≡ true
unfolding reach reach_of_root pieces_of file_part inode_read extent_data_read inode_text extent_data_text u64_bytes
    u16_bytes u64_at
full_leaf_stays_full = refl

-- so the old leaf may stay, with the mark
old_leaf_stays : StaysAs before after 5 (leaf_of 1048576 2 5 false (first_file ∷ []))
    (leaf_of 1048576 2 5 true (first_file ∷ [])).1
unfolding reach reach_of_root pieces_of file_part inode_read extent_data_read inode_text extent_data_text u64_bytes
    u16_bytes u64_at
old_leaf_stays = record { full = refl; maker = refl; fixed = λ fixed. refl }

-- a node that another subvolume reaches is fixed, and so is one that the last commit holds; a copy is not
shared_leaf_is_fixed : is_fixed (record before { held = nothing_held }) 5 1064960 ≡ true
unfolding owners reach reach_of_root pieces_of file_part inode_read extent_data_read inode_text extent_data_text
    u64_bytes u16_bytes u64_at
shared_leaf_is_fixed = refl

committed_root_is_fixed : is_fixed before 5 1081344 ≡ true
unfolding owners reach reach_of_root pieces_of file_part inode_read extent_data_read inode_text extent_data_text
    u64_bytes u16_bytes u64_at
committed_root_is_fixed = refl

copy_is_not_fixed : is_fixed after 5 1130496 ≡ false
unfolding owners reach reach_of_root pieces_of file_part inode_read extent_data_read inode_text extent_data_text
    u64_bytes u16_bytes u64_at
copy_is_not_fixed = refl

-- ---- a source that is deleted while its snapshot lives: its leaf becomes full

abbrev pub deleted : State
deleted = record before {
  subvolumes = (5, subvolume 1048576 []) ∷ (257, subvolume 1114112 (first_file ∷ second_file ∷ [])) ∷ [];
  layout = deleted_source.nodes;
}

deleted-layout : layout_of deleted ≡ deleted_source
deleted-layout = refl

leaf_of_deleted_becomes_full : is_full_after deleted (leaf_of 1064960 2 256 false (first_file ∷ [])).1 1064960 ≡ true
unfolding reach reach_of_root pieces_of file_part inode_read extent_data_read inode_text extent_data_text u64_bytes
    u16_bytes u64_at
leaf_of_deleted_becomes_full = refl

-- the snapshot's own root does not
root_of_snapshot_does_not : is_full_after deleted
    (inner_of 1114112 3 257 false (pointer 257 1064960 2 ∷ pointer 258 1081344 2 ∷ [])).1 1114112 ≡ false
unfolding reach reach_of_root pieces_of file_part inode_read extent_data_read inode_text extent_data_text u64_bytes
    u16_bytes u64_at
root_of_snapshot_does_not = refl
