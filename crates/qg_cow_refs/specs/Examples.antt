-- A leaf and a node above leaves that are copied and left, in each case. All were worked out by hand.
use Rattle.std.specs.Prelude.{◌≡◌, ℕ, Bool, true, false, List, [], ◌∷◌, Some, None, refl}
use Rattle.qg_num.specs.Fields.{u64_bytes, u16_bytes, u64_at}
use Rattle.qg_items.specs.declared.extent.Reference.TheVariants.{KeyedBlock, SharedBlock, KeyedData, SharedData}
use Rattle.qg_items.specs.ItemText.{inode_text, extent_data_text}
use Rattle.qg_items.specs.ItemReading.{inode_read, extent_data_read}
use Rattle.qg_image.specs.ItemMeaning.{file_part}
use Rattle.qg_image.specs.State.{Placed}
use Rattle.qg_image.specs.Owed.{Owing, owed_by_node}
use Rattle.qg_image.specs.ExamplesOfReferences.{leaf_of, inner_of, pointer, first_file}
use Rattle.qg_cow_refs.specs.declared.cases.Edits.TheVariants.{ShareOld, AddKeyed, TurnKeyed, TakeOver}
use Rattle.qg_cow_refs.specs.declared.cases.Leaving.TheVariants.{Goes, TurnsFull, Stays}
use Rattle.qg_cow_refs.specs.Copying.{copy_case, children_gain, children_lose, copy_gains, copy_losses, old_after}
use Rattle.qg_cow_refs.specs.Copying.{owed_after}
use Rattle.qg_cow_refs.specs.Left.{left_case, left_after, leaving_gains, leaving_losses}

-- a leaf at 1048576 that subvolume 5 made, whose one piece names the extent at 67174400
abbrev pub leaf : Bool → Placed
leaf full = (leaf_of 1048576 2 5 full (first_file ∷ [])).1

-- a node at 1081344 that subvolume 5 made, above two leaves
abbrev pub inner : Bool → Placed
inner full = (inner_of 1081344 2 5 full (pointer 257 1048576 2 ∷ pointer 258 1064960 2 ∷ [])).1

-- a reference to the extent, and one to each of the two leaves
abbrev pub to_extent : ℕ → Owing
to_extent root = record { address = 67174400; reference = KeyedData root 257 0 }

-- shared references to these, with the leaf and with the node above leaves as parent
abbrev pub to_extent_shared : Owing
to_extent_shared = record { address = 67174400; reference = SharedData 1048576 }

abbrev pub to_leaves_shared : List Owing
to_leaves_shared = record { address = 1048576; reference = SharedBlock 1081344 } ∷ record {
  address = 1064960;
  reference = SharedBlock 1081344;
} ∷ []

abbrev pub to_leaves : ℕ → List Owing
to_leaves root = record { address = 1048576; reference = KeyedBlock root } ∷ record {
  address = 1064960;
  reference = KeyedBlock root;
} ∷ []

-- ---- two subvolumes reach the node, and its maker writes below it: what was keyed is shared, and the copy owes keyed
-- ones of its own

shared_with_its_maker : copy_case 2 false 5 5 ≡ ShareOld
shared_with_its_maker = refl

shared_with_its_maker-extent_gains : children_gain ShareOld (leaf false) 5 ≡ to_extent_shared ∷ []
unfolding owed_by_node file_part inode_read extent_data_read inode_text extent_data_text u64_bytes u16_bytes u64_at
shared_with_its_maker-extent_gains = refl

shared_with_its_maker-leaves_gain : children_gain ShareOld (inner false) 5 ≡ to_leaves_shared
unfolding owed_by_node
shared_with_its_maker-leaves_gain = refl

shared_with_its_maker-lose : children_lose ShareOld (inner false) ≡ []
shared_with_its_maker-lose = refl

-- the copy is reached in place of the old node
shared_with_its_maker-losses : copy_losses ShareOld (leaf false) 5 ≡ record {
  address = 1048576;
  reference = KeyedBlock 5;
} ∷ []
shared_with_its_maker-losses = refl

shared_with_its_maker-gains : copy_gains ShareOld (leaf false) 1097728 5 ≡ record {
  address = 1097728;
  reference = KeyedBlock 5;
} ∷ to_extent_shared ∷ []
unfolding owed_by_node file_part inode_read extent_data_read inode_text extent_data_text u64_bytes u16_bytes u64_at
shared_with_its_maker-gains = refl

shared_with_its_maker-old : old_after ShareOld (inner false) ≡ Some (inner true)
shared_with_its_maker-old = refl

-- ---- the snapshot 256 writes below it: its copy adds keyed references of 256

shared_with_another : copy_case 2 false 5 256 ≡ AddKeyed
shared_with_another = refl

shared_with_another-gains : copy_gains AddKeyed (leaf false) 1097728 256 ≡ record {
  address = 1097728;
  reference = KeyedBlock 256;
} ∷ to_extent 256 ∷ []
unfolding owed_by_node file_part inode_read extent_data_read inode_text extent_data_text u64_bytes u16_bytes u64_at
shared_with_another-gains = refl

shared_with_another-losses : copy_losses AddKeyed (leaf false) 256 ≡ record {
  address = 1048576;
  reference = KeyedBlock 256;
} ∷ []
shared_with_another-losses = refl

shared_with_another-leaves_gain : children_gain AddKeyed (inner false) 256 ≡ to_leaves 256
unfolding owed_by_node
shared_with_another-leaves_gain = refl

shared_with_another-old : old_after AddKeyed (inner false) ≡ Some (inner false)
shared_with_another-old = refl

-- ---- a full node that its maker reaches again is copied as any other

full_and_shared : copy_case 2 true 5 5 ≡ AddKeyed
full_and_shared = refl

-- ---- the last that reaches a full node writes below it

full_and_alone : copy_case 1 true 5 256 ≡ TurnKeyed
full_and_alone = refl

full_and_alone-gain : children_gain TurnKeyed (inner true) 256 ≡ to_leaves 256
unfolding owed_by_node
full_and_alone-gain = refl

full_and_alone-lose : children_lose TurnKeyed (inner true) ≡ to_leaves_shared
unfolding owed_by_node
full_and_alone-lose = refl

full_and_alone-extent_gain : children_gain TurnKeyed (leaf true) 256 ≡ to_extent 256 ∷ []
unfolding owed_by_node file_part inode_read extent_data_read inode_text extent_data_text u64_bytes u16_bytes u64_at
full_and_alone-extent_gain = refl

full_and_alone-extent_loses : children_lose TurnKeyed (leaf true) ≡ to_extent_shared ∷ []
unfolding owed_by_node file_part inode_read extent_data_read inode_text extent_data_text u64_bytes u16_bytes u64_at
full_and_alone-extent_loses = refl

full_and_alone-old : old_after TurnKeyed (inner true) ≡ None
full_and_alone-old = refl

-- ---- nobody else reaches the node: the copy owes what the old node owed

alone : copy_case 1 false 5 5 ≡ TakeOver
alone = refl

alone-owed : owed_after TakeOver (inner false) 1097728 3 5 ≡ record { address = 1097728; reference = KeyedBlock 5 }
    ∷ to_leaves 5
unfolding owed_by_node
alone-owed = refl

-- its children gain and lose nothing
alone-gains : copy_gains TakeOver (inner false) 1097728 5 ≡ record { address = 1097728; reference = KeyedBlock 5 } ∷ []
alone-gains = refl

alone-losses : copy_losses TakeOver (inner false) 5 ≡ record { address = 1081344; reference = KeyedBlock 5 } ∷ []
alone-losses = refl

alone-old : old_after TakeOver (inner false) ≡ None
alone-old = refl

-- ---- a node is left

last_reference : left_case 0 false 5 5 ≡ Goes
last_reference = refl

last_reference-lose : leaving_losses Goes (inner false) ≡ to_leaves 5
unfolding owed_by_node
last_reference-lose = refl

last_reference-extent_loses : leaving_losses Goes (leaf true) ≡ to_extent_shared ∷ []
unfolding owed_by_node file_part inode_read extent_data_read inode_text extent_data_text u64_bytes u16_bytes u64_at
last_reference-extent_loses = refl

last_reference-gain : leaving_gains Goes (inner false) ≡ []
last_reference-gain = refl

last_reference-after : left_after Goes (inner false) ≡ None
last_reference-after = refl

left_by_its_maker : left_case 1 false 5 5 ≡ TurnsFull
left_by_its_maker = refl

left_by_its_maker-lose : leaving_losses TurnsFull (leaf false) ≡ to_extent 5 ∷ []
unfolding owed_by_node file_part inode_read extent_data_read inode_text extent_data_text u64_bytes u16_bytes u64_at
left_by_its_maker-lose = refl

left_by_its_maker-gain : leaving_gains TurnsFull (leaf false) ≡ to_extent_shared ∷ []
unfolding owed_by_node file_part inode_read extent_data_read inode_text extent_data_text u64_bytes u16_bytes u64_at
left_by_its_maker-gain = refl

left_by_its_maker-leaves_lose : leaving_losses TurnsFull (inner false) ≡ to_leaves 5
unfolding owed_by_node
left_by_its_maker-leaves_lose = refl

left_by_its_maker-leaves_gain : leaving_gains TurnsFull (inner false) ≡ to_leaves_shared
unfolding owed_by_node
left_by_its_maker-leaves_gain = refl

left_by_its_maker-after : left_after TurnsFull (inner false) ≡ Some (inner true)
left_by_its_maker-after = refl

left_by_another : left_case 1 false 5 256 ≡ Stays
left_by_another = refl

left_by_another-gain : leaving_gains Stays (inner false) ≡ []
left_by_another-gain = refl

left_by_another-lose : leaving_losses Stays (inner false) ≡ []
left_by_another-lose = refl

full_and_left : left_case 1 true 5 5 ≡ Stays
full_and_left = refl

full_and_left-after : left_after Stays (leaf true) ≡ Some (leaf true)
full_and_left-after = refl
