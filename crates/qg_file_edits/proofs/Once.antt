-- One edit of an item, by a key and a body that are known.
use Rattle.std.proofs.Common.{◌≡◌, ℕ, ◌+◌, ◌*◌, ◌≤◌, List, Result, sym, subst}
use Rattle.std.specs.Prelude.{IsTrue, OnOk}
use Rattle.std.specs.List.{filter_map}
use Rattle.std.proofs.lemmas.Result.{on_ok_weaker}
use Rattle.qg_device.specs.History.{Event, History, Recorded}
use Rattle.qg_num.specs.declared.fault.BlockFault.{BlockFault}
use Rattle.qg_num.specs.declared.key.Key.{Key}
use Rattle.qg_num.specs.declared.piece.Piece.{Piece}
use Rattle.qg_node.specs.declared.item.Item.{Item}
use Rattle.qg_blocks.specs.NodesFound.{BreaksNone}
use Rattle.qg_space.specs.Holding.{free_slots}
use Rattle.qg_edit.specs.Edits.{has_key, with_item, without_key}
use Rattle.qg_node_alloc.specs.Calls.{LeavesBe}
use Rattle.qg_shared_trees.specs.Rooting.{Grows}
use Rattle.qg_shared_trees.specs.Types.{FsTree}
use Rattle.qg_shared_trees.specs.Standing.{IsEditedTo, IsSubvolume, Stands, name_told}
use Rattle.qg_file_edits.specs.Editing.{AreMade}
use Rattle.qg_file_edits.specs.Files.{LeavesHeld, StaysOwn}
use Rattle.qg_file_edits.specs.Naming.{AreCovered}
use Rattle.qg_file_edits.proofs.Edited.{made-once}
use Rattle.qg_file_edits.proofs.Kept.{leaves-edited, own-grown}

module _ (old new : FsTree) (before after : History) (bytes left reads reads_new : ℕ)
    (result : Result (Unit {0}) BlockFault) (subvolume : IsSubvolume old before bytes)
    (rests : LeavesBe old.land new.land before after bytes left old.tree.next) (still : IsSubvolume new after left)
    (others : new.others ≡ old.others)
  where
    pub once-leaves : LeavesHeld old new before after bytes left
    once-leaves = leaves-edited old new before after bytes left old.tree.next rests still others

    pub once-own : (most : ℕ) → OnOk result (Grows most old.tree new.tree old.land new.land)
        → OnOk result (StaysOwn old new)
    once-own most grows = on_ok_weaker result (own-grown most old new) grows

    module _ (steps : reads_new ≤ reads + 9 * (old.tree.height + 2)) (items : List Item) (names : List (ℕ × Piece))
        (stands : Stands old before items names) where
      -- what a call says of some items, where it is sound
      MakesOnce : ℕ → List Item → Type 0
      MakesOnce most items_new =
          OnOk result (IsEditedTo old new before items_new names (old.tree.height + 2))
          × OnOk result (Grows most old.tree new.tree old.land new.land)
          × ((events : List Event) → before ≡ Recorded events → 3 * (old.tree.height + 2) ≤ free_slots old.land.space
          → BreaksNone result)

      made : (most : ℕ) (items_new : List Item) → MakesOnce most items_new
          → AreMade 1 0 old new before items_new names reads reads_new result
      unfolding MakesOnce
      made most items_new is =
          made-once old new before after bytes left most items items_new names reads reads_new result subvolume stands
          is.0
          is.1 once-leaves is.2 steps

      pub once-removed : (key wanted : Key) → key ≡ wanted
          → (IsTrue (has_key key items)
          → OnOk result (IsEditedTo old new before (without_key key items) names (old.tree.height + 2)))
          → OnOk result (Grows 0 old.tree new.tree old.land new.land)
          → ((events : List Event) → before ≡ Recorded events → IsTrue (has_key key items)
          → 3 * (old.tree.height + 2) ≤ free_slots old.land.space → BreaksNone result)
          → IsTrue (has_key wanted items)
          → AreMade 1 0 old new before (without_key wanted items) names reads reads_new result
      unfolding MakesOnce
      once-removed key wanted is removed grows sound there =
          let here = subst (λ (k : Key). IsTrue (has_key k items)) (sym is) there in
          subst (λ (k : Key). AreMade 1 0 old new before (without_key k items) names reads reads_new result) is
          (made 0 (without_key key items) (removed here, grows, λ events known. sound events known here))

      pub once-put : (can : Key → Type 0) (key wanted : Key) (body text : List ℕ) → key ≡ wanted → body ≡ text
          → (can key
          → AreCovered old.tree.owner (filter_map name_told (with_item (record { key = key; body = body }) items)) names
          → OnOk result (IsEditedTo old new before (with_item (record { key = key; body = body }) items) names
          (old.tree.height + 2)))
          → OnOk result (Grows 1 old.tree new.tree old.land new.land)
          → ((events : List Event) → before ≡ Recorded events → can key
          → 3 * (old.tree.height + 2) ≤ free_slots old.land.space → BreaksNone result)
          → can wanted
          → AreCovered old.tree.owner (filter_map name_told (with_item (record { key = wanted; body = text }) items))
          names
          → AreMade 1 0 old new before (with_item (record { key = wanted; body = text }) items) names reads reads_new
          result
      unfolding MakesOnce
      once-put can key wanted body text key_is body_is put grows sound may covered =
          let here = subst can (sym key_is) may in
          let covered_here = subst (λ (k : Key). AreCovered old.tree.owner
          (filter_map name_told (with_item (record { key = k; body = body }) items)) names) (sym key_is)
          (subst (λ (b : List ℕ). AreCovered old.tree.owner
          (filter_map name_told (with_item (record { key = wanted; body = b }) items)) names) (sym body_is) covered) in
          let made_here = made 1 (with_item (record { key = key; body = body }) items)
          (put here covered_here, grows, λ events known. sound events known here) in
          subst (λ (k : Key). AreMade 1 0 old new before (with_item (record { key = k; body = text }) items) names reads
          reads_new result) key_is
          (subst (λ (b : List ℕ). AreMade 1 0 old new before (with_item (record { key = key; body = b }) items) names
          reads
          reads_new result) body_is made_here)

-- what is said of an item by its key and its body
pub put-as : (can : Key → Type 0) (make : Item → Type 0) (key wanted : Key) (body text : List ℕ) → key ≡ wanted
    → body ≡ text → (can key → make (record { key = key; body = body })) → can wanted
    → make (record { key = wanted; body = text })
put-as can make key wanted body text key_is body_is told may =
    subst (λ (k : Key). make (record { key = k; body = text })) key_is
    (subst (λ (b : List ℕ). make (record { key = key; body = b })) body_is (told (subst can (sym key_is) may)))
