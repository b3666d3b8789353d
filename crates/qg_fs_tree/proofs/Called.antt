-- An edit of a tree that stands, as its contract says what was done: the tree stands then.
use Rattle.std.proofs.Common.{◌≡◌, ℕ, ◌+◌, ◌<◌, ◌≤◌, List, Option, Some, None, refl, sym, subst}
use Rattle.std.specs.List.{filter_map}
use Rattle.std.specs.Prelude.{IsOk, IsTrue, MatchOption, Result, Ok, Err}
use Rattle.qg_device.specs.History.{History}
use Rattle.qg_num.specs.declared.piece.Piece.{Piece}
use Rattle.qg_num.specs.declared.fault.BlockFault.{BlockFault}
use Rattle.qg_num.specs.declared.fault.BlockFault.TheVariants.{Image}
use Rattle.qg_num.specs.declared.rule.Rule.TheVariants.{Refs}
use Rattle.qg_node.specs.declared.item.Item.{Item}
use Rattle.qg_super.specs.Places.{second_place}
use Rattle.qg_image.specs.declared.tree.TreeKind.TheVariants.{Files}
use Rattle.qg_image.specs.Walk.{is_owner}
use Rattle.qg_super.specs.declared.sizes.Sizes.{Sizes}
use Rattle.qg_blocks.specs.Stopping.{StopsForCause}
use Rattle.qg_blocks.specs.NodesFound.{BreaksNone}
use Rattle.qg_blocks.proofs.Stopping.{misfit-refs, stops-misfit}
use Rattle.qg_tree_edits.specs.Land.{IsDrafted, Rests}
use Rattle.qg_tree_edits.specs.Tellings.{Telling}
use Rattle.qg_tree_edits.proofs.Lands.{Rests-draft}
use Rattle.qg_tree_edits.specs.NodeAllocCalls.{LeavesBe}
use Rattle.qg_extents.specs.Table.{IsTable}
use Rattle.qg_items.specs.declared.extent.Reference.{Reference}
use Rattle.qg_tree_edits.specs.Counting.{IsTreeTold}
use Rattle.qg_tree_edits.specs.Rooting.{IsReplaced, StaysTree}
use Rattle.qg_tree_backrefs.specs.Following.{Follows}
use Rattle.qg_tree_backrefs.specs.Settled.{IsSettled}
use Rattle.qg_fs_tree.specs.declared.fs_tree.FsTree.{FsTree}
use Rattle.qg_fs_tree.specs.Standing.{IsEditedTo, IsSubvolume, Stands, name_told, names_times}
use Rattle.qg_fs_tree.proofs.Owned.{AreOwned-after, ComesOf}
use Rattle.qg_fs_tree.proofs.Beside.{own_ways}
use Rattle.qg_fs_tree.proofs.Edited.{IsEditedTo-told, IsToldOf, fits-after}
use Rattle.qg_fs_tree.proofs.TrueToFixed.{true-told}

module _ (old new : FsTree) (history : History) (bytes : ℕ) (items left_items : List Item)
    (names : List (ℕ × Piece)) (tellings : List Telling)
    (subvolume : IsSubvolume old history bytes) (stands : Stands old history items names)
    (table : IsTable old.refs.refs)
    (told : IsTreeTold old.tree new.tree old.land new.land history tellings)
    (follows : Follows old.refs tellings new.refs) where
  drafted : IsDrafted old.land old.tree.next
  drafted = subvolume.editable.drafted

  is_told : IsToldOf old new history names tellings
  is_told = record {
    turns = told.turns;
    new_there = told.new;
    bare = told.bare;
    truth = true-told old history items names stands drafted table tellings (own_ways old history) told.as_was told.down
        told.unheld told.new;
    as_was = told.as_was;
    few_come = told.few_come;
    few_made = told.few_made;
  }

  -- no misfit was met
  pub fits-called : new.refs.misfit ≡ None
  fits-called = fits-after old new history items left_items names tellings stands drafted table is_told follows

  module _ (later : History) (left most : ℕ)
      (replaced : IsReplaced Files old.tree new.tree old.land new.land history left_items)
      (leaves : LeavesBe old.land new.land history later bytes left old.tree.next)
      (trees : new.others ≡ old.others)
      (stays : StaysTree most old.tree new.tree) (comes : ComesOf old new)
      (settled : new.refs.misfit ≡ None → IsSettled new.refs new.land later)
      (new_table : IsTable new.refs.refs)
      (within : (at : ℕ) (reference : Reference)
      → names_times old.tree.owner (filter_map name_told left_items) at reference
      ≤ names_times old.tree.owner names at reference) where
    pub IsEditedTo-called : IsEditedTo old new history left_items names (old.tree.height + 2)
    IsEditedTo-called =
        let rests = subst (λ (h : History). Rests old.land new.land h old.tree.next) leaves.history
        leaves.rests in
        let settled_then = subst (λ (h : History). IsSettled new.refs new.land h) leaves.history
        (settled fits-called) in
        IsEditedTo-told old new history items left_items names tellings stands drafted table is_told follows replaced
        rests trees stays.owner stays.next
        (AreOwned-after old new history items left_items names stands drafted replaced comes) rests.runs settled_then
        within new_table

-- ---- what stands over any disk

pub IsSubvolume-after : (old new : FsTree) (history later : History) (bytes left : ℕ)
    → IsSubvolume old history bytes → LeavesBe old.land new.land history later bytes left old.tree.next
    → new.tree.owner ≡ old.tree.owner → new.tree.next ≡ old.tree.next → IsSubvolume new later left
IsSubvolume-after old new history later bytes left subvolume leaves owner next = record {
  editable = record {
    backed = leaves.rests.backed;
    drafted = subst (λ (n : ℕ). IsDrafted new.land n) (sym next) leaves.rests.drafted;
    room = subst (λ (n : ℕ). second_place ≤ n) (sym leaves.size) subvolume.editable.room;
  };
  makes = record {
    owner = subst (λ (n : ℕ). IsTrue (is_owner Files n)) (sym owner) subvolume.makes.owner;
    next = subst (λ (n : ℕ). 0 < n) (sym next) subvolume.makes.next;
  };
}

-- a call that does nothing
pub LeavesBe-none : (fs : FsTree) (history : History) (bytes : ℕ) → IsSubvolume fs history bytes
    → LeavesBe fs.land fs.land history history bytes bytes fs.tree.next
LeavesBe-none fs history bytes subvolume = record {
  rests = Rests-draft fs.land fs.land history fs.tree.next refl refl refl subvolume.editable.backed
      subvolume.editable.drafted;
  history = refl;
  size = refl;
}

-- what is answered at the end
pub fitting-sound : (misfit : Option ℕ) (result : Result (Unit {0}) BlockFault)
    → MatchOption misfit (IsOk result) (λ address. result ≡ Err (Image Refs address)) → misfit ≡ None
    → BreaksNone result
fitting-sound None (Ok done) met none = tt
fitting-sound None (Err fault) met none = cc
fitting-sound (Some at) result met none = cc

-- over any disk
pub fitting-stops : (misfit : Option ℕ) (result : Result (Unit {0}) BlockFault) (sizes : Sizes) (bytes : ℕ)
    → MatchOption misfit (IsOk result) (λ address. result ≡ Err (Image Refs address))
    → StopsForCause result sizes bytes
fitting-stops None (Ok done) sizes bytes met = tt
fitting-stops None (Err fault) sizes bytes met = absurd cc
fitting-stops (Some at) result sizes bytes met = stops-misfit result Refs at sizes bytes misfit-refs met
