-- Pieces of a file that name extents, or name them no more, while the tree's items stay (this project's own).
use Rattle.std.specs.Prelude.{◌≡◌, ℕ, ◌<◌, ◌≤◌, List, map, Result, OnOk, Contains}
use Rattle.std.specs.List.{All}
use Rattle.qg_device.specs.History.{History}
use Rattle.qg_num.specs.declared.fault.BlockFault.{BlockFault}
use Rattle.qg_num.specs.declared.piece.Piece.{Piece}
use Rattle.qg_node.specs.declared.item.Item.{Item}
use Rattle.qg_items.specs.declared.extent.Reference.{Reference}
use Rattle.qg_image.specs.Reach.{extent_of}
use Rattle.qg_blocks.specs.NodesFound.{BreaksNone}
use Rattle.qg_space.specs.Holding.{free_slots}
use Rattle.qg_shared_trees.specs.Types.{FsTree}
use Rattle.qg_shared_trees.specs.Standing.{IsSubvolume, KeepsTree, Stands, names_times}
use Rattle.qg_shared_trees.specs.Laying.{IsMoved}

-- each of some pieces names an extent that these names lead to
abbrev pub AreOfNamed : List (ℕ × Piece) → List Piece → Type 0
AreOfNamed names pieces = All (λ piece. Contains (map (λ name. extent_of name.1) names) (extent_of piece)) pieces

-- each reference by these names is there less often than one may be
abbrev pub AreFewNames : ℕ → List (ℕ × Piece) → Type 0
AreFewNames owner names = (at : ℕ) (reference : Reference) → names_times owner names at reference < 4294967295

-- each reference by some names is there as often by others
abbrev pub AreCovered : ℕ → List (ℕ × Piece) → List (ℕ × Piece) → Type 0
AreCovered owner told names = (at : ℕ) (reference : Reference)
    → names_times owner told at reference ≤ names_times owner names at reference

-- references and runs that are taken change alone: nodes and free slots stay, and a tree can be edited in them as
-- before
pub record KeepsNodes (old new : FsTree) : Type 0 where
  pub tree : KeepsTree old new
  pub subvolume : (history : History) (bytes : ℕ) → IsSubvolume old history bytes
      → IsSubvolume new history bytes
  pub slots : free_slots new.land.space ≡ free_slots old.land.space

-- a tree stands with these items and names, as edits between two commits leave it
pub record StandsMoved (old new : FsTree) (history : History) (items : List Item) (names : List (ℕ × Piece))
    : Type 0 where
  pub stands : Stands new history items names
  pub moved : IsMoved old new history

-- so it does once a call is done, and the call answers no rule
pub record AreNamed (old new : FsTree) (history : History) (items : List Item) (names : List (ℕ × Piece))
    (result : Result (Unit {0}) BlockFault) : Type 0 where
  pub done : OnOk result (StandsMoved old new history items names)
  pub sound : BreaksNone result
