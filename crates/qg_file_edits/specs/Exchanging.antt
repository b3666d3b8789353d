-- Pieces of a file exchanged for others in a subvolume's tree (this project's own).
use Rattle.std.specs.Prelude.{◌≡◌, ℕ, ◌+◌, ◌≤◌, List, ◌++◌, map, take, length, Some, MatchOption, IsTrue, ⊤}
use Rattle.std.specs.List.{All, filter_map, flat_map}
use Rattle.std.specs.List.Sorted.{IsPermutation}
use Rattle.std.specs.Option.{option_to_list}
use Rattle.qg_num.specs.declared.piece.Piece.{Piece}
use Rattle.qg_node.specs.declared.item.Item.{Item}
use Rattle.qg_image.specs.declared.file.File.{File}
use Rattle.qg_root_items.specs.Written.{item_of_piece, items_of_file}
use Rattle.qg_space.specs.Holding.{Holding, is_free_run}
use Rattle.qg_shared_trees.specs.Standing.{name_told}
use Rattle.qg_file_edits.specs.FileEdits.{with_items, without_items}
use Rattle.qg_file_edits.specs.declared.step.Step.{Step}
use Rattle.qg_file_edits.specs.Applying.{CanExchange, after_steps}
use Rattle.qg_file_edits.specs.Named.{AreNamesExchanged, named, names_of}
use Rattle.qg_file_edits.specs.Steps.{AreSteps}
use Rattle.qg_files.specs.Apart.{AreApart}
use Rattle.qg_file_edits.specs.declared.exchange.Exchange.{Exchange}
use Rattle.qg_file_edits.specs.Editing.{CanEditInode, after_inode}
use Rattle.qg_file_edits.specs.Naming.{AreCovered, AreFewNames, AreOfNamed}

-- items once pieces of a file are taken out, and then others put in
abbrev pub exchanged : ℕ → List Piece → List Piece → List Item → List Item
exchanged ino gone put items =
    with_items (map (item_of_piece ino) put) (without_items (map (item_of_piece ino) gone) items)

-- and then the INODE_ITEM
abbrev pub after_exchange : ℕ → Exchange → List Item → List Item
after_exchange ino change items = after_inode ino change.inode (exchanged ino change.gone change.put items)

-- over any disk: both lists ascend, and the run of a new extent is free
pub record IsReadyFor (space : Holding) (change : Exchange) : Type 0 where
  pub gone : AreApart change.gone
  pub put : AreApart change.put
  pub free : MatchOption change.new ⊤ (λ piece. IsTrue (is_free_run space piece.extent piece.extent_bytes))

-- items can be edited so, by so many edits at most
pub record CanEditSo (edits ino : ℕ) (change : Exchange) (items : List Item) : Type 0 where
  pub can : CanExchange ino change.gone change.put items
  pub inode : CanEditInode ino change.inode (exchanged ino change.gone change.put items)
  pub short : (steps : List Step) → AreSteps change.gone change.put steps → length steps + 1 ≤ edits

-- ---- what is named meanwhile

-- the item of each of some pieces tells this piece
abbrev pub TellPieces : ℕ → List Piece → Type 0
TellPieces ino pieces = All (λ piece. name_told (item_of_piece ino piece) ≡ Some (ino, piece)) pieces

-- what items tell is named, before steps, after each of them, and after all
abbrev pub AreCoveredThroughout : ℕ → ℕ → List Step → List Item → List (ℕ × Piece) → Type 0
AreCoveredThroughout owner ino steps items names = (count : ℕ)
    → AreCovered owner (filter_map name_told (after_steps ino (take count steps) items)) names

-- what items tell is named, each piece that comes is named besides, and so is what the items tell after all
pub record CoversExchange (owner ino : ℕ) (change : Exchange) (items : List Item) (names : List (ℕ × Piece)) : Type 0
  where
    pub tell : TellPieces ino change.put
    pub besides : AreCovered owner (names_of ino change.put ++ filter_map name_told items) names
    pub last : AreCovered owner (filter_map name_told (after_exchange ino change items)) names

-- An exchange, of so many edits at most, makes these files of others. Those that are put in are the new one and some
-- that name extents which are named already, by these files or by names of other trees, and no reference is there too
-- often meanwhile
pub record MakesFiles (edits owner ino : ℕ) (change : Exchange) (elsewhere : List (ℕ × Piece))
    (files files_new : List (ℕ × File)) : Type 0 where
  pub can : CanEditSo edits ino change (flat_map items_of_file files)
  pub made : after_exchange ino change (flat_map items_of_file files) ≡ flat_map items_of_file files_new
  pub names : AreNamesExchanged (named files) (named files_new) (names_of ino change.gone) (names_of ino change.put)
  pub put : IsPermutation (names_of ino (change.named ++ option_to_list change.new)) (names_of ino change.put)
  pub tell : TellPieces ino change.put
  pub known : AreOfNamed (named files ++ elsewhere) change.named
  pub few : AreFewNames owner (names_of ino change.put ++ named files)
