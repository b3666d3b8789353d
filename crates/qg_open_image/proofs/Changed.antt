-- What file commands change of the subvolume at hand, told by what is kept. Positions and lengths are in bytes.
use Rattle.std.proofs.Common.{◌≡◌, ℕ, ◌+◌, ◌≤◌, List, Some, None, Option, refl, ap, subst, ◌∙◌}
use Rattle.std.proofs.lemmas.List.Elements.{All-contains, All-nil}
use Rattle.qg_device.specs.History.{History}
use Rattle.qg_num.specs.declared.command.Command.TheVariants.{Clone}
use Rattle.qg_num.specs.declared.piece.Piece.{Piece}
use Rattle.qg_image.specs.declared.file.File.{File}
use Rattle.qg_image.specs.Table.{value_at}
use Rattle.qg_image.specs.State.{State, Subvolume, file_at}
use Rattle.qg_image.specs.Verdict.{longest_extent}
use Rattle.qg_machine.specs.FileChange.{file_change, pieces_meeting, pieces_or_none}
use Rattle.qg_extents.specs.Table.{IsTable}
use Rattle.qg_owner_rule.proofs.Reaching.{entry_of_value}
use Rattle.qg_fs_laws.specs.Changes.{files_cloned_from}
use Rattle.qg_fs_laws.specs.Files.{pieces_of}
use Rattle.qg_fs_laws.proofs.Files.{file-found}
use Rattle.qg_fs_laws.specs.Keeping.{TellsChanges}
use Rattle.qg_fs_laws.proofs.Others.{changes-told}
use Rattle.qg_fs_laws.specs.Committing.{AreShort, AreShortPieces, IsShort}
use Rattle.qg_open_image.specs.declared.open_image.OpenImage.{OpenImage}
use Rattle.qg_open_image.specs.Keeping.{IsKept, IsKeptOf}
use Rattle.qg_open_image.proofs.Stepped.{change_to, tree-kept}

-- a file of a subvolume that is there
pub file-of : (state : State) (sub ino : ℕ) (from : Subvolume) → value_at sub state.subvolumes ≡ Some from
    → file_at state sub ino ≡ value_at ino from.files
file-of state sub ino from there = rw there refl

module _ (kept : OpenImage) (state : State) (history : History) (bytes : ℕ) (fits : IsKept kept history bytes)
    (keeps : IsKeptOf kept state history) (table : IsTable kept.fs.refs.refs) where
  pub changes-here : TellsChanges state kept.fs.tree.owner kept.fs.tree.next kept.fs.land.space.sizes.nodesize
      keeps.files
  changes-here =
      changes-told kept.fs history bytes state keeps.mine keeps.files
      (tree-kept kept state history bytes fits keeps table) keeps.keeps

  -- a clone reads a file of any subvolume
  pub clone-here : (sub : ℕ) (source : Subvolume) → value_at sub state.subvolumes ≡ Some source
      → (other from len ino off : ℕ)
      → file_change state (Clone sub other from len kept.fs.tree.owner ino off)
      ≡ Some (change_to kept.fs.tree.owner
      (files_cloned_from kept.fs.tree.next (pieces_of other source.files) from len ino off keeps.files)
      kept.fs.land.space.sizes.nodesize (pieces_meeting off (off + len) (pieces_of ino keeps.files)
      + pieces_meeting from (from + len) (pieces_of other source.files)))
  clone-here sub source there other from len ino off =
      changes-here.clone sub other from len ino off
      ∙ ap (λ (file : Option File). Some (change_to kept.fs.tree.owner
      (files_cloned_from kept.fs.tree.next (pieces_or_none file) from len ino off keeps.files)
      kept.fs.land.space.sizes.nodesize (pieces_meeting off (off + len) (pieces_of ino keeps.files)
      + pieces_meeting from (from + len) (pieces_or_none file)))) (file-of state sub other source there)

-- where files name no long extent, neither do the pieces of one
pub short-pieces : (files : List (ℕ × File)) (ino : ℕ) → AreShort files → AreShortPieces (pieces_of ino files)
short-pieces files ino short = by (value_at ino files) refl where
  by : (found : Option File) → value_at ino files ≡ found → AreShortPieces (pieces_or_none found)
  by None is = All-nil (λ (piece : Piece). piece.extent_bytes ≤ longest_extent)
  by (Some file) is = file-found (λ (entry : ℕ × File). AreShortPieces entry.1.pieces) ino file files is short

-- nor do those of one subvolume's, where all subvolumes' name none
pub short-files : (state : State) (sub : ℕ) (mine : Subvolume) → IsShort state
    → value_at sub state.subvolumes ≡ Some mine → AreShort mine.files
short-files state sub mine short there =
    All-contains (λ (entry : ℕ × Subvolume). AreShort entry.1.files) state.subvolumes (sub, mine) short
    (entry_of_value sub mine state.subvolumes there)

pub hand-short : (kept : OpenImage) (state : State) (history : History) (keeps : IsKeptOf kept state history)
    → AreShort keeps.files
hand-short kept state history keeps =
    subst (λ (files : List (ℕ × File)). AreShort files) keeps.keeps.are
    (short-files state kept.fs.tree.owner keeps.mine keeps.short keeps.keeps.there)
