-- How few nodes a file command asks for. Positions, lengths and sizes are in bytes.
use Rattle.std.proofs.Common.{◌≡◌, ℕ, ◌+◌, ◌*◌, ◌≤◌, List, length, Option, Some, Result, Ok, Err, refl, sym, ap, ◌∙◌}
use Rattle.std.proofs.Common.{arith}
use Rattle.std.specs.Prelude.{IfOk, IsTrue}
use Rattle.std.proofs.Math.Nat.{mul-le-mul_right}
use Rattle.std.proofs.lemmas.Option.{same_Some}
use Rattle.qg_device.specs.History.{History}
use Rattle.qg_num.specs.declared.answer.Answer.{Answer}
use Rattle.qg_num.specs.declared.command.Command.{Command}
use Rattle.qg_num.specs.declared.command.Command.TheVariants.{Clone, Truncate, Unlink, Write}
use Rattle.qg_num.specs.declared.fault.BlockFault.{BlockFault}
use Rattle.qg_num.specs.declared.piece.Piece.{Piece}
use Rattle.qg_image.specs.declared.file.File.{File}
use Rattle.qg_image.specs.FilesOf.{largest_size}
use Rattle.qg_image.specs.Table.{value_at}
use Rattle.qg_image.specs.Space.{first_run}
use Rattle.qg_image.specs.State.{State, Subvolume, file_at}
use Rattle.qg_machine.specs.FileChange.{FileChange, clone_change, file_change, pieces_meeting, pieces_or_none}
use Rattle.qg_machine.specs.FileChange.{pieces_past}
use Rattle.qg_machine.specs.Work.{is_accepted}
use Rattle.qg_tree_items.specs.Writable.{AreWritableFiles}
use Rattle.qg_extents.specs.Table.{IsTable}
use Rattle.qg_inodes.specs.PiecesWritten.{pieces_met}
use Rattle.qg_open_image.specs.Files.{HoldsFiles, pieces_of}
use Rattle.qg_open_image.specs.declared.open_image.OpenImage.{OpenImage}
use Rattle.qg_open_image.specs.Keeping.{IsKept, IsKeptOf}
use Rattle.qg_open_image.proofs.Changed.{changes-here, clone-here, file-of}
use Rattle.qg_open_image.proofs.Looked.{hand-among, is-subvolume}
use Rattle.qg_open_image.proofs.Trees.{height-low}
use Rattle.qg_file_commands.specs.Reading.{AsksForFew}
use Rattle.qg_file_commands.proofs.Touched.{many-met, met-many, own-past}

-- ---- what is read

-- a tree that has the items of files has few levels
pub low : (kept : OpenImage) (history : History) (bytes : ℕ) (files : List (ℕ × File)) → IsKept kept history bytes
    → HoldsFiles kept.fs history files → kept.fs.tree.height ≤ 7
low kept history bytes files fits holds =
    height-low kept.fs history bytes _ _ (is-subvolume kept history bytes fits) holds.stands kept.fs.tree
    (hand-among kept.fs)

-- down one way
pub way-reads : (before now height : ℕ) → height ≤ 7 → now ≤ before + height + 1 → now ≤ before + 8
way-reads before now height short few = omega (arith, short, few)

few-ways : (before now ways many met : ℕ) → now ≤ before + ways → ways ≤ 8 * (2 + many) → many ≡ met
    → now ≤ before + 8 * (met + 2)
few-ways before now ways many met few most is = omega (arith, few, most, is)

-- to the pieces that a range meets
pub pieces-read : (before now height from to : ℕ) (pieces : List Piece) → height ≤ 7
    → now ≤ before + (height + 1) * (2 + length (pieces_met from to pieces))
    → now ≤ before + 8 * (pieces_meeting from to pieces + 2)
pieces-read before now height from to pieces short few =
    few-ways before now ((height + 1) * (2 + length (pieces_met from to pieces))) (length (pieces_met from to pieces))
    (pieces_meeting from to pieces) few
    (mul-le-mul_right (2 + length (pieces_met from to pieces)) (omega (arith, short))) (met-many from to pieces)

-- to a file's INODE_ITEM alone, of what may be read of it besides
pub inode-read : (before now met : ℕ) → now ≤ before + 8 → now ≤ before + 8 * (met + 3)
inode-read before now met few = omega (arith, few)

-- and then to its pieces
pub found-read : (before mid now met : ℕ) → mid ≤ before + 8 → now ≤ mid + 8 * (met + 2)
    → now ≤ before + 8 * (met + 3)
found-read before mid now met first second = omega (arith, first, second)

-- ---- what is edited then

pub write-reads : (before mid now met pieces : ℕ) → mid ≤ before + 8 * (met + 3) → now ≤ mid + 45 * (met + 3)
    → met ≡ pieces → now ≤ before + 61 * (pieces + 3)
write-reads before mid now met pieces found edit is = omega (arith, found, edit, is)

pub own-reads : (before first mid now met pieces : ℕ) → first ≤ before + 8 → mid ≤ first + 8 * (met + 2)
    → now ≤ mid + 45 * (pieces + 3) → met ≡ pieces → now ≤ before + 61 * (pieces + 3)
own-reads before first mid now met pieces inode read edit is = omega (arith, inode, read, edit, is)

pub target-reads : (before mid now target source pieces : ℕ) → mid ≤ before + 8 * (target + 3)
    → now ≤ mid + 45 * (target + source + 3) → target + source ≡ pieces → now ≤ before + 53 * (pieces + 3)
target-reads before mid now target source pieces found edit is = omega (arith, found, edit, is)

-- the source is read before the target
pub source-read : (before first mid source pieces : ℕ) → first ≤ before + 8 → mid ≤ first + 8 * (source + 2)
    → source ≤ pieces → mid ≤ before + 8 * (pieces + 3)
source-read before first mid source pieces inode read few = omega (arith, inode, read, few)

both-reads : (before mid now pieces : ℕ) → mid ≤ before + 8 * (pieces + 3) → now ≤ mid + 53 * (pieces + 3)
    → now ≤ before + 61 * (pieces + 3)
both-reads before mid now pieces source target = omega (arith, source, target)

pub asked-then : (result : Result Answer BlockFault) (kept : OpenImage) (history : History) (command : Command)
    (before mid now : ℕ) → ((state : State) (change : FileChange) → IsKeptOf kept state history
    → file_change state command ≡ Some change
    → IfOk result (λ answer. IsTrue (is_accepted answer) → now ≤ mid + 53 * (change.pieces + 3))
    × (mid ≤ before + 8 * (change.pieces + 3)))
    → IfOk result (λ answer. AsksForFew kept history command answer before now)
asked-then (Ok answer) kept history command before mid now said = λ accepted state change keeps told.
    let few = said state change keeps told in
    both-reads before mid now change.pieces few.1 (few.0 accepted)
asked-then (Err fault) kept history command before mid now said = tt

-- ---- the pieces that a change touches

module _ (kept : OpenImage) (state : State) (history : History) (bytes : ℕ) (fits : IsKept kept history bytes)
    (keeps : IsKeptOf kept state history) (table : IsTable kept.fs.refs.refs) (change : FileChange) where
  pub write-pieces : (sub ino off len run : ℕ) → sub ≡ kept.fs.tree.owner → Some run ≡ first_run state len
      → file_change state (Write sub ino off len) ≡ Some change
      → pieces_meeting off (off + len) (pieces_of ino keeps.files) ≡ change.pieces
  write-pieces sub ino off len run top found told =
      ap (λ (c : FileChange). c.pieces)
      (same_Some _ change
      (sym ((changes-here kept state history bytes fits keeps table).write ino off len run (sym found))
      ∙ ap (λ (n : ℕ). file_change state (Write n ino off len)) (sym top) ∙ told))

  pub cut-pieces : (sub ino size : ℕ) (file : File) → sub ≡ kept.fs.tree.owner → value_at ino keeps.files ≡ Some file
      → file_change state (Truncate sub ino size) ≡ Some change → pieces_past size file.pieces ≡ change.pieces
  cut-pieces sub ino size file top there told =
      ap (λ (c : FileChange). c.pieces)
      (same_Some _ change
      (sym ((changes-here kept state history bytes fits keeps table).cut ino size file there)
      ∙ ap (λ (n : ℕ). file_change state (Truncate n ino size)) (sym top) ∙ told))

  pub unlink-pieces : (sub ino : ℕ) (file : File) → sub ≡ kept.fs.tree.owner → value_at ino keeps.files ≡ Some file
      → file_change state (Unlink sub ino) ≡ Some change → length file.pieces ≡ change.pieces
  unlink-pieces sub ino file top there told =
      ap (λ (c : FileChange). c.pieces)
      (same_Some _ change
      (sym ((changes-here kept state history bytes fits keeps table).unlink ino file there)
      ∙ ap (λ (n : ℕ). file_change state (Unlink n ino)) (sym top) ∙ told))

  pub clone-pieces : (sub : ℕ) (source : Subvolume) → value_at sub state.subvolumes ≡ Some source
      → (ino off len to_sub to_ino to_off : ℕ) → to_sub ≡ kept.fs.tree.owner
      → file_change state (Clone sub ino off len to_sub to_ino to_off) ≡ Some change
      → pieces_meeting to_off (to_off + len) (pieces_of to_ino keeps.files)
      + pieces_meeting off (off + len) (pieces_of ino source.files) ≡ change.pieces
  clone-pieces sub source there ino off len to_sub to_ino to_off top told =
      ap (λ (c : FileChange). c.pieces)
      (same_Some _ change
      (sym (clone-here kept state history bytes fits keeps table sub source there ino off len to_ino to_off)
      ∙ ap (λ (n : ℕ). file_change state (Clone sub ino off len n to_ino to_off)) (sym top) ∙ told))

part-few : (target source own pieces : ℕ) → target + source ≡ pieces → source ≡ own → own ≤ pieces
part-few target source own pieces sum is = omega (arith, sum, is)

-- the source's are among them
pub source-pieces : (state : State) (sub : ℕ) (source : Subvolume) → value_at sub state.subvolumes ≡ Some source
    → (ino off len to_sub to_ino to_off : ℕ) (change : FileChange)
    → file_change state (Clone sub ino off len to_sub to_ino to_off) ≡ Some change
    → pieces_meeting off (off + len) (pieces_of ino source.files) ≤ change.pieces
unfolding file_change
source-pieces state sub source there ino off len to_sub to_ino to_off change told =
    part-few (pieces_meeting to_off (to_off + len) (pieces_or_none (file_at state to_sub to_ino)))
    (pieces_meeting off (off + len) (pieces_or_none (file_at state sub ino)))
    (pieces_meeting off (off + len) (pieces_of ino source.files)) change.pieces
    (ap (λ (c : FileChange). c.pieces)
    (same_Some (clone_change state sub ino off len to_sub to_ino to_off) change told))
    (ap (λ (file : Option File). pieces_meeting off (off + len) (pieces_or_none file))
    (file-of state sub ino source there))

-- ---- of a file that is there

module _ (ino : ℕ) (file : File) (files : List (ℕ × File)) (there : value_at ino files ≡ Some file)
    (are : AreWritableFiles files) where
  pub past-read : (size : ℕ) → pieces_meeting size largest_size (pieces_of ino files) ≡ pieces_past size file.pieces
  past-read size =
      sym (met-many size largest_size (pieces_of ino files))
      ∙ own-past ino file files there size (pieces_met size largest_size (pieces_of ino files)) refl are

  pub all-read : pieces_meeting 0 largest_size (pieces_of ino files) ≡ length file.pieces
  all-read =
      sym (met-many 0 largest_size (pieces_of ino files))
      ∙ many-met ino file files there are (pieces_met 0 largest_size (pieces_of ino files)) refl
