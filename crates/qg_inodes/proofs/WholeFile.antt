-- What the reading of a whole file answers.
use Rattle.std.proofs.Common.{◌≡◌, ℕ, ◌+◌, ◌*◌, ◌≤◌, List, length, Some, None, sym, ap, subst, ◌∙◌, arith}
use Rattle.std.specs.Prelude.{Err, Option, Result}
use Rattle.std.specs.Option.{option_map}
use Rattle.std.proofs.Math.Nat.{mul-add}
use Rattle.std.proofs.lemmas.Option.{same_Some}
use Rattle.qg_device.specs.History.{History}
use Rattle.qg_num.specs.declared.fault.BlockFault.{BlockFault}
use Rattle.qg_num.specs.declared.piece.Piece.{Piece}
use Rattle.qg_items.specs.declared.file.InodeItem.{InodeItem}
use Rattle.qg_image.specs.declared.file.File.{File}
use Rattle.qg_image.specs.FilesOf.{largest_size}
use Rattle.qg_image.specs.Table.{value_at}
use Rattle.qg_image.specs.declared.tree.TreeKind.TheVariants.{Files}
use Rattle.qg_machine.specs.FileChange.{pieces_or_none}
use Rattle.qg_root_items.specs.Written.{inode_of}
use Rattle.qg_blocks.specs.NodesInMemory.{Draft, Held}
use Rattle.qg_blocks.specs.NodesFound.{BreaksNone}
use Rattle.qg_tree_read.specs.Tree.{Root}
use Rattle.qg_tree_read.specs.Way.{HasRead}
use Rattle.qg_tree_read.proofs.Reached.{tells-read}
use Rattle.qg_inodes.specs.PiecesWritten.{pieces_met}
use Rattle.qg_inodes.specs.Pieces.{pieces_at}
use Rattle.qg_inodes.specs.TreeFiles.{TellsFiles}
use Rattle.qg_inodes.proofs.Answered.{unbroken-other}
use Rattle.qg_inodes.proofs.Meeting.{all-met}
use Rattle.qg_inodes.proofs.PiecesRead.{has}

-- files are told after a reading
pub files-after : (root : Root) (old new : Held) (before after : History) (bytes left : ℕ)
    → HasRead old new before after bytes left → (files : List (ℕ × File)) → TellsFiles root old.draft before files
    → TellsFiles root new.draft after files
files-after root old new before after bytes left read files tells = record {
  items = tells.items;
  tells = tells-read Files root old new before after bytes left tells.items read tells.tells;
  generation = tells.generation;
  are = tells.are;
}

-- a fault that is handed on breaks no rule
pub handed-sound : (A : Type 0) {B : Type 0} (result : Result B BlockFault) (fault : BlockFault) → result ≡ Err fault
    → BreaksNone {A = A} (Err fault)
    → BreaksNone result
handed-sound A {B} result fault is none =
    subst (λ (r : Result B BlockFault). BreaksNone r) (sym is) (unbroken-other A B fault none)

-- no piece lies past the largest size
pub all-pieces : (root : Root) (draft : Draft) (history : History) (files : List (ℕ × File))
    → TellsFiles root draft history files → (ino : ℕ)
    → pieces_met 0 largest_size (pieces_at ino files) ≡ pieces_at ino files
all-pieces root draft history files tells ino =
    let told = has root draft history files tells ino in
    all-met largest_size 0 told.size (pieces_at ino files) told.small told.sound

file_whole : (told : Option File) (inode : InodeItem) (pieces : List Piece) → Some inode ≡ option_map inode_of told
    → pieces ≡ pieces_or_none told
    → Some (record {
      size = inode.size;
      generation = inode.generation;
      transid = inode.transid;
      pieces = pieces;
    }) ≡ told
file_whole None inode pieces is are = absurd cc
file_whole (Some file) inode pieces is are =
    let same = same_Some inode (inode_of file) is in
    λ i. Some (record {
      size = (same i).size;
      generation = (same i).generation;
      transid = (same i).transid;
      pieces = are i;
    })

pub file-whole : (root : Root) (draft : Draft) (history : History) (files : List (ℕ × File))
    → TellsFiles root draft history files → (ino : ℕ) (inode : InodeItem) (pieces : List Piece)
    → Some inode ≡ option_map inode_of (value_at ino files) → pieces ≡ pieces_met 0 largest_size (pieces_at ino files)
    → Some (record {
      size = inode.size;
      generation = inode.generation;
      transid = inode.transid;
      pieces = pieces;
    }) ≡ value_at ino files
file-whole root draft history files tells ino inode pieces is are =
    file_whole (value_at ino files) inode pieces is (are ∙ all-pieces root draft history files tells ino)

-- the steps of both
pub steps-whole : (root : Root) (draft : Draft) (history : History) (files : List (ℕ × File))
    → TellsFiles root draft history files → (ino steps first second third : ℕ) → second ≤ first + steps
    → third ≤ second + steps * (2 + length (pieces_met 0 largest_size (pieces_at ino files)))
    → third ≤ first + steps * (3 + length (pieces_at ino files))
steps-whole root draft history files tells ino steps first second third one more =
    let count = length (pieces_at ino files) in
    let all = ap (λ (ps : List Piece). second + steps * (2 + length ps))
    (all-pieces root draft history files tells ino) in
    let parts : steps * (1 + (2 + count)) ≡ steps * 1 + steps * (2 + count) = mul-add steps 1 (2 + count) in
    let same : steps * (3 + count) ≡ steps * (1 + (2 + count)) = ap (λ (n : ℕ). steps * n) (omega arith) in
    omega (arith, one, more, all, parts, same)
