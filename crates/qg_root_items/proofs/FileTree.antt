-- The items of files, all together.
use Rattle.std.proofs.Common.{◌≡◌, ℕ, ◌+◌, ◌*◌, ◌≤◌, ◌<◌, ◌^◌, true, List, [], ◌∷◌, ◌++◌, map, length, refl, sym, ◌∙◌}
use Rattle.std.proofs.Common.{subst, arith, lit<}
use Rattle.std.specs.Prelude.{Some, All}
use Rattle.std.specs.Bool.{then_some}
use Rattle.std.specs.List.{AllByRecursion, flat_map, list_all, sum_by}
use Rattle.std.proofs.lemmas.Bool.{eq-eqb, le-leb, lt-ltb}
use Rattle.std.proofs.lemmas.List.{append_assoc, append-nil}
use Rattle.std.proofs.lemmas.List.Elements.{All-append, All-cons, All-nil, recursion_from_All}
use Rattle.std.proofs.lemmas.List.Sums.{sum_by-append, sum_by-cons}
use Rattle.qg_num.specs.declared.piece.Piece.{Piece}
use Rattle.qg_node.specs.declared.item.Item.{Item}
use Rattle.qg_node.specs.Fits.{ItemFits}
use Rattle.qg_node.specs.Nodes.{is_ascending, item_bytes, items_bytes}
use Rattle.qg_items.specs.ItemText.{inode_text, extent_data_text}
use Rattle.qg_items.proofs.FileBodies.{length-inode_text, length-extent_data_text}
use Rattle.qg_image.specs.declared.file.File.{File}
use Rattle.qg_image.specs.declared.part.FilePart.{FilePart}
use Rattle.qg_image.specs.FilesOf.{are_files, files_in, files_of, is_file_item, pieces_bytes, AreItemsOfFiles}
use Rattle.qg_tree_items.specs.Keys.{file_key}
use Rattle.qg_tree_items.specs.Files.{FileItems, is_file_of}
use Rattle.qg_tree_items.proofs.PiecesOfFile.{file_small}
use Rattle.qg_tree_items.proofs.Standing.{StartsOther}
use Rattle.qg_tree_items.proofs.Reading.{IsNext, IsReading, IsReading-none, IsReading-more, IsReading-all}
use Rattle.qg_tree_items.proofs.Reading.{file_told-judged}
use Rattle.qg_image.specs.Need.{file_bytes}
use Rattle.qg_image.specs.Walk.{is_item_of}
use Rattle.qg_image.specs.declared.tree.TreeKind.TheVariants.{Files}
use Rattle.qg_tree_items.specs.Writable.{AreWritableFiles, IsWritableFile, IsFileBy}
use Rattle.qg_root_items.specs.Written.{inode_of, extent_data_of, item_of_inode, item_of_piece, items_of_file}
use Rattle.qg_node.proofs.ItemUnder.{item-fits}
use Rattle.qg_root_items.proofs.Bodies.{inode_text-AreBytes, extent_data_text-AreBytes}
use Rattle.qg_root_items.proofs.FileBounds.{FileFits, IsSoundFile, IsWithin, file_fits, sound_file}
use Rattle.qg_root_items.proofs.FileParts.{AreStampsBy, parts_of_file, files_told, files_allowed}
use Rattle.qg_root_items.proofs.FileKeys.{Rise, Rise-numbers, items-ascending, parts-ascending}

-- ---- what is read of the items

-- what the items of one file say, as a reader of them has it
abbrev told_of : ℕ × File → FileItems
told_of file = record { ino = file.0; inode = inode_of file.1; pieces = file.1.pieces }

is_file_told : (file : ℕ × File) → IsWritableFile file → is_file_of file.0 (inode_of file.1) file.1 ≡ true
is_file_told file is =
    rw (
      le-leb 257 file.0 is.least,
      lt-ltb file.0 281474976710656 is.below,
      is.sound,
      eq-eqb
          (pieces_bytes file.1.pieces) (pieces_bytes file.1.pieces) refl,
    ) refl

starts_other : (ino : ℕ) (files : List (ℕ × File)) → StartsOther ino (flat_map parts_of_file files)
starts_other ino [] = tt
starts_other ino (file ∷ files) = refl

next_file : (file : ℕ × File) (files : List (ℕ × File))
    → IsNext (flat_map parts_of_file (file ∷ files)) (told_of file) (flat_map parts_of_file files)
next_file file files = record { stands = refl; other = starts_other file.0 files }

reading : (parts : List FilePart) (done left : List (ℕ × File)) → AllByRecursion IsWritableFile left
    → IsReading parts (flat_map parts_of_file left) done → IsReading parts [] (done ++ left)
reading parts done [] are is = rw append-nil is
reading parts done (file ∷ left) are is =
    let told = file_told-judged (told_of file) true (is_file_told file are.0) in
    let more = IsReading-more parts (flat_map parts_of_file (file ∷ left)) done (told_of file)
    (flat_map parts_of_file left) file.1 is (next_file file left) told in
    let here : List (ℕ × File) = file ∷ [] in
    subst (λ (all : List (ℕ × File)). IsReading parts [] all) (append_assoc done here left)
    (reading parts (done ++ here) left are.1 more)

parts-read : (files : List (ℕ × File)) → AllByRecursion IsWritableFile files
    → is_ascending (map file_key (flat_map parts_of_file files)) ≡ true
    → Some files ≡ then_some (are_files (flat_map parts_of_file files)) (files_in (flat_map parts_of_file files))
parts-read files are ascending =
    let parts = flat_map parts_of_file files in
    IsReading-all parts [] files refl (reading parts [] files are (IsReading-none parts ascending))

-- ---- what can be written, by recursion

pub record AreWritten (files : List (ℕ × File)) : Type 0 where
  pub each : AllByRecursion IsWritableFile files
  pub sound : AllByRecursion (λ file. IsSoundFile file.1) files
  pub rise : Rise 0 files

all_sound : (files : List (ℕ × File)) → AllByRecursion IsWritableFile files
    → AllByRecursion (λ file. IsSoundFile file.1) files
all_sound [] are = tt
all_sound (file ∷ files) are = (sound_file file.1 are.0.sound, all_sound files are.1)

all_above : (files : List (ℕ × File)) → AllByRecursion IsWritableFile files → AllByRecursion (λ file. 0 < file.0) files
all_above [] are = tt
all_above (file ∷ files) are =
    let least : 257 ≤ file.0 = are.0.least in
    (omega arith, all_above files are.1)

pub pieces_small : (file : ℕ × File) → IsWritableFile file → pieces_bytes file.1.pieces < 2 ^ 64
pieces_small file is = omega (arith, file_small file.1 is.sound)

pub AreWritten-writable : (files : List (ℕ × File)) → AreWritableFiles files → AreWritten files
AreWritten-writable files are =
    let each = recursion_from_All IsWritableFile files are.each in
    record { each = each; sound = all_sound files each; rise = Rise-numbers files (all_above files each) are.ascending }

all_fit : (generation : ℕ) (files : List (ℕ × File)) → generation < 2 ^ 64 → AllByRecursion IsWritableFile files
    → AllByRecursion (IsFileBy generation) files
    → AllByRecursion (λ file. FileFits file.1) files
all_fit generation [] small are by = tt
all_fit generation (file ∷ files) small are by =
    (file_fits generation file small are.0 by.0, all_fit generation files small are.1 by.1)

all_by : (generation : ℕ) (files : List (ℕ × File)) → AllByRecursion (IsFileBy generation) files
    → AllByRecursion (λ file. AreStampsBy generation file.1) files
all_by generation [] by = tt
all_by generation (file ∷ files) by =
    let first : AreStampsBy generation file.1 = record {
      made = by.0.made;
      changed = by.0.changed;
      stamped = recursion_from_All (λ (piece : Piece). piece.stamp ≤ generation) file.1.pieces by.0.stamped;
    } in
    (first, all_by generation files by.1)

-- ---- the clauses

pub file_items-allowed : (generation : ℕ) (files : List (ℕ × File)) → AreWritableFiles files → generation < 2 ^ 64
    → All (IsFileBy generation) files
    → list_all (is_file_item generation) (flat_map items_of_file files) ≡ true
file_items-allowed generation files are small by =
    let stamps = recursion_from_All (IsFileBy generation) files by in
    files_allowed generation files (all_fit generation files small (AreWritten-writable files are).each stamps)
    (all_by generation files stamps)

pub file_items-of_tree : (generation : ℕ) (files : List (ℕ × File)) → AreWritableFiles files → generation < 2 ^ 64
    → All (IsFileBy generation) files
    → list_all (is_item_of Files generation) (flat_map items_of_file files) ≡ true
unfolding is_item_of
file_items-of_tree generation files are small by = file_items-allowed generation files are small by

pub file_items-told : (generation : ℕ) (files : List (ℕ × File)) → AreWritableFiles files → generation < 2 ^ 64
    → All (IsFileBy generation) files
    → AreItemsOfFiles generation (flat_map items_of_file files) files
unfolding files_of
file_items-told generation files are small by =
    let written = AreWritten-writable files are in
    let told = files_told files
    (all_fit generation files small written.each (recursion_from_All (IsFileBy generation) files by)) in
    rw (file_items-allowed generation files are small by, told)
    (sym (parts-read files written.each (parts-ascending files written.rise written.sound)))

pub file_items-ascending : (files : List (ℕ × File)) → AreWritableFiles files
    → is_ascending (map (λ (item : Item). item.key) (flat_map items_of_file files)) ≡ true
file_items-ascending files are =
    let written = AreWritten-writable files are in
    items-ascending files written.rise written.sound

-- ---- each item

pieces_each : (P : Item → Type 0) (ino : ℕ) (pieces : List Piece) → ((piece : Piece) → P (item_of_piece ino piece))
    → All P (map (item_of_piece ino) pieces)
pieces_each P ino [] each = All-nil P
pieces_each P ino (piece ∷ pieces) each = All-cons P (item_of_piece ino piece) (map (item_of_piece ino) pieces)
    (each piece) (pieces_each P ino pieces each)

pub file_items-short : (files : List (ℕ × File))
    → All (λ (item : Item). length item.body ≤ 1024) (flat_map items_of_file files)
file_items-short [] = All-nil (λ (item : Item). length item.body ≤ 1024)
file_items-short (file ∷ files) =
    let P : Item → Type 0 = λ item. length item.body ≤ 1024 in
    let first : P (item_of_inode file.0 file.1) = omega (arith, length-inode_text (inode_of file.1)) in
    let pieces = pieces_each P file.0 file.1.pieces
    (λ piece. omega (arith, length-extent_data_text (extent_data_of piece))) in
    All-append P (items_of_file file) (flat_map items_of_file files)
    (All-cons P (item_of_inode file.0 file.1) (map (item_of_piece file.0) file.1.pieces) first pieces)
    (file_items-short files)

pieces_fit : (ino size : ℕ) (pieces : List Piece) → ino < 2 ^ 64 → size ≤ 2 ^ 40 → AllByRecursion (IsWithin size) pieces
    → All ItemFits (map (item_of_piece ino) pieces)
pieces_fit ino size [] numbered small within = All-nil ItemFits
pieces_fit ino size (piece ∷ pieces) numbered small within =
    let ends : piece.position + piece.len ≤ size = within.0.ends in
    let first = item-fits ino 108 piece.position (extent_data_text (extent_data_of piece)) numbered (lit< tt)
    (omega arith) (extent_data_text-AreBytes (extent_data_of piece)) in
    All-cons ItemFits (item_of_piece ino piece) (map (item_of_piece ino) pieces) first
    (pieces_fit ino size pieces numbered small within.1)

items_fit : (files : List (ℕ × File)) → AllByRecursion IsWritableFile files
    → AllByRecursion (λ file. IsSoundFile file.1) files
    → All ItemFits (flat_map items_of_file files)
items_fit [] are sound = All-nil ItemFits
items_fit (file ∷ files) are sound =
    let below : file.0 < 281474976710656 = are.0.below in
    let numbered : file.0 < 2 ^ 64 = omega arith in
    let first = item-fits file.0 1 0 (inode_text (inode_of file.1)) numbered (lit< tt) (lit< tt)
    (inode_text-AreBytes (inode_of file.1)) in
    let pieces = pieces_fit file.0 file.1.size file.1.pieces numbered sound.0.small sound.0.each in
    All-append ItemFits (items_of_file file) (flat_map items_of_file files)
    (All-cons ItemFits (item_of_inode file.0 file.1) (map (item_of_piece file.0) file.1.pieces) first pieces)
    (items_fit files are.1 sound.1)

pub file_items-fit : (files : List (ℕ × File)) → AreWritableFiles files → All ItemFits (flat_map items_of_file files)
file_items-fit files are =
    let written = AreWritten-writable files are in
    items_fit files written.each written.sound

-- ---- what they take

pieces_bytes_taken : (ino : ℕ) (pieces : List Piece) → items_bytes (map (item_of_piece ino) pieces) ≡ 78 * length pieces
pieces_bytes_taken ino [] = refl
pieces_bytes_taken ino (piece ∷ pieces) =
    let taken = pieces_bytes_taken ino pieces in
    let first = length-extent_data_text (extent_data_of piece) in
    sum_by-cons item_bytes (item_of_piece ino piece) (map (item_of_piece ino) pieces) ∙ omega (arith, taken, first)

file_bytes_taken : (file : ℕ × File) → items_bytes (items_of_file file) ≡ file_bytes file.1
file_bytes_taken file =
    let taken = pieces_bytes_taken file.0 file.1.pieces in
    let first = length-inode_text (inode_of file.1) in
    sum_by-cons item_bytes (item_of_inode file.0 file.1) (map (item_of_piece file.0) file.1.pieces)
    ∙ omega (arith, taken, first)

pub file_items-bytes : (files : List (ℕ × File))
    → items_bytes (flat_map items_of_file files) ≡ sum_by (λ file. file_bytes file.1) files
file_items-bytes [] = refl
file_items-bytes (file ∷ files) =
    sum_by-append item_bytes (items_of_file file) (flat_map items_of_file files)
    ∙ rw (file_bytes_taken file, file_items-bytes files)
    (sym (sum_by-cons (λ (entry : ℕ × File). file_bytes entry.1) file files))
