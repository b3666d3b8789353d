-- The numbers of files and the keys of their items ascend together.
use Rattle.std.proofs.Common.{◌≡◌, ℕ, ◌+◌, ◌<◌, ◌≤◌, true, List, [], ◌∷◌, ◌++◌, map, refl, sym, ap, ◌∙◌, arith, inl}
use Rattle.std.proofs.Common.{inr}
use Rattle.std.specs.List.{AllByRecursion, flat_map}
use Rattle.std.specs.List.Sorted.{IsStrictlyIncreasing}
use Rattle.std.specs.Ordering.{is_lt, nat_cmp}
use Rattle.std.specs.Cmp.{nat_cmp_is}
use Rattle.std.specs.declared.cmp.Ordering.TheVariants.{Less, Equal}
use Rattle.std.proofs.lemmas.Bool.{and_from, cases_eq, cases_lt, true≢false}
use Rattle.std.proofs.lemmas.List.{append-nil}
use Rattle.std.proofs.lemmas.List.Elements.{recursion_from_All}
use Rattle.qg_num.specs.declared.key.Key.{Key}
use Rattle.qg_num.specs.declared.piece.Piece.{Piece}
use Rattle.qg_num.specs.Key.{key_cmp}
use Rattle.qg_node.specs.declared.item.Item.{Item}
use Rattle.qg_node.specs.Nodes.{ascends_from, is_ascending}
use Rattle.qg_image.specs.declared.file.File.{File}
use Rattle.qg_image.specs.FilesOf.{are_pieces, piece_end}
use Rattle.qg_image.specs.Table.{keys_of}
use Rattle.qg_image.proofs.Pieces.{FirstPiece-are_pieces, WholeFile-is_file, WholePiece-is_piece}
use Rattle.qg_tree_items.specs.Keys.{key_with}
use Rattle.qg_tree_items.specs.Writable.{AreWritableFiles, IsWritableFile}
use Rattle.qg_root_items.specs.Written.{item_of_inode, item_of_piece, items_of_file}
use Rattle.qg_shape.proofs.Ascending.{less_trans, not_itself}
use Rattle.qg_files.proofs.Ascending.{Ascends, Ascends-increasing, increasing-Ascends}
use Rattle.qg_edit.proofs.Lists.{keys_of as keys_of_items}
use Rattle.qg_inodes.specs.Bodies.{Ascend}
use Rattle.qg_inodes.proofs.BodiesByKey.{AreGreater, first_least, greater-first, greater-later, later_ascend}

-- ---- two keys

is_less : (a b : ℕ) → a < b → nat_cmp a b ≡ Less
is_less a b h = sym (nat_cmp_is a b Less h)

is_same : (a : ℕ) → nat_cmp a a ≡ Equal
is_same a = sym (nat_cmp_is a a Equal refl)

-- a key of a lesser number is before
by_number : (low key : Key) → low.objectid < key.objectid → is_lt (key_cmp low key) ≡ true
by_number low key less = rw (is_less low.objectid key.objectid less) refl

-- an INODE_ITEM is before its pieces
by_kind : (ino position : ℕ) → is_lt (key_cmp (key_with ino 1 0) (key_with ino 108 position)) ≡ true
by_kind ino position = rw (is_same ino) refl

-- and a piece before one of a greater position
by_position : (ino from to : ℕ) → from < to → is_lt (key_cmp (key_with ino 108 from) (key_with ino 108 to)) ≡ true
by_position ino from to less = rw (is_same ino, is_less from to less) refl

-- where the key of one INODE_ITEM is less than that of another, so is the number
number_of : (a b : ℕ) → is_lt (key_cmp (key_with a 1 0) (key_with b 1 0)) ≡ true → a < b
number_of a b less = elim (cases_lt a b) [
  | inl is ↦ is
  | inr past ↦ elim (cases_eq a b) [
    | inl same ↦
        let itself = rw same at less in
        absurd (true≢false (sym itself ∙ not_itself (key_with b 1 0)))
    | inr differ ↦
        let more = by_number (key_with b 1 0) (key_with a 1 0) (omega arith) in
        let itself = less_trans (key_with a 1 0) (key_with b 1 0) (key_with a 1 0) less more in
        absurd (true≢false (sym itself ∙ not_itself (key_with a 1 0)))
  ]
]

-- ---- a file's pieces, and what stands behind them

-- items that ascend behind each key of a number
record Follow (ino : ℕ) (rest : List Item) : Type 0 where
  after : (kind offset : ℕ) → ascends_from (key_with ino kind offset) (keys_of_items rest) ≡ true

pieces_ascend : (ino kind offset from size : ℕ) (pieces : List Piece) (rest : List Item)
    → ((position : ℕ) → from ≤ position → is_lt (key_cmp (key_with ino kind offset) (key_with ino 108 position)) ≡ true)
    → are_pieces from size pieces ≡ true → Follow ino rest
    → ascends_from (key_with ino kind offset) (keys_of_items (map (item_of_piece ino) pieces ++ rest)) ≡ true
unfolding ascends_from
pieces_ascend ino kind offset from size [] rest before are follow = follow.after kind offset
pieces_ascend ino kind offset from size (piece ∷ pieces) rest before are follow =
    let first = FirstPiece-are_pieces from size piece pieces are in
    let some : 0 < piece.len = (WholePiece-is_piece piece first.is).some in
    let later =
    pieces_ascend ino 108 piece.position (piece_end piece) size pieces rest
    (λ position above. by_position ino piece.position position (omega arith)) first.rest follow
    in
    and_from (is_lt (key_cmp (key_with ino kind offset) (key_with ino 108 piece.position)))
    (ascends_from (key_with ino 108 piece.position) (keys_of_items (map (item_of_piece ino) pieces ++ rest)))
    (before piece.position first.begins) later

-- alone they ascend
pub pieces-ascend : (ino size : ℕ) (pieces : List Piece) → are_pieces 0 size pieces ≡ true
    → Ascend (map (item_of_piece ino) pieces)
unfolding is_ascending ascends_from
pieces-ascend ino size [] are = refl
pieces-ascend ino size (piece ∷ pieces) are =
    let first = FirstPiece-are_pieces 0 size piece pieces are in
    let some : 0 < piece.len = (WholePiece-is_piece piece first.is).some in
    let none : Follow ino [] = record { after = λ kind offset. refl } in
    let behind =
    pieces_ascend ino 108 piece.position (piece_end piece) size pieces []
    (λ position above. by_position ino piece.position position (omega arith)) first.rest none
    in
    ap (λ (items : List Item). ascends_from (key_with ino 108 piece.position) (keys_of_items items))
    (sym (append-nil (map (item_of_piece ino) pieces)))
    ∙ behind

-- ---- all files

abbrev HasPieces : ℕ × File → Type 0
HasPieces file = are_pieces 0 file.1.size file.1.pieces ≡ true

file_ascends : (file : ℕ × File) (rest : List Item) → HasPieces file → Follow file.0 rest
    → ascends_from (key_with file.0 1 0) (keys_of_items (map (item_of_piece file.0) file.1.pieces ++ rest)) ≡ true
file_ascends file rest has follow =
    pieces_ascend file.0 1 0 0 file.1.size file.1.pieces rest (λ position above. by_kind file.0 position) has follow

files_follow : (ino : ℕ) (files : List (ℕ × File)) → Ascends (ino + 1) files → AllByRecursion HasPieces files
    → Follow ino (flat_map items_of_file files)
unfolding ascends_from Ascends
files_follow ino [] up have = record { after = λ kind offset. refl }
files_follow ino (file ∷ files) up have =
    let rest = flat_map items_of_file files in
    let less : ino < file.0 = omega (arith, up.0) in
    let later = files_follow file.0 files up.1 have.1 in
    record {
      after = λ kind offset.
          and_from (is_lt (key_cmp (key_with ino kind offset) (key_with file.0 1 0)))
          (ascends_from (key_with file.0 1 0) (keys_of_items (map (item_of_piece file.0) file.1.pieces ++ rest)))
          (by_number (key_with ino kind offset) (key_with file.0 1 0) less)
          (file_ascends file rest have.0 later);
    }

files_ascend : (from : ℕ) (files : List (ℕ × File)) → Ascends from files → AllByRecursion HasPieces files
    → Ascend (flat_map items_of_file files)
unfolding is_ascending Ascends
files_ascend from [] up have = refl
files_ascend from (file ∷ files) up have =
    file_ascends file (flat_map items_of_file files) have.0 (files_follow file.0 files up.1 have.1)

have_pieces : (files : List (ℕ × File)) → AllByRecursion IsWritableFile files → AllByRecursion HasPieces files
have_pieces [] are = tt
have_pieces (file ∷ files) are = ((WholeFile-is_file file.1 are.0.sound).pieces, have_pieces files are.1)

-- the keys of the items of files that can be written ascend
pub files-ascend : (files : List (ℕ × File)) → AreWritableFiles files → Ascend (flat_map items_of_file files)
files-ascend files are =
    files_ascend 0 files (Ascends-increasing files are.ascending)
    (have_pieces files (recursion_from_All IsWritableFile files are.each))

-- ---- and back

greater_back : (low : Key) (front back : List Item) → AreGreater low (front ++ back) → AreGreater low back
greater_back low [] back greater = greater
greater_back low (item ∷ front) back greater =
    greater_back low front back (greater-later low item (front ++ back) greater)

ascend_back : (front back : List Item) → Ascend (front ++ back) → Ascend back
ascend_back [] back ascending = ascending
ascend_back (item ∷ front) back ascending = ascend_back front back (later_ascend item (front ++ back) ascending)

later_numbers : (file : ℕ × File) (files : List (ℕ × File)) → Ascend (flat_map items_of_file (file ∷ files))
    → Ascends (file.0 + 1) files
unfolding Ascends
later_numbers file [] ascending = tt
later_numbers file (next ∷ files) ascending =
    let pieces = map (item_of_piece file.0) file.1.pieces in
    let others = map (item_of_piece next.0) next.1.pieces ++ flat_map items_of_file files in
    let rest = flat_map items_of_file (next ∷ files) in
    let behind = first_least (item_of_inode file.0 file.1) (pieces ++ rest) ascending in
    let greater = greater_back (key_with file.0 1 0) pieces rest behind in
    let less =
    number_of file.0 next.0 (greater-first (key_with file.0 1 0) (item_of_inode next.0 next.1) others greater)
    in
    (omega arith, later_numbers next files (ascend_back (items_of_file file) rest ascending))

numbers_from : (files : List (ℕ × File)) → Ascend (flat_map items_of_file files) → Ascends 0 files
unfolding Ascends
numbers_from [] ascending = tt
numbers_from (file ∷ files) ascending = (omega arith, later_numbers file files ascending)

pub numbers-ascend : (files : List (ℕ × File)) → Ascend (flat_map items_of_file files)
    → IsStrictlyIncreasing (keys_of files)
numbers-ascend files ascending = increasing-Ascends 0 files (numbers_from files ascending)
