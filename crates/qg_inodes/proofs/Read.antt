-- What is read as files stands file by file: an INODE_ITEM, and the pieces of its file behind it.
use Rattle.std.proofs.Common.{◌≡◌, ℕ, zero, suc, ◌<◌, ◌≤◌, true, false, List, [], ◌∷◌, ◌++◌, map, length, Some, None}
use Rattle.std.proofs.Common.{refl, sym, ap, subst, ◌∙◌, arith, inl, inr, length-append}
use Rattle.std.specs.Prelude.{Bool, ◌==◌, ◌&&◌, is_some, nat_le, nat_lt}
use Rattle.std.specs.Bool.{then_some}
use Rattle.std.specs.List.{AllByRecursion, flat_map}
use Rattle.std.proofs.lemmas.Bool.{and_parts, cases_Bool, eqb-true, leb-true, ltb-true}
use Rattle.std.proofs.lemmas.List.Elements.{All-from_recursion}
use Rattle.std.proofs.lemmas.Option.{none-some}
use Rattle.qg_num.specs.declared.piece.Piece.{Piece}
use Rattle.qg_node.specs.Nodes.{is_ascending}
use Rattle.qg_items.specs.declared.file.InodeItem.{InodeItem}
use Rattle.qg_image.specs.declared.file.File.{File}
use Rattle.qg_image.specs.declared.part.FilePart.{FilePart}
use Rattle.qg_image.specs.declared.part.FilePart.TheVariants.{Inode, PieceOf}
use Rattle.qg_image.specs.FilesOf.{are_files, files_in, inodes_end, is_file, least_inode, pieces_bytes}
use Rattle.qg_tree_items.specs.Keys.{file_key}
use Rattle.qg_tree_items.specs.Files.{FileItems, is_file_of}
use Rattle.qg_tree_items.specs.Writable.{IsFileBy, IsPlaced, IsWritableFile}
use Rattle.qg_tree_items.proofs.Reading.{IsReading, IsReading-broken, IsReading-more, IsReading-none, IsReading-orphan}
use Rattle.qg_tree_items.proofs.Reading.{IsNext, file_told-judged, whole_file}
use Rattle.qg_tree_items.proofs.Standing.{StartsOther}
use Rattle.qg_root_items.specs.Written.{inode_of}
use Rattle.qg_inodes.proofs.Said.{IsPartBy}

-- what a file's items say
abbrev pub parts_of_file : ℕ × File → List FilePart
parts_of_file file = Inode file.0 (inode_of file.1) ∷ map (PieceOf file.0) file.1.pieces

-- ---- the pieces of a file in front of other items

record IsParted (ino : ℕ) (parts : List FilePart) : Type 0 where
  pieces : List Piece
  others : List FilePart
  are : parts ≡ map (PieceOf ino) pieces ++ others
  other : StartsOther ino others

parted : (ino : ℕ) (parts : List FilePart) → IsParted ino parts
parted ino [] = record { pieces = []; others = []; are = refl; other = tt }
parted ino (Inode other inode ∷ parts) =
    record { pieces = []; others = Inode other inode ∷ parts; are = refl; other = refl }
parted ino (PieceOf other piece ∷ parts) = elim (cases_Bool (other == ino)) [
  | inl own ↦
      let later = parted ino parts in
      let same = eqb-true other ino own in
      record {
        pieces = piece ∷ later.pieces;
        others = later.others;
        are =
            ap (λ (n : ℕ). PieceOf n piece ∷ parts) same
            ∙ ap (λ (rest : List FilePart). PieceOf ino piece ∷ rest) later.are;
        other = later.other;
      }
  | inr differ ↦ record {
    pieces = [];
    others = PieceOf other piece ∷ parts;
    are = refl;
    other = ap (λ (b : Bool). is_some (then_some b piece)) differ;
  }
]

-- ---- one file

-- what its INODE_ITEM and its pieces say, if it is sound
record IsSound (one : FileItems) : Type 0 where
  least : least_inode ≤ one.ino
  below : one.ino < inodes_end
  sound : is_file (whole_file one) ≡ true
  sum : one.inode.nbytes ≡ pieces_bytes one.pieces

is_sound : (one : FileItems) → is_file_of one.ino one.inode (whole_file one) ≡ true → IsSound one
is_sound one is =
    let least = nat_le least_inode one.ino in
    let below = nat_lt one.ino inodes_end in
    let sound = is_file (whole_file one) in
    let to_sum = and_parts (least && below && sound) (one.inode.nbytes == pieces_bytes one.pieces) is in
    let to_sound = and_parts (least && below) sound to_sum.0 in
    let to_below = and_parts least below to_sound.0 in
    record {
      least = leb-true least_inode one.ino to_below.0;
      below = ltb-true one.ino inodes_end to_below.1;
      sound = to_sound.1;
      sum = eqb-true one.inode.nbytes (pieces_bytes one.pieces) to_sum.1;
    }

-- its INODE_ITEM tells the sum of its pieces
same_inode : (one : FileItems) → one.inode.nbytes ≡ pieces_bytes one.pieces → one.inode ≡ inode_of (whole_file one)
same_inode one sum =
    let inode = one.inode in
    ap (λ (n : ℕ). let other : InodeItem = record inode { nbytes = n } in other) sum

pieces_placed : (generation ino : ℕ) (pieces : List Piece) (others : List FilePart)
    → AllByRecursion (IsPartBy generation) (map (PieceOf ino) pieces ++ others)
    → AllByRecursion IsPlaced pieces × AllByRecursion (λ piece. piece.stamp ≤ generation) pieces × AllByRecursion
    (IsPartBy generation) others
pieces_placed generation ino [] others each = (tt, tt, each)
pieces_placed generation ino (piece ∷ pieces) others each =
    let later = pieces_placed generation ino pieces others each.1 in
    ((each.0.placed, later.0), (each.0.stamped, later.1), later.2)

-- ---- all files

pub record AreRead (generation : ℕ) (parts : List FilePart) (files : List (ℕ × File)) : Type 0 where
  pub are : parts ≡ flat_map parts_of_file files
  pub writable : AllByRecursion IsWritableFile files
  pub by : AllByRecursion (IsFileBy generation) files

-- the items of one file, and what stands behind them
module _ (one : FileItems) (others : List FilePart) (starts : StartsOther one.ino others) where
  abbrev whole : List FilePart
  whole = Inode one.ino one.inode ∷ (map (PieceOf one.ino) one.pieces ++ others)

  next : IsNext whole one others
  next = record { stands = refl; other = starts }

  module _ (ascending : is_ascending (map file_key whole) ≡ true) (sound : are_files whole ≡ true) where
    start : IsReading whole whole []
    start = IsReading-none whole ascending

    -- the file is sound, since all are
    judged : is_file_of one.ino one.inode (whole_file one) ≡ true
    judged = elim (cases_Bool (is_file_of one.ino one.inode (whole_file one))) [
      | inl is ↦ is
      | inr unsound ↦
          let none = IsReading-broken whole whole [] one others start next (file_told-judged one false unsound) in
          let some : ◌≡◌ None (Some (files_in whole)) = none ∙ ap (λ (b : Bool). then_some b (files_in whole)) sound in
          absurd (none-some (files_in whole) some)
    ]

    more : IsReading whole others ((one.ino, whole_file one) ∷ [])
    more =
        IsReading-more whole whole [] one others (whole_file one) start next (file_told-judged one true judged)

    -- what is behind it stands the same way, and so does all
    all_read : (generation : ℕ) → AllByRecursion (IsPartBy generation) whole
        → AreRead generation others (files_in others)
        → AreRead generation whole (files_in whole)
    all_read generation each later =
        let file : ℕ × File = (one.ino, whole_file one) in
        let known = is_sound one judged in
        let parts = pieces_placed generation one.ino one.pieces others each.1 in
        let inode = same_inode one known.sum in
        let writable : IsWritableFile file = record {
          least = known.least;
          below = known.below;
          sound = known.sound;
          placed = All-from_recursion IsPlaced one.pieces parts.0;
        } in
        let by : IsFileBy generation file = record {
          made = each.0.stamped.0;
          changed = each.0.stamped.1;
          stamped = All-from_recursion (λ (piece : Piece). piece.stamp ≤ generation) one.pieces parts.1;
        } in
        let read : AreRead generation whole (file ∷ files_in others) = record {
          are =
              ap (λ (i : InodeItem). Inode one.ino i ∷ (map (PieceOf one.ino) one.pieces ++ others)) inode
              ∙ ap (λ (rest : List FilePart). parts_of_file file ++ rest) later.are;
          writable = (writable, later.writable);
          by = (by, later.by);
        } in
        subst (λ (files : List (ℕ × File)). AreRead generation whole files) (sym more.told) read

-- a piece that stands in front has no file
orphan : (ino : ℕ) (piece : Piece) (rest : List FilePart)
    → is_ascending (map file_key (PieceOf ino piece ∷ rest)) ≡ true
    → are_files (PieceOf ino piece ∷ rest) ≡ true → ⊥
orphan ino piece rest ascending sound =
    let parts : List FilePart = PieceOf ino piece ∷ rest in
    let none =
    IsReading-orphan parts parts ino piece (PieceOf ino piece) rest [] (IsReading-none parts ascending) refl refl
    in
    let some : ◌≡◌ None (Some (files_in parts)) = none ∙ ap (λ (b : Bool). then_some b (files_in parts)) sound in
    none-some (files_in parts) some

-- all of so many parts at most are read file by file
abbrev AreReadUpto : ℕ → ℕ → Type 0
AreReadUpto generation most = (parts : List FilePart) → length parts ≤ most → is_ascending (map file_key parts) ≡ true
    → are_files parts ≡ true → AllByRecursion (IsPartBy generation) parts → AreRead generation parts (files_in parts)

read_one : (generation most ino : ℕ) (inode : InodeItem) (rest : List FilePart) → IsParted ino rest
    → AreReadUpto generation most
    → length (Inode ino inode ∷ rest) ≤ suc most → is_ascending (map file_key (Inode ino inode ∷ rest)) ≡ true
    → are_files (Inode ino inode ∷ rest) ≡ true → AllByRecursion (IsPartBy generation) (Inode ino inode ∷ rest)
    → AreRead generation (Inode ino inode ∷ rest) (files_in (Inode ino inode ∷ rest))
read_one generation most ino inode rest split read few ascending sound each =
    let one : FileItems = record { ino = ino; inode = inode; pieces = split.pieces } in
    let all = whole one split.others split.other in
    let is : ◌≡◌ (Inode ino inode ∷ rest) all = ap (λ (behind : List FilePart). Inode ino inode ∷ behind) split.are in
    let up = subst (λ (parts : List FilePart). is_ascending (map file_key parts) ≡ true) is ascending in
    let fine = subst (λ (parts : List FilePart). are_files parts ≡ true) is sound in
    let told = subst (λ (parts : List FilePart). AllByRecursion (IsPartBy generation) parts) is each in
    let rests = (pieces_placed generation ino split.pieces split.others told.1).2 in
    let fewer : length split.others ≤ most =
    omega (arith, few, ap length split.are, length-append (map (PieceOf ino) split.pieces) split.others)
    in
    let behind = more one split.others split.other up fine in
    let later = read split.others fewer behind.ascending (sym behind.sound ∙ fine) rests in
    subst (λ (parts : List FilePart). AreRead generation parts (files_in parts)) (sym is)
    (all_read one split.others split.other up fine generation told later)

read_upto : (generation most : ℕ) → AreReadUpto generation most
read_upto generation most [] few ascending sound each = record { are = refl; writable = tt; by = tt }
read_upto generation most (PieceOf ino piece ∷ rest) few ascending sound each =
    absurd (orphan ino piece rest ascending sound)
read_upto generation zero (Inode ino inode ∷ rest) few ascending sound each = absurd (omega arith)
read_upto generation (suc most) (Inode ino inode ∷ rest) few ascending sound each =
    read_one generation most ino inode rest (parted ino rest) (read_upto generation most) few ascending sound each

pub read-files : (generation : ℕ) (parts : List FilePart) → is_ascending (map file_key parts) ≡ true
    → are_files parts ≡ true
    → AllByRecursion (IsPartBy generation) parts → AreRead generation parts (files_in parts)
read-files generation parts ascending sound each =
    read_upto generation (length parts) parts (omega arith) ascending sound each
