-- Reading files one after the other.
use Rattle.std.proofs.Common.{◌≡◌, ℕ, ◌<◌, Bool, true, false, List, [], ◌∷◌, ◌++◌, map, refl, ap, sym, ◌∙◌, arith}
use Rattle.std.proofs.Common.{append_assoc, length}
use Rattle.std.specs.Prelude.{◌&&◌, Some, None, is_some, ◌==◌}
use Rattle.std.specs.Bool.{then_some}
use Rattle.std.specs.List.{AllByRecursion, list_all}
use Rattle.std.proofs.lemmas.Bool.{eq-eqb, eqb-true, ne_eqb}
use Rattle.std.proofs.lemmas.List.{append-nil}
use Rattle.std.proofs.lemmas.List.Elements.{filter_map-append}
use Rattle.std.proofs.lemmas.List.Folds.{list_all-append}
use Rattle.qg_num.specs.declared.piece.Piece.{Piece}
use Rattle.qg_items.specs.declared.file.InodeItem.{InodeItem}
use Rattle.qg_node.specs.Nodes.{is_ascending}
use Rattle.qg_image.specs.Table.{has_key}
use Rattle.qg_image.specs.declared.file.File.{File}
use Rattle.qg_image.specs.declared.part.FilePart.{FilePart}
use Rattle.qg_image.specs.declared.part.FilePart.TheVariants.{Inode, PieceOf}
use Rattle.qg_image.specs.FilesOf.{are_files, file_in, files_in, inodes_in, is_inode, is_owned, piece_in, pieces_in}
use Rattle.qg_tree_items.specs.Keys.{file_key}
use Rattle.qg_tree_items.specs.Files.{FileItems, file_told, is_file_of}
use Rattle.qg_tree_items.proofs.Standing.{IsBehind, IsPieceOf, StartsOther, ino_of, all_behind, all_later}
use Rattle.qg_tree_items.proofs.Standing.{ascending-behind}
use Rattle.qg_tree_items.proofs.Standing.{own_pieces, greater_others}

abbrev pub AreGreater : ℕ → List FilePart → Type 0
AreGreater ino parts = AllByRecursion (λ part. ino < ino_of part) parts

-- ---- what is told of one file, and of the others

piece_is : (ino other : ℕ) (piece : Piece) → IsPieceOf ino (PieceOf other piece) → other ≡ ino
piece_is ino other piece is = cases (other == ino) refl is where
  cases : (same : Bool) → (other == ino) ≡ same → is_some (then_some same piece) ≡ true → other ≡ ino
  cases true e k = eqb-true other ino e
  cases false e k = absurd cc

own_inodes : (ino : ℕ) (own others : List FilePart) → AllByRecursion (IsPieceOf ino) own
    → inodes_in (own ++ others) ≡ inodes_in others
own_inodes ino [] others are = refl
own_inodes ino (PieceOf other piece ∷ own) others are = own_inodes ino own others are.1
own_inodes ino (Inode other inode ∷ own) others are = absurd cc

greater_pieces : (ino : ℕ) (others : List FilePart) → AreGreater ino others → pieces_in ino others ≡ []
greater_pieces ino [] are = refl
greater_pieces ino (Inode other inode ∷ others) are = greater_pieces ino others are.1
greater_pieces ino (PieceOf other piece ∷ others) are =
    let apart : (other == ino) ≡ false = ne_eqb other ino (λ same. omega (arith, same, are.0)) in
    rw apart (greater_pieces ino others are.1)

own_alone : (ino : ℕ) (own others : List FilePart) → AreGreater ino others
    → pieces_in ino (own ++ others) ≡ pieces_in ino own
own_alone ino own others are =
    filter_map-append (piece_in ino) own others ∙ ap (λ (pieces : List Piece). pieces_in ino own ++ pieces)
    (greater_pieces ino others are) ∙ append-nil (pieces_in ino own)

others_alone : (ino n : ℕ) (own others : List FilePart) → ino < n → AllByRecursion (IsPieceOf ino) own
    → pieces_in n (own ++ others) ≡ pieces_in n others
others_alone ino n [] others less are = refl
others_alone ino n (Inode other inode ∷ own) others less are = absurd cc
others_alone ino n (PieceOf other piece ∷ own) others less are =
    let is = piece_is ino other piece are.0 in
    let apart : (other == n) ≡ false = ne_eqb other n (λ same. omega (arith, same, is, less)) in
    rw apart (others_alone ino n own others less are.1)

-- ---- the rules, item by item

own_owned : (ino : ℕ) (parts own : List FilePart) → has_key ino (inodes_in parts) ≡ true
    → AllByRecursion (IsPieceOf ino) own → list_all (is_owned parts) own ≡ true
own_owned ino parts [] has are = refl
own_owned ino parts (Inode other inode ∷ own) has are = absurd cc
own_owned ino parts (PieceOf other piece ∷ own) has are =
    let is = piece_is ino other piece are.0 in
    rw (is, has) (own_owned ino parts own has are.1)

others_owned : (ino : ℕ) (parts those others : List FilePart)
    → ((n : ℕ) → ino < n → has_key n (inodes_in parts) ≡ has_key n (inodes_in those)) → AreGreater ino others
    → list_all (is_owned parts) others ≡ list_all (is_owned those) others
others_owned ino parts those [] same are = refl
others_owned ino parts those (Inode other inode ∷ others) same are = others_owned ino parts those others same are.1
others_owned ino parts those (PieceOf other piece ∷ others) same are =
    rw (same other are.0, others_owned ino parts those others same are.1) refl

others_inodes : (ino : ℕ) (parts those others : List FilePart)
    → ((n : ℕ) → ino < n → pieces_in n parts ≡ pieces_in n those) → AreGreater ino others
    → list_all (is_inode parts) (inodes_in others) ≡ list_all (is_inode those) (inodes_in others)
others_inodes ino parts those [] same are = refl
others_inodes ino parts those (PieceOf other piece ∷ others) same are = others_inodes ino parts those others same are.1
others_inodes ino parts those (Inode other inode ∷ others) same are =
    rw (same other are.0, others_inodes ino parts those others same are.1) refl

abbrev told_by : List FilePart → ℕ × InodeItem → ℕ × File
told_by parts entry = (entry.0, file_in parts entry)

others_files : (ino : ℕ) (parts those others : List FilePart)
    → ((n : ℕ) → ino < n → pieces_in n parts ≡ pieces_in n those) → AreGreater ino others
    → map (told_by parts) (inodes_in others) ≡ map (told_by those) (inodes_in others)
others_files ino parts those [] same are = refl
others_files ino parts those (PieceOf other piece ∷ others) same are = others_files ino parts those others same are.1
others_files ino parts those (Inode other inode ∷ others) same are =
    rw (same other are.0, others_files ino parts those others same are.1) refl

-- ---- one file in front of others

-- an INODE_ITEM, the pieces of its file, and the items of greater files
pub record IsFirstFile (ino : ℕ) (own others : List FilePart) : Type 0 where
  pub pieces : AllByRecursion (IsPieceOf ino) own
  pub greater : AreGreater ino others

abbrev pub file_of : ℕ → InodeItem → List FilePart → File
file_of ino inode own = file_in (Inode ino inode ∷ own) (ino, inode)

front_files : (ino : ℕ) (inode : InodeItem) (own others : List FilePart) → IsFirstFile ino own others
    → files_in (Inode ino inode ∷ (own ++ others)) ≡ (ino, file_of ino inode own) ∷ files_in others
front_files ino inode own others is =
    let same = λ (n : ℕ) (less : ino < n). others_alone ino n own others less is.pieces in
    rw (
      own_alone ino own others is.greater,
      own_inodes ino own others is.pieces,
      others_files ino
          (Inode ino inode ∷ (own ++ others)) others others same is.greater,
    ) refl

swap_and : (a f b : Bool) → (a && (f && b)) ≡ (f && (a && b))
swap_and true f b = refl
swap_and false true b = refl
swap_and false false b = refl

front_sound : (ino : ℕ) (inode : InodeItem) (own others : List FilePart) → IsFirstFile ino own others
    → are_files (Inode ino inode ∷ (own ++ others)) ≡ (is_file_of ino inode (file_of ino inode own) && are_files others)
unfolding are_files
front_sound ino inode own others is =
    let whole : List FilePart = Inode ino inode ∷ (own ++ others) in
    let itself = eq-eqb ino ino refl in
    let has : has_key ino (inodes_in whole) ≡ true = rw itself refl in
    let keys = λ (n : ℕ) (less : ino < n). has_later n less in
    let same = λ (n : ℕ) (less : ino < n). others_alone ino n own others less is.pieces in
    let owned : list_all (is_owned whole) (own ++ others) ≡ list_all (is_owned others) others =
    list_all-append (is_owned whole) own others ∙ ap (λ (b : Bool). b && list_all (is_owned whole) others)
    (own_owned ino whole own has is.pieces) ∙ others_owned ino whole others others keys is.greater in
    let inodes : list_all (is_inode whole) (inodes_in (own ++ others)) ≡ list_all (is_inode others) (inodes_in others) =
    ap (list_all (is_inode whole)) (own_inodes ino own others is.pieces)
    ∙ others_inodes ino whole others others same is.greater in
    let first : is_inode whole (ino, inode) ≡ is_file_of ino inode (file_of ino inode own) =
    rw (own_alone ino own others is.greater) refl in
    rw (owned, inodes, first)
    (swap_and (list_all (is_owned others) others) (is_file_of ino inode (file_of ino inode own))
    (list_all (is_inode others) (inodes_in others))) where
      has_later : (n : ℕ) → ino < n → has_key n (inodes_in (Inode ino inode ∷ (own ++ others)))
          ≡ has_key n (inodes_in others)
      has_later n less =
          let apart : (ino == n) ≡ false = ne_eqb ino n (λ same. omega (arith, same, less)) in
          rw (apart, own_inodes ino own others is.pieces) refl

-- ---- the loop

-- the items that are left ascend, and the files so far and those of what is left are the files of all items
pub record IsReading (parts left : List FilePart) (files : List (ℕ × File)) : Type 0 where
  pub ascending : is_ascending (map file_key left) ≡ true
  pub sound : are_files parts ≡ are_files left
  pub told : files_in parts ≡ files ++ files_in left

pub IsReading-none : (parts : List FilePart) → is_ascending (map file_key parts) ≡ true → IsReading parts parts []
IsReading-none parts ascending = record { ascending = ascending; sound = refl; told = refl }

pub IsReading-all : (parts left : List FilePart) (files : List (ℕ × File)) → length left ≡ 0
    → IsReading parts left files → Some files ≡ then_some (are_files parts) (files_in parts)
unfolding are_files
IsReading-all parts [] files none is =
    rw (is.sound, is.told) (ap (λ (all : List (ℕ × File)). Some all) (sym (append-nil files)))
IsReading-all parts (part ∷ left) files none is = absurd (omega arith)

unsound : (parts : List FilePart) → are_files parts ≡ false → None ≡ then_some (are_files parts) (files_in parts)
unsound parts h = rw h refl

no_inode : (ino : ℕ) (parts : List FilePart) → AllByRecursion (IsBehind ino) parts
    → has_key ino (inodes_in parts) ≡ false
no_inode ino [] are = refl
no_inode ino (PieceOf other piece ∷ parts) are = no_inode ino parts are.1
no_inode ino (Inode other inode ∷ parts) are =
    let apart : (other == ino) ≡ false = ne_eqb other ino (λ same. omega (arith, same, are.0)) in
    rw apart (no_inode ino parts are.1)

-- a piece that stands in front has no file
pub IsReading-orphan : (parts left : List FilePart) (ino : ℕ) (piece : Piece) (first : FilePart)
    (behind : List FilePart) (files : List (ℕ × File)) → IsReading parts left files → left ≡ first ∷ behind
    → first ≡ PieceOf ino piece
    → None ≡ then_some (are_files parts) (files_in parts)
unfolding is_ascending are_files
IsReading-orphan parts left ino piece first behind files is begins here =
    let stands : left ≡ PieceOf ino piece ∷ behind = begins ∙ ap (λ (part : FilePart). part ∷ behind) here in
    let ascends : is_ascending (map file_key (PieceOf ino piece ∷ behind)) ≡ true = rw stands at is.ascending in
    let none = no_inode ino behind (all_behind (file_key (PieceOf ino piece)) behind (omega arith) ascends) in
    unsound parts (is.sound ∙ rw stands (rw none refl))

told_sound : (ino : ℕ) (inode : InodeItem) (own : List FilePart) (file : File) → file_told ino inode own ≡ Some file
    → (is_file_of ino inode (file_of ino inode own) ≡ true) × (file_of ino inode own ≡ file)
told_sound ino inode own file h = cases (is_file_of ino inode (file_of ino inode own)) refl h where
  cases : (b : Bool) → is_file_of ino inode (file_of ino inode own) ≡ b
      → then_some b (file_of ino inode own) ≡ Some file → (is_file_of ino inode (file_of ino inode own) ≡ true)
      × (file_of ino inode own ≡ file)
  cases true e k = (e, cc)
  cases false e k = absurd cc

told_unsound : (ino : ℕ) (inode : InodeItem) (own : List FilePart) → file_told ino inode own ≡ None
    → is_file_of ino inode (file_of ino inode own) ≡ false
told_unsound ino inode own h = cases (is_file_of ino inode (file_of ino inode own)) refl h where
  cases : (b : Bool) → is_file_of ino inode (file_of ino inode own) ≡ b → then_some b (file_of ino inode own) ≡ None
      → is_file_of ino inode (file_of ino inode own) ≡ false
  cases true e k = absurd cc
  cases false e k = e

-- ---- file by file

-- the items of a file, and those behind them, of which the first is no piece of it
pub record IsNext (left : List FilePart) (one : FileItems) (others : List FilePart) : Type 0 where
  pub stands : left ≡ Inode one.ino one.inode ∷ (map (PieceOf one.ino) one.pieces ++ others)
  pub other : StartsOther one.ino others

next_front : (left : List FilePart) (one : FileItems) (others : List FilePart) → is_ascending (map file_key left) ≡ true
    → IsNext left one others
    → IsFirstFile one.ino (map (PieceOf one.ino) one.pieces) others
unfolding is_ascending
next_front left one others ascending next =
    let own : List FilePart = map (PieceOf one.ino) one.pieces in
    let ascends : is_ascending (map file_key (Inode one.ino one.inode ∷ (own ++ others))) ≡ true =
    rw next.stands at ascending in
    let behind = all_behind (file_key (Inode one.ino one.inode)) (own ++ others) (omega arith) ascends in
    record {
      pieces = own_pieces one.ino one.pieces;
      greater = greater_others one.ino others (all_later (IsBehind one.ino) own others behind)
          (ascending-behind (Inode one.ino one.inode ∷ own) others ascends) next.other;
    }

abbrev own_of : FileItems → List FilePart
own_of one = map (PieceOf one.ino) one.pieces

pub IsReading-broken : (parts left : List FilePart) (files : List (ℕ × File)) (one : FileItems) (others : List FilePart)
    → IsReading parts left files → IsNext left one others
    → None ≡ file_told one.ino one.inode (own_of one) → None ≡ then_some (are_files parts) (files_in parts)
IsReading-broken parts left files one others is next none =
    let sound = front_sound one.ino one.inode (own_of one) others (next_front left one others is.ascending next) in
    unsound parts (is.sound ∙ rw (next.stands, sound, told_unsound one.ino one.inode (own_of one) (sym none)) refl)

pub IsReading-more : (parts left : List FilePart) (files : List (ℕ × File)) (one : FileItems) (others : List FilePart)
    (file : File) → IsReading parts left files → IsNext left one others
    → Some file ≡ file_told one.ino one.inode (own_of one) → IsReading parts others (files ++ (one.ino, file) ∷ [])
IsReading-more parts left files one others file is next told =
    let in_front = next_front left one others is.ascending next in
    let both = told_sound one.ino one.inode (own_of one) file (sym told) in
    let here : List (ℕ × File) = (one.ino, file) ∷ [] in
    record {
      ascending = ascending-behind (Inode one.ino one.inode ∷ own_of one) others (rw next.stands at is.ascending);
      sound = is.sound ∙ rw (next.stands, front_sound one.ino one.inode (own_of one) others in_front, both.0) refl;
      told = is.told ∙ rw (next.stands, front_files one.ino one.inode (own_of one) others in_front, both.1)
          (sym (append_assoc files here (files_in others)));
    }

-- ---- one file alone

pub pieces_in-own : (ino : ℕ) (pieces : List Piece) → pieces_in ino (map (PieceOf ino) pieces) ≡ pieces
pieces_in-own ino [] = refl
pieces_in-own ino (piece ∷ pieces) =
    rw (eq-eqb ino ino refl) (ap (λ (others : List Piece). piece ∷ others) (pieces_in-own ino pieces))

-- the file of what its items say, where it is not judged yet
abbrev pub whole_file : FileItems → File
whole_file one = record {
  size = one.inode.size;
  generation = one.inode.generation;
  transid = one.inode.transid;
  pieces = one.pieces;
}

pub file_told-judged : (one : FileItems) (sound : Bool) → is_file_of one.ino one.inode (whole_file one) ≡ sound
    → then_some sound (whole_file one) ≡ file_told one.ino one.inode (map (PieceOf one.ino) one.pieces)
file_told-judged one sound is = rw (pieces_in-own one.ino one.pieces, is) refl
