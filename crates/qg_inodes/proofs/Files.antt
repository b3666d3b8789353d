-- The files that the items of a subvolume's tree stand for, one by one.
use Rattle.std.proofs.Common.{◌≡◌, ℕ, ◌≤◌, true, false, List, [], ◌∷◌, map, Some, None, refl, sym, ap, subst, ◌∙◌}
use Rattle.std.proofs.Common.{arith, inl, inr}
use Rattle.std.specs.Prelude.{Bool, Option, ◌==◌, ◌&&◌, ◌||◌, ◌⊎◌, IsTrue, is_none, is_some, nat_le, nat_lt}
use Rattle.std.specs.Bool.{then_some}
use Rattle.std.specs.List.{cons_option, list_all}
use Rattle.std.specs.Option.{option_map}
use Rattle.std.proofs.lemmas.Bool.{and_parts, cases_Bool, eqb-true, leb-true, true≢false}
use Rattle.std.proofs.lemmas.Option.{same_Some}
use Rattle.qg_num.specs.declared.piece.Piece.{Piece}
use Rattle.qg_node.specs.declared.item.Item.{Item}
use Rattle.qg_items.specs.declared.file.InodeItem.{InodeItem}
use Rattle.qg_items.specs.ItemReading.{inode_read}
use Rattle.qg_items.proofs.Trips.{then_some_parts}
use Rattle.qg_image.specs.declared.file.File.{File}
use Rattle.qg_image.specs.declared.part.FilePart.{FilePart}
use Rattle.qg_image.specs.declared.part.FilePart.TheVariants.{Inode, PieceOf}
use Rattle.qg_image.proofs.Pieces.{WholeFile-is_file}
use Rattle.qg_image.specs.ItemMeaning.{file_part}
use Rattle.qg_image.specs.FilesOf.{are_files, are_pieces, file_in, file_parts, files_in, files_of, inodes_end}
use Rattle.qg_image.specs.FilesOf.{inodes_in, is_file, is_file_item, is_inode, is_owned, largest_size, least_inode}
use Rattle.qg_image.specs.FilesOf.{piece_in, pieces_bytes, pieces_in, AreItemsOfFiles}
use Rattle.qg_image.specs.Table.{has_key, value_at}
use Rattle.qg_machine.specs.FileChange.{pieces_or_none}
use Rattle.qg_tree_items.specs.Keys.{key_with}
use Rattle.qg_root_items.specs.Written.{inode_of}
use Rattle.qg_tree_read.specs.Reading.{body_at}
use Rattle.qg_inodes.specs.Items.{has_unread, is_unread}
use Rattle.qg_inodes.specs.Pieces.{pieces_at}
use Rattle.qg_inodes.proofs.Inodes.{Tells, inode-told}
use Rattle.qg_inodes.proofs.Says.{SaysInode, SaysPiece, says}

-- ---- what is known of items that are those of files

pub record AreTold (generation : ℕ) (items : List Item) (files : List (ℕ × File)) : Type 0 where
  pub each : list_all (is_file_item generation) items ≡ true
  pub owned : list_all (is_owned (file_parts items)) (file_parts items) ≡ true
  pub inodes : list_all (is_inode (file_parts items)) (inodes_in (file_parts items)) ≡ true
  pub told : files_in (file_parts items) ≡ files

pub are-told : (generation : ℕ) (items : List Item) (files : List (ℕ × File)) → AreItemsOfFiles generation items files
    → AreTold generation items files
unfolding files_of are_files
are-told generation items files is =
    let parts = file_parts items in
    let owned = list_all (is_owned parts) parts in
    let inodes = list_all (is_inode parts) (inodes_in parts) in
    let both = then_some_parts (list_all (is_file_item generation) items && are_files parts)
    (files_in parts) files is in
    let tests = and_parts (list_all (is_file_item generation) items) (are_files parts) both.0 in
    let fit = and_parts owned inodes tests.1 in
    record { each = tests.0; owned = fit.0; inodes = fit.1; told = both.1 }

-- ---- one file

all_at : {A : Type 0} (p : ℕ × A → Bool) (n : ℕ) (x : A) (entries : List (ℕ × A)) → list_all p entries ≡ true
    → value_at n entries ≡ Some x
    → p (n, x) ≡ true
all_at p n x [] all is = absurd cc
all_at {A} p n x (entry ∷ entries) all is =
    let parts = and_parts (p entry) (list_all p entries) all in
    elim (cases_Bool (entry.0 == n)) [
      | inl own ↦
          let there : ◌≡◌ (Some entry.1) (Some x) = sym (at_first own) ∙ is in
          let value : entry.1 ≡ x = same_Some entry.1 x there in
          let same : ◌≡◌ {A = ℕ × A} entry (n, x) = λ i. (eqb-true entry.0 n own i, value i) in
          sym (ap p same) ∙ parts.0
      | inr other ↦ all_at p n x entries parts.1 (sym (at_later other) ∙ is)
    ]
  where
    at_first : (entry.0 == n) ≡ true → value_at n (entry ∷ entries) ≡ Some entry.1
    at_first own = rw own refl

    at_later : (entry.0 == n) ≡ false → value_at n (entry ∷ entries) ≡ value_at n entries
    at_later other = rw other refl

value_map : (ino : ℕ) (all : List FilePart) (entries : List (ℕ × InodeItem))
    → value_at ino (map (λ entry. (entry.0, file_in all entry)) entries)
    ≡ option_map (λ inode. file_in all (ino, inode)) (value_at ino entries)
value_map ino all [] = refl
value_map ino all (entry ∷ entries) = elim (cases_Bool (entry.0 == ino)) [
  | inl own ↦ rw own (ap (λ (n : ℕ). Some (file_in all (n, entry.1))) (eqb-true entry.0 ino own))
  | inr other ↦ rw other (value_map ino all entries)
]

-- an INODE_ITEM that fits the pieces of its file
record IsFitting (parts : List FilePart) (ino : ℕ) (inode : InodeItem) : Type 0 where
  sound : is_file (file_in parts (ino, inode)) ≡ true
  sum : inode.nbytes ≡ pieces_bytes (pieces_in ino parts)

is_fitting : (parts : List FilePart) (ino : ℕ) (inode : InodeItem) → is_inode parts (ino, inode) ≡ true
    → IsFitting parts ino inode
is_fitting parts ino inode is =
    let least = nat_le least_inode ino in
    let below = nat_lt ino inodes_end in
    let sound = is_file (file_in parts (ino, inode)) in
    let to_sum = and_parts (least && below && sound) (inode.nbytes == pieces_bytes (pieces_in ino parts)) is in
    let to_sound = and_parts (least && below) sound to_sum.0 in
    record { sound = to_sound.1; sum = eqb-true inode.nbytes (pieces_bytes (pieces_in ino parts)) to_sum.1 }

-- no file, no pieces
no_pieces : (ino : ℕ) (all rest : List FilePart) → list_all (is_owned all) rest ≡ true
    → has_key ino (inodes_in all) ≡ false
    → pieces_in ino rest ≡ []
no_pieces ino all [] owned none = refl
no_pieces ino all (Inode other inode ∷ rest) owned none =
    no_pieces ino all rest (and_parts (is_owned all (Inode other inode)) (list_all (is_owned all) rest) owned).1 none
no_pieces ino all (PieceOf other piece ∷ rest) owned none =
    let parts = and_parts (is_owned all (PieceOf other piece)) (list_all (is_owned all) rest) owned in
    elim (cases_Bool (other == ino)) [
      | inl own ↦
          let there = ap (λ (n : ℕ). has_key n (inodes_in all)) (sym (eqb-true other ino own)) ∙ parts.0 in
          absurd (true≢false (sym there ∙ none))
      | inr differs ↦
          ap (λ (b : Bool). cons_option (then_some b piece) (pieces_in ino rest)) differs
          ∙ no_pieces ino all rest parts.1 none
    ]

-- a file of the items
pub record HasFile (parts : List FilePart) (files : List (ℕ × File)) (ino : ℕ) (inode : InodeItem) : Type 0 where
  pub file : File
  pub there : value_at ino files ≡ Some file
  pub told : inode_of file ≡ inode
  pub sound : is_file file ≡ true
  pub pieces : file.pieces ≡ pieces_in ino parts

-- the pieces of a file of the items, or of none
pub record HasPieces (parts : List FilePart) (files : List (ℕ × File)) (ino : ℕ) : Type 0 where
  pub are : pieces_in ino parts ≡ pieces_at ino files
  pub size : ℕ
  pub small : size ≤ largest_size
  pub sound : are_pieces 0 size (pieces_at ino files) ≡ true

module _ (generation : ℕ) (items : List Item) (files : List (ℕ × File)) (are : AreTold generation items files)
    (ino : ℕ) where
  abbrev parts : List FilePart
  parts = file_parts items

  by_inode : value_at ino files ≡ option_map (λ inode. file_in parts (ino, inode)) (value_at ino (inodes_in parts))
  by_inode = sym (ap (value_at ino) are.told) ∙ value_map ino parts (inodes_in parts)

  pub has-file : (inode : InodeItem) → value_at ino (inodes_in parts) ≡ Some inode → HasFile parts files ino inode
  has-file inode there =
      let fits = is_fitting parts ino inode (all_at (is_inode parts) ino inode (inodes_in parts) are.inodes there) in
      record {
        file = file_in parts (ino, inode);
        there = by_inode ∙ ap (option_map (λ inode. file_in parts (ino, inode))) there;
        told = ap (λ (n : ℕ). let other : InodeItem = record inode { nbytes = n } in other) (sym fits.sum);
        sound = fits.sound;
        pieces = refl;
      }

  pub has-none : value_at ino (inodes_in parts) ≡ None → value_at ino files ≡ None
  has-none none = by_inode ∙ ap (option_map (λ inode. file_in parts (ino, inode))) none

  -- ---- the INODE_ITEM of a file

  pub inode-none : body_at (key_with ino 1 0) items ≡ None → value_at ino files ≡ None
  inode-none is = has-none (subst (λ (o : Option (List ℕ)). Tells o (value_at ino (inodes_in parts))) is
      (inode-told generation ino items are.each))

  some_inode : (o : Option InodeItem) → is_some o ≡ true → (inode : InodeItem) × (o ≡ Some inode)
  some_inode None some = absurd cc
  some_inode (Some inode) some = (inode, refl)

  pub inode-some : (body : List ℕ) → body_at (key_with ino 1 0) items ≡ Some body
      → (inode : InodeItem) × (inode_read body ≡ Some inode) × HasFile parts files ino inode
  inode-some body is =
      let tells = subst (λ (o : Option (List ℕ)). Tells o (value_at ino (inodes_in parts))) is
      (inode-told generation ino items are.each)
      in
      let told = some_inode (value_at ino (inodes_in parts)) tells.1 in
      (told.0, tells.0 ∙ told.1, has-file told.0 told.1)

  -- ---- its pieces

  of_file : (inode : InodeItem) → HasFile parts files ino inode → HasPieces parts files ino
  of_file inode has =
      let whole = WholeFile-is_file has.file has.sound in
      let same : pieces_at ino files ≡ has.file.pieces = ap pieces_or_none has.there in
      record {
        are = sym has.pieces ∙ sym same;
        size = has.file.size;
        small = whole.least;
        sound = subst (λ (ps : List Piece). are_pieces 0 has.file.size ps ≡ true) (sym same) whole.pieces;
      }

  none_sound : are_pieces 0 0 [] ≡ true
  unfolding are_pieces
  none_sound = refl

  of_none : value_at ino (inodes_in parts) ≡ None → HasPieces parts files ino
  of_none is =
      let same : pieces_at ino files ≡ [] = ap pieces_or_none (has-none is) in
      let none : has_key ino (inodes_in parts) ≡ false = ap (λ (o : Option InodeItem). is_some o) is in
      record {
        are = no_pieces ino parts parts are.owned none ∙ sym same;
        size = 0;
        small = omega arith;
        sound = subst (λ (ps : List Piece). are_pieces 0 0 ps ≡ true) (sym same) none_sound;
      }

  pub has-pieces : HasPieces parts files ino
  has-pieces = by (value_at ino (inodes_in parts)) refl where
    by : (told : Option InodeItem) → value_at ino (inodes_in parts) ≡ told → HasPieces parts files ino
    by None is = of_none is
    by (Some inode) is = of_file inode (has-file inode is)

-- ---- each item says something

pub none-unread : (generation ino : ℕ) (items : List Item) → list_all (is_file_item generation) items ≡ true
    → IsTrue (has_unread ino items)
    → ⊥
none-unread generation ino [] each unread = absurd cc
none-unread generation ino (item ∷ items) each unread =
    let parts = and_parts (is_file_item generation item) (list_all (is_file_item generation) items) each in
    either (is_unread ino item) (has_unread ino items)
    (λ first. says_none (first_none first) (says generation item parts.0))
    (none-unread generation ino items parts.1) unread
  where
    either : (a b : Bool) → (a ≡ true → ⊥) → (b ≡ true → ⊥) → (a || b) ≡ true → ⊥
    either true b first rest is = first refl
    either false b first rest is = rest is

    first_none : is_unread ino item ≡ true → is_none (file_part item) ≡ true
    first_none is = (and_parts (item.key.objectid == ino) (is_none (file_part item)) is).1

    not_none : (part : FilePart) → file_part item ≡ Some part → is_none (file_part item) ≡ true → ⊥
    not_none part is none =
        let differ : false ≡ true = sym (ap (λ (o : Option FilePart). is_none o) is) ∙ none in absurd cc

    says_none : is_none (file_part item) ≡ true → SaysInode item ⊎ SaysPiece item → ⊥
    says_none none (inl inode) = not_none (Inode item.key.objectid inode.inode) inode.says none
    says_none none (inr piece) = not_none (PieceOf item.key.objectid piece.piece) piece.says none
