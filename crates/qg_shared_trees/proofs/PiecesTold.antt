-- The extents that items tell: those that a leaf's items tell it names, and those that all of a tree's items tell are
-- those
-- of the pieces of its files.
use Rattle.std.proofs.Common.{◌≡◌, ℕ, Bool, true, false, List, [], ◌∷◌, map, Option, Some, None, refl, sym, ap, subst}
use Rattle.std.proofs.Common.{◌∙◌, inl, inr}
use Rattle.std.specs.Prelude.{◌&&◌, ◌==◌, is_some}
use Rattle.std.specs.Bool.{then_some}
use Rattle.std.specs.List.{Contains, flat_map, list_all}
use Rattle.std.specs.Option.{option_and_then}
use Rattle.std.proofs.lemmas.Bool.{and_parts, eq-eqb}
use Rattle.qg_num.specs.declared.piece.Piece.{Piece}
use Rattle.qg_node.specs.declared.item.Item.{Item}
use Rattle.qg_node.specs.declared.node.Node.{Node}
use Rattle.qg_node.specs.Nodes.{own_items}
use Rattle.qg_items.specs.declared.file.InodeItem.{InodeItem}
use Rattle.qg_image.specs.declared.file.File.{File}
use Rattle.qg_image.specs.declared.part.FilePart.{FilePart}
use Rattle.qg_image.specs.declared.part.FilePart.TheVariants.{Inode, PieceOf}
use Rattle.qg_image.specs.FilesOf.{are_files, file_in, file_parts, files_in, files_of, inodes_in, is_file_item}
use Rattle.qg_image.specs.FilesOf.{is_inode, is_owned, piece_in, AreItemsOfFiles}
use Rattle.qg_image.specs.ItemMeaning.{file_part}
use Rattle.qg_image.specs.Table.{has_key, value_at}
use Rattle.qg_image.specs.declared.element.Element.{Element}
use Rattle.qg_image.specs.Reach.{extent_of, piece_of_part, pieces_of}
use Rattle.qg_image.proofs.Contained.{contains_cases, none_contained}
use Rattle.qg_owner_rule.proofs.Reaching.{entry_of_value}
use Rattle.qg_reach.proofs.Members.{contains_flat_map, contains_map, one_flat_mapped, one_mapped}
use Rattle.qg_shared_trees.proofs.Referring.{filtered_one, named_by, one_filtered}

-- an item tells a piece of an extent
pub record TellsExtent (item : Item) (run : Element) : Type 0 where
  pub number : ℕ
  pub piece : Piece
  pub told : file_part item ≡ Some (PieceOf number piece)
  pub is : extent_of piece ≡ run

-- ---- one node

part_piece : (part : Option FilePart) (piece : Piece) → option_and_then piece_of_part part ≡ Some piece
    → (number : ℕ) × (part ≡ Some (PieceOf number piece))
part_piece None piece is = absurd cc
part_piece (Some (Inode number inode)) piece is = absurd cc
part_piece (Some (PieceOf number own)) piece is =
    let same : own ≡ piece = let e : Some own ≡ Some piece = is in cc in
    (number, ap (λ (p : Piece). Some (PieceOf number p)) same)

-- an extent that a node names is told by one of its items, and back
pub named-item : (node : Node) (run : Element) → Contains (named_by node) run
    → (item : Item) × Contains (own_items node) item × TellsExtent item run
unfolding pieces_of
named-item node run has =
    let piece = one_mapped extent_of (pieces_of node) run has in
    let item = one_filtered (λ (item : Item). option_and_then piece_of_part (file_part item)) (own_items node) piece.0
    piece.1 in
    let part = part_piece (file_part item.0) piece.0 item.2 in
    (item.0, item.1, record { number = part.0; piece = piece.0; told = part.1; is = piece.2 })

pub item-named : (node : Node) (run : Element) (item : Item) → Contains (own_items node) item → TellsExtent item run
    → Contains (named_by node) run
unfolding pieces_of
item-named node run item has tells =
    let piece = ap (λ (part : Option FilePart). option_and_then piece_of_part part) tells.told in
    subst (λ (element : Element). Contains (map extent_of (pieces_of node)) element) tells.is
    (contains_map extent_of (pieces_of node) tells.piece
    (filtered_one (λ (item : Item). option_and_then piece_of_part (file_part item)) (own_items node) item tells.piece
    has piece))

-- ---- files

passed : {A : Type 0} (a b : Bool) (x y : A) → then_some (a && b) x ≡ Some y → (b ≡ true) × (x ≡ y)
passed true true x y is = (refl, let e : Some x ≡ Some y = is in cc)
passed true false x y is = absurd cc
passed false b x y is = absurd cc

-- each piece has its file, and these are the files
record AreFilesOf (parts : List FilePart) (read : List (ℕ × File)) : Type 0 where
  owned : list_all (is_owned parts) parts ≡ true
  are : files_in parts ≡ read

files_are : (generation : ℕ) (items : List Item) (read : List (ℕ × File)) → AreItemsOfFiles generation items read
    → AreFilesOf (file_parts items) read
unfolding files_of are_files
files_are generation items read is =
    let parts = file_parts items in
    let fit = passed (list_all (is_file_item generation) items) (are_files parts) (files_in parts) read is in
    record {
      owned = (and_parts (list_all (is_owned parts) parts) (list_all (is_inode parts) (inodes_in parts)) fit.0).0;
      are = fit.1;
    }

of_number : (number : ℕ) (part : FilePart) (piece : Piece) → piece_in number part ≡ Some piece
    → (other : ℕ) × (part ≡ PieceOf other piece)
of_number number (Inode other inode) piece is = absurd cc
of_number number (PieceOf other own) piece is = from (other == number) is where
  from : (same : Bool) → then_some same own ≡ Some piece → (n : ℕ) × (PieceOf other own ≡ PieceOf n piece)
  from true is = (other, let same : own ≡ piece = (let e : Some own ≡ Some piece = is in cc) in ap (PieceOf other) same)
  from false is = absurd cc

its_number : (number : ℕ) (piece : Piece) → piece_in number (PieceOf number piece) ≡ Some piece
its_number number piece = ap (λ (b : Bool). then_some b piece) (eq-eqb number number refl)

one_of_all : {A : Type 0} (test : A → Bool) (xs : List A) (x : A) → list_all test xs ≡ true → Contains xs x
    → test x ≡ true
one_of_all test [] x all has = absurd (none_contained x has)
one_of_all {A} test (z ∷ zs) x all has =
    let parts = and_parts (test z) (list_all test zs) all in
    elim (contains_cases z zs x has) [
      | inl same ↦ subst (λ (y : A). test y ≡ true) same parts.0
      | inr later ↦ one_of_all test zs x parts.1 later
    ]

some_value : {A : Type 0} (n : ℕ) (table : List (ℕ × A)) → has_key n table ≡ true → (x : A) × Contains table (n, x)
some_value {A} n table has = from (value_at n table) refl has where
  from : (o : Option A) → value_at n table ≡ o → is_some o ≡ true → (x : A) × Contains table (n, x)
  from None is some = absurd cc
  from (Some x) is some = (x, entry_of_value n x table is)

-- the extents of files
abbrev pub extents_of_files : List (ℕ × File) → List Element
extents_of_files read = flat_map (λ (file : ℕ × File). map extent_of file.1.pieces) read

module _ (generation : ℕ) (items : List Item) (read : List (ℕ × File))
    (is : AreItemsOfFiles generation items read) (run : Element) where
  -- an extent of the files is told by one of the items, and back
  pub file-item : Contains (extents_of_files read) run → (item : Item) × Contains items item × TellsExtent item run
  file-item has =
      let all = file_parts items in
      let file = one_flat_mapped (λ (file : ℕ × File). map extent_of file.1.pieces) read run has in
      let there = subst (λ (table : List (ℕ × File)). Contains table file.0)
      (sym (files_are generation items read is).are) file.1 in
      let inode = one_mapped (λ (entry : ℕ × InodeItem). (entry.0, file_in all entry)) (inodes_in all) file.0 there in
      let piece = one_mapped extent_of file.0.1.pieces run file.2 in
      let own = subst (λ (f : ℕ × File). Contains f.1.pieces piece.0) (sym inode.2) piece.1 in
      let part = one_filtered (piece_in inode.0.0) all piece.0 own in
      let number = of_number inode.0.0 part.0 piece.0 part.2 in
      let item = one_filtered file_part items part.0 part.1 in (
        item.0,
        item.1,
        record {
          number = number.0;
          piece = piece.0;
          told = item.2 ∙ ap (λ (p : FilePart). Some p) number.1;
          is = piece.2;
        },
      )

  pub item-file : (item : Item) → Contains items item → TellsExtent item run → Contains (extents_of_files read) run
  item-file item has tells =
      let all = file_parts items in
      let are = files_are generation items read is in
      let part = PieceOf tells.number tells.piece in
      let there = filtered_one file_part items item part has tells.told in
      let inode = some_value tells.number (inodes_in all) (one_of_all (is_owned all) all part are.owned there) in
      let file = file_in all (tells.number, inode.0) in
      let listed = subst (λ (table : List (ℕ × File)). Contains table (tells.number, file)) are.are
      (contains_map (λ (entry : ℕ × InodeItem). (entry.0, file_in all entry)) (inodes_in all)
      (tells.number, inode.0) inode.1) in
      let piece = filtered_one (piece_in tells.number) all part tells.piece there
      (its_number tells.number tells.piece) in
      let own = contains_map extent_of file.pieces tells.piece piece in
      contains_flat_map (λ (file : ℕ × File). map extent_of file.1.pieces) read (tells.number, file) run listed
      (subst (λ (element : Element). Contains (map extent_of file.pieces) element) tells.is own)
