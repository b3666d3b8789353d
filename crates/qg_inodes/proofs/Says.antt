-- What one item of a subvolume's tree says.
use Rattle.std.proofs.Common.{◌≡◌, ℕ, true, false, Some, None, refl, sym, ap, ◌∙◌, arith, inl, inr}
use Rattle.std.specs.Prelude.{Bool, Option, ◌==◌, ◌&&◌, ◌⊎◌, is_none, is_some}
use Rattle.std.specs.List.{list_all}
use Rattle.std.specs.Option.{option_and_then, option_map}
use Rattle.std.proofs.lemmas.Bool.{and_parts, eqb-true, ne_eqb}
use Rattle.std.proofs.lemmas.Option.{option_and_then_some}
use Rattle.qg_num.specs.declared.piece.Piece.{Piece}
use Rattle.qg_node.specs.declared.item.Item.{Item}
use Rattle.qg_items.specs.declared.file.InodeItem.{InodeItem}
use Rattle.qg_items.specs.ItemReading.{extent_data_read, inode_read}
use Rattle.qg_items.proofs.Trips.{then_some_parts}
use Rattle.qg_image.specs.declared.part.FilePart.{FilePart}
use Rattle.qg_image.specs.declared.part.FilePart.TheVariants.{Inode, PieceOf}
use Rattle.qg_image.specs.ItemMeaning.{file_part, file_part_stamps, is_keyed, piece_told, some_passes, when, ◌orelse◌}
use Rattle.qg_image.specs.FilesOf.{is_file_item}
use Rattle.qg_tree_items.proofs.Parts.{and-false}
use Rattle.qg_inodes.specs.Items.{piece_of}

-- it is the INODE_ITEM of a file
pub record SaysInode (item : Item) : Type 0 where
  pub inode : InodeItem
  pub kind : item.key.kind ≡ 1
  pub offset : item.key.offset ≡ 0
  pub read : inode_read item.body ≡ Some inode
  pub says : file_part item ≡ Some (Inode item.key.objectid inode)

-- it is the EXTENT_DATA of a piece
pub record SaysPiece (item : Item) : Type 0 where
  pub piece : Piece
  pub kind : item.key.kind ≡ 108
  pub position : piece.position ≡ item.key.offset
  pub told : piece_of item ≡ Some piece
  pub says : file_part item ≡ Some (PieceOf item.key.objectid piece)

module _ (item : Item) where
  abbrev number : ℕ
  number = item.key.objectid

  -- by its key and its body
  abbrev part_by : Bool → Bool → Option InodeItem → Option Piece → Option FilePart
  part_by keyed kinded inode piece =
      when keyed (option_map (Inode number) inode) orelse when kinded (option_map (PieceOf number) piece)

  part_is : file_part item
      ≡ part_by (is_keyed number 1 0 item) (item.key.kind == 108) (inode_read item.body) (piece_of item)
  unfolding file_part
  part_is = refl

  -- ---- what says something

  of_inode : (inode : InodeItem) → is_keyed number 1 0 item ≡ true → inode_read item.body ≡ Some inode
      → file_part item ≡ Some (Inode number inode)
      → SaysInode item
  of_inode inode keyed read says =
      let parts = and_parts ((item.key.objectid == number) && (item.key.kind == 1)) (item.key.offset == 0) keyed in
      let front = and_parts (item.key.objectid == number) (item.key.kind == 1) parts.0 in
      record {
        inode = inode;
        kind = eqb-true item.key.kind 1 front.1;
        offset = eqb-true item.key.offset 0 parts.1;
        read = read;
        says = says;
      }

  at_offset : (piece : Piece) → piece_of item ≡ Some piece → piece.position ≡ item.key.offset
  at_offset piece is =
      option_and_then_some (piece_told item.key.offset) (extent_data_read item.body) piece is
      (λ told read said.
      sym (ap (λ (p : Piece). p.position) (then_some_parts (told.ram_bytes == told.disk_num_bytes) _ piece said).1))

  of_piece : (piece : Piece) → (item.key.kind == 108) ≡ true → piece_of item ≡ Some piece
      → file_part item ≡ Some (PieceOf number piece)
      → SaysPiece item
  of_piece piece kinded told says = record {
    piece = piece;
    kind = eqb-true item.key.kind 108 kinded;
    position = at_offset piece told;
    told = told;
    says = says;
  }

  says_by : (keyed kinded : Bool) (inode : Option InodeItem) (piece : Option Piece)
      → is_keyed number 1 0 item ≡ keyed → (item.key.kind == 108) ≡ kinded → inode_read item.body ≡ inode
      → piece_of item ≡ piece
      → file_part item ≡ part_by keyed kinded inode piece → is_some (part_by keyed kinded inode piece) ≡ true
      → SaysInode item ⊎ SaysPiece item
  says_by true kinded (Some inode) piece is_inode is_piece read told says some = inl (of_inode inode is_inode read says)
  says_by true true None (Some piece) is_inode is_piece read told says some = inr (of_piece piece is_piece told says)
  says_by true true None None is_inode is_piece read told says some = absurd cc
  says_by true false None piece is_inode is_piece read told says some = absurd cc
  says_by false true inode (Some piece) is_inode is_piece read told says some = inr (of_piece piece is_piece told says)
  says_by false true inode None is_inode is_piece read told says some = absurd cc
  says_by false false inode piece is_inode is_piece read told says some = absurd cc

  says_some : is_some (file_part item) ≡ true → SaysInode item ⊎ SaysPiece item
  says_some some =
      says_by (is_keyed number 1 0 item) (item.key.kind == 108) (inode_read item.body) (piece_of item) refl refl refl
      refl part_is
      (sym (ap (λ (o : Option FilePart). is_some o) part_is) ∙ some)

  -- ---- what says nothing

  none_of_inode : (keyed : Bool) (piece : Option Piece) → is_none (part_by keyed false None piece) ≡ true
  none_of_inode true piece = refl
  none_of_inode false piece = refl

  none_of_piece : (kinded : Bool) (inode : Option InodeItem) → is_none (part_by false kinded inode None) ≡ true
  none_of_piece true inode = refl
  none_of_piece false inode = refl

  pub no-inode : item.key.kind ≡ 1 → inode_read item.body ≡ None → is_none (file_part item) ≡ true
  no-inode kind unread =
      let other : (item.key.kind == 108) ≡ false = ne_eqb item.key.kind 108 (λ is. omega arith) in
      ap (λ (o : Option FilePart). is_none o) part_is
      ∙ ap (λ (b : Bool). is_none (part_by (is_keyed number 1 0 item) b (inode_read item.body) (piece_of item))) other
      ∙ ap (λ (o : Option InodeItem). is_none (part_by (is_keyed number 1 0 item) false o (piece_of item))) unread
      ∙ none_of_inode (is_keyed number 1 0 item) (piece_of item)

  pub no-piece : item.key.kind ≡ 108 → piece_of item ≡ None → is_none (file_part item) ≡ true
  no-piece kind unread =
      let other : (item.key.kind == 1) ≡ false = ne_eqb item.key.kind 1 (λ is. omega arith) in
      let not_keyed : is_keyed number 1 0 item ≡ false =
      ap (λ (b : Bool). ((number == number) && b) && (item.key.offset == 0)) other
      ∙ ap (λ (b : Bool). b && (item.key.offset == 0)) (and-false (number == number))
      in
      ap (λ (o : Option FilePart). is_none o) part_is
      ∙ ap (λ (b : Bool). is_none (part_by b (item.key.kind == 108) (inode_read item.body) (piece_of item))) not_keyed
      ∙ ap (λ (o : Option Piece). is_none (part_by false (item.key.kind == 108) (inode_read item.body) o)) unread
      ∙ none_of_piece (item.key.kind == 108) (inode_read item.body)

some_passed : {A : Type 0} (test : A → Bool) (o : Option A) → some_passes test o ≡ true → is_some o ≡ true
some_passed test None passes = passes
some_passed test (Some x) passes = refl

-- an item that the tree may hold says one or the other
pub says : (generation : ℕ) (item : Item) → is_file_item generation item ≡ true → SaysInode item ⊎ SaysPiece item
unfolding is_file_item
says generation item passes = says_some item (some_passed _ (file_part item) passes)
