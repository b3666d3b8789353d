-- Edits that exchange pieces of one file make its items those of the new file.
use Rattle.std.proofs.Common.{◌≡◌, ℕ, true, false, List, [], map, Some, None, refl, sym, ap, ◌∙◌, arith, inl, inr}
use Rattle.std.specs.Prelude.{Bool, IsTrue, Option, ◌==◌, ◌&&◌, is_some, if◌then◌else◌}
use Rattle.std.specs.List.{flat_map}
use Rattle.std.specs.Option.{option_and_then, option_map}
use Rattle.std.proofs.lemmas.Bool.{cases_Bool, cases_eq, eq-eqb, eqb-true, ne_eqb}
use Rattle.qg_num.specs.declared.key.Key.{Key}
use Rattle.qg_num.specs.declared.piece.Piece.{Piece}
use Rattle.qg_node.specs.declared.item.Item.{Item}
use Rattle.qg_image.specs.declared.file.File.{File}
use Rattle.qg_image.specs.FilesOf.{are_pieces}
use Rattle.qg_image.specs.IsShaped.{same_key}
use Rattle.qg_image.specs.ItemMeaning.{◌orelse◌}
use Rattle.qg_image.specs.Table.{value_at, with_value, without_key as without_value}
use Rattle.qg_image.proofs.Pieces.{WholeFile-is_file}
use Rattle.qg_machine.specs.FileChange.{pieces_or_none}
use Rattle.qg_tree_items.proofs.Parts.{and-false, orelse-none}
use Rattle.qg_tree_items.specs.Writable.{AreWritableFiles, IsWritableFile}
use Rattle.qg_root_items.specs.Written.{item_of_inode, item_of_piece, items_of_file}
use Rattle.qg_tree_read.specs.Reading.{body_at}
use Rattle.qg_inodes.specs.Bodies.{Ascend, body_in_file, body_with_file, inode_body, piece_at, piece_body}
use Rattle.qg_inodes.specs.FileEdits.{AreExchanged, file_edited, with_items, without_items}
use Rattle.qg_inodes.proofs.EditedItems.{ascending-with_item, body-with_item}
use Rattle.qg_inodes.proofs.FileBodies.{body-file, body-files, pieces_other, pieces_own}
use Rattle.qg_inodes.proofs.Numbers.{files-ascend, pieces-ascend}
use Rattle.qg_inodes.proofs.OneFile.{puts-file, takes-file}
use Rattle.qg_inodes.proofs.Sequences.{ascending-with_items, ascending-without_items, body-with_items}
use Rattle.qg_inodes.proofs.Sequences.{body-without_items}

-- ---- bodies of pieces

is_some-map : {A B : Type 0} (f : A → B) (o : Option A) → is_some (option_map f o) ≡ is_some o
is_some-map f None = refl
is_some-map f (Some x) = refl

-- the bodies of what is put in, else of what stays
exchanged_bodies : (put gone old : Option Piece)
    → option_map piece_body (put orelse (if is_some gone then None else old))
    ≡ (option_map piece_body put orelse
    (if is_some (option_map piece_body gone) then None else option_map piece_body old))
exchanged_bodies (Some piece) out old = refl
exchanged_bodies None None old = refl
exchanged_bodies None (Some piece) old = refl

-- ---- where pieces are exchanged

module _ (ino : ℕ) (file : File) (gone put : List Piece) (files : List (ℕ × File)) (are : AreWritableFiles files)
    (is : IsWritableFile (ino, file)) (whole : IsTrue (are_pieces 0 file.size put))
    (exchanged : AreExchanged gone put (pieces_or_none (value_at ino files)) file.pieces) where
  abbrev items : List Item
  items = flat_map items_of_file files

  abbrev put_items : List Item
  put_items = map (item_of_piece ino) put

  abbrev gone_items : List Item
  gone_items = map (item_of_piece ino) gone

  -- what stands under a key afterwards
  abbrev after : Key → Option (List ℕ)
  after key =
      if same_key (item_of_inode ino file).key key then Some (inode_body file)
      else (body_at key put_items orelse (if is_some (body_at key gone_items) then None else body_at key items))

  body_after : (key : Key) → body_at key (file_edited ino file gone put items) ≡ after key
  body_after key =
      let left = without_items gone_items items in
      let inode = body-with_item (item_of_inode ino file) (with_items put_items left) key in
      let pieces = body-with_items put_items left key (pieces-ascend ino file.size put whole) in
      let rest = body-without_items gone_items items key in
      inode
      ∙ ap (λ (o : Option (List ℕ)). if same_key (item_of_inode ino file).key key then Some (inode_body file)
      else o) pieces
      ∙ ap
      (λ (o : Option (List ℕ)). if same_key (item_of_inode ino file).key key then Some (inode_body file)
      else (body_at key put_items orelse o))
      rest

  module _ (key : Key) where
    -- of another number
    of_other : (ino == key.objectid) ≡ false → after key ≡ body_with_file ino file items key
    of_other other =
        let no_piece : ((ino == key.objectid) && (108 == key.kind)) ≡ false =
        ap (λ (b : Bool). b && (108 == key.kind)) other
        in
        rw (other, pieces_other ino put key no_piece, pieces_other ino gone key no_piece) refl

    module _ (own : (ino == key.objectid) ≡ true) where
      number : ino ≡ key.objectid
      number = eqb-true ino key.objectid own

      -- what was there
      there : body_at key items ≡ option_and_then (body_in_file key.kind key.offset) (value_at ino files)
      there =
          body-files files are.ascending key
          ∙ ap (λ (n : ℕ). option_and_then (body_in_file key.kind key.offset) (value_at n files)) (sym number)

      -- the INODE_ITEM
      of_inode : key.kind ≡ 1 → key.offset ≡ 0 → after key ≡ body_with_file ino file items key
      of_inode kind offset =
          rw (
            own,
            eq-eqb 1 key.kind (sym kind),
            eq-eqb 0 key.offset (sym offset),
            eq-eqb key.kind 1 kind,
            eq-eqb key.offset 0 offset,
          ) refl

      -- a piece
      old_piece : key.kind ≡ 108 → (found : Option File)
          → option_and_then (body_in_file key.kind key.offset) found
          ≡ option_map piece_body (piece_at key.offset (pieces_or_none found))
      old_piece kind None = refl
      old_piece kind (Some old) =
          rw (ne_eqb key.kind 1 (λ same. omega (arith, kind, same)), eq-eqb key.kind 108 kind) refl

      of_piece : key.kind ≡ 108 → after key ≡ body_with_file ino file items key
      of_piece kind =
          let at = key.offset in
          let no_inode : (key.kind ≡ 1 → ⊥) = λ same. omega arith in
          let piece : ((ino == key.objectid) && (108 == key.kind)) ≡ true =
          ap (λ (b : Bool). b && (108 == key.kind)) own ∙ eq-eqb 108 key.kind (sym kind)
          in
          let old = there ∙ old_piece kind (value_at ino files) in
          let bodies =
          exchanged_bodies (piece_at at put) (piece_at at gone) (piece_at at (pieces_or_none (value_at ino files)))
          in
          rw (
            old,
            pieces_own ino put key piece,
            pieces_own ino gone key piece,
            own,
            ne_eqb 1 key.kind (λ same. no_inode (sym same)),
            ne_eqb key.kind 1 no_inode,
            eq-eqb key.kind 108 kind,
          ) (sym bodies ∙ ap (option_map piece_body) (sym (exchanged at)))

      -- nothing else
      nothing : ((key.kind == 1) && (key.offset == 0)) ≡ false → (key.kind == 108) ≡ false → (found : Option File)
          → option_and_then (body_in_file key.kind key.offset) found ≡ None
      nothing no_inode no_piece None = refl
      nothing no_inode no_piece (Some old) = rw (no_inode, no_piece) refl

      of_neither : ((1 == key.kind) && (0 == key.offset)) ≡ false → ((key.kind == 1) && (key.offset == 0)) ≡ false
          → (key.kind ≡ 108 → ⊥) → after key ≡ body_with_file ino file items key
      of_neither no_item no_inode no_kind =
          let not_108 = ne_eqb 108 key.kind (λ same. no_kind (sym same)) in
          let no_piece : ((ino == key.objectid) && (108 == key.kind)) ≡ false =
          ap (λ (b : Bool). (ino == key.objectid) && b) not_108 ∙ and-false (ino == key.objectid)
          in
          let other : same_key (item_of_inode ino file).key key ≡ false =
          ap (λ (b : Bool). (b && (1 == key.kind)) && (0 == key.offset)) own ∙ no_item
          in
          let none = nothing no_inode (ne_eqb key.kind 108 no_kind) (value_at ino files) in
          rw (
            other,
            pieces_other ino put key no_piece,
            pieces_other ino gone key no_piece,
            there ∙ none,
            own,
            no_inode,
            ne_eqb key.kind 108 no_kind,
          ) refl

      of_own : after key ≡ body_with_file ino file items key
      of_own = elim (cases_eq key.kind 1) [
        | inl inode ↦ elim (cases_eq key.offset 0) [
          | inl zero ↦ of_inode inode zero
          | inr behind ↦
              of_neither
              (ap (λ (b : Bool). (1 == key.kind) && b) (ne_eqb 0 key.offset (λ same. behind (sym same)))
              ∙ and-false (1 == key.kind))
              (ap (λ (b : Bool). (key.kind == 1) && b) (ne_eqb key.offset 0 behind) ∙ and-false (key.kind == 1))
              (λ same. omega (arith, inode, same))
        ]
        | inr no_inode ↦ elim (cases_eq key.kind 108) [
          | inl piece ↦ of_piece piece
          | inr no_piece ↦
              of_neither (ap (λ (b : Bool). b && (0 == key.offset)) (ne_eqb 1 key.kind (λ same. no_inode (sym same))))
              (ap (λ (b : Bool). b && (key.offset == 0)) (ne_eqb key.kind 1 no_inode)) no_piece
        ]
      ]

    is_after : after key ≡ body_with_file ino file items key
    is_after = elim (cases_Bool (ino == key.objectid)) [ inl own ↦ of_own own | inr other ↦ of_other other ]

  ascends : Ascend (file_edited ino file gone put items)
  ascends =
      let left = without_items gone_items items in
      ascending-with_item (item_of_inode ino file) (with_items put_items left)
      (ascending-with_items put_items left (ascending-without_items gone_items items (files-ascend files are)))

  pub exchanges : file_edited ino file gone put items ≡ flat_map items_of_file (with_value ino file files)
  exchanges =
      puts-file ino file files (file_edited ino file gone put items) are is ascends
      (λ key. body_after key ∙ is_after key)

-- ---- a file is made

pub makes-file : (ino : ℕ) (file : File) (files : List (ℕ × File)) → AreWritableFiles files → IsWritableFile (ino, file)
    → value_at ino files ≡ None
    → file_edited ino file [] file.pieces (flat_map items_of_file files)
    ≡ flat_map items_of_file (with_value ino file files)
makes-file ino file files are is none =
    let whole = (WholeFile-is_file file is.sound).pieces in
    exchanges ino file [] file.pieces files are is whole (λ position.
    let old : piece_at position (pieces_or_none (value_at ino files)) ≡ None =
    ap (λ (o : Option File). piece_at position (pieces_or_none o)) none
    in
    sym (ap (λ (o : Option Piece). piece_at position file.pieces orelse o) old
    ∙ orelse-none (piece_at position file.pieces)))

-- ---- a file is taken out

none_left : (o : Option (List ℕ)) → (if is_some o then None else o) ≡ None
none_left None = refl
none_left (Some body) = refl

pub removes-file : (ino : ℕ) (file : File) (files : List (ℕ × File)) → AreWritableFiles files
    → value_at ino files ≡ Some file
    → without_items (items_of_file (ino, file)) (flat_map items_of_file files)
    ≡ flat_map items_of_file (without_value ino files)
removes-file ino file files are there =
    let items = flat_map items_of_file files in
    let own_items = items_of_file (ino, file) in
    takes-file ino files (without_items own_items items) are
    (ascending-without_items own_items items (files-ascend files are)) (λ key.
    body-without_items own_items items key
    ∙ ap (λ (o : Option (List ℕ)). if is_some o then None else body_at key items) (body-file (ino, file) key)
    ∙ elim (cases_Bool (ino == key.objectid)) [
      | inr other ↦ rw other refl
      | inl own ↦
          let here : body_at key items ≡ body_in_file key.kind key.offset file =
          body-files files are.ascending key
          ∙ ap (λ (n : ℕ). option_and_then (body_in_file key.kind key.offset) (value_at n files))
          (sym (eqb-true ino key.objectid own))
          ∙ ap (option_and_then (body_in_file key.kind key.offset)) there
          in
          rw (own, here) (none_left (body_in_file key.kind key.offset file))
    ])
