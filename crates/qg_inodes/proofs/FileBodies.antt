-- What stands under each key of the items of files.
use Rattle.std.proofs.Common.{◌≡◌, ℕ, ◌+◌, ◌<◌, true, false, List, [], ◌∷◌, ◌++◌, map, None, refl, sym, ap, ◌∙◌, arith}
use Rattle.std.proofs.Common.{inl, inr}
use Rattle.std.specs.Prelude.{Bool, ◌==◌, ◌&&◌, Option, if◌then◌else◌}
use Rattle.std.specs.List.{AllByRecursion, flat_map}
use Rattle.std.specs.List.Sorted.{IsStrictlyIncreasing}
use Rattle.std.specs.Option.{option_map}
use Rattle.std.proofs.lemmas.Bool.{cases_Bool, cases_eq, eq-eqb, eqb-true, ne_eqb}
use Rattle.qg_num.specs.declared.key.Key.{Key}
use Rattle.qg_num.specs.declared.piece.Piece.{Piece}
use Rattle.qg_node.specs.declared.item.Item.{Item}
use Rattle.qg_image.specs.declared.file.File.{File}
use Rattle.qg_image.specs.IsShaped.{same_key}
use Rattle.qg_image.specs.ItemMeaning.{◌orelse◌}
use Rattle.qg_image.specs.Table.{keys_of}
use Rattle.qg_tree_items.proofs.Parts.{and-false, orelse-none}
use Rattle.qg_root_items.specs.Written.{item_of_piece, items_of_file}
use Rattle.qg_files.proofs.Ascending.{Ascends, Ascends-increasing, all_past}
use Rattle.qg_tree_read.specs.Reading.{body_at}
use Rattle.qg_inodes.specs.Bodies.{body_in_file, body_in_files, piece_at, piece_body}

-- ---- one list behind another

pub body-append : (key : Key) (front back : List Item)
    → body_at key (front ++ back) ≡ (body_at key front orelse body_at key back)
body-append key [] back = refl
body-append key (item ∷ front) back = elim (cases_Bool (same_key item.key key)) [
  | inl same ↦ rw same refl
  | inr differ ↦ rw differ (body-append key front back)
]

-- ---- the pieces of a file

-- where the key is none of a piece of this file
pub pieces_other : (ino : ℕ) (pieces : List Piece) (key : Key) → ((ino == key.objectid) && (108 == key.kind)) ≡ false
    → body_at key (map (item_of_piece ino) pieces) ≡ None
pieces_other ino [] key other = refl
pieces_other ino (piece ∷ pieces) key other = rw other (pieces_other ino pieces key other)

-- and where it is one
pub pieces_own : (ino : ℕ) (pieces : List Piece) (key : Key) → ((ino == key.objectid) && (108 == key.kind)) ≡ true
    → body_at key (map (item_of_piece ino) pieces) ≡ option_map piece_body (piece_at key.offset pieces)
pieces_own ino [] key own = refl
pieces_own ino (piece ∷ pieces) key own = elim (cases_Bool (piece.position == key.offset)) [
  | inl here ↦ rw (own, here) refl
  | inr later ↦ rw (own, later) (pieces_own ino pieces key own)
]

-- ---- one file

-- under a key of another number
body-other : (file : ℕ × File) (key : Key) → (file.0 == key.objectid) ≡ false → body_at key (items_of_file file) ≡ None
body-other file key other =
    let pieces : ((file.0 == key.objectid) && (108 == key.kind)) ≡ false =
    ap (λ (b : Bool). b && (108 == key.kind)) other
    in
    rw other (pieces_other file.0 file.1.pieces key pieces)

-- under one of its own number, by the kind
module _ (file : ℕ × File) (key : Key) (own : (file.0 == key.objectid) ≡ true) where
  -- (ino, INODE_ITEM, 0)
  of_inode : key.kind ≡ 1 → key.offset ≡ 0 → body_at key (items_of_file file) ≡ body_in_file key.kind key.offset file.1
  of_inode kind offset =
      rw (
        own,
        eq-eqb 1 key.kind (sym kind),
        eq-eqb 0 key.offset (sym offset),
        eq-eqb key.kind 1 kind,
        eq-eqb key.offset 0 offset,
      ) refl

  -- (ino, INODE_ITEM, another offset)
  of_inode_behind : key.kind ≡ 1 → (key.offset ≡ 0 → ⊥)
      → body_at key (items_of_file file) ≡ body_in_file key.kind key.offset file.1
  of_inode_behind kind differ =
      let no_piece : (key.kind ≡ 108 → ⊥) = λ is. omega arith in
      let not_108 = ne_eqb 108 key.kind (λ is. no_piece (sym is)) in
      let pieces : ((file.0 == key.objectid) && (108 == key.kind)) ≡ false =
      ap (λ (b : Bool). (file.0 == key.objectid) && b) not_108 ∙ and-false (file.0 == key.objectid)
      in
      rw (
        own,
        eq-eqb 1 key.kind (sym kind),
        ne_eqb 0 key.offset (λ is. differ (sym is)),
        eq-eqb key.kind 1 kind,
        ne_eqb key.offset 0 differ,
        ne_eqb key.kind 108 no_piece,
      ) (pieces_other file.0 file.1.pieces key pieces)

  -- (ino, EXTENT_DATA, position)
  of_piece : key.kind ≡ 108 → body_at key (items_of_file file) ≡ body_in_file key.kind key.offset file.1
  of_piece kind =
      let no_inode : (key.kind ≡ 1 → ⊥) = λ is. omega arith in
      let pieces : ((file.0 == key.objectid) && (108 == key.kind)) ≡ true =
      ap (λ (b : Bool). b && (108 == key.kind)) own ∙ eq-eqb 108 key.kind (sym kind)
      in
      rw (
        own,
        ne_eqb 1 key.kind (λ is. no_inode (sym is)),
        ne_eqb key.kind 1 no_inode,
        eq-eqb key.kind 108 kind,
      ) (pieces_own file.0 file.1.pieces key pieces)

  -- another kind
  of_neither : (key.kind ≡ 1 → ⊥) → (key.kind ≡ 108 → ⊥)
      → body_at key (items_of_file file) ≡ body_in_file key.kind key.offset file.1
  of_neither no_inode no_piece =
      let not_108 = ne_eqb 108 key.kind (λ is. no_piece (sym is)) in
      let pieces : ((file.0 == key.objectid) && (108 == key.kind)) ≡ false =
      ap (λ (b : Bool). (file.0 == key.objectid) && b) not_108 ∙ and-false (file.0 == key.objectid)
      in
      rw (
        own,
        ne_eqb 1 key.kind (λ is. no_inode (sym is)),
        ne_eqb key.kind 1 no_inode,
        ne_eqb key.kind 108 no_piece,
      ) (pieces_other file.0 file.1.pieces key pieces)

  body-own : body_at key (items_of_file file) ≡ body_in_file key.kind key.offset file.1
  body-own = elim (cases_eq key.kind 1) [
    | inl inode ↦ elim (cases_eq key.offset 0) [
      | inl zero ↦ of_inode inode zero
      | inr behind ↦ of_inode_behind inode behind
    ]
    | inr no_inode ↦ elim (cases_eq key.kind 108) [
      | inl piece ↦ of_piece piece
      | inr no_piece ↦ of_neither no_inode no_piece
    ]
  ]

pub body-file : (file : ℕ × File) (key : Key)
    → body_at key (items_of_file file)
    ≡ (if file.0 == key.objectid then body_in_file key.kind key.offset file.1 else None)
body-file file key = elim (cases_Bool (file.0 == key.objectid)) [
  | inl own ↦ body-own file key own ∙ sym (rw own refl)
  | inr other ↦ body-other file key other ∙ sym (rw other refl)
]

-- ---- all files

body-greater : (files : List (ℕ × File)) (key : Key) → AllByRecursion (λ file. key.objectid < file.0) files
    → body_at key (flat_map items_of_file files) ≡ None
body-greater [] key greater = refl
body-greater (file ∷ files) key greater =
    let differ = ne_eqb file.0 key.objectid (λ is. omega (arith, is, greater.0)) in
    body-append key (items_of_file file) (flat_map items_of_file files)
    ∙ ap (λ (body : Option (List ℕ)). body orelse body_at key (flat_map items_of_file files))
    (body-other file key differ)
    ∙ body-greater files key greater.1

body-files-from : (from : ℕ) (files : List (ℕ × File)) (key : Key) → Ascends from files
    → body_at key (flat_map items_of_file files) ≡ body_in_files key files
unfolding Ascends
body-files-from from [] key ascends = refl
body-files-from from (file ∷ files) key ascends =
    let behind = body_at key (flat_map items_of_file files) in
    body-append key (items_of_file file) (flat_map items_of_file files)
    ∙ elim (cases_Bool (file.0 == key.objectid)) [
      | inl own ↦
          let number = eqb-true file.0 key.objectid own in
          let none = body-greater files key (greater_than number (all_past file.0 files ascends.1)) in
          ap (λ (body : Option (List ℕ)). body orelse behind) (body-own file key own)
          ∙ ap (λ (body : Option (List ℕ)). body_in_file key.kind key.offset file.1 orelse body) none
          ∙ orelse-none (body_in_file key.kind key.offset file.1)
          ∙ sym (rw own refl)
      | inr other ↦
          ap (λ (body : Option (List ℕ)). body orelse behind) (body-other file key other)
          ∙ body-files-from (file.0 + 1) files key ascends.1
          ∙ sym (rw other refl)
    ] where
      greater_than : {a b : ℕ} → a ≡ b → AllByRecursion (λ (entry : ℕ × File). a < entry.0) files
          → AllByRecursion (λ (entry : ℕ × File). b < entry.0) files
      greater_than {a} {b} same = λ all. rw (sym same) all

pub body-files : (files : List (ℕ × File)) → IsStrictlyIncreasing (keys_of files) → (key : Key)
    → body_at key (flat_map items_of_file files) ≡ body_in_files key files
body-files files up key = body-files-from 0 files key (Ascends-increasing files up)
