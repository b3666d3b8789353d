-- The last item up to a key of a file's pieces is the last of them that begins by then, or none of them.
use Rattle.std.proofs.Common.{◌≡◌, ℕ, true, false, cond, List, [], ◌∷◌, Some, None, refl, sym, ap, subst, ◌∙◌, arith}
use Rattle.std.proofs.Common.{inl, inr}
use Rattle.std.specs.Prelude.{Bool, Option, ◌==◌, ◌&&◌, ◌||◌, ◌⊎◌, ⊤, IsTrue, filter, is_none, nat_le, if◌then◌else◌}
use Rattle.std.specs.Bool.{then_some}
use Rattle.std.specs.List.{cons_option, list_all, list_any}
use Rattle.std.specs.Ordering.{is_lt}
use Rattle.std.proofs.lemmas.Bool.{and_from, and_parts, cases_Bool, eq-eqb, eqb-true, true≢false}
use Rattle.qg_num.specs.Key.{key_cmp}
use Rattle.qg_num.specs.declared.key.Key.{Key}
use Rattle.qg_num.specs.declared.piece.Piece.{Piece}
use Rattle.qg_node.specs.declared.item.Item.{Item}
use Rattle.qg_image.specs.declared.part.FilePart.{FilePart}
use Rattle.qg_image.specs.declared.part.FilePart.TheVariants.{Inode, PieceOf}
use Rattle.qg_image.specs.ItemMeaning.{file_part}
use Rattle.qg_image.specs.FilesOf.{file_parts, is_file_item, pieces_in}
use Rattle.qg_tree_items.specs.Keys.{key_with}
use Rattle.qg_tree_read.specs.Reading.{is_upto, last_or, last_upto}
use Rattle.qg_inodes.specs.Bodies.{Ascend}
use Rattle.qg_inodes.proofs.BodiesByKey.{AreGreater, first_least, greater-first, greater-later, later_ascend}
use Rattle.qg_inodes.specs.Items.{has_unread, is_unread, piece_of}
use Rattle.qg_inodes.specs.Pieces.{is_piece_of, last_begun, own_piece}
use Rattle.qg_inodes.proofs.Keys.{IsOwn, between-own, own-upto}
use Rattle.qg_inodes.proofs.Says.{SaysInode, SaysPiece, no-piece, says}

-- ---- whose an item is

own_from : (ino : ℕ) (item : Item) → is_piece_of ino item ≡ true → IsOwn ino item.key
own_from ino item is =
    let parts = and_parts (item.key.objectid == ino) (item.key.kind == 108) is in
    record { number = eqb-true item.key.objectid ino parts.0; kind = eqb-true item.key.kind 108 parts.1 }

from_own : (ino : ℕ) (item : Item) → IsOwn ino item.key → is_piece_of ino item ≡ true
from_own ino item own =
    and_from (item.key.objectid == ino) (item.key.kind == 108) (eq-eqb item.key.objectid ino own.number)
    (eq-eqb item.key.kind 108 own.kind)

-- ---- one item after the other

module _ (ino from : ℕ) where
  abbrev to : Key
  to = key_with ino 108 from

  abbrev upto : Item → Bool
  upto item = is_upto to item.key

  -- the last item so far is in front of others, and not behind the key
  abbrev InFront : Option Item → List Item → Type 0
  InFront None items = ⊤
  InFront (Some other) items = AreGreater other.key items × (upto other ≡ true)

  abbrev pieces_of : List FilePart → List Piece
  pieces_of parts = pieces_in ino parts

  abbrev last_item : Option Item → List Item → Option Piece
  last_item other items = own_piece ino (last_or other (filter upto items))

  abbrev last_piece : Option Piece → List FilePart → Option Piece
  last_piece other parts = last_begun other from (pieces_of parts)

  module _ (item : Item) (items : List Item) where
    with_first : Option Piece → Option FilePart → Option Piece
    with_first other first = last_piece other (cons_option first (file_parts items))

    -- an item of the file in front of another one that is none, up to the key, there is not
    none_before : (other : Option Item) → InFront other (item ∷ items) → upto item ≡ true
        → is_piece_of ino item ≡ false
        → own_piece ino other ≡ None
    none_before None front is differs = refl
    none_before (Some before) front is differs = elim (cases_Bool (is_piece_of ino before)) [
      | inl own ↦
          let key = own_from ino before own in
          let less : is_lt (key_cmp (key_with ino 108 before.key.offset) item.key) ≡ true =
          ap (λ (k : Key). is_lt (key_cmp k item.key)) (sym (own_key before.key key))
          ∙ greater-first before.key item items front.0
          in
          let here = between-own ino before.key.offset from item.key less is in
          absurd (true≢false (sym (from_own ino item here) ∙ differs))
      | inr other ↦ ap (λ (b : Bool). if b then piece_of before else None) other
    ] where
      own_key : (key : Key) → IsOwn ino key → key ≡ key_with ino 108 key.offset
      own_key key own = λ i. record { objectid = own.number i; kind = own.kind i; offset = key.offset }

    abbrev Rest : Option Item → Type 0
    Rest other = last_item other items ≡ last_piece (own_piece ino other) (file_parts items)

    abbrev All : Option Item → Type 0
    All other = last_item other (item ∷ items) ≡ last_piece (own_piece ino other) (file_parts (item ∷ items))

    -- the item is none of the file's pieces
    skip : (other : Option Item) → is_piece_of ino item ≡ false
        → ((before : Option Piece) → with_first before (file_part item) ≡ last_piece before (file_parts items))
        → InFront other (item ∷ items) → Rest other → (upto item ≡ true → Rest (Some item)) → All other
    unfolding with_first
    skip other differs same front rest instead = elim (cases_Bool (upto item)) [
      | inl is ↦
          let none = none_before other front is differs in
          let this : own_piece ino (Some item) ≡ None = ap (λ (b : Bool). if b then piece_of item else None) differs in
          ap (λ (b : Bool). own_piece ino (last_or other (cond b (item ∷ filter upto items) (filter upto items)))) is
          ∙ instead is
          ∙ ap (λ (o : Option Piece). last_piece o (file_parts items)) (this ∙ sym none)
          ∙ sym (same (own_piece ino other))
      | inr behind ↦
          ap (λ (b : Bool). own_piece ino (last_or other (cond b (item ∷ filter upto items) (filter upto items))))
          behind
          ∙ rest
          ∙ sym (same (own_piece ino other))
    ]

    -- it is one
    take : (other : Option Item) (first : SaysPiece item) → IsOwn ino item.key → Rest other
        → (upto item ≡ true → Rest (Some item))
        → All other
    take other first own rest instead =
        let mine = from_own ino item own in
        let pieces = pieces_of (file_parts items) in
        let before = own_piece ino other in
        let there : last_piece before (file_parts (item ∷ items)) ≡ last_begun before from (first.piece ∷ pieces) =
        ap (λ (o : Option FilePart). last_piece before (cons_option o (file_parts items))) first.says
        ∙ ap (λ (b : Bool). last_begun before from (cons_option (then_some b first.piece) pieces))
        (eq-eqb item.key.objectid ino own.number)
        in
        let test : nat_le first.piece.position from ≡ upto item =
        ap (λ (n : ℕ). nat_le n from) first.position ∙ sym (own-upto ino from item.key own)
        in
        let chosen : last_begun before from (first.piece ∷ pieces)
        ≡ last_begun (if upto item then Some first.piece else before) from pieces =
        ap (λ (b : Bool). last_begun (if b then Some first.piece else before) from pieces) test
        in
        let this : own_piece ino (Some item) ≡ Some first.piece =
        ap (λ (b : Bool). if b then piece_of item else None) mine ∙ first.told
        in
        elim (cases_Bool (upto item)) [
          | inl is ↦
              ap (λ (b : Bool). own_piece ino (last_or other (cond b (item ∷ filter upto items) (filter upto items))))
              is
              ∙ instead is
              ∙ ap (λ (o : Option Piece). last_begun o from pieces) this
              ∙ sym (ap (λ (b : Bool). last_begun (if b then Some first.piece else before) from pieces) is)
              ∙ sym (there ∙ chosen)
          | inr behind ↦
              ap (λ (b : Bool). own_piece ino (last_or other (cond b (item ∷ filter upto items) (filter upto items))))
              behind
              ∙ rest
              ∙ sym (ap (λ (b : Bool). last_begun (if b then Some first.piece else before) from pieces) behind)
              ∙ sym (there ∙ chosen)
        ]

    by_inode : (other : Option Item) → SaysInode item → InFront other (item ∷ items) → Rest other
        → (upto item ≡ true → Rest (Some item))
        → All other
    unfolding with_first
    by_inode other first front rest instead =
        let kind : (item.key.kind == 108) ≡ false = ap (λ (n : ℕ). n == 108) first.kind in
        skip other (ap (λ (b : Bool). (item.key.objectid == ino) && b) kind ∙ neither (item.key.objectid == ino))
        (λ before. ap (λ (o : Option FilePart). last_piece before (cons_option o (file_parts items))) first.says) front
        rest instead
      where
        neither : (b : Bool) → (b && false) ≡ false
        neither true = refl
        neither false = refl

    by_piece : (other : Option Item) → SaysPiece item → InFront other (item ∷ items) → Rest other
        → (upto item ≡ true → Rest (Some item))
        → All other
    unfolding with_first
    by_piece other first front rest instead = elim (cases_Bool (item.key.objectid == ino)) [
      | inl is ↦
          take other first (record { number = eqb-true item.key.objectid ino is; kind = first.kind }) rest instead
      | inr differs ↦
          skip other (ap (λ (b : Bool). b && (item.key.kind == 108)) differs)
          (λ before.
          ap (λ (o : Option FilePart). last_piece before (cons_option o (file_parts items))) first.says
          ∙ ap (λ (b : Bool). last_begun before from
          (cons_option (then_some b first.piece) (pieces_of (file_parts items))))
          differs) front rest instead
    ]

  front_later : (other : Option Item) (item : Item) (items : List Item) → InFront other (item ∷ items)
      → InFront other items
  front_later None item items front = tt
  front_later (Some before) item items front = (greater-later before.key item items front.0, front.1)

  last_own : (generation : ℕ) (items : List Item) → list_all (is_file_item generation) items ≡ true → Ascend items
      → (other : Option Item) → InFront other items
      → last_item other items ≡ last_piece (own_piece ino other) (file_parts items)
  last_own generation [] each ascending other front = refl
  last_own generation (item ∷ items) each ascending other front =
      let parts = and_parts (is_file_item generation item) (list_all (is_file_item generation) items) each in
      let later = later_ascend item items ascending in
      let rest = last_own generation items parts.1 later other (front_later other item items front) in
      let instead = λ (is : upto item ≡ true).
      last_own generation items parts.1 later (Some item) (first_least item items ascending, is)
      in
      elim (says generation item parts.0) [
        | inl inode ↦ by_inode item items other inode front rest instead
        | inr piece ↦ by_piece item items other piece front rest instead
      ]

pub last-own : (generation ino from : ℕ) (items : List Item) → list_all (is_file_item generation) items ≡ true
    → Ascend items
    → own_piece ino (last_upto (key_with ino 108 from) items) ≡ last_begun None from (pieces_in ino (file_parts items))
last-own generation ino from items each ascending = last_own ino from generation items each ascending None tt

-- ---- where something else stands there

or_true : (a : Bool) → (a || true) ≡ true
or_true true = refl
or_true false = refl

behind_first : (test : Item → Bool) (first : Item) (items : List Item) → IsTrue (list_any test items)
    → IsTrue (list_any test (first ∷ items))
behind_first test first items later = ap (λ (b : Bool). test first || b) later ∙ or_true (test first)

this_first : (test : Item → Bool) (first : Item) (items : List Item) (item : Item)
    → ◌≡◌ {A = Option Item} (Some first) (Some item) → test item ≡ true
    → IsTrue (list_any test (first ∷ items))
this_first test first items item same passes =
    let own : first ≡ item = cc in
    ap (λ (b : Bool). b || list_any test items) (ap test own ∙ passes)

among : (test kept : Item → Bool) (other : Option Item) (items : List Item) (item : Item)
    → last_or other (filter kept items) ≡ Some item → test item ≡ true
    → (other ≡ Some item) ⊎ IsTrue (list_any test items)
among test kept other [] item is passes = inl is
among test kept other (first ∷ items) item is passes = elim (cases_Bool (kept first)) [
  | inl keeps ↦
      let there = kept_there keeps in
      elim (among test kept (Some first) items item there passes) [
        | inl same ↦ inr (this_first test first items item same passes)
        | inr later ↦ inr (behind_first test first items later)
      ]
  | inr skips ↦
      let there = skipped_there skips in
      elim (among test kept other items item there passes) [
        | inl same ↦ inl same
        | inr later ↦ inr (behind_first test first items later)
      ]
] where
  kept_there : kept first ≡ true → last_or (Some first) (filter kept items) ≡ Some item
  kept_there keeps =
      sym (ap (λ (b : Bool). last_or other (cond b (first ∷ filter kept items) (filter kept items))) keeps) ∙ is

  skipped_there : kept first ≡ false → last_or other (filter kept items) ≡ Some item
  skipped_there skips =
      sym (ap (λ (b : Bool). last_or other (cond b (first ∷ filter kept items) (filter kept items))) skips) ∙ is

none_some : {A : Type 0} {x : A} → ◌≡◌ None (Some x) → ⊥
none_some is = cc

pub unread-last : (ino : ℕ) (key : Key) (items : List Item) (item : Item) → last_upto key items ≡ Some item
    → is_piece_of ino item ≡ true → piece_of item ≡ None
    → IsTrue (has_unread ino items)
unread-last ino key items item is own none =
    let mine = own_from ino item own in
    let unread : is_unread ino item ≡ true =
    and_from (item.key.objectid == ino) (is_none (file_part item)) (eq-eqb item.key.objectid ino mine.number)
    (no-piece item mine.kind none)
    in
    elim (among (is_unread ino) (λ other. is_upto key other.key) None items item is unread) [
      | inl same ↦ absurd (none_some same)
      | inr there ↦ there
    ]
