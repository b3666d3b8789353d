-- The EXTENT_DATAs of a file from one position to another are its pieces that begin there.
use Rattle.std.proofs.Common.{◌≡◌, ℕ, ◌+◌, ◌-◌, ◌<◌, ◌≤◌, true, false, cond, List, [], ◌∷◌, map, length, Some, None}
use Rattle.std.proofs.Common.{refl, sym, ap, ◌∙◌, arith, inl, inr}
use Rattle.std.specs.Prelude.{Bool, Option, ◌==◌, ◌&&◌, ◌||◌, IsTrue, filter, is_none, nat_le, nat_lt}
use Rattle.std.specs.Bool.{then_some}
use Rattle.std.specs.List.{cons_option, filter_map, list_all, list_any}
use Rattle.std.proofs.lemmas.Bool.{and_from, and_parts, cases_Bool, cases_lt, eq-eqb, eqb-true, le-leb, le-ltb, lt-leb}
use Rattle.std.proofs.lemmas.Bool.{lt-ltb, true≢false}
use Rattle.std.proofs.lemmas.List.{length-map}
use Rattle.std.proofs.lemmas.List.Elements.{filter_agree}
use Rattle.qg_num.specs.declared.key.Key.{Key}
use Rattle.qg_num.specs.declared.piece.Piece.{Piece}
use Rattle.qg_node.specs.declared.item.Item.{Item}
use Rattle.qg_image.specs.declared.part.FilePart.{FilePart}
use Rattle.qg_image.specs.declared.part.FilePart.TheVariants.{Inode, PieceOf}
use Rattle.qg_image.specs.ItemMeaning.{file_part}
use Rattle.qg_image.specs.FilesOf.{file_parts, is_file_item, pieces_in}
use Rattle.qg_tree_items.specs.Keys.{key_with}
use Rattle.qg_tree_read.specs.Reading.{is_within, items_within}
use Rattle.qg_inodes.specs.Items.{has_unread, is_unread, piece_of}
use Rattle.qg_inodes.specs.Pieces.{pieces_begun}
use Rattle.qg_inodes.proofs.Keys.{IsOwn, outside, own-within, within-own}
use Rattle.qg_inodes.proofs.Says.{SaysInode, SaysPiece, no-piece, says}

-- ---- lists

cons_same : {A : Type 0} (x y : A) (xs ys : List A) → x ≡ y → xs ≡ ys → x ∷ xs ≡ y ∷ ys
cons_same x y xs ys first rest = cc

all_some : {A B : Type 0} (f : A → Option B) (xs : List A) (ys : List B) → map f xs ≡ map Some ys → filter_map f xs ≡ ys
all_some f [] [] is = refl
all_some f [] (y ∷ ys) is = absurd cc
all_some f (x ∷ xs) [] is = absurd cc
all_some f (x ∷ xs) (y ∷ ys) is =
    let first : f x ≡ Some y = cc in
    let rest : map f xs ≡ map Some ys = cc in
    ap (λ (o : Option _). cons_option o (filter_map f xs)) first
    ∙ cons_same y y (filter_map f xs) ys refl (all_some f xs ys rest)

as_many : {A B : Type 0} (f : A → Option B) (xs : List A) (ys : List B) → map f xs ≡ map Some ys
    → length xs ≡ length ys
as_many f xs ys is =
    sym (length-map xs f) ∙ ap (λ (os : List (Option _)). length os) is ∙ length-map ys Some

-- one more on either side, where a test passes
one_more : {A B : Type 0} (f : A → Option B) (b : Bool) (x : A) (y : B) (xs : List A) (ys : List B) → f x ≡ Some y
    → map f xs ≡ map Some ys
    → map f (cond b (x ∷ xs) xs) ≡ map Some (cond b (y ∷ ys) ys)
one_more f true x y xs ys first rest = cons_same (f x) (Some y) (map f xs) (map Some ys) first rest
one_more f false x y xs ys first rest = rest

-- ---- items from one position to another

module _ (ino from to : ℕ) where
  abbrev within : Item → Bool
  within item = is_within (key_with ino 108 from) (key_with ino 108 to) item.key

  abbrev begins : Piece → Bool
  begins piece = nat_le from piece.position && nat_le piece.position to

  abbrev items_there : List Item → List Item
  items_there items = items_within (key_with ino 108 from) (key_with ino 108 to) items

  abbrev pieces_there : List FilePart → List Piece
  pieces_there parts = filter begins (pieces_in ino parts)

  abbrev AreRead : List Item → Type 0
  AreRead items = map piece_of (items_there items) ≡ map Some (pieces_there (file_parts items))

  module _ (item : Item) (items : List Item) where
    abbrev with_first : Option FilePart → List (Option Piece)
    with_first first = map Some (pieces_there (cons_option first (file_parts items)))

    skip : within item ≡ false → with_first (file_part item) ≡ map Some (pieces_there (file_parts items))
        → AreRead items
        → AreRead (item ∷ items)
    skip not_within same rest =
        ap (λ (b : Bool). map piece_of (cond b (item ∷ items_there items) (items_there items))) not_within
        ∙ rest
        ∙ sym same

    read_inode : SaysInode item → AreRead items → AreRead (item ∷ items)
    read_inode first rest =
        skip (outside ino from to item.key (λ own. differs own first.kind)) (ap with_first first.says) rest where
          differs : IsOwn ino item.key → item.key.kind ≡ 1 → ⊥
          differs own kind = let piece = own.kind in omega (arith, piece, kind)

    read_other : (first : SaysPiece item) → (item.key.objectid == ino) ≡ false → AreRead items → AreRead (item ∷ items)
    read_other first other rest =
        let left : with_first (Some (PieceOf item.key.objectid first.piece))
        ≡ map Some (pieces_there (file_parts items)) =
        ap
        (λ (b : Bool).
        map Some (filter begins (cons_option (then_some b first.piece) (pieces_in ino (file_parts items))))) other
        in
        skip
        (outside ino from to item.key
        (λ own. true≢false (sym (eq-eqb item.key.objectid ino own.number) ∙ other)))
        (ap with_first first.says ∙ left) rest

    read_own : (first : SaysPiece item) → (item.key.objectid == ino) ≡ true → AreRead items → AreRead (item ∷ items)
    read_own first is rest =
        let own : IsOwn ino item.key = record { number = eqb-true item.key.objectid ino is; kind = first.kind } in
        let pieces = pieces_in ino (file_parts items) in
        let test : within item ≡ begins first.piece =
        own-within ino from to item.key own
        ∙ ap (λ (n : ℕ). nat_le from n && nat_le n to) (sym first.position)
        in
        let there : with_first (Some (PieceOf item.key.objectid first.piece))
        ≡ map Some (filter begins (first.piece ∷ pieces)) =
        ap (λ (b : Bool). map Some (filter begins (cons_option (then_some b first.piece) pieces))) is
        in
        ap (λ (b : Bool). map piece_of (cond b (item ∷ items_there items) (items_there items))) test
        ∙ one_more piece_of (begins first.piece) item first.piece (items_there items) (filter begins pieces) first.told
        rest
        ∙ sym (ap with_first first.says ∙ there)

    read_piece : SaysPiece item → AreRead items → AreRead (item ∷ items)
    read_piece first rest = elim (cases_Bool (item.key.objectid == ino)) [
      | inl own ↦ read_own first own rest
      | inr other ↦ read_other first other rest
    ]

  are_read : (generation : ℕ) (items : List Item) → list_all (is_file_item generation) items ≡ true → AreRead items
  are_read generation [] each = refl
  are_read generation (item ∷ items) each =
      let parts = and_parts (is_file_item generation item) (list_all (is_file_item generation) items) each in
      let rest = are_read generation items parts.1 in
      elim (says generation item parts.0) [
        | inl inode ↦ read_inode item items inode rest
        | inr piece ↦ read_piece item items piece rest
      ]

-- ---- the pieces that begin there

pub record AreBegun (ino from to : ℕ) (items : List Item) (parts : List FilePart) : Type 0 where
  pub read : filter_map piece_of (items_within (key_with ino 108 from) (key_with ino 108 (to - 1)) items)
      ≡ pieces_begun from to (pieces_in ino parts)
  pub count : length (items_within (key_with ino 108 from) (key_with ino 108 (to - 1)) items)
      ≡ length (pieces_begun from to (pieces_in ino parts))

in_front : (to position : ℕ) → 0 < to → nat_le position (to - 1) ≡ nat_lt position to
in_front to position some = elim (cases_lt position to) [
  | inl less ↦ le-leb position (to - 1) (omega arith) ∙ sym (lt-ltb position to less)
  | inr past ↦ lt-leb position (to - 1) (omega arith) ∙ sym (le-ltb position to past)
]

pub are-begun : (generation ino from to : ℕ) (items : List Item) → list_all (is_file_item generation) items ≡ true
    → 0 < to
    → AreBegun ino from to items (file_parts items)
are-begun generation ino from to items each some =
    let last = to - 1 in
    let pieces = pieces_in ino (file_parts items) in
    let there = items_within (key_with ino 108 from) (key_with ino 108 last) items in
    let read = are_read ino from last generation items each in
    let test : (piece : Piece)
    → (nat_le from piece.position && nat_le piece.position last)
    ≡ (nat_le from piece.position && nat_lt piece.position to) =
    λ piece. ap (λ (b : Bool). nat_le from piece.position && b) (in_front to piece.position some)
    in
    let same : filter (λ piece. nat_le from piece.position && nat_le piece.position last) pieces
    ≡ pieces_begun from to pieces =
    filter_agree (λ (piece : Piece). nat_le from piece.position && nat_le piece.position last)
    (λ (piece : Piece). nat_le from piece.position && nat_lt piece.position to) test pieces
    in
    let parts = filter (λ (piece : Piece). nat_le from piece.position && nat_le piece.position last) pieces in
    record {
      read = all_some piece_of there parts read ∙ same;
      count = as_many piece_of there parts read ∙ ap (λ (ps : List Piece). length ps) same;
    }

-- ---- where something else stands there

first_or : (a b c : Bool) → (a ≡ true → c ≡ true) → (b ≡ true → c ≡ true) → (a || b) ≡ true → c ≡ true
first_or true b c first rest is = first refl
first_or false b c first rest is = rest is

or_true : (a : Bool) → (a || true) ≡ true
or_true true = refl
or_true false = refl

unread_one : (ino from to : ℕ) (item : Item) → is_within (key_with ino 108 from) (key_with ino 108 to) item.key ≡ true
    → is_none (piece_of item) ≡ true
    → is_unread ino item ≡ true
unread_one ino from to item within none =
    let own = within-own ino from to item.key within in
    and_from (item.key.objectid == ino) (is_none (file_part item)) (eq-eqb item.key.objectid ino own.number)
    (no-piece item own.kind (was_none (piece_of item) none))
  where
    was_none : (o : Option Piece) → is_none o ≡ true → o ≡ None
    was_none None is = refl
    was_none (Some piece) is = absurd cc

module _ (ino from to : ℕ) where
  abbrev unread_in : List Item → Bool
  unread_in items = list_any (λ item. is_none (piece_of item)) items

  abbrev there : List Item → List Item
  there items = items_within (key_with ino 108 from) (key_with ino 108 to) items

  one_unread : (b : Bool) (item : Item) (items : List Item)
      → is_within (key_with ino 108 from) (key_with ino 108 to) item.key ≡ b
      → (IsTrue (unread_in (there items)) → has_unread ino items ≡ true)
      → IsTrue (unread_in (cond b (item ∷ there items) (there items)))
      → has_unread ino (item ∷ items) ≡ true
  one_unread true item items within rest is =
      first_or (is_none (piece_of item)) (unread_in (there items)) (has_unread ino (item ∷ items))
      (λ none. ap (λ (b : Bool). b || has_unread ino items) (unread_one ino from to item within none))
      (λ later. ap (λ (b : Bool). is_unread ino item || b) (rest later) ∙ or_true (is_unread ino item)) is
  one_unread false item items within rest is =
      ap (λ (b : Bool). is_unread ino item || b) (rest is) ∙ or_true (is_unread ino item)

pub unread-within : (ino from to : ℕ) (items : List Item)
    → IsTrue (list_any (λ item. is_none (piece_of item))
    (items_within (key_with ino 108 from) (key_with ino 108 to) items))
    → IsTrue (has_unread ino items)
unread-within ino from to [] unread = unread
unread-within ino from to (item ∷ items) unread =
    one_unread ino from to (is_within (key_with ino 108 from) (key_with ino 108 to) item.key) item items refl
    (unread-within ino from to items) unread
