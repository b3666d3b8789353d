-- How the items of a subvolume stand where their keys ascend: a file's INODE_ITEM, its pieces, and then the items of
-- greater files.
use Rattle.std.proofs.Common.{◌≡◌, ℕ, ◌<◌, ◌≤◌, Bool, true, false, cond, List, [], ◌∷◌, ◌++◌, map, refl, ap, arith}
use Rattle.std.proofs.Common.{subst, inl, inr}
use Rattle.std.specs.Prelude.{◌⊎◌, is_some, ◌==◌, nat_lt}
use Rattle.std.specs.Bool.{then_some}
use Rattle.std.specs.List.{AllByRecursion}
use Rattle.std.specs.Ordering.{is_lt, nat_cmp, ordering_then}
use Rattle.std.specs.declared.cmp.Ordering.{Ordering}
use Rattle.std.specs.declared.cmp.Ordering.TheVariants.{Less, Equal, Greater}
use Rattle.std.proofs.lemmas.Bool.{and_parts, eq-eqb, eqb-true, eqb-false, ltb-true}
use Rattle.qg_num.specs.Key.{key_cmp}
use Rattle.qg_num.specs.declared.key.Key.{Key}
use Rattle.qg_num.specs.declared.piece.Piece.{Piece}
use Rattle.qg_node.specs.Nodes.{ascends_from, is_ascending}
use Rattle.qg_image.specs.declared.part.FilePart.{FilePart}
use Rattle.qg_image.specs.declared.part.FilePart.TheVariants.{Inode, PieceOf}
use Rattle.qg_image.specs.FilesOf.{piece_in}
use Rattle.qg_tree_items.specs.Keys.{file_key}

-- the file that an item belongs to
abbrev pub ino_of : FilePart → ℕ
ino_of (Inode ino inode) = ino
ino_of (PieceOf ino piece) = ino

-- the item may stand behind the INODE_ITEM of a file
abbrev pub IsBehind : ℕ → FilePart → Type 0
IsBehind ino (Inode other inode) = ino < other
IsBehind ino (PieceOf other piece) = ino ≤ other

-- the item is a piece of a file
abbrev pub IsPieceOf : ℕ → FilePart → Type 0
IsPieceOf ino part = is_some (piece_in ino part) ≡ true

all_weaker : (P Q : FilePart → Type 0) → ((part : FilePart) → P part → Q part) → (parts : List FilePart)
    → AllByRecursion P parts → AllByRecursion Q parts
all_weaker P Q each [] all = tt
all_weaker P Q each (part ∷ parts) all = (each part all.0, all_weaker P Q each parts all.1)

-- ---- keys

less_then : (x y : ℕ) (rest : Ordering) → is_lt (ordering_then (nat_cmp x y) rest) ≡ true
    → (x < y) ⊎ ((x ≡ y) × (is_lt rest ≡ true))
less_then x y rest h = cases (nat_lt x y) refl (x == y) refl h where
  cases : (less : Bool) → nat_lt x y ≡ less → (same : Bool) → (x == y) ≡ same
      → is_lt (ordering_then (cond less Less (cond same Equal Greater)) rest) ≡ true
      → (x < y) ⊎ ((x ≡ y) × (is_lt rest ≡ true))
  cases true l same s k = inl (ltb-true x y l)
  cases false l true s k = inr (eqb-true x y s, k)
  cases false l false s k = absurd cc

less_last : (x y : ℕ) → is_lt (nat_cmp x y) ≡ true → x < y
less_last x y h = cases (nat_lt x y) refl (x == y) h where
  cases : (less : Bool) → nat_lt x y ≡ less → (same : Bool) → is_lt (cond less Less (cond same Equal Greater)) ≡ true
      → x < y
  cases true l same k = ltb-true x y l
  cases false l true k = absurd cc
  cases false l false k = absurd cc

behind_one : (low : Key) (part : FilePart) → 1 ≤ low.kind → is_lt (key_cmp low (file_key part)) ≡ true
    → IsBehind low.objectid part
behind_one low (PieceOf ino piece) kind h =
    elim (less_then low.objectid ino (ordering_then (nat_cmp low.kind 108) (nat_cmp low.offset piece.position)) h)
    [ inl less ↦ omega (arith, less) | inr same ↦ omega (arith, same.0) ]
behind_one low (Inode ino inode) kind h =
    elim (less_then low.objectid ino (ordering_then (nat_cmp low.kind 1) (nat_cmp low.offset 0)) h) [
      | inl less ↦ less
      | inr same ↦ elim (less_then low.kind 1 (nat_cmp low.offset 0) same.1) [
        | inl less ↦ absurd (omega (arith, less))
        | inr last ↦ absurd (omega (arith, less_last low.offset 0 last.1))
      ]
    ]

kind_of : (part : FilePart) → 1 ≤ (file_key part).kind
kind_of (Inode ino inode) = omega arith
kind_of (PieceOf ino piece) = omega arith

object_of : (part : FilePart) → (file_key part).objectid ≡ ino_of part
object_of (Inode ino inode) = refl
object_of (PieceOf ino piece) = refl

behind_both : (ino : ℕ) (part later : FilePart) → IsBehind ino part → IsBehind (ino_of part) later → IsBehind ino later
behind_both ino (Inode own inode) (Inode other inode') h k = omega (arith, h, k)
behind_both ino (Inode own inode) (PieceOf other piece) h k = omega (arith, h, k)
behind_both ino (PieceOf own piece) (Inode other inode) h k = omega (arith, h, k)
behind_both ino (PieceOf own piece) (PieceOf other piece') h k = omega (arith, h, k)

-- the items behind one of a file are greater, or pieces of the same file
pub all_behind : (low : Key) (parts : List FilePart) → 1 ≤ low.kind → ascends_from low (map file_key parts) ≡ true
    → AllByRecursion (IsBehind low.objectid) parts
unfolding ascends_from
all_behind low [] kind h = tt
all_behind low (part ∷ parts) kind h =
    let both = and_parts (is_lt (key_cmp low (file_key part))) (ascends_from (file_key part) (map file_key parts)) h in
    let first = behind_one low part kind both.0 in
    let later = all_behind (file_key part) parts (kind_of part) both.1 in (
      first,
      all_weaker (IsBehind (file_key part).objectid) (IsBehind low.objectid)
          (λ other behind. behind_both low.objectid part other first
          (subst (λ (ino : ℕ). IsBehind ino other) (object_of part) behind)) parts later,
    )

-- ---- parts of what ascends

rest_ascends : (low : Key) (parts : List FilePart) → ascends_from low (map file_key parts) ≡ true
    → is_ascending (map file_key parts) ≡ true
unfolding ascends_from is_ascending
rest_ascends low [] h = refl
rest_ascends low (part ∷ parts) h =
    (and_parts (is_lt (key_cmp low (file_key part))) (ascends_from (file_key part) (map file_key parts)) h).1

pub ascending-behind : (front parts : List FilePart) → is_ascending (map file_key (front ++ parts)) ≡ true
    → is_ascending (map file_key parts) ≡ true
unfolding is_ascending
ascending-behind [] parts h = h
ascending-behind (part ∷ front) parts h = ascending-behind front parts (rest_ascends (file_key part) (front ++ parts) h)

pub all_later : (P : FilePart → Type 0) (front parts : List FilePart) → AllByRecursion P (front ++ parts)
    → AllByRecursion P parts
all_later P [] parts all = all
all_later P (part ∷ front) parts all = all_later P front parts all.1

-- ---- a file's own pieces, and the others

pub own_pieces : (ino : ℕ) (pieces : List Piece) → AllByRecursion (IsPieceOf ino) (map (PieceOf ino) pieces)
own_pieces ino [] = tt
own_pieces ino (piece ∷ pieces) =
    (ap (λ (same : Bool). is_some (then_some same piece)) (eq-eqb ino ino refl), own_pieces ino pieces)

not_own : (ino : ℕ) (part : FilePart) → IsBehind ino part → is_some (piece_in ino part) ≡ false → ino < ino_of part
not_own ino (Inode other inode) behind other_file = behind
not_own ino (PieceOf other piece) behind other_file = cases (other == ino) refl other_file where
  cases : (same : Bool) → (other == ino) ≡ same → is_some (then_some same piece) ≡ false → ino < other
  cases true e k = absurd cc
  cases false e k =
      let apart = eqb-false other ino e in
      omega (arith, behind, apart)

at_least : (ino : ℕ) (part : FilePart) → IsBehind ino part → ino ≤ ino_of part
at_least ino (Inode other inode) behind = omega (arith, behind)
at_least ino (PieceOf other piece) behind = behind

-- the first of some items is no piece of a file
abbrev pub StartsOther : ℕ → List FilePart → Type 0
StartsOther ino [] = Unit {0}
StartsOther ino (part ∷ parts) = is_some (piece_in ino part) ≡ false

pub greater_others : (ino : ℕ) (parts : List FilePart) → AllByRecursion (IsBehind ino) parts
    → is_ascending (map file_key parts) ≡ true → StartsOther ino parts
    → AllByRecursion (λ part. ino < ino_of part) parts
unfolding is_ascending
greater_others ino [] behind h other = tt
greater_others ino (part ∷ parts) behind h other =
    let greater = not_own ino part behind.0 other in
    let later = all_behind (file_key part) parts (kind_of part) h in (
      greater,
      all_weaker (IsBehind (file_key part).objectid) (λ other. ino < ino_of other)
          (λ other after. omega (arith, greater, at_least (file_key part).objectid other after, object_of part)) parts
          later,
    )
