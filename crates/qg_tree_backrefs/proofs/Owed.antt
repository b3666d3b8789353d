-- What references take that a node owes: less than its items and pointers.
use Rattle.std.proofs.Common.{◌≡◌, ℕ, ◌+◌, ◌*◌, ◌≤◌, Bool, true, false, List, [], ◌∷◌, ◌++◌, length, map, Option, Some}
use Rattle.std.proofs.Common.{None}
use Rattle.std.proofs.Common.{arith, refl, ap}
use Rattle.std.specs.Prelude.{◌&&◌, ◌==◌, slice_index}
use Rattle.std.specs.List.{flat_map}
use Rattle.std.specs.Option.{option_and_then, option_map}
use Rattle.std.proofs.lemmas.Bool.{and_parts, eqb-true}
use Rattle.std.proofs.lemmas.List.Concat.{flat_map-cons}
use Rattle.std.proofs.lemmas.List.Sums.{sum_by-append, sum_by-cons}
use Rattle.std.proofs.lemmas.Option.{none-some, option_and_then_some, same_Some}
use Rattle.qg_num.specs.Fields.{is_zero}
use Rattle.qg_num.specs.declared.piece.Piece.{Piece}
use Rattle.qg_node.specs.declared.item.Item.{Item}
use Rattle.qg_node.specs.declared.pointer.Pointer.{Pointer}
use Rattle.qg_node.specs.declared.node.Header.{Header}
use Rattle.qg_node.specs.declared.node.Node.{Node}
use Rattle.qg_node.specs.declared.node.Node.TheVariants.{Leaf, Inner}
use Rattle.qg_node.specs.Nodes.{header_of, item_bytes, items_bytes, own_items, own_pointers, used_bytes}
use Rattle.qg_items.specs.declared.file.ExtentData.{ExtentData}
use Rattle.qg_items.specs.declared.file.InodeItem.{InodeItem}
use Rattle.qg_items.specs.declared.kind.TheConstants.{EXTENT_DATA, INODE_ITEM}
use Rattle.qg_items.specs.ItemReading.{extent_data_read, inode_read}
use Rattle.qg_items.proofs.Trips.{then_some_parts}
use Rattle.qg_image.specs.declared.part.FilePart.{FilePart}
use Rattle.qg_image.specs.declared.part.FilePart.TheVariants.{Inode, PieceOf}
use Rattle.qg_image.specs.ItemMeaning.{◌orelse◌, file_part, is_keyed, piece_told, when}
use Rattle.qg_image.specs.State.{Placed}
use Rattle.qg_image.specs.Owed.{Owing, owed_by_node, owed_by_part, owed_to_child}
use Rattle.qg_weighed.specs.Weight.{reference_bytes}
use Rattle.qg_cow_refs.specs.Children.{keyed_children, shared_children, with_header}
use Rattle.qg_tree_backrefs.specs.Heavier.{owings_bytes}

-- ---- an item that tells a piece

when_given : {A : Type 0} (b : Bool) (o : Option A) (x : A) → when b o ≡ Some x → o ≡ Some x
when_given true o x is = is
when_given false o x is = absurd (none-some x is)

either_given : {A P : Type 0} (a b : Option A) (x : A) → (a orelse b) ≡ Some x → (a ≡ Some x → P) → (b ≡ Some x → P) → P
either_given None b x is first second = second is
either_given (Some y) b x is first second = first is

map_given : {A B P : Type 0} (f : A → B) (o : Option A) (y : B) → option_map f o ≡ Some y
    → ((x : A) → o ≡ Some x → f x ≡ y → P) → P
map_given f None y is then = absurd (none-some y is)
map_given f (Some x) y is then = then x refl (same_Some (f x) y is)

data-long : (bytes : List ℕ) (told : ExtentData) → extent_data_read bytes ≡ Some told → length bytes ≡ 53
unfolding extent_data_read
data-long bytes told is =
    let first = (then_some_parts _ _ told is).0 in
    let second = and_parts ((length bytes == 53) && is_zero 16 20 bytes) (slice_index bytes 20 == 1) first in
    eqb-true (length bytes) 53 (and_parts (length bytes == 53) (is_zero 16 20 bytes) second.0).0

not_piece : (number : ℕ) (inode : InodeItem) (ino : ℕ) (piece : Piece)
    → ◌≡◌ {A = FilePart} (Inode number inode) (PieceOf ino piece) → ⊥
not_piece number inode ino piece is = cc

piece-long : (item : Item) (ino : ℕ) (piece : Piece) → file_part item ≡ Some (PieceOf ino piece)
    → length item.body ≡ 53
unfolding file_part
piece-long item ino piece is =
    let number = item.key.objectid in
    let position = item.key.offset in
    let inode : Option FilePart = option_map (Inode number) (inode_read item.body) in
    let told = option_and_then (piece_told position) (extent_data_read item.body) in
    let is_inode = is_keyed number INODE_ITEM 0 item in
    let is_piece = item.key.kind == EXTENT_DATA in
    either_given (when is_inode inode) (when is_piece (option_map (PieceOf number) told)) (PieceOf ino piece) is
    (λ first. map_given (Inode number) (inode_read item.body) (PieceOf ino piece)
    (when_given is_inode inode (PieceOf ino piece) first)
    (λ found there same. absurd (not_piece number found ino piece same)))
    (λ second. map_given (PieceOf number) told (PieceOf ino piece)
    (when_given is_piece (option_map (PieceOf number) told) (PieceOf ino piece) second)
    (λ found there same. option_and_then_some (piece_told position) (extent_data_read item.body) found there
    (λ found_data read said. data-long item.body found_data read)))

-- ---- what an item and a pointer owe

part-bytes : (header : Header) (full : Bool) (part : Option FilePart) (long : ℕ)
    → ((ino : ℕ) (piece : Piece) → part ≡ Some (PieceOf ino piece) → long ≡ 53)
    → owings_bytes (owed_by_part header full part) ≤ 25 + long
part-bytes header full None long is = omega arith
part-bytes header full (Some (Inode ino inode)) long is = omega arith
part-bytes header true (Some (PieceOf ino piece)) long is = let has = is ino piece refl in omega (arith, has)
part-bytes header false (Some (PieceOf ino piece)) long is = let has = is ino piece refl in omega (arith, has)

items-bytes : (header : Header) (full : Bool) (items : List Item)
    → owings_bytes (flat_map (λ item. owed_by_part header full (file_part item)) items) ≤ items_bytes items
items-bytes header full [] = omega arith
items-bytes header full (item ∷ items) =
    let owes = λ (i : Item). owed_by_part header full (file_part i) in
    let split : owings_bytes (flat_map owes (item ∷ items)) ≡ owings_bytes (owes item ++ flat_map owes items) =
    ap owings_bytes (flat_map-cons owes item items) in
    let both = sum_by-append (λ (o : Owing). reference_bytes o.reference) (owes item) (flat_map owes items) in
    let here = part-bytes header full (file_part item) (length item.body) (piece-long item) in
    let rest = items-bytes header full items in
    omega (arith, split, both, here, rest, sum_by-cons item_bytes item items)

child-bytes : (header : Header) (full : Bool) (child : ℕ)
    → reference_bytes (owed_to_child header full child).reference ≡ 25
child-bytes header true child = refl
child-bytes header false child = refl

pointers-bytes : (header : Header) (full : Bool) (pointers : List Pointer)
    → owings_bytes (map (λ pointer. owed_to_child header full pointer.child) pointers) ≡ 25 * length pointers
pointers-bytes header full [] = omega arith
pointers-bytes header full (pointer ∷ pointers) =
    let one = owed_to_child header full pointer.child in
    let rest = pointers-bytes header full pointers in
    omega (
      arith,
      child-bytes header full pointer.child,
      rest,
      sum_by-cons (λ (o : Owing). reference_bytes o.reference) one
          (map (λ (p : Pointer). owed_to_child header full p.child) pointers),
    )

-- ---- a node

used-parts : (node : Node) → used_bytes node ≡ 33 * length (own_pointers node) + items_bytes (own_items node)
used-parts (Leaf header items) = omega arith
used-parts (Inner header pointers) = omega arith

pub owed-bytes : (placed : Placed) → owings_bytes (owed_by_node placed) ≤ used_bytes placed.node
unfolding owed_by_node
owed-bytes placed =
    let header = header_of placed.node in
    let pointers = map (λ (p : Pointer). owed_to_child header placed.full p.child) (own_pointers placed.node) in
    let items = flat_map (λ (i : Item). owed_by_part header placed.full (file_part i)) (own_items placed.node) in
    let both : owings_bytes (pointers ++ items) ≡ owings_bytes pointers + owings_bytes items =
    sum_by-append (λ (o : Owing). reference_bytes o.reference) pointers items in
    omega (
      arith,
      both,
      used-parts placed.node,
      pointers-bytes header placed.full (own_pointers placed.node),
      items-bytes header placed.full (own_items placed.node),
    )

used-same : (header : Header) (node : Node) → used_bytes (with_header header node) ≡ used_bytes node
used-same header (Leaf old items) = refl
used-same header (Inner old pointers) = refl

pub keyed-bytes : (node : Node) (tree : ℕ) → owings_bytes (keyed_children node tree) ≤ used_bytes node
keyed-bytes node tree =
    let header : Header = record (header_of node) { owner = tree } in
    omega (arith, owed-bytes (record { node = with_header header node; full = false }), used-same header node)

pub shared-bytes : (node : Node) → owings_bytes (shared_children node) ≤ used_bytes node
shared-bytes node = owed-bytes (record { node = node; full = true })
