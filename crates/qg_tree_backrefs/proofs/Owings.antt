-- What is owed, by address and by reference, and what a node owes by shared references.
use Rattle.std.proofs.Common.{◌≡◌, ℕ, zero, suc, ◌+◌, ◌<◌, ◌≤◌, Bool, true, false, List, [], ◌∷◌, ◌++◌, length, map}
use Rattle.std.proofs.Common.{Option, Some, None, arith, refl, sym, ap, subst, ◌∙◌, inl, inr}
use Rattle.std.specs.Prelude.{◌==◌, if◌then◌else◌}
use Rattle.std.specs.List.{All, cons_option, filter_map, flat_map}
use Rattle.std.proofs.lemmas.Bool.Decides.{eqb_tells}
use Rattle.std.proofs.lemmas.List.{length-append, map-append}
use Rattle.std.proofs.lemmas.List.Concat.{flat_map-cons}
use Rattle.std.proofs.lemmas.List.Elements.{All-cons, All-nil, filter_map-append}
use Rattle.qg_node.specs.declared.item.Item.{Item}
use Rattle.qg_node.specs.declared.pointer.Pointer.{Pointer}
use Rattle.qg_node.specs.declared.node.Header.{Header}
use Rattle.qg_node.specs.declared.node.Node.{Node}
use Rattle.qg_node.specs.Nodes.{header_of, own_items, own_pointers}
use Rattle.qg_items.specs.declared.extent.Reference.{Reference}
use Rattle.qg_items.specs.declared.extent.Reference.TheVariants.{KeyedBlock, SharedBlock, KeyedData, SharedData}
use Rattle.qg_image.specs.declared.part.FilePart.{FilePart}
use Rattle.qg_image.specs.declared.part.FilePart.TheVariants.{Inode, PieceOf}
use Rattle.qg_image.specs.ItemMeaning.{file_part}
use Rattle.qg_image.specs.Owed.{Owing, owed_by_node, owed_by_part, owed_to_child}
use Rattle.qg_cow_refs.specs.Children.{keyed_children, shared_children}
use Rattle.qg_refs.specs.Book.{Book, count_at}
use Rattle.qg_tree_backrefs.specs.Exchange.{IsKnown, those_at, times}
use Rattle.qg_tree_backrefs.proofs.ReferenceTotals.{many}
use Rattle.qg_tree_backrefs.proofs.Keyed.{keyed-under}
use Rattle.qg_tree_backrefs.proofs.Times.{one_of, times-append, times-nil, times-own, times_here, times_there}

-- ---- lists of what is owed

pub times-cons : (x : Owing) (xs : List Owing) (at : ℕ) (reference : Reference)
    → times (x ∷ xs) at reference ≡ times (x ∷ []) at reference + times xs at reference
times-cons x xs at reference = times-append (x ∷ []) xs at reference

-- one has no reference but its own
pub times-few : (x : Owing) (at : ℕ) (reference : Reference) → times (x ∷ []) at reference
    ≤ one_of reference x.reference
times-few x at reference = elim (eqb_tells x.address at) [
  | inl (equal, same) ↦ let here = times_here x at reference same in omega (arith, here)
  | inr (unequal, differ) ↦ let none = times_there x at reference differ in omega (arith, none)
]

-- a list has none of a reference that none in it is
abbrev pub HaveNot : Reference → List Owing → Type 0
HaveNot reference xs = (at : ℕ) → times xs at reference ≡ 0

pub have-not-more : (reference : Reference) (x : Owing) (xs : List Owing) → one_of reference x.reference ≡ 0
    → HaveNot reference xs → HaveNot reference (x ∷ xs)
have-not-more reference x xs differs none at =
    let first = times-cons x xs at reference in
    let few = times-few x at reference in
    let rest = none at in
    omega (arith, first, few, rest, differs)

have_not_both : (reference : Reference) (xs ys : List Owing) → HaveNot reference xs → HaveNot reference ys
    → HaveNot reference (xs ++ ys)
have_not_both reference xs ys first last at =
    let both = times-append xs ys at reference in
    let a = first at in
    let b = last at in
    omega (arith, both, a, b)

-- ---- how many lead to an address

length_more : (here : Bool) (reference : Reference) (rest : List Reference)
    → length (cons_option (if here then Some reference else None) rest) ≡ (if here then 1 else 0) + length rest
length_more true reference rest = omega arith
length_more false reference rest = omega arith

pub many-cons : (x : Owing) (xs : List Owing) (at : ℕ) → many (x ∷ xs) at ≡ (if x.address == at then 1 else 0) + many
    xs at
many-cons x xs at = length_more (x.address == at) x.reference (those_at xs at)

pub many-append : (xs ys : List Owing) (at : ℕ) → many (xs ++ ys) at ≡ many xs at + many ys at
many-append xs ys at =
    ap (λ (rs : List Reference). length rs)
    (filter_map-append (λ (owing : Owing). if owing.address == at then Some owing.reference else None) xs ys)
    ∙ length-append (those_at xs at) (those_at ys at)

-- two lists lead to the same addresses, one by one
abbrev pub addresses : List Owing → List ℕ
addresses xs = map (λ owing. owing.address) xs

pub many-alike : (xs ys : List Owing) → addresses xs ≡ addresses ys → (at : ℕ) → many xs at ≡ many ys at
many-alike [] [] same at = refl
many-alike [] (y ∷ ys) same at = absurd cc
many-alike (x ∷ xs) [] same at = absurd cc
many-alike (x ∷ xs) (y ∷ ys) same at =
    let first : x.address ≡ y.address = cc in
    let later : addresses xs ≡ addresses ys = cc in
    let rest = many-alike xs ys later at in
    let here = ap {B = ℕ} (λ (a : ℕ). if a == at then 1 else 0) first in
    let a = many-cons x xs at in
    let b = many-cons y ys at in
    omega (arith, rest, here, a, b)

-- what one of two such lists leads to is known where all references of the other are there
pub known-alike : (book : Book) (xs ys : List Owing) → addresses xs ≡ addresses ys
    → ((at : ℕ) (reference : Reference) → times ys at reference ≤ count_at book at reference)
    → All (λ owing. IsKnown book owing.address) xs
known-alike book [] [] same there = All-nil (λ (owing : Owing). IsKnown book owing.address)
known-alike book [] (y ∷ ys) same there = absurd cc
known-alike book (x ∷ xs) [] same there = absurd cc
known-alike book (x ∷ xs) (y ∷ ys) same there =
    let first : y.address ≡ x.address = cc in
    let later : addresses xs ≡ addresses ys = cc in
    let own = times-own y in
    let all = times-cons y ys y.address y.reference in
    let most = there y.address y.reference in
    let known : IsKnown book y.address = (y.reference, omega (arith, own, all, most)) in
    let rest = known-alike book xs ys later (λ at reference.
    let more = times-cons y ys at reference in
    let few = there at reference in
    omega (arith, more, few)) in
    All-cons (λ (owing : Owing). IsKnown book owing.address) x xs (subst (λ (a : ℕ). IsKnown book a) first known) rest

-- ---- shared references to the children of a node

abbrev shared_pointers : Header → List Pointer → List Owing
shared_pointers header pointers = map (λ pointer. owed_to_child header true pointer.child) pointers

abbrev shared_items : Header → List Item → List Owing
shared_items header items = flat_map (λ item. owed_by_part header true (file_part item)) items

shared_parts : (node : Node) → shared_children node ≡ shared_pointers (header_of node) (own_pointers node)
    ++ shared_items (header_of node) (own_items node)
unfolding owed_by_node
shared_parts node = refl

pointers_have_not : (header : Header) (reference : Reference)
    → ((at : ℕ) → one_of reference (SharedBlock header.address) ≡ 0)
    → (pointers : List Pointer) → HaveNot reference (shared_pointers header pointers)
pointers_have_not header reference differs [] at = times-nil at reference
pointers_have_not header reference differs (pointer ∷ pointers) at =
    have-not-more reference (owed_to_child header true pointer.child) (shared_pointers header pointers) (differs at)
    (pointers_have_not header reference differs pointers) at

part_has_not : (header : Header) (reference : Reference) → one_of reference (SharedData header.address) ≡ 0
    → (part : Option FilePart) (owed : List Owing) → HaveNot reference owed
    → HaveNot reference (owed_by_part header true part ++ owed)
part_has_not header reference differs None owed none at = none at
part_has_not header reference differs (Some (Inode ino inode)) owed none at = none at
part_has_not header reference differs (Some (PieceOf ino piece)) owed none at =
    have-not-more reference (record { address = piece.extent; reference = SharedData header.address }) owed differs
    none at

items_have_not : (header : Header) (reference : Reference) → one_of reference (SharedData header.address) ≡ 0
    → (items : List Item) → HaveNot reference (shared_items header items)
items_have_not header reference differs [] at = times-nil at reference
items_have_not header reference differs (item ∷ items) at =
    ap (λ (owed : List Owing). times owed at reference)
    (flat_map-cons (λ (i : Item). owed_by_part header true (file_part i)) item items)
    ∙ part_has_not header reference differs (file_part item) (shared_items header items)
    (items_have_not header reference differs items) at

shared_has_not : (node : Node) (reference : Reference) → one_of reference (SharedBlock (header_of node).address) ≡ 0
    → one_of reference (SharedData (header_of node).address) ≡ 0 → HaveNot reference (shared_children node)
shared_has_not node reference block piece at =
    ap (λ (owed : List Owing). times owed at reference) (shared_parts node)
    ∙ have_not_both reference (shared_pointers (header_of node) (own_pointers node))
    (shared_items (header_of node) (own_items node))
    (pointers_have_not (header_of node) reference (λ q. block) (own_pointers node))
    (items_have_not (header_of node) reference piece (own_items node)) at

-- none is keyed
pub shared-no_block : (node : Node) (tree at : ℕ) → times (shared_children node) at (KeyedBlock tree) ≡ 0
shared-no_block node tree at = shared_has_not node (KeyedBlock tree) refl refl at

pub shared-no_data : (node : Node) (tree ino offset at : ℕ) → times (shared_children node) at
    (KeyedData tree ino offset) ≡ 0
shared-no_data node tree ino offset at = shared_has_not node (KeyedData tree ino offset) refl refl at

-- ---- both lead to the same children

pointers_alike : (header other : Header) (pointers : List Pointer)
    → addresses (map (λ pointer. owed_to_child other false pointer.child) pointers)
    ≡ addresses (shared_pointers header pointers)
pointers_alike header other [] = refl
pointers_alike header other (pointer ∷ pointers) = ap (λ (rest : List ℕ). pointer.child ∷ rest)
    (pointers_alike header other pointers)

part_alike : (header other : Header) (part : Option FilePart) (xs ys : List Owing) → addresses xs ≡ addresses ys
    → addresses (owed_by_part other false part ++ xs) ≡ addresses (owed_by_part header true part ++ ys)
part_alike header other None xs ys same = same
part_alike header other (Some (Inode ino inode)) xs ys same = same
part_alike header other (Some (PieceOf ino piece)) xs ys same = ap (λ (rest : List ℕ). piece.extent ∷ rest) same

items_alike : (header other : Header) (items : List Item)
    → addresses (flat_map (λ item. owed_by_part other false (file_part item)) items)
    ≡ addresses (shared_items header items)
items_alike header other [] = refl
items_alike header other (item ∷ items) =
    ap addresses (flat_map-cons (λ (i : Item). owed_by_part other false (file_part i)) item items)
    ∙ part_alike header other (file_part item) (flat_map (λ (i : Item). owed_by_part other false (file_part i)) items)
    (shared_items header items)
    (items_alike header other items)
    ∙ sym (ap addresses (flat_map-cons (λ (i : Item). owed_by_part header true (file_part i)) item items))

append_alike : (xs ys zs ws : List Owing) → addresses xs ≡ addresses zs → addresses ys ≡ addresses ws
    → addresses (xs ++ ys) ≡ addresses (zs ++ ws)
append_alike xs ys zs ws first last =
    map-append (λ (owing : Owing). owing.address) xs ys
    ∙ ap (λ (front : List ℕ). front ++ addresses ys) first
    ∙ ap (λ (back : List ℕ). addresses zs ++ back) last
    ∙ sym (map-append (λ (owing : Owing). owing.address) zs ws)

pub children-alike : (node : Node) (owner : ℕ) → addresses (keyed_children node owner)
    ≡ addresses (shared_children node)
children-alike node owner =
    let header : Header = record (header_of node) { owner = owner } in
    ap addresses (sym (keyed-under header node owner refl))
    ∙ append_alike (map (λ (pointer : Pointer). owed_to_child header false pointer.child) (own_pointers node))
    (flat_map (λ (item : Item). owed_by_part header false (file_part item)) (own_items node))
    (shared_pointers (header_of node) (own_pointers node)) (shared_items (header_of node) (own_items node))
    (pointers_alike (header_of node) header (own_pointers node)) (items_alike (header_of node) header (own_items node))
    ∙ ap addresses (sym (shared_parts node))
