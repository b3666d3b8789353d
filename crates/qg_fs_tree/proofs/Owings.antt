-- What a node owes by keyed references, and what pieces owe.
use Rattle.std.proofs.Common.{◌≡◌, ℕ, suc, ◌+◌, false, List, [], ◌∷◌, ◌++◌, map, Option, Some, None, arith, refl, sym}
use Rattle.std.proofs.Common.{ap, ◌∙◌}
use Rattle.std.specs.List.{Contains, cons_option, filter_map, flat_map, sum_by}
use Rattle.std.proofs.lemmas.List.Concat.{flat_map-cons}
use Rattle.std.proofs.lemmas.List.Sums.{sum_by-cons}
use Rattle.qg_num.specs.declared.piece.Piece.{Piece}
use Rattle.qg_node.specs.declared.item.Item.{Item}
use Rattle.qg_node.specs.declared.pointer.Pointer.{Pointer}
use Rattle.qg_node.specs.declared.node.Header.{Header}
use Rattle.qg_node.specs.declared.node.Node.{Node}
use Rattle.qg_node.specs.Nodes.{header_of, own_items, own_pointers}
use Rattle.qg_items.specs.declared.extent.Reference.{Reference}
use Rattle.qg_items.specs.declared.extent.Reference.TheVariants.{KeyedBlock, SharedBlock, SharedData}
use Rattle.qg_image.specs.declared.part.FilePart.{FilePart}
use Rattle.qg_image.specs.declared.part.FilePart.TheVariants.{Inode, PieceOf}
use Rattle.qg_image.specs.ItemMeaning.{file_part}
use Rattle.qg_image.specs.Owed.{Owing, owed_by_part}
use Rattle.qg_cow_refs.specs.Children.{keyed_children, way_to}
use Rattle.qg_tree_edits.specs.Counting.{one}
use Rattle.qg_tree_backrefs.specs.Exchange.{times}
use Rattle.qg_tree_backrefs.proofs.Keyed.{keyed-under}
use Rattle.qg_tree_backrefs.proofs.Times.{times-append, times-nil}
use Rattle.qg_fs_tree.specs.Standing.{name_of, name_told, piece_in}
use Rattle.qg_tree_backrefs.proofs.Owings.{have-not-more, times-cons}
use Rattle.qg_fs_tree.proofs.Keyed.{keyed_ways, keyed-none, keyed-plus, keyed-same, times-way}
use Rattle.qg_tree_edits.proofs.Ways.{one-other}

-- ---- names

-- what pieces owe, and those that items tell
abbrev pub names_of : ℕ → List (ℕ × Piece) → List Owing
names_of owner names = map (name_of owner) names

abbrev pub named_by : ℕ → List Item → List Owing
named_by owner items = names_of owner (filter_map name_told items)

pub names-no_block : (owner : ℕ) (names : List (ℕ × Piece)) (tree at : ℕ) → times (names_of owner names) at
    (KeyedBlock tree) ≡ 0
names-no_block owner [] tree at = times-nil at (KeyedBlock tree)
names-no_block owner (name ∷ names) tree at =
    have-not-more (KeyedBlock tree) (name_of owner name) (names_of owner names) refl (names-no_block owner names tree)
    at

pub names-no_shared_block : (owner : ℕ) (names : List (ℕ × Piece)) (parent at : ℕ)
    → times (names_of owner names) at (SharedBlock parent) ≡ 0
names-no_shared_block owner [] parent at = times-nil at (SharedBlock parent)
names-no_shared_block owner (name ∷ names) parent at =
    have-not-more (SharedBlock parent) (name_of owner name) (names_of owner names) refl
    (names-no_shared_block owner names parent) at

pub names-no_shared_data : (owner : ℕ) (names : List (ℕ × Piece)) (parent at : ℕ)
    → times (names_of owner names) at (SharedData parent) ≡ 0
names-no_shared_data owner [] parent at = times-nil at (SharedData parent)
names-no_shared_data owner (name ∷ names) parent at =
    have-not-more (SharedData parent) (name_of owner name) (names_of owner names) refl
    (names-no_shared_data owner names parent) at

-- ---- keyed references to the children of a node

-- how many pointers lead to an address
abbrev pub pointing : List Pointer → ℕ → ℕ
pointing pointers q = sum_by (λ pointer. one pointer.child q) pointers

pub times-pointers : (owner : ℕ) (pointers : List Pointer) (at : ℕ) (reference : Reference)
    → times (map (λ pointer. way_to pointer.child owner) pointers) at reference
    ≡ keyed_ways owner (pointing pointers) at reference
times-pointers owner [] at reference = times-nil at reference ∙ sym (keyed-none owner (pointing []) at reference refl)
times-pointers owner (pointer ∷ pointers) at reference =
    let first = times-cons (way_to pointer.child owner) (map (λ (p : Pointer). way_to p.child owner) pointers) at
    reference in
    let here = times-way owner pointer.child at reference in
    let rest = times-pointers owner pointers at reference in
    let both = keyed-plus owner (one pointer.child) (pointing pointers) at reference in
    let same = keyed-same owner (pointing (pointer ∷ pointers)) (λ (q : ℕ). one pointer.child q + pointing pointers q)
    at reference
    (sum_by-cons (λ (p : Pointer). one p.child at) pointer pointers) in
    omega (arith, first, here, rest, both, same)

-- what items owe by keyed references
part_named : (header : Header) (part : Option FilePart) (owed : List Owing) (names : List (ℕ × Piece))
    → owed ≡ names_of header.owner names
    → owed_by_part header false part ++ owed ≡ names_of header.owner (cons_option (piece_in part) names)
part_named header None owed names is = is
part_named header (Some (Inode ino inode)) owed names is = is
part_named header (Some (PieceOf ino piece)) owed names is =
    ap (λ (rest : List Owing). name_of header.owner (ino, piece) ∷ rest) is

items_named : (header : Header) (items : List Item)
    → flat_map (λ item. owed_by_part header false (file_part item)) items ≡ named_by header.owner items
items_named header [] = refl
items_named header (item ∷ items) =
    flat_map-cons (λ (i : Item). owed_by_part header false (file_part i)) item items
    ∙ part_named header (file_part item) (flat_map (λ (i : Item). owed_by_part header false (file_part i)) items)
    (filter_map name_told items) (items_named header items)

-- a node's children as pointers and items
pub keyed-parts : (node : Node) (owner : ℕ) → keyed_children node owner
    ≡ map (λ pointer. way_to pointer.child owner) (own_pointers node) ++ named_by owner (own_items node)
keyed-parts node owner =
    let header : Header = record (header_of node) { owner = owner } in
    sym (keyed-under header node owner refl)
    ∙ ap (λ (owed : List Owing). map (λ (pointer : Pointer). way_to pointer.child owner) (own_pointers node) ++ owed)
    (items_named header (own_items node))

pub times-keyed : (node : Node) (owner at : ℕ) (reference : Reference) → times (keyed_children node owner) at reference
    ≡ keyed_ways owner (pointing (own_pointers node)) at reference + times (named_by owner (own_items node)) at
    reference
times-keyed node owner at reference =
    let parts = ap (λ (owed : List Owing). times owed at reference) (keyed-parts node owner) in
    let both = times-append (map (λ (pointer : Pointer). way_to pointer.child owner) (own_pointers node))
    (named_by owner (own_items node)) at reference in
    let pointers = times-pointers owner (own_pointers node) at reference in
    omega (arith, parts, both, pointers)

-- none is shared
pub keyed-no_shared_block : (node : Node) (owner parent at : ℕ) → times (keyed_children node owner) at
    (SharedBlock parent) ≡ 0
keyed-no_shared_block node owner parent at =
    let all = times-keyed node owner at (SharedBlock parent) in
    let names = names-no_shared_block owner (filter_map name_told (own_items node)) parent at in
    omega (arith, all, names)

pub keyed-no_shared_data : (node : Node) (owner parent at : ℕ) → times (keyed_children node owner) at
    (SharedData parent) ≡ 0
keyed-no_shared_data node owner parent at =
    let all = times-keyed node owner at (SharedData parent) in
    let names = names-no_shared_data owner (filter_map name_told (own_items node)) parent at in
    omega (arith, all, names)

-- none leads to a node that is no child
not_pointing : (pointers : List Pointer) (at : ℕ) → (Contains (map (λ pointer. pointer.child) pointers) at → ⊥)
    → pointing pointers at ≡ 0
not_pointing [] at apart = refl
not_pointing (pointer ∷ pointers) at apart =
    let first = sum_by-cons (λ (p : Pointer). one p.child at) pointer pointers in
    let none = one-other pointer.child at (λ (same : at ≡ pointer.child). apart (0, omega arith, sym same)) in
    let rest = not_pointing pointers at
    (λ has. apart (suc has.0, (let inside = has.1 in omega (arith, inside)), has.2)) in
    omega (arith, first, none, rest)

pub keyed-no_child : (node : Node) (owner tree at : ℕ)
    → (Contains (map (λ pointer. pointer.child) (own_pointers node)) at → ⊥)
    → times (keyed_children node owner) at (KeyedBlock tree) ≡ 0
keyed-no_child node owner tree at apart =
    let all = times-keyed node owner at (KeyedBlock tree) in
    let names = names-no_block owner (filter_map name_told (own_items node)) tree at in
    let none = keyed-none owner (pointing (own_pointers node)) at (KeyedBlock tree)
    (not_pointing (own_pointers node) at apart) in
    omega (arith, all, names, none)
