-- What is found in an image, and below a node of it.
use Rattle.std.proofs.Common.{◌≡◌, ℕ, zero, suc, ◌+◌, ◌*◌, Bool, true, false, cond, List, [], ◌∷◌, ◌++◌, length, map}
use Rattle.std.proofs.Common.{refl, sym, ap, subst, ◌∙◌, inl, inr}
use Rattle.std.specs.Prelude.{Option, Some, None, Result, Ok, Err, IfOk, slice_index, slice_range, ◌&&◌, ◌||◌, not}
use Rattle.std.specs.Prelude.{◌==◌, nat_le}
use Rattle.std.specs.List.{Contains, flat_map}
use Rattle.std.specs.Option.{option_map, option_and_then}
use Rattle.std.specs.Result.{result_ok}
use Rattle.std.proofs.lemmas.Bool.{eqb-true}
use Rattle.std.proofs.lemmas.List.{append-nil}
use Rattle.std.proofs.lemmas.List.Concat.{flat_map-append}
use Rattle.std.proofs.lemmas.List.Elements.{Contains-append_cases}
use Rattle.std.proofs.lemmas.Option.{same_Some, option_and_then_some}
use Rattle.std.proofs.lemmas.Result.{IfOk-weaker}
use Rattle.qg_num.specs.Fields.{u64_at, is_zero}
use Rattle.qg_node.specs.declared.item.Item.{Item}
use Rattle.qg_node.specs.declared.pointer.Pointer.{Pointer}
use Rattle.qg_node.specs.declared.node.Header.{Header}
use Rattle.qg_node.specs.declared.node.Node.{Node}
use Rattle.qg_node.specs.declared.node.Node.TheVariants.{Leaf, Inner}
use Rattle.qg_node.specs.declared.fault.NodeFault.{NodeFault}
use Rattle.qg_node.specs.declared.fault.NodeFault.TheVariants.{Csum, Place, Level, Empty, Bounds, Order, Slack}
use Rattle.qg_node.specs.Nodes.{header_of, is_ascending, own_items}
use Rattle.qg_node.specs.Reading.{◌>>=◌, check, count_at, has_checksum, has_empty_fields, header_at, inner_at, items_at}
use Rattle.qg_node.specs.Reading.{leaf_at, node_read, pointers_at}
use Rattle.qg_super.specs.declared.superblock.Super.{Super}
use Rattle.qg_super.specs.Places.{is_slot}
use Rattle.qg_super.specs.SuperText.{sizes_of}
use Rattle.qg_image.specs.Below.{inner_pointers, items_below, joined, leaf_items, nodes_below}
use Rattle.qg_image.specs.ItemMeaning.{when}
use Rattle.qg_image.proofs.Contained.{none_contained, contains_here, contains_cases}
use Rattle.qg_image.specs.declared.failure.Failure.{Failure}
use Rattle.qg_image.specs.declared.tree.TreeKind.{TreeKind}
use Rattle.qg_image.specs.declared.expected.Expected.{Expected}
use Rattle.qg_image.specs.Walk.{in_slot, node_found}
use Rattle.qg_image.specs.ItemsUnder.{is_way, items_under, nodes_of, nodes_under}
use Rattle.qg_reach.proofs.Reached.{address_of, FindsEach, LieWhereFound}

-- ---- where a node lies

-- what holds of the node that is read, where a rule has to hold before
if_checked : (P : Node → Type 0) (holds : Bool) (fault : NodeFault) (read : Result Node NodeFault)
    → (holds ≡ true → IfOk read P) → IfOk (check holds fault read) P
if_checked P true fault read reads = reads refl
if_checked P false fault read reads = tt

if_after : {A : Type 0} (P : Node → Type 0) (read : Result A NodeFault) (next : A → Result Node NodeFault)
    → ((x : A) → IfOk (next x) P) → IfOk (read >>= next) P
if_after P (Ok x) next reads = reads x
if_after P (Err fault) next reads = tt

abbrev HasHeader : List ℕ → Node → Type 0
HasHeader bytes node = header_of node ≡ header_at bytes

-- in order and with nothing behind them, the items or pointers are those of a node with the header that stands there
ordered_header : (bytes : List ℕ) (ascends empty : Bool) (node : Node) → HasHeader bytes node
    → IfOk (check ascends Order (check empty Slack (Ok node))) (HasHeader bytes)
ordered_header bytes ascends empty node has =
    if_checked (HasHeader bytes) ascends Order (check empty Slack (Ok node))
    (λ order. if_checked (HasHeader bytes) empty Slack (Ok node) (λ slack. has))

leaf_header : (bytes : List ℕ) → IfOk (leaf_at bytes) (HasHeader bytes)
unfolding leaf_at
leaf_header bytes =
    let low = 101 + 25 * count_at bytes in
    let items = items_at (count_at bytes) 101 (length bytes) low bytes in
    let ascends : List Item × ℕ → Bool = λ read. is_ascending (map (λ (item : Item). item.key) read.0) in
    let empty : List Item × ℕ → Bool = λ read. has_empty_fields bytes && is_zero low read.1 bytes in
    let next : List Item × ℕ → Result Node NodeFault =
    λ read. check (ascends read) Order (check (empty read) Slack (Ok (Leaf (header_at bytes) read.0))) in
    if_checked (HasHeader bytes) (nat_le low (length bytes)) Bounds (items >>= next) (λ room.
    if_after (HasHeader bytes) items next (λ read. ordered_header bytes (ascends read) (empty read)
    (Leaf (header_at bytes) read.0) refl))

inner_header : (bytes : List ℕ) → IfOk (inner_at bytes) (HasHeader bytes)
unfolding inner_at
inner_header bytes =
    let end = 101 + 33 * count_at bytes in
    let pointers = pointers_at (count_at bytes) 101 bytes in
    let ascends = is_ascending (map (λ (pointer : Pointer). pointer.key) pointers) in
    let empty = has_empty_fields bytes && is_zero end (length bytes) bytes in
    let node = Inner (header_at bytes) pointers in
    if_checked (HasHeader bytes) (nat_le end (length bytes)) Bounds (check ascends Order (check empty Slack (Ok node)))
    (λ room. ordered_header bytes ascends empty node refl)

either_header : (bytes : List ℕ) (is_leaf : Bool)
    → IfOk (cond is_leaf (leaf_at bytes) (inner_at bytes)) (HasHeader bytes)
either_header bytes true = leaf_header bytes
either_header bytes false = inner_header bytes

-- a node that is read at an address names it
read_lies : (address : ℕ) (bytes : List ℕ) → IfOk (node_read address bytes) (λ node. address_of node ≡ address)
unfolding node_read header_at
read_lies address bytes =
    let lies : Node → Type 0 = λ node. address_of node ≡ address in
    let level = slice_index bytes 100 in
    let placed = u64_at 48 bytes == address in
    let some = (level == 0) || not (count_at bytes == 0) in
    let read = cond (level == 0) (leaf_at bytes) (inner_at bytes) in
    if_checked lies (has_checksum bytes) Csum
    (check placed Place (check (nat_le level 7) Level (check some Empty read))) (λ sums.
    if_checked lies placed Place (check (nat_le level 7) Level (check some Empty read)) (λ place.
    if_checked lies (nat_le level 7) Level (check some Empty read) (λ low.
    if_checked lies some Empty read (λ there.
    IfOk-weaker read (HasHeader bytes) lies
    (λ node has. ap (λ (header : Header). header.address) has ∙ eqb-true (u64_at 48 bytes) address place)
    (either_header bytes (level == 0))))))

slot_lies : (address : ℕ) (slot : Bool) (read : Result Node NodeFault) (node : Node)
    → IfOk read (λ node. address_of node ≡ address)
    → result_ok (in_slot slot address read) ≡ Some node → address_of node ≡ address
slot_lies address true (Ok other) node lies is = ap address_of (sym (same_Some other node is)) ∙ lies
slot_lies address true (Err fault) node lies is = absurd cc
slot_lies address false read node lies is = absurd cc

-- what is found at an address of an image names that address
pub LieWhereFound-image : (super : Super) (image : List ℕ) → LieWhereFound (nodes_of (node_found super image))
unfolding node_found
LieWhereFound-image super image = record {
  found = λ address node is.
      let bytes = slice_range image address (address + super.nodesize) in
      slot_lies address (is_slot (sizes_of super) address) (node_read address bytes) node (read_lies address bytes) is;
}

-- ---- the nodes below a node are found

found_itself : (found : ℕ → Option Node) (address : ℕ) (node : Node) → LieWhereFound found → found address ≡ Some node
    → found (address_of node) ≡ Some node
found_itself found address node lie is = subst (λ a. found a ≡ Some node) (sym (lie.found address node is)) is

finds_none : (found : ℕ → Option Node) → FindsEach found []
finds_none found = record { each = λ node has. absurd (none_contained node has) }

finds_one_more : (found : ℕ → Option Node) (node : Node) (nodes : List Node) → found (address_of node) ≡ Some node
    → FindsEach found nodes → FindsEach found (node ∷ nodes)
finds_one_more found node nodes is finds = record {
  each = λ other has. elim (contains_cases node nodes other has) [
    | inl same ↦ subst (λ n. found (address_of n) ≡ Some n) same is
    | inr later ↦ finds.each other later
  ];
}

finds_both : (found : ℕ → Option Node) (front back : List Node) → FindsEach found front → FindsEach found back
    → FindsEach found (front ++ back)
finds_both found front back finds others = record {
  each = λ node has. elim (Contains-append_cases front back node has) [
    | inl before ↦ finds.each node before
    | inr behind ↦ others.each node behind
  ];
}

joined_finds : (found : ℕ → Option Node) (under : Pointer → Option (List Node))
    → ((pointer : Pointer) (nodes : List Node) → under pointer ≡ Some nodes → FindsEach found nodes)
    → (pointers : List Pointer) (nodes : List Node) → joined under pointers ≡ Some nodes → FindsEach found nodes
joined_finds found under each [] nodes are = subst (FindsEach found) (same_Some [] nodes are) (finds_none found)
joined_finds found under each (pointer ∷ pointers) nodes are =
    option_and_then_some (λ first. option_and_then (λ rest. Some (first ++ rest)) (joined under pointers))
    (under pointer) nodes are (λ first is both.
    option_and_then_some (λ rest. Some (first ++ rest)) (joined under pointers) nodes both (λ rest is' all.
    subst (FindsEach found) (same_Some (first ++ rest) nodes all)
    (finds_both found first rest (each pointer first is) (joined_finds found under each pointers rest is'))))

leaf_finds : (found : ℕ → Option Node) (address : ℕ) (here : Option Node) (nodes : List Node) → LieWhereFound found
    → found address ≡ here
    → option_and_then (λ node. option_and_then (λ items. Some (node ∷ [])) (leaf_items node)) here ≡ Some nodes
    → FindsEach found nodes
leaf_finds found address None nodes lie is are = absurd cc
leaf_finds found address (Some (Leaf header items)) nodes lie is are =
    subst (FindsEach found) (same_Some (Leaf header items ∷ []) nodes are)
    (finds_one_more found (Leaf header items) [] (found_itself found address (Leaf header items) lie is)
    (finds_none found))
leaf_finds found address (Some (Inner header pointers)) nodes lie is are = absurd cc

inner_finds : (found : ℕ → Option Node) (under : Pointer → Option (List Node))
    → ((pointer : Pointer) (nodes : List Node) → under pointer ≡ Some nodes → FindsEach found nodes)
    → (address : ℕ) (here : Option Node) (nodes : List Node) → LieWhereFound found → found address ≡ here
    → option_and_then (λ node. option_and_then (λ below. Some (node ∷ below))
    (option_and_then (joined under) (inner_pointers node))) here ≡ Some nodes → FindsEach found nodes
inner_finds found under each address None nodes lie is are = absurd cc
inner_finds found under each address (Some (Leaf header items)) nodes lie is are = absurd cc
inner_finds found under each address (Some (Inner header pointers)) nodes lie is are =
    option_and_then_some (λ below. Some (Inner header pointers ∷ below)) (joined under pointers) nodes are
    (λ below stand all.
    subst (FindsEach found) (same_Some (Inner header pointers ∷ below) nodes all)
    (finds_one_more found (Inner header pointers) below (found_itself found address (Inner header pointers) lie is)
    (joined_finds found under each pointers below stand)))

-- each node below is found where it says that it lies
pub FindsEach-below : (found : ℕ → Option Node) (level address : ℕ) (nodes : List Node) → LieWhereFound found
    → nodes_below found level address ≡ Some nodes → FindsEach found nodes
FindsEach-below found zero address nodes lie are = leaf_finds found address (found address) nodes lie refl are
FindsEach-below found (suc level) address nodes lie are =
    inner_finds found (λ pointer. nodes_below found level pointer.child)
    (λ pointer nodes' is. FindsEach-below found level pointer.child nodes' lie is)
    address (found address) nodes lie refl are

-- ---- the items below a node are those of the nodes below it

joined_items : (items : Pointer → Option (List Item)) (nodes : Pointer → Option (List Node))
    → ((pointer : Pointer) → items pointer ≡ option_map (flat_map own_items) (nodes pointer))
    → (pointers : List Pointer) → joined items pointers ≡ option_map (flat_map own_items) (joined nodes pointers)
joined_items items nodes same [] = refl
joined_items items nodes same (pointer ∷ pointers) =
    rw (same pointer, joined_items items nodes same pointers) (both (nodes pointer) (joined nodes pointers))
  where
    both : (first rest : Option (List Node))
        → option_and_then (λ xs. option_and_then (λ ys. Some (xs ++ ys)) (option_map (flat_map own_items) rest))
        (option_map (flat_map own_items) first)
        ≡ option_map (flat_map own_items) (option_and_then (λ xs. option_and_then (λ ys. Some (xs ++ ys)) rest) first)
    both None rest = refl
    both (Some xs) None = refl
    both (Some xs) (Some ys) = ap Some (sym (flat_map-append own_items xs ys))

leaf_owns : (here : Option Node)
    → option_and_then leaf_items here ≡ option_map (flat_map own_items)
    (option_and_then (λ node. option_and_then (λ items. Some (node ∷ [])) (leaf_items node)) here)
leaf_owns None = refl
leaf_owns (Some (Leaf header items)) = ap Some (sym (append-nil items))
leaf_owns (Some (Inner header pointers)) = refl

inner_owns : (items : Pointer → Option (List Item)) (nodes : Pointer → Option (List Node))
    → ((pointer : Pointer) → items pointer ≡ option_map (flat_map own_items) (nodes pointer))
    → (here : Option Node) → option_and_then (joined items) (option_and_then inner_pointers here)
    ≡ option_map (flat_map own_items)
    (option_and_then (λ node. option_and_then (λ below. Some (node ∷ below))
    (option_and_then (joined nodes) (inner_pointers node))) here)
inner_owns items nodes same None = refl
inner_owns items nodes same (Some (Leaf header own)) = refl
inner_owns items nodes same (Some (Inner header pointers)) = joined_items items nodes same pointers
    ∙ itself (joined nodes pointers) where
      itself : (below : Option (List Node)) → option_map (flat_map own_items) below ≡ option_map (flat_map own_items)
          (option_and_then (λ below. Some (Inner header pointers ∷ below)) below)
      itself None = refl
      itself (Some below) = refl

pub items_below-is : (found : ℕ → Option Node) (level address : ℕ)
    → items_below found level address ≡ option_map (flat_map own_items) (nodes_below found level address)
items_below-is found zero address = leaf_owns (found address)
items_below-is found (suc level) address =
    inner_owns (λ pointer. items_below found level pointer.child) (λ pointer. nodes_below found level pointer.child)
    (λ pointer. items_below-is found level pointer.child) (found address)

pub items_below-nodes : (found : ℕ → Option Node) (level address : ℕ) (items : List Item) (nodes : List Node)
    → items_below found level address ≡ Some items
    → nodes_below found level address ≡ Some nodes → items ≡ flat_map own_items nodes
items_below-nodes found level address items nodes own are =
    same_Some items (flat_map own_items nodes) (sym own ∙ items_below-is found level address
    ∙ ap (option_map (flat_map own_items)) are)

when_some : {A : Type 0} (test : Bool) (given : Option A) (x : A) → when test given ≡ Some x → given ≡ Some x
when_some true given x is = is
when_some false given x is = absurd cc

-- so are the items of a tree, where no rule is broken on the way
pub items_under-nodes : (tree : TreeKind) (super : Super) (found : ℕ → Result Node Failure) (level : ℕ)
    (expected : Expected) (address : ℕ) (items : List Item) (nodes : List Node)
    → items_under tree super found level expected address ≡ Some items
    → nodes_under tree super found level expected address ≡ Some nodes → items ≡ flat_map own_items nodes
items_under-nodes tree super found level expected address items nodes own are =
    let way = is_way tree super found expected address in
    items_below-nodes (nodes_of found) level address items nodes
    (when_some way (items_below (nodes_of found) level address) items own)
    (when_some way (nodes_below (nodes_of found) level address) nodes are)

-- ---- the node that stands above the others

-- a node was found, and is one of these
pub record IsFirst (here : Option Node) (nodes : List Node) : Type 0 where
  pub node : Node
  pub is : here ≡ Some node
  pub has : Contains nodes node

leaf_first : (here : Option Node) (nodes : List Node)
    → option_and_then (λ node. option_and_then (λ items. Some (node ∷ [])) (leaf_items node)) here ≡ Some nodes
    → IsFirst here nodes
leaf_first None nodes are = absurd cc
leaf_first (Some (Leaf header items)) nodes are = record {
  node = Leaf header items;
  is = refl;
  has = subst (λ list. Contains list (Leaf header items)) (same_Some (Leaf header items ∷ []) nodes are)
      (contains_here (Leaf header items) []);
}
leaf_first (Some (Inner header pointers)) nodes are = absurd cc

inner_first : (under : Pointer → Option (List Node)) (here : Option Node) (nodes : List Node)
    → option_and_then (λ node. option_and_then (λ below. Some (node ∷ below))
    (option_and_then (joined under) (inner_pointers node))) here ≡ Some nodes → IsFirst here nodes
inner_first under None nodes are = absurd cc
inner_first under (Some (Leaf header items)) nodes are = absurd cc
inner_first under (Some (Inner header pointers)) nodes are =
    option_and_then_some (λ below. Some (Inner header pointers ∷ below)) (joined under pointers) nodes are
    (λ below stand all. record {
      node = Inner header pointers;
      is = refl;
      has = subst (λ list. Contains list (Inner header pointers)) (same_Some (Inner header pointers ∷ below) nodes all)
          (contains_here (Inner header pointers) below);
    })

pub first_below : (found : ℕ → Option Node) (level address : ℕ) (nodes : List Node)
    → nodes_below found level address ≡ Some nodes → IsFirst (found address) nodes
first_below found zero address nodes are = leaf_first (found address) nodes are
first_below found (suc level) address nodes are = inner_first (λ pointer. nodes_below found level pointer.child)
    (found address) nodes are
