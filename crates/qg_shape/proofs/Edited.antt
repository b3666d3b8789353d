-- A node with other items or pointers: what stays, and when it is a node again.
use Rattle.std.proofs.Common.{◌≡◌, ℕ, ◌+◌, ◌*◌, ◌≤◌, ◌<◌, true, List, map, length, refl, sym, ap, ◌∙◌, arith, get_or}
use Rattle.std.proofs.Common.{set}
use Rattle.std.specs.Prelude.{insert, remove}
use Rattle.std.specs.List.{All}
use Rattle.std.proofs.lemmas.List.{length-set}
use Rattle.std.proofs.lemmas.List.Edits.{length-insert, length-remove}
use Rattle.std.proofs.lemmas.List.Sums.{sum_by-insert, sum_by-remove, sum_by-set}
use Rattle.qg_node.specs.declared.item.Item.{Item}
use Rattle.qg_node.specs.declared.pointer.Pointer.{Pointer}
use Rattle.qg_node.specs.declared.node.Node.{Node}
use Rattle.qg_node.specs.declared.node.Node.TheVariants.{Leaf, Inner}
use Rattle.qg_node.specs.Fits.{ItemFits, NodeFits, PointerFits}
use Rattle.qg_node.specs.Nodes.{header_of, is_ascending, item_bytes, items_bytes, own_items, own_keys, own_pointers}
use Rattle.qg_node.specs.Nodes.{used_bytes}
use Rattle.qg_node.specs.NodeText.{IsLevelled, IsNode}
use Rattle.qg_shape.specs.Parts.{AreAlike, IsInner, IsLeaf, with_items, with_pointers}

-- ---- which kind a node is

pub leaf_at_zero : (node : Node) → IsLevelled node → (header_of node).level ≡ 0 → IsLeaf node
leaf_at_zero (Leaf header items) levelled zero_level = tt
leaf_at_zero (Inner header pointers) levelled zero_level = absurd (omega (arith, levelled.0, zero_level))

pub inner_above : (node : Node) → IsLevelled node → 1 ≤ (header_of node).level → IsInner node
inner_above (Leaf header items) levelled above = absurd (omega (arith, levelled, above))
inner_above (Inner header pointers) levelled above = tt

-- nodes of one level are alike
pub alike_on : (left right : Node) → IsLevelled left → IsLevelled right
    → (header_of left).level ≡ (header_of right).level → AreAlike left right
alike_on (Leaf header items) right levelled other same = leaf_at_zero right other (sym same ∙ levelled)
alike_on (Inner header pointers) right levelled other same = inner_above right other (omega (arith, levelled.0, same))

-- ---- a leaf with other items

pub record HasItems (node : Node) (items : List Item) (new : Node) : Type 0 where
  pub leaf : IsLeaf new
  pub header : header_of new ≡ header_of node
  pub own : own_items new ≡ items
  pub none : own_pointers new ≡ own_pointers node
  pub keys : own_keys new ≡ map (λ item. item.key) items
  pub used : used_bytes new ≡ items_bytes items

pub HasItems-with_items : (node : Node) (items : List Item) → IsLeaf node → HasItems node items (with_items node items)
HasItems-with_items (Leaf header old) items leaf = record {
  leaf = tt;
  header = refl;
  own = refl;
  none = refl;
  keys = refl;
  used = refl;
}
HasItems-with_items (Inner header pointers) items leaf = absurd leaf

pub IsNode-with_items : (size : ℕ) (node : Node) (items : List Item) → IsLeaf node → IsLevelled node
    → is_ascending (map (λ (item : Item). item.key) items) ≡ true → 101 + items_bytes items ≤ size
    → IsNode size (with_items node items)
IsNode-with_items size (Leaf header old) items leaf levelled ascending fits =
    record { levelled = levelled; ascending = ascending; fits = fits }
IsNode-with_items size (Inner header pointers) items leaf levelled ascending fits = absurd leaf

pub NodeFits-with_items : (node : Node) (items : List Item) → IsLeaf node → NodeFits node → All ItemFits items
    → NodeFits (with_items node items)
NodeFits-with_items (Leaf header old) items leaf fits fit = (fits.0, fit)
NodeFits-with_items (Inner header pointers) items leaf fits fit = absurd leaf

pub used_bytes-insert_item : (node : Node) (place : ℕ) (item : Item) → IsLeaf node
    → used_bytes (with_items node (insert (own_items node) place item)) ≡ used_bytes node + item_bytes item
used_bytes-insert_item (Leaf header items) place item leaf = sum_by-insert item_bytes items place item
used_bytes-insert_item (Inner header pointers) place item leaf = absurd leaf

pub used_bytes-remove_item : (node : Node) (place : ℕ) (d : Item) → IsLeaf node → place < length (own_items node)
    → used_bytes (with_items node (remove (own_items node) place)) + item_bytes (get_or (own_items node) place d)
    ≡ used_bytes node
used_bytes-remove_item (Leaf header items) place d leaf inside = sum_by-remove item_bytes items place d inside
used_bytes-remove_item (Inner header pointers) place d leaf inside = absurd leaf

pub used_bytes-set_item : (node : Node) (place : ℕ) (item d : Item) → IsLeaf node → place < length (own_items node)
    → used_bytes (with_items node (set (own_items node) place item)) + item_bytes (get_or (own_items node) place d)
    ≡ used_bytes node + item_bytes item
used_bytes-set_item (Leaf header items) place item d leaf inside = sum_by-set item_bytes items place item d inside
used_bytes-set_item (Inner header pointers) place item d leaf inside = absurd leaf

-- ---- an inner node with other pointers

pub record HasPointers (node : Node) (pointers : List Pointer) (new : Node) : Type 0 where
  pub inner : IsInner new
  pub header : header_of new ≡ header_of node
  pub own : own_pointers new ≡ pointers
  pub none : own_items new ≡ own_items node
  pub keys : own_keys new ≡ map (λ pointer. pointer.key) pointers
  pub used : used_bytes new ≡ 33 * length pointers

pub HasPointers-with_pointers : (node : Node) (pointers : List Pointer) → IsInner node
    → HasPointers node pointers (with_pointers node pointers)
HasPointers-with_pointers (Leaf header items) pointers inner = absurd inner
HasPointers-with_pointers (Inner header old) pointers inner = record {
  inner = tt;
  header = refl;
  own = refl;
  none = refl;
  keys = refl;
  used = refl;
}

pub IsNode-with_pointers : (size : ℕ) (node : Node) (pointers : List Pointer) → IsInner node → IsLevelled node
    → 1 ≤ length pointers → is_ascending (map (λ (pointer : Pointer). pointer.key) pointers) ≡ true
    → 101 + 33 * length pointers ≤ size → IsNode size (with_pointers node pointers)
IsNode-with_pointers size (Leaf header items) pointers inner levelled some ascending fits = absurd inner
IsNode-with_pointers size (Inner header old) pointers inner levelled some ascending fits =
    record { levelled = (levelled.0, levelled.1, some); ascending = ascending; fits = fits }

pub NodeFits-with_pointers : (node : Node) (pointers : List Pointer) → IsInner node → NodeFits node
    → All PointerFits pointers → NodeFits (with_pointers node pointers)
NodeFits-with_pointers (Leaf header items) pointers inner fits fit = absurd inner
NodeFits-with_pointers (Inner header old) pointers inner fits fit = (fits.0, fit)

pub used_bytes-insert_pointer : (node : Node) (place : ℕ) (pointer : Pointer) → IsInner node
    → place ≤ length (own_pointers node)
    → used_bytes (with_pointers node (insert (own_pointers node) place pointer)) ≡ used_bytes node + 33
used_bytes-insert_pointer (Leaf header items) place pointer inner within = absurd inner
used_bytes-insert_pointer (Inner header pointers) place pointer inner within =
    rw (length-insert pointers place pointer within) (omega arith)

pub used_bytes-remove_pointer : (node : Node) (place : ℕ) → IsInner node → place < length (own_pointers node)
    → used_bytes (with_pointers node (remove (own_pointers node) place)) + 33 ≡ used_bytes node
used_bytes-remove_pointer (Leaf header items) place inner inside = absurd inner
used_bytes-remove_pointer (Inner header pointers) place inner inside =
    let less = length-remove pointers place inside in omega (arith, less)

pub used_bytes-set_pointer : (node : Node) (place : ℕ) (pointer : Pointer) → IsInner node
    → used_bytes (with_pointers node (set (own_pointers node) place pointer)) ≡ used_bytes node
used_bytes-set_pointer (Leaf header items) place pointer inner = absurd inner
used_bytes-set_pointer (Inner header pointers) place pointer inner =
    ap (λ (count : ℕ). 33 * count) (length-set pointers place pointer)
