-- No image has room for so many items that a piece's reference were named too often.
use Rattle.std.proofs.Common.{◌≡◌, ℕ, zero, suc, ◌+◌, ◌*◌, ◌<◌, ◌≤◌, Bool, true, false, List, [], ◌∷◌, length, map}
use Rattle.std.proofs.Common.{Option, Some, None, arith, refl, sym, ap}
use Rattle.std.specs.Prelude.{IsTrue, if◌then◌else◌}
use Rattle.std.specs.List.{cons_option, filter_map, sum_by}
use Rattle.std.proofs.Math.Nat.{add-mul}
use Rattle.std.proofs.lemmas.List.{length-append}
use Rattle.std.proofs.lemmas.List.FromFn.{length-map-range_with_len}
use Rattle.std.proofs.lemmas.List.Sums.{sum_by-cons}
use Rattle.qg_num.specs.declared.piece.Piece.{Piece}
use Rattle.qg_node.specs.declared.item.Item.{Item}
use Rattle.qg_node.specs.declared.pointer.Pointer.{Pointer}
use Rattle.qg_node.specs.declared.node.Node.{Node}
use Rattle.qg_node.specs.declared.node.Node.TheVariants.{Leaf, Inner}
use Rattle.qg_node.specs.Nodes.{item_bytes, items_bytes, own_items}
use Rattle.qg_node.specs.NodeText.{IsNode}
use Rattle.qg_items.specs.declared.extent.Reference.{Reference}
use Rattle.qg_super.specs.declared.sizes.Sizes.{Sizes}
use Rattle.qg_super.specs.declared.superblock.Super.{Super}
use Rattle.qg_super.specs.Places.{is_served, slot_at}
use Rattle.qg_super.proofs.Served.{SizesFit-is_served}
use Rattle.qg_image.specs.Record.{same_reference}
use Rattle.qg_image.specs.declared.tree.TreeKind.{TreeKind}
use Rattle.qg_tree_edits.specs.Branch.{AreBranches, IsBranch}
use Rattle.qg_tree_edits.specs.Tree.{Reaches}
use Rattle.qg_tree_edits.specs.Counting.{pointers_there, ways}
use Rattle.qg_tree_backrefs.proofs.Owings.{times-cons, times-few}
use Rattle.qg_tree_backrefs.proofs.Times.{one_of, times-nil}
use Rattle.qg_fs_tree.specs.Standing.{every_slot, name_of, name_told, names_times}
use Rattle.qg_fs_tree.proofs.WaysSummed.{over-ways, under}
use Rattle.qg_fs_tree.proofs.SlotSums.{IsOnce, over}

-- ---- names

one_most : (reference other : Reference) → one_of reference other ≤ 1
one_most reference other = from (same_reference reference other) where
  from : (b : Bool) → (if b then 1 else 0) ≤ 1
  from true = omega arith
  from false = omega arith

times_most : (owner : ℕ) (names : List (ℕ × Piece)) (at : ℕ) (reference : Reference)
    → names_times owner names at reference ≤ length names
times_most owner [] at reference = let none = times-nil at reference in omega (arith, none)
times_most owner (name ∷ names) at reference =
    let both = times-cons (name_of owner name) (map (name_of owner) names) at reference in
    let first = times-few (name_of owner name) at reference in
    let one = one_most reference (name_of owner name).reference in
    let rest = times_most owner names at reference in
    omega (arith, both, first, one, rest)

option_more : {A : Type 0} (o : Option A) (xs : List A) → length (cons_option o xs) ≤ suc (length xs)
option_more None xs = omega arith
option_more (Some x) xs = omega arith

names_most : (items : List Item) → length (filter_map name_told items) ≤ length items
names_most [] = omega arith
names_most (item ∷ items) =
    let first = option_more (name_told item) (filter_map name_told items) in
    let rest = names_most items in
    omega (arith, first, rest)

-- ---- items of nodes

abbrev pub items_count : Option Node → ℕ
items_count None = 0
items_count (Some node) = length (own_items node)

items_most : (items : List Item) → length items ≤ items_bytes items
items_most [] = omega arith
items_most (item ∷ items) =
    let sum = sum_by-cons item_bytes item items in
    let own : item_bytes item ≡ 25 + length item.body = refl in
    let rest = items_most items in
    omega (arith, sum, own, rest)

node_most : (nodesize : ℕ) (node : Node) → IsNode nodesize node → length (own_items node) ≤ nodesize
node_most nodesize (Leaf header items) is =
    let fits = is.fits in
    let most = items_most items in
    omega (arith, fits, most)
node_most nodesize (Inner header pointers) is = omega arith

module _ (tree : TreeKind) (super : Super) (nodes : ℕ → Option Node) where
  abbrev count_at : ℕ → ℕ
  count_at s = items_count (nodes s)

  each_count : (level : ℕ)
      → ((at : ℕ) (items : List Item) → IsBranch tree super nodes level at items
      → length items ≡ under nodes count_at level at)
      → (pointers : List Pointer) (items : List Item) → AreBranches tree super nodes level pointers items
      → length items ≡ sum_by (λ pointer. under nodes count_at level pointer.child) pointers
  each_count level one [] items each = ap (λ (xs : List Item). length xs) each
  each_count level one (pointer ∷ pointers) items each =
      let here = one pointer.child each.0 each.3.1 in
      let rest = each_count level one pointers each.1 each.4 in
      let whole = ap (λ (xs : List Item). length xs) each.2 in
      let both = length-append each.0 each.1 in
      let sum = sum_by-cons (λ (p : Pointer). under nodes count_at level p.child) pointer pointers in
      omega (arith, here, rest, whole, both, sum)

  branch_count : (level at : ℕ) (items : List Item) → IsBranch tree super nodes level at items
      → length items ≡ under nodes count_at level at
  unfolding IsBranch
  branch_count zero at items branch = sym (ap items_count branch.1)
  branch_count (suc level) at items branch =
      let own = ap items_count branch.2 in
      let below = each_count level (branch_count level) branch.1 items branch.4 in
      let told = ap (λ (o : Option Node). sum_by (λ (p : Pointer). under nodes count_at level p.child)
      (pointers_there o)) branch.2 in
      omega (arith, own, below, told)

  -- ---- over all slots

  sum_most : (f : ℕ → ℕ) (most : ℕ) (slots : List ℕ) → ((s : ℕ) → f s ≤ most)
      → sum_by f slots ≤ length slots * most
  sum_most f most [] each = omega arith
  sum_most f most (s ∷ slots) each =
      let sum = sum_by-cons f s slots in
      let here = each s in
      let rest = sum_most f most slots each in
      let product = add-mul 1 (length slots) most in
      let long : length (s ∷ slots) ≡ 1 + length slots = omega arith in
      let whole = ap (λ (n : ℕ). n * most) long in
      omega (arith, sum, here, rest, product, whole)

  few_times : (way n most : ℕ) → way ≤ 1 → (0 < way → n ≤ most) → way * n ≤ most
  few_times zero n most single few = omega arith
  few_times (suc zero) n most single few = let here = few (omega arith) in omega (arith, here)
  few_times (suc (suc way)) n most single few = absurd (omega (arith, single))

  module _ (sizes : Sizes) (level at : ℕ) (items : List Item) (branch : IsBranch tree super nodes level at items)
      (served : IsTrue (is_served sizes)) (once : (q : ℕ) → Reaches nodes level at q → IsOnce (every_slot sizes) q)
      (single : (q : ℕ) → ways nodes level at q ≤ 1)
      (sound : (q : ℕ) (node : Node) → nodes q ≡ Some node → IsNode sizes.nodesize node) where
    told_most : (o : Option Node) → ((node : Node) → o ≡ Some node → IsNode sizes.nodesize node)
        → items_count o ≤ sizes.nodesize
    told_most None each = omega arith
    told_most (Some node) each = node_most sizes.nodesize node (each node refl)

    slots_most : over (every_slot sizes) (ways nodes level at) count_at ≤ length (every_slot sizes) * sizes.nodesize
    slots_most = sum_most (λ (s : ℕ). ways nodes level at s * count_at s) sizes.nodesize (every_slot sizes)
        (λ s. few_times (ways nodes level at s) (count_at s) sizes.nodesize (single s)
        (λ some. told_most (nodes s) (sound s)))

    slots_long : length (every_slot sizes) ≡ sizes.slots
    slots_long = length-map-range_with_len (slot_at sizes) 0 sizes.slots

    pub names-few : (owner q : ℕ) (reference : Reference)
        → names_times owner (filter_map name_told items) q reference ≤ 4294967295
    names-few owner q reference =
        let fit = SizesFit-is_served sizes served in
        let times_few = times_most owner (filter_map name_told items) q reference in
        let names_few = names_most items in
        let count = branch_count level at items branch in
        let sum = over-ways nodes (every_slot sizes) count_at level at once in
        let most = slots_most in
        let long = ap (λ (n : ℕ). n * sizes.nodesize) slots_long in
        let area = fit.area in
        omega (arith, times_few, names_few, count, sum, most, long, area)
