-- What the nodes of a tree would owe if none were full: a way to each node, and what its items name.
use Rattle.std.proofs.Common.{◌≡◌, ◌≢◌, ℕ, zero, suc, ◌+◌, ◌≤◌, true, List, [], ◌∷◌, ◌++◌, map, Option, Some, None}
use Rattle.std.proofs.Common.{arith, refl, sym, ap, ◌∙◌, inl, inr}
use Rattle.std.specs.Prelude.{◌⊎◌, slice_get}
use Rattle.std.specs.List.{filter_map, sum_by}
use Rattle.std.proofs.lemmas.Bool.Decides.{eqb_tells}
use Rattle.std.proofs.lemmas.List.{map-append}
use Rattle.std.proofs.lemmas.List.Elements.{filter_map-append}
use Rattle.std.proofs.lemmas.List.Sums.{sum_by-cons}
use Rattle.qg_num.specs.declared.piece.Piece.{Piece}
use Rattle.qg_node.specs.declared.item.Item.{Item}
use Rattle.qg_node.specs.declared.pointer.Pointer.{Pointer}
use Rattle.qg_node.specs.declared.node.Header.{Header}
use Rattle.qg_node.specs.declared.node.Node.{Node}
use Rattle.qg_node.specs.declared.node.Node.TheVariants.{Leaf, Inner}
use Rattle.qg_node.specs.Nodes.{header_of, is_ascending, own_items, own_pointers}
use Rattle.qg_items.specs.declared.extent.Reference.{Reference}
use Rattle.qg_super.specs.declared.superblock.Super.{Super}
use Rattle.qg_image.specs.declared.tree.TreeKind.{TreeKind}
use Rattle.qg_image.specs.Owed.{Owing}
use Rattle.qg_cow_refs.specs.Children.{keyed_children}
use Rattle.qg_tree_edits.specs.Branch.{AreBranches, IsBranch, IsPointed}
use Rattle.qg_tree_edits.specs.Tree.{Reaches}
use Rattle.qg_tree_edits.proofs.BranchApart.{branches-apart}
use Rattle.qg_tree_edits.proofs.BranchOrder.{keys_of}
use Rattle.qg_tree_edits.proofs.BranchRanges.{ascending-first, ascending-others}
use Rattle.qg_tree_edits.proofs.Branches.{branch-level, each-get}
use Rattle.qg_tree_edits.specs.Counting.{one, pointers_there, ways, ways_each}
use Rattle.qg_tree_edits.proofs.Ways.{one-here, one-other, sum-same, ways-inner, ways-leaf, ways-none, ways_each-cons}
use Rattle.qg_tree_edits.proofs.Ways.{ways_each-none}
use Rattle.qg_tree_backrefs.specs.Exchange.{times}
use Rattle.qg_tree_backrefs.proofs.Times.{times-append, times-nil}
use Rattle.qg_fs_tree.specs.Standing.{name_of, name_told}
use Rattle.qg_fs_tree.proofs.Keyed.{keyed-none, keyed-plus, keyed-same, keyed_ways}
use Rattle.qg_fs_tree.proofs.Owings.{named_by, pointing, times-keyed}
use Rattle.qg_fs_tree.proofs.WaysSummed.{under}

-- what a node that is told would owe as one of an owner that is not full
abbrev pub keyed_told : ℕ → Option Node → List Owing
keyed_told owner None = []
keyed_told owner (Some node) = keyed_children node owner

-- ---- items that name

named_append : (owner : ℕ) (xs ys : List Item) (at : ℕ) (reference : Reference)
    → times (named_by owner (xs ++ ys)) at reference ≡ times (named_by owner xs) at reference + times
    (named_by owner ys) at reference
named_append owner xs ys at reference =
    ap (λ (names : List (ℕ × Piece)). times (map (name_of owner) names) at reference)
    (filter_map-append name_told xs ys)
    ∙ ap (λ (owed : List Owing). times owed at reference)
    (map-append (name_of owner) (filter_map name_told xs) (filter_map name_told ys))
    ∙ times-append (named_by owner xs) (named_by owner ys) at reference

-- ---- the identity

module _ (tree : TreeKind) (super : Super) (nodes : ℕ → Option Node) (owner at : ℕ) (reference : Reference) where
  -- what a node would owe
  abbrev owes : ℕ → ℕ
  owes s = times (keyed_told owner (nodes s)) at reference

  owes_told : (from : ℕ) (node : Node) → nodes from ≡ Some node
      → owes from ≡ keyed_ways owner (pointing (own_pointers node)) at reference + times
      (named_by owner (own_items node)) at reference
  owes_told from node is =
      ap (λ (o : Option Node). times (keyed_told owner o) at reference) is ∙ times-keyed node owner at reference

  -- pointers, and the items under them
  branches_keyed : (level : ℕ)
      → ((from : ℕ) (items : List Item) → IsBranch tree super nodes level from items
      → keyed_ways owner (ways nodes level from) at reference + times (named_by owner items) at reference
      ≡ keyed_ways owner (one from) at reference + under nodes owes level from)
      → (pointers : List Pointer) (items : List Item) → AreBranches tree super nodes level pointers items
      → keyed_ways owner (ways_each nodes level pointers) at reference + times (named_by owner items) at reference
      ≡ keyed_ways owner (pointing pointers) at reference + sum_by (λ pointer. under nodes owes level pointer.child)
      pointers
  branches_keyed level branch [] items none =
      let no_ways = keyed-none owner (ways_each nodes level []) at reference refl in
      let no_pointers = keyed-none owner (pointing []) at reference refl in
      let no_items = ap (λ (xs : List Item). times (named_by owner xs) at reference) none in
      let no_names = times-nil at reference in
      omega (arith, no_ways, no_pointers, no_items, no_names)
  branches_keyed level branch (pointer ∷ pointers) items each =
      let here = branch pointer.child each.0 each.3.1 in
      let others = branches_keyed level branch pointers each.1 each.4 in
      let whole = ap (λ (xs : List Item). times (named_by owner xs) at reference) each.2 in
      let both = named_append owner each.0 each.1 at reference in
      let ways_both = keyed-same owner (ways_each nodes level (pointer ∷ pointers))
      (λ (q : ℕ). ways nodes level pointer.child q + ways_each nodes level pointers q) at reference
      (ways_each-cons nodes level pointer pointers at) in
      let ways_parts = keyed-plus owner (ways nodes level pointer.child) (ways_each nodes level pointers) at
      reference in
      let pointing_both = keyed-same owner (pointing (pointer ∷ pointers))
      (λ (q : ℕ). one pointer.child q + pointing pointers q) at reference
      (sum_by-cons (λ (p : Pointer). one p.child at) pointer pointers) in
      let pointing_parts = keyed-plus owner (one pointer.child) (pointing pointers) at reference in
      let sum = sum_by-cons (λ (p : Pointer). under nodes owes level p.child) pointer pointers in
      omega (arith, here, others, whole, both, ways_both, ways_parts, pointing_both, pointing_parts, sum)

  pub branch-keyed : (level from : ℕ) (items : List Item) → IsBranch tree super nodes level from items
      → keyed_ways owner (ways nodes level from) at reference + times (named_by owner items) at reference
      ≡ keyed_ways owner (one from) at reference + under nodes owes level from
  unfolding IsBranch
  branch-keyed zero from items branch =
      let own = owes_told from (Leaf branch.0 items) branch.1 in
      let none = keyed-none owner (pointing []) at reference refl in
      let way = keyed-same owner (ways nodes 0 from) (one from) at reference (ways-leaf nodes from at) in
      omega (arith, own, none, way)
  branch-keyed (suc level) from items branch =
      let own = owes_told from (Inner branch.0 branch.1) branch.2 in
      let none = times-nil at reference in
      let way = keyed-same owner (ways nodes (suc level) from)
      (λ (q : ℕ). one from q + ways_each nodes level branch.1 q) at reference
      (ways-inner nodes level from branch.0 branch.1 branch.2 at) in
      let parts = keyed-plus owner (one from) (ways_each nodes level branch.1) at reference in
      let below = branches_keyed level (branch-keyed level) branch.1 items branch.4 in
      let told = ap (λ (o : Option Node). sum_by (λ (p : Pointer). under nodes owes level p.child) (pointers_there o))
      branch.2 in
      omega (arith, own, none, way, parts, below, told)
