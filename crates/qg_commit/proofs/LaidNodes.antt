-- The nodes of the root, extent and quota trees of a commit: they lie apart in the slots that were given, have a text,
-- and are read from it.
use Rattle.std.proofs.Common.{◌≡◌, ℕ, ◌<◌, ◌^◌, List, ◌++◌, map, length, drop, sym, ap, subst, arith, inl, inr}
use Rattle.std.specs.Prelude.{◌==◌, Contains, Option}
use Rattle.std.specs.List.{IsDistinct}
use Rattle.std.specs.List.Sorted.{IsPermutation}
use Rattle.std.proofs.lemmas.List.{append_assoc}
use Rattle.std.proofs.lemmas.List.Elements.{Contains-append_cases, Contains-append_left}
use Rattle.std.proofs.lemmas.List.Sorted.{Contains-permutation, IsPermutation-append_comm, IsPermutation-map}
use Rattle.std.proofs.lemmas.List.Sorted.{IsPermutation-sym}
use Rattle.std.proofs.lemmas.Map.Keys.{IsDistinct-IsPermutation}
use Rattle.qg_node.specs.declared.node.Node.{Node}
use Rattle.qg_node.specs.NodeText.{IsNode, IsNodeSize}
use Rattle.qg_node.specs.Fits.{NodeFits}
use Rattle.qg_node.proofs.Again.{text_again}
use Rattle.qg_items.specs.declared.root.RootItem.{RootItem}
use Rattle.qg_items.specs.declared.tree.TheConstants.{EXTENT_TREE, QUOTA_TREE, ROOT_TREE}
use Rattle.qg_super.specs.declared.sizes.Sizes.{Sizes}
use Rattle.qg_super.specs.SuperText.{sizes_of}
use Rattle.qg_image.specs.declared.quota.Quota.{Quota}
use Rattle.qg_refs.specs.declared.kept.Kept.{Kept}
use Rattle.qg_tree_layout.specs.Build.{IsMadeFor}
use Rattle.qg_tree_layout.specs.Row.{address_of}
use Rattle.qg_tree_layout.proofs.Frame.{IsDistinct-front}
use Rattle.qg_commit.specs.Calls.{IsReadBack}
use Rattle.qg_commit.specs.Types.{OtherTrees}
use Rattle.qg_commit.specs.Trees.{AreTrees, nodes_laid, quota_nodes_laid}
use Rattle.qg_commit.proofs.QuotaTree.{quota_made, quota_placed}
use Rattle.qg_reach.proofs.Members.{contains_map, each_contained}
use Rattle.qg_commit.proofs.Slots.{LieFirst, LieFirst-more, LieFirst-placed, flips}

-- a node has a text, and its numbers fit their fields
pub record IsTextual (nodesize : ℕ) (node : Node) : Type 0 where
  pub formed : IsNode nodesize node
  pub fits : NodeFits node

-- so it is read from its text
pub textual-IsReadBack : (nodesize : ℕ) (node : Node) → IsNodeSize nodesize → IsTextual nodesize node
    → IsReadBack nodesize node
textual-IsReadBack nodesize node size is = text_again nodesize node (small size) is.fits is.formed where
  small : IsNodeSize nodesize → nodesize < 2 ^ 32
  small (inl is) = omega arith
  small (inr is) = omega arith

textual_made : (nodesize owner generation : ℕ) (node : Node) → IsMadeFor nodesize owner generation node
    → IsTextual nodesize node
textual_made nodesize owner generation node made = record { formed = made.node_of_format; fits = made.fits }

module _ (sizes : Sizes) (generation : ℕ) (roots : List (ℕ × RootItem)) (book : List (ℕ × Kept)) (quota : Option Quota)
    (slots : List ℕ) (trees : OtherTrees) (are : AreTrees sizes generation roots book quota slots trees) where
  -- the superblock tells these sizes
  pub laid-sizes : sizes_of trees.superblock ≡ sizes
  laid-sizes = ap sizes_of are.leads

  abbrev behind_extents : List ℕ
  behind_extents = drop (length trees.extents.nodes) slots

  abbrev laid_quotas : List Node
  laid_quotas = quota_nodes_laid trees.quotas

  abbrev behind_quotas : List ℕ
  behind_quotas = drop (length laid_quotas) behind_extents

  -- the nodes in the order in which they lie
  abbrev in_order : List Node
  in_order = trees.extents.nodes ++ laid_quotas ++ trees.roots.nodes

  turned : IsPermutation in_order (nodes_laid trees)
  turned =
      subst (λ (nodes : List Node). IsPermutation in_order nodes)
      (sym (append_assoc trees.roots.nodes trees.extents.nodes laid_quotas))
      (IsPermutation-append_comm (trees.extents.nodes ++ laid_quotas) trees.roots.nodes)

  -- they lie one behind the other
  one_behind : LieFirst in_order slots (drop (length trees.roots.nodes) behind_quotas)
  one_behind =
      let placed = quota_placed sizes.nodesize generation quota behind_extents trees.quotas are.quota_tree in
      let two = LieFirst-more trees.extents.nodes laid_quotas slots behind_extents behind_quotas
      (LieFirst-placed trees.extents.nodes slots are.extent_tree.stands.placed)
      (LieFirst-placed laid_quotas behind_extents placed) in
      LieFirst-more (trees.extents.nodes ++ laid_quotas) trees.roots.nodes slots behind_quotas
      (drop (length trees.roots.nodes) behind_quotas) two
      (LieFirst-placed trees.roots.nodes behind_quotas are.root_tree.stands.placed)

  -- each in a slot of its own
  pub laid-apart : IsDistinct (λ a b. a == b) slots → IsDistinct (λ a b. a == b) (map address_of (nodes_laid trees))
  laid-apart differ =
      let whole = subst (IsDistinct (λ a b. a == b)) (sym one_behind) differ in
      let front = IsDistinct-front (λ a b. a == b) (map address_of in_order)
      (drop (length trees.roots.nodes) behind_quotas) whole in
      IsDistinct-IsPermutation (λ a b. a == b) flips (map address_of in_order) (map address_of (nodes_laid trees))
      (IsPermutation-map address_of in_order (nodes_laid trees) turned) front

  pub laid-within : (node : Node) → Contains (nodes_laid trees) node → Contains slots (address_of node)
  laid-within node has =
      let there = Contains-permutation (nodes_laid trees) in_order node
      (IsPermutation-sym in_order (nodes_laid trees) turned) has in
      let front = Contains-append_left (map address_of in_order) (drop (length trees.roots.nodes) behind_quotas)
      (address_of node) (contains_map address_of in_order node there) in
      subst (λ (list : List ℕ). Contains list (address_of node)) one_behind front

  pub laid-textual : (node : Node) → Contains (nodes_laid trees) node → IsTextual sizes.nodesize node
  laid-textual node has =
      elim (Contains-append_cases (trees.roots.nodes ++ trees.extents.nodes) laid_quotas node has) [
        | inl front ↦ elim (Contains-append_cases trees.roots.nodes trees.extents.nodes node front) [
          | inl here ↦
              textual_made sizes.nodesize ROOT_TREE generation node
              (each_contained (IsMadeFor sizes.nodesize ROOT_TREE generation) trees.roots.nodes node
              are.root_tree.stands.made here)
          | inr here ↦
              textual_made sizes.nodesize EXTENT_TREE generation node
              (each_contained (IsMadeFor sizes.nodesize EXTENT_TREE generation) trees.extents.nodes node
              are.extent_tree.stands.made here)
        ]
        | inr here ↦
            textual_made sizes.nodesize QUOTA_TREE generation node
            (each_contained (IsMadeFor sizes.nodesize QUOTA_TREE generation) laid_quotas node
            (quota_made sizes.nodesize generation quota behind_extents trees.quotas are.quota_tree) here)
      ]
