-- A tree again, once what stands in the place of its root is known.
use Rattle.std.proofs.Common.{◌≡◌, ℕ, suc, ◌*◌, ◌≤◌, true, List, [], ◌∷◌, ◌++◌, length, append-nil, arith, refl, sym}
use Rattle.std.proofs.Common.{ap, subst, ◌∙◌, inl, inr, Option, Some, None}
use Rattle.std.specs.Prelude.{nat_le}
use Rattle.std.proofs.lemmas.Bool.{le-leb, leb-true}
use Rattle.qg_node.specs.declared.item.Item.{Item}
use Rattle.qg_node.specs.declared.pointer.Pointer.{Pointer}
use Rattle.qg_node.specs.declared.node.Header.{Header}
use Rattle.qg_node.specs.declared.node.Node.{Node}
use Rattle.qg_node.specs.declared.node.Node.TheVariants.{Leaf, Inner}
use Rattle.qg_node.specs.Nodes.{ascends_from, header_of, is_ascending, used_bytes}
use Rattle.std.specs.Ordering.{is_lt}
use Rattle.qg_num.specs.Key.{key_cmp}
use Rattle.qg_node.specs.NodeText.{IsNode, IsNodeSize}
use Rattle.qg_super.specs.declared.superblock.Super.{Super}
use Rattle.qg_super.specs.Places.{capacity}
use Rattle.qg_image.specs.IsShaped.{is_shaped}
use Rattle.qg_shape.specs.Pointing.{pointer_to}
use Rattle.qg_image.specs.declared.tree.TreeKind.{TreeKind}
use Rattle.qg_tree_read.specs.Tree.{IsTree}
use Rattle.qg_tree_read.specs.Branch.{AreBranches, IsBranch, IsMember}
use Rattle.qg_tree_edits.specs.Editing.{HoldInstead, alone}
use Rattle.qg_tree_read.proofs.BranchOrder.{keys_of}
use Rattle.qg_tree_read.proofs.BranchRanges.{tree-branch}
use Rattle.qg_tree_edits.proofs.Leading.{two-lead}

module _ (tree : TreeKind) (super : Super) (nodes : ℕ → Option Node) (size : IsNodeSize super.nodesize) where
  -- a node that fills its bytes has the shape of a root, too
  shaped_full : (node : Node) → nat_le (capacity super.nodesize) (4 * used_bytes node) ≡ true
      → is_shaped super.nodesize None node ≡ true
  unfolding is_shaped
  shaped_full (Leaf header items) full = refl
  shaped_full (Inner header pointers) full =
      let bytes = leb-true (capacity super.nodesize) (4 * (33 * length pointers)) full in
      le-leb 2 (length pointers) (elim size [
        | inl small ↦ omega (arith, bytes, small)
        | inr large ↦ omega (arith, bytes, large)
      ])

  same_there : (at : ℕ) (node other : Node) → nodes at ≡ Some node → nodes at ≡ Some other → other ≡ node
  same_there at node other here there = let e = sym here ∙ there in cc

  -- one node alone, which has the shape of a root
  pub root-alone : (height now : ℕ) (items : List Item) → HoldInstead tree super nodes height (alone now) items
      → is_ascending (keys_of items) ≡ true
      → ((node : Node) → nodes now ≡ Some node → is_shaped super.nodesize None node ≡ true)
      → IsTree tree super nodes height now items
  root-alone height now items holds ascending shaped =
      let all : items ≡ holds.mine = holds.items_are ∙ ap (λ (xs : List Item). holds.mine ++ xs) holds.behind
      ∙ append-nil holds.mine in
      tree-branch tree super nodes height now items (subst (λ (xs : List Item). IsBranch tree super nodes height now xs)
      (sym all) holds.here) ascending shaped

  -- a node with one pointer: what it leads to is the root
  pub root-below : (height now : ℕ) (items : List Item) (header : Header) (pointer : Pointer)
      → HoldInstead tree super nodes (suc height) (alone now) items → is_ascending (keys_of items) ≡ true
      → nodes now ≡ Some (Inner header (pointer ∷ [])) → IsTree tree super nodes height pointer.child items
  unfolding IsBranch
  root-below height now items header pointer holds ascending here =
      let all : items ≡ holds.mine = holds.items_are ∙ ap (λ (xs : List Item). holds.mine ++ xs) holds.behind
      ∙ append-nil holds.mine in
      let branch = holds.here in
      let one : branch.1 ≡ pointer ∷ [] = let e = sym branch.2 ∙ here in cc in
      let each = subst (λ (ps : List Pointer). AreBranches tree super nodes height ps holds.mine) one branch.4 in
      let under : items ≡ each.0 = all ∙ each.2 ∙ ap (λ (xs : List Item). each.0 ++ xs) each.4 ∙ append-nil each.0 in
      let pointed = each.3.0 in
      tree-branch tree super nodes height pointer.child items
      (subst (λ (xs : List Item). IsBranch tree super nodes height pointer.child xs) (sym under) each.3.1) ascending
      (λ node there. subst (λ (n : Node). is_shaped super.nodesize None n ≡ true)
      (sym (same_there pointer.child pointed.node node pointed.there there))
      (shaped_full pointed.node pointed.full))

  -- two nodes, and a node above both
  pub root-above : (height top now more : ℕ) (items : List Item) (header : Header) (a b : Node)
      → HoldInstead tree super nodes height (record { now = now; more = Some more }) items
      → is_ascending (keys_of items) ≡ true → nodes now ≡ Some a → (header_of a).address ≡ now → nodes more ≡ Some b
      → (header_of b).address ≡ more
      → nodes top ≡ Some (Inner header (pointer_to a ∷ pointer_to b ∷ [])) → IsMember tree super (suc height) header
      → IsTree tree super nodes (suc height) top items
  unfolding IsBranch is_shaped
  root-above height top now more items header a b holds ascending first named second named' here member =
      let each = two-lead tree super nodes height now more a b holds.mine holds.rest items first named second named'
      size holds.behind.1 holds.behind.2 holds.items_are holds.here holds.behind.0 in
      tree-branch tree super nodes (suc height) top items (header, pointer_to a ∷ pointer_to b ∷ [], here, member, each)
      ascending
      (λ node there. subst (λ (n : Node). is_shaped super.nodesize None n ≡ true)
      (sym (same_there top (Inner header (pointer_to a ∷ pointer_to b ∷ [])) node here there)) refl)

-- a node above two, whose keys ascend, has a text
pub above-sound : (size : ℕ) (header : Header) (first second : Pointer) → IsNodeSize size → 1 ≤ header.level
    → header.level ≤ 7 → is_lt (key_cmp first.key second.key) ≡ true
    → IsNode size (Inner header (first ∷ second ∷ []))
unfolding is_ascending ascends_from
above-sound size header first second sized low high less = record {
  levelled = (low, high, omega arith);
  ascending = rw less refl;
  fits = elim sized [ inl small ↦ omega (arith, small) | inr large ↦ omega (arith, large) ];
}
