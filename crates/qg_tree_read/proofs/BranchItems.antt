-- The items of a tree are those of the leaves that it reaches.
use Rattle.std.proofs.Common.{◌≡◌, ℕ, zero, suc, List, [], ◌∷◌, ◌++◌, Option, Some, refl, sym, ap, subst, ◌∙◌, inl, inr}
use Rattle.std.specs.Prelude.{slice_get}
use Rattle.std.specs.List.{Contains}
use Rattle.std.proofs.lemmas.List.Elements.{Contains-append_cases, Contains-append_left, Contains-append_right}
use Rattle.qg_node.specs.declared.item.Item.{Item}
use Rattle.qg_node.specs.declared.pointer.Pointer.{Pointer}
use Rattle.qg_node.specs.declared.node.Node.{Node}
use Rattle.qg_node.specs.declared.node.Node.TheVariants.{Leaf, Inner}
use Rattle.qg_node.specs.Nodes.{own_items}
use Rattle.qg_super.specs.declared.superblock.Super.{Super}
use Rattle.qg_blocks.proofs.Contained.{none_contained}
use Rattle.qg_blocks.specs.Types.{TreeKind}
use Rattle.qg_tree_read.specs.Branch.{IsBranch, UnderEach}
use Rattle.qg_tree_read.specs.Tree.{Reaches}
use Rattle.qg_tree_read.proofs.Branches.{branch-below}

-- one of some pointers has an item under it
pub record IsUnderOne (Under : Pointer → List Item → Type 0) (pointers : List Pointer) (item : Item) : Type 0 where
  pub place : ℕ
  pub pointer : Pointer
  pub there : slice_get pointers place ≡ Some pointer
  pub own : List Item
  pub under : Under pointer own
  pub has : Contains own item

under_one : (Under : Pointer → List Item → Type 0) (pointers : List Pointer) (items : List Item) (item : Item)
    → UnderEach Under pointers items → Contains items item → IsUnderOne Under pointers item
under_one Under [] items item each has =
    absurd (none_contained item (subst (λ (xs : List Item). Contains xs item) each has))
under_one Under (pointer ∷ pointers) items item each has =
    elim (Contains-append_cases each.0 each.1 item (subst (λ (xs : List Item). Contains xs item) each.2 has)) [
      | inl first ↦
          record { place = 0; pointer = pointer; there = refl; own = each.0; under = each.3; has = first }
      | inr later ↦
          let found = under_one Under pointers each.1 item each.4 later in
          record {
            place = suc found.place;
            pointer = found.pointer;
            there = found.there;
            own = found.own;
            under = found.under;
            has = found.has;
          }
    ]

-- a node that is reached has an item
pub record IsInLeaf (nodes : ℕ → Option Node) (Reached : ℕ → Type 0) (item : Item) : Type 0 where
  pub at : ℕ
  pub reached : Reached at
  pub node : Node
  pub there : nodes at ≡ Some node
  pub has : Contains (own_items node) item

module _ (tree : TreeKind) (super : Super) (nodes : ℕ → Option Node) (item : Item) where
  pub in-leaf : (level from : ℕ) (items : List Item) → IsBranch tree super nodes level from items
      → Contains items item → IsInLeaf nodes (Reaches nodes level from) item
  unfolding IsBranch Reaches
  in-leaf zero from items branch has =
      record { at = from; reached = refl; node = Leaf branch.0 items; there = branch.1; has = has }
  in-leaf (suc level) from items branch has =
      let one = under_one _ branch.1 items item branch.4 has in
      let found = in-leaf level one.pointer.child one.own one.under.1 one.has in
      record {
        at = found.at;
        reached = inr (Inner branch.0 branch.1, branch.2, one.place, one.pointer, one.there, found.reached);
        node = found.node;
        there = found.there;
        has = found.has;
      }

  pub from-leaf : (level from : ℕ) (items : List Item) → IsBranch tree super nodes level from items
      → (at : ℕ) → Reaches nodes level from at → (node : Node) → nodes at ≡ Some node
      → Contains (own_items node) item → Contains items item
  unfolding IsBranch Reaches
  from-leaf zero from items branch at reached node there has =
      let same : node ≡ Leaf branch.0 items =
      let e : Some node ≡ Some (Leaf branch.0 items) = sym there ∙ ap nodes reached ∙ branch.1 in cc in
      subst (λ (n : Node). Contains (own_items n) item) same has
  from-leaf (suc level) from items branch at (inl here) node there has =
      let same : node ≡ Inner branch.0 branch.1 =
      let e : Some node ≡ Some (Inner branch.0 branch.1) = sym there ∙ ap nodes here ∙ branch.2 in cc in
      absurd (none_contained item (subst (λ (n : Node). Contains (own_items n) item) same has))
  from-leaf (suc level) from items branch at (inr (top, here, place, pointer, lies, below)) node there has =
      let found = branch-below tree super nodes level from items branch top here place pointer lies in
      let own = from-leaf level pointer.child found.0 found.3 at below node there has in
      subst (λ (xs : List Item). Contains xs item) (sym found.1.whole_is)
      (Contains-append_right found.1.front (found.0 ++ found.1.back) item
      (Contains-append_left found.0 found.1.back item own))
