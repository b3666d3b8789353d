-- Inside a part of a tree: no level more is needed than it has, and no two of its nodes lead to one address.
use Rattle.std.proofs.Common.{◌≡◌, ℕ, zero, suc, ◌<◌, true, List, ◌++◌, map, Option, Some, arith, refl, sym, ap, subst}
use Rattle.std.proofs.Common.{◌∙◌, inl, inr}
use Rattle.std.specs.Prelude.{slice_get}
use Rattle.std.proofs.lemmas.Bool.{cases_eq}
use Rattle.std.proofs.lemmas.Option.{same_Some}
use Rattle.qg_node.specs.declared.item.Item.{Item}
use Rattle.qg_node.specs.declared.pointer.Pointer.{Pointer}
use Rattle.qg_node.specs.declared.node.Node.{Node}
use Rattle.qg_node.specs.declared.node.Node.TheVariants.{Leaf, Inner}
use Rattle.qg_node.specs.Nodes.{header_of, is_ascending, own_pointers}
use Rattle.qg_super.specs.declared.superblock.Super.{Super}
use Rattle.qg_image.specs.declared.tree.TreeKind.{TreeKind}
use Rattle.qg_tree_read.specs.Branch.{AreBranches, IsBranch}
use Rattle.qg_tree_read.specs.Tree.{Reaches}
use Rattle.qg_tree_read.proofs.BranchApart.{branches-apart}
use Rattle.qg_tree_read.proofs.BranchFrames.{reach-top}
use Rattle.qg_tree_read.proofs.BranchRanges.{ascending-first, ascending-others}
use Rattle.qg_tree_read.proofs.Branches.{IsRow, branch-below, branch-top}

module _ (tree : TreeKind) (super : Super) (nodes : ℕ → Option Node) where
  row_up : (under items : List Item) → IsRow under items
      → is_ascending (map (λ (item : Item). item.key) items) ≡ true
      → is_ascending (map (λ (item : Item). item.key) under) ≡ true
  row_up under items row up =
      ascending-first under row.back (under ++ row.back) refl
      (ascending-others row.front (under ++ row.back) items row.whole_is up)

  leaf_none : (from : ℕ) (items : List Item) → IsBranch tree super nodes zero from items → (node : Node)
      → nodes from ≡ Some node → (place : ℕ) (pointer : Pointer) → slice_get (own_pointers node) place ≡ Some pointer
      → ⊥
  unfolding IsBranch
  leaf_none from items branch node is place pointer there =
      let same : node ≡ Leaf branch.0 items = let e = sym is ∙ branch.1 in cc in
      let wrong : slice_get (own_pointers (Leaf branch.0 items)) place ≡ Some pointer =
      subst (λ (n : Node). slice_get (own_pointers n) place ≡ Some pointer) same there in cc

  -- what is reached with more levels is reached with its own
  pub branch-lower : (level depth from : ℕ) (items : List Item) → IsBranch tree super nodes level from items → (q : ℕ)
      → Reaches nodes depth from q → Reaches nodes level from q
  unfolding Reaches
  branch-lower zero zero from items branch q here = here
  branch-lower zero (suc depth) from items branch q (inl here) = here
  branch-lower zero (suc depth) from items branch q (inr (node, is, place, pointer, there, below)) =
      absurd (leaf_none from items branch node is place pointer there)
  branch-lower (suc level) zero from items branch q here = inl here
  branch-lower (suc level) (suc depth) from items branch q (inl here) = inl here
  branch-lower (suc level) (suc depth) from items branch q (inr (node, is, place, pointer, there, below)) =
      let child = branch-below tree super nodes level from items branch node is place pointer there in
      inr (node, is, place, pointer, there, branch-lower level depth pointer.child child.0 child.3 q below)

  -- what a node leads to is reached, and of a lower level
  pub child-lower : (level from : ℕ) (items : List Item) → IsBranch tree super nodes level from items → (q : ℕ)
      → Reaches nodes level from q → (node : Node) → nodes q ≡ Some node → (place : ℕ) (pointer : Pointer)
      → slice_get (own_pointers node) place ≡ Some pointer
      → (child : Node) × (nodes pointer.child ≡ Some child) × ((header_of child).level < level)
      × Reaches nodes level from pointer.child
  unfolding Reaches
  child-lower zero from items branch q here node is place pointer there =
      absurd (leaf_none from items branch node (ap nodes (sym here) ∙ is) place pointer there)
  child-lower (suc level) from items branch q (inl here) node is place pointer there =
      let top = ap nodes (sym here) ∙ is in
      let child = branch-below tree super nodes level from items branch node top place pointer there in
      let its = branch-top tree super nodes level pointer.child child.0 child.3 in
      let low = its.2 in
      (its.0, its.1, omega (arith, low), inr (node, top, place, pointer, there, reach-top nodes level pointer.child))
  child-lower (suc level) from items branch q (inr (n, its, k, step, has, below)) node is place pointer there =
      let child = branch-below tree super nodes level from items branch n its k step has in
      let found = child-lower level step.child child.0 child.3 q below node is place pointer there in
      let low = found.2 in
      (found.0, found.1, omega (arith, low), inr (n, its, k, step, has, found.3))

  -- what the top leads to, no node below it leads to
  top_other : (level from : ℕ) (items : List Item) → IsBranch tree super nodes (suc level) from items → (a : Node)
      → nodes from ≡ Some a → (i : ℕ) (r : Pointer) → slice_get (own_pointers a) i ≡ Some r → (n : Node)
      → nodes from ≡ Some n → (k : ℕ) (step : Pointer) → slice_get (own_pointers n) k ≡ Some step → (q : ℕ)
      → Reaches nodes level step.child q → (b : Node) → nodes q ≡ Some b → (j : ℕ) (s : Pointer)
      → slice_get (own_pointers b) j ≡ Some s → r.child ≡ s.child → ⊥
  top_other level from items branch a is i r here n its k step has q below b there j s leads same =
      let child = branch-below tree super nodes level from items branch a is i r here in
      let top = branch-top tree super nodes level r.child child.0 child.3 in
      let other = branch-below tree super nodes level from items branch n its k step has in
      let low = child-lower level step.child other.0 other.3 q below b there j s leads in
      let one : top.0 ≡ low.0 = let e = sym top.1 ∙ ap nodes same ∙ low.1 in cc in
      let levels = ap (λ (m : Node). (header_of m).level) one in
      let high = top.2 in
      let less = low.2 in
      omega (arith, levels, high, less)

  pointers_below : (level from : ℕ) (items : List Item) → IsBranch tree super nodes (suc level) from items
      → (n : Node) → nodes from ≡ Some n → AreBranches tree super nodes level (own_pointers n) items
  unfolding IsBranch
  pointers_below level from items branch n its =
      let same : n ≡ Inner branch.0 branch.1 = let e = sym its ∙ branch.2 in cc in
      subst (λ (m : Node). AreBranches tree super nodes level (own_pointers m) items) (sym same) branch.4

  -- no two nodes lead to one address
  pub branch-single : (level from : ℕ) (items : List Item) → IsBranch tree super nodes level from items
      → is_ascending (map (λ (item : Item). item.key) items) ≡ true
      → (p q : ℕ) → Reaches nodes level from p → Reaches nodes level from q → (a b : Node) → nodes p ≡ Some a
      → nodes q ≡ Some b → (i j : ℕ) (r s : Pointer) → slice_get (own_pointers a) i ≡ Some r
      → slice_get (own_pointers b) j ≡ Some s → r.child ≡ s.child → p ≡ q
  unfolding Reaches
  branch-single zero from items branch up p q here here' a b is is' i j r s leads leads' same = here ∙ sym here'
  branch-single (suc level) from items branch up p q (inl here) (inl here') a b is is' i j r s leads leads' same =
      here ∙ sym here'
  branch-single (suc level) from items branch up p q (inl here) (inr (n, its, k, step, has, below)) a b is is' i j r s
      leads leads' same =
      absurd (top_other level from items branch a (ap nodes (sym here) ∙ is) i r leads n its k step has q below b is' j
      s leads' same)
  branch-single (suc level) from items branch up p q (inr (n, its, k, step, has, below)) (inl here') a b is is' i j r s
      leads leads' same =
      absurd (top_other level from items branch b (ap nodes (sym here') ∙ is') j s leads' n its k step has p below a is
      i r leads (sym same))
  branch-single (suc level) from items branch up p q (inr (n, its, k, step, has, below))
      (inr (n', its', k', step', has', below')) a b is is' i j r s leads leads' same =
      let one : n' ≡ n = let e = sym its' ∙ its in cc in
      let also : slice_get (own_pointers n) k' ≡ Some step' =
      subst (λ (m : Node). slice_get (own_pointers m) k' ≡ Some step') one has' in
      let child = branch-below tree super nodes level from items branch n its k step has in
      elim (cases_eq k k') [
        | inl equal ↦
            let both = sym also ∙ ap (λ (m : ℕ). slice_get (own_pointers n) m) (sym equal) ∙ has in
            let alike : step' ≡ step = same_Some step' step both in
            branch-single level step.child child.0 child.3 (row_up child.0 items child.1 up) p q below
            (subst (λ (t : Pointer). Reaches nodes level t.child q) alike below') a b is is' i j r s leads leads' same
        | inr differ ↦
            let other = branch-below tree super nodes level from items branch n its k' step' also in
            let mine = child-lower level step.child child.0 child.3 p below a is i r leads in
            let theirs = child-lower level step'.child other.0 other.3 q below' b is' j s leads' in
            absurd (branches-apart tree super nodes level (own_pointers n) items
            (pointers_below level from items branch n its) up k k' step step' has also differ s.child
            (subst (λ (c : ℕ). Reaches nodes level step.child c) same mine.3) theirs.3)
      ]
