-- Numbers of a tree's nodes, summed by ways to them, and that one way at most leads to each.
use Rattle.std.proofs.Common.{◌≡◌, ◌≢◌, ℕ, zero, suc, ◌+◌, ◌≤◌, true, List, [], ◌∷◌, Option, Some, None}
use Rattle.std.proofs.Common.{arith, refl, sym, ap, ◌∙◌, inl, inr}
use Rattle.std.specs.Prelude.{◌⊎◌, slice_get}
use Rattle.std.specs.List.{sum_by}
use Rattle.std.proofs.lemmas.Bool.Decides.{eqb_tells}
use Rattle.qg_node.specs.declared.item.Item.{Item}
use Rattle.qg_node.specs.declared.pointer.Pointer.{Pointer}
use Rattle.qg_node.specs.declared.node.Header.{Header}
use Rattle.qg_node.specs.declared.node.Node.{Node}
use Rattle.qg_node.specs.declared.node.Node.TheVariants.{Inner}
use Rattle.qg_node.specs.Nodes.{header_of, is_ascending, own_pointers}
use Rattle.qg_super.specs.declared.superblock.Super.{Super}
use Rattle.qg_image.specs.declared.tree.TreeKind.{TreeKind}
use Rattle.qg_tree_read.specs.Branch.{AreBranches, IsBranch, IsPointed}
use Rattle.qg_tree_read.specs.Tree.{Reaches}
use Rattle.qg_tree_read.proofs.BranchApart.{branches-apart}
use Rattle.qg_tree_read.proofs.BranchOrder.{keys_of}
use Rattle.qg_tree_read.proofs.BranchRanges.{ascending-first, ascending-others}
use Rattle.qg_tree_read.proofs.Branches.{branch-level, each-get}
use Rattle.qg_tree_edits.specs.Counting.{one, pointers_there, ways, ways_each}
use Rattle.qg_tree_edits.proofs.Ways.{one-here, one-other, sum-same, ways-inner, ways-leaf, ways-none, ways_each-cons}
use Rattle.qg_tree_edits.proofs.Ways.{ways_each-none}
use Rattle.qg_tree_edits.proofs.SlotSums.{IsOnce, one-most, over, over-each, over-one, over-weights}

-- ---- sums over a tree

-- a number for each node that is met from the node of a level down
abbrev pub under : (ℕ → Option Node) → (ℕ → ℕ) → ℕ → ℕ → ℕ
under nodes f zero at = f at
under nodes f (suc level) at = f at + sum_by (λ pointer. under nodes f level pointer.child) (pointers_there (nodes at))

module _ (nodes : ℕ → Option Node) (slots : List ℕ) (f : ℕ → ℕ) where
  below_each : (level : ℕ) (o : Option Node)
      → ((node : Node) → o ≡ Some node → (place : ℕ) (pointer : Pointer) → slice_get (own_pointers node) place
      ≡ Some pointer
      → over slots (ways nodes level pointer.child) f ≡ under nodes f level pointer.child)
      → sum_by (λ pointer. over slots (ways nodes level pointer.child) f) (pointers_there o)
      ≡ sum_by (λ pointer. under nodes f level pointer.child) (pointers_there o)
  below_each level None each = refl
  below_each level (Some node) each =
      sum-same (λ (p : Pointer). under nodes f level p.child)
      (λ (p : Pointer). over slots (ways nodes level p.child) f) (own_pointers node)
      (each node refl)

  -- by ways to each slot it is the same
  pub over-ways : (level at : ℕ) → ((q : ℕ) → Reaches nodes level at q → IsOnce slots q)
      → over slots (ways nodes level at) f ≡ under nodes f level at
  unfolding ways Reaches
  over-ways zero at once = over-one slots at (once at refl) f
  over-ways (suc level) at once =
      over-weights slots (one at) (ways_each nodes level (pointers_there (nodes at))) f
      ∙ ap (λ (n : ℕ). n + over slots (ways_each nodes level (pointers_there (nodes at))) f)
      (over-one slots at (once at (inl refl)) f)
      ∙ ap (λ (n : ℕ). f at + n)
      (over-each slots (λ (p : Pointer) (s : ℕ). ways nodes level p.child s) (pointers_there (nodes at)) f
      ∙ below_each level (nodes at) (λ node is place pointer there. over-ways level pointer.child
      (λ q reaches. once q (inr (node, is, place, pointer, there, reaches)))))

-- ---- one way at most

module _ (tree : TreeKind) (super : Super) (nodes : ℕ → Option Node) where
  -- of pointers at most one leads there
  each_single : (level : ℕ)
      → ((from : ℕ) (items : List Item) → IsBranch tree super nodes level from items → is_ascending (keys_of items)
      ≡ true
      → (q : ℕ) → ways nodes level from q ≤ 1)
      → (pointers : List Pointer) (items : List Item) → AreBranches tree super nodes level pointers items
      → is_ascending (keys_of items) ≡ true → (q : ℕ) → ways_each nodes level pointers q ≤ 1
  each_single level single [] items each ascending q = omega arith
  each_single level single (pointer ∷ pointers) items each ascending q =
      let one = single pointer.child each.0 each.3.1 (ascending-first each.0 each.1 items each.2 ascending) q in
      let others = each_single level single pointers each.1 each.4
      (ascending-others each.0 each.1 items each.2 ascending) q in
      let both = ways_each-cons nodes level pointer pointers q in
      let apart = either (ways nodes level pointer.child q) refl in
      elim apart [
        | inl none ↦ omega (arith, none, others, both)
        | inr rest ↦ omega (arith, rest, one, both)
      ] where
        -- a way from the first leaves none from the others
        either : (n : ℕ) → ways nodes level pointer.child q ≡ n → (ways nodes level pointer.child q ≡ 0)
            ⊎ (ways_each nodes level pointers q ≡ 0)
        either zero none = inl none
        either (suc n) some = inr (ways_each-none nodes level pointers q (λ place other there reaches.
            let none = ways-none nodes level pointer.child q (λ here.
            branches-apart tree super nodes level (pointer ∷ pointers) items each ascending 0 (suc place) pointer other
            refl there (λ same. absurd (omega (arith, same))) q here reaches) in
            absurd (omega (arith, none, some))))

  pub ways-single : (level from : ℕ) (items : List Item) → IsBranch tree super nodes level from items
      → is_ascending (keys_of items) ≡ true
      → (q : ℕ) → ways nodes level from q ≤ 1
  unfolding IsBranch
  ways-single zero from items branch ascending q =
      let way = ways-leaf nodes from q in
      let most = one-most from q in
      omega (arith, way, most)
  ways-single (suc level) from items branch ascending q =
      let way = ways-inner nodes level from branch.0 branch.1 branch.2 q in
      let below = each_single level (ways-single level) branch.1 items branch.4 ascending q in
      elim (eqb_tells q from) [
        | inl (equal, same) ↦
            let here = one-here from q same in
            let none = ways_each-none nodes level branch.1 q (λ place pointer there reaches.
            not_below level branch.0 branch.1 items from branch.2 branch.3.levelled branch.4 place pointer there q
            reaches same) in
            omega (arith, way, here, none)
        | inr (unequal, differ) ↦ let none = one-other from q differ in omega (arith, way, none, below)
      ] where
        -- a node is not reached below itself
        not_below : (level : ℕ) (header : Header) (pointers : List Pointer) (items : List Item) (from : ℕ)
            → nodes from ≡ Some (Inner header pointers) → header.level ≡ suc level → AreBranches tree super nodes level
            pointers items
            → (place : ℕ) (pointer : Pointer) → slice_get pointers place ≡ Some pointer → (q : ℕ)
            → Reaches nodes level pointer.child q → q ≢ from
        not_below level header pointers items from here high each place pointer there q reaches same =
            let found = each-get (λ (p : Pointer) (xs : List Item). IsPointed super nodes p
            × IsBranch tree super nodes level p.child xs)
            pointers items each place pointer there in
            let low = branch-level tree super nodes level pointer.child found.0 found.2.1 q reaches in
            let is : Some low.0 ≡ Some (Inner header pointers) = sym low.1 ∙ ap nodes same ∙ here in
            let one_node : low.0 ≡ Inner header pointers = cc in
            let level_is : (header_of low.0).level ≡ suc level = ap (λ (n : Node). (header_of n).level) one_node
            ∙ high in
            let upto = low.2 in
            omega (arith, level_is, upto)
