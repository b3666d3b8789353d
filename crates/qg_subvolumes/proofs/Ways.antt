-- The ways to a node's children lead to branches, and how many nodes these have.
use Rattle.std.proofs.Common.{◌≡◌, ℕ, ◌+◌, true, List, [], ◌∷◌, map, Option, Some, arith, refl}
use Rattle.std.specs.List.{All, sum_by}
use Rattle.std.proofs.lemmas.List.Elements.{All-cons, All-nil}
use Rattle.std.proofs.lemmas.List.Sums.{sum_by-cons}
use Rattle.qg_num.specs.declared.key.Key.{Key}
use Rattle.qg_node.specs.declared.item.Item.{Item}
use Rattle.qg_node.specs.declared.pointer.Pointer.{Pointer}
use Rattle.qg_node.specs.Nodes.{is_ascending}
use Rattle.qg_image.specs.State.{State, node_at}
use Rattle.qg_image.specs.declared.tree.TreeKind.TheVariants.{Files}
use Rattle.qg_machine.specs.Layout.{super_to_come}
use Rattle.qg_walk.specs.Standing.{expected_below}
use Rattle.qg_tree_read.specs.declared.way.Way.{Way}
use Rattle.qg_tree_read.proofs.BranchRanges.{ascending-first, ascending-others}
use Rattle.qg_tree_read.proofs.Under.{AreUnder, both-under}
use Rattle.qg_subvolumes.specs.Counting.{LeadsToBranch, node_count_below, ways_reached, ways_told}

-- what is expected on ways to children is of their level
pub ways-levelled : (to : Option Key) (level : ℕ) (pointers : List Pointer)
    → All (λ (way : Way). way.expected.level ≡ Some level) (ways_told to level pointers)
ways-levelled to level [] = All-nil (λ (way : Way). way.expected.level ≡ Some level)
ways-levelled to level (pointer ∷ pointers) =
    All-cons (λ (way : Way). way.expected.level ≡ Some level) _ (ways_told to level pointers) refl
    (ways-levelled to level pointers)

module _ (state : State) where
  -- each leads to a branch
  pub ways-lead : (level : ℕ) (to : Option Key) (pointers : List Pointer) (items : List Item)
      → AreUnder Files (super_to_come state) (node_at state.layout) level to pointers items
      → is_ascending (map (λ item. item.key) items) ≡ true
      → All (LeadsToBranch state level) (ways_told to level pointers)
  ways-lead level to [] items under ascending = All-nil (LeadsToBranch state level)
  ways-lead level to (pointer ∷ pointers) items under ascending =
      let both = both-under Files (super_to_come state) (node_at state.layout) level to pointer pointers items under in
      All-cons (LeadsToBranch state level) _ (ways_told to level pointers)
      (record {
        items = both.first;
        walked = both.here.walked;
        items_are = both.here.items_are;
        ascending = ascending-first both.first both.others items both.items_are ascending;
      })
      (ways-lead level to pointers both.others both.behind
      (ascending-others both.first both.others items both.items_are ascending))

  pub ways-first : (level : ℕ) (way : Way) (ways : List Way)
      → ways_reached state level (way ∷ ways) ≡ node_count_below state level way.address + ways_reached state level ways
  ways-first level way ways = sum_by-cons (λ (way : Way). node_count_below state level way.address) way ways

  pub ways-sum : (level : ℕ) (to : Option Key) (pointers : List Pointer)
      → ways_reached state level (ways_told to level pointers)
      ≡ sum_by (λ (pointer : Pointer). node_count_below state level pointer.child) pointers
  ways-sum level to [] = refl
  ways-sum level to (pointer ∷ pointers) =
      let way : Way = record { address = pointer.child; expected = expected_below level to pointer pointers } in
      let all = ways-first level way (ways_told to level pointers) in
      let rest = ways-sum level to pointers in
      let sum = sum_by-cons (λ (pointer : Pointer). node_count_below state level pointer.child) pointer pointers in
      omega (arith, all, rest, sum)
