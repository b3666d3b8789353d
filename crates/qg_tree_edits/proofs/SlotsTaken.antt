-- Of free slots a tree takes no more than it has nodes.
use Rattle.std.proofs.Common.{◌≡◌, ℕ, zero, suc, ◌+◌, ◌*◌, ◌<◌, ◌≤◌, Bool, true, false, cond, List, arith, refl, sym, ap}
use Rattle.std.proofs.Common.{subst, ◌∙◌, inl, inr, Option, Some, None}
use Rattle.std.specs.Prelude.{Contains}
use Rattle.std.specs.List.{sum_by}
use Rattle.std.proofs.lemmas.List.Elements.{Contains-append_cases, Contains-append_left, Contains-append_right}
use Rattle.qg_node.specs.declared.pointer.Pointer.{Pointer}
use Rattle.qg_node.specs.declared.node.Node.{Node}
use Rattle.qg_super.specs.declared.sizes.Sizes.{Sizes}
use Rattle.qg_super.specs.Places.{is_slot}
use Rattle.qg_super.proofs.Served.{SizesFit-is_served}
use Rattle.qg_image.specs.Walk.{root_expected}
use Rattle.qg_blocks.specs.NodesFound.{told}
use Rattle.qg_space.specs.Holding.{Holding, free_slots, is_free_slot}
use Rattle.qg_space.proofs.Firsts.{is_free_slot-clear}
use Rattle.qg_node_alloc.proofs.Slots.{free-parts}
use Rattle.qg_tree_read.specs.Tree.{Reaches, super_of}
use Rattle.qg_tree_read.proofs.BranchWalk.{branch-under}
use Rattle.qg_tree_read.proofs.Branches.{branch-level}
use Rattle.qg_tree_edits.specs.Counting.{pointers_there}
use Rattle.qg_tree_edits.proofs.Heights.{told-slot}
use Rattle.qg_tree_edits.specs.SlotLaws.{TakesItsNodes}
use Rattle.qg_tree_edits.specs.OwnSlots.{AreApart, every_slot, nodes_from, ways_in_tree}
use Rattle.qg_tree_edits.proofs.Places.{slot-once}
use Rattle.qg_tree_edits.proofs.SlotSums.{IsOnce, over, sums-less, sums-plus, sums-same}
use Rattle.qg_tree_edits.proofs.WaysSummed.{over-ways, under}

-- ---- the nodes of a tree

ones : ℕ → ℕ
ones s = 1

nodes_under : (nodes : ℕ → Option Node) (level at : ℕ) → nodes_from nodes level at ≡ under nodes ones level at
unfolding nodes_from ones
nodes_under nodes zero at = refl
nodes_under nodes (suc level) at =
    ap (λ (n : ℕ). 1 + n)
    (sums-same (λ (p : Pointer). nodes_from nodes level p.child) (λ (p : Pointer). under nodes ones level p.child)
    (pointers_there (nodes at)) (λ p. nodes_under nodes level p.child))

-- ---- one slot

-- where no way leads to what was free, it is free
few_free : (was now : Bool) (led : ℕ) → (was ≡ true → led ≡ 0 → now ≡ true)
    → cond was 1 0 ≤ cond now 1 0 + led * ones 0
unfolding ones
few_free false now led then = omega arith
few_free true now zero then =
    subst (λ (b : Bool). 1 ≤ cond b 1 0 + 0 * 1) (sym (then refl refl)) (omega arith)
few_free true now (suc led) then = omega arith

free_still : (before now : Holding) (reached led : ℕ → ℕ) (others : List ℕ) → now.sizes ≡ before.sizes
    → now.held_slots ≡ before.held_slots → AreApart before.slots reached others → AreApart now.slots led others
    → (q : ℕ) → is_free_slot before q ≡ true → led q ≡ 0 → is_free_slot now q ≡ true
free_still before now reached led others sizes held apart apart_now q free none =
    let parts = free-parts before q free in
    is_free_slot-clear now q (subst (λ (s : Sizes). is_slot s q ≡ true) (sym sizes) parts.0)
    (λ has. parts.1 (elim (Contains-append_cases now.slots now.held_slots q has) [
      | inl here ↦ elim (apart_now.only q here) [
        | inl some ↦ absurd (omega (arith, some, none))
        | inr beside ↦ Contains-append_left before.slots before.held_slots q (apart.others_there q beside).0
      ]
      | inr there ↦ Contains-append_right before.slots before.held_slots q
          (subst (λ (ns : List ℕ). Contains ns q) held there)
    ]))

-- ---- all slots

free_sum : (holding : Holding) (sizes : Sizes) → holding.sizes ≡ sizes
    → free_slots holding ≡ sum_by (λ s. cond (is_free_slot holding s) 1 0) (every_slot sizes)
unfolding free_slots
free_sum holding sizes same =
    ap (λ (z : Sizes). sum_by (λ s. cond (is_free_slot holding s) 1 0) (every_slot z)) same

pub takes-its-nodes : TakesItsNodes
unfolding ones
takes-its-nodes tree root land history items before reached others drafted rooted sizes held apart apart_now =
    let super = super_of root land.blocks.draft in
    let nodes = told land.blocks.draft history in
    let slots = every_slot before.sizes in
    let led = ways_in_tree root land.blocks.draft history in
    let was = λ (s : ℕ). cond (is_free_slot before s) 1 0 in
    let now = λ (s : ℕ). cond (is_free_slot land.space s) 1 0 in
    let way = λ (s : ℕ). led s * ones s in
    let less = sums-less was (λ (s : ℕ). now s + way s) slots
    (λ q. few_free (is_free_slot before q) (is_free_slot land.space q) (led q)
    (free_still before land.space reached led others sizes held apart apart_now q)) in
    let both = sums-plus now way slots in
    let branch = branch-under tree super nodes root.height (root_expected (Some root.height) None) root.address items
    (record { levelled = refl; walked = rooted.tells.walked; items_are = rooted.tells.items_are }) in
    let some : 0 < land.space.sizes.nodesize = let least = (SizesFit-is_served land.space.sizes drafted.sizes.served).least
    in omega (arith, least) in
    let once : (q : ℕ) → Reaches nodes root.height root.address q → IsOnce slots q =
    λ q reaches. let found = branch-level tree super nodes root.height root.address items branch q reaches in
    subst (λ (z : Sizes). IsOnce (every_slot z) q) sizes
    (slot-once land.space.sizes q some (told-slot land history root.next drafted q found.0 found.1)) in
    let ways_sum = over-ways nodes slots ones root.height root.address once in
    let number = nodes_under nodes root.height root.address in
    let free_was = free_sum before before.sizes refl in
    let free_now = free_sum land.space before.sizes sizes in
    omega (arith, less, both, ways_sum, number, free_was, free_now)
