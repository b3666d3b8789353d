-- Nodes in slots of their own: a commit may write them.
use Rattle.std.proofs.Common.{◌≡◌, ℕ, zero, suc, Bool, true, false, List, [], ◌∷◌, map, length, get_or, take, sym}
use Rattle.std.proofs.Common.{subst, arith}
use Rattle.std.specs.Prelude.{◌==◌, IsTrue, All}
use Rattle.std.specs.List.{IsDistinct}
use Rattle.std.proofs.lemmas.List.Elements.{All-nil, All-cons, All-head, All-tail, All-take, All-from_recursion}
use Rattle.std.proofs.lemmas.List.Elements.{recursion_from_All}
use Rattle.qg_node.specs.declared.node.Node.{Node}
use Rattle.qg_node.specs.Nodes.{header_of}
use Rattle.qg_node.specs.NodeText.{IsNode}
use Rattle.qg_super.specs.declared.superblock.Super.{Super}
use Rattle.qg_super.specs.Places.{is_slot}
use Rattle.qg_super.specs.SuperText.{is_super, sizes_of}
use Rattle.qg_super.proofs.Served.{SizesFit, SizesFit-is_served, SuperFits-is_super}
use Rattle.qg_commit.specs.Calls.{IsWritable}
use Rattle.qg_crashes.proofs.Between.{is_slot-IsBetween}
use Rattle.qg_commit.proofs.Written.{address_of, AreCommittable}

-- ---- lists

-- the first of some elements are distinct where all are
IsDistinct-take : {A : Type 0} (same : A → A → Bool) (n : ℕ) (xs : List A) → IsDistinct same xs
    → IsDistinct same (take n xs)
unfolding IsDistinct
IsDistinct-take same zero xs distinct = tt
IsDistinct-take same (suc n) [] distinct = tt
IsDistinct-take same (suc n) (x ∷ xs) distinct =
    let differ = All-from_recursion (λ y. same x y ≡ false) xs distinct.0 in (
      recursion_from_All (λ y. same x y ≡ false) (take n xs) (All-take (λ y. same x y ≡ false) n xs differ),
      IsDistinct-take same n xs distinct.1,
    )

-- what holds of each address holds of each node's
All-unmap : {A B : Type 0} (P : B → Type 0) (f : A → B) (xs : List A) → All P (map f xs) → All (λ x. P (f x)) xs
All-unmap P f [] all = All-nil (λ x. P (f x))
All-unmap P f (x ∷ xs) all =
    All-cons (λ x. P (f x)) x xs (All-head P (f x) (map f xs) all) (All-unmap P f xs (All-tail P (f x) (map f xs) all))

-- ---- what a commit asks of them

-- a node of the format in a slot has a text and ends there
slot-IsWritable : (super : Super) (node : Node) → SizesFit (sizes_of super) → IsNode super.nodesize node
    → is_slot (sizes_of super) (address_of node) ≡ true → IsWritable super.nodesize node
slot-IsWritable super node served is slot =
    let between = is_slot-IsBetween (sizes_of super) (address_of node) served slot in
    record { node_of_format = is; ends = omega (arith, between.end) }

-- nodes of the format, in the first of slots that are all different, are such as a commit may write
pub placed-AreCommittable : (super : Super) (slots : List ℕ) (nodes : List Node) → is_super super ≡ true
    → All (λ slot. IsTrue (is_slot (sizes_of super) slot)) slots → IsDistinct (λ a b. a == b) slots
    → map (λ node. (header_of node).address) nodes ≡ take (length nodes) slots → All (IsNode super.nodesize) nodes
    → AreCommittable super nodes
placed-AreCommittable super slots nodes is are_slots distinct placed are =
    let served = SizesFit-is_served (sizes_of super) (SuperFits-is_super super is).served in
    let IsSlot = λ (slot : ℕ). IsTrue (is_slot (sizes_of super) slot) in
    let firsts = All-take IsSlot (length nodes) slots are_slots in
    let in_slots = All-unmap IsSlot address_of nodes (subst (All IsSlot) (sym placed) firsts) in
    let apart = IsDistinct-take (λ (a b : ℕ). a == b) (length nodes) slots distinct in
    record {
      writable = recursion_from_All (IsWritable super.nodesize) nodes
          (λ k d below. slot-IsWritable super (get_or nodes k d) served (are k d below) (in_slots k d below));
      in_slots = in_slots;
      apart = subst (IsDistinct (λ a b. a == b)) (sym placed) apart;
    }
