-- Slots and nodes apart: what stays free where one slot is taken, and lists of nodes that lie apart.
use Rattle.std.proofs.Common.{◌≡◌, ◌≢◌, ℕ, zero, suc, ◌+◌, ◌-◌, true, false, List, [], ◌∷◌, ◌++◌, length, map, arith}
use Rattle.std.proofs.Common.{sym, ap, subst, ◌∙◌, inl, inr, Some}
use Rattle.std.specs.Prelude.{◌==◌, Contains, slice_get}
use Rattle.std.specs.List.{AllByRecursion, IsDistinct, remove}
use Rattle.std.proofs.lemmas.Bool.{eq-eqb, true≢false}
use Rattle.std.proofs.lemmas.List.Elements.{Contains-append_cases, Contains-append_left, Contains-append_right}
use Rattle.qg_super.specs.declared.sizes.Sizes.{Sizes}
use Rattle.qg_super.specs.Places.{is_slot}
use Rattle.qg_node.specs.declared.node.Node.{Node}
use Rattle.qg_image.specs.Table.{with_number}
use Rattle.qg_space.specs.Holding.{Holding, is_free_slot}
use Rattle.qg_space.proofs.Firsts.{is_free_slot-clear}
use Rattle.qg_space.proofs.Members.{Contains-with_number}
use Rattle.qg_node_alloc.proofs.Slots.{free-parts}
use Rattle.qg_tree_layout.specs.Row.{address_of}

-- a slot that is free stays so where another is taken
pub free-kept : (old new : Holding) (now q : ℕ) → new.sizes ≡ old.sizes → new.held_slots ≡ old.held_slots
    → new.slots ≡ with_number now old.slots → q ≢ now → is_free_slot old q ≡ true → is_free_slot new q ≡ true
free-kept old new now q sizes held slots other free =
    let parts = free-parts old q free in
    let slot : is_slot new.sizes q ≡ true = subst (λ (s : Sizes). is_slot s q ≡ true) (sym sizes) parts.0 in
    is_free_slot-clear new q slot (λ has. elim (Contains-append_cases new.slots new.held_slots q has) [
      | inl here ↦
          let put = subst (λ (ns : List ℕ). Contains ns q) slots here in
          elim ((Contains-with_number now old.slots q).0 put) [
            | inl same ↦ other same
            | inr was ↦ parts.1 (Contains-append_left old.slots old.held_slots q was)
          ]
      | inr there ↦
          parts.1 (Contains-append_right old.slots old.held_slots q (subst (λ (ns : List ℕ). Contains ns q) held there))
    ])

-- ---- nodes apart

differ : (a b : ℕ) → (a == b) ≡ false → a ≢ b
differ a b unequal same = true≢false (sym (eq-eqb a b same) ∙ unequal)

apart_behind : (a : ℕ) (nodes : List Node) → AllByRecursion (λ b. (a == b) ≡ false) (map address_of nodes)
    → AllByRecursion (λ node. address_of node ≢ a) nodes
apart_behind a [] apart = tt
apart_behind a (node ∷ nodes) apart =
    (λ same. differ a (address_of node) apart.0 (sym same), apart_behind a nodes apart.1)

apart_middle : (a : ℕ) (front back : List Node) (node : Node)
    → AllByRecursion (λ b. (a == b) ≡ false) (map address_of (front ++ (node ∷ back))) → a ≢ address_of node
apart_middle a [] back node apart = differ a (address_of node) apart.0
apart_middle a (first ∷ front) back node apart = apart_middle a front back node apart.1

-- no node of a list that lies apart lies where a node in the midst of it does
pub apart-before : (front back : List Node) (node : Node)
    → IsDistinct (λ a b. a == b) (map address_of (front ++ (node ∷ back)))
    → AllByRecursion (λ other. address_of other ≢ address_of node) front
unfolding IsDistinct
apart-before [] back node apart = tt
apart-before (first ∷ front) back node apart =
    (apart_middle (address_of first) front back node apart.0, apart-before front back node apart.1)

pub apart-after : (front back : List Node) (node : Node)
    → IsDistinct (λ a b. a == b) (map address_of (front ++ (node ∷ back)))
    → AllByRecursion (λ other. address_of other ≢ address_of node) back
unfolding IsDistinct
apart-after [] back node apart = apart_behind (address_of node) back apart.0
apart-after (first ∷ front) back node apart = apart-after front back node apart.1

-- ---- the last of a list

-- a list is what is left without its last element, and that
pub last-taken : {A : Type 0} (xs : List A) (x : A) (i : ℕ) → i + 1 ≡ length xs → slice_get xs i ≡ Some x
    → xs ≡ remove xs i ++ (x ∷ [])
last-taken [] x i last there = absurd cc
last-taken (y ∷ []) x zero last there =
    let same : y ≡ x = cc in
    ap (λ (z : _). z ∷ []) same
last-taken (y ∷ (z ∷ xs)) x zero last there = absurd (omega (arith, last))
last-taken (y ∷ xs) x (suc i) last there =
    ap (λ (zs : List _). y ∷ zs) (last-taken xs x i (omega (arith, last)) there)

pub front-each : {A : Type 0} (P : A → Type 0) (front back : List A) → AllByRecursion P (front ++ back)
    → AllByRecursion P front
front-each P [] back each = tt
front-each P (x ∷ front) back each = (each.0, front-each P front back each.1)

pub last-each : {A : Type 0} (P : A → Type 0) (front : List A) (x : A) → AllByRecursion P (front ++ (x ∷ [])) → P x
last-each P [] x each = each.0
last-each P (y ∷ front) x each = last-each P front x each.1

-- two facts on each of some nodes make a third
pub both-each : {A : Type 0} (P Q R : A → Type 0) → ((x : A) → P x → Q x → R x) → (xs : List A) → AllByRecursion P xs
    → AllByRecursion Q xs → AllByRecursion R xs
both-each P Q R each [] p q = tt
both-each P Q R each (x ∷ xs) p q = (each x p.0 q.0, both-each P Q R each xs p.1 q.1)
