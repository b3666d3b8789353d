-- Slots that are the same as others that all are slots.
use Rattle.std.proofs.Common.{◌≡◌, ℕ, Bool, true, List, [], ◌∷◌, map, get_or, inl, inr, subst}
use Rattle.std.specs.Prelude.{IsTrue}
use Rattle.std.specs.List.{All, Contains, list_all}
use Rattle.std.proofs.lemmas.Bool.{and_parts}
use Rattle.std.proofs.lemmas.List.Folds.{list_all-map}
use Rattle.std.proofs.lemmas.List.Elements.{Contains-get_or}
use Rattle.qg_super.specs.declared.sizes.Sizes.{Sizes}
use Rattle.qg_super.specs.Places.{is_slot}
use Rattle.qg_image.proofs.Contained.{none_contained, contains_cases}
use Rattle.qg_reach.specs.Sets.{HaveSame}
use Rattle.qg_walk.specs.WalkKeeps.{AreAddressesOf, AreInSlots}
use Rattle.qg_shared_walk.specs.declared.nodes.NodesRead.{NodesRead}
use Rattle.qg_shared_walk.specs.NodeFacts.{AreOfNodes}
use Rattle.qg_shared_walk.proofs.Sorted.{lie_as_told, number_read}

-- what all pass, each passes
passes : {A : Type 0} (p : A → Bool) (xs : List A) (x : A) → list_all p xs ≡ true → Contains xs x → p x ≡ true
passes p [] x all has = absurd (none_contained x has)
passes p (y ∷ ys) x all has =
    let parts = and_parts (p y) (list_all p ys) all in
    elim (contains_cases y ys x has) [
      | inl same ↦ subst (λ z. p z ≡ true) same parts.0
      | inr later ↦ passes p ys x parts.1 later
    ]

pub same_slots : (sizes : Sizes) (slots given : List ℕ) → HaveSame slots given → list_all (is_slot sizes) given ≡ true
    → All (λ slot. IsTrue (is_slot sizes slot)) slots
same_slots sizes slots given same all = λ k d below. passes (is_slot sizes) given (get_or slots k d) all
    (same.into (get_or slots k d) (Contains-get_or slots k d below))

-- where nodes lie that lie in slots
pub slots_of_addresses : (sizes : Sizes) (addresses : List ℕ) → AreInSlots sizes AreAddressesOf addresses
    → list_all (is_slot sizes) addresses ≡ true
slots_of_addresses sizes addresses in_slots = rw (in_slots.kept, list_all-map) in_slots.slots

-- so they do where this was gathered of nodes that lie in slots
pub slots_of_gathered : (sizes : Sizes) (read : NodesRead) → AreInSlots sizes AreOfNodes read
    → list_all (is_slot sizes) (map (λ node. node.linked.address) read.nodes.items) ≡ true
slots_of_gathered sizes read in_slots =
    slots_of_addresses sizes (map number_read read.nodes.items)
    (record {
      nodes = in_slots.nodes;
      kept = lie_as_told read.nodes.items in_slots.nodes in_slots.kept;
      slots = in_slots.slots;
    })
