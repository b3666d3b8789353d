-- Slots that were free are taken, held and given back.
use Rattle.std.proofs.Common.{◌≡◌, ℕ, ◌+◌, ◌<◌, ◌≤◌, Bool, true, false, List, [], ◌∷◌, ◌++◌, length, get_or, take}
use Rattle.std.proofs.Common.{add-one, refl, sym, ap, subst, ◌∙◌, ◌⊎◌, inl, inr}
use Rattle.std.specs.Prelude.{◌↔◌, ◌≢◌, ◌==◌, not}
use Rattle.std.specs.List.{Contains, list_all, list_any}
use Rattle.std.proofs.Math.Seq.{take-suc}
use Rattle.std.proofs.lemmas.Bool.{and_parts, eq-eqb, true≢false}
use Rattle.std.proofs.lemmas.List.{take_all}
use Rattle.std.proofs.lemmas.List.Elements.{Contains-append_left, Contains-append_right, Contains-append_cases}
use Rattle.qg_image.specs.Table.{with_number}
use Rattle.qg_image.proofs.Contained.{none_contained, contains_here, contains_cases}
use Rattle.qg_space.specs.Holding.{Holding, has_slot, is_free_slot, without_slot}
use Rattle.qg_super.specs.Places.{is_slot}
use Rattle.qg_space.proofs.Firsts.{is_free_slot-clear}
use Rattle.qg_space.proofs.Free.{free_is_slot}
use Rattle.qg_space.proofs.Members.{Contains-has_slot, Contains-with_number, Contains-without_slot, passes_one}
use Rattle.qg_shared_trees.proofs.Moved.{free-apart}
use Rattle.qg_space.specs.ManySlots.{ChangesSlots}
use Rattle.qg_commit_trees.specs.Slots.{HoldsBesides}

-- ---- what may be taken

-- one of those of which all pass a test passes it
one_of_all : {A : Type 0} (test : A → Bool) (xs : List A) (x : A) → list_all test xs ≡ true → Contains xs x
    → test x ≡ true
one_of_all test [] x all has = absurd (none_contained x has)
one_of_all {A} test (z ∷ zs) x all has =
    let parts = and_parts (test z) (list_all test zs) all in
    elim (contains_cases z zs x has) [
      | inl same ↦ subst (λ (y : A). test y ≡ true) same parts.0
      | inr later ↦ one_of_all test zs x parts.1 later
    ]

-- a slot that is free the present state has not
free_absent : (holding : Holding) (q : ℕ) → is_free_slot holding q ≡ true → Contains holding.slots q → ⊥
unfolding is_free_slot
free_absent holding q free has =
    let held = list_any (λ (slot : ℕ). slot == q) (holding.slots ++ holding.held_slots) in
    let parts = and_parts (is_slot holding.sizes q) (not held) free in
    let some = passes_one (λ (slot : ℕ). slot == q) (holding.slots ++ holding.held_slots) q
    (Contains-append_left holding.slots holding.held_slots q has) (eq-eqb q q refl) in
    let wrong : not true ≡ true = ap not (sym some) ∙ parts.1 in
    absurd cc

-- slots that are free are slots, and the last commit holds none of them
pub free-slots : (holding : Holding) (slots : List ℕ) → list_all (is_free_slot holding) slots ≡ true
    → list_all (is_slot holding.sizes) slots ≡ true
free-slots holding [] all = refl
free-slots holding (slot ∷ slots) all =
    let parts = and_parts (is_free_slot holding slot) (list_all (is_free_slot holding) slots) all in
    rw (free_is_slot holding slot parts.0, free-slots holding slots parts.1) refl

pub free-unheld : (holding : Holding) (slots : List ℕ) → list_all (is_free_slot holding) slots ≡ true
    → (slot : ℕ) → Contains slots slot → Contains holding.held_slots slot → ⊥
free-unheld holding slots all slot among =
    free-apart holding slot (one_of_all (is_free_slot holding) slots slot all among)

-- ---- the three steps

module _ (old taken committed new : Holding) (others : List ℕ) (free : list_all (is_free_slot old) others ≡ true)
    (takes : ChangesSlots old taken (λ slot. Contains old.slots slot ⊎ Contains others slot))
    (commits : committed ≡ record taken { held_runs = taken.runs; held_slots = taken.slots })
    (gives : ChangesSlots committed new (λ slot. Contains committed.slots slot × (Contains others slot → ⊥))) where
  slots_committed : committed.slots ≡ taken.slots
  slots_committed = ap (λ (holding : Holding). holding.slots) commits

  held_now : new.held_slots ≡ taken.slots
  held_now =
      ap (λ (holding : Holding). holding.held_slots) gives.rest
      ∙ ap (λ (holding : Holding). holding.held_slots) commits

  rest_now : new ≡ record old { held_runs = old.runs; slots = new.slots; held_slots = new.held_slots }
  rest_now =
      let from_taken : committed ≡ record old { slots = taken.slots; held_runs = old.runs; held_slots = taken.slots } =
      commits
      ∙ ap (λ (holding : Holding). record holding { held_runs = holding.runs; held_slots = taken.slots }) takes.rest in
      gives.rest ∙ ap (λ (holding : Holding). record holding { slots = new.slots }) from_taken
      ∙ ap (λ (held : List ℕ). record old { held_runs = old.runs; slots = new.slots; held_slots = held })
      (sym held_now)

  -- what was free the present state had not
  apart : (slot : ℕ) → Contains old.slots slot → Contains others slot → ⊥
  apart slot had among = free_absent old slot (one_of_all (is_free_slot old) others slot free among) had

  present_now : (slot : ℕ) → Contains new.slots slot ↔ Contains old.slots slot
  present_now slot = (into, back) where
    into : Contains new.slots slot → Contains old.slots slot
    into has =
        let both = (gives.slots slot).0 has in
        elim ((takes.slots slot).0 (subst (λ (slots : List ℕ). Contains slots slot) slots_committed both.0)) [
          | inl had ↦ had
          | inr among ↦ absurd (both.1 among)
        ]

    back : Contains old.slots slot → Contains new.slots slot
    back had =
        (gives.slots slot).1 (
          subst (λ (slots : List ℕ). Contains slots slot) (sym slots_committed) ((takes.slots slot).1 (inl had)),
          apart slot had,
        )

  pub holds-besides : HoldsBesides old new others
  holds-besides = record {
    rest = rest_now;
    slots = present_now;
    held_slots = λ slot. subst
        (λ (slots : List ℕ). Contains slots slot ↔ (Contains old.slots slot ⊎ Contains others slot)) (sym held_now)
        (takes.slots slot);
  }
