-- Which slots are held of an image that was just opened.
use Rattle.std.proofs.Common.{◌≡◌, ℕ, Bool, true, List, [], ◌++◌, sym, ap, subst, ◌∙◌, ◌⊎◌, inl, inr}
use Rattle.std.specs.Prelude.{◌↔◌, not}
use Rattle.std.specs.List.{Contains, filter, list_all}
use Rattle.std.proofs.lemmas.Bool.{cases_Bool, not-true, not_from_false, true≢false}
use Rattle.std.proofs.lemmas.List.Elements.{All-filter, Contains-append_cases, Contains-append_left}
use Rattle.std.proofs.lemmas.List.Elements.{Contains-append_right}
use Rattle.std.proofs.lemmas.List.Sums.{AllPass-from_list_all, list_all-from_AllPass}
use Rattle.qg_image.proofs.Contained.{none_contained}
use Rattle.qg_space.specs.Holding.{Holding, has_slot}
use Rattle.qg_space.proofs.Members.{Contains-has_slot, contains_filter, filter_contains}
use Rattle.qg_space.specs.ManySlots.{ChangesSlots}

-- what all of a list pass, all of a part of it pass
pub all_filtered : (test keep : ℕ → Bool) (slots : List ℕ) → list_all test slots ≡ true
    → list_all test (filter keep slots) ≡ true
all_filtered test keep slots all =
    list_all-from_AllPass test (filter keep slots)
    (All-filter keep (λ slot. test slot ≡ true) slots (AllPass-from_list_all test slots all))

-- of nothing nodes' slots are taken, then those of others that are elsewhere; the last commit holds all of them, and
-- those elsewhere are given back
pub record HoldsNodes (none some all committed last : Holding) (nodes others elsewhere : List ℕ) : Type 0 where
  pub nothing : none.slots ≡ []
  pub taken : ChangesSlots none some (λ slot. Contains none.slots slot ⊎ Contains nodes slot)
  pub lacked : elsewhere ≡ filter (λ slot. not (has_slot some slot)) others
  pub more : ChangesSlots some all (λ slot. Contains some.slots slot ⊎ Contains elsewhere slot)
  pub held : committed ≡ record all { held_runs = all.runs; held_slots = all.slots }
  pub given : ChangesSlots committed last (λ slot. Contains committed.slots slot × (Contains elsewhere slot → ⊥))

-- ---- step by step

some-nodes : (none some all committed last : Holding) (nodes others elsewhere : List ℕ)
    → HoldsNodes none some all committed last nodes others elsewhere
    → (slot : ℕ) → Contains some.slots slot ↔ Contains nodes slot
some-nodes none some all committed last nodes others elsewhere holds slot =
    (into, λ has. (holds.taken.slots slot).1 (inr has)) where
      into : Contains some.slots slot → Contains nodes slot
      into has = elim ((holds.taken.slots slot).0 has) [
        | inl early ↦ absurd (none_contained slot (subst (λ (slots : List ℕ). Contains slots slot) holds.nothing early))
        | inr now ↦ now
      ]

never-both : (none some all committed last : Holding) (nodes others elsewhere : List ℕ)
    → HoldsNodes none some all committed last nodes others elsewhere
    → (slot : ℕ) → Contains nodes slot → Contains elsewhere slot → ⊥
never-both none some all committed last nodes others elsewhere holds slot has there =
    let found = filter_contains (λ slot. not (has_slot some slot)) others slot
    (subst (λ (slots : List ℕ). Contains slots slot) holds.lacked there) in
    true≢false (sym ((Contains-has_slot some slot).1
    ((some-nodes none some all committed last nodes others elsewhere holds slot).1 has))
    ∙ not-true (has_slot some slot) found.1)

all-both : (none some all committed last : Holding) (nodes others elsewhere : List ℕ)
    → HoldsNodes none some all committed last nodes others elsewhere
    → (slot : ℕ) → Contains all.slots slot ↔ Contains (others ++ nodes) slot
all-both none some all committed last nodes others elsewhere holds slot = (into, back) where
  of_nodes : Contains some.slots slot ↔ Contains nodes slot
  of_nodes = some-nodes none some all committed last nodes others elsewhere holds slot

  into : Contains all.slots slot → Contains (others ++ nodes) slot
  into has = elim ((holds.more.slots slot).0 has) [
    | inl early ↦ Contains-append_right others nodes slot (of_nodes.0 early)
    | inr there ↦
        Contains-append_left others nodes slot
        (filter_contains (λ slot. not (has_slot some slot)) others slot
        (subst (λ (slots : List ℕ). Contains slots slot) holds.lacked there)).0
  ]

  other : Contains others slot → Contains all.slots slot
  other has = elim (cases_Bool (has_slot some slot)) [
    | inl early ↦ (holds.more.slots slot).1 (inl ((Contains-has_slot some slot).0 early))
    | inr lacks ↦
        (holds.more.slots slot).1 (inr (subst (λ (slots : List ℕ). Contains slots slot) (sym holds.lacked)
        (contains_filter (λ slot. not (has_slot some slot)) others slot has
        (not_from_false (has_slot some slot) lacks))))
  ]

  back : Contains (others ++ nodes) slot → Contains all.slots slot
  back has = elim (Contains-append_cases others nodes slot has) [
    | inl first ↦ other first
    | inr second ↦ (holds.more.slots slot).1 (inl (of_nodes.1 second))
  ]

-- ---- what is held then

-- the present state has the nodes' slots
pub present-nodes : (none some all committed last : Holding) (nodes others elsewhere : List ℕ)
    → HoldsNodes none some all committed last nodes others elsewhere
    → (slot : ℕ) → Contains last.slots slot ↔ Contains nodes slot
present-nodes none some all committed last nodes others elsewhere holds slot = (into, back) where
  of_nodes : Contains some.slots slot ↔ Contains nodes slot
  of_nodes = some-nodes none some all committed last nodes others elsewhere holds slot

  same : committed.slots ≡ all.slots
  same = ap (λ (space : Holding). space.slots) holds.held

  into : Contains last.slots slot → Contains nodes slot
  into has =
      let kept = (holds.given.slots slot).0 has in
      elim ((holds.more.slots slot).0 (subst (λ (slots : List ℕ). Contains slots slot) same kept.0)) [
        | inl early ↦ of_nodes.0 early
        | inr there ↦ absurd (kept.1 there)
      ]

  back : Contains nodes slot → Contains last.slots slot
  back has =
      let all_have = (holds.more.slots slot).1 (inl (of_nodes.1 has)) in
      (holds.given.slots slot).1 (
        subst (λ (slots : List ℕ). Contains slots slot) (sym same) all_have,
        never-both none
            some all committed last nodes others elsewhere holds slot has,
      )

-- and the last commit the others' too
pub held-both : (none some all committed last : Holding) (nodes others elsewhere : List ℕ)
    → HoldsNodes none some all committed last nodes others elsewhere
    → (slot : ℕ) → Contains last.held_slots slot ↔ Contains (others ++ nodes) slot
held-both none some all committed last nodes others elsewhere holds slot =
    let same : last.held_slots ≡ all.slots = ap (λ (space : Holding). space.held_slots) holds.given.rest
    ∙ ap (λ (space : Holding). space.held_slots) holds.held in
    subst (λ (slots : List ℕ). Contains slots slot ↔ Contains (others ++ nodes) slot) (sym same)
    (all-both none some all committed last nodes others elsewhere holds slot)
