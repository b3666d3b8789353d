-- Slots taken and given back, one after the other.
use Rattle.std.proofs.Common.{◌≡◌, ℕ, ◌+◌, ◌<◌, ◌≤◌, true, false, List, [], ◌∷◌, ◌++◌, length, get_or, take, add-one}
use Rattle.std.proofs.Common.{sym, ap, subst, ◌∙◌, ◌⊎◌, inl, inr}
use Rattle.std.specs.Prelude.{◌↔◌, ◌≢◌}
use Rattle.std.specs.List.{Contains, list_all}
use Rattle.std.proofs.Math.Seq.{take-suc}
use Rattle.std.proofs.lemmas.Bool.{true≢false}
use Rattle.std.proofs.lemmas.List.{take_all}
use Rattle.std.proofs.lemmas.List.Elements.{All-contains, Contains-append_left, Contains-append_right}
use Rattle.std.proofs.lemmas.List.Elements.{Contains-append_cases}
use Rattle.std.proofs.lemmas.List.Sums.{AllPass-from_list_all}
use Rattle.qg_image.specs.Table.{with_number}
use Rattle.qg_super.specs.Places.{is_slot}
use Rattle.qg_image.proofs.Contained.{none_contained, contains_here, contains_cases}
use Rattle.qg_space.specs.Holding.{Holding, has_slot, is_free_slot, without_slot}
use Rattle.qg_space.proofs.Firsts.{is_free_slot-clear}
use Rattle.qg_space.proofs.Members.{Contains-has_slot, Contains-with_number, Contains-without_slot}
use Rattle.qg_space.specs.ManySlots.{ChangesSlots}

-- ---- one change after another

-- the first change, and then the second
pub changes_then : (old now new : Holding) (First Second Both : ℕ → Type 0) → ChangesSlots old now First
    → ChangesSlots now new Second → ((slot : ℕ) → Second slot ↔ Both slot) → ChangesSlots old new Both
changes_then old now new First Second Both first second same = record {
  rest =
      second.rest
      ∙ ap (λ (holding : Holding). record holding { slots = new.slots }) first.rest;
  slots = λ slot. (λ has. (same slot).0 ((second.slots slot).0 has), λ has. (second.slots slot).1 ((same slot).1 has));
}

-- the slots that it names may be named otherwise
pub changes_so : (old new : Holding) (Has Has' : ℕ → Type 0) → ChangesSlots old new Has
    → ((slot : ℕ) → Has slot ↔ Has' slot) → ChangesSlots old new Has'
changes_so old new Has Has' changes same = record {
  rest = changes.rest;
  slots = λ slot. (
    λ has. (same slot).0 ((changes.slots slot).0 has),
    λ has. (changes.slots slot).1
        ((same slot).1 has),
  );
}

-- ---- one slot

pub takes_one : (old new : Holding) (at : ℕ) → new ≡ record old { slots = with_number at old.slots }
    → ChangesSlots old new (λ slot. (slot ≡ at) ⊎ Contains old.slots slot)
takes_one old new at is =
    let now = ap (λ (holding : Holding). holding.slots) is in
    record {
      rest = is ∙ ap (λ slots. record old { slots = slots }) (sym now);
      slots = λ slot. subst (λ slots. Contains slots slot ↔ ((slot ≡ at) ⊎ Contains old.slots slot)) (sym now)
          (Contains-with_number at old.slots slot);
    }

has_already : (holding : Holding) (at slot : ℕ) → has_slot holding at ≡ true → (slot ≡ at) ⊎ Contains holding.slots slot
    → Contains holding.slots slot
has_already holding at slot has (inl is) =
    subst (Contains holding.slots) (sym is) ((Contains-has_slot holding at).0 has)
has_already holding at slot has (inr among) = among

pub has_one : (old new : Holding) (at : ℕ) → new ≡ old → has_slot old at ≡ true
    → ChangesSlots old new (λ slot. (slot ≡ at) ⊎ Contains old.slots slot)
has_one old new at is has =
    let now = ap (λ (holding : Holding). holding.slots) is in
    record {
      rest = is ∙ ap (λ slots. record old { slots = slots }) (sym now);
      slots = λ slot. subst (λ slots. Contains slots slot ↔ ((slot ≡ at) ⊎ Contains old.slots slot)) (sym now)
          (λ among. inr among, has_already old at slot has);
    }

pub gives_one : (old new : Holding) (at : ℕ) → new ≡ record old { slots = without_slot at old.slots }
    → ChangesSlots old new (λ slot. Contains old.slots slot × (slot ≢ at))
gives_one old new at is =
    let now = ap (λ (holding : Holding). holding.slots) is in
    record {
      rest = is ∙ ap (λ slots. record old { slots = slots }) (sym now);
      slots = λ slot. subst (λ slots. Contains slots slot ↔ (Contains old.slots slot × (slot ≢ at))) (sym now)
          (Contains-without_slot at old.slots slot);
    }

lacks_already : (holding : Holding) (at slot : ℕ) → has_slot holding at ≡ false → Contains holding.slots slot
    → slot ≢ at
lacks_already holding at slot lacks among is =
    true≢false (sym ((Contains-has_slot holding at).1 (subst (Contains holding.slots) is among)) ∙ lacks)

pub lacks_one : (old new : Holding) (at : ℕ) → new ≡ old → has_slot old at ≡ false
    → ChangesSlots old new (λ slot. Contains old.slots slot × (slot ≢ at))
lacks_one old new at is lacks =
    let now = ap (λ (holding : Holding). holding.slots) is in
    record {
      rest = is ∙ ap (λ slots. record old { slots = slots }) (sym now);
      slots = λ slot. subst (λ slots. Contains slots slot ↔ (Contains old.slots slot × (slot ≢ at))) (sym now)
          (λ among. (among, lacks_already old at slot lacks among), λ both. both.0);
    }

-- ---- one more of some slots

-- the first of some slots, and one more
pub among_more : (slots : List ℕ) (k at slot : ℕ) → k < length slots → at ≡ get_or slots k at
    → Contains (take (k + 1) slots) slot ↔ ((slot ≡ at) ⊎ Contains (take k slots) slot)
among_more slots k at slot short is =
    subst (λ front. Contains front slot ↔ ((slot ≡ at) ⊎ Contains (take k slots) slot)) (sym more) (into, back) where
      more : take (k + 1) slots ≡ take k slots ++ (at ∷ [])
      more = ap (λ n. take n slots) (add-one k) ∙ take-suc slots k at short
          ∙ ap (λ (n : ℕ). take k slots ++ (n ∷ [])) (sym is)

      into : Contains (take k slots ++ (at ∷ [])) slot → (slot ≡ at) ⊎ Contains (take k slots) slot
      into has = elim (Contains-append_cases (take k slots) (at ∷ []) slot has) [
        | inl front ↦ inr front
        | inr last ↦ elim (contains_cases at [] slot last) [
          | inl same ↦ inl (sym same)
          | inr none ↦ absurd (none_contained slot none)
        ]
      ]

      back : (slot ≡ at) ⊎ Contains (take k slots) slot → Contains (take k slots ++ (at ∷ [])) slot
      back (inl same) = Contains-append_right (take k slots) (at ∷ []) slot
          (subst (λ (n : ℕ). Contains (n ∷ []) slot) same (contains_here slot []))
      back (inr front) = Contains-append_left (take k slots) (at ∷ []) slot front

-- the first so many of some slots are taken
abbrev pub Takes : Holding → Holding → List ℕ → ℕ → Type 0
Takes old new slots k = ChangesSlots old new (λ slot. Contains old.slots slot ⊎ Contains (take k slots) slot)

pub takes_more : (old now new : Holding) (slots : List ℕ) (k at : ℕ) → k < length slots → at ≡ get_or slots k at
    → Takes old now slots k
    → ChangesSlots now new (λ slot. (slot ≡ at) ⊎ Contains now.slots slot) → Takes old new slots (k + 1)
takes_more old now new slots k at short is first second =
    changes_then old now new (λ slot. Contains old.slots slot ⊎ Contains (take k slots) slot) (λ slot. (slot ≡ at)
    ⊎ Contains now.slots slot)
    (λ slot. Contains old.slots slot ⊎ Contains (take (k + 1) slots) slot) first second (λ slot. (into slot, back slot))
  where
    into : (slot : ℕ) → (slot ≡ at) ⊎ Contains now.slots slot
        → Contains old.slots slot ⊎ Contains (take (k + 1) slots) slot
    into slot (inl same) = inr ((among_more slots k at slot short is).1 (inl same))
    into slot (inr has) = elim ((first.slots slot).0 has) [
      | inl had ↦ inl had
      | inr front ↦ inr ((among_more slots k at slot short is).1 (inr front))
    ]

    back : (slot : ℕ) → Contains old.slots slot ⊎ Contains (take (k + 1) slots) slot
        → (slot ≡ at) ⊎ Contains now.slots slot
    back slot (inl had) = inr ((first.slots slot).1 (inl had))
    back slot (inr front) = elim ((among_more slots k at slot short is).0 front) [
      | inl same ↦ inl same
      | inr early ↦ inr ((first.slots slot).1 (inr early))
    ]

-- the first so many of some slots are given back
abbrev pub Gives : Holding → Holding → List ℕ → ℕ → Type 0
Gives old new slots k = ChangesSlots old new (λ slot. Contains old.slots slot × (Contains (take k slots) slot → ⊥))

pub gives_more : (old now new : Holding) (slots : List ℕ) (k at : ℕ) → k < length slots → at ≡ get_or slots k at
    → Gives old now slots k
    → ChangesSlots now new (λ slot. Contains now.slots slot × (slot ≢ at)) → Gives old new slots (k + 1)
gives_more old now new slots k at short is first second =
    changes_then old now new (λ slot. Contains old.slots slot × (Contains (take k slots) slot → ⊥))
    (λ slot. Contains now.slots slot × (slot ≢ at))
    (λ slot. Contains old.slots slot × (Contains (take (k + 1) slots) slot → ⊥)) first second
    (λ slot. (into slot, back slot))
  where
    into : (slot : ℕ) → Contains now.slots slot × (slot ≢ at)
        → Contains old.slots slot × (Contains (take (k + 1) slots) slot → ⊥)
    into slot has =
        let early = (first.slots slot).0 has.0 in (
          early.0,
          λ front. elim ((among_more slots k at slot short is).0 front) [
            | inl same ↦ has.1 same
            | inr before ↦ early.1 before
          ],
        )

    back : (slot : ℕ) → Contains old.slots slot × (Contains (take (k + 1) slots) slot → ⊥)
        → Contains now.slots slot × (slot ≢ at)
    back slot has = (
      (first.slots slot).1 (has.0, λ early. has.1 ((among_more slots k at slot short is).1 (inr early))),
      λ same. has.1 ((among_more slots k at slot short is).1 (inl same)),
    )

-- ---- what may be taken

-- a slot that the state lacks, and the last commit does not hold, is free
pub free_lacked : (old now : Holding) (slots : List ℕ) (k at : ℕ) → k < length slots → at ≡ get_or slots k at
    → Takes old now slots k → list_all (is_slot old.sizes) slots ≡ true
    → ((slot : ℕ) → Contains slots slot → Contains old.held_slots slot → ⊥) → has_slot now at ≡ false
    → is_free_slot now at ≡ true
free_lacked old now slots k at short is taken all unheld lacks =
    let among : Contains slots at = (k, short, sym is) in
    let slot = All-contains (λ (n : ℕ). is_slot old.sizes n ≡ true) slots at
    (AllPass-from_list_all (is_slot old.sizes) slots all) among in
    is_free_slot-clear now at (subst (λ (holding : Holding). is_slot holding.sizes at ≡ true) (sym taken.rest) slot)
    (λ held. elim (Contains-append_cases now.slots now.held_slots at held) [
      | inl present ↦ true≢false (sym ((Contains-has_slot now at).1 present) ∙ lacks)
      | inr committed ↦ unheld at among
          (subst (λ (holding : Holding). Contains holding.held_slots at) taken.rest committed)
    ])

-- all of some slots are the first of them
pub all_taken : (slots : List ℕ) (k slot : ℕ) → length slots ≤ k → Contains (take k slots) slot ↔ Contains slots slot
all_taken slots k slot all = subst (λ front. Contains front slot ↔ Contains slots slot) (sym (take_all k slots all))
    (λ has. has, λ has. has)
