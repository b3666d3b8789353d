-- How many slots are free once a commit was done: fewer than before by no more than those of its other trees.
use Rattle.std.proofs.Common.{◌≡◌, ℕ, ◌+◌, ◌<◌, ◌≤◌, Bool, true, false, cond, List, [], ◌∷◌, ◌++◌, length, refl, sym}
use Rattle.std.proofs.Common.{ap}
use Rattle.std.proofs.Common.{subst, ◌∙◌, arith, inl, inr}
use Rattle.std.specs.Prelude.{◌⊎◌, ◌==◌, ◌||◌, not}
use Rattle.std.specs.List.{Contains, count_by, list_any, sum_by}
use Rattle.std.proofs.lemmas.Bool.{and_from, and_parts, cases_Bool, eq-eqb, eqb-true, not-true, not_from_false}
use Rattle.std.proofs.lemmas.Bool.{or_cases, or_left, or_right, true≢false}
use Rattle.std.proofs.lemmas.List.Elements.{Contains-append_cases, Contains-append_left}
use Rattle.std.proofs.lemmas.List.Sums.{sum_by-cons}
use Rattle.qg_super.specs.declared.sizes.Sizes.{Sizes}
use Rattle.qg_super.specs.Places.{is_slot}
use Rattle.qg_image.proofs.Contained.{contains_cases, contains_here, contains_later, none_contained}
use Rattle.qg_space.specs.Holding.{Holding, free_slots, is_free_slot}
use Rattle.qg_space.proofs.Free.{free_is_slot}
use Rattle.qg_space.proofs.Members.{one_passes, passes_one}
use Rattle.qg_open_image.specs.Counting.{one}
use Rattle.qg_open_image.proofs.Ways.{one-here}
use Rattle.qg_open_image.specs.Types.{FsTree}
use Rattle.qg_open_image.specs.Standing.{every_slot}
use Rattle.qg_open_image.proofs.Places.{slot-once}
use Rattle.qg_open_image.specs.CommitTreesCommitting.{IsCommitted}

-- ---- counts

abbrev counted : Bool → ℕ
counted b = cond b 1 0

count_first : (p : ℕ → Bool) (x : ℕ) (xs : List ℕ) → count_by p (x ∷ xs) ≡ counted (p x) + count_by p xs
count_first p x xs = sum_by-cons (λ m. cond (p m) 1 0) x xs

-- where all that pass one test pass another or are one number, the counts differ by how often that is there
count_one : (p q : ℕ → Bool) (z : ℕ) (xs : List ℕ) → ((x : ℕ) → p x ≡ true → (q x ≡ true) ⊎ (x ≡ z))
    → count_by p xs ≤ count_by q xs + sum_by (one z) xs
count_one p q z [] each = omega arith
count_one p q z (x ∷ xs) each =
    let rest = count_one p q z xs each in
    let was = count_first p x xs in
    let is = count_first q x xs in
    let hits = sum_by-cons (one z) x xs in
    elim (cases_Bool (p x)) [
      | inr fails ↦
          let none : counted (p x) ≡ 0 = ap counted fails in
          omega (arith, rest, was, is, hits, none)
      | inl passes ↦
          let first : counted (p x) ≡ 1 = ap counted passes in
          elim (each x passes) [
            | inl also ↦
                let second : counted (q x) ≡ 1 = ap counted also in
                omega (arith, rest, was, is, hits, first, second)
            | inr same ↦
                let hit = one-here z x same in
                omega (arith, rest, was, is, hits, first, hit)
          ]
    ]

count_all : (p q : ℕ → Bool) (xs : List ℕ) → ((x : ℕ) → p x ≡ true → q x ≡ true) → count_by p xs ≤ count_by q xs
count_all p q [] each = omega arith
count_all p q (x ∷ xs) each =
    let rest = count_all p q xs each in
    let was = count_first p x xs in
    let is = count_first q x xs in
    elim (cases_Bool (p x)) [
      | inr fails ↦ let none : counted (p x) ≡ 0 = ap counted fails in omega (arith, rest, was, is, none)
      | inl passes ↦
          let first : counted (p x) ≡ 1 = ap counted passes in
          let second : counted (q x) ≡ 1 = ap counted (each x passes) in
          omega (arith, rest, was, is, first, second)
    ]

abbrev is_in : List ℕ → ℕ → Bool
is_in zs x = list_any (λ y. y == x) zs

in_there : (zs : List ℕ) (x : ℕ) → is_in zs x ≡ true → Contains zs x
in_there zs x is =
    let found = one_passes (λ (y : ℕ). y == x) zs is in
    subst (λ (y : ℕ). Contains zs y) (eqb-true found.0 x found.2) found.1

there_in : (zs : List ℕ) (x : ℕ) → Contains zs x → is_in zs x ≡ true
there_in zs x has = passes_one (λ (y : ℕ). y == x) zs x has (eq-eqb x x refl)

-- or are some numbers, each of which is there once
count_some : (q : ℕ → Bool) (xs zs : List ℕ) → ((z : ℕ) → Contains zs z → sum_by (one z) xs ≤ 1) → (p : ℕ → Bool)
    → ((x : ℕ) → p x ≡ true → (q x ≡ true) ⊎ Contains zs x) → count_by p xs ≤ count_by q xs + length zs
count_some q xs [] once p each =
    let all = count_all p q xs (λ x passes. elim (each x passes) [
      | inl also ↦ also
      | inr none ↦ absurd (none_contained x none)
    ]) in
    omega (arith, all)
count_some q xs (z ∷ zs) once p each =
    let mid : ℕ → Bool = λ x. q x || is_in zs x in
    let rest = count_some q xs zs (λ y has. once y (contains_later z zs y has)) mid
    (λ x passes. elim (or_cases (q x) (is_in zs x) passes) [
      | inl also ↦ inl also
      | inr among ↦ inr (in_there zs x among)
    ]) in
    let front = count_one p mid z xs (λ x passes. elim (each x passes) [
      | inl also ↦ inl (or_left (q x) (is_in zs x) also)
      | inr has ↦ elim (contains_cases z zs x has) [
        | inl same ↦ inr (sym same)
        | inr later ↦ inl (or_right (q x) (is_in zs x) (there_in zs x later))
      ]
    ]) in
    let hit = once z (contains_here z zs) in
    omega (arith, rest, front, hit)

-- ---- free slots

not_held : (space : Holding) (x : ℕ) → is_free_slot space x ≡ true → Contains (space.slots ++ space.held_slots) x → ⊥
unfolding is_free_slot
not_held space x is has =
    let parts = and_parts (is_slot space.sizes x) (not (is_in (space.slots ++ space.held_slots) x)) is in
    true≢false (sym (there_in (space.slots ++ space.held_slots) x has)
    ∙ not-true (is_in (space.slots ++ space.held_slots) x) parts.1)

free_so : (space : Holding) (x : ℕ) → is_slot space.sizes x ≡ true
    → (Contains (space.slots ++ space.held_slots) x → ⊥) → is_free_slot space x ≡ true
unfolding is_free_slot
free_so space x slot none =
    and_from (is_slot space.sizes x) (not (is_in (space.slots ++ space.held_slots) x)) slot
    (elim (cases_Bool (is_in (space.slots ++ space.held_slots) x)) [
      | inl among ↦ absurd (none (in_there (space.slots ++ space.held_slots) x among))
      | inr lacks ↦ not_from_false (is_in (space.slots ++ space.held_slots) x) lacks
    ])

module _ (old new : FsTree) (besides : List ℕ) (is : IsCommitted old new besides)
    (some : 0 < old.land.space.sizes.nodesize)
    (free : (slot : ℕ) → Contains besides slot → is_free_slot old.land.space slot ≡ true) where
  once : (slot : ℕ) → Contains besides slot → sum_by (one slot) (every_slot old.land.space.sizes) ≤ 1
  once slot has =
      let hit = slot-once old.land.space.sizes slot some (free_is_slot old.land.space slot (free slot has)) in
      omega (arith, hit)

  stays : (x : ℕ) → is_free_slot old.land.space x ≡ true
      → (is_free_slot new.land.space x ≡ true) ⊎ Contains besides x
  stays x was = elim (cases_Bool (is_in besides x)) [
    | inl among ↦ inr (in_there besides x among)
    | inr lacks ↦ inl (free_so new.land.space x
        (ap (λ (sizes : Sizes). is_slot sizes x) is.sizes ∙ free_is_slot old.land.space x was) (none lacks))
  ]
    where
      own : Contains old.land.space.slots x → ⊥
      own has = not_held old.land.space x was
          (Contains-append_left old.land.space.slots old.land.space.held_slots x has)

      none : is_in besides x ≡ false → Contains (new.land.space.slots ++ new.land.space.held_slots) x → ⊥
      none lacks has = elim (Contains-append_cases new.land.space.slots new.land.space.held_slots x has) [
        | inl slot ↦ own ((is.slots x).0 slot)
        | inr held ↦ elim ((is.held_slots x).0 held) [
          | inl slot ↦ own slot
          | inr beside ↦ true≢false (sym (there_in besides x beside) ∙ lacks)
        ]
      ]

  counted_new : free_slots new.land.space ≡ count_by (is_free_slot new.land.space) (every_slot old.land.space.sizes)
  unfolding free_slots
  counted_new = ap (λ (sizes : Sizes). count_by (is_free_slot new.land.space) (every_slot sizes)) is.sizes

  counted_old : free_slots old.land.space ≡ count_by (is_free_slot old.land.space) (every_slot old.land.space.sizes)
  unfolding free_slots
  counted_old = refl

  pub free-after : free_slots old.land.space ≤ free_slots new.land.space + length besides
  free-after =
      let all = count_some (is_free_slot new.land.space) (every_slot old.land.space.sizes) besides once
      (is_free_slot old.land.space) stays in
      omega (arith, all, counted_new, counted_old)
