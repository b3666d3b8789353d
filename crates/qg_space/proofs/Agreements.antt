-- What is free of what a state of the machine holds is what is free of the state. Addresses and lengths are in bytes.
use Rattle.std.proofs.Common.{◌≡◌, ℕ, ◌+◌, Bool, true, false, List, [], ◌∷◌, ◌++◌, map, Option, None, Some, refl, sym}
use Rattle.std.proofs.Common.{ap, ◌∙◌, inl, inr, cond}
use Rattle.std.specs.Prelude.{◌==◌, ◌&&◌, ◌||◌, not, is_some}
use Rattle.std.specs.List.{list_any, count_by, range_with_len}
use Rattle.std.specs.Option.{option_map}
use Rattle.std.proofs.lemmas.Bool.{cases_Bool, cond-true, cond-false}
use Rattle.std.proofs.lemmas.List.Folds.{list_any-append}
use Rattle.std.proofs.lemmas.List.Sums.{sum_by-cons}
use Rattle.qg_super.specs.declared.sizes.Sizes.{Sizes}
use Rattle.qg_super.specs.Places.{is_run, is_slot, slot_at, sector_at}
use Rattle.qg_image.specs.Table.{value_at, has_key, keys_of}
use Rattle.qg_image.specs.State.{State}
use Rattle.qg_image.specs.Space.{present_extents, overlaps, least}
use Rattle.qg_image.specs.Space as state_space
use Rattle.qg_space.specs.Holding.{Holding, is_clear, first_clear, is_free_run, first_run, is_free_slot, free_slots}
use Rattle.qg_space.specs.Agreement.{IsHoldingOf}
use Rattle.qg_space.proofs.Least.{least_alike}
use Rattle.qg_space.proofs.Members.{any_same, same_appended}

-- ---- runs

-- a run is free of what a state holds where it is free of the state
pub is_free_run-state : (holding : Holding) (state : State) (address bytes : ℕ) → IsHoldingOf holding state
    → is_free_run holding address bytes ≡ state_space.is_free_run state address bytes
unfolding is_clear state_space.is_free_run
is_free_run-state holding state address bytes same =
    ap (λ sizes. is_run sizes address bytes
    && not (list_any (overlaps address bytes) (holding.runs ++ holding.held_runs))) same.sizes
    ∙ ap (λ b. is_run state.sizes address bytes && not b)
    (any_same (overlaps address bytes) (holding.runs ++ holding.held_runs) (present_extents state ++ state.held.extents)
    (same_appended holding.runs (present_extents state) holding.held_runs state.held.extents same.runs same.held_runs))

first_found : (state : State) (bytes : ℕ) (found : Option ℕ)
    → least (λ k. state_space.is_free_run state (sector_at k) bytes) 0 state.sizes.sectors ≡ found
    → option_map sector_at found ≡ state_space.first_run state bytes
unfolding state_space.first_run
first_found state bytes None is = rw is refl
first_found state bytes (Some k) is = rw is refl

-- so is the first one
pub first_run-state : (holding : Holding) (state : State) (bytes : ℕ) → IsHoldingOf holding state
    → first_run holding bytes ≡ state_space.first_run state bytes
unfolding first_clear
first_run-state holding state bytes same =
    ap (option_map sector_at)
    (ap (least (λ k. is_free_run holding (sector_at k) bytes) 0) (ap (λ (sizes : Sizes). sizes.sectors) same.sizes)
    ∙ least_alike (λ k. is_free_run holding (sector_at k) bytes)
    (λ k. state_space.is_free_run state (sector_at k) bytes) 0 state.sizes.sectors
    (λ k. is_free_run-state holding state (sector_at k) bytes same))
    ∙ first_found state bytes (least (λ k. state_space.is_free_run state (sector_at k) bytes) 0 state.sizes.sectors)
    refl

-- ---- slots

has_key-keys : {A : Type 0} (n : ℕ) (entries : List (ℕ × A))
    → has_key n entries ≡ list_any (λ slot. slot == n) (keys_of entries)
has_key-keys n [] = refl
has_key-keys n (entry ∷ entries) = elim (cases_Bool (entry.0 == n)) [
  | inl is ↦ ap is_some (cond-true (entry.0 == n) (Some entry.1) (value_at n entries) is)
      ∙ sym (ap (λ b. b || list_any (λ slot. slot == n) (keys_of entries)) is)
  | inr differs ↦
      ap is_some (cond-false (entry.0 == n) (Some entry.1) (value_at n entries) differs) ∙ has_key-keys n entries
      ∙ sym (ap (λ b. b || list_any (λ slot. slot == n) (keys_of entries)) differs)
]

neither : (a b c : Bool) → (a && not (b || c)) ≡ (a && not b && not c)
neither true true c = refl
neither true false c = refl
neither false b c = refl

-- a slot is free of what a state holds where it is free of the state
pub is_free_slot-state : (holding : Holding) (state : State) (address : ℕ) → IsHoldingOf holding state
    → is_free_slot holding address ≡ state_space.is_free_slot state address
unfolding is_free_slot state_space.is_free_slot
is_free_slot-state holding state address same =
    let there : ℕ → Bool = λ slot. slot == address in
    ap (λ sizes. is_slot sizes address && not (list_any there (holding.slots ++ holding.held_slots))) same.sizes
    ∙ ap (λ b. is_slot state.sizes address && not b)
    (list_any-append there holding.slots holding.held_slots
    ∙ ap (λ b. b || list_any there holding.held_slots) (any_same there holding.slots (keys_of state.layout) same.slots
    ∙ sym (has_key-keys address state.layout))
    ∙ ap (λ b. has_key address state.layout || b) (any_same there holding.held_slots state.held.nodes same.held_slots))
    ∙ neither (is_slot state.sizes address) (has_key address state.layout) (list_any there state.held.nodes)

count_by_alike : (p q : ℕ → Bool) (ns : List ℕ) → ((n : ℕ) → p n ≡ q n) → count_by p ns ≡ count_by q ns
count_by_alike p q [] alike = refl
count_by_alike p q (n ∷ ns) alike =
    sum_by-cons (λ n. cond (p n) 1 0) n ns ∙ ap (λ b. cond b 1 0 + count_by p ns) (alike n)
    ∙ ap (λ m. cond (q n) 1 0 + m) (count_by_alike p q ns alike)
    ∙ sym (sum_by-cons (λ n. cond (q n) 1 0) n ns)

-- and as many are
pub free_slots-state : (holding : Holding) (state : State) → IsHoldingOf holding state
    → free_slots holding ≡ state_space.free_slots state
unfolding free_slots state_space.free_slots
free_slots-state holding state same =
    ap (λ (sizes : Sizes). count_by (is_free_slot holding) (map (slot_at sizes) (range_with_len 0 sizes.slots)))
    same.sizes
    ∙ count_by_alike (is_free_slot holding) (state_space.is_free_slot state)
    (map (slot_at state.sizes) (range_with_len 0 state.sizes.slots)) (λ n. is_free_slot-state holding state n same)
