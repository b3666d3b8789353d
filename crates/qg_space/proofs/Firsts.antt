-- What is found first is free, and what makes a run or a slot free. Addresses and lengths are in bytes.
use Rattle.std.proofs.Common.{◌≡◌, ℕ, Bool, true, false, ◌++◌, Option, None, Some, refl, sym, ap, subst, ◌∙◌}
use Rattle.std.specs.Prelude.{◌==◌, not}
use Rattle.std.specs.List.{Contains, list_any}
use Rattle.std.specs.Option.{option_map}
use Rattle.std.proofs.lemmas.Bool.{and_from, eqb-true, false_from_ne_true, true≢false}
use Rattle.std.proofs.lemmas.Option.{none-some}
use Rattle.qg_super.specs.Places.{is_run, is_slot, slot_at, sector_at}
use Rattle.qg_image.specs.declared.element.Element.{Element}
use Rattle.qg_image.specs.Space.{overlaps, least}
use Rattle.qg_space.specs.Holding.{Holding, is_clear, first_clear, is_free_run, first_run, is_free_slot, first_slot}
use Rattle.qg_space.proofs.Least.{least_passes}
use Rattle.qg_space.proofs.Members.{one_passes}

found_passes : (place : ℕ → ℕ) (test : ℕ → Bool) (count a : ℕ) (found : Option ℕ)
    → least (λ k. test (place k)) 0 count ≡ found → option_map place found ≡ Some a → test a ≡ true
found_passes place test count a None is given = absurd (none-some a given)
found_passes place test count a (Some k) is given =
    let there : place k ≡ a = cc in
    ap test (sym there) ∙ least_passes (λ k. test (place k)) 0 count k is

-- the first run is free
pub is_free_run-first : (holding : Holding) (bytes address : ℕ) → first_run holding bytes ≡ Some address
    → is_free_run holding address bytes ≡ true
unfolding first_clear
is_free_run-first holding bytes address given =
    found_passes sector_at (λ a. is_free_run holding a bytes) holding.sizes.sectors address
    (least (λ k. is_free_run holding (sector_at k) bytes) 0 holding.sizes.sectors) refl given

-- the first slot is free
pub is_free_slot-first : (holding : Holding) (address : ℕ) → first_slot holding ≡ Some address
    → is_free_slot holding address ≡ true
unfolding first_slot
is_free_slot-first holding address given =
    found_passes (slot_at holding.sizes) (is_free_slot holding) holding.sizes.slots address
    (least (λ k. is_free_slot holding (slot_at holding.sizes k)) 0 holding.sizes.slots) refl given

-- a run that overlaps nothing that is held is free
pub is_free_run-clear : (holding : Holding) (address bytes : ℕ) → is_run holding.sizes address bytes ≡ true
    → ((run : Element) → Contains (holding.runs ++ holding.held_runs) run → overlaps address bytes run ≡ false)
    → is_free_run holding address bytes ≡ true
unfolding is_clear
is_free_run-clear holding address bytes is clear =
    and_from _ _ is
    (ap not (false_from_ne_true (list_any (overlaps address bytes) (holding.runs ++ holding.held_runs))
    (λ some. let found = one_passes (overlaps address bytes) (holding.runs ++ holding.held_runs) some in
    true≢false (sym found.2 ∙ clear found.0 found.1))))

-- a slot that nothing holds is free
pub is_free_slot-clear : (holding : Holding) (address : ℕ) → is_slot holding.sizes address ≡ true
    → (Contains (holding.slots ++ holding.held_slots) address → ⊥) → is_free_slot holding address ≡ true
unfolding is_free_slot
is_free_slot-clear holding address is clear =
    and_from _ _ is
    (ap not (false_from_ne_true (list_any (λ slot. slot == address) (holding.slots ++ holding.held_slots))
    (λ some.
    let found = one_passes (λ slot. slot == address) (holding.slots ++ holding.held_slots) some in
    clear (subst (λ n. Contains (holding.slots ++ holding.held_slots) n) (eqb-true found.0 address found.2) found.1))))
