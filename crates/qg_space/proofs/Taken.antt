-- What the present state has of an image: how many slots, and how many bytes of runs. Addresses and lengths are in
-- bytes.
use Rattle.std.proofs.Common.{◌≡◌, ℕ, ◌+◌, ◌*◌, ◌<◌, ◌≤◌, Bool, true, false, List, [], ◌∷◌, ◌++◌, map, length, get_or}
use Rattle.std.proofs.Common.{take, refl, sym, ap, subst, ◌∙◌, arith, inl, inr, cond}
use Rattle.std.specs.List.{Contains, count_by, filter, range_with_len, sum_by}
use Rattle.std.proofs.lemmas.Bool.{cases_Bool}
use Rattle.std.proofs.lemmas.List.{append-nil, map-append}
use Rattle.std.proofs.lemmas.List.Elements.{filter_more}
use Rattle.std.proofs.lemmas.List.FromFn.{length-map-range_with_len}
use Rattle.std.proofs.lemmas.List.Sums.{count_by-le-length, sum_by-cons}
use Rattle.qg_super.specs.declared.sizes.Sizes.{Sizes}
use Rattle.qg_super.specs.Places.{data_begin, is_slot, sector, slot_at, total_bytes}
use Rattle.qg_super.proofs.Runs.{WholeRun-is_run}
use Rattle.qg_image.specs.declared.element.Element.{Element}
use Rattle.qg_image.specs.Counts.{bytes_of}
use Rattle.qg_space.specs.Run.{Run}
use Rattle.qg_space.specs.declared.slots.Slot.{Slot}
use Rattle.qg_space.specs.Holding.{AscendApart, Holding, has_slot, taken_slots}
use Rattle.qg_space.specs.Lying.{present_of, end_of, holding_of, LieApart}
use Rattle.qg_space.proofs.Apart.{where_first, where_skips}
use Rattle.qg_space.proofs.Marks.{SlotsFit}
use Rattle.qg_space.proofs.Free.{has_at, has_is_slot, count_alike}
use Rattle.qg_space.proofs.Members.{Contains-has_slot}

-- ---- slots

-- the present state has as many as are marked so
pub taken_counted : (sizes : Sizes) (runs : List Run) (slots : List Slot) → SlotsFit sizes → length slots ≡ sizes.slots
    → taken_slots (holding_of sizes runs slots) ≡ count_by (λ slot. slot.present) slots
unfolding taken_slots
taken_counted sizes runs slots fit all =
    let holding = holding_of sizes runs slots in
    ap (λ n. count_by (has_slot holding) (map (slot_at sizes) (range_with_len 0 n))) (sym all)
    ∙ count_alike (has_slot holding) (λ (slot : Slot). slot.present) sizes 0 slots
    (λ i n d is short. has_at sizes runs slots (slot_at sizes n) n d fit all (omega (arith, is, short, all)) refl
    ∙ ap (λ m. (get_or slots m d).present) (omega (arith, is)))

-- and no more than there are
pub taken_slots-le-slots : (holding : Holding) → taken_slots holding ≤ holding.sizes.slots
unfolding taken_slots
taken_slots-le-slots holding =
    let places = map (slot_at holding.sizes) (range_with_len 0 holding.sizes.slots) in
    omega (
      arith,
      count_by-le-length (has_slot holding) places,
      length-map-range_with_len
          (slot_at holding.sizes) 0 holding.sizes.slots,
    )

-- each that it has is one of the image
pub taken-slot : (sizes : Sizes) (runs : List Run) (slots : List Slot) → SlotsFit sizes → length slots ≡ sizes.slots
    → (slot : ℕ) → Contains (holding_of sizes runs slots).slots slot → is_slot sizes slot ≡ true
taken-slot sizes runs slots fit all slot has =
    has_is_slot sizes runs slots slot fit all ((Contains-has_slot (holding_of sizes runs slots) slot).1 has)

-- ---- runs

ascend_sooner : (sizes : Sizes) (from sooner : ℕ) (extents : List Element) → sooner ≤ from
    → AscendApart sizes from extents → AscendApart sizes sooner extents
ascend_sooner sizes from sooner [] low apart = tt
ascend_sooner sizes from sooner (extent ∷ extents) low apart = (apart.0, omega (arith, apart.1), apart.2)

-- the runs that the present state has lie apart, as all do
pub present-apart : (sizes : Sizes) (from : ℕ) (runs : List Run) → LieApart sizes from runs
    → AscendApart sizes from (present_of runs)
present-apart sizes from [] apart = tt
present-apart sizes from (run ∷ runs) apart =
    let later = present-apart sizes (end_of run.extent) runs apart.3 in
    elim (cases_Bool run.present) [
      | inl is ↦
          subst (AscendApart sizes from) (sym (where_first (λ run. run.present) run runs is))
          (apart.0, apart.1, later)
      | inr absent ↦
          subst (AscendApart sizes from) (sym (where_skips (λ run. run.present) run runs absent))
          (ascend_sooner sizes (end_of run.extent) from (present_of runs) (omega (arith, apart.1)) later)
    ]

-- the bytes of a run, if the present state has it
abbrev pub bytes_if_present : Run → ℕ
bytes_if_present run = cond run.present run.extent.bytes 0

-- their sum is that of the runs that it has
pub bytes_of_present : (runs : List Run) → bytes_of (present_of runs) ≡ sum_by bytes_if_present runs
bytes_of_present [] = refl
bytes_of_present (run ∷ runs) =
    let rest = bytes_of_present runs in
    let sums = sum_by-cons bytes_if_present run runs in
    elim (cases_Bool run.present) [
      | inl is ↦
          let here = ap (λ b. cond b run.extent.bytes 0) is in
          let there = ap bytes_of (where_first (λ run. run.present) run runs is)
          ∙ sum_by-cons (λ (extent : Element). extent.bytes) run.extent (present_of runs) in
          omega (arith, rest, sums, here, there)
      | inr absent ↦
          let here = ap (λ b. cond b run.extent.bytes 0) absent in
          let there = ap bytes_of (where_skips (λ run. run.present) run runs absent) in
          omega (arith, rest, sums, here, there)
    ]

no_more : (present : Bool) (bytes : ℕ) → cond present bytes 0 ≤ bytes
no_more true bytes = omega arith
no_more false bytes = omega arith

-- runs that lie apart from an address on have no more bytes than lie there
bytes_from : (sizes : Sizes) (from : ℕ) (runs : List Run) → from ≤ total_bytes sizes → LieApart sizes from runs
    → from + sum_by bytes_if_present runs ≤ total_bytes sizes
bytes_from sizes from [] within apart = omega (arith, within)
bytes_from sizes from (run ∷ runs) within apart =
    let whole = WholeRun-is_run sizes run.extent.address run.extent.bytes apart.0 in
    let rest = bytes_from sizes (end_of run.extent) runs whole.within apart.3 in
    let sums = sum_by-cons bytes_if_present run runs in
    let here = no_more run.present run.extent.bytes in
    omega (arith, rest, sums, here, apart.1)

-- so they have no more than the data area
pub bytes_within : (sizes : Sizes) (runs : List Run) → LieApart sizes data_begin runs
    → sum_by bytes_if_present runs ≤ sizes.sectors * sector
bytes_within sizes runs apart = omega (arith, bytes_from sizes data_begin runs (omega arith) apart)

-- ---- the runs of the present state, one after the other

module _ (runs : List Run) (i : ℕ) (run : Run) (now new : List Element) (inside : i < length runs)
    (is : run ≡ get_or runs i run) where
  one_more : filter (λ (r : Run). r.present) (take (i + 1) runs)
      ≡ filter (λ (r : Run). r.present) (take i runs) ++ cond run.present (run ∷ []) []
  one_more =
      filter_more (λ (r : Run). r.present) runs i run inside
      ∙ ap (λ (r : Run). filter (λ (one : Run). one.present) (take i runs) ++ cond r.present (r ∷ []) []) (sym is)

  pub present-more : run.present ≡ true → now ≡ present_of (take i runs) → new ≡ now ++ run.extent ∷ []
      → new ≡ present_of (take (i + 1) runs)
  present-more there so_far put =
      put ∙ ap (λ (list : List Element). list ++ run.extent ∷ []) so_far
      ∙ sym (map-append (λ (r : Run). r.extent) (filter (λ (r : Run). r.present) (take i runs)) (run ∷ []))
      ∙ ap (λ (b : Bool). map (λ (r : Run). r.extent)
      (filter (λ (r : Run). r.present) (take i runs) ++ cond b (run ∷ []) [])) (sym there)
      ∙ ap (map (λ (r : Run). r.extent)) (sym one_more)

  pub present-less : run.present ≡ false → now ≡ present_of (take i runs) → new ≡ now
      → new ≡ present_of (take (i + 1) runs)
  present-less none so_far same =
      same ∙ so_far
      ∙ ap (map (λ (r : Run). r.extent)) (sym (append-nil (filter (λ (r : Run). r.present) (take i runs))))
      ∙ ap (λ (b : Bool). map (λ (r : Run). r.extent)
      (filter (λ (r : Run). r.present) (take i runs) ++ cond b (run ∷ []) [])) (sym none)
      ∙ ap (map (λ (r : Run). r.extent)) (sym one_more)
