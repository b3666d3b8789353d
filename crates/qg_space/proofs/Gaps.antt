-- The first gap between runs that lie apart. Addresses and lengths are in bytes.
use Rattle.std.proofs.Common.{◌≡◌, ℕ, zero, suc, ◌+◌, ◌-◌, ◌*◌, ◌/◌, ◌<◌, ◌≤◌, true, false, List, [], ◌∷◌, length}
use Rattle.std.proofs.Common.{get_or, take, drop, Some, None, refl, sym, ap, subst, ◌∙◌, arith, inl, inr}
use Rattle.std.specs.Prelude.{◌%◌, ◌&&◌, ◌||◌, not}
use Rattle.std.specs.List.{list_any}
use Rattle.std.specs.Option.{option_map}
use Rattle.std.proofs.lemmas.Bool.{and_from, and_left, and_right, false_from_ne_true, or_left, or_from, cases_lt}
use Rattle.std.proofs.lemmas.List.{drop_more, drop_all}
use Rattle.qg_super.specs.declared.sizes.Sizes.{Sizes}
use Rattle.qg_super.specs.Places.{data_begin, sector, sector_at, total_bytes, is_run}
use Rattle.qg_super.proofs.Runs.{WholeRun, WholeRun-is_run, is_run-WholeRun}
use Rattle.qg_image.specs.declared.element.Element.{Element}
use Rattle.qg_image.specs.Space.{overlaps}
use Rattle.qg_space.specs.Run.{Run}
use Rattle.qg_space.specs.Holding.{is_clear, first_clear}
use Rattle.qg_space.specs.Lying.{extents_of, end_of, end_of_last, ArePacked, IsPackedFront, LieApart}
use Rattle.qg_space.proofs.Places.{end_aligned, apart_after, apart_before, overlaps_both}
use Rattle.qg_space.proofs.Least.{least_none, least_some, least_alike}

-- ---- one address

-- a run that is passed does not matter any more
clear_past : (sizes : Sizes) (run : Run) (runs : List Run) (address bytes : ℕ) → end_of run.extent ≤ address
    → is_clear sizes (extents_of (run ∷ runs)) address bytes ≡ is_clear sizes (extents_of runs) address bytes
unfolding is_clear
clear_past sizes run runs address bytes past =
    ap (λ b. is_run sizes address bytes && not (b || list_any (overlaps address bytes) (extents_of runs)))
    (apart_after address bytes run.extent past)

-- before the end of a run there is too little room, where there is before its begin
not_clear : (sizes : Sizes) (run : Run) (runs : List Run) (from address bytes : ℕ) → run.extent.address < from + bytes
    → from ≤ address → address < end_of run.extent
    → is_clear sizes (extents_of (run ∷ runs)) address bytes ≡ false
unfolding is_clear
not_clear sizes run runs from address bytes little low short =
    and_right (is_run sizes address bytes) _
    (ap not (or_left (overlaps address bytes run.extent) (list_any (overlaps address bytes) (extents_of runs))
    (overlaps_both address bytes run.extent short (omega (arith, little, low)))))

none_overlap : (sizes : Sizes) (from address bytes : ℕ) (runs : List Run) → LieApart sizes from runs
    → address + bytes ≤ from → list_any (overlaps address bytes) (extents_of runs) ≡ false
none_overlap sizes from address bytes [] apart room = refl
none_overlap sizes from address bytes (run ∷ runs) apart room =
    or_from (overlaps address bytes run.extent) (list_any (overlaps address bytes) (extents_of runs))
    (apart_before address bytes run.extent (omega (arith, room, apart.1)))
    (none_overlap sizes (end_of run.extent) address bytes runs apart.3 (omega (arith, room, apart.1)))

-- there is room before the first of runs
clear_here : (sizes : Sizes) (from address bytes : ℕ) (runs : List Run) → WholeRun sizes address bytes
    → LieApart sizes from runs → address + bytes ≤ from
    → is_clear sizes (extents_of runs) address bytes ≡ true
unfolding is_clear
clear_here sizes from address bytes runs run apart room = and_from _ _ (is_run-WholeRun sizes address bytes run)
    (ap not (none_overlap sizes from address bytes runs apart room))

not_within : (sizes : Sizes) (extents : List Element) (address bytes : ℕ) → total_bytes sizes < address + bytes
    → is_clear sizes extents address bytes ≡ false
unfolding is_clear
not_within sizes extents address bytes past =
    and_left (is_run sizes address bytes) _
    (false_from_ne_true (is_run sizes address bytes)
    (λ is. omega (arith, past, (WholeRun-is_run sizes address bytes is).within)))

not_empty : (sizes : Sizes) (extents : List Element) (address bytes : ℕ) → bytes ≡ 0
    → is_clear sizes extents address bytes ≡ false
unfolding is_clear
not_empty sizes extents address bytes is =
    and_left (is_run sizes address bytes) _
    (false_from_ne_true (is_run sizes address bytes)
    (λ run. omega (arith, is, (WholeRun-is_run sizes address bytes run).some)))

-- ---- runs that were passed

-- all runs but the rest end by an address, and there is no room before it
pub record ArePassed (sizes : Sizes) (runs rest : List Run) (bytes from : ℕ) : Type 0 where
  pub apart : LieApart sizes from rest
  pub begin : data_begin ≤ from
  pub aligned : (from - data_begin) % sector ≡ 0
  pub within : from ≤ total_bytes sizes
  pub none : (address : ℕ) → data_begin ≤ address → address < from
      → is_clear sizes (extents_of runs) address bytes ≡ false
  pub same : (address : ℕ) → from ≤ address
      → is_clear sizes (extents_of runs) address bytes ≡ is_clear sizes (extents_of rest) address bytes

pub none_passed : (sizes : Sizes) (runs : List Run) (bytes : ℕ) → LieApart sizes data_begin runs
    → ArePassed sizes runs runs bytes data_begin
none_passed sizes runs bytes apart = record {
  apart = apart;
  begin = omega arith;
  aligned = refl;
  within = omega arith;
  none = λ address low high. absurd (omega (arith, low, high));
  same = λ address low. refl;
}

pub one_more_passed : (sizes : Sizes) (runs : List Run) (run : Run) (rest : List Run) (bytes from : ℕ)
    → ArePassed sizes runs (run ∷ rest) bytes from → run.extent.address < from + bytes
    → ArePassed sizes runs rest bytes (end_of run.extent)
one_more_passed sizes runs run rest bytes from passed little =
    let whole = WholeRun-is_run sizes run.extent.address run.extent.bytes passed.apart.0 in
    record {
      apart = passed.apart.3;
      begin = omega (arith, whole.begin);
      aligned = end_aligned run.extent.address run.extent.bytes whole.begin whole.aligned whole.whole;
      within = whole.within;
      none = none;
      same = λ address low. passed.same address (omega (arith, low, passed.apart.1))
          ∙ clear_past sizes run rest address bytes low;
    }
  where
    none : (address : ℕ) → data_begin ≤ address → address < end_of run.extent
        → is_clear sizes (extents_of runs) address bytes ≡ false
    none address low high = elim (cases_lt address from) [
      | inl less ↦ passed.none address low less
      | inr later ↦ passed.same address later ∙ not_clear sizes run rest from address bytes little later high
    ]

-- ---- what was found

-- what is sought: a run of whole sectors, one at least
pub record IsSought (bytes : ℕ) : Type 0 where
  pub some : 0 < bytes
  pub whole : bytes % sector ≡ 0

at_sector : (from : ℕ) → data_begin ≤ from → (from - data_begin) % sector ≡ 0
    → sector_at ((from - data_begin) / sector) ≡ from
at_sector from begin aligned = omega arith

first_is : (sizes : Sizes) (runs : List Run) (bytes from : ℕ) → data_begin ≤ from → (from - data_begin) % sector ≡ 0
    → from < total_bytes sizes
    → is_clear sizes (extents_of runs) from bytes ≡ true
    → ((address : ℕ) → data_begin ≤ address → address < from → is_clear sizes (extents_of runs) address bytes ≡ false)
    → first_clear sizes (extents_of runs) bytes ≡ Some from
unfolding first_clear
first_is sizes runs bytes from begin aligned within clear none =
    let k = (from - data_begin) / sector in
    let at = at_sector from begin aligned in
    ap (option_map sector_at)
    (least_some (λ k. is_clear sizes (extents_of runs) (sector_at k) bytes) 0 sizes.sectors k (omega arith)
    (omega (arith, at, within))
    (subst (λ address. is_clear sizes (extents_of runs) address bytes ≡ true) (sym at) clear)
    (λ j low high. none (sector_at j) (omega arith) (omega (arith, at, high))))
    ∙ ap (λ n. Some n) at

pub first_before : (sizes : Sizes) (runs : List Run) (run : Run) (rest : List Run) (bytes from : ℕ) → IsSought bytes
    → ArePassed sizes runs (run ∷ rest) bytes from
    → from + bytes ≤ run.extent.address → first_clear sizes (extents_of runs) bytes ≡ Some from
first_before sizes runs run rest bytes from sought passed room =
    let whole = WholeRun-is_run sizes run.extent.address run.extent.bytes passed.apart.0 in
    let here : WholeRun sizes from bytes = record {
      begin = passed.begin;
      aligned = passed.aligned;
      whole = sought.whole;
      some = sought.some;
      within = omega (arith, room, whole.within);
    } in
    first_is sizes runs bytes from passed.begin passed.aligned (omega (arith, room, whole.within, whole.some))
    (passed.same from (omega arith)
    ∙ clear_here sizes run.extent.address from bytes (run ∷ rest) here
    (passed.apart.0, omega arith, passed.apart.2, passed.apart.3) room)
    passed.none

pub first_at_end : (sizes : Sizes) (runs : List Run) (bytes from : ℕ) → IsSought bytes
    → ArePassed sizes runs [] bytes from → from + bytes ≤ total_bytes sizes
    → first_clear sizes (extents_of runs) bytes ≡ Some from
first_at_end sizes runs bytes from sought passed room =
    let here : WholeRun sizes from bytes = record {
      begin = passed.begin;
      aligned = passed.aligned;
      whole = sought.whole;
      some = sought.some;
      within = room;
    } in
    first_is sizes runs bytes from passed.begin passed.aligned (omega (arith, room, sought.some))
    (passed.same from (omega arith) ∙ clear_here sizes (from + bytes) from bytes [] here tt (omega arith)) passed.none

none_is : (sizes : Sizes) (extents : List Element) (bytes : ℕ)
    → ((address : ℕ) → data_begin ≤ address → is_clear sizes extents address bytes ≡ false)
    → first_clear sizes extents bytes ≡ None
unfolding first_clear
none_is sizes extents bytes none =
    ap (option_map sector_at) (least_none (λ k. is_clear sizes extents (sector_at k) bytes) 0 sizes.sectors
    (λ k low high. none (sector_at k) (omega arith)))

pub none_at_end : (sizes : Sizes) (runs : List Run) (bytes from : ℕ) → ArePassed sizes runs [] bytes from
    → total_bytes sizes < from + bytes → first_clear sizes (extents_of runs) bytes ≡ None
none_at_end sizes runs bytes from passed little = none_is sizes (extents_of runs) bytes none where
  none : (address : ℕ) → data_begin ≤ address → is_clear sizes (extents_of runs) address bytes ≡ false
  none address low = elim (cases_lt address from) [
    | inl less ↦ passed.none address low less
    | inr later ↦ passed.same address later ∙ not_within sizes [] address bytes (omega (arith, little, later))
  ]

-- nothing is a run of no sectors, or of more than there are
pub none_of_none : (sizes : Sizes) (extents : List Element) (bytes : ℕ) → bytes ≡ 0
    → first_clear sizes extents bytes ≡ None
none_of_none sizes extents bytes is =
    none_is sizes extents bytes (λ address low. not_empty sizes extents address bytes is)

pub none_of_too_many : (sizes : Sizes) (extents : List Element) (sectors : ℕ) → sizes.sectors < sectors
    → first_clear sizes extents (sectors * sector) ≡ None
none_of_too_many sizes extents sectors many =
    none_is sizes extents (sectors * sector) (λ address low. not_within sizes extents address (sectors * sector)
    (omega (arith, many, low)))

-- ---- extents that cover the same

pub first_clear_alike : (sizes : Sizes) (extents others : List Element) (bytes : ℕ)
    → ((address : ℕ) → list_any (overlaps address bytes) extents ≡ list_any (overlaps address bytes) others)
    → first_clear sizes extents bytes ≡ first_clear sizes others bytes
unfolding first_clear is_clear
first_clear_alike sizes extents others bytes alike =
    ap (option_map sector_at)
    (least_alike (λ k. is_clear sizes extents (sector_at k) bytes) (λ k. is_clear sizes others (sector_at k) bytes) 0
    sizes.sectors
    (λ k. ap (λ b. is_run sizes (sector_at k) bytes && not b) (alike (sector_at k))))

-- ---- from an index on

pub passed_at : (sizes : Sizes) (runs rest : List Run) (i bytes from : ℕ) (run : Run) → i < length rest
    → run ≡ get_or rest i run → ArePassed sizes runs (drop i rest) bytes from
    → ArePassed sizes runs (run ∷ drop (i + 1) rest) bytes from
passed_at sizes runs rest i bytes from run short is passed =
    subst (λ later. ArePassed sizes runs later bytes from) (drop_more rest i run short
    ∙ ap (λ (first : Run). first ∷ drop (i + 1) rest) (sym is)) passed

pub passed_all : (sizes : Sizes) (runs rest : List Run) (i bytes from : ℕ) → length rest ≤ i
    → ArePassed sizes runs (drop i rest) bytes from → ArePassed sizes runs [] bytes from
passed_all sizes runs rest i bytes from long passed = subst (λ later. ArePassed sizes runs later bytes from)
    (drop_all i rest long) passed

-- ---- past packed runs

packed_passed : (sizes : Sizes) (runs rest : List Run) (count bytes from : ℕ) → 0 < bytes
    → ArePassed sizes runs rest bytes from → ArePacked from (take count (extents_of rest))
    → ArePassed sizes runs (drop count rest) bytes (end_of_last from (take count (extents_of rest)))
packed_passed sizes runs rest zero bytes from some passed packed = passed
packed_passed sizes runs [] (suc count) bytes from some passed packed = passed
packed_passed sizes runs (run ∷ rest) (suc count) bytes from some passed packed =
    packed_passed sizes runs rest count bytes (end_of run.extent) some
    (one_more_passed sizes runs run rest bytes from passed (omega (arith, some, packed.0))) packed.1

pub front_passed : (sizes : Sizes) (runs : List Run) (packed bytes : ℕ) → 0 < bytes → LieApart sizes data_begin runs
    → IsPackedFront runs packed
    → ArePassed sizes runs (drop packed runs) bytes (end_of_last data_begin (take packed (extents_of runs)))
front_passed sizes runs packed bytes some apart front = packed_passed sizes runs runs packed bytes data_begin some
    (none_passed sizes runs bytes apart) front.packed
