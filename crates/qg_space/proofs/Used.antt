-- What is held by the present state or by the last commit is what runs there are. Addresses and lengths are in bytes.
use Rattle.std.proofs.Common.{◌≡◌, ℕ, ◌*◌, ◌<◌, ◌≤◌, Bool, true, false, List, [], ◌∷◌, ◌++◌, refl, sym, ap, ◌∙◌, arith}
use Rattle.std.proofs.Common.{inl, inr}
use Rattle.std.specs.Prelude.{◌==◌, ◌&&◌, ◌||◌, not}
use Rattle.std.specs.List.{list_any}
use Rattle.std.proofs.lemmas.Bool.{and_parts, and_right, or_right, cases_Bool, cases_lt, ne_eqb, true≢false}
use Rattle.std.proofs.lemmas.List.Folds.{list_any-append}
use Rattle.qg_super.specs.declared.sizes.Sizes.{Sizes}
use Rattle.qg_super.specs.Places.{sector, is_run}
use Rattle.qg_super.proofs.Runs.{WholeRun-is_run}
use Rattle.qg_image.specs.declared.element.Element.{Element}
use Rattle.qg_image.specs.Space.{overlaps}
use Rattle.qg_space.specs.Run.{Run}
use Rattle.qg_space.specs.Holding.{is_clear, first_clear, is_that_run}
use Rattle.qg_space.specs.Lying.{extents_of, present_of, held_of, end_of, LieApart}
use Rattle.qg_space.proofs.Apart.{extents_where, where_first, where_skips}
use Rattle.qg_space.proofs.Gaps.{first_clear_alike}

any_first : (p : Element → Bool) (test : Run → Bool) (run : Run) (runs : List Run) → test run ≡ true
    → list_any p (extents_where test (run ∷ runs)) ≡ (p run.extent || list_any p (extents_where test runs))
any_first p test run runs passes = ap (list_any p) (where_first test run runs passes)

any_skips : (p : Element → Bool) (test : Run → Bool) (run : Run) (runs : List Run) → test run ≡ false
    → list_any p (extents_where test (run ∷ runs)) ≡ list_any p (extents_where test runs)
any_skips p test run runs fails = ap (list_any p) (where_skips test run runs fails)

in_both : (o present held all : Bool) → (present || held) ≡ all → ((o || present) || (o || held)) ≡ (o || all)
in_both true present held all is = refl
in_both false present held all is = is

in_first : (o present held all : Bool) → (present || held) ≡ all → ((o || present) || held) ≡ (o || all)
in_first true present held all is = refl
in_first false present held all is = is

in_second : (o present held all : Bool) → (present || held) ≡ all → (present || (o || held)) ≡ (o || all)
in_second true present held all is = or_right present true refl
in_second false present held all is = is

-- an extent of some run passes a test where one of the present runs' or one of the held runs' does
any_held : (p : Element → Bool) (sizes : Sizes) (from : ℕ) (runs : List Run) → LieApart sizes from runs
    → (list_any p (present_of runs) || list_any p (held_of runs)) ≡ list_any p (extents_of runs)
any_held p sizes from [] apart = refl
any_held p sizes from (run ∷ runs) apart =
    let rest = any_held p sizes (end_of run.extent) runs apart.3 in
    let present = list_any p (present_of runs) in
    let held = list_any p (held_of runs) in
    let all = list_any p (extents_of runs) in
    elim (cases_Bool run.present) [
      | inl is ↦ elim (cases_Bool run.held) [
        | inl also ↦
            ap (λ b. b || list_any p (held_of (run ∷ runs))) (any_first p (λ run. run.present) run runs is)
            ∙ ap (λ b. (p run.extent || present) || b) (any_first p (λ run. run.held) run runs also)
            ∙ in_both (p run.extent) present held all rest
        | inr absent ↦
            ap (λ b. b || list_any p (held_of (run ∷ runs))) (any_first p (λ run. run.present) run runs is)
            ∙ ap (λ b. (p run.extent || present) || b) (any_skips p (λ run. run.held) run runs absent)
            ∙ in_first (p run.extent) present held all rest
      ]
      | inr absent ↦ elim (cases_Bool run.held) [
        | inl also ↦
            ap (λ b. b || list_any p (held_of (run ∷ runs))) (any_skips p (λ run. run.present) run runs absent)
            ∙ ap (λ b. present || b) (any_first p (λ run. run.held) run runs also)
            ∙ in_second (p run.extent) present held all rest
        | inr neither ↦ absurd (true≢false (sym apart.2 ∙ ap (λ b. b || run.held) absent ∙ neither))
      ]
    ]

pub used_alike : (p : Element → Bool) (sizes : Sizes) (from : ℕ) (runs : List Run) → LieApart sizes from runs
    → list_any p (present_of runs ++ held_of runs) ≡ list_any p (extents_of runs)
used_alike p sizes from runs apart = list_any-append p (present_of runs) (held_of runs)
    ∙ any_held p sizes from runs apart

pub is_clear_used : (sizes : Sizes) (from : ℕ) (runs : List Run) (address bytes : ℕ) → LieApart sizes from runs
    → is_clear sizes (present_of runs ++ held_of runs) address bytes ≡ is_clear sizes (extents_of runs) address bytes
unfolding is_clear
is_clear_used sizes from runs address bytes apart =
    ap (λ b. is_run sizes address bytes && not b) (used_alike (overlaps address bytes) sizes from runs apart)

pub first_clear_used : (sizes : Sizes) (from : ℕ) (runs : List Run) (bytes : ℕ) → LieApart sizes from runs
    → first_clear sizes (present_of runs ++ held_of runs) bytes ≡ first_clear sizes (extents_of runs) bytes
first_clear_used sizes from runs bytes apart =
    first_clear_alike sizes (present_of runs ++ held_of runs) (extents_of runs) bytes
    (λ address. used_alike (overlaps address bytes) sizes from runs apart)

-- no run has more sectors than there are
pub has_few : (sizes : Sizes) (from : ℕ) (runs : List Run) (address sectors : ℕ) → LieApart sizes from runs
    → sizes.sectors < sectors
    → list_any (is_that_run address (sectors * sector)) (present_of runs) ≡ false
has_few sizes from [] address sectors apart many = refl
has_few sizes from (run ∷ runs) address sectors apart many =
    let whole = WholeRun-is_run sizes run.extent.address run.extent.bytes apart.0 in
    let rest = has_few sizes (end_of run.extent) runs address sectors apart.3 many in
    let other = and_right (run.extent.address == address) (run.extent.bytes == sectors * sector)
    (ne_eqb run.extent.bytes (sectors * sector) (λ same. omega (arith, same, many, whole.within, whole.begin))) in
    elim (cases_Bool run.present) [
      | inl is ↦
          any_first (is_that_run address (sectors * sector)) (λ run. run.present) run runs is
          ∙ ap (λ b. b || list_any (is_that_run address (sectors * sector)) (present_of runs)) other ∙ rest
      | inr absent ↦ any_skips (is_that_run address (sectors * sector)) (λ run. run.present) run runs absent ∙ rest
    ]

pub few_sectors : (sizes : Sizes) (from : ℕ) (runs : List Run) (address sectors : ℕ) → LieApart sizes from runs
    → list_any (is_that_run address (sectors * sector)) (present_of runs) ≡ true → sectors ≤ sizes.sectors
few_sectors sizes from runs address sectors apart has = elim (cases_lt sizes.sectors sectors) [
  | inl many ↦ absurd (true≢false (sym has ∙ has_few sizes from runs address sectors apart many))
  | inr few ↦ few
]

pub clear_within : (sizes : Sizes) (extents : List Element) (address sectors : ℕ)
    → is_clear sizes extents address (sectors * sector) ≡ true → sectors ≤ sizes.sectors
unfolding is_clear
clear_within sizes extents address sectors clear =
    let whole = WholeRun-is_run sizes address (sectors * sector)
    (and_parts (is_run sizes address (sectors * sector))
    (not (list_any (overlaps address (sectors * sector)) extents)) clear).0 in
    omega (arith, whole.within, whole.begin)
