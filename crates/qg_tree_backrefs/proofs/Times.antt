-- How often a list has a reference.
use Rattle.std.proofs.Common.{◌≡◌, ◌≢◌, ℕ, ◌+◌, ◌<◌, ◌≤◌, Bool, true, false, List, [], ◌∷◌, ◌++◌, length, take, drop}
use Rattle.std.proofs.Common.{map, get_or, Option, Some, None, refl, sym, ap, subst, ◌∙◌, arith, inl, inr, add-zero}
use Rattle.std.specs.Prelude.{◌==◌, if◌then◌else◌}
use Rattle.std.specs.List.{All, count_by, filter_map}
use Rattle.std.proofs.lemmas.Bool.{cases_Bool, cond-true, cond-false, eq-eqb}
use Rattle.std.proofs.lemmas.Bool.Decides.{eqb_tells}
use Rattle.std.proofs.lemmas.List.{get_or-map, length-map, take_more, map-append, take-append-drop}
use Rattle.std.proofs.lemmas.List.Sums.{sum_by-cons, sum_by-append}
use Rattle.std.proofs.lemmas.List.Elements.{filter_map-append}
use Rattle.qg_items.specs.declared.extent.Reference.{Reference}
use Rattle.qg_image.specs.Record.{same_reference}
use Rattle.qg_image.specs.Owed.{Owing}
use Rattle.qg_refs.proofs.RankOrder.{same_itself}
use Rattle.qg_backref_rule.specs.declared.owing.Owing.{Owing as Listed}
use Rattle.qg_backref_rule.specs.OwedLists.{owing_told, owings_told}
use Rattle.qg_tree_backrefs.specs.Exchange.{those_at, times}

-- ---- one

-- 1 where a reference is one
abbrev pub one_of : Reference → Reference → ℕ
one_of reference other = if same_reference reference other then 1 else 0

-- how often one has it
abbrev pub hits : Owing → ℕ → Reference → ℕ
hits owing at reference = if owing.address == at then one_of reference owing.reference else 0

pub times-nil : (at : ℕ) (reference : Reference) → times [] at reference ≡ 0
unfolding times
times-nil at reference = refl

pub times-append : (xs ys : List Owing) (at : ℕ) (reference : Reference)
    → times (xs ++ ys) at reference ≡ times xs at reference + times ys at reference
unfolding times
times-append xs ys at reference =
    ap (λ (rs : List Reference). count_by (same_reference reference) rs)
    (filter_map-append (λ (owing : Owing). if owing.address == at then Some owing.reference else None) xs ys)
    ∙ sum_by-append (λ (other : Reference). one_of reference other) (those_at xs at) (those_at ys at)

pub times_here : (owing : Owing) (at : ℕ) (reference : Reference)
    → owing.address ≡ at → times (owing ∷ []) at reference ≡ one_of reference owing.reference
unfolding times
times_here owing at reference is =
    let same : (owing.address == at) ≡ true = eq-eqb owing.address at is in
    ap (λ (b : Bool). count_by (same_reference reference)
    (filter_map (λ (o : Option Reference). o) ((if b then Some owing.reference else None) ∷ []))) same
    ∙ sum_by-cons (λ (other : Reference). one_of reference other) owing.reference []
    ∙ add-zero (one_of reference owing.reference)

pub times_there : (owing : Owing) (at : ℕ) (reference : Reference)
    → owing.address ≢ at → times (owing ∷ []) at reference ≡ 0
unfolding times
times_there owing at reference differ = elim (eqb_tells owing.address at) [
  | inl (equal, same) ↦ absurd (differ same)
  | inr (unequal, other) ↦ ap (λ (b : Bool). count_by (same_reference reference)
      (filter_map (λ (o : Option Reference). o) ((if b then Some owing.reference else None) ∷ []))) unequal
]

-- one has itself once
pub times-own : (owing : Owing) → times (owing ∷ []) owing.address owing.reference ≡ 1
times-own owing = times_here owing owing.address owing.reference refl ∙ cond-true _ _ _ (same_itself owing.reference)

-- ---- the one at an index

module _ (owings : List Listed) (i : ℕ) (owing : Listed) (inside : i < length owings)
    (is : owing ≡ get_or owings i owing) where
  -- those in front of it and it
  pub told-more : owings_told (take (i + 1) owings) ≡ owings_told (take i owings) ++ owing_told owing ∷ []
  told-more =
      ap owings_told (take_more owings i owing inside)
      ∙ map-append owing_told (take i owings) (get_or owings i owing ∷ [])
      ∙ ap (λ (o : Listed). owings_told (take i owings) ++ owing_told o ∷ []) (sym is)

  -- and those behind it
  pub told-parts : owings_told owings
      ≡ (owings_told (take i owings) ++ owing_told owing ∷ []) ++ owings_told (drop (i + 1) owings)
  told-parts =
      ap owings_told (sym (take-append-drop (i + 1) owings))
      ∙ map-append owing_told (take (i + 1) owings) (drop (i + 1) owings)
      ∙ ap (λ (front : List Owing). front ++ owings_told (drop (i + 1) owings)) told-more

  -- what holds of each holds of it
  pub told-each : (P : Owing → Type 0) → All P (owings_told owings) → P (owing_told owing)
  told-each P all =
      let inside_told : i < length (owings_told owings) = omega (arith, inside, length-map owings owing_told) in
      let here = all i (owing_told owing) inside_told in
      subst P (get_or-map owing_told owings i owing (owing_told owing) inside ∙ ap owing_told (sym is)) here
