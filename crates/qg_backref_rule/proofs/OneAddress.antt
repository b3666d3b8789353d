-- One address: what is recorded and what is owed there, each put in order.
use Rattle.std.proofs.Common.{◌≡◌, ℕ, ◌+◌, ◌<◌, ◌≤◌, Bool, false, List, [], ◌∷◌, length, get_or, drop, refl, sym, ap}
use Rattle.std.proofs.Common.{subst, ◌∙◌, arith}
use Rattle.std.specs.Prelude.{◌==◌, ◌&&◌}
use Rattle.std.specs.List.{filter, filter_map, sum_by, prefix_len}
use Rattle.std.specs.List.Sorted.{IsPermutation, IsSortedBy}
use Rattle.std.proofs.lemmas.Bool.{ne_eqb}
use Rattle.std.proofs.lemmas.List.{at_drop_more, at_drop_all}
use Rattle.std.proofs.lemmas.List.Sums.{sum_by-cons}
use Rattle.std.proofs.lemmas.List.Sorted.{sum_by-IsPermutation, IsPermutation-map}
use Rattle.qg_items.specs.declared.extent.Reference.{Reference}
use Rattle.qg_image.specs.declared.part.ExtentPart.{ExtentPart}
use Rattle.qg_image.specs.Record.{same_reference}
use Rattle.qg_image.specs.Owed.{What, is_record, is_recorded_once, reference_told, are_references}
use Rattle.qg_refs.specs.declared.counted.Counted.{Counted}
use Rattle.qg_refs.specs.Order.{precedes}
use Rattle.qg_backref_rule.specs.Judged.{count_told, counts_told, agree}
use Rattle.qg_backref_rule.proofs.Owed.{are_references_moved}
use Rattle.qg_backref_rule.proofs.InOrder.{Up, up_by, up_map, up_drop, run_told, run_differs}

-- ---- both in order

sum_told : (entries : List Counted) → sum_by (λ (entry : Reference × ℕ). entry.1) (counts_told entries)
    ≡ sum_by (λ (entry : Counted). entry.count) entries
sum_told [] = refl
sum_told (e ∷ es) =
    let rest = sum_told es in
    omega (
      arith,
      sum_by-cons (λ (entry : Reference × ℕ). entry.1) (e.reference, e.count) (counts_told es),
      sum_by-cons
          (λ (entry : Counted). entry.count) e es,
      rest,
    )

-- they agree as the lists in order do
pub agree_in_order : (what : What) (owed owed' : List Reference) (parts : List ExtentPart) (told told' : List Counted)
    → counts_told told ≡ filter_map reference_told parts
    → IsPermutation told told' → IsPermutation owed owed'
    → agree what owed parts ≡ (is_recorded_once what (sum_by (λ (entry : Counted). entry.count) told')
    (filter is_record parts) && are_references (counts_told told') owed')
agree_in_order what owed owed' parts told told' are moved moved' =
    let sums = sum_by-IsPermutation (λ (entry : Counted). entry.count) told told' moved in
    let same = are_references_moved (counts_told told) (counts_told told') owed owed'
    (IsPermutation-map count_told told told' moved)
    (λ reference. sym (sum_by-IsPermutation _ owed owed' moved')) in
    ap (λ ws. is_recorded_once what (sum_by (λ (entry : Reference × ℕ). entry.1) ws) (filter is_record parts)
    && are_references ws owed) (sym are)
    ∙ ap (λ n. is_recorded_once what n (filter is_record parts) && are_references (counts_told told) owed)
    (sum_told told ∙ sym sums)
    ∙ ap (λ b. is_recorded_once what (sum_by (λ (entry : Counted). entry.count) told') (filter is_record parts) && b)
    same

-- the same of what calls gave
pub agree_by : (what : What) (owings owed owed' : List Reference) (parts : List ExtentPart) (told told' : List Counted)
    (refs : ℕ) (first second : Bool)
    → counts_told told ≡ filter_map reference_told parts → IsPermutation told told' → owed ≡ owings
    → IsPermutation owed owed'
    → refs ≡ sum_by (λ (entry : Counted). entry.count) told'
    → first ≡ is_recorded_once what refs (filter is_record parts) → second ≡ are_references (counts_told told') owed'
    → (first && second) ≡ agree what owings parts
agree_by what owings owed owed' parts told told' refs first second are moved same moved' sum first_is second_is =
    (λ i. first_is i && second_is i)
    ∙ ap (λ n. is_recorded_once what n (filter is_record parts) && are_references (counts_told told') owed') sum
    ∙ sym (agree_in_order what owed owed' parts told told' are moved moved') ∙ ap (λ ws. agree what ws parts) same

-- ---- one recorded reference after the other

module _ (told : List Counted) (i : ℕ) (entry : Counted) (left : List Reference)
    (sorted : IsSortedBy (λ (a : Counted) (b : Counted). precedes a.reference b.reference) told)
    (inside : i < length told)
    (is : entry ≡ get_or told i entry) (up : Up (λ r. r) left) where
  next : {Y : Type 0} (F : List Counted → Y) → F (drop i told) ≡ F (entry ∷ drop (i + 1) told)
  next F = at_drop_more F told i entry inside ∙ ap (λ e. F (e ∷ drop (i + 1) told)) (sym is)

  up_told : Up (λ (e : Reference × ℕ). e.0) ((entry.reference, entry.count) ∷ counts_told (drop (i + 1) told))
  up_told = up_map count_told (λ (e : Reference × ℕ). e.0) (entry ∷ drop (i + 1) told)
      (subst (Up (λ (e : Counted). e.reference)) (next (λ ws. ws))
      (up_drop (λ (e : Counted). e.reference) i told (up_by (λ (e : Counted). e.reference) told sorted)))

  pub next_told : (n : ℕ) → n ≡ prefix_len (same_reference entry.reference) left → n ≡ entry.count → 0 < n
      → are_references (counts_told (drop i told)) left ≡ are_references (counts_told (drop (i + 1) told)) (drop n left)
  next_told n run count some =
      next (λ ws. are_references (counts_told ws) left)
      ∙ run_told (entry.reference, entry.count) (counts_told (drop (i + 1) told)) left up_told up (sym run ∙ count)
      (omega (arith, count, some))
      ∙ ap (λ m. are_references (counts_told (drop (i + 1) told)) (drop m left)) (sym run)

  pub next_differs : (n : ℕ) → n ≡ prefix_len (same_reference entry.reference) left → (n ≡ entry.count → 0 < n → ⊥)
      → are_references (counts_told (drop i told)) left ≡ false
  next_differs n run differs =
      next (λ ws. are_references (counts_told ws) left)
      ∙ run_differs (entry.reference, entry.count) (counts_told (drop (i + 1) told)) left up_told up
      (λ same some. differs (run ∙ same) (omega (arith, run, same, some)))

none_recorded : (left : List Reference) → are_references [] left ≡ (length left == 0)
none_recorded [] = refl
none_recorded (r ∷ rs) = sym (ne_eqb (length (r ∷ rs)) 0 (λ is. omega (arith, is)))

pub all_told : (told : List Counted) (i : ℕ) (left : List Reference) → length told ≤ i
    → are_references (counts_told (drop i told)) left ≡ (length left == 0)
all_told told i left long = at_drop_all (λ ws. are_references (counts_told ws) left) told i long ∙ none_recorded left
