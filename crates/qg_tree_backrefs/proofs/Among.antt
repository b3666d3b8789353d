-- What records take that are among others.
use Rattle.std.proofs.Common.{◌≡◌, ◌+◌, ◌≤◌, Bool, true, false, List, [], ◌∷◌, ◌++◌, arith, refl, sym, ◌∙◌, inl, inr}
use Rattle.std.specs.Prelude.{◌||◌}
use Rattle.std.specs.List.{sum_by}
use Rattle.std.proofs.lemmas.Bool.{cases_Bool, cond-false, cond-true}
use Rattle.std.proofs.lemmas.List.Folds.{list_any-append}
use Rattle.std.proofs.lemmas.List.Sums.{sum_by-cons}
use Rattle.qg_image.specs.Record.{Record, record_bytes, records_bytes, same_record}
use Rattle.qg_weighed.specs.Laws.{is_among}
use Rattle.qg_weighed.proofs.Distinct.{adds, bytes-alike, bytes-one}

-- one more takes no more than its item
adds-few : (rest : List Record) (one : Record) → adds rest one ≤ record_bytes one
adds-few rest one = elim (cases_Bool (is_among rest one)) [
  | inl there ↦ let none : adds rest one ≡ 0 = cond-true _ _ _ there in omega (arith, none)
  | inr new ↦ let own : adds rest one ≡ record_bytes one = cond-false _ _ _ new in omega (arith, own)
]

-- some more take no less
bytes-behind : (xs ys : List Record) → records_bytes ys ≤ records_bytes (xs ++ ys)
bytes-behind [] ys = omega arith
bytes-behind (x ∷ xs) ys = omega (arith, bytes-one x (xs ++ ys), bytes-behind xs ys)

-- and no more than their items besides
pub bytes-in_front : (xs ys : List Record) → records_bytes (xs ++ ys) ≤ sum_by record_bytes xs + records_bytes ys
bytes-in_front [] ys = omega arith
bytes-in_front (x ∷ xs) ys =
    omega (
      arith,
      bytes-one x (xs ++ ys),
      adds-few (xs ++ ys) x,
      bytes-in_front xs ys,
      sum_by-cons record_bytes x xs,
    )

covered : (a b : Bool) → (a ≡ true → b ≡ true) → (b || a) ≡ b
covered a true within = refl
covered true false within = sym (within refl)
covered false false within = refl

-- records that are all among others take no more
pub bytes-among : (xs ys : List Record) → ((one : Record) → is_among xs one ≡ true → is_among ys one ≡ true)
    → records_bytes xs ≤ records_bytes ys
bytes-among xs ys within =
    let alike : records_bytes (ys ++ xs) ≡ records_bytes ys =
    bytes-alike (ys ++ xs) ys (λ one.
    list_any-append (same_record one) ys xs ∙ covered (is_among xs one) (is_among ys one) (within one)) in
    omega (arith, alike, bytes-behind ys xs)
