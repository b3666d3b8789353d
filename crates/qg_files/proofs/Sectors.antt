-- Numbers of whole sectors, in bytes.
use Rattle.std.proofs.Common.{◌≡◌, ℕ, ◌+◌, ◌-◌, ◌%◌, true, min, max, subst, arith, inl, inr}
use Rattle.std.proofs.lemmas.Bool.{cases_lt, eqb-true, eq-eqb}
use Rattle.qg_super.specs.Places.{sector}
use Rattle.qg_image.specs.FilesOf.{is_aligned}

pub sectors-add : (a b : ℕ) → a % sector ≡ 0 → b % sector ≡ 0 → (a + b) % sector ≡ 0
sectors-add a b whole_a whole_b = omega arith

pub sectors-sub : (a b : ℕ) → a % sector ≡ 0 → b % sector ≡ 0 → (a - b) % sector ≡ 0
sectors-sub a b whole_a whole_b = omega arith

pub sectors-min : (a b : ℕ) → a % sector ≡ 0 → b % sector ≡ 0 → min a b % sector ≡ 0
sectors-min a b whole_a whole_b = elim (cases_lt a b) [
  | inl below ↦ let is : a ≡ min a b = omega arith in subst (λ n. n % sector ≡ 0) is whole_a
  | inr above ↦ let is : b ≡ min a b = omega arith in subst (λ n. n % sector ≡ 0) is whole_b
]

pub sectors-max : (a b : ℕ) → a % sector ≡ 0 → b % sector ≡ 0 → max a b % sector ≡ 0
sectors-max a b whole_a whole_b = elim (cases_lt a b) [
  | inl below ↦ let is : b ≡ max a b = omega arith in subst (λ n. n % sector ≡ 0) is whole_b
  | inr above ↦ let is : a ≡ max a b = omega arith in subst (λ n. n % sector ≡ 0) is whole_a
]

pub aligned-add : (a b : ℕ) → is_aligned a ≡ true → is_aligned b ≡ true → is_aligned (a + b) ≡ true
aligned-add a b whole_a whole_b =
    eq-eqb ((a + b) % sector) 0 (sectors-add a b (eqb-true (a % sector) 0 whole_a) (eqb-true (b % sector) 0 whole_b))
