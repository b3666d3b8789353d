-- An `or` over a list of numbers is 0 where all of them are.
use Rattle.std.proofs.Common.{◌≡◌, ℕ, ◌≤◌, List, [], ◌∷◌, bit_or, refl, sym, ap, ◌∙◌, arith, inl, inr}
use Rattle.std.specs.Prelude.{◌==◌, ◌&&◌}
use Rattle.std.specs.List.{fold, list_all}
use Rattle.std.proofs.lemmas.Bool.{and_left, cases_eq, ne_eqb}
use Rattle.std.proofs.lemmas.Nat.{le_or_l}
use Rattle.std.proofs.Math.Bool.{and-true, and_assoc}
use Rattle.std.specs.Int.Bits.{or_zero_l}

zero-bit_or : (a b : ℕ) → (bit_or a b == 0) ≡ ((a == 0) && (b == 0))
zero-bit_or a b = elim (cases_eq a 0) [
  | inl is ↦ rw (is, or_zero_l b) refl
  | inr is_not ↦
      let above : a ≤ bit_or a b = le_or_l a b in
      ne_eqb (bit_or a b) 0 (λ zero. is_not (omega arith)) ∙ sym (and_left (a == 0) (b == 0) (ne_eqb a 0 is_not))
]

zero-fold : (start : ℕ) (xs : List ℕ) → (fold bit_or start xs == 0) ≡ ((start == 0) && list_all (λ x. x == 0) xs)
zero-fold start [] = sym (and-true (start == 0))
zero-fold start (x ∷ xs) =
    let rest = list_all (λ (y : ℕ). y == 0) xs in
    zero-fold (bit_or start x) xs ∙ ap (λ b. b && rest) (zero-bit_or start x) ∙ and_assoc (start == 0) (x == 0) rest

pub zero-fold-bit_or : (xs : List ℕ) → (fold bit_or 0 xs == 0) ≡ list_all (λ x. x == 0) xs
zero-fold-bit_or xs = zero-fold 0 xs
