-- What a search for a place in a list tells of the parts on its two sides.
use Rattle.std.proofs.Common.{◌≡◌, ℕ, ◌+◌, ◌<◌, ◌≤◌, true, false, Bool, List, length, take, drop, sym, subst, arith}
use Rattle.std.specs.List.{All}
use Rattle.std.specs.List.Sorted.{IsPartitionPoint}
use Rattle.std.proofs.lemmas.List.{get_or-take, get_or-drop, length-take-le, length-drop}

pub front_of_point : {A : Type 0} (p : A → Bool) (P : A → Type 0) (xs : List A) (i : ℕ) → i ≤ length xs
    → ((x : A) → p x ≡ true → P x) → IsPartitionPoint (λ x. p x ≡ true) (λ x. p x ≡ false) xs i → All P (take i xs)
front_of_point p P xs i bound means point = λ k d short.
    let inside : k < i = omega (arith, length-take-le i xs bound) in
    subst P (sym (get_or-take i xs k d inside)) (means _ (point.0 k d (omega arith) inside))

pub back_of_point : {A : Type 0} (p : A → Bool) (P : A → Type 0) (xs : List A) (i : ℕ)
    → ((x : A) → p x ≡ false → P x) → IsPartitionPoint (λ x. p x ≡ true) (λ x. p x ≡ false) xs i → All P (drop i xs)
back_of_point p P xs i means point = λ k d short.
    subst P (sym (get_or-drop i xs k d)) (means _ (point.1 (i + k) d (omega arith) (omega (arith, length-drop i xs))))
