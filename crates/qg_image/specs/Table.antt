-- Finite maps from numbers, as lists of a number and a value that ascend by number (this project's own).
use Rattle.std.specs.Prelude.{ℕ, Bool, not, List, [], ◌∷◌, map, Option, Some, None, is_some, ◌==◌, nat_lt}
use Rattle.std.specs.Prelude.{if◌then◌else◌}
use Rattle.std.specs.List.{filter}

-- the value at a number
abbrev pub value_at : {A : Type 0} → ℕ → List (ℕ × A) → Option A
value_at n [] = None
value_at n (entry ∷ entries) = if entry.0 == n then Some entry.1 else value_at n entries

-- there is a value at a number
abbrev pub has_key : {A : Type 0} → ℕ → List (ℕ × A) → Bool
has_key n entries = is_some (value_at n entries)

-- the numbers at which there are values
abbrev pub keys_of : {A : Type 0} → List (ℕ × A) → List ℕ
keys_of entries = map (λ entry. entry.0) entries

-- the same with this value at a number
abbrev pub with_value : {A : Type 0} → ℕ → A → List (ℕ × A) → List (ℕ × A)
with_value n value [] = (n, value) ∷ []
with_value n value (entry ∷ entries) =
    if nat_lt n entry.0 then (n, value) ∷ entry ∷ entries
    else (if entry.0 == n then (n, value) ∷ entries else entry ∷ with_value n value entries)

-- the same without a number
abbrev pub without_key : {A : Type 0} → ℕ → List (ℕ × A) → List (ℕ × A)
without_key n entries = filter (λ entry. not (entry.0 == n)) entries

-- a set of numbers, ascending, with this one
abbrev pub with_number : ℕ → List ℕ → List ℕ
with_number n [] = n ∷ []
with_number n (m ∷ ms) = if nat_lt n m then n ∷ m ∷ ms else (if n == m then m ∷ ms else m ∷ with_number n ms)

-- the numbers of a list, ascending, each once
abbrev pub number_set : List ℕ → List ℕ
number_set [] = []
number_set (n ∷ ns) = with_number n (number_set ns)
