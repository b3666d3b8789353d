-- What reading and writing a number are to each other (this project's own).
use Rattle.std.specs.Prelude.{◌≡◌, ℕ, ◌+◌, ◌^◌, ◌<◌, ◌≤◌, List, ◌++◌, length, take, drop}
use Rattle.qg_num.specs.Fields.{IsBytes}

-- a number of so many bits that was written behind some bytes is read there, whatever follows
abbrev pub ReadsBack : (ℕ → List ℕ) → (ℕ → List ℕ → ℕ) → ℕ → Type 0
ReadsBack bytes_of number_at bits = (n : ℕ) (front rest : List ℕ) → n < 2 ^ bits
    → number_at (length front) (front ++ (bytes_of n ++ rest)) ≡ n

-- so many bytes that were read as a number, and written again, are those bytes
abbrev pub WritesBack : (ℕ → List ℕ) → (ℕ → List ℕ → ℕ) → ℕ → Type 0
WritesBack bytes_of number_at count =
    (place : ℕ) (bytes : List ℕ) → IsBytes bytes → place + count ≤ length bytes
    → take place bytes ++ (bytes_of (number_at place bytes) ++ drop (place + count) bytes) ≡ bytes
