-- What subvolumes count by portions: elements of which each has its bytes and the number of the set of those who reach
-- it (btrfs-qgroup(8), "referenced" and "exclusive"; the form is this project's own). Counters are in bytes.
use Rattle.std.specs.Prelude.{◌<◌, ◌+◌, ◌/◌, ◌%◌, ◌^◌, ◌==◌, ℕ, zero, suc, Bool, true, false, List, [], ◌∷◌}
use Rattle.std.specs.Prelude.{slice_index}
use Rattle.std.specs.Int.{bit_at}
use Rattle.qg_num.specs.declared.counters.Counters.{Counters}
use Rattle.qg_qgroup_counts.specs.Sets.{row_of}
use Rattle.qg_qgroup_counts.specs.declared.counting.Portion.{Portion}

-- a number where something is so, otherwise 0
unfoldable pub given : Bool → ℕ → ℕ
given true n = n
given false n = 0

-- the bytes of the portions whose set passes a test
unfoldable pub bytes_where : (ℕ → Bool) → List Portion → ℕ
bytes_where test [] = 0
bytes_where test (portion ∷ portions) = given (test portion.set) portion.bytes + bytes_where test portions

-- the sum of the numbers whose index passes a test, where the first has this index
unfoldable pub sum_where : (ℕ → Bool) → ℕ → List ℕ → ℕ
sum_where test first [] = 0
sum_where test first (n ∷ ns) = given (test first) n + sum_where test (first + 1) ns

-- a row of words has a member
abbrev pub row_has : List ℕ → ℕ → Bool
row_has row member = bit_at (slice_index row (member / 64)) (member % 64) == 1

-- how many of so many subvolumes are members
unfoldable pub member_count : List ℕ → ℕ → ℕ
member_count row zero = 0
member_count row (suc bound) = given (row_has row bound) 1 + member_count row bound

-- the subvolume at an index is a member of a set
abbrev pub is_in : List (List ℕ) → ℕ → ℕ → Bool
is_in rows subvolume set = row_has (row_of rows set) subvolume

-- ---- on the way there

-- nothing is counted
abbrev pub nothing : Counters
nothing = record { rfer = 0; excl = 0 }

-- so many bytes more can be counted
abbrev pub HasRoom : ℕ → Counters → Type 0
HasRoom bytes counters = (counters.rfer + bytes < 2 ^ 64) × (counters.excl + bytes < 2 ^ 64)
