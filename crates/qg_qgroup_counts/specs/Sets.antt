-- Sets of subvolumes, each told by its place in a list (this project's own).
use Rattle.std.specs.Prelude.{◌≡◌, ◌≤◌, ◌<◌, ◌↔◌, ◌⊎◌, ◌*◌, ◌/◌, ◌%◌, min, ℕ, List, [], length, slice_index_or}
use Rattle.std.specs.List.{All, Contains}
use Rattle.std.specs.List.Sorted.{IsStrictlyIncreasing}
use Rattle.qg_owner_rule.specs.Marks.{HasMark}

-- a row of words of 64 bits has a member: the index 64 w + b is told by bit b of word w
abbrev pub HasMember : List ℕ → ℕ → Type 0
HasMember row member = HasMark row (member / 64) (member % 64)

-- the words of a set; none for a number that is no set's
abbrev pub row_of : List (List ℕ) → ℕ → List ℕ
row_of rows set = slice_index_or rows set []

-- all sets stand as they were, and there may be more
pub record Stand (old new : List (List ℕ)) : Type 0 where
  pub more : length old ≤ length new
  pub same : (set : ℕ) → set < length old → row_of new set ≡ row_of old set

-- one of some sets has a member
abbrev pub IsInOne : List (List ℕ) → List ℕ → ℕ → Type 0
IsInOne rows sets member = (set : ℕ) × Contains sets set × HasMember (row_of rows set) member

-- a set has the members of a row and those of some sets, and no other; sets before it stand
pub record IsUnionOf (old : List (List ℕ)) (own sets : List ℕ) (new : List (List ℕ)) (set : ℕ) : Type 0 where
  pub stand : Stand old new
  pub inside : All (λ one. one < length old) sets → set < length new
  pub members : (member : ℕ) → HasMember (row_of new set) member ↔ (HasMember own member ⊎ IsInOne old sets member)

-- those are told, ascending, that are members and below a bound
pub record AreMembers (row : List ℕ) (bound : ℕ) (members : List ℕ) : Type 0 where
  pub ascending : IsStrictlyIncreasing members
  pub told : (member : ℕ) → Contains members member ↔ ((member < bound) × HasMember row member)

-- so it is of those that words before this one tell
abbrev pub AreMembersBefore : List ℕ → ℕ → ℕ → List ℕ → Type 0
AreMembersBefore row word bound members = AreMembers row (min bound (word * 64)) members
