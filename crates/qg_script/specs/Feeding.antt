-- What was taken of a source, as callers see it (this project's own).
use Rattle.std.specs.Prelude.{◌≡◌, ◌≢◌, ℕ, ◌+◌, ◌-◌, ◌<◌, ◌≤◌, List, ◌∷◌, ◌++◌, length, take, drop, slice_index, All}
use Rattle.std.specs.Prelude.{Contains, Option}
use Rattle.std.specs.List.{AllWithin}
use Rattle.std.specs.Io.KnownBytes.{prepend_known, IsAtEnd}
use Rattle.qg_grammar.specs.ScriptText.{longest_script}

-- how many bytes were taken, and those of them that were not handed out yet
pub record Feeding : Type 0 where
  pub taken : ℕ
  pub rest : List ℕ

-- at most one byte more is taken than a script may have, and no byte past what it may have is handed out
pub record IsWithinLimit (feeding : Feeding) : Type 0 where
  pub taken : feeding.taken ≤ longest_script + 1
  pub held : length feeding.rest ≤ feeding.taken
  pub handed_out : feeding.taken ≤ longest_script + length feeding.rest

-- what a feed holds lies between two places of a buffer of so many bytes, which is no longer than the longest script
-- asks for
pub record IsFed (size handed filled : ℕ) (feeding : Feeding) : Type 0 where
  pub order : handed ≤ filled
  pub bound : filled ≤ size
  pub short : size ≤ longest_script + 1
  pub within : IsWithinLimit feeding

-- a line that ends at a place is handed out, and the newline behind it, if one is held
abbrev pub handed_out : Feeding → ℕ → Feeding
handed_out feeding end = record feeding { rest = drop (end + 1) feeding.rest }

-- the bytes held that lie within the longest script
abbrev pub within_limit : Feeding → List ℕ
within_limit feeding = take (longest_script - (feeding.taken - length feeding.rest)) feeding.rest

-- a line is held whole: some byte held within the limit is a newline
abbrev pub HoldsLine : Feeding → Type 0
HoldsLine feeding = Contains (within_limit feeding) 10

-- no line is held whole: no byte held is a newline
abbrev pub HoldsNoNewline : Feeding → Type 0
HoldsNoNewline feeding = All (λ byte. byte ≢ 10) feeding.rest

-- the first line held was handed out, and no more was taken
pub record HandsOutHeld (old new : Feeding) (line : List ℕ) : Type 0 where
  pub parted : old.rest ≡ line ++ 10 ∷ new.rest
  pub plain : All (λ byte. byte ≢ 10) line
  pub taken : new.taken ≡ old.taken

-- no more may be taken, and the line that comes next does not end within the longest script
pub record IsTooLong (feeding : Feeding) : Type 0 where
  pub taken : feeding.taken ≡ longest_script + 1
  pub no_newline : All (λ byte. byte ≢ 10) (within_limit feeding)

-- the most bytes that may still be handed out
abbrev pub most_to_come : Feeding → ℕ
most_to_come feeding = longest_script + 1 - feeding.taken + length feeding.rest

-- the first newline from a place on
pub record IsFirstNewline (bytes : List ℕ) (from place : ℕ) : Type 0 where
  pub within : place < length bytes
  pub newline : slice_index bytes place ≡ 10
  pub before : AllWithin (λ byte. byte ≢ 10) bytes from place

-- some bytes more were taken of a source, and none only at its end
pub record TakesMore (old new : Feeding) (before after : Option (List ℕ)) (count : ℕ) : Type 0 where
  pub bytes : List ℕ
  pub as_many : length bytes ≡ count
  pub taken : new.taken ≡ old.taken + count
  pub rest : new.rest ≡ old.rest ++ bytes
  pub left : before ≡ prepend_known bytes after
  pub none_only_at_end : count ≡ 0 → IsAtEnd before
