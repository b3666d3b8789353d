-- What the text of a superblock and the reading of bytes are to each other (this project's own).
use Rattle.std.specs.Prelude.{◌≡◌, ℕ, ◌^◌, ◌<◌, List, Some}
use Rattle.qg_super.specs.declared.superblock.Super.{Super}
use Rattle.qg_super.specs.SuperText.{IsSuperText, super_read}

-- the text of a superblock is read as that superblock
abbrev pub ReadsBack : Type 0
ReadsBack = (place : ℕ) (bytes : List ℕ) (super : Super) → IsSuperText place bytes super
    → super_read place bytes ≡ Some super

-- bytes that are read as a superblock are its text
abbrev pub WritesBack : Type 0
WritesBack = (place : ℕ) (bytes : List ℕ) (super : Super) → super_read place bytes ≡ Some super
    → IsSuperText place bytes super

-- bytes are the text of one superblock at most
abbrev pub OneSuper : Type 0
OneSuper = (place : ℕ) (bytes : List ℕ) (a b : Super) → IsSuperText place bytes a → IsSuperText place bytes b → a ≡ b

-- and for one place at most
abbrev pub OnePlace : Type 0
OnePlace = (place other : ℕ) (bytes : List ℕ) (a b : Super) → place < 2 ^ 64 → other < 2 ^ 64
    → IsSuperText place bytes a → IsSuperText other bytes b → place ≡ other
