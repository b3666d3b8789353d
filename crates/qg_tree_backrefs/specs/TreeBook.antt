-- What a subvolume's book has (this project's own). Addresses are in bytes.
use Rattle.std.specs.Prelude.{ℕ, List, Option}
use Rattle.qg_refs.specs.declared.kept.Kept.{Kept}

-- The references that are kept, and those that the last commit recorded; the subvolume, how many bytes its nodes have,
-- and the generation to come; and where the first reference lies that was told and could not be given or taken
pub record TreeBook : Type 0 where
  pub refs : List (ℕ × Kept)
  pub held : List (ℕ × Kept)
  pub tree : ℕ
  pub nodesize : ℕ
  pub next : ℕ
  pub misfit : Option ℕ
