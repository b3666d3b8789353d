-- What a run takes of its input (this project's own).
use Rattle.std.specs.Prelude.{◌≡◌, ◌⊎◌, ⊤, ℕ, ◌+◌, ◌≤◌, List, [], length, take, Option, Some, None, ◌==◌}
use Rattle.std.specs.List.{count_by}
use Rattle.std.specs.Io.KnownBytes.{prepend_known}
use Rattle.qg_grammar.specs.ScriptText.{script_lines, longest_script}
use Rattle.qg_program.specs.declared.status.Status.{Status}
use Rattle.qg_program.specs.declared.status.Status.TheVariants.{Done, TooLong}

-- the lines of some bytes that end at a newline: there are as many as newlines
abbrev pub ended_lines : List ℕ → List (List ℕ)
ended_lines bytes = take (count_by (λ byte. byte == 10) bytes) (script_lines bytes)

-- These are the lines of what was taken of an input, where so much of it is left. The input is the bytes that were
-- taken and then those that are left, and the lines are those that ended within the bytes taken. Where nothing is left
-- they may be all lines of the input, the last one too, which has no newline.
pub record AreLinesTaken (input : List ℕ) (left : Option (List ℕ)) (lines : List (List ℕ)) : Type 0 where
  pub taken : List ℕ
  pub parted : Some input ≡ prepend_known taken left
  pub are : (lines ≡ ended_lines taken) ⊎ ((left ≡ Some []) × (lines ≡ script_lines input))

-- how many bytes of the input were taken: at most one more than a script may have; so many where the run ends by that,
-- and no more than a script may have where all was read
pub record Takes (status : Status) (input left : List ℕ) : Type 0 where
  pub count : ℕ
  pub taken : length input ≡ count + length left
  pub at_most : count ≤ longest_script + 1
  pub too_long : status ≡ TooLong → count ≡ longest_script + 1
  pub read_to_its_end : status ≡ Done → (left ≡ []) × (count ≤ longest_script)

-- a source that tells its bytes tells after the call how many were taken
abbrev pub IsTaken : Status → Option (List ℕ) → Option (List ℕ) → Type 0
IsTaken status None None = ⊤
IsTaken status None (Some left) = ⊥
IsTaken status (Some input) None = ⊥
IsTaken status (Some input) (Some left) = Takes status input left
