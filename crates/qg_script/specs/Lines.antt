-- The lines of what a feed and its source have (this project's own).
use Rattle.std.specs.Prelude.{◌≡◌, ◌≢◌, ◌⊎◌, ℕ, ◌+◌, List, [], ◌∷◌, ◌++◌, length, All, Option, Some, None, ⊤}
use Rattle.std.specs.Io.KnownBytes.{prepend_known, IsAtEnd}
use Rattle.qg_grammar.specs.ScriptText.{script_lines}
use Rattle.qg_script.specs.Feeding.{Feeding}

-- what a feed holds, and then what its source has left where that is told
abbrev pub pending : Feeding → Option (List ℕ) → Option (List ℕ)
pending feeding left = prepend_known feeding.rest left

-- bytes lost their first line, which is this one: up to its newline, or all of them where there is none
pub record LosesLine (old new line : List ℕ) : Type 0 where
  pub first : script_lines old ≡ line ∷ script_lines new
  pub plain : All (λ byte. byte ≢ 10) line
  pub parted : (old ≡ line ++ 10 ∷ new) ⊎ ((old ≡ line) × (new ≡ []))

-- what is pending lost its first line, which is this one; it is told after the call exactly where it was before
abbrev pub TakesLine : Option (List ℕ) → Option (List ℕ) → List ℕ → Type 0
TakesLine None None line = ⊤
TakesLine None (Some new) line = ⊥
TakesLine (Some old) None line = ⊥
TakesLine (Some old) (Some new) line = LosesLine old new line

-- nothing was pending where that is told, and the feed holds nothing
pub record IsOver (old new : Option (List ℕ)) (held : List ℕ) : Type 0 where
  pub at_end : IsAtEnd old
  pub same : new ≡ old
  pub none_held : held ≡ []

-- the count of what was taken rose by as many bytes as the source lost; what it has left is told after the call exactly
-- where it was before
abbrev pub CountsTaken : Option (List ℕ) → Option (List ℕ) → ℕ → ℕ → Type 0
CountsTaken None None before now = ⊤
CountsTaken None (Some new) before now = ⊥
CountsTaken (Some old) None before now = ⊥
CountsTaken (Some old) (Some new) before now = length old + before ≡ length new + now
