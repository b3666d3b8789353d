-- Whole runs of the machine over the lines of a script (this project's own).
use Rattle.std.specs.Prelude.{◌≡◌, ◌⊎◌, ℕ, List, [], ◌∷◌, ◌++◌}
use Rattle.qg_num.specs.declared.answer.Answer.{Answer}
use Rattle.qg_num.specs.declared.command.Command.{Command}
use Rattle.qg_grammar.specs.ScriptText.{IsLineOf}
use Rattle.qg_grammar.specs.ReplyText.{reply_text, no_line}
use Rattle.qg_image.specs.State.{State}
use Rattle.qg_machine.specs.Step.{Step, Stays}

-- the line is that of a command, which the machine does or refuses
pub record Obeys (old : State) (line reply : List ℕ) (commits : List State) (new : State) : Type 0 where
  pub command : Command
  pub answer : Answer
  pub asked : IsLineOf line command
  pub step : Step old command answer commits new
  pub told : reply ≡ reply_text answer

-- the line is no command's
pub record Ignores (old : State) (line reply : List ℕ) (commits : List State) (new : State) : Type 0 where
  pub asked : (command : Command) → IsLineOf line command → ⊥
  pub stays : Stays old commits new
  pub told : reply ≡ no_line

-- one line is answered
abbrev pub Turn : State → List ℕ → List ℕ → List State → State → Type 0
Turn old line reply commits new = Obeys old line reply commits new ⊎ Ignores old line reply commits new

-- these lines are answered by these replies, one after the other; these states are committed on the way, in their order
abbrev pub Run : State → List (List ℕ) → List (List ℕ) → List State → State → Type 0
Run old [] [] commits new = (new ≡ old) × (commits ≡ [])
Run old (line ∷ lines) (reply ∷ replies) commits new =
    (mid : State) × (first : List State) × (later : List State) × Turn old line reply first mid
    × Run mid lines replies later new × (commits ≡ first ++ later)
Run old [] (reply ∷ replies) commits new = ⊥
Run old (line ∷ lines) [] commits new = ⊥
