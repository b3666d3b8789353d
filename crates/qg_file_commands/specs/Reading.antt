-- How many nodes a file command asks for (this project's own).
use Rattle.std.specs.Prelude.{◌≡◌, ℕ, ◌+◌, ◌*◌, ◌≤◌, Some, IsTrue}
use Rattle.qg_device.specs.History.{History}
use Rattle.qg_num.specs.declared.answer.Answer.{Answer}
use Rattle.qg_num.specs.declared.command.Command.{Command}
use Rattle.qg_image.specs.State.{State}
use Rattle.qg_machine.specs.FileChange.{FileChange, file_change}
use Rattle.qg_machine.specs.Work.{is_accepted}
use Rattle.qg_open_image.specs.declared.open_image.OpenImage.{OpenImage}
use Rattle.qg_open_image.specs.Keeping.{IsKeptOf}

-- One that is accepted, where it is kept of a state, asks for no more than 61 nodes for each piece that it touches and
-- for three besides: `reads` stood at one number before and stands at another
abbrev pub AsksForFew : OpenImage → History → Command → Answer → ℕ → ℕ → Type 0
AsksForFew kept history command answer before now = IsTrue (is_accepted answer) → (state : State) (change : FileChange)
    → IsKeptOf kept state history → file_change state command ≡ Some change
    → now ≤ before + 61 * (change.pieces + 3)
