-- The steps that a command takes (this project's own).
use Rattle.std.specs.Prelude.{◌≡◌, ℕ, List, [], Some, Result, IfOk, IsTrue}
use Rattle.qg_device.specs.History.{Event, History, Recorded}
use Rattle.qg_num.specs.declared.answer.Answer.{Answer}
use Rattle.qg_num.specs.declared.command.Command.{Command}
use Rattle.qg_num.specs.declared.fault.Stop.{Stop}
use Rattle.qg_image.specs.State.{State, layout_of}
use Rattle.qg_machine.specs.FileChange.{FileChange, file_change}
use Rattle.qg_machine.specs.Work.{AreBounded, HasCounted, StepsTaken, is_accepted}
use Rattle.qg_image_commits.specs.Stored.{IsStoreOf, Stored}

-- Two counters have counted the steps that a command took in a store, over a disk with these histories before and after
-- it: the owners of nothing were looked up so far. Where it is a file command that was accepted, from a state to
-- another one, and the disk tells what it holds, its steps are bounded by what it touched
pub record TakesSteps (command : Command) (result : Result Answer Stop) (old new : Stored) (before after : History)
    (looks looks' reads reads' : ℕ) : Type 0 where
  pub taken : StepsTaken
  pub counted : HasCounted taken looks looks' reads reads'
  pub none : taken.looked_up ≡ []
  pub bounded : IfOk result (λ answer. IsTrue (is_accepted answer) → (state changed : State) (events : List Event)
      (change : FileChange) → IsStoreOf old state before → before ≡ Recorded events → IsStoreOf new changed after
      → file_change state command ≡ Some change → AreBounded state change (layout_of changed) taken)
