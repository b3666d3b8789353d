-- The steps that a call takes, and how many an accepted file command may take (this project's own). Two counters are
-- handed to the calls: `looks` has one step for each look-up of the owners of what begins at an address, `reads` one
-- for each node that is asked for.
use Rattle.std.specs.Prelude.{◌≡◌, ℕ, ◌+◌, ◌*◌, ◌≤◌, Bool, true, false, List, length}
use Rattle.std.specs.List.{sum_by}
use Rattle.qg_num.specs.declared.answer.Answer.{Answer}
use Rattle.qg_num.specs.declared.answer.Answer.TheVariants as answer
use Rattle.qg_image.specs.declared.element.Element.{Element}
use Rattle.qg_image.specs.Owed.{What, Nothing, Data, Block, what_at}
use Rattle.qg_image.specs.State.{Layout, State, layout_of}
use Rattle.qg_machine.specs.FileChange.{FileChange}
use Rattle.qg_machine.specs.Near.{near}
use Rattle.qg_machine.specs.Refusals.{change_copies}
use Rattle.qg_machine.specs.Touched.{touched}

-- ---- steps

-- the steps that a call took: it asked for no more than so many nodes, and looked up the owners of what begins at these
-- addresses, one after the other
pub record StepsTaken : Type 0 where
  pub reads : ℕ
  pub looked_up : List ℕ

-- two counters have counted them: `looks` rose by one for each address that was looked up, and `reads` by no more nodes
-- than were asked for
pub record HasCounted (taken : StepsTaken) (looks looks' reads reads' : ℕ) : Type 0 where
  pub looked : looks' ≡ looks + length taken.looked_up
  pub asked : reads' ≤ reads + taken.reads

-- ---- look-ups

-- how many bytes something has that begins at an address: a node as many as each node has; nothing has none
abbrev pub bytes_of_what : ℕ → What → ℕ
bytes_of_what nodesize Nothing = 0
bytes_of_what nodesize (Data bytes) = bytes
bytes_of_what nodesize (Block header full) = nodesize

-- what begins at an address, whole
abbrev pub element_at : Layout → ℕ → Element
element_at layout address =
    record { address = address; bytes = bytes_of_what layout.nodesize (what_at layout address) }

-- how many nodes a look-up of the owners of what begins at an address may ask for, in a state: 64, and 64 for each that
-- counts as lying near
unfoldable pub reads_of_look_up : State → ℕ → ℕ
reads_of_look_up state address = 64 * (1 + near state (element_at (layout_of state) address))

-- ---- file commands

-- what is answered so was not refused
abbrev pub is_accepted : Answer → Bool
is_accepted (answer.Refused why) = false
is_accepted _ = true

-- The steps of an accepted file command are bounded by what it touched, between a state and the layout after it: at
-- most two look-ups for each node that it may copy; and at most 256 nodes asked for each thing that it touched and for
-- eight besides, and those of its look-ups, in that state
pub record AreBounded (state : State) (change : FileChange) (after : Layout) (taken : StepsTaken) : Type 0 where
  pub looks : length taken.looked_up ≤ 2 * change_copies state change
  pub reads : taken.reads
      ≤ 256 * (touched state change after + 8) + sum_by (reads_of_look_up state) taken.looked_up
