-- What is held by a state of the machine (this project's own).
use Rattle.std.specs.Prelude.{◌≡◌, ℕ, ◌↔◌}
use Rattle.std.specs.List.{Contains}
use Rattle.qg_image.specs.Table.{keys_of}
use Rattle.qg_image.specs.declared.element.Element.{Element}
use Rattle.qg_image.specs.State.{State}
use Rattle.qg_image.specs.Space.{present_extents}
use Rattle.qg_space.specs.Holding.{Holding}

-- what is held is what the files and the layout of a state name, and what its last commit holds
pub record IsHoldingOf (holding : Holding) (state : State) : Type 0 where
  pub sizes : holding.sizes ≡ state.sizes
  pub runs : (run : Element) → Contains holding.runs run ↔ Contains (present_extents state) run
  pub held_runs : (run : Element) → Contains holding.held_runs run ↔ Contains state.held.extents run
  pub slots : (slot : ℕ) → Contains holding.slots slot ↔ Contains (keys_of state.layout) slot
  pub held_slots : (slot : ℕ) → Contains holding.held_slots slot ↔ Contains state.held.nodes slot
