-- Slots that the last commit holds besides those of the present state (this project's own).
use Rattle.std.specs.Prelude.{◌≡◌, ◌⊎◌, ◌↔◌, ℕ, List}
use Rattle.std.specs.List.{Contains}
use Rattle.qg_space.specs.Holding.{Holding}

-- the last commit holds what the present state has, and some slots besides. The present state has what it had
pub record HoldsBesides (old new : Holding) (others : List ℕ) : Type 0 where
  pub rest : new ≡ record old { held_runs = old.runs; slots = new.slots; held_slots = new.held_slots }
  pub slots : (slot : ℕ) → Contains new.slots slot ↔ Contains old.slots slot
  pub held_slots : (slot : ℕ) → Contains new.held_slots slot ↔ (Contains old.slots slot ⊎ Contains others slot)
