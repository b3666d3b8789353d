-- How slots are taken and given back, many at once (this project's own).
use Rattle.std.specs.Prelude.{◌≡◌, ℕ, ◌↔◌}
use Rattle.std.specs.List.{Contains}
use Rattle.qg_space.specs.Holding.{Holding}

-- the present state has other slots, and nothing else changes
pub record ChangesSlots (old new : Holding) (Has : ℕ → Type 0) : Type 0 where
  pub rest : new ≡ record old { slots = new.slots }
  pub slots : (slot : ℕ) → Contains new.slots slot ↔ Has slot
