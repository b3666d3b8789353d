-- What a tree tells whoever keeps its slots (this project's own). Addresses are in bytes.
use Rattle.std.specs.Prelude.{◌≡◌, ℕ, ◌+◌, ◌-◌, ◌^◌, min, List, [], ◌∷◌, length}
use Rattle.qg_node.specs.Nodes.{header_of}
use Rattle.qg_blocks.specs.Table.{with_number}
use Rattle.qg_space.specs.Holding.{without_slot}
use Rattle.qg_node_alloc.specs.Tellings.{Telling}
use Rattle.qg_node_alloc.specs.Tellings.Telling.{Copied, Made, Left}

-- how many things a book was told, and the slots that the present state has by them
pub record SlotTally : Type 0 where
  pub told : ℕ
  pub slots : List ℕ

-- the slots after something was told: a copy, or a node that is made, takes one, and that of a node that is copied or
-- left is given back
abbrev pub slots_after : Telling → List ℕ → List ℕ
slots_after (Copied node copy) slots = without_slot (header_of node).address (with_number copy slots)
slots_after (Made address) slots = with_number address slots
slots_after (Left node) slots = without_slot (header_of node).address slots

-- the slots after all of it, in this order
abbrev pub slots_after_all : List Telling → List ℕ → List ℕ
slots_after_all [] slots = slots
slots_after_all (telling ∷ tellings) slots = slots_after_all tellings (slots_after telling slots)

-- the book after it was told these, in this order; it counts to the last number of 64 bits
pub record FollowsSlots (before : SlotTally) (tellings : List Telling) (after : SlotTally) : Type 0 where
  pub told : after.told ≡ min (before.told + length tellings) (2 ^ 64 - 1)
  pub slots : after.slots ≡ slots_after_all tellings before.slots
