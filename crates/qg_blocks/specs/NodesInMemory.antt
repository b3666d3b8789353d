-- The nodes in memory (this project's own).
use Rattle.std.specs.Prelude.{ℕ, List, []}
use Rattle.std.specs.Ordering.{nat_cmp}
use Rattle.std.specs.BTreeMap.{is_at}
use Rattle.std.specs.Map.{set_value}
use Rattle.qg_node.specs.declared.node.Node.{Node}
use Rattle.qg_super.specs.declared.sizes.Sizes.{Sizes}

-- what nodes in memory make of an image: the fresh ones, each with its address, ascending; and where nodes may lie
pub record Draft : Type 0 where
  pub fresh : List (ℕ × Node)
  pub sizes : Sizes

-- these and the clean ones, each with its address, the one used last first, of which there are at most `bound`
pub record Held : Type 0 where
  pub draft : Draft
  pub clean : List (ℕ × Node)
  pub bound : ℕ

-- the most clean nodes that any bound lets be there
abbrev pub most_clean : ℕ
most_clean = 256

-- slots of so many bytes, and how many; of data the least image
abbrev pub slots_of : ℕ → ℕ → Sizes
slots_of nodesize slots = record { nodesize = nodesize; slots = slots; sectors = 16 }

-- no node is fresh
abbrev pub nothing_fresh : Sizes → Draft
nothing_fresh sizes = record { fresh = []; sizes = sizes }

-- another fresh node in the place of the one at an address
abbrev pub with_node : Draft → ℕ → Node → Draft
with_node draft address node = record draft { fresh = set_value (is_at (nat_cmp address)) draft.fresh node }
