-- What a tree tells the book of references, and what the book then does to nodes and space (this project's own).
-- Addresses are in bytes.
use Rattle.std.specs.Prelude.{◌≡◌, ◌≢◌, ◌⊎◌, ℕ, false, List, [], Some, None, IsSome, IsTrue}
use Rattle.qg_device.specs.History.{History}
use Rattle.qg_node.specs.declared.node.Node.{Node}
use Rattle.qg_node.specs.Nodes.{header_of, own_items, own_pointers}
use Rattle.qg_cow_refs.specs.Copying.{copy_of}
use Rattle.qg_blocks.specs.NodesFound.{fresh_at, told}
use Rattle.qg_space.specs.Holding.{has_slot, is_free_slot, without_slot}
use Rattle.qg_node_alloc.specs.declared.ground.Ground.{Ground}

-- one thing that a book is told: a node, as it then stood, was copied to a slot; a node was made in a slot; the tree
-- reaches a node, as it then stood, no more
pub data Telling : Type 0 where
  Copied : (node : Node) (copy : ℕ) → Telling
  Made : (address : ℕ) → Telling
  Left : (node : Node) → Telling

-- ---- copies

-- the copy of a node at an address, by a tree, of a generation: the same items or pointers
abbrev pub node_copy : Node → ℕ → ℕ → ℕ → Node
node_copy node address owner generation = (copy_of (record { node = node; full = false }) address generation owner).node

-- a node is the copy of another at an address, by some tree, of some generation
abbrev pub IsCopyAt : ℕ → Node → Node → Type 0
IsCopyAt address node copy = (owner : ℕ) × (generation : ℕ) × (copy ≡ node_copy node address owner generation)

-- a clean node, and a fresh one that is its copy
pub record IsCopied (land : Ground) (history : History) (at copy : ℕ) : Type 0 where
  pub clean : fresh_at land.blocks.draft at ≡ None
  pub fresh : IsSome (fresh_at land.blocks.draft copy)
  pub same : (node new : Node) → told land.blocks.draft history at ≡ Some node
      → fresh_at land.blocks.draft copy ≡ Some new → IsCopyAt copy node new

-- ---- what the book does

-- slots are as they were, or without one
abbrev pub MayLack : ℕ → List ℕ → List ℕ → Type 0
MayLack address before after = (after ≡ before) ⊎ (after ≡ without_slot address before)

-- fresh nodes and the slots of the present state are as they were
pub record TakesNone (old new : Ground) : Type 0 where
  pub draft : new.blocks.draft ≡ old.blocks.draft
  pub slots : new.space.slots ≡ old.space.slots

-- fresh nodes are as they were. Of the slots of the present state this one may have been given back, and no other is
-- given or taken
pub record GivesBack (old new : Ground) (at : ℕ) : Type 0 where
  pub draft : new.blocks.draft ≡ old.blocks.draft
  pub slots : MayLack at old.space.slots new.space.slots

-- nodes elsewhere are told as before, whatever a disk tells; a fresh node here may have been forgotten. Of the slots of
-- the present state this one may have been given back, and no other is given or taken
pub record LetsGo (old new : Ground) (at : ℕ) : Type 0 where
  pub here : (fresh_at new.blocks.draft at ≡ fresh_at old.blocks.draft at) ⊎ (fresh_at new.blocks.draft at ≡ None)
  pub others : (history : History) (other : ℕ) → other ≢ at
      → told new.blocks.draft history other ≡ told old.blocks.draft history other
  pub slots : MayLack at old.space.slots new.space.slots

-- ---- what a tree does between two tellings

-- fresh nodes stay fresh, maybe edited, new ones lie in slots that were free, and slots may be taken. No other node and
-- no run changes
pub record Spares (old new : Ground) : Type 0 where
  pub sizes : new.blocks.draft.sizes ≡ old.blocks.draft.sizes
  pub fresh : (at : ℕ) → IsSome (fresh_at old.blocks.draft at) → IsSome (fresh_at new.blocks.draft at)
  pub only : (at : ℕ) → IsSome (fresh_at new.blocks.draft at) → IsSome (fresh_at old.blocks.draft at)
      ⊎ IsTrue (is_free_slot old.space at)
  pub taken : (at : ℕ) → IsTrue (has_slot old.space at) → IsTrue (has_slot new.space at)
  pub space : new.space ≡ record old.space { slots = new.space.slots }

-- nodes are fresh where nodes were, each of the level that the one before had
pub record KeepsLevels (old new : Ground) : Type 0 where
  pub sizes : new.blocks.draft.sizes ≡ old.blocks.draft.sizes
  pub each : (at : ℕ) (node : Node) → fresh_at new.blocks.draft at ≡ Some node
      → (was : Node) × (fresh_at old.blocks.draft at ≡ Some was) × ((header_of was).level ≡ (header_of node).level)
  pub stays : (at : ℕ) → IsSome (fresh_at old.blocks.draft at) → IsSome (fresh_at new.blocks.draft at)

-- a node has no items and no pointers
abbrev pub HoldsNothing : Node → Type 0
HoldsNothing node = (own_items node ≡ []) × (own_pointers node ≡ [])

-- a fresh node, which names its own address, was emptied before it is left, and is then of any level. Nodes are fresh
-- where nodes were, each other one of the level that the one before had, and space is as it was
pub record Empties (old new : Ground) (at : ℕ) : Type 0 where
  pub space : new.space ≡ old.space
  pub sizes : new.blocks.draft.sizes ≡ old.blocks.draft.sizes
  pub each : (q : ℕ) (node : Node) → fresh_at new.blocks.draft q ≡ Some node
      → (was : Node) × (fresh_at old.blocks.draft q ≡ Some was)
      × (((header_of was).level ≡ (header_of node).level) ⊎ ((q ≡ at) × HoldsNothing node))
  pub stays : (q : ℕ) → IsSome (fresh_at old.blocks.draft q) → IsSome (fresh_at new.blocks.draft q)
  pub here : (node : Node) × (fresh_at new.blocks.draft at ≡ Some node) × HoldsNothing node
      × ((header_of node).address ≡ at)
