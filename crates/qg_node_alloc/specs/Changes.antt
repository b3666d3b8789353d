-- What calls on one node of a tree make of nodes and space (this project's own). Addresses are in bytes.
use Rattle.std.specs.Prelude.{◌≡◌, ◌≢◌, ◌⊎◌, ℕ, ◌+◌, ◌≤◌, List, Some, None, IsSome, IsTrue}
use Rattle.qg_device.specs.History.{History}
use Rattle.qg_node.specs.declared.node.Node.{Node}
use Rattle.qg_node.specs.Nodes.{header_of}
use Rattle.qg_blocks.specs.Table.{with_number}
use Rattle.qg_cow_refs.specs.Children.{with_header}
use Rattle.qg_blocks.specs.NodesFound.{fresh_at, held_at, told}
use Rattle.qg_space.specs.Holding.{free_slots, has_slot, is_free_slot}
use Rattle.qg_node_alloc.specs.declared.ground.Ground.{Ground}
use Rattle.qg_node_alloc.specs.Tellings.{MayLack, node_copy}

-- ---- a new node

-- a node that says it lies at an address
abbrev pub node_at : ℕ → Node → Node
node_at address node = with_header (record (header_of node) { address = address }) node

-- a node is fresh in a slot that was free, and elsewhere the same is told as before, whatever a disk tells
pub record Puts (old new : Ground) (now : ℕ) (node : Node) : Type 0 where
  pub free : IsTrue (is_free_slot old.space now)
  pub here : fresh_at new.blocks.draft now ≡ Some node
  pub others : (history : History) (at : ℕ) → at ≢ now
      → told new.blocks.draft history at ≡ told old.blocks.draft history at

-- a node is made: it is put, its slot is taken, and no other slot is taken or given back
pub record Makes (old new : Ground) (now : ℕ) (node : Node) : Type 0 where
  pub puts : Puts old new now (node_at now node)
  pub slots : new.space.slots ≡ with_number now old.space.slots

-- a node is copied: the copy is put, by this tree and of this generation. It is a copy of what is told, and over any
-- disk of what is in memory. Of slots only the copy's is taken, and only the node's own may have been given back
pub record Copies (old new : Ground) (history : History) (at now owner generation : ℕ) : Type 0 where
  pub copy : Node
  pub puts : Puts old new now copy
  pub owned : (header_of copy).owner ≡ owner
  pub dated : (header_of copy).generation ≡ generation
  pub same : (node : Node) → told old.blocks.draft history at ≡ Some node → copy ≡ node_copy node now owner generation
  pub lent : (node : Node) → held_at old.blocks at ≡ Some node → copy ≡ node_copy node now owner generation
  pub slots : MayLack at (with_number now old.space.slots) new.space.slots

-- a tree owns the node in the place of the one at an address: a fresh one is that node, and nothing changes; any other
-- is copied
pub record Owned (old new : Ground) (history : History) (at now owner generation : ℕ) : Type 0 where
  pub kept : IsSome (fresh_at old.blocks.draft at) → (now ≡ at) × (new ≡ old)
  pub copied : fresh_at old.blocks.draft at ≡ None → Copies old new history at now owner generation

-- one slot is taken, which was free, and a fresh node lies there, where none did. All else of space and fresh nodes is
-- as it was
pub record PutsFresh (old new : Ground) (now : ℕ) : Type 0 where
  pub free : IsTrue (is_free_slot old.space now)
  pub sizes : new.blocks.draft.sizes ≡ old.blocks.draft.sizes
  pub none : fresh_at old.blocks.draft now ≡ None
  pub here : IsSome (fresh_at new.blocks.draft now)
  pub others : (at : ℕ) → at ≢ now → fresh_at new.blocks.draft at ≡ fresh_at old.blocks.draft at
  pub space : new.space ≡ record old.space { slots = with_number now old.space.slots }

-- ---- owners

-- a node has this owner, or the one that the fresh node at the same address had
abbrev pub HasOwner : ℕ → Ground → ℕ → Node → Type 0
HasOwner owner land at node =
    ((header_of node).owner ≡ owner) ⊎ ((was : Node) × (fresh_at land.blocks.draft at ≡ Some was)
    × ((header_of was).owner ≡ (header_of node).owner))

-- each fresh node has this owner, or the one that the fresh node at its address had before
pub record IsOwnedBy (owner : ℕ) (old new : Ground) : Type 0 where
  pub each : (at : ℕ) (node : Node) → fresh_at new.blocks.draft at ≡ Some node → HasOwner owner old at node

-- ---- slots in all

-- at most so many slots are taken, all of which were free. `Gone` are addresses whose nodes a book was told are copied
-- or left: these alone may have been given back
pub record Takes (most : ℕ) (Gone : ℕ → Type 0) (old new : Ground) : Type 0 where
  pub count : free_slots old.space ≤ most + free_slots new.space
  pub less : (at : ℕ) → IsTrue (is_free_slot new.space at) → IsTrue (is_free_slot old.space at) ⊎ Gone at
  pub taken : (at : ℕ) → (Gone at → ⊥) → IsTrue (has_slot old.space at) → IsTrue (has_slot new.space at)
  pub fresh : (at : ℕ) → (Gone at → ⊥) → IsSome (fresh_at old.blocks.draft at) → IsSome (fresh_at new.blocks.draft at)
  pub only : (at : ℕ) → IsSome (fresh_at new.blocks.draft at) → IsSome (fresh_at old.blocks.draft at)
      ⊎ (IsTrue (is_free_slot old.space at) ⊎ Gone at)
