-- Fresh nodes that are written to a disk (this project's own).
use Rattle.std.specs.Prelude.{◌≡◌, ◌≢◌, ℕ, List, Some, None, Ok, IsTrue}
use Rattle.qg_device.specs.History.{Event, History, Recorded, content}
use Rattle.qg_node.specs.declared.node.Node.{Node}
use Rattle.qg_super.specs.declared.sizes.Sizes.{Sizes}
use Rattle.qg_blocks.specs.NodesInMemory.{Draft}
use Rattle.qg_blocks.specs.Standing.{has_slot, standing}
use Rattle.qg_blocks.specs.NodesFound.{IsNodeAt, StandsThere, fresh_at}

-- a fresh node can be written to a disk of so many bytes: it has a text, and its address is that of a slot inside
pub record IsPlaced (sizes : Sizes) (bytes address : ℕ) (node : Node) : Type 0 where
  pub kept : IsNodeAt sizes.nodesize address node
  pub slot : IsTrue (has_slot sizes bytes address)

-- each fresh node can
pub record ArePlaced (draft : Draft) (bytes : ℕ) : Type 0 where
  pub each : (address : ℕ) (node : Node) → fresh_at draft address ≡ Some node → IsPlaced draft.sizes bytes address node

-- each fresh node stands at its address, where the disk tells. Over any disk it has a text and names its address
pub record AreWritten (draft : Draft) (history : History) : Type 0 where
  pub stands : (address : ℕ) (node : Node) → fresh_at draft address ≡ Some node
      → StandsThere draft.sizes history address node
  pub kept : (address : ℕ) (node : Node) → fresh_at draft address ≡ Some node
      → IsNodeAt draft.sizes.nodesize address node

-- where a disk tells afterwards it told before, and at these addresses stands what stood there
abbrev pub Keeps : Sizes → History → History → (ℕ → Type 0) → Type 0
Keeps sizes before after Q =
    (later : List Event) → after ≡ Recorded later
    → (events : List Event) × (before ≡ Recorded events)
    × ((at : ℕ) → Q at → standing sizes (content later) at ≡ standing sizes (content events) at)

-- a node was written at an address, and in no other slot anything
pub record HasWritten (sizes : Sizes) (before after : History) (address : ℕ) (node : Node) : Type 0 where
  pub here : (later : List Event) → after ≡ Recorded later → standing sizes (content later) address ≡ Ok node
  pub others : Keeps sizes before after (λ at. at ≢ address)

-- the fresh nodes at the addresses of which Q tells were written, in any order, and in slots nothing but fresh nodes
pub record HasFlushed (draft : Draft) (before after : History) (Q : ℕ → Type 0) : Type 0 where
  pub here : (address : ℕ) (node : Node) → Q address → fresh_at draft address ≡ Some node
      → StandsThere draft.sizes after address node
  pub others : Keeps draft.sizes before after (λ at. fresh_at draft at ≡ None)
