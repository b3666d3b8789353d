-- Nodes and space together, and what stands of them between calls (this project's own). Addresses are in bytes.
use Rattle.std.specs.Prelude.{◌≡◌, ℕ, Some, IsTrue, Contains}
use Rattle.qg_device.specs.History.{History}
use Rattle.std.specs.Prelude.{List}
use Rattle.qg_node.specs.declared.node.Node.{Node}
use Rattle.qg_node.specs.Nodes.{header_of}
use Rattle.qg_super.specs.Places.{is_served, is_slot}
use Rattle.qg_blocks.specs.NodesFound.{IsBacked, IsNodeAt, fresh_at}
use Rattle.qg_space.specs.Holding.{Holding, has_slot}
use Rattle.qg_node_alloc.specs.declared.ground.Ground.{Ground}

-- nodes and space are those of one image, whose sizes are served
pub record IsGround (land : Ground) : Type 0 where
  pub served : IsTrue (is_served land.space.sizes)
  pub nodesize : land.blocks.draft.sizes.nodesize ≡ land.space.sizes.nodesize
  pub slots : land.blocks.draft.sizes.slots ≡ land.space.sizes.slots

-- a fresh node that a commit may write: it has a text and names its address, it has the generation to come, and it lies
-- in a slot that the present state has and the last commit has not
pub record IsDraftAt (space : Holding) (generation at : ℕ) (node : Node) : Type 0 where
  pub kept : IsNodeAt space.sizes.nodesize at node
  pub dated : (header_of node).generation ≡ generation
  pub slot : IsTrue (is_slot space.sizes at)
  pub taken : IsTrue (has_slot space at)
  pub apart : Contains space.held_slots at → ⊥

-- nodes and space are of one image, and each fresh node is one that a commit may write
pub record IsDrafted (land : Ground) (generation : ℕ) : Type 0 where
  pub sizes : IsGround land
  pub each : (at : ℕ) (node : Node) → fresh_at land.blocks.draft at ≡ Some node
      → IsDraftAt land.space generation at node

-- what a call leaves so, whatever it answers: clean nodes are those of the disk, fresh ones may be written, sizes and
-- the bound on clean nodes are as they were, and so are the runs of the present state and what the last commit holds
pub record Rests (old new : Ground) (history : History) (generation : ℕ) : Type 0 where
  pub backed : IsBacked new.blocks history
  pub drafted : IsDrafted new generation
  pub node_sizes : new.blocks.draft.sizes ≡ old.blocks.draft.sizes
  pub bound : new.blocks.bound ≡ old.blocks.bound
  pub sizes : new.space.sizes ≡ old.space.sizes
  pub runs : new.space.runs ≡ old.space.runs
  pub held_slots : new.space.held_slots ≡ old.space.held_slots
  pub held_runs : new.space.held_runs ≡ old.space.held_runs
