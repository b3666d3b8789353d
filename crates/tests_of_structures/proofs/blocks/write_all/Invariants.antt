use Rattle.std.proofs.Common.{◌≡◌, ℕ}
use Rattle.std.specs.Prelude.{Some}
use Rattle.std.specs.Map.{keys_of}
use Rattle.qg_node.specs.declared.node.Node.{Node}
use Rattle.qg_blocks.specs.NodesFound.{IsNodeAt, fresh_at}
use Rattle.qg_blocks.specs.Writing.{HasFlushed}
use Rattle.qg_blocks.proofs.Flushed.{IsAmong}
use Rattle.tests_of_structures.proofs.blocks.write_all.Given as goal

abbrev pub invariant-loop-address : goal.invariant-loop-address
invariant-loop-address g l = record {
  items : l.address-items ≡ keys_of l.fn.blocks.draft.fresh;
  flushed : HasFlushed l.fn.blocks.draft (g.D.Disk.history l.fn.disk) (g.D.Disk.history l.disk)
      (IsAmong l.address-items l.address-index);
  kept : (at : ℕ) (node : Node) → IsAmong l.address-items l.address-index at → fresh_at l.fn.blocks.draft at ≡ Some node
      → IsNodeAt 4096 at node;
}
