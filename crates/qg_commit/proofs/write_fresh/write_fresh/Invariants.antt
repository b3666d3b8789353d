use Rattle.std.proofs.Common.{◌≡◌, ◌<◌, ◌≤◌, ℕ, List, drop, get_or, length}
use Rattle.std.specs.List.{AllByRecursion}
use Rattle.qg_device.specs.History.{History, history_after}
use Rattle.qg_node.specs.declared.node.Node.{Node}
use Rattle.qg_commit.specs.Calls.{IsReadBack, IsWritable, node_calls, with_nodes}
use Rattle.qg_commit.proofs.Fronts.{ComesTo}
use Rattle.qg_commit.specs.Writing.{fresh_nodes}
use Rattle.qg_commit.proofs.write_fresh.write_fresh.Given as goal

abbrev pub invariant-loop-address : goal.invariant-loop-address
invariant-loop-address g l = record {
  calls :
      history_after (with_nodes (length l.buffer) (drop l.address-index (fresh_nodes l.blocks.draft)))
      (g.D.Disk.history l.disk)
      ≡ history_after (with_nodes (length l.buffer) (fresh_nodes l.blocks.draft)) (g.D.Disk.history l.initial.disk);
  leads : (new : History)
      → ComesTo (node_calls (length l.buffer) (drop l.address-index (fresh_nodes l.blocks.draft)))
      (g.D.Disk.history l.disk) new
      → ComesTo (node_calls (length l.buffer) (fresh_nodes l.blocks.draft)) (g.D.Disk.history l.initial.disk) new;
  read : (k : ℕ) (d : Node) → k < l.address-index
      → IsReadBack (length l.buffer) (get_or (fresh_nodes l.blocks.draft) k d);
  writable : AllByRecursion (IsWritable (length l.buffer)) (drop l.address-index (fresh_nodes l.blocks.draft));
  size : g.D.Disk.size l.initial.disk ≤ g.D.Disk.size l.disk;
  count : g.D.Disk.faults l.disk ≡ g.D.Disk.faults l.initial.disk;
}
