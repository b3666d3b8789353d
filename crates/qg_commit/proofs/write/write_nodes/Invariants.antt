use Rattle.std.proofs.Common.{◌≡◌, ◌≤◌, List, drop, length}
use Rattle.std.specs.List.{AllByRecursion}
use Rattle.qg_device.specs.History.{History, history_after}
use Rattle.qg_commit.specs.Calls.{node_calls, with_nodes, IsWritable}
use Rattle.qg_commit.proofs.Fronts.{ComesTo}
use Rattle.qg_commit.proofs.write.write_nodes.Given as goal

abbrev pub invariant-loop-node : goal.invariant-loop-node
invariant-loop-node g l = record {
  calls :
      history_after (with_nodes (length l.buffer) (drop l.node-index l.nodes)) (g.D.Disk.history l.disk)
      ≡ history_after (with_nodes (length l.buffer) l.nodes) (g.D.Disk.history l.initial.disk);
  leads : (new : History) → ComesTo (node_calls (length l.buffer) (drop l.node-index l.nodes))
      (g.D.Disk.history l.disk) new
      → ComesTo (node_calls (length l.buffer) l.nodes) (g.D.Disk.history l.initial.disk) new;
  writable : AllByRecursion (IsWritable (length l.buffer)) (drop l.node-index l.nodes);
  size : g.D.Disk.size l.initial.disk ≤ g.D.Disk.size l.disk;
  count : g.D.Disk.faults l.disk ≡ g.D.Disk.faults l.initial.disk;
}
