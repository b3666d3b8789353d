use Rattle.std.proofs.Common.{rules}
use Rattle.qg_node.specs.Nodes.{header_of}
use Rattle.tests_of_files.proofs.ground.make_and_leave.Goals as goal

pub make_node-requires-clause-ready : goal.make_node-requires-clause-ready
make_node-requires-clause-ready g c = record {
  backed = c.in_ok-land.ensures.backed (g.D.Disk.history c.args.disk.now);
  drafted = c.in_ok-land.ensures.drafted (header_of c.leaf-node.result).generation;
  slots = search rules;
}
