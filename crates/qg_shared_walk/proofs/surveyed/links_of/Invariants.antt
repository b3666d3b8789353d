use Rattle.std.proofs.Common.{◌≡◌, take}
use Rattle.qg_qgroup_counts.specs.Surveyed.{links_in}
use Rattle.qg_shared_walk.proofs.surveyed.links_of.Given as goal

abbrev pub invariant-loop-node : goal.invariant-loop-node
invariant-loop-node l = l.links.items ≡ links_in (take l.node-index l.nodes)
