use Rattle.qg_tree_edits.proofs.SlotsApart.{edits-keep-apart}
use Rattle.qg_tree_edits.proofs.NodesFew.{has-few-nodes}
use Rattle.qg_tree_edits.proofs.SlotsTaken.{takes-its-nodes}
use Rattle.qg_tree_edits.proofs.laws.slot_laws.Goals as goal

pub returns-clause-apart : goal.returns-clause-apart
returns-clause-apart c = edits-keep-apart

pub returns-clause-few : goal.returns-clause-few
returns-clause-few c = has-few-nodes

pub returns-clause-takes : goal.returns-clause-takes
returns-clause-takes c = takes-its-nodes
