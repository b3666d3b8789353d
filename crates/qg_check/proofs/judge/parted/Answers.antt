use Rattle.std.proofs.Common.{sym, ap, ◌∙◌}
use Rattle.std.specs.Option.{option_map}
use Rattle.qg_check.specs.declared.trees.QuotaTree.{QuotaTree}
use Rattle.qg_check.specs.Trees.{quota_nodes_read}
use Rattle.qg_check.proofs.judge.parted.Goals as goal

pub returns-in-Some-clause-quota : goal.returns-in-Some-clause-quota
returns-in-Some-clause-quota c = ap (option_map (λ (tree : QuotaTree). tree.quota)) (sym c.in-Some.is)

pub returns-in-Some-clause-nodes : goal.returns-in-Some-clause-nodes
returns-in-Some-clause-nodes c = ap quota_nodes_read (sym c.in-Some.is)

pub returns-in-None-clause-quota : goal.returns-in-None-clause-quota
returns-in-None-clause-quota c = ap (option_map (λ (tree : QuotaTree). tree.quota)) (sym c.in-None.is)

pub returns-in-None-clause-nodes : goal.returns-in-None-clause-nodes
returns-in-None-clause-nodes c = c.new.ensures ∙ ap quota_nodes_read (sym c.in-None.is)
