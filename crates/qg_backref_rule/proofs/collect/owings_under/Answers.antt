use Rattle.std.proofs.Common.{rules}
use Rattle.std.proofs.lemmas.List.{append-nil}
use Rattle.qg_backref_rule.proofs.collect.owings_under.Goals as goal

pub returns-in-Leaf : goal.returns-in-Leaf
returns-in-Leaf c = search rules

pub returns-in-Inner : goal.returns-in-Inner
returns-in-Inner c = search (rules, append-nil)
