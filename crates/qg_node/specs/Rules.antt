-- The rule of a sound image that bytes break which are no node (this project's own).
use Rattle.qg_num.specs.declared.rule.Rule.{Rule}
use Rattle.qg_num.specs.declared.rule.Rule.TheVariants as rule
use Rattle.qg_node.specs.declared.fault.NodeFault.{NodeFault}
use Rattle.qg_node.specs.declared.fault.NodeFault.TheVariants.{Csum, Place, Level, Empty, Bounds, Order, Slack}

-- the rule that bytes break as a node
abbrev pub rule_of : NodeFault → Rule
rule_of Csum = rule.Csum
rule_of Place = rule.Place
rule_of Level = rule.Level
rule_of Empty = rule.Empty
rule_of Bounds = rule.Bounds
rule_of Order = rule.Order
rule_of Slack = rule.Slack
