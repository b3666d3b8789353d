-- What stands at an address of an image (this project's own).
use Rattle.std.specs.Prelude.{ℕ, ◌+◌, Bool, ◌&&◌, nat_le, List, length, Result, Ok, Err, if◌then◌else◌}
use Rattle.qg_device.specs.History.{range}
use Rattle.qg_num.specs.declared.rule.Rule.{Rule}
use Rattle.qg_num.specs.declared.rule.Rule.TheVariants.{Slot}
use Rattle.qg_node.specs.declared.node.Node.{Node}
use Rattle.qg_node.specs.declared.fault.NodeFault.{NodeFault}
use Rattle.qg_node.specs.Reading.{node_read}
use Rattle.qg_super.specs.declared.sizes.Sizes.{Sizes}
use Rattle.qg_super.specs.Places.{is_slot}
use Rattle.qg_node.specs.Rules.{rule_of}

-- what was read, or the rule that is broken
abbrev pub ruled : Result Node NodeFault → Result Node Rule
ruled (Ok node) = Ok node
ruled (Err fault) = Err (rule_of fault)

-- the address is that of a slot, which ends inside so many bytes
unfoldable pub has_slot : Sizes → ℕ → ℕ → Bool
has_slot sizes bytes address = is_slot sizes address && nat_le (address + sizes.nodesize) bytes

-- what stands at an address of an image: a node, or the first rule that is broken there
unfoldable pub standing : Sizes → List ℕ → ℕ → Result Node Rule
standing sizes image address =
    if has_slot sizes (length image) address then ruled (node_read address (range address sizes.nodesize image)) else
    Err Slot
