-- What a walk finds where no image is read, but nodes are told (this project's own).
use Rattle.std.specs.Prelude.{ℕ, List, [], ◌∷◌, Option, Some, None, Result, Ok, Err, ◌==◌, if◌then◌else◌}
use Rattle.qg_num.specs.declared.rule.Rule.TheVariants as rule
use Rattle.qg_node.specs.declared.node.Node.{Node}
use Rattle.qg_node.specs.Nodes.{header_of}
use Rattle.qg_image.specs.declared.failure.Failure.{Failure}
use Rattle.qg_image.specs.declared.failure.Failure.TheVariants.{Broken}

-- what a walk finds at an address where this node lies, or none
abbrev pub found_there : Option Node → ℕ → Result Node Failure
found_there None address = Err (Broken rule.Slot address)
found_there (Some node) address = Ok node

-- the node at an address, among some
abbrev pub node_among : List Node → ℕ → Option Node
node_among [] address = None
node_among (node ∷ nodes) address = if (header_of node).address == address then Some node else node_among nodes address

-- what a walk finds where there are these nodes and no others
abbrev pub found_among : List Node → ℕ → Result Node Failure
found_among nodes address = found_there (node_among nodes address) address
