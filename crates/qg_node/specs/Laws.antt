-- What reading a node and its text are to each other (this project's own).
use Rattle.std.specs.Prelude.{◌≡◌, ◌↔◌, ℕ, List, length, Ok}
use Rattle.qg_num.specs.Fields.{IsBytes}
use Rattle.qg_node.specs.declared.node.Node.{Node}
use Rattle.qg_node.specs.Fits.{NodeFits}
use Rattle.qg_node.specs.Nodes.{header_of}
use Rattle.qg_node.specs.NodeText.{IsNode, IsNodeSize, IsNodeText, node_text}
use Rattle.qg_node.specs.Reading.{node_read}

-- bytes are read as a node at an address exactly where they are its text there
abbrev pub ReadsTexts : Type 0
ReadsTexts = (at : ℕ) (bytes : List ℕ) (node : Node) → IsBytes bytes → IsNodeSize (length bytes)
    → (node_read at bytes ≡ Ok node) ↔ (IsNodeText bytes at node × NodeFits node)

-- the text of a node is read as the node, at the address that its header names
abbrev pub ReadsBack : Type 0
ReadsBack = (size : ℕ) (node : Node) → IsNodeSize size → IsNode size node → NodeFits node
    → node_read (header_of node).address (node_text size node) ≡ Ok node

-- bytes are the text of one node at most, whatever their address
abbrev pub OneNode : Type 0
OneNode =
    (at at' : ℕ) (bytes : List ℕ) (node node' : Node) → IsNodeSize (length bytes) → NodeFits node → NodeFits node'
    → IsNodeText bytes at node → IsNodeText bytes at' node' → node ≡ node'

-- a node's text has as many bytes as it was asked for, and each number of it is a byte
abbrev pub FillsItsSize : Type 0
FillsItsSize = (size : ℕ) (node : Node) → IsNode size node → NodeFits node → (length (node_text size node) ≡ size)
    × IsBytes (node_text size node)
