use Rattle.std.proofs.Common.{◌≤◌, Err, List, Ok, Result, arith, length, ℕ}
use Rattle.std.specs.Prelude.{IfOk}
use Rattle.qg_num.specs.Fields.{IsBytes}
use Rattle.qg_node.specs.declared.fault.ReadFault.{ReadFault}
use Rattle.qg_node.specs.declared.node.Node.{Node}
use Rattle.qg_node.specs.NodeText.{IsNodeText}
use Rattle.qg_node.specs.Reading.{ReadsAs, node_read}
use Rattle.qg_node.proofs.Found.{node_found}
use Rattle.qg_node.proofs.reading.read_node.Goals as goal

is_found : (at : ℕ) (bytes : List ℕ) (read : Result Node ReadFault) → IsBytes bytes → 101 ≤ length bytes
    → ReadsAs read (node_read at bytes) → IfOk read (λ node. IsNodeText bytes at node)
is_found at bytes (Ok node) are long reads = (node_found at bytes node are long reads).text
is_found at bytes (Err fault) are long reads = tt

pub returns-clause-found : goal.returns-clause-found
returns-clause-found c = is_found c.args.at c.args.bytes.now c.node_read.result (λ i. omega (arith, c.type_inv.bytes i))
    (omega arith) c.node_read.ensures
