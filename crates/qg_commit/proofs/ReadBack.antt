-- Nodes that were written are read from their texts.
use Rattle.std.proofs.Common.{◌≡◌, ℕ, ◌+◌, ◌<◌, inl, inr, List, length, get_or, Ok, sym, ap, subst, ◌∙◌, arith}
use Rattle.std.proofs.lemmas.Bool.{cases_eq}
use Rattle.std.proofs.lemmas.List.{get_or_default}
use Rattle.qg_node.specs.declared.node.Node.{Node}
use Rattle.qg_node.specs.Nodes.{header_of}
use Rattle.qg_node.specs.NodeText.{node_text}
use Rattle.qg_node.specs.Reading.{node_read}
use Rattle.qg_commit.specs.Calls.{IsReadBack}

-- the text that was written is read as the node
pub written-IsReadBack : (nodesize : ℕ) (node : Node) (bytes : List ℕ) → bytes ≡ node_text nodesize node
    → node_read (header_of node).address bytes ≡ Ok node → IsReadBack nodesize node
written-IsReadBack nodesize node bytes text read = ap (node_read (header_of node).address) (sym text) ∙ read

-- those before a place are, and so is the one there
pub more-IsReadBack : (nodesize : ℕ) (nodes : List Node) (i : ℕ) (node : Node) → i < length nodes
    → node ≡ get_or nodes i node → IsReadBack nodesize node
    → ((k : ℕ) (d : Node) → k < i → IsReadBack nodesize (get_or nodes k d)) → (k : ℕ) (d : Node) → k < i + 1
    → IsReadBack nodesize (get_or nodes k d)
more-IsReadBack nodesize nodes i node within is read before k d below = elim (cases_eq k i) [
  | inl same ↦ subst (λ (n : ℕ). IsReadBack nodesize (get_or nodes n d)) (sym same)
      (subst (IsReadBack nodesize) (is ∙ get_or_default nodes i node d within) read)
  | inr other ↦ before k d (omega arith)
]
