-- A fresh node that was edited where it lies.
use Rattle.std.proofs.Common.{◌≡◌, ℕ, sym, subst, ◌∙◌}
use Rattle.std.specs.Prelude.{Option, Some, Result, Ok, Err, IfOk}
use Rattle.qg_num.specs.declared.fault.BlockFault.{BlockFault}
use Rattle.qg_node.specs.declared.node.Node.{Node}
use Rattle.qg_blocks.specs.NodesFound.{fresh_at}
use Rattle.qg_edit.specs.Outcome.{IsCutOf, RestIsNode}
use Rattle.qg_node_alloc.specs.declared.ground.Ground.{Ground}
use Rattle.qg_node_alloc.proofs.Lands.{IsSome-is}
use Rattle.qg_node_alloc.proofs.Editing.{edited, edited-here}
use Rattle.qg_tree_edits.specs.Editing.{IsCutThere}

-- two nodes that one place holds are one
pub same_node : (o : Option Node) (a b : Node) → o ≡ Some a → o ≡ Some b → a ≡ b
same_node o a b is is' = let both = sym is ∙ is' in cc

cut_there : (nodesize at : ℕ) (new : Ground) (mine before whole : Node) (result : Result (Option Node) BlockFault)
    → fresh_at new.blocks.draft at ≡ Some mine
    → IfOk result (λ rest. IsCutOf nodesize whole mine rest) → IfOk result (λ rest. RestIsNode nodesize before rest)
    → IfOk result (λ rest. IsCutThere nodesize new at before whole rest)
cut_there nodesize at new mine before whole (Ok rest) here cut named = record {
  node = mine;
  here = here;
  cut = cut;
  named = named;
}
cut_there nodesize at new mine before whole (Err fault) here cut named = tt

-- what was cut off it, if anything, was made of the node that lay there
pub IsCutThere-edited : (land : Ground) (at nodesize given : ℕ) (was mine node : Node) (whole : Node
    → Node) (result : Result (Option Node) BlockFault)
    → fresh_at land.blocks.draft at ≡ Some was → given ≡ nodesize
    → IfOk result (λ rest. IsCutOf given (whole was) mine rest) → IfOk result (λ rest. RestIsNode given was rest)
    → fresh_at land.blocks.draft at ≡ Some node
    → IfOk result (λ rest. IsCutThere nodesize (edited land at mine) at node (whole node) rest)
IsCutThere-edited land at nodesize given was mine node whole result there size cut named is =
    let here = edited-here land at mine (IsSome-is (fresh_at land.blocks.draft at) was there) in
    subst (λ (n : ℕ). IfOk result (λ rest. IsCutThere n (edited land at mine) at node (whole node) rest)) size
    (subst (λ (n : Node). IfOk result (λ rest. IsCutThere given (edited land at mine) at n (whole n) rest))
    (same_node (fresh_at land.blocks.draft at) was node there is)
    (cut_there given at (edited land at mine) mine was (whole was) result here cut named))
