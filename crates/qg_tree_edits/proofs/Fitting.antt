-- Pointers that do not grow in number fit.
use Rattle.std.proofs.Common.{◌≡◌, ℕ, ◌+◌, ◌-◌, ◌≤◌, List, ◌++◌, take, drop, length, arith, refl, Option, Some, None}
use Rattle.std.specs.Prelude.{◌↔◌, IfOk, IsSome, Result, Ok, Err}
use Rattle.std.proofs.lemmas.List.{length-append, length-drop, length-take-le}
use Rattle.qg_num.specs.declared.fault.BlockFault.{BlockFault}
use Rattle.qg_node.specs.declared.pointer.Pointer.{Pointer}
use Rattle.qg_node.specs.declared.node.Node.{Node}
use Rattle.qg_node.specs.declared.node.Node.TheVariants.{Leaf, Inner}
use Rattle.qg_node.specs.Nodes.{own_pointers}
use Rattle.qg_node.specs.NodeText.{IsNode}
use Rattle.qg_shape.specs.Filled.{IsOverfull}
use Rattle.qg_shape.specs.Parts.{IsInner, with_pointers}
use Rattle.qg_edit.specs.Outcome.{spliced}

spliced_few : (from to : ℕ) (new pointers : List Pointer) → from ≤ to → to ≤ length pointers → length new ≤ to - from
    → length (spliced from to new pointers) ≤ length pointers
spliced_few from to new pointers low high few =
    let whole : length (spliced from to new pointers) ≡ length (take from pointers ++ new) + length (drop to pointers) =
    length-append (take from pointers ++ new) (drop to pointers) in
    let front : length (take from pointers ++ new) ≡ length (take from pointers) + length new =
    length-append (take from pointers) new in
    let taken : length (take from pointers) ≡ from = length-take-le from pointers (omega (arith, low, high)) in
    let left : length (drop to pointers) ≡ length pointers - to = length-drop to pointers in
    omega (arith, whole, front, taken, left, low, high, few)

not_over : (nodesize size from to : ℕ) (node : Node) (new : List Pointer) → IsInner node → IsNode size node
    → nodesize ≡ size → from ≤ to → to ≤ length (own_pointers node) → length new ≤ to - from
    → IsOverfull nodesize (with_pointers node (spliced from to new (own_pointers node))) → ⊥
not_over nodesize size from to (Leaf header items) new inner sound same low high few over = absurd inner
not_over nodesize size from to (Inner header pointers) new inner sound same low high few over =
    let less = spliced_few from to new pointers low high few in
    let fits = sound.fits in
    omega (arith, less, fits, same, over)

none_of : (rest : Option Node) (P : Type 0) → IsSome rest ↔ P → (P → ⊥) → rest ≡ None
none_of None P is not = refl
none_of (Some node) P is not = absurd (not (is.0 refl))

pub none-cut : (nodesize size from to : ℕ) (node : Node) (new : List Pointer) (result : Result (Option Node) BlockFault)
    → IsInner node → IsNode size node → nodesize ≡ size → from ≤ to
    → to ≤ length (own_pointers node) → length new ≤ to - from
    → IfOk result (λ rest. IsSome rest
    ↔ IsOverfull nodesize (with_pointers node (spliced from to new (own_pointers node))))
    → IfOk result (λ rest. rest ≡ None)
none-cut nodesize size from to node new (Ok rest) inner sound same low high few over =
    none_of rest (IsOverfull nodesize (with_pointers node (spliced from to new (own_pointers node)))) over
    (not_over nodesize size from to node new inner sound same low high few)
none-cut nodesize size from to node new (Err fault) inner sound same low high few over = tt
