-- A fresh node above the leaves.
use Rattle.std.proofs.Common.{◌≡◌, ◌<◌, ℕ, suc, true, List, [], ◌∷◌, map, length, arith, refl, ap}
use Rattle.qg_num.specs.declared.key.Key.{Key}
use Rattle.qg_node.specs.declared.pointer.Pointer.{Pointer}
use Rattle.qg_node.specs.declared.node.Node.{Node}
use Rattle.qg_node.specs.declared.node.Node.TheVariants.{Leaf, Inner}
use Rattle.qg_node.specs.Nodes.{header_of, is_ascending, own_keys, own_pointers}
use Rattle.qg_node.specs.NodeText.{IsLevelled}
use Rattle.qg_shape.specs.Parts.{IsInner}
use Rattle.qg_shape.specs.Places.{LeadsTo}
use Rattle.qg_shape.proofs.Edited.{inner_above}

pub inner-here : (node : Node) → IsLevelled node → 0 < (header_of node).level → IsInner node
inner-here node levelled above = inner_above node levelled above

pub inner-some : (node : Node) → IsLevelled node → 0 < (header_of node).level → 0 < length (own_pointers node)
inner-some (Leaf header items) levelled above = absurd (omega (arith, levelled, above))
inner-some (Inner header pointers) levelled above = let some = levelled.2 in omega (arith, some)

pub inner-ascending : (node : Node) → IsLevelled node → 0 < (header_of node).level → is_ascending (own_keys node) ≡ true
    → is_ascending (map (λ (p : Pointer). p.key) (own_pointers node)) ≡ true
inner-ascending (Leaf header items) levelled above ascending = absurd (omega (arith, levelled, above))
inner-ascending (Inner header pointers) levelled above ascending = ascending

length_map : (pointers : List Pointer) → length (map (λ (p : Pointer). p.key) pointers) ≡ length pointers
length_map [] = refl
length_map (pointer ∷ pointers) = ap (λ (n : ℕ). suc n) (length_map pointers)

pub place-inside : (pointers : List Pointer) (key : Key) (place : ℕ)
    → LeadsTo (map (λ (p : Pointer). p.key) pointers) key place → place < length pointers
place-inside pointers key place leads = let within = leads.within in let same = length_map pointers in
    omega (arith, within, same)
