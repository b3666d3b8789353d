-- What is met over two maps that tell the same of all that is reached.
use Rattle.std.proofs.Common.{◌≡◌, ℕ, zero, suc, List, [], ◌∷◌, ◌++◌, Option, Some, None, refl, sym, ap, ◌∙◌, inl, inr}
use Rattle.std.specs.Prelude.{slice_get}
use Rattle.std.specs.List.{flat_map}
use Rattle.std.proofs.lemmas.List.Concat.{flat_map-cons}
use Rattle.qg_node.specs.declared.pointer.Pointer.{Pointer}
use Rattle.qg_node.specs.declared.node.Node.{Node}
use Rattle.qg_node.specs.Nodes.{own_pointers}
use Rattle.qg_image.specs.declared.element.Element.{Element}
use Rattle.qg_image.specs.Reach.{own_elements, pointers_at, reach_under}
use Rattle.qg_tree_read.specs.Tree.{Reaches}

flat_each : (f g : Pointer → List Element) (pointers : List Pointer)
    → ((place : ℕ) (pointer : Pointer) → slice_get pointers place ≡ Some pointer → g pointer ≡ f pointer)
    → flat_map g pointers ≡ flat_map f pointers
flat_each f g [] each = refl
flat_each f g (pointer ∷ pointers) each =
    flat_map-cons g pointer pointers
    ∙ ap (λ (first : List Element). first ++ flat_map g pointers) (each 0 pointer refl)
    ∙ ap (λ (rest : List Element). f pointer ++ rest) (flat_each f g pointers (λ place p is. each (suc place) p is))
    ∙ sym (flat_map-cons f pointer pointers)

under_each : (f g : Pointer → List Element) (o : Option Node)
    → ((node : Node) → o ≡ Some node → (place : ℕ) (pointer : Pointer)
    → slice_get (own_pointers node) place ≡ Some pointer → g pointer ≡ f pointer)
    → flat_map g (pointers_at o) ≡ flat_map f (pointers_at o)
under_each f g None each = refl
under_each f g (Some node) each = flat_each f g (own_pointers node) (each node refl)

pub met-same : (nodes nodes' : ℕ → Option Node) (nodesize level from : ℕ)
    → ((q : ℕ) → Reaches nodes level from q → nodes' q ≡ nodes q)
    → reach_under nodes' nodesize level from ≡ reach_under nodes nodesize level from
unfolding Reaches
met-same nodes nodes' nodesize zero from same = ap (λ (o : Option Node). own_elements nodesize from o) (same from refl)
met-same nodes nodes' nodesize (suc level) from same =
    let f = λ (pointer : Pointer). reach_under nodes nodesize level pointer.child in
    let g = λ (pointer : Pointer). reach_under nodes' nodesize level pointer.child in
    ap (λ (o : Option Node). own_elements nodesize from o ++ flat_map g (pointers_at o)) (same from (inl refl))
    ∙ ap (λ (rest : List Element). own_elements nodesize from (nodes from) ++ rest)
    (under_each f g (nodes from) (λ node is place pointer there.
    met-same nodes nodes' nodesize level pointer.child (λ q reaches.
    same q (inr (node, is, place, pointer, there, reaches)))))
