-- What is reached from a root, by the nodes below it.
use Rattle.std.proofs.Common.{◌≡◌, ℕ, zero, suc, List, [], ◌∷◌, ◌++◌, map, Option, Some, None, refl, sym, ap, subst}
use Rattle.std.proofs.Common.{◌∙◌}
use Rattle.std.specs.List.{Contains, flat_map}
use Rattle.std.specs.Option.{option_and_then}
use Rattle.std.proofs.lemmas.List.{append-nil}
use Rattle.std.proofs.lemmas.List.Elements.{Contains-append_left, Contains-append_right}
use Rattle.std.proofs.lemmas.List.Concat.{flat_map-append}
use Rattle.std.proofs.lemmas.Option.{same_Some, option_and_then_some}
use Rattle.qg_node.specs.declared.pointer.Pointer.{Pointer}
use Rattle.qg_node.specs.declared.node.Node.{Node}
use Rattle.qg_node.specs.declared.node.Node.TheVariants.{Leaf, Inner}
use Rattle.qg_node.specs.Nodes.{header_of}
use Rattle.qg_image.specs.Below.{leaf_items, inner_pointers, joined, nodes_below}
use Rattle.qg_image.specs.declared.element.Element.{Element}
use Rattle.qg_image.specs.Reach.{extent_of, pieces_of, own_elements, pointers_at, reach_under}
use Rattle.qg_image.proofs.Contained.{contains_here}

-- where a node says that it lies
abbrev pub address_of : Node → ℕ
address_of node = (header_of node).address

-- the extents that a node names
abbrev pub extents_named : Node → List Element
extents_named node = map extent_of (pieces_of node)

-- the node, and the extents that it names
abbrev pub elements_of : ℕ → Node → List Element
elements_of nodesize node = record { address = address_of node; bytes = nodesize } ∷ extents_named node

-- a node that is found at an address says that it lies there
pub record LieWhereFound (nodes : ℕ → Option Node) : Type 0 where
  pub found : (address : ℕ) (node : Node) → nodes address ≡ Some node → address_of node ≡ address

own : (nodesize address : ℕ) (node : Node) → address_of node ≡ address
    → own_elements nodesize address (Some node) ≡ elements_of nodesize node
own nodesize address node lies = ap (λ a. record { address = a; bytes = nodesize } ∷ extents_named node) (sym lies)

-- lists under pointers, one after the other
under_pointers : (under : Pointer → Option (List Node)) (reached : Pointer → List Element) (elements : Node
    → List Element)
    → ((pointer : Pointer) (nodes : List Node) → under pointer ≡ Some nodes → reached pointer ≡ flat_map elements nodes)
    → (pointers : List Pointer) (nodes : List Node) → joined under pointers ≡ Some nodes
    → flat_map reached pointers ≡ flat_map elements nodes
under_pointers under reached elements each [] nodes are = ap (flat_map elements) (same_Some [] nodes are)
under_pointers under reached elements each (pointer ∷ pointers) nodes are =
    option_and_then_some (λ first. option_and_then (λ rest. Some (first ++ rest)) (joined under pointers))
    (under pointer) nodes are (λ first is both.
    option_and_then_some (λ rest. Some (first ++ rest)) (joined under pointers) nodes both (λ rest is' all.
    ap (λ list. list ++ flat_map reached pointers) (each pointer first is)
    ∙ ap (λ list. flat_map elements first ++ list) (under_pointers under reached elements each pointers rest is')
    ∙ sym (flat_map-append elements first rest)
    ∙ ap (flat_map elements) (same_Some (first ++ rest) nodes all)))

at_leaf : (nodesize address : ℕ) (found : Option Node) (nodes : List Node)
    → ((node : Node) → found ≡ Some node → address_of node ≡ address)
    → option_and_then (λ node. option_and_then (λ items. Some (node ∷ [])) (leaf_items node)) found ≡ Some nodes
    → own_elements nodesize address found ≡ flat_map (elements_of nodesize) nodes
at_leaf nodesize address None nodes lies are = cc
at_leaf nodesize address (Some (Leaf header items)) nodes lies are =
    own nodesize address (Leaf header items) (lies (Leaf header items) refl)
    ∙ sym (append-nil (elements_of nodesize (Leaf header items)))
    ∙ ap (flat_map (elements_of nodesize)) (same_Some (Leaf header items ∷ []) nodes are)
at_leaf nodesize address (Some (Inner header pointers)) nodes lies are = cc

at_inner : (nodesize address : ℕ) (under : Pointer → Option (List Node)) (reached : Pointer → List Element)
    → ((pointer : Pointer) (nodes : List Node) → under pointer ≡ Some nodes
    → reached pointer ≡ flat_map (elements_of nodesize) nodes)
    → (found : Option Node) (nodes : List Node) → ((node : Node) → found ≡ Some node → address_of node ≡ address)
    → option_and_then (λ node. option_and_then (λ below. Some (node ∷ below))
    (option_and_then (joined under) (inner_pointers node))) found ≡ Some nodes
    → own_elements nodesize address found ++ flat_map reached (pointers_at found)
    ≡ flat_map (elements_of nodesize) nodes
at_inner nodesize address under reached each None nodes lies are = cc
at_inner nodesize address under reached each (Some (Leaf header items)) nodes lies are = cc
at_inner nodesize address under reached each (Some (Inner header pointers)) nodes lies are =
    option_and_then_some (λ below. Some (Inner header pointers ∷ below)) (joined under pointers) nodes are
    (λ below is all.
    ap (λ list. list ++ flat_map reached pointers)
    (own nodesize address (Inner header pointers) (lies (Inner header pointers) refl))
    ∙ ap (λ list. elements_of nodesize (Inner header pointers) ++ list)
    (under_pointers under reached (elements_of nodesize) each pointers below is)
    ∙ ap (flat_map (elements_of nodesize)) (same_Some (Inner header pointers ∷ below) nodes all))

-- all that is met from a node down is its nodes, each with the extents that it names
pub reach_under_nodes : (found : ℕ → Option Node) (nodesize level address : ℕ) (nodes : List Node) → LieWhereFound found
    → nodes_below found level address ≡ Some nodes
    → reach_under found nodesize level address ≡ flat_map (elements_of nodesize) nodes
reach_under_nodes found nodesize zero address nodes lie are =
    at_leaf nodesize address (found address) nodes (λ node is. lie.found address node is) are
reach_under_nodes found nodesize (suc level) address nodes lie are =
    at_inner nodesize address (λ pointer. nodes_below found level pointer.child)
    (λ pointer. reach_under found nodesize level pointer.child)
    (λ pointer nodes' is. reach_under_nodes found nodesize level pointer.child nodes' lie is)
    (found address) nodes (λ node is. lie.found address node is) are

-- ---- found elsewhere

-- one way to find nodes finds what another found: each of these nodes, where it says that it lies
pub record FindsEach (found : ℕ → Option Node) (nodes : List Node) : Type 0 where
  pub each : (node : Node) → Contains nodes node → found (address_of node) ≡ Some node

finds_front : (found : ℕ → Option Node) (front back : List Node) → FindsEach found (front ++ back)
    → FindsEach found front
finds_front found front back finds =
    record { each = λ node has. finds.each node (Contains-append_left front back node has) }

finds_back : (found : ℕ → Option Node) (front back : List Node) → FindsEach found (front ++ back) → FindsEach found back
finds_back found front back finds =
    record { each = λ node has. finds.each node (Contains-append_right front back node has) }

under_found : (found : ℕ → Option Node) (under other : Pointer → Option (List Node))
    → ((pointer : Pointer) (nodes : List Node) → FindsEach found nodes → under pointer ≡ Some nodes
    → other pointer ≡ Some nodes)
    → (pointers : List Pointer) (nodes : List Node) → FindsEach found nodes → joined under pointers ≡ Some nodes
    → joined other pointers ≡ Some nodes
under_found found under other each [] nodes finds are = are
under_found found under other each (pointer ∷ pointers) nodes finds are =
    option_and_then_some (λ first. option_and_then (λ rest. Some (first ++ rest)) (joined under pointers))
    (under pointer) nodes are (λ first is both.
    option_and_then_some (λ rest. Some (first ++ rest)) (joined under pointers) nodes both (λ rest is' all.
    let here = subst (FindsEach found) (sym (same_Some (first ++ rest) nodes all)) finds in
    ap (option_and_then (λ first. option_and_then (λ rest. Some (first ++ rest)) (joined other pointers)))
    (each pointer first (finds_front found first rest here) is)
    ∙ ap (option_and_then (λ rest. Some (first ++ rest)))
    (under_found found under other each pointers rest (finds_back found first rest here) is')
    ∙ all))

leaf_found : (here there : Option Node) (nodes : List Node) → ((node : Node) → here ≡ Some node → Contains nodes node
    → there ≡ Some node)
    → option_and_then (λ node. option_and_then (λ items. Some (node ∷ [])) (leaf_items node)) here ≡ Some nodes
    → option_and_then (λ node. option_and_then (λ items. Some (node ∷ [])) (leaf_items node)) there ≡ Some nodes
leaf_found None there nodes finds are = cc
leaf_found (Some (Leaf header items)) there nodes finds are =
    let has = subst (λ list. Contains list (Leaf header items)) (same_Some (Leaf header items ∷ []) nodes are)
    (contains_here (Leaf header items) []) in
    ap (option_and_then (λ node. option_and_then (λ items. Some (node ∷ [])) (leaf_items node)))
    (finds (Leaf header items) refl has) ∙ are
leaf_found (Some (Inner header pointers)) there nodes finds are = cc

inner_found : (found : ℕ → Option Node) (under other : Pointer → Option (List Node))
    → ((pointer : Pointer) (nodes : List Node) → FindsEach found nodes → under pointer ≡ Some nodes
    → other pointer ≡ Some nodes)
    → (here there : Option Node) (nodes : List Node) → FindsEach found nodes
    → ((node : Node) → here ≡ Some node → Contains nodes node → there ≡ Some node)
    → option_and_then (λ node. option_and_then (λ below. Some (node ∷ below))
    (option_and_then (joined under) (inner_pointers node))) here ≡ Some nodes
    → option_and_then (λ node. option_and_then (λ below. Some (node ∷ below))
    (option_and_then (joined other) (inner_pointers node))) there ≡ Some nodes
inner_found found under other each None there nodes all finds are = cc
inner_found found under other each (Some (Leaf header items)) there nodes all finds are = cc
inner_found found under other each (Some (Inner header pointers)) there nodes all finds are =
    option_and_then_some (λ below. Some (Inner header pointers ∷ below)) (joined under pointers) nodes are
    (λ below is whole.
    let one = same_Some (Inner header pointers ∷ below) nodes whole in
    let has = subst (λ list. Contains list (Inner header pointers)) one (contains_here (Inner header pointers) below) in
    let rest = finds_back found (Inner header pointers ∷ []) below (subst (FindsEach found) (sym one) all) in
    ap (option_and_then (λ node. option_and_then (λ below. Some (node ∷ below))
    (option_and_then (joined other) (inner_pointers node)))) (finds (Inner header pointers) refl has)
    ∙ ap (option_and_then (λ below. Some (Inner header pointers ∷ below)))
    (under_found found under other each pointers below rest is)
    ∙ whole)

-- so the same nodes stand below
pub nodes_below_found : (found other : ℕ → Option Node) (level address : ℕ) (nodes : List Node) → LieWhereFound found
    → FindsEach other nodes
    → nodes_below found level address ≡ Some nodes → nodes_below other level address ≡ Some nodes
nodes_below_found found other zero address nodes lie finds are =
    leaf_found (found address) (other address) nodes
    (λ node is has. subst (λ a. other a ≡ Some node) (lie.found address node is) (finds.each node has)) are
nodes_below_found found other (suc level) address nodes lie finds are =
    inner_found other (λ pointer. nodes_below found level pointer.child)
    (λ pointer. nodes_below other level pointer.child)
    (λ pointer nodes' finds' is. nodes_below_found found other level pointer.child nodes' lie finds' is)
    (found address) (other address) nodes finds
    (λ node is has. subst (λ a. other a ≡ Some node) (lie.found address node is) (finds.each node has)) are
