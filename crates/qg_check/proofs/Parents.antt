-- A node below a root of an image is the root, or a pointer of another node below it leads there.
use Rattle.std.proofs.Common.{◌≡◌, ◌⊎◌, ℕ, zero, suc, List, [], ◌∷◌, ◌++◌, sym, ap, subst, inl, inr}
use Rattle.std.specs.Prelude.{Option, Some, None}
use Rattle.std.specs.List.{Contains}
use Rattle.std.specs.Option.{option_and_then}
use Rattle.std.proofs.lemmas.List.Elements.{Contains-append_cases, Contains-append_left, Contains-append_right}
use Rattle.std.proofs.lemmas.Option.{same_Some, option_and_then_some}
use Rattle.qg_node.specs.declared.pointer.Pointer.{Pointer}
use Rattle.qg_node.specs.declared.node.Node.{Node}
use Rattle.qg_node.specs.declared.node.Node.TheVariants.{Leaf, Inner}
use Rattle.qg_node.specs.Nodes.{own_pointers}
use Rattle.qg_image.specs.Below.{inner_pointers, joined, leaf_items, nodes_below}
use Rattle.qg_image.proofs.Contained.{contains_cases, contains_here, contains_later, none_contained}

-- a pointer of one of some nodes leads to a node
pub record HasParent (found : ℕ → Option Node) (nodes : List Node) (node : Node) : Type 0 where
  pub parent : Node
  pub has : Contains nodes parent
  pub pointer : Pointer
  pub own : Contains (own_pointers parent) pointer
  pub leads : found pointer.child ≡ Some node

-- it is the one that is found here, or has a parent among them
abbrev IsLed : (ℕ → Option Node) → Option Node → List Node → Node → Type 0
IsLed found here nodes node = (here ≡ Some node) ⊎ HasParent found nodes node

-- below one of some pointers a node stands
record HasBranch (under : Pointer → Option (List Node)) (pointers : List Pointer) (nodes : List Node)
    (node : Node) : Type 0 where
  pointer : Pointer
  own : Contains pointers pointer
  branch : List Node
  is : under pointer ≡ Some branch
  has : Contains branch node
  all : (other : Node) → Contains branch other → Contains nodes other

branch_of : (under : Pointer → Option (List Node)) (pointers : List Pointer) (nodes : List Node) (node : Node)
    → joined under pointers ≡ Some nodes
    → Contains nodes node → HasBranch under pointers nodes node
branch_of under [] nodes node are has =
    absurd (none_contained node (subst (λ list. Contains list node) (sym (same_Some [] nodes are)) has))
branch_of under (pointer ∷ pointers) nodes node are has =
    option_and_then_some (λ first. option_and_then (λ rest. Some (first ++ rest)) (joined under pointers))
    (under pointer) nodes are (λ first is both.
    option_and_then_some (λ rest. Some (first ++ rest)) (joined under pointers) nodes both (λ rest is' all.
    let whole : first ++ rest ≡ nodes = same_Some (first ++ rest) nodes all in
    elim (Contains-append_cases first rest node (subst (λ list. Contains list node) (sym whole) has)) [
      | inl before ↦ record {
        pointer = pointer;
        own = contains_here pointer pointers;
        branch = first;
        is = is;
        has = before;
        all = λ other has'. subst (λ list. Contains list other) whole (Contains-append_left first rest other has');
      }
      | inr behind ↦
          let later = branch_of under pointers rest node is' behind in
          record {
            pointer = later.pointer;
            own = contains_later pointer pointers later.pointer later.own;
            branch = later.branch;
            is = later.is;
            has = later.has;
            all = λ other has'. subst (λ list. Contains list other) whole
                (Contains-append_right first rest other (later.all other has'));
          }
    ]))

leaf_led : (found : ℕ → Option Node) (here : Option Node) (nodes : List Node) (node : Node)
    → option_and_then (λ node. option_and_then (λ items. Some (node ∷ [])) (leaf_items node)) here ≡ Some nodes
    → Contains nodes node → IsLed found here nodes node
leaf_led found None nodes node are has = absurd cc
leaf_led found (Some (Leaf header items)) nodes node are has =
    elim (contains_cases (Leaf header items) [] node
    (subst (λ list. Contains list node) (sym (same_Some (Leaf header items ∷ []) nodes are)) has)) [
      | inl is ↦ inl (ap Some is)
      | inr none ↦ absurd (none_contained node none)
    ]
leaf_led found (Some (Inner header pointers)) nodes node are has = absurd cc

-- below a pointer of the inner node
module _ (found : ℕ → Option Node) (inner : Node) (pointer : Pointer) (own : Contains (own_pointers inner) pointer)
    (branch nodes : List Node)
    (has : Contains nodes inner) (all : (other : Node) → Contains branch other → Contains nodes other) where
  led_there : (node : Node) → IsLed found (found pointer.child) branch node → HasParent found nodes node
  led_there node (inl is) = record { parent = inner; has = has; pointer = pointer; own = own; leads = is }
  led_there node (inr below) = record {
    parent = below.parent;
    has = all below.parent below.has;
    pointer = below.pointer;
    own = below.own;
    leads = below.leads;
  }

inner_led : (found : ℕ → Option Node) (under : Pointer → Option (List Node))
    → ((pointer : Pointer) (nodes : List Node) (node : Node) → under pointer ≡ Some nodes → Contains nodes node
    → IsLed found (found pointer.child) nodes node)
    → (here : Option Node) (nodes : List Node) (node : Node)
    → option_and_then (λ node. option_and_then (λ below. Some (node ∷ below))
    (option_and_then (joined under) (inner_pointers node))) here ≡ Some nodes
    → Contains nodes node → IsLed found here nodes node
inner_led found under each None nodes node are has = absurd cc
inner_led found under each (Some (Leaf header items)) nodes node are has = absurd cc
inner_led found under each (Some (Inner header pointers)) nodes node are has =
    let inner = Inner header pointers in
    option_and_then_some (λ below. Some (inner ∷ below)) (joined under pointers) nodes are (λ below stand all.
    let whole : inner ∷ below ≡ nodes = same_Some (inner ∷ below) nodes all in
    elim (contains_cases inner below node (subst (λ list. Contains list node) (sym whole) has)) [
      | inl is ↦ inl (ap Some is)
      | inr later ↦
          let one = branch_of under pointers below node stand later in
          inr (led_there found inner one.pointer one.own one.branch nodes
          (subst (λ list. Contains list inner) whole (contains_here inner below))
          (λ other has'. subst (λ list. Contains list other) whole
          (contains_later inner below other (one.all other has'))) node
          (each one.pointer one.branch node one.is one.has))
    ])

-- each node below an address is the one there, or has a parent
pub led-below : (found : ℕ → Option Node) (level address : ℕ) (nodes : List Node) (node : Node)
    → nodes_below found level address ≡ Some nodes
    → Contains nodes node → (found address ≡ Some node) ⊎ HasParent found nodes node
led-below found zero address nodes node are has = leaf_led found (found address) nodes node are has
led-below found (suc level) address nodes node are has =
    inner_led found (λ pointer. nodes_below found level pointer.child)
    (λ pointer nodes' other is has'. led-below found level pointer.child nodes' other is has')
    (found address) nodes node are has
