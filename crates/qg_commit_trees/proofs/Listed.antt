-- The nodes that a walk lists are those that are reached.
use Rattle.std.proofs.Common.{◌≡◌, ℕ, zero, suc, List, [], ◌∷◌, ◌++◌, Option, Some, None, refl, sym, ap, subst, ◌∙◌}
use Rattle.std.proofs.Common.{inl, inr}
use Rattle.std.specs.Prelude.{slice_get}
use Rattle.std.specs.List.{Contains}
use Rattle.std.specs.Option.{option_and_then}
use Rattle.std.proofs.lemmas.List.Elements.{Contains-append_cases, Contains-append_left, Contains-append_right}
use Rattle.std.proofs.lemmas.Option.{option_and_then_some, same_Some}
use Rattle.qg_node.specs.declared.pointer.Pointer.{Pointer}
use Rattle.qg_node.specs.declared.node.Header.{Header}
use Rattle.qg_node.specs.declared.node.Node.{Node}
use Rattle.qg_node.specs.declared.node.Node.TheVariants.{Leaf, Inner}
use Rattle.qg_node.specs.Nodes.{own_pointers}
use Rattle.qg_image.specs.Below.{inner_pointers, joined, leaf_items, nodes_below}
use Rattle.qg_image.proofs.Contained.{contains_cases, contains_here, contains_later, none_contained}
use Rattle.qg_tree_read.specs.Tree.{Reaches}

-- ---- lists under pointers

-- one of the lists under some pointers has a node
record IsUnderOne (under : Pointer → Option (List Node)) (pointers : List Pointer) (node : Node) : Type 0 where
  place : ℕ
  pointer : Pointer
  there : slice_get pointers place ≡ Some pointer
  own : List Node
  are : under pointer ≡ Some own
  has : Contains own node

-- the lists under the first pointer, and under the others
record AreBoth (under : Pointer → Option (List Node)) (pointer : Pointer) (pointers : List Pointer) (all : List Node)
    : Type 0 where
  first : List Node
  rest : List Node
  here : under pointer ≡ Some first
  behind : joined under pointers ≡ Some rest
  whole : all ≡ first ++ rest

both_joined : (under : Pointer → Option (List Node)) (pointer : Pointer) (pointers : List Pointer) (all : List Node)
    → joined under (pointer ∷ pointers) ≡ Some all → AreBoth under pointer pointers all
both_joined under pointer pointers all are =
    option_and_then_some
    (λ first. option_and_then (λ rest. Some (first ++ rest)) (joined under pointers)) (under pointer) all are
    (λ first here later.
    option_and_then_some (λ rest. Some (first ++ rest)) (joined under pointers) all later
    (λ rest behind is. record {
      first = first;
      rest = rest;
      here = here;
      behind = behind;
      whole = sym (same_Some (first ++ rest) all is);
    }))

under_one : (under : Pointer → Option (List Node)) (pointers : List Pointer) (all : List Node)
    → joined under pointers ≡ Some all → (node : Node) → Contains all node → IsUnderOne under pointers node
under_one under [] all are node has =
    absurd (none_contained node (subst (λ (xs : List Node). Contains xs node) (sym (same_Some [] all are)) has))
under_one under (pointer ∷ pointers) all are node has =
    let both = both_joined under pointer pointers all are in
    elim (Contains-append_cases both.first both.rest node
    (subst (λ (xs : List Node). Contains xs node) both.whole has)) [
      | inl here ↦ record {
        place = 0;
        pointer = pointer;
        there = refl;
        own = both.first;
        are = both.here;
        has = here;
      }
      | inr later ↦
          let found = under_one under pointers both.rest both.behind node later in
          record {
            place = suc found.place;
            pointer = found.pointer;
            there = found.there;
            own = found.own;
            are = found.are;
            has = found.has;
          }
    ]

-- the list under one of the pointers is among all
record IsAmong (under : Pointer → Option (List Node)) (pointer : Pointer) (all : List Node) : Type 0 where
  own : List Node
  are : under pointer ≡ Some own
  within : (node : Node) → Contains own node → Contains all node

among_all : (under : Pointer → Option (List Node)) (pointers : List Pointer) (all : List Node)
    → joined under pointers ≡ Some all → (place : ℕ) (pointer : Pointer) → slice_get pointers place ≡ Some pointer
    → IsAmong under pointer all
among_all under [] all are place pointer there = absurd cc
among_all under (first ∷ pointers) all are zero pointer there =
    let both = both_joined under first pointers all are in
    let same : first ≡ pointer = cc in
    record {
      own = both.first;
      are = ap under (sym same) ∙ both.here;
      within = λ node has. subst (λ (xs : List Node). Contains xs node) (sym both.whole)
          (Contains-append_left both.first both.rest node has);
    }
among_all under (first ∷ pointers) all are (suc place) pointer there =
    let both = both_joined under first pointers all are in
    let found = among_all under pointers both.rest both.behind place pointer there in
    record {
      own = found.own;
      are = found.are;
      within = λ node has. subst (λ (xs : List Node). Contains xs node) (sym both.whole)
          (Contains-append_right both.first both.rest node (found.within node has));
    }

-- ---- one node

-- the list of a leaf is itself
leaf_alone : (o : Option Node) (list : List Node)
    → option_and_then (λ node. option_and_then (λ items. Some (node ∷ [])) (leaf_items node)) o ≡ Some list
    → (node : Node) × (o ≡ Some node) × (list ≡ node ∷ [])
leaf_alone None list are = absurd cc
leaf_alone (Some (Leaf header items)) list are =
    (Leaf header items, refl, sym (same_Some (Leaf header items ∷ []) list are))
leaf_alone (Some (Inner header pointers)) list are = absurd cc

-- a node in front of those below it
record IsInFront (under : Pointer → Option (List Node)) (o : Option Node) (list : List Node) : Type 0 where
  header : Header
  pointers : List Pointer
  here : o ≡ Some (Inner header pointers)
  below : List Node
  are : joined under pointers ≡ Some below
  whole : list ≡ Inner header pointers ∷ below

inner_front : (under : Pointer → Option (List Node)) (o : Option Node) (list : List Node)
    → option_and_then
    (λ node. option_and_then (λ below. Some (node ∷ below)) (option_and_then (joined under) (inner_pointers node))) o
    ≡ Some list → IsInFront under o list
inner_front under None list are = absurd cc
inner_front under (Some (Leaf header items)) list are = absurd cc
inner_front under (Some (Inner header pointers)) list are =
    option_and_then_some (λ below. Some (Inner header pointers ∷ below)) (joined under pointers) list are
    (λ below stand all. record {
      header = header;
      pointers = pointers;
      here = refl;
      below = below;
      are = stand;
      whole = sym (same_Some (Inner header pointers ∷ below) list all);
    })

-- ---- a tree

module _ (nodes : ℕ → Option Node) where
  -- a node is reached
  pub record IsMet (level at : ℕ) (node : Node) : Type 0 where
    pub q : ℕ
    pub reached : Reaches nodes level at q
    pub told : nodes q ≡ Some node

  pub listed-met : (level at : ℕ) (list : List Node) → nodes_below nodes level at ≡ Some list → (node : Node)
      → Contains list node → IsMet level at node
  unfolding Reaches
  listed-met zero at list are node has =
      let leaf = leaf_alone (nodes at) list are in
      elim (contains_cases leaf.0 [] node (subst (λ (xs : List Node). Contains xs node) leaf.2 has)) [
        | inl same ↦ record { q = at; reached = refl; told = leaf.1 ∙ ap Some same }
        | inr none ↦ absurd (none_contained node none)
      ]
  listed-met (suc level) at list are node has =
      let front = inner_front (λ (p : Pointer). nodes_below nodes level p.child) (nodes at) list are in
      elim (contains_cases (Inner front.header front.pointers) front.below node
      (subst (λ (xs : List Node). Contains xs node) front.whole has)) [
        | inl same ↦ record { q = at; reached = inl refl; told = front.here ∙ ap Some same }
        | inr later ↦
            let one = under_one (λ (p : Pointer). nodes_below nodes level p.child) front.pointers front.below front.are
            node later in
            let met = listed-met level one.pointer.child one.own one.are node one.has in
            record {
              q = met.q;
              reached =
                  inr (Inner front.header front.pointers, front.here, one.place, one.pointer, one.there, met.reached);
              told = met.told;
            }
      ]

  pub met-listed : (level at : ℕ) (list : List Node) → nodes_below nodes level at ≡ Some list → (q : ℕ)
      → Reaches nodes level at q → (node : Node) → nodes q ≡ Some node → Contains list node
  unfolding Reaches
  met-listed zero at list are q reached node told =
      let leaf = leaf_alone (nodes at) list are in
      let same : leaf.0 ≡ node = let e : Some leaf.0 ≡ Some node = sym leaf.1 ∙ ap nodes (sym reached) ∙ told in cc in
      subst (λ (xs : List Node). Contains xs node) (sym leaf.2)
      (subst (λ (n : Node). Contains (n ∷ []) node) (sym same) (contains_here node []))
  met-listed (suc level) at list are q (inl here) node told =
      let front = inner_front (λ (p : Pointer). nodes_below nodes level p.child) (nodes at) list are in
      let inner = Inner front.header front.pointers in
      let same : inner ≡ node = let e : Some inner ≡ Some node = sym front.here ∙ ap nodes (sym here) ∙ told in cc in
      subst (λ (xs : List Node). Contains xs node) (sym front.whole)
      (subst (λ (n : Node). Contains (n ∷ front.below) node) (sym same) (contains_here node front.below))
  met-listed (suc level) at list are q (inr (top, here, place, pointer, there, below)) node told =
      let front = inner_front (λ (p : Pointer). nodes_below nodes level p.child) (nodes at) list are in
      let inner = Inner front.header front.pointers in
      let same : top ≡ inner = let e : Some top ≡ Some inner = sym here ∙ front.here in cc in
      let lies = subst (λ (n : Node). slice_get (own_pointers n) place ≡ Some pointer) same there in
      let found = among_all (λ (p : Pointer). nodes_below nodes level p.child) front.pointers front.below front.are
      place pointer lies in
      let has = met-listed level pointer.child found.own found.are q below node told in
      subst (λ (xs : List Node). Contains xs node) (sym front.whole)
      (contains_later inner front.below node (found.within node has))
