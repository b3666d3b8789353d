-- What a subvolume of a layout reaches is what the nodes have that pointers lead to from its root.
use Rattle.std.proofs.Common.{◌≡◌, ℕ, zero, suc, List, [], ◌∷◌, map, Option, Some, None, refl}
use Rattle.std.proofs.Common.{sym, ap, subst, ◌∙◌, arith, ◌⊎◌, inl, inr}
use Rattle.std.specs.List.{Contains, flat_map}
use Rattle.std.specs.List.Sorted.{IsStrictlyIncreasing}
use Rattle.std.specs.Option.{option_map}
use Rattle.std.proofs.lemmas.List.Elements.{Contains-append_left, Contains-append_right, Contains-append_cases}
use Rattle.qg_node.specs.declared.pointer.Pointer.{Pointer}
use Rattle.qg_node.specs.Nodes.{own_pointers}
use Rattle.qg_image.specs.Table.{value_at, keys_of}
use Rattle.qg_image.specs.declared.element.Element.{Element}
use Rattle.qg_image.specs.State.{Layout, Placed, node_at}
use Rattle.qg_image.specs.Reach.{extent_of, pieces_of, own_elements, pointers_at, reach_under, level_of, reach_of_root}
use Rattle.qg_image.specs.Reach.{reach_of, reach}
use Rattle.qg_image.proofs.Contained.{none_contained}
use Rattle.qg_reach.proofs.Members.{contains_map, one_mapped, contains_flat_map, one_flat_mapped}
use Rattle.qg_owner_rule.specs.declared.linked.Linked.{Linked}
use Rattle.qg_owner_rule.specs.Linked.{linked_of, AreLinksOf}
use Rattle.qg_owner_rule.specs.Leading.{PointsTo, Leads}
use Rattle.qg_owner_rule.specs.Leading.Leads.{Here, Down}
use Rattle.qg_owner_rule.proofs.Ascending.{one_of_number}
use Rattle.qg_owner_rule.proofs.Spreading.{leads_in}
use Rattle.qg_owner_rule.proofs.Reaching.{entry_of_value, placed_of, value_of_entry}

module _ (layout : Layout) (roots : List (ℕ × ℕ)) (nodes : List Linked) (links : AreLinksOf layout roots nodes)
    (up : IsStrictlyIncreasing (map (λ node. node.address) nodes)) where
  abbrev own : ℕ → List Element
  own address = own_elements layout.nodesize address (node_at layout.nodes address)

  abbrev under : ℕ → ℕ → List Element
  under level address = reach_under (node_at layout.nodes) layout.nodesize level address

  abbrev below : ℕ → ℕ → List Element
  below level address =
      flat_map (λ (pointer : Pointer). reach_under (node_at layout.nodes) layout.nodesize level pointer.child)
      (pointers_at (node_at layout.nodes address))

  placed : (x : Linked) → Contains nodes x
      → (placed : Placed) × Contains layout.nodes (x.address, placed) × (value_at x.address layout.nodes ≡ Some placed)
      × (linked_of x.address placed ≡ x)
  placed x has = placed_of layout roots nodes links up x has

  node_is : (address : ℕ) (placed : Placed) → value_at address layout.nodes ≡ Some placed
      → node_at layout.nodes address ≡ Some placed.node
  node_is address placed is = ap (option_map (λ (p : Placed). p.node)) is

  -- a node has itself, and the extents that its pieces name
  pub own_is : (address : ℕ) (placed : Placed) → value_at address layout.nodes ≡ Some placed
      → own_elements layout.nodesize address (node_at layout.nodes address)
      ≡ record { address = address; bytes = layout.nodesize } ∷ map extent_of (pieces_of placed.node)
  own_is address placed is = ap (own_elements layout.nodesize address) (node_is address placed is)

  own_under : (level address : ℕ) (y : Element) → Contains (own address) y → Contains (under level address) y
  own_under zero address y has = has
  own_under (suc level) address y has = Contains-append_left (own address) (below level address) y has

  -- a pointer of a node leads to a node
  pointed : (from : Linked) → Contains nodes from → (pointer : Pointer)
      → Contains (pointers_at (node_at layout.nodes from.address)) pointer
      → (c : Linked) × Contains nodes c × (c.address ≡ pointer.child) × PointsTo from c
  pointed from has pointer in' =
      let p = placed from has in
      let mine = subst (λ found. Contains (pointers_at found) pointer) (node_is from.address p.0 p.2) in' in
      let child =
      subst (λ (n : Linked). Contains n.children pointer.child) p.3
      (contains_map (λ (q : Pointer). q.child) (own_pointers p.0.node) pointer mine) in
      let c = links.below from pointer.child has child in
      (c.0, c.1, c.2, record { named = subst (λ a. Contains from.children a) (sym c.2) child; lower = c.3 })

  -- and by a pointer it leads to each that it points to
  pointer_to : (from c : Linked) → Contains nodes from → PointsTo from c
      → (pointer : Pointer) × Contains (pointers_at (node_at layout.nodes from.address)) pointer
      × (pointer.child ≡ c.address)
  pointer_to from c has points =
      let p = placed from has in
      let found =
      one_mapped (λ (q : Pointer). q.child) (own_pointers p.0.node) c.address
      (subst (λ (n : Linked). Contains n.children c.address) (sym p.3) points.named) in
      (found.0, subst (λ at. Contains (pointers_at at) found.0) (sym (node_is from.address p.0 p.2)) found.1, found.2)

  -- ---- what is met is what led nodes have

  met_led : (start level : ℕ) (from : Linked) → Contains nodes from → Leads nodes start from → (y : Element)
      → Contains (under level from.address) y
      → (x : Linked) × Contains nodes x × Leads nodes start x × Contains (own x.address) y
  met_led start zero from has leads y met = (from, has, leads, met)
  met_led start (suc level) from has leads y met =
      cases (Contains-append_cases (own from.address) (below level from.address) y met)
      (λ c has' leads' met'. met_led start level c has' leads' y met')
    where
      cases : Contains (own from.address) y ⊎ Contains (below level from.address) y
          → ((c : Linked) → Contains nodes c → Leads nodes start c → Contains (under level c.address) y
          → (x : Linked) × Contains nodes x × Leads nodes start x × Contains (own x.address) y)
          → (x : Linked) × Contains nodes x × Leads nodes start x × Contains (own x.address) y
      cases (inl here) lower = (from, has, leads, here)
      cases (inr later) lower =
          let p = one_flat_mapped (λ (pointer : Pointer). under level pointer.child)
          (pointers_at (node_at layout.nodes from.address)) y later in
          let c = pointed from has p.0 p.1 in
          lower c.0 c.1 (Down from c.0 leads c.1 c.3) (subst (λ a. Contains (under level a) y) (sym c.2) p.2)

  met_below : (parent child : Linked) → Contains nodes parent → PointsTo parent child → (y : Element)
      → Contains (under child.level child.address) y → Contains (under parent.level parent.address) y
  met_below parent child has points y met =
      let p = pointer_to parent child has points in
      let level : suc child.level ≡ parent.level = omega (arith, points.lower) in
      subst (λ l. Contains (under l parent.address) y) level
      (Contains-append_right (own parent.address) (below child.level parent.address) y
      (contains_flat_map (λ (pointer : Pointer). under child.level pointer.child)
      (pointers_at (node_at layout.nodes parent.address)) p.0 y p.1
      (subst (λ a. Contains (under child.level a) y) (sym p.2) met)))

  led_met : (from x : Linked) → Contains nodes from → Leads nodes from.address x → (y : Element)
      → Contains (under x.level x.address) y → Contains (under from.level from.address) y
  led_met from x has (Here node in' is) y met =
      subst (λ (n : Linked). Contains (under n.level n.address) y)
      (one_of_number (λ (n : Linked). n.address) nodes up node from in' has is) met
  led_met from x has (Down parent child leads in' points) y met =
      led_met from parent has leads y
      (met_below parent child (leads_in nodes from.address parent leads) points y met)

  -- ---- a subvolume

  root_reach : (sub : ℕ) (from : Linked) → Contains nodes from → value_at sub layout.roots ≡ Some from.address
      → reach layout sub ≡ under from.level from.address
  unfolding reach reach_of_root
  root_reach sub from has is =
      let p = placed from has in
      ap (reach_of layout) is
      ∙ ap (λ level. under level from.address)
      (ap level_of (node_is from.address p.0 p.2) ∙ ap (λ (n : Linked). n.level) p.3)

  no_reach : (sub : ℕ) → value_at sub layout.roots ≡ None → reach layout sub ≡ []
  unfolding reach
  no_reach sub is = ap (reach_of layout) is

  module _ (numbers : IsStrictlyIncreasing (keys_of layout.roots)) where
    module _ (root : ℕ × ℕ) (there : Contains layout.roots root) where
      begin : (from : Linked) × Contains nodes from × (from.address ≡ root.1)
      begin = links.begin root (subst (λ (table : List (ℕ × ℕ)). Contains table root) (sym links.roots) there)

      reach_is : reach layout root.0 ≡ under begin.0.level begin.0.address
      reach_is =
          root_reach root.0 begin.0 begin.1
          (value_of_entry layout.roots root numbers there ∙ ap Some (sym begin.2))

      -- it reaches what nodes have that pointers lead to from its root
      pub reached_led : (y : Element) → Contains (reach layout root.0) y
          → (x : Linked) × Contains nodes x × Leads nodes root.1 x
          × Contains (own_elements layout.nodesize x.address (node_at layout.nodes x.address)) y
      reached_led y has =
          met_led root.1 begin.0.level begin.0 begin.1 (Here begin.0 begin.1 begin.2) y
          (subst (λ (met : List Element). Contains met y) reach_is has)

      -- and nothing else
      pub led_reached : (x : Linked) (y : Element) → Leads nodes root.1 x
          → Contains (own_elements layout.nodesize x.address (node_at layout.nodes x.address)) y
          → Contains (reach layout root.0) y
      led_reached x y leads has =
          subst (λ (met : List Element). Contains met y) (sym reach_is)
          (led_met begin.0 x begin.1 (subst (λ a. Leads nodes a x) (sym begin.2) leads) y
          (own_under x.level x.address y has))

    -- whatever is reached is a node's
    pub reached_own : (sub : ℕ) (y : Element) → Contains (reach layout sub) y
        → (x : Linked) × Contains nodes x
        × Contains (own_elements layout.nodesize x.address (node_at layout.nodes x.address)) y
    reached_own sub y has = by (value_at sub layout.roots) refl where
      by : (found : Option ℕ) → value_at sub layout.roots ≡ found
          → (x : Linked) × Contains nodes x × Contains (own x.address) y
      by None is = absurd (none_contained y (subst (λ (met : List Element). Contains met y) (no_reach sub is) has))
      by (Some at) is =
          let entry = entry_of_value sub at layout.roots is in
          let found = reached_led (sub, at) entry y has in
          (found.0, found.1, found.3)
