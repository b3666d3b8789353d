-- Where a state is held, what is read of its nodes are the links of its layout: so who reaches a node is told by them.
use Rattle.std.proofs.Common.{◌≡◌, ℕ, zero, suc, ◌+◌, Bool, true, false, List, [], ◌∷◌, map, Option, Some, refl, sym}
use Rattle.std.proofs.Common.{ap, subst, ◌∙◌, arith, inl, inr}
use Rattle.std.specs.Prelude.{is_some}
use Rattle.std.specs.Option.{option_map}
use Rattle.std.specs.List.{Contains}
use Rattle.std.specs.List.Sorted.{IsStrictlyIncreasing}
use Rattle.std.proofs.lemmas.Option.{same_Some}
use Rattle.qg_device.specs.History.{History}
use Rattle.qg_node.specs.declared.node.Node.{Node}
use Rattle.qg_node.specs.declared.node.Node.TheVariants.{Leaf}
use Rattle.qg_node.specs.declared.pointer.Pointer.{Pointer}
use Rattle.qg_node.specs.Nodes.{header_of, own_pointers}
use Rattle.qg_node.specs.declared.item.Item.{Item}
use Rattle.qg_super.specs.declared.superblock.Super.{Super}
use Rattle.qg_image.specs.Table.{has_key, keys_of, value_at}
use Rattle.qg_image.specs.declared.element.Element.{Element}
use Rattle.qg_image.specs.Owed.{layout_extents}
use Rattle.qg_image.specs.Reach.{is_among, level_of}
use Rattle.qg_image.specs.State.{Placed, State, Subvolume, layout_of, node_at}
use Rattle.qg_image.proofs.Contained.{none_contained}
use Rattle.qg_reach.specs.Sets.{HaveSame}
use Rattle.qg_reach.proofs.Members.{contains_map, one_mapped}
use Rattle.qg_image.specs.declared.tree.TreeKind.TheVariants.{Files}
use Rattle.qg_machine.specs.Layout.{IsTreeOf, super_to_come}
use Rattle.qg_node_alloc.specs.declared.ground.Ground.{Ground}
use Rattle.qg_node_alloc.specs.Land.{IsGround}
use Rattle.qg_owner_rule.specs.Linked.{AreLinksOf, HasChildAt, HasNodeAt, linked_of}
use Rattle.qg_owner_rule.specs.declared.linked.Linked.{Linked}
use Rattle.qg_owner_rule.proofs.Listed.{index_of}
use Rattle.qg_owner_rule.proofs.Reaching.{entry_of_value, value_of_entry}
use Rattle.qg_qgroup_counts.specs.Surveyed.{AreSurveyed, links_in, surveyed_of}
use Rattle.qg_tree_read.specs.Branch.{IsBranch}
use Rattle.qg_tree_read.specs.Tree.{Reaches}
use Rattle.qg_tree_read.proofs.Branches.{branch-below, branch-top}
use Rattle.qg_tree_backrefs.specs.declared.tree_refs.TreeRefs.{TreeRefs}
use Rattle.qg_subvolumes.specs.ForestStanding.{HoldsState}
use Rattle.qg_subvolumes.proofs.ForestExtents.{AreApart, among-one, apart-held, branch-whole, extents-held, node-met}
use Rattle.qg_subvolumes.proofs.Meeting.{each-there, met-child, met-there, placed-there, root-met}

-- what is reached from a branch is the top of a branch, of its own level
branch-reached : (super : Super) (nodes : ℕ → Option Node) (level from : ℕ) (items : List Item)
    → IsBranch Files super nodes level from items → (q : ℕ) → Reaches nodes level from q
    → (lower : ℕ) × (under : List Item) × IsBranch Files super nodes lower q under
unfolding Reaches
branch-reached super nodes zero from items branch q here =
    (0, items, subst (λ (a : ℕ). IsBranch Files super nodes 0 a items) (sym here) branch)
branch-reached super nodes (suc level) from items branch q (inl here) =
    (suc level, items, subst (λ (a : ℕ). IsBranch Files super nodes (suc level) a items) (sym here) branch)
branch-reached super nodes (suc level) from items branch q (inr (node, is, place, pointer, there, further)) =
    let below = branch-below Files super nodes level from items branch node is place pointer there in
    branch-reached super nodes level pointer.child below.0 below.3 q further

-- a child of a node that is the top of a branch is a level lower
branch-child : (super : Super) (nodes : ℕ → Option Node) (level q : ℕ) (items : List Item)
    → IsBranch Files super nodes level q items → (node : Node) → nodes q ≡ Some node
    → (child : Node) (pointer : Pointer)
    → Contains (own_pointers node) pointer → nodes pointer.child ≡ Some child
    → (header_of node).level ≡ (header_of child).level + 1
unfolding IsBranch
branch-child super nodes zero q items branch node is child pointer has there =
    let same : node ≡ Leaf branch.0 items = let both = sym is ∙ branch.1 in cc in
    absurd (none_contained pointer (subst (λ (n : Node). Contains (own_pointers n) pointer) same has))
branch-child super nodes (suc level) q items branch node is child pointer has there =
    let place = index_of (own_pointers node) pointer has in
    let below = branch-below Files super nodes level q items branch node is place.0 pointer place.1 in
    let top = branch-top Files super nodes (suc level) q items branch in
    let low = branch-top Files super nodes level pointer.child below.0 below.3 in
    let one : top.0 ≡ node = same_Some top.0 node (sym top.1 ∙ is) in
    let other : low.0 ≡ child = same_Some low.0 child (sym low.1 ∙ there) in
    let mine = ap (λ (n : Node). (header_of n).level) one in
    let theirs = ap (λ (n : Node). (header_of n).level) other in
    omega (arith, mine, theirs, top.2, low.2)

module _ (land : Ground) (history : History) (book : TreeRefs) (state : State)
    (holds : HoldsState land history book state) (ground : IsGround land) where
  abbrev nodes : ℕ → Option Node
  nodes = node_at state.layout

  abbrev links : List Linked
  links = map (λ (entry : ℕ × Placed). linked_of entry.0 entry.1) state.layout

  -- a node of the layout is one of them
  linked_there : (q : ℕ) (placed : Placed) → value_at q state.layout ≡ Some placed → Contains links (linked_of q placed)
  linked_there q placed there =
      contains_map (λ (entry : ℕ × Placed). linked_of entry.0 entry.1) state.layout (q, placed)
      (entry_of_value q placed state.layout there)

  begins : (root : ℕ × ℕ) → Contains (layout_of state).roots root → HasNodeAt links root.1
  begins root has =
      let entry = one_mapped (λ (e : ℕ × Subvolume). (e.0, e.1.root)) state.subvolumes root has in
      let there = value_of_entry state.subvolumes entry.0 holds.numbers entry.1 in
      let met = root-met state holds.whole state.subvolumes holds.whole.trees entry.0.1.root
      (record { number = entry.0.0; subvolume = entry.0.1; there = there; here = refl }) in
      let found = met-there state holds.whole state.subvolumes holds.whole.trees entry.0.1.root met in
      let placed = placed-there state.layout entry.0.1.root (value_at entry.0.1.root state.layout) refl found.0
      found.1 in (
        linked_of entry.0.1.root placed.0,
        linked_there entry.0.1.root placed.0 placed.1,
        ap (λ (r : ℕ × ℕ). r.1) entry.2,
      )

  lies_apart : AreApart state
  lies_apart = apart-held land history book state holds ground.served

  below : (parent : Linked) (child : ℕ) → Contains links parent → Contains parent.children child
      → HasChildAt links parent child
  below parent child has leads =
      let entry = one_mapped (λ (e : ℕ × Placed). linked_of e.0 e.1) state.layout parent has in
      let q = entry.0.0 in
      let node = entry.0.1.node in
      let there = value_of_entry state.layout entry.0 holds.whole.ascending entry.1 in
      let is : nodes q ≡ Some node = ap (option_map (λ (p : Placed). p.node)) there in
      let own = subst (λ (l : Linked). Contains l.children child) (sym entry.2) leads in
      let pointer = one_mapped (λ (p : Pointer). p.child) (own_pointers node) child own in
      let met = node-met state holds.whole lies_apart q entry.0.1 there in
      let tree = each-there (λ (e : ℕ × Subvolume). IsTreeOf state e.1) met.number met.subvolume state.subvolumes
      holds.whole.trees met.there in
      let branch = branch-reached (super_to_come state) nodes (level_of (nodes met.subvolume.root)) met.subvolume.root
      tree.items (branch-whole state holds.whole met.subvolume tree) q met.reaches in
      let next = met-child state holds.whole state.subvolumes holds.whole.trees q node child met is own in
      let found = met-there state holds.whole state.subvolumes holds.whole.trees child next in
      let placed = placed-there state.layout child (value_at child state.layout) refl found.0 found.1 in
      let lower = branch-child (super_to_come state) nodes branch.0 q branch.1 branch.2 node is found.0 pointer.0
      pointer.1
      (subst (λ (a : ℕ). nodes a ≡ Some found.0) (sym pointer.2) found.1) in
      let top = ap (λ (l : Linked). l.level) entry.2 in
      let low = ap (λ (n : Node). (header_of n).level) placed.2 in (
        linked_of child placed.0,
        linked_there child placed.0 placed.1,
        refl,
        omega (arith, top, lower, low),
      )

  apart : (node : Linked) → Contains links node → is_among node.address (layout_extents (layout_of state)) ≡ false
  apart node has = by (is_among node.address (layout_extents (layout_of state))) refl where
    by : (b : Bool) → is_among node.address (layout_extents (layout_of state)) ≡ b → b ≡ false
    by false is = refl
    by true is =
        let one = among-one node.address (layout_extents (layout_of state)) is in
        let present = (extents-held land history book state holds ground.served one.0).0 one.1 in
        let entry = one_mapped (λ (e : ℕ × Placed). linked_of e.0 e.1) state.layout node has in
        let there = value_of_entry state.layout entry.0 holds.whole.ascending entry.1 in
        let address = ap (λ (l : Linked). l.address) entry.2 in
        absurd (lies_apart one.0 present
        (subst (λ (a : ℕ). has_key a state.layout ≡ true) (address ∙ sym one.2)
        (ap is_some there)))

  -- what is read are the links of the layout
  pub links-held : AreLinksOf (layout_of state) (layout_of state).roots links
  links-held = record { roots = refl; told = refl; begin = begins; below = below; apart = apart }

  -- with the layout's data extents, ascending, it is what the direct counts ask
  pub surveyed-held : (extents : List Element) → IsStrictlyIncreasing (map (λ extent. extent.address) extents)
      → HaveSame extents (layout_extents (layout_of state))
      → AreSurveyed (layout_of state) (layout_of state).roots
      (map (λ (entry : ℕ × Placed). surveyed_of entry.0 entry.1) state.layout) state.sizes.nodesize extents
  surveyed-held extents ascending named = record {
    numbers = subst IsStrictlyIncreasing (sym (keys state.subvolumes)) holds.numbers;
    links = subst (AreLinksOf (layout_of state) (layout_of state).roots) (sym (linked state.layout)) links-held;
    told = refl;
    bytes = refl;
    ascending = ascending;
    named = named;
  } where
    linked : (layout : List (ℕ × Placed))
        → links_in (map (λ (entry : ℕ × Placed). surveyed_of entry.0 entry.1) layout)
        ≡ map (λ (entry : ℕ × Placed). linked_of entry.0 entry.1) layout
    linked [] = refl
    linked (entry ∷ layout) = ap (λ (list : List Linked). linked_of entry.0 entry.1 ∷ list) (linked layout)

    keys : (table : List (ℕ × Subvolume))
        → keys_of (map (λ (entry : ℕ × Subvolume). (entry.0, entry.1.root)) table) ≡ keys_of table
    keys [] = refl
    keys (entry ∷ table) = ap (λ (list : List ℕ). entry.0 ∷ list) (keys table)
