-- What a node's step and its children's steps leave is what a part's step leaves.
use Rattle.std.proofs.Common.{◌≡◌, ℕ, suc, ◌+◌, ◌<◌, Bool, true, List, [], ◌∷◌, map, Option, Some, arith, refl, sym, ap}
use Rattle.std.proofs.Common.{subst, ◌∙◌, inl, inr}
use Rattle.std.specs.Prelude.{◌==◌, ◌&&◌, not, slice_get}
use Rattle.std.specs.List.{flat_map, sum_by}
use Rattle.std.proofs.lemmas.Bool.{cases_Bool, eq-eqb, ne_eqb}
use Rattle.std.proofs.lemmas.Bool.Decides.{eqb_tells}
use Rattle.std.proofs.lemmas.List.Sums.{sum_by-cons}
use Rattle.std.proofs.lemmas.Option.{same_Some}
use Rattle.qg_device.specs.History.{History}
use Rattle.qg_node.specs.declared.node.Node.{Node}
use Rattle.qg_node.specs.declared.node.Node.TheVariants.{Inner}
use Rattle.qg_node.specs.declared.pointer.Pointer.{Pointer}
use Rattle.qg_node.specs.Nodes.{own_pointers}
use Rattle.qg_super.specs.declared.superblock.Super.{Super}
use Rattle.qg_super.specs.Places.{is_served}
use Rattle.qg_image.specs.Table.{has_key, value_at}
use Rattle.qg_image.specs.Reach.{extent_of, is_among, own_elements, pieces_of, reach_under}
use Rattle.qg_image.specs.State.{State, node_at}
use Rattle.qg_image.specs.declared.expected.Expected.{Expected}
use Rattle.qg_image.specs.declared.tree.TreeKind.TheVariants.{Files}
use Rattle.qg_machine.specs.Layout.{super_to_come}
use Rattle.qg_blocks.specs.NodesInMemory.{Held}
use Rattle.qg_blocks.specs.NodesFound.{held_at}
use Rattle.qg_node_alloc.specs.declared.ground.Ground.{Ground}
use Rattle.qg_extents.specs.Table.{book_of}
use Rattle.qg_tree_read.specs.Branch.{IsBranch}
use Rattle.qg_tree_read.specs.Way.{IsVisited}
use Rattle.qg_tree_read.proofs.BranchApart.{branches-apart}
use Rattle.qg_tree_read.proofs.BranchFrames.{reach-top}
use Rattle.qg_tree_backrefs.specs.declared.tree_refs.TreeRefs.{TreeRefs}
use Rattle.qg_shared_trees.proofs.ForestExtents.{some-of}
use Rattle.qg_subvolumes.specs.declared.child.Child.{Child}
use Rattle.qg_subvolumes.specs.Dropping.{HoldsPartly, IsPart, children_told, is_below, parts_reached, without_part}
use Rattle.qg_subvolumes.specs.Dropping.{without_parts}
use Rattle.qg_subvolumes.proofs.Again.{holds-again}
use Rattle.qg_subvolumes.proofs.Among.{among-some, nodes_among}
use Rattle.qg_subvolumes.proofs.Dropped.{count-inner, count-pointers, parts-sum, told-places, without-inner}
use Rattle.qg_subvolumes.proofs.Opened.{below-reached, key_of, named-apart, open-part, reached-below}
use Rattle.qg_subvolumes.proofs.Under.{branches_here, not_top, open_below, top-open, top-there}

module _ (land : Ground) (history : History) (book : TreeRefs) (state : State) (sub : ℕ)
    (waiting : ℕ → Bool) (holds : HoldsPartly land history book state sub waiting) where
  -- what is held is held once a node was read
  pub holds-read : (blocks : Held) (after : History) → blocks.draft ≡ land.blocks.draft → after ≡ history
      → HoldsPartly (record land { blocks = blocks }) after book state sub waiting
  holds-read blocks after draft same =
      subst (λ (h : History). HoldsPartly (record land { blocks = blocks }) h book state sub waiting)
      (sym same)
      (holds-again state sub waiting waiting (λ q key. refl) land (record land { blocks = blocks }) history book refl
      draft holds)

  module _ (served : is_served land.space.sizes ≡ true) (level : ℕ) (part : Child)
      (is : IsPart state waiting level part) where
    abbrev at : ℕ
    at = part.way.address

    abbrev node : Node
    node = is.placed.node

    abbrev less : ℕ → Bool
    less q = waiting q && not (q == at)

    there : node_at state.layout at ≡ Some node
    there = top-there land history book state sub waiting holds served level part is

    opened : waiting at ≡ true
    opened = top-open land history book state sub waiting holds served level part is

    key : has_key at state.layout ≡ true
    key = key_of state.layout at is.placed is.there

    -- the node that was visited is that of the layout
    pub visited-same : (super : Super) (expected : Expected) (held : Held)
        → (visited : IsVisited Files super expected land.blocks.draft history held at) → node ≡ visited.node
    visited-same super expected held visited =
        visited.alone node
        (open-part land history book state sub waiting holds served at is.placed is.there opened).told

    pub peeked : (super : Super) (expected : Expected) (held : Held)
        → (visited : IsVisited Files super expected land.blocks.draft history held at) → (seen : Node)
        → held_at held at ≡ Some seen → seen ≡ node
    peeked super expected held visited seen has =
        sym (same_Some visited.node seen (sym visited.is ∙ has)) ∙ sym (visited-same super expected held visited)

    -- a part has a node at least
    pub part-some : 0 < parts_reached state level (part ∷ [])
    part-some =
        let below = reached-below land history book state sub waiting holds served level at at node there
        (reach-top (node_at state.layout) level at) in
        let some = among-some state.layout at (reach_under (node_at state.layout) state.sizes.nodesize level at) key
        below in
        let one = sum_by-cons (λ (part : Child). nodes_among state.layout (reach_under (node_at state.layout)
        state.sizes.nodesize level part.way.address)) part [] in
        omega (arith, some, one)

    -- ---- a leaf

    own_apart : (q : ℕ) → has_key q state.layout ≡ true → waiting q ≡ true
        → is_among q (map extent_of (pieces_of node)) ≡ true → ⊥
    own_apart q has open_q among =
        let other = some-of (value_at q state.layout) has in
        named-apart land history book state sub waiting holds served at q is.placed other.0 is.there opened other.1
        open_q among

    own_is : (q : ℕ) → has_key q state.layout ≡ true → waiting q ≡ true
        → is_among q (own_elements state.sizes.nodesize at (Some node)) ≡ (q == at)
    own_is q has open_q = elim (eqb_tells q at) [
      | inl (equal, same) ↦ rw (eq-eqb at q (sym same), equal) refl
      | inr (unequal, differ) ↦ elim (cases_Bool (is_among q (map extent_of (pieces_of node)))) [
        | inl among ↦ absurd (own_apart q has open_q among)
        | inr none ↦ rw (ne_eqb at q (λ same. differ (sym same)), none, unequal) refl
      ]
    ]

    leaf_without : (q : ℕ) → has_key q state.layout ≡ true → without_part state 0 at waiting q ≡ less q
    leaf_without q has = elim (cases_Bool (waiting q)) [
      | inl open_q ↦
          ap (λ (o : Option Node). waiting q && not (is_among q (own_elements state.sizes.nodesize at o))) there
          ∙ ap (λ (b : Bool). waiting q && not b) (own_is q has open_q)
      | inr closed ↦ rw closed refl
    ]

    pub leaf-leaves : level ≡ 0 → (new : Ground) (after : History) (next : TreeRefs)
        → HoldsPartly new after next state sub less
        → HoldsPartly new after next state sub (without_part state level at waiting)
    leaf-leaves low new after next parted =
        subst (λ (n : ℕ). HoldsPartly new after next state sub (without_part state n at waiting)) (sym low)
        (holds-again state sub less (without_part state 0 at waiting) leaf_without new new after next refl refl parted)

    -- ---- an inner node

    module _ (lower : ℕ) (high : level ≡ suc lower) where
      branch : IsBranch Files (super_to_come state) (node_at state.layout) (suc lower) at is.items
      branch = subst (λ (n : ℕ). IsBranch Files (super_to_come state) (node_at state.layout) n at is.items) high
          is.branch

      inner_is : (pointers : List Pointer) × (own_pointers node ≡ pointers)
          × ((q : ℕ) → without_part state (suc lower) at waiting q
          ≡ without_parts state lower (map (λ pointer. pointer.child) pointers) less q)
          × (parts_reached state (suc lower) (part ∷ []) ≡ nodes_among state.layout
          (flat_map (λ pointer. reach_under (node_at state.layout) state.sizes.nodesize lower pointer.child) pointers)
          + 1)
      unfolding IsBranch
      inner_is =
          let b = branch in
          let same : node ≡ Inner b.0 b.1 = let both = sym there ∙ b.2 in cc in
          let own : own_pointers node ≡ b.1 = ap own_pointers same in (
            b.1,
            own,
            without-inner state lower at b.0 b.1 b.2 waiting,
            count-inner state lower at b.0 b.1 b.2 part refl key (λ place pointer has below.
                not_top land history book state sub waiting holds served level part is lower high place pointer
                (subst (λ (ps : List Pointer). slice_get ps place ≡ Some pointer) (sym own) has) at below key refl),
          )

      pub inner-leaves : (children : List Child) → children
          ≡ children_told (book_of book.refs) part.way.expected.to lower (own_pointers node)
          → (new : Ground) (after : History) (next : TreeRefs)
          → HoldsPartly new after next state sub
          (without_parts state lower (map (λ part. part.way.address) children) less)
          → HoldsPartly new after next state sub (without_part state level at waiting)
      inner-leaves children told new after next dropped =
          let inner = inner_is in
          let places : map (λ (part : Child). part.way.address) children ≡ map (λ (p : Pointer). p.child) inner.0
          = ap (λ (list : List Child). map (λ (part : Child). part.way.address) list) told
          ∙ told-places (book_of book.refs) part.way.expected.to lower (own_pointers node)
          ∙ ap (λ (ps : List Pointer). map (λ (p : Pointer). p.child) ps) inner.1 in
          subst (λ (n : ℕ). HoldsPartly new after next state sub (without_part state n at waiting)) (sym high)
          (holds-again state sub (without_parts state lower (map (λ (p : Pointer). p.child) inner.0) less)
          (without_part state (suc lower) at waiting) (λ q has. inner.2 q) new new after next refl refl
          (subst (λ (list : List ℕ). HoldsPartly new after next state sub (without_parts state lower list less)) places
          dropped))

      apart_here : (i j : ℕ) (p r : Pointer) → slice_get (own_pointers node) i ≡ Some p
          → slice_get (own_pointers node) j ≡ Some r → (i ≡ j → ⊥) → (q : ℕ) → has_key q state.layout ≡ true
          → is_below state lower p.child q ≡ true → is_below state lower r.child q ≡ true → ⊥
      apart_here i j p r is_p is_r differ q has below below' =
          branches-apart Files (super_to_come state) (node_at state.layout) lower (own_pointers node) is.items
          (branches_here land history book state sub waiting holds served level part is lower high) is.ascending i j p r
          is_p is_r differ q
          (below-reached land history book state sub waiting holds served lower p.child q
          (open_below land history book state sub waiting holds served level part is lower high i p is_p) has below)
          (below-reached land history book state sub waiting holds served lower r.child q
          (open_below land history book state sub waiting holds served level part is lower high j r is_r) has below')

      -- the part has a node more than those of its children
      pub inner-counts : (children : List Child) → children
          ≡ children_told (book_of book.refs) part.way.expected.to lower (own_pointers node)
          → parts_reached state level (part ∷ []) ≡ parts_reached state lower children + 1
      inner-counts children told =
          let inner = inner_is in
          let under = λ (p : Pointer). reach_under (node_at state.layout) state.sizes.nodesize lower p.child in
          let above = ap (λ (n : ℕ). parts_reached state n (part ∷ [])) high in
          let flat = ap (λ (ps : List Pointer). nodes_among state.layout (flat_map under ps)) inner.1 in
          let counted = count-of (own_pointers node) apart_here in
          let sum = parts-of (own_pointers node) in
          let list = ap (λ (list : List Child). parts_reached state lower list) told in
          let one = inner.3 in
          omega (arith, above, flat, counted, sum, list, one)
        where
          count-of : (some : List Pointer)
              → ((i j : ℕ) (p r : Pointer) → slice_get some i ≡ Some p → slice_get some j ≡ Some r → (i ≡ j → ⊥)
              → (q : ℕ) → has_key q state.layout ≡ true → is_below state lower p.child q ≡ true
              → is_below state lower r.child q ≡ true → ⊥)
              → nodes_among state.layout
              (flat_map (λ p. reach_under (node_at state.layout) state.sizes.nodesize lower p.child) some)
              ≡ sum_by (λ p. nodes_among state.layout
              (reach_under (node_at state.layout) state.sizes.nodesize lower p.child)) some
          count-of some apart = count-pointers state lower some apart

          parts-of : (some : List Pointer)
              → parts_reached state lower (children_told (book_of book.refs) part.way.expected.to lower some)
              ≡ sum_by (λ p. nodes_among state.layout
              (reach_under (node_at state.layout) state.sizes.nodesize lower p.child)) some
          parts-of some = parts-sum state lower (book_of book.refs) part.way.expected.to some
