-- How many nodes lie below the node that a way leads to: itself, and those below its children.
use Rattle.std.proofs.Common.{◌≡◌, ℕ, zero, suc, ◌+◌, ◌<◌, true, false, List, [], map, Option, Some, None, arith, refl}
use Rattle.std.proofs.Common.{sym, ap, subst, ◌∙◌, inl, inr}
use Rattle.std.specs.Prelude.{◌==◌, slice_get}
use Rattle.std.specs.List.{All}
use Rattle.std.proofs.lemmas.Bool.{eqb-true, or_cases}
use Rattle.std.proofs.lemmas.List.Sums.{sum_by-cons}
use Rattle.std.proofs.lemmas.Option.{same_Some}
use Rattle.qg_device.specs.History.{History}
use Rattle.qg_node.specs.declared.node.Node.{Node}
use Rattle.qg_node.specs.declared.node.Node.TheVariants.{Inner}
use Rattle.qg_node.specs.declared.pointer.Pointer.{Pointer}
use Rattle.qg_node.specs.Nodes.{header_of, own_pointers}
use Rattle.qg_super.specs.declared.superblock.Super.{Super}
use Rattle.qg_image.specs.Table.{has_key, value_at}
use Rattle.qg_image.specs.Reach.{extent_of, is_among, own_elements, pieces_of, reach_under}
use Rattle.qg_image.specs.State.{Placed, State, next_generation, node_at}
use Rattle.qg_image.specs.declared.expected.Expected.{Expected}
use Rattle.qg_image.specs.declared.tree.TreeKind.TheVariants.{Files}
use Rattle.qg_image.specs.Walk.{way_failure}
use Rattle.qg_machine.specs.Layout.{super_to_come}
use Rattle.qg_walk.specs.Standing.{form_failure}
use Rattle.qg_blocks.specs.NodesInMemory.{Draft, Held}
use Rattle.qg_blocks.specs.NodesFound.{held_at, told}
use Rattle.qg_tree_read.specs.Branch.{AreBranches, IsBranch}
use Rattle.qg_tree_read.specs.Tree.{Reaches, super_for}
use Rattle.qg_tree_read.specs.Way.{HasRead, IsVisited}
use Rattle.qg_tree_read.specs.declared.way.Way.{Way}
use Rattle.qg_tree_read.proofs.BranchApart.{branches-apart}
use Rattle.qg_tree_read.proofs.BranchWalk.{branch-under, branches-under, top-under}
use Rattle.qg_tree_read.proofs.Branches.{branch-below, branch-level}
use Rattle.qg_tree_read.proofs.Under.{IsInnerUnder, IsUnder, under-inner}
use Rattle.qg_shared_trees.proofs.Below.{met-reached}
use Rattle.qg_shared_trees.proofs.Meeting.{placed-there}
use Rattle.qg_subvolumes.specs.declared.child.Child.{Child}
use Rattle.qg_subvolumes.specs.Counting.{LeadsToBranch, TellsNodes, node_count_below, ways_reached, ways_told}
use Rattle.qg_subvolumes.specs.Dropping.{is_below}
use Rattle.qg_subvolumes.proofs.Among.{among-first, among-none, nodes_among}
use Rattle.qg_subvolumes.proofs.Dropped.{count-inner, count-pointers}
use Rattle.qg_subvolumes.proofs.Opened.{key_of}
use Rattle.qg_subvolumes.proofs.Ways.{ways-lead, ways-sum}

-- what is told is told once nodes were read
pub tells-read : (draft after : Draft) (history then : History) (state : State) → after ≡ draft
    → then ≡ history → TellsNodes draft history state → TellsNodes after then state
tells-read draft after history then state same still tells =
    subst (λ (d : Draft). TellsNodes d then state) (sym same)
    (subst (λ (h : History). TellsNodes draft h state) (sym still) tells)

-- two readings one after the other are one
pub read-on : (old mid new : Held) (a b c : History) (x y z : ℕ) → HasRead old mid a b x y
    → HasRead mid new b c y z → HasRead old new a c x z
read-on old mid new a b c x y z first second = record {
  draft = second.draft ∙ first.draft;
  bound = second.bound ∙ first.bound;
  history = second.history ∙ first.history;
  size = second.size ∙ first.size;
}

-- the rules of a node ask generation and bytes of a node of a superblock, and nothing else
pub form_super : (super : Super) (expected : Expected) (at : ℕ) (node : Node)
    → form_failure Files super expected at node ≡ form_failure Files (super_for super.generation super.nodesize)
    expected at node
unfolding way_failure
form_super super expected at node = refl

module _ (draft : Draft) (history : History) (state : State) (tells : TellsNodes draft history state)
  where
    abbrev nodes : ℕ → Option Node
    nodes = node_at state.layout

    abbrev super : Super
    super = super_to_come state

    -- what lies below a node, and is a node, is reached
    below_reached : (level from q : ℕ) → has_key q state.layout ≡ true → is_below state level from q ≡ true
        → Reaches nodes level from q
    below_reached level from q key below =
        let met = met-reached nodes state.sizes.nodesize level from q below in
        elim (or_cases (met.0 == q) (is_among q (map extent_of (pieces_of met.1))) met.4) [
          | inl same ↦ subst (λ (n : ℕ). Reaches nodes level from n) (eqb-true met.0 q same) met.2
          | inr named ↦
              let placed = placed-there state.layout met.0 (value_at met.0 state.layout) refl met.1 met.3 in
              absurd (tells.apart met.0 q placed.0 placed.1
              (subst (λ (n : Node). is_among q (map extent_of (pieces_of n)) ≡ true) (sym placed.2) named) key)
        ]

    module _ (level : ℕ) (way : Way) (levelled : way.expected.level ≡ Some level)
        (leads : LeadsToBranch state level way) where
      abbrev at : ℕ
      at = way.address

      under : IsUnder Files super nodes level way.expected at leads.items
      under = record { levelled = levelled; walked = leads.walked; items_are = leads.items_are }

      -- the node that it leads to
      top : (node : Node) × (nodes at ≡ Some node) × (form_failure Files super way.expected at node ≡ None)
      top = top-under Files super nodes level way.expected at leads.items under

      top_placed : (placed : Placed) × (value_at at state.layout ≡ Some placed) × (placed.node ≡ top.0)
      top_placed = placed-there state.layout at (value_at at state.layout) refl top.0 top.1

      top_key : has_key at state.layout ≡ true
      top_key = key_of state.layout at top_placed.0 top_placed.1

      pub top-told : (node : Node) × (told draft history at ≡ Some node)
          × ((next : ℕ) → next ≡ next_generation state
          → form_failure Files (super_for next draft.sizes.nodesize) way.expected at node ≡ None)
      top-told = (
        top.0,
        tells.tells at top_placed.0 top_placed.1 ∙ ap (λ (n : Node). Some n) top_placed.2,
        λ next same.
            ap (λ (n : ℕ). form_failure Files (super_for n draft.sizes.nodesize) way.expected at top.0) same
            ∙ ap (λ (n : ℕ). form_failure Files (super_for (next_generation state) n) way.expected at top.0)
            tells.nodesize ∙ sym (form_super super way.expected at top.0) ∙ top.2,
      )

      -- the node in memory is that one
      top_seen : (judge : Super) (held : Held)
          → IsVisited Files judge way.expected draft history held at → (seen : Node)
          → held_at held at ≡ Some seen → seen ≡ top.0
      top_seen judge held visited seen has =
          sym (same_Some visited.node seen (sym visited.is ∙ has))
          ∙ sym (visited.alone top.0 (tells.tells at top_placed.0 top_placed.1
          ∙ ap (λ (n : Node). Some n) top_placed.2))

      -- ---- a leaf

      pub leaf-count : level ≡ 0 → node_count_below state level at ≡ 1
      leaf-count low =
          let own = map extent_of (pieces_of top.0) in
          let none : (q : ℕ) → has_key q state.layout ≡ true → is_among q own ≡ true → ⊥
          = λ q key among. tells.apart at q top_placed.0 top_placed.1
          (subst (λ (n : Node). is_among q (map extent_of (pieces_of n)) ≡ true) (sym top_placed.2) among) key in
          let first = among-first state.layout (record { address = at; bytes = state.sizes.nodesize }) own top_key
          (λ q key among same. none q key among) in
          let rest = among-none state.layout own none in
          let level_is = ap (λ (n : ℕ). node_count_below state n at) low in
          let whole = ap (λ (o : Option Node). nodes_among state.layout (own_elements state.sizes.nodesize at o))
          top.1 in
          omega (arith, level_is, whole, first, rest)

      -- ---- an inner node

      module _ (lower : ℕ) (high : level ≡ suc lower) where
        inner : IsInnerUnder Files super nodes lower way.expected at leads.items
        inner =
            under-inner Files super nodes lower way.expected at leads.items
            (subst (λ (n : ℕ). IsUnder Files super nodes n way.expected at leads.items) high under)

        branches : AreBranches Files super nodes lower inner.pointers leads.items
        branches =
            branches-under Files super nodes lower way.expected.to inner.pointers leads.items inner.below

        branch : IsBranch Files super nodes (suc lower) at leads.items
        branch =
            subst (λ (n : ℕ). IsBranch Files super nodes n at leads.items) high
            (branch-under Files super nodes level way.expected at leads.items under)

        pointers_seen : (judge : Super) (held : Held)
            → IsVisited Files judge way.expected draft history held at → (seen : Node)
            → held_at held at ≡ Some seen → own_pointers seen ≡ inner.pointers
        pointers_seen judge held visited seen has =
            let same : top.0 ≡ Inner inner.header inner.pointers = let both = sym top.1 ∙ inner.here in cc in
            ap own_pointers (top_seen judge held visited seen has ∙ same)

        -- the ways to its children lead to branches
        pub children-lead : (judge : Super) (held : Held)
            → IsVisited Files judge way.expected draft history held at → (seen : Node)
            → held_at held at ≡ Some seen
            → All (LeadsToBranch state lower) (ways_told way.expected.to lower (own_pointers seen))
        children-lead judge held visited seen has =
            subst (λ (pointers : List Pointer). All (LeadsToBranch state lower)
            (ways_told way.expected.to lower pointers)) (sym (pointers_seen judge held visited seen has))
            (ways-lead state lower way.expected.to inner.pointers leads.items inner.below leads.ascending)

        not_top : (place : ℕ) (pointer : Pointer) → slice_get inner.pointers place ≡ Some pointer
            → is_below state lower pointer.child at ≡ true → ⊥
        not_top place pointer there below =
            let reaches = below_reached lower pointer.child at top_key below in
            let child = branch-below Files super nodes lower at leads.items branch (Inner inner.header inner.pointers)
            inner.here place pointer there in
            let low = branch-level Files super nodes lower pointer.child child.0 child.3 at reaches in
            let one : low.0 ≡ Inner inner.header inner.pointers = let both = sym low.1 ∙ inner.here in cc in
            let levels = ap (λ (n : Node). (header_of n).level) one in
            omega (arith, levels, low.2, inner.level_is)

        apart : (i j : ℕ) (p r : Pointer) → slice_get inner.pointers i ≡ Some p → slice_get inner.pointers j ≡ Some r
            → (i ≡ j → ⊥) → (q : ℕ) → has_key q state.layout ≡ true → is_below state lower p.child q ≡ true
            → is_below state lower r.child q ≡ true → ⊥
        apart i j p r is_p is_r differ q key below below' =
            branches-apart Files super nodes lower inner.pointers leads.items branches leads.ascending i j p r is_p is_r
            differ q (below_reached lower p.child q key below) (below_reached lower r.child q key below')

        counted : node_count_below state level at
            ≡ ways_reached state lower (ways_told way.expected.to lower inner.pointers) + 1
        counted =
            let part : Child = record { way = way; full = false } in
            let all = sum_by-cons (λ (part : Child). nodes_among state.layout (reach_under nodes state.sizes.nodesize
            (suc lower) part.way.address)) part [] in
            let one = count-inner state lower at inner.header inner.pointers inner.here part refl top_key not_top in
            let each = count-pointers state lower inner.pointers apart in
            let sum = ways-sum state lower way.expected.to inner.pointers in
            let above = ap (λ (n : ℕ). node_count_below state n at) high in
            omega (arith, all, one, each, sum, above)

        -- and below it lie one more than below them
        pub inner-count : (judge : Super) (held : Held)
            → IsVisited Files judge way.expected draft history held at → (seen : Node)
            → held_at held at ≡ Some seen
            → node_count_below state level at
            ≡ ways_reached state lower (ways_told way.expected.to lower (own_pointers seen)) + 1
        inner-count judge held visited seen has =
            subst (λ (pointers : List Pointer). node_count_below state level at
            ≡ ways_reached state lower (ways_told way.expected.to lower pointers) + 1)
            (sym (pointers_seen judge held visited seen has)) counted

      -- the node itself lies there
      pub some-below : 0 < node_count_below state level at
      some-below = by level refl where
        by : (n : ℕ) → level ≡ n → 0 < node_count_below state level at
        by zero low = let one = leaf-count low in omega (arith, one)
        by (suc lower) high = let more = counted lower high in omega (arith, more)
