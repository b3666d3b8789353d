-- A node is dropped, and then its children are parts of what is open.
use Rattle.std.proofs.Common.{◌≡◌, ℕ, zero, suc, ◌-◌, ◌<◌, Bool, true, List, Option, Some, None, arith, refl, sym, ap}
use Rattle.std.proofs.Common.{subst, ◌∙◌, inl, inr}
use Rattle.std.specs.Prelude.{◌==◌, ◌&&◌, not, slice_get}
use Rattle.std.proofs.lemmas.Bool.{and_from, and_parts, cases_Bool, eq-eqb, eqb-true, false≢true}
use Rattle.qg_device.specs.History.{History}
use Rattle.qg_node.specs.declared.node.Node.{Node}
use Rattle.qg_node.specs.declared.node.Node.TheVariants.{Inner}
use Rattle.qg_node.specs.declared.pointer.Pointer.{Pointer}
use Rattle.qg_node.specs.Nodes.{header_of, own_pointers}
use Rattle.qg_super.specs.declared.superblock.Super.{Super}
use Rattle.qg_super.specs.Places.{is_served}
use Rattle.qg_image.specs.Table.{has_key, value_at}
use Rattle.qg_image.specs.State.{State, next_generation, node_at}
use Rattle.qg_image.specs.declared.expected.Expected.{Expected}
use Rattle.qg_image.specs.declared.failure.Failure.{Failure}
use Rattle.qg_image.specs.declared.tree.TreeKind.TheVariants.{Files}
use Rattle.qg_image.specs.Walk.{node_failure, pointers_failure, walk_failure}
use Rattle.qg_machine.specs.Layout.{super_to_come}
use Rattle.qg_walk.specs.Standing.{form_failure}
use Rattle.qg_walk.proofs.Failures.{node_failure-form}
use Rattle.qg_node_alloc.specs.declared.ground.Ground.{Ground}
use Rattle.qg_owner_rule.proofs.Listed.{contains_at}
use Rattle.qg_owner_rule.proofs.Reaching.{entry_of_value}
use Rattle.qg_reach.proofs.Members.{contains_map}
use Rattle.qg_extents.specs.Table.{book_of}
use Rattle.qg_tree_read.specs.Branch.{AreBranches, IsBranch}
use Rattle.qg_tree_read.specs.Tree.{super_for}
use Rattle.qg_tree_read.proofs.BranchFrames.{reach-top}
use Rattle.qg_tree_read.proofs.Branches.{branch-below, branch-level, branch-top}
use Rattle.qg_tree_backrefs.specs.declared.tree_refs.TreeRefs.{TreeRefs}
use Rattle.qg_tree_backrefs.specs.Following.{references_to}
use Rattle.qg_shared_trees.proofs.Referring.{child-counted, owed-referred}
use Rattle.qg_shared_trees.proofs.Meeting.{placed-there}
use Rattle.qg_subvolumes.specs.declared.child.Child.{Child}
use Rattle.qg_subvolumes.specs.Dropping.{AreParts, HoldsPartly, IsPart, IsUnder, children_told, is_below, layout_partly}
use Rattle.qg_subvolumes.proofs.NodesBelow.{form_super}
use Rattle.qg_subvolumes.proofs.Children.{IsChild, below-child, children-parts, less-single, node-passed, walk}
use Rattle.qg_subvolumes.proofs.Opened.{below-reached, key_of, node_of, open-part, open-there, reached-below}

-- ---- how a node is judged

form_none : (super : Super) (expected : Expected) (at : ℕ) (node : Node) (form : Option Failure)
    → form_failure Files super expected at node ≡ form → node_failure Files super expected at node ≡ None
    → form_failure Files super expected at node ≡ None
form_none super expected at node None is none = is
form_none super expected at node (Some failure) is none =
    let wrong = sym none ∙ node_failure-form Files super expected at node failure is in absurd cc

module _ (land : Ground) (history : History) (book : TreeRefs) (state : State) (sub : ℕ)
    (waiting : ℕ → Bool) (holds : HoldsPartly land history book state sub waiting)
    (served : is_served land.space.sizes ≡ true) (level : ℕ) (part : Child) (is : IsPart state waiting level part) where
  abbrev at : ℕ
  at = part.way.address

  abbrev node : Node
  node = is.placed.node

  abbrev nodes : ℕ → Option Node
  nodes = node_at state.layout

  pub top-there : nodes at ≡ Some node
  top-there = node_of state.layout at is.placed is.there

  pub top-open : waiting at ≡ true
  top-open = is.opened at
      (reached-below land history book state sub waiting holds served level at at node top-there
      (reach-top nodes level at)) (key_of state.layout at is.placed is.there)

  passed : (node_failure Files (super_to_come state) part.way.expected at node ≡ None)
      × ((lower : ℕ) → level ≡ suc lower → pointers_failure (walk state lower) ((header_of node).level - 1)
      part.way.expected.to (own_pointers node) ≡ None)
  unfolding walk_failure
  passed = by_level level refl is.walked
    where
      by_level : (n : ℕ) → level ≡ n
          → walk state n part.way.expected at ≡ None
          → (node_failure Files (super_to_come state) part.way.expected at node ≡ None)
          × ((lower : ℕ) → level ≡ suc lower → pointers_failure (walk state lower) ((header_of node).level - 1)
          part.way.expected.to (own_pointers node) ≡ None)
      by_level zero same none =
          let parts = node-passed (node_failure Files (super_to_come state)) (λ expected address. None)
          part.way.expected at (nodes at) node top-there none in
          (parts.0, λ lower is. absurd (omega (arith, same, is)))
      by_level (suc n) same none =
          let parts = node-passed (node_failure Files (super_to_come state)) (walk state n) part.way.expected at
          (nodes at) node top-there none in (
            parts.0,
            λ lower is.
                let equal : n ≡ lower = omega (arith, same, is) in
                subst (λ (k : ℕ). pointers_failure (walk state k) ((header_of node).level - 1) part.way.expected.to
                (own_pointers node) ≡ None) equal parts.1,
          )

  -- it is formed, as the tree asks
  pub top-formed : (next nodesize : ℕ) → next ≡ next_generation state → nodesize ≡ state.sizes.nodesize
      → form_failure Files (super_for next nodesize) part.way.expected at node ≡ None
  top-formed next nodesize same alike =
      let form = form_none (super_to_come state) part.way.expected at node
      (form_failure Files (super_to_come state) part.way.expected at node) refl passed.0 in
      ap (λ (n : ℕ). form_failure Files (super_for n nodesize) part.way.expected at node) same
      ∙ ap (λ (n : ℕ). form_failure Files (super_for (next_generation state) n) part.way.expected at node) alike
      ∙ sym (form_super (super_to_come state) part.way.expected at node) ∙ form

  pub top-level : (header_of node).level ≡ level
  top-level =
      let top = branch-top Files (super_to_come state) nodes level at is.items is.branch in
      let same : top.0 ≡ node = let both = sym top.1 ∙ top-there in cc in
      ap (λ (n : Node). (header_of n).level) (sym same) ∙ top.2

  -- open nodes but this one
  abbrev less : ℕ → Bool
  less q = waiting q && not (q == at)

  less_open : (q : ℕ) → less q ≡ true → waiting q ≡ true
  less_open q is = (and_parts (waiting q) (not (q == at)) is).0

  less_other : (q : ℕ) → less q ≡ true → q ≡ at → ⊥
  less_other q is same =
      let own = (and_parts (waiting q) (not (q == at)) is).1 in
      let equal = eq-eqb q at same in
      let wrong = sym (ap not equal) ∙ own in absurd (false≢true wrong)

  still_less : (q : ℕ) → waiting q ≡ true → (q ≡ at → ⊥) → less q ≡ true
  still_less q is differ = and_from (waiting q) (not (q == at)) is (elim (cases_Bool (q == at)) [
    | inl same ↦ absurd (differ (eqb-true q at same))
    | inr other ↦ ap not other
  ])

  module _ (lower : ℕ) (high : level ≡ suc lower) where
    branch_here : IsBranch Files (super_to_come state) nodes (suc lower) at is.items
    branch_here = subst (λ (n : ℕ). IsBranch Files (super_to_come state) nodes n at is.items) high is.branch

    -- a child, and what lies below it
    module _ (place : ℕ) (pointer : Pointer) (there : slice_get (own_pointers node) place ≡ Some pointer) where
      below_here : (q : ℕ) → is_below state lower pointer.child q ≡ true → is_below state level at q ≡ true
      below_here q below =
          subst (λ (n : ℕ). is_below state n at q ≡ true) (sym high)
          (below-child state lower at q node top-there place pointer there below)

      pub open_below : (q : ℕ) → is_below state lower pointer.child q ≡ true → has_key q state.layout ≡ true
          → waiting q ≡ true
      open_below q below key = is.opened q (below_here q below) key

      pub not_top : (q : ℕ) → is_below state lower pointer.child q ≡ true → has_key q state.layout ≡ true → q ≡ at → ⊥
      not_top q below key same =
          let reaches = below-reached land history book state sub waiting holds served lower pointer.child q open_below
          key below in
          let child = branch-below Files (super_to_come state) nodes lower at is.items branch_here node top-there place
          pointer there in
          let low = branch-level Files (super_to_come state) nodes lower pointer.child child.0 child.3 q reaches in
          let one : low.0 ≡ node = let both = sym low.1 ∙ ap nodes same ∙ top-there in cc in
          let levels = ap (λ (n : Node). (header_of n).level) one in
          omega (arith, levels, low.2, top-level, high)

      under_here : IsUnder state less pointer.child
      under_here q other its is' leads =
          less_other q is' (is.single q at pointer.child other node (less_open q is') top-open its top-there leads
          (contains_map (λ (p : Pointer). p.child) (own_pointers node) pointer
          (contains_at (own_pointers node) place pointer there)))

      referred : 0 < references_to (book_of book.refs) pointer.child
      referred =
          let layout = layout_partly state sub waiting in
          let one = child-counted layout pointer.child (record {
            entry = (at, is.placed);
            has = entry_of_value at is.placed layout.nodes
                (open-there land history book state sub waiting holds served at is.placed is.there top-open);
            leads = contains_map (λ (p : Pointer). p.child) (own_pointers node) pointer
                (contains_at (own_pointers node) place pointer there);
          }) in
          owed-referred layout (book_of book.refs) holds.agrees pointer.child one.0 one.1

      is_child : IsChild state lower less (book_of book.refs) pointer
      is_child =
          let child = branch-below Files (super_to_come state) nodes lower at is.items branch_here node top-there place
          pointer there in
          let placed = placed-there state.layout pointer.child (value_at pointer.child state.layout) refl child.2.node
          child.2.there in
          let key = key_of state.layout pointer.child placed.0 placed.1 in
          let opened = open_below pointer.child
          (reached-below land history book state sub waiting holds served lower pointer.child pointer.child child.2.node
          child.2.there (reach-top nodes lower pointer.child)) key in
          record {
            opened = λ q below key. still_less q (open_below q below key) (not_top q below key);
            under = under_here;
            placed = placed.0;
            there = placed.1;
            mark = sym ((open-part land history book state sub waiting holds served pointer.child placed.0 placed.1
                opened).mark referred);
          }

    pub branches_here : AreBranches Files (super_to_come state) nodes lower (own_pointers node) is.items
    unfolding IsBranch
    branches_here =
        let branch = branch_here in
        let same : node ≡ Inner branch.0 branch.1 = let both = sym top-there ∙ branch.2 in cc in
        subst (λ (n : Node). AreBranches Files (super_to_come state) nodes lower (own_pointers n) is.items) (sym same)
        branch.4

    lower_is : (header_of node).level - 1 ≡ lower
    lower_is = omega (arith, top-level, high)

    -- once the node was dropped its children are parts
    pub children-are : AreParts state less lower
        (children_told (book_of book.refs) part.way.expected.to lower (own_pointers node))
    children-are =
        children-parts state lower part.way.expected.to (book_of book.refs) (own_pointers node) is.items waiting less
        (λ from q opened key below. below-reached land history book state sub waiting holds served lower from q opened
        key below)
        less_open
        (subst (λ (n : ℕ). pointers_failure (walk state lower) n part.way.expected.to (own_pointers node) ≡ None)
        lower_is (passed.1 lower high))
        branches_here is.ascending is_child (less-single state waiting less less_open is.single)
