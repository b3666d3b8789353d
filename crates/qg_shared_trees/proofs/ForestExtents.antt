-- The extents that the nodes of a whole state's layout name are those of its files, for any number of subvolumes.
use Rattle.std.proofs.Common.{◌≡◌, ℕ, ◌≤◌, true, List, [], ◌∷◌, Option, Some, None, arith, refl, sym, ap, subst, ◌∙◌}
use Rattle.std.proofs.Common.{◌↔◌, inl, inr}
use Rattle.std.specs.Prelude.{Ok, ◌==◌, is_some}
use Rattle.std.specs.List.{AllByRecursion, Contains}
use Rattle.std.specs.Option.{option_map}
use Rattle.std.specs.Result.{result_ok}
use Rattle.std.proofs.lemmas.Bool.{and_parts, eqb-true, false≢true, leb-true, or_cases}
use Rattle.qg_device.specs.History.{History}
use Rattle.qg_node.specs.declared.item.Item.{Item}
use Rattle.qg_node.specs.declared.node.Node.{Node}
use Rattle.qg_node.specs.Nodes.{header_of, own_items}
use Rattle.qg_super.specs.declared.sizes.Sizes.{Sizes}
use Rattle.qg_super.specs.declared.superblock.Super.{Super}
use Rattle.qg_super.specs.Places.{data_begin, is_run, is_served, is_slot}
use Rattle.qg_image.specs.Table.{has_key, value_at}
use Rattle.qg_image.specs.declared.element.Element.{Element}
use Rattle.qg_image.specs.Owed.{layout_extents}
use Rattle.qg_image.specs.Reach.{is_among, level_of}
use Rattle.qg_image.specs.Space.{present_extents}
use Rattle.qg_image.specs.State.{Placed, State, Subvolume, layout_of, next_generation, node_at}
use Rattle.qg_image.proofs.Contained.{contains_cases, contains_here, contains_later, none_contained}
use Rattle.qg_image.specs.declared.tree.TreeKind.TheVariants.{Files}
use Rattle.qg_image.specs.Among.{found_there}
use Rattle.qg_image.specs.Walk.{root_expected}
use Rattle.qg_machine.specs.Layout.{IsReached, IsTreeOf, IsWhole, found_in, super_to_come}
use Rattle.qg_tree_backrefs.specs.Types.{Ground}
use Rattle.qg_tree_read.specs.Branch.{IsBranch}
use Rattle.qg_tree_read.specs.Tree.{IsTree}
use Rattle.qg_tree_read.proofs.BranchWalk.{branch-under}
use Rattle.qg_tree_read.proofs.Walked.{IsTree-walked}
use Rattle.qg_owner_rule.proofs.Reaching.{entry_of_value, value_of_entry}
use Rattle.qg_reach.proofs.Members.{contains_flat_map, one_flat_mapped}
use Rattle.qg_reach.proofs.SlotRule.{slot_below}
use Rattle.qg_tree_backrefs.specs.declared.tree_refs.TreeRefs.{TreeRefs}
use Rattle.qg_shared_trees.specs.ForestStanding.{HoldsState}
use Rattle.qg_tree_read.proofs.BranchItems.{from-leaf, in-leaf}
use Rattle.qg_shared_trees.proofs.Meeting.{IsMet, each-there, is-reached-met, placed-there, root-low}
use Rattle.qg_shared_trees.proofs.PiecesTold.{TellsExtent, extents_of_files, file-item, item-file, item-named}
use Rattle.qg_shared_trees.proofs.PiecesTold.{named-item}
use Rattle.qg_shared_trees.proofs.Referring.{extents-named, named-extents, named_by}

-- ---- lists and tables

-- what holds of each holds of one of them
pub one-of : {A : Type 0} (P : A → Type 0) (xs : List A) (x : A) → AllByRecursion P xs → Contains xs x → P x
one-of P [] x all has = absurd (none_contained x has)
one-of {A} P (y ∷ ys) x all has = elim (contains_cases y ys x has) [
  | inl same ↦ subst P same all.0
  | inr later ↦ one-of P ys x all.1 later
]

pub among-one : (q : ℕ) (elements : List Element) → is_among q elements ≡ true
    → (element : Element) × Contains elements element × (element.address ≡ q)
among-one q [] among = absurd (false≢true among)
among-one q (element ∷ elements) among =
    elim (or_cases (element.address == q) (is_among q elements) among) [
      | inl here ↦ (element, contains_here element elements, eqb-true element.address q here)
      | inr later ↦
          let found = among-one q elements later in
          (found.0, contains_later element elements found.0 found.1, found.2)
    ]

pub some-of : {A : Type 0} (o : Option A) → is_some o ≡ true → (x : A) × (o ≡ Some x)
some-of None some = absurd (false≢true some)
some-of (Some x) some = (x, refl)

pub told-found : (o : Option Node) (at : ℕ) → o ≡ result_ok (found_there o at)
told-found None at = refl
told-found (Some node) at = refl

pub level-found : (o : Option Node) (at : ℕ) (node : Node) → found_there o at ≡ Ok node
    → (header_of node).level ≡ level_of o
level-found None at node is = absurd cc
level-found (Some other) at node is =
    let same : other ≡ node = cc in ap (λ (n : Node). (header_of n).level) (sym same)

-- ---- the trees of a whole state

-- no extent of the present files begins where a node of the layout lies
abbrev pub AreApart : State → Type 0
AreApart state = (run : Element) → Contains (present_extents state) run → has_key run.address state.layout ≡ true → ⊥

module _ (state : State) (whole : IsWhole state) where
  abbrev nodes : ℕ → Option Node
  nodes = node_at state.layout

  abbrev super : Super
  super = super_to_come state

  abbrev level_at : ℕ → ℕ
  level_at root = level_of (node_at state.layout root)

  -- a subvolume's tree stands from its root down, and has the items of its files
  pub tree-whole : (subvolume : Subvolume) → (tree : IsTreeOf state subvolume)
      → IsTree Files (super_to_come state) (node_at state.layout) (level_of (node_at state.layout subvolume.root))
      subvolume.root tree.items
  tree-whole subvolume tree =
      let root = subvolume.root in
      let low = root-low state whole state.subvolumes whole.trees subvolume tree in
      IsTree-walked Files super super (found_in state.layout) nodes (root_expected None None) (level_at root) root
      tree.items (λ at. told-found (nodes at) at) refl (omega arith) refl refl low
      (λ node is. level-found (nodes root) root node is) tree.walked tree.under

  -- so it is a branch
  pub branch-whole : (subvolume : Subvolume) → (tree : IsTreeOf state subvolume)
      → IsBranch Files (super_to_come state) (node_at state.layout) (level_of (node_at state.layout subvolume.root))
      subvolume.root tree.items
  branch-whole subvolume tree =
      let root = subvolume.root in
      let walked = tree-whole subvolume tree in
      branch-under Files super nodes (level_at root) (root_expected (Some (level_at root)) None) root tree.items
      (record { levelled = refl; walked = walked.walked; items_are = walked.items_are })

  -- what an item tells of a node that some subvolume reaches is an extent of the files
  pub piece-present : (q : ℕ) (node : Node) → IsMet state state.subvolumes q → node_at state.layout q ≡ Some node
      → (item : Item) → Contains (own_items node) item → (run : Element) → TellsExtent item run
      → Contains (present_extents state) run
  unfolding present_extents
  piece-present q node met there item has run tells =
      let tree = each-there (λ (entry : ℕ × Subvolume). IsTreeOf state entry.1) met.number met.subvolume
      state.subvolumes whole.trees met.there in
      let own = from-leaf Files super nodes item (level_at met.subvolume.root) met.subvolume.root tree.items
      (branch-whole met.subvolume tree) q met.reaches node there has in
      contains_flat_map (λ (entry : ℕ × Subvolume). extents_of_files entry.1.files) state.subvolumes
      (met.number, met.subvolume) run (entry_of_value met.number met.subvolume state.subvolumes met.there)
      (item-file (next_generation state) tree.items met.subvolume.files tree.files run item own tells)

  -- an extent of the files is named by a node of the layout
  pub present-named : (run : Element) → Contains (present_extents state) run
      → Contains (layout_extents (layout_of state)) run
  unfolding present_extents
  present-named run has =
      let entry = one_flat_mapped (λ (entry : ℕ × Subvolume). extents_of_files entry.1.files) state.subvolumes run
      has in
      let tree = one-of (λ (e : ℕ × Subvolume). IsTreeOf state e.1) state.subvolumes entry.0 whole.trees entry.1 in
      let item = file-item (next_generation state) tree.items entry.0.1.files tree.files run entry.2 in
      let leaf = in-leaf Files super nodes item.0 (level_at entry.0.1.root) entry.0.1.root tree.items
      (branch-whole entry.0.1 tree) item.1 in
      let placed = placed-there state.layout leaf.at (value_at leaf.at state.layout) refl leaf.node leaf.there in
      extents-named (layout_of state) (leaf.at, placed.0) run (entry_of_value leaf.at placed.0 state.layout placed.1)
      (item-named placed.0.node run item.0
      (subst (λ (n : Node). Contains (own_items n) item.0) (sym placed.2) leaf.has) item.2)

  module _ (apart : AreApart state) where
    -- each node of the layout is one that some subvolume reaches
    pub node-met : (q : ℕ) (placed : Placed) → value_at q state.layout ≡ Some placed → IsMet state state.subvolumes q
    node-met q placed there =
        let its = each-there (IsReached state) q placed state.layout whole.reached there in
        let seen = is-reached-met state whole state.subvolumes whole.trees q its.reached in
        elim (or_cases (seen.from == q) (is_among q (named_by seen.node)) seen.own) [
          | inl here ↦
              subst (λ (p : ℕ). IsMet state state.subvolumes p) (eqb-true seen.from q here) seen.met
          | inr names ↦
              let element = among-one q (named_by seen.node) names in
              let item = named-item seen.node element.0 element.1 in
              let present = piece-present seen.from seen.node seen.met seen.there item.0 item.1 element.0 item.2 in
              absurd (apart element.0 present
              (ap (λ (a : ℕ). has_key a state.layout) element.2 ∙ ap (λ (o : Option Placed). is_some o) there))
        ]

    pub named-present : (run : Element) → Contains (layout_extents (layout_of state)) run
        → Contains (present_extents state) run
    named-present run has =
        let entry = named-extents (layout_of state) run has in
        let there = value_of_entry state.layout entry.0 whole.ascending entry.1 in
        let item = named-item entry.0.1.node run entry.2 in
        piece-present entry.0.0 entry.0.1.node (node-met entry.0.0 entry.0.1 there)
        (ap (λ (o : Option Placed). option_map (λ (placed : Placed). placed.node) o) there) item.0 item.1 run item.2

    -- the extents of the layout are those of the files
    pub extents-whole : (run : Element) → Contains (layout_extents (layout_of state)) run
        ↔ Contains (present_extents state) run
    extents-whole run = (named-present run, present-named run)

-- ---- where a state is held

run_behind : (sizes : Sizes) (address bytes : ℕ) → is_run sizes address bytes ≡ true → data_begin ≤ address
unfolding is_run
run_behind sizes address bytes is =
    let a = and_parts _ _ is in
    let b = and_parts _ _ a.0 in
    let c = and_parts _ _ b.0 in
    let d = and_parts _ _ c.0 in
    leb-true data_begin address d.0

-- a run does not begin where a slot does
pub run-slot : (sizes : Sizes) (address bytes : ℕ) → is_served sizes ≡ true → is_run sizes address bytes ≡ true
    → is_slot sizes address ≡ true → ⊥
run-slot sizes address bytes served run slot =
    let high = run_behind sizes address bytes run in
    let low = slot_below sizes address served slot in
    omega (arith, high, low)

module _ (land : Ground) (history : History) (book : TreeRefs) (state : State)
    (holds : HoldsState land history book state) (served : is_served land.space.sizes ≡ true) where
  -- runs lie behind the slots
  pub apart-held : AreApart state
  apart-held run has there =
      let known = holds.extents run has in
      let placed = some-of (value_at run.address state.layout) there in
      let slot = (holds.nodes run.address placed.0 placed.1).slot in
      let lies = subst (λ (sizes : Sizes). is_run sizes run.address run.bytes ≡ true) holds.sizes known.lies in
      run-slot land.space.sizes run.address run.bytes served lies slot

  pub extents-held : (run : Element) → Contains (layout_extents (layout_of state)) run
      ↔ Contains (present_extents state) run
  extents-held = extents-whole state holds.whole apart-held
