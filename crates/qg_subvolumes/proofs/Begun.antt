-- The subvolume's tree, from its root down, is the first part that is dropped.
use Rattle.std.proofs.Common.{◌≡◌, ℕ, zero, suc, ◌-◌, ◌≤◌, Bool, true, List, [], ◌∷◌, map, Option, Some, None, arith}
use Rattle.std.proofs.Common.{refl, sym, ap, subst, ◌∙◌}
use Rattle.std.specs.Prelude.{Ok, Err, Result}
use Rattle.std.proofs.lemmas.Bool.{eq-eqb}
use Rattle.qg_device.specs.History.{History}
use Rattle.qg_num.specs.declared.key.Key.{Key}
use Rattle.qg_node.specs.declared.item.Item.{Item}
use Rattle.qg_node.specs.declared.node.Node.{Node}
use Rattle.qg_node.specs.declared.pointer.Pointer.{Pointer}
use Rattle.qg_node.specs.Nodes.{header_of, is_ascending, own_keys, own_pointers}
use Rattle.qg_super.specs.declared.superblock.Super.{Super}
use Rattle.qg_image.specs.Table.{value_at}
use Rattle.qg_image.specs.Reach.{level_of}
use Rattle.qg_image.specs.State.{Placed, State, Subvolume, next_generation, node_at}
use Rattle.qg_image.specs.declared.expected.Expected.{Expected}
use Rattle.qg_image.specs.declared.failure.Failure.{Failure}
use Rattle.qg_image.specs.declared.tree.TreeKind.TheVariants.{Files}
use Rattle.qg_image.specs.Walk.{deepest, found_failure, is_told, node_failure, pointers_failure, root_expected}
use Rattle.qg_image.specs.Walk.{walk_failure, way_failure}
use Rattle.qg_machine.specs.Layout.{IsReached, IsTreeOf, found_in, super_to_come}
use Rattle.qg_walk.specs.Standing.{expected_below}
use Rattle.qg_walk.proofs.Failures.{neither, none_of_two}
use Rattle.qg_node_alloc.specs.declared.ground.Ground.{Ground}
use Rattle.qg_node_alloc.specs.Land.{IsDrafted}
use Rattle.qg_tree_read.specs.Branch.{IsBranch}
use Rattle.qg_tree_read.specs.Tree.{IsTree, Reaches}
use Rattle.qg_tree_read.proofs.BranchOrder.{ascends-under}
use Rattle.qg_tree_read.proofs.Branches.{branch-top}
use Rattle.qg_tree_read.proofs.Walked.{IsTree-walked}
use Rattle.qg_owner_rule.proofs.Listed.{index_of}
use Rattle.qg_reach.proofs.Members.{one_mapped}
use Rattle.qg_refs.specs.Book.{IsBook}
use Rattle.qg_extents.specs.Table.{book_of}
use Rattle.qg_tree_backrefs.specs.declared.tree_refs.TreeRefs.{TreeRefs}
use Rattle.qg_shared_trees.specs.ForestStanding.{HoldsState}
use Rattle.qg_shared_trees.proofs.ForestExtents.{branch-whole, level-found, told-found}
use Rattle.qg_shared_trees.proofs.Meeting.{each-there, placed-there, root-low}
use Rattle.qg_subvolumes.specs.declared.child.Child.{Child}
use Rattle.qg_subvolumes.specs.Dropping.{AreSingle, IsPart, IsUnder, is_below}
use Rattle.qg_subvolumes.proofs.Entered.{open-reached}
use Rattle.qg_subvolumes.proofs.Single.{branch-single, child-lower}

-- ---- a walk of fewer levels

module _ (judge : Expected → ℕ → Node → Option Failure) (found : ℕ → Result Node Failure) where
  pointers_fewer : (all some : Expected → ℕ → Option Failure)
      → ((expected : Expected) (address : ℕ) → all expected address ≡ None → some expected address ≡ None)
      → (level : ℕ) (to : Option Key) (pointers : List Pointer) → pointers_failure all level to pointers ≡ None
      → pointers_failure some level to pointers ≡ None
  pointers_fewer all some each level to [] none = refl
  pointers_fewer all some each level to (pointer ∷ pointers) none =
      let below = expected_below level to pointer pointers in
      let parts = neither (all below pointer.child) (pointers_failure all level to pointers) none in
      none_of_two (some below pointer.child) (pointers_failure some level to pointers)
      (each below pointer.child parts.0) (pointers_fewer all some each level to pointers parts.1)

  found_fewer : (all some : Expected → ℕ → Option Failure)
      → ((expected : Expected) (address : ℕ) → all expected address ≡ None → some expected address ≡ None)
      → (strong weak : Expected) (address : ℕ) (there : Result Node Failure) → strong.to ≡ weak.to
      → ((node : Node) → there ≡ Ok node → judge strong address node ≡ None → judge weak address node ≡ None)
      → found_failure judge all strong address there ≡ None → found_failure judge some weak address there ≡ None
  found_fewer all some each strong weak address (Err failure) to judged none = absurd cc
  found_fewer all some each strong weak address (Ok node) to judged none =
      let level = (header_of node).level - 1 in
      let parts = neither (judge strong address node) (pointers_failure all level strong.to (own_pointers node)) none in
      let under = pointers_fewer all some each level strong.to (own_pointers node) parts.1 in
      none_of_two (judge weak address node) (pointers_failure some level weak.to (own_pointers node))
      (judged node refl parts.0)
      (subst (λ (k : Option Key). pointers_failure some level k (own_pointers node) ≡ None) to under)

  walk_fewer : (depth level : ℕ) → level ≤ depth → (strong weak : Expected) (address : ℕ) → strong.to ≡ weak.to
      → ((node : Node) → found address ≡ Ok node → judge strong address node ≡ None → judge weak address node ≡ None)
      → walk_failure judge found depth strong address ≡ None → walk_failure judge found level weak address ≡ None
  unfolding walk_failure
  walk_fewer zero zero less strong weak address to judged none =
      found_fewer (λ expected address. None) (λ expected address. None) (λ expected address same. same) strong weak
      address (found address) to judged none
  walk_fewer (suc depth) zero less strong weak address to judged none =
      found_fewer (walk_failure judge found depth) (λ expected address. None) (λ expected address same. refl) strong
      weak address (found address) to judged none
  walk_fewer zero (suc level) less strong weak address to judged none = absurd (omega (arith, less))
  walk_fewer (suc depth) (suc level) less strong weak address to judged none =
      found_fewer (walk_failure judge found depth) (walk_failure judge found level)
      (λ expected below. walk_fewer depth level (omega (arith, less)) expected expected below refl
      (λ node is same. same))
      strong weak address (found address) to judged none

-- a root whose level is as told
root_judged : (super : Super) (level at : ℕ) (node : Node) → (header_of node).level ≡ level
    → node_failure Files super (root_expected None None) at node ≡ None
    → node_failure Files super (root_expected (Some level) None) at node ≡ None
unfolding node_failure way_failure
root_judged super level at node high none =
    let told : is_told (Some level) (header_of node).level ≡ true = eq-eqb level (header_of node).level (sym high) in
    rw told none

-- ---- the root

module _ (land : Ground) (history : History) (book : TreeRefs) (state : State)
    (holds : HoldsState land history book state) (drafted : IsDrafted land (next_generation state))
    (is : IsBook (book_of book.refs)) (sub : ℕ) (subvolume : Subvolume)
    (there : value_at sub state.subvolumes ≡ Some subvolume) (tree : IsTreeOf state subvolume) where
  abbrev root : ℕ
  root = subvolume.root

  abbrev nodes : ℕ → Option Node
  nodes = node_at state.layout

  abbrev super : Super
  super = super_to_come state

  abbrev level : ℕ
  level = level_of (node_at state.layout subvolume.root)

  abbrev waiting : ℕ → Bool
  waiting = is_below state level root

  low : level ≤ 7
  low = root-low state holds.whole state.subvolumes holds.whole.trees subvolume tree

  branch_root : IsBranch Files super nodes level root tree.items
  branch_root = branch-whole state holds.whole subvolume tree

  walked_root : walk_failure (node_failure Files super) (found_in state.layout) level (root_expected (Some level) None)
      root ≡ None
  walked_root =
      walk_fewer (node_failure Files super) (found_in state.layout) deepest level low (root_expected None None)
      (root_expected (Some level) None) root refl
      (λ node is none. root_judged super level root node (level-found (nodes root) root node is) none) tree.walked

  own_up : (q : ℕ) (node : Node) → nodes q ≡ Some node → is_ascending (own_keys node) ≡ true
  own_up q node its =
      let placed = placed-there state.layout q (value_at q state.layout) refl node its in
      let reached = each-there (IsReached state) q placed.0 state.layout holds.whole.reached placed.1 in
      subst (λ (n : Node). is_ascending (own_keys n) ≡ true) placed.2 reached.node_of_format.ascending

  items_up : is_ascending (map (λ (item : Item). item.key) tree.items) ≡ true
  items_up =
      let walked : IsTree Files super nodes level root tree.items =
      IsTree-walked Files super super (found_in state.layout) nodes (root_expected None None) level root tree.items
      (λ at. told-found (nodes at) at) refl (omega arith) refl refl low
      (λ node is. level-found (nodes root) root node is) tree.walked tree.under in
      ascends-under Files super nodes own_up level (root_expected (Some level) None) root tree.items
      (record { levelled = refl; walked = walked.walked; items_are = walked.items_are })

  reached : (q : ℕ) (node : Node) → nodes q ≡ Some node → waiting q ≡ true → Reaches nodes level root q
  reached q node its waits =
      let placed = placed-there state.layout q (value_at q state.layout) refl node its in
      open-reached land history book state holds drafted is sub subvolume there q placed.0 placed.1 waits

  -- no open node leads to the root
  under_root : IsUnder state waiting root
  under_root q node its waits leads =
      let pointer = one_mapped (λ (p : Pointer). p.child) (own_pointers node) root leads in
      let place = index_of (own_pointers node) pointer.0 pointer.1 in
      let child = child-lower Files super nodes level root tree.items branch_root q (reached q node its waits) node its
      place.0 pointer.0 place.1 in
      let top = branch-top Files super nodes level root tree.items branch_root in
      let one : child.0 ≡ top.0 = let e = sym child.1 ∙ ap nodes pointer.2 ∙ top.1 in cc in
      let levels = ap (λ (n : Node). (header_of n).level) one in
      let less = child.2 in
      let high = top.2 in
      omega (arith, levels, less, high)

  single_root : AreSingle state waiting
  single_root p q at a b open_p open_q is_a is_b leads_a leads_b =
      let one = one_mapped (λ (x : Pointer). x.child) (own_pointers a) at leads_a in
      let two = one_mapped (λ (x : Pointer). x.child) (own_pointers b) at leads_b in
      let i = index_of (own_pointers a) one.0 one.1 in
      let j = index_of (own_pointers b) two.0 two.1 in
      branch-single Files super nodes level root tree.items branch_root items_up p q (reached p a is_a open_p)
      (reached q b is_b open_q) a b is_a is_b i.0 j.0 one.0 two.0 i.1 j.1 (one.2 ∙ sym two.2)

  root_placed : (placed : Placed) × (value_at root state.layout ≡ Some placed)
  root_placed =
      let top = branch-top Files super nodes level root tree.items branch_root in
      let placed = placed-there state.layout root (value_at root state.layout) refl top.0 top.1 in
      (placed.0, placed.1)

  -- the root, as the call notes it
  pub begun : (part : Child) → part.way.address ≡ root → part.way.expected ≡ root_expected (Some level) None
      → ((placed : Placed) → value_at root state.layout ≡ Some placed → placed.full ≡ part.full)
      → IsPart state waiting level part
  begun part address expected mark = record {
    walked = subst (λ (e : Expected). walk_failure (node_failure Files super) (found_in state.layout) level e
        part.way.address ≡ None) (sym expected)
        (subst (λ (q : ℕ). walk_failure (node_failure Files super) (found_in state.layout) level
        (root_expected (Some level) None) q ≡ None) (sym address) walked_root);
    items = tree.items;
    branch = subst (λ (q : ℕ). IsBranch Files super nodes level q tree.items) (sym address) branch_root;
    ascending = items_up;
    opened = λ at below key. subst (λ (q : ℕ). is_below state level q at ≡ true) address below;
    under = subst (λ (q : ℕ). IsUnder state waiting q) (sym address) under_root;
    single = single_root;
    placed = root_placed.0;
    there = ap (λ (q : ℕ). value_at q state.layout) address ∙ root_placed.1;
    mark = mark root_placed.0 root_placed.1;
  }
