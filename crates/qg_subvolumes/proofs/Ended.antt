-- Where a drop ends: with nothing open, what is left is the machine's state without the subvolume.
use Rattle.std.proofs.Common.{◌≡◌, ℕ, ◌<◌, Bool, true, false, List, [], ◌∷◌, map, Option, Some, None, refl, sym, ap}
use Rattle.std.proofs.Common.{subst, ◌∙◌, inl, inr}
use Rattle.std.specs.Prelude.{◌==◌, ◌||◌, not, is_none, is_some}
use Rattle.std.specs.List.{AllByRecursion, Contains, filter, list_any}
use Rattle.std.specs.List.Sorted.{IsStrictlyIncreasing}
use Rattle.std.specs.Option.{option_map}
use Rattle.std.specs.Result.{result_ok}
use Rattle.std.proofs.lemmas.Bool.{true≢false}
use Rattle.std.proofs.lemmas.Option.{same_Some}
use Rattle.qg_device.specs.History.{History}
use Rattle.qg_node.specs.declared.item.Item.{Item}
use Rattle.qg_node.specs.declared.node.Node.{Node}
use Rattle.qg_node.specs.Fits.{NodeFits}
use Rattle.qg_node.specs.Nodes.{header_of}
use Rattle.qg_node.specs.NodeText.{IsNode}
use Rattle.qg_super.specs.declared.sizes.Sizes.{Sizes}
use Rattle.qg_super.specs.declared.superblock.Super.{Super}
use Rattle.qg_super.specs.Places.{is_run, is_slot}
use Rattle.qg_image.specs.Below.{items_below}
use Rattle.qg_image.specs.FilesOf.{files_of}
use Rattle.qg_image.specs.ItemMeaning.{when}
use Rattle.qg_image.specs.Table.{keys_of, value_at, without_key}
use Rattle.qg_image.specs.declared.element.Element.{Element}
use Rattle.qg_image.specs.Owed.{homeless, layout_extents}
use Rattle.qg_image.specs.Reach.{is_among, is_reached, level_of, reach, reach_of, reach_of_root, reach_under, reaches}
use Rattle.qg_image.specs.Space.{present_extents}
use Rattle.qg_image.specs.State.{Placed, State, Subvolume, layout_of, next_generation, node_at}
use Rattle.qg_image.proofs.Contained.{contains_here, contains_later}
use Rattle.qg_image.specs.declared.failure.Failure.{Failure}
use Rattle.qg_image.specs.declared.tree.TreeKind.TheVariants.{Files}
use Rattle.qg_image.specs.Among.{found_there}
use Rattle.qg_image.specs.ItemsUnder.{is_way, items_under, nodes_of}
use Rattle.qg_image.specs.Walk.{deepest, node_failure, root_expected, walk_failure, way_failure}
use Rattle.qg_machine.specs.Layout.{IsReached, IsTreeOf, IsWhole, found_in, is_full_after, super_to_come}
use Rattle.qg_machine.specs.Step.{deleted, without_subvolume}
use Rattle.qg_blocks.specs.NodesFound.{fresh_at, told}
use Rattle.qg_files.proofs.Ascending.{Ascends-increasing, ascends-filter, increasing-Ascends}
use Rattle.qg_space.specs.Holding.{has_slot}
use Rattle.qg_node_alloc.specs.declared.ground.Ground.{Ground}
use Rattle.qg_node_alloc.specs.Land.{IsDrafted}
use Rattle.qg_owner_rule.proofs.Reaching.{value_of_entry}
use Rattle.qg_tree_read.specs.Tree.{Reaches}
use Rattle.qg_tree_read.proofs.BranchFrames.{reach-top}
use Rattle.qg_tree_read.proofs.Frames.{items-same, walk-same}
use Rattle.qg_refs.specs.declared.kept.What.{What}
use Rattle.qg_refs.specs.Book.{IsBook, what_in}
use Rattle.qg_extents.specs.Table.{book_of}
use Rattle.qg_tree_edits.proofs.Heights.{told-slot}
use Rattle.qg_tree_backrefs.specs.declared.tree_refs.TreeRefs.{TreeRefs}
use Rattle.qg_tree_backrefs.specs.Following.{references_to}
use Rattle.qg_tree_backrefs.specs.Settled.{IsSettled, what_of}
use Rattle.qg_shared_trees.specs.ForestStanding.{HoldsState}
use Rattle.qg_shared_trees.proofs.ForestExtents.{branch-whole, extents-whole, some-of}
use Rattle.qg_shared_trees.proofs.Homes.{all-home}
use Rattle.qg_shared_trees.proofs.Meeting.{IsMet, each-there, met-reached-itself, met-there, placed-there, root-valued}
use Rattle.qg_shared_trees.proofs.ReachAgain.{met-same}
use Rattle.qg_subvolumes.specs.Dropping.{HoldsPartly}
use Rattle.qg_subvolumes.proofs.Entered.{fresh-told}
use Rattle.qg_subvolumes.proofs.Opened.{key_of, node_of}
use Rattle.qg_subvolumes.proofs.Partly.{all_kept, kept-value, known-referred, level_in, some-kept}
use Rattle.qg_subvolumes.proofs.Single.{branch-lower}
use Rattle.qg_subvolumes.proofs.Taken.{apart, referred-node, referred-there, taken, there-referred}

-- ---- lists and marks

all_from : {A : Type 0} (P : A → Type 0) (xs : List A) → ((x : A) → Contains xs x → P x) → AllByRecursion P xs
all_from P [] each = tt
all_from {A} P (x ∷ xs) each =
    (each x (contains_here x xs), all_from P xs (λ y has. each y (contains_later x xs y has)))

same_keys : {A : Type 0} (h : ℕ × A → A) (xs : List (ℕ × A))
    → keys_of (map (λ (entry : ℕ × A). (entry.0, h entry)) xs) ≡ keys_of xs
same_keys h [] = refl
same_keys {A} h (x ∷ xs) = ap (λ (ks : List ℕ). x.0 ∷ ks) (same_keys h xs)

reached_home : (full by : Bool) → (full || not by) ≡ false → by ≡ true
reached_home true by bare = absurd (true≢false bare)
reached_home false true bare = refl
reached_home false false bare = absurd (true≢false bare)

generation_in : Option What → ℕ
generation_in None = 0
generation_in (Some what) = what.generation

found_is : (o : Option Node) (at : ℕ) → result_ok (found_there o at) ≡ o
found_is None at = refl
found_is (Some node) at = refl

nodes_are : (state : State) → nodes_of (found_in state.layout) ≡ node_at state.layout
nodes_are state = λ i. λ (at : ℕ). found_is (node_at state.layout at) at i

-- ---- a tree whose nodes are as they were

module _ (before after : State) (super_is : super_to_come after ≡ super_to_come before)
    (subvolume : Subvolume) (tree : IsTreeOf before subvolume)
    (deep : (q : ℕ) → Reaches (node_at before.layout) deepest subvolume.root q
    → node_at after.layout q ≡ node_at before.layout q)
    (near : (q : ℕ) → Reaches (node_at before.layout) (level_of (node_at before.layout subvolume.root)) subvolume.root q
    → node_at after.layout q ≡ node_at before.layout q)
    (next_is : next_generation after ≡ next_generation before) where
  abbrev super : Super
  super = super_to_come before

  abbrev level : ℕ
  level = level_of (node_at before.layout subvolume.root)

  root_same : node_at after.layout subvolume.root ≡ node_at before.layout subvolume.root
  root_same = deep subvolume.root (reach-top (node_at before.layout) deepest subvolume.root)

  walked_still : walk_failure (node_failure Files (super_to_come after)) (found_in after.layout) deepest
      (root_expected None None) subvolume.root ≡ None
  walked_still =
      ap (λ (s : Super). walk_failure (node_failure Files s) (found_in after.layout) deepest (root_expected None None)
      subvolume.root) super_is
      ∙ walk-same (node_failure Files super) (node_at before.layout) (node_at after.layout) deepest
      (root_expected None None) subvolume.root deep
      ∙ tree.walked

  way_same : is_way Files super (found_in after.layout) (root_expected None None) subvolume.root
      ≡ is_way Files super (found_in before.layout) (root_expected None None) subvolume.root
  unfolding is_way
  way_same =
      ap (λ (o : Option Failure). is_none o)
      (walk-same (way_failure Files super) (node_at before.layout) (node_at after.layout) deepest
      (root_expected None None) subvolume.root deep)

  items_still : items_below (nodes_of (found_in after.layout)) level subvolume.root
      ≡ items_below (nodes_of (found_in before.layout)) level subvolume.root
  items_still =
      ap (λ (nodes : ℕ → Option Node). items_below nodes level subvolume.root) (nodes_are after)
      ∙ items-same (node_at before.layout) (node_at after.layout) level subvolume.root near
      ∙ sym (ap (λ (nodes : ℕ → Option Node). items_below nodes level subvolume.root) (nodes_are before))

  under_still : items_under Files (super_to_come after) (found_in after.layout)
      (level_of (node_at after.layout subvolume.root)) (root_expected None None) subvolume.root ≡ Some tree.items
  under_still =
      let e = root_expected None None in
      ap (λ (s : Super). items_under Files s (found_in after.layout) (level_of (node_at after.layout subvolume.root)) e
      subvolume.root) super_is
      ∙ ap (λ (o : Option Node). items_under Files super (found_in after.layout) (level_of o) e subvolume.root)
      root_same
      ∙ ap (λ (way : Bool). when way (items_below (nodes_of (found_in after.layout)) level subvolume.root)) way_same
      ∙ ap (λ (list : Option (List Item)). when (is_way Files super (found_in before.layout) e subvolume.root) list)
      items_still
      ∙ tree.under

  pub tree-still : IsTreeOf after subvolume
  tree-still = record {
    items = tree.items;
    walked = walked_still;
    under = under_still;
    files = ap (λ (generation : ℕ). files_of generation tree.items) next_is ∙ tree.files;
  }

-- ---- nothing is open

abbrev pub none_open : ℕ → Bool
none_open q = false

module _ (land : Ground) (history : History) (book : TreeRefs) (state : State) (sub : ℕ)
    (holds : HoldsPartly land history book state sub none_open) (drafted : IsDrafted land (next_generation state))
    (is : IsBook (book_of book.refs))
    (newer_apart : (at : ℕ) (placed : Placed) → value_at at state.layout ≡ Some placed
    → (header_of placed.node).generation ≡ next_generation state → Contains state.held.nodes at → ⊥) where
  abbrev without : State
  without = without_subvolume state sub

  abbrev left : State
  left = deleted state sub

  abbrev rest : List (ℕ × Subvolume)
  rest = without_key sub state.subvolumes

  abbrev nodes : ℕ → Option Node
  nodes = node_at state.layout

  trees : AllByRecursion (λ entry. IsTreeOf state entry.1) rest
  trees = all_kept (λ (entry : ℕ × Subvolume). IsTreeOf state entry.1)
      (λ (entry : ℕ × Subvolume). not (entry.0 == sub)) state.subvolumes holds.whole.trees

  numbers_left : IsStrictlyIncreasing (keys_of rest)
  numbers_left =
      increasing-Ascends 0 rest (ascends-filter 0 (λ (entry : ℕ × Subvolume). not (entry.0 == sub)) state.subvolumes
      (Ascends-increasing state.subvolumes holds.numbers))

  -- ---- what another reaches is as it was

  -- a node that is left, and what it was
  record IsLeft (at : ℕ) (placed : Placed) : Type 0 where
    was : Placed
    there : value_at at state.layout ≡ Some was
    reached : is_reached (layout_of without) at ≡ true
    same : placed ≡ record was { full = is_full_after without was at }

  left_there : (at : ℕ) (placed : Placed) → value_at at left.layout ≡ Some placed → IsLeft at placed
  left_there at placed there =
      let its = some-kept state sub none_open at (value_at at state.layout) refl placed there in
      record { was = its.0; there = its.1; reached = its.2; same = sym its.3 }

  met_value : (q : ℕ) → IsMet state rest q → (placed : Placed) × (value_at q state.layout ≡ Some placed)
  met_value q met =
      let node = met-there state holds.whole rest trees q met in
      let placed = placed-there state.layout q (value_at q state.layout) refl node.0 node.1 in
      (placed.0, placed.1)

  met_same : (q : ℕ) → IsMet state rest q → node_at left.layout q ≡ nodes q
  met_same q met =
      let placed = met_value q met in
      let now = kept-value state sub none_open q placed.0 placed.1
      (met-reached-itself state holds.whole rest trees q met) in
      ap (λ (o : Option Placed). option_map (λ (p : Placed). p.node) o) now
      ∙ sym (node_of state.layout q placed.0 placed.1)

  module _ (number : ℕ) (subvolume : Subvolume) (there : value_at number rest ≡ Some subvolume) where
    abbrev root : ℕ
    root = subvolume.root

    tree : IsTreeOf state subvolume
    tree = each-there (λ (entry : ℕ × Subvolume). IsTreeOf state entry.1) number subvolume rest trees there

    near_same : (q : ℕ) → Reaches nodes (level_of (nodes root)) root q → node_at left.layout q ≡ nodes q
    near_same q reaches =
        met_same q (record { number = number; subvolume = subvolume; there = there; reaches = reaches })

    deep_same : (q : ℕ) → Reaches nodes deepest root q → node_at left.layout q ≡ nodes q
    deep_same q reaches =
        near_same q (branch-lower Files (super_to_come state) nodes (level_of (nodes root)) deepest root tree.items
        (branch-whole state holds.whole subvolume tree) q reaches)

    still : IsTreeOf left subvolume
    still = tree-still state left refl subvolume tree deep_same near_same refl

    met_root : reach_of_root (layout_of left) root ≡ reach_of_root (layout_of without) root
    unfolding reach_of_root
    met_root =
        ap (λ (o : Option Node). reach_under (node_at left.layout) state.sizes.nodesize (level_of o) root)
        (near_same root (reach-top nodes (level_of (nodes root)) root))
        ∙ met-same nodes (node_at left.layout) state.sizes.nodesize (level_of (nodes root)) root near_same

  reach_same : (n : ℕ) → reach (layout_of left) n ≡ reach (layout_of without) n
  unfolding reach
  reach_same n = by (value_at n rest) refl where
    valued : (o : Option Subvolume) → value_at n rest ≡ o
        → value_at n (layout_of without).roots ≡ option_map (λ (s : Subvolume). s.root) o
    valued o there =
        root-valued n rest ∙ ap (λ (o : Option Subvolume). option_map (λ (s : Subvolume). s.root) o) there

    by : (o : Option Subvolume) → value_at n rest ≡ o
        → reach_of (layout_of left) (value_at n (layout_of without).roots)
        ≡ reach_of (layout_of without) (value_at n (layout_of without).roots)
    by None none =
        ap (λ (o : Option ℕ). reach_of (layout_of left) o) (valued None none)
        ∙ sym (ap (λ (o : Option ℕ). reach_of (layout_of without) o) (valued None none))
    by (Some subvolume) there =
        ap (λ (o : Option ℕ). reach_of (layout_of left) o) (valued (Some subvolume) there)
        ∙ met_root n subvolume there
        ∙ sym (ap (λ (o : Option ℕ). reach_of (layout_of without) o) (valued (Some subvolume) there))

  reaches_same : (n at : ℕ) → reaches (layout_of left) n at ≡ reaches (layout_of without) n at
  reaches_same n at = ap (λ (elements : List Element). is_among at elements) (reach_same n)

  reached_same : (at : ℕ) → is_reached (layout_of left) at ≡ is_reached (layout_of without) at
  reached_same at = λ i. list_any (λ (n : ℕ). reaches_same n at i) (keys_of (layout_of without).roots)

  -- ---- the state that is left is whole

  trees_left : AllByRecursion (λ entry. IsTreeOf left entry.1) rest
  trees_left = all_from (λ (entry : ℕ × Subvolume). IsTreeOf left entry.1) rest
      (λ entry has. still entry.0 entry.1 (value_of_entry rest entry numbers_left has))

  ascending_left : IsStrictlyIncreasing (keys_of left.layout)
  ascending_left =
      let kept = filter (λ (entry : ℕ × Placed). is_reached (layout_of without) entry.0) state.layout in
      subst (λ (ks : List ℕ). IsStrictlyIncreasing ks)
      (sym (same_keys (λ (entry : ℕ × Placed). record entry.1 { full = is_full_after without entry.1 entry.0 }) kept))
      (increasing-Ascends 0 kept (ascends-filter 0
      (λ (entry : ℕ × Placed). is_reached (layout_of without) entry.0) state.layout
      (Ascends-increasing state.layout holds.whole.ascending)))

  reached_left : (entry : ℕ × Placed) → Contains left.layout entry → IsReached left entry
  reached_left entry has =
      let there = value_of_entry left.layout entry ascending_left has in
      let its = left_there entry.0 entry.1 there in
      let was = each-there (IsReached state) entry.0 its.was state.layout holds.whole.reached its.there in
      let node : its.was.node ≡ entry.1.node = sym (ap (λ (p : Placed). p.node) its.same) in
      record {
        node_of_format = subst (λ (n : Node). IsNode state.sizes.nodesize n) node was.node_of_format;
        fits = subst NodeFits node was.fits;
        placed = sym (ap (λ (n : Node). (header_of n).address) node) ∙ was.placed;
        reached = reached_same entry.0 ∙ its.reached;
      }

  whole_left : IsWhole left
  whole_left = record {
    ascending = ascending_left;
    trees = trees_left;
    reached = all_from (IsReached left) left.layout reached_left;
  }

  home_left : homeless (layout_of left) ≡ None
  home_left = all-home (layout_of left) ascending_left (λ at placed there bare.
      let its = left_there at placed there in
      let full = sym (ap (λ (p : Placed). p.full) its.same) ∙ bare in
      let by = reached_home its.was.full (reaches (layout_of without) (header_of its.was.node).owner at) full in
      reaches_same (header_of placed.node).owner at
      ∙ ap (λ (p : Placed). reaches (layout_of without) (header_of p.node).owner at) its.same ∙ by)

  -- ---- and it is held

  slots : (at : ℕ) (placed : Placed) → value_at at left.layout ≡ Some placed → is_slot land.space.sizes at ≡ true
  slots at placed there = (holds.nodes at placed there).slot

  runs : (run : Element) → Contains (layout_extents (layout_of left)) run
      → is_run land.space.sizes run.address run.bytes ≡ true
  runs run has =
      subst (λ (sizes : Sizes). is_run sizes run.address run.bytes ≡ true) holds.sizes (holds.extents run has).lies

  same_runs : (run : Element) → (Contains (layout_extents (layout_of left)) run → Contains (present_extents left) run)
      × (Contains (present_extents left) run → Contains (layout_extents (layout_of left)) run)
  same_runs run =
      let same = extents-whole left whole_left
      (apart left whole_left numbers_left land.space.sizes drafted.sizes.served slots runs) run in
      (λ has. same.0 has, λ has. same.1 has)

  some_left : (at : ℕ) (placed : Placed) → value_at at left.layout ≡ Some placed
      → 0 < references_to (book_of book.refs) at
  some_left at placed there =
      there-referred left whole_left numbers_left land.space.sizes drafted.sizes.served slots runs (book_of book.refs)
      holds.agrees is at placed there

  known_left : (at : ℕ) (placed : Placed) → value_at at left.layout ≡ Some placed
      → what_in (book_of book.refs at) ≡ Some (what_of book.nodesize (header_of placed.node).generation placed.node)
  known_left at placed there = (holds.nodes at placed there).known (some_left at placed there)

  fresh_left : (at : ℕ) (node : Node) → fresh_at land.blocks.draft at ≡ Some node
      → what_in (book_of book.refs at) ≡ Some (what_of book.nodesize book.next node)
  fresh_left at node here =
      let its = drafted.each at node here in
      let placed = some-of (value_at at left.layout) (sym (holds.slots at its.slot) ∙ its.taken) in
      let same : placed.0.node ≡ node =
      same_Some placed.0.node node
      (sym (holds.nodes at placed.0 placed.1).told ∙ fresh-told land history at node here) in
      let dated : (header_of placed.0.node).generation ≡ book.next =
      ap (λ (n : Node). (header_of n).generation) same ∙ its.dated ∙ sym holds.next in
      known_left at placed.0 placed.1
      ∙ ap (λ (generation : ℕ). Some (what_of book.nodesize generation placed.0.node)) dated
      ∙ ap (λ (n : Node). Some (what_of book.nodesize book.next n)) same

  newer_node : (at level : ℕ) (placed : Placed) → value_at at left.layout ≡ Some placed
      → what_in (book_of book.refs at)
      ≡ Some (record { bytes = book.nodesize; level = Some level; generation = book.next })
      → is_some (fresh_at land.blocks.draft at) ≡ true
  unfolding generation_in
  newer_node at _ placed there known =
      let its = left_there at placed there in
      let dated : (header_of placed.node).generation ≡ book.next =
      ap generation_in (sym (known_left at placed there) ∙ known) in
      let was : (header_of its.was.node).generation ≡ next_generation state =
      sym (ap (λ (p : Placed). (header_of p.node).generation) its.same) ∙ dated ∙ holds.next in
      let has : has_slot land.space at ≡ true =
      holds.slots at (slots at placed there) ∙ key_of left.layout at placed there in
      elim (holds.written at has) [
        | inl fresh ↦ fresh
        | inr held ↦ absurd (newer_apart at its.was its.there was ((holds.held_slots at).0 held))
      ]

  newer_left : (at level : ℕ) → what_in (book_of book.refs at)
      ≡ Some (record { bytes = book.nodesize; level = Some level; generation = book.next })
      → is_some (fresh_at land.blocks.draft at) ≡ true
  newer_left at level known =
      let some = known-referred (book_of book.refs) is at
      (record { bytes = book.nodesize; level = Some level; generation = book.next }) known in
      elim (referred-there left whole_left numbers_left land.space.sizes drafted.sizes.served slots runs
      (book_of book.refs) holds.agrees is at some) [
        | inl (placed, there) ↦ newer_node at level placed there known
        | inr (run, has, here) ↦
            let its = (holds.extents run has).known in
            let wrong : ◌≡◌ {A = Option ℕ} None (Some level) =
            ap level_in (sym its ∙ ap (λ (q : ℕ). what_in (book_of book.refs q)) here ∙ known) in absurd cc
      ]

  clean_left : (at : ℕ) (node : Node) → fresh_at land.blocks.draft at ≡ None
      → told land.blocks.draft history at ≡ Some node → 0 < references_to (book_of book.refs) at
      → what_in (book_of book.refs at) ≡ Some (what_of book.nodesize (header_of node).generation node)
  clean_left at node none told_now some =
      let slot = told-slot land history (next_generation state) drafted at node told_now in
      let placed = referred-node left whole_left numbers_left land.space.sizes drafted.sizes.served slots runs
      (book_of book.refs) holds.agrees is at slot some in
      let same : placed.0.node ≡ node =
      same_Some placed.0.node node (sym (holds.nodes at placed.0 placed.1).told ∙ told_now) in
      known_left at placed.0 placed.1
      ∙ ap (λ (n : Node). Some (what_of book.nodesize (header_of n).generation n)) same

  settled_left : IsSettled book land history
  settled_left = record {
    slots = λ at slot. holds.slots at slot
        ∙ taken left whole_left numbers_left land.space.sizes drafted.sizes.served slots runs (book_of book.refs)
        holds.agrees is at slot;
    written = holds.written;
    fresh = fresh_left;
    newer = newer_left;
    clean = clean_left;
  }

  pub ended : HoldsState land history book (deleted state sub)
  ended = record {
    sizes = holds.sizes;
    nodesize = holds.nodesize;
    next = holds.next;
    fits = holds.fits;
    numbers = numbers_left;
    whole = whole_left;
    home = home_left;
    nodes = λ at placed there. record {
      slot = slots at placed there;
      told = (holds.nodes at placed there).told;
      mark = (holds.nodes at placed there).mark (some_left at placed there);
    };
    agrees = holds.agrees;
    settled = settled_left;
    extents = λ run has. holds.extents run ((same_runs run).1 has);
    runs = λ run. (
      λ has. (same_runs run).0 ((holds.runs run).0 has),
      λ has. (holds.runs run).1 ((same_runs run).1 has),
    );
    held_slots = holds.held_slots;
    held_runs = holds.held_runs;
  }
