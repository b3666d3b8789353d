-- Trees that a commit wrote stand.
use Rattle.std.proofs.Common.{◌≡◌, ℕ, ◌+◌, ◌<◌, ◌≤◌, Bool, true, false, List, [], ◌∷◌, ◌++◌, length, get_or, map}
use Rattle.std.proofs.Common.{Option, Some, None, arith, refl, sym, ap, subst, ◌∙◌, inl, inr}
use Rattle.std.specs.Prelude.{◌↔◌, ◌||◌, IsSome, IsTrue, ◌==◌, nat_lt, if◌then◌else◌}
use Rattle.std.specs.List.{Contains, cons_option, filter_map, flat_map, list_any}
use Rattle.std.specs.List.Sorted.{IsStrictlyIncreasing}
use Rattle.std.specs.Option.{option_map}
use Rattle.std.proofs.lemmas.Bool.{lt-ltb, ltb-true}
use Rattle.std.proofs.lemmas.List.Concat.{flat_map-cons}
use Rattle.qg_device.specs.History.{Event, History, Recorded}
use Rattle.qg_num.specs.declared.piece.Piece.{Piece}
use Rattle.qg_node.specs.declared.item.Item.{Item}
use Rattle.qg_node.specs.declared.node.Node.{Node}
use Rattle.qg_node.specs.Nodes.{header_of}
use Rattle.qg_items.specs.declared.extent.Reference.{Reference}
use Rattle.qg_super.specs.declared.sizes.Sizes.{Sizes}
use Rattle.qg_super.specs.Places.{is_run, is_served, is_slot}
use Rattle.qg_image.specs.Below.{items_below}
use Rattle.qg_image.specs.Table.{with_value}
use Rattle.qg_image.specs.declared.element.Element.{Element}
use Rattle.qg_image.specs.Owed.{owed_count}
use Rattle.qg_image.specs.Reach.{extent_of}
use Rattle.qg_image.specs.State.{Layout, Placed}
use Rattle.qg_image.proofs.Contained.{contains_here, contains_later}
use Rattle.qg_image.specs.declared.tree.TreeKind.TheVariants.{Files}
use Rattle.qg_image.specs.Walk.{is_owner}
use Rattle.qg_blocks.specs.NodesInMemory.{Draft}
use Rattle.qg_blocks.specs.NodesFound.{IsBacked, fresh_at}
use Rattle.qg_space.specs.Holding.{has_slot}
use Rattle.qg_space.proofs.Members.{Contains-has_slot, any_same, one_passes}
use Rattle.qg_node_alloc.specs.Land.{IsDrafted}
use Rattle.qg_refs.specs.declared.kept.What.{What}
use Rattle.qg_refs.specs.declared.kept.Kept.{Kept}
use Rattle.qg_refs.specs.Book.{count_at, full_in, what_in}
use Rattle.qg_extents.specs.Table.{IsTable, book_of}
use Rattle.qg_tree_read.specs.Tree.{Root, super_of}
use Rattle.qg_tree_read.proofs.BranchFrames.{reach-same}
use Rattle.qg_tree_read.proofs.Frames.{IsTree-same}
use Rattle.qg_shared_trees.specs.Rooting.{IsRooted}
use Rattle.qg_shared_trees.proofs.Ways.{ways-same}
use Rattle.qg_shared_trees.specs.Types.{TreeRefs}
use Rattle.qg_shared_trees.specs.Following.{references_to}
use Rattle.qg_shared_trees.specs.Settled.{IsSettled, what_of}
use Rattle.qg_shared_trees.specs.Types.{FsTree}
use Rattle.qg_shared_trees.specs.Standing.{AreNamed, CanTurn, IsAtHome, IsBeside, IsKnownExtent, IsReachedBy}
use Rattle.qg_shared_trees.specs.Standing.{IsSubvolume}
use Rattle.qg_shared_trees.specs.Standing.{Stands, every_slot, extents_named, items_in, layout_in, name_told}
use Rattle.qg_shared_trees.specs.Standing.{names_elsewhere, names_times, nodes_of, placed_at, roots_of, trees_of}
use Rattle.qg_shared_trees.specs.Standing.{ways_in}
use Rattle.qg_shared_trees.proofs.Before.{index_among, known_of, other_stands}
use Rattle.qg_shared_trees.proofs.Beside.{mark_of}
use Rattle.qg_shared_trees.proofs.Lists.{from-mapped, has-mapped}
use Rattle.qg_shared_trees.proofs.Reached.{reached-some}
use Rattle.qg_shared_trees.proofs.Renamed.{told-slot}
use Rattle.qg_shared_trees.specs.Laying.{IsMet}
use Rattle.qg_shared_trees.proofs.FreshOrHeld.{met-taken}
use Rattle.qg_shared_trees.proofs.Moved.{free-apart}
use Rattle.qg_shared_trees.proofs.Reach.{reach-on}
use Rattle.qg_shared_trees.proofs.Trees.{next-same, tree-stands}
use Rattle.qg_commit_trees.specs.Committing.{IsCommitted, StandsStill, WritesTree, for_generation}
use Rattle.qg_commit_trees.proofs.Known.{known-low, known-node}
use Rattle.qg_commit_trees.proofs.Later.{IsTree-later}
use Rattle.qg_commit_trees.proofs.Reread.{no-fresh, told-now}

-- ---- words

none_some : {A : Type 0} (o : Option A) (x : A) → o ≡ None → o ≡ Some x → ⊥
none_some o x none some = let wrong : None ≡ Some x = sym none ∙ some in cc

filter_same : {A B : Type 0} (f g : A → Option B) (xs : List A) → ((x : A) → f x ≡ g x)
    → filter_map f xs ≡ filter_map g xs
filter_same f g [] same = refl
filter_same {A} {B} f g (x ∷ xs) same =
    ap (λ (o : Option B). cons_option o (filter_map f xs)) (same x)
    ∙ ap (λ (ys : List B). cons_option (g x) ys) (filter_same f g xs same)

layout_alike : (a b : Layout) → a.nodesize ≡ b.nodesize → a.roots ≡ b.roots → a.nodes ≡ b.nodes → a ≡ b
layout_alike a b size roots nodes =
    ap (λ (n : ℕ). let layout : Layout = record a { nodesize = n } in layout) size
    ∙ ap (λ (r : List (ℕ × ℕ)). let layout : Layout = record b { roots = r; nodes = a.nodes } in layout) roots
    ∙ ap (λ (t : List (ℕ × Placed)). let layout : Layout = record b { nodes = t } in layout) nodes

-- a slot's entry, by whether some tree reaches it
abbrev entry_for : ℕ → Bool → Node → ℕ × Placed
entry_for at full node = (at, record { node = node; full = full })

abbrev entry_of : Bool → ℕ → Option Node → Bool → Option (ℕ × Placed)
entry_of led at told full = if led then option_map (entry_for at full) told else None

entry_same : (led : Bool) (at : ℕ) (a b : Option Node) (full : Bool) → (led ≡ true → a ≡ b)
    → entry_of led at a full ≡ entry_of led at b full
entry_same true at a b full same = ap (λ (o : Option Node). option_map (entry_for at full) o) (same refl)
entry_same false at a b full same = refl

-- the items that a tree has where these are told
items_told : (fs : FsTree) (history : History) (tree : Root) (items : List Item)
    → items_below (nodes_of fs history) tree.height tree.address ≡ Some items → items_in fs history tree ≡ items
items_told fs history tree items is = rw is refl

-- ---- trees that are made anew

module _ (anew : Root → Root) where
  map_same : {B : Type 0} (f : Root → B) (trees : List Root) → ((tree : Root) → f (anew tree) ≡ f tree)
      → map f (map anew trees) ≡ map f trees
  map_same f [] same = refl
  map_same {B} f (tree ∷ trees) same =
      ap (λ (y : B). y ∷ map f (map anew trees)) (same tree)
      ∙ ap (λ (ys : List B). f tree ∷ ys) (map_same f trees same)

  any_same_anew : (test was : Root → Bool) (trees : List Root)
      → ((tree : Root) → Contains trees tree → test (anew tree) ≡ was tree)
      → list_any test (map anew trees) ≡ list_any was trees
  any_same_anew test was [] same = refl
  any_same_anew test was (tree ∷ trees) same =
      ap (λ (b : Bool). b || list_any test (map anew trees)) (same tree (contains_here tree trees))
      ∙ ap (λ (b : Bool). was tree || b)
      (any_same_anew test was trees (λ t has. same t (contains_later tree trees t has)))

  flat_same : {B : Type 0} (f was : Root → List B) (trees : List Root)
      → ((tree : Root) → Contains trees tree → f (anew tree) ≡ was tree)
      → flat_map f (map anew trees) ≡ flat_map was trees
  flat_same f was [] same = refl
  flat_same {B} f was (tree ∷ trees) same =
      flat_map-cons f (anew tree) (map anew trees)
      ∙ ap (λ (ys : List B). ys ++ flat_map f (map anew trees)) (same tree (contains_here tree trees))
      ∙ ap (λ (ys : List B). was tree ++ ys)
      (flat_same f was trees (λ t has. same t (contains_later tree trees t has)))
      ∙ sym (flat_map-cons was tree trees)

-- ---- over any disk

module _ (old new : FsTree) (besides : List ℕ) (committed : IsCommitted old new besides) where
  next_is : new.tree.next ≡ old.tree.next + 1
  next_is = ap (λ (root : Root). root.next) committed.tree

  owner_is : new.tree.owner ≡ old.tree.owner
  owner_is = ap (λ (root : Root). root.owner) committed.tree

  table_is : new.refs.refs ≡ old.refs.refs
  table_is = ap (λ (refs : TreeRefs). refs.refs) committed.refs

  draft_sizes : new.land.blocks.draft.sizes ≡ old.land.blocks.draft.sizes
  draft_sizes = ap (λ (draft : Draft). draft.sizes) committed.draft

  drafted_now : (generation later : ℕ) → IsDrafted old.land generation → IsDrafted new.land later
  drafted_now generation later drafted = record {
    sizes = record {
      served = subst (λ (sizes : Sizes). IsTrue (is_served sizes)) (sym committed.sizes) drafted.sizes.served;
      nodesize = ap (λ (sizes : Sizes). sizes.nodesize) draft_sizes ∙ drafted.sizes.nodesize
          ∙ ap (λ (sizes : Sizes). sizes.nodesize) (sym committed.sizes);
      slots = ap (λ (sizes : Sizes). sizes.slots) draft_sizes ∙ drafted.sizes.slots
          ∙ ap (λ (sizes : Sizes). sizes.slots) (sym committed.sizes);
    };
    each = λ at node there.
        absurd (none_some (fresh_at new.land.blocks.draft at) node (no-fresh old new besides committed at) there);
  }

pub subvolume-still : (old new : FsTree) (besides : List ℕ) (before after : History) (bytes left : ℕ)
    → IsSubvolume old before bytes → IsCommitted old new besides → IsBacked new.land.blocks after → bytes ≤ left
    → IsSubvolume new after left
subvolume-still old new besides before after bytes left subvolume committed backed long = record {
  editable = record {
    backed = backed;
    drafted = drafted_now old new besides committed old.tree.next new.tree.next subvolume.editable.drafted;
    room = let room = subvolume.editable.room in omega (arith, room, long);
  };
  makes = record {
    owner = subst (λ (owner : ℕ). IsTrue (is_owner Files owner)) (sym (owner_is old new besides committed))
        subvolume.makes.owner;
    next = let next = next_is old new besides committed in omega (arith, next);
  };
}

pub turns-still : (old new : FsTree) (besides : List ℕ) → CanTurn old → IsCommitted old new besides → CanTurn new
turns-still old new besides can committed = record {
  next = λ other has.
      let was = was_of other has in
      ap (λ (tree : Root). tree.next) (sym was.2) ∙ sym (next_is old new besides committed);
  owner = λ other has.
      let was = was_of other has in
      subst (λ (tree : Root). IsTrue (is_owner Files tree.owner)) was.2 (can.owner was.0 was.1);
} where
  was_of : (other : Root) → Contains new.others.items other
      → (was : Root) × Contains old.others.items was × (for_generation (old.tree.next + 1) was ≡ other)
  was_of other has = from-mapped (for_generation (old.tree.next + 1)) old.others.items other
      (subst (λ (trees : List Root). Contains trees other) committed.others has)

-- ---- where the disk tells

module _ (old new : FsTree) (besides : List ℕ) (events later : List Event) (bytes : ℕ) (items : List Item)
    (names : List (ℕ × Piece)) (table : IsTable old.refs.refs) (subvolume : IsSubvolume old (Recorded events) bytes)
    (stands : Stands old (Recorded events) items names) (committed : IsCommitted old new besides)
    (writes : WritesTree old (Recorded events) (Recorded later)) where
  drafted : IsDrafted old.land old.tree.next
  drafted = subvolume.editable.drafted

  drafted_new : IsDrafted new.land new.tree.next
  drafted_new = drafted_now old new besides committed old.tree.next new.tree.next drafted

  same_table : new.refs.refs ≡ old.refs.refs
  same_table = table_is old new besides committed

  same_owner : new.tree.owner ≡ old.tree.owner
  same_owner = owner_is old new besides committed

  book_size : new.refs.nodesize ≡ old.refs.nodesize
  book_size = ap (λ (refs : TreeRefs). refs.nodesize) committed.refs

  -- ---- the trees

  abbrev anew : Root → Root
  anew = for_generation (old.tree.next + 1)

  trees_now : trees_of new ≡ map anew (trees_of old)
  trees_now =
      ap (λ (tree : Root). tree ∷ new.others.items) committed.tree
      ∙ ap (λ (trees : List Root). anew old.tree ∷ trees) committed.others

  tree_back : (tree : Root) → Contains (trees_of new) tree
      → (was : Root) × Contains (trees_of old) was × (anew was ≡ tree)
  tree_back tree has =
      from-mapped anew (trees_of old) tree (subst (λ (trees : List Root). Contains trees tree) trees_now has)

  tree_on : (tree : Root) → Contains (trees_of old) tree → Contains (trees_of new) (anew tree)
  tree_on tree has =
      subst (λ (trees : List Root). Contains trees (anew tree)) (sym trees_now)
      (has-mapped anew (trees_of old) tree has)

  -- ---- what is reached

  -- what the present state has is told as before
  taken_told : (q : ℕ) → has_slot old.land.space q ≡ true
      → nodes_of new (Recorded later) q ≡ nodes_of old (Recorded events) q
  taken_told q has = told-now old new besides events later committed writes q (stands.settled.written q has)

  met_taken : (q : ℕ) → IsMet old (Recorded events) q → has_slot old.land.space q ≡ true
  met_taken q met = met-taken old (Recorded events) bytes items names subvolume stands q met

  nodes_still : (q : ℕ) → IsMet old (Recorded events) q
      → nodes_of new (Recorded later) q ≡ nodes_of old (Recorded events) q
  nodes_still q met = taken_told q (met_taken q met)

  by_tree : (tree : Root) → Contains (trees_of old) tree → (q : ℕ) → IsReachedBy old (Recorded events) tree q
      → nodes_of new (Recorded later) q ≡ nodes_of old (Recorded events) q
  by_tree tree has q reached = nodes_still q (record { tree = tree; among = has; reached = reached })

  ways_now : (tree : Root) → Contains (trees_of old) tree → (q : ℕ)
      → ways_in new (Recorded later) tree q ≡ ways_in old (Recorded events) tree q
  ways_now tree has q =
      ways-same (nodes_of old (Recorded events)) (nodes_of new (Recorded later)) tree.height tree.address
      (by_tree tree has) q

  reach_now : (tree : Root) → Contains (trees_of old) tree → (q : ℕ) → IsReachedBy new (Recorded later) tree q
      → IsReachedBy old (Recorded events) tree q
  reach_now tree has q reached =
      reach-same (nodes_of old (Recorded events)) (nodes_of new (Recorded later)) tree.height tree.address
      (by_tree tree has) q
      reached

  reach_still : (tree : Root) → Contains (trees_of old) tree → (q : ℕ) → IsReachedBy old (Recorded events) tree q
      → IsReachedBy new (Recorded later) tree q
  reach_still tree has q reached =
      reach-on (nodes_of old (Recorded events)) (nodes_of new (Recorded later)) tree.height tree.address
      (by_tree tree has) q
      reached

  -- what some tree reaches now it reached
  met_now : (tree : Root) (q : ℕ) → Contains (trees_of new) tree → IsReachedBy new (Recorded later) tree q
      → IsMet old (Recorded events) q
  met_now tree q has reached =
      let back = tree_back tree has in
      record {
        tree = back.0;
        among = back.1;
        reached = reach_now back.0 back.1 q
            (subst (λ (t : Root). IsReachedBy new (Recorded later) t q) (sym back.2) reached);
      }

  marks_still : (q : ℕ) → mark_of new q ≡ mark_of old q
  marks_still q = ap (λ (t : List (ℕ × Kept)). full_in (book_of t q)) same_table

  -- ---- the layout

  abbrev leads_new : ℕ → Root → Bool
  leads_new s tree = nat_lt 0 (ways_in new (Recorded later) tree s)

  abbrev leads_old : ℕ → Root → Bool
  leads_old s tree = nat_lt 0 (ways_in old (Recorded events) tree s)

  led_same : (s : ℕ) → list_any (leads_new s) (trees_of new) ≡ list_any (leads_old s) (trees_of old)
  led_same s =
      ap (λ (trees : List Root). list_any (leads_new s) trees) trees_now
      ∙ any_same_anew anew (leads_new s) (leads_old s) (trees_of old)
      (λ tree has. ap (λ (n : ℕ). nat_lt 0 n) (ways_now tree has s))

  led_told : (s : ℕ) → list_any (leads_old s) (trees_of old) ≡ true
      → nodes_of new (Recorded later) s ≡ nodes_of old (Recorded events) s
  led_told s led =
      let found = one_passes (leads_old s) (trees_of old) led in
      by_tree found.0 found.1 s
      (reached-some (nodes_of old (Recorded events)) found.0.height found.0.address s
      (ltb-true 0 (ways_in old (Recorded events) found.0 s) found.2))

  placed_still : (s : ℕ) → placed_at new (Recorded later) s ≡ placed_at old (Recorded events) s
  placed_still s =
      ap (λ (led : Bool). entry_of led s (nodes_of new (Recorded later) s) (mark_of new s)) (led_same s)
      ∙ ap (λ (full : Bool). entry_of (list_any (leads_old s) (trees_of old)) s (nodes_of new (Recorded later) s) full)
      (marks_still s)
      ∙ entry_same (list_any (leads_old s) (trees_of old)) s (nodes_of new (Recorded later) s)
      (nodes_of old (Recorded events) s) (mark_of old s) (led_told s)

  abbrev root_pair : Root → ℕ × ℕ
  root_pair tree = (tree.owner, tree.address)

  roots_still : roots_of new ≡ roots_of old
  roots_still =
      ap (λ (tree : Root). with_value tree.owner tree.address (map root_pair new.others.items)) committed.tree
      ∙ ap (λ (trees : List Root). with_value old.tree.owner old.tree.address (map root_pair trees)) committed.others
      ∙ ap (λ (roots : List (ℕ × ℕ)). with_value old.tree.owner old.tree.address roots)
      (map_same anew root_pair old.others.items (λ tree. refl))

  layout_still : layout_in new (Recorded later) ≡ layout_in old (Recorded events)
  unfolding layout_in
  layout_still = layout_alike (layout_in new (Recorded later)) (layout_in old (Recorded events))
      (ap (λ (sizes : Sizes). sizes.nodesize) committed.sizes) roots_still
      (ap (λ (sizes : Sizes). filter_map (placed_at new (Recorded later)) (every_slot sizes)) committed.sizes
      ∙ filter_same (placed_at new (Recorded later)) (placed_at old (Recorded events)) (every_slot old.land.space.sizes)
      placed_still)

  counts_now : (at : ℕ) (reference : Reference)
      → count_at (book_of new.refs.refs) at reference
      + names_times new.tree.owner (filter_map name_told items) at reference
      ≡ owed_count (layout_in new (Recorded later)) at reference + names_times new.tree.owner names at reference
  counts_now at reference =
      let was = stands.counts at reference in
      let count = ap (λ (t : List (ℕ × Kept)). count_at (book_of t) at reference) same_table in
      let told_names = ap (λ (n : ℕ). names_times n (filter_map name_told items) at reference) same_owner in
      let owed = ap (λ (layout : Layout). owed_count layout at reference) layout_still in
      let named = ap (λ (n : ℕ). names_times n names at reference) same_owner in
      omega (arith, was, count, told_names, owed, named)

  -- there is no node of the generation behind the one to come
  none_newer : (at level size : ℕ) → what_in (book_of old.refs.refs at)
      ≡ Some (record { bytes = size; level = Some level; generation = old.tree.next + 1 }) → ⊥
  none_newer at level size known =
      let what : What = record { bytes = size; level = Some level; generation = old.tree.next + 1 } in
      let low = known-low old (Recorded events) bytes items names subvolume stands table at what known in
      absurd (omega (arith, low))

  -- ---- what is settled

  slots_now : (at : ℕ) → IsTrue (is_slot new.land.space.sizes at)
      → has_slot new.land.space at ≡ nat_lt 0 (references_to (book_of new.refs.refs) at)
  slots_now at slot =
      any_same (λ (s : ℕ). s == at) new.land.space.slots old.land.space.slots committed.slots
      ∙ stands.settled.slots at (subst (λ (sizes : Sizes). IsTrue (is_slot sizes at)) committed.sizes slot)
      ∙ ap (λ (t : List (ℕ × Kept)). nat_lt 0 (references_to (book_of t) at)) (sym same_table)

  held_of : (at : ℕ) → has_slot new.land.space at ≡ true → Contains new.land.space.held_slots at
  held_of at has =
      (committed.held_slots at).1 (inl ((committed.slots at).0 ((Contains-has_slot new.land.space at).0 has)))

  clean_now : (at : ℕ) (node : Node) → nodes_of new (Recorded later) at ≡ Some node
      → 0 < references_to (book_of new.refs.refs) at
      → what_in (book_of new.refs.refs at) ≡ Some (what_of new.refs.nodesize (header_of node).generation node)
  clean_now at node there some =
      let slot = told-slot new.land (Recorded later) new.tree.next drafted_new at node there in
      let some_old = subst (λ (t : List (ℕ × Kept)). 0 < references_to (book_of t) at) same_table some in
      let has : has_slot old.land.space at ≡ true =
      stands.settled.slots at (subst (λ (sizes : Sizes). IsTrue (is_slot sizes at)) committed.sizes slot)
      ∙ lt-ltb 0 (references_to (book_of old.refs.refs) at) some_old in
      ap (λ (t : List (ℕ × Kept)). what_in (book_of t at)) same_table
      ∙ known-node old (Recorded events) bytes items names subvolume stands at node (sym (taken_told at has) ∙ there)
      some_old
      ∙ ap (λ (n : ℕ). Some (what_of n (header_of node).generation node)) (sym book_size)

  newer_now : (at level : ℕ) → what_in (book_of new.refs.refs at)
      ≡ Some (record { bytes = new.refs.nodesize; level = Some level; generation = new.refs.next })
      → IsSome (fresh_at new.land.blocks.draft at)
  newer_now at level known =
      absurd (none_newer at level new.refs.nodesize
      (ap (λ (t : List (ℕ × Kept)). what_in (book_of t at)) (sym same_table) ∙ known
      ∙ ap (λ (n : ℕ). Some (record { bytes = new.refs.nodesize; level = Some level; generation = n }))
      (ap (λ (refs : TreeRefs). refs.next) committed.refs)))

  settled_now : IsSettled new.refs new.land (Recorded later)
  settled_now = record {
    slots = slots_now;
    written = λ at has. inr (held_of at has);
    fresh = λ at node there.
        absurd (none_some (fresh_at new.land.blocks.draft at) node (no-fresh old new besides committed at) there);
    newer = newer_now;
    clean = λ at node none there some. clean_now at node there some;
  }

  -- ---- each tree

  -- a tree that stood stands in the generation to come
  rooted_anew : (tree : Root) → Contains (trees_of old) tree → (own : List Item)
      → IsRooted Files tree old.land (Recorded events) own → IsRooted Files (anew tree) new.land (Recorded later) own
  rooted_anew tree has own rooted = record {
    tells = IsTree-same Files (super_of (anew tree) new.land.blocks.draft) (nodes_of old (Recorded events))
        (nodes_of new (Recorded later)) tree.height tree.address own
        (IsTree-later Files (super_of tree old.land.blocks.draft) (super_of (anew tree) new.land.blocks.draft)
        (ap (λ (sizes : Sizes). sizes.nodesize) (draft_sizes old new besides committed))
        (let next = next-same old (Recorded events) bytes items names subvolume stands tree has in omega (arith, next))
        (nodes_of old (Recorded events)) tree.height tree.address own rooted.tells)
        (by_tree tree has);
    apart = λ q free reached.
        free-apart new.land.space q free
        ((committed.held_slots q).1
        (inl ((Contains-has_slot old.land.space q).0
        (met_taken q (record { tree = tree; among = has; reached = reach_now tree has q reached })))));
    short = rooted.short;
  }

  rooted_now : IsRooted Files new.tree new.land (Recorded later) items
  rooted_now = subst (λ (tree : Root). IsRooted Files tree new.land (Recorded later) items) (sym committed.tree)
      (rooted_anew old.tree (contains_here old.tree old.others.items) items stands.rooted)

  -- it has the same items
  each_still : (tree : Root) → Contains (trees_of old) tree
      → items_in new (Recorded later) tree ≡ items_in old (Recorded events) tree
  each_still tree has =
      let own = tree-stands old (Recorded events) bytes items names subvolume stands tree has in
      let now = rooted_anew tree has own.items own.rooted in
      items_told new (Recorded later) tree own.items now.tells.items_are
      ∙ sym (items_told old (Recorded events) tree own.items own.rooted.tells.items_are)

  beside_now : (tree : Root) → Contains new.others.items tree → IsBeside new (Recorded later) tree
  beside_now tree has =
      let found = from-mapped anew old.others.items tree
      (subst (λ (trees : List Root). Contains trees tree) committed.others has) in
      let was = other_stands old (Recorded events) items names stands drafted found.0 found.1 in
      subst (λ (t : Root). IsBeside new (Recorded later) t) found.2 (record {
        items = was.items;
        rooted = rooted_anew found.0 (contains_later old.tree old.others.items found.0 found.1) was.items was.rooted;
        next = sym (next_is old new besides committed);
        number = λ same. was.number (same ∙ same_owner);
      })

  ascending_now : IsStrictlyIncreasing (map (λ tree. tree.owner) new.others.items)
  ascending_now = subst (λ (numbers : List ℕ). IsStrictlyIncreasing numbers)
      (sym (ap (λ (trees : List Root). map (λ (tree : Root). tree.owner) trees) committed.others
      ∙ map_same anew (λ (tree : Root). tree.owner) old.others.items (λ tree. refl))) stands.ascending

  -- ---- names

  elsewhere_still : names_elsewhere new (Recorded later) ≡ names_elsewhere old (Recorded events)
  unfolding names_elsewhere
  elsewhere_still =
      let told_new = λ (tree : Root). filter_map name_told (items_in new (Recorded later) tree) in
      let told_old = λ (tree : Root). filter_map name_told (items_in old (Recorded events) tree) in
      ap (λ (trees : List Root). flat_map told_new trees) committed.others
      ∙ flat_same anew told_new told_old old.others.items
      (λ tree has. ap (λ (xs : List Item). filter_map name_told xs)
      (each_still tree (contains_later old.tree old.others.items tree has)))

  known_name : (name : ℕ × Piece) → Contains (names ++ names_elsewhere old (Recorded events)) name
      → IsKnownExtent new.land.space.sizes new.tree.next (book_of new.refs.refs) name.1
  known_name name has =
      let was = known_of old (Recorded events) items names stands drafted name has in
      let next = next_is old new besides committed in
      record {
        lies = subst (λ (sizes : Sizes). IsTrue (is_run sizes name.1.extent name.1.extent_bytes))
            (sym committed.sizes) was.lies;
        generation = was.generation;
        known = ap (λ (t : List (ℕ × Kept)). what_in (book_of t name.1.extent)) same_table ∙ was.known;
        dated = let date = was.dated in omega (arith, date, next);
      }

  abbrev names_now : List (ℕ × Piece)
  names_now = names ++ names_elsewhere new (Recorded later)

  known_now : (i : ℕ) (d : ℕ × Piece) → i < length names_now
      → IsKnownExtent new.land.space.sizes new.tree.next (book_of new.refs.refs) (get_or names_now i d).1
  known_now i d inside = known_name (get_or names_now i d)
      (subst (λ (ns : List (ℕ × Piece)). Contains (names ++ ns) (get_or names_now i d)) elsewhere_still
      (index_among names_now i d inside))

  runs_now : (run : Element) → Contains new.land.space.runs run
      ↔ Contains (extents_named new (Recorded later) names) run
  runs_now run = subst
      (λ (list : List Element). Contains list run ↔ Contains (extents_named new (Recorded later) names) run)
      (sym committed.runs)
      (subst (λ (ns : List (ℕ × Piece)). Contains old.land.space.runs run
      ↔ Contains (map (λ (name : ℕ × Piece). extent_of name.1) (names ++ ns)) run) (sym elsewhere_still)
      (stands.runs run))

  -- ---- all of it

  home_now : (tree : Root) (q : ℕ) (node : Node) → Contains (trees_of new) tree
      → IsReachedBy new (Recorded later) tree q
      → nodes_of new (Recorded later) q ≡ Some node → mark_of new q ≡ false
      → IsAtHome new (Recorded later) q (header_of node).owner
  home_now tree q node has reached there bare =
      let met = met_now tree q has reached in
      let home = stands.home met.tree q node met.among met.reached (sym (nodes_still q met) ∙ there)
      (sym (marks_still q) ∙ bare) in
      record {
        tree = anew home.tree;
        among = tree_on home.tree home.among;
        number = home.number;
        reached = reach_still home.tree home.among q home.reached;
      }

  stands_now : Stands new (Recorded later) items names
  stands_now = record {
    book = record {
      owner = ap (λ (refs : TreeRefs). refs.tree) committed.refs ∙ stands.book.owner ∙ sym same_owner;
      next = ap (λ (refs : TreeRefs). refs.next) committed.refs ∙ sym (next_is old new besides committed);
      nodesize = book_size ∙ stands.book.nodesize ∙ ap (λ (sizes : Sizes). sizes.nodesize) (sym committed.sizes);
    };
    rooted = rooted_now;
    ascending = ascending_now;
    beside = λ i d inside. beside_now (get_or new.others.items i d) (index_among new.others.items i d inside);
    placed = λ tree q has reached.
        let met = met_now tree q has reached in
        subst (λ (sizes : Sizes). IsTrue (is_slot sizes q)) (sym committed.sizes)
        (stands.placed met.tree q met.among met.reached);
    home = home_now;
    young = λ tree q node has reached fresh. absurd (none_some (fresh_at new.land.blocks.draft q) node
        (no-fresh old new besides committed q) fresh);
    fits = ap (λ (refs : TreeRefs). refs.misfit) committed.refs ∙ stands.fits;
    counts = counts_now;
    within = subst (λ (owner : ℕ). AreNamed owner items names) (sym same_owner) stands.within;
    few = subst (λ (owner : ℕ). (at : ℕ) (reference : Reference) → names_times owner names at reference ≤ 4294967295)
        (sym same_owner) stands.few;
    settled = settled_now;
    known = known_now;
    runs = runs_now;
  }

  pub stands-still : StandsStill old new (Recorded events) (Recorded later) items names
  stands-still = record {
    stands = stands_now;
    reach = λ tree has q. (reach_now tree has q, reach_still tree has q);
    each = each_still;
    nodes = nodes_still;
    marks = marks_still;
    layout = layout_still;
  }

pub stands-committed : (old new : FsTree) (besides : List ℕ) (events later : List Event) (bytes : ℕ)
    (items : List Item) (names : List (ℕ × Piece)) → IsTable old.refs.refs → IsSubvolume old (Recorded events) bytes
    → Stands old (Recorded events) items names → IsCommitted old new besides
    → WritesTree old (Recorded events) (Recorded later)
    → StandsStill old new (Recorded events) (Recorded later) items names
stands-committed old new besides events later bytes items names table subvolume stands committed writes =
    stands-still old new besides events later bytes items names table subvolume stands committed writes

-- as the call says it
pub stands-read : (old new : FsTree) (besides : List ℕ) (events : List Event) (after : History) (bytes : ℕ)
    (items : List Item) (names : List (ℕ × Piece)) → IsTable old.refs.refs → IsSubvolume old (Recorded events) bytes
    → Stands old (Recorded events) items names → IsCommitted old new besides → WritesTree old (Recorded events) after
    → (later : List Event) → after ≡ Recorded later → StandsStill old new (Recorded events) after items names
stands-read old new besides events after bytes items names table subvolume stands committed writes later told =
    subst (λ (history : History). StandsStill old new (Recorded events) history items names) (sym told)
    (stands-committed old new besides events later bytes items names table subvolume stands committed
    (subst (λ (history : History). WritesTree old (Recorded events) history) told writes))
