-- What a disk holds once the calls of a commit were made.
use Rattle.std.proofs.Common.{◌≡◌, ℕ, ◌<◌, ◌≤◌, nat_eq, arith, true, false, List, [], ◌∷◌, map, length, Option, Some}
use Rattle.std.proofs.Common.{None, Ok, refl, sym, ap, subst, ◌∙◌, inl, inr}
use Rattle.std.specs.Prelude.{Contains, All}
use Rattle.std.specs.List.{AllByRecursion}
use Rattle.std.specs.Map.{lookup}
use Rattle.std.proofs.lemmas.Bool.{cases_Bool, cond-false, cond-true, eq-eqb}
use Rattle.std.proofs.lemmas.List.Elements.{Contains-append_cases, Contains-append_left}
use Rattle.qg_device.specs.History.{Event, History, Recorded, Unrecorded, history_after, content}
use Rattle.qg_num.specs.declared.piece.Piece.{Piece}
use Rattle.qg_node.specs.declared.item.Item.{Item}
use Rattle.qg_node.specs.declared.node.Node.{Node}
use Rattle.qg_items.specs.declared.root.RootItem.{RootItem}
use Rattle.qg_super.specs.declared.sizes.Sizes.{Sizes}
use Rattle.qg_super.specs.Places.{is_served, total_bytes}
use Rattle.qg_super.specs.SuperText.{sizes_of}
use Rattle.qg_image.specs.State.{Placed}
use Rattle.qg_image.proofs.Contained.{contains_cases, none_contained}
use Rattle.qg_image.specs.Walk.{node_found}
use Rattle.qg_owner_rule.proofs.Reaching.{value_of_entry}
use Rattle.qg_image.specs.declared.quota.Quota.{Quota}
use Rattle.qg_refs.specs.declared.kept.Kept.{Kept}
use Rattle.qg_blocks.specs.Standing.{standing}
use Rattle.qg_blocks.specs.NodesFound.{IsBacked, IsNodeAt, fresh_at, told}
use Rattle.qg_blocks.specs.Writing.{AreWritten, Keeps}
use Rattle.qg_tree_layout.specs.Row.{address_of}
use Rattle.qg_node_alloc.specs.Land.{IsDrafted}
use Rattle.qg_commit.specs.Calls.{IsReadBack, with_commit}
use Rattle.qg_commit.specs.Types.{OtherTrees}
use Rattle.qg_commit.specs.OtherTreesHolds.{HoldsLayout}
use Rattle.qg_commit.specs.Trees.{nodes_laid}
use Rattle.qg_reach.proofs.Members.{one_mapped}
use Rattle.qg_commit.proofs.Slots.{all_contained}
use Rattle.qg_shared_trees.specs.Types.{FsTree}
use Rattle.qg_shared_trees.specs.Standing.{IsSubvolume, Stands, nodes_of}
use Rattle.qg_shared_trees.specs.Laying.{IsMet, nodes_in}
use Rattle.qg_shared_trees.proofs.Moved.{fresh-told}
use Rattle.qg_shared_trees.proofs.Nodes.{nodes-ascend, reached-by}
use Rattle.qg_shared_trees.proofs.Trees.{met-slot}
use Rattle.qg_super.proofs.Served.{SizesFit-is_served}
use Rattle.qg_commit.specs.HoldsAfter.{AreForgotten, AreFree, IsFlushed, IsOnDisk, with_tree_commit}
use Rattle.qg_commit.specs.Writing.{IsLaying, fresh_nodes, nodes_written}
use Rattle.qg_commit.proofs.AllNodes.{trees-held, written-found, written-lie, written-sizes}
use Rattle.qg_commit.proofs.FreshNodes.{fresh-listed, fresh-there}
use Rattle.qg_commit.proofs.LaidNodes.{laid-within}
use Rattle.qg_commit.proofs.Stays.{LiesInSlot, clean-stands, found-stands, standing-alike, stays-commit}
use Rattle.qg_commit.proofs.Stays.{stands-found}
use Rattle.qg_commit.proofs.Subvolume.{fresh-AreWritable, given-apart, given-clear, given-slot, met-held}

-- ---- clean nodes

-- an address with a clean node has one that is found
listed_none : (es : List (ℕ × Node)) (at : ℕ) (node : Node) → Contains es (at, node) → lookup (nat_eq at) es ≡ None → ⊥
listed_none [] at node has none = none_contained (at, node) has
listed_none (e ∷ es) at node has none = elim (cases_Bool (nat_eq at e.0)) [
  | inl here ↦
      let wrong : Some e.1 ≡ None = sym (cond-true (nat_eq at e.0) (Some e.1) (lookup (nat_eq at) es) here) ∙ none in
      absurd cc
  | inr other ↦
      let rest = sym (cond-false (nat_eq at e.0) (Some e.1) (lookup (nat_eq at) es) other) ∙ none in
      elim (contains_cases e es (at, node) has) [
        | inl same ↦
            let level : at ≡ e.0 = ap (λ (one : ℕ × Node). one.0) (sym same) in
            let wrong : true ≡ false = sym (eq-eqb at e.0 level) ∙ other in
            absurd cc
        | inr later ↦ listed_none es at node later rest
      ]
]

-- ---- a commit

-- an address at which no fresh node lies, and that is none of the slots given
pub record IsElsewhere (fs : FsTree) (slots : List ℕ) (at : ℕ) : Type 0 where
  pub clean : fresh_at fs.land.blocks.draft at ≡ None
  pub apart : Contains slots at → ⊥

-- where a disk tells after the calls it told before
record CameFrom (fs : FsTree) (trees : OtherTrees) (old : History) (new : List Event) : Type 0 where
  events : List Event
  told : old ≡ Recorded events
  is : new ≡ with_tree_commit fs trees events

module _ (fs : FsTree) (roots : List (ℕ × RootItem)) (book : List (ℕ × Kept)) (quota : Option Quota) (generation : ℕ)
    (slots : List ℕ) (trees : OtherTrees)
    (laying : IsLaying fs.land.space.sizes generation roots book quota slots fs.land.blocks.draft trees)
    (drafted : IsDrafted fs.land fs.tree.next) (free : AreFree fs.land.space slots)
    (read : All (IsReadBack fs.land.space.sizes.nodesize) (fresh_nodes fs.land.blocks.draft)) where
  abbrev sizes : Sizes
  sizes = fs.land.space.sizes

  abbrev nodes : List Node
  nodes = nodes_written fs.land.blocks.draft trees

  same_sizes : sizes_of trees.superblock ≡ sizes
  same_sizes = written-sizes sizes generation roots book quota slots fs.land.blocks.draft trees laying
      (fresh-AreWritable fs drafted) (given-slot fs slots free)

  super_served : is_served (sizes_of trees.superblock) ≡ true
  super_served = subst (λ (s : Sizes). is_served s ≡ true) (sym same_sizes) drafted.sizes.served

  -- ---- where no node is written

  elsewhere_unwritten : (at : ℕ) → IsElsewhere fs slots at → Contains (map address_of nodes) at → ⊥
  elsewhere_unwritten at is has =
      let found = one_mapped address_of nodes at has in
      elim (Contains-append_cases (fresh_nodes fs.land.blocks.draft) (nodes_laid trees) found.0 found.1) [
        | inl fresh ↦
            let there = fresh-there fs.land.blocks.draft laying.ascending sizes (fresh-AreWritable fs drafted) found.0
            fresh in
            let there' : fresh_at fs.land.blocks.draft at ≡ Some found.0 =
            subst (λ (q : ℕ). fresh_at fs.land.blocks.draft q ≡ Some found.0) found.2 there in
            let wrong : None ≡ Some found.0 = sym is.clean ∙ there' in
            absurd cc
        | inr other ↦
            let within = laid-within sizes generation roots book quota slots trees laying.laid found.0 other in
            is.apart (subst (λ (q : ℕ). Contains slots q) found.2 within)
      ]

  -- what the last commit holds, and where nothing is fresh
  pub held-elsewhere : (at : ℕ) → Contains fs.land.space.held_slots at → IsElsewhere fs slots at
  held-elsewhere at has = record {
    clean = from (fresh_at fs.land.blocks.draft at) refl;
    apart = λ given. given-apart fs slots free at given has;
  } where
    from : (o : Option Node) → fresh_at fs.land.blocks.draft at ≡ o → fresh_at fs.land.blocks.draft at ≡ None
    from None none = none
    from (Some node) is = absurd ((drafted.each at node is).apart has)

  -- ---- a disk that is long enough

  module _ (events : List Event) (long : total_bytes sizes ≤ length (content events)) where
    abbrev after : List ℕ
    after = content (with_commit trees.superblock nodes events)

    super_long : total_bytes (sizes_of trees.superblock) ≤ length (content events)
    super_long = subst (λ (s : Sizes). total_bytes s ≤ length (content events)) (sym same_sizes) long

    after_long : total_bytes (sizes_of trees.superblock) ≤ length after
    after_long = (trees-held sizes generation roots book quota slots fs.land.blocks.draft trees laying
        (fresh-AreWritable fs drafted) (given-slot fs slots free) free.apart (given-clear fs slots drafted free) read
        events long).long

    -- there stands what stood there
    elsewhere_super : (at : ℕ) → IsElsewhere fs slots at
        → standing (sizes_of trees.superblock) after at ≡ standing (sizes_of trees.superblock) (content events) at
    elsewhere_super at is =
        stays-commit trees.superblock nodes events at super_served super_long
        (subst (λ (s : Sizes). AllByRecursion (LiesInSlot s) nodes) (sym same_sizes)
        (written-lie sizes generation roots book quota slots fs.land.blocks.draft trees laying
        (fresh-AreWritable fs drafted) (given-slot fs slots free)))
        (elsewhere_unwritten at is)

    like_super : (image : List ℕ) (at : ℕ)
        → standing fs.land.blocks.draft.sizes image at ≡ standing (sizes_of trees.superblock) image at
    like_super image at =
        standing-alike fs.land.blocks.draft.sizes (sizes_of trees.superblock) image at
        (drafted.sizes.nodesize ∙ ap (λ (s : Sizes). s.nodesize) (sym same_sizes))
        (drafted.sizes.slots ∙ ap (λ (s : Sizes). s.slots) (sym same_sizes))

    pub elsewhere-stands : (at : ℕ) → IsElsewhere fs slots at
        → standing fs.land.blocks.draft.sizes after at ≡ standing fs.land.blocks.draft.sizes (content events) at
    elsewhere-stands at is = like_super after at ∙ elsewhere_super at is ∙ sym (like_super (content events) at)

    -- ---- where a fresh node lies

    fresh_found : (at : ℕ) (node : Node) → fresh_at fs.land.blocks.draft at ≡ Some node
        → node_found trees.superblock after at ≡ Ok node
    fresh_found at node is =
        let has = Contains-append_left (fresh_nodes fs.land.blocks.draft) (nodes_laid trees) node
        (fresh-listed fs.land.blocks.draft laying.ascending at node is) in
        let found = written-found sizes generation roots book quota slots fs.land.blocks.draft trees laying
        (fresh-AreWritable fs drafted) (given-slot fs slots free) free.apart (given-clear fs slots drafted free) read
        events long node has in
        subst (λ (q : ℕ). node_found trees.superblock after q ≡ Ok node) (drafted.each at node is).kept.placed found

    pub fresh-stands : (at : ℕ) (node : Node) → fresh_at fs.land.blocks.draft at ≡ Some node
        → standing fs.land.blocks.draft.sizes after at ≡ Ok node
    fresh-stands at node is =
        like_super after at ∙ found-stands trees.superblock after at node super_served after_long
        (fresh_found at node is)

    -- ---- the trees' nodes

    module _ (bytes : ℕ) (subvolume : IsSubvolume fs (Recorded events) bytes) (items : List Item)
        (names : List (ℕ × Piece))
        (stands : Stands fs (Recorded events) items names)
      where
        -- a clean one
        held_stands : (q : ℕ) (node : Node) → IsMet fs (Recorded events) q → nodes_of fs (Recorded events) q ≡ Some node
            → fresh_at fs.land.blocks.draft q ≡ None → node_found trees.superblock after q ≡ Ok node
        unfolding told
        held_stands q node reached there none =
            let has = met-held fs (Recorded events) bytes items names subvolume stands q reached none in
            let stood = clean-stands (fresh_at fs.land.blocks.draft q) fs.land.blocks.draft.sizes events q node none
            there in
            let stood' = sym (like_super (content events) q) ∙ stood in
            stands-found trees.superblock after q node super_served after_long
            (elsewhere_super q (held-elsewhere q has) ∙ stood')

        reached_found : (q : ℕ) (node : Node) → IsMet fs (Recorded events) q
            → nodes_of fs (Recorded events) q ≡ Some node
            → node_found trees.superblock after q ≡ Ok node
        reached_found q node reached there = from (fresh_at fs.land.blocks.draft q) refl where
          from : (o : Option Node) → fresh_at fs.land.blocks.draft q ≡ o → node_found trees.superblock after q ≡ Ok node
          from None none = held_stands q node reached there none
          from (Some mine) is =
              let same : Some mine ≡ Some node = sym (fresh-told fs.land (Recorded events) q mine is) ∙ there in
              let same' : mine ≡ node = cc in
              subst (λ (n : Node). node_found trees.superblock after q ≡ Ok n) same' (fresh_found q mine is)

        some_bytes : 0 < fs.land.space.sizes.nodesize
        some_bytes = let least = (SizesFit-is_served sizes drafted.sizes.served).least in omega (arith, least)

        entry_found : (entry : ℕ × Placed) → Contains (nodes_in fs (Recorded events)) entry
            → node_found trees.superblock after entry.0 ≡ Ok entry.1.node
        entry_found entry has =
            let ascend = nodes-ascend fs (Recorded events) some_bytes
            (met-slot fs (Recorded events) bytes items names subvolume stands) in
            let its = reached-by fs (Recorded events) entry.0 entry.1
            (value_of_entry (nodes_in fs (Recorded events)) entry ascend has) in
            reached_found entry.0 entry.1.node its.met its.told

        pub layout-held : HoldsLayout trees.superblock after (nodes_in fs (Recorded events))
        layout-held =
            all_contained (λ entry. node_found trees.superblock after entry.0 ≡ Ok entry.1.node)
            (nodes_in fs (Recorded events))
            entry_found

        pub on-disk : IsOnDisk fs trees events
        on-disk = record {
          commit = trees-held sizes generation roots book quota slots fs.land.blocks.draft trees laying
              (fresh-AreWritable fs drafted) (given-slot fs slots free) free.apart (given-clear fs slots drafted free)
              read
              events long;
          layout = layout-held;
        }

  -- ---- from one history to another

  module _ (before : History)
      (long : (events : List Event) → before ≡ Recorded events → total_bytes sizes ≤ length (content events)) where
    abbrev later : History → History
    later history = history_after (with_tree_commit fs trees) history

    came_from : (old : History) (new : List Event) → later old ≡ Recorded new → CameFrom fs trees old new
    came_from (Unrecorded changes) new is = absurd cc
    came_from (Recorded events) new is = record { events = events; told = refl; is = cc }

    -- what stands after it, where it is known what stands after the calls
    stands_so : (new : List Event) (came : CameFrom fs trees before new) (at : ℕ) (node : Node)
        → standing fs.land.blocks.draft.sizes (content (with_tree_commit fs trees came.events)) at ≡ Ok node
        → standing fs.land.blocks.draft.sizes (content new) at ≡ Ok node
    stands_so new came at node is =
        ap (λ (events : List Event). standing fs.land.blocks.draft.sizes (content events) at) came.is ∙ is

    keeps_so : (new : List Event) (came : CameFrom fs trees before new) (at : ℕ) → IsElsewhere fs slots at
        → standing fs.land.blocks.draft.sizes (content new) at
        ≡ standing fs.land.blocks.draft.sizes (content came.events) at
    keeps_so new came at is =
        ap (λ (events : List Event). standing fs.land.blocks.draft.sizes (content events) at) came.is
        ∙ elsewhere-stands came.events (long came.events came.told) at is

    all_written : AreWritten fs.land.blocks.draft (later before)
    all_written = record {
      stands = λ at node is new told.
          let came = came_from before new told in
          stands_so new came at node (fresh-stands came.events (long came.events came.told) at node is);
      kept = λ at node is.
          subst (λ (n : ℕ). IsNodeAt n at node) (sym drafted.sizes.nodesize) (drafted.each at node is).kept;
    }

    clean_elsewhere : IsBacked fs.land.blocks before → AreForgotten fs.land.blocks slots → (at : ℕ) (node : Node)
        → Contains fs.land.blocks.clean (at, node) → IsElsewhere fs slots at
    clean_elsewhere backed gone at node has = record {
      clean = backed.apart at node has;
      apart = λ given. listed_none fs.land.blocks.clean at node has (gone at given);
    }

    still_backed : IsBacked fs.land.blocks before → AreForgotten fs.land.blocks slots
        → IsBacked fs.land.blocks (later before)
    still_backed backed gone = record {
      stands = λ at node has new told.
          let came = came_from before new told in
          keeps_so new came at (clean_elsewhere backed gone at node has)
          ∙ backed.stands at node has came.events came.told;
      kept = backed.kept;
      apart = backed.apart;
    }

    held_kept : Keeps fs.land.blocks.draft.sizes before (later before) (λ at. Contains fs.land.space.held_slots at)
    held_kept new told =
        let came = came_from before new told in
        (came.events, came.told, λ at has. keeps_so new came at (held-elsewhere at has))

    pub is-flushed : IsBacked fs.land.blocks before → AreForgotten fs.land.blocks slots
        → IsFlushed fs.land before (later before)
    is-flushed backed gone = record { written = all_written; backed = still_backed backed gone; held = held_kept }
