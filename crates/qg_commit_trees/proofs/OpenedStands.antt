-- The trees of a sound image that was just opened stand.
use Rattle.std.proofs.Common.{◌≡◌, ℕ, ◌+◌, ◌<◌, Bool, true, false, List, get_or, Option, Some, None, arith, refl, sym}
use Rattle.std.proofs.Common.{ap, subst, ◌∙◌, inr}
use Rattle.std.specs.Prelude.{IsTrue, nat_lt}
use Rattle.std.specs.List.{Contains, filter_map}
use Rattle.std.proofs.lemmas.Bool.{lt-ltb, ltb-true}
use Rattle.qg_device.specs.History.{Event, Recorded, content}
use Rattle.qg_node.specs.declared.item.Item.{Item}
use Rattle.qg_node.specs.declared.node.Node.{Node}
use Rattle.qg_node.specs.Nodes.{header_of}
use Rattle.qg_items.specs.declared.extent.Reference.{Reference}
use Rattle.qg_items.specs.declared.root.RootItem.{RootItem}
use Rattle.qg_items.specs.declared.tree.TheConstants.{TOP_LEVEL}
use Rattle.qg_super.specs.declared.sizes.Sizes.{Sizes}
use Rattle.qg_super.specs.declared.superblock.Super.{Super}
use Rattle.qg_super.specs.Places.{is_slot}
use Rattle.qg_image.specs.Owed.{owed_count}
use Rattle.qg_image.proofs.Contained.{contains_later}
use Rattle.qg_image.specs.declared.tree.TreeKind.TheVariants.{Files}
use Rattle.qg_image.specs.ImageState.{extent_parts, items_of_root, roots_in, subvolume_roots}
use Rattle.qg_blocks.specs.NodesFound.{fresh_at}
use Rattle.qg_space.specs.Holding.{has_slot}
use Rattle.qg_space.proofs.Members.{Contains-has_slot}
use Rattle.qg_refs.specs.declared.kept.What.{What}
use Rattle.qg_refs.specs.Book.{count_at, what_in}
use Rattle.qg_extents.specs.Table.{IsTable, book_of}
use Rattle.qg_tree_read.specs.Tree.{Root}
use Rattle.qg_shared_trees.specs.Rooting.{IsRooted}
use Rattle.qg_shared_trees.specs.Types.{TreeRefs}
use Rattle.qg_shared_trees.specs.Following.{references_to}
use Rattle.qg_shared_trees.specs.Settled.{IsSettled, what_of}
use Rattle.qg_shared_trees.specs.Types.{FsTree}
use Rattle.qg_shared_trees.specs.Standing.{IsBeside, Stands, layout_in, name_told, names_times, nodes_of}
use Rattle.qg_shared_trees.proofs.Before.{index_among}
use Rattle.qg_shared_trees.specs.Laying.{IsMet, names_in}
use Rattle.qg_commit_trees.specs.Opening.{IsOpened, IsSoundImage, StandsOpened}
use Rattle.qg_commit_trees.proofs.Opened.{items-opened, met-slot, next-opened, no-fresh-opened, other-number}
use Rattle.qg_commit_trees.proofs.Opened.{others-ascend}
use Rattle.qg_commit_trees.proofs.Opened.{placed-opened, rooted-opened, slot-met, slot-opened, tree-entry}
use Rattle.qg_commit_trees.proofs.OpenedBook.{extents-opened, few-opened, home-opened, known-opened, met-referred}
use Rattle.qg_commit_trees.proofs.OpenedBook.{owed-opened, referred-met, rooted-hand, runs-opened}
use Rattle.qg_commit_trees.proofs.OpenedLayout.{layout-opened}
use Rattle.qg_commit_trees.proofs.Dated.{told-low}

none_some : {A : Type 0} (o : Option A) (x : A) → o ≡ None → o ≡ Some x → ⊥
none_some o x none some = let wrong : None ≡ Some x = sym none ∙ some in cc

both_same : (a b : Bool) → (a ≡ true → b ≡ true) → (b ≡ true → a ≡ true) → a ≡ b
both_same true true on back = refl
both_same true false on back = sym (on refl)
both_same false true on back = back refl
both_same false false on back = refl

module _ (fs : FsTree) (super : Super) (events : List Event) (table : IsTable fs.refs.refs)
    (sound : IsSoundImage super (content events)) (opened : IsOpened fs super (content events)) where
  owner_is : fs.refs.tree ≡ fs.tree.owner
  owner_is = ap (λ (refs : TreeRefs). refs.tree) opened.refs ∙ sym opened.number

  next_is : fs.refs.next ≡ super.generation + 1
  next_is = ap (λ (refs : TreeRefs). refs.next) opened.refs

  size_is : fs.refs.nodesize ≡ super.nodesize
  size_is = ap (λ (refs : TreeRefs). refs.nodesize) opened.refs

  known_node : (at : ℕ) (node : Node) → IsMet fs (Recorded events) at → nodes_of fs (Recorded events) at ≡ Some node
      → what_in (book_of fs.refs.refs at) ≡ Some (what_of fs.refs.nodesize (header_of node).generation node)
  known_node at node met is =
      known-opened fs super events table sound opened at met node is
      ∙ ap (λ (n : ℕ). Some (what_of n (header_of node).generation node)) (sym size_is)

  -- ---- what is settled

  slots_there : (at : ℕ) → IsTrue (is_slot fs.land.space.sizes at)
      → has_slot fs.land.space at ≡ nat_lt 0 (references_to (book_of fs.refs.refs) at)
  slots_there at slot =
      both_same (has_slot fs.land.space at) (nat_lt 0 (references_to (book_of fs.refs.refs) at))
      (λ has. lt-ltb 0 (references_to (book_of fs.refs.refs) at)
      (met-referred fs super events table sound opened at
      (slot-met fs super events sound opened at ((Contains-has_slot fs.land.space at).0 has))))
      (λ some. (Contains-has_slot fs.land.space at).1
      (met-slot fs super events sound opened at (referred-met fs super events table sound opened at slot
      (ltb-true 0 (references_to (book_of fs.refs.refs) at) some))))

  none_newer : (at level : ℕ) → what_in (book_of fs.refs.refs at)
      ≡ Some (record { bytes = fs.refs.nodesize; level = Some level; generation = fs.refs.next }) → ⊥
  none_newer at level known =
      let what : What = record { bytes = fs.refs.nodesize; level = Some level; generation = fs.refs.next } in
      let low = told-low super.nodesize (extent_parts super (content events)) (book_of fs.refs.refs) opened.told
      super.generation sound.dated at what known in
      let next = next_is in
      absurd (omega (arith, low, next))

  clean_there : (at : ℕ) (node : Node) → nodes_of fs (Recorded events) at ≡ Some node
      → 0 < references_to (book_of fs.refs.refs) at
      → what_in (book_of fs.refs.refs at) ≡ Some (what_of fs.refs.nodesize (header_of node).generation node)
  clean_there at node is some =
      known_node at node
      (referred-met fs super events table sound opened at (slot-opened fs super events sound opened at node is) some) is

  settled_there : IsSettled fs.refs fs.land (Recorded events)
  settled_there = record {
    slots = slots_there;
    written = λ at has. inr (opened.held_slots at ((Contains-has_slot fs.land.space at).0 has));
    fresh = λ at node there. absurd (none_some (fresh_at fs.land.blocks.draft at) node
        (no-fresh-opened fs super (content events) opened at) there);
    newer = λ at level known. absurd (none_newer at level known);
    clean = λ at node none is some. clean_there at node is some;
  }

  -- ---- the others

  beside_there : (tree : Root) → Contains fs.others.items tree → IsBeside fs (Recorded events) tree
  beside_there tree has =
      let entry = tree-entry fs super events sound opened tree (contains_later fs.tree fs.others.items tree has) in
      record {
        items = items_of_root Files super (content events) entry.0.1;
        rooted = subst (λ (t : Root). IsRooted Files t fs.land (Recorded events)
            (items_of_root Files super (content events) entry.0.1)) entry.2
            (rooted-opened fs super events sound opened entry.0 entry.1);
        next = sym (ap (λ (t : Root). t.next) entry.2) ∙ sym (next-opened fs super (content events) opened);
        number = other-number fs super events sound opened tree has;
      }

  -- ---- all of it

  module _ (root : RootItem) (top : Contains (subvolume_roots (roots_in super (content events))) (TOP_LEVEL, root))
    where
      abbrev items : List Item
      items = items_of_root Files super (content events) root

      counts_there : (at : ℕ) (reference : Reference) → count_at (book_of fs.refs.refs) at reference
          + names_times fs.tree.owner (filter_map name_told items) at reference
          ≡ owed_count (layout_in fs (Recorded events)) at reference
          + names_times fs.tree.owner (names_in items) at reference
      counts_there at reference =
          let owed = owed-opened fs super events table sound opened at reference in
          ap (λ (n : ℕ). n + names_times fs.tree.owner (filter_map name_told items) at reference) owed

      stands_there : Stands fs (Recorded events) (items_of_root Files super (content events) root)
          (names_in (items_of_root Files super (content events) root))
      stands_there = record {
        book = record {
          owner = owner_is;
          next = next_is ∙ sym (next-opened fs super (content events) opened);
          nodesize = size_is ∙ ap (λ (sizes : Sizes). sizes.nodesize) (sym opened.sizes);
        };
        rooted = rooted-hand fs super events table sound opened root top;
        ascending = others-ascend fs super events sound opened;
        beside = λ i d inside. beside_there (get_or fs.others.items i d) (index_among fs.others.items i d inside);
        placed = λ tree q has reached. placed-opened fs super events sound opened q
            (record { tree = tree; among = has; reached = reached });
        home = home-opened fs super events table sound opened;
        young = λ tree q node has reached fresh. absurd (none_some (fresh_at fs.land.blocks.draft q) node
            (no-fresh-opened fs super (content events) opened q) fresh);
        fits = ap (λ (refs : TreeRefs). refs.misfit) opened.refs;
        counts = counts_there;
        within = λ at reference. omega arith;
        few = few-opened fs super events table sound opened root top;
        settled = settled_there;
        known = extents-opened fs super events table sound opened root top;
        runs = runs-opened fs super events table sound opened root top;
      }

pub stands-opened : (fs : FsTree) (super : Super) (events : List Event) → IsTable fs.refs.refs
    → IsSoundImage super (content events) → IsOpened fs super (content events) → StandsOpened fs super events
stands-opened fs super events table sound opened = record {
  stands = stands_there fs super events table sound opened;
  each = items-opened fs super events sound opened;
  layout = layout-opened fs super events sound opened;
}
