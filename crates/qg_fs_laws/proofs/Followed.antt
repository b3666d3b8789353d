-- A file command leaves a state that follows the one before by copy on write, and trees that are kept of it.
use Rattle.std.proofs.Common.{◌≡◌, ℕ, ◌+◌, Bool, true, false, List, [], ◌∷◌, length, Option, Some, None, refl}
use Rattle.std.proofs.Common.{sym, ap, subst, ◌∙◌, inl, inr, arith}
use Rattle.std.specs.Prelude.{◌&&◌, ◌↔◌, map, not, is_some, cond, nat_lt, if◌then◌else◌}
use Rattle.std.specs.List.{All, Contains, filter, filter_map, flat_map, list_any, sum_by}
use Rattle.std.proofs.lemmas.Bool.{cases_Bool, cond-false, cond-true}
use Rattle.std.proofs.lemmas.List.Sums.{sum_by-cons}
use Rattle.std.specs.Option.{option_map}
use Rattle.qg_device.specs.History.{History}
use Rattle.qg_node.specs.declared.node.Node.{Node}
use Rattle.qg_super.specs.declared.sizes.Sizes.{Sizes}
use Rattle.qg_super.specs.Places.{is_slot}
use Rattle.qg_image.specs.declared.file.File.{File}
use Rattle.qg_image.specs.Table.{has_key, value_at, with_value}
use Rattle.qg_image.specs.declared.element.Element.{Element}
use Rattle.qg_image.specs.Need.{file_copies}
use Rattle.qg_image.specs.State.{Accepted, Committed, Layout, Placed, State, Subvolume, next_generation}
use Rattle.qg_root_items.specs.Written.{items_of_file}
use Rattle.qg_machine.specs.Layout.{made_nodes}
use Rattle.qg_machine.specs.Step.{with_tree}
use Rattle.qg_space.specs.Holding.{has_slot}
use Rattle.qg_refs.specs.Book.{full_in}
use Rattle.qg_extents.specs.Table.{book_of}
use Rattle.qg_tree_read.specs.Tree.{Root}
use Rattle.qg_tree_read.proofs.Frames.{items-same}
use Rattle.qg_reach.proofs.Layouts.{value_at-with_other, value_at-with_same}
use Rattle.qg_tree_items.specs.Writable.{IsFileBy}
use Rattle.qg_file_edits.proofs.Snapshotted.{root_entry}
use Rattle.qg_file_edits.specs.Types.{FsTree}
use Rattle.qg_file_edits.specs.Standing.{every_slot, items_in, layout_in, made_slots, nodes_of, placed_at, roots_of}
use Rattle.qg_file_edits.specs.Standing.{trees_of, ways_in}
use Rattle.qg_file_edits.proofs.Places.{slots-same}
use Rattle.qg_file_edits.specs.Laying.{CopiesNodes, IsLaidOut, nodes_in}
use Rattle.qg_file_edits.proofs.Copied.{commands-copy}
use Rattle.qg_file_edits.proofs.Nodes.{nodes-are}
use Rattle.qg_file_edits.proofs.Trees.{numbers-apart, roots-laid}
use Rattle.qg_file_edits.specs.Named.{named}
use Rattle.qg_file_edits.specs.Files.{LeavesFiles}
use Rattle.qg_fs_laws.specs.Keeping.{FollowsCommand, IsKept, KeepsState, OthersHaveFiles, mine_after, state_after}
use Rattle.qg_fs_laws.proofs.Kept.{placed-led, slot-led, some_bytes, stands, taken-told, whole}
use Rattle.qg_fs_laws.proofs.Numbers.{roots-with, with-twice}

-- ---- how many

-- 1 where something is there and passes
abbrev weigh : (ℕ × Placed → Bool) → Option (ℕ × Placed) → ℕ
weigh test None = 0
weigh test (Some entry) = cond (test entry) 1 0

many_pass : (test : ℕ × Placed → Bool) (placed : ℕ → Option (ℕ × Placed)) (slots : List ℕ)
    → length (filter test (filter_map placed slots)) ≡ sum_by (λ s. weigh test (placed s)) slots
many_pass test placed [] = refl
many_pass test placed (slot ∷ slots) = from (placed slot) refl (many_pass test placed slots) where
  both : sum_by (λ s. weigh test (placed s)) (slot ∷ slots)
      ≡ weigh test (placed slot) + sum_by (λ s. weigh test (placed s)) slots
  both = sum_by-cons (λ (s : ℕ). weigh test (placed s)) slot slots

  from : (o : Option (ℕ × Placed)) → placed slot ≡ o
      → length (filter test (filter_map placed slots)) ≡ sum_by (λ s. weigh test (placed s)) slots
      → length (filter test (filter_map placed (slot ∷ slots))) ≡ sum_by (λ s. weigh test (placed s)) (slot ∷ slots)
  from None is rest =
      let none : weigh test (placed slot) ≡ 0 = ap (weigh test) is in
      let same : length (filter test (filter_map placed (slot ∷ slots)))
      ≡ length (filter test (filter_map placed slots)) = rw is refl in
      omega (arith, rest, both, none, same)
  from (Some entry) is rest = elim (cases_Bool (test entry)) [
    | inl passes ↦
        let one : weigh test (placed slot) ≡ 1 = ap (weigh test) is ∙ cond-true _ _ _ passes in
        let same : length (filter test (filter_map placed (slot ∷ slots)))
        ≡ length (entry ∷ filter test (filter_map placed slots)) = rw (is, passes) refl in
        omega (arith, rest, both, one, same)
    | inr fails ↦
        let none : weigh test (placed slot) ≡ 0 = ap (weigh test) is ∙ cond-false _ _ _ fails in
        let same : length (filter test (filter_map placed (slot ∷ slots)))
        ≡ length (filter test (filter_map placed slots)) = rw (is, fails) refl in
        omega (arith, rest, both, none, same)
  ]

-- what is placed at a slot, if anything, is one that the present state has
weigh_slot : (old : List (ℕ × Placed)) (at : ℕ) (o : Option (ℕ × Placed)) (has had : Bool)
    → ((entry : ℕ × Placed) → o ≡ Some entry → entry.0 ≡ at) → has ≡ is_some o → had ≡ has_key at old
    → weigh (λ entry. not (has_key entry.0 old)) o ≡ cond (has && not had) 1 0
weigh_slot old at None has had there is was = rw is refl
weigh_slot old at (Some entry) has had there is was =
    rw (is, was) (ap (λ (n : ℕ). cond (not (has_key n old)) 1 0) (there entry refl))

-- ---- the state afterwards

tree_is : (state : State) (sub : ℕ) (mine : Subvolume) (files : List (ℕ × File)) (root : ℕ)
    → value_at sub state.subvolumes ≡ Some mine
    → with_tree state sub files root
    ≡ record state { subvolumes = with_value sub (record mine { files = files; root = root }) state.subvolumes }
tree_is state sub mine files root there = rw there refl

others_items : (old new : FsTree) → new.others ≡ old.others → new.others.items ≡ old.others.items
others_items old new same = rw same refl

placed_from : (led : Bool) (told : Option Node) (at : ℕ) (full : Bool) (entry : ℕ × Placed)
    → (if led then option_map (λ node. (at, record { node = node; full = full })) told else None) ≡ Some entry
    → entry.0 ≡ at
placed_from true None at full entry is = let wrong : None ≡ Some entry = is in cc
placed_from true (Some node) at full entry is =
    let own : ℕ × Placed = (at, record { node = node; full = full }) in
    let same : own ≡ entry = let e : Some own ≡ Some entry = is in cc in
    ap (λ (e : ℕ × Placed). e.0) (sym same)
placed_from false told at full entry is = let wrong : None ≡ Some entry = is in cc

placed_own : (fs : FsTree) (history : History) (at : ℕ) (entry : ℕ × Placed)
    → placed_at fs history at ≡ Some entry → entry.0 ≡ at
placed_own fs history at entry is =
    placed_from (list_any (λ tree. nat_lt 0 (ways_in fs history tree at)) (trees_of fs)) (nodes_of fs history at) at
    (full_in (book_of fs.refs.refs at)) entry is

module _ (old new : FsTree) (history : History) (bytes left pieces : ℕ) (before : State)
    (mine : Subvolume) (files files_new : List (ℕ × File)) (last : Accepted) (kept : IsKept old history bytes)
    (keeps : KeepsState old history before mine files) (kept_new : IsKept new history left)
    (leaves : LeavesFiles old new history files_new pieces)
    (runs : new.land.space.held_runs ≡ old.land.space.held_runs) where
  abbrev after : State
  after = state_after before files_new new history last

  abbrev mine_now : Subvolume
  mine_now = mine_after mine files_new new

  there_old : value_at new.tree.owner before.subvolumes ≡ Some mine
  there_old = ap (λ (n : ℕ). value_at n before.subvolumes) leaves.moved.owner ∙ keeps.there

  tree_now : with_tree before new.tree.owner files_new new.tree.address
      ≡ record before { subvolumes = with_value new.tree.owner (mine_after mine files_new new) before.subvolumes }
  tree_now = tree_is before new.tree.owner mine files_new new.tree.address there_old

  held_now : after.held ≡ before.held
  held_now = ap (λ (state : State). state.held) tree_now

  subvolumes_now : after.subvolumes ≡ with_value new.tree.owner mine_now before.subvolumes
  subvolumes_now = ap (λ (state : State). state.subvolumes) tree_now

  others_now : new.others.items ≡ old.others.items
  others_now = others_items old new leaves.moved.moves.trees

  -- ---- the layout

  roots_old : map root_entry before.subvolumes ≡ roots_of old
  roots_old = roots-laid old history bytes (flat_map items_of_file files) (named files) kept.subvolume
      (stands old history bytes before mine files kept keeps) before keeps.laid

  roots_twice : with_value new.tree.owner new.tree.address (roots_of old) ≡ roots_of new
  roots_twice =
      ap (λ (n : ℕ). with_value n new.tree.address (roots_of old)) leaves.moved.owner
      ∙ with-twice old.tree.owner old.tree.address new.tree.address
      (map (λ (tree : Root). (tree.owner, tree.address)) old.others.items)
      ∙ ap (λ (n : ℕ). with_value n new.tree.address
      (map (λ (tree : Root). (tree.owner, tree.address)) old.others.items)) (sym leaves.moved.owner)
      ∙ ap (λ (trees : List Root). with_value new.tree.owner new.tree.address
      (map (λ (tree : Root). (tree.owner, tree.address)) trees)) (sym others_now)

  roots_now : map root_entry after.subvolumes ≡ roots_of new
  roots_now =
      ap (λ (table : List (ℕ × Subvolume)). map root_entry table) subvolumes_now
      ∙ roots-with new.tree.owner mine_now before.subvolumes
      ∙ ap (λ (table : List (ℕ × ℕ)). with_value new.tree.owner new.tree.address table) roots_old
      ∙ roots_twice

  sizes_now : after.sizes ≡ new.land.space.sizes
  sizes_now = ap (λ (state : State). state.sizes) tree_now ∙ keeps.laid.sizes ∙ sym leaves.moved.sizes

  laid_now : IsLaidOut after new history
  unfolding layout_in
  laid_now = record {
    sizes = sizes_now;
    generation = ap (λ (state : State). next_generation state) tree_now ∙ keeps.laid.generation
        ∙ sym leaves.moved.next;
    layout = λ i. let layout : Layout = record {
      nodesize = (sizes_now i).nodesize;
      roots = roots_now i;
      nodes = nodes_in new history;
    } in layout;
  }

  -- ---- the other trees

  items_now : (tree : Root) → Contains old.others.items tree → items_in new history tree ≡ items_in old history tree
  items_now tree among = rw (items-same (nodes_of old history) (nodes_of new history) tree.height tree.address
      (λ q reaches. (leaves.moved.moves.beside q (record { tree = tree; among = among; reached = reaches })).0)) refl

  have_now : OthersHaveFiles after new history
  have_now tree subvolume has there =
      let among = subst (λ (trees : List Root). Contains trees tree) others_now has in
      let apart = numbers-apart old history bytes (flat_map items_of_file files) (named files) kept.subvolume
      (stands old history bytes before mine files kept keeps) tree among in
      let is = sym (value_at-with_other new.tree.owner tree.owner mine_now before.subvolumes
      (λ is. apart (sym is ∙ leaves.moved.owner)))
      ∙ ap (λ (table : List (ℕ × Subvolume)). value_at tree.owner table) (sym subvolumes_now) ∙ there in
      let was = keeps.have tree subvolume among is in
      record {
        items = items_now tree among ∙ was.items;
        writable = was.writable;
        by = subst (λ (n : ℕ). All (IsFileBy n) subvolume.files) (sym leaves.moved.next) was.by;
      }

  keeps_now : KeepsState new history after (mine_after mine files_new new) files_new
  keeps_now = record {
    there = ap (λ (table : List (ℕ × Subvolume)). value_at new.tree.owner table) subvolumes_now
        ∙ value_at-with_same new.tree.owner mine_now before.subvolumes;
    are = refl;
    holds = leaves.holds;
    have = have_now;
    laid = laid_now;
    held_slots = λ slot.
        subst (λ (slots : List ℕ). Contains slots slot ↔ Contains after.held.nodes slot) (sym leaves.moved.held_slots)
        (subst (λ (held : Committed). Contains old.land.space.held_slots slot ↔ Contains held.nodes slot) (sym held_now)
        (keeps.held_slots slot));
    held_runs = λ run.
        subst (λ (runs : List Element). Contains runs run ↔ Contains after.held.extents run) (sym runs)
        (subst (λ (held : Committed). Contains old.land.space.held_runs run ↔ Contains held.extents run) (sym held_now)
        (keeps.held_runs run));
  }

  nodes_copied : CopiesNodes before after old.tree.owner
  nodes_copied = commands-copy old new history bytes left (flat_map items_of_file files)
      (flat_map items_of_file files_new) (named files) (named files_new) before after kept.subvolume
      (stands old history bytes before mine files kept keeps) kept_new.subvolume leaves.holds.stands leaves.moved
      keeps.laid laid_now keeps.held_slots

  -- at each slot
  new_there : (at : ℕ) → is_slot new.land.space.sizes at ≡ true
      → weigh (λ entry. not (has_key entry.0 before.layout)) (placed_at new history at)
      ≡ cond (has_slot new.land.space at && not (has_slot old.land.space at)) 1 0
  new_there at slot =
      weigh_slot before.layout at (placed_at new history at) (has_slot new.land.space at) (has_slot old.land.space at)
      (placed_own new history at)
      (slot-led new history left after (mine_after mine files_new new) files_new kept_new keeps_now at slot
      ∙ sym (placed-led new history left after (mine_after mine files_new new) files_new kept_new keeps_now at))
      (taken-told old history bytes before mine files kept keeps at
      (ap (λ (sizes : Sizes). is_slot sizes at) (sym leaves.moved.sizes) ∙ slot))

  made_many : length (made_nodes before after) ≡ made_slots old.land.space new.land.space
  unfolding made_slots
  made_many =
      ap (λ (table : List (ℕ × Placed)). length (filter (λ entry. not (has_key entry.0 before.layout)) table))
      (nodes-are new history)
      ∙ many_pass (λ entry. not (has_key entry.0 before.layout)) (placed_at new history)
      (every_slot new.land.space.sizes)
      ∙ slots-same new.land.space.sizes
      (λ (s : ℕ). weigh (λ entry. not (has_key entry.0 before.layout)) (placed_at new history s))
      (λ (s : ℕ). cond (has_slot new.land.space s && not (has_slot old.land.space s)) 1 0)
      (some_bytes new history left after (mine_after mine files_new new) files_new kept_new keeps_now) new_there

  pub follows : FollowsCommand new history before after (mine_after mine files_new new) files_new old.tree.owner
      (file_copies old.tree.height pieces)
  follows = record {
    copied = record {
      whole = whole new history left after (mine_after mine files_new new) files_new kept_new keeps_now;
      kept = nodes_copied.kept;
      made = nodes_copied.made;
      few = let few = leaves.made in omega (arith, made_many, few);
    };
    keeps = keeps_now;
  }
