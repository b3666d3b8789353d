-- Trees that stood, once the one at hand was edited and its book was told: they stand.
use Rattle.std.proofs.Common.{◌≡◌, ◌≢◌, ℕ, zero, suc, ◌+◌, ◌<◌, ◌≤◌, Bool, true, false, List, [], ◌∷◌, ◌++◌, length}
use Rattle.std.proofs.Common.{get_or, map, Option, Some, None, arith, refl, sym, ap, subst, ◌∙◌, inl, inr}
use Rattle.std.specs.Prelude.{◌⊎◌, ◌↔◌, ◌==◌, ◌&&◌, ◌||◌, not, IsSome, IsTrue, if◌then◌else◌, nat_lt}
use Rattle.std.specs.List.{All, Contains, filter_map, flat_map}
use Rattle.std.specs.List.Sorted.{IsStrictlyIncreasing}
use Rattle.std.proofs.lemmas.Bool.{eq-eqb, lt-ltb, ltb-true}
use Rattle.std.proofs.lemmas.Bool.Decides.{eqb_tells}
use Rattle.std.proofs.lemmas.List.Concat.{flat_map-cons}
use Rattle.std.proofs.lemmas.List.Elements.{Contains-append_cases}
use Rattle.qg_device.specs.History.{History}
use Rattle.qg_num.specs.declared.piece.Piece.{Piece}
use Rattle.qg_node.specs.declared.item.Item.{Item}
use Rattle.qg_node.specs.declared.node.Node.{Node}
use Rattle.qg_node.specs.Nodes.{header_of}
use Rattle.qg_items.specs.declared.extent.Reference.{Reference}
use Rattle.qg_super.specs.declared.sizes.Sizes.{Sizes}
use Rattle.qg_super.specs.Places.{is_run, is_slot}
use Rattle.qg_image.specs.declared.element.Element.{Element}
use Rattle.qg_image.specs.State.{Placed}
use Rattle.qg_image.specs.Owed.{owed_count}
use Rattle.qg_image.specs.Reach.{extent_of}
use Rattle.qg_image.proofs.Contained.{contains_cases, contains_here, contains_later}
use Rattle.qg_image.specs.declared.tree.TreeKind.TheVariants.{Files}
use Rattle.qg_image.specs.Walk.{root_expected, walk_failure}
use Rattle.qg_walk.specs.Standing.{form_failure}
use Rattle.qg_blocks.specs.NodesFound.{fresh_at, told, told_or}
use Rattle.qg_space.specs.Holding.{has_slot, is_free_slot}
use Rattle.qg_space.proofs.Members.{one_passes, passes_one}
use Rattle.qg_tree_edits.specs.Land.{IsDrafted, Rests}
use Rattle.qg_refs.specs.Book.{count_at, what_in}
use Rattle.qg_extents.specs.Table.{IsTable, book_of}
use Rattle.qg_tree_edits.specs.Tree.{Root, found_in, super_for, super_of}
use Rattle.qg_tree_edits.proofs.BranchFrames.{reach-same}
use Rattle.qg_tree_edits.proofs.Frames.{items-same, walk-same}
use Rattle.qg_tree_edits.specs.Rooting.{IsReplaced}
use Rattle.qg_tree_edits.proofs.Ways.{ways-some}
use Rattle.qg_tree_backrefs.specs.Exchange.{times}
use Rattle.qg_tree_backrefs.specs.Settled.{IsSettled}
use Rattle.qg_tree_backrefs.proofs.Times.{times-nil}
use Rattle.qg_fs_tree.specs.declared.fs_tree.FsTree.{FsTree}
use Rattle.qg_fs_tree.specs.Standing.{IsAtHome, IsBeside, IsElsewhere, IsKnownExtent, IsReached, IsReachedBy, Stands}
use Rattle.qg_fs_tree.specs.Standing.{every_slot, extents_named, is_full_then, items_in, layout_in, name_of, name_told}
use Rattle.qg_fs_tree.specs.Standing.{names_elsewhere, names_times, nodes_of, trees_of, ways_in}
use Rattle.qg_fs_tree.proofs.Before.{beside-there, beside_parts, both-clean, first_tree, foreign-clean, foreign-led}
use Rattle.qg_fs_tree.proofs.Before.{foreign_is, held, index_among, known_of, later_tree, names_there, not_foreign}
use Rattle.qg_fs_tree.proofs.Before.{other_stands, reached}
use Rattle.qg_fs_tree.proofs.Beside.{around_of, beside_in, elsewhere, foreign_in, foreign_of, mark_of, own_ways}
use Rattle.qg_fs_tree.proofs.Beside.{roots_owed, slots_of}
use Rattle.qg_fs_tree.proofs.Counts.{node-there, owed-ways}
use Rattle.qg_fs_tree.proofs.Exchanged.{StaysBook}
use Rattle.qg_fs_tree.proofs.Extents.{piece-owed}
use Rattle.qg_fs_tree.proofs.Fixed.{foreign-full, taken-beside}
use Rattle.qg_fs_tree.proofs.Keyed.{keyed_ways}
use Rattle.qg_fs_tree.proofs.Layouts.{owed_marked, owed_there}
use Rattle.qg_fs_tree.proofs.Nodes.{times-many}
use Rattle.qg_fs_tree.proofs.Owes.{keyed_in, mark_in, owed_in}
use Rattle.qg_fs_tree.proofs.Owings.{names_of}
use Rattle.qg_fs_tree.proofs.Reached.{reached-some}
use Rattle.qg_fs_tree.proofs.SlotSums.{over}
use Rattle.qg_fs_tree.proofs.TrueToFixed.{free-apart, free-unheld}
use Rattle.qg_fs_tree.proofs.Turned.{IsNewNode, StandsFor, no_way}

-- each fresh node that the tree at hand reaches is its own
abbrev pub AreOwned : FsTree → History → ℕ → Type 0
AreOwned fs history owner = (q : ℕ) (node : Node) → IsReached fs history q
    → fresh_at fs.land.blocks.draft q ≡ Some node
    → (header_of node).owner ≡ owner

-- ---- one node

told_same : (a b : Option Node) (sizes others : Sizes) (history : History) (q : ℕ) → a ≡ None → b ≡ None
    → others ≡ sizes
    → told_or b others history q ≡ told_or a sizes history q
told_same a b sizes others history q first last same =
    ap (λ (o : Option Node). told_or o others history q) last
    ∙ ap (λ (s : Sizes). told_or None s history q) same
    ∙ sym (ap (λ (o : Option Node). told_or o sizes history q) first)

told_fresh : (o : Option Node) (sizes : Sizes) (history : History) (q : ℕ) (node : Node) → o ≡ Some node
    → told_or o sizes history q ≡ Some node
told_fresh o sizes history q node is = ap (λ (f : Option Node). told_or f sizes history q) is

no_some : (o : Option Node) → o ≡ None → IsSome o → ⊥
no_some None none some = absurd cc
no_some (Some node) none some = cc

foreign_bare : (o : Option Node) (node : Node) (owner : ℕ) (full : Bool) → o ≡ Some node → full ≡ false
    → (header_of node).owner ≡ owner
    → foreign_of owner o full ≡ None
foreign_bare o node owner full is bare own =
    ap (λ (p : Option Node). foreign_of owner p full) is
    ∙ ap (λ (b : Bool). foreign_of owner (Some node) b) bare
    ∙ ap (λ (b : Bool). if not b then Some (record { node = node; full = false }) else None)
    (eq-eqb (header_of node).owner owner own)

foreign_whole : (o : Option Node) (p : Placed) (owner : ℕ) (full : Bool) → o ≡ Some p.node → full ≡ p.full
    → (p.full || not ((header_of p.node).owner == owner)) ≡ true
    → foreign_of owner o full ≡ Some p
foreign_whole o p owner full is mark test =
    ap (λ (n : Option Node). foreign_of owner n full) is
    ∙ ap (λ (b : Bool). foreign_of owner (Some p.node) b) mark
    ∙ ap (λ (b : Bool). if b then Some (record { node = p.node; full = p.full }) else None) test

foreign_else : (o : Option Node) (node : Node) (owner : ℕ) (full : Bool) → o ≡ Some node → full ≡ false
    → (header_of node).owner ≢ owner
    → foreign_of owner o full ≡ Some (record { node = node; full = false })
foreign_else o node owner full is bare differs =
    foreign_whole o (record { node = node; full = false }) owner full is bare
    (elim (eqb_tells (header_of node).owner owner) [
      | inl (equal, same) ↦ absurd (differs same)
      | inr (unequal, differ) ↦ ap not unequal
    ])

false_parts : (a b : Bool) → (a || b) ≡ false → (a ≡ false) × (b ≡ false)
false_parts true b is = absurd cc
false_parts false b is = (refl, is)

unequal_differ : (a b : ℕ) → (a == b) ≡ false → a ≢ b
unequal_differ a b unequal same = let equal = eq-eqb a b same in let wrong : true ≡ false = sym equal ∙ unequal in cc

pub flat-same : {A B : Type 0} (f g : A → List B) (xs : List A) → ((x : A) → Contains xs x → f x ≡ g x)
    → flat_map f xs ≡ flat_map g xs
flat-same f g [] same = refl
flat-same {A} {B} f g (x ∷ xs) same =
    flat_map-cons f x xs
    ∙ ap (λ (ys : List B). ys ++ flat_map f xs) (same x (contains_here x xs))
    ∙ ap (λ (ys : List B). g x ++ ys) (flat-same f g xs (λ y has. same y (contains_later x xs y has)))
    ∙ sym (flat_map-cons g x xs)

module _ (old new : FsTree) (history : History) (items left_items : List Item) (names : List (ℕ × Piece))
    (stands : Stands old history items names) (drafted : IsDrafted old.land old.tree.next)
    (table : IsTable old.refs.refs)
    (replaced : IsReplaced Files old.tree new.tree old.land new.land history left_items)
    (rests : Rests old.land new.land history old.tree.next)
    (trees : new.others ≡ old.others) (same_owner : new.tree.owner ≡ old.tree.owner)
    (same_next : new.tree.next ≡ old.tree.next)
    (owned : AreOwned new history old.tree.owner) (settled : IsSettled new.refs new.land history)
    (book : StaysBook old.refs new.refs)
    (foreign : ℕ → Option Placed)
    (counted : StandsFor (around_of old history names) (λ at. IsTrue (is_slot old.land.space.sizes at))
    new.refs (own_ways new history) foreign) where
  others_same : new.others.items ≡ old.others.items
  others_same = rw trees refl

  drafted_new : IsDrafted new.land new.tree.next
  drafted_new = subst (λ (n : ℕ). IsDrafted new.land n) (sym same_next) rests.drafted

  way_new : (q : ℕ) → IsReached new history q → 0 < own_ways new history q
  way_new q reaches = ways-some (nodes_of new history) new.tree.height new.tree.address q reaches

  reached_new : (q : ℕ) → 0 < own_ways new history q → IsReached new history q
  reached_new q some = reached-some (nodes_of new history) new.tree.height new.tree.address q some

  own_placed : (q : ℕ) → IsReached new history q → IsTrue (is_slot new.land.space.sizes q)
  own_placed q reaches = subst (λ (s : Sizes). IsTrue (is_slot s q)) (sym rests.sizes)
      (counted.placed q (way_new q reaches))

  -- what the last commit holds is not fresh
  not_fresh : (q : ℕ) → Contains old.land.space.held_slots q → fresh_at new.land.blocks.draft q ≡ None
  not_fresh q here = from (fresh_at new.land.blocks.draft q) refl where
    from : (o : Option Node) → fresh_at new.land.blocks.draft q ≡ o → fresh_at new.land.blocks.draft q ≡ None
    from None none = none
    from (Some node) is =
        absurd ((drafted_new.each q node is).apart (subst (λ (slots : List ℕ). Contains slots q) (sym rests.held_slots)
        here))

  -- what was clean, and that the last commit holds, is told as before
  as_before : (q : ℕ) → fresh_at old.land.blocks.draft q ≡ None → Contains old.land.space.held_slots q
      → nodes_of new history q ≡ nodes_of old history q
  unfolding told
  as_before q none here =
      told_same (fresh_at old.land.blocks.draft q) (fresh_at new.land.blocks.draft q) old.land.blocks.draft.sizes
      new.land.blocks.draft.sizes history q
      none (not_fresh q here) rests.node_sizes

  told_mine : (q : ℕ) (mine : Node) → fresh_at new.land.blocks.draft q ≡ Some mine → nodes_of new history q ≡ Some mine
  unfolding told
  told_mine q mine is = told_fresh (fresh_at new.land.blocks.draft q) new.land.blocks.draft.sizes history q mine is

  told_old : (q : ℕ) (mine : Node) → fresh_at old.land.blocks.draft q ≡ Some mine → nodes_of old history q ≡ Some mine
  unfolding told
  told_old q mine is = told_fresh (fresh_at old.land.blocks.draft q) old.land.blocks.draft.sizes history q mine is

  -- ---- the other trees are as they were

  -- what the tree at hand and another one reached the last commit holds
  both_held : (q : ℕ) → 0 < own_ways old history q → IsElsewhere old history q → Contains old.land.space.held_slots q
  both_held q some there =
      held old history items names stands drafted q some
      (both-clean old history items names stands drafted q some there)

  told_beside : (q : ℕ) → IsElsewhere old history q → nodes_of new history q ≡ nodes_of old history q
  told_beside q there = from (own_ways old history q) refl where
    from : (n : ℕ) → own_ways old history q ≡ n → nodes_of new history q ≡ nodes_of old history q
    from zero none =
        replaced.others q (λ free. free-apart old history items names stands drafted table q free there)
        (λ reaches.
        let some = ways-some (nodes_of old history) old.tree.height old.tree.address q reaches in
        omega (arith, some, none))
    from (suc n) is =
        let some : 0 < own_ways old history q = omega (arith, is) in
        as_before q (both-clean old history items names stands drafted q some there) (both_held q some there)

  module _ (tree : Root) (among : Contains old.others.items tree) where
    tree_same : (q : ℕ) → IsReachedBy old history tree q → nodes_of new history q ≡ nodes_of old history q
    tree_same q reaches = told_beside q (record { tree = tree; among = among; reached = reaches })

    reaches_back : (q : ℕ) → IsReachedBy new history tree q → IsReachedBy old history tree q
    reaches_back = reach-same (nodes_of old history) (nodes_of new history) tree.height tree.address tree_same

    reaches_on : (q : ℕ) → IsReachedBy old history tree q → IsReachedBy new history tree q
    reaches_on = reach-same (nodes_of new history) (nodes_of old history) tree.height tree.address
        (λ q reaches. sym (tree_same q (reaches_back q reaches)))

    items_same : items_in new history tree ≡ items_in old history tree
    items_same = rw (items-same (nodes_of old history) (nodes_of new history) tree.height tree.address tree_same) refl

    -- a slot that is free then it does not reach
    free_new : (q : ℕ) → IsTrue (is_free_slot new.land.space q) → IsReachedBy new history tree q → ⊥
    free_new q free reaches =
        let was : IsElsewhere old history q = record { tree = tree; among = among; reached = reaches_back q reaches } in
        elim (replaced.freed q free) [
          | inl free_old ↦ free-apart old history items names stands drafted table q free_old was
          | inr own ↦
              let some = ways-some (nodes_of old history) old.tree.height old.tree.address q own in
              free-unheld new.land.space q free (subst (λ (slots : List ℕ). Contains slots q) (sym rests.held_slots)
              (both_held q some was))
        ]

    beside_new : IsBeside new history tree
    beside_new =
        let was = other_stands old history items names stands drafted tree among in
        let judge = λ (nodesize : ℕ). form_failure Files (super_for tree.next nodesize) in
        record {
          items = was.items;
          rooted = record {
            tells = record {
              walked =
                  walk-same (form_failure Files (super_of tree new.land.blocks.draft)) (nodes_of old history)
                  (nodes_of new history) tree.height (root_expected (Some tree.height) None) tree.address tree_same
                  ∙ subst (λ (s : Sizes). walk_failure (form_failure Files (super_for tree.next s.nodesize))
                  (found_in (nodes_of old history)) tree.height (root_expected (Some tree.height) None) tree.address
                  ≡ None) (sym rests.node_sizes) was.rooted.tells.walked;
              items_are =
                  items-same (nodes_of old history) (nodes_of new history) tree.height tree.address tree_same
                  ∙ was.rooted.tells.items_are;
            };
            apart = free_new;
            short = was.rooted.short;
          };
          next = was.next ∙ sym same_next;
          number = λ same. was.number (same ∙ same_owner);
        }

  there_new : (q : ℕ) → IsElsewhere old history q → IsElsewhere new history q
  there_new q there = record {
    tree = there.tree;
    among = subst (λ (ts : List Root). Contains ts there.tree) (sym others_same) there.among;
    reached = reaches_on there.tree there.among q there.reached;
  }

  there_old : (q : ℕ) → IsElsewhere new history q → IsElsewhere old history q
  there_old q there =
      let among = subst (λ (ts : List Root). Contains ts there.tree) others_same there.among in
      record { tree = there.tree; among = among; reached = reaches_back there.tree among q there.reached }

  -- ---- a node that the tree at hand reaches

  -- a new one is fresh
  new_fresh : (q : ℕ) → IsNewNode old.refs (what_in (book_of new.refs.refs q))
      → IsSome (fresh_at new.land.blocks.draft q)
  new_fresh q young =
      settled.newer q young.level
      (young.known
      ∙ ap (λ (n : ℕ). Some (record { bytes = n; level = Some young.level; generation = old.refs.next }))
      (sym book.nodesize)
      ∙ ap (λ (n : ℕ). Some (record { bytes = new.refs.nodesize; level = Some young.level; generation = n }))
      (sym book.next))

  -- one that was fresh, and stays, is
  stays_fresh : (q : ℕ) (was : Node) → fresh_at old.land.blocks.draft q ≡ Some was → what_in (book_of new.refs.refs q)
      ≡ what_in (book_of old.refs.refs q)
      → IsSome (fresh_at new.land.blocks.draft q)
  stays_fresh q was there known =
      new_fresh q (record { level = (header_of was).level; known = known ∙ stands.settled.fresh q was there })

  -- the node that is told is the owner's at hand
  IsMine : ℕ → Type 0
  IsMine q = (node : Node) × (nodes_of new history q ≡ Some node) × ((header_of node).owner ≡ old.tree.owner)

  fresh_mine : (q : ℕ) → 0 < own_ways new history q → IsSome (fresh_at new.land.blocks.draft q) → IsMine q
  unfolding IsMine
  fresh_mine q way some = from (fresh_at new.land.blocks.draft q) refl some where
    from : (o : Option Node) → fresh_at new.land.blocks.draft q ≡ o → IsSome o
        → (node : Node) × (nodes_of new history q ≡ Some node) × ((header_of node).owner ≡ old.tree.owner)
    from None none some = absurd cc
    from (Some mine) there some = (mine, told_mine q mine there, owned q mine (reached_new q way) there)

  -- one that stays, and was the owner's and not full
  old_mine : (q : ℕ) → 0 < own_ways new history q → 0 < own_ways old history q → foreign_in old history q ≡ None
      → what_in (book_of new.refs.refs q) ≡ what_in (book_of old.refs.refs q)
      → IsMine q
  unfolding IsMine
  old_mine q way was none known = from (fresh_at old.land.blocks.draft q) refl where
    from : (o : Option Node) → fresh_at old.land.blocks.draft q ≡ o
        → (node : Node) × (nodes_of new history q ≡ Some node) × ((header_of node).owner ≡ old.tree.owner)
    from None clean =
        let node = node-there old history old.tree items stands.rooted drafted q
        (reached old history items names stands drafted q was) in
        let own = not_foreign old.tree.owner (nodes_of old history q) node.0 (mark_of old q) node.1
        (sym (foreign-led old history items names stands drafted q was) ∙ none) in (
          node.0,
          as_before q clean (held old history items names stands drafted q was clean) ∙ node.1,
          own.1,
        )
    from (Some mine) there = fresh_mine q way (stays_fresh q mine there known)

  mine_bare : (q : ℕ) → 0 < own_ways new history q → foreign q ≡ None → IsMine q
      → foreign q ≡ foreign_of old.tree.owner (nodes_of new history q) (mark_of new q)
  unfolding IsMine
  mine_bare q way none mine =
      none ∙ sym (foreign_bare (nodes_of new history q) mine.0 old.tree.owner (mark_of new q) mine.1
      (counted.marks q way ∙ ap mark_in none) mine.2)

  -- what is foreign then
  foreign_new : (q : ℕ) → 0 < own_ways new history q
      → foreign q ≡ foreign_of old.tree.owner (nodes_of new history q) (mark_of new q)
  foreign_new q way = elim (counted.stays q way) [
    | inl (young, none, alone) ↦ mine_bare q way none (fresh_mine q way (new_fresh q young))
    | inr (was, same, known) ↦ from was same known (foreign_in old history q) refl
  ] where
    from : 0 < own_ways old history q → foreign q ≡ foreign_in old history q
        → what_in (book_of new.refs.refs q) ≡ what_in (book_of old.refs.refs q)
        → (o : Option Placed) → foreign_in old history q ≡ o
        → foreign q ≡ foreign_of old.tree.owner (nodes_of new history q) (mark_of new q)
    from was same known None none = mine_bare q way (same ∙ none) (old_mine q way was none known)
    from was same known (Some p) is =
        let parts = foreign_is old history items names stands drafted q p is in
        let clean = foreign-clean old history items names stands drafted q p is in
        let here = held old history items names stands drafted q was clean in
        same ∙ is
        ∙ sym (foreign_whole (nodes_of new history q) p old.tree.owner (mark_of new q) (as_before q clean here
        ∙ parts.1)
        (counted.marks q way ∙ ap mark_in (same ∙ is))
        (ap (λ (b : Bool). b || not ((header_of p.node).owner == old.tree.owner)) parts.2 ∙ parts.3))

  -- a foreign node is not fresh
  foreign_unfresh : (q : ℕ) (p : Placed) → foreign q ≡ Some p → fresh_at new.land.blocks.draft q ≡ None
  foreign_unfresh q p is =
      let was = counted.within q p is in
      let parts = foreign_is old history items names stands drafted q p was in
      not_fresh q (held old history items names stands drafted q parts.0
      (foreign-clean old history items names stands drafted q p was))

  -- ---- homes

  first_new : Contains (trees_of new) new.tree
  first_new = contains_here new.tree new.others.items

  later_new : (tree : Root) → Contains old.others.items tree → Contains (trees_of new) tree
  later_new tree has = contains_later new.tree new.others.items tree
      (subst (λ (ts : List Root). Contains ts tree) (sym others_same) has)

  -- a home that another tree was is one still
  home_kept : (q owner : ℕ) → IsAtHome old history q owner → owner ≢ old.tree.owner → IsAtHome new history q owner
  home_kept q owner home differs =
      elim (contains_cases old.tree old.others.items home.tree home.among) [
        | inl same ↦ absurd (differs (sym home.number ∙ ap (λ (t : Root). t.owner) (sym same)))
        | inr later ↦ record {
          tree = home.tree;
          among = later_new home.tree later;
          number = home.number;
          reached = reaches_on home.tree later q home.reached;
        }
      ]

  own_home : (q : ℕ) (node : Node) → 0 < own_ways new history q → nodes_of new history q ≡ Some node
      → mark_of new q ≡ false
      → IsAtHome new history q (header_of node).owner
  own_home q node way is bare = elim (eqb_tells (header_of node).owner old.tree.owner) [
    | inl (equal, mine) ↦ record {
      tree = new.tree;
      among = first_new;
      number = same_owner ∙ sym mine;
      reached = reached_new q way;
    }
    | inr (unequal, differs) ↦
        let there : foreign q ≡ Some (record { node = node; full = false }) = foreign_new q way
        ∙ foreign_else (nodes_of new history q) node old.tree.owner (mark_of new q) is bare differs in
        let was = counted.within q (record { node = node; full = false }) there in
        let parts = foreign_is old history items names stands drafted q (record { node = node; full = false }) was in
        home_kept q (header_of node).owner
        (stands.home old.tree q node (first_tree old history items names stands drafted)
        (reached old history items names stands drafted q parts.0) parts.1 (sym parts.2)) differs
  ]

  -- one that the tree at hand reaches no more
  other_home : (q : ℕ) (node : Node) → IsElsewhere old history q → own_ways new history q ≡ 0
      → nodes_of old history q ≡ Some node → mark_of new q ≡ false
      → IsAtHome new history q (header_of node).owner
  other_home q node there none is bare =
      let beside = beside-there old history items names stands drafted q there in
      let parts = beside_parts old history items names stands drafted q beside.placed beside.is in
      let both : Some node ≡ Some beside.placed.node = sym is ∙ parts.1 in
      let same : node ≡ beside.placed.node = cc in
      let marks = false_parts (mark_of old q) ((header_of beside.placed.node).owner == old.tree.owner)
      (sym parts.2 ∙ sym (counted.left q beside.placed none beside.is) ∙ bare) in
      let differs : (header_of node).owner ≢ old.tree.owner = (λ mine.
      unequal_differ (header_of beside.placed.node).owner old.tree.owner marks.1
      (ap (λ (n : Node). (header_of n).owner) (sym same) ∙ mine)) in
      home_kept q (header_of node).owner
      (stands.home there.tree q node (later_tree old history items names stands drafted there.tree there.among)
      there.reached is marks.0) differs

  home_new : (tree : Root) (q : ℕ) (node : Node) → Contains (trees_of new) tree → IsReachedBy new history tree q
      → nodes_of new history q ≡ Some node → mark_of new q ≡ false
      → IsAtHome new history q (header_of node).owner
  home_new tree q node among reaches is bare = elim (contains_cases new.tree new.others.items tree among) [
    | inl same ↦
        own_home q node (way_new q (subst (λ (t : Root). IsReachedBy new history t q) (sym same) reaches)) is bare
    | inr later ↦
        let there = there_old q (record { tree = tree; among = later; reached = reaches }) in
        from there (own_ways new history q) refl
  ] where
    from : IsElsewhere old history q → (n : ℕ) → own_ways new history q ≡ n
        → IsAtHome new history q (header_of node).owner
    from there zero none = other_home q node there none (sym (told_beside q there) ∙ is) bare
    from there (suc n) some = own_home q node (omega (arith, some)) is bare

  -- ---- fresh nodes

  own_young : (q : ℕ) (node : Node) → IsReached new history q → fresh_at new.land.blocks.draft q ≡ Some node
      → (mark_of new q ≡ false) × ((header_of node).owner ≡ new.tree.owner)
  own_young q node reaches fresh =
      let way = way_new q reaches in (
        counted.marks q way ∙ ap mark_in (from (foreign q) refl),
        owned q node reaches fresh ∙ sym same_owner,
      ) where
        from : (o : Option Placed) → foreign q ≡ o → foreign q ≡ None
        from None none = none
        from (Some p) is = let wrong : None ≡ Some node = sym (foreign_unfresh q p is) ∙ fresh in absurd cc

  -- what another tree reaches, and is fresh, was fresh, and the tree at hand does not reach it
  other_young : (tree : Root) (q : ℕ) (node : Node) → Contains old.others.items tree
      → IsReachedBy old history tree q
      → fresh_at new.land.blocks.draft q ≡ Some node
      → (mark_of new q ≡ false) × ((header_of node).owner ≡ tree.owner)
  other_young tree q node among reaches fresh = from (fresh_at old.land.blocks.draft q) refl where
    there : IsElsewhere old history q
    there = record { tree = tree; among = among; reached = reaches }

    not_held : Contains old.land.space.held_slots q → ⊥
    not_held here = let wrong : None ≡ Some node = sym (not_fresh q here) ∙ fresh in cc

    taken_old : has_slot old.land.space q ≡ true
    taken_old = taken-beside old history items names stands drafted table q there

    held_old : fresh_at old.land.blocks.draft q ≡ None → Contains old.land.space.held_slots q
    held_old none = elim (stands.settled.written q taken_old) [
      | inl some ↦ absurd (no_some (fresh_at old.land.blocks.draft q) none some)
      | inr here ↦ here
    ]

    -- no way leads there
    way_less : own_ways new history q ≡ 0
    way_less = none_way (own_ways new history q) refl where
      none_way : (n : ℕ) → own_ways new history q ≡ n → own_ways new history q ≡ 0
      none_way zero none = none
      none_way (suc n) some = elim (replaced.reach q (reached_new q (omega (arith, some)))) [
        | inl own ↦
            absurd (not_held (both_held q
            (ways-some (nodes_of old history) old.tree.height old.tree.address q own) there))
        | inr free ↦ absurd (free-apart old history items names stands drafted table q free there)
      ]

    from : (o : Option Node) → fresh_at old.land.blocks.draft q ≡ o
        → (mark_of new q ≡ false) × ((header_of node).owner ≡ tree.owner)
    from None none = absurd (not_held (held_old none))
    from (Some mine) was =
        let told_is : Some mine ≡ Some node = sym (told_old q mine was) ∙ sym (told_beside q there)
        ∙ told_mine q node fresh in
        let same : mine ≡ node = cc in
        let young = stands.young tree q mine (later_tree old history items names stands drafted tree among) reaches
        was in
        let beside = beside-there old history items names stands drafted q there in
        let parts = beside_parts old history items names stands drafted q beside.placed beside.is in
        let both : Some mine ≡ Some beside.placed.node = sym (told_old q mine was) ∙ parts.1 in
        let placed_is : mine ≡ beside.placed.node = cc in
        let other = other_stands old history items names stands drafted tree among in
        let unequal : ((header_of beside.placed.node).owner == old.tree.owner) ≡ false =
        elim (eqb_tells (header_of beside.placed.node).owner old.tree.owner) [
          | inl (equal, own) ↦
              absurd (other.number (sym young.1 ∙ ap (λ (n : Node). (header_of n).owner) placed_is ∙ own))
          | inr (differs, differ) ↦ differs
        ] in (
          counted.left q beside.placed way_less beside.is
              ∙ parts.2
              ∙ ap (λ (b : Bool). b || ((header_of beside.placed.node).owner == old.tree.owner)) young.0
              ∙ unequal,
          ap (λ (n : Node). (header_of n).owner) (sym same) ∙ young.1,
        )

  young_new : (tree : Root) (q : ℕ) (node : Node) → Contains (trees_of new) tree → IsReachedBy new history tree q
      → fresh_at new.land.blocks.draft q ≡ Some node
      → (mark_of new q ≡ false) × ((header_of node).owner ≡ tree.owner)
  young_new tree q node among reaches fresh = elim (contains_cases new.tree new.others.items tree among) [
    | inl same ↦
        let own = own_young q node (subst (λ (t : Root). IsReachedBy new history t q) (sym same) reaches) fresh in
        (own.0, own.1 ∙ ap (λ (t : Root). t.owner) same)
    | inr later ↦
        let was = subst (λ (ts : List Root). Contains ts tree) others_same later in
        other_young tree q node was (reaches_back tree was q reaches) fresh
  ]

  placed_new : (tree : Root) (q : ℕ) → Contains (trees_of new) tree → IsReachedBy new history tree q
      → IsTrue (is_slot new.land.space.sizes q)
  placed_new tree q among reaches = elim (contains_cases new.tree new.others.items tree among) [
    | inl same ↦ own_placed q (subst (λ (t : Root). IsReachedBy new history t q) (sym same) reaches)
    | inr later ↦
        let was = subst (λ (ts : List Root). Contains ts tree) others_same later in
        subst (λ (s : Sizes). IsTrue (is_slot s q)) (sym rests.sizes)
        (stands.placed tree q (later_tree old history items names stands drafted tree was)
        (reaches_back tree was q reaches))
  ]

  -- ---- counts

  elsewhere_old : (q : ℕ) → elsewhere new history q ≡ true → IsElsewhere old history q
  elsewhere_old q is =
      let found = one_passes (λ (tree : Root). nat_lt 0 (ways_in new history tree q)) new.others.items is in
      there_old q (record {
        tree = found.0;
        among = found.1;
        reached = reached-some (nodes_of new history) found.0.height found.0.address q
            (ltb-true 0 (ways_in new history found.0 q) found.2);
      })

  elsewhere_new : (q : ℕ) → IsElsewhere old history q → elsewhere new history q ≡ true
  elsewhere_new q was =
      let there = there_new q was in
      passes_one (λ (tree : Root). nat_lt 0 (ways_in new history tree q)) new.others.items there.tree there.among
      (lt-ltb 0 (ways_in new history there.tree q)
      (ways-some (nodes_of new history) there.tree.height there.tree.address q there.reached))

  there_owed : (at : ℕ) (reference : Reference) (q : ℕ) → own_ways new history q ≡ 0
      → times (owed_in (beside_in old history q)) at reference ≡ owed_there new history at reference q
  there_owed at reference q none = from (elsewhere new history q) refl where
    nothing : elsewhere new history q ≡ false → (o : Option Placed) → beside_in old history q ≡ o
        → times (owed_in o) at reference ≡ 0
    nothing unled None is = times-nil at reference
    nothing unled (Some p) is =
        let led = elsewhere_new q (beside_parts old history items names stands drafted q p is).0 in
        let wrong : true ≡ false = sym led ∙ unled in
        absurd cc

    from : (b : Bool) → elsewhere new history q ≡ b
        → times (owed_in (beside_in old history q)) at reference
        ≡ (if b then times (owed_marked (nodes_of new history q) (mark_of new q)) at reference else 0)
    from false unled = nothing unled (beside_in old history q) refl
    from true led =
        let there = elsewhere_old q led in
        let beside = beside-there old history items names stands drafted q there in
        let parts = beside_parts old history items names stands drafted q beside.placed beside.is in
        ap (λ (o : Option Placed). times (owed_in o) at reference) beside.is
        ∙ sym (ap (λ (o : Option Node). times (owed_marked o (mark_of new q)) at reference)
        (told_beside q there ∙ parts.1)
        ∙ ap (λ (b : Bool). times (owed_marked (Some beside.placed.node) b) at reference)
        (counted.left q beside.placed none beside.is))

  numbers_new : (i : ℕ) (d : Root) → i < length new.others.items
      → (get_or new.others.items i d).owner ≢ new.tree.owner
  numbers_new i d inside =
      subst (λ (ts : List Root). i < length ts → (get_or ts i d).owner ≢ new.tree.owner) (sym others_same)
      (λ within same. (stands.beside i d within).number (same ∙ same_owner)) inside

  counts_new : (at : ℕ) (reference : Reference)
      → count_at (book_of new.refs.refs) at reference + names_times new.tree.owner (filter_map name_told left_items) at
      reference
      ≡ owed_count (layout_in new history) at reference + names_times new.tree.owner names at reference
  counts_new at reference =
      let count = subst (λ (owner : ℕ). count_at (book_of new.refs.refs) at reference
      + over (slots_of old) (own_ways new history) (λ (s : ℕ). times (keyed_in owner (foreign s)) at reference)
      ≡ keyed_ways owner (own_ways new history) at reference + times (names_of owner names) at reference
      + over (slots_of old) (own_ways new history) (λ (s : ℕ). times (owed_in (foreign s)) at reference)
      + (times (roots_owed old.others.items) at reference
      + over (slots_of old) (no_way (own_ways new history))
      (λ (s : ℕ). times (owed_in (beside_in old history s)) at reference)))
      (sym same_owner) (counted.counts at reference) in
      let owed = owed-ways new history left_items replaced.rooted drafted_new numbers_new own_placed foreign
      (beside_in old history) at reference
      (λ q way. subst (λ (owner : ℕ). foreign q ≡ foreign_of owner (nodes_of new history q) (mark_of new q))
      (sym same_owner) (foreign_new q way))
      (there_owed at reference) in
      let roots = ap (λ (ts : List Root). times (roots_owed ts) at reference) others_same in
      let keyed = ap (λ (s : Sizes). over (every_slot s) (own_ways new history)
      (λ (q : ℕ). times (keyed_in new.tree.owner (foreign q)) at reference)) rests.sizes in
      let shared = ap (λ (s : Sizes). over (every_slot s) (own_ways new history)
      (λ (q : ℕ). times (owed_in (foreign q)) at reference)) rests.sizes in
      let beside = ap (λ (s : Sizes). over (every_slot s) (no_way (own_ways new history))
      (λ (q : ℕ). times (owed_in (beside_in old history q)) at reference)) rests.sizes in
      omega (arith, count, owed, roots, keyed, shared, beside)

  -- ---- names

  elsewhere_names : names_elsewhere new history ≡ names_elsewhere old history
  unfolding names_elsewhere
  elsewhere_names =
      ap (λ (ts : List Root). flat_map (λ (tree : Root). filter_map name_told (items_in new history tree)) ts)
      others_same
      ∙ flat-same (λ (tree : Root). filter_map name_told (items_in new history tree))
      (λ (tree : Root). filter_map name_told (items_in old history tree)) old.others.items
      (λ tree among. ap (λ (xs : List Item). filter_map name_told xs) (items_same tree among))

  known_one : (name : ℕ × Piece) → Contains (names ++ names_elsewhere old history) name
      → IsKnownExtent new.land.space.sizes new.tree.next (book_of new.refs.refs) name.1
  known_one name has =
      let known = known_of old history items names stands drafted name has in
      record {
        lies = subst (λ (sizes : Sizes). IsTrue (is_run sizes name.1.extent name.1.extent_bytes)) (sym rests.sizes)
            known.lies;
        generation = known.generation;
        known = counted.lasts name.1.extent (elim (Contains-append_cases names (names_elsewhere old history) name has) [
          | inl own ↦
              let some = names_there old.tree.owner names name own in
              let most = times-many (names_of old.tree.owner names) name.1.extent
              (name_of old.tree.owner name).reference in
              inl (omega (arith, some, most))
          | inr later ↦ inr (inr (piece-owed old history items names stands drafted name later))
        ]) ∙ known.known;
        dated = subst (λ (n : ℕ). known.generation ≤ n) (sym same_next) known.dated;
      }

  known_new : All (λ name. IsKnownExtent new.land.space.sizes new.tree.next (book_of new.refs.refs) name.1)
      (names ++ names_elsewhere new history)
  known_new = subst (λ (others : List (ℕ × Piece)). All
      (λ (name : ℕ × Piece). IsKnownExtent new.land.space.sizes new.tree.next (book_of new.refs.refs) name.1)
      (names ++ others)) (sym elsewhere_names)
      (λ i d inside. known_one (get_or (names ++ names_elsewhere old history) i d)
      (index_among (names ++ names_elsewhere old history) i d inside))

  -- ---- marks

  and_true : (b : Bool) → (b && true) ≡ b
  and_true true = refl
  and_true false = refl

  none_false : (b : Bool) → (b && false) ≡ false
  none_false true = refl
  none_false false = refl

  or_false : (b : Bool) → (b || false) ≡ b
  or_false true = refl
  or_false false = refl

  -- a node that the last commit holds, where the tree at hand reaches it still
  mark_own : (q : ℕ) (node : Node) → 0 < own_ways new history q → Contains old.land.space.held_slots q
      → nodes_of old history q ≡ Some node
      → mark_of new q ≡ mark_of old q
  mark_own q node way here is = elim (counted.stays q way) [
    | inl (young, none, alone) ↦
        absurd (no_some (fresh_at new.land.blocks.draft q) (not_fresh q here) (new_fresh q young))
    | inr (was, same, known) ↦
        counted.marks q way
        ∙ ap mark_in (same ∙ foreign-led old history items names stands drafted q was)
        ∙ foreign-full (nodes_of old history q) old.tree.owner (mark_of old q) node is
  ]

  -- and where another one does
  mark_other : (q : ℕ) (node : Node) → own_ways new history q ≡ 0 → IsElsewhere old history q
      → nodes_of old history q ≡ Some node
      → mark_of new q ≡ (mark_of old q || ((header_of node).owner == old.tree.owner))
  mark_other q node none there is =
      let beside = beside-there old history items names stands drafted q there in
      let parts = beside_parts old history items names stands drafted q beside.placed beside.is in
      let both : Some beside.placed.node ≡ Some node = sym parts.1 ∙ is in
      let same : beside.placed.node ≡ node = cc in
      counted.left q beside.placed none beside.is
      ∙ parts.2
      ∙ ap (λ (n : Node). mark_of old q || ((header_of n).owner == old.tree.owner)) same

  pub marks-kept : (tree : Root) (q : ℕ) (node : Node) → Contains (trees_of old) tree → IsReachedBy old history tree q
      → IsReached new history q ⊎ IsElsewhere new history q → Contains new.land.space.held_slots q
      → nodes_of old history q ≡ Some node
      → mark_of new q ≡ is_full_then old new history q node
  marks-kept tree q node among reaches there has is = from (own_ways new history q) refl there where
    from : (n : ℕ) → own_ways new history q ≡ n → IsReached new history q ⊎ IsElsewhere new history q
        → mark_of new q
        ≡ (mark_of old q || (((header_of node).owner == old.tree.owner) && not (nat_lt 0 (own_ways new history q))))
    from zero none (inl own) = let some = way_new q own in absurd (omega (arith, some, none))
    from zero none (inr other) =
        mark_other q node none (there_old q other) is
        ∙ sym (ap (λ (n : ℕ). mark_of old q || (((header_of node).owner == old.tree.owner) && not (nat_lt 0 n))) none
        ∙ ap (λ (b : Bool). mark_of old q || b) (and_true ((header_of node).owner == old.tree.owner)))
    from (suc n) some either =
        let way : 0 < own_ways new history q = omega (arith, some) in
        mark_own q node way (subst (λ (slots : List ℕ). Contains slots q) rests.held_slots has) is
        ∙ sym (ap (λ (b : Bool). mark_of old q || (((header_of node).owner == old.tree.owner) && not b))
        (lt-ltb 0 (own_ways new history q) way)
        ∙ ap (λ (b : Bool). mark_of old q || b) (none_false ((header_of node).owner == old.tree.owner))
        ∙ or_false (mark_of old q))

  -- what another tree reaches is told as it was, and is not free
  pub beside-kept : (q : ℕ) → IsElsewhere old history q
      → (nodes_of new history q ≡ nodes_of old history q) × (IsTrue (is_free_slot new.land.space q) → ⊥)
  beside-kept q there = (
    told_beside q there,
    λ free. free_new there.tree there.among q free (reaches_on there.tree there.among q there.reached),
  )

  pub Stands-after : new.land.space.runs ≡ old.land.space.runs
      → ((at : ℕ) (reference : Reference) → names_times old.tree.owner (filter_map name_told left_items) at reference
      ≤ names_times old.tree.owner names at reference)
      → Stands new history left_items names
  Stands-after runs within = record {
    book = record {
      owner = book.tree ∙ stands.book.owner ∙ sym same_owner;
      next = book.next ∙ stands.book.next ∙ sym same_next;
      nodesize = book.nodesize ∙ stands.book.nodesize ∙ ap (λ (sizes : Sizes). sizes.nodesize) (sym rests.sizes);
    };
    rooted = replaced.rooted;
    ascending = subst (λ (ts : List Root). IsStrictlyIncreasing (map (λ (other : Root). other.owner) ts))
        (sym others_same) stands.ascending;
    beside = subst (λ (ts : List Root). All (IsBeside new history) ts) (sym others_same)
        (λ i d inside. beside_new (get_or old.others.items i d) (index_among old.others.items i d inside));
    placed = placed_new;
    home = home_new;
    young = young_new;
    fits = counted.fits;
    counts = counts_new;
    within = subst (λ (owner : ℕ). (at : ℕ) (reference : Reference)
        → names_times owner (filter_map name_told left_items) at reference ≤ names_times owner names at reference)
        (sym same_owner) within;
    few = subst (λ (owner : ℕ). (at : ℕ) (reference : Reference) → names_times owner names at reference ≤ 4294967295)
        (sym same_owner) stands.few;
    settled = settled;
    known = known_new;
    runs = λ run. subst (λ (list : List Element). Contains list run ↔ Contains (extents_named new history names) run)
        (sym runs)
        (subst (λ (others : List (ℕ × Piece)). Contains old.land.space.runs run
        ↔ Contains (map (λ (name : ℕ × Piece). extent_of name.1) (names ++ others)) run) (sym elsewhere_names)
        (stands.runs run));
  }
