-- Edits of a tree between two commits copy on write.
use Rattle.std.proofs.Common.{◌≡◌, ◌≢◌, ℕ, Bool, true, false, List, [], ◌∷◌, Some, refl, sym, ap, subst, ◌∙◌}
use Rattle.std.proofs.Common.{inl, inr}
use Rattle.std.specs.Prelude.{◌⊎◌, ◌&&◌, ◌||◌, ◌==◌, IsTrue, is_some, nat_lt, not}
use Rattle.std.specs.List.{Contains, filter, list_all, list_any}
use Rattle.std.proofs.lemmas.Bool.{and_from, eq-eqb, eqb-false as number_not, eqb-true as number_is, lt-ltb, ltb-true}
use Rattle.std.proofs.lemmas.Bool.{not_from_false, or_cases}
use Rattle.qg_device.specs.History.{History}
use Rattle.qg_num.specs.declared.piece.Piece.{Piece}
use Rattle.qg_node.specs.declared.item.Item.{Item}
use Rattle.qg_node.specs.declared.node.Node.{Node}
use Rattle.qg_node.specs.Nodes.{header_of}
use Rattle.qg_super.specs.declared.sizes.Sizes.{Sizes}
use Rattle.qg_super.specs.Places.{is_slot}
use Rattle.qg_image.specs.Table.{has_key, keys_of}
use Rattle.qg_machine.specs.Layout.{KeepsNode, StaysAs, has_same_maker, is_fixed, is_made_node, made_nodes}
use Rattle.qg_image.specs.Reach.{owners, reaches}
use Rattle.qg_image.specs.Space.{is_free_slot}
use Rattle.qg_image.specs.State.{Layout, Placed, State, layout_of, next_generation}
use Rattle.qg_image.proofs.Contained.{contains_cases, contains_here, contains_later}
use Rattle.qg_space.specs.Holding as holding
use Rattle.qg_space.proofs.Free.{free_is_slot}
use Rattle.qg_space.proofs.Members.{filter_contains, one_passes}
use Rattle.qg_shared_trees.specs.Tree.{Root}
use Rattle.qg_fs_tree.specs.declared.fs_tree.FsTree.{FsTree}
use Rattle.qg_fs_tree.specs.Standing.{IsAtHome, IsElsewhere, IsReached, IsReachedBy, IsSubvolume, Stands, nodes_of}
use Rattle.qg_fs_tree.specs.Standing.{ways_in}
use Rattle.qg_fs_tree.proofs.Lists.{all-contained}
use Rattle.qg_fs_tree.proofs.Own.{elsewhere-moved}
use Rattle.qg_shared_trees.specs.Laying.{CopiesNodes, HoldsSlots, IsLaidOut, IsMet, IsMetAs, IsMoved}
use Rattle.qg_shared_trees.proofs.FreshOrHeld.{IsHeldThere, IsOwn, either-there}
use Rattle.qg_shared_trees.proofs.Moved.{free-apart, none_true, other-on}
use Rattle.qg_shared_trees.proofs.Nodes.{tree-way, value-reached, way-tree}
use Rattle.qg_shared_trees.proofs.Roots.{tree-at_hand}
use Rattle.qg_shared_trees.proofs.Trees.{entry-there, met-slot, nodes-laid, numbers-apart, sized}
use Rattle.qg_shared_trees.proofs.SoundState.{entry-laid, owner-reaches, owner-tree, value-laid}

-- ---- lists and tests

all_true : {A : Type 0} (test : A → Bool) (xs : List A) → ((x : A) → Contains xs x → test x ≡ true)
    → list_all test xs ≡ true
all_true test [] each = refl
all_true test (x ∷ xs) each =
    and_from (test x) (list_all test xs) (each x (contains_here x xs))
    (all_true test xs (λ y has. each y (contains_later x xs y has)))

not_true : (b : Bool) → not b ≡ true → b ≡ false
not_true true is = absurd cc
not_true false is = refl

owners_are : (layout : Layout) (q : ℕ) → owners layout q ≡ filter (λ sub. reaches layout sub q) (keys_of layout.roots)
unfolding owners
owners_are layout q = refl

same_maker : (a b : Node) → (header_of a).owner ≡ (header_of b).owner
    → (header_of a).generation ≡ (header_of b).generation → has_same_maker a b ≡ true
same_maker a b owner generation =
    and_from ((header_of a).owner == (header_of b).owner) ((header_of a).generation == (header_of b).generation)
    (eq-eqb (header_of a).owner (header_of b).owner owner)
    (eq-eqb (header_of a).generation (header_of b).generation generation)

-- two tests are the same where each passes with the other
both_same : (a b : Bool) → (a ≡ true → b ≡ true) → (b ≡ true → a ≡ true) → a ≡ b
both_same true true on back = refl
both_same true false on back = sym (on refl)
both_same false true on back = back refl
both_same false false on back = refl

-- a node gets full exactly where its owner reaches it no more
full_as : (full own way by : Bool) → (full ≡ false → own ≡ true → by ≡ way) → (full ≡ false → own ≡ false → by ≡ true)
    → (full || (own && not way)) ≡ (full || not by)
full_as true own way by mine others = refl
full_as false true way by mine others = ap not (sym (mine refl refl))
full_as false false way by mine others = sym (ap not (others refl refl))

-- and one that is not full, nor was, its owner reaches
bare_as : (full was by : Bool) → full ≡ false → was ≡ false → by ≡ true → full ≡ (was || not by)
bare_as full was by now before still =
    now ∙ sym (ap not still) ∙ ap (λ (b : Bool). b || not by) (sym before)

-- ---- which tree reaches

module _ (fs : FsTree) (history : History) (bytes : ℕ) (items : List Item) (names : List (ℕ × Piece))
    (subvolume : IsSubvolume fs history bytes) (stands : Stands fs history items names) where
  -- the one at hand, or another
  pub met-either : (q : ℕ) → IsMet fs history q → IsReached fs history q ⊎ IsElsewhere fs history q
  met-either q met = elim (contains_cases fs.tree fs.others.items met.tree met.among) [
    | inl same ↦ inl (subst (λ (t : Root). IsReachedBy fs history t q) (sym same) met.reached)
    | inr later ↦ inr (record { tree = met.tree; among = later; reached = met.reached })
  ]

  pub at_hand-met : (q : ℕ) → IsReached fs history q → IsMet fs history q
  at_hand-met q reached =
      record { tree = fs.tree; among = contains_here fs.tree fs.others.items; reached = reached }

  pub elsewhere-met : (q : ℕ) → IsElsewhere fs history q → IsMet fs history q
  elsewhere-met q there = record {
    tree = there.tree;
    among = contains_later fs.tree fs.others.items there.tree there.among;
    reached = there.reached;
  }

  -- a tree of another number is another one
  pub home-elsewhere : (q number : ℕ) → IsAtHome fs history q number → number ≢ fs.tree.owner
      → IsElsewhere fs history q
  home-elsewhere q number home other = elim (contains_cases fs.tree fs.others.items home.tree home.among) [
    | inl same ↦ absurd (other (sym home.number ∙ ap (λ (t : Root). t.owner) (sym same)))
    | inr later ↦ record { tree = home.tree; among = later; reached = home.reached }
  ]

  -- and one of the number at hand is the one at hand
  pub home-at_hand : (q number : ℕ) → IsAtHome fs history q number → number ≡ fs.tree.owner → IsReached fs history q
  home-at_hand q number home same =
      let tree = tree-at_hand fs stands.ascending (numbers-apart fs history bytes items names subvolume stands)
      home.tree home.among (home.number ∙ same) in
      subst (λ (t : Root). IsReachedBy fs history t q) tree home.reached

  pub other-number : (there : Root) → Contains fs.others.items there → there.owner ≢ fs.tree.owner
  other-number there has = numbers-apart fs history bytes items names subvolume stands there has

module _ (old new : FsTree) (history : History) (bytes left : ℕ) (items items_new : List Item)
    (names names_new : List (ℕ × Piece)) (before after : State)
    (subvolume : IsSubvolume old history bytes) (stands : Stands old history items names)
    (subvolume_new : IsSubvolume new history left) (stands_new : Stands new history items_new names_new)
    (moved : IsMoved old new history)
    (laid : IsLaidOut before old history) (laid_new : IsLaidOut after new history)
    (holds : HoldsSlots before old.land.space.held_slots) where
  -- ---- nodes that stay

  abbrev slot_there : (q : ℕ) → IsMet old history q → IsTrue (is_slot old.land.space.sizes q)
  slot_there = met-slot old history bytes items names subvolume stands

  abbrev slot_new : (q : ℕ) → IsMet new history q → IsTrue (is_slot new.land.space.sizes q)
  slot_new = met-slot new history left items_new names_new subvolume_new stands_new

  -- what is fixed another tree reaches, or the last commit holds
  fixed_there : (q : ℕ) → IsTrue (is_slot old.land.space.sizes q) → is_fixed before old.tree.owner q ≡ true
      → IsElsewhere old history q ⊎ Contains old.land.space.held_slots q
  fixed_there q slot fixed =
      elim (or_cases (list_any (λ other. not (other == old.tree.owner)) (owners (layout_of before) q))
      (list_any (λ node. node == q) before.held.nodes) fixed) [
        | inl others ↦
            let found = one_passes (λ (other : ℕ). not (other == old.tree.owner)) (owners (layout_of before) q) others
            in
            let listed = subst (λ (subs : List ℕ). Contains subs found.0) (owners_are (layout_of before) q) found.1 in
            let has = filter_contains (λ (sub : ℕ). reaches (layout_of before) sub q) (keys_of (layout_of before).roots)
            found.0 listed in
            let home = owner-tree old history bytes items names subvolume stands before laid found.0 q has.1 slot in
            let other = number_not found.0 old.tree.owner (not_true (found.0 == old.tree.owner) found.2) in
            inl (home-elsewhere old history bytes items names subvolume stands q found.0 home other)
        | inr held ↦
            let found = one_passes (λ (node : ℕ). node == q) before.held.nodes held in
            let same = number_is found.0 q found.2 in
            inr ((holds q).1 (subst (λ (n : ℕ). Contains before.held.nodes n) same found.1))
      ]

  -- what another tree reaches stays, and that tree reaches it
  kept_node : (q : ℕ) (was placed : Placed) → IsMetAs old history q was → IsMetAs new history q placed
      → nodes_of new history q ≡ nodes_of old history q → placed.node ≡ was.node
  kept_node q was placed as_old as_new told_same =
      let told_so = sym as_new.told ∙ told_same ∙ as_old.told in
      let e : Some placed.node ≡ Some was.node = told_so in cc

  others_reach : (q : ℕ) (there : IsElsewhere old history q)
      → reaches (layout_of after) there.tree.owner q ≡ true
  others_reach q there =
      let on = other-on old new history moved there.tree there.among q there.reached in
      owner-reaches new history left items_new names_new subvolume_new stands_new after laid_new there.tree
      (contains_later new.tree new.others.items there.tree on.0) q on.1

  own_reaches : (q : ℕ) → IsReached new history q → reaches (layout_of after) old.tree.owner q ≡ true
  own_reaches q reached =
      subst (λ (sub : ℕ). reaches (layout_of after) sub q ≡ true) moved.owner
      (owner-reaches new history left items_new names_new subvolume_new stands_new after laid_new new.tree
      (contains_here new.tree new.others.items) q reached)

  -- a fresh node that another tree reaches
  other_stays : (q : ℕ) (was placed : Placed) → IsMetAs old history q was → IsMetAs new history q placed
      → IsOwn old history q was → IsOwn new history q placed → IsElsewhere old history q
      → StaysAs before after old.tree.owner (q, was) placed
  other_stays q was placed as_old as_new own own_new there =
      let same = kept_node q was placed as_old as_new (moved.moves.beside q there).0 in
      let owner = own.owner there.tree (contains_later old.tree old.others.items there.tree there.among) there.reached
      in
      record {
        full = bare_as placed.full was.full (reaches (layout_of after) (header_of was.node).owner q) own_new.bare
            own.bare
            (subst (λ (sub : ℕ). reaches (layout_of after) sub q ≡ true) (sym owner) (others_reach q there));
        maker = same_maker placed.node was.node (ap (λ (n : Node). (header_of n).owner) same)
            (ap (λ (n : Node). (header_of n).generation) same);
        fixed = λ fixed. same;
      }

  -- a fresh node of the tree at hand
  own_stays : (q : ℕ) (was placed : Placed) → IsMetAs old history q was → IsMetAs new history q placed
      → IsOwn old history q was → IsOwn new history q placed → IsReached old history q
      → StaysAs before after old.tree.owner (q, was) placed
  own_stays q was placed as_old as_new own own_new reached =
      let mine : (header_of was.node).owner ≡ old.tree.owner =
      own.owner old.tree (contains_here old.tree old.others.items) reached in
      let reached_new = at_hand_still in
      let mine_new : (header_of placed.node).owner ≡ new.tree.owner =
      own_new.owner new.tree (contains_here new.tree new.others.items) reached_new in
      record {
        full = bare_as placed.full was.full (reaches (layout_of after) (header_of was.node).owner q) own_new.bare
            own.bare
            (subst (λ (sub : ℕ). reaches (layout_of after) sub q ≡ true) (sym mine) (own_reaches q reached_new));
        maker = same_maker placed.node was.node (mine_new ∙ moved.owner ∙ sym mine)
            (own_new.generation ∙ moved.next ∙ sym own.generation);
        fixed = λ fixed. elim (fixed_there q (slot_there q as_old.met) fixed) [
          | inl there ↦ absurd (alone there)
          | inr held ↦ absurd (own.apart held)
        ];
      } where
        -- no other tree reaches it
        alone : IsElsewhere old history q → ⊥
        alone there =
            let mine = own.owner old.tree (contains_here old.tree old.others.items) reached in
            let other = own.owner there.tree (contains_later old.tree old.others.items there.tree there.among)
            there.reached in
            other-number old history bytes items names subvolume stands there.tree there.among (sym other ∙ mine)

        at_hand_still : IsReached new history q
        at_hand_still =
            elim (met-either new history left items_new names_new subvolume_new stands_new q as_new.met) [
              | inl here ↦ here
              | inr there ↦ absurd (alone (elsewhere-moved old new history moved.moves q there))
            ]

  -- a node that stays and that the last commit holds
  held_stays : (q : ℕ) (was placed : Placed) → IsMetAs old history q was → IsMetAs new history q placed
      → Contains old.land.space.held_slots q → StaysAs before after old.tree.owner (q, was) placed
  held_stays q was placed as_old as_new held =
      let same = kept_node q was placed as_old as_new (moved.kept q held) in
      let now = subst (λ (slots : List ℕ). Contains slots q) (sym moved.held_slots) held in
      let mark = moved.moves.marks as_old.met.tree q was.node as_old.met.among as_old.met.reached
      (met-either new history left items_new names_new subvolume_new stands_new q as_new.met) now as_old.told in
      let own = (header_of was.node).owner == old.tree.owner in
      let way = nat_lt 0 (ways_in new history new.tree q) in
      let by = reaches (layout_of after) (header_of was.node).owner q in
      record {
        full = as_new.full ∙ mark
            ∙ ap (λ (full : Bool). full || (own && not way)) (sym as_old.full)
            ∙ full_as was.full own way by (λ bare is. by_mine is) (λ bare differ. by_other bare differ);
        maker = same_maker placed.node was.node (ap (λ (n : Node). (header_of n).owner) same)
            (ap (λ (n : Node). (header_of n).generation) same);
        fixed = λ fixed. same;
      } where
        -- its owner reaches it, where that is the subvolume at hand, exactly where the tree at hand does
        by_mine : ((header_of was.node).owner == old.tree.owner) ≡ true
            → reaches (layout_of after) (header_of was.node).owner q ≡ nat_lt 0 (ways_in new history new.tree q)
        by_mine is =
            let mine = number_is (header_of was.node).owner old.tree.owner is in
            both_same (reaches (layout_of after) (header_of was.node).owner q)
            (nat_lt 0 (ways_in new history new.tree q))
            (λ by.
            let home = owner-tree new history left items_new names_new subvolume_new stands_new after laid_new
            (header_of was.node).owner q by (slot_new q as_new.met) in
            let reached = home-at_hand new history left items_new names_new subvolume_new stands_new q
            (header_of was.node).owner home (mine ∙ sym moved.owner) in
            lt-ltb 0 (ways_in new history new.tree q) (tree-way new history new.tree q reached))
            (λ way.
            let reached = way-tree new history new.tree q (ltb-true 0 (ways_in new history new.tree q) way) in
            subst (λ (sub : ℕ). reaches (layout_of after) sub q ≡ true) (sym mine) (own_reaches q reached))

        -- another owner reaches it still
        by_other : was.full ≡ false → ((header_of was.node).owner == old.tree.owner) ≡ false
            → reaches (layout_of after) (header_of was.node).owner q ≡ true
        by_other bare differ =
            let home = stands.home as_old.met.tree q was.node as_old.met.among as_old.met.reached as_old.told
            (sym as_old.full ∙ bare) in
            at_home home
          where
            at_home : IsAtHome old history q (header_of was.node).owner
                → reaches (layout_of after) (header_of was.node).owner q ≡ true
            at_home home = elim (contains_cases old.tree old.others.items home.tree home.among) [
              | inl same ↦
                  absurd (number_not (header_of was.node).owner old.tree.owner differ
                  (sym home.number ∙ ap (λ (t : Root). t.owner) (sym same)))
              | inr later ↦
                  subst (λ (sub : ℕ). reaches (layout_of after) sub q ≡ true) home.number
                  (others_reach q (record { tree = home.tree; among = later; reached = home.reached }))
            ]

  new_there : (q : ℕ) (placed : Placed) → IsMetAs new history q placed
      → IsOwn new history q placed ⊎ IsHeldThere new q
  new_there q placed as_new = either-there new history left items_new names_new subvolume_new stands_new q placed as_new

  stays : (q : ℕ) (was placed : Placed) → IsMetAs old history q was → IsMetAs new history q placed
      → StaysAs before after old.tree.owner (q, was) placed
  stays q was placed as_old as_new =
      elim (either-there old history bytes items names subvolume stands q was as_old) [
        | inl own ↦ elim (new_there q placed as_new) [
          | inl own_new ↦ elim (met-either old history bytes items names subvolume stands q as_old.met) [
            | inl reached ↦ own_stays q was placed as_old as_new own own_new reached
            | inr there ↦ other_stays q was placed as_old as_new own own_new there
          ]
          | inr held_new ↦
              absurd (own.apart (subst (λ (slots : List ℕ). Contains slots q) moved.held_slots held_new.held))
        ]
        | inr held ↦ held_stays q was placed as_old as_new held.held
      ]

  keeps : (entry : ℕ × Placed) → Contains before.layout entry → KeepsNode before after old.tree.owner entry
  keeps entry has placed there =
      stays entry.0 entry.1 placed
      (entry-laid old history bytes items names subvolume stands before laid entry has)
      (value-laid new history left items_new names_new subvolume_new stands_new after laid_new entry.0 placed there)

  -- ---- nodes that are made

  -- what the layout has not is not met
  not_met : (q : ℕ) → has_key q before.layout ≡ false → IsMet old history q → ⊥
  not_met q none met =
      let entry = entry-there old history bytes items names subvolume stands q met in
      let value = value-reached old history (sized old history bytes items names subvolume stands) slot_there q
      entry.0 entry.1 in
      let there : has_key q before.layout ≡ true =
      ap (λ (table : List (ℕ × Placed)). has_key q table)
      (nodes-laid old history bytes items names subvolume stands before laid) ∙ ap is_some value in
      let no : true ≡ false = sym there ∙ none in
      absurd cc

  free_there : (q : ℕ) → holding.is_free_slot old.land.space q ≡ true → has_key q before.layout ≡ false
      → is_free_slot before q ≡ true
  unfolding is_free_slot
  free_there q free none =
      let slot = ap (λ (sizes : Sizes). is_slot sizes q) laid.sizes ∙ free_is_slot old.land.space q free in
      let apart = none_true (list_any (λ (node : ℕ). node == q) before.held.nodes) (λ passes.
      let found = one_passes (λ (node : ℕ). node == q) before.held.nodes passes in
      let same = number_is found.0 q found.2 in
      free-apart old.land.space q free ((holds q).1
      (subst (λ (n : ℕ). Contains before.held.nodes n) same found.1))) in
      and_from (is_slot before.sizes q && not (has_key q before.layout))
      (not (list_any (λ node. node == q) before.held.nodes))
      (and_from (is_slot before.sizes q) (not (has_key q before.layout)) slot
      (not_from_false (has_key q before.layout) none))
      (not_from_false (list_any (λ node. node == q) before.held.nodes) apart)

  made_own : (entry : ℕ × Placed) → holding.is_free_slot old.land.space entry.0 ≡ true
      → has_key entry.0 before.layout ≡ false → IsReached new history entry.0 → IsOwn new history entry.0 entry.1
      → is_made_node before old.tree.owner entry ≡ true
  made_own entry free none reached own =
      let free' = free_there entry.0 free none in
      let mine = own.owner new.tree (contains_here new.tree new.others.items) reached in
      let owner = eq-eqb (header_of entry.1.node).owner old.tree.owner (mine ∙ moved.owner) in
      let dated = eq-eqb (header_of entry.1.node).generation (next_generation before)
      (own.generation ∙ moved.next ∙ sym laid.generation) in
      let bare = not_from_false entry.1.full own.bare in
      and_from _ _ (and_from _ _ (and_from _ _ free' owner) dated) bare

  made_at_hand : (entry : ℕ × Placed) → IsMetAs new history entry.0 entry.1 → has_key entry.0 before.layout ≡ false
      → IsReached new history entry.0 → is_made_node before old.tree.owner entry ≡ true
  made_at_hand entry its none reached = elim (moved.moves.reach entry.0 reached) [
    | inl was ↦
        absurd (not_met entry.0 none (at_hand-met old history bytes items names subvolume stands entry.0 was))
    | inr free ↦ elim (new_there entry.0 entry.1 its) [
      | inl own ↦ made_own entry free none reached own
      | inr held ↦
          absurd (free-apart old.land.space entry.0 free
          (subst (λ (slots : List ℕ). Contains slots entry.0) moved.held_slots held.held))
    ]
  ]

  makes : (entry : ℕ × Placed) → Contains (made_nodes before after) entry
      → is_made_node before old.tree.owner entry ≡ true
  makes entry has =
      let both = filter_contains (λ (e : ℕ × Placed). not (has_key e.0 before.layout)) after.layout entry has in
      let none = not_true (has_key entry.0 before.layout) both.1 in
      let its = entry-laid new history left items_new names_new subvolume_new stands_new after laid_new entry both.0 in
      elim (met-either new history left items_new names_new subvolume_new stands_new entry.0 its.met) [
        | inl reached ↦ made_at_hand entry its none reached
        | inr there ↦
            absurd (not_met entry.0 none
            (elsewhere-met old history bytes items names subvolume stands entry.0
            (elsewhere-moved old new history moved.moves entry.0 there)))
      ]

  pub CopiesNodes-moved : CopiesNodes before after old.tree.owner
  CopiesNodes-moved = record {
    kept = all-contained (KeepsNode before after old.tree.owner) before.layout keeps;
    made = all_true (is_made_node before old.tree.owner) (made_nodes before after) makes;
  }

pub commands-copy : (old new : FsTree) (history : History) (bytes left : ℕ) (items items_new : List Item)
    (names names_new : List (ℕ × Piece)) (before after : State)
    → IsSubvolume old history bytes → Stands old history items names
    → IsSubvolume new history left → Stands new history items_new names_new → IsMoved old new history
    → IsLaidOut before old history → IsLaidOut after new history
    → HoldsSlots before old.land.space.held_slots → CopiesNodes before after old.tree.owner
commands-copy old new history bytes left items items_new names names_new before after subvolume stands
    subvolume_new stands_new moved laid laid_new holds =
    CopiesNodes-moved old new history bytes left items items_new names names_new before after subvolume stands
    subvolume_new stands_new moved laid laid_new holds
