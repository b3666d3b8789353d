-- A child that was edited, and what is around it in its node.
use Rattle.std.proofs.Common.{◌≡◌, ◌≢◌, ℕ, suc, ◌+◌, ◌≤◌, true, false, List, [], ◌∷◌, ◌++◌, take, drop, length}
use Rattle.std.proofs.Common.{append_assoc, arith, refl, sym, ap, subst, ◌∙◌, inl, inr, Option, Some, None}
use Rattle.std.specs.Prelude.{Bool, ◌&&◌, ◌==◌, IsTrue, not, slice_get}
use Rattle.std.specs.List.{All, AllByRecursion, filter, list_all}
use Rattle.std.specs.Ordering.{is_lt}
use Rattle.std.proofs.lemmas.Bool.{and_from, and_parts, cases_Bool, false_from_ne_true, true≢false}
use Rattle.std.proofs.lemmas.List.Elements.{All-append, All-from_recursion, recursion_from_All}
use Rattle.std.proofs.lemmas.List.Folds.{list_all-map}
use Rattle.qg_device.specs.History.{History}
use Rattle.qg_num.specs.Key.{key_cmp}
use Rattle.qg_num.specs.declared.key.Key.{Key}
use Rattle.qg_node.specs.declared.item.Item.{Item}
use Rattle.qg_node.specs.declared.pointer.Pointer.{Pointer}
use Rattle.qg_node.specs.declared.node.Node.TheVariants.{Inner}
use Rattle.qg_node.specs.Nodes.{is_ascending}
use Rattle.qg_super.specs.declared.superblock.Super.{Super}
use Rattle.qg_image.specs.IsShaped.{same_key}
use Rattle.qg_shape.proofs.Ascending.{all_behind, are_equal, ascending_round, ascending_tail_of, greater, less_trans}
use Rattle.qg_shape.proofs.Sides.{back-all, front-all}
use Rattle.qg_image.specs.declared.tree.TreeKind.{TreeKind}
use Rattle.qg_walk.specs.Standing.{expected_below, form_failure}
use Rattle.qg_walk.proofs.KeyRanges.{list_all-both, list_all-weaker, same_key-true}
use Rattle.qg_blocks.specs.NodesFound.{told}
use Rattle.qg_space.specs.Holding.{is_free_slot}
use Rattle.qg_node_alloc.specs.declared.ground.Ground.{Ground}
use Rattle.qg_edit.specs.declared.edit.Edit.{Edit}
use Rattle.qg_edit.specs.declared.edit.Change.{Change}
use Rattle.qg_edit.specs.declared.edit.Change.TheVariants.{Insert, Replace, Remove, Clear}
use Rattle.qg_edit.specs.Edits.{IsShort, changed, edited, with_item}
use Rattle.qg_tree_edits.specs.declared.instead.Instead.{Instead}
use Rattle.qg_tree_read.specs.Tree.{Reaches, Root, super_for, super_of}
use Rattle.qg_tree_read.specs.Branch.{AreBranches, IsMember}
use Rattle.qg_tree_edits.specs.Editing.{HoldInstead, IsLeafEdited, IsPartEdited, IsUnsettled, KeepsAbove}
use Rattle.qg_tree_edits.specs.Editing.{ReachesInstead, ReachesParts}
use Rattle.qg_tree_edits.proofs.Around.{IsAround}
use Rattle.qg_tree_read.proofs.BranchFrames.{branches-same, reach-same, reach-top}
use Rattle.qg_tree_read.proofs.BranchOrder.{keys_of}
use Rattle.qg_tree_read.proofs.BranchRanges.{all-parts, ascending-others}
use Rattle.qg_tree_edits.proofs.Spliced.{drop-get, take-get}

-- ---- a leaf's items once they are edited

-- a key that is neither less than another nor the same is greater
differs_equal : (a b : Key) → same_key a b ≡ false → are_equal a b ≡ false
differs_equal a b other = false_from_ne_true (are_equal a b) (λ same.
    let first = and_parts (a.objectid == b.objectid) ((a.kind == b.kind) && (a.offset == b.offset)) same in
    let later = and_parts (a.kind == b.kind) (a.offset == b.offset) first.1 in
    let is : same_key a b ≡ true = and_from _ _ (and_from _ _ first.0 later.0) later.1 in
    true≢false (sym is ∙ other))

-- what holds of all and of the new one holds of all then
put_all : (p : Item → Bool) (new : Item) (items : List Item) → p new ≡ true → list_all p items ≡ true
    → list_all p (with_item new items) ≡ true
put_all p new [] here all = and_from (p new) true here refl
put_all p new (item ∷ items) here all =
    let parts = and_parts (p item) (list_all p items) all in
    elim (cases_Bool (is_lt (key_cmp item.key new.key))) [
      | inl less ↦ rw less (and_from (p item) (list_all p (with_item new items)) parts.0
          (put_all p new items here parts.1))
      | inr unless ↦ elim (cases_Bool (same_key item.key new.key)) [
        | inl same ↦ rw (unless, same) (and_from (p new) (list_all p items) here parts.1)
        | inr other ↦ rw (unless, other) (and_from (p new) (list_all p (item ∷ items)) here all)
      ]
    ]

left_all : (p q : Item → Bool) (items : List Item) → list_all p items ≡ true → list_all p (filter q items) ≡ true
left_all p q [] all = refl
left_all p q (item ∷ items) all =
    let parts = and_parts (p item) (list_all p items) all in
    elim (cases_Bool (q item)) [
      | inl stays ↦ rw stays (and_from (p item) (list_all p (filter q items)) parts.0 (left_all p q items parts.1))
      | inr goes ↦ rw goes (left_all p q items parts.1)
    ]

changed_all : (p : Key → Bool) (key : Key) (change : Change) (items : List Item) → p key ≡ true
    → list_all (λ item. p item.key) items ≡ true → list_all (λ item. p item.key) (changed key change items) ≡ true
changed_all p key (Insert body) items here all =
    put_all (λ item. p item.key) (record { key = key; body = body }) items here all
changed_all p key (Replace body) items here all =
    put_all (λ item. p item.key) (record { key = key; body = body }) items here all
changed_all p key Remove items here all = left_all (λ item. p item.key) (λ item. not (same_key item.key key)) items all
changed_all p key Clear items here all = refl

put_each : (P : Item → Type 0) (new : Item) (items : List Item) → P new → AllByRecursion P items
    → AllByRecursion P (with_item new items)
put_each P new [] here all = (here, tt)
put_each P new (item ∷ items) here all =
    elim (cases_Bool (is_lt (key_cmp item.key new.key))) [
      | inl less ↦ rw less (all.0, put_each P new items here all.1)
      | inr unless ↦ elim (cases_Bool (same_key item.key new.key)) [
        | inl same ↦ rw (unless, same) (here, all.1)
        | inr other ↦ rw (unless, other) (here, all)
      ]
    ]

left_each : (P : Item → Type 0) (q : Item → Bool) (items : List Item) → AllByRecursion P items
    → AllByRecursion P (filter q items)
left_each P q [] all = tt
left_each P q (item ∷ items) all = elim (cases_Bool (q item)) [
  | inl stays ↦ rw stays (all.0, left_each P q items all.1)
  | inr goes ↦ rw goes (left_each P q items all.1)
]

-- a body is short
abbrev HasShort : Item → Type 0
HasShort item = length item.body ≤ 1024

changed_each : (key : Key) (change : Change) (items : List Item) → IsShort change → AllByRecursion HasShort items
    → AllByRecursion HasShort (changed key change items)
changed_each key (Insert body) items short all = put_each HasShort (record { key = key; body = body }) items short all
changed_each key (Replace body) items short all = put_each HasShort (record { key = key; body = body }) items short all
changed_each key Remove items short all = left_each HasShort (λ item. not (same_key item.key key)) items all
changed_each key Clear items short all = tt

-- bodies are short then, where they were and the new one is
pub changed-short : (key : Key) (change : Change) (items : List Item) → IsShort change
    → All (λ item. length item.body ≤ 1024) items → All (λ item. length item.body ≤ 1024) (changed key change items)
changed-short key change items short all = All-from_recursion HasShort (changed key change items)
    (changed_each key change items short (recursion_from_All HasShort items all))

-- ---- items that ascend

behind_first : (item : Item) (items : List Item) → is_ascending (keys_of (item ∷ items)) ≡ true
    → list_all (λ other. is_lt (key_cmp item.key other.key)) items ≡ true
unfolding is_ascending
behind_first item items ascending =
    sym (list_all-map (λ (key : Key). is_lt (key_cmp item.key key)) (λ (other : Item). other.key) items)
    ∙ all_behind item.key (keys_of items) ascending

first_in_front : (item : Item) (items : List Item) → is_ascending (keys_of items) ≡ true
    → list_all (λ other. is_lt (key_cmp item.key other.key)) items ≡ true → is_ascending (keys_of (item ∷ items)) ≡ true
unfolding is_ascending
first_in_front item items ascending all =
    ascending_round [] item.key (keys_of items) refl refl ascending
    (list_all-map (λ (key : Key). is_lt (key_cmp item.key key)) (λ (other : Item). other.key) items ∙ all)

put_ascends : (new : Item) (leaf back : List Item) → is_ascending (keys_of (leaf ++ back)) ≡ true
    → list_all (λ item. is_lt (key_cmp new.key item.key)) back ≡ true
    → is_ascending (keys_of (with_item new leaf ++ back)) ≡ true
put_ascends new [] back ascending behind = first_in_front new back ascending behind
put_ascends new (item ∷ leaf) back ascending behind =
    let tail = ascending_tail_of item.key (keys_of (leaf ++ back)) ascending in
    let all = behind_first item (leaf ++ back) ascending in
    elim (cases_Bool (is_lt (key_cmp item.key new.key))) [
      | inl less ↦
          let p = λ (other : Item). is_lt (key_cmp item.key other.key) in
          let parts = all-parts p leaf back (leaf ++ back) refl all in
          rw less (first_in_front item (with_item new leaf ++ back) (put_ascends new leaf back tail behind)
          (list_all-both p (with_item new leaf) back (put_all p new leaf less parts.0) parts.1))
      | inr unless ↦ elim (cases_Bool (same_key item.key new.key)) [
        | inl same ↦
            let is = same_key-true item.key new.key same in
            rw (unless, same) (first_in_front new (leaf ++ back) tail
            (subst (λ (k : Key). list_all (λ (other : Item). is_lt (key_cmp k other.key)) (leaf ++ back) ≡ true) is
            all))
        | inr other ↦
            let more = greater item.key new.key unless (differs_equal item.key new.key other) in
            rw (unless, other) (first_in_front new (item ∷ (leaf ++ back)) ascending
            (and_from (is_lt (key_cmp new.key item.key)) (list_all (λ (other : Item). is_lt (key_cmp new.key other.key))
            (leaf ++ back)) more
            (list_all-weaker (λ (other : Item). is_lt (key_cmp item.key other.key))
            (λ (other : Item). is_lt (key_cmp new.key other.key))
            (λ later less. less_trans new.key item.key later.key more less) (leaf ++ back) all)))
      ]
    ]

left_ascends : (q : Item → Bool) (leaf back : List Item) → is_ascending (keys_of (leaf ++ back)) ≡ true
    → is_ascending (keys_of (filter q leaf ++ back)) ≡ true
left_ascends q [] back ascending = ascending
left_ascends q (item ∷ leaf) back ascending =
    let rest = left_ascends q leaf back (ascending_tail_of item.key (keys_of (leaf ++ back)) ascending) in
    let p = λ (other : Item). is_lt (key_cmp item.key other.key) in
    let parts = all-parts p leaf back (leaf ++ back) refl (behind_first item (leaf ++ back) ascending) in
    elim (cases_Bool (q item)) [
      | inl stays ↦ rw stays (first_in_front item (filter q leaf ++ back) rest
          (list_all-both p (filter q leaf) back (left_all p q leaf parts.0) parts.1))
      | inr goes ↦ rw goes rest
    ]

changed_ascends : (key : Key) (change : Change) (leaf back : List Item) → is_ascending (keys_of (leaf ++ back)) ≡ true
    → list_all (λ item. is_lt (key_cmp key item.key)) back ≡ true
    → is_ascending (keys_of (changed key change leaf ++ back)) ≡ true
changed_ascends key (Insert body) leaf back ascending behind =
    put_ascends (record { key = key; body = body }) leaf back ascending behind
changed_ascends key (Replace body) leaf back ascending behind =
    put_ascends (record { key = key; body = body }) leaf back ascending behind
changed_ascends key Remove leaf back ascending behind =
    left_ascends (λ item. not (same_key item.key key)) leaf back ascending
changed_ascends key Clear leaf back ascending behind = ascending-others leaf back (leaf ++ back) refl ascending

-- items ascend once those of one leaf are edited
pub edited-ascends : (key : Key) (change : Change) (front leaf back : List Item)
    → is_ascending (keys_of (front ++ (leaf ++ back))) ≡ true → list_all (λ item. is_lt (key_cmp item.key key)) front
    ≡ true
    → list_all (λ item. is_lt (key_cmp key item.key)) back ≡ true
    → is_ascending (keys_of (front ++ (changed key change leaf ++ back))) ≡ true
edited-ascends key change [] leaf back ascending less behind = changed_ascends key change leaf back ascending behind
edited-ascends key change (item ∷ front) leaf back ascending less behind =
    let p = λ (k : Key). is_lt (key_cmp item.key k) in
    let lesses = and_parts (is_lt (key_cmp item.key key))
    (list_all (λ (other : Item). is_lt (key_cmp other.key key)) front) less in
    let parts = all-parts (λ (other : Item). p other.key) front (leaf ++ back) (front ++ (leaf ++ back)) refl
    (behind_first item (front ++ (leaf ++ back)) ascending) in
    let later = all-parts (λ (other : Item). p other.key) leaf back (leaf ++ back) refl parts.1 in
    first_in_front item (front ++ (changed key change leaf ++ back))
    (edited-ascends key change front leaf back
    (ascending_tail_of item.key (keys_of (front ++ (leaf ++ back))) ascending) lesses.1 behind)
    (list_all-both (λ (other : Item). p other.key) front (changed key change leaf ++ back) parts.0
    (list_all-both (λ (other : Item). p other.key) (changed key change leaf) back
    (changed_all p key change leaf lesses.0 later.0) later.1))

-- ---- the items of a part and of what is around it

regroup : (front f leaf b back : List Item) → front ++ ((f ++ (leaf ++ b)) ++ back) ≡ (front ++ f)
    ++ (leaf ++ (b ++ back))
regroup front f leaf b back =
    ap (λ (xs : List Item). front ++ xs) (append_assoc f (leaf ++ b) back
    ∙ ap (λ (xs : List Item). f ++ xs) (append_assoc leaf b back))
    ∙ sym (append_assoc front f (leaf ++ (b ++ back)))

-- what is edited of a part is edited of the whole
pub leaf-around : (edit : Edit) (front mine mine_new back items : List Item) → IsLeafEdited edit mine mine_new
    → items ≡ front ++ (mine ++ back)
    → IsTrue (list_all (λ item. is_lt (key_cmp item.key edit.key)) front)
    → IsTrue (list_all (λ item. is_lt (key_cmp edit.key item.key)) back)
    → IsLeafEdited edit items (front ++ (mine_new ++ back))
leaf-around edit front mine mine_new back items edits items_are less greater = record {
  front = front ++ edits.front;
  leaf = edits.leaf;
  back = edits.back ++ back;
  old_are = items_are ∙ ap (λ (xs : List Item). front ++ (xs ++ back)) edits.old_are
      ∙ regroup front edits.front edits.leaf edits.back back;
  new_are = ap (λ (xs : List Item). front ++ (xs ++ back)) edits.new_are
      ∙ regroup front edits.front (edited edit edits.leaf) edits.back back;
  less = list_all-both (λ (item : Item). is_lt (key_cmp item.key edit.key)) front edits.front less edits.less;
  greater = list_all-both (λ (item : Item). is_lt (key_cmp edit.key item.key)) edits.back back edits.greater greater;
}

module _ (edit : Edit) (old new : List Item) (is : IsLeafEdited edit old new) where
  pub leaf-ascends : is_ascending (keys_of old) ≡ true → is_ascending (keys_of new) ≡ true
  leaf-ascends ascending =
      ap (λ (xs : List Item). is_ascending (keys_of xs)) is.new_are
      ∙ edited-ascends edit.key edit.change is.front is.leaf is.back
      (sym (ap (λ (xs : List Item). is_ascending (keys_of xs)) is.old_are) ∙ ascending) is.less is.greater

  pub leaf-short : IsShort edit.change → All (λ item. length item.body ≤ 1024) old
      → All (λ item. length item.body ≤ 1024) new
  leaf-short short all =
      let parts = subst (λ (xs : List Item). All HasShort xs) is.old_are all in
      let later = back-all HasShort is.front (is.leaf ++ is.back) parts in
      subst (λ (xs : List Item). All HasShort xs) (sym is.new_are)
      (All-append HasShort is.front (edited edit is.leaf ++ is.back)
      (front-all HasShort is.front (is.leaf ++ is.back) parts)
      (All-append HasShort (edited edit is.leaf) is.back
      (changed-short edit.key edit.change is.leaf short (front-all HasShort is.leaf is.back later))
      (back-all HasShort is.leaf is.back later)))

-- ---- the node around

module _ (tree : TreeKind) (root : Root) (mid new : Ground) (history : History) (level at : ℕ) (to : Option Key)
    (place : ℕ) (edit : Edit) (pointers : List Pointer) (front mine back items : List Item)
    (around : IsAround tree root mid history level at to place edit.key pointers front mine back items) (child_at : ℕ)
    (child : Instead) (part : IsPartEdited tree root mid new history level child_at edit mine child)
  where
    pub edited-whole : IsLeafEdited edit items (front ++ (part.items_new ++ back))
    edited-whole = leaf-around edit front mine part.items_new back items part.edits around.items_are around.less
        around.greater

    -- it is the same leaf
    pub edited-leaf : edited-whole.leaf ≡ part.edits.leaf
    unfolding edited-whole leaf-around
    edited-leaf = refl

    module _ (leads : Pointer) (there : slice_get pointers place ≡ Some leads) (leads_to : leads.child ≡ child_at) where
      -- no other child reaches what the child did
      not_child : (i : ℕ) (pointer : Pointer) → i ≢ place → slice_get pointers i ≡ Some pointer → (q : ℕ)
          → Reaches (told mid.blocks.draft history) level pointer.child q
          → Reaches (told mid.blocks.draft history) level child_at q → ⊥
      not_child i pointer differ at_i q reaches below =
          around.apart i place pointer leads differ at_i there q reaches
          (subst (λ (a : ℕ). Reaches (told mid.blocks.draft history) level a q) (sym leads_to) below)

      -- what it reaches is told as before
      stays : (i : ℕ) (pointer : Pointer) → i ≢ place → slice_get pointers i ≡ Some pointer → (q : ℕ)
          → Reaches (told mid.blocks.draft history) level pointer.child q
          → told new.blocks.draft history q ≡ told mid.blocks.draft history q
      stays i pointer differ at_i q reaches = part.others history q (λ free. around.free q free i pointer at_i reaches)
          (not_child i pointer differ at_i q reaches)

      was : (i : ℕ) (pointer : Pointer) → i ≢ place → slice_get pointers i ≡ Some pointer → (q : ℕ)
          → Reaches (told new.blocks.draft history) level pointer.child q
          → Reaches (told mid.blocks.draft history) level pointer.child q
      was i pointer differ at_i =
          reach-same (told mid.blocks.draft history) (told new.blocks.draft history) level pointer.child
          (stays i pointer differ at_i)

      before : AreBranches tree (super_of root mid.blocks.draft) (told new.blocks.draft history) level
          (take place pointers) front
      before =
          branches-same tree (super_of root mid.blocks.draft) (told mid.blocks.draft history)
          (told new.blocks.draft history) level (take place pointers) front around.before
          (λ i pointer at_i.
          let found = take-get place pointers i pointer at_i in
          let low = found.0 in
          stays i pointer (λ same. omega (arith, same, low)) found.1)

      after : AreBranches tree (super_of root mid.blocks.draft) (told new.blocks.draft history) level
          (drop (place + 1) pointers) back
      after =
          branches-same tree (super_of root mid.blocks.draft) (told mid.blocks.draft history)
          (told new.blocks.draft history) level (drop (place + 1) pointers) back around.after
          (λ i pointer at_i.
          let found = drop-get (place + 1) pointers i pointer at_i in
          let high = found.1 in
          stays found.0 pointer (λ same. omega (arith, same, high)) found.2)

      alone : (i : ℕ) (pointer : Pointer) → i ≢ place → slice_get pointers i ≡ Some pointer → (q : ℕ)
          → Reaches (told new.blocks.draft history) level pointer.child q
          → ReachesInstead (told new.blocks.draft history) level child q → ⊥
      alone i pointer differ at_i q reaches of_child = elim (part.reach q of_child) [
        | inl below ↦ not_child i pointer differ at_i q (was i pointer differ at_i q reaches) below
        | inr free ↦ around.free q free i pointer at_i (was i pointer differ at_i q reaches)
      ]

      other_free : (i : ℕ) (pointer : Pointer) → i ≢ place → slice_get pointers i ≡ Some pointer → (q : ℕ)
          → IsTrue (is_free_slot new.space q)
          → Reaches (told new.blocks.draft history) level pointer.child q → ⊥
      other_free i pointer differ at_i q free reaches = elim (part.freed q free) [
        | inl was_free ↦ around.free q was_free i pointer at_i (was i pointer differ at_i q reaches)
        | inr below ↦ not_child i pointer differ at_i q (was i pointer differ at_i q reaches) below
      ]

      free_parts : (q : ℕ) → IsTrue (is_free_slot new.space q)
          → ReachesParts (told new.blocks.draft history) level pointers place child q → ⊥
      free_parts q free (inl of_child) = part.free q free of_child
      free_parts q free (inr (i, pointer, differ, at_i, reaches)) = other_free i pointer differ at_i q free reaches

      module _ (above : KeepsAbove level mid new) (sizes : new.blocks.draft.sizes ≡ mid.blocks.draft.sizes)
          (short : IsShort edit.change) where
        same_super : super_of root mid.blocks.draft ≡ super_of root new.blocks.draft
        same_super = ap (λ (n : ℕ). super_for root.next n) (ap (λ (s : _). s.nodesize) (sym sizes))

        pub unsettled : IsUnsettled tree root new history level at to place child (front ++ (part.items_new ++ back))
        unsettled = record {
          header = around.header;
          pointers = pointers;
          here = above at (Inner around.header pointers) around.here (let levelled = around.member.levelled in
              omega (arith, levelled));
          member = subst (λ (s : Super). IsMember tree s (suc level) around.header) same_super around.member;
          inside = around.inside;
          front = front;
          mine = part.items_new;
          back = back;
          items_are = refl;
          before = subst (λ (s : Super). AreBranches tree s (told new.blocks.draft history) level
              (take place pointers) front) same_super before;
          holds = subst (λ (s : Super). HoldInstead tree s (told new.blocks.draft history) level child part.items_new)
              same_super part.holds;
          after = subst (λ (s : Super). AreBranches tree s (told new.blocks.draft history) level
              (drop (place + 1) pointers) back) same_super after;
          judged = λ i pointer differ at_i.
              let judged = around.judged i pointer differ at_i in (
                judged.0,
                stays i pointer differ at_i pointer.child
                    (reach-top (told mid.blocks.draft history) level pointer.child) ∙ judged.1,
                subst (λ (s : Super). form_failure tree s (expected_below level to pointer (drop (i + 1) pointers))
                    pointer.child judged.0 ≡ None) same_super judged.2,
              );
          several = around.several;
          ascending = leaf-ascends edit items (front ++ (part.items_new ++ back)) edited-whole around.ascending;
          short = leaf-short edit items (front ++ (part.items_new ++ back)) edited-whole short around.short;
          apart = λ i j p r not_i not_j differ at_i at_j q reaches reaches'. around.apart i j p r differ at_i at_j q
              (was i p not_i at_i q reaches) (was j r not_j at_j q reaches');
          alone = alone;
          free = free_parts;
        }
