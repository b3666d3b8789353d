-- A child that is not a quarter full, and its neighbour, which was owned: what is under both.
use Rattle.std.proofs.Common.{◌≡◌, ◌≢◌, ℕ, suc, ◌+◌, ◌≤◌, ◌<◌, true, List, [], ◌∷◌, ◌++◌, take, drop, length}
use Rattle.std.proofs.Common.{append_assoc, append-nil, arith, refl, sym, ap, subst, ◌∙◌, inl, inr, Option, Some}
use Rattle.std.specs.Prelude.{IsTrue, slice_get}
use Rattle.std.specs.List.{All}
use Rattle.qg_device.specs.History.{History}
use Rattle.qg_num.specs.declared.key.Key.{Key}
use Rattle.qg_node.specs.declared.item.Item.{Item}
use Rattle.qg_node.specs.declared.pointer.Pointer.{Pointer}
use Rattle.qg_node.specs.declared.node.Node.{Node}
use Rattle.qg_node.specs.Nodes.{is_ascending}
use Rattle.qg_shape.specs.Filled.{HasShortBodies}
use Rattle.qg_shape.proofs.Sides.{back-all, front-all}
use Rattle.qg_edit.specs.Outcome.{IsInFront}
use Rattle.qg_super.specs.declared.superblock.Super.{Super}
use Rattle.qg_image.specs.declared.tree.TreeKind.{TreeKind}
use Rattle.qg_blocks.specs.NodesFound.{fresh_at, told}
use Rattle.qg_space.specs.Holding.{is_free_slot}
use Rattle.qg_node_alloc.specs.declared.ground.Ground.{Ground}
use Rattle.qg_tree_edits.specs.declared.pairing.Pair.{Pair}
use Rattle.qg_tree_read.specs.Tree.{Reaches, Root, super_of}
use Rattle.qg_tree_read.specs.Branch.{AreBranches, IsBranch, IsPointed}
use Rattle.qg_tree_edits.specs.Editing.{CanMake, IsOwned, IsUnsettled, alone}
use Rattle.qg_tree_edits.specs.Uniting.{IsPaired}
use Rattle.qg_tree_edits.proofs.Beside.{beside-differs}
use Rattle.qg_tree_read.proofs.Branches.{each-append}
use Rattle.qg_tree_read.proofs.BranchFrames.{branch-same, branches-same, reach-top}
use Rattle.qg_tree_read.proofs.BranchOrder.{keys_of}
use Rattle.qg_tree_read.proofs.BranchRanges.{ascending-first, ascending-others}
use Rattle.qg_tree_edits.proofs.InFront.{united-front, united-short}
use Rattle.qg_tree_edits.proofs.OwnedBranch.{owned-branch}
use Rattle.qg_tree_edits.proofs.Spliced.{drop-get, drop-there, take-get, take-there}

regroup_behind : (front mine first others : List Item) → front ++ ((mine ++ []) ++ (first ++ others)) ≡ front
    ++ ((mine ++ first) ++ others)
regroup_behind front mine first others =
    ap (λ (xs : List Item). front ++ xs) (ap (λ (xs : List Item). xs ++ (first ++ others)) (append-nil mine)
    ∙ sym (append_assoc mine first others))

regroup_front : (front first mine back : List Item) → (front ++ (first ++ [])) ++ ((mine ++ []) ++ back) ≡ front
    ++ ((first ++ mine) ++ back)
regroup_front front first mine back =
    append_assoc front (first ++ []) ((mine ++ []) ++ back)
    ∙ ap (λ (xs : List Item). front ++ (xs ++ ((mine ++ []) ++ back))) (append-nil first)
    ∙ ap (λ (xs : List Item). front ++ (first ++ (xs ++ back))) (append-nil mine)
    ∙ ap (λ (xs : List Item). front ++ xs) (sym (append_assoc first mine back))

-- the items under both, and under the other children in front and behind
pub record HoldPair (tree : TreeKind) (super : Super) (nodes : ℕ → Option Node) (level : ℕ) (pointers : List Pointer)
    (pair : Pair) (items : List Item) : Type 0 where
  pub front : List Item
  pub ls : List Item
  pub rs : List Item
  pub back : List Item
  pub items_are : items ≡ front ++ ((ls ++ rs) ++ back)
  pub before : AreBranches tree super nodes level (take pair.front pointers) front
  pub left_holds : IsBranch tree super nodes level pair.left ls
  pub right_holds : IsBranch tree super nodes level pair.right rs
  pub after : AreBranches tree super nodes level (drop (pair.front + 2) pointers) back

module _ (tree : TreeKind) (root : Root) (land new : Ground) (history : History) (level at : ℕ)
    (to : Option Key) (place child : ℕ) (items : List Item)
    (un : IsUnsettled tree root land history level at to place (alone child) items) (pair : Pair)
    (is : IsPaired tree root land new history un.pointers to level place child pair)
    (makes : CanMake tree root) where
  -- the neighbour was owned where its pointer leads
  pub owned-there : IsOwned tree root land new history is.beside.way.expected is.is.way.pointer.child is.now
  owned-there = subst (λ (a : ℕ). IsOwned tree root land new history is.beside.way.expected a is.now) is.is.way.child
      is.owned

  differs : is.is.other ≢ place
  differs = beside-differs un.pointers to level place is.beside is.is

  pub free-there : (q : ℕ) → IsTrue (is_free_slot land.space q)
      → Reaches (told land.blocks.draft history) level is.is.way.pointer.child q → ⊥
  free-there q free reaches = un.free q free (inr (is.is.other, is.is.way.pointer, differs, is.is.way.there, reaches))

  -- nothing that the child or another one reaches is told otherwise then
  pub child-apart : (q : ℕ) → Reaches (told land.blocks.draft history) level child q → q ≢ is.now
  child-apart q reaches same = elim owned-there.same [
    | inl kept ↦
        un.alone is.is.other is.is.way.pointer differs is.is.way.there is.is.way.pointer.child
        (reach-top (told land.blocks.draft history) level is.is.way.pointer.child)
        (inl (subst (λ (a : ℕ). Reaches (told land.blocks.draft history) level child a) (same ∙ kept.1) reaches))
    | inr copied ↦ un.free is.now copied.1
        (inl (inl (subst (λ (a : ℕ). Reaches (told land.blocks.draft history) level child a) same reaches)))
  ]

  pub other-apart : (i : ℕ) (pointer : Pointer) → i ≢ place → i ≢ is.is.other → slice_get un.pointers i ≡ Some pointer
      → (q : ℕ) → Reaches (told land.blocks.draft history) level pointer.child q → q ≢ is.now
  other-apart i pointer not_child not_beside there q reaches same = elim owned-there.same [
    | inl kept ↦
        un.apart i is.is.other pointer is.is.way.pointer not_child differs not_beside there is.is.way.there
        is.is.way.pointer.child
        (subst (λ (a : ℕ). Reaches (told land.blocks.draft history) level pointer.child a) (same ∙ kept.1) reaches)
        (reach-top (told land.blocks.draft history) level is.is.way.pointer.child)
    | inr copied ↦ un.free is.now copied.1
        (inr (
          i,
          pointer,
          not_child,
          there,
          subst
              (λ (a : ℕ). Reaches (told land.blocks.draft history) level pointer.child a) same reaches,
        ))
  ]

  child_holds : IsBranch tree (super_of root land.blocks.draft) (told new.blocks.draft history) level child
      un.holds.mine
  child_holds =
      branch-same tree (super_of root land.blocks.draft) (told land.blocks.draft history)
      (told new.blocks.draft history) level child un.holds.mine un.holds.here
      (λ q reaches. owned-there.others history q (child-apart q reaches))

  now_holds : (under : List Item)
      → IsBranch tree (super_of root land.blocks.draft) (told land.blocks.draft history) level is.is.way.pointer.child
      under
      → IsBranch tree (super_of root land.blocks.draft) (told new.blocks.draft history) level is.now under
  now_holds under branch = owned-branch tree root land new history is.beside.way.expected is.is.way.pointer.child is.now
      owned-there makes level under branch free-there

  -- the others in front, and those behind
  front_stays : (n : ℕ) (front : List Item) → n ≤ place → n ≤ is.is.other
      → AreBranches tree (super_of root land.blocks.draft) (told land.blocks.draft history) level
      (take n un.pointers) front
      → AreBranches tree (super_of root land.blocks.draft) (told new.blocks.draft history) level
      (take n un.pointers) front
  front_stays n front upto upto_other each =
      branches-same tree (super_of root land.blocks.draft) (told land.blocks.draft history)
      (told new.blocks.draft history) level (take n un.pointers) front each
      (λ i pointer there q reaches.
      let found = take-get n un.pointers i pointer there in
      let low = found.0 in
      owned-there.others history q (other-apart i pointer (λ same. omega (arith, same, low, upto))
      (λ same. omega (arith, same, low, upto_other)) found.1 q reaches))

  back_stays : (n : ℕ) (back : List Item) → place < n → is.is.other < n
      → AreBranches tree (super_of root land.blocks.draft) (told land.blocks.draft history) level
      (drop n un.pointers) back
      → AreBranches tree (super_of root land.blocks.draft) (told new.blocks.draft history) level
      (drop n un.pointers) back
  back_stays n back from from_other each =
      branches-same tree (super_of root land.blocks.draft) (told land.blocks.draft history)
      (told new.blocks.draft history) level (drop n un.pointers) back each
      (λ i pointer there q reaches.
      let found = drop-get n un.pointers i pointer there in
      let high = found.1 in
      owned-there.others history q (other-apart found.0 pointer (λ same. omega (arith, same, high, from))
      (λ same. omega (arith, same, high, from_other)) found.2 q reaches))

  mine_is : un.mine ≡ un.holds.mine ++ []
  mine_is = un.holds.items_are ∙ ap (λ (xs : List Item). un.holds.mine ++ xs) un.holds.behind

  -- the neighbour is behind the child
  holds_behind : is.is.other ≡ place + 1 → pair.front ≡ place → pair.left ≡ child → pair.right ≡ is.now
      → HoldPair tree (super_of root land.blocks.draft) (told new.blocks.draft history) level un.pointers pair items
  holds_behind other_is front_is left_is right_is =
      let Under = λ (p : Pointer) (xs : List Item). IsPointed (super_of root land.blocks.draft)
      (told land.blocks.draft history) p
      × IsBranch tree (super_of root land.blocks.draft) (told land.blocks.draft history) level p.child xs in
      let from = ap (λ (n : ℕ). drop n un.pointers) (sym other_is)
      ∙ drop-there un.pointers is.is.other is.is.way.pointer is.is.way.there in
      let each = subst (λ (ps : List Pointer). AreBranches tree (super_of root land.blocks.draft)
      (told land.blocks.draft history) level ps un.back) from un.after in
      let behind : suc is.is.other ≡ pair.front + 2 = omega (arith, other_is, front_is) in
      record {
        front = un.front;
        ls = un.holds.mine;
        rs = each.0;
        back = each.1;
        items_are = un.items_are
            ∙ ap (λ (xs : List Item). un.front ++ (xs ++ un.back)) mine_is
            ∙ ap (λ (xs : List Item). un.front ++ ((un.holds.mine ++ []) ++ xs)) each.2
            ∙ regroup_behind un.front un.holds.mine each.0 each.1;
        before = subst (λ (n : ℕ). AreBranches tree (super_of root land.blocks.draft) (told new.blocks.draft history)
            level (take n un.pointers) un.front) (sym front_is)
            (front_stays place un.front (omega arith) (omega (arith, other_is)) un.before);
        left_holds = subst (λ (a : ℕ). IsBranch tree (super_of root land.blocks.draft) (told new.blocks.draft history)
            level a un.holds.mine) (sym left_is) child_holds;
        right_holds = subst (λ (a : ℕ). IsBranch tree (super_of root land.blocks.draft) (told new.blocks.draft history)
            level a each.0) (sym right_is) (now_holds each.0 each.3.1);
        after = subst (λ (n : ℕ). AreBranches tree (super_of root land.blocks.draft) (told new.blocks.draft history)
            level (drop n un.pointers) each.1) behind
            (back_stays (suc is.is.other) each.1 (omega (arith, other_is)) (omega arith) each.4);
      }

  -- it is in front of it
  holds_front : is.is.other + 1 ≡ place → pair.front ≡ is.is.other → pair.left ≡ is.now → pair.right ≡ child
      → HoldPair tree (super_of root land.blocks.draft) (told new.blocks.draft history) level un.pointers pair items
  holds_front place_is front_is left_is right_is =
      let Under = λ (p : Pointer) (xs : List Item). IsPointed (super_of root land.blocks.draft)
      (told land.blocks.draft history) p
      × IsBranch tree (super_of root land.blocks.draft) (told land.blocks.draft history) level p.child xs in
      let upto = ap (λ (n : ℕ). take n un.pointers) (let e : place ≡ suc is.is.other = omega (arith, place_is) in e)
      ∙ take-there un.pointers is.is.other is.is.way.pointer is.is.way.there in
      let parts = each-append Under (take is.is.other un.pointers) (is.is.way.pointer ∷ []) un.front
      (subst (λ (ps : List Pointer). AreBranches tree (super_of root land.blocks.draft) (told land.blocks.draft history)
      level ps un.front) upto un.before) in
      let last = parts.4 in
      let last_is : parts.1 ≡ last.0 ++ [] = last.2 ∙ ap (λ (xs : List Item). last.0 ++ xs) last.4 in
      let behind : place + 1 ≡ pair.front + 2 = omega (arith, place_is, front_is) in
      record {
        front = parts.0;
        ls = last.0;
        rs = un.holds.mine;
        back = un.back;
        items_are = un.items_are
            ∙ ap (λ (xs : List Item). xs ++ (un.mine ++ un.back)) (parts.2
            ∙ ap (λ (xs : List Item). parts.0 ++ xs) last_is)
            ∙ ap (λ (xs : List Item). (parts.0 ++ (last.0 ++ [])) ++ (xs ++ un.back)) mine_is
            ∙ regroup_front parts.0 last.0 un.holds.mine un.back;
        before = subst (λ (n : ℕ). AreBranches tree (super_of root land.blocks.draft) (told new.blocks.draft history)
            level (take n un.pointers) parts.0) (sym front_is)
            (front_stays is.is.other parts.0 (omega (arith, place_is)) (omega arith) parts.3);
        left_holds = subst (λ (a : ℕ). IsBranch tree (super_of root land.blocks.draft) (told new.blocks.draft history)
            level a last.0) (sym left_is) (now_holds last.0 last.3.1);
        right_holds = subst (λ (a : ℕ). IsBranch tree (super_of root land.blocks.draft) (told new.blocks.draft history)
            level a un.holds.mine) (sym right_is) child_holds;
        after = subst (λ (n : ℕ). AreBranches tree (super_of root land.blocks.draft) (told new.blocks.draft history)
            level (drop n un.pointers) un.back) behind
            (back_stays (place + 1) un.back (omega arith) (omega (arith, place_is)) un.after);
      }

  pub holds-pair : HoldPair tree (super_of root land.blocks.draft) (told new.blocks.draft history) level un.pointers
      pair items
  holds-pair = elim is.is.pair [
    | inl behind ↦ elim is.sides [
      | inl after ↦ holds_behind behind.1 (is.front ∙ behind.0) after.1 after.2
      | inr before ↦ absurd (let a = behind.0 in let b = before.0 in omega (arith, a, b))
    ]
    | inr front ↦ elim is.sides [
      | inl after ↦ absurd (let a = front.0 in let b = after.0 in omega (arith, a, b))
      | inr before ↦ holds_front (let a = front.0 in let b = front.1 in omega (arith, a, b)) (is.front
          ∙ sym front.1) before.1 before.2
    ]
  ]

  -- ---- and both can be joined

  both_ascend : is_ascending (keys_of (holds-pair.ls ++ holds-pair.rs)) ≡ true
  both_ascend =
      ascending-first (holds-pair.ls ++ holds-pair.rs) holds-pair.back ((holds-pair.ls ++ holds-pair.rs)
      ++ holds-pair.back) refl
      (ascending-others holds-pair.front ((holds-pair.ls ++ holds-pair.rs) ++ holds-pair.back) items
      holds-pair.items_are un.ascending)

  both_short : All (λ (item : Item). length item.body ≤ 1024) (holds-pair.ls ++ holds-pair.rs)
  both_short =
      front-all (λ (item : Item). length item.body ≤ 1024) (holds-pair.ls ++ holds-pair.rs) holds-pair.back
      (back-all (λ (item : Item). length item.body ≤ 1024) holds-pair.front ((holds-pair.ls ++ holds-pair.rs)
      ++ holds-pair.back)
      (subst (λ (xs : List Item). All (λ (item : Item). length item.body ≤ 1024) xs) holds-pair.items_are un.short))

  pub pair-front : (a b : Node) → fresh_at new.blocks.draft pair.left ≡ Some a
      → fresh_at new.blocks.draft pair.right ≡ Some b → IsInFront a b × HasShortBodies a × HasShortBodies b
  pair-front a b first second = (
    united-front tree (super_of root land.blocks.draft) new history level pair.left pair.right holds-pair.ls
        holds-pair.rs holds-pair.left_holds holds-pair.right_holds both_ascend a b first second,
    united-short tree (super_of root land.blocks.draft) new history level pair.left holds-pair.ls holds-pair.left_holds
        (front-all (λ (item : Item). length item.body ≤ 1024) holds-pair.ls holds-pair.rs both_short) a first,
    united-short tree (super_of root land.blocks.draft) new history level pair.right holds-pair.rs
        holds-pair.right_holds
        (back-all (λ (item : Item). length item.body ≤ 1024) holds-pair.ls holds-pair.rs both_short) b second,
  )
