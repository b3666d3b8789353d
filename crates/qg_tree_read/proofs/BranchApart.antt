-- Branches under two pointers of a node have no node in common.
use Rattle.std.proofs.Common.{◌≡◌, ℕ, zero, suc, true, List, [], ◌∷◌, ◌++◌, refl, sym, ap, subst, ◌∙◌, append_assoc}
use Rattle.std.proofs.Common.{append-nil, Option, Some, inl, inr}
use Rattle.std.specs.Prelude.{slice_get}
use Rattle.std.specs.List.{list_all}
use Rattle.std.specs.Ordering.{is_lt}
use Rattle.std.proofs.lemmas.Bool.{and_parts}
use Rattle.std.proofs.lemmas.List.{map-append}
use Rattle.std.proofs.lemmas.List.Folds.{list_all-map}
use Rattle.qg_num.specs.Key.{key_cmp}
use Rattle.qg_num.specs.declared.key.Key.{Key}
use Rattle.qg_node.specs.declared.item.Item.{Item}
use Rattle.qg_node.specs.declared.pointer.Pointer.{Pointer}
use Rattle.qg_node.specs.declared.node.Node.{Node}
use Rattle.qg_node.specs.Nodes.{header_of, is_ascending}
use Rattle.qg_super.specs.declared.superblock.Super.{Super}
use Rattle.qg_shape.proofs.Ascending.{all_before, not_itself}
use Rattle.qg_blocks.specs.Types.{TreeKind}
use Rattle.qg_tree_read.specs.Branch.{AreBranches, IsBranch, IsPointed}
use Rattle.qg_tree_read.specs.Tree.{Reaches}
use Rattle.qg_tree_read.proofs.Under.{BeginAt}
use Rattle.qg_tree_read.proofs.Branches.{IsRow, branch-below, branch-first, branch-one, branch-top, each-get}
use Rattle.qg_tree_read.proofs.BranchOrder.{keys_of}
use Rattle.qg_tree_read.proofs.BranchRanges.{all-parts, ascending-others}

-- ---- rows

regroup : (front f row b back : List Item) → front ++ ((f ++ (row ++ b)) ++ back) ≡ (front ++ f) ++ (row ++ (b ++ back))
regroup front f row b back =
    ap (λ (xs : List Item). front ++ xs) (append_assoc f (row ++ b) back
    ∙ ap (λ (xs : List Item). f ++ xs) (append_assoc row b back))
    ∙ sym (append_assoc front f (row ++ (b ++ back)))

pub row-whole : (items : List Item) → IsRow items items
row-whole items = record { front = []; back = []; whole_is = sym (append-nil items) }

pub row-within : (row middle whole : List Item) → IsRow row middle → IsRow middle whole → IsRow row whole
row-within row middle whole inner outer = record {
  front = outer.front ++ inner.front;
  back = inner.back ++ outer.back;
  whole_is = outer.whole_is ∙ ap (λ (xs : List Item). outer.front ++ (xs ++ outer.back)) inner.whole_is
      ∙ regroup outer.front inner.front row inner.back outer.back;
}

-- among items that ascend no item stands twice
once : (first others : List Item) → is_ascending (keys_of (first ++ others)) ≡ true → (item : Item) (rest : List Item)
    → IsRow (item ∷ rest) first → IsRow (item ∷ rest) others → ⊥
once first others ascending item rest here there =
    let p = λ (other : Item). is_lt (key_cmp other.key item.key) in
    let before = first ++ there.front in
    let tail = rest ++ there.back in
    let whole : first ++ others ≡ before ++ (item ∷ tail) =
    ap (λ (xs : List Item). first ++ xs) there.whole_is ∙ sym (append_assoc first there.front (item ∷ tail)) in
    let keys : is_ascending (keys_of before ++ (item.key ∷ keys_of tail)) ≡ true =
    sym (ap is_ascending (map-append (λ (other : Item). other.key) before (item ∷ tail)))
    ∙ sym (ap (λ (xs : List Item). is_ascending (keys_of xs)) whole) ∙ ascending in
    let less : list_all p before ≡ true =
    sym (list_all-map (λ (key : Key). is_lt (key_cmp key item.key)) (λ (other : Item). other.key) before)
    ∙ all_before (keys_of before) item.key (keys_of tail) keys in
    let in_first = (all-parts p first there.front before refl less).0 in
    let in_row = (all-parts p here.front (item ∷ (rest ++ here.back)) first here.whole_is in_first).1 in
    let itself : is_lt (key_cmp item.key item.key) ≡ true =
    (and_parts (p item) (list_all p (rest ++ here.back)) in_row).0 in
    let never = not_itself item.key in
    cc

apart : (first others : List Item) → is_ascending (keys_of (first ++ others)) ≡ true → (key : Key) (mine : List Item)
    → BeginAt key mine → IsRow mine first → IsRow mine others → ⊥
apart first others ascending key [] begins here there = begins
apart first others ascending key (item ∷ rest) begins here there = once first others ascending item rest here there

-- ---- what is reached

module _ (tree : TreeKind) (super : Super) (nodes : ℕ → Option Node) where
  -- a node that a branch reaches has a branch of its own, whose items, one at least, stand in a row among those of the
  -- first
  pub record IsReached (q : ℕ) (items : List Item) : Type 0 where
    pub level : ℕ
    pub mine : List Item
    pub branch : IsBranch tree super nodes level q mine
    pub key : Key
    pub begins : BeginAt key mine
    pub row : IsRow mine items

  reached_itself : (level : ℕ) (pointer : Pointer) (items : List Item) → IsPointed super nodes pointer
      → IsBranch tree super nodes level pointer.child items
      → (q : ℕ) → q ≡ pointer.child → IsReached q items
  reached_itself level pointer items pointed branch q here = record {
    level = level;
    mine = items;
    branch = subst (λ (a : ℕ). IsBranch tree super nodes level a items) (sym here) branch;
    key = pointer.key;
    begins = branch-first tree super nodes level pointer items pointed branch;
    row = row-whole items;
  }

  reached_within : (q : ℕ) (items whole : List Item) → IsReached q items → IsRow items whole → IsReached q whole
  reached_within q items whole reached row = record {
    level = reached.level;
    mine = reached.mine;
    branch = reached.branch;
    key = reached.key;
    begins = reached.begins;
    row = row-within reached.mine items whole reached.row row;
  }

  pub branch-reached : (level : ℕ) (pointer : Pointer) (items : List Item) → IsPointed super nodes pointer
      → IsBranch tree super nodes level pointer.child items
      → (q : ℕ) → Reaches nodes level pointer.child q → IsReached q items
  unfolding Reaches
  branch-reached zero pointer items pointed branch q reaches = reached_itself 0 pointer items pointed branch q reaches
  branch-reached (suc level) pointer items pointed branch q (inl here) =
      reached_itself (suc level) pointer items pointed branch q here
  branch-reached (suc level) pointer items pointed branch q (inr (node, is, place, below, there, reaches)) =
      let under = branch-below tree super nodes level pointer.child items branch node is place below there in
      reached_within q under.0 items (branch-reached level below under.0 under.2 under.3 q reaches) under.1

  reached_apart : (q : ℕ) (first others : List Item) → is_ascending (keys_of (first ++ others)) ≡ true
      → IsReached q first → IsReached q others → ⊥
  reached_apart q first others ascending here there =
      let top = branch-top tree super nodes here.level q here.mine here.branch in
      let other = branch-top tree super nodes there.level q there.mine there.branch in
      let node : top.0 ≡ other.0 = let e = sym top.1 ∙ other.1 in cc in
      let level : there.level ≡ here.level = sym other.2 ∙ sym (ap (λ (n : Node). (header_of n).level) node) ∙ top.2 in
      let same : there.mine ≡ here.mine =
      branch-one tree super nodes here.level q there.mine here.mine
      (subst (λ (l : ℕ). IsBranch tree super nodes l q there.mine) level there.branch) here.branch in
      apart first others ascending here.key here.mine here.begins here.row
      (subst (λ (xs : List Item). IsRow xs others) same there.row)

  -- ---- two pointers

  first_apart : (level : ℕ) (pointer : Pointer) (pointers : List Pointer) (items : List Item)
      → AreBranches tree super nodes level (pointer ∷ pointers) items
      → is_ascending (keys_of items) ≡ true → (place : ℕ) (other : Pointer) → slice_get pointers place ≡ Some other
      → (q : ℕ) → Reaches nodes level pointer.child q → Reaches nodes level other.child q → ⊥
  first_apart level pointer pointers items each ascending place other there q reaches reaches' =
      let found = each-get (λ pointer under. IsPointed super nodes pointer
      × IsBranch tree super nodes level pointer.child under) pointers each.1 each.4 place other there in
      reached_apart q each.0 each.1 (subst (λ (xs : List Item). is_ascending (keys_of xs) ≡ true) each.2 ascending)
      (branch-reached level pointer each.0 each.3.0 each.3.1 q reaches)
      (reached_within q found.0 each.1 (branch-reached level other found.0 found.2.0 found.2.1 q reaches') found.1)

  pub branches-apart : (level : ℕ) (pointers : List Pointer) (items : List Item)
      → AreBranches tree super nodes level pointers items → is_ascending (keys_of items) ≡ true
      → (i j : ℕ) (p r : Pointer) → slice_get pointers i ≡ Some p → slice_get pointers j ≡ Some r → (i ≡ j → ⊥)
      → (q : ℕ) → Reaches nodes level p.child q → Reaches nodes level r.child q → ⊥
  branches-apart level [] items each ascending i j p r here there differ q reaches reaches' = cc
  branches-apart level (pointer ∷ pointers) items each ascending zero zero p r here there differ q reaches reaches' =
      differ refl
  branches-apart level (pointer ∷ pointers) items each ascending zero (suc j) p r here there differ q reaches reaches' =
      let same : p ≡ pointer = cc in
      first_apart level pointer pointers items each ascending j r there q
      (subst (λ (x : Pointer). Reaches nodes level x.child q) same reaches) reaches'
  branches-apart level (pointer ∷ pointers) items each ascending (suc i) zero p r here there differ q reaches reaches' =
      let same : r ≡ pointer = cc in
      first_apart level pointer pointers items each ascending i p here q
      (subst (λ (x : Pointer). Reaches nodes level x.child q) same reaches') reaches
  branches-apart level (pointer ∷ pointers) items each ascending (suc i) (suc j) p r here there differ q reaches
      reaches' =
      branches-apart level pointers each.1 each.4 (ascending-others each.0 each.1 items each.2 ascending) i j p r here
      there (λ same. differ (ap suc same)) q reaches reaches'
