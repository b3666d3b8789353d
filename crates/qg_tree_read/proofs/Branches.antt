-- Pointers one by one, and what a branch is: its node, the levels in it, and the items under it.
use Rattle.std.proofs.Common.{◌≡◌, ℕ, zero, suc, ◌≤◌, true, List, [], ◌∷◌, ◌++◌, map, arith, refl, sym, ap, subst, ◌∙◌}
use Rattle.std.proofs.Common.{append_assoc, Option, Some, inl, inr}
use Rattle.std.specs.Prelude.{slice_get}
use Rattle.qg_num.specs.declared.key.Key.{Key}
use Rattle.qg_node.specs.declared.item.Item.{Item}
use Rattle.qg_node.specs.declared.pointer.Pointer.{Pointer}
use Rattle.qg_node.specs.declared.node.Node.{Node}
use Rattle.qg_node.specs.declared.node.Node.TheVariants.{Leaf, Inner}
use Rattle.qg_node.specs.Nodes.{header_of, own_keys, own_pointers}
use Rattle.qg_super.specs.declared.superblock.Super.{Super}
use Rattle.qg_blocks.specs.IsShaped.{is_first}
use Rattle.qg_blocks.specs.Types.{TreeKind}
use Rattle.qg_walk.proofs.KeyRanges.{same_key-true}
use Rattle.qg_tree_read.specs.Branch.{AreBranches, IsBranch, IsPointed, UnderEach}
use Rattle.qg_tree_read.specs.Tree.{Reaches}
use Rattle.qg_tree_read.proofs.Under.{BeginAt}

-- ---- pointers, one by one

pub each-append : (Under : Pointer → List Item → Type 0) (xs ys : List Pointer) (items : List Item)
    → UnderEach Under (xs ++ ys) items
    → (a : List Item) × (b : List Item) × (items ≡ a ++ b) × UnderEach Under xs a × UnderEach Under ys b
each-append Under [] ys items each = ([], items, refl, refl, each)
each-append Under (pointer ∷ xs) ys items each =
    let rest = each-append Under xs ys each.1 each.4 in (
      each.0 ++ rest.0,
      rest.1,
      each.2 ∙ ap (λ (zs : List Item). each.0 ++ zs) rest.2
          ∙ sym (append_assoc each.0 rest.0 rest.1),
      (each.0, rest.0, refl, each.3, rest.3),
      rest.4,
    )

pub each-join : (Under : Pointer → List Item → Type 0) (xs ys : List Pointer) (a b : List Item) → UnderEach Under xs a
    → UnderEach Under ys b → UnderEach Under (xs ++ ys) (a ++ b)
each-join Under [] ys a b each other = subst (λ (zs : List Item). UnderEach Under ys (zs ++ b)) (sym each) other
each-join Under (pointer ∷ xs) ys a b each other = (
  each.0,
  each.1 ++ b,
  ap (λ (zs : List Item). zs ++ b) each.2
      ∙ append_assoc each.0 each.1 b,
  each.3,
  each-join Under xs ys each.1 b each.4 other,
)

pub each-weaker : (P Q : Pointer → List Item → Type 0) (pointers : List Pointer) (items : List Item)
    → ((place : ℕ) (pointer : Pointer) (under : List Item) → slice_get pointers place ≡ Some pointer → P pointer under
    → Q pointer under)
    → UnderEach P pointers items → UnderEach Q pointers items
each-weaker P Q [] items weaker each = each
each-weaker P Q (pointer ∷ pointers) items weaker each = (
  each.0,
  each.1,
  each.2,
  weaker 0 pointer each.0 refl each.3,
  each-weaker P Q pointers each.1 (λ place other under there. weaker (suc place) other under there) each.4,
)

-- some items stand in a row among others
pub record IsRow (row whole : List Item) : Type 0 where
  pub front : List Item
  pub back : List Item
  pub whole_is : whole ≡ front ++ (row ++ back)

row_behind : (first row others : List Item) → IsRow row others → IsRow row (first ++ others)
row_behind first row others is = record {
  front = first ++ is.front;
  back = is.back;
  whole_is = ap (λ (zs : List Item). first ++ zs) is.whole_is ∙ sym (append_assoc first is.front (row ++ is.back));
}

-- the items under one of the pointers
pub each-get : (Under : Pointer → List Item → Type 0) (pointers : List Pointer) (items : List Item)
    → UnderEach Under pointers items
    → (place : ℕ) (pointer : Pointer) → slice_get pointers place ≡ Some pointer
    → (under : List Item) × IsRow under items × Under pointer under
each-get Under [] items each place pointer there = absurd cc
each-get Under (first ∷ pointers) items each zero pointer there =
    let same : first ≡ pointer = cc in (
      each.0,
      record { front = []; back = each.1; whole_is = each.2 },
      subst (λ (p : Pointer). Under p each.0) same
          each.3,
    )
each-get Under (first ∷ pointers) items each (suc place) pointer there =
    let rest = each-get Under pointers each.1 each.4 place pointer there in
    (rest.0, subst (λ (zs : List Item). IsRow rest.0 zs) (sym each.2) (row_behind each.0 rest.0 each.1 rest.1), rest.2)

-- ---- what a branch is

pub begin-front : (key : Key) (front back : List Item) → BeginAt key front → BeginAt key (front ++ back)
begin-front key [] back h = absurd h
begin-front key (item ∷ front) back h = h

begin_keys : (key : Key) (items : List Item) → is_first key (map (λ (item : Item). item.key) items) ≡ true
    → BeginAt key items
begin_keys key [] h = absurd cc
begin_keys key (item ∷ items) h = same_key-true item.key key h

module _ (tree : TreeKind) (super : Super) (nodes : ℕ → Option Node) where
  -- its node has its level
  pub branch-top : (level address : ℕ) (items : List Item) → IsBranch tree super nodes level address items
      → (node : Node) × (nodes address ≡ Some node) × ((header_of node).level ≡ level)
  unfolding IsBranch
  branch-top zero address items branch = (Leaf branch.0 items, branch.1, branch.2.levelled)
  branch-top (suc level) address items branch = (Inner branch.0 branch.1, branch.2, branch.3.levelled)

  -- an address that it reaches below its node is reached from a pointer of its node
  pub branch-below : (level address : ℕ) (items : List Item) → IsBranch tree super nodes (suc level) address items
      → (node : Node) → nodes address ≡ Some node
      → (place : ℕ) (pointer : Pointer) → slice_get (own_pointers node) place ≡ Some pointer
      → (under : List Item) × IsRow under items × IsPointed super nodes pointer
      × IsBranch tree super nodes level pointer.child under
  unfolding IsBranch
  branch-below level address items branch node is place pointer there =
      let same : node ≡ Inner branch.0 branch.1 = let e = sym is ∙ branch.2 in cc in
      let found = each-get (λ pointer under. IsPointed super nodes pointer
      × IsBranch tree super nodes level pointer.child under) branch.1 items branch.4
      place pointer (subst (λ (n : Node). slice_get (own_pointers n) place ≡ Some pointer) same there) in
      (found.0, found.1, found.2.0, found.2.1)

  -- no node in it is of a higher level
  pub branch-level : (level address : ℕ) (items : List Item) → IsBranch tree super nodes level address items → (q : ℕ)
      → Reaches nodes level address q
      → (node : Node) × (nodes q ≡ Some node) × ((header_of node).level ≤ level)
  unfolding Reaches
  branch-level zero address items branch q reaches =
      let top = branch-top zero address items branch in
      (top.0, ap nodes reaches ∙ top.1, omega (arith, top.2))
  branch-level (suc level) address items branch q (inl here) =
      let top = branch-top (suc level) address items branch in
      (top.0, ap nodes here ∙ top.1, omega (arith, top.2))
  branch-level (suc level) address items branch q (inr (node, is, place, pointer, there, reaches)) =
      let below = branch-below level address items branch node is place pointer there in
      let found = branch-level level pointer.child below.0 below.3 q reaches in
      (found.0, found.1, omega (arith, found.2))

  begins_each : (level : ℕ) → ((pointer : Pointer) (items : List Item) → IsPointed super nodes pointer
      → IsBranch tree super nodes level pointer.child items → BeginAt pointer.key items)
      → (key : Key) (pointers : List Pointer) (items : List Item) → AreBranches tree super nodes level pointers items
      → is_first key (map (λ (pointer : Pointer). pointer.key) pointers) ≡ true → BeginAt key items
  begins_each level begins key [] items each first = absurd cc
  begins_each level begins key (pointer ∷ pointers) items each first =
      let same = same_key-true pointer.key key first in
      let here = begins pointer each.0 each.3.0 each.3.1 in
      subst (λ (zs : List Item). BeginAt key zs) (sym each.2)
      (begin-front key each.0 each.1 (subst (λ (k : Key). BeginAt k each.0) same here))

  -- where its node begins at a key, so do its items
  pub branch-begins : (level address : ℕ) (items : List Item) → IsBranch tree super nodes level address items
      → (key : Key) (node : Node) → nodes address ≡ Some node
      → is_first key (own_keys node) ≡ true → BeginAt key items
  unfolding IsBranch
  branch-begins zero address items branch key node is first =
      let same : node ≡ Leaf branch.0 items = let e = sym is ∙ branch.1 in cc in
      begin_keys key items (subst (λ (n : Node). is_first key (own_keys n) ≡ true) same first)
  branch-begins (suc level) address items branch key node is first =
      let same : node ≡ Inner branch.0 branch.1 = let e = sym is ∙ branch.2 in cc in
      begins_each level (λ pointer under pointed below. branch-begins level pointer.child under below pointer.key
      pointed.node pointed.there pointed.first) key branch.1 items branch.4
      (subst (λ (n : Node). is_first key (own_keys n) ≡ true) same first)

  -- the items under a pointer begin at its key
  pub branch-first : (level : ℕ) (pointer : Pointer) (items : List Item) → IsPointed super nodes pointer
      → IsBranch tree super nodes level pointer.child items → BeginAt pointer.key items
  branch-first level pointer items pointed branch =
      branch-begins level pointer.child items branch pointer.key pointed.node pointed.there pointed.first

  -- and so do those under several pointers
  pub branches-first : (level : ℕ) (pointer : Pointer) (pointers : List Pointer) (items : List Item)
      → AreBranches tree super nodes level (pointer ∷ pointers) items
      → BeginAt pointer.key items
  branches-first level pointer pointers items each =
      subst (λ (xs : List Item). BeginAt pointer.key xs) (sym each.2)
      (begin-front pointer.key each.0 each.1 (branch-first level pointer each.0 each.3.0 each.3.1))

  -- one node tells one list of items
  one_each : (level : ℕ) → ((address : ℕ) (items others : List Item) → IsBranch tree super nodes level address items
      → IsBranch tree super nodes level address others → items ≡ others)
      → (pointers : List Pointer) (items others : List Item) → AreBranches tree super nodes level pointers items
      → AreBranches tree super nodes level pointers others → items ≡ others
  one_each level one [] items others each other = each ∙ sym other
  one_each level one (pointer ∷ pointers) items others each other =
      let first : each.0 ≡ other.0 = one pointer.child each.0 other.0 each.3.1 other.3.1 in
      let rest : each.1 ≡ other.1 = one_each level one pointers each.1 other.1 each.4 other.4 in
      each.2 ∙ ap (λ (zs : List Item). zs ++ each.1) first ∙ ap (λ (zs : List Item). other.0 ++ zs) rest ∙ sym other.2

  pub branch-one : (level address : ℕ) (items others : List Item) → IsBranch tree super nodes level address items
      → IsBranch tree super nodes level address others → items ≡ others
  unfolding IsBranch
  branch-one zero address items others branch other =
      let e = sym branch.1 ∙ other.1 in cc
  branch-one (suc level) address items others branch other =
      let same : branch.1 ≡ other.1 = let e = sym branch.2 ∙ other.2 in cc in
      one_each level (branch-one level) other.1 items others
      (subst (λ (ps : List Pointer). AreBranches tree super nodes level ps items) same branch.4) other.4
