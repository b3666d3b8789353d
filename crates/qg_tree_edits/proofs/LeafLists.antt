-- The items of each leaf under a node.
use Rattle.std.proofs.Common.{◌≡◌, ℕ, zero, suc, ◌*◌, ◌≤◌, true, List, [], ◌∷◌, ◌++◌, length, append_assoc, arith, refl}
use Rattle.std.proofs.Common.{sym, ap, ◌∙◌, inl, inr, Option, Some, None}
use Rattle.std.specs.Prelude.{nat_le, slice_get}
use Rattle.std.proofs.lemmas.Bool.{leb-true}
use Rattle.std.proofs.lemmas.List.{length-append}
use Rattle.qg_num.specs.declared.key.Key.{Key}
use Rattle.qg_node.specs.declared.item.Item.{Item}
use Rattle.qg_node.specs.declared.pointer.Pointer.{Pointer}
use Rattle.qg_node.specs.declared.node.Header.{Header}
use Rattle.qg_node.specs.declared.node.Node.{Node}
use Rattle.qg_node.specs.declared.node.Node.TheVariants.{Leaf, Inner}
use Rattle.qg_node.specs.Nodes.{own_keys, own_pointers, used_bytes}
use Rattle.qg_node.specs.NodeText.{IsNodeSize}
use Rattle.qg_super.specs.declared.superblock.Super.{Super}
use Rattle.qg_super.specs.Places.{capacity}
use Rattle.qg_image.specs.IsShaped.{is_first}
use Rattle.qg_image.specs.declared.tree.TreeKind.{TreeKind}
use Rattle.qg_tree_edits.specs.First.{items_of, leaves, leaves_behind, leaves_joined, leaves_under, pointers_of}
use Rattle.qg_tree_read.specs.Tree.{Reaches}
use Rattle.qg_tree_read.specs.Branch.{AreBranches, IsBranch, IsPointed}
use Rattle.qg_tree_read.proofs.Branches.{each-get}

-- ---- under pointers

pub under-append : (under : ℕ → List (List Item)) (xs ys : List Pointer)
    → leaves_under under (xs ++ ys) ≡ leaves_under under xs ++ leaves_under under ys
under-append under [] ys = refl
under-append under (pointer ∷ xs) ys =
    ap (λ (ls : List (List Item)). under pointer.child ++ ls) (under-append under xs ys)
    ∙ sym (append_assoc (under pointer.child) (leaves_under under xs) (leaves_under under ys))

pub under-same : (under other : ℕ → List (List Item)) (pointers : List Pointer)
    → ((place : ℕ) (pointer : Pointer) → slice_get pointers place ≡ Some pointer
    → other pointer.child ≡ under pointer.child)
    → leaves_under other pointers ≡ leaves_under under pointers
under-same under other [] same = refl
under-same under other (pointer ∷ pointers) same =
    ap (λ (ls : List (List Item)). ls ++ leaves_under other pointers) (same zero pointer refl)
    ∙ ap (λ (ls : List (List Item)). under pointer.child ++ ls)
    (under-same under other pointers (λ place p there. same (suc place) p there))

-- ---- under a node

pub leaves-alone : (nodes : ℕ → Option Node) (at : ℕ) (header : Header) (items : List Item)
    → nodes at ≡ Some (Leaf header items) → leaves nodes 0 at ≡ items ∷ []
unfolding leaves
leaves-alone nodes at header items is = ap (λ (o : Option Node). items_of o ∷ []) is

pub leaves-inner : (nodes : ℕ → Option Node) (level at : ℕ) (header : Header) (pointers : List Pointer)
    → nodes at ≡ Some (Inner header pointers)
    → leaves nodes (suc level) at ≡ leaves_under (λ child. leaves nodes level child) pointers
unfolding leaves
leaves-inner nodes level at header pointers is =
    ap (λ (o : Option Node). leaves_under (λ child. leaves nodes level child) (pointers_of o)) is

told_same : (under : ℕ → List (List Item)) (o : Option Node) (other : ℕ → List (List Item))
    → ((node : Node) → o ≡ Some node → (place : ℕ) (pointer : Pointer)
    → slice_get (own_pointers node) place ≡ Some pointer → other pointer.child ≡ under pointer.child)
    → leaves_under other (pointers_of o) ≡ leaves_under under (pointers_of o)
told_same under None other same = refl
told_same under (Some node) other same = under-same under other (own_pointers node) (same node refl)

-- they are the same, where what is reached is told as before
pub leaves-same : (nodes nodes' : ℕ → Option Node) (level at : ℕ)
    → ((q : ℕ) → Reaches nodes level at q → nodes' q ≡ nodes q) → leaves nodes' level at ≡ leaves nodes level at
unfolding leaves Reaches
leaves-same nodes nodes' zero at same = ap (λ (o : Option Node). items_of o ∷ []) (same at refl)
leaves-same nodes nodes' (suc level) at same =
    ap (λ (o : Option Node). leaves_under (λ child. leaves nodes' level child) (pointers_of o)) (same at (inl refl))
    ∙ told_same (λ child. leaves nodes level child) (nodes at) (λ child. leaves nodes' level child)
    (λ node is place pointer there. leaves-same nodes nodes' level pointer.child
    (λ q reaches. same q (inr (node, is, place, pointer, there, reaches))))

-- ---- how many there are

pub under-length : (under : ℕ → List (List Item)) (pointers : List Pointer)
    → ((place : ℕ) (pointer : Pointer) → slice_get pointers place ≡ Some pointer → 1 ≤ length (under pointer.child))
    → length pointers ≤ length (leaves_under under pointers)
under-length under [] some = omega arith
under-length under (pointer ∷ pointers) some =
    let first = some zero pointer refl in
    let rest = under-length under pointers (λ place p there. some (suc place) p there) in
    let whole = length-append (under pointer.child) (leaves_under under pointers) in
    omega (arith, first, rest, whole)

has_first : (key : Key) (header : Header) (pointers : List Pointer)
    → is_first key (own_keys (Inner header pointers)) ≡ true → 1 ≤ length pointers
has_first key header [] first = absurd cc
has_first key header (pointer ∷ pointers) first = omega arith

two_full : (size : ℕ) (pointers : List Pointer) → IsNodeSize size
    → nat_le (capacity size) (4 * (33 * length pointers)) ≡ true → 2 ≤ length pointers
two_full size pointers sized full =
    let bytes = leb-true (capacity size) (4 * (33 * length pointers)) full in
    elim sized [ inl small ↦ omega (arith, bytes, small) | inr large ↦ omega (arith, bytes, large) ]

module _ (tree : TreeKind) (super : Super) (nodes : ℕ → Option Node) where
  Leads : ℕ → Pointer → List Item → Type 0
  Leads level pointer under = IsPointed super nodes pointer × IsBranch tree super nodes level pointer.child under

  inner_is : (pointer : Pointer) (header : Header) (pointers : List Pointer)
      → nodes pointer.child ≡ Some (Inner header pointers)
      → (pointed : IsPointed super nodes pointer) → pointed.node ≡ Inner header pointers
  inner_is pointer header pointers is pointed = let e = sym pointed.there ∙ is in cc

  -- where a pointer leads there is one at least
  pub leaves-some : (level : ℕ) (pointer : Pointer) (items : List Item) → IsPointed super nodes pointer
      → IsBranch tree super nodes level pointer.child items → 1 ≤ length (leaves nodes level pointer.child)
  unfolding leaves IsBranch Leads
  leaves-some zero pointer items pointed branch = omega arith
  leaves-some (suc level) pointer items pointed branch =
      let same = inner_is pointer branch.0 branch.1 branch.2 pointed in
      let first = ap (λ (n : Node). is_first pointer.key (own_keys n)) (sym same) ∙ pointed.first in
      let some = has_first pointer.key branch.0 branch.1 first in
      let many = under-length (λ child. leaves nodes level child) branch.1
      (λ place p there.
      let found = each-get (Leads level) branch.1 items branch.4 place p there in
      leaves-some level p found.0 found.2.0 found.2.1) in
      let whole = ap length (leaves-inner nodes level pointer.child branch.0 branch.1 branch.2) in
      omega (arith, some, many, whole)

  -- under some pointers there are as many as they are, at least
  pub under-some : (level : ℕ) (pointers : List Pointer) (items : List Item)
      → AreBranches tree super nodes level pointers items
      → length pointers ≤ length (leaves_under (λ child. leaves nodes level child) pointers)
  unfolding Leads
  under-some level pointers items each =
      under-length (λ child. leaves nodes level child) pointers
      (λ place p there.
      let found = each-get (Leads level) pointers items each place p there in
      leaves-some level p found.0 found.2.0 found.2.1)

  -- where a pointer leads to a node with pointers there are two at least
  pub leaves-two : (level : ℕ) (pointer : Pointer) (items : List Item) → IsNodeSize super.nodesize
      → IsPointed super nodes pointer
      → IsBranch tree super nodes (suc level) pointer.child items → 2 ≤ length (leaves nodes (suc level) pointer.child)
  unfolding IsBranch
  leaves-two level pointer items size pointed branch =
      let same = inner_is pointer branch.0 branch.1 branch.2 pointed in
      let full = ap (λ (n : Node). nat_le (capacity super.nodesize) (4 * used_bytes n)) (sym same) ∙ pointed.full in
      let two = two_full super.nodesize branch.1 size full in
      let many = under-some level branch.1 items branch.4 in
      let whole = ap length (leaves-inner nodes level pointer.child branch.0 branch.1 branch.2) in
      omega (arith, two, many, whole)

-- ---- all but the first one

pub behind-append : (xs ys : List (List Item)) → 2 ≤ length xs → leaves_behind xs ++ ys ≡ leaves_behind (xs ++ ys)
behind-append [] ys two = absurd (omega (arith, two))
behind-append (leaf ∷ []) ys two = absurd (omega (arith, two))
behind-append (leaf ∷ other ∷ xs) ys two = refl

pub behind-one : (leaf : List Item) (ys : List (List Item)) → 1 ≤ length ys → ys ≡ leaves_behind (leaf ∷ ys)
behind-one leaf [] some = absurd (omega (arith, some))
behind-one leaf (other ∷ ys) some = refl

pub joined-append : (level : ℕ) (xs ys zs : List (List Item))
    → leaves_joined level xs (ys ++ zs) ≡ leaves_joined level xs ys ++ zs
joined-append zero xs ys zs = refl
joined-append (suc level) xs ys zs = sym (append_assoc xs ys zs)

-- those of a node, once its first child's were joined with the others'
pub joined-behind : (nodes : ℕ → Option Node) (level at : ℕ) (others : List (List Item)) → 1 ≤ length others
    → (1 ≤ level → 2 ≤ length (leaves nodes level at))
    → leaves_joined level (leaves_behind (leaves nodes level at)) others ≡ leaves_behind
    (leaves nodes level at ++ others)
unfolding leaves
joined-behind nodes zero at others some two = behind-one (items_of (nodes at)) others some
joined-behind nodes (suc level) at others some two =
    behind-append (leaves nodes (suc level) at) others (two (omega arith))

-- a leaf alone leaves an empty one
pub behind-leaf : (nodes : ℕ → Option Node) (level at : ℕ) → level ≡ 0 → leaves_behind (leaves nodes level at) ≡ [] ∷ []
unfolding leaves
behind-leaf nodes zero at low = refl
behind-leaf nodes (suc level) at low = absurd (omega (arith, low))

-- ---- those of what stands in a second place

-- none where nothing does
abbrev pub leaves_more : (ℕ → List (List Item)) → Option ℕ → List (List Item)
leaves_more under None = []
leaves_more under (Some more) = under more
