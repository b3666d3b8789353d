-- The nodes that trees reach fit where their items do: a pointer's key is that of an item, its generation its child's.
use Rattle.std.proofs.Common.{◌≡◌, ℕ, zero, suc, ◌^◌, ◌<◌, ◌≤◌, true, List, [], ◌∷◌, ◌++◌, Option, Some, None, arith}
use Rattle.std.proofs.Common.{refl, sym, ap, subst, ◌∙◌, inl, inr}
use Rattle.std.specs.Prelude.{◌==◌, ◌&&◌, nat_le, nat_lt, All, slice_get}
use Rattle.std.specs.List.{AllByRecursion, Contains}
use Rattle.std.proofs.lemmas.Bool.{and_parts, eqb-true, leb-true, ltb-true, or_cases}
use Rattle.std.proofs.lemmas.List.Elements.{All-contains, All-from_recursion, Contains-append_left}
use Rattle.std.proofs.lemmas.List.Elements.{Contains-append_right}
use Rattle.qg_device.specs.History.{History}
use Rattle.qg_num.specs.Key.{IsKey}
use Rattle.qg_num.specs.declared.key.Key.{Key}
use Rattle.qg_num.specs.declared.piece.Piece.{Piece}
use Rattle.qg_node.specs.declared.item.Item.{Item}
use Rattle.qg_node.specs.declared.pointer.Pointer.{Pointer}
use Rattle.qg_node.specs.declared.node.Header.{Header}
use Rattle.qg_node.specs.declared.node.Node.{Node}
use Rattle.qg_node.specs.declared.node.Node.TheVariants.{Leaf, Inner}
use Rattle.qg_node.specs.Fits.{HeaderFits, ItemFits, NodeFits, PointerFits}
use Rattle.qg_node.specs.Nodes.{header_of, own_pointers}
use Rattle.qg_super.specs.declared.superblock.Super.{Super}
use Rattle.qg_super.proofs.Served.{SizesFit-is_served}
use Rattle.qg_super.proofs.Slots.{slot_ends}
use Rattle.qg_image.specs.ItemMeaning.{is_subvolume_number}
use Rattle.qg_image.proofs.Contained.{contains_here}
use Rattle.qg_image.specs.declared.tree.TreeKind.TheVariants.{Files}
use Rattle.qg_image.specs.Walk.{is_generation}
use Rattle.qg_shared_trees.specs.Branch.{AreBranches, IsBranch, IsMember, IsPointed}
use Rattle.qg_shared_trees.specs.Tree.{Reaches, Root, super_of}
use Rattle.qg_shared_trees.proofs.Branches.{IsRow, branch-below, branch-first}
use Rattle.qg_shared_trees.proofs.Under.{BeginAt}
use Rattle.qg_fs_tree.specs.declared.fs_tree.FsTree.{FsTree}
use Rattle.qg_fs_tree.specs.Standing.{IsSubvolume, Stands, items_in, nodes_of, trees_of}
use Rattle.qg_fs_tree.proofs.Lists.{all-contained}
use Rattle.qg_fs_tree.proofs.Lying.{IsToldAt, told-at}
use Rattle.qg_fs_tree.proofs.Sound.{told-formed}
use Rattle.qg_shared_trees.specs.Laying.{AreFit, IsMet}
use Rattle.qg_shared_trees.proofs.Trees.{branch, met-slot, next-same}

-- ---- numbers

-- a subvolume's number fits
owner_fits : (owner : ℕ) → is_subvolume_number owner ≡ true → owner < 2 ^ 64
unfolding is_subvolume_number
owner_fits owner is = elim (or_cases (owner == 5) (nat_le 256 owner && nat_lt owner (2 ^ 48)) is) [
  | inl top ↦ let same : owner ≡ 5 = eqb-true owner 5 top in omega arith
  | inr free ↦
      let parts = and_parts (nat_le 256 owner) (nat_lt owner (2 ^ 48)) free in
      let low : owner < 2 ^ 48 = ltb-true owner (2 ^ 48) parts.1 in
      omega arith
]

-- a generation is none past the last
generation_low : (last generation : ℕ) → is_generation last None generation ≡ true → generation ≤ last
generation_low last generation is =
    leb-true generation last (and_parts (nat_lt 0 generation) (nat_le generation last) is).1

-- ---- items

-- each item fits
abbrev DoFit : List Item → Type 0
DoFit items = (item : Item) → Contains items item → ItemFits item

row_fit : (row whole : List Item) → IsRow row whole → DoFit whole → DoFit row
row_fit row whole is fit item has =
    let inside = Contains-append_right is.front (row ++ is.back) item (Contains-append_left row is.back item has) in
    fit item (subst (λ (items : List Item). Contains items item) (sym is.whole_is) inside)

begin_fits : (key : Key) (items : List Item) → BeginAt key items → DoFit items → IsKey key
begin_fits key [] begins fit = absurd begins
begin_fits key (item ∷ items) begins fit = subst IsKey begins (fit item (contains_here item items)).key

-- ---- a tree

module _ (super : Super) (nodes : ℕ → Option Node) (last : super.generation < 2 ^ 64)
    (placed : (q : ℕ) (node : Node) → nodes q ≡ Some node → IsToldAt q node) where
  branch_member : (level at : ℕ) (items : List Item) → IsBranch Files super nodes level at items → (node : Node)
      → nodes at ≡ Some node → IsMember Files super level (header_of node)
  unfolding IsBranch
  branch_member zero at items branch node there =
      let same : Leaf branch.0 items ≡ node = let e = sym branch.1 ∙ there in cc in
      subst (λ (n : Node). IsMember Files super 0 (header_of n)) same branch.2
  branch_member (suc level) at items branch node there =
      let same : Inner branch.0 branch.1 ≡ node = let e = sym branch.2 ∙ there in cc in
      subst (λ (n : Node). IsMember Files super (suc level) (header_of n)) same branch.3

  member_low : (level : ℕ) (header : Header) → IsMember Files super level header → header.generation < 2 ^ 64
  member_low level header member =
      let low = generation_low super.generation header.generation member.dated in
      omega (arith, low, last)

  header_fits : (level at : ℕ) (node : Node) → at < 2 ^ 64 → nodes at ≡ Some node
      → IsMember Files super level (header_of node) → HeaderFits (header_of node)
  header_fits level at node low there member =
      let told = placed at node there in
      let here = told.placed in
      let high = told.level in
      record {
        address = omega (arith, here, low);
        generation = member_low level (header_of node) member;
        owner = owner_fits (header_of node).owner member.owned;
        level = omega (arith, high);
      }

  pointer_fits : (level : ℕ) (pointer : Pointer) (under : List Item) → IsPointed super nodes pointer
      → IsBranch Files super nodes level pointer.child under → DoFit under → pointer.child < 2 ^ 64
      → PointerFits pointer
  pointer_fits level pointer under pointed below fit low =
      let member = branch_member level pointer.child under below pointed.node pointed.there in
      record {
        key = begin_fits pointer.key under (branch-first Files super nodes level pointer under pointed below) fit;
        child = low;
        generation = subst (λ (n : ℕ). n < 2 ^ 64) pointed.dated (member_low level (header_of pointed.node) member);
      }

  pointers_fit : (level : ℕ) (pointers : List Pointer) (items : List Item)
      → AreBranches Files super nodes level pointers items → DoFit items
      → ((place : ℕ) (pointer : Pointer) → slice_get pointers place ≡ Some pointer → pointer.child < 2 ^ 64)
      → AllByRecursion PointerFits pointers
  pointers_fit level [] items each fit low = tt
  pointers_fit level (pointer ∷ pointers) items each fit low =
      let whole = subst DoFit each.2 fit in
      let first = λ (item : Item) (has : Contains each.0 item).
      whole item (Contains-append_left each.0 each.1 item has) in
      let others = λ (item : Item) (has : Contains each.1 item).
      whole item (Contains-append_right each.0 each.1 item has) in (
        pointer_fits level pointer each.0 each.3.0 each.3.1 first (low 0 pointer refl),
        pointers_fit level pointers each.1 each.4 others (λ place other there. low (suc place) other there),
      )

  reached_itself : (level at : ℕ) → Reaches nodes level at at
  unfolding Reaches
  reached_itself zero at = refl
  reached_itself (suc level) at = inl refl

  -- what is reached from a pointer of a node is reached from the node
  reached_under : (level at : ℕ) (node : Node) → nodes at ≡ Some node → (place : ℕ) (pointer : Pointer)
      → slice_get (own_pointers node) place ≡ Some pointer → (q : ℕ) → Reaches nodes level pointer.child q
      → Reaches nodes (suc level) at q
  unfolding Reaches
  reached_under level at node there place pointer lies q below = inr (node, there, place, pointer, lies, below)

  node_fits : (level at : ℕ) (items : List Item) → IsBranch Files super nodes level at items → DoFit items
      → ((q : ℕ) → Reaches nodes level at q → q < 2 ^ 64) → (node : Node) → nodes at ≡ Some node → NodeFits node
  unfolding IsBranch
  node_fits zero at items branch fit low node there =
      let same : Leaf branch.0 items ≡ node = let e = sym branch.1 ∙ there in cc in
      let leaf = Leaf branch.0 items in
      subst NodeFits same (
        header_fits 0 at leaf (low at (reached_itself 0 at)) branch.1 branch.2,
        All-from_recursion ItemFits items (all-contained ItemFits items fit),
      )
  node_fits (suc level) at items branch fit low node there =
      let same : Inner branch.0 branch.1 ≡ node = let e = sym branch.2 ∙ there in cc in
      let inner = Inner branch.0 branch.1 in
      let child = λ (place : ℕ) (pointer : Pointer) (lies : slice_get branch.1 place ≡ Some pointer).
      low pointer.child (reached_under level at inner branch.2 place pointer lies pointer.child
      (reached_itself level pointer.child)) in
      subst NodeFits same (
        header_fits (suc level) at inner (low at (reached_itself (suc level) at)) branch.2 branch.3,
        All-from_recursion PointerFits branch.1 (pointers_fit level branch.1 items branch.4 fit child),
      )

  pub fits-under : (level at : ℕ) (items : List Item) → IsBranch Files super nodes level at items → DoFit items
      → ((q : ℕ) → Reaches nodes level at q → q < 2 ^ 64) → (q : ℕ) → Reaches nodes level at q → (node : Node)
      → nodes q ≡ Some node → NodeFits node
  unfolding Reaches
  fits-under zero at items branch fit low q reached node there =
      node_fits zero at items branch fit low node (ap nodes (sym reached) ∙ there)
  fits-under (suc level) at items branch fit low q (inl here) node there =
      node_fits (suc level) at items branch fit low node (ap nodes (sym here) ∙ there)
  fits-under (suc level) at items branch fit low q (inr (top, here, place, pointer, lies, below)) node there =
      let found = branch-below Files super nodes level at items branch top here place pointer lies in
      fits-under level pointer.child found.0 found.3 (row_fit found.0 items found.1 fit)
      (λ r reaches. low r (inr (top, here, place, pointer, lies, reaches))) q below node there

-- ---- as the law says it

-- a slot's address fits
met_low : (fs : FsTree) (history : History) (bytes : ℕ) (items : List Item)
    (names : List (ℕ × Piece)) → IsSubvolume fs history bytes → Stands fs history items names → (q : ℕ)
    → IsMet fs history q → q < 2 ^ 64
met_low fs history bytes items names subvolume stands q met =
    let sizes = SizesFit-is_served fs.land.space.sizes subvolume.editable.drafted.sizes.served in
    let ends = slot_ends fs.land.space.sizes q sizes
    (met-slot fs history bytes items names subvolume stands q met) in
    omega (arith, ends)

pub nodes-fit : (fs : FsTree) (history : History) (bytes : ℕ) (items : List Item)
    (names : List (ℕ × Piece)) → IsSubvolume fs history bytes → Stands fs history items names
    → fs.tree.next < 2 ^ 64
    → ((tree : Root) → Contains (trees_of fs) tree → All ItemFits (items_in fs history tree)) → AreFit fs history
nodes-fit fs history bytes items names subvolume stands next fit q node met is =
    let low = subst (λ (n : ℕ). n < 2 ^ 64)
    (sym (next-same fs history bytes items names subvolume stands met.tree met.among)) next in
    record {
      sound = told-formed fs.land history fs.tree.next subvolume.editable.drafted q node is;
      fits = fits-under (super_of met.tree fs.land.blocks.draft) (nodes_of fs history) low
          (told-at fs.land history fs.tree.next subvolume.editable.drafted) met.tree.height met.tree.address
          (items_in fs history met.tree)
          (branch fs history bytes items names subvolume stands met.tree met.among)
          (λ item has. All-contains ItemFits (items_in fs history met.tree) item (fit met.tree met.among) has)
          (λ r reached. met_low fs history bytes items names subvolume stands r
          (record { tree = met.tree; among = met.among; reached = reached })) q met.reached node is;
    }
