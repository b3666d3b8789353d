-- What stands under a node that was owned.
use Rattle.std.proofs.Common.{◌≡◌, ◌≢◌, ◌⊎◌, ℕ, zero, suc, ◌<◌, true, List, arith, refl, sym, ap, subst, ◌∙◌, inl, inr}
use Rattle.std.proofs.Common.{Some, None}
use Rattle.std.specs.Prelude.{IsTrue, nat_le, nat_lt, slice_get}
use Rattle.std.proofs.lemmas.Bool.{and_from, le-leb}
use Rattle.qg_device.specs.History.{History}
use Rattle.qg_node.specs.declared.item.Item.{Item}
use Rattle.qg_node.specs.declared.pointer.Pointer.{Pointer}
use Rattle.qg_node.specs.declared.node.Header.{Header}
use Rattle.qg_node.specs.declared.node.Node.{Node}
use Rattle.qg_node.specs.declared.node.Node.TheVariants.{Leaf, Inner}
use Rattle.qg_node.specs.Nodes.{header_of, own_pointers}
use Rattle.qg_super.specs.declared.superblock.Super.{Super}
use Rattle.qg_image.specs.declared.expected.Expected.{Expected}
use Rattle.qg_image.specs.declared.tree.TreeKind.{TreeKind}
use Rattle.qg_image.specs.Walk.{is_generation}
use Rattle.qg_blocks.specs.NodesFound.{told}
use Rattle.qg_space.specs.Holding.{is_free_slot}
use Rattle.qg_node_alloc.specs.declared.ground.Ground.{Ground}
use Rattle.qg_node_alloc.specs.Tellings.{node_copy}
use Rattle.qg_node_alloc.proofs.Lands.{told-fresh_at}
use Rattle.qg_tree_read.specs.Tree.{Reaches, Root, super_of}
use Rattle.qg_tree_read.specs.Branch.{AreBranches, IsBranch, IsMember, IsPointed}
use Rattle.qg_tree_edits.specs.Editing.{CanMake, IsOwned}
use Rattle.qg_tree_read.proofs.Branches.{branch-level, each-get}
use Rattle.qg_tree_read.proofs.BranchFrames.{branches-same, reach-same}

-- ---- a node of the generation to come

pub generation_next : (next : ℕ) → 0 < next → is_generation next None next ≡ true
generation_next next some = and_from (nat_lt 0 next) (nat_le next next) (le-leb 1 next (omega (arith, some)))
    (le-leb next next (omega arith))

pub member_made : (tree : TreeKind) (root : Root) (land : Ground) (level : ℕ) (header : Header) → CanMake tree root
    → header.level ≡ level → header.owner ≡ root.owner → header.generation ≡ root.next
    → IsMember tree (super_of root land.blocks.draft) level header
member_made tree root land level header makes levelled owner generation = record {
  levelled = levelled;
  owned = rw owner makes.owner;
  dated = rw generation (generation_next root.next makes.next);
}

copy_leaf : (header : Header) (items : List Item) (node mine : Node) (now owner generation : ℕ)
    → node ≡ Leaf header items → mine ≡ node_copy node now owner generation
    → mine ≡ Leaf (record { address = now; generation = generation; owner = owner; level = header.level }) items
copy_leaf header items node mine now owner generation node_is is = is
    ∙ ap (λ (n : Node). node_copy n now owner generation) node_is

copy_inner : (header : Header) (pointers : List Pointer) (node mine : Node) (now owner generation : ℕ)
    → node ≡ Inner header pointers → mine ≡ node_copy node now owner generation
    → mine ≡ Inner (record { address = now; generation = generation; owner = owner; level = header.level }) pointers
copy_inner header pointers node mine now owner generation node_is is = is
    ∙ ap (λ (n : Node). node_copy n now owner generation) node_is

module _ (tree : TreeKind) (root : Root) (land new : Ground) (history : History) (expected : Expected)
    (at now : ℕ) (owned : IsOwned tree root land new history expected at now)
    (makes : CanMake tree root) where
  -- what is told of it
  pub mine-told : told new.blocks.draft history now ≡ Some owned.mine
  mine-told = told-fresh_at new.blocks.draft history now owned.mine owned.here

  pub mine-leaf : (header : Header) (items : List Item) → told land.blocks.draft history at ≡ Some (Leaf header items)
      → header.level ≡ 0
      → (mine : Header) × (owned.mine ≡ Leaf mine items) × (IsMember tree (super_of root land.blocks.draft) 0 header
      → IsMember tree (super_of root land.blocks.draft) 0 mine)
  mine-leaf header items there low =
      let one : owned.node ≡ Leaf header items = sym (owned.alone (Leaf header items) there) in
      elim owned.same [
        | inl kept ↦ (header, kept.0 ∙ one, λ member. member)
        | inr copied ↦
            let made : Header = record {
              address = now;
              generation = root.next;
              owner = root.owner;
              level = header.level;
            } in (
              made,
              copy_leaf header items owned.node owned.mine now root.owner root.next one copied.0,
              λ member.
                  member_made tree root land 0 made makes low refl refl,
            )
      ]

  pub mine-inner : (level : ℕ) (header : Header) (pointers : List Pointer)
      → told land.blocks.draft history at ≡ Some (Inner header pointers) → header.level ≡ level
      → (mine : Header) × (owned.mine ≡ Inner mine pointers)
      × (IsMember tree (super_of root land.blocks.draft) level header
      → IsMember tree (super_of root land.blocks.draft) level mine)
  mine-inner level header pointers there high =
      let one : owned.node ≡ Inner header pointers = sym (owned.alone (Inner header pointers) there) in
      elim owned.same [
        | inl kept ↦ (header, kept.0 ∙ one, λ member. member)
        | inr copied ↦
            let made : Header = record {
              address = now;
              generation = root.next;
              owner = root.owner;
              level = header.level;
            } in (
              made,
              copy_inner header pointers owned.node owned.mine now root.owner root.next one copied.0,
              λ member.
                  member_made tree root land level made makes high refl refl,
            )
      ]

  -- a node is not reached below itself
  pub below-top : (super : Super) (level : ℕ) (header : Header) (pointers : List Pointer) (items : List Item)
      → told land.blocks.draft history at ≡ Some (Inner header pointers) → header.level ≡ suc level
      → AreBranches tree super (told land.blocks.draft history) level pointers items
      → (place : ℕ) (pointer : Pointer) → slice_get pointers place ≡ Some pointer → (q : ℕ)
      → Reaches (told land.blocks.draft history) level pointer.child q → q ≢ at
  below-top super level header pointers items here high each place pointer there q reaches same =
      let under = each-get (λ (p : Pointer) (xs : List Item). IsPointed super (told land.blocks.draft history) p
      × IsBranch tree super (told land.blocks.draft history) level p.child xs)
      pointers items each place pointer there in
      let low = branch-level tree super (told land.blocks.draft history) level pointer.child under.0 under.2.1 q
      reaches in
      let is : Some low.0 ≡ Some (Inner header pointers) = sym low.1 ∙ ap (told land.blocks.draft history) same
      ∙ here in
      let one : low.0 ≡ Inner header pointers = cc in
      let level_is : (header_of low.0).level ≡ suc level = ap (λ (n : Node). (header_of n).level) one ∙ high in
      let upto = low.2 in
      omega (arith, level_is, upto)

  -- nothing that is reached below the node is the one that is owned
  pub below-apart : (level : ℕ) (header : Header) (pointers : List Pointer) (items : List Item)
      → told land.blocks.draft history at ≡ Some (Inner header pointers) → header.level ≡ suc level
      → AreBranches tree (super_of root land.blocks.draft) (told land.blocks.draft history) level pointers items
      → ((q : ℕ) → IsTrue (is_free_slot land.space q) → Reaches (told land.blocks.draft history) (suc level) at q → ⊥)
      → (place : ℕ) (pointer : Pointer) → slice_get pointers place ≡ Some pointer → (q : ℕ)
      → Reaches (told land.blocks.draft history) level pointer.child q → q ≢ now
  unfolding Reaches
  below-apart level header pointers items here high each free place pointer there q reaches same = elim owned.same [
    | inl kept ↦ below-top (super_of root land.blocks.draft) level header pointers items here high each place pointer
        there q reaches (same ∙ kept.1)
    | inr copied ↦ free q (subst (λ (a : ℕ). IsTrue (is_free_slot land.space a)) (sym same) copied.1)
        (inr (Inner header pointers, here, place, pointer, there, reaches))
  ]

  -- the same items are under it
  pub owned-branch : (level : ℕ) (items : List Item)
      → IsBranch tree (super_of root land.blocks.draft) (told land.blocks.draft history) level at items
      → ((q : ℕ) → IsTrue (is_free_slot land.space q) → Reaches (told land.blocks.draft history) level at q → ⊥)
      → IsBranch tree (super_of root land.blocks.draft) (told new.blocks.draft history) level now items
  unfolding IsBranch
  owned-branch zero items branch free =
      let leaf = mine-leaf branch.0 items branch.1 branch.2.levelled in
      (leaf.0, mine-told ∙ ap Some leaf.1, leaf.2 branch.2)
  owned-branch (suc level) items branch free =
      let inner = mine-inner (suc level) branch.0 branch.1 branch.2 branch.3.levelled in (
        inner.0,
        branch.1,
        mine-told ∙ ap Some inner.1,
        inner.2 branch.3,
        branches-same tree (super_of root land.blocks.draft) (told land.blocks.draft history)
            (told new.blocks.draft history) level branch.1 items branch.4
            (λ place pointer there q reaches. owned.others history q
            (below-apart level branch.0 branch.1 items branch.2 branch.3.levelled branch.4 free place pointer there
            q reaches)),
      )

  -- and the same is reached from it, but for itself
  pub owned-reach : (level : ℕ) (items : List Item)
      → IsBranch tree (super_of root land.blocks.draft) (told land.blocks.draft history) level at items
      → ((q : ℕ) → IsTrue (is_free_slot land.space q) → Reaches (told land.blocks.draft history) level at q → ⊥)
      → (q : ℕ) → Reaches (told new.blocks.draft history) level now q
      → (q ≡ now) ⊎ (Reaches (told land.blocks.draft history) level at q × (q ≢ at))
  unfolding IsBranch Reaches
  owned-reach zero items branch free q reaches = inl reaches
  owned-reach (suc level) items branch free q (inl here) = inl here
  owned-reach (suc level) items branch free q (inr (node, is, place, pointer, there, reaches)) =
      let inner = mine-inner (suc level) branch.0 branch.1 branch.2 branch.3.levelled in
      let one : Some node ≡ Some (Inner inner.0 branch.1) = sym is ∙ mine-told ∙ ap Some inner.1 in
      let same : node ≡ Inner inner.0 branch.1 = cc in
      let at_place : slice_get branch.1 place ≡ Some pointer =
      subst (λ (n : Node). slice_get (own_pointers n) place ≡ Some pointer) same there in
      let was = reach-same (told land.blocks.draft history) (told new.blocks.draft history) level pointer.child
      (λ r below. owned.others history r
      (below-apart level branch.0 branch.1 items branch.2 branch.3.levelled branch.4 free place pointer at_place r
      below)) q reaches in
      inr (
        inr (Inner branch.0 branch.1, branch.2, place, pointer, at_place, was),
        below-top (super_of root land.blocks.draft) level branch.0 branch.1 items branch.2 branch.3.levelled branch.4
            place pointer at_place q was,
      )
