-- A child that is not a quarter full, and its neighbour, which was owned: what both reach, and what else is told then.
use Rattle.std.proofs.Common.{◌≡◌, ◌≢◌, ◌⊎◌, ℕ, ◌+◌, ◌*◌, ◌≤◌, ◌<◌, List, arith, sym, ap, subst, ◌∙◌, inl, inr, Option}
use Rattle.std.proofs.Common.{Some}
use Rattle.std.specs.Prelude.{IsTrue, slice_get}
use Rattle.std.proofs.lemmas.Bool.{leb-true}
use Rattle.qg_device.specs.History.{History}
use Rattle.qg_num.specs.declared.key.Key.{Key}
use Rattle.qg_node.specs.declared.item.Item.{Item}
use Rattle.qg_node.specs.declared.pointer.Pointer.{Pointer}
use Rattle.qg_node.specs.Nodes.{used_bytes}
use Rattle.qg_super.specs.Places.{capacity}
use Rattle.qg_image.specs.declared.tree.TreeKind.{TreeKind}
use Rattle.qg_blocks.specs.NodesFound.{told}
use Rattle.qg_space.specs.Holding.{is_free_slot}
use Rattle.qg_node_alloc.specs.declared.ground.Ground.{Ground}
use Rattle.qg_node_alloc.specs.Land.{IsDrafted, Rests}
use Rattle.qg_tree_edits.specs.declared.pairing.Pair.{Pair}
use Rattle.qg_tree_read.specs.Tree.{Reaches, Root, super_of}
use Rattle.qg_tree_read.specs.Branch.{IsBranch, IsPointed}
use Rattle.qg_tree_edits.specs.Editing.{CanMake, FillsThere, IsOwned, IsUnsettled, ReachesParts, alone}
use Rattle.qg_tree_edits.specs.Uniting.{IsPaired}
use Rattle.qg_tree_edits.proofs.Beside.{beside-differs, other-branch}
use Rattle.qg_tree_read.proofs.BranchFrames.{reach-same, reach-top}
use Rattle.qg_tree_edits.proofs.OwnedBranch.{mine-told, owned-reach}
use Rattle.qg_tree_edits.proofs.Paired.{owned-used}
use Rattle.qg_tree_edits.proofs.PairedHolds.{child-apart, free-there, other-apart, owned-there}
use Rattle.qg_tree_edits.proofs.Placed.{fresh-taken}
use Rattle.qg_tree_edits.proofs.Served.{node-drafted}

module _ (tree : TreeKind) (root : Root) (land new : Ground) (history later : History) (level at : ℕ)
    (to : Option Key) (place child : ℕ) (items : List Item)
    (un : IsUnsettled tree root land history level at to place (alone child) items) (pair : Pair)
    (is : IsPaired tree root land new history un.pointers to level place child pair) (makes : CanMake tree root)
    (drafted : IsDrafted land root.next) (rests : Rests land new later root.next) where
  there : IsOwned tree root land new history is.beside.way.expected is.is.way.pointer.child is.now
  there = owned-there tree root land new history level at to place child items un pair is makes

  differs : is.is.other ≢ place
  differs = beside-differs un.pointers to level place is.beside is.is

  apart_child : (is.is.other < place) ⊎ (place + 1 ≤ is.is.other)
  apart_child = elim is.is.pair [
    | inl behind ↦ inr (let a = behind.1 in omega (arith, a))
    | inr front ↦ inl (let a = front.0 in let b = front.1 in omega (arith, a, b))
  ]

  -- the neighbour, and what was under it
  beside_is : (under : List Item) × IsPointed (super_of root land.blocks.draft) (told land.blocks.draft history)
      is.is.way.pointer × IsBranch tree (super_of root land.blocks.draft) (told land.blocks.draft history) level
      is.is.way.pointer.child under
  beside_is = other-branch tree root land history level at to place (alone child) items un is.is.other is.is.way.pointer
      apart_child is.is.way.there

  -- an address below the neighbour's pointer is reached
  beside_parts : (q : ℕ) → Reaches (told land.blocks.draft history) level is.is.way.pointer.child q
      → ReachesParts (told land.blocks.draft history) level un.pointers place (alone child) q
  beside_parts q reaches = inr (is.is.other, is.is.way.pointer, differs, is.is.way.there, reaches)

  child_parts : (q : ℕ) → Reaches (told land.blocks.draft history) level child q
      → ReachesParts (told land.blocks.draft history) level un.pointers place (alone child) q
  child_parts q reaches = inl (inl reaches)

  -- where the neighbour is owned was reached, or was free
  now_parts : (q : ℕ) → q ≡ is.now → ReachesParts (told land.blocks.draft history) level un.pointers place
      (alone child) q ⊎ IsTrue (is_free_slot land.space q)
  now_parts q same = elim there.same [
    | inl kept ↦
        inl (beside_parts q (subst (λ (a : ℕ). Reaches (told land.blocks.draft history) level is.is.way.pointer.child a)
        (sym (same ∙ kept.1))
        (reach-top (told land.blocks.draft history) level is.is.way.pointer.child)))
    | inr copied ↦ inr (subst (λ (a : ℕ). IsTrue (is_free_slot land.space a)) (sym same) copied.1)
  ]

  child_was : (q : ℕ) → Reaches (told new.blocks.draft history) level child q
      → Reaches (told land.blocks.draft history) level child q
  child_was =
      reach-same (told land.blocks.draft history) (told new.blocks.draft history) level child
      (λ q reaches. there.others history q
      (child-apart tree root land new history level at to place child items un pair is makes q reaches))

  now_was : (q : ℕ) → Reaches (told new.blocks.draft history) level is.now q
      → (q ≡ is.now) ⊎ (Reaches (told land.blocks.draft history) level is.is.way.pointer.child q
      × (q ≢ is.is.way.pointer.child))
  now_was =
      owned-reach tree root land new history is.beside.way.expected is.is.way.pointer.child is.now there makes level
      beside_is.0 beside_is.2
      (free-there tree root land new history level at to place child items un pair is makes)

  -- which of the two an address is reached from
  either : (P : Type 0) (q : ℕ) → (Reaches (told new.blocks.draft history) level child q → P)
      → (Reaches (told new.blocks.draft history) level is.now q → P)
      → Reaches (told new.blocks.draft history) level pair.left q
      ⊎ Reaches (told new.blocks.draft history) level pair.right q → P
  either P q of_child of_now reaches = elim is.sides [
    | inl behind ↦ elim reaches [
      | inl left ↦ of_child (subst (λ (a : ℕ). Reaches (told new.blocks.draft history) level a q) behind.1 left)
      | inr right ↦ of_now (subst (λ (a : ℕ). Reaches (told new.blocks.draft history) level a q) behind.2 right)
    ]
    | inr front ↦ elim reaches [
      | inl left ↦ of_now (subst (λ (a : ℕ). Reaches (told new.blocks.draft history) level a q) front.1 left)
      | inr right ↦ of_child (subst (λ (a : ℕ). Reaches (told new.blocks.draft history) level a q) front.2 right)
    ]
  ]

  -- what both reach was reached, or was free
  pub pair-reach : (q : ℕ) → Reaches (told new.blocks.draft history) level pair.left q
      ⊎ Reaches (told new.blocks.draft history) level pair.right q
      → ReachesParts (told land.blocks.draft history) level un.pointers place (alone child) q
      ⊎ IsTrue (is_free_slot land.space q)
  pair-reach q = either _ q (λ reaches. inl (child_parts q (child_was q reaches)))
      (λ reaches. elim (now_was q reaches) [
        | inl same ↦ now_parts q same
        | inr below ↦ inl (beside_parts q below.0)
      ])

  -- and so were both themselves
  pub pair-parts : (q : ℕ) → (q ≡ pair.left) ⊎ (q ≡ pair.right)
      → ReachesParts (told land.blocks.draft history) level un.pointers place (alone child) q
      ⊎ IsTrue (is_free_slot land.space q)
  pair-parts q is_one = pair-reach q (elim is_one [
    | inl left ↦ inl (subst (λ (a : ℕ). Reaches (told new.blocks.draft history) level pair.left a) (sym left)
        (reach-top (told new.blocks.draft history) level pair.left))
    | inr right ↦ inr (subst (λ (a : ℕ). Reaches (told new.blocks.draft history) level pair.right a) (sym right)
        (reach-top (told new.blocks.draft history) level pair.right))
  ])

  -- nothing else is told otherwise
  pub pair-others : (disk : History) (q : ℕ) → (IsTrue (is_free_slot land.space q) → ⊥)
      → (ReachesParts (told land.blocks.draft history) level un.pointers place (alone child) q → ⊥)
      → told new.blocks.draft disk q ≡ told land.blocks.draft disk q
  pair-others disk q not_free not_parts =
      there.others disk q (λ same. elim (now_parts q same) [ inl parts ↦ not_parts parts | inr free ↦ not_free free ])

  -- nothing else gets free
  pub pair-freed : (q : ℕ) → IsTrue (is_free_slot new.space q) → IsTrue (is_free_slot land.space q)
      ⊎ ReachesParts (told land.blocks.draft history) level un.pointers place (alone child) q
  pair-freed q free = elim (there.freed q free) [
    | inl was ↦ inl was
    | inr same ↦
        inr (beside_parts q (subst (λ (a : ℕ). Reaches (told land.blocks.draft history) level is.is.way.pointer.child a)
        (sym same) (reach-top (told land.blocks.draft history) level is.is.way.pointer.child)))
  ]

  -- no free slot is reached from both
  pub pair-free : (q : ℕ) → IsTrue (is_free_slot new.space q)
      → Reaches (told new.blocks.draft history) level pair.left q
      ⊎ Reaches (told new.blocks.draft history) level pair.right q → ⊥
  pair-free q free = either ⊥ q
      (λ reaches. elim (there.freed q free) [
        | inl was ↦ un.free q was (child_parts q (child_was q reaches))
        | inr same ↦
            un.alone is.is.other is.is.way.pointer differs is.is.way.there q
            (subst (λ (a : ℕ). Reaches (told land.blocks.draft history) level is.is.way.pointer.child a) (sym same)
            (reach-top (told land.blocks.draft history) level is.is.way.pointer.child))
            (inl (child_was q reaches))
      ])
      (λ reaches. elim (now_was q reaches) [
        | inl same ↦ fresh-taken new root.next is.now there.mine rests.drafted there.here
            (ap (is_free_slot new.space) (sym same) ∙ free)
        | inr below ↦ elim (there.freed q free) [
          | inl was ↦ un.free q was (beside_parts q below.0)
          | inr same ↦ below.1 same
        ]
      ])

  -- nor from another child
  pub pair-free_others : (i : ℕ) (pointer : Pointer) → i ≢ place → i ≢ is.is.other
      → slice_get un.pointers i ≡ Some pointer
      → (q : ℕ) → IsTrue (is_free_slot new.space q) → Reaches (told land.blocks.draft history) level pointer.child q → ⊥
  pair-free_others i pointer not_child not_beside at_i q free reaches = elim (there.freed q free) [
    | inl was ↦ un.free q was (inr (i, pointer, not_child, at_i, reaches))
    | inr same ↦
        un.apart i is.is.other pointer is.is.way.pointer not_child differs not_beside at_i is.is.way.there q reaches
        (subst (λ (a : ℕ). Reaches (told land.blocks.draft history) level is.is.way.pointer.child a) (sym same)
        (reach-top (told land.blocks.draft history) level is.is.way.pointer.child))
  ]

  -- another child reaches neither of the two
  pub pair-apart : (i : ℕ) (pointer : Pointer) → i ≢ place → i ≢ is.is.other → slice_get un.pointers i ≡ Some pointer
      → (q : ℕ) → Reaches (told land.blocks.draft history) level pointer.child q → (q ≢ pair.left) × (q ≢ pair.right)
  pair-apart i pointer not_child not_beside at_i q reaches =
      let child_differs : q ≢ child = λ same. un.alone i pointer not_child at_i q reaches
      (inl (subst (λ (a : ℕ). Reaches (told land.blocks.draft history) level child a) (sym same)
      (reach-top (told land.blocks.draft history) level child))) in
      let now_differs : q ≢ is.now =
      other-apart tree root land new history level at to place child items un pair is makes i pointer not_child
      not_beside at_i q reaches in
      elim is.sides [
        | inl behind ↦ (λ same. child_differs (same ∙ behind.1), λ same. now_differs (same ∙ behind.2))
        | inr front ↦ (λ same. now_differs (same ∙ front.1), λ same. child_differs (same ∙ front.2))
      ]

  -- and is told as before
  pub pair-stays : (i : ℕ) (pointer : Pointer) → i ≢ place → i ≢ is.is.other → slice_get un.pointers i ≡ Some pointer
      → (q : ℕ) → Reaches (told land.blocks.draft history) level pointer.child q
      → told new.blocks.draft history q ≡ told land.blocks.draft history q
  pair-stays i pointer not_child not_beside at_i q reaches =
      there.others history q (other-apart tree root land new history level at to place child items un pair is makes i
      pointer not_child not_beside at_i q reaches)

  -- the neighbour is a quarter full
  now_fills : FillsThere land.blocks.draft.sizes.nodesize (told new.blocks.draft history) is.now
  now_fills =
      let pointed = beside_is.1 in
      let one : pointed.node ≡ there.node = there.alone pointed.node pointed.there in
      let used : used_bytes there.mine ≡ used_bytes pointed.node =
      owned-used tree root land new history is.beside.way.expected is.is.way.pointer.child is.now there
      ∙ ap used_bytes (sym one) in
      let full = leb-true (capacity land.blocks.draft.sizes.nodesize) (4 * used_bytes pointed.node) pointed.full in
      let size : new.space.sizes.nodesize ≡ land.blocks.draft.sizes.nodesize = ap (λ (s : _). s.nodesize) rests.sizes
      ∙ sym drafted.sizes.nodesize in
      let sound = node-drafted new root.next is.now there.mine rests.drafted there.here in
      let fits = sound.fits in
      record {
        node = there.mine;
        there = mine-told tree root land new history is.beside.way.expected is.is.way.pointer.child is.now there makes;
        filled = record { fits = omega (arith, fits, size); full = omega (arith, full, used) };
      }

  pub pair-fills : FillsThere land.blocks.draft.sizes.nodesize (told new.blocks.draft history) pair.left
      ⊎ FillsThere land.blocks.draft.sizes.nodesize (told new.blocks.draft history) pair.right
  pair-fills = elim is.sides [
    | inl behind ↦ inr (subst (λ (a : ℕ). FillsThere land.blocks.draft.sizes.nodesize (told new.blocks.draft history) a)
        (sym behind.2) now_fills)
    | inr front ↦ inl (subst (λ (a : ℕ). FillsThere land.blocks.draft.sizes.nodesize (told new.blocks.draft history) a)
        (sym front.1) now_fills)
  ]
