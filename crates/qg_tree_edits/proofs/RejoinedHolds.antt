-- A child was joined with its neighbour: what is under their node then.
use Rattle.std.proofs.Common.{◌≡◌, ◌≢◌, ◌⊎◌, ℕ, ◌+◌, ◌≤◌, ◌<◌, List, ◌++◌, take, drop, arith, sym, ap, ◌∙◌, inl, inr}
use Rattle.std.proofs.Common.{Option, Some}
use Rattle.std.specs.Prelude.{slice_get}
use Rattle.qg_device.specs.History.{History}
use Rattle.qg_num.specs.declared.key.Key.{Key}
use Rattle.qg_node.specs.declared.item.Item.{Item}
use Rattle.qg_node.specs.declared.pointer.Pointer.{Pointer}
use Rattle.qg_node.specs.declared.node.Node.TheVariants.{Inner}
use Rattle.qg_image.specs.declared.tree.TreeKind.{TreeKind}
use Rattle.qg_blocks.specs.NodesFound.{fresh_at, told}
use Rattle.qg_node_alloc.specs.declared.ground.Ground.{Ground}
use Rattle.qg_node_alloc.specs.Land.{IsDrafted, Rests}
use Rattle.qg_tree_edits.specs.declared.instead.Instead.{Instead}
use Rattle.qg_tree_edits.specs.declared.pairing.Pair.{Pair}
use Rattle.qg_tree_read.specs.Tree.{Reaches, Root, super_of}
use Rattle.qg_tree_read.specs.Branch.{AreBranches}
use Rattle.qg_tree_edits.specs.Editing.{ArePair, CanLead, CanMake, IsFreshOn, IsUnsettled, alone}
use Rattle.qg_tree_edits.specs.Uniting.{AreUnited, IsPaired}
use Rattle.qg_tree_read.proofs.BranchFrames.{branches-same, reach-same}
use Rattle.qg_tree_edits.proofs.Paired.{IsThinAt, are-pair, pair-differ}
use Rattle.qg_tree_edits.proofs.PairedFrames.{pair-apart, pair-fills, pair-stays}
use Rattle.qg_tree_edits.proofs.PairedHolds.{HoldPair, holds-pair}
use Rattle.qg_tree_edits.proofs.Rejoined.{rejoined-above}
use Rattle.qg_tree_edits.proofs.Served.{size-blocks}
use Rattle.qg_tree_edits.proofs.Spliced.{drop-get, take-get}
use Rattle.qg_tree_edits.proofs.UnitedHolds.{united-fills, united-holds, united-told}

module _ (tree : TreeKind) (root : Root) (land mid new : Ground) (history later last : History) (level at : ℕ)
    (to : Option Key) (place child : ℕ) (items : List Item)
    (un : IsUnsettled tree root land history level at to place (alone child) items) (pair : Pair) (instead : Instead)
    (is : IsPaired tree root land mid history un.pointers to level place child pair)
    (makes : CanMake tree root) (drafted : IsDrafted land root.next) (rests : Rests land mid later root.next)
    (fresh : IsFreshOn land level child) (thin : IsThinAt land child)
    (united : AreUnited mid new pair.left pair.right instead) (after : Rests mid new last root.next) where
  pub differ : pair.left ≢ pair.right
  differ = pair-differ tree root land mid history later un.pointers to level place child pair is rests fresh thin

  pub both : ArePair mid pair.left pair.right
  both = are-pair tree root land mid history later un.pointers to level place child pair is rests fresh thin

  pub hold : HoldPair tree (super_of root land.blocks.draft) (told mid.blocks.draft history) level un.pointers pair
      items
  hold = holds-pair tree root land mid history level at to place child items un pair is makes

  pub size : land.blocks.draft.sizes.nodesize ≡ mid.space.sizes.nodesize
  size = drafted.sizes.nodesize ∙ sym (ap (λ (s : _). s.nodesize) rests.sizes)

  -- ---- where the others' pointers stand

  -- an index in front of both pointers, or behind them
  abbrev pub IsAside : ℕ → Type 0
  IsAside i = (i < pair.front) ⊎ (pair.front + 2 ≤ i)

  pub aside-child : (i : ℕ) → IsAside i → i ≢ place
  aside-child i (inl low) same = let f = is.front in elim is.is.pair [
    | inl behind ↦ let a = behind.0 in omega (arith, low, same, f, a)
    | inr front ↦ let a = front.0 in omega (arith, low, same, f, a)
  ]
  aside-child i (inr high) same = let f = is.front in elim is.is.pair [
    | inl behind ↦ let a = behind.0 in omega (arith, high, same, f, a)
    | inr front ↦ let a = front.0 in omega (arith, high, same, f, a)
  ]

  pub aside-beside : (i : ℕ) → IsAside i → i ≢ is.is.other
  aside-beside i (inl low) same = let f = is.front in elim is.is.pair [
    | inl behind ↦ let a = behind.0 in let b = behind.1 in omega (arith, low, same, f, a, b)
    | inr front ↦ let b = front.1 in omega (arith, low, same, f, b)
  ]
  aside-beside i (inr high) same = let f = is.front in elim is.is.pair [
    | inl behind ↦ let a = behind.0 in let b = behind.1 in omega (arith, high, same, f, a, b)
    | inr front ↦ let b = front.1 in omega (arith, high, same, f, b)
  ]

  pub aside-place : (i : ℕ) → IsAside i → (i < place) ⊎ (place + 1 ≤ i)
  aside-place i (inl low) = let f = is.front in elim is.is.pair [
    | inl behind ↦ inl (let a = behind.0 in omega (arith, low, f, a))
    | inr front ↦ inl (let a = front.0 in omega (arith, low, f, a))
  ]
  aside-place i (inr high) = let f = is.front in elim is.is.pair [
    | inl behind ↦ inr (let a = behind.0 in omega (arith, high, f, a))
    | inr front ↦ inr (let a = front.0 in omega (arith, high, f, a))
  ]

  -- ---- the others stay

  mid_stays : (i : ℕ) (pointer : Pointer) → IsAside i → slice_get un.pointers i ≡ Some pointer → (q : ℕ)
      → Reaches (told land.blocks.draft history) level pointer.child q
      → told mid.blocks.draft history q ≡ told land.blocks.draft history q
  mid_stays i pointer aside there =
      pair-stays tree root land mid history later level at to place child items un pair is makes drafted rests i pointer
      (aside-child i aside) (aside-beside i aside) there

  apart : (i : ℕ) (pointer : Pointer) → IsAside i → slice_get un.pointers i ≡ Some pointer → (q : ℕ)
      → Reaches (told land.blocks.draft history) level pointer.child q → (q ≢ pair.left) × (q ≢ pair.right)
  apart i pointer aside there =
      pair-apart tree root land mid history later level at to place child items un pair is makes drafted rests i pointer
      (aside-child i aside) (aside-beside i aside) there

  new_told : (q : ℕ) → q ≢ pair.left → q ≢ pair.right
      → told new.blocks.draft history q ≡ told mid.blocks.draft history q
  new_told = united-told mid new pair.left pair.right instead differ both united history

  pub new-stays : (i : ℕ) (pointer : Pointer) → IsAside i → slice_get un.pointers i ≡ Some pointer → (q : ℕ)
      → Reaches (told land.blocks.draft history) level pointer.child q
      → told new.blocks.draft history q ≡ told land.blocks.draft history q
  new-stays i pointer aside there q reaches =
      let not_both = apart i pointer aside there q reaches in
      new_told q not_both.0 not_both.1 ∙ mid_stays i pointer aside there q reaches

  mid_was : (i : ℕ) (pointer : Pointer) → IsAside i → slice_get un.pointers i ≡ Some pointer → (q : ℕ)
      → Reaches (told mid.blocks.draft history) level pointer.child q
      → Reaches (told land.blocks.draft history) level pointer.child q
  mid_was i pointer aside there =
      reach-same (told land.blocks.draft history) (told mid.blocks.draft history) level pointer.child
      (mid_stays i pointer aside there)

  others_stay : (pointers : List Pointer) (under : List Item)
      → ((i : ℕ) (pointer : Pointer) → slice_get pointers i ≡ Some pointer
      → (j : ℕ) × IsAside j × (slice_get un.pointers j ≡ Some pointer))
      → AreBranches tree (super_of root land.blocks.draft) (told mid.blocks.draft history) level pointers under
      → AreBranches tree (super_of root land.blocks.draft) (told new.blocks.draft history) level pointers under
  others_stay pointers under aside each =
      branches-same tree (super_of root land.blocks.draft) (told mid.blocks.draft history)
      (told new.blocks.draft history) level pointers under each
      (λ i pointer there q reaches.
      let found = aside i pointer there in
      let not_both = apart found.0 pointer found.1 found.2 q (mid_was found.0 pointer found.1 found.2 q reaches) in
      new_told q not_both.0 not_both.1)

  -- ---- the pointers can be set

  here_new : fresh_at new.blocks.draft at ≡ Some (Inner un.header un.pointers)
  here_new =
      rejoined-above tree root land mid new history later last un.pointers to level place child pair instead is rests
      fresh thin united after at (Inner un.header un.pointers) un.here
      (let levelled = un.member.levelled in omega (arith, levelled))

  pub rejoined-can : CanLead tree (super_of root land.blocks.draft) new history level at pair.front
      (pair.front + 2) instead un.pointers un.header items
  rejoined-can = record {
    here = here_new;
    member = un.member;
    front = hold.front;
    mine = hold.ls ++ hold.rs;
    back = hold.back;
    items_are = hold.items_are;
    before = others_stay (take pair.front un.pointers) hold.front
        (λ i pointer there. let found = take-get pair.front un.pointers i pointer there in
        (i, inl found.0, found.1)) hold.before;
    holds = united-holds mid new pair.left pair.right instead differ both united tree (super_of root land.blocks.draft)
        history level hold.ls hold.rs hold.left_holds hold.right_holds size;
    after = others_stay (drop (pair.front + 2) un.pointers) hold.back
        (λ i pointer there. let found = drop-get (pair.front + 2) un.pointers i pointer there in
        (found.0, inr found.1, found.2)) hold.after;
    full = united-fills mid new pair.left pair.right instead differ both united tree (super_of root land.blocks.draft)
        history level hold.ls hold.rs hold.left_holds hold.right_holds size
        (pair-fills tree root land mid history later level at to place child items un pair is makes drafted rests);
    size = size-blocks land root.next drafted;
    ascending = un.ascending;
  }
