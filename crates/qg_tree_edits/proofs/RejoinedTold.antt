-- A child was joined with its neighbour, and the pointers of their node are set: what a book is told meanwhile.
use Rattle.std.proofs.Common.{◌≡◌, ◌≢◌, ◌⊎◌, ℕ, suc, ◌+◌, ◌-◌, ◌<◌, ◌≤◌, List, [], ◌∷◌, ◌++◌, take, drop, arith, refl}
use Rattle.std.proofs.Common.{sym, ap, subst, ◌∙◌, inl, inr, Option, Some, None}
use Rattle.std.specs.Prelude.{Contains, IsTrue, slice_get}
use Rattle.qg_device.specs.History.{History}
use Rattle.qg_num.specs.declared.key.Key.{Key}
use Rattle.qg_node.specs.declared.item.Item.{Item}
use Rattle.qg_node.specs.declared.pointer.Pointer.{Pointer}
use Rattle.qg_node.specs.declared.node.Node.{Node}
use Rattle.qg_image.specs.declared.tree.TreeKind.{TreeKind}
use Rattle.qg_blocks.specs.NodesFound.{fresh_at, told}
use Rattle.qg_space.specs.Holding.{is_free_slot}
use Rattle.qg_node_alloc.specs.declared.ground.Ground.{Ground}
use Rattle.qg_node_alloc.specs.Land.{IsDrafted, Rests}
use Rattle.qg_node_alloc.specs.Tellings.{Telling}
use Rattle.qg_tree_edits.specs.declared.instead.Instead.{Instead}
use Rattle.qg_tree_edits.specs.declared.pairing.Pair.{Pair}
use Rattle.qg_tree_read.specs.Tree.{Reaches, Root, super_of}
use Rattle.qg_tree_read.specs.Branch.{IsBranch}
use Rattle.qg_tree_edits.specs.Editing.{CanMake, HasLed, IsFreshOn, IsUnsettled, ReachesBeside, ReachesParts, alone}
use Rattle.qg_tree_edits.specs.Editing.{slots_for}
use Rattle.qg_tree_edits.specs.Uniting.{AreUnited, IsPaired}
use Rattle.qg_tree_edits.specs.Counting.{AreCommitted, IsSettledTold, IsTold, TellsUnited, tellings_owned, ways}
use Rattle.qg_tree_edits.specs.Counting.{ways_each, ways_instead, ways_parts}
use Rattle.qg_tree_edits.proofs.Beside.{beside-differs, other-branch}
use Rattle.qg_tree_read.proofs.BranchFrames.{reach-top}
use Rattle.qg_tree_edits.proofs.Committed.{committed-after, committed-told, unheld-fresh}
use Rattle.qg_tree_edits.proofs.Downward.{IsClosed, each-closed, plus-closed, ways-closed}
use Rattle.qg_tree_edits.proofs.LedTold.{led-ways}
use Rattle.qg_tree_edits.proofs.OwnedTold.{owned-told}
use Rattle.qg_tree_edits.proofs.Paired.{IsThinAt}
use Rattle.qg_tree_edits.proofs.PairedFrames.{pair-apart, pair-free_others, pair-freed}
use Rattle.qg_tree_edits.proofs.PairedHolds.{child-apart}
use Rattle.qg_tree_edits.proofs.RejoinedHolds.{aside-beside, aside-child, aside-place, both, differ, hold, new-stays}
use Rattle.qg_tree_edits.proofs.RejoinedHolds.{rejoined-can, size}
use Rattle.qg_tree_edits.proofs.RejoinedSettled.{rejoined-pointers, rejoined-settled}
use Rattle.qg_tree_edits.proofs.Reached.{ways-reached}
use Rattle.qg_tree_edits.proofs.Served.{slots-none}
use Rattle.qg_tree_edits.proofs.Spliced.{drop-get, drop-there, take-get, take-there}
use Rattle.qg_tree_edits.proofs.ToldUnited.{united-lost}
use Rattle.qg_tree_edits.proofs.Turning.{told-apart, told-append, told-framed, told-same, told-within}
use Rattle.qg_tree_edits.proofs.UnitedHolds.{united-tells}
use Rattle.qg_tree_edits.proofs.Ways.{ways-none, ways-same, ways_each-append, ways_each-cons, ways_each-none}
use Rattle.qg_tree_edits.proofs.Ways.{ways_each-same}

module _ (tree : TreeKind) (root : Root) (land mid new end : Ground) (history later last : History)
    (level at : ℕ) (to : Option Key) (place child : ℕ) (items : List Item) (rest : Option Node)
    (un : IsUnsettled tree root land history level at to place (alone child) items) (pair : Pair) (instead : Instead)
    (is : IsPaired tree root land mid history un.pointers to level place child pair)
    (makes : CanMake tree root) (drafted : IsDrafted land root.next) (rests : Rests land mid later root.next)
    (fresh : IsFreshOn land level child) (thin : IsThinAt land child)
    (united : AreUnited mid new pair.left pair.right instead) (after : Rests mid new last root.next)
    (led : HasLed tree (super_of root land.blocks.draft) new end history level at pair.front
    (pair.front + 2) instead un.pointers un.header items rest)
    (tellings : List Telling) (tells : TellsUnited pair.right instead tellings) where
  Parts : ℕ → Type 0
  Parts q = ReachesParts (told land.blocks.draft history) level un.pointers place (alone child) q

  -- the other children
  others : ℕ → ℕ
  others q =
      ways_each (told land.blocks.draft history) level (take pair.front un.pointers) q
      + ways_each (told land.blocks.draft history) level (drop (pair.front + 2) un.pointers) q

  Aside : ℕ → Type 0
  Aside i = (i < pair.front) ⊎ (pair.front + 2 ≤ i)

  not_child : (i : ℕ) → Aside i → i ≢ place
  unfolding Aside
  not_child = aside-child tree root land mid new history later last level at to place child items un pair instead is
      makes drafted rests fresh thin united after

  not_beside : (i : ℕ) → Aside i → i ≢ is.is.other
  unfolding Aside
  not_beside = aside-beside tree root land mid new history later last level at to place child items un pair instead is
      makes drafted rests fresh thin united after

  aside_place : (i : ℕ) → Aside i → (i < place) ⊎ (place + 1 ≤ i)
  unfolding Aside
  aside_place = aside-place tree root land mid new history later last level at to place child items un pair instead is
      makes drafted rests fresh thin united after

  differs : is.is.other ≢ place
  differs = beside-differs un.pointers to level place is.beside is.is

  others_none : (q : ℕ) → ((i : ℕ) (p : Pointer) → Aside i → slice_get un.pointers i ≡ Some p
      → Reaches (told land.blocks.draft history) level p.child q → ⊥) → others q ≡ 0
  unfolding others Aside
  others_none q apart =
      let front = ways_each-none (told land.blocks.draft history) level (take pair.front un.pointers) q
      (λ i p there reaches. let found = take-get pair.front un.pointers i p there in apart i p
      (inl found.0) found.1 reaches) in
      let back = ways_each-none (told land.blocks.draft history) level (drop (pair.front + 2) un.pointers) q
      (λ i p there reaches. let found = drop-get (pair.front + 2) un.pointers i p there in apart found.0 p
      (inr found.1) found.2 reaches) in
      omega (arith, front, back)

  -- ---- before

  beside_ways : (q : ℕ) → ways (told land.blocks.draft history) level is.is.way.pointer.child q
      ≡ ways (told land.blocks.draft history) level is.beside.way.address q
  beside_ways q = ap (λ (a : ℕ). ways (told land.blocks.draft history) level a q) (sym is.is.way.child)

  before : (q : ℕ) → ways_parts (told land.blocks.draft history) level un.pointers place (alone child) q
      ≡ ways (told land.blocks.draft history) level is.beside.way.address q
      + (ways (told land.blocks.draft history) level child q + others q)
  unfolding others
  before q = elim is.is.pair [
    | inl behind ↦
        let nodes = told land.blocks.draft history in
        let front_is : pair.front ≡ place = is.front ∙ behind.0 in
        let there = drop-there un.pointers is.is.other is.is.way.pointer is.is.way.there in
        let back = ap (λ (n : ℕ). ways_each nodes level (drop n un.pointers) q) (sym behind.1)
        ∙ ap (λ (ps : List Pointer). ways_each nodes level ps q) there in
        let first = ways_each-cons nodes level is.is.way.pointer (drop (suc is.is.other) un.pointers) q in
        let next = ap (λ (n : ℕ). ways_each nodes level (drop n un.pointers) q)
        (let a = behind.1 in let e : suc is.is.other ≡ pair.front + 2 = omega (arith, a, front_is) in e) in
        let same = ap (λ (n : ℕ). ways_each nodes level (take n un.pointers) q) front_is in
        let beside = beside_ways q in
        omega (arith, back, first, next, same, beside)
    | inr front ↦
        let nodes = told land.blocks.draft history in
        let front_is : pair.front ≡ is.is.other = is.front ∙ sym front.1 in
        let there = take-there un.pointers is.is.other is.is.way.pointer is.is.way.there in
        let upto = ap (λ (n : ℕ). ways_each nodes level (take n un.pointers) q)
        (let a = front.0 in let b = front.1 in let e : place ≡ suc is.is.other = omega (arith, a, b) in e)
        ∙ ap (λ (ps : List Pointer). ways_each nodes level ps q) there in
        let parts = ways_each-append nodes level (take is.is.other un.pointers) (is.is.way.pointer ∷ []) q in
        let first = ways_each-cons nodes level is.is.way.pointer [] q in
        let next = ap (λ (n : ℕ). ways_each nodes level (drop n un.pointers) q)
        (let a = front.0 in let b = is.front in let e : place + 1 ≡ pair.front + 2 = omega (arith, a, b) in e) in
        let same = ap (λ (n : ℕ). ways_each nodes level (take n un.pointers) q) front_is in
        let beside = beside_ways q in
        omega (arith, upto, parts, first, next, same, beside)
  ]

  -- ---- the neighbour was owned

  From : ℕ → Type 0
  From q = Reaches (told land.blocks.draft history) level is.beside.way.address q

  from_beside : (q : ℕ) → From q → Reaches (told land.blocks.draft history) level is.is.way.pointer.child q
  unfolding From
  from_beside q reaches = subst (λ (a : ℕ). Reaches (told land.blocks.draft history) level a q) is.is.way.child reaches

  from_top : From is.beside.way.address
  unfolding From
  from_top = reach-top (told land.blocks.draft history) level is.beside.way.address

  from_parts : (q : ℕ) → IsTrue (is_free_slot land.space q) ⊎ From q → IsTrue (is_free_slot land.space q) ⊎ Parts q
  unfolding Parts
  from_parts q (inl free) = inl free
  from_parts q (inr reaches) = inr
      (inr (is.is.other, is.is.way.pointer, differs, is.is.way.there, from_beside q reaches))

  beside_free : (q : ℕ) → IsTrue (is_free_slot land.space q) → From q → ⊥
  beside_free q free reaches = un.free q free
      (inr (is.is.other, is.is.way.pointer, differs, is.is.way.there, from_beside q reaches))

  beside_branch : (under : List Item) × IsBranch tree (super_of root land.blocks.draft)
      (told land.blocks.draft history) level is.beside.way.address under
  beside_branch =
      let apart : (is.is.other < place) ⊎ (place + 1 ≤ is.is.other) = elim is.is.pair [
        | inl behind ↦ inr (let a = behind.1 in omega (arith, a))
        | inr front ↦ inl (let a = front.0 in let b = front.1 in omega (arith, a, b))
      ] in
      let found = other-branch tree root land history level at to place
      (alone child) items un is.is.other is.is.way.pointer apart is.is.way.there in (
        found.0,
        subst (λ (a : ℕ). IsBranch tree (super_of root land.blocks.draft) (told land.blocks.draft history) level
            a found.0) (sym is.is.way.child) found.2,
      )

  own_told : (nodes clean : ℕ → Option Node) → AreCommitted land history clean
      → (fresh_at land.blocks.draft is.beside.way.address ≡ None
      → nodes is.beside.way.address ≡ told land.blocks.draft history is.beside.way.address)
      → IsTold land nodes clean From (ways (told land.blocks.draft history) level is.beside.way.address)
      (ways (told mid.blocks.draft history) level is.now) 1 0 0
      (tellings_owned is.owned.node is.beside.way.address is.now)
  unfolding From
  own_told nodes clean committed same =
      owned-told tree root land mid history is.beside.way.expected is.beside.way.address is.now is.owned makes
      level beside_branch.0 beside_branch.1 beside_free nodes clean committed same

  -- the child and the others are elsewhere
  else_none : (q : ℕ) → IsTrue (is_free_slot land.space q) ⊎ From q
      → ways (told land.blocks.draft history) level child q + others q ≡ 0
  unfolding Parts Aside
  else_none q (inl free) =
      let mine = ways-none (told land.blocks.draft history) level child q
      (λ reaches. un.free q free (inl (inl reaches))) in
      let rest_none = others_none q
      (λ i p aside there reaches. un.free q free (inr (i, p, not_child i aside, there, reaches))) in
      omega (arith, mine, rest_none)
  else_none q (inr from) =
      let below = from_beside q from in
      let mine = ways-none (told land.blocks.draft history) level child q
      (λ reaches. un.alone is.is.other is.is.way.pointer differs is.is.way.there q below (inl reaches)) in
      let rest_none = others_none q
      (λ i p aside there reaches. un.apart i is.is.other p is.is.way.pointer (not_child i aside) differs
      (not_beside i aside) there is.is.way.there q reaches below) in
      omega (arith, mine, rest_none)

  child_ways : (q : ℕ) → ways (told mid.blocks.draft history) level child q
      ≡ ways (told land.blocks.draft history) level child q
  child_ways =
      ways-same (told land.blocks.draft history) (told mid.blocks.draft history) level child
      (λ r reaches. is.owned.others history r
      (child-apart tree root land mid history level at to place child items un pair is makes r reaches))

  -- from both, and the others
  both_ways : ℕ → ℕ
  both_ways q = (ways (told mid.blocks.draft history) level pair.left q
      + ways (told mid.blocks.draft history) level pair.right q) + others q

  between : (q : ℕ) → both_ways q ≡ ways (told mid.blocks.draft history) level is.now q
      + (ways (told land.blocks.draft history) level child q + others q)
  unfolding both_ways
  between q =
      let mine = child_ways q in
      elim is.sides [
        | inl behind ↦
            let left = ap (λ (a : ℕ). ways (told mid.blocks.draft history) level a q) behind.1 in
            let right = ap (λ (a : ℕ). ways (told mid.blocks.draft history) level a q) behind.2 in
            omega (arith, mine, left, right)
        | inr front ↦
            let left = ap (λ (a : ℕ). ways (told mid.blocks.draft history) level a q) front.1 in
            let right = ap (λ (a : ℕ). ways (told mid.blocks.draft history) level a q) front.2 in
            omega (arith, mine, left, right)
      ]

  -- what the child and the others lead on to, none besides does
  others_closed : (clean : ℕ → Option Node) → AreCommitted land history clean → IsClosed clean others
  unfolding others Aside
  others_closed clean committed =
      let nodes = told land.blocks.draft history in
      let there = committed-told land history clean committed in
      let under = λ (i : ℕ) (p : Pointer) (aside : (i < pair.front) ⊎ (pair.front + 2 ≤ i))
      (is_there : slice_get un.pointers i ≡ Some p).
      other-branch tree root land history level at to place (alone child) items un i p (aside_place i aside) is_there in
      plus-closed clean (ways_each nodes level (take pair.front un.pointers))
      (ways_each nodes level (drop (pair.front + 2) un.pointers))
      (each-closed tree (super_of root land.blocks.draft) nodes clean there level (take pair.front un.pointers)
      (λ i p is_there.
      let found = take-get pair.front un.pointers i p is_there in
      let below = under i p (inl found.0) found.1 in
      (below.0, below.2)))
      (each-closed tree (super_of root land.blocks.draft) nodes clean there level
      (drop (pair.front + 2) un.pointers)
      (λ i p is_there.
      let found = drop-get (pair.front + 2) un.pointers i p is_there in
      let below = under found.0 p (inr found.1) found.2 in
      (below.0, below.2)))

  else_closed : (clean : ℕ → Option Node) → AreCommitted land history clean
      → IsClosed clean (λ q. ways (told land.blocks.draft history) level child q + others q)
  else_closed clean committed =
      plus-closed clean (ways (told land.blocks.draft history) level child) others
      (ways-closed tree (super_of root land.blocks.draft) (told land.blocks.draft history) clean
      (committed-told land history clean committed) level child un.holds.mine un.holds.here)
      (others_closed clean committed)

  first_told : (nodes clean : ℕ → Option Node) → AreCommitted land history clean
      → (fresh_at land.blocks.draft is.beside.way.address ≡ None
      → nodes is.beside.way.address ≡ told land.blocks.draft history is.beside.way.address)
      → IsTold land nodes clean Parts
      (ways_parts (told land.blocks.draft history) level un.pointers place (alone child))
      both_ways 1 0 0 (tellings_owned is.owned.node is.beside.way.address is.now)
  unfolding From
  first_told nodes clean committed same =
      let more = λ (q : ℕ). ways (told land.blocks.draft history) level child q + others q in
      let old_beside = ways (told land.blocks.draft history) level is.beside.way.address in
      let new_beside = ways (told mid.blocks.draft history) level is.now in
      let log = tellings_owned is.owned.node is.beside.way.address is.now in
      let framed = told-apart land nodes clean From old_beside new_beside more 1 0 0 log (else_closed clean committed)
      (λ q some. else_none q
      (inr (ways-reached (told land.blocks.draft history) level is.beside.way.address q some))) else_none
      (own_told nodes clean committed same) in
      let whole = told-within land nodes clean Parts land From (λ q. old_beside q + more q) (λ q. new_beside q + more q)
      1 0 0 log refl from_parts framed in
      told-same land nodes clean Parts (λ q. old_beside q + more q)
      (ways_parts (told land.blocks.draft history) level un.pointers place (alone child))
      (λ q. new_beside q + more q) both_ways 1 0 0 log
      before between whole

  -- ---- both were joined

  mid_free : (q : ℕ) → IsTrue (is_free_slot mid.space q) ⊎ ⊥ → others q ≡ 0
  mid_free q (inl free) = others_none q
      (λ i p aside there reaches. pair-free_others tree root land mid history later level at to place child items un
      pair is makes drafted rests i p (not_child i aside) (not_beside i aside) there q free reaches)
  mid_free q (inr none) = absurd none

  mid_parts : (q : ℕ) → IsTrue (is_free_slot mid.space q) ⊎ ⊥ → IsTrue (is_free_slot land.space q) ⊎ Parts q
  unfolding Parts
  mid_parts q (inl free) = pair-freed tree root land mid history later level at to place child items un pair is makes
      drafted rests q free
  mid_parts q (inr none) = absurd none

  instead_ways : ℕ → ℕ
  instead_ways q = ways_instead (told new.blocks.draft history) level instead q + others q

  -- the others do not lead to the right one
  right_none : others pair.right ≡ 0
  unfolding Aside
  right_none = others_none pair.right
      (λ i p aside there reaches. (pair-apart tree root land mid history later level at to place child items un pair is
      makes drafted rests i p (not_child i aside) (not_beside i aside) there pair.right reaches).1 refl)

  right_unheld : Contains mid.space.held_slots pair.right → ⊥
  right_unheld =
      let joined = both tree root land mid new history later last level at to place child items un pair instead is makes
      drafted rests fresh thin united after in
      unheld-fresh mid root.next pair.right joined.b rests.drafted joined.right_here

  later_told : (nodes clean : ℕ → Option Node) → AreCommitted land history clean
      → IsTold land nodes clean Parts both_ways instead_ways 0 1 0 tellings
  unfolding both_ways instead_ways
  later_told nodes clean committed =
      let held = hold tree root land mid new history later last level at to place child items un pair instead is makes
      drafted rests fresh thin united after in
      let joined = united-tells mid new pair.left pair.right instead
      (differ tree root land mid new history later last level at to place child items un pair instead is makes drafted
      rests fresh thin united after)
      (both tree root land mid new history later last level at to place child items un pair instead is makes drafted
      rests fresh thin united after)
      united tree (super_of root land.blocks.draft) history level held.ls held.rs held.left_holds held.right_holds
      (size tree root land mid new history later last level at to place child items un pair instead is makes drafted
      rests fresh thin united after) nodes clean
      (committed-after land mid history later root.next clean rests committed) right_unheld tellings tells in
      let two = λ (q : ℕ). ways (told mid.blocks.draft history) level pair.left q
      + ways (told mid.blocks.draft history) level pair.right q in
      let one_then = ways_instead (told new.blocks.draft history) level instead in
      told-within land nodes clean Parts mid (λ q. ⊥) (λ q. two q + others q) (λ q. one_then q + others q) 0 1 0
      tellings rests.held_slots mid_parts
      (told-framed mid nodes clean (λ q. ⊥) two one_then others 0 1 0 tellings (others_closed clean committed)
      (λ q lost. ap others (united-lost pair.right instead tellings tells q lost) ∙ right_none)
      (λ q some. mid_free q (joined.new q some)) joined)

  -- ---- the pointers were set

  others_new : (q : ℕ) → ways_each (told new.blocks.draft history) level (take pair.front un.pointers) q
      + ways_each (told new.blocks.draft history) level (drop (pair.front + 2) un.pointers) q ≡ others q
  unfolding others Aside
  others_new q =
      let stays = new-stays tree root land mid new history later last level at to place child items un pair instead is
      makes drafted rests fresh thin united after in
      let front = ways_each-same (told land.blocks.draft history) (told new.blocks.draft history) level
      (take pair.front un.pointers)
      (λ i p there r reaches. let found = take-get pair.front un.pointers i p there in stays i p
      (inl found.0) found.1 r reaches) q in
      let back = ways_each-same (told land.blocks.draft history) (told new.blocks.draft history) level
      (drop (pair.front + 2) un.pointers)
      (λ i p there r reaches. let found = drop-get (pair.front + 2) un.pointers i p there in stays found.0 p
      (inr found.1) found.2 r reaches) q in
      omega (arith, front, back)

  then : (q : ℕ) → ways_each (told end.blocks.draft history) level
      (take pair.front un.pointers ++ (led.now ∷ led.more) ++ drop (pair.front + 2) un.pointers) q ≡ instead_ways q
  unfolding instead_ways
  then q =
      let can = rejoined-can tree root land mid new history later last level at to place child items un pair instead is
      makes drafted rests fresh thin united after in
      let set = led-ways tree (super_of root land.blocks.draft) new end history level at pair.front
      (pair.front + 2) instead un.pointers un.header items rest can led q in
      let same = others_new q in
      omega (arith, set, same)

  all_told : (nodes clean : ℕ → Option Node) → AreCommitted land history clean
      → (fresh_at land.blocks.draft is.beside.way.address ≡ None
      → nodes is.beside.way.address ≡ told land.blocks.draft history is.beside.way.address)
      → IsTold land nodes clean Parts
      (ways_parts (told land.blocks.draft history) level un.pointers place (alone child))
      (ways_each (told end.blocks.draft history) level (take pair.front un.pointers ++ (led.now ∷ led.more)
      ++ drop (pair.front + 2) un.pointers)) 1 1 0
      (tellings_owned is.owned.node is.beside.way.address is.now ++ tellings)
  all_told nodes clean committed same =
      let start = ways_parts (told land.blocks.draft history) level un.pointers place (alone child) in
      let log = tellings_owned is.owned.node is.beside.way.address is.now ++ tellings in
      told-same land nodes clean Parts start start instead_ways (ways_each (told end.blocks.draft history) level
      (take pair.front un.pointers ++ (led.now ∷ led.more) ++ drop (pair.front + 2) un.pointers)) 1 1 0 log
      (λ q. refl) then
      (told-append land nodes clean Parts start both_ways instead_ways 1 0 0 0 1 0
      (tellings_owned is.owned.node is.beside.way.address is.now) tellings (first_told nodes clean committed same)
      (later_told nodes clean committed))

  -- the neighbour is another child
  beside_there : ReachesBeside (told land.blocks.draft history) level un.pointers place is.beside.way.address
  beside_there = (
    is.is.other,
    is.is.way.pointer,
    differs,
    is.is.way.there,
    from_beside is.beside.way.address from_top,
  )

  pub rejoined-told : rest ≡ None
      → IsSettledTold tree root land end history level at place (alone child) un.pointers un.header items
      rest (tellings_owned is.owned.node is.beside.way.address is.now ++ tellings)
  unfolding Parts
  rejoined-told whole = record {
    settled = rejoined-settled tree root land mid new end history later last level at to place child items rest un pair
        instead is makes drafted rests fresh thin united after led;
    told = λ nodes clean same committed. subst
        (λ (ps : List Pointer). IsTold land nodes clean
        (ReachesParts (told land.blocks.draft history) level un.pointers place (alone child))
        (ways_parts (told land.blocks.draft history) level un.pointers place (alone child))
        (ways_each (told end.blocks.draft history) level ps) (1 - slots_for rest) 1 0
        (tellings_owned is.owned.node is.beside.way.address is.now ++ tellings))
        (sym (rejoined-pointers tree root land mid new end history later last level at to place child items rest un pair
        instead is makes drafted rests fresh thin united after led))
        (subst
        (λ (n : ℕ). IsTold land nodes clean
        (ReachesParts (told land.blocks.draft history) level un.pointers place (alone child))
        (ways_parts (told land.blocks.draft history) level un.pointers place (alone child))
        (ways_each (told end.blocks.draft history) level (take pair.front un.pointers ++ (led.now ∷ led.more)
        ++ drop (pair.front + 2) un.pointers)) (1 - n) 1 0
        (tellings_owned is.owned.node is.beside.way.address is.now ++ tellings))
        (sym (slots-none rest whole))
        (all_told nodes clean committed (same is.beside.way.address beside_there)));
  }
