-- A child was joined with its neighbour, and the pointers of their node are set.
use Rattle.std.proofs.Common.{◌≡◌, ◌≢◌, ◌⊎◌, ℕ, ◌+◌, ◌≤◌, ◌<◌, List, ◌∷◌, ◌++◌, take, drop, refl, ap, subst, ◌∙◌, inl}
use Rattle.std.proofs.Common.{inr, Option, Some}
use Rattle.std.specs.Prelude.{IsTrue, slice_get}
use Rattle.qg_device.specs.History.{History}
use Rattle.qg_num.specs.declared.key.Key.{Key}
use Rattle.qg_node.specs.declared.item.Item.{Item}
use Rattle.qg_node.specs.declared.pointer.Pointer.{Pointer}
use Rattle.qg_node.specs.declared.node.Node.{Node}
use Rattle.qg_node.specs.declared.node.Node.TheVariants.{Inner}
use Rattle.qg_image.specs.declared.tree.TreeKind.{TreeKind}
use Rattle.qg_blocks.specs.NodesFound.{told}
use Rattle.qg_space.specs.Holding.{Holding, is_free_slot}
use Rattle.qg_node_alloc.specs.declared.ground.Ground.{Ground}
use Rattle.qg_node_alloc.specs.Land.{IsDrafted, Rests}
use Rattle.qg_tree_edits.specs.declared.instead.Instead.{Instead}
use Rattle.qg_tree_edits.specs.declared.pairing.Pair.{Pair}
use Rattle.qg_tree_read.specs.Tree.{Reaches, Root, super_of}
use Rattle.qg_tree_edits.specs.Editing.{ArePair, CanMake, HasLed, IsCutThere, IsFreshOn, IsSettled, IsUnsettled}
use Rattle.qg_tree_edits.specs.Editing.{ReachesInstead, ReachesParts, alone}
use Rattle.qg_tree_edits.specs.Uniting.{AreUnited, IsPaired}
use Rattle.qg_tree_edits.proofs.Beside.{other-branch}
use Rattle.qg_tree_read.proofs.BranchFrames.{reach-same}
use Rattle.qg_tree_edits.proofs.Leading.{not-above}
use Rattle.qg_tree_edits.proofs.Led.{led-comes}
use Rattle.qg_tree_edits.proofs.Paired.{IsThinAt}
use Rattle.qg_tree_edits.proofs.PairedFrames.{pair-apart, pair-free, pair-free_others, pair-freed, pair-others}
use Rattle.qg_tree_edits.proofs.PairedFrames.{pair-parts, pair-reach}
use Rattle.qg_tree_edits.proofs.RejoinedHolds.{aside-beside, aside-child, aside-place, both, differ, hold, new-stays}
use Rattle.qg_tree_edits.proofs.RejoinedHolds.{rejoined-can, size}
use Rattle.qg_tree_edits.proofs.Spliced.{spliced-get}
use Rattle.qg_tree_edits.proofs.UnitedHolds.{united-free, united-gone, united-reach, united-told}

module _ (tree : TreeKind) (root : Root) (land mid new end : Ground) (history later last : History)
    (level at : ℕ) (to : Option Key) (place child : ℕ) (items : List Item) (rest : Option Node)
    (un : IsUnsettled tree root land history level at to place (alone child) items) (pair : Pair) (instead : Instead)
    (is : IsPaired tree root land mid history un.pointers to level place child pair)
    (makes : CanMake tree root) (drafted : IsDrafted land root.next) (rests : Rests land mid later root.next)
    (fresh : IsFreshOn land level child) (thin : IsThinAt land child)
    (united : AreUnited mid new pair.left pair.right instead) (after : Rests mid new last root.next)
    (led : HasLed tree (super_of root land.blocks.draft) new end history level at pair.front
    (pair.front + 2) instead un.pointers un.header items rest) where
  pair_differ : pair.left ≢ pair.right
  pair_differ = differ tree root land mid new history later last level at to place child items un pair instead is makes
      drafted rests fresh thin united after

  are_both : ArePair mid pair.left pair.right
  are_both = both tree root land mid new history later last level at to place child items un pair instead is makes
      drafted rests fresh thin united after

  Aside : ℕ → Type 0
  Aside i = (i < pair.front) ⊎ (pair.front + 2 ≤ i)

  Parts : ℕ → Type 0
  Parts q = ReachesParts (told land.blocks.draft history) level un.pointers place (alone child) q

  not_child : (i : ℕ) → Aside i → i ≢ place
  unfolding Aside
  not_child = aside-child tree root land mid new history later last level at to place child items un pair instead is
      makes drafted rests fresh thin united after

  not_beside : (i : ℕ) → Aside i → i ≢ is.is.other
  unfolding Aside
  not_beside = aside-beside tree root land mid new history later last level at to place child items un pair instead is
      makes drafted rests fresh thin united after

  -- the others
  end_stays : (i : ℕ) (pointer : Pointer) → Aside i → slice_get un.pointers i ≡ Some pointer → (q : ℕ)
      → Reaches (told land.blocks.draft history) level pointer.child q
      → told end.blocks.draft history q ≡ told land.blocks.draft history q
  unfolding Aside
  end_stays i pointer aside there q reaches =
      let other = other-branch tree root land history level at to place (alone child) items un i pointer
      (aside-place tree root land mid new history later last level at to place child items un pair instead is makes
      drafted rests fresh thin united after i aside) there in
      led.others history q (not-above tree (super_of root land.blocks.draft) land history level at un.header un.pointers
      un.here un.member.levelled pointer.child other.0 other.2 q reaches)
      ∙ new-stays tree root land mid new history later last level at to place child items un pair instead is makes
      drafted rests fresh thin united after i pointer aside there q reaches

  end_was : (i : ℕ) (pointer : Pointer) → Aside i → slice_get un.pointers i ≡ Some pointer → (q : ℕ)
      → Reaches (told end.blocks.draft history) level pointer.child q
      → Reaches (told land.blocks.draft history) level pointer.child q
  end_was i pointer aside there =
      reach-same (told land.blocks.draft history) (told end.blocks.draft history) level pointer.child
      (end_stays i pointer aside there)

  -- what the two became
  comes : (k : ℕ) (p : Pointer) → slice_get (led.now ∷ led.more) k ≡ Some p → (q : ℕ)
      → Reaches (told end.blocks.draft history) level p.child q
      → ReachesInstead (told new.blocks.draft history) level instead q
  comes =
      led-comes tree (super_of root land.blocks.draft) new end history level at pair.front
      (pair.front + 2) instead un.pointers un.header items rest
      (rejoined-can tree root land mid new history later last level at to place child items un pair instead is makes
      drafted rests fresh thin united after) led

  in_mid : (q : ℕ) → ReachesInstead (told new.blocks.draft history) level instead q
      → Reaches (told mid.blocks.draft history) level pair.left q
      ⊎ Reaches (told mid.blocks.draft history) level pair.right q
  in_mid =
      let held = hold tree root land mid new history later last level at to place child items un pair instead is makes
      drafted rests fresh thin united after in
      united-reach mid new pair.left pair.right instead pair_differ are_both united tree
      (super_of root land.blocks.draft) history level held.ls held.rs held.left_holds held.right_holds
      (size tree root land mid new history later last level at to place child items un pair instead is makes drafted
      rests fresh thin united after)

  free_mid : (q : ℕ) → ReachesInstead (told new.blocks.draft history) level instead q
      → IsTrue (is_free_slot new.space q) → IsTrue (is_free_slot mid.space q)
  free_mid q reaches free =
      let held = hold tree root land mid new history later last level at to place child items un pair instead is makes
      drafted rests fresh thin united after in
      united-gone mid new pair.left pair.right instead pair_differ are_both united tree
      (super_of root land.blocks.draft) history level held.ls held.rs held.left_holds held.right_holds
      (size tree root land mid new history later last level at to place child items un pair instead is makes drafted
      rests fresh thin united after) q reaches free after.sizes after.held_slots

  Found : Pointer → Type 0
  Found p = ((j : ℕ) × ((j < pair.front) ⊎ (pair.front + 2 ≤ j)) × (slice_get un.pointers j ≡ Some p))
      ⊎ ((k : ℕ) × (slice_get (led.now ∷ led.more) k ≡ Some p))

  found : (i : ℕ) (p : Pointer)
      → slice_get (take pair.front un.pointers ++ (led.now ∷ led.more) ++ drop (pair.front + 2) un.pointers) i ≡ Some p
      → Found p
  unfolding Found
  found = spliced-get un.pointers (led.now ∷ led.more) pair.front (pair.front + 2)

  reached : (q : ℕ) (p : Pointer) → Found p → Reaches (told end.blocks.draft history) level p.child q
      → Parts q ⊎ IsTrue (is_free_slot land.space q)
  unfolding Found Parts Aside
  reached q p (inl (j, aside, there)) reaches =
      inl (inr (j, p, not_child j aside, there, end_was j p aside there q reaches))
  reached q p (inr (k, there)) reaches =
      pair-reach tree root land mid history later level at to place child items un pair is makes drafted rests q
      (in_mid q (comes k p there q reaches))

  was_free : (q : ℕ) → IsTrue (is_free_slot end.space q) → IsTrue (is_free_slot new.space q)
  was_free q free = subst (λ (h : Holding). IsTrue (is_free_slot h q)) led.space free

  free_new : (q : ℕ) → IsTrue (is_free_slot new.space q) → IsTrue (is_free_slot mid.space q) ⊎ (q ≡ pair.right)
  free_new q free = united-free mid new pair.left pair.right instead pair_differ are_both united q after.sizes
      after.held_slots free

  none_free : (q : ℕ) (p : Pointer) → Found p → IsTrue (is_free_slot new.space q)
      → Reaches (told end.blocks.draft history) level p.child q → ⊥
  unfolding Found Aside
  none_free q p (inl (j, aside, there)) free reaches =
      let was = end_was j p aside there q reaches in
      elim (free_new q free) [
        | inl free_then ↦
            pair-free_others tree root land mid history later level at to place child items un pair is makes drafted
            rests j p (not_child j aside) (not_beside j aside) there q free_then was
        | inr same ↦ (pair-apart tree root land mid history later level at to place child items un pair is makes drafted
            rests j p (not_child j aside) (not_beside j aside) there q was).1 same
      ]
  none_free q p (inr (k, there)) free reaches =
      let there_then = comes k p there q reaches in
      pair-free tree root land mid history later level at to place child items un pair is makes drafted rests q
      (free_mid q there_then free) (in_mid q there_then)

  -- the two themselves were reached, or free
  parts_or : (q : ℕ) → (q ≡ pair.left) ⊎ (q ≡ pair.right) → Parts q ⊎ IsTrue (is_free_slot land.space q)
  unfolding Parts
  parts_or = pair-parts tree root land mid history later level at to place child items un pair is makes drafted rests

  others : (disk : History) (q : ℕ) → q ≢ at → (IsTrue (is_free_slot land.space q) → ⊥) → (Parts q → ⊥)
      → told end.blocks.draft disk q ≡ told land.blocks.draft disk q
  unfolding Parts
  others disk q differ_at not_free not_parts =
      let neither : (q ≡ pair.left) ⊎ (q ≡ pair.right) → ⊥ = λ one. elim (parts_or q one) [
        | inl parts ↦ not_parts parts
        | inr free ↦ not_free free
      ] in
      led.others disk q differ_at
      ∙ united-told mid new pair.left pair.right instead pair_differ are_both united disk q (λ same. neither (inl same))
      (λ same. neither (inr same))
      ∙ pair-others tree root land mid history later level at to place child items un pair is makes drafted rests disk q
      not_free not_parts

  freed : (q : ℕ) → IsTrue (is_free_slot new.space q) → IsTrue (is_free_slot land.space q) ⊎ Parts q
  unfolding Parts
  freed q free = elim (free_new q free) [
    | inl free_then ↦ pair-freed tree root land mid history later level at to place child items un pair is makes drafted
        rests q free_then
    | inr same ↦ elim (parts_or q (inr same)) [ inl parts ↦ inr parts | inr was ↦ inl was ]
  ]

  pub rejoined-settled : IsSettled tree root land end history level at place (alone child) un.pointers un.header items
      rest
  unfolding Found Parts
  rejoined-settled = record {
    pointers_new = take pair.front un.pointers ++ (led.now ∷ led.more) ++ drop (pair.front + 2) un.pointers;
    branches = led.branches;
    cut = subst (λ (n : ℕ). IsCutThere n end at (Inner un.header un.pointers)
        (Inner un.header (take pair.front un.pointers ++ (led.now ∷ led.more) ++ drop (pair.front + 2) un.pointers))
        rest)
        (ap (λ (s : _). s.nodesize) (after.sizes ∙ rests.sizes)) led.cut;
    reach = λ q reaches. reached q reaches.1 (found reaches.0 reaches.1 reaches.2) reaches.3;
    others = others;
    freed = λ q free. freed q (was_free q free);
    free = λ q free reaches. none_free q reaches.1 (found reaches.0 reaches.1 reaches.2) (was_free q free) reaches.3;
  }

  pub rejoined-pointers : rejoined-settled.pointers_new ≡ take pair.front un.pointers ++ (led.now ∷ led.more)
      ++ drop (pair.front + 2) un.pointers
  unfolding rejoined-settled
  rejoined-pointers = refl
