-- Pointers of a fresh node were set: what is reached from those that are new.
use Rattle.std.proofs.Common.{◌≡◌, ℕ, zero, suc, List, [], ◌∷◌, refl, sym, ap, subst, ◌∙◌, inl, inr, Option, Some, None}
use Rattle.std.specs.Prelude.{MatchOption, slice_get}
use Rattle.std.proofs.lemmas.Option.{MatchOption-at_some}
use Rattle.qg_device.specs.History.{History}
use Rattle.qg_node.specs.declared.item.Item.{Item}
use Rattle.qg_node.specs.declared.pointer.Pointer.{Pointer}
use Rattle.qg_node.specs.declared.node.Header.{Header}
use Rattle.qg_node.specs.declared.node.Node.{Node}
use Rattle.qg_super.specs.declared.superblock.Super.{Super}
use Rattle.qg_image.specs.declared.tree.TreeKind.{TreeKind}
use Rattle.qg_blocks.specs.NodesFound.{told}
use Rattle.qg_node_alloc.specs.declared.ground.Ground.{Ground}
use Rattle.qg_tree_edits.specs.declared.instead.Instead.{Instead}
use Rattle.qg_tree_read.specs.Tree.{Reaches}
use Rattle.qg_tree_read.specs.Branch.{IsBranch}
use Rattle.qg_tree_edits.specs.Editing.{CanLead, FillsThere, HasLed, ReachesInstead}
use Rattle.qg_tree_read.proofs.BranchFrames.{reach-same}
use Rattle.qg_tree_edits.proofs.Leading.{not-above}

-- what is told behind, if anything is, is what stands in the second place
only_more : (o : Option ℕ) (more : List Pointer)
    → MatchOption o (more ≡ []) (λ address. (pointer : Pointer) × (more ≡ pointer ∷ []) × (pointer.child ≡ address))
    → (k : ℕ) (p : Pointer) → slice_get more k ≡ Some p → (a : ℕ) × (o ≡ Some a) × (p.child ≡ a)
only_more None more none k p there =
    absurd (let gone : slice_get [] k ≡ Some p = subst (λ (ps : List Pointer). slice_get ps k ≡ Some p) none there in
    cc)
only_more (Some a) more one k p there =
    (a, refl, at k (subst (λ (ps : List Pointer). slice_get ps k ≡ Some p) one.1 there)) where
      at : (k : ℕ) → slice_get (one.0 ∷ []) k ≡ Some p → p.child ≡ a
      at zero is = let same : one.0 ≡ p = cc in sym (ap (λ (q : Pointer). q.child) same) ∙ one.2
      at (suc k) is = absurd cc

module _ (tree : TreeKind) (super : Super) (land new : Ground) (history : History) (level at from to : ℕ)
    (instead : Instead) (pointers : List Pointer) (header : Header) (items : List Item)
    (rest : Option Node) (can : CanLead tree super land history level at from to instead pointers header items)
    (led : HasLed tree super land new history level at from to instead pointers header items rest) where
  -- what is reached from a part that stood before was reached before
  pub led-back : (address : ℕ) (under : List Item)
      → IsBranch tree super (told land.blocks.draft history) level address under
      → (q : ℕ) → Reaches (told new.blocks.draft history) level address q
      → Reaches (told land.blocks.draft history) level address q
  led-back address under branch =
      reach-same (told land.blocks.draft history) (told new.blocks.draft history) level address
      (λ q reaches. led.others history q
      (not-above tree super land history level at header pointers can.here can.member.levelled address under branch
      q reaches))

  -- from the new pointers what stands there is reached
  pub led-comes : (k : ℕ) (p : Pointer) → slice_get (led.now ∷ led.more) k ≡ Some p → (q : ℕ)
      → Reaches (told new.blocks.draft history) level p.child q
      → ReachesInstead (told land.blocks.draft history) level instead q
  led-comes zero p there q reaches =
      let same : led.now ≡ p = cc in
      let address : p.child ≡ instead.now = sym (ap (λ (r : Pointer). r.child) same) ∙ led.leads in
      inl (led-back instead.now can.holds.mine can.holds.here q
      (subst (λ (a : ℕ). Reaches (told new.blocks.draft history) level a q) address reaches))
  led-comes (suc k) p there q reaches =
      let only = only_more instead.more led.more led.leads_on k p there in
      let behind = MatchOption-at_some (can.holds.rest ≡ [])
      (λ more. IsBranch tree super (told land.blocks.draft history) level more can.holds.rest
      × FillsThere super.nodesize (told land.blocks.draft history) instead.now
      × FillsThere super.nodesize (told land.blocks.draft history) more) only.0 only.1 can.holds.behind in
      let was = led-back only.0 can.holds.rest behind.0 q
      (subst (λ (a : ℕ). Reaches (told new.blocks.draft history) level a q) only.2 reaches) in
      inr (subst (λ (o : Option ℕ). MatchOption o ⊥ (λ more. Reaches (told land.blocks.draft history) level more q))
      (sym only.1) was)
