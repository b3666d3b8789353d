-- A child was edited, and the pointers of its node are set.
use Rattle.std.proofs.Common.{◌≡◌, ◌⊎◌, ℕ, ◌+◌, ◌-◌, ◌≤◌, ◌<◌, List, [], ◌∷◌, ◌++◌, take, drop, arith, subst, inl, inr}
use Rattle.std.proofs.Common.{Option, Some}
use Rattle.std.specs.Prelude.{IsTrue, slice_get}
use Rattle.qg_device.specs.History.{History}
use Rattle.qg_num.specs.declared.key.Key.{Key}
use Rattle.qg_node.specs.declared.item.Item.{Item}
use Rattle.qg_node.specs.declared.pointer.Pointer.{Pointer}
use Rattle.qg_node.specs.declared.node.Node.{Node}
use Rattle.qg_image.specs.declared.tree.TreeKind.{TreeKind}
use Rattle.qg_blocks.specs.NodesFound.{told}
use Rattle.qg_space.specs.Holding.{Holding, is_free_slot}
use Rattle.qg_node_alloc.specs.declared.ground.Ground.{Ground}
use Rattle.qg_tree_edits.specs.declared.instead.Instead.{Instead}
use Rattle.qg_tree_read.specs.Tree.{Reaches, Root, super_of}
use Rattle.qg_tree_edits.specs.Editing.{CanLead, HasLed, IsSettled, IsUnsettled, ReachesEach, ReachesParts, slots_for}
use Rattle.qg_tree_edits.specs.Counting.{IsSettledTold, ways_each, ways_parts}
use Rattle.qg_tree_edits.proofs.Beside.{other-branch}
use Rattle.qg_tree_edits.proofs.Led.{led-back, led-comes}
use Rattle.qg_tree_edits.proofs.LedTold.{led-ways}
use Rattle.qg_tree_edits.proofs.Spliced.{spliced-get}
use Rattle.qg_tree_edits.proofs.Turning.{told-more, told-none}

module _ (tree : TreeKind) (root : Root) (land new : Ground) (history : History) (level at : ℕ)
    (to : Option Key) (place : ℕ) (child : Instead) (items : List Item) (rest : Option Node)
    (un : IsUnsettled tree root land history level at to place child items)
    (can : CanLead tree (super_of root land.blocks.draft) land history level at place (place + 1) child un.pointers
    un.header items)
    (led : HasLed tree (super_of root land.blocks.draft) land new history level at place (place + 1) child un.pointers
    un.header items rest) where
  -- the others
  stays : (j : ℕ) (p : Pointer) → (j < place) ⊎ (place + 1 ≤ j) → slice_get un.pointers j ≡ Some p → (q : ℕ)
      → Reaches (told new.blocks.draft history) level p.child q
      → ReachesParts (told land.blocks.draft history) level un.pointers place child q
  stays j p apart there q reaches =
      let other = other-branch tree root land history level at to place child items un j p apart there in
      inr (
        j,
        p,
        elim apart [ inl low ↦ (λ same. omega (arith, low, same)) | inr high ↦ (λ same. omega (arith, high, same)) ],
        there,
        led-back tree (super_of root land.blocks.draft) land new history level at place (place + 1) child un.pointers
            un.header items rest can led p.child other.0 other.2 q reaches,
      )

  reached : (q : ℕ) → ReachesEach (told new.blocks.draft history) level (take place un.pointers ++ (led.now ∷ led.more)
      ++ drop (place + 1) un.pointers) q
      → ReachesParts (told land.blocks.draft history) level un.pointers place child q
  reached q (i, p, there, reaches) =
      found (spliced-get un.pointers (led.now ∷ led.more) place (place + 1) i p there) where
        found : ((j : ℕ) × ((j < place) ⊎ (place + 1 ≤ j)) × (slice_get un.pointers j ≡ Some p))
            ⊎ ((k : ℕ) × (slice_get (led.now ∷ led.more) k ≡ Some p))
            → ReachesParts (told land.blocks.draft history) level un.pointers place child q
        found (inl (j, apart, is)) = stays j p apart is q reaches
        found (inr (k, is)) = inl (led-comes tree (super_of root land.blocks.draft) land new history level at place
            (place + 1) child un.pointers un.header items rest can led k p is q reaches)

  pub settled : IsSettled tree root land new history level at place child un.pointers un.header items rest
  settled = record {
    pointers_new = take place un.pointers ++ (led.now ∷ led.more) ++ drop (place + 1) un.pointers;
    branches = led.branches;
    cut = led.cut;
    reach = λ q reaches. inl (reached q reaches);
    others = λ disk q differ free parts. led.others disk q differ;
    freed = λ q free. inl (subst (λ (h : Holding). IsTrue (is_free_slot h q)) led.space free);
    free = λ q free reaches. un.free q (subst (λ (h : Holding). IsTrue (is_free_slot h q)) led.space free)
        (reached q reaches);
  }

  -- nothing is told
  pub settled-told : IsSettledTold tree root land new history level at place child un.pointers un.header items rest []
  unfolding settled
  settled-told = record {
    settled = settled;
    told = λ nodes clean same committed.
        let Parts = ReachesParts (told land.blocks.draft history) level un.pointers place child in
        let before = ways_parts (told land.blocks.draft history) level un.pointers place child in
        let after = ways_each (told new.blocks.draft history) level (take place un.pointers ++ (led.now ∷ led.more)
        ++ drop (place + 1) un.pointers) in
        told-more land nodes clean Parts before after 0 0 0 (1 - slots_for rest) 1 0 [] (omega arith) (omega arith)
        (omega arith)
        (told-none land nodes clean Parts before after
        (led-ways tree (super_of root land.blocks.draft) land new history level at place (place + 1) child un.pointers
        un.header items rest can led));
  }
