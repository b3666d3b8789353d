-- Pointers of a fresh node were set: as many ways lead on from them.
use Rattle.std.proofs.Common.{◌≡◌, ℕ, ◌+◌, List, [], ◌∷◌, ◌++◌, take, drop, arith, ap, Option, Some, None}
use Rattle.std.specs.Prelude.{MatchOption}
use Rattle.qg_device.specs.History.{History}
use Rattle.qg_node.specs.declared.item.Item.{Item}
use Rattle.qg_node.specs.declared.pointer.Pointer.{Pointer}
use Rattle.qg_node.specs.declared.node.Header.{Header}
use Rattle.qg_node.specs.declared.node.Node.{Node}
use Rattle.qg_super.specs.declared.superblock.Super.{Super}
use Rattle.qg_image.specs.declared.tree.TreeKind.{TreeKind}
use Rattle.qg_blocks.specs.NodesFound.{told}
use Rattle.qg_node_alloc.specs.declared.ground.Ground.{Ground}
use Rattle.qg_tree_edits.specs.declared.instead.Instead.{Instead}
use Rattle.qg_tree_read.specs.Branch.{AreBranches, IsBranch, IsPointed}
use Rattle.qg_tree_edits.specs.Editing.{CanLead, FillsThere, HasLed}
use Rattle.qg_tree_edits.specs.Counting.{ways, ways_each, ways_instead, ways_more}
use Rattle.qg_tree_read.proofs.Branches.{each-get}
use Rattle.qg_tree_edits.proofs.Leading.{not-above}
use Rattle.qg_tree_edits.proofs.Ways.{ways-same, ways_each-append, ways_each-cons, ways_each-same}

module _ (tree : TreeKind) (super : Super) (land new : Ground) (history : History) (level at from to : ℕ)
    (instead : Instead) (pointers : List Pointer) (header : Header) (items : List Item)
    (rest : Option Node) (can : CanLead tree super land history level at from to instead pointers header items)
    (led : HasLed tree super land new history level at from to instead pointers header items rest) where
  -- from a part that stood before as many as before
  part_ways : (address : ℕ) (under : List Item) → IsBranch tree super (told land.blocks.draft history) level address
      under
      → (q : ℕ) → ways (told new.blocks.draft history) level address q
      ≡ ways (told land.blocks.draft history) level address q
  part_ways address under branch =
      ways-same (told land.blocks.draft history) (told new.blocks.draft history) level address
      (λ r reaches. led.others history r
      (not-above tree super land history level at header pointers can.here can.member.levelled address under branch
      r reaches))

  others_ways : (some : List Pointer) (under : List Item) → AreBranches tree super
      (told land.blocks.draft history) level some under
      → (q : ℕ) → ways_each (told new.blocks.draft history) level some q
      ≡ ways_each (told land.blocks.draft history) level some q
  others_ways some under each =
      ways_each-same (told land.blocks.draft history) (told new.blocks.draft history) level some
      (λ place p there r reaches.
      let below = each-get (λ (p : Pointer) (xs : List Item). IsPointed super (told land.blocks.draft history) p
      × IsBranch tree super (told land.blocks.draft history) level p.child xs) some under each place p there in
      led.others history r (not-above tree super land history level at header pointers can.here can.member.levelled
      p.child
      below.0 below.2.1 r reaches))

  more_ways : (o : Option ℕ) (more : List Pointer) → MatchOption o (more ≡ [])
      (λ address. (pointer : Pointer) × (more ≡ pointer ∷ []) × (pointer.child ≡ address))
      → MatchOption o (can.holds.rest ≡ [])
      (λ address. IsBranch tree super (told land.blocks.draft history) level address can.holds.rest
      × FillsThere super.nodesize (told land.blocks.draft history) instead.now × FillsThere super.nodesize
      (told land.blocks.draft history) address)
      → (q : ℕ) → ways_each (told new.blocks.draft history) level more q
      ≡ ways_more (told land.blocks.draft history) level o q
  more_ways None more leads behind q = ap (λ (ps : List Pointer). ways_each (told new.blocks.draft history) level ps q)
      leads
  more_ways (Some address) more leads behind q =
      let only = ap (λ (ps : List Pointer). ways_each (told new.blocks.draft history) level ps q) leads.1 in
      let first = ways_each-cons (told new.blocks.draft history) level leads.0 [] q in
      let there = ap (λ (a : ℕ). ways (told new.blocks.draft history) level a q) leads.2 in
      let same = part_ways address can.holds.rest behind.0 q in
      omega (arith, only, first, there, same)

  new_ways : (q : ℕ) → ways_each (told new.blocks.draft history) level (led.now ∷ led.more) q
      ≡ ways_instead (told land.blocks.draft history) level instead q
  new_ways q =
      let first = ways_each-cons (told new.blocks.draft history) level led.now led.more q in
      let there = ap (λ (a : ℕ). ways (told new.blocks.draft history) level a q) led.leads in
      let same = part_ways instead.now can.holds.mine can.holds.here q in
      let more = more_ways instead.more led.more led.leads_on can.holds.behind q in
      omega (arith, first, there, same, more)

  pub led-ways : (q : ℕ) → ways_each (told new.blocks.draft history) level
      (take from pointers ++ (led.now ∷ led.more) ++ drop to pointers) q
      ≡ ways_instead (told land.blocks.draft history) level instead q
      + (ways_each (told land.blocks.draft history) level (take from pointers) q
      + ways_each (told land.blocks.draft history) level (drop to pointers) q)
  led-ways q =
      let nodes = told new.blocks.draft history in
      let whole = ways_each-append nodes level (take from pointers ++ (led.now ∷ led.more)) (drop to pointers) q in
      let front = ways_each-append nodes level (take from pointers) (led.now ∷ led.more) q in
      let mine = new_ways q in
      let before = others_ways (take from pointers) can.front can.before q in
      let after = others_ways (drop to pointers) can.back can.after q in
      omega (arith, whole, front, mine, before, after)
