-- Pointers of a fresh node were set from the first one on: the leaves under it.
use Rattle.std.proofs.Common.{◌≡◌, ℕ, suc, List, [], ◌∷◌, ◌++◌, take, drop, refl, ap, ◌∙◌, append-nil, Option, Some}
use Rattle.std.proofs.Common.{None}
use Rattle.std.specs.Prelude.{MatchOption}
use Rattle.std.proofs.lemmas.Option.{MatchOption-at_some}
use Rattle.qg_device.specs.History.{History}
use Rattle.qg_node.specs.declared.item.Item.{Item}
use Rattle.qg_node.specs.declared.pointer.Pointer.{Pointer}
use Rattle.qg_node.specs.declared.node.Header.{Header}
use Rattle.qg_node.specs.declared.node.Node.{Node}
use Rattle.qg_node.specs.declared.node.Node.TheVariants.{Inner}
use Rattle.qg_super.specs.declared.superblock.Super.{Super}
use Rattle.qg_image.specs.declared.tree.TreeKind.{TreeKind}
use Rattle.qg_blocks.specs.NodesFound.{fresh_at, told}
use Rattle.qg_node_alloc.specs.declared.ground.Ground.{Ground}
use Rattle.qg_node_alloc.proofs.Lands.{told-fresh_at}
use Rattle.qg_tree_edits.specs.declared.instead.Instead.{Instead}
use Rattle.qg_tree_read.specs.Branch.{IsBranch, IsPointed}
use Rattle.qg_tree_edits.specs.First.{leaves, leaves_under}
use Rattle.qg_tree_edits.specs.Editing.{CanLead, FillsThere, HasLed, IsCutThere}
use Rattle.qg_tree_read.proofs.Branches.{each-get}
use Rattle.qg_tree_edits.proofs.Leading.{not-above}
use Rattle.qg_tree_edits.proofs.LeafLists.{leaves-inner, leaves-same, leaves_more, under-append, under-same}

-- a node of which nothing was cut off holds the whole
whole_there : (nodesize : ℕ) (new : Ground) (at : ℕ) (before whole : Node) (rest : Option Node) → rest ≡ None
    → IsCutThere nodesize new at before whole rest → fresh_at new.blocks.draft at ≡ Some whole
whole_there nodesize new at before whole None none cut = cut.here ∙ ap (λ (n : Node). Some n) cut.cut
whole_there nodesize new at before whole (Some node) none cut = absurd cc

-- under the pointers behind the first new one
more_under : (under : ℕ → List (List Item)) (o : Option ℕ) (more : List Pointer)
    → MatchOption o (more ≡ []) (λ address. (pointer : Pointer) × (more ≡ pointer ∷ []) × (pointer.child ≡ address))
    → leaves_under under more ≡ leaves_more under o
more_under under None more none = ap (λ (ps : List Pointer). leaves_under under ps) none
more_under under (Some address) more one =
    ap (λ (ps : List Pointer). leaves_under under ps) one.1 ∙ append-nil (under one.0.child) ∙ ap under one.2

more_same : (under other : ℕ → List (List Item)) (o : Option ℕ)
    → ((more : ℕ) → o ≡ Some more → other more ≡ under more) → leaves_more other o ≡ leaves_more under o
more_same under other None same = refl
more_same under other (Some more) same = same more refl

module _ (tree : TreeKind) (super : Super) (land new : Ground) (history : History) (level at from to : ℕ)
    (instead : Instead) (pointers : List Pointer) (header : Header) (items : List Item) (rest : Option Node)
    (can : CanLead tree super land history level at from to instead pointers header items)
    (led : HasLed tree super land new history level at from to instead pointers header items rest)
    (first : from ≡ 0) (none : rest ≡ None) where
  before : ℕ → List (List Item)
  before child = leaves (told land.blocks.draft history) level child

  after : ℕ → List (List Item)
  after child = leaves (told new.blocks.draft history) level child

  there : told new.blocks.draft history at
      ≡ Some (Inner header (take from pointers ++ (led.now ∷ led.more) ++ drop to pointers))
  there =
      told-fresh_at new.blocks.draft history at
      (Inner header (take from pointers ++ (led.now ∷ led.more) ++ drop to pointers))
      (whole_there land.space.sizes.nodesize new at (Inner header pointers)
      (Inner header (take from pointers ++ (led.now ∷ led.more) ++ drop to pointers)) rest none led.cut)

  -- under a part that stood before they are the same
  stays : (address : ℕ) (under : List Item) → IsBranch tree super (told land.blocks.draft history) level address under
      → after address ≡ before address
  unfolding before after
  stays address under branch =
      leaves-same (told land.blocks.draft history) (told new.blocks.draft history) level address
      (λ q reaches. led.others history q
      (not-above tree super land history level at header pointers can.here can.member.levelled address under branch q
      reaches))

  Under : Pointer → List Item → Type 0
  Under pointer under =
      IsPointed super (told land.blocks.draft history) pointer
      × IsBranch tree super (told land.blocks.draft history) level pointer.child under

  others_stay : leaves_under after (drop to pointers) ≡ leaves_under before (drop to pointers)
  unfolding Under
  others_stay =
      under-same before after (drop to pointers)
      (λ place pointer at_place.
      let found = each-get Under (drop to pointers) can.back can.after place pointer at_place in
      stays pointer.child found.0 found.2.1)

  now_stays : after led.now.child ≡ before instead.now
  now_stays = ap after led.leads ∙ stays instead.now can.holds.mine can.holds.here

  more_stays : leaves_under after led.more ≡ leaves_more before instead.more
  more_stays =
      more_under after instead.more led.more led.leads_on
      ∙ more_same before after instead.more
      (λ more some.
      let behind = MatchOption-at_some (can.holds.rest ≡ [])
      (λ more. IsBranch tree super (told land.blocks.draft history) level more can.holds.rest
      × FillsThere super.nodesize (told land.blocks.draft history) instead.now
      × FillsThere super.nodesize (told land.blocks.draft history) more) more some can.holds.behind in
      stays more can.holds.rest behind.0)

  -- those of what stands there instead, and of the other children
  pub led-leaves : leaves (told new.blocks.draft history) (suc level) at
      ≡ (leaves (told land.blocks.draft history) level instead.now
      ++ leaves_more (λ q. leaves (told land.blocks.draft history) level q) instead.more)
      ++ leaves_under (λ q. leaves (told land.blocks.draft history) level q) (drop to pointers)
  unfolding before after
  led-leaves =
      leaves-inner (told new.blocks.draft history) level at header (take from pointers ++ (led.now ∷ led.more)
      ++ drop to pointers) there
      ∙ ap (λ (n : ℕ). leaves_under after (take n pointers ++ (led.now ∷ led.more) ++ drop to pointers)) first
      ∙ under-append after (led.now ∷ led.more) (drop to pointers)
      ∙ ap (λ (ls : List (List Item)). (ls ++ leaves_under after led.more) ++ leaves_under after (drop to pointers))
      now_stays
      ∙ ap (λ (ls : List (List Item)). (before instead.now ++ ls) ++ leaves_under after (drop to pointers)) more_stays
      ∙ ap (λ (ls : List (List Item)). (before instead.now ++ leaves_more before instead.more) ++ ls) others_stay
