-- Pointers of a fresh node that are set to what stands there instead.
use Rattle.std.proofs.Common.{◌≡◌, ◌≢◌, ℕ, suc, true, List, [], ◌∷◌, ◌++◌, take, drop, arith, refl, sym, ap, subst, ◌∙◌}
use Rattle.std.proofs.Common.{Option, Some, None}
use Rattle.std.specs.Prelude.{MatchOption}
use Rattle.std.specs.List.{list_all}
use Rattle.std.specs.Ordering.{is_lt}
use Rattle.std.proofs.lemmas.List.{append-nil, append_assoc}
use Rattle.std.proofs.lemmas.Option.{MatchOption-at_none, MatchOption-at_some}
use Rattle.std.proofs.lemmas.List.Folds.{list_all-map}
use Rattle.qg_device.specs.History.{History}
use Rattle.qg_num.specs.Key.{key_cmp}
use Rattle.qg_num.specs.declared.key.Key.{Key}
use Rattle.qg_node.specs.declared.item.Item.{Item}
use Rattle.qg_node.specs.declared.pointer.Pointer.{Pointer}
use Rattle.qg_node.specs.declared.node.Header.{Header}
use Rattle.qg_node.specs.declared.node.Node.{Node}
use Rattle.qg_node.specs.declared.node.Node.TheVariants.{Inner}
use Rattle.qg_node.specs.Nodes.{header_of, is_ascending}
use Rattle.qg_node.specs.NodeText.{IsNodeSize}
use Rattle.qg_super.specs.declared.superblock.Super.{Super}
use Rattle.qg_shape.specs.Filled.{IsFilled}
use Rattle.qg_shape.specs.Pointing.{pointer_to}
use Rattle.qg_shape.proofs.Ascending.{all_behind, ascending_round}
use Rattle.qg_shape.proofs.Sides.{is_shaped-pointer_to}
use Rattle.qg_image.specs.declared.tree.TreeKind.{TreeKind}
use Rattle.qg_blocks.specs.NodesFound.{fresh_at, held_at, told}
use Rattle.qg_blocks.proofs.Telling.{fresh-held}
use Rattle.qg_node_alloc.specs.declared.ground.Ground.{Ground}
use Rattle.qg_node_alloc.proofs.Editing.{edited-others}
use Rattle.qg_node_alloc.proofs.Lands.{IsSome-is, told-fresh_at}
use Rattle.qg_edit.proofs.Cuts.{large}
use Rattle.qg_tree_edits.specs.declared.instead.Instead.{Instead}
use Rattle.qg_tree_read.specs.Tree.{Reaches}
use Rattle.qg_tree_read.specs.Branch.{AreBranches, IsBranch, IsPointed}
use Rattle.qg_tree_edits.specs.Editing.{CanLead, FillsThere, HasLed, IsCutThere, IsNamed, IsRewritten}
use Rattle.qg_tree_read.proofs.Split.{keys_to}
use Rattle.qg_tree_read.proofs.Under.{BeginAt}
use Rattle.qg_tree_read.proofs.Branches.{branch-first, branch-level, each-get, each-join}
use Rattle.qg_tree_read.proofs.BranchFrames.{branches-same}
use Rattle.qg_tree_read.proofs.BranchForms.{shape-parts}
use Rattle.qg_tree_read.proofs.BranchOrder.{keys_of}
use Rattle.qg_tree_read.proofs.BranchRanges.{all-parts, ascending-others, pointers-all}

-- ---- the pointers' keys ascend where the items do

greater_behind : (key : Key) (first others items : List Item) → BeginAt key first → items ≡ first ++ others
    → is_ascending (keys_of items) ≡ true
    → list_all (λ item. is_lt (key_cmp key item.key)) others ≡ true
unfolding is_ascending
greater_behind key [] others items begins whole ascending = absurd begins
greater_behind key (item ∷ first) others items begins whole ascending =
    let ascends : is_ascending (keys_of (item ∷ (first ++ others))) ≡ true =
    ap (λ (xs : List Item). is_ascending (keys_of xs)) (sym whole) ∙ ascending in
    let all : list_all (λ (other : Item). is_lt (key_cmp item.key other.key)) (first ++ others) ≡ true =
    sym (list_all-map (λ (k : Key). is_lt (key_cmp item.key k)) (λ (other : Item). other.key) (first ++ others))
    ∙ all_behind item.key (keys_of (first ++ others)) ascends in
    let behind = (all-parts (λ (other : Item). is_lt (key_cmp item.key other.key)) first others
    (first ++ others) refl all).1 in
    subst (λ (k : Key). list_all (λ (other : Item). is_lt (key_cmp k other.key)) others ≡ true) begins behind

module _ (tree : TreeKind) (super : Super) (nodes : ℕ → Option Node) where
  pub branches-keys : (level : ℕ) (pointers : List Pointer) (items : List Item)
      → AreBranches tree super nodes level pointers items → is_ascending (keys_of items) ≡ true
      → is_ascending (keys_to pointers) ≡ true
  unfolding is_ascending
  branches-keys level [] items each ascending = refl
  branches-keys level (pointer ∷ pointers) items each ascending =
      let first = each.0 in
      let others = each.1 in
      let begins = branch-first tree super nodes level pointer first each.3.0 each.3.1 in
      let tail = branches-keys level pointers others each.4 (ascending-others first others items each.2 ascending) in
      let greater = greater_behind pointer.key first others items begins each.2 ascending in
      ascending_round [] pointer.key (keys_to pointers) refl refl tail
      (pointers-all tree super nodes (λ (k : Key). is_lt (key_cmp pointer.key k)) level pointers others each.4
      greater)

  -- ---- the pointer to a node that is told

  pub pointed-there : (at : ℕ) (node : Node) → nodes at ≡ Some node → (header_of node).address ≡ at
      → IsNodeSize super.nodesize → IsFilled super.nodesize node → IsPointed super nodes (pointer_to node)
  pointed-there at node there named size filled =
      let shaped = shape-parts super.nodesize (pointer_to node).key node
      (is_shaped-pointer_to super.nodesize node (large super.nodesize size) filled) in
      record { node = node; there = ap nodes named ∙ there; dated = refl; full = shaped.0; first = shaped.1 }

  same_told : (at : ℕ) (node other : Node) → nodes at ≡ Some node → nodes at ≡ Some other → other ≡ node
  same_told at node other there here = let e = sym here ∙ there in cc

  filled_told : (at : ℕ) (node : Node) → nodes at ≡ Some node → FillsThere super.nodesize nodes at
      → IsFilled super.nodesize node
  filled_told at node there fills =
      subst (λ (n : Node). IsFilled super.nodesize n) (same_told at node fills.node there fills.there) fills.filled

  Leads : ℕ → Pointer → List Item → Type 0
  Leads level pointer under = IsPointed super nodes pointer × IsBranch tree super nodes level pointer.child under

  branch_at : (level at : ℕ) (pointer : Pointer) (items : List Item) → pointer.child ≡ at
      → IsBranch tree super nodes level at items → IsBranch tree super nodes level pointer.child items
  branch_at level at pointer items same branch = subst (λ (a : ℕ). IsBranch tree super nodes level a items)
      (sym same) branch

  -- what stands there, by pointers
  pub one-leads : (level at : ℕ) (node : Node) (items : List Item) → nodes at ≡ Some node
      → (header_of node).address ≡ at → IsNodeSize super.nodesize → FillsThere super.nodesize nodes at
      → IsBranch tree super nodes level at items → AreBranches tree super nodes level (pointer_to node ∷ []) items
  one-leads level at node items there named size fills branch = (
    items,
    [],
    sym (append-nil items),
    (
      pointed-there at node there named size (filled_told at node there fills),
      branch_at level at
          (pointer_to node) items named branch,
    ),
    refl,
  )

  pub two-lead : (level at more : ℕ) (node other : Node) (mine rest items : List Item) → nodes at ≡ Some node
      → (header_of node).address ≡ at → nodes more ≡ Some other → (header_of other).address ≡ more
      → IsNodeSize super.nodesize → FillsThere super.nodesize nodes at → FillsThere super.nodesize nodes more
      → items ≡ mine ++ rest → IsBranch tree super nodes level at mine
      → IsBranch tree super nodes level more rest
      → AreBranches tree super nodes level (pointer_to node ∷ pointer_to other ∷ []) items
  two-lead level at more node other mine rest items there named others_there others_named size fills fills_more
      items_are branch branch_more = (
        mine,
        rest,
        items_are,
        (
          pointed-there at node there named size (filled_told at node there fills),
          branch_at level at
              (pointer_to node) mine named branch,
        ),
        one-leads level more other rest others_there others_named size fills_more branch_more,
      )

-- ---- a node that is edited where it lies, above

module _ (tree : TreeKind) (super : Super) (land : Ground) (history : History) (level at : ℕ) (header : Header)
    (pointers : List Pointer)
    (here : fresh_at land.blocks.draft at ≡ Some (Inner header pointers)) (high : header.level ≡ suc level) where
  nodes : ℕ → Option Node
  nodes = told land.blocks.draft history

  -- nothing below is it
  pub not-above : (address : ℕ) (items : List Item)
      → IsBranch tree super (told land.blocks.draft history) level address items → (q : ℕ)
      → Reaches (told land.blocks.draft history) level address q → q ≢ at
  not-above address items branch q reaches same =
      let low = branch-level tree super (told land.blocks.draft history) level address items branch q reaches in
      let there = told-fresh_at land.blocks.draft history at (Inner header pointers) here in
      let is : Some low.0 ≡ Some (Inner header pointers) = sym low.1 ∙ ap (told land.blocks.draft history) same
      ∙ there in
      let one : low.0 ≡ Inner header pointers = cc in
      let level_is : (header_of low.0).level ≡ suc level = ap (λ (n : Node). (header_of n).level) one ∙ high in
      let upto = low.2 in
      omega (arith, level_is, upto)

  pub rewritten-others : (new : Ground) → IsRewritten land new at (Inner header pointers)
      → (disk : History) (q : ℕ) → q ≢ at
      → told new.blocks.draft disk q ≡ told land.blocks.draft disk q
  rewritten-others new is disk q differ =
      ap (λ (g : Ground). told g.blocks.draft disk q) is.is
      ∙ edited-others land at is.node disk q
      (IsSome-is (fresh_at land.blocks.draft at) (Inner header pointers) here) differ

  pub branches-rewritten : (new : Ground) (others : List Pointer) (items : List Item)
      → IsRewritten land new at (Inner header pointers)
      → AreBranches tree super (told land.blocks.draft history) level others items
      → AreBranches tree super (told new.blocks.draft history) level others items
  branches-rewritten new others items is each =
      branches-same tree super (told land.blocks.draft history) (told new.blocks.draft history) level others items each
      (λ place pointer there q reaches.
      let under = each-get (λ (p : Pointer) (xs : List Item). IsPointed super (told land.blocks.draft history) p
      × IsBranch tree super (told land.blocks.draft history) level p.child xs) others items each place pointer
      there in
      rewritten-others new is history q (not-above pointer.child under.0 under.2.1 q reaches))

  -- ---- what was set

  pub led : (new : Ground) (from to : ℕ) (instead : Instead) (items : List Item) (rest : Option Node) (now : Pointer)
      (more : List Pointer)
      → (can : CanLead tree super land history level at from to instead pointers header items)
      → now.child ≡ instead.now
      → MatchOption instead.more (more ≡ []) (λ address. (pointer : Pointer) × (more ≡ pointer ∷ [])
      × (pointer.child ≡ address))
      → AreBranches tree super (told land.blocks.draft history) level (now ∷ more) can.mine
      → IsRewritten land new at (Inner header pointers)
      → IsCutThere land.space.sizes.nodesize new at (Inner header pointers)
      (Inner header (take from pointers ++ (now ∷ more) ++ drop to pointers)) rest
      → HasLed tree super land new history level at from to instead pointers header items rest
  led new from to instead items rest now more can child behind leads is cut =
      let Under = λ (p : Pointer) (xs : List Item). IsPointed super (told land.blocks.draft history) p
      × IsBranch tree super (told land.blocks.draft history) level p.child xs in
      let all = each-join Under (take from pointers ++ (now ∷ more)) (drop to pointers) (can.front ++ can.mine) can.back
      (each-join Under (take from pointers) (now ∷ more) can.front can.mine can.before leads) can.after in
      let whole : (can.front ++ can.mine) ++ can.back ≡ items = append_assoc can.front can.mine can.back
      ∙ sym can.items_are in
      let branches = subst (λ (xs : List Item). AreBranches tree super (told land.blocks.draft history) level
      (take from pointers ++ (now ∷ more) ++ drop to pointers) xs) whole all in
      record {
        now = now;
        more = more;
        leads = child;
        leads_on = behind;
        branches = branches-rewritten new (take from pointers ++ (now ∷ more) ++ drop to pointers) items is branches;
        cut = cut;
        others = rewritten-others new is;
        space = ap (λ (g : Ground). g.space) is.is;
      }

  -- keys ascend with them
  pub led-ascends : (from to : ℕ) (instead : Instead) (items : List Item) (new : List Pointer)
      → (can : CanLead tree super land history level at from to instead pointers header items)
      → AreBranches tree super (told land.blocks.draft history) level new can.mine
      → is_ascending (keys_to (take from pointers ++ new ++ drop to pointers)) ≡ true
  led-ascends from to instead items new can leads =
      let Under = λ (p : Pointer) (xs : List Item). IsPointed super (told land.blocks.draft history) p
      × IsBranch tree super (told land.blocks.draft history) level p.child xs in
      let all = each-join Under (take from pointers ++ new) (drop to pointers) (can.front ++ can.mine) can.back
      (each-join Under (take from pointers) new can.front can.mine can.before leads) can.after in
      let whole : (can.front ++ can.mine) ++ can.back ≡ items = append_assoc can.front can.mine can.back
      ∙ sym can.items_are in
      branches-keys tree super (told land.blocks.draft history) level (take from pointers ++ new ++ drop to pointers)
      ((can.front ++ can.mine) ++ can.back) all
      (ap (λ (xs : List Item). is_ascending (keys_of xs)) whole ∙ can.ascending)

-- ---- what was set to one node, or to two

-- these pointers lead to the node behind, if there is one
abbrev OnlyTo : List Pointer → Option ℕ → Type 0
OnlyTo more o = MatchOption o (more ≡ []) (λ address. (pointer : Pointer) × (more ≡ pointer ∷ [])
    × (pointer.child ≡ address))

to_none : OnlyTo [] None
to_none = refl

to_some : (pointer : Pointer) (address : ℕ) → pointer.child ≡ address → OnlyTo (pointer ∷ []) (Some address)
to_some pointer address is = (pointer, refl, is)

module _ (tree : TreeKind) (super : Super) (land new : Ground) (history : History) (level at from to : ℕ)
    (instead : Instead) (pointers : List Pointer) (header : Header) (items : List Item)
    (can : CanLead tree super land history level at from to instead pointers header items)
    (named : IsNamed land instead.now) (a : Node) (held : held_at land.blocks instead.now ≡ Some a) where
  told_now : told land.blocks.draft history instead.now ≡ Some a
  told_now =
      let same = fresh-held land.blocks instead.now named.node a named.here held in
      subst (λ (n : Node). told land.blocks.draft history instead.now ≡ Some n) (sym same)
      (told-fresh_at land.blocks.draft history instead.now named.node named.here)

  now_named : (header_of a).address ≡ instead.now
  now_named = ap (λ (n : Node). (header_of n).address) (fresh-held land.blocks instead.now named.node a named.here held)
      ∙ named.named

  one_leads : instead.more ≡ None
      → AreBranches tree super (told land.blocks.draft history) level (pointer_to a ∷ []) can.mine
  one_leads none =
      let rest_none = MatchOption-at_none (can.holds.rest ≡ [])
      (λ more. IsBranch tree super (told land.blocks.draft history) level more can.holds.rest
      × FillsThere super.nodesize (told land.blocks.draft history) instead.now
      × FillsThere super.nodesize (told land.blocks.draft history) more) none can.holds.behind in
      let whole : can.mine ≡ can.holds.mine = can.holds.items_are
      ∙ ap (λ (xs : List Item). can.holds.mine ++ xs) rest_none ∙ append-nil can.holds.mine in
      subst (λ (xs : List Item). AreBranches tree super (told land.blocks.draft history) level (pointer_to a ∷ []) xs)
      (sym whole)
      (one-leads tree super (told land.blocks.draft history) level instead.now a can.holds.mine told_now now_named
      can.size can.full can.holds.here)

  pub led-one : (rest : Option Node) → instead.more ≡ None → ((node : Node) → fresh_at land.blocks.draft at ≡ Some node
      → IsRewritten land new at node)
      → IsCutThere land.space.sizes.nodesize new at (Inner header pointers)
      (Inner header (take from pointers ++ (pointer_to a ∷ []) ++ drop to pointers)) rest
      → HasLed tree super land new history level at from to instead pointers header items rest
  led-one rest none is cut =
      led tree super land history level at header pointers can.here can.member.levelled new from to instead items rest
      (pointer_to a) [] can now_named
      (subst (λ (o : Option ℕ). OnlyTo [] o) (sym none) to_none)
      (one_leads none) (is (Inner header pointers) can.here) cut

  pub one-ascends : instead.more ≡ None
      → is_ascending (keys_to (take from pointers ++ (pointer_to a ∷ []) ++ drop to pointers)) ≡ true
  one-ascends none = led-ascends tree super land history level at header pointers can.here can.member.levelled from to
      instead items (pointer_to a ∷ []) can (one_leads none)

  module _ (more : ℕ) (some : instead.more ≡ Some more) (named_more : IsNamed land more) (b : Node)
      (held_more : held_at land.blocks more ≡ Some b) where
    told_more : told land.blocks.draft history more ≡ Some b
    told_more =
        let same = fresh-held land.blocks more named_more.node b named_more.here held_more in
        subst (λ (n : Node). told land.blocks.draft history more ≡ Some n) (sym same)
        (told-fresh_at land.blocks.draft history more named_more.node named_more.here)

    more_named : (header_of b).address ≡ more
    more_named = ap (λ (n : Node). (header_of n).address)
        (fresh-held land.blocks more named_more.node b named_more.here held_more) ∙ named_more.named

    two_lead : AreBranches tree super (told land.blocks.draft history) level (pointer_to a ∷ pointer_to b ∷ []) can.mine
    two_lead =
        let behind = MatchOption-at_some (can.holds.rest ≡ [])
        (λ more. IsBranch tree super (told land.blocks.draft history) level more can.holds.rest
        × FillsThere super.nodesize (told land.blocks.draft history) instead.now
        × FillsThere super.nodesize (told land.blocks.draft history) more) more some can.holds.behind in
        two-lead tree super (told land.blocks.draft history) level instead.now more a b can.holds.mine can.holds.rest
        can.mine told_now now_named told_more more_named can.size behind.1 behind.2
        can.holds.items_are can.holds.here behind.0

    pub led-two : (rest : Option Node) → ((node : Node) → fresh_at land.blocks.draft at ≡ Some node
        → IsRewritten land new at node)
        → IsCutThere land.space.sizes.nodesize new at (Inner header pointers)
        (Inner header (take from pointers ++ (pointer_to a ∷ pointer_to b ∷ []) ++ drop to pointers)) rest
        → HasLed tree super land new history level at from to instead pointers header items rest
    led-two rest is cut =
        led tree super land history level at header pointers can.here can.member.levelled new from to instead items rest
        (pointer_to a) (pointer_to b ∷ []) can now_named
        (subst (λ (o : Option ℕ). OnlyTo (pointer_to b ∷ []) o) (sym some) (to_some (pointer_to b) more more_named))
        two_lead (is (Inner header pointers) can.here) cut

    pub two-ascend : is_ascending
        (keys_to (take from pointers ++ (pointer_to a ∷ pointer_to b ∷ []) ++ drop to pointers)) ≡ true
    two-ascend = led-ascends tree super land history level at header pointers can.here can.member.levelled from to
        instead items (pointer_to a ∷ pointer_to b ∷ []) can two_lead
