-- What does not fit where an edit of a tree names a rule.
use Rattle.std.proofs.Common.{◌≡◌, ◌≢◌, ◌⊎◌, ℕ, zero, suc, ◌+◌, ◌≤◌, ◌<◌, List, [], ◌∷◌, map, true, arith, sym, ap}
use Rattle.std.proofs.Common.{subst, ◌∙◌, inl, inr, Option, Some, None}
use Rattle.std.specs.Prelude.{⊤, MatchOption}
use Rattle.std.specs.Ordering.{is_lt}
use Rattle.qg_device.specs.History.{Event, History, Recorded, content}
use Rattle.qg_num.specs.Key.{key_cmp}
use Rattle.qg_num.specs.declared.key.Key.{Key}
use Rattle.qg_num.specs.declared.rule.Rule.{Rule}
use Rattle.qg_num.specs.declared.rule.Rule.TheVariants.{Refs}
use Rattle.qg_node.specs.declared.pointer.Pointer.{Pointer}
use Rattle.qg_node.specs.declared.node.Node.{Node}
use Rattle.qg_node.specs.Nodes.{header_of, own_pointers}
use Rattle.qg_shape.specs.Places.{LeadsTo}
use Rattle.qg_shape.specs.Pointing.{pointer_to}
use Rattle.qg_image.specs.declared.expected.Expected.{Expected}
use Rattle.qg_image.specs.declared.tree.TreeKind.{TreeKind}
use Rattle.qg_image.specs.Walk.{root_expected}
use Rattle.qg_blocks.specs.NodesInMemory.{Draft}
use Rattle.qg_blocks.specs.NodesFound.{found, fresh_at, held_at}
use Rattle.qg_blocks.proofs.Telling.{fresh-held}
use Rattle.qg_space.specs.Holding.{is_free_slot}
use Rattle.qg_node_alloc.specs.declared.ground.Ground.{Ground}
use Rattle.qg_node_alloc.specs.Land.{IsDrafted}
use Rattle.qg_edit.specs.declared.edit.Edit.{Edit}
use Rattle.qg_edit.specs.Answering.{CanSplice, IsBrokenByChange, IsBrokenUnless}
use Rattle.qg_tree_read.specs.declared.way.Way.{Way}
use Rattle.qg_tree_read.specs.Tree.{Root, super_of}
use Rattle.qg_tree_read.specs.Way.{BreaksThere}
use Rattle.qg_tree_edits.specs.declared.instead.Instead.{Instead}
use Rattle.qg_tree_edits.specs.declared.pairing.Pair.{Pair}
use Rattle.qg_tree_edits.specs.Editing.{IsFreshOn, IsNamed, IsOwned, IsPlacedBehind, IsRewritten, IsWayAt}
use Rattle.qg_tree_edits.specs.Editing.{StandsInstead}
use Rattle.qg_tree_edits.specs.Failing.{CantGrow, CantLead, CantSettle, FailsUnder, IsMisled, IsMisread, IsUnfit}
use Rattle.qg_tree_edits.specs.Failing.{LeadsDown, PointTo, StandsFor}
use Rattle.qg_tree_edits.specs.Uniting.{IsPaired}
use Rattle.qg_tree_edits.proofs.Placed.{fresh-taken}
use Rattle.qg_tree_edits.proofs.Rejoined.{fresh-apart}
use Rattle.qg_tree_edits.proofs.United.{rewritten-fresh}

-- ---- a node that is misread

-- it is while fresh nodes are the same
pub misread-same : (tree : TreeKind) (root : Root) (old new : Ground) (events : List Event) (expected : Expected)
    (at : ℕ)
    (rule : Rule) (address : ℕ) → new.blocks.draft ≡ old.blocks.draft
    → IsMisread tree root old events expected at rule address → IsMisread tree root new events expected at rule address
misread-same tree root old new events expected at rule address same bad = record {
  there = bad.there;
  breaks = subst (λ (d : Draft). BreaksThere tree (super_of root d) expected at rule (found d (content events) at))
      (sym same) bad.breaks;
}

-- ---- where a node stands

-- the neighbour of a fresh child is the child only where its pointer leads there
pub beside-child : (tree : TreeKind) (root : Root) (old new : Ground) (history : History) (expected : Expected)
    (at now child level generation : ℕ) → IsDrafted old generation → IsFreshOn old level child
    → IsOwned tree root old new history expected at now → now ≡ child → at ≡ child
beside-child tree root old new history expected at now child level generation drafted fresh owned same =
    elim owned.same [
      | inl kept ↦ sym kept.1 ∙ same
      | inr copied ↦ absurd (fresh-taken old generation child fresh.node drafted fresh.here
          (ap (is_free_slot old.space) (sym same) ∙ copied.1))
    ]

-- a node that is owned stands for the one that was
pub owned-stands : (tree : TreeKind) (root : Root) (old new : Ground) (history : History) (expected : Expected)
    (at now : ℕ) → IsOwned tree root old new history expected at now → StandsFor old at now
owned-stands tree root old new history expected at now owned =
    elim owned.same [ inl kept ↦ inl kept.1 | inr copied ↦ inr copied.1 ]

-- and so does what is placed behind it
pub placed-stands : (owner : ℕ) (land old new : Ground) (at now : ℕ) (rest : Option Node) (instead : Instead)
    → StandsFor land at now → IsPlacedBehind owner old new now rest instead → StandsFor land at instead.now
placed-stands owner land old new at now None instead stands placed =
    subst (λ (i : Instead). StandsFor land at i.now) (sym placed.0) stands
placed-stands owner land old new at now (Some node) instead stands placed =
    subst (λ (i : Instead). StandsFor land at i.now) (sym placed.1) stands

-- ---- pointers that would not ascend

-- where one node stands instead
pub misled-one : (land : Ground) (node : Node) (from to : ℕ) (instead : Instead) (peek : Node) (pointer : Pointer)
    (rule : Rule) (address : ℕ) → IsNamed land instead.now → held_at land.blocks instead.now ≡ Some peek
    → instead.more ≡ None → pointer ≡ pointer_to peek
    → IsBrokenUnless Refs node (CanSplice from to (pointer ∷ []) node) rule address
    → IsMisled land node from to instead rule address
misled-one land node from to instead peek pointer rule address named held none is bad =
    let same : peek ≡ named.node = fresh-held land.blocks instead.now named.node peek named.here held in
    let one : pointer ∷ [] ≡ pointer_to named.node ∷ [] =
    ap (λ (p : Pointer). p ∷ []) (is ∙ ap (λ (n : Node). pointer_to n) same) in
    record {
      refs = bad.0;
      named = bad.1.0;
      pointers = pointer ∷ [];
      point = record { node = named.node; here = named.here; more = rw none one };
      disorder = bad.1.1;
    }

-- and where two do
pub misled-two : (land : Ground) (node : Node) (from to : ℕ) (instead : Instead) (more : ℕ) (peek behind : Node)
    (pointer other : Pointer) (rule : Rule) (address : ℕ) → IsNamed land instead.now → IsNamed land more
    → held_at land.blocks instead.now ≡ Some peek → held_at land.blocks more ≡ Some behind
    → instead.more ≡ Some more → pointer ≡ pointer_to peek → other ≡ pointer_to behind
    → IsBrokenUnless Refs node (CanSplice from to (pointer ∷ other ∷ []) node) rule address
    → IsMisled land node from to instead rule address
misled-two land node from to instead more peek behind pointer other rule address named named' held held' some is is'
    bad =
    let same : peek ≡ named.node = fresh-held land.blocks instead.now named.node peek named.here held in
    let same' : behind ≡ named'.node = fresh-held land.blocks more named'.node behind named'.here held' in
    let one : pointer ≡ pointer_to named.node = is ∙ ap (λ (n : Node). pointer_to n) same in
    let two : other ≡ pointer_to named'.node = is' ∙ ap (λ (n : Node). pointer_to n) same' in
    let both : pointer ∷ other ∷ [] ≡ pointer_to named.node ∷ pointer_to named'.node ∷ [] =
    ap (λ (p : Pointer). p ∷ other ∷ []) one ∙ ap (λ (p : Pointer). pointer_to named.node ∷ p ∷ []) two in
    record {
      refs = bad.0;
      named = bad.1.0;
      pointers = pointer ∷ other ∷ [];
      point = record { node = named.node; here = named.here; more = rw some (named'.node, named'.here, both) };
      disorder = bad.1.1;
    }

module _ (old new : Ground) (at level : ℕ) (node : Node) (here : fresh_at old.blocks.draft at ≡ Some node)
    (levelled : (header_of node).level ≡ level + 1) (is : IsRewritten old new at node) where
  -- a fresh node of the level below stays
  stays_fresh : (q : ℕ) → IsFreshOn old level q → fresh_at new.blocks.draft q ≡ fresh_at old.blocks.draft q
  stays_fresh q fresh =
      let apart : at ≢ q = fresh-apart old (level + 1) level at q node here levelled fresh (omega arith) in
      rewritten-fresh old new at node here is q (λ same. apart (sym same))

  on_level : (q : ℕ) → IsFreshOn old level q → IsFreshOn new level q
  on_level q fresh = record { node = fresh.node; here = stays_fresh q fresh ∙ fresh.here; levelled = fresh.levelled }

  stands_more : (now : ℕ) (o : Option ℕ) → MatchOption o ⊤ (λ more. IsFreshOn old level more × (more ≢ now))
      → MatchOption o ⊤ (λ more. IsFreshOn new level more × (more ≢ now))
  stands_more now None stands = tt
  stands_more now (Some more) stands = (on_level more stands.0, stands.1)

  -- what stands instead stays
  stands_then : (instead : Instead) → StandsInstead old level instead → StandsInstead new level instead
  stands_then instead stands = record {
    now = on_level instead.now stands.now;
    more = stands_more instead.now instead.more stands.more;
  }

  point_then : (instead : Instead) (pointers : List Pointer) → StandsInstead old level instead
      → PointTo old instead pointers → PointTo new instead pointers
  point_then instead pointers stands point = record {
    node = point.node;
    here = stays_fresh instead.now stands.now ∙ point.here;
    more = of instead.more stands.more point.more;
  } where
    of : (o : Option ℕ) → MatchOption o ⊤ (λ more. IsFreshOn old level more × (more ≢ instead.now))
        → MatchOption o (pointers ≡ pointer_to point.node ∷ [])
        (λ more. (other : Node) × (fresh_at old.blocks.draft more ≡ Some other)
        × (pointers ≡ pointer_to point.node ∷ pointer_to other ∷ []))
        → MatchOption o (pointers ≡ pointer_to point.node ∷ [])
        (λ more. (other : Node) × (fresh_at new.blocks.draft more ≡ Some other)
        × (pointers ≡ pointer_to point.node ∷ pointer_to other ∷ []))
    of None stands more = more
    of (Some q) stands more = (more.0, stays_fresh q stands.0 ∙ more.1, more.2)

  -- and so its pointers would not ascend then either
  pub misled-then : (from to place : ℕ) (instead : Instead) (rule : Rule) (address : ℕ) → from ≤ place → place < to
      → StandsInstead old level instead → IsMisled old node from to instead rule address
      → CantLead new node level place rule address
  misled-then from to place instead rule address low high stands bad = record {
    from = from;
    to = to;
    over = (low, high);
    instead = instead;
    stands = stands_then instead stands;
    misled = record {
      refs = bad.refs;
      named = bad.named;
      pointers = bad.pointers;
      point = point_then instead bad.pointers stands bad.point;
      disorder = bad.disorder;
    };
  }

-- ---- a child and the neighbour that was owned

module _ (tree : TreeKind) (root : Root) (land mid : Ground) (history : History) (pointers : List Pointer)
    (to : Option Key) (level place child : ℕ) (pair : Pair)
    (is : IsPaired tree root land mid history pointers to level place child pair) where
  -- one of the two is the child
  pub paired-one : (pair.left ≡ child) ⊎ (pair.right ≡ child)
  paired-one = elim is.sides [ inl behind ↦ inl behind.1 | inr front ↦ inr front.2 ]

  -- and the child's pointer is one of the two
  pub paired-over : (pair.front ≤ place) × (place < pair.front + 2)
  paired-over =
      let first = is.front in
      elim is.sides [
        | inl behind ↦ let a = behind.0 in (omega (arith, first, a), omega (arith, first, a))
        | inr front ↦ let a = front.0 in (omega (arith, first, a), omega (arith, first, a))
      ]

-- ---- an edit on its way down

-- the edit's key leads on from a node that is fresh
pub leads-down : (land : Ground) (now : ℕ) (mine held again : Node) (to : Option Key) (level : ℕ) (edit : Edit)
    (place : ℕ) (way : Way) → fresh_at land.blocks.draft now ≡ Some mine → held_at land.blocks now ≡ Some held
    → held_at land.blocks now ≡ Some again
    → LeadsTo (map (λ (p : Pointer). p.key) (own_pointers held)) edit.key place
    → IsWayAt (own_pointers again) to level place way → LeadsDown mine to level edit place way
leads-down land now mine held again to level edit place way here held_is again_is leads is = record {
  leads = subst (λ (n : Node). LeadsTo (map (λ (p : Pointer). p.key) (own_pointers n)) edit.key place)
      (fresh-held land.blocks now mine held here held_is) leads;
  is = subst (λ (n : Node). IsWayAt (own_pointers n) to level place way)
      (fresh-held land.blocks now mine again here again_is) is;
}

module _ (tree : TreeKind) (root : Root) (edit : Edit) (events : List Event) (expected : Expected) (at : ℕ)
    (old new : Ground) (rule : Rule) (address : ℕ) where
  -- its node is misread
  pub fails-read : (level : ℕ) → IsMisread tree root old events expected at rule address
      → FailsUnder tree root edit events level expected at old new rule address
  unfolding FailsUnder
  fails-read zero bad = inl bad
  fails-read (suc level) bad = inl bad

  module _ (mid : Ground) (now : ℕ) (history : History) (is : history ≡ Recorded events) where
    fails_leaf : (owned : IsOwned tree root old mid (Recorded events) expected at now)
        → IsBrokenByChange mid.space.sizes.nodesize edit.key edit.change owned.mine rule address
        → FailsUnder tree root edit events 0 expected at old new rule address
    unfolding FailsUnder
    fails_leaf owned bad = inr (mid, now, owned, bad)

    -- it is a leaf that can't be changed
    pub fails-leaf : (owned : IsOwned tree root old mid history expected at now)
        → IsBrokenByChange mid.space.sizes.nodesize edit.key edit.change owned.mine rule address
        → FailsUnder tree root edit events 0 expected at old new rule address
    fails-leaf =
        subst (λ (h : History). (owned : IsOwned tree root old mid h expected at now)
        → IsBrokenByChange mid.space.sizes.nodesize edit.key edit.change owned.mine rule address
        → FailsUnder tree root edit events 0 expected at old new rule address) (sym is) fails_leaf

    module _ (level place : ℕ) (way : Way) where
      fails_below : (owned : IsOwned tree root old mid (Recorded events) expected at now)
          → LeadsDown owned.mine expected.to level edit place way
          → FailsUnder tree root edit events level way.expected way.address mid new rule address
          → FailsUnder tree root edit events (suc level) expected at old new rule address
      unfolding FailsUnder
      fails_below owned leads bad = inr (mid, now, owned, place, way, leads, inl bad)

      -- the part below fails
      pub fails-below : (owned : IsOwned tree root old mid history expected at now)
          → LeadsDown owned.mine expected.to level edit place way
          → FailsUnder tree root edit events level way.expected way.address mid new rule address
          → FailsUnder tree root edit events (suc level) expected at old new rule address
      fails-below =
          subst (λ (h : History). (owned : IsOwned tree root old mid h expected at now)
          → LeadsDown owned.mine expected.to level edit place way
          → FailsUnder tree root edit events level way.expected way.address mid new rule address
          → FailsUnder tree root edit events (suc level) expected at old new rule address) (sym is) fails_below

      fails_above : (child : ℕ) (owned : IsOwned tree root old mid (Recorded events) expected at now)
          → LeadsDown owned.mine expected.to level edit place way → StandsFor mid way.address child
          → CantSettle tree root new events owned.mine now expected.to level place child rule address
          → FailsUnder tree root edit events (suc level) expected at old new rule address
      unfolding FailsUnder
      fails_above child owned leads stands bad =
          inr (mid, now, owned, place, way, leads, inr (child, stands, bad))

      -- what stands in the place of the part below does not fit
      pub fails-above : (child : ℕ) (owned : IsOwned tree root old mid history expected at now)
          → LeadsDown owned.mine expected.to level edit place way → StandsFor mid way.address child
          → CantSettle tree root new events owned.mine now expected.to level place child rule address
          → FailsUnder tree root edit events (suc level) expected at old new rule address
      fails-above child =
          subst (λ (h : History). (owned : IsOwned tree root old mid h expected at now)
          → LeadsDown owned.mine expected.to level edit place way → StandsFor mid way.address child
          → CantSettle tree root new events owned.mine now expected.to level place child rule address
          → FailsUnder tree root edit events (suc level) expected at old new rule address) (sym is) (fails_above child)

-- ---- a tree

-- it is unfit where its root's part fails
pub unfit-under : (tree : TreeKind) (root : Root) (edit : Edit) (events : List Event) (level : ℕ) (expected : Expected)
    (at : ℕ) (old new : Ground) (rule : Rule) (address : ℕ) → level ≡ root.height
    → expected ≡ root_expected (Some root.height) None → at ≡ root.address
    → FailsUnder tree root edit events level expected at old new rule address
    → IsUnfit tree root edit old new events rule address
unfit-under tree root edit events level expected at old new rule address high expects there bad =
    let one = subst (λ (n : ℕ). FailsUnder tree root edit events n expected at old new rule address) high bad in
    let two = subst (λ (e : Expected). FailsUnder tree root edit events root.height e at old new rule address) expects
    one in
    let three = subst (λ (q : ℕ). FailsUnder tree root edit events root.height (root_expected (Some root.height) None) q
    old new rule address) there two in
    record { is = inl three }

-- no root fits above two nodes, of which the second does not have the greater keys
pub cant-grow : (root : Root) (land : Ground) (now more : ℕ) (left right : Node) (rule : Rule) (address : ℕ)
    → IsDrafted land root.next → (first : IsFreshOn land root.height now) → (second : IsFreshOn land root.height more)
    → left ≡ first.node → right ≡ second.node → rule ≡ Refs → address ≡ (pointer_to left).child
    → (is_lt (key_cmp (pointer_to left).key (pointer_to right).key) ≡ true → ⊥) → CantGrow root land rule address
cant-grow root land now more left right rule address drafted first second one other refs at disorder =
    let there : address ≡ now =
    at ∙ ap (λ (n : Node). (header_of n).address) one ∙ (drafted.each now first.node first.here).kept.placed in
    let keys : is_lt (key_cmp (pointer_to first.node).key (pointer_to second.node).key) ≡ true → ⊥ =
    subst (λ (n : Node). is_lt (key_cmp (pointer_to first.node).key (pointer_to n).key) ≡ true → ⊥) other
    (subst (λ (n : Node). is_lt (key_cmp (pointer_to n).key (pointer_to right).key) ≡ true → ⊥) one disorder) in
    let grows : CantGrow root land rule now =
    record { more = more; first = first; second = second; refs = refs; high = inr keys } in
    subst (λ (q : ℕ). CantGrow root land rule q) (sym there) grows
