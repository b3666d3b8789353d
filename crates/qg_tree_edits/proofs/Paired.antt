-- A child that is not a quarter full, and its neighbour, which was owned: over any disk.
use Rattle.std.proofs.Common.{◌≡◌, ◌≢◌, ◌⊎◌, ℕ, ◌+◌, ◌≤◌, ◌<◌, List, length, arith, refl, sym, ap, subst, ◌∙◌, inl, inr}
use Rattle.std.proofs.Common.{Option, Some}
use Rattle.qg_device.specs.History.{History}
use Rattle.qg_num.specs.declared.key.Key.{Key}
use Rattle.qg_node.specs.declared.pointer.Pointer.{Pointer}
use Rattle.qg_node.specs.declared.node.Node.{Node}
use Rattle.qg_node.specs.declared.node.Node.TheVariants.{Leaf, Inner}
use Rattle.qg_node.specs.Nodes.{header_of, used_bytes}
use Rattle.qg_shape.specs.Filled.{IsThin}
use Rattle.qg_image.specs.declared.expected.Expected.{Expected}
use Rattle.qg_image.specs.declared.tree.TreeKind.{TreeKind}
use Rattle.qg_blocks.specs.NodesFound.{fresh_at}
use Rattle.qg_node_alloc.specs.declared.ground.Ground.{Ground}
use Rattle.qg_node_alloc.specs.Land.{IsDrafted, Rests}
use Rattle.qg_node_alloc.specs.Tellings.{node_copy}
use Rattle.qg_tree_edits.specs.declared.pairing.Pair.{Pair}
use Rattle.qg_tree_read.specs.Tree.{Root, super_of}
use Rattle.qg_tree_edits.specs.Editing.{ArePair, IsFreshOn, IsOwned}
use Rattle.qg_tree_edits.specs.Uniting.{IsPaired}
use Rattle.qg_tree_read.proofs.BranchForms.{form-expected}
use Rattle.qg_tree_edits.proofs.Spliced.{got-inside}
use Rattle.qg_tree_edits.proofs.Served.{node-drafted, size-drafted}
use Rattle.qg_tree_read.proofs.Under.{level-told}

copy_level : (node : Node) (now owner generation : ℕ) → (header_of (node_copy node now owner generation)).level
    ≡ (header_of node).level
copy_level (Leaf header items) now owner generation = refl
copy_level (Inner header pointers) now owner generation = refl

copy_used : (node : Node) (now owner generation : ℕ)
    → used_bytes (node_copy node now owner generation) ≡ used_bytes node
copy_used (Leaf header items) now owner generation = refl
copy_used (Inner header pointers) now owner generation = refl

-- a node that was owned has its level, and as much of it is used
module _ (tree : TreeKind) (root : Root) (land new : Ground) (history : History) (expected : Expected)
    (at now : ℕ) (owned : IsOwned tree root land new history expected at now) where
  pub owned-level : (header_of owned.mine).level ≡ (header_of owned.node).level
  owned-level = elim owned.same [
    | inl kept ↦ ap (λ (n : Node). (header_of n).level) kept.0
    | inr copied ↦ ap (λ (n : Node). (header_of n).level) copied.0 ∙ copy_level owned.node now root.owner root.next
  ]

  pub owned-used : used_bytes owned.mine ≡ used_bytes owned.node
  owned-used = elim owned.same [
    | inl kept ↦ ap used_bytes kept.0
    | inr copied ↦ ap used_bytes copied.0 ∙ copy_used owned.node now root.owner root.next
  ]

  pub owned-levelled : (level : ℕ) → expected.level ≡ Some level → (header_of owned.mine).level ≡ level
  owned-levelled level told =
      owned-level ∙ level-told expected.level level (header_of owned.node).level told
      (form-expected tree (super_of root land.blocks.draft) expected at owned.node owned.formed).level

-- whether a node at an address is not a quarter full
abbrev pub IsThinAt : Ground → ℕ → Type 0
IsThinAt land at = (node : Node) → fresh_at land.blocks.draft at ≡ Some node → IsThin land.space.sizes.nodesize node

pair_of : (land : Ground) (generation level left right : ℕ) → IsDrafted land generation → IsFreshOn land level left
    → IsFreshOn land level right → IsThinAt land left ⊎ IsThinAt land right
    → ArePair land left right
pair_of land generation level left right drafted a b thin = record {
  a = a.node;
  b = b.node;
  left_here = a.here;
  right_here = b.here;
  size = size-drafted land generation drafted;
  nodesize = drafted.sizes.nodesize;
  left_sound = node-drafted land generation left a.node drafted a.here;
  right_sound = node-drafted land generation right b.node drafted b.here;
  level = a.levelled ∙ sym b.levelled;
  thin = elim thin [ inl left_thin ↦ inl (left_thin a.node a.here) | inr right_thin ↦ inr (right_thin b.node b.here) ];
}

module _ (tree : TreeKind) (root : Root) (land new : Ground) (history later : History) (pointers : List Pointer)
    (to : Option Key) (level place child : ℕ) (pair : Pair)
    (is : IsPaired tree root land new history pointers to level place child pair)
    (rests : Rests land new later root.next) (fresh : IsFreshOn land level child) (thin : IsThinAt land child) where
  now_fresh : IsFreshOn new level is.now
  now_fresh = record {
    node = is.owned.mine;
    here = is.owned.here;
    levelled = owned-levelled tree root land new history is.beside.way.expected is.beside.way.address is.now is.owned
        level (ap (λ (e : Expected). e.level) is.is.way.expects);
  }

  child_fresh : IsFreshOn new level child
  child_fresh = record {
    node = fresh.node;
    here = is.owned.keeps child fresh.node fresh.here;
    levelled = fresh.levelled;
  }

  child_thin : IsThinAt new child
  child_thin node here =
      let was = is.owned.keeps child fresh.node fresh.here in
      let same : Some fresh.node ≡ Some node = sym was ∙ here in
      let one : fresh.node ≡ node = cc in
      subst (λ (n : ℕ). IsThin n node) (sym (ap (λ (s : _). s.nodesize) rests.sizes))
      (subst (λ (n : Node). IsThin land.space.sizes.nodesize n) one (thin fresh.node fresh.here))

  -- both are fresh, at two addresses
  pub pair-left : IsFreshOn new level pair.left
  pair-left = elim is.sides [
    | inl behind ↦ subst (λ (a : ℕ). IsFreshOn new level a) (sym behind.1) child_fresh
    | inr front ↦ subst (λ (a : ℕ). IsFreshOn new level a) (sym front.1) now_fresh
  ]

  pub pair-right : IsFreshOn new level pair.right
  pair-right = elim is.sides [
    | inl behind ↦ subst (λ (a : ℕ). IsFreshOn new level a) (sym behind.2) now_fresh
    | inr front ↦ subst (λ (a : ℕ). IsFreshOn new level a) (sym front.2) child_fresh
  ]

  pub pair-differ : pair.left ≢ pair.right
  pair-differ same = elim is.sides [
    | inl behind ↦ is.apart (sym behind.2 ∙ sym same ∙ behind.1)
    | inr front ↦ is.apart (sym front.1 ∙ same ∙ front.2)
  ]

  -- and can be joined
  pub are-pair : ArePair new pair.left pair.right
  are-pair = pair_of new root.next level pair.left pair.right rests.drafted pair-left pair-right (elim is.sides [
    | inl behind ↦ inl (subst (λ (a : ℕ). IsThinAt new a) (sym behind.1) child_thin)
    | inr front ↦ inr (subst (λ (a : ℕ). IsThinAt new a) (sym front.2) child_thin)
  ])

  -- both are of the level
  pub pair-levels : (a b : Node) → fresh_at new.blocks.draft pair.left ≡ Some a
      → fresh_at new.blocks.draft pair.right ≡ Some b
      → ((header_of a).level ≡ level) × ((header_of b).level ≡ level)
  pair-levels a b here there =
      let first : Some a ≡ Some pair-left.node = sym here ∙ pair-left.here in
      let second : Some b ≡ Some pair-right.node = sym there ∙ pair-right.here in
      let one : a ≡ pair-left.node = cc in
      let other : b ≡ pair-right.node = cc in (
        ap (λ (n : Node). (header_of n).level) one ∙ pair-left.levelled,
        ap (λ (n : Node). (header_of n).level) other
            ∙ pair-right.levelled,
      )

  -- the two pointers stand in the node
  pub pair-inside : place < length pointers → pair.front + 2 ≤ length pointers
  pair-inside low =
      let first = is.front in
      let found = got-inside is.is.other pointers is.is.way.pointer is.is.way.there in
      elim is.is.pair [
        | inl behind ↦ let a = behind.0 in let b = behind.1 in omega (arith, first, found, a, b)
        | inr front ↦ let a = front.0 in omega (arith, first, low, a)
      ]
