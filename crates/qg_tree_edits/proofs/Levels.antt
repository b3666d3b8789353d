-- What edits in place make of the levels of fresh nodes, over any disk.
use Rattle.std.proofs.Common.{◌≡◌, ◌≢◌, ◌⊎◌, ℕ, refl, sym, ap, subst, ◌∙◌, inl, inr, Some, None}
use Rattle.std.specs.Prelude.{IsSome}
use Rattle.std.proofs.lemmas.Bool.Decides.{eqb_tells}
use Rattle.qg_device.specs.History.{Unrecorded}
use Rattle.qg_node.specs.declared.node.Header.{Header}
use Rattle.qg_node.specs.declared.node.Node.{Node}
use Rattle.qg_node.specs.Nodes.{header_of}
use Rattle.qg_shape.proofs.Sides.{header_of-parted}
use Rattle.qg_shape.proofs.Together.{header_of-whole_of}
use Rattle.qg_shape.specs.declared.joining.Joined.{Joined}
use Rattle.qg_shape.specs.declared.joining.Joined.TheVariants.{Whole, Parted}
use Rattle.qg_blocks.specs.NodesFound.{fresh_at}
use Rattle.qg_node_alloc.specs.declared.ground.Ground.{Ground}
use Rattle.qg_node_alloc.specs.Tellings.{Empties, HoldsNothing, KeepsLevels, Spares}
use Rattle.qg_node_alloc.proofs.Lands.{fresh_at-told}
use Rattle.qg_edit.specs.Outcome.{cleared}
use Rattle.qg_tree_edits.specs.Editing.{ArePair, AreRewritten, IsFreshOn, IsJoinedAs, IsJoinedThere, IsRewritten}
use Rattle.qg_tree_edits.proofs.Cutting.{rewritten-spares}
use Rattle.qg_tree_edits.proofs.United.{both-told, first-spares, later-spares, rewritten-fresh}

-- ---- one node

module _ (old new : Ground) (at : ℕ) (node : Node) (here : fresh_at old.blocks.draft at ≡ Some node)
    (is : IsRewritten old new at node) where
  pub rewritten-space : new.space ≡ old.space
  rewritten-space = ap (λ (g : Ground). g.space) is.is

  spared : Spares old new
  spared = rewritten-spares old new at 0 node here is

  -- where it stays of its level
  pub rewritten-levels : IsFreshOn new (header_of node).level at → KeepsLevels old new
  rewritten-levels stays = record {
    sizes = spared.sizes;
    stays = spared.fresh;
    each = λ q other there. elim (eqb_tells q at) [
      | inl (equal, same) ↦
          let that : Some other ≡ Some stays.node =
          sym there ∙ ap (λ (a : ℕ). fresh_at new.blocks.draft a) same ∙ stays.here in
          let one : other ≡ stays.node = cc in
          let levelled : (header_of other).level ≡ (header_of node).level =
          ap (λ (n : Node). (header_of n).level) one ∙ stays.levelled in
          (node, ap (λ (a : ℕ). fresh_at old.blocks.draft a) same ∙ here, sym levelled)
      | inr (unequal, differ) ↦ (other, sym (rewritten-fresh old new at node here is q differ) ∙ there, refl)
    ];
  }

  -- where it is emptied
  pub rewritten-empties : fresh_at new.blocks.draft at ≡ Some (cleared node) → (header_of node).address ≡ at
      → Empties old new at
  rewritten-empties empty address = record {
    space = rewritten-space;
    sizes = spared.sizes;
    stays = spared.fresh;
    here = (cleared node, empty, (refl, refl), address);
    each = λ q other there. elim (eqb_tells q at) [
      | inl (equal, same) ↦
          let that : Some other ≡ Some (cleared node) =
          sym there ∙ ap (λ (a : ℕ). fresh_at new.blocks.draft a) same ∙ empty in
          let one : other ≡ cleared node = cc in
          let nothing = subst HoldsNothing (sym one) (refl, refl) in
          (node, ap (λ (a : ℕ). fresh_at old.blocks.draft a) same ∙ here, inr (same, nothing))
      | inr (unequal, differ) ↦ (other, sym (rewritten-fresh old new at node here is q differ) ∙ there, inl refl)
    ];
  }

-- ---- two neighbours

left_level : (nodesize : ℕ) (c d a b : Node) (joined : Joined) → IsJoinedAs nodesize c d a b joined
    → (header_of c).level ≡ (header_of a).level
left_level nodesize c d a b Whole is =
    ap (λ (h : Header). h.level) (sym (ap header_of is.0.all ∙ header_of-whole_of c d))
left_level nodesize c d a b Parted is = ap (λ (h : Header). h.level) (sym (header_of-parted nodesize c d a b is))

right_emptied : (nodesize : ℕ) (c d a b : Node) (joined : Joined) → joined ≡ Whole → IsJoinedAs nodesize c d a b joined
    → HoldsNothing b
right_emptied nodesize c d a b Whole whole is = subst HoldsNothing (sym is.1) (refl, refl)
right_emptied nodesize c d a b Parted whole is = absurd cc

right_level : (nodesize : ℕ) (c d a b : Node) (joined : Joined) → joined ≡ Parted → IsJoinedAs nodesize c d a b joined
    → (header_of d).level ≡ (header_of b).level
right_level nodesize c d a b Whole parted is = absurd cc
right_level nodesize c d a b Parted parted is = ap (λ (h : Header). h.level) (sym is.header)

module _ (old mid : Ground) (left right : ℕ) (differ : left ≢ right) (pair : ArePair old left right)
    (are : AreRewritten old mid left right) (joined : Joined) (there : IsJoinedThere old mid left right joined) where
  became : IsJoinedAs old.space.sizes.nodesize pair.a pair.b there.a there.b joined
  became = there.is pair.a pair.b pair.left_here pair.right_here

  pub both-space : mid.space ≡ old.space
  both-space =
      ap (λ (g : Ground). g.space) (are.later pair.a pair.left_here).is
      ∙ ap (λ (g : Ground). g.space) (are.first pair.b pair.right_here).is

  first : Spares old are.mid
  first = first-spares old mid left right differ pair are

  later : Spares are.mid mid
  later = later-spares old mid left right differ pair are

  both-sizes : mid.blocks.draft.sizes ≡ old.blocks.draft.sizes
  both-sizes = later.sizes ∙ first.sizes

  both-stay : (q : ℕ) → IsSome (fresh_at old.blocks.draft q) → IsSome (fresh_at mid.blocks.draft q)
  both-stay q some = later.fresh q (first.fresh q some)

  others : (q : ℕ) → q ≢ left → q ≢ right → fresh_at mid.blocks.draft q ≡ fresh_at old.blocks.draft q
  others q not_left not_right =
      fresh_at-told old.blocks.draft mid.blocks.draft q
      (both-told old mid left right differ pair are (Unrecorded 0) q not_left not_right)

  -- what a fresh node was before, where one of the two is told by what became of it
  was : (P : ℕ → Node → Node → Type 0) → P left pair.a there.a → P right pair.b there.b → ((q : ℕ) (n : Node) → P q n n)
      → (q : ℕ) (node : Node) → fresh_at mid.blocks.draft q ≡ Some node
      → (n : Node) × (fresh_at old.blocks.draft q ≡ Some n) × P q n node
  was P on_left on_right else_same q node here = elim (eqb_tells q left) [
    | inl (equal, same) ↦
        let that : Some node ≡ Some there.a =
        sym here ∙ ap (λ (a : ℕ). fresh_at mid.blocks.draft a) same ∙ there.left_there in
        let one : node ≡ there.a = cc in (
          pair.a,
          ap (λ (a : ℕ). fresh_at old.blocks.draft a) same ∙ pair.left_here,
          subst (λ (a : ℕ). P a pair.a node) (sym same) (subst (λ (n : Node). P left pair.a n) (sym one) on_left),
        )
    | inr (unequal, not_left) ↦ elim (eqb_tells q right) [
      | inl (equal, same) ↦
          let that : Some node ≡ Some there.b =
          sym here ∙ ap (λ (a : ℕ). fresh_at mid.blocks.draft a) same ∙ there.right_there in
          let one : node ≡ there.b = cc in (
            pair.b,
            ap (λ (a : ℕ). fresh_at old.blocks.draft a) same ∙ pair.right_here,
            subst (λ (a : ℕ). P a pair.b node) (sym same) (subst (λ (n : Node). P right pair.b n) (sym one) on_right),
          )
      | inr (unequal', not_right) ↦ (node, sym (others q not_left not_right) ∙ here, else_same q node)
    ]
  ]

  -- where both share anew
  pub joined-levels : joined ≡ Parted → KeepsLevels old mid
  joined-levels parted = record {
    sizes = both-sizes;
    stays = both-stay;
    each = was (λ q n node. (header_of n).level ≡ (header_of node).level)
        (left_level old.space.sizes.nodesize pair.a pair.b there.a there.b joined became)
        (right_level old.space.sizes.nodesize pair.a pair.b there.a there.b joined parted became)
        (λ q n. refl);
  }

  -- where all is in the left one
  pub joined-empties : joined ≡ Whole → (header_of there.b).address ≡ right → Empties old mid right
  joined-empties whole address = record {
    space = both-space;
    sizes = both-sizes;
    stays = both-stay;
    here = (
      there.b,
      there.right_there,
      right_emptied old.space.sizes.nodesize pair.a pair.b there.a there.b joined whole became,
      address,
    );
    each = was (λ q n node. ((header_of n).level ≡ (header_of node).level) ⊎ ((q ≡ right) × HoldsNothing node))
        (inl (left_level old.space.sizes.nodesize pair.a pair.b there.a there.b joined became))
        (inr (refl, right_emptied old.space.sizes.nodesize pair.a pair.b there.a there.b joined whole became))
        (λ q n. inl refl);
  }
