-- What is known of nodes and space in which a tree is edited.
use Rattle.std.proofs.Common.{◌≡◌, ℕ, ◌+◌, ◌≤◌, true, arith, sym, subst, ◌∙◌, inl, inr, Option, Some, None}
use Rattle.std.specs.Prelude.{⊤, ◌==◌, ◌&&◌, ◌||◌, nat_le, length, MatchOption}
use Rattle.std.proofs.lemmas.Bool.{and_parts, eqb-true, or_cases}
use Rattle.qg_node.specs.declared.node.Node.{Node}
use Rattle.qg_node.specs.declared.node.Node.TheVariants.{Leaf, Inner}
use Rattle.qg_node.specs.Nodes.{own_pointers}
use Rattle.qg_node.specs.NodeText.{IsNode, IsNodeSize}
use Rattle.qg_super.specs.declared.sizes.Sizes.{Sizes}
use Rattle.qg_super.specs.Places.{is_served}
use Rattle.qg_shape.specs.Filled.{IsFilled, IsThin}
use Rattle.qg_shape.specs.Parts.{IsInner, IsLeaf}
use Rattle.qg_shape.proofs.Edited.{inner_above, leaf_at_zero}
use Rattle.qg_blocks.specs.NodesFound.{fresh_at}
use Rattle.qg_node_alloc.specs.declared.ground.Ground.{Ground}
use Rattle.qg_node_alloc.specs.Land.{IsDrafted}
use Rattle.qg_tree_edits.specs.declared.instead.Instead.{Instead}
use Rattle.qg_tree_edits.specs.Editing.{IsFreshOn, IsNamed, OfEach, StandsInstead, slots_for}
use Rattle.qg_tree_edits.specs.Steps.{HasNodeSize}

size_served : (sizes : Sizes) → is_served sizes ≡ true → IsNodeSize sizes.nodesize
unfolding is_served
size_served sizes served =
    let big = ((sizes.nodesize == 16384) && nat_le sizes.slots 4032) in
    let small = ((sizes.nodesize == 4096) && nat_le sizes.slots 16128) in
    let one = (and_parts (small || big) (nat_le 64 sizes.slots)
    (and_parts ((small || big) && nat_le 64 sizes.slots) (nat_le 16 sizes.sectors)
    (and_parts (((small || big) && nat_le 64 sizes.slots) && nat_le 16 sizes.sectors) (nat_le sizes.sectors 16777216)
    served).0).0).0 in
    elim (or_cases small big one) [
      | inl is ↦ inl (eqb-true sizes.nodesize 4096 (and_parts (sizes.nodesize == 4096) (nat_le sizes.slots 16128) is).0)
      | inr is ↦ inr (eqb-true sizes.nodesize 16384
          (and_parts (sizes.nodesize == 16384) (nat_le sizes.slots 4032) is).0)
    ]

pub size-drafted : (land : Ground) (generation : ℕ) → IsDrafted land generation → IsNodeSize land.space.sizes.nodesize
size-drafted land generation drafted = size_served land.space.sizes drafted.sizes.served

pub size-blocks : (land : Ground) (generation : ℕ) → IsDrafted land generation
    → IsNodeSize land.blocks.draft.sizes.nodesize
size-blocks land generation drafted = subst (λ (n : ℕ). IsNodeSize n) (sym drafted.sizes.nodesize)
    (size-drafted land generation drafted)

-- nodes and space agree on it
pub sizes-drafted : (land : Ground) (generation : ℕ) → IsDrafted land generation → HasNodeSize land
sizes-drafted land generation drafted = record {
  size = size-drafted land generation drafted;
  nodesize = drafted.sizes.nodesize;
}

pub node-drafted : (land : Ground) (generation at : ℕ) (node : Node) → IsDrafted land generation
    → fresh_at land.blocks.draft at ≡ Some node → IsNode land.space.sizes.nodesize node
node-drafted land generation at node drafted here = (drafted.each at node here).kept.sound

-- ---- a fresh node of a level

pub fresh-named : (land : Ground) (generation level at : ℕ) → IsDrafted land generation → IsFreshOn land level at
    → IsNamed land at
fresh-named land generation level at drafted fresh = record {
  node = fresh.node;
  here = fresh.here;
  named = (drafted.each at fresh.node fresh.here).kept.placed;
}

pub instead-named : (land : Ground) (generation level : ℕ) (instead : Instead) → IsDrafted land generation
    → StandsInstead land level instead → OfEach (IsNamed land) instead
instead-named land generation level instead drafted stands =
    (fresh-named land generation level instead.now drafted stands.now, second instead.more stands.more) where
      second : (o : Option ℕ) → MatchOption o ⊤ (λ more. IsFreshOn land level more × (more ≡ instead.now → ⊥))
          → MatchOption o ⊤ (IsNamed land)
      second None more = tt
      second (Some more) is = fresh-named land generation level more drafted is.0

pub fresh-inner : (land : Ground) (generation level at : ℕ) (node : Node) → IsDrafted land generation
    → (fresh : IsFreshOn land (level + 1) at) → fresh_at land.blocks.draft at ≡ Some node → IsInner node
fresh-inner land generation level at node drafted fresh here =
    let sound = (drafted.each at fresh.node fresh.here).kept.sound in
    let high = fresh.levelled in
    let that : Some fresh.node ≡ Some node = sym fresh.here ∙ here in
    let one : fresh.node ≡ node = cc in
    subst (λ (n : Node). IsInner n) one (inner_above fresh.node sound.levelled (omega (arith, high)))

pub fresh-leaf : (land : Ground) (generation at : ℕ) (node : Node) → IsDrafted land generation
    → (fresh : IsFreshOn land 0 at) → fresh_at land.blocks.draft at ≡ Some node → IsLeaf node
fresh-leaf land generation at node drafted fresh here =
    let sound = (drafted.each at fresh.node fresh.here).kept.sound in
    let that : Some fresh.node ≡ Some node = sym fresh.here ∙ here in
    let one : fresh.node ≡ node = cc in
    subst (λ (n : Node). IsLeaf n) one (leaf_at_zero fresh.node sound.levelled fresh.levelled)

-- ---- a node that is not thin

pub filled-not_thin : (nodesize : ℕ) (node : Node) → IsNode nodesize node → (IsThin nodesize node → ⊥)
    → IsFilled nodesize node
filled-not_thin nodesize node sound full = record { fits = sound.fits; full = omega (arith, full) }

-- ---- a node has not many pointers

pub places-few : (size : ℕ) (node : Node) → IsNodeSize size → IsNode size node → length (own_pointers node) ≤ 500
places-few size (Leaf header items) sized sound = omega arith
places-few size (Inner header pointers) (inl small) sound = let fits = sound.fits in omega (arith, small, fits)
places-few size (Inner header pointers) (inr large) sound = let fits = sound.fits in omega (arith, large, fits)

-- ---- the rest of a node takes one slot at most

pub slots-most : (rest : Option Node) → slots_for rest ≤ 1
slots-most None = omega arith
slots-most (Some node) = omega arith

-- and where there is none, it takes none
pub slots-none : (rest : Option Node) → rest ≡ None → slots_for rest ≡ 0
slots-none None none = λ i. 0
slots-none (Some node) none = absurd cc
