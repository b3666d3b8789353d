-- How many nodes small trees fill, and the superblock that leads to the trees.
use Rattle.std.proofs.Common.{◌≡◌, ℕ, ◌-◌, ◌+◌, ◌*◌, ◌≤◌, ◌<◌, inl, inr, true, List, length, refl, ap, arith}
use Rattle.std.specs.Prelude.{◌^◌, nat_le, nat_lt}
use Rattle.std.proofs.lemmas.Bool.{cases_Bool}
use Rattle.std.proofs.lemmas.Bool.Decides.{nat_tests}
use Rattle.qg_node.specs.declared.item.Item.{Item}
use Rattle.qg_node.specs.declared.node.Node.{Node}
use Rattle.qg_node.specs.Nodes.{items_bytes}
use Rattle.qg_node.specs.NodeText.{IsNodeSize}
use Rattle.qg_super.specs.declared.sizes.Sizes.{Sizes}
use Rattle.qg_super.specs.Places.{capacity, is_served}
use Rattle.qg_super.specs.SuperText.{is_super}
use Rattle.qg_image.specs.Need.{nodes_filled}
use Rattle.qg_tree_layout.specs.Build.{IsBuilt}
use Rattle.qg_other_trees.specs.Trees.{most_nodes, superblock_laid}

-- ---- small trees

pub filled_quota : (nodesize : ℕ) → IsNodeSize nodesize → nodes_filled nodesize 187 ≡ 1
filled_quota nodesize (inl is) = rw is refl
filled_quota nodesize (inr is) = rw is refl

pub filled_roots : (nodesize : ℕ) → IsNodeSize nodesize → nodes_filled nodesize 1392 ≡ 1
filled_roots nodesize (inl is) = rw is refl
filled_roots nodesize (inr is) = rw is refl

-- a leaf has room for so much
roomy : (nodesize : ℕ) → IsNodeSize nodesize → 1392 ≤ capacity nodesize
roomy nodesize (inl is) = rw is (omega arith)
roomy nodesize (inr is) = rw is (omega arith)

-- so a tree of no more is one leaf
pub one_leaf : (nodesize owner generation : ℕ) (items : List Item) (slots : List ℕ) (nodes : List Node) (root level : ℕ)
    → IsNodeSize nodesize → items_bytes items ≤ 1392
    → IsBuilt nodesize owner generation items slots nodes root level → length nodes ≡ 1
one_leaf nodesize owner generation items slots nodes root level size light is =
    let fits : items_bytes items ≤ capacity nodesize = omega (arith, light, roomy nodesize size) in
    ap (λ (own : List Node). length own) (is.single fits).alone

-- ---- any trees

-- a tree has no more nodes than its items can ask for
pub few_nodes : (nodesize owner generation : ℕ) (items : List Item) (slots : List ℕ) (nodes : List Node)
    (root level : ℕ)
    → IsBuilt nodesize owner generation items slots nodes root level
    → length nodes ≤ most_nodes nodesize (items_bytes items)
few_nodes nodesize owner generation items slots nodes root level is =
    elim (cases_Bool (nat_le (items_bytes items) (capacity nodesize))) [
      | inl fits ↦
          let light : items_bytes items ≤ capacity nodesize = grind (arith, nat_tests) in
          let one : length nodes ≡ 1 = ap (λ (own : List Node). length own) (is.single light).alone in
          rw fits (omega (arith, one))
      | inr heavy ↦ rw heavy is.few
    ]

-- and that is no more than five times what they fill, and one
pub most_filled : (nodesize bytes : ℕ) → most_nodes nodesize bytes ≤ 5 * nodes_filled nodesize bytes + 1
most_filled nodesize bytes = elim (cases_Bool (nat_le bytes (capacity nodesize))) [
  | inl fits ↦ rw fits (omega arith)
  | inr heavy ↦ rw heavy (omega arith)
]

-- ---- the superblock

pub is_super-laid : (sizes : Sizes) (generation root : ℕ) → is_served sizes ≡ true → 1 ≤ generation
    → generation < 2 ^ 64 - 1 → root < 2 ^ 64 → is_super (superblock_laid sizes generation root) ≡ true
unfolding is_super
is_super-laid sizes generation root served some early fits =
    let one : nat_le 1 generation ≡ true = grind (arith, nat_tests) in
    let last : nat_lt generation 18446744073709551615 ≡ true = grind (arith, nat_tests) in
    let low : nat_lt root 18446744073709551616 ≡ true = grind (arith, nat_tests) in
    rw one (rw last (rw low (rw served refl)))
