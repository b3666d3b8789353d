-- What a tree reaches is met from its root, and back.
use Rattle.std.proofs.Common.{◌≡◌, ℕ, zero, suc, true, List, map, Option, Some, None, refl, sym, ap, ◌∙◌, inl, inr}
use Rattle.std.specs.Prelude.{◌==◌}
use Rattle.std.proofs.lemmas.Bool.{eq-eqb, false≢true, or_left}
use Rattle.qg_node.specs.declared.node.Node.{Node}
use Rattle.qg_image.specs.Table.{keys_of, value_at}
use Rattle.qg_image.specs.declared.element.Element.{Element}
use Rattle.qg_image.specs.Reach.{extent_of, is_among, is_reached, level_of, own_elements, pieces_of, reach, reach_of}
use Rattle.qg_image.specs.Reach.{reach_of_root, reach_under, reaches}
use Rattle.qg_image.specs.State.{Layout, node_at}
use Rattle.qg_owner_rule.proofs.Reaching.{entry_of_value}
use Rattle.qg_reach.proofs.Members.{contains_map}
use Rattle.qg_space.proofs.Members.{passes_one}
use Rattle.qg_shared_trees.specs.Tree.{Reaches}
use Rattle.qg_shared_trees.proofs.Below.{met-reached, reached-met}

-- what is reached stays so, where all that is reached is told as before
pub reach-on : (nodes nodes' : ℕ → Option Node) (level at : ℕ)
    → ((q : ℕ) → Reaches nodes level at q → nodes' q ≡ nodes q)
    → (q : ℕ) → Reaches nodes level at q → Reaches nodes' level at q
unfolding Reaches
reach-on nodes nodes' zero at same q reaches = reaches
reach-on nodes nodes' (suc level) at same q (inl here) = inl here
reach-on nodes nodes' (suc level) at same q (inr (node, is, place, pointer, there, below)) =
    inr (
      node,
      same at (inl refl) ∙ is,
      place,
      pointer,
      there,
      reach-on nodes nodes' level pointer.child
          (λ r reaches. same r (inr (node, is, place, pointer, there, reaches))) q below,
    )

-- ---- a layout

-- only a subvolume reaches something
pub reaches-root : (layout : Layout) (number q : ℕ) → reaches layout number q ≡ true
    → (root : ℕ) × (value_at number layout.roots ≡ Some root)
unfolding reach
reaches-root layout number q is = by (value_at number layout.roots) refl where
  by : (o : Option ℕ) → value_at number layout.roots ≡ o → (root : ℕ) × (value_at number layout.roots ≡ Some root)
  by None none = absurd (false≢true (sym (ap (λ (o : Option ℕ). is_among q (reach_of layout o)) none) ∙ is))
  by (Some root) there = (root, there)

module _ (layout : Layout) (number root level : ℕ) (there : value_at number layout.roots ≡ Some root)
    (high : level_of (node_at layout.nodes root) ≡ level) where
  met_is : reach layout number ≡ reach_under (node_at layout.nodes) layout.nodesize level root
  unfolding reach reach_of_root
  met_is = ap (λ (o : Option ℕ). reach_of layout o) there
      ∙ ap (λ (n : ℕ). reach_under (node_at layout.nodes) layout.nodesize n root) high

  own_met : (q : ℕ) (node : Node) → node_at layout.nodes q ≡ Some node
      → is_among q (own_elements layout.nodesize q (node_at layout.nodes q)) ≡ true
  own_met q node is =
      ap (λ (o : Option Node). is_among q (own_elements layout.nodesize q o)) is
      ∙ or_left (q == q) (is_among q (map extent_of (pieces_of node))) (eq-eqb q q refl)

  -- a subvolume reaches what its tree does
  pub reaches-in : (q : ℕ) (node : Node) → Reaches (node_at layout.nodes) level root q
      → node_at layout.nodes q ≡ Some node → reaches layout number q ≡ true
  reaches-in q node below is =
      ap (λ (elements : List Element). is_among q elements) met_is
      ∙ reached-met (node_at layout.nodes) layout.nodesize level root q q below (own_met q node is)

  pub is_reached-in : (q : ℕ) (node : Node) → Reaches (node_at layout.nodes) level root q
      → node_at layout.nodes q ≡ Some node → is_reached layout q ≡ true
  is_reached-in q node below is =
      passes_one (λ (sub : ℕ). reaches layout sub q) (keys_of layout.roots) number
      (contains_map (λ (entry : ℕ × ℕ). entry.0) layout.roots (number, root)
      (entry_of_value number root layout.roots there)) (reaches-in q node below is)

  -- and what it reaches is a node of its tree, or such a node names it
  pub in-reaches : (q : ℕ) → reaches layout number q ≡ true
      → (at : ℕ) × (node : Node) × Reaches (node_at layout.nodes) level root at
      × (node_at layout.nodes at ≡ Some node)
      × (is_among q (own_elements layout.nodesize at (Some node)) ≡ true)
  in-reaches q is =
      met-reached (node_at layout.nodes) layout.nodesize level root q
      (sym (ap (λ (elements : List Element). is_among q elements) met_is) ∙ is)
