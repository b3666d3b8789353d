-- Nodes that are at home: each that is not full is reached by its owner.
use Rattle.std.proofs.Common.{◌≡◌, ℕ, zero, suc, Bool, true, false, List, [], ◌∷◌, Option, Some, None, refl, sym, ap}
use Rattle.std.proofs.Common.{subst, ◌∙◌, inl, inr}
use Rattle.std.specs.Prelude.{◌&&◌, ◌==◌, ◌++◌, map, not}
use Rattle.std.specs.List.{Contains, find, flat_map}
use Rattle.std.specs.List.Sorted.{IsStrictlyIncreasing}
use Rattle.std.proofs.lemmas.Bool.{cases_Bool, cond-false, cond-true, eq-eqb, or_left, true≢false}
use Rattle.qg_node.specs.declared.node.Node.{Node}
use Rattle.qg_node.specs.Nodes.{header_of}
use Rattle.qg_image.specs.Table.{keys_of, value_at}
use Rattle.qg_image.specs.Owed.{homeless}
use Rattle.qg_image.specs.Reach.{extent_of, is_among, own_elements, pieces_of, pointers_at, reach_under, reaches}
use Rattle.qg_image.specs.State.{Layout, Placed}
use Rattle.qg_image.proofs.Contained.{contains_cases, none_contained}
use Rattle.qg_owner_rule.proofs.Reaching.{entry_of_value, value_of_entry}
use Rattle.qg_tree_backrefs.proofs.Filters.{none_found}
use Rattle.qg_reach.proofs.Members.{contains_map, one_mapped}

none_passes : {X : Type 0} (test : X → Bool) (xs : List X) → find test xs ≡ None → (x : X) → Contains xs x
    → test x ≡ false
none_passes test [] none x has = absurd (none_contained x has)
none_passes {X} test (first ∷ xs) none x has = elim (cases_Bool (test first)) [
  | inl here ↦
      let wrong : None ≡ Some first = sym none ∙ cond-true (test first) (Some first) (find test xs) here in
      absurd cc
  | inr other ↦ elim (contains_cases first xs x has) [
    | inl same ↦ ap test (sym same) ∙ other
    | inr later ↦
        none_passes test xs (sym (cond-false (test first) (Some first) (find test xs) other) ∙ none) x later
  ]
]

own_reaches : (full by : Bool) → (not full && not by) ≡ false → full ≡ false → by ≡ true
own_reaches true by none bare = absurd (true≢false bare)
own_reaches false true none bare = refl
own_reaches false false none bare = absurd (true≢false none)

either : (full by : Bool) → (full ≡ false → by ≡ true) → (not full && not by) ≡ false
either true by own = refl
either false by own = ap not (own refl)

module _ (layout : Layout) where
  -- where none is homeless, a node that is not full is reached by its owner
  pub owner-reaches : homeless layout ≡ None → (at : ℕ) (placed : Placed) → value_at at layout.nodes ≡ Some placed
      → placed.full ≡ false → reaches layout (header_of placed.node).owner at ≡ true
  unfolding homeless
  owner-reaches home at placed there bare =
      let has = contains_map (λ (entry : ℕ × Placed). entry.0) layout.nodes (at, placed)
      (entry_of_value at placed layout.nodes there) in
      let none = none_passes _ (keys_of layout.nodes) home at has in
      own_reaches placed.full (reaches layout (header_of placed.node).owner at) (rw there at none) bare

  -- and back
  pub all-home : IsStrictlyIncreasing (keys_of layout.nodes)
      → ((at : ℕ) (placed : Placed) → value_at at layout.nodes ≡ Some placed → placed.full ≡ false
      → reaches layout (header_of placed.node).owner at ≡ true)
      → homeless layout ≡ None
  unfolding homeless
  all-home up each = none_found _ (keys_of layout.nodes) (λ at has.
      let entry = one_mapped (λ (e : ℕ × Placed). e.0) layout.nodes at has in
      let there : value_at at layout.nodes ≡ Some entry.0.1 =
      subst (λ (n : ℕ). value_at n layout.nodes ≡ Some entry.0.1) entry.2
      (value_of_entry layout.nodes entry.0 up entry.1) in
      rw there (either entry.0.1.full (reaches layout (header_of entry.0.1.node).owner at)
      (each at entry.0.1 there)))

-- a node is met from itself
pub met-own : (nodes : ℕ → Option Node) (nodesize level at : ℕ) (node : Node) → nodes at ≡ Some node
    → is_among at (reach_under nodes nodesize level at) ≡ true
met-own nodes nodesize zero at node is =
    ap (λ (o : Option Node). is_among at (own_elements nodesize at o)) is
    ∙ or_left (at == at) (is_among at (map extent_of (pieces_of node))) (eq-eqb at at refl)
met-own nodes nodesize (suc level) at node is =
    ap (λ (o : Option Node). is_among at (own_elements nodesize at o
    ++ flat_map (λ pointer. reach_under nodes nodesize level pointer.child) (pointers_at o))) is
    ∙ or_left (at == at) (is_among at (map extent_of (pieces_of node)
    ++ flat_map (λ pointer. reach_under nodes nodesize level pointer.child) (pointers_at (Some node))))
    (eq-eqb at at refl)
