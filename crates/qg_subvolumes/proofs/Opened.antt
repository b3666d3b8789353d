-- Nodes that are open are there as they were, and no extent that one of them names lies where another one does.
use Rattle.std.proofs.Common.{◌≡◌, ℕ, Bool, true, false, List, [], ◌∷◌, map, Option, Some, refl, sym, ap, subst, ◌∙◌}
use Rattle.std.proofs.Common.{inl, inr}
use Rattle.std.specs.Prelude.{◌==◌, ◌||◌, is_some}
use Rattle.std.specs.List.{Contains, filter, flat_map}
use Rattle.std.specs.Option.{option_map}
use Rattle.std.proofs.lemmas.Bool.{cases_Bool, cond-false, cond-true, eq-eqb, eqb-true, or_cases, or_left}
use Rattle.std.proofs.lemmas.List.Elements.{Contains-append_left, Contains-append_right}
use Rattle.std.proofs.lemmas.Option.{none-some}
use Rattle.qg_device.specs.History.{History}
use Rattle.qg_node.specs.declared.node.Node.{Node}
use Rattle.qg_super.specs.declared.sizes.Sizes.{Sizes}
use Rattle.qg_super.specs.Places.{is_run, is_served}
use Rattle.qg_image.specs.Table.{has_key, value_at}
use Rattle.qg_image.specs.declared.element.Element.{Element}
use Rattle.qg_image.specs.Owed.{layout_extents}
use Rattle.qg_image.specs.Reach.{extent_of, is_among, is_reached, own_elements, pieces_of}
use Rattle.qg_image.specs.State.{Placed, State, layout_of, node_at}
use Rattle.qg_image.proofs.Contained.{contains_cases, none_contained}
use Rattle.qg_machine.specs.Layout.{is_full_after}
use Rattle.qg_machine.specs.Step.{without_subvolume}
use Rattle.qg_owner_rule.proofs.Reaching.{entry_of_value}
use Rattle.qg_node_alloc.specs.declared.ground.Ground.{Ground}
use Rattle.qg_tree_read.specs.Tree.{Reaches}
use Rattle.qg_tree_backrefs.specs.declared.tree_refs.TreeRefs.{TreeRefs}
use Rattle.qg_shared_trees.proofs.Below.{met-reached, reached-met}
use Rattle.qg_shared_trees.proofs.ForestExtents.{among-one, run-slot, some-of}
use Rattle.qg_shared_trees.proofs.Meeting.{placed-there}
use Rattle.qg_subvolumes.specs.Dropping.{HoldsPart, HoldsPartly, is_below, nodes_partly, placed_partly}

-- ---- tables

pub node_of : (layout : List (ℕ × Placed)) (q : ℕ) (placed : Placed) → value_at q layout ≡ Some placed
    → node_at layout q ≡ Some placed.node
node_of layout q placed there = ap (λ (o : Option Placed). option_map (λ (p : Placed). p.node) o) there

pub key_of : (layout : List (ℕ × Placed)) (q : ℕ) (placed : Placed) → value_at q layout ≡ Some placed
    → has_key q layout ≡ true
key_of layout q placed there = ap (λ (o : Option Placed). is_some o) there

skip : (q : ℕ) (x : ℕ × Placed) (xs : List (ℕ × Placed)) → (x.0 == q) ≡ false → value_at q (x ∷ xs) ≡ value_at q xs
skip q x xs other = cond-false (x.0 == q) (Some x.1) (value_at q xs) other

first : (q : ℕ) (x : ℕ × Placed) (xs : List (ℕ × Placed)) → (x.0 == q) ≡ true → value_at q (x ∷ xs) ≡ Some x.1
first q x xs here = cond-true (x.0 == q) (Some x.1) (value_at q xs) here

module _ (after : State) (waiting reached : ℕ → Bool) where
  abbrev kept : List (ℕ × Placed) → List (ℕ × Placed)
  kept table = filter (λ (entry : ℕ × Placed). waiting entry.0 || reached entry.0) table

  abbrev partly : List (ℕ × Placed) → List (ℕ × Placed)
  partly table = map (placed_partly after waiting) (kept table)

  place_same : (entry : ℕ × Placed) → (placed_partly after waiting entry).0 ≡ entry.0
  place_same entry = elim (cases_Bool (waiting entry.0)) [
    | inl is ↦ rw is refl
    | inr closed ↦ rw closed refl
  ]

  place_open : (entry : ℕ × Placed) → waiting entry.0 ≡ true → placed_partly after waiting entry ≡ entry
  place_open entry is =
      cond-true (waiting entry.0) entry (entry.0, record entry.1 { full = is_full_after after entry.1 entry.0 }) is

  pub open-value : (q : ℕ) (placed : Placed) (table : List (ℕ × Placed)) → waiting q ≡ true
      → value_at q table ≡ Some placed → value_at q (partly table) ≡ Some placed
  open-value q placed [] is there = absurd (none-some placed there)
  open-value q placed (entry ∷ table) is there = elim (cases_Bool (entry.0 == q)) [
    | inl here ↦
        let w : waiting entry.0 ≡ true = ap waiting (eqb-true entry.0 q here) ∙ is in
        ap (λ (xs : List (ℕ × Placed)). value_at q (map (placed_partly after waiting) xs))
        (cond-true (waiting entry.0 || reached entry.0) (entry ∷ kept table) (kept table)
        (or_left (waiting entry.0) (reached entry.0) w))
        ∙ ap (λ (e : ℕ × Placed). value_at q (e ∷ partly table)) (place_open entry w)
        ∙ first q entry (partly table) here ∙ sym (first q entry table here) ∙ there
    | inr other ↦
        let later = sym (skip q entry table other) ∙ there in
        let rest = open-value q placed table is later in
        elim (cases_Bool (waiting entry.0 || reached entry.0)) [
          | inl stays ↦
              ap (λ (xs : List (ℕ × Placed)). value_at q (map (placed_partly after waiting) xs))
              (cond-true (waiting entry.0 || reached entry.0) (entry ∷ kept table) (kept table) stays)
              ∙ skip q (placed_partly after waiting entry) (partly table)
              (ap (λ (n : ℕ). n == q) (place_same entry) ∙ other)
              ∙ rest
          | inr goes ↦
              ap (λ (xs : List (ℕ × Placed)). value_at q (map (placed_partly after waiting) xs))
              (cond-false (waiting entry.0 || reached entry.0) (entry ∷ kept table) (kept table) goes)
              ∙ rest
        ]
  ]

-- ---- lists

pub in_flat : {A B : Type 0} (f : A → List B) (xs : List A) (x : A) (y : B) → Contains xs x → Contains (f x) y
    → Contains (flat_map f xs) y
in_flat {A} {B} f [] x y has has' = absurd (none_contained x has)
in_flat {A} {B} f (z ∷ zs) x y has has' = elim (contains_cases z zs x has) [
  | inl is ↦
      Contains-append_left (f z) (flat_map f zs) y (subst (λ (w : A). Contains (f w) y) (sym is) has')
  | inr later ↦ Contains-append_right (f z) (flat_map f zs) y (in_flat f zs x y later has')
]

-- ---- open nodes

module _ (land : Ground) (history : History) (book : TreeRefs) (state : State) (sub : ℕ)
    (waiting : ℕ → Bool) (holds : HoldsPartly land history book state sub waiting)
    (served : is_served land.space.sizes ≡ true) where
  pub open-there : (q : ℕ) (placed : Placed) → value_at q state.layout ≡ Some placed → waiting q ≡ true
      → value_at q (nodes_partly state sub waiting) ≡ Some placed
  open-there q placed there is =
      open-value (without_subvolume state sub) waiting (λ at. is_reached (layout_of (without_subvolume state sub)) at) q
      placed state.layout is there

  pub open-part : (q : ℕ) (placed : Placed) → value_at q state.layout ≡ Some placed → waiting q ≡ true
      → HoldsPart land history book q placed
  open-part q placed there is = holds.nodes q placed (open-there q placed there is)

  named_known : (p : ℕ) (placed : Placed) → value_at p state.layout ≡ Some placed → waiting p ≡ true
      → (element : Element) → Contains (map extent_of (pieces_of placed.node)) element
      → is_run land.space.sizes element.address element.bytes ≡ true
  unfolding layout_extents
  named_known p placed there is element has =
      let entry = entry_of_value p placed (nodes_partly state sub waiting) (open-there p placed there is) in
      let known = holds.extents element
      (in_flat (λ (entry : ℕ × Placed). map extent_of (pieces_of entry.1.node)) (nodes_partly state sub waiting)
      (p, placed) element entry has) in
      subst (λ (sizes : Sizes). is_run sizes element.address element.bytes ≡ true) holds.sizes known.lies

  pub named-apart : (p q : ℕ) (placed other : Placed) → value_at p state.layout ≡ Some placed → waiting p ≡ true
      → value_at q state.layout ≡ Some other → waiting q ≡ true
      → is_among q (map extent_of (pieces_of placed.node)) ≡ true → ⊥
  named-apart p q placed other there is there' is' among =
      let one = among-one q (map extent_of (pieces_of placed.node)) among in
      let run = named_known p placed there is one.0 one.1 in
      run-slot land.space.sizes q one.0.bytes served
      (subst (λ (at : ℕ). is_run land.space.sizes at one.0.bytes ≡ true) one.2 run)
      (open-part q other there' is').slot

  own_among : (p : ℕ) (node : Node) → node_at state.layout p ≡ Some node
      → is_among p (own_elements state.sizes.nodesize p (node_at state.layout p)) ≡ true
  own_among p node is =
      ap (λ (o : Option Node). is_among p (own_elements state.sizes.nodesize p o)) is
      ∙ or_left (p == p) (is_among p (map extent_of (pieces_of node))) (eq-eqb p p refl)

  pub reached-below : (level from q : ℕ) (node : Node) → node_at state.layout q ≡ Some node
      → Reaches (node_at state.layout) level from q → is_below state level from q ≡ true
  reached-below level from q node is reaches =
      reached-met (node_at state.layout) state.sizes.nodesize level from q q reaches (own_among q node is)

  -- what lies below a node, and is a node, is reached, where all nodes there are open
  pub below-reached : (level from q : ℕ)
      → ((p : ℕ) → is_below state level from p ≡ true → has_key p state.layout ≡ true → waiting p ≡ true)
      → has_key q state.layout ≡ true → is_below state level from q ≡ true
      → Reaches (node_at state.layout) level from q
  below-reached level from q opened key below =
      let met = met-reached (node_at state.layout) state.sizes.nodesize level from q below in
      let p = met.0 in
      let node = met.1 in
      elim (or_cases (p == q) (is_among q (map extent_of (pieces_of node))) met.4) [
        | inl same ↦ subst (λ (n : ℕ). Reaches (node_at state.layout) level from n) (eqb-true p q same) met.2
        | inr named ↦
            let placed = placed-there state.layout p (value_at p state.layout) refl node met.3 in
            let other = some-of (value_at q state.layout) key in
            let is = opened p (reached-below level from p node met.3 met.2) (key_of state.layout p placed.0 placed.1) in
            absurd (named-apart p q placed.0 other.0 placed.1 is other.1 (opened q below key)
            (subst (λ (n : Node). is_among q (map extent_of (pieces_of n)) ≡ true) (sym placed.2) named))
      ]
