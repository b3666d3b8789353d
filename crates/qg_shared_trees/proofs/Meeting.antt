-- What subvolumes that have their trees reach: each node with what it leads to, and the last step of the way to it.
use Rattle.std.proofs.Common.{◌≡◌, ℕ, zero, suc, ◌≤◌, Bool, true, List, [], ◌∷◌, map, Option, Some, None, arith, refl}
use Rattle.std.proofs.Common.{sym, ap, subst, ◌∙◌, ◌⊎◌, inl, inr}
use Rattle.std.specs.Prelude.{◌||◌, ◌==◌, slice_get}
use Rattle.std.specs.List.{AllByRecursion, Contains, list_any}
use Rattle.std.specs.Option.{option_map}
use Rattle.std.proofs.lemmas.Bool.{cases_Bool, cond-false, cond-true, eq-eqb, eqb-true, false≢true, or_left, or_right}
use Rattle.std.proofs.lemmas.Option.{same_Some}
use Rattle.qg_node.specs.declared.pointer.Pointer.{Pointer}
use Rattle.qg_node.specs.declared.node.Node.{Node}
use Rattle.qg_node.specs.declared.node.Node.TheVariants.{Leaf, Inner}
use Rattle.qg_node.specs.Nodes.{header_of, own_pointers}
use Rattle.qg_node.specs.NodeText.{IsLevelled}
use Rattle.qg_image.specs.Table.{keys_of, value_at}
use Rattle.qg_image.specs.declared.element.Element.{Element}
use Rattle.qg_image.specs.Reach.{extent_of, is_among, is_reached, level_of, own_elements, pieces_of, reach, reach_of}
use Rattle.qg_image.specs.Reach.{reach_of_root, reaches}
use Rattle.qg_image.specs.State.{Layout, Placed, State, Subvolume, layout_of, node_at}
use Rattle.qg_image.proofs.Contained.{contains_cases, contains_here, contains_later, none_contained}
use Rattle.qg_image.specs.declared.tree.TreeKind.TheVariants.{Files}
use Rattle.qg_image.specs.Walk.{deepest, node_failure, root_expected}
use Rattle.qg_machine.specs.Layout.{IsReached, IsTreeOf, IsWhole, super_to_come}
use Rattle.qg_tree_read.specs.Tree.{Reaches}
use Rattle.qg_tree_read.proofs.BranchFrames.{reach-top}
use Rattle.qg_owner_rule.proofs.Listed.{index_of}
use Rattle.qg_owner_rule.proofs.Reaching.{entry_of_value}
use Rattle.qg_reach.proofs.Members.{contains_map, one_mapped}
use Rattle.qg_shared_trees.proofs.Below.{child-reached, met-reached, reached-back, reached-met}
use Rattle.qg_shared_trees.proofs.Snapshotted.{root_entry}
use Rattle.qg_shared_trees.proofs.Walked.{reaches-deeper, walked-found}

-- ---- tables

-- what holds of each entry of a table holds of a value with its number
pub each-there : {A : Type 0} (P : ℕ × A → Type 0) (n : ℕ) (value : A) (table : List (ℕ × A)) → AllByRecursion P table
    → value_at n table ≡ Some value → P (n, value)
each-there {A} P n value [] all there = let wrong : ◌≡◌ {A = Option A} None (Some value) = there in absurd cc
each-there {A} P n value (entry ∷ table) all there = elim (cases_Bool (entry.0 == n)) [
  | inl passes ↦
      let own = same_Some entry.1 value
      (sym (cond-true (entry.0 == n) (Some entry.1) (value_at n table) passes) ∙ there) in
      let number = eqb-true entry.0 n passes in
      subst P (λ i. (number i, own i)) all.0
  | inr fails ↦
      each-there P n value table all.1
      (sym (cond-false (entry.0 == n) (Some entry.1) (value_at n table) fails) ∙ there)
]

-- the root of each number
pub root-valued : (n : ℕ) (table : List (ℕ × Subvolume)) → value_at n (map root_entry table)
    ≡ option_map (λ (subvolume : Subvolume). subvolume.root) (value_at n table)
root-valued n [] = refl
root-valued n (entry ∷ table) = elim (cases_Bool (entry.0 == n)) [
  | inl passes ↦
      cond-true (entry.0 == n) (Some entry.1.root) (value_at n (map root_entry table)) passes
      ∙ sym (ap (λ (o : Option Subvolume). option_map (λ (subvolume : Subvolume). subvolume.root) o)
      (cond-true (entry.0 == n) (Some entry.1) (value_at n table) passes))
  | inr fails ↦
      cond-false (entry.0 == n) (Some entry.1.root) (value_at n (map root_entry table)) fails ∙ root-valued n table
      ∙ sym (ap (λ (o : Option Subvolume). option_map (λ (subvolume : Subvolume). subvolume.root) o)
      (cond-false (entry.0 == n) (Some entry.1) (value_at n table) fails))
]

-- a node of a table is what is placed there
pub placed-there : (layout : List (ℕ × Placed)) (q : ℕ) (o : Option Placed) → value_at q layout ≡ o → (node : Node)
    → node_at layout q ≡ Some node → (placed : Placed) × (value_at q layout ≡ Some placed) × (placed.node ≡ node)
placed-there layout q None is node there =
    let wrong : ◌≡◌ {A = Option Node} None (Some node) =
    sym (ap (λ (o : Option Placed). option_map (λ (placed : Placed). placed.node) o) is) ∙ there in absurd cc
placed-there layout q (Some placed) is node there = (
  placed,
  is,
  same_Some placed.node node (sym (ap (λ (o : Option Placed). option_map (λ (p : Placed). p.node) o) is)
      ∙ there),
)

-- some element passes, where the list has one
pub some-passes : {A : Type 0} (test : A → Bool) (xs : List A) → list_any test xs ≡ true
    → (x : A) × Contains xs x × (test x ≡ true)
some-passes {A} test [] is = absurd (false≢true is)
some-passes {A} test (x ∷ xs) is = elim (cases_Bool (test x)) [
  | inl passes ↦ (x, contains_here x xs, passes)
  | inr fails ↦
      let rest = some-passes test xs (sym (ap (λ (b : Bool). b || list_any test xs) fails) ∙ is) in
      (rest.0, contains_later x xs rest.0 rest.1, rest.2)
]

passes_some : {A : Type 0} (test : A → Bool) (xs : List A) (x : A) → Contains xs x → test x ≡ true
    → list_any test xs ≡ true
passes_some {A} test [] x has passes = absurd (none_contained x has)
passes_some {A} test (y ∷ ys) x has passes = elim (contains_cases y ys x has) [
  | inl same ↦ or_left (test y) (list_any test ys) (ap test same ∙ passes)
  | inr later ↦ or_right (test y) (list_any test ys) (passes_some test ys x later passes)
]

level_low : (node : Node) → IsLevelled node → (header_of node).level ≤ 7
level_low (Leaf header items) level = omega (arith, level)
level_low (Inner header pointers) level = level.1

-- ---- subvolumes that have their trees

-- one of some subvolumes reaches the node at an address
pub record IsMet (state : State) (subvolumes : List (ℕ × Subvolume)) (q : ℕ) : Type 0 where
  pub number : ℕ
  pub subvolume : Subvolume
  pub there : value_at number subvolumes ≡ Some subvolume
  pub reaches : Reaches (node_at state.layout) (level_of (node_at state.layout subvolume.root)) subvolume.root q

-- the root of one of them is at an address
pub record IsRoot (subvolumes : List (ℕ × Subvolume)) (q : ℕ) : Type 0 where
  pub number : ℕ
  pub subvolume : Subvolume
  pub there : value_at number subvolumes ≡ Some subvolume
  pub here : subvolume.root ≡ q

-- one of them reaches a node that leads to an address
pub record IsLed (state : State) (subvolumes : List (ℕ × Subvolume)) (q : ℕ) : Type 0 where
  pub from : ℕ
  pub node : Node
  pub met : IsMet state subvolumes from
  pub there : node_at state.layout from ≡ Some node
  pub leads : Contains (map (λ (pointer : Pointer). pointer.child) (own_pointers node)) q

-- one of them reaches a node that is itself at an address, or names what begins there
pub record IsMetAs (state : State) (subvolumes : List (ℕ × Subvolume)) (a : ℕ) : Type 0 where
  pub from : ℕ
  pub node : Node
  pub met : IsMet state subvolumes from
  pub there : node_at state.layout from ≡ Some node
  pub own : is_among a (own_elements state.sizes.nodesize from (Some node)) ≡ true

module _ (state : State) (whole : IsWhole state) (subvolumes : List (ℕ × Subvolume))
    (trees : AllByRecursion (λ entry. IsTreeOf state entry.1) subvolumes) where
  abbrev nodes : ℕ → Option Node
  nodes = node_at state.layout

  abbrev layout : Layout
  layout = layout_of (record state { subvolumes = subvolumes })

  levelled : (q : ℕ) (node : Node) → nodes q ≡ Some node → IsLevelled node
  levelled q node there =
      let placed = placed-there state.layout q (value_at q state.layout) refl node there in
      let its = each-there (IsReached state) q placed.0 state.layout whole.reached placed.1 in
      subst IsLevelled placed.2 its.node_of_format.levelled

  tree_there : (number : ℕ) (subvolume : Subvolume) → value_at number subvolumes ≡ Some subvolume
      → IsTreeOf state subvolume
  tree_there number subvolume there =
      each-there (λ (entry : ℕ × Subvolume). IsTreeOf state entry.1) number subvolume subvolumes trees there

  root_found : (subvolume : Subvolume) → IsTreeOf state subvolume
      → (node : Node) × (nodes subvolume.root ≡ Some node)
  root_found subvolume tree =
      walked-found (node_failure Files (super_to_come state)) nodes deepest (root_expected None None) subvolume.root
      tree.walked subvolume.root (reach-top nodes deepest subvolume.root)

  level_of_some : (o : Option Node) (node : Node) → o ≡ Some node → IsLevelled node → level_of o ≤ 7
  level_of_some o node is level =
      let low = level_low node level in
      let same = ap level_of is in
      omega (arith, low, same)

  pub root-low : (subvolume : Subvolume) → IsTreeOf state subvolume → level_of (nodes subvolume.root) ≤ 7
  root-low subvolume tree =
      let found = root_found subvolume tree in
      level_of_some (nodes subvolume.root) found.0 found.1 (levelled subvolume.root found.0 found.1)

  -- what is reached is there
  pub met-there : (q : ℕ) → IsMet state subvolumes q → (node : Node) × (nodes q ≡ Some node)
  met-there q met =
      let tree = tree_there met.number met.subvolume met.there in
      walked-found (node_failure Files (super_to_come state)) nodes deepest (root_expected None None) met.subvolume.root
      tree.walked q
      (reaches-deeper nodes (level_of (nodes met.subvolume.root)) deepest met.subvolume.root q
      (root-low met.subvolume tree) met.reaches)

  -- what a reached node leads to is reached
  pub met-child : (p : ℕ) (node : Node) (q : ℕ) → IsMet state subvolumes p → nodes p ≡ Some node
      → Contains (map (λ (pointer : Pointer). pointer.child) (own_pointers node)) q → IsMet state subvolumes q
  met-child p node q met there leads =
      let tree = tree_there met.number met.subvolume met.there in
      let pointer = one_mapped (λ (step : Pointer). step.child) (own_pointers node) q leads in
      let place = index_of (own_pointers node) pointer.0 pointer.1 in
      let level = level_of (nodes met.subvolume.root) in
      record {
        number = met.number;
        subvolume = met.subvolume;
        there = met.there;
        reaches = subst (λ (c : ℕ). Reaches nodes level met.subvolume.root c) pointer.2
            (child-reached (super_to_come state) nodes levelled level deepest met.subvolume.root
            (root_expected None None) tree.walked (root-low met.subvolume tree) refl p met.reaches node there place.0
            pointer.0 place.1);
      }

  pub root-met : (q : ℕ) → IsRoot subvolumes q → IsMet state subvolumes q
  root-met q root = record {
    number = root.number;
    subvolume = root.subvolume;
    there = root.there;
    reaches = subst (λ (c : ℕ). Reaches nodes (level_of (nodes root.subvolume.root)) root.subvolume.root c) root.here
        (reach-top nodes (level_of (nodes root.subvolume.root)) root.subvolume.root);
  }

  steps : (q : ℕ) (met : IsMet state subvolumes q) → (q ≡ met.subvolume.root)
      ⊎ ((p : ℕ) × (node : Node) × Reaches nodes (level_of (nodes met.subvolume.root)) met.subvolume.root p
      × (nodes p ≡ Some node) × (place : ℕ) × (pointer : Pointer) × (slice_get (own_pointers node) place ≡ Some pointer)
      × (pointer.child ≡ q))
  steps q met = reached-back nodes state.sizes.nodesize (level_of (nodes met.subvolume.root)) met.subvolume.root q
      met.reaches

  -- the last step of the way
  pub met-back : (q : ℕ) → IsMet state subvolumes q → IsRoot subvolumes q ⊎ IsLed state subvolumes q
  met-back q met = elim (steps q met) [
    | inl here ↦ inl (record {
      number = met.number;
      subvolume = met.subvolume;
      there = met.there;
      here = sym here;
    })
    | inr (p, node, reaches, there, place, pointer, at, leads) ↦ inr (record {
      from = p;
      node = node;
      met = record {
        number = met.number;
        subvolume = met.subvolume;
        there = met.there;
        reaches = reaches;
      };
      there = there;
      leads = subst (λ (c : ℕ). Contains (map (λ (step : Pointer). step.child) (own_pointers node)) c) leads
          (contains_map (λ (step : Pointer). step.child) (own_pointers node) pointer
          (placed_in (own_pointers node) place pointer at));
    })
  ]
    where
      placed_in : (xs : List Pointer) (place : ℕ) (x : Pointer) → slice_get xs place ≡ Some x → Contains xs x
      placed_in [] place x at = absurd cc
      placed_in (y ∷ ys) zero x at = subst (λ (z : Pointer). Contains (y ∷ ys) z) (same_Some y x at)
          (contains_here y ys)
      placed_in (y ∷ ys) (suc place) x at = contains_later y ys x (placed_in ys place x at)

  -- ---- what the layout says is reached

  root_value : (number : ℕ) (subvolume : Subvolume) → value_at number subvolumes ≡ Some subvolume
      → value_at number layout.roots ≡ Some subvolume.root
  root_value number subvolume there =
      root-valued number subvolumes
      ∙ ap (λ (o : Option Subvolume). option_map (λ (s : Subvolume). s.root) o) there

  value_root : (number root : ℕ) (o : Option Subvolume) → value_at number subvolumes ≡ o
      → value_at number layout.roots ≡ Some root
      → (subvolume : Subvolume) × (value_at number subvolumes ≡ Some subvolume) × (subvolume.root ≡ root)
  value_root number root None is there =
      let wrong : ◌≡◌ {A = Option ℕ} None (Some root) =
      sym (ap (λ (o : Option Subvolume). option_map (λ (s : Subvolume). s.root) o) is)
      ∙ sym (root-valued number subvolumes) ∙ there in absurd cc
  value_root number root (Some subvolume) is there = (
    subvolume,
    is,
    same_Some subvolume.root root
        (sym (ap (λ (o : Option Subvolume). option_map (λ (s : Subvolume). s.root) o) is)
        ∙ sym (root-valued number subvolumes) ∙ there),
  )

  pub reaches-met : (number a : ℕ) → reaches layout number a ≡ true → IsMetAs state subvolumes a
  unfolding reach reach_of_root
  reaches-met number a is = by (value_at number layout.roots) refl where
    by : (o : Option ℕ) → value_at number layout.roots ≡ o → IsMetAs state subvolumes a
    by None none =
        absurd (false≢true (sym (ap (λ (o : Option ℕ). is_among a (reach_of layout o)) none) ∙ is))
    by (Some root) there =
        let its = value_root number root (value_at number subvolumes) refl there in
        let met : is_among a (reach_of_root layout root) ≡ true =
        sym (ap (λ (o : Option ℕ). is_among a (reach_of layout o)) there) ∙ is in
        let found = met-reached nodes state.sizes.nodesize (level_of (nodes root)) root a met in
        record {
          from = found.0;
          node = found.1;
          met = record {
            number = number;
            subvolume = its.0;
            there = its.1;
            reaches = subst (λ (r : ℕ). Reaches nodes (level_of (nodes r)) r found.0) (sym its.2) found.2;
          };
          there = found.3;
          own = found.4;
        }

  -- what some subvolume reaches is a reached node's own
  pub is-reached-met : (a : ℕ) → is_reached layout a ≡ true → IsMetAs state subvolumes a
  is-reached-met a is =
      let one = some-passes (λ (number : ℕ). reaches layout number a) (keys_of layout.roots) is in
      reaches-met one.0 a one.2

  met_by : (a : ℕ) (itself : IsMetAs state subvolumes a) → reaches layout itself.met.number a ≡ true
  unfolding reach reach_of_root
  met_by a itself =
      ap (λ (o : Option ℕ). is_among a (reach_of layout o)) (root_value itself.met.number itself.met.subvolume
      itself.met.there) ∙ reached-met nodes state.sizes.nodesize (level_of (nodes itself.met.subvolume.root))
      itself.met.subvolume.root itself.from a itself.met.reaches
      (subst (λ (o : Option Node). is_among a (own_elements state.sizes.nodesize itself.from o) ≡ true)
      (sym itself.there) itself.own)

  -- and back
  pub met-is-reached : (a : ℕ) → IsMetAs state subvolumes a → is_reached layout a ≡ true
  met-is-reached a itself =
      passes_some (λ (number : ℕ). reaches layout number a) (keys_of layout.roots) itself.met.number
      (contains_map (λ (entry : ℕ × ℕ). entry.0) layout.roots (itself.met.number, itself.met.subvolume.root)
      (entry_of_value itself.met.number itself.met.subvolume.root layout.roots
      (root_value itself.met.number itself.met.subvolume itself.met.there)))
      (met_by a itself)

  -- a node that is reached is so
  pub met-reached-itself : (q : ℕ) → IsMet state subvolumes q → is_reached layout q ≡ true
  met-reached-itself q met =
      let found = met-there q met in
      met-is-reached q (record {
        from = q;
        node = found.0;
        met = met;
        there = found.1;
        own = own_first q found.0;
      })
    where
      own_first : (a : ℕ) (node : Node) → is_among a (own_elements state.sizes.nodesize a (Some node)) ≡ true
      own_first a node =
          or_left (a == a) (list_any (λ (e : Element). e.address == a) (map extent_of (pieces_of node)))
          (eq-eqb a a refl)
