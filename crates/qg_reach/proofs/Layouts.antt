-- The layout of an image by the nodes of its subvolumes.
use Rattle.std.proofs.Common.{◌≡◌, ℕ, List, [], ◌∷◌, Option, Some, None, refl, sym, ap, subst, ◌∙◌, inl, inr}
use Rattle.std.specs.Prelude.{◌==◌, nat_lt}
use Rattle.std.specs.List.{Contains, flat_map, fold}
use Rattle.std.specs.Option.{option_map}
use Rattle.std.proofs.lemmas.Bool.{cases_Bool, cases_eq, cond-true, cond-false, eq-eqb, ne_eqb}
use Rattle.std.proofs.lemmas.Option.{same_Some}
use Rattle.qg_node.specs.declared.node.Node.{Node}
use Rattle.qg_super.specs.declared.superblock.Super.{Super}
use Rattle.qg_image.specs.Table.{value_at, with_value}
use Rattle.qg_image.specs.declared.part.ExtentPart.{ExtentPart}
use Rattle.qg_image.specs.State.{Placed, node_at}
use Rattle.qg_image.proofs.Contained.{none_contained, contains_here, contains_later, contains_cases}
use Rattle.qg_image.specs.declared.tree.TreeKind.TheVariants.{Files}
use Rattle.qg_image.specs.ImageState.{placed, layout_in, extent_parts, nodes_of_root, subvolume_roots, roots_in}
use Rattle.qg_reach.proofs.Reached.{address_of, LieWhereFound}

-- ---- a table with one more value

at_first : {A : Type 0} (n m : ℕ) (value : A) (table : List (ℕ × A)) → n ≡ m
    → value_at m ((n, value) ∷ table) ≡ Some value
at_first n m value table is = cond-true (n == m) (Some value) (value_at m table) (eq-eqb n m is)

past_first : {A : Type 0} (n m : ℕ) (value : A) (table : List (ℕ × A)) → (n ≡ m → ⊥)
    → value_at m ((n, value) ∷ table) ≡ value_at m table
past_first n m value table differ = cond-false (n == m) (Some value) (value_at m table) (ne_eqb n m differ)

pub value_at-with_same : {A : Type 0} (n : ℕ) (value : A) (table : List (ℕ × A))
    → value_at n (with_value n value table) ≡ Some value
value_at-with_same n value [] = at_first n n value [] refl
value_at-with_same n value (entry ∷ entries) = elim (cases_Bool (nat_lt n entry.0)) [
  | inl before ↦ ap (value_at n) (cond-true (nat_lt n entry.0) _ _ before) ∙ at_first n n value (entry ∷ entries) refl
  | inr not' ↦ elim (cases_eq entry.0 n) [
    | inl is ↦ ap (value_at n) (cond-false (nat_lt n entry.0) _ _ not'
        ∙ cond-true (entry.0 == n) _ _ (eq-eqb entry.0 n is)) ∙ at_first n n value entries refl
    | inr differ ↦
        ap (value_at n) (cond-false (nat_lt n entry.0) _ _ not'
        ∙ cond-false (entry.0 == n) _ _ (ne_eqb entry.0 n differ))
        ∙ past_first entry.0 n entry.1 (with_value n value entries) differ ∙ value_at-with_same n value entries
  ]
]

pub value_at-with_other : {A : Type 0} (n m : ℕ) (value : A) (table : List (ℕ × A)) → (n ≡ m → ⊥)
    → value_at m (with_value n value table) ≡ value_at m table
value_at-with_other n m value [] differ = past_first n m value [] differ
value_at-with_other n m value (entry ∷ entries) differ = elim (cases_Bool (nat_lt n entry.0)) [
  | inl before ↦ ap (value_at m) (cond-true (nat_lt n entry.0) _ _ before)
      ∙ past_first n m value (entry ∷ entries) differ
  | inr not' ↦ elim (cases_eq entry.0 n) [
    | inl is ↦
        ap (value_at m) (cond-false (nat_lt n entry.0) _ _ not' ∙ cond-true (entry.0 == n) _ _ (eq-eqb entry.0 n is))
        ∙ past_first n m value entries differ
        ∙ sym (past_first entry.0 m entry.1 entries (λ same. differ (sym is ∙ same)))
    | inr differ' ↦
        ap (value_at m) (cond-false (nat_lt n entry.0) _ _ not'
        ∙ cond-false (entry.0 == n) _ _ (ne_eqb entry.0 n differ'))
        ∙ elim (cases_eq entry.0 m) [
          | inl is ↦ at_first entry.0 m entry.1 (with_value n value entries) is
              ∙ sym (at_first entry.0 m entry.1 entries is)
          | inr past ↦
              past_first entry.0 m entry.1 (with_value n value entries) past
              ∙ value_at-with_other n m value entries differ
              ∙ sym (past_first entry.0 m entry.1 entries past)
        ]
  ]
]

-- ---- the layout

-- nodes by address, with what extent items say of them
abbrev pub with_nodes : List ExtentPart → List (ℕ × Placed) → List Node → List (ℕ × Placed)
with_nodes parts layout nodes = fold (λ layout node. with_value (address_of node) (placed parts node) layout) layout
    nodes

abbrev pub layout_by : List ExtentPart → List Node → List (ℕ × Placed)
layout_by parts nodes = with_nodes parts [] nodes

kept_other : (parts : List ExtentPart) (layout : List (ℕ × Placed)) (nodes : List Node) (address : ℕ)
    → ((node : Node) → Contains nodes node → address_of node ≡ address → ⊥)
    → value_at address (with_nodes parts layout nodes) ≡ value_at address layout
kept_other parts layout [] address other = refl
kept_other parts layout (node ∷ nodes) address other =
    kept_other parts (with_value (address_of node) (placed parts node) layout) nodes address
    (λ later has. other later (contains_later node nodes later has))
    ∙ value_at-with_other (address_of node) address (placed parts node) layout (other node (contains_here node nodes))

kept_same : (parts : List ExtentPart) (layout : List (ℕ × Placed)) (nodes : List Node) (node : Node)
    → ((other : Node) → Contains nodes other → address_of other ≡ address_of node → other ≡ node)
    → value_at (address_of node) layout ≡ Some (placed parts node)
    → value_at (address_of node) (with_nodes parts layout nodes) ≡ Some (placed parts node)
kept_same parts layout [] node alike is = is
kept_same parts layout (first ∷ nodes) node alike is =
    kept_same parts (with_value (address_of first) (placed parts first) layout) nodes node
    (λ other has. alike other (contains_later first nodes other has))
    (elim (cases_eq (address_of first) (address_of node)) [
      | inl same ↦
          let one = alike first (contains_here first nodes) same in
          subst (λ n. value_at (address_of n) (with_value (address_of first) (placed parts first) layout)
          ≡ Some (placed parts n)) one (value_at-with_same (address_of first) (placed parts first) layout)
      | inr differ ↦ value_at-with_other (address_of first) (address_of node) (placed parts first) layout differ ∙ is
    ])

has_each : (parts : List ExtentPart) (layout : List (ℕ × Placed)) (nodes : List Node) (node : Node)
    → ((other : Node) → Contains nodes other → address_of other ≡ address_of node → other ≡ node)
    → Contains nodes node → value_at (address_of node) (with_nodes parts layout nodes) ≡ Some (placed parts node)
has_each parts layout [] node alike has = absurd (none_contained node has)
has_each parts layout (first ∷ nodes) node alike has =
    let later_alike : (other : Node) → Contains nodes other → address_of other ≡ address_of node → other ≡ node =
    λ other has'. alike other (contains_later first nodes other has') in
    elim (contains_cases first nodes node has) [
      | inl is ↦
          kept_same parts (with_value (address_of first) (placed parts first) layout) nodes node later_alike
          (subst (λ n. value_at (address_of n) (with_value (address_of first) (placed parts first) layout)
          ≡ Some (placed parts n)) is (value_at-with_same (address_of first) (placed parts first) layout))
      | inr later ↦ has_each parts (with_value (address_of first) (placed parts first) layout) nodes node later_alike
          later
    ]

-- nodes of one address are one node
pub record AgreeByAddress (nodes : List Node) : Type 0 where
  pub agree : (a b : Node) → Contains nodes a → Contains nodes b → address_of a ≡ address_of b → a ≡ b

-- each node is found where it says that it lies
pub node_at-layout : (parts : List ExtentPart) (nodes : List Node) (node : Node) → AgreeByAddress nodes
    → Contains nodes node → node_at (layout_by parts nodes) (address_of node) ≡ Some node
node_at-layout parts nodes node alike has =
    ap (option_map (λ (placed : Placed). placed.node))
    (has_each parts [] nodes node (λ other has' same. alike.agree other node has' has same) has)

-- at any other address none is
pub node_at-layout_other : (parts : List ExtentPart) (nodes : List Node) (address : ℕ)
    → ((node : Node) → Contains nodes node → address_of node ≡ address → ⊥)
    → node_at (layout_by parts nodes) address ≡ None
node_at-layout_other parts nodes address other =
    ap (option_map (λ (placed : Placed). placed.node)) (kept_other parts [] nodes address other)

-- ---- what is found says that it lies there

abbrev LiesThere : List (ℕ × Placed) → Type 0
LiesThere layout = (address : ℕ) (value : Placed) → value_at address layout ≡ Some value
    → address_of value.node ≡ address

with_lies : (parts : List ExtentPart) (layout : List (ℕ × Placed)) (node : Node) → LiesThere layout
    → LiesThere (with_value (address_of node) (placed parts node) layout)
with_lies parts layout node lies address value is = elim (cases_eq (address_of node) address) [
  | inl same ↦
      let here = subst (λ a. value_at a (with_value (address_of node) (placed parts node) layout)
      ≡ Some (placed parts node)) same (value_at-with_same (address_of node) (placed parts node) layout) in
      let one = same_Some (placed parts node) value (sym here ∙ is) in
      ap (λ (p : Placed). address_of p.node) (sym one) ∙ same
  | inr differ ↦ lies address value
      (sym (value_at-with_other (address_of node) address (placed parts node) layout differ) ∙ is)
]

all_lie : (parts : List ExtentPart) (layout : List (ℕ × Placed)) (nodes : List Node) → LiesThere layout
    → LiesThere (with_nodes parts layout nodes)
all_lie parts layout [] lies = lies
all_lie parts layout (node ∷ nodes) lies = all_lie parts (with_value (address_of node) (placed parts node) layout) nodes
    (with_lies parts layout node lies)

placed_node : (found : Option Placed) (node : Node) → option_map (λ (placed : Placed). placed.node) found ≡ Some node
    → (value : Placed) × (found ≡ Some value) × (value.node ≡ node)
placed_node None node is = cc
placed_node (Some value) node is = (value, refl, same_Some value.node node is)

pub LieWhereFound-layout : (parts : List ExtentPart) (nodes : List Node)
    → LieWhereFound (node_at (layout_by parts nodes))
LieWhereFound-layout parts nodes = record {
  found = λ address node is.
      let there = placed_node (value_at address (layout_by parts nodes)) node is in
      ap address_of (sym there.2) ∙ all_lie parts [] nodes (λ address value none. cc) address there.0 there.1;
}

-- ---- the layout of an image

-- it is made of the nodes of its subvolumes
pub layout_in-nodes : (super : Super) (image : List ℕ)
    → layout_in super image ≡ layout_by (extent_parts super image)
    (flat_map (λ entry. nodes_of_root Files super image entry.1) (subvolume_roots (roots_in super image)))
unfolding layout_in
layout_in-nodes super image = refl
