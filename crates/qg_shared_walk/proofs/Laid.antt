-- The layout of nodes that lie apart: each of them once, by address.
use Rattle.std.proofs.Common.{◌≡◌, ℕ, List, [], ◌∷◌, map, Option, Some, None, refl, sym, ap, subst}
use Rattle.std.proofs.Common.{◌∙◌, inl, inr}
use Rattle.std.specs.Prelude.{◌==◌, nat_lt}
use Rattle.std.specs.List.{AllByRecursion, Contains}
use Rattle.std.specs.Option.{option_map}
use Rattle.std.proofs.lemmas.Bool.{cases_Bool, cond-true, cond-false, cond_both, eq-eqb, eqb-true, eqb-false, ne_eqb}
use Rattle.std.proofs.lemmas.List.Elements.{All-contains, All-from_recursion}
use Rattle.std.proofs.lemmas.Option.{same_Some}
use Rattle.qg_node.specs.declared.node.Node.{Node}
use Rattle.qg_image.specs.Table.{keys_of, number_set, value_at, with_number, with_value}
use Rattle.qg_image.specs.declared.part.ExtentPart.{ExtentPart}
use Rattle.qg_image.specs.State.{Placed}
use Rattle.qg_image.proofs.Contained.{contains_here, contains_later}
use Rattle.qg_image.specs.ImageState.{placed}
use Rattle.qg_reach.specs.Sets.{HaveSame}
use Rattle.qg_reach.proofs.Layouts.{AgreeByAddress, layout_by, node_at-layout, with_nodes}
use Rattle.qg_reach.proofs.Members.{contains_map, one_mapped}
use Rattle.qg_reach.proofs.Reached.{address_of}
use Rattle.qg_owner_rule.proofs.Reaching.{entry_of_value}
use Rattle.qg_backref_rule.proofs.NumberSets.{Ascends, number_set_ascends}

-- ---- its numbers

-- the numbers of a table with one more value are those of the table with one more number
keys_with : {A : Type 0} (n : ℕ) (value : A) (table : List (ℕ × A))
    → keys_of (with_value n value table) ≡ with_number n (keys_of table)
keys_with n value [] = refl
keys_with {A} n value (entry ∷ table) = elim (cases_Bool (nat_lt n entry.0)) [
  | inl before ↦
      ap keys_of (cond-true (nat_lt n entry.0) ((n, value) ∷ entry ∷ table) _ before)
      ∙ sym (cond-true (nat_lt n entry.0) (n ∷ entry.0 ∷ keys_of table) _ before)
  | inr not' ↦ elim (cases_Bool (entry.0 == n)) [
    | inl same ↦
        let is = eqb-true entry.0 n same in
        ap keys_of (cond-false (nat_lt n entry.0) _ _ not' ∙ cond-true (entry.0 == n) ((n, value) ∷ table) _ same)
        ∙ ap (λ m. m ∷ keys_of table) (sym is)
        ∙ sym (cond-false (nat_lt n entry.0) _ _ not' ∙ cond-true (n == entry.0) (entry.0 ∷ keys_of table) _
        (eq-eqb n entry.0 (sym is)))
    | inr other ↦
        let differ : (n == entry.0) ≡ _ = ne_eqb n entry.0 (λ is. eqb-false entry.0 n other (sym is)) in
        ap keys_of (cond-false (nat_lt n entry.0) _ _ not' ∙ cond-false (entry.0 == n) _
        (entry ∷ with_value n value table) other)
        ∙ ap (λ keys. entry.0 ∷ keys) (keys_with n value table)
        ∙ sym (cond-false (nat_lt n entry.0) _ _ not' ∙ cond-false (n == entry.0) _
        (entry.0 ∷ with_number n (keys_of table)) differ)
  ]
]

-- a list's numbers are a set
record AreSet (keys : List ℕ) : Type 0 where
  numbers : List ℕ
  are : keys ≡ number_set numbers

-- ---- its entries

-- a node in a layout, with what extent items say of it
abbrev pub entry_of : List ExtentPart → Node → ℕ × Placed
entry_of parts node = (address_of node, placed parts node)

-- an entry is that of one of some nodes
record IsOf (parts : List ExtentPart) (nodes : List Node) (entry : ℕ × Placed) : Type 0 where
  has : Contains nodes entry.1.node
  is : entry ≡ entry_of parts entry.1.node

all_with : {A : Type 0} (P : ℕ × A → Type 0) (n : ℕ) (value : A) (table : List (ℕ × A)) → P (n, value)
    → AllByRecursion P table
    → AllByRecursion P (with_value n value table)
all_with P n value [] new all = (new, tt)
all_with P n value (entry ∷ table) new all =
    cond_both (nat_lt n entry.0) _ _ (AllByRecursion P)
    (λ before. (new, (all.0, all.1)))
    (λ not'. cond_both (entry.0 == n) _ _ (AllByRecursion P) (λ same. (new, all.1))
    (λ other. (all.0, all_with P n value table new all.1)))

-- a table of nodes is the list of their entries
listed : (parts : List ExtentPart) (nodes : List Node) (table : List (ℕ × Placed))
    → AllByRecursion (IsOf parts nodes) table
    → table ≡ map (entry_of parts) (map (λ entry. entry.1.node) table)
listed parts nodes [] all = refl
listed parts nodes (entry ∷ table) all = let first = all.0.is in let rest = listed parts nodes table all.1 in cc

keys_listed : (parts : List ExtentPart) (nodes : List Node) → keys_of (map (entry_of parts) nodes) ≡ map address_of
    nodes
keys_listed parts [] = refl
keys_listed parts (node ∷ nodes) = ap (λ keys. address_of node ∷ keys) (keys_listed parts nodes)

-- ---- nodes by address

-- a layout is some nodes by address, each once
pub record IsLaid (parts : List ExtentPart) (nodes : List Node) (layout : List (ℕ × Placed)) : Type 0 where
  pub sorted : List Node
  pub are : layout ≡ map (entry_of parts) sorted
  pub ascends : Ascends (map address_of sorted)
  pub same : HaveSame sorted nodes

module _ (parts : List ExtentPart) (nodes : List Node) where
  all_of : (table : List (ℕ × Placed)) (more : List Node) → ((node : Node) → Contains more node → Contains nodes node)
      → AllByRecursion (IsOf parts nodes) table → AllByRecursion (IsOf parts nodes) (with_nodes parts table more)
  all_of table [] inside all = all
  all_of table (node ∷ more) inside all =
      all_of (with_value (address_of node) (placed parts node) table) more
      (λ other has. inside other (contains_later node more other has))
      (all_with (IsOf parts nodes) (address_of node) (placed parts node) table
      (record { has = inside node (contains_here node more); is = refl }) all)

  set_of : (table : List (ℕ × Placed)) (more : List Node) → AreSet (keys_of table)
      → AreSet (keys_of (with_nodes parts table more))
  set_of table [] set = set
  set_of table (node ∷ more) set =
      set_of (with_value (address_of node) (placed parts node) table) more (record {
        numbers = address_of node ∷ set.numbers;
        are = keys_with (address_of node) (placed parts node) table ∙ ap (with_number (address_of node)) set.are;
      })

  module _ (alike : AgreeByAddress nodes) where
    all_laid : AllByRecursion (IsOf parts nodes) (layout_by parts nodes)
    all_laid = all_of [] nodes (λ node has. has) tt

    laid_into : (node : Node) → Contains (map (λ entry. entry.1.node) (layout_by parts nodes)) node
        → Contains nodes node
    laid_into node has =
        let one = one_mapped (λ (entry : ℕ × Placed). entry.1.node) (layout_by parts nodes) node has in
        let of = All-contains (IsOf parts nodes) (layout_by parts nodes) one.0
        (All-from_recursion (IsOf parts nodes) (layout_by parts nodes) all_laid) one.1 in
        subst (Contains nodes) one.2 of.has

    placed_there : (found : Option Placed) (node : Node) → option_map (λ (placed : Placed). placed.node) found ≡ Some
        node
        → (value : Placed) × (found ≡ Some value) × (value.node ≡ node)
    placed_there None node is = absurd cc
    placed_there (Some value) node is = (value, refl, same_Some value.node node is)

    laid_back : (node : Node) → Contains nodes node → Contains (map (λ entry. entry.1.node) (layout_by parts nodes))
        node
    laid_back node has =
        let value = placed_there (value_at (address_of node) (layout_by parts nodes)) node
        (node_at-layout parts nodes node alike has) in
        let entry = entry_of_value (address_of node) value.0 (layout_by parts nodes) value.1 in
        subst (Contains (map (λ (entry : ℕ × Placed). entry.1.node) (layout_by parts nodes))) value.2
        (contains_map (λ (entry : ℕ × Placed). entry.1.node) (layout_by parts nodes) (address_of node, value.0) entry)

    laid_keys : keys_of (layout_by parts nodes) ≡ map address_of (map (λ entry. entry.1.node) (layout_by parts nodes))
    laid_keys =
        ap keys_of (listed parts nodes (layout_by parts nodes) all_laid)
        ∙ keys_listed parts (map (λ entry. entry.1.node) (layout_by parts nodes))

    laid_ascends : Ascends (keys_of (layout_by parts nodes))
    laid_ascends =
        let set = set_of [] nodes (record { numbers = []; are = refl }) in
        subst Ascends (sym set.are) (number_set_ascends set.numbers)

    pub laid : IsLaid parts nodes (layout_by parts nodes)
    laid = record {
      sorted = map (λ entry. entry.1.node) (layout_by parts nodes);
      are = listed parts nodes (layout_by parts nodes) all_laid;
      ascends = subst Ascends laid_keys laid_ascends;
      same = record { into = laid_into; back = laid_back };
    }
