-- A layout is a table that ascends.
use Rattle.std.proofs.Common.{◌≡◌, ℕ, zero, suc, ◌+◌, ◌<◌, ◌≤◌, Bool, true, false, cond, List, [], ◌∷◌, length, get_or}
use Rattle.std.proofs.Common.{refl, sym, subst, arith, inl, inr, add-one}
use Rattle.std.specs.Prelude.{◌==◌, nat_lt, Contains}
use Rattle.std.specs.List.{AllByRecursion}
use Rattle.std.specs.List.Sorted.{IsStrictlyIncreasing}
use Rattle.std.proofs.lemmas.Bool.{cases_Bool, cond-true, cond-false, eqb-true, eqb-false, ltb-true, ltb-false}
use Rattle.qg_node.specs.declared.node.Node.{Node}
use Rattle.qg_image.specs.Table.{keys_of, with_value}
use Rattle.qg_image.specs.declared.part.ExtentPart.{ExtentPart}
use Rattle.qg_image.specs.State.{Placed}
use Rattle.qg_image.proofs.Contained.{contains_here, contains_later}
use Rattle.qg_image.specs.ImageState.{placed}
use Rattle.qg_reach.proofs.Layouts.{layout_by, with_nodes}
use Rattle.qg_tree_layout.specs.Row.{address_of}

-- ---- a table that ascends with one value more

-- what may become of a table in front of one entry of it
abbrev put : {A : Type 0} → Bool → Bool → ℕ → A → ℕ × A → List (ℕ × A) → List (ℕ × A) → List (ℕ × A)
put before same n value entry entries behind =
    cond before ((n, value) ∷ entry ∷ entries) (cond same ((n, value) ∷ entries) (entry ∷ behind))

-- numbers that ascend, the first no less than a bound
abbrev Ascends : ℕ → List ℕ → Type 0
Ascends from [] = Unit {0}
Ascends from (n ∷ ns) = (from ≤ n) × Ascends (n + 1) ns

put-ascends : {A : Type 0} (before same : Bool) (from n : ℕ) (value : A) (entry : ℕ × A) (entries behind : List (ℕ × A))
    → (before ≡ true → n < entry.0) → (same ≡ true → entry.0 ≡ n)
    → (before ≡ false → same ≡ false → Ascends (entry.0 + 1) (keys_of behind)) → from ≤ n
    → Ascends from (keys_of (entry ∷ entries)) → Ascends from (keys_of (put before same n value entry entries behind))
put-ascends true same from n value entry entries behind less is later begins up =
    (begins, (omega (arith, less refl), up.1))
put-ascends false true from n value entry entries behind less is later begins up =
    (begins, subst (λ (k : ℕ). Ascends (k + 1) (keys_of entries)) (is refl) up.1)
put-ascends false false from n value entry entries behind less is later begins up = (up.0, later refl refl)

past : (n m : ℕ) → nat_lt n m ≡ false → (m == n) ≡ false → m + 1 ≤ n
past n m after other =
    let from = ltb-false n m after in
    let differ = eqb-false m n other in
    omega (arith, from, differ)

with_value-ascends : {A : Type 0} (from n : ℕ) (value : A) (table : List (ℕ × A)) → from ≤ n
    → Ascends from (keys_of table) → Ascends from (keys_of (with_value n value table))
with_value-ascends from n value [] begins up = (begins, tt)
with_value-ascends from n value (entry ∷ entries) begins up =
    put-ascends (nat_lt n entry.0) (entry.0 == n) from n value entry entries (with_value n value entries)
    (ltb-true n entry.0) (eqb-true entry.0 n)
    (λ after other. with_value-ascends (entry.0 + 1) n value entries (past n entry.0 after other) up.1) begins up

neighbours : (from : ℕ) (ns : List ℕ) (k : ℕ) → Ascends from ns → suc k < length ns
    → get_or ns k 0 < get_or ns (suc k) 0
neighbours from [] k up short = absurd (omega arith)
neighbours from (n ∷ []) k up short = absurd (omega arith)
neighbours from (n ∷ m ∷ ns) zero up short = omega (arith, up.1.0)
neighbours from (n ∷ m ∷ ns) (suc k) up short = neighbours (n + 1) (m ∷ ns) k up.1 (omega arith)

increasing : (from : ℕ) (ns : List ℕ) → Ascends from ns → IsStrictlyIncreasing ns
increasing from ns up = λ k short. rw add-one (neighbours from ns k up (omega arith))

-- ---- a layout

nodes-ascend : (parts : List ExtentPart) (layout : List (ℕ × Placed)) (nodes : List Node) → Ascends 0 (keys_of layout)
    → Ascends 0 (keys_of (with_nodes parts layout nodes))
nodes-ascend parts layout [] up = up
nodes-ascend parts layout (node ∷ nodes) up =
    nodes-ascend parts (with_value (address_of node) (placed parts node) layout) nodes
    (with_value-ascends 0 (address_of node) (placed parts node) layout (omega arith) up)

pub layout-ascends : (parts : List ExtentPart) (nodes : List Node)
    → IsStrictlyIncreasing (keys_of (layout_by parts nodes))
layout-ascends parts nodes = increasing 0 (keys_of (layout_by parts nodes)) (nodes-ascend parts [] nodes tt)

all_with : {A : Type 0} (P : ℕ × A → Type 0) (n : ℕ) (value : A) (table : List (ℕ × A)) → P (n, value)
    → AllByRecursion P table → AllByRecursion P (with_value n value table)
all_with P n value [] here all = (here, tt)
all_with {A} P n value (entry ∷ table) here all =
    let kept : List (ℕ × A) = cond (entry.0 == n) ((n, value) ∷ table) (entry ∷ with_value n value table) in
    let rest : AllByRecursion P kept = elim (cases_Bool (entry.0 == n)) [
      | inl same ↦
          subst (AllByRecursion P)
          (sym (cond-true (entry.0 == n) ((n, value) ∷ table) (entry ∷ with_value n value table) same)) (here, all.1)
      | inr other ↦
          subst (AllByRecursion P)
          (sym (cond-false (entry.0 == n) ((n, value) ∷ table) (entry ∷ with_value n value table) other))
          (all.0, all_with P n value table here all.1)
    ] in
    elim (cases_Bool (nat_lt n entry.0)) [
      | inl before ↦
          subst (AllByRecursion P) (sym (cond-true (nat_lt n entry.0) ((n, value) ∷ entry ∷ table) kept before))
          (here, all)
      | inr after ↦
          subst (AllByRecursion P) (sym (cond-false (nat_lt n entry.0) ((n, value) ∷ entry ∷ table) kept after)) rest
    ]

all_with_nodes : (P : ℕ × Placed → Type 0) (parts : List ExtentPart) (layout : List (ℕ × Placed)) (nodes : List Node)
    → ((node : Node) → Contains nodes node → P (address_of node, placed parts node)) → AllByRecursion P layout
    → AllByRecursion P (with_nodes parts layout nodes)
all_with_nodes P parts layout [] each all = all
all_with_nodes P parts layout (node ∷ nodes) each all =
    all_with_nodes P parts (with_value (address_of node) (placed parts node) layout) nodes
    (λ other has. each other (contains_later node nodes other has))
    (all_with P (address_of node) (placed parts node) layout (each node (contains_here node nodes)) all)

-- what holds of each node at its address holds of their layout
pub all_laid : (P : ℕ × Placed → Type 0) (parts : List ExtentPart) (nodes : List Node)
    → ((node : Node) → Contains nodes node → P (address_of node, placed parts node))
    → AllByRecursion P (layout_by parts nodes)
all_laid P parts nodes each = all_with_nodes P parts [] nodes each tt
