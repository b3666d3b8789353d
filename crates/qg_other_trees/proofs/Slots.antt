-- Elements of lists, slots in front and behind, and the nodes that lie in them.
use Rattle.std.proofs.Common.{◌≡◌, ℕ, ◌+◌, ◌≤◌, List, [], ◌∷◌, ◌++◌, map, length, take, drop, refl, sym, ap, subst, ◌∙◌}
use Rattle.std.proofs.Common.{arith, inl, inr}
use Rattle.std.specs.Prelude.{◌==◌, Option, Some}
use Rattle.std.specs.List.{AllByRecursion, Contains, IsDistinct, filter_map}
use Rattle.std.proofs.lemmas.Bool.{cases_Bool, cond-true, cond-false, eqb-true}
use Rattle.std.proofs.lemmas.Option.{same_Some}
use Rattle.std.proofs.lemmas.Bool.Decides.{nat_tests}
use Rattle.std.proofs.lemmas.List.{append_assoc, length-drop, map-append, take-append-drop}
use Rattle.std.proofs.lemmas.Map.Keys.{IsDistinct-tail}
use Rattle.qg_node.specs.declared.item.Item.{Item}
use Rattle.qg_node.specs.declared.node.Node.{Node}
use Rattle.qg_image.specs.Table.{value_at}
use Rattle.qg_image.proofs.Contained.{contains_here, contains_later}
use Rattle.qg_tree_layout.specs.Row.{address_of}
use Rattle.qg_tree_layout.proofs.Frame.{IsDistinct-front}
use Rattle.qg_other_trees.specs.Trees.{AreEnough}

-- ---- what holds of each element

pub all_contained : {A : Type 0} (P : A → Type 0) (xs : List A) → ((x : A) → Contains xs x → P x) → AllByRecursion P xs
all_contained P [] each = tt
all_contained P (x ∷ xs) each =
    (each x (contains_here x xs), all_contained P xs (λ y has. each y (contains_later x xs y has)))

-- what a table has at a number is one of its entries
pub value_contained : {A : Type 0} (q : ℕ) (table : List (ℕ × A)) (value : A) → value_at q table ≡ Some value
    → Contains table (q, value)
value_contained q [] value is = absurd cc
value_contained {A} q (entry ∷ table) value is = elim (cases_Bool (entry.0 == q)) [
  | inl same ↦
      let held : Some entry.1 ≡ Some value = sym (cond-true (entry.0 == q) (Some entry.1) (value_at q table) same)
      ∙ is in
      let at : entry.0 ≡ q = eqb-true entry.0 q same in
      let what : entry.1 ≡ value = same_Some entry.1 value held in
      let whole : entry ≡ (q, value) = λ i. (at i, what i) in
      subst (λ (e : ℕ × A). Contains (entry ∷ table) e) whole (contains_here entry table)
  | inr differs ↦
      let later = sym (cond-false (entry.0 == q) (Some entry.1) (value_at q table) differs) ∙ is in
      contains_later entry table (q, value) (value_contained q table value later)
]

-- the parts are what is said, and nothing was left out
pub all_said : {P : Type 0} (meaning : Item → Option P) (items : List Item) (parts : List P)
    → map meaning items ≡ map (λ part. Some part) parts → filter_map meaning items ≡ parts
all_said meaning [] [] h = refl
all_said meaning [] (part ∷ parts) h = absurd cc
all_said meaning (item ∷ items) [] h = absurd cc
all_said {P} meaning (item ∷ items) (part ∷ parts) h =
    let first : meaning item ≡ Some part = cc in
    let rest : map meaning items ≡ map (λ part. Some part) parts = cc in
    rw first (ap (λ (all : List P). part ∷ all) (all_said meaning items parts rest))

-- ---- slots that differ

pub flips : (a b : ℕ) → (a == b) ≡ (b == a)
flips a b = grind (arith, nat_tests)

pub IsDistinct-back : (front back : List ℕ) → IsDistinct (λ a b. a == b) (front ++ back)
    → IsDistinct (λ a b. a == b) back
IsDistinct-back [] back apart = apart
IsDistinct-back (n ∷ front) back apart =
    IsDistinct-back front back (IsDistinct-tail (λ a b. a == b) n (front ++ back) apart)

pub distinct-drop : (slots : List ℕ) (n : ℕ) → IsDistinct (λ a b. a == b) slots
    → IsDistinct (λ a b. a == b) (drop n slots)
distinct-drop slots n apart =
    IsDistinct-back (take n slots) (drop n slots)
    (subst (IsDistinct (λ a b. a == b)) (sym (take-append-drop n slots)) apart)

-- nodes that lie in the first of slots that differ lie apart
pub placed_apart : (nodes : List Node) (slots : List ℕ) → map address_of nodes ≡ take (length nodes) slots
    → IsDistinct (λ a b. a == b) slots → IsDistinct (λ a b. a == b) (map address_of nodes)
placed_apart nodes slots placed apart =
    let front = take (length nodes) slots in
    let back = drop (length nodes) slots in
    let whole = subst (IsDistinct (λ a b. a == b)) (sym (take-append-drop (length nodes) slots)) apart in
    subst (IsDistinct (λ a b. a == b)) (sym placed) (IsDistinct-front (λ a b. a == b) front back whole)

-- behind some of the slots enough are left
pub AreEnough-drop : (slots : List ℕ) (all taken most left : ℕ) → AreEnough all slots → taken ≤ most
    → most + left ≤ all → AreEnough left (drop taken slots)
AreEnough-drop slots all taken most left are few room = record {
  apart = distinct-drop slots taken are.apart;
  few = omega (arith, length-drop taken slots, are.few);
  enough = omega (arith, length-drop taken slots, are.enough);
}

pub AreEnough-less : (slots : List ℕ) (all some : ℕ) → AreEnough all slots → some ≤ all → AreEnough some slots
AreEnough-less slots all some are less =
    record { apart = are.apart; few = are.few; enough = omega (arith, are.enough) }

-- ---- where nodes lie

-- nodes lie in the first of the slots, and these are left
abbrev pub LieFirst : List Node → List ℕ → List ℕ → Type 0
LieFirst nodes slots left = map address_of nodes ++ left ≡ slots

pub LieFirst-placed : (nodes : List Node) (slots : List ℕ) → map address_of nodes ≡ take (length nodes) slots
    → LieFirst nodes slots (drop (length nodes) slots)
LieFirst-placed nodes slots placed =
    ap (λ (front : List ℕ). front ++ drop (length nodes) slots) placed ∙ take-append-drop (length nodes) slots

pub LieFirst-more : (nodes more : List Node) (slots left rest : List ℕ) → LieFirst nodes slots left
    → LieFirst more left rest → LieFirst (nodes ++ more) slots rest
LieFirst-more nodes more slots left rest first behind =
    ap (λ (front : List ℕ). front ++ rest) (map-append address_of nodes more)
    ∙ append_assoc (map address_of nodes) (map address_of more) rest
    ∙ ap (λ (back : List ℕ). map address_of nodes ++ back) behind
    ∙ first
