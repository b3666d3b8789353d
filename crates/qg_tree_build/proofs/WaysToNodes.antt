-- How many ways lead to an address from the root of a tree that was built: one to each of its nodes.
use Rattle.std.proofs.Common.{◌≡◌, ◌≢◌, ℕ, zero, suc, ◌<◌, true, false, cond, List, [], ◌∷◌, arith, refl, sym, ap}
use Rattle.std.proofs.Common.{subst, ◌∙◌, inl, inr, Option, Some, None}
use Rattle.std.specs.Prelude.{Bool, ◌==◌}
use Rattle.std.specs.List.{AllByRecursion, sum_by}
use Rattle.std.specs.Option.{option_and_then}
use Rattle.std.proofs.lemmas.Bool.{eqb-true}
use Rattle.std.proofs.lemmas.Bool.Decides.{eqb_tells}
use Rattle.std.proofs.lemmas.List.Sorted.{sum_by-IsPermutation}
use Rattle.std.proofs.lemmas.List.Sums.{sum_by-append, sum_by-cons}
use Rattle.qg_node.specs.declared.pointer.Pointer.{Pointer}
use Rattle.qg_node.specs.declared.node.Node.{Node}
use Rattle.qg_node.specs.declared.node.Node.TheVariants.{Leaf, Inner}
use Rattle.qg_image.specs.Below.{inner_pointers, joined, leaf_items, nodes_below}
use Rattle.qg_image.specs.Among.{node_among}
use Rattle.qg_tree_layout.specs.Build.{Reaches}
use Rattle.qg_tree_layout.specs.Row.{address_of}
use Rattle.qg_tree_layout.proofs.Frame.{Keeps, both}
use Rattle.qg_tree_edits.specs.Counting.{one, ways, ways_each}
use Rattle.qg_tree_edits.proofs.Ways.{one-other, ways-inner}

-- ---- nodes by their addresses

-- how many of some nodes lie at an address
abbrev pub lying : List Node → ℕ → ℕ
lying nodes q = sum_by (λ node. one (address_of node) q) nodes

-- a node that lies there
pub lying-some : (P : ℕ → Type 0) (nodes : List Node) (q : ℕ) → AllByRecursion (λ node. P (address_of node)) nodes
    → 0 < lying nodes q → P q
lying-some P [] q each some = absurd (omega (arith, some))
lying-some P (node ∷ nodes) q each some = elim (eqb_tells q (address_of node)) [
  | inl (equal, same) ↦ subst P (sym same) each.0
  | inr (unequal, differ) ↦
      let none = one-other (address_of node) q differ in
      let sum = sum_by-cons (λ (n : Node). one (address_of n) q) node nodes in
      lying-some P nodes q each.1 (omega (arith, none, sum, some))
]

pub lying-none : (nodes : List Node) (q : ℕ) → AllByRecursion (λ node. address_of node ≢ q) nodes → lying nodes q ≡ 0
lying-none [] q each = refl
lying-none (node ∷ nodes) q each =
    let none = one-other (address_of node) q (λ same. each.0 (sym same)) in
    let sum = sum_by-cons (λ (n : Node). one (address_of n) q) node nodes in
    let later = lying-none nodes q each.1 in
    omega (arith, none, sum, later)

-- the node that is found at an address names it
address_among : (nodes : List Node) (at : ℕ) (node : Node) → node_among nodes at ≡ Some node → address_of node ≡ at
address_among [] at node h = absurd cc
address_among (first ∷ nodes) at node h = cases (address_of first == at) refl (address_among nodes at node) h where
  cases : (here : Bool) → (address_of first == at) ≡ here → (node_among nodes at ≡ Some node → address_of node ≡ at)
      → cond here (Some first) (node_among nodes at) ≡ Some node → address_of node ≡ at
  cases true is later h =
      let same : first ≡ node = cc in
      sym (ap address_of same) ∙ eqb-true (address_of first) at is
  cases false is later h = later h

-- ---- the nodes below

module _ (nodes : List Node) (map : ℕ → Option Node) (keeps : Keeps (node_among nodes) map) where
  leaf_counted : (at q : ℕ) (o : Option Node) (those : List Node) → node_among nodes at ≡ o
      → option_and_then (λ node. option_and_then (λ items. Some (node ∷ [])) (leaf_items node)) o ≡ Some those
      → one at q ≡ lying those q
  leaf_counted at q None those is h = absurd cc
  leaf_counted at q (Some (Inner header pointers)) those is h = absurd cc
  leaf_counted at q (Some (Leaf header items)) those is h =
      let node = Leaf header items in
      let only : node ∷ [] ≡ those = cc in
      let named = address_among nodes at node is in
      let first : lying (node ∷ []) q ≡ one at q =
      let sum = sum_by-cons (λ (n : Node). one (address_of n) q) node [] in
      let same = ap (λ (a : ℕ). one a q) named in
      omega (arith, sum, same) in
      sym first ∙ ap (λ (ns : List Node). lying ns q) only

  each_counted : (level q : ℕ)
      → ((at : ℕ) (those : List Node) → nodes_below (node_among nodes) level at ≡ Some those
      → ways map level at q ≡ lying those q)
      → (pointers : List Pointer) (below : List Node)
      → joined (λ pointer. nodes_below (node_among nodes) level pointer.child) pointers ≡ Some below
      → ways_each map level pointers q ≡ lying below q
  each_counted level q counted [] below h =
      let none : [] ≡ below = cc in
      ap (λ (ns : List Node). lying ns q) none
  each_counted level q counted (pointer ∷ pointers) below h =
      let under : Pointer → Option (List Node) = λ p. nodes_below (node_among nodes) level p.child in
      let parts = both (under pointer) (joined under pointers) below h in
      let here = counted pointer.child parts.0 parts.2 in
      let later = each_counted level q counted pointers parts.1 parts.3 in
      let sum = sum_by-cons (λ (p : Pointer). ways map level p.child q) pointer pointers in
      let split = sum_by-append (λ (n : Node). one (address_of n) q) parts.0 parts.1 in
      let whole = ap (λ (ns : List Node). lying ns q) parts.4 in
      omega (arith, here, later, sum, split, whole)

  inner_counted : (level q : ℕ)
      → ((at : ℕ) (those : List Node) → nodes_below (node_among nodes) level at ≡ Some those
      → ways map level at q ≡ lying those q)
      → (at : ℕ) (o : Option Node) (those : List Node) → node_among nodes at ≡ o
      → option_and_then (λ node. option_and_then (λ below. Some (node ∷ below))
      (option_and_then (joined (λ pointer. nodes_below (node_among nodes) level pointer.child))
      (inner_pointers node))) o ≡ Some those → ways map (suc level) at q ≡ lying those q
  inner_counted level q counted at None those is h = absurd cc
  inner_counted level q counted at (Some (Leaf header items)) those is h = absurd cc
  inner_counted level q counted at (Some (Inner header pointers)) those is h =
      below (joined (λ pointer. nodes_below (node_among nodes) level pointer.child) pointers) refl h where
        below : (o : Option (List Node))
            → joined (λ pointer. nodes_below (node_among nodes) level pointer.child) pointers ≡ o
            → option_and_then (λ below. Some (Inner header pointers ∷ below)) o ≡ Some those
            → ways map (suc level) at q ≡ lying those q
        below None there h = absurd cc
        below (Some list) there h =
            let whole : Inner header pointers ∷ list ≡ those = cc in
            let named = address_among nodes at (Inner header pointers) is in
            let top = ways-inner map level at header pointers (keeps.each at (Inner header pointers) is) q in
            let under = each_counted level q counted pointers list there in
            let sum = sum_by-cons (λ (n : Node). one (address_of n) q) (Inner header pointers) list in
            let same = ap (λ (a : ℕ). one a q) named in
            let all = ap (λ (ns : List Node). lying ns q) whole in
            omega (arith, top, under, sum, same, all)

  below_counted : (level at q : ℕ) (those : List Node) → nodes_below (node_among nodes) level at ≡ Some those
      → ways map level at q ≡ lying those q
  unfolding ways
  below_counted zero at q those h = leaf_counted at q (node_among nodes at) those refl h
  below_counted (suc level) at q those h =
      inner_counted level q (λ at those h. below_counted level at q those h) at (node_among nodes at) those refl h

  -- one way leads to each node
  pub ways-built : (level root : ℕ) → Reaches nodes level root → (q : ℕ) → ways map level root q ≡ lying nodes q
  ways-built level root reached q =
      below_counted level root q reached.those reached.under
      ∙ sym (sum_by-IsPermutation (λ node. one (address_of node) q) reached.those nodes reached.same)
