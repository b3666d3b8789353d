-- What ways lead to is reached.
use Rattle.std.proofs.Common.{◌≡◌, ℕ, zero, suc, ◌+◌, ◌<◌, List, [], ◌∷◌, Option, Some, None, arith, refl, inl, inr}
use Rattle.std.specs.Prelude.{slice_get}
use Rattle.std.specs.List.{sum_by}
use Rattle.std.proofs.lemmas.Bool.Decides.{eqb_tells}
use Rattle.std.proofs.lemmas.List.Sums.{sum_by-cons}
use Rattle.qg_node.specs.declared.pointer.Pointer.{Pointer}
use Rattle.qg_node.specs.declared.node.Node.{Node}
use Rattle.qg_node.specs.Nodes.{own_pointers}
use Rattle.qg_tree_read.specs.Tree.{Reaches}
use Rattle.qg_tree_edits.specs.Counting.{pointers_there, ways, ways_each}
use Rattle.qg_tree_edits.proofs.Ways.{one-other}

-- a term of a sum that is something
record IsTerm {A : Type 0} (f : A → ℕ) (xs : List A) : Type 0 where
  place : ℕ
  x : A
  there : slice_get xs place ≡ Some x
  some : 0 < f x

first_or_later : {A : Type 0} (f : A → ℕ) (x : A) (xs : List A) (n : ℕ) → f x ≡ n → (0 < sum_by f xs → IsTerm f xs)
    → 0 < n + sum_by f xs → IsTerm f (x ∷ xs)
first_or_later f x xs zero none rest some =
    let later = rest (omega (arith, some)) in
    record { place = suc later.place; x = later.x; there = later.there; some = later.some }
first_or_later f x xs (suc n) here rest some = record { place = 0; x = x; there = refl; some = omega (arith, here) }

some_term : {A : Type 0} (f : A → ℕ) (xs : List A) → 0 < sum_by f xs → IsTerm f xs
some_term f [] some = absurd (omega (arith, some))
some_term f (x ∷ xs) some =
    first_or_later f x xs (f x) refl (λ later. some_term f xs later)
    (let both = sum_by-cons f x xs in omega (arith, both, some))

reached_below : (nodes : ℕ → Option Node) (level at : ℕ) (o : Option Node) (q : ℕ)
    → ((from : ℕ) → 0 < ways nodes level from q → Reaches nodes level from q) → nodes at ≡ o
    → 0 < ways_each nodes level (pointers_there o) q → Reaches nodes (suc level) at q
unfolding Reaches
reached_below nodes level at None q below is some = absurd (omega (arith, some))
reached_below nodes level at (Some node) q below is some =
    let term = some_term (λ (p : Pointer). ways nodes level p.child q) (own_pointers node) some in
    inr (node, is, term.place, term.x, term.there, below term.x.child term.some)

pub reached-some : (nodes : ℕ → Option Node) (level at q : ℕ) → 0 < ways nodes level at q → Reaches nodes level at q
unfolding ways Reaches
reached-some nodes zero at q some = elim (eqb_tells q at) [
  | inl (equal, same) ↦ same
  | inr (unequal, differ) ↦ let none = one-other at q differ in absurd (omega (arith, some, none))
]
reached-some nodes (suc level) at q some = elim (eqb_tells q at) [
  | inl (equal, same) ↦ inl same
  | inr (unequal, differ) ↦
      let none = one-other at q differ in
      reached_below nodes level at (nodes at) q (λ from way. reached-some nodes level from q way) refl
      (omega (arith, some, none))
]
