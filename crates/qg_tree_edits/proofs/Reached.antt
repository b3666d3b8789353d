-- What ways lead to is reached.
use Rattle.std.proofs.Common.{◌≡◌, ◌⊎◌, ℕ, zero, suc, ◌+◌, ◌<◌, List, [], ◌∷◌, take, drop, arith, refl, inl, inr}
use Rattle.std.proofs.Common.{Option, Some, None}
use Rattle.std.specs.Prelude.{MatchOption, slice_get}
use Rattle.std.specs.List.{sum_by}
use Rattle.std.proofs.lemmas.Bool.Decides.{eqb_tells}
use Rattle.std.proofs.lemmas.List.Sums.{sum_by-cons}
use Rattle.qg_node.specs.declared.pointer.Pointer.{Pointer}
use Rattle.qg_node.specs.declared.node.Node.{Node}
use Rattle.qg_node.specs.Nodes.{own_pointers}
use Rattle.qg_tree_edits.specs.declared.instead.Instead.{Instead}
use Rattle.qg_tree_read.specs.Tree.{Reaches}
use Rattle.qg_tree_edits.specs.Counting.{pointers_there, ways, ways_each, ways_instead, ways_more, ways_parts}
use Rattle.qg_tree_edits.specs.Editing.{ReachesInstead, ReachesParts}
use Rattle.qg_tree_edits.proofs.Spliced.{drop-get, take-get}
use Rattle.qg_tree_edits.proofs.Ways.{one-other}

-- one of two is something
pub either-some : (m n : ℕ) → 0 < m + n → (0 < m) ⊎ (0 < n)
either-some zero n some = inr (omega (arith, some))
either-some (suc m) n some = inl (omega arith)

-- a term of a sum that is something
pub record IsTerm {A : Type 0} (f : A → ℕ) (xs : List A) : Type 0 where
  pub place : ℕ
  pub x : A
  pub there : slice_get xs place ≡ Some x
  pub some : 0 < f x

pub some-term : {A : Type 0} (f : A → ℕ) (xs : List A) → 0 < sum_by f xs → IsTerm f xs
some-term f [] some = absurd (omega (arith, some))
some-term f (x ∷ xs) some =
    elim (either-some (f x) (sum_by f xs) (let both = sum_by-cons f x xs in omega (arith, both, some))) [
      | inl here ↦ record { place = 0; x = x; there = refl; some = here }
      | inr later ↦
          let found = some-term f xs later in
          record { place = suc found.place; x = found.x; there = found.there; some = found.some }
    ]

reached_below : (nodes : ℕ → Option Node) (level at : ℕ) (o : Option Node) (q : ℕ)
    → ((from : ℕ) → 0 < ways nodes level from q → Reaches nodes level from q) → nodes at ≡ o
    → 0 < ways_each nodes level (pointers_there o) q → Reaches nodes (suc level) at q
unfolding Reaches
reached_below nodes level at None q below is some = absurd (omega (arith, some))
reached_below nodes level at (Some node) q below is some =
    let term = some-term (λ (p : Pointer). ways nodes level p.child q) (own_pointers node) some in
    inr (node, is, term.place, term.x, term.there, below term.x.child term.some)

pub ways-reached : (nodes : ℕ → Option Node) (level at q : ℕ) → 0 < ways nodes level at q → Reaches nodes level at q
unfolding ways Reaches
ways-reached nodes zero at q some = elim (eqb_tells q at) [
  | inl (equal, same) ↦ same
  | inr (unequal, differ) ↦ let none = one-other at q differ in absurd (omega (arith, some, none))
]
ways-reached nodes (suc level) at q some = elim (eqb_tells q at) [
  | inl (equal, same) ↦ inl same
  | inr (unequal, differ) ↦
      let none = one-other at q differ in
      reached_below nodes level at (nodes at) q (λ from way. ways-reached nodes level from q way) refl
      (omega (arith, some, none))
]

-- from one of some pointers
each_reached : (nodes : ℕ → Option Node) (level : ℕ) (pointers : List Pointer) (q : ℕ)
    → 0 < ways_each nodes level pointers q
    → (i : ℕ) × (p : Pointer) × (slice_get pointers i ≡ Some p) × Reaches nodes level p.child q
each_reached nodes level pointers q some =
    let term = some-term (λ (p : Pointer). ways nodes level p.child q) pointers some in
    (term.place, term.x, term.there, ways-reached nodes level term.x.child q term.some)

more_reached : (nodes : ℕ → Option Node) (level : ℕ) (more : Option ℕ) (q : ℕ) → 0 < ways_more nodes level more q
    → MatchOption more ⊥ (λ more. Reaches nodes level more q)
more_reached nodes level None q some = absurd (omega (arith, some))
more_reached nodes level (Some more) q some = ways-reached nodes level more q some

instead_reached : (nodes : ℕ → Option Node) (level : ℕ) (instead : Instead) (q : ℕ)
    → 0 < ways_instead nodes level instead q → ReachesInstead nodes level instead q
instead_reached nodes level instead q some =
    elim (either-some (ways nodes level instead.now q) (ways_more nodes level instead.more q) some) [
      | inl now ↦ inl (ways-reached nodes level instead.now q now)
      | inr more ↦ inr (more_reached nodes level instead.more q more)
    ]

-- from what stands in a child's place, or from another child
pub parts-reached : (nodes : ℕ → Option Node) (level : ℕ) (pointers : List Pointer) (place : ℕ) (child : Instead)
    (q : ℕ) → 0 < ways_parts nodes level pointers place child q → ReachesParts nodes level pointers place child q
parts-reached nodes level pointers place child q some =
    let mine = ways_instead nodes level child q in
    let front = ways_each nodes level (take place pointers) q in
    let back = ways_each nodes level (drop (place + 1) pointers) q in
    elim (either-some mine (front + back) some) [
      | inl of_child ↦ inl (instead_reached nodes level child q of_child)
      | inr others ↦ inr (elim (either-some front back others) [
        | inl in_front ↦
            let found = each_reached nodes level (take place pointers) q in_front in
            let got = take-get place pointers found.0 found.1 found.2 in
            let low = got.0 in
            (found.0, found.1, (λ (same : found.0 ≡ place). omega (arith, low, same)), got.1, found.3)
        | inr behind ↦
            let found = each_reached nodes level (drop (place + 1) pointers) q behind in
            let got = drop-get (place + 1) pointers found.0 found.1 found.2 in
            let high = got.1 in
            (got.0, found.1, (λ (same : got.0 ≡ place). omega (arith, high, same)), got.2, found.3)
      ])
    ]
