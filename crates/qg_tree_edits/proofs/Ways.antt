-- How many ways lead to an address.
use Rattle.std.proofs.Common.{◌≡◌, ◌≢◌, ℕ, zero, suc, ◌+◌, ◌<◌, ◌≤◌, List, [], ◌∷◌, ◌++◌, take, drop, arith, refl, ap}
use Rattle.std.proofs.Common.{◌∙◌, inl, inr, Option, Some, None}
use Rattle.std.specs.Prelude.{Bool, if◌then◌else◌, slice_get}
use Rattle.std.specs.List.{sum_by}
use Rattle.std.proofs.lemmas.Bool.Decides.{eqb_tells}
use Rattle.std.proofs.lemmas.List.Sums.{sum_by-append, sum_by-cons, sum_by-take-drop}
use Rattle.qg_node.specs.declared.pointer.Pointer.{Pointer}
use Rattle.qg_node.specs.declared.node.Header.{Header}
use Rattle.qg_node.specs.declared.node.Node.{Node}
use Rattle.qg_node.specs.declared.node.Node.TheVariants.{Inner}
use Rattle.qg_node.specs.Nodes.{own_pointers}
use Rattle.qg_tree_read.specs.Tree.{Reaches}
use Rattle.qg_tree_edits.specs.Counting.{one, pointers_there, ways, ways_each}
use Rattle.qg_tree_edits.proofs.Spliced.{drop-there}

-- ---- sums

module _ {A : Type 0} (f : A → ℕ) where
  pub sum-same : (g : A → ℕ) (xs : List A) → ((i : ℕ) (x : A) → slice_get xs i ≡ Some x → g x ≡ f x) → sum_by g xs
      ≡ sum_by f xs
  sum-same g [] same = refl
  sum-same g (x ∷ xs) same =
      let here = same 0 x refl in
      let others = sum-same g xs (λ i y is. same (suc i) y is) in
      let is = sum_by-cons f x xs in
      let is' = sum_by-cons g x xs in
      omega (arith, here, others, is, is')

  pub sum-none : (xs : List A) → ((i : ℕ) (x : A) → slice_get xs i ≡ Some x → f x ≡ 0) → sum_by f xs ≡ 0
  sum-none [] none = refl
  sum-none (x ∷ xs) none =
      let here = none 0 x refl in
      let others = sum-none xs (λ i y is. none (suc i) y is) in
      let is = sum_by-cons f x xs in
      omega (arith, here, others, is)

  pub sum-some : (xs : List A) (i : ℕ) (x : A) → slice_get xs i ≡ Some x → f x ≤ sum_by f xs
  sum-some [] i x is = absurd cc
  sum-some (y ∷ xs) zero x is =
      let same : y ≡ x = cc in
      let here = ap f same in
      let sum = sum_by-cons f y xs in
      omega (arith, here, sum)
  sum-some (y ∷ xs) (suc i) x is =
      let later = sum-some xs i x is in
      let sum = sum_by-cons f y xs in
      omega (arith, later, sum)

-- ---- one address

pub one-here : (at q : ℕ) → q ≡ at → one at q ≡ 1
one-here at q same = elim (eqb_tells q at) [
  | inl (is, there) ↦ ap (λ (b : Bool). if b then 1 else 0) is
  | inr (is, other) ↦ absurd (other same)
]

pub one-other : (at q : ℕ) → q ≢ at → one at q ≡ 0
one-other at q differ = elim (eqb_tells q at) [
  | inl (is, there) ↦ absurd (differ there)
  | inr (is, other) ↦ ap (λ (b : Bool). if b then 1 else 0) is
]

-- ---- ways from a node

pub ways-top : (nodes : ℕ → Option Node) (level at : ℕ) → 0 < ways nodes level at at
unfolding ways
ways-top nodes zero at = let here = one-here at at refl in omega (arith, here)
ways-top nodes (suc level) at = let here = one-here at at refl in omega (arith, here)

below_same : (nodes nodes' : ℕ → Option Node) (level : ℕ) (o : Option Node) (q : ℕ)
    → ((node : Node) → o ≡ Some node → (place : ℕ) (pointer : Pointer) → slice_get (own_pointers node) place
    ≡ Some pointer → ways nodes' level pointer.child q ≡ ways nodes level pointer.child q)
    → ways_each nodes' level (pointers_there o) q ≡ ways_each nodes level (pointers_there o) q
below_same nodes nodes' level None q each = refl
below_same nodes nodes' level (Some node) q each =
    sum-same (λ (p : Pointer). ways nodes level p.child q) (λ (p : Pointer). ways nodes' level p.child q)
    (own_pointers node) (each node refl)

-- as many where what is reached is told as before
pub ways-same : (nodes nodes' : ℕ → Option Node) (level at : ℕ) → ((r : ℕ) → Reaches nodes level at r → nodes' r
    ≡ nodes r) → (q : ℕ) → ways nodes' level at q ≡ ways nodes level at q
unfolding ways Reaches
ways-same nodes nodes' zero at same q = refl
ways-same nodes nodes' (suc level) at same q =
    let top = ap (λ (o : Option Node). ways_each nodes' level (pointers_there o) q) (same at (inl refl)) in
    let below = below_same nodes nodes' level (nodes at) q
    (λ node is place pointer there. ways-same nodes nodes' level pointer.child
    (λ r reaches. same r (inr (node, is, place, pointer, there, reaches))) q) in
    ap (λ (n : ℕ). one at q + n) (top ∙ below)

below_none : (nodes : ℕ → Option Node) (level : ℕ) (o : Option Node) (q : ℕ)
    → ((node : Node) → o ≡ Some node → (place : ℕ) (pointer : Pointer) → slice_get (own_pointers node) place
    ≡ Some pointer → ways nodes level pointer.child q ≡ 0)
    → ways_each nodes level (pointers_there o) q ≡ 0
below_none nodes level None q each = refl
below_none nodes level (Some node) q each = sum-none (λ (p : Pointer). ways nodes level p.child q) (own_pointers node)
    (each node refl)

-- none where it is not reached
pub ways-none : (nodes : ℕ → Option Node) (level at q : ℕ) → (Reaches nodes level at q → ⊥) → ways nodes level at q ≡ 0
unfolding ways Reaches
ways-none nodes zero at q apart = one-other at q apart
ways-none nodes (suc level) at q apart =
    let top = one-other at q (λ same. apart (inl same)) in
    let below = below_none nodes level (nodes at) q
    (λ node is place pointer there. ways-none nodes level pointer.child q
    (λ reaches. apart (inr (node, is, place, pointer, there, reaches)))) in
    omega (arith, top, below)

-- and some where it is
pub ways-some : (nodes : ℕ → Option Node) (level at q : ℕ) → Reaches nodes level at q → 0 < ways nodes level at q
unfolding ways Reaches
ways-some nodes zero at q reaches = let here = one-here at q reaches in omega (arith, here)
ways-some nodes (suc level) at q (inl same) = let here = one-here at q same in omega (arith, here)
ways-some nodes (suc level) at q (inr (node, is, place, pointer, there, reaches)) =
    let below = ways-some nodes level pointer.child q reaches in
    let part = sum-some (λ (p : Pointer). ways nodes level p.child q) (own_pointers node) place pointer there in
    let told = ap (λ (o : Option Node). ways_each nodes level (pointers_there o) q) is in
    omega (arith, below, part, told)

-- ---- ways from the nodes that pointers lead to

pub ways_each-same : (nodes nodes' : ℕ → Option Node) (level : ℕ) (pointers : List Pointer)
    → ((place : ℕ) (pointer : Pointer) → slice_get pointers place ≡ Some pointer → (r : ℕ)
    → Reaches nodes level pointer.child r → nodes' r ≡ nodes r)
    → (q : ℕ) → ways_each nodes' level pointers q ≡ ways_each nodes level pointers q
ways_each-same nodes nodes' level pointers same q =
    sum-same (λ (p : Pointer). ways nodes level p.child q) (λ (p : Pointer). ways nodes' level p.child q) pointers
    (λ place pointer there. ways-same nodes nodes' level pointer.child (same place pointer there) q)

pub ways_each-none : (nodes : ℕ → Option Node) (level : ℕ) (pointers : List Pointer) (q : ℕ)
    → ((place : ℕ) (pointer : Pointer) → slice_get pointers place ≡ Some pointer → Reaches nodes level pointer.child q
    → ⊥) → ways_each nodes level pointers q ≡ 0
ways_each-none nodes level pointers q apart =
    sum-none (λ (p : Pointer). ways nodes level p.child q) pointers
    (λ place pointer there. ways-none nodes level pointer.child q (apart place pointer there))

pub ways_each-append : (nodes : ℕ → Option Node) (level : ℕ) (front back : List Pointer) (q : ℕ)
    → ways_each nodes level (front ++ back) q ≡ ways_each nodes level front q + ways_each nodes level back q
ways_each-append nodes level front back q = sum_by-append (λ (p : Pointer). ways nodes level p.child q) front back

pub ways_each-cons : (nodes : ℕ → Option Node) (level : ℕ) (pointer : Pointer) (pointers : List Pointer) (q : ℕ)
    → ways_each nodes level (pointer ∷ pointers) q ≡ ways nodes level pointer.child q + ways_each nodes level pointers q
ways_each-cons nodes level pointer pointers q = sum_by-cons (λ (p : Pointer). ways nodes level p.child q) pointer
    pointers

-- those from one index on, and those in front
pub ways_each-at : (nodes : ℕ → Option Node) (level : ℕ) (pointers : List Pointer) (place : ℕ) (pointer : Pointer)
    (q : ℕ) → slice_get pointers place ≡ Some pointer
    → ways_each nodes level pointers q ≡ ways nodes level pointer.child q
    + (ways_each nodes level (take place pointers) q + ways_each nodes level (drop (place + 1) pointers) q)
ways_each-at nodes level pointers place pointer q there =
    let both = sum_by-take-drop (λ (p : Pointer). ways nodes level p.child q) pointers place in
    let behind = ap (λ (ps : List Pointer). ways_each nodes level ps q) (drop-there pointers place pointer there) in
    let first = ways_each-cons nodes level pointer (drop (suc place) pointers) q in
    let next = ap (λ (n : ℕ). ways_each nodes level (drop n pointers) q)
    (let e : place + 1 ≡ suc place = omega arith in e) in
    omega (arith, both, behind, first, next)

-- a node with pointers
pub ways-inner : (nodes : ℕ → Option Node) (level at : ℕ) (header : Header) (pointers : List Pointer) → nodes at
    ≡ Some (Inner header pointers)
    → (q : ℕ) → ways nodes (suc level) at q ≡ one at q + ways_each nodes level pointers q
unfolding ways
ways-inner nodes level at header pointers is q = ap (λ (o : Option Node). one at q + ways_each nodes level
    (pointers_there o) q) is

-- a leaf
pub ways-leaf : (nodes : ℕ → Option Node) (at q : ℕ) → ways nodes 0 at q ≡ one at q
unfolding ways
ways-leaf nodes at q = refl
