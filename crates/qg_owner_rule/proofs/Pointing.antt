-- The indices of those nodes that a node points to, one child after the other.
use Rattle.std.proofs.Common.{◌≡◌, ℕ, ◌+◌, ◌<◌, List, [], ◌∷◌, ◌++◌, length, take, get_or, map, ◌≤◌, Some, sym, ap}
use Rattle.std.proofs.Common.{subst, ◌∙◌, arith, ◌⊎◌, inl, inr}
use Rattle.std.specs.Prelude.{slice_get}
use Rattle.std.specs.List.{All, Contains}
use Rattle.std.specs.List.Sorted.{IsStrictlyIncreasing}
use Rattle.std.proofs.lemmas.Bool.{cases_lt}
use Rattle.std.proofs.lemmas.List.{take_all, length_push, get_or_push, get_or_append_left}
use Rattle.std.proofs.lemmas.Option.{slice_get-get_or, slice_get_within}
use Rattle.std.proofs.lemmas.List.Elements.{Contains-append_left, Contains-push, Contains-push_cases}
use Rattle.qg_owner_rule.specs.declared.linked.Linked.{Linked}
use Rattle.qg_owner_rule.specs.Leading.{PointsTo}
use Rattle.qg_owner_rule.specs.Places.{IsUnder, ArePlacesBelow}
use Rattle.qg_owner_rule.specs.Marks.{AreBelow}
use Rattle.qg_owner_rule.proofs.Listed.{in_front_more, front_more_cases, at_one, at_along, All-at}
use Rattle.qg_owner_rule.proofs.Ascending.{one_place}

-- the node with its first children alone
abbrev pub cut : Linked → ℕ → Linked
cut parent n = record parent { children = take n parent.children }

pub places_none : (nodes : List Linked) (parent : Linked) → ArePlacesBelow nodes (cut parent 0) []
places_none nodes parent = record {
  into = λ place has. absurd (omega (arith, has.1));
  all = λ place child at points. absurd (omega (arith, points.named.1));
}

pub places_all : (nodes : List Linked) (parent : Linked) (n : ℕ) (places : List ℕ) → length parent.children ≤ n
    → ArePlacesBelow nodes (cut parent n) places → ArePlacesBelow nodes parent places
places_all nodes parent n places all are =
    subst (λ children. ArePlacesBelow nodes (record parent { children = children }) places)
    (take_all n parent.children all) are

-- the first nodes have the indices of those that they point to
pub record FirstBelow (nodes : List Linked) (below : List (List ℕ)) (n : ℕ) : Type 0 where
  pub same : length below ≡ n
  pub each : (i : ℕ) (parent : Linked) → i < n → slice_get nodes i ≡ Some parent
      → ArePlacesBelow nodes parent (get_or below i [])

pub below_none : (nodes : List Linked) (below : List (List ℕ)) → below ≡ [] → FirstBelow nodes below 0
below_none nodes below is = record { same = ap length is; each = λ i parent short at. absurd (omega (arith, short)) }

pub below_more : (nodes : List Linked) (below : List (List ℕ)) (n : ℕ) (node : Linked) (places : List ℕ)
    → slice_get nodes n ≡ Some node → ArePlacesBelow nodes node places
    → FirstBelow nodes below n → FirstBelow nodes (below ++ places ∷ []) (n + 1)
below_more nodes below n node places here are first = record {
  same = length_push below places ∙ ap (λ k. k + 1) first.same;
  each = λ i parent short at. each i parent short at (cases_lt i n);
} where
  each : (i : ℕ) (parent : Linked) → i < n + 1 → slice_get nodes i ≡ Some parent → (i < n) ⊎ (n ≤ i)
      → ArePlacesBelow nodes parent (get_or (below ++ places ∷ []) i [])
  each i parent short at (inl less) =
      subst (ArePlacesBelow nodes parent)
      (sym (get_or_append_left below (places ∷ []) [] i (omega (arith, less, first.same))))
      (first.each i parent less at)
  each i parent short at (inr more) =
      let is : n ≡ i = omega (arith, short, more) in
      let one = at_one nodes i node parent (at_along nodes n i node is here) at in
      subst (λ p. ArePlacesBelow nodes p (get_or (below ++ places ∷ []) i [])) one
      (subst (ArePlacesBelow nodes node) (sym (get_or_push below places [] i (first.same ∙ is))) are)

pub below_all : (nodes : List Linked) (below : List (List ℕ)) (n : ℕ) → n ≡ length nodes → FirstBelow nodes below n
    → AreBelow nodes below
below_all nodes below n all first = record {
  same = first.same ∙ all;
  each = λ i parent at. let short =
      slice_get_within nodes i parent at in first.each i parent (omega (arith, short, all)) at;
}

-- the node at that address is not one level below
pub none_under : (nodes : List Linked) (parent : Linked) (address place : ℕ) (node : Linked)
    → IsStrictlyIncreasing (map (λ node. node.address) nodes) → slice_get nodes place ≡ Some node
    → node.address ≡ address → (parent.level ≡ node.level + 1 → ⊥) → All (λ node. IsUnder parent address node → ⊥) nodes
none_under nodes parent address place node up at is other = λ k d short under.
    let at' = slice_get-get_or nodes k d short in
    let same =
    one_place (λ (n : Linked). n.address) nodes up place k node (get_or nodes k d) at at' (is ∙ sym under.0) in
    let one = at_one nodes k node (get_or nodes k d) (at_along nodes place k node same at) at' in
    other (under.1 ∙ ap (λ (n : Linked). n.level + 1) (sym one))

pub none_under_leaf : (nodes : List Linked) (parent : Linked) (address : ℕ) → parent.level ≤ 0
    → All (λ node. IsUnder parent address node → ⊥) nodes
none_under_leaf nodes parent address leaf = λ k d short under. omega (arith, leaf, under.1)

module _ (nodes : List Linked) (parent : Linked) (i address : ℕ) (places : List ℕ) (short : i < length parent.children)
    (is : address ≡ get_or parent.children i address)
    (are : ArePlacesBelow nodes (cut parent i) places) where
  more : (child : Linked) → Contains (take i parent.children) child.address ⊎ (address ≡ child.address)
      → (cut parent i).level ≡ child.level + 1 → PointsTo (cut parent (i + 1)) child
  more child named lower =
      record { named = in_front_more parent.children i address child.address short is named; lower = lower }

  -- there is no such node
  pub places_same : All (λ node. IsUnder parent address node → ⊥) nodes
      → ArePlacesBelow nodes (cut parent (i + 1)) places
  places_same none = record {
    into = λ place has. let child =
        are.into place has in (child.0, child.1, more child.0 (inl child.2.named) child.2.lower);
    all = λ place child at points.
        all place child at points (front_more_cases parent.children i address child.address short is points.named);
  } where
    all : (place : ℕ) (child : Linked) → slice_get nodes place ≡ Some child → PointsTo (cut parent (i + 1)) child
        → Contains (take i parent.children) child.address ⊎ (address ≡ child.address) → Contains places place
    all place child at points (inl before) = are.all place child at (record { named = before; lower = points.lower })
    all place child at points (inr now) =
        absurd (All-at (λ (node : Linked). IsUnder parent address node → ⊥) nodes place child none at
        (sym now, points.lower))

  -- there is one
  pub places_more : (p : ℕ) → IsStrictlyIncreasing (map (λ node. node.address) nodes)
      → (node : Linked) × (slice_get nodes p ≡ Some node) × IsUnder parent address node
      → ArePlacesBelow nodes (cut parent (i + 1)) (places ++ p ∷ [])
  places_more p up found = record {
    into = λ place has. into place (Contains-push_cases places p place has);
    all = λ place child at points.
        all place child at points (front_more_cases parent.children i address child.address short is points.named);
  } where
    into : (place : ℕ) → Contains places place ⊎ (p ≡ place)
        → (child : Linked) × (slice_get nodes place ≡ Some child) × PointsTo (cut parent (i + 1)) child
    into place (inl before) =
        let child = are.into place before in (child.0, child.1, more child.0 (inl child.2.named) child.2.lower)
    into place (inr now) =
        (found.0, at_along nodes p place found.0 now found.1, more found.0 (inr (sym found.2.0)) found.2.1)

    all : (place : ℕ) (child : Linked) → slice_get nodes place ≡ Some child → PointsTo (cut parent (i + 1)) child
        → Contains (take i parent.children) child.address ⊎ (address ≡ child.address)
        → Contains (places ++ p ∷ []) place
    all place child at points (inl before) =
        Contains-append_left places (p ∷ []) place
        (are.all place child at (record { named = before; lower = points.lower }))
    all place child at points (inr now) =
        let same = one_place (λ (n : Linked). n.address) nodes up p place found.0 child found.1 at (found.2.0 ∙ now) in
        subst (λ k. Contains (places ++ p ∷ []) k) same (Contains-push places p)
