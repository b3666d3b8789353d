-- Lists of indices, turned: from those that a node points to, to those that point to it.
use Rattle.std.proofs.Common.{◌≡◌, ℕ, ◌+◌, ◌<◌, ◌≤◌, List, [], ◌∷◌, ◌++◌, length, take, get_or, set, Some, sym, ap}
use Rattle.std.proofs.Common.{subst, ◌∙◌, arith, ◌⊎◌, inl, inr, ◌↔◌, get_or-set_same, get_or-set_other}
use Rattle.std.specs.Prelude.{slice_get}
use Rattle.std.specs.List.{All, Contains}
use Rattle.std.proofs.lemmas.Bool.{cases_eq, cases_lt}
use Rattle.std.proofs.lemmas.List.{get_or_past, get_or_default}
use Rattle.std.proofs.lemmas.List.Elements.{Contains-push, Contains-push_cases, Contains-append_left, Contains-get_or}
use Rattle.std.proofs.lemmas.Option.{slice_get_within, slice_get_cases}
use Rattle.qg_owner_rule.specs.declared.linked.Linked.{Linked}
use Rattle.qg_owner_rule.specs.Leading.{PointsTo}
use Rattle.qg_owner_rule.specs.Marks.{AreBelow}
use Rattle.qg_owner_rule.proofs.Listed.{in_front_more, front_more_cases, at_one}
use Rattle.qg_qgroup_counts.specs.Above.{list_at, AreEmpty, HaveOneMore, AreTurned, AreAbove}
use Rattle.qg_qgroup_counts.proofs.Words.{default_more}

pub empty_none : (lists : List (List ℕ)) → lists ≡ [] → AreEmpty lists
empty_none lists is place = ap (λ (ls : List (List ℕ)). get_or ls place []) is ∙ get_or_past [] place [] (omega arith)

pub empty_more : (lists : List (List ℕ)) → AreEmpty lists → AreEmpty (lists ++ [] ∷ [])
empty_more lists empty place = default_more lists [] place ∙ empty place

-- ---- one more in a list

module _ (lists : List (List ℕ)) (at number : ℕ) (inside : at < length lists) where
  abbrev pub pushed : List (List ℕ)
  pushed = set lists at (get_or lists at [] ++ number ∷ [])

  new : get_or pushed at [] ≡ get_or lists at [] ++ number ∷ []
  new = get_or-set_same lists at (get_or lists at [] ++ number ∷ []) [] inside

  pub push_cases : (place n : ℕ) → Contains (list_at pushed place) n
      → Contains (list_at lists place) n ⊎ ((at ≡ place) × (number ≡ n))
  push_cases place n has = cases (cases_eq place at) where
    here : place ≡ at → Contains (list_at lists at) n ⊎ (number ≡ n)
        → Contains (list_at lists place) n ⊎ ((at ≡ place) × (number ≡ n))
    here same (inl old) = inl (subst (λ k. Contains (list_at lists k) n) (sym same) old)
    here same (inr is) = inr (sym same, is)

    cases : (place ≡ at) ⊎ (place ≡ at → ⊥) → Contains (list_at lists place) n ⊎ ((at ≡ place) × (number ≡ n))
    cases (inl same) =
        here same (Contains-push_cases (get_or lists at []) number n
        (subst (λ list. Contains list n) new (subst (λ k. Contains (list_at pushed k) n) same has)))
    cases (inr other) =
        inl (subst (λ list. Contains list n)
        (get_or-set_other lists at place (get_or lists at [] ++ number ∷ []) [] other) has)

  pub push_keeps : (place n : ℕ) → Contains (list_at lists place) n → Contains (list_at pushed place) n
  push_keeps place n has = cases (cases_eq place at) where
    cases : (place ≡ at) ⊎ (place ≡ at → ⊥) → Contains (list_at pushed place) n
    cases (inl same) =
        subst (λ k. Contains (list_at pushed k) n) (sym same)
        (subst (λ list. Contains list n) (sym new)
        (Contains-append_left (get_or lists at []) (number ∷ []) n
        (subst (λ k. Contains (list_at lists k) n) same has)))
    cases (inr other) =
        subst (λ list. Contains list n)
        (sym (get_or-set_other lists at place (get_or lists at [] ++ number ∷ []) [] other)) has

  pub push_there : Contains (list_at pushed at) number
  push_there = subst (λ list. Contains list number) (sym new) (Contains-push (get_or lists at []) number)

pub one_more_none : (places : List ℕ) (number : ℕ) (lists : List (List ℕ))
    → HaveOneMore (take 0 places) number lists lists
one_more_none places number lists place n = (inl, back) where
  back : Contains (list_at lists place) n ⊎ (Contains (take 0 places) place × (number ≡ n))
      → Contains (list_at lists place) n
  back (inl has) = has
  back (inr wrong) = absurd (omega (arith, wrong.0.1))

pub one_more_more : (places : List ℕ) (i at number : ℕ) (old mid : List (List ℕ)) → i < length places
    → at ≡ get_or places i at → at < length mid → HaveOneMore (take i places) number old mid
    → HaveOneMore (take (i + 1) places) number old (set mid at (get_or mid at [] ++ number ∷ []))
one_more_more places i at number old mid short is inside have place n =
    (λ has. into (push_cases mid at number inside place n has), back) where
      earlier : Contains (list_at old place) n ⊎ (Contains (take i places) place × (number ≡ n))
          → Contains (list_at old place) n ⊎ (Contains (take (i + 1) places) place × (number ≡ n))
      earlier (inl has) = inl has
      earlier (inr more) = inr (in_front_more places i at place short is (inl more.0), more.1)

      into : Contains (list_at mid place) n ⊎ ((at ≡ place) × (number ≡ n))
          → Contains (list_at old place) n ⊎ (Contains (take (i + 1) places) place × (number ≡ n))
      into (inl has) = earlier ((have place n).0 has)
      into (inr here) = inr (in_front_more places i at place short is (inr here.0), here.1)

      by : Contains (take i places) place ⊎ (at ≡ place) → number ≡ n
          → Contains (list_at (set mid at (get_or mid at [] ++ number ∷ [])) place) n
      by (inl before) same = push_keeps mid at number inside place n ((have place n).1 (inr (before, same)))
      by (inr now) same =
          subst (λ k. Contains (list_at (set mid at (get_or mid at [] ++ number ∷ [])) k) n) now
          (subst (Contains (list_at (set mid at (get_or mid at [] ++ number ∷ [])) at)) same
          (push_there mid at number inside))

      back : Contains (list_at old place) n ⊎ (Contains (take (i + 1) places) place × (number ≡ n))
          → Contains (list_at (set mid at (get_or mid at [] ++ number ∷ [])) place) n
      back (inl has) = push_keeps mid at number inside place n ((have place n).1 (inl has))
      back (inr more) = by (front_more_cases places i at place short is more.0) more.1

-- ---- all lists turned

-- the first lists are turned
abbrev pub TurnedFirst : ℕ → List (List ℕ) → List (List ℕ) → Type 0
TurnedFirst k below above =
    (place n : ℕ) → Contains (list_at above place) n ↔ ((n < k) × Contains (list_at below n) place)

pub turned_none : (below above : List (List ℕ)) → AreEmpty above → TurnedFirst 0 below above
turned_none below above empty place n = (
  λ has. absurd (omega (arith, (subst (λ list. Contains list n) (empty place) has).1)),
  λ wrong. absurd (omega (arith, wrong.0)),
)

pub turned_more : (k : ℕ) (below old new : List (List ℕ)) → TurnedFirst k below old
    → HaveOneMore (list_at below k) k old new → TurnedFirst (k + 1) below new
turned_more k below old new turned more place n =
    (λ has. into ((more place n).0 has), λ is. by (cases_eq n k) is.0 is.1)
  where
    into : Contains (list_at old place) n ⊎ (Contains (list_at below k) place × (k ≡ n))
        → (n < k + 1) × Contains (list_at below n) place
    into (inl has) = let was = (turned place n).0 has in (omega (arith, was.0), was.1)
    into (inr new') = (omega (arith, new'.1), subst (λ i. Contains (list_at below i) place) new'.1 new'.0)

    by : (n ≡ k) ⊎ (n ≡ k → ⊥) → n < k + 1 → Contains (list_at below n) place → Contains (list_at new place) n
    by (inl same) _ has =
        (more place n).1 (inr (subst (λ i. Contains (list_at below i) place) same has, sym same))
    by (inr other) less has = (more place n).1 (inl ((turned place n).1 (omega (arith, less, other), has)))

pub turned_all : (k : ℕ) (below above : List (List ℕ)) → length below ≤ k → TurnedFirst k below above
    → AreTurned below above
turned_all k below above all turned place n =
    (λ has. ((turned place n).0 has).1, λ has. (turned place n).1 (inside has (cases_lt n (length below)), has)) where
      inside : Contains (list_at below n) place → (n < length below) ⊎ (length below ≤ n) → n < k
      inside has (inl less) = omega (arith, less, all)
      inside has (inr past) =
          absurd (omega (arith, (subst (λ list. Contains list place) (get_or_past below n [] past) has).1))

-- ---- among nodes

module _ (nodes : List Linked) (below : List (List ℕ)) (are : AreBelow nodes below) where
  node_at : (i : ℕ) → i < length nodes → (node : Linked) × (slice_get nodes i ≡ Some node)
  node_at i short = elim ((slice_get_cases nodes i).1) [
    | inl there ↦ (there.0, there.2)
    | inr past ↦ absurd (omega (arith, short, past.0))
  ]

  -- only a node has others below it
  listed : (i place : ℕ) → Contains (list_at below i) place → i < length nodes
  listed i place has = cases (cases_lt i (length below)) where
    cases : (i < length below) ⊎ (length below ≤ i) → i < length nodes
    cases (inl less) = omega (arith, less, are.same)
    cases (inr past) =
        absurd (omega (arith, (subst (λ list. Contains list place) (get_or_past below i [] past) has).1))

  pub below_within : (n : ℕ) → n ≡ length nodes → All (λ places. All (λ place. place < n) places) below
  below_within n same = λ k d short.
      let at = node_at k (omega (arith, short, are.same)) in
      subst (All (λ place. place < n)) (get_or_default below k [] d short)
      (λ j e inner.
      let child = (are.each k at.0 at.1).into (get_or (get_or below k []) j e)
      (Contains-get_or (get_or below k []) j e inner) in
      let inside = slice_get_within nodes (get_or (get_or below k []) j e) child.0 child.1 in
      omega (arith, inside, same))

  pub above_all : (above : List (List ℕ)) → length above ≡ length nodes → AreTurned below above → AreAbove nodes above
  above_all above same turned = record {
    same = same;
    into = λ place child i at has.
        let in' = (turned place i).0 has in
        let parent = node_at i (listed i place in') in
        let found = (are.each i parent.0 parent.1).into place in' in
        (parent.0, parent.1, subst (PointsTo parent.0) (at_one nodes place found.0 child found.1 at) found.2);
    all = λ place child i parent at at' points. (turned place i).1 ((are.each i parent at').all place child at points);
  }
