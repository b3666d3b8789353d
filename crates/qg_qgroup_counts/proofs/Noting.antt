-- Indices of nodes in the lists of the extents that they name, one extent and one node after the other.
use Rattle.std.proofs.Common.{◌≡◌, ◌≢◌, ℕ, ◌+◌, ◌<◌, ◌≤◌, List, [], ◌∷◌, ◌++◌, length, map, take, get_or, set, Some}
use Rattle.std.proofs.Common.{None, Result, Ok, Err}
use Rattle.std.proofs.Common.{IfOk, sym, ap, subst, ◌∙◌, arith, ◌⊎◌, inl, inr, ◌↔◌}
use Rattle.std.specs.Prelude.{slice_get}
use Rattle.std.specs.List.{Contains}
use Rattle.std.specs.List.Sorted.{IsStrictlyIncreasing, IsSearchInRange, IsBinarySearchResult}
use Rattle.std.specs.Ordering.{nat_cmp}
use Rattle.std.proofs.lemmas.Cmp.{ranked}
use Rattle.std.proofs.lemmas.Bool.{cases_eq}
use Rattle.std.proofs.lemmas.Option.{slice_get_within, slice_get_cases}
use Rattle.qg_image.specs.declared.element.Element.{Element}
use Rattle.qg_owner_rule.specs.Places.{StandsAt, AreOthers}
use Rattle.qg_owner_rule.proofs.Listed.{All-at, at_along, at_one, front_more_cases, in_front_more}
use Rattle.qg_owner_rule.proofs.Ascending.{one_place}
use Rattle.qg_qgroup_counts.specs.Above.{AreEmpty, list_at}
use Rattle.qg_qgroup_counts.proofs.Turning.{push_cases, push_keeps, push_there}
use Rattle.qg_qgroup_counts.specs.Groups.{AreWithin}
use Rattle.qg_qgroup_counts.specs.declared.surveyed.Surveyed.{Surveyed}
use Rattle.qg_qgroup_counts.specs.Namers.{AreNamers, HasAtMost, HasNoted}

-- ---- a search

-- what a search finds has the number, in whatever order they stand
pub searched : {X : Type 0} (number : X → ℕ) (xs : List X) (n : ℕ) (r : Result ℕ ℕ) → IsSearchInRange r (length xs)
    → IsBinarySearchResult (λ x. nat_cmp (number x) n) xs r → IfOk r (λ place. StandsAt number xs n place)
searched number xs n (Err at) inside found = tt
searched {X} number xs n (Ok at) inside found = there (slice_get_cases xs at).1 where
  there : ((x : X) × (at < length xs) × (slice_get xs at ≡ Some x) × (get_or xs at x ≡ x))
      ⊎ ((length xs ≤ at) × (slice_get xs at ≡ None)) → StandsAt number xs n at
  there (inl some) = (some.0, some.2, sym (ap number some.3) ∙ ranked _ n _ (sym (found some.0)))
  there (inr none) = absurd (omega (arith, inside, none.0))

-- ---- one extent after the other

pub most_same : (index : ℕ) (lists : List (List ℕ)) → HasAtMost index lists lists
most_same index lists place other has = inl has

pub noted_none : (extents : List Element) (named : List ℕ) (index : ℕ) (lists : List (List ℕ))
    → HasNoted extents (take 0 named) index lists lists
noted_none extents named index lists place other extent there = (inl, back) where
  back : Contains (list_at lists place) other ⊎ (Contains (take 0 named) extent.address × (index ≡ other))
      → Contains (list_at lists place) other
  back (inl has) = has
  back (inr wrong) = absurd (omega (arith, wrong.0.1))

module _ (extents : List Element) (named : List ℕ) (i address : ℕ) (short : i < length named)
    (is : address ≡ get_or named i address) (index : ℕ) (old mid : List (List ℕ)) where
  earlier : (other : ℕ) (extent : Element) (had : Type 0)
      → had ⊎ (Contains (take i named) extent.address × (index ≡ other))
      → had ⊎ (Contains (take (i + 1) named) extent.address × (index ≡ other))
  earlier other extent had (inl has) = inl has
  earlier other extent had (inr more) =
      inr (in_front_more named i address extent.address short is (inl more.0), more.1)

  -- an address where no extent begins
  pub noted_other : AreOthers (λ (extent : Element). extent.address) extents address
      → HasNoted extents (take i named) index old mid → HasNoted extents (take (i + 1) named) index old mid
  noted_other absent noted place other extent there =
      (λ has. earlier other extent (Contains (list_at old place) other) ((noted place other extent there).0 has), back)
    where
      by : Contains (take i named) extent.address ⊎ (address ≡ extent.address) → index ≡ other
          → Contains (list_at mid place) other
      by (inl before) same = (noted place other extent there).1 (inr (before, same))
      by (inr now) same =
          absurd (All-at (λ (e : Element). e.address ≢ address) extents place extent absent there (sym now))

      back : Contains (list_at old place) other ⊎ (Contains (take (i + 1) named) extent.address × (index ≡ other))
          → Contains (list_at mid place) other
      back (inl has) = (noted place other extent there).1 (inl has)
      back (inr more) = by (front_more_cases named i address extent.address short is more.0) more.1

  module _ (at : ℕ) (inside : at < length mid) where
    abbrev new : List (List ℕ)
    new = set mid at (get_or mid at [] ++ index ∷ [])

    pub most_more : HasAtMost index old mid → HasAtMost index old (set mid at (get_or mid at [] ++ index ∷ []))
    most_more most place other has = by (push_cases mid at index inside place other has) where
      by : Contains (list_at mid place) other ⊎ ((at ≡ place) × (index ≡ other))
          → Contains (list_at old place) other ⊎ (index ≡ other)
      by (inl has') = most place other has'
      by (inr here) = inr here.1

    pub noted_more : IsStrictlyIncreasing (map (λ (extent : Element). extent.address) extents)
        → StandsAt (λ (extent : Element). extent.address) extents address at
        → HasNoted extents (take i named) index old mid
        → HasNoted extents (take (i + 1) named) index old (set mid at (get_or mid at [] ++ index ∷ []))
    noted_more up stands noted place other extent there =
        (λ has. into (push_cases mid at index inside place other has), back)
      where
        into : Contains (list_at mid place) other ⊎ ((at ≡ place) × (index ≡ other))
            → Contains (list_at old place) other ⊎ (Contains (take (i + 1) named) extent.address × (index ≡ other))
        into (inl has) = earlier other extent (Contains (list_at old place) other)
            ((noted place other extent there).0 has)
        into (inr here) =
            let one = at_one extents place stands.0 extent (at_along extents at place stands.0 here.0 stands.1) there in
            inr (
              in_front_more named i address extent.address short is
                  (inr (sym stands.2 ∙ ap (λ (e : Element). e.address) one)),
              here.1,
            )

        by : Contains (take i named) extent.address ⊎ (address ≡ extent.address) → index ≡ other
            → Contains (list_at new place) other
        by (inl before) same =
            push_keeps mid at index inside place other ((noted place other extent there).1 (inr (before, same)))
        by (inr now) same =
            let one = one_place (λ (e : Element). e.address) extents up at place stands.0 extent stands.1 there
            (stands.2 ∙ now) in
            subst (λ k. Contains (list_at new k) other) one
            (subst (Contains (list_at new at)) same (push_there mid at index inside))

        back : Contains (list_at old place) other ⊎ (Contains (take (i + 1) named) extent.address × (index ≡ other))
            → Contains (list_at new place) other
        back (inl has) = push_keeps mid at index inside place other ((noted place other extent there).1 (inl has))
        back (inr more) = by (front_more_cases named i address extent.address short is more.0) more.1

-- ---- one node after the other

-- an extent's list has the indices of those of the first nodes that name it
abbrev pub NamersFirst : List Surveyed → List Element → ℕ → List (List ℕ) → Type 0
NamersFirst nodes extents n lists =
    (place index : ℕ) (extent : Element) → slice_get extents place ≡ Some extent
    → Contains (list_at lists place) index
    ↔ ((index < n) × ((node : Surveyed) × (slice_get nodes index ≡ Some node) × Contains node.extents extent.address))

none_in : (lists : List (List ℕ)) → AreEmpty lists → (place index : ℕ) → Contains (list_at lists place) index → ⊥
none_in lists empty place index has = omega (arith, (subst (λ list. Contains list index) (empty place) has).1)

pub within_none : (lists : List (List ℕ)) → AreEmpty lists → AreWithin 0 lists
within_none lists empty place index has = absurd (none_in lists empty place index has)

pub within_more : (n : ℕ) (old new : List (List ℕ)) → AreWithin n old → HasAtMost n old new → AreWithin (n + 1) new
within_more n old new within most place index has = by (most place index has) where
  by : Contains (list_at old place) index ⊎ (n ≡ index) → index < n + 1
  by (inl had) = let less = within place index had in omega (arith, less)
  by (inr same) = omega (arith, same)

pub within_all : (n bound : ℕ) (lists : List (List ℕ)) → n ≤ bound → AreWithin n lists → AreWithin bound lists
within_all n bound lists le within place index has = let less = within place index has in omega (arith, less, le)

pub namers_none : (nodes : List Surveyed) (extents : List Element) (lists : List (List ℕ)) → AreEmpty lists
    → NamersFirst nodes extents 0 lists
namers_none nodes extents lists empty place index extent there = (
  λ has. absurd (none_in lists empty place index has),
  λ wrong. absurd (omega (arith, wrong.0)),
)

pub namers_more : (nodes : List Surveyed) (extents : List Element) (n : ℕ) (node : Surveyed) (old new : List (List ℕ))
    → slice_get nodes n ≡ Some node → NamersFirst nodes extents n old → HasNoted extents node.extents n old new
    → NamersFirst nodes extents (n + 1) new
namers_more nodes extents n node old new here first noted place index extent there =
    (λ has. into ((noted place index extent there).0 has), λ is. back (cases_eq n index) is.0 is.1)
  where
    Names : Type 0
    Names = (one : Surveyed) × (slice_get nodes index ≡ Some one) × Contains one.extents extent.address

    into : Contains (list_at old place) index ⊎ (Contains node.extents extent.address × (n ≡ index))
        → (index < n + 1) × Names
    into (inl had) = let was = (first place index extent there).0 had in (omega (arith, was.0), was.1)
    into (inr new') =
        (omega (arith, new'.1), (node, subst (λ k. slice_get nodes k ≡ Some node) new'.1 here, new'.0))

    back : (n ≡ index) ⊎ (n ≡ index → ⊥) → index < n + 1 → Names → Contains (list_at new place) index
    back (inl same) less names =
        let one = at_one nodes index names.0 node names.1 (subst (λ k. slice_get nodes k ≡ Some node) same here) in
        (noted place index extent there).1
        (inr (subst (λ (s : Surveyed). Contains s.extents extent.address) one names.2, same))
    back (inr other) less names =
        (noted place index extent there).1
        (inl ((first place index extent there).1 (omega (arith, less, other), names)))

pub namers_all : (nodes : List Surveyed) (extents : List Element) (n : ℕ) (lists : List (List ℕ)) → length nodes ≤ n
    → NamersFirst nodes extents n lists → AreNamers nodes extents lists
namers_all nodes extents n lists all first place index extent there = (
  λ has. ((first place index extent there).0 has).1,
  λ names. let inside = slice_get_within nodes index names.0 names.1 in
      (first place index extent there).1 (omega (arith, inside, all), names),
)
