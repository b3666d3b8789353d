-- The indices of groups, one group and one subvolume after the other.
use Rattle.std.proofs.Common.{◌≡◌, ℕ, ◌+◌, ◌<◌, ◌≤◌, Bool, true, false, not, List, [], ◌∷◌, ◌++◌, length, take, get_or}
use Rattle.std.proofs.Common.{Option, Some, None, Result, Ok, Err, refl, sym, ap}
use Rattle.std.proofs.Common.{subst, ◌∙◌, arith, ◌⊎◌, inl, inr, length-take}
use Rattle.std.specs.Prelude.{◌==◌, ◌&&◌, ◌||◌, slice_get}
use Rattle.std.specs.Bool.{then_some}
use Rattle.std.specs.List.{All, Contains}
use Rattle.std.specs.List.Sorted.{IsBinarySearchResult, IsStrictlyIncreasing}
use Rattle.std.specs.Option.{MatchOption}
use Rattle.std.specs.Ordering.{nat_cmp}
use Rattle.std.specs.Result.{result_ok}
use Rattle.std.proofs.lemmas.Bool.{cases_eq, cases_lt, cases_order, eq-eqb, eqb-true, ne_eqb, true≢false}
use Rattle.std.proofs.lemmas.List.{get_or-append-add, get_or_append_left, get_or_default, get_or_past, get_or-take}
use Rattle.std.proofs.lemmas.List.{length_push, take_all}
use Rattle.std.proofs.lemmas.List.Elements.{All-from_get_or}
use Rattle.std.proofs.lemmas.List.Folds.{list_any-append, list_any_at, list_any_more, list_any_none}
use Rattle.std.proofs.lemmas.List.Kept.{AllPairs-from_increasing}
use Rattle.std.proofs.lemmas.List.Sorted.{searched}
use Rattle.std.proofs.lemmas.Map.Keys.{IsStrictlyIncreasing-from_sorted, sorted_from_strictly_increasing}
use Rattle.std.proofs.lemmas.Option.{get_or_from_slice_get, none-some, slice_get-get_or, slice_get_within}
use Rattle.qg_image.specs.Members.{Hierarchy, is_below, is_member, level_of_group, members}
use Rattle.qg_image.proofs.Contained.{none_contained}
use Rattle.qg_owner_rule.proofs.Listed.{at_along, at_one}
use Rattle.qg_qgroup_counts.specs.Above.{list_at}
use Rattle.qg_qgroup_counts.specs.Groups.{AreWithin}
use Rattle.qg_qgroup_counts.proofs.Members.{or_false}
use Rattle.qg_qgroup_counts.proofs.PortionBytes.{any-of, any-there, there-at}
use Rattle.qg_qgroups.specs.Groups.{groups_above, has_number, is_kept}
use Rattle.qg_qgroups.specs.Faults.{IsCause, no_group}
use Rattle.qg_qgroups.specs.declared.fault.HierFault.{HierFault}
use Rattle.qg_qgroups.specs.declared.fault.HierFault.TheVariants as why
use Rattle.qg_qgroups.proofs.HierarchyChanges.{member_is_below}
use Rattle.qg_qgroups.proofs.Order.{has_end, has_filter, sorted_end}
use Rattle.qg_qgroup_counts.specs.GroupsOf.{AreMemberships, ArePlaces}

pub there_number : (groups : List ℕ) (place group : ℕ) → slice_get groups place ≡ Some group
    → has_number group groups ≡ true
there_number groups place group at =
    list_any_at (λ number. number == group) groups place 0 (slice_get_within groups place group at)
    (eq-eqb (get_or groups place 0) group (get_or_from_slice_get groups place group 0 at))

-- what a search for a group finds
pub found_group : (groups : List ℕ) (group : ℕ) (r : Result ℕ ℕ) (o : Option ℕ) → IsStrictlyIncreasing groups
    → IsBinarySearchResult (λ n. nat_cmp n group) groups r → o ≡ result_ok r
    → MatchOption o (has_number group groups ≡ false) (λ place. slice_get groups place ≡ Some group)
found_group groups group r o up result is =
    subst (λ (place : Option ℕ). MatchOption place (has_number group groups ≡ false)
    (λ at. slice_get groups at ≡ Some group)) (sym is) (by r result) where
      rise : (i j : ℕ) → i ≤ j → j < length groups → get_or groups i 0 ≤ get_or groups j 0
      rise i j le short = elim (cases_eq i j) [
        | inl same ↦ let here = ap (λ k. get_or groups k 0) same in omega (arith, here)
        | inr other ↦
            let less = AllPairs-from_increasing groups up i j 0 (omega (arith, le, other)) short in omega (arith, less)
      ]

      by : (found : Result ℕ ℕ) → IsBinarySearchResult (λ n. nat_cmp n group) groups found
          → MatchOption (result_ok found) (has_number group groups ≡ false) (λ at. slice_get groups at ≡ Some group)
      by (Ok at) told =
          let there = searched groups group (Ok at) told rise in
          slice_get-get_or groups at 0 there.0 ∙ ap Some there.1
      by (Err at) told =
          let absent = searched groups group (Err at) told rise in
          list_any_none (λ number. number == group) groups (λ k d short. other absent k d short (cases_lt k at))
        where
          other : (at ≤ length groups) × ((k : ℕ) → k < at → get_or groups k 0 < group)
              × ((k : ℕ) → at ≤ k → k < length groups → group < get_or groups k 0)
              → (k d : ℕ) → k < length groups → (k < at) ⊎ (at ≤ k) → (get_or groups k d == group) ≡ false
          other absent k d short (inl below) =
              let less = absent.1 k below in
              let same = get_or_default groups k d 0 short in
              ne_eqb (get_or groups k d) group (λ is. omega (arith, is, same, less))
          other absent k d short (inr behind) =
              let more = absent.2 k behind short in
              let same = get_or_default groups k d 0 short in
              ne_eqb (get_or groups k d) group (λ is. omega (arith, is, same, more))

-- ---- one group after the other

module _ (groups : List ℕ) (up : IsStrictlyIncreasing groups) where
  rises : (i j a b : ℕ) → slice_get groups i ≡ Some a → slice_get groups j ≡ Some b → i < j → a < b
  rises i j a b at at' less =
      let here = get_or_from_slice_get groups i a 0 at in
      let there = get_or_from_slice_get groups j b 0 at' in
      let rise = AllPairs-from_increasing groups up i j 0 less (slice_get_within groups j b at') in
      omega (arith, here, there, rise)

  -- the lower of two groups stands first
  stands_first : (i j a b : ℕ) → slice_get groups i ≡ Some a → slice_get groups j ≡ Some b → a < b → i < j
  stands_first i j a b at at' less = by (cases_order i j) where
    by : (i ≡ j) ⊎ ((i < j) ⊎ (j < i)) → i < j
    by (inl is) =
        let same = at_one groups j a b (at_along groups i j a is at) at' in
        absurd (omega (arith, less, same))
    by (inr (inl first)) = first
    by (inr (inr other)) = absurd (omega (arith, less, rises j i b a at' at other))

  -- two groups are one exactly where their indices are
  same_place : (i j a b : ℕ) → slice_get groups i ≡ Some a → slice_get groups j ≡ Some b → (i == j) ≡ (a == b)
  same_place i j a b at at' = by (cases_order i j) where
    apart : (i ≡ j → ⊥) → (a ≡ b → ⊥) → (i == j) ≡ (a == b)
    apart other differ = ne_eqb i j other ∙ sym (ne_eqb a b differ)

    by : (i ≡ j) ⊎ ((i < j) ⊎ (j < i)) → (i == j) ≡ (a == b)
    by (inl is) = eq-eqb i j is ∙ sym (eq-eqb a b (at_one groups j a b (at_along groups i j a is at) at'))
    by (inr (inl less)) =
        let rise = rises i j a b at at' less in
        apart (λ is. omega (arith, is, less)) (λ is. omega (arith, is, rise))
    by (inr (inr more)) =
        let rise = rises j i b a at' at more in
        apart (λ is. omega (arith, is, more)) (λ is. omega (arith, is, rise))

  module _ (above : List ℕ) (up' : IsStrictlyIncreasing above) where
    pub places_none : ArePlaces groups (λ group. has_number group (take 0 above)) []
    places_none = record {
      ascending = λ k short. absurd (omega (arith, short));
      inside = λ place wrong. absurd (true≢false (sym wrong));
      has = λ place group at. refl;
    }

    -- what came before the next one is lower
    front_less : (i group : ℕ) → i < length above → has_number group (take i above) ≡ true → group < get_or above i 0
    front_less i group short has =
        let one = any-there (λ number. number == group) (take i above) has in
        let before : one.1.0 < i = omega (arith, one.1.1, length-take i above, short) in
        let read = get_or-take i above one.1.0 one.0 before in
        let same = get_or_default above one.1.0 one.0 0 (omega (arith, before, short)) in
        let less = AllPairs-from_increasing above up' one.1.0 i 0 before short in
        let is = eqb-true one.0 group one.2 in
        omega (arith, one.1.2, read, same, less, is)

    module _ (i : ℕ) (places : List ℕ) (short : i < length above)
        (are : ArePlaces groups (λ group. has_number group (take i above)) places) where
      -- one that isn't among the groups
      pub places_other : has_number (get_or above i 0) groups ≡ false
          → ArePlaces groups (λ group. has_number group (take (i + 1) above)) places
      places_other absent = record { ascending = are.ascending; inside = are.inside; has = has } where
        has : (place group : ℕ) → slice_get groups place ≡ Some group
            → has_number place places ≡ has_number group (take (i + 1) above)
        has place group at =
            let differ =
            ne_eqb (get_or above i 0) group
            (λ is. true≢false (sym (there_number groups place group at) ∙ ap (λ n. has_number n groups) (sym is)
            ∙ absent))
            in
            are.has place group at
            ∙ sym (list_any_more (λ number. number == group) above i 0 short
            ∙ or_false (has_number group (take i above)) (get_or above i 0 == group) differ)

      -- one that is
      pub places_more : (at : ℕ) → slice_get groups at ≡ Some (get_or above i 0)
          → ArePlaces groups (λ group. has_number group (take (i + 1) above)) (places ++ at ∷ [])
      places_more at stands = record { ascending = ascending; inside = inside; has = has } where
        before : (place : ℕ) → has_number place places ≡ true → place < at
        before place has' =
            let group = slice_get-get_or groups place 0 (are.inside place has') in
            let known = sym (are.has place (get_or groups place 0) group) ∙ has' in
            stands_first place at (get_or groups place 0) (get_or above i 0) group stands
            (front_less i (get_or groups place 0) short known)

        ascending : IsStrictlyIncreasing (places ++ at ∷ [])
        ascending =
            IsStrictlyIncreasing-from_sorted (places ++ at ∷ [])
            (sorted_end at places (sorted_from_strictly_increasing places are.ascending) before)

        inside : (place : ℕ) → has_number place (places ++ at ∷ []) ≡ true → place < length groups
        inside place has' = elim (has_end place at places has') [
          | inl earlier ↦ are.inside place earlier
          | inr is ↦ let within = slice_get_within groups at (get_or above i 0) stands in omega (arith, within, is)
        ]

        has : (place group : ℕ) → slice_get groups place ≡ Some group
            → has_number place (places ++ at ∷ []) ≡ has_number group (take (i + 1) above)
        has place group there =
            list_any-append (λ number. number == place) places (at ∷ [])
            ∙ ap (λ b. has_number place places || b)
            (or_false (at == place) false refl ∙ same_place at place (get_or above i 0) group stands there)
            ∙ ap (λ b. b || (get_or above i 0 == group)) (are.has place group there)
            ∙ sym (list_any_more (λ number. number == group) above i 0 short)

    pub places_all : (i : ℕ) (places : List ℕ) → length above ≤ i
        → ArePlaces groups (λ group. has_number group (take i above)) places
        → ArePlaces groups (λ group. has_number group above) places
    places_all i places past are =
        subst (λ (list : List ℕ). ArePlaces groups (λ group. has_number group list) places) (take_all i above past) are

-- ---- the groups above a subvolume

pub kept_is : (b : Bool) (fault : HierFault) → then_some (not b) fault ≡ None → b ≡ true
kept_is true fault none = refl
kept_is false fault wrong = absurd (none-some fault (sym wrong))

pub lost_is : (b : Bool) → IsCause (then_some (not b) why.NoGroup) why.NoGroup → b ≡ false
lost_is false cause = refl
lost_is true (inl wrong) = absurd cc
lost_is true (inr wrong) = absurd (none-some why.NoGroup wrong)

module _ (hierarchy : Hierarchy) (sub : ℕ) where
  above_has : (group : ℕ) → has_number group hierarchy.groups ≡ true
      → has_number group (groups_above hierarchy sub) ≡ is_below hierarchy.pairs sub group
  unfolding groups_above
  above_has group there =
      has_filter (λ above. is_below hierarchy.pairs sub above) group hierarchy.groups
      ∙ ap (λ (b : Bool). is_below hierarchy.pairs sub group && b) there ∙ and_true (is_below hierarchy.pairs sub group)
    where
      and_true : (b : Bool) → (b && true) ≡ b
      and_true true = refl
      and_true false = refl

  -- a subvolume whose group is kept is a member of the groups above that
  pub above_members : (above places : List ℕ) → is_kept hierarchy sub ≡ true → level_of_group sub ≡ 0
      → above ≡ groups_above hierarchy sub → ArePlaces hierarchy.groups (λ group. has_number group above) places
      → ArePlaces hierarchy.groups (λ group. is_member hierarchy group sub) places
  above_members above places kept level is are = record {
    ascending = are.ascending;
    inside = are.inside;
    has = λ place group at.
        are.has place group at ∙ ap (has_number group) is
        ∙ above_has group (there_number hierarchy.groups place group at)
        ∙ sym (member_is_below hierarchy group sub kept level);
  }

  lone : (group : ℕ) → is_kept hierarchy sub ≡ false → is_member hierarchy group sub ≡ false
  unfolding members
  lone group lost =
      has_filter (λ n. (level_of_group n == 0) && is_below hierarchy.pairs n group) sub hierarchy.groups
      ∙ ap (λ (b : Bool). ((level_of_group sub == 0) && is_below hierarchy.pairs sub group) && b) lost
      ∙ and_false ((level_of_group sub == 0) && is_below hierarchy.pairs sub group)
    where
      and_false : (b : Bool) → (b && false) ≡ false
      and_false true = refl
      and_false false = refl

  -- any other is a member of none
  pub no_members : (groups : List ℕ) → is_kept hierarchy sub ≡ false
      → ArePlaces groups (λ group. is_member hierarchy group sub) []
  no_members groups lost = record {
    ascending = λ k short. absurd (omega (arith, short));
    inside = λ place wrong. absurd (true≢false (sym wrong));
    has = λ place group at. sym (lone group lost);
  }

-- by the group of a number, as a walk of the relations tells it
pub places_kept : (hierarchy : Hierarchy) (sub number : ℕ) (groups above shown places : List ℕ) → number ≡ sub
    → level_of_group sub ≡ 0 → groups ≡ hierarchy.groups → no_group hierarchy number ≡ None
    → above ≡ groups_above hierarchy number → shown ≡ above → ArePlaces groups (λ group. has_number group shown) places
    → ArePlaces groups (λ group. is_member hierarchy group sub) places
places_kept hierarchy sub number groups above shown places same level all there is shows are =
    let kept = ap (is_kept hierarchy) (sym same) ∙ kept_is (is_kept hierarchy number) why.NoGroup there in
    let here = subst (λ (list : List ℕ). ArePlaces list (λ group. has_number group shown) places) all are in
    subst (λ (list : List ℕ). ArePlaces list (λ group. is_member hierarchy group sub) places) (sym all)
    (above_members hierarchy sub shown places kept level (shows ∙ is ∙ ap (groups_above hierarchy) same) here)

pub places_lone : (hierarchy : Hierarchy) (sub number : ℕ) (groups places : List ℕ) → number ≡ sub → places ≡ []
    → IsCause (no_group hierarchy number) why.NoGroup → ArePlaces groups (λ group. is_member hierarchy group sub) places
places_lone hierarchy sub number groups places same none cause =
    subst (ArePlaces groups (λ group. is_member hierarchy group sub)) (sym none)
    (no_members hierarchy sub groups (ap (is_kept hierarchy) (sym same) ∙ lost_is (is_kept hierarchy number) cause))

-- ---- one subvolume after the other

-- the first subvolumes' groups are told
pub record MembershipsFirst (roots : List (ℕ × ℕ)) (hierarchy : Hierarchy) (n : ℕ) (above : List (List ℕ)) : Type
    0 where
  pub most : n ≤ length roots
  pub same : length above ≡ n
  pub each : (index : ℕ) (root : ℕ × ℕ) → index < n → slice_get roots index ≡ Some root
      → ArePlaces hierarchy.groups (λ group. is_member hierarchy group root.0) (list_at above index)

pub memberships_none : (roots : List (ℕ × ℕ)) (hierarchy : Hierarchy) → MembershipsFirst roots hierarchy 0 []
memberships_none roots hierarchy = record {
  most = omega arith;
  same = refl;
  each = λ index root less at. absurd (omega (arith, less));
}

pub memberships_more : (roots : List (ℕ × ℕ)) (hierarchy : Hierarchy) (n : ℕ) (root : ℕ × ℕ) (above : List (List ℕ))
    (places : List ℕ) → slice_get roots n ≡ Some root
    → ArePlaces hierarchy.groups (λ group. is_member hierarchy group root.0) places
    → MembershipsFirst roots hierarchy n above → MembershipsFirst roots hierarchy (n + 1) (above ++ places ∷ [])
memberships_more roots hierarchy n root above places here are first = record {
  most = let short = slice_get_within roots n root here in omega (arith, short);
  same = length_push above places ∙ ap (λ m. m + 1) first.same;
  each = λ index other less at. by index other less at (cases_eq index n);
} where
  last : list_at (above ++ places ∷ []) n ≡ places
  last =
      let end : n ≡ length above + 0 = omega (arith, first.same) in
      ap (λ k. list_at (above ++ places ∷ []) k) end ∙ get_or-append-add above (places ∷ []) 0 []

  by : (index : ℕ) (other : ℕ × ℕ) → index < n + 1 → slice_get roots index ≡ Some other
      → (index ≡ n) ⊎ (index ≡ n → ⊥)
      → ArePlaces hierarchy.groups (λ group. is_member hierarchy group other.0) (list_at (above ++ places ∷ []) index)
  by index other less at (inl is) =
      let one = at_one roots n root other here (at_along roots index n other is at) in
      subst (λ (list : List ℕ). ArePlaces hierarchy.groups (λ group. is_member hierarchy group other.0) list)
      (sym (ap (λ k. list_at (above ++ places ∷ []) k) is ∙ last))
      (subst (λ (r : ℕ × ℕ). ArePlaces hierarchy.groups (λ group. is_member hierarchy group r.0) places) one are)
  by index other less at (inr differ) =
      let short : index < length above = omega (arith, less, differ, first.same) in
      subst (λ (list : List ℕ). ArePlaces hierarchy.groups (λ group. is_member hierarchy group other.0) list)
      (sym (get_or_append_left above (places ∷ []) [] index short))
      (first.each index other (omega (arith, less, differ)) at)

pub memberships_all : (roots : List (ℕ × ℕ)) (hierarchy : Hierarchy) (n : ℕ) (above : List (List ℕ))
    → length roots ≤ n → MembershipsFirst roots hierarchy n above → AreMemberships roots hierarchy above
memberships_all roots hierarchy n above end first = record {
  same = omega (arith, first.same, first.most, end);
  each = λ index root at.
      let short = slice_get_within roots index root at in
      first.each index root (omega (arith, short, end)) at;
}

-- ---- all of them

module _ (roots : List (ℕ × ℕ)) (hierarchy : Hierarchy) (above : List (List ℕ))
    (are : AreMemberships roots hierarchy above) where
  pub above_within : AreWithin (length hierarchy.groups) above
  above_within place index has = by (cases_lt place (length above)) where
    by : (place < length above) ⊎ (length above ≤ place) → index < length hierarchy.groups
    by (inl short) =
        let root = there-at roots place (omega (arith, short, are.same)) in
        (are.each place root.0 root.1).inside index
        (any-of (λ number. number == index) (list_at above place) index has (eq-eqb index index refl))
    by (inr past) =
        absurd (none_contained index
        (subst (λ (list : List ℕ). Contains list index) (get_or_past above place [] past) has))

  pub above_once : All IsStrictlyIncreasing above
  above_once = All-from_get_or IsStrictlyIncreasing above [] each where
    each : (k : ℕ) → k < length above → IsStrictlyIncreasing (get_or above k [])
    each k short =
        let root = there-at roots k (omega (arith, short, are.same)) in
        (are.each k root.0 root.1).ascending
