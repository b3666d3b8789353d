-- What portions that tell a layout count of a group's members is the group's direct count.
use Rattle.std.proofs.Common.{◌≡◌, ℕ, zero, suc, ◌+◌, ◌<◌, ◌≤◌, Bool, true, false, not, List, [], ◌∷◌, length, Option}
use Rattle.std.proofs.Common.{Some, None, refl, sym, ap, subst, ◌∙◌, arith, ◌⊎◌, inl, inr}
use Rattle.std.specs.Prelude.{◌==◌, ◌&&◌, slice_get}
use Rattle.std.specs.List.{Contains, filter, flat_map, list_any}
use Rattle.std.proofs.lemmas.Bool.{cases_Bool, cases_eq, eq-eqb, eqb-true, ne_eqb}
use Rattle.std.proofs.lemmas.Bool.Decides.{eqb_tells}
use Rattle.std.proofs.lemmas.List.{get_or-map}
use Rattle.std.proofs.lemmas.Option.{get_or_from_slice_get}
use Rattle.qg_image.specs.Table.{keys_of, value_at}
use Rattle.qg_image.specs.declared.element.Element.{Element}
use Rattle.qg_image.specs.State.{Layout}
use Rattle.qg_image.specs.Reach.{reach, reach_of, reaches}
use Rattle.qg_image.specs.Members.{Hierarchy, members, is_member}
use Rattle.qg_image.specs.Counts.{bytes_of, reach_of_group, referenced, exclusive, is_reached_outside, direct_count}
use Rattle.qg_image.proofs.Contained.{none_contained}
use Rattle.qg_reach.specs.Sets.{HaveSame}
use Rattle.qg_reach.proofs.Distinct.{apart_same, bytes_of_distinct}
use Rattle.qg_reach.proofs.Members.{contains_flat_map, contains_map, one_flat_mapped, one_mapped}
use Rattle.qg_owner_rule.proofs.Listed.{index_of}
use Rattle.qg_owner_rule.proofs.Reaching.{entry_of_value}
use Rattle.qg_qgroup_counts.specs.Sets.{row_of}
use Rattle.qg_qgroup_counts.specs.declared.counting.Portion.{Portion}
use Rattle.qg_qgroup_counts.specs.AllReached.{AreAllReached}
use Rattle.qg_qgroup_counts.specs.Portions.{given, bytes_where, row_has, member_count}
use Rattle.qg_qgroup_counts.specs.Telling.{IsPortionOf}
use Rattle.qg_qgroup_counts.specs.Groups.{passing_count, meets, is_within, counted_for}
use Rattle.qg_qgroup_counts.specs.Laws.{GroupsAreDirect, number_at}
use Rattle.qg_qgroup_counts.proofs.SetWeights.{given_is, given_not, count_first, count_suc, counters_same}
use Rattle.qg_qgroup_counts.proofs.Hits.{passed_first, passed_suc}
use Rattle.qg_qgroup_counts.proofs.Filtered.{passed, passes, apart-passed, same-passed, passes-both}
use Rattle.qg_qgroup_counts.proofs.Beginning.{there, found, at_address, distinct-passed}
use Rattle.qg_qgroup_counts.proofs.PortionBytes.{contained-at, there-at, any-there, any-of, both-true, and-true}
use Rattle.qg_qgroup_counts.proofs.PortionBytes.{not-differs}
use Rattle.qg_qgroup_counts.proofs.PortionBytes.{differs-not, same-bool, contains-at, sum-is}

-- ---- how many members pass

module _ (test : ℕ → Bool) (row : List ℕ) where
  -- one that passes counts
  some-passes : (bound i : ℕ) → i < bound → (row_has row i && test i) ≡ true → 1 ≤ passing_count test row bound
  some-passes zero i less is = absurd (omega (arith, less))
  some-passes (suc bound) i less is = elim (eqb_tells i bound) [
    | inl (equal, same) ↦
        let one =
        given_is (row_has row bound && test bound) 1 (ap (λ j. row_has row j && test j) (sym same) ∙ is) in
        omega (arith, one, passed_suc test row bound)
    | inr (unequal, differ) ↦
        let rest = some-passes bound i (omega (arith, less, differ)) is in
        omega (arith, rest, passed_suc test row bound)
  ]

  -- what counts passes
  one-passes : (bound : ℕ) → 1 ≤ passing_count test row bound
      → (i : ℕ) × (i < bound) × ((row_has row i && test i) ≡ true)
  one-passes zero some = absurd (omega (arith, some, passed_first test row))
  one-passes (suc bound) some = elim (cases_Bool (row_has row bound && test bound)) [
    | inl is ↦ (bound, omega arith, is)
    | inr none ↦
        let no = given_not (row_has row bound && test bound) 1 none in
        let rest = one-passes bound (omega (arith, some, no, passed_suc test row bound)) in
        (rest.0, omega (arith, rest.1), rest.2)
  ]

one-of-two : (a b : Bool) → given (a && b) 1 + given (a && not b) 1 ≡ given a 1
one-of-two true true = omega (arith, given_not false 1 refl)
one-of-two true false = omega (arith, given_not false 1 refl)
one-of-two false b = omega (arith, given_not false 1 refl)

-- those that pass and those that don't are all members
both-count : (test : ℕ → Bool) (row : List ℕ) (n : ℕ)
    → passing_count test row n + passing_count (λ i. not (test i)) row n ≡ member_count row n
both-count test row zero =
    omega (arith, passed_first test row, passed_first (λ i. not (test i)) row, count_first row)
both-count test row (suc n) =
    omega (
      arith,
      passed_suc test row n,
      passed_suc (λ i. not (test i)) row n,
      count_suc row n,
      one-of-two (row_has row n) (test n),
      both-count test row n,
    )

-- all pass exactly where none does not
none-left : (some others all : ℕ) → some + others ≡ all → (some == all) ≡ not (not (others == 0))
none-left some others all is = by (cases_eq others 0) where
  by : (others ≡ 0) ⊎ (others ≡ 0 → ⊥) → (some == all) ≡ not (not (others == 0))
  by (inl none) = eq-eqb some all (omega (arith, is, none)) ∙ sym (ap (λ b. not (not b)) (eq-eqb others 0 none))
  by (inr left) =
      ne_eqb some all (λ same. left (omega (arith, is, same))) ∙ sym (ap (λ b. not (not b)) (ne_eqb others 0 left))

-- ---- tests that agree

passing-same : (test other : ℕ → Bool) (row : List ℕ) (n : ℕ) → ((i : ℕ) → i < n → test i ≡ other i)
    → passing_count test row n ≡ passing_count other row n
passing-same test other row zero same = passed_first test row ∙ sym (passed_first other row)
passing-same test other row (suc n) same =
    let here = ap (λ b. given (row_has row n && b) 1) (same n (omega arith)) in
    omega (
      arith,
      here,
      passed_suc test row n,
      passed_suc other row n,
      passing-same test other row n (λ i less. same i (omega (arith, less))),
    )

bytes-same : (test other : ℕ → Bool) (portions : List Portion) → ((set : ℕ) → test set ≡ other set)
    → bytes_where test portions ≡ bytes_where other portions
unfolding bytes_where
bytes-same test other [] same = refl
bytes-same test other (portion ∷ portions) same =
    let here = ap (λ b. given b portion.bytes) (same portion.set) in
    omega (arith, here, bytes-same test other portions same)

-- tests that agree on all subvolumes count the same
pub counted-same : (rows : List (List ℕ)) (subvolumes : ℕ) (portions : List Portion) (test other : ℕ → Bool)
    → ((i : ℕ) → i < subvolumes → test i ≡ other i)
    → counted_for rows subvolumes portions test ≡ counted_for rows subvolumes portions other
counted-same rows subvolumes portions test other same =
    counters_same (counted_for rows subvolumes portions test) (counted_for rows subvolumes portions other)
    (bytes-same (meets test rows subvolumes) (meets other rows subvolumes) portions
    (λ set. ap (λ n. not (n == 0)) (passing-same test other (row_of rows set) subvolumes same)))
    (bytes-same (is_within test rows subvolumes) (is_within other rows subvolumes) portions
    (λ set. ap (λ n. not (n == 0) && (n == member_count (row_of rows set) subvolumes))
    (passing-same test other (row_of rows set) subvolumes same)))

-- ---- who reaches an element

-- the number of a subvolume at an index
pub number-is : (roots : List (ℕ × ℕ)) (index : ℕ) (root : ℕ × ℕ) → slice_get roots index ≡ Some root
    → number_at roots index ≡ root.0
number-is roots index root at =
    get_or-map (λ (e : ℕ × ℕ). e.0) roots index root 0 (contained-at roots index root at)
    ∙ ap (λ (e : ℕ × ℕ). e.0) (get_or_from_slice_get roots index root root at)

module _ (layout : Layout) (rows : List (List ℕ)) (element : Element) (portion : Portion)
    (told : IsPortionOf layout rows element portion) where
  abbrev row : List ℕ
  row = row_of rows portion.set

  abbrev many : ℕ
  many = length layout.roots

  -- a set meets those that are chosen exactly where one of them reaches the element
  meets-is : (chosen : ℕ → Bool) → meets (λ i. chosen (number_at layout.roots i)) rows (length layout.roots) portion.set
      ≡ list_any (λ sub. chosen sub && reaches layout sub element.address) (keys_of layout.roots)
  meets-is chosen =
      same-bool (meets (λ i. chosen (number_at layout.roots i)) rows (length layout.roots) portion.set)
      (list_any (λ sub. chosen sub && reaches layout sub element.address) (keys_of layout.roots)) into back
    where
      into : not (passing_count (λ i. chosen (number_at layout.roots i)) row many == 0) ≡ true
          → list_any (λ sub. chosen sub && reaches layout sub element.address) (keys_of layout.roots) ≡ true
      into is =
          let some = not-differs (passing_count (λ i. chosen (number_at layout.roots i)) row many) 0 is in
          let one = one-passes (λ i. chosen (number_at layout.roots i)) row many (omega (arith, some)) in
          let root = there-at layout.roots one.0 one.1 in
          let both = both-true (row_has row one.0) (chosen (number_at layout.roots one.0)) one.2 in
          any-of (λ sub. chosen sub && reaches layout sub element.address) (keys_of layout.roots) root.0.0
          (contains_map (λ (e : ℕ × ℕ). e.0) layout.roots root.0 (contains-at layout.roots one.0 root.0 root.1))
          (and-true (chosen root.0.0) (reaches layout root.0.0 element.address)
          (ap chosen (sym (number-is layout.roots one.0 root.0 root.1)) ∙ both.1)
          (sym (told.reached one.0 root.0 root.1) ∙ both.0))

      back : list_any (λ sub. chosen sub && reaches layout sub element.address) (keys_of layout.roots) ≡ true
          → not (passing_count (λ i. chosen (number_at layout.roots i)) row many == 0) ≡ true
      back is =
          let sub = any-there (λ sub. chosen sub && reaches layout sub element.address) (keys_of layout.roots) is in
          let root = one_mapped (λ (e : ℕ × ℕ). e.0) layout.roots sub.0 sub.1 in
          let place = index_of layout.roots root.0 root.1 in
          let both = both-true (chosen sub.0) (reaches layout sub.0 element.address) sub.2 in
          let member =
          told.reached place.0 root.0 place.1 ∙ ap (λ (n : ℕ). reaches layout n element.address) root.2 ∙ both.1 in
          let is_chosen = ap chosen (number-is layout.roots place.0 root.0 place.1 ∙ root.2) ∙ both.0 in
          let some =
          some-passes (λ i. chosen (number_at layout.roots i)) row many place.0
          (contained-at layout.roots place.0 root.0 place.1)
          (and-true (row_has row place.0) (chosen (number_at layout.roots place.0)) member is_chosen) in
          differs-not (passing_count (λ i. chosen (number_at layout.roots i)) row many) 0
          (λ none. omega (arith, some, none))

  -- it lies within them where no other reaches it besides
  within-is : (chosen : ℕ → Bool)
      → is_within (λ i. chosen (number_at layout.roots i)) rows (length layout.roots) portion.set
      ≡ (list_any (λ sub. chosen sub && reaches layout sub element.address) (keys_of layout.roots)
      && not (list_any (λ sub. not (chosen sub) && reaches layout sub element.address) (keys_of layout.roots)))
  within-is chosen =
      ap (λ b. meets (λ i. chosen (number_at layout.roots i)) rows (length layout.roots) portion.set && b)
      (none-left (passing_count (λ i. chosen (number_at layout.roots i)) row many)
      (passing_count (λ i. not (chosen (number_at layout.roots i))) row many) (member_count row many)
      (both-count (λ i. chosen (number_at layout.roots i)) row many))
      ∙ ap (λ b. b && not (meets (λ i. not (chosen (number_at layout.roots i))) rows (length layout.roots) portion.set))
      (meets-is chosen)
      ∙ ap (λ b. list_any (λ sub. chosen sub && reaches layout sub element.address) (keys_of layout.roots) && not b)
      (meets-is (λ sub. not (chosen sub)))

-- ---- a group

module _ (layout : Layout) (hierarchy : Hierarchy) (elements : List Element) (group : ℕ)
    (reached : AreAllReached layout elements) where
  -- some member reaches it, and nobody else does
  abbrev met_at : ℕ → Bool
  met_at address = list_any (λ sub. is_member hierarchy group sub && reaches layout sub address) (keys_of layout.roots)

  abbrev own_at : ℕ → Bool
  own_at address = not (is_reached_outside layout hierarchy group address)

  abbrev both_at : ℕ → Bool
  both_at address = met_at address && own_at address

  abbrev met : List Element
  met = flat_map (reach layout) (members hierarchy group)

  -- who reaches something is a subvolume
  subvolume-there : (sub : ℕ) (e : Element) → Contains (reach layout sub) e → Contains (keys_of layout.roots) sub
  unfolding reach
  subvolume-there sub e has = by (value_at sub layout.roots) refl has where
    by : (value : Option ℕ) → value_at sub layout.roots ≡ value → Contains (reach_of layout value) e
        → Contains (keys_of layout.roots) sub
    by None is none = absurd (none_contained e none)
    by (Some root) is some =
        contains_map (λ (entry : ℕ × ℕ). entry.0) layout.roots (sub, root) (entry_of_value sub root layout.roots is)

  -- what members reach are those of the elements that one of them reaches
  same-met : HaveSame met (filter (at_address met_at) elements)
  same-met = record { into = into; back = back } where
    into : (e : Element) → Contains met e → Contains (filter (at_address met_at) elements) e
    into e has =
        let sub = one_flat_mapped (reach layout) (members hierarchy group) e has in
        let member = any-of (λ one. one == sub.0) (members hierarchy group) sub.0 sub.1 (eq-eqb sub.0 sub.0 refl) in
        passes (at_address met_at) elements e (reached.all sub.0 e sub.2)
        (any-of (λ one. is_member hierarchy group one && reaches layout one e.address) (keys_of layout.roots) sub.0
        (subvolume-there sub.0 e sub.2)
        (and-true (is_member hierarchy group sub.0) (reaches layout sub.0 e.address) member
        (there (reach layout sub.0) e sub.2)))

    back : (e : Element) → Contains (filter (at_address met_at) elements) e → Contains met e
    back e has =
        let left = passed (at_address met_at) elements e has in
        let sub =
        any-there (λ one. is_member hierarchy group one && reaches layout one e.address)
        (keys_of layout.roots) left.1 in
        let both = both-true (is_member hierarchy group sub.0) (reaches layout sub.0 e.address) sub.2 in
        let one = found (reach layout sub.0) e.address both.1 in
        let same = apart_same elements one.0 e reached.apart (reached.all sub.0 one.0 one.1) left.0 one.2 in
        let member = any-there (λ m. m == sub.0) (members hierarchy group) both.0 in
        contains_flat_map (reach layout) (members hierarchy group) sub.0 e
        (subst (λ (n : ℕ). Contains (members hierarchy group) n) (eqb-true member.0 sub.0 member.2) member.1)
        (subst (λ z. Contains (reach layout sub.0) z) same one.1)

  referenced-met : referenced layout hierarchy group ≡ bytes_of (filter (at_address met_at) elements)
  unfolding referenced reach_of_group
  referenced-met =
      bytes_of_distinct met (filter (at_address met_at) elements)
      (apart-passed (at_address met_at) elements reached.apart)
      same-met

  both-right : (a b : Bool) → a ≡ true → (a && b) ≡ b
  both-right true b is = refl
  both-right false b wrong = absurd cc

  both-wrong : (a b : Bool) → a ≡ false → (a && b) ≡ false
  both-wrong false b is = refl
  both-wrong true b wrong = absurd cc

  exclusive-met : exclusive layout hierarchy group ≡ bytes_of (filter (at_address both_at) elements)
  unfolding exclusive reach_of_group
  exclusive-met =
      ap bytes_of (distinct-passed own_at met)
      ∙ bytes_of_distinct (filter (at_address own_at) met)
      (filter (at_address own_at) (filter (at_address met_at) elements))
      (apart-passed (at_address own_at) (filter (at_address met_at) elements)
      (apart-passed (at_address met_at) elements reached.apart))
      (same-passed (at_address own_at) met (filter (at_address met_at) elements) same-met)
      ∙ ap bytes_of (passes-both (at_address met_at) (at_address own_at) (at_address both_at) elements
      (λ e has is. both-right (met_at e.address) (own_at e.address) is)
      (λ e has is. both-wrong (met_at e.address) (own_at e.address) is))

  outside-is : (address : ℕ) → is_reached_outside layout hierarchy group address
      ≡ list_any (λ sub. not (is_member hierarchy group sub) && reaches layout sub address) (keys_of layout.roots)
  unfolding is_reached_outside
  outside-is address = refl

  met-told : (rows : List (List ℕ)) (element : Element) (portion : Portion) → IsPortionOf layout rows element portion
      → meets (λ i. is_member hierarchy group (number_at layout.roots i)) rows (length layout.roots) portion.set
      ≡ met_at element.address
  met-told rows element portion told = meets-is layout rows element portion told (λ sub. is_member hierarchy group sub)

  both-told : (rows : List (List ℕ)) (element : Element) (portion : Portion) → IsPortionOf layout rows element portion
      → is_within (λ i. is_member hierarchy group (number_at layout.roots i)) rows (length layout.roots) portion.set
      ≡ both_at element.address
  both-told rows element portion told =
      within-is layout rows element portion told (λ sub. is_member hierarchy group sub)
      ∙ ap (λ b. met_at element.address && not b) (sym (outside-is element.address))

-- the counters of a group's members are its direct count
pub groups-direct : GroupsAreDirect
groups-direct layout hierarchy rows elements portions group up reached are =
    counters_same
    (counted_for rows (length layout.roots) portions (λ i. is_member hierarchy group (number_at layout.roots i)))
    (direct_count layout hierarchy group)
    (sum-is layout rows
    (meets (λ i. is_member hierarchy group (number_at layout.roots i)) rows (length layout.roots))
    (at_address (met_at layout hierarchy elements group reached)) elements portions are
    (met-told layout hierarchy elements group reached rows)
    ∙ sym (referenced-met layout hierarchy elements group reached))
    (sum-is layout rows
    (is_within (λ i. is_member hierarchy group (number_at layout.roots i)) rows (length layout.roots))
    (at_address (both_at layout hierarchy elements group reached)) elements portions are
    (both-told layout hierarchy elements group reached rows)
    ∙ sym (exclusive-met layout hierarchy elements group reached))
