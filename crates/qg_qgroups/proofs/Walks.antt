-- The groups above a group, found from the least on, and the subvolumes below it, found from the greatest on.
use Rattle.std.proofs.Common.{◌≡◌, ℕ, ◌<◌, ◌≤◌, Bool, true, false, List, [], ◌∷◌, ◌++◌, sym, ap, subst, ◌∙◌, arith, inl}
use Rattle.std.proofs.Common.{inr, ◌⊎◌}
use Rattle.std.specs.Prelude.{◌&&◌, ◌||◌, ◌==◌, not}
use Rattle.std.specs.List.{filter}
use Rattle.std.specs.List.Sorted.{IsStrictlySortedBy}
use Rattle.std.specs.BTreeSet.{BTreeSet}
use Rattle.std.specs.Ordering.{nat_cmp}
use Rattle.std.proofs.lemmas.Bool.{cases_Bool, true≢false}
use Rattle.std.proofs.lemmas.Bool.Decides.{nat_tests}
use Rattle.qg_machine.specs.Members.{Hierarchy, is_below, level_of_group, members}
use Rattle.qg_machine.specs.GroupChange.{has_pair}
use Rattle.qg_qgroups.specs.Groups.{IsSound, groups_above, has_number, is_kept}
use Rattle.qg_qgroups.specs.Kept.{AreKept, AreSubvolumes, IsLastAbove, seen}
use Rattle.qg_qgroups.proofs.Chains.{Rises, below_first, below_itself, below_last, below_more, below_step}
use Rattle.qg_qgroups.proofs.Lists.{both_true, same_tests}
use Rattle.qg_qgroups.proofs.Order.{first_least, has_end, has_filter, has_first, now_has, same_numbers, sorted_end}
use Rattle.qg_qgroups.proofs.Order.{sorted_filter, sorted_none, still_has}
use Rattle.qg_qgroups.proofs.Related.{and_both, level_less, or_cases, or_left, or_right}
use Rattle.qg_qgroups.proofs.Sets.{number_is}

pub rising : (hierarchy : Hierarchy) → IsSound hierarchy → Rises hierarchy.pairs
rising hierarchy sound a b has = level_less a b (sound.rising a b has)

-- ---- a set with one number

-- a set that was empty has one number
abbrev pub HasOne : ℕ → List ℕ → Type 0
HasOne n numbers = (other : ℕ) → has_number other numbers ≡ ((n == other) || false)

one_is : (n other : ℕ) (numbers : List ℕ) → HasOne n numbers → has_number other numbers ≡ true → n ≡ other
one_is n other numbers one has = elim (or_cases (n == other) false (sym (one other) ∙ has)) [
  | inl here ↦ number_is n other here
  | inr none ↦ absurd (true≢false (sym none))
]

one_has : (n : ℕ) (numbers : List ℕ) → HasOne n numbers → has_number n numbers ≡ true
one_has n numbers one = one n ∙ or_left (n == n) false (grind (arith, nat_tests))

-- ---- upwards

-- what is found ascends and is less than all that is pending; both are kept groups above the group; and each group
-- above it is found, or above one that is pending
pub record Climbs (hierarchy : Hierarchy) (group : ℕ) (above : List ℕ) (pending : List ℕ) : Type 0 where
  pub ordered : IsStrictlySortedBy nat_cmp pending
  pub ascend : IsStrictlySortedBy nat_cmp above
  pub before : (a n : ℕ) → has_number a above ≡ true → has_number n pending ≡ true → a < n
  pub kept : (n : ℕ) → has_number n pending ≡ true → is_kept hierarchy n ≡ true
  pub found_kept : (n : ℕ) → has_number n above ≡ true → is_kept hierarchy n ≡ true
  pub below : (n : ℕ) → has_number n pending ≡ true → is_below hierarchy.pairs group n ≡ true
  pub found_below : (n : ℕ) → has_number n above ≡ true → is_below hierarchy.pairs group n ≡ true
  pub all : (to : ℕ) → is_below hierarchy.pairs group to ≡ true → (has_number to above ≡ true)
      ⊎ ((n : ℕ) × (has_number n pending ≡ true) × (is_below hierarchy.pairs n to ≡ true))

pub climb_begin : (hierarchy : Hierarchy) (group : ℕ) (pending : List ℕ) → is_kept hierarchy group ≡ true
    → IsStrictlySortedBy nat_cmp pending → HasOne group pending → Climbs hierarchy group [] pending
climb_begin hierarchy group pending kept ordered one = record {
  ordered = ordered;
  ascend = sorted_none;
  before = λ a n none has. absurd (true≢false (sym none));
  kept = λ n has. subst (λ (m : ℕ). is_kept hierarchy m ≡ true) (one_is group n pending one has) kept;
  found_kept = λ n none. absurd (true≢false (sym none));
  below = λ n has. subst (λ (m : ℕ). is_below hierarchy.pairs group m ≡ true) (one_is group n pending one has)
      (below_itself hierarchy.pairs group);
  found_below = λ n none. absurd (true≢false (sym none));
  all = λ to below. inr (group, one_has group pending one, below);
}

-- all that is pending then is greater
pub climb_less : (hierarchy : Hierarchy) (group next : ℕ) (above pending rest more : List ℕ) → IsSound hierarchy
    → Climbs hierarchy group above pending → pending ≡ next ∷ rest
    → ((n : ℕ) → has_number n more ≡ (has_number n rest || has_pair next n hierarchy.pairs)) → (n : ℕ)
    → has_number n more ≡ true → next < n
climb_less hierarchy group next above pending rest more sound climbs is has n here =
    elim (or_cases (has_number n rest) (has_pair next n hierarchy.pairs) (sym (has n) ∙ here)) [
      | inl old ↦ first_least next rest (subst (λ (ns : List ℕ). IsStrictlySortedBy nat_cmp ns) is climbs.ordered) n old
      | inr parent ↦ rising hierarchy sound next n parent
    ]

-- the least that is pending is found, and its parents are pending
pub climb_more : (hierarchy : Hierarchy) (group next : ℕ) (above pending rest more : List ℕ) → IsSound hierarchy
    → Climbs hierarchy group above pending → pending ≡ next ∷ rest
    → ((n : ℕ) → has_number n more ≡ (has_number n rest || has_pair next n hierarchy.pairs))
    → IsStrictlySortedBy nat_cmp more → Climbs hierarchy group (above ++ next ∷ []) more
climb_more hierarchy group next above pending rest more sound climbs is has ordered =
    let there : has_number next pending ≡ true = ap (λ (ns : List ℕ). has_number next ns) is ∙ has_first next rest in
    let below_next = climbs.below next there in
    let was : (n : ℕ) → has_number n rest ≡ true → has_number n pending ≡ true =
    λ n here. ap (λ (ns : List ℕ). has_number n ns) is ∙ or_right (next == n) (has_number n rest) here in
    let now : (n : ℕ) → has_number n more ≡ true → (has_number n rest ≡ true)
    ⊎ (has_pair next n hierarchy.pairs ≡ true) =
    λ n here. or_cases (has_number n rest) (has_pair next n hierarchy.pairs) (sym (has n) ∙ here) in
    let stays : (n : ℕ) → has_number n rest ≡ true → has_number n more ≡ true = λ n here. has n
    ∙ or_left (has_number n rest) (has_pair next n hierarchy.pairs) here in
    let comes : (n : ℕ) → has_pair next n hierarchy.pairs ≡ true → has_number n more ≡ true = λ n here. has n
    ∙ or_right (has_number n rest) (has_pair next n hierarchy.pairs) here in
    let least = climb_less hierarchy group next above pending rest more sound climbs is has in
    record {
      ordered = ordered;
      ascend = sorted_end next above climbs.ascend (λ n here. climbs.before n next here there);
      before = λ a n found here. elim (has_end a next above found) [
        | inl old ↦ let less : a < next = climbs.before a next old there in omega (arith, less, least n here)
        | inr same ↦ subst (λ (m : ℕ). m < n) same (least n here)
      ];
      kept = λ n here. elim (now n here) [
        | inl old ↦ climbs.kept n (was n old)
        | inr parent ↦ sound.parents next n parent
      ];
      found_kept = λ n found. elim (has_end n next above found) [
        | inl old ↦ climbs.found_kept n old
        | inr same ↦ subst (λ (m : ℕ). is_kept hierarchy m ≡ true) same (climbs.kept next there)
      ];
      below = λ n here. elim (now n here) [
        | inl old ↦ climbs.below n (was n old)
        | inr parent ↦ below_more hierarchy.pairs (rising hierarchy sound) group next n below_next parent
      ];
      found_below = λ n found. elim (has_end n next above found) [
        | inl old ↦ climbs.found_below n old
        | inr same ↦ subst (λ (m : ℕ). is_below hierarchy.pairs group m ≡ true) same below_next
      ];
      all = λ to below. elim (climbs.all to below) [
        | inl old ↦ inl (still_has to next above old)
        | inr from ↦ elim (or_cases (next == from.0) (has_number from.0 rest)
            (ap (λ (ns : List ℕ). has_number from.0 ns) (sym is) ∙ from.1)) [
              | inl here ↦ elim (below_first hierarchy.pairs (rising hierarchy sound) from.0 to from.2) [
                | inl same ↦ inl (subst (λ (m : ℕ). has_number m (above ++ next ∷ []) ≡ true)
                    (number_is next from.0 here
                    ∙ same) (now_has next above))
                | inr parent ↦ inr (
                  parent.0,
                  comes parent.0
                      (ap (λ (m : ℕ). has_pair m parent.0 hierarchy.pairs) (number_is next from.0 here) ∙ parent.1),
                  parent.2,
                )
              ]
              | inr old ↦ inr (from.0, stays from.0 old, from.2)
            ]
      ];
    }

pub climb_end : (hierarchy : Hierarchy) (group : ℕ) (above pending : List ℕ) → IsSound hierarchy
    → Climbs hierarchy group above pending → pending ≡ [] → above ≡ groups_above hierarchy group
unfolding groups_above
climb_end hierarchy group above pending sound climbs is =
    same_numbers above (filter (λ n. is_below hierarchy.pairs group n) hierarchy.groups) climbs.ascend
    (sorted_filter (λ n. is_below hierarchy.pairs group n) hierarchy.groups sound.groups)
    (λ n. same_tests (has_number n above)
    (has_number n (filter (λ n. is_below hierarchy.pairs group n) hierarchy.groups)) (there n) (back n)) where
      there : (n : ℕ) → has_number n above ≡ true
          → has_number n (filter (λ n. is_below hierarchy.pairs group n) hierarchy.groups) ≡ true
      there n found = has_filter (λ n. is_below hierarchy.pairs group n) n hierarchy.groups
          ∙ and_both (is_below hierarchy.pairs group n) (is_kept hierarchy n) (climbs.found_below n found)
          (climbs.found_kept n found)

      back : (n : ℕ) → has_number n (filter (λ n. is_below hierarchy.pairs group n) hierarchy.groups) ≡ true
          → has_number n above ≡ true
      back n passes =
          let parts = both_true (is_below hierarchy.pairs group n) (is_kept hierarchy n)
          (sym (has_filter (λ n. is_below hierarchy.pairs group n) n hierarchy.groups) ∙ passes) in
          elim (climbs.all n parts.0) [
            | inl found ↦ found
            | inr from ↦ absurd (true≢false (sym from.1 ∙ ap (λ (ns : List ℕ). has_number from.0 ns) is))
          ]

-- ---- downwards

-- what is pending are kept groups below the group; and each subvolume below it is below one that is pending
pub record Descends (hierarchy : Hierarchy) (group : ℕ) (pending : List ℕ) : Type 0 where
  pub ordered : IsStrictlySortedBy nat_cmp pending
  pub kept : (n : ℕ) → has_number n pending ≡ true → is_kept hierarchy n ≡ true
  pub below : (n : ℕ) → has_number n pending ≡ true → is_below hierarchy.pairs n group ≡ true
  pub all : (sub : ℕ) → level_of_group sub ≡ 0 → is_below hierarchy.pairs sub group ≡ true
      → (n : ℕ) × (has_number n pending ≡ true) × (is_below hierarchy.pairs sub n ≡ true)

pub descend_begin : (hierarchy : Hierarchy) (group : ℕ) (pending : List ℕ) → is_kept hierarchy group ≡ true
    → IsStrictlySortedBy nat_cmp pending → HasOne group pending → Descends hierarchy group pending
descend_begin hierarchy group pending kept ordered one = record {
  ordered = ordered;
  kept = λ n has. subst (λ (m : ℕ). is_kept hierarchy m ≡ true) (one_is group n pending one has) kept;
  below = λ n has. subst (λ (m : ℕ). is_below hierarchy.pairs m group ≡ true) (one_is group n pending one has)
      (below_itself hierarchy.pairs group);
  all = λ sub level below. (group, one_has group pending one, below);
}

-- the numbers without the last, and those of its members
abbrev pub HasStepped : Hierarchy → ℕ → List ℕ → List ℕ → Type 0
HasStepped hierarchy last pending more = (n : ℕ)
    → has_number n more ≡ ((not (last == n) && has_number n pending) || has_pair n last hierarchy.pairs)

-- all that is pending then is less
pub stepped_less : (hierarchy : Hierarchy) (last : ℕ) (pending more : List ℕ) → IsSound hierarchy
    → IsLastAbove pending last → HasStepped hierarchy last pending more
    → (n : ℕ) → has_number n more ≡ true → n < last
stepped_less hierarchy last pending more sound is has n here =
    elim (or_cases (not (last == n) && has_number n pending) (has_pair n last hierarchy.pairs) (sym (has n) ∙ here)) [
      | inl old ↦
          let parts = both_true (not (last == n)) (has_number n pending) old in
          let apart : (last == n) ≡ false = elim (cases_Bool (last == n)) [
            | inl same ↦ absurd (true≢false (sym parts.0 ∙ ap not same))
            | inr h ↦ h
          ] in
          let le : n ≤ last = is.greatest n parts.1 in
          less_apart apart le
      | inr member ↦ rising hierarchy sound n last member
    ] where
      less_apart : {a b : ℕ} → (a == b) ≡ false → b ≤ a → b < a
      less_apart {a} {b} apart le = grind (arith, nat_tests)

pub descend_more : (hierarchy : Hierarchy) (group last : ℕ) (pending more : List ℕ) → IsSound hierarchy
    → Descends hierarchy group pending → IsLastAbove pending last
    → HasStepped hierarchy last pending more → IsStrictlySortedBy nat_cmp more → Descends hierarchy group more
descend_more hierarchy group last pending more sound descends is has ordered =
    let now : (n : ℕ) → has_number n more ≡ true → (has_number n pending ≡ true)
    ⊎ (has_pair n last hierarchy.pairs ≡ true) =
    λ n here. elim (or_cases (not (last == n) && has_number n pending) (has_pair n last hierarchy.pairs) (sym (has n)
    ∙ here)) [
      | inl old ↦ inl (both_true (not (last == n)) (has_number n pending) old).1
      | inr member ↦ inr member
    ] in
    let comes : (n : ℕ) → has_pair n last hierarchy.pairs ≡ true → has_number n more ≡ true =
    λ n member. has n ∙ or_right (not (last == n) && has_number n pending) (has_pair n last hierarchy.pairs) member in
    record {
      ordered = ordered;
      kept = λ n here. elim (now n here) [
        | inl old ↦ descends.kept n old
        | inr member ↦ sound.members n last member
      ];
      below = λ n here. elim (now n here) [
        | inl old ↦ descends.below n old
        | inr member ↦ below_step_of n member
      ];
      all = λ sub level below.
          let from = descends.all sub level below in
          elim (cases_Bool (last == from.0)) [
            | inl here ↦ elim (below_last hierarchy.pairs (rising hierarchy sound) sub from.0 from.2) [
              | inl same ↦ absurd (omega (
                arith,
                is.above,
                level,
                ap level_of_group (number_is last from.0 here
                    ∙ sym same),
              ))
              | inr member ↦ (
                member.0,
                comes member.0
                    (ap (λ (m : ℕ). has_pair member.0 m hierarchy.pairs) (number_is last from.0 here)
                    ∙ member.2),
                member.1,
              )
            ]
            | inr apart ↦ (
              from.0,
              has from.0 ∙ or_left (not (last == from.0) && has_number from.0 pending)
                  (has_pair from.0 last hierarchy.pairs) (and_both (not (last == from.0)) (has_number from.0 pending)
                  (ap not apart) from.1),
              from.2,
            )
          ];
    } where
      below_step_of : (n : ℕ) → has_pair n last hierarchy.pairs ≡ true → is_below hierarchy.pairs n group ≡ true
      below_step_of n member = below_step hierarchy.pairs (rising hierarchy sound) n last group member
          (descends.below last is.there)

pub descend_end : (hierarchy : Hierarchy) (group : ℕ) (pending : List ℕ) → IsSound hierarchy
    → Descends hierarchy group pending → AreSubvolumes pending → pending ≡ members hierarchy group
unfolding members
descend_end hierarchy group pending sound descends subvolumes =
    same_numbers pending (filter test hierarchy.groups) descends.ordered
    (sorted_filter test hierarchy.groups sound.groups)
    (λ n. same_tests (has_number n pending) (has_number n (filter test hierarchy.groups)) (there n) (back n)) where
      test : ℕ → Bool
      test n = (level_of_group n == 0) && is_below hierarchy.pairs n group

      is_zero : (n : ℕ) → n ≡ 0 → (n == 0) ≡ true
      is_zero n none = grind (arith, nat_tests)

      there : (n : ℕ) → has_number n pending ≡ true → has_number n (filter test hierarchy.groups) ≡ true
      there n found =
          has_filter test n hierarchy.groups ∙ and_both (test n) (is_kept hierarchy n)
          (and_both (level_of_group n == 0) (is_below hierarchy.pairs n group)
          (is_zero (level_of_group n) (subvolumes n found)) (descends.below n found)) (descends.kept n found)

      back : (n : ℕ) → has_number n (filter test hierarchy.groups) ≡ true → has_number n pending ≡ true
      back n passes =
          let parts = both_true (test n) (is_kept hierarchy n) (sym (has_filter test n hierarchy.groups) ∙ passes) in
          let told = both_true (level_of_group n == 0) (is_below hierarchy.pairs n group) parts.0 in
          let level = number_is (level_of_group n) 0 told.0 in
          let from = descends.all n level told.1 in
          elim (below_last hierarchy.pairs (rising hierarchy sound) n from.0 from.2) [
            | inl same ↦ ap (λ (m : ℕ). has_number m pending) same ∙ from.1
            | inr member ↦ absurd (omega (arith, sound.rising member.0 from.0 member.2, subvolumes from.0 from.1))
          ]

-- ---- what the sets that are kept say of the hierarchy

pub seen_sound : (groups : BTreeSet ℕ) (up down : BTreeSet (ℕ × ℕ)) (hierarchy : Hierarchy) → AreKept groups up down
    → seen groups up ≡ hierarchy → IsSound hierarchy
seen_sound groups up down hierarchy kept is = subst IsSound is kept.sound

pub seen_kept : (groups : BTreeSet ℕ) (up : BTreeSet (ℕ × ℕ)) (hierarchy : Hierarchy) (number group : ℕ)
    → seen groups up ≡ hierarchy → number ≡ group → has_number number groups.keys ≡ true
    → is_kept hierarchy group ≡ true
seen_kept groups up hierarchy number group is same has =
    subst (λ (h : Hierarchy). is_kept h group ≡ true) is (subst (λ (n : ℕ). has_number n groups.keys ≡ true) same has)

pub has_one : (number group : ℕ) (old new : List ℕ) → number ≡ group → old ≡ []
    → ((other : ℕ) → has_number other new ≡ ((number == other) || has_number other old)) → HasOne group new
has_one number group old new same empty has other =
    has other ∙ ap (λ (ns : List ℕ). (number == other) || has_number other ns) empty
    ∙ ap (λ (n : ℕ). (n == other) || false) same

-- the set with the parents of a group
pub with_parents : (groups : BTreeSet ℕ) (up : BTreeSet (ℕ × ℕ)) (hierarchy : Hierarchy) (next : ℕ) (rest more : List ℕ)
    → seen groups up ≡ hierarchy
    → ((n : ℕ) → has_number n more ≡ (has_number n rest || has_pair next n up.keys)) → (n : ℕ)
    → has_number n more ≡ (has_number n rest || has_pair next n hierarchy.pairs)
with_parents groups up hierarchy next rest more is has n = has n
    ∙ ap (λ (h : Hierarchy). has_number n rest || has_pair next n h.pairs) is

-- the set without the last number, with its members
pub with_members : (groups : BTreeSet ℕ) (up down : BTreeSet (ℕ × ℕ)) (hierarchy : Hierarchy) (last : ℕ)
    (pending rest more : List ℕ) → AreKept groups up down → seen groups up ≡ hierarchy
    → ((n : ℕ) → has_number n rest ≡ (not (last == n) && has_number n pending))
    → ((n : ℕ) → has_number n more ≡ (has_number n rest || has_pair last n down.keys))
    → HasStepped hierarchy last pending more
with_members groups up down hierarchy last pending rest more kept is left has n =
    has n ∙ ap (λ (b : Bool). b || has_pair last n down.keys) (left n)
    ∙ ap (λ (b : Bool). (not (last == n) && has_number n pending) || b) (kept.turned n last)
    ∙ ap (λ (h : Hierarchy). (not (last == n) && has_number n pending) || has_pair n last h.pairs) is
