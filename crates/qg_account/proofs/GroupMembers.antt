-- Who is a member of which group, by relations.
use Rattle.std.proofs.Common.{◌≡◌, ℕ, ◌+◌, ◌<◌, Bool, true, false, List, [], ◌∷◌, length, get_or, take, refl, sym}
use Rattle.std.proofs.Common.{ap}
use Rattle.std.proofs.Common.{subst, ◌∙◌, arith, inl, inr}
use Rattle.std.specs.Prelude.{◌==◌, ◌&&◌, ◌||◌}
use Rattle.std.specs.List.{filter, list_any}
use Rattle.std.proofs.lemmas.Bool.{and_from, and_left, and_parts, and_right, cond-false, eq-eqb, eqb-true, true≢false}
use Rattle.std.proofs.lemmas.List.{take_more}
use Rattle.std.proofs.lemmas.List.Folds.{list_any-append}
use Rattle.qg_image.specs.Members.{Hierarchy, is_below, is_member, level_of_group, members}
use Rattle.qg_qgroups.specs.Groups.{IsSound, groups_above, has_number, is_kept}
use Rattle.qg_qgroups.proofs.Chains.{below_itself, below_last}
use Rattle.qg_qgroups.proofs.HierarchyChanges.{member_is_below}
use Rattle.qg_qgroups.proofs.Lists.{filter_same}
use Rattle.qg_qgroups.proofs.Order.{has_filter}
use Rattle.qg_qgroups.proofs.Walks.{rising}
use Rattle.qg_qgroup_counts.proofs.PortionBytes.{any-of, any-there, same-bool}
use Rattle.qg_account.specs.Laws.{OnlyGroupsAbove}
use Rattle.qg_account.specs.Standing.{groups_with}
use Rattle.qg_account.proofs.PivotOwners.{others-keep}

-- ---- who is a member

member-is : (hierarchy : Hierarchy) (group sub : ℕ)
    → is_member hierarchy group sub
    ≡ (((level_of_group sub == 0) && is_below hierarchy.pairs sub group) && is_kept hierarchy sub)
unfolding members
member-is hierarchy group sub =
    has_filter (λ n. (level_of_group n == 0) && is_below hierarchy.pairs n group) sub hierarchy.groups

-- the level is 0, a chain leads to the group, and the own group is kept
member-parts : (hierarchy : Hierarchy) (group sub : ℕ) → is_member hierarchy group sub ≡ true
    → (level_of_group sub ≡ 0) × (is_below hierarchy.pairs sub group ≡ true) × (is_kept hierarchy sub ≡ true)
member-parts hierarchy group sub is =
    let whole =
    and_parts ((level_of_group sub == 0) && is_below hierarchy.pairs sub group) (is_kept hierarchy sub)
    (sym (member-is hierarchy group sub) ∙ is) in
    let both = and_parts (level_of_group sub == 0) (is_below hierarchy.pairs sub group) whole.0 in
    (eqb-true (level_of_group sub) 0 both.0, both.1, whole.1)

-- without a group of its own a subvolume is a member of none
lone : (hierarchy : Hierarchy) (group sub : ℕ) → is_kept hierarchy sub ≡ false → is_member hierarchy group sub ≡ false
lone hierarchy group sub none =
    member-is hierarchy group sub
    ∙ and_right ((level_of_group sub == 0) && is_below hierarchy.pairs sub group) (is_kept hierarchy sub) none

-- nor is what has another level
higher : (hierarchy : Hierarchy) (group sub : ℕ) → (level_of_group sub == 0) ≡ false
    → is_member hierarchy group sub ≡ false
higher hierarchy group sub other =
    member-is hierarchy group sub
    ∙ and_left ((level_of_group sub == 0) && is_below hierarchy.pairs sub group) (is_kept hierarchy sub)
    (and_left (level_of_group sub == 0) (is_below hierarchy.pairs sub group) other)

-- a kept group of level 0 has its own subvolume as its only member
pub own-only : (hierarchy : Hierarchy) (group sub : ℕ) → IsSound hierarchy → is_kept hierarchy group ≡ true
    → level_of_group group ≡ 0 → is_member hierarchy group sub ≡ (sub == group)
own-only hierarchy group sub sound kept level =
    same-bool (is_member hierarchy group sub) (sub == group) into back
  where
    into : is_member hierarchy group sub ≡ true → (sub == group) ≡ true
    into is = elim (below_last hierarchy.pairs (rising hierarchy sound) sub group
        (member-parts hierarchy group sub is).1) [
          | inl same ↦ eq-eqb sub group same
          | inr last ↦ let less = sound.rising last.0 group last.2 in absurd (omega (arith, less, level))
        ]

    back : (sub == group) ≡ true → is_member hierarchy group sub ≡ true
    back is =
        subst (λ (n : ℕ). is_member hierarchy group n ≡ true) (sym (eqb-true sub group is))
        (member_is_below hierarchy group group kept level ∙ below_itself hierarchy.pairs group)

-- ---- the groups of a subvolume

filter-none : (test : ℕ → Bool) (xs : List ℕ) → ((x : ℕ) → test x ≡ false) → filter test xs ≡ []
filter-none test [] none = refl
filter-none test (x ∷ xs) none =
    cond-false (test x) (x ∷ filter test xs) (filter test xs) (none x) ∙ filter-none test xs none

pub groups-above : (hierarchy : Hierarchy) (sub : ℕ) → is_kept hierarchy sub ≡ true → level_of_group sub ≡ 0
    → groups_above hierarchy sub ≡ groups_with hierarchy sub
unfolding groups_above
groups-above hierarchy sub kept level =
    filter_same (λ above. is_below hierarchy.pairs sub above) (λ group. is_member hierarchy group sub)
    (λ group. sym (member_is_below hierarchy group sub kept level)) hierarchy.groups

pub groups-lone : (hierarchy : Hierarchy) (sub : ℕ) → is_kept hierarchy sub ≡ false → groups_with hierarchy sub ≡ []
groups-lone hierarchy sub none =
    filter-none (λ group. is_member hierarchy group sub) hierarchy.groups (λ group. lone hierarchy group sub none)

pub groups-higher : (hierarchy : Hierarchy) (sub : ℕ) → (level_of_group sub == 0) ≡ false
    → groups_with hierarchy sub ≡ []
groups-higher hierarchy sub other =
    filter-none (λ group. is_member hierarchy group sub) hierarchy.groups (λ group. higher hierarchy group sub other)

-- a group is among them where it is kept and has the subvolume as a member
pub group-with : (hierarchy : Hierarchy) (group sub : ℕ)
    → has_number group (groups_with hierarchy sub) ≡ (is_member hierarchy group sub && is_kept hierarchy group)
group-with hierarchy group sub = has_filter (λ one. is_member hierarchy one sub) group hierarchy.groups

pub kept-with : (hierarchy : Hierarchy) (group sub : ℕ) → is_kept hierarchy group ≡ true
    → has_number group (groups_with hierarchy sub) ≡ is_member hierarchy group sub
kept-with hierarchy group sub kept =
    group-with hierarchy group sub ∙ ap (λ (b : Bool). is_member hierarchy group sub && b) kept
    ∙ and_true (is_member hierarchy group sub)
  where
    and_true : (b : Bool) → (b && true) ≡ b
    and_true true = refl
    and_true false = refl

-- ---- the groups of some subvolumes

-- these numbers are those of the kept groups that have one of some subvolumes as a member
abbrev pub AreGroupsOf : Hierarchy → List ℕ → List ℕ → Type 0
AreGroupsOf hierarchy subs numbers = (group : ℕ) → has_number group numbers
    ≡ (list_any (is_member hierarchy group) subs && is_kept hierarchy group)

one-more : (member had kept : Bool)
    → ((member && kept) || (had && kept)) ≡ ((had || (member || false)) && kept)
one-more true true true = refl
one-more true true false = refl
one-more true false true = refl
one-more true false false = refl
one-more false true true = refl
one-more false true false = refl
one-more false false true = refl
one-more false false false = refl

pub candidates-more : (hierarchy : Hierarchy) (subs : List ℕ) (i group : ℕ) (had has : Bool) → i < length subs
    → had ≡ (list_any (is_member hierarchy group) (take i subs) && is_kept hierarchy group)
    → has ≡ (has_number group (groups_with hierarchy (get_or subs i 0)) || had)
    → has ≡ (list_any (is_member hierarchy group) (take (i + 1) subs) && is_kept hierarchy group)
candidates-more hierarchy subs i group had has short before is =
    let member = is_member hierarchy group in
    let sub = get_or subs i 0 in
    is ∙ ap (λ (b : Bool). b || had) (group-with hierarchy group sub)
    ∙ ap (λ (b : Bool). (member sub && is_kept hierarchy group) || b) before
    ∙ one-more (member sub) (list_any member (take i subs)) (is_kept hierarchy group)
    ∙ ap (λ (b : Bool). b && is_kept hierarchy group)
    (sym (ap (list_any member) (take_more subs i 0 short) ∙ list_any-append member (take i subs) (sub ∷ [])))

-- ---- groups above

above-has : (hierarchy : Hierarchy) (sub group : ℕ) → is_below hierarchy.pairs sub group ≡ true
    → is_kept hierarchy group ≡ true → has_number group (groups_above hierarchy sub) ≡ true
unfolding groups_above
above-has hierarchy sub group below kept =
    has_filter (λ above. is_below hierarchy.pairs sub above) group hierarchy.groups
    ∙ and_from (is_below hierarchy.pairs sub group) (has_number group hierarchy.groups) below kept

pub only-groups-above : OnlyGroupsAbove
only-groups-above hierarchy group change counters subs kept are none =
    others-keep (is_member hierarchy group) change counters subs are
    (by (list_any (is_member hierarchy group) subs) refl)
  where
    by : (b : Bool) → list_any (is_member hierarchy group) subs ≡ b → b ≡ false
    by false is = refl
    by true is =
        let one = any-there (is_member hierarchy group) subs is in
        absurd (true≢false (sym (any-of (λ sub. has_number group (groups_above hierarchy sub)) subs one.0 one.1
        (above-has hierarchy one.0 group (member-parts hierarchy group one.0 one.2).1 kept)) ∙ none))
