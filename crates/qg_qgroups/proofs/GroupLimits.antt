-- The limits that are set for groups, by the groups and by what is set.
use Rattle.std.proofs.Common.{◌≡◌, ℕ, ◌+◌, ◌<◌, Bool, true, false, List, length, take, Option, Some, None, refl, sym}
use Rattle.std.proofs.Common.{ap, ◌∙◌, inl, inr, get_or, unwrap_or}
use Rattle.std.specs.Prelude.{◌==◌, if◌then◌else◌}
use Rattle.std.specs.List.Sorted.{IsStrictlySortedBy}
use Rattle.std.specs.Option.{option_map}
use Rattle.std.specs.Ordering.{nat_cmp}
use Rattle.std.proofs.lemmas.Bool.{cases_Bool, cond-false, cond-true, eq-eqb}
use Rattle.qg_num.specs.declared.counters.Which.{Which}
use Rattle.qg_num.specs.declared.counters.Which.TheVariants.{Rfer, Excl}
use Rattle.qg_image.specs.Table.{keys_of, value_at, with_value, without_key}
use Rattle.qg_image.specs.declared.quota.Group.{Group}
use Rattle.qg_machine.specs.GroupChange.{with_limit}
use Rattle.qg_qgroups.specs.declared.limits.Maxima.{Maxima}
use Rattle.qg_qgroups.specs.Limit.{IsSetAt, maxima_at, no_maxima, with_max}
use Rattle.qg_qgroups.specs.Tracked.{limits_by, limits_in}
use Rattle.qg_qgroups.proofs.Tables.{next-front, value-left, value-made, value-put}

-- the limits of one group are what is found of it
told : (groups : List (ℕ × Group)) (m : ℕ)
    → maxima_at (limits_by groups) m ≡ unwrap_or (option_map limits_in (value_at m groups)) no_maxima
told groups m = ap (λ (o : Option Maxima). unwrap_or o no_maxima) (value-made limits_in m groups)

told_choice : (b : Bool) (here other : Option Group)
    → unwrap_or (option_map limits_in (if b then here else other)) no_maxima
    ≡ (if b then unwrap_or (option_map limits_in here) no_maxima else unwrap_or (option_map limits_in other) no_maxima)
told_choice true here other = refl
told_choice false here other = refl

-- of a group that is put the limits are its own, and those of all others stay
pub limits-put : (n : ℕ) (group : Group) (groups : List (ℕ × Group))
    → IsSetAt (limits_by groups) (limits_by (with_value n group groups)) n (limits_in group)
limits-put n group groups m =
    told (with_value n group groups) m ∙ ap (λ (o : Option Group). unwrap_or (option_map limits_in o) no_maxima)
    (value-put n group groups m)
    ∙ told_choice (m == n) (Some group) (value_at m groups) ∙ ap (λ (x : Maxima). if m == n then limits_in group else x)
    (sym (told groups m))

-- of a group that is taken away there are none
pub limits-left : (n : ℕ) (groups : List (ℕ × Group))
    → IsSetAt (limits_by groups) (limits_by (without_key n groups)) n no_maxima
limits-left n groups m =
    told (without_key n groups) m ∙ ap (λ (o : Option Group). unwrap_or (option_map limits_in o) no_maxima)
    (value-left n groups m)
    ∙ told_choice (m == n) None (value_at m groups) ∙ ap (λ (x : Maxima). if m == n then no_maxima else x)
    (sym (told groups m))

-- what is set as the limits of the groups are stays so, where the same is set in both
pub set-both-ways : (old new old_by new_by : List (ℕ × Maxima)) (n : ℕ) (both : Maxima)
    → ((m : ℕ) → maxima_at old m ≡ maxima_at old_by m) → IsSetAt old new n both
    → IsSetAt old_by new_by n both → (m : ℕ) → maxima_at new m ≡ maxima_at new_by m
set-both-ways old new old_by new_by n both same set set_by m =
    set m ∙ ap (λ (x : Maxima). if m == n then both else x) (same m) ∙ sym (set_by m)

-- one limit and then the other are both
pub set-twice : (old between new : List (ℕ × Maxima)) (n : ℕ) (rfer excl : Option ℕ)
    → IsSetAt old between n (with_max Rfer rfer (maxima_at old n))
    → IsSetAt between new n (with_max Excl excl (maxima_at between n))
    → IsSetAt old new n (record { rfer = rfer; excl = excl })
set-twice old between new n rfer excl first second m = elim (cases_Bool (m == n)) [
  | inl here ↦
      second m ∙ cond-true _ _ _ here
      ∙ ap (λ (x : Maxima). record { rfer = x.rfer; excl = excl }) (first n ∙ cond-true _ _ _ (same_number n))
      ∙ sym (cond-true _ _ _ here)
  | inr apart ↦ second m ∙ cond-false _ _ _ apart ∙ first m ∙ cond-false _ _ _ apart ∙ sym (cond-false _ _ _ apart)
] where
  same_number : (k : ℕ) → (k == k) ≡ true
  same_number k = eq-eqb k k refl

-- a group with another limit has it, and its other one
pub limit-in : (which : Which) (max : Option ℕ) (group : Group)
    → limits_in (with_limit which max group) ≡ with_max which max (limits_in group)
limit-in Rfer max group = refl
limit-in Excl max group = refl

-- the limits of a group that is found
pub limits-found : (groups : List (ℕ × Group)) (n : ℕ) (group : Group) → value_at n groups ≡ Some group
    → maxima_at (limits_by groups) n ≡ limits_in group
limits-found groups n group found = told groups n
    ∙ ap (λ (o : Option Group). unwrap_or (option_map limits_in o) no_maxima) found

-- one group more of those whose limits are set
pub limits-next : (groups : List (ℕ × Group)) (i : ℕ) (one : ℕ × Group) (old new : List (ℕ × Maxima))
    → IsStrictlySortedBy nat_cmp (keys_of groups) → i < length groups
    → one ≡ get_or groups i one → ((m : ℕ) → maxima_at old m ≡ maxima_at (limits_by (take i groups)) m)
    → IsSetAt old new one.0 (limits_in one.1)
    → (m : ℕ) → maxima_at new m ≡ maxima_at (limits_by (take (i + 1) groups)) m
limits-next groups i one old new ascend inside is same set m =
    set-both-ways old new (limits_by (take i groups)) (limits_by (with_value one.0 one.1 (take i groups))) one.0
    (limits_in one.1) same set
    (limits-put one.0 one.1 (take i groups)) m
    ∙ ap (λ (front : List (ℕ × Group)). maxima_at (limits_by front) m) (next-front groups i one ascend inside is)
