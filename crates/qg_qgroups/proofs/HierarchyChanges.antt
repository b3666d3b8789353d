-- The hierarchy of a machine's quota: how it changes, and which groups a reservation into a subvolume is judged by.
use Rattle.std.proofs.Common.{◌≡◌, ℕ, Bool, true, false, List, [], ◌∷◌, refl, sym, ap, ◌∙◌, cond, nat_lt}
use Rattle.std.specs.Prelude.{◌&&◌, ◌==◌, not}
use Rattle.std.specs.List.{filter}
use Rattle.std.specs.List.Sorted.{IsStrictlySortedBy}
use Rattle.std.specs.Ordering.{nat_cmp}
use Rattle.qg_machine.specs.Table.{keys_of, with_number, with_value}
use Rattle.qg_machine.specs.Members.{Hierarchy, hierarchy_of, is_below, is_member, level_of_group, members}
use Rattle.qg_machine.specs.Types.{Group}
use Rattle.qg_machine.specs.Types.{Quota}
use Rattle.qg_machine.specs.GroupChange as machine
use Rattle.qg_qgroups.specs.Groups.{IsSound, assigned, created, destroyed, groups_above, is_kept, unassigned}
use Rattle.qg_qgroups.proofs.Lists.{filter_same}
use Rattle.qg_qgroups.proofs.Order.{has_filter, sorted_filter}
use Rattle.qg_qgroups.proofs.Sets.{flipped, number_is}

-- ---- changes

keys_put : (n : ℕ) (group : Group) (entries : List (ℕ × Group))
    → keys_of (with_value n group entries) ≡ with_number n (keys_of entries)
keys_put n group [] = refl
keys_put n group (e ∷ entries) = choice (keys_put n group entries) (nat_lt n e.0) (e.0 == n) (n == e.0) (flipped e.0 n)
    (number_is e.0 n) where
      choice : keys_of (with_value n group entries) ≡ with_number n (keys_of entries) → (less same turned : Bool)
          → same ≡ turned → (same ≡ true → e.0 ≡ n)
          → keys_of (cond less ((n, group) ∷ e ∷ entries)
          (cond same ((n, group) ∷ entries) (e ∷ with_value n group entries)))
          ≡ cond less (n ∷ e.0 ∷ keys_of entries)
          (cond turned (e.0 ∷ keys_of entries) (e.0 ∷ with_number n (keys_of entries)))
      choice rest true same turned is exact = refl
      choice rest false true turned is exact =
          ap (λ (m : ℕ). m ∷ keys_of entries) (sym (exact refl))
          ∙ ap (λ (b : Bool). cond b (e.0 ∷ keys_of entries) (e.0 ∷ with_number n (keys_of entries))) is
      choice rest false false turned is exact =
          ap (λ (ns : List ℕ). e.0 ∷ ns) rest
          ∙ ap (λ (b : Bool). cond b (e.0 ∷ keys_of entries) (e.0 ∷ with_number n (keys_of entries))) is

keys_filter : (p : ℕ → Bool) (entries : List (ℕ × Group))
    → keys_of (filter (λ entry. p entry.0) entries) ≡ filter p (keys_of entries)
keys_filter p [] = refl
keys_filter p (e ∷ entries) = choice (keys_filter p entries) (p e.0) where
  choice : keys_of (filter (λ entry. p entry.0) entries) ≡ filter p (keys_of entries) → (b : Bool)
      → keys_of (cond b (e ∷ filter (λ entry. p entry.0) entries) (filter (λ entry. p entry.0) entries))
      ≡ cond b (e.0 ∷ filter p (keys_of entries)) (filter p (keys_of entries))
  choice rest true = ap (λ (ns : List ℕ). e.0 ∷ ns) rest
  choice rest false = rest

-- a group that is put into the quota is created
pub hierarchy_created : (n : ℕ) (group : Group) (quota : Quota)
    → hierarchy_of (machine.with_group n group quota) ≡ created n (hierarchy_of quota)
hierarchy_created n group quota = ap (λ (groups : List ℕ). record { groups = groups; pairs = quota.pairs })
    (keys_put n group quota.groups)

pub hierarchy_destroyed : (n : ℕ) (quota : Quota)
    → hierarchy_of (machine.destroyed n quota) ≡ destroyed n (hierarchy_of quota)
hierarchy_destroyed n quota =
    ap (λ (groups : List ℕ). record { groups = groups; pairs = filter (λ pair. not (pair.0 == n)) quota.pairs })
    (keys_filter (λ (m : ℕ). not (m == n)) quota.groups)

pub hierarchy_assigned : (member parent : ℕ) (quota : Quota)
    → hierarchy_of (machine.assigned member parent quota) ≡ assigned member parent (hierarchy_of quota)
hierarchy_assigned member parent quota = refl

pub hierarchy_unassigned : (member parent : ℕ) (quota : Quota) → hierarchy_of (machine.unassigned member parent quota)
    ≡ unassigned member parent (hierarchy_of quota)
hierarchy_unassigned member parent quota = refl

-- ---- the groups above

pub above_ascends : (hierarchy : Hierarchy) (group : ℕ) → IsSound hierarchy
    → IsStrictlySortedBy nat_cmp (groups_above hierarchy group)
unfolding groups_above
above_ascends hierarchy group sound =
    sorted_filter (λ above. is_below hierarchy.pairs group above) hierarchy.groups sound.groups

-- a subvolume whose group is kept is a member of a group exactly if its group is below it
pub member_is_below : (hierarchy : Hierarchy) (group sub : ℕ) → is_kept hierarchy sub ≡ true → level_of_group sub ≡ 0
    → is_member hierarchy group sub ≡ is_below hierarchy.pairs sub group
unfolding members
member_is_below hierarchy group sub kept level =
    has_filter (λ n. (level_of_group n == 0) && is_below hierarchy.pairs n group) sub hierarchy.groups
    ∙ ap (λ (n : ℕ). ((n == 0) && is_below hierarchy.pairs sub group) && is_kept hierarchy sub) level
    ∙ ap (λ (b : Bool). is_below hierarchy.pairs sub group && b) kept
    ∙ and_true (is_below hierarchy.pairs sub group) where
      and_true : (b : Bool) → b && true ≡ b
      and_true true = refl
      and_true false = refl

-- the groups that it is a member of are those above its group
pub above_are : (quota : Quota) (sub : ℕ) → is_kept (hierarchy_of quota) sub ≡ true → level_of_group sub ≡ 0
    → keys_of (filter (λ entry. is_member (hierarchy_of quota) entry.0 sub) quota.groups) ≡ groups_above
    (hierarchy_of quota) sub
unfolding groups_above
above_are quota sub kept level =
    keys_filter (λ (group : ℕ). is_member (hierarchy_of quota) group sub) quota.groups
    ∙ filter_same (λ (group : ℕ). is_member (hierarchy_of quota) group sub)
    (λ (group : ℕ). is_below quota.pairs sub group)
    (λ group. member_is_below (hierarchy_of quota) group sub kept level) (keys_of quota.groups)
