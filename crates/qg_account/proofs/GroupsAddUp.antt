-- The counters of all groups, moved along changes one after the other.
use Rattle.std.proofs.Common.{◌≡◌, ℕ, ◌<◌, ◌^◌, List, [], ◌∷◌, map, refl, sym, ap, subst, ◌∙◌}
use Rattle.std.proofs.Common.{zero, suc, Some}
use Rattle.std.specs.Prelude.{slice_get}
use Rattle.std.specs.List.{All}
use Rattle.std.proofs.lemmas.List.Elements.{All-head, All-tail}
use Rattle.std.proofs.lemmas.Option.{same_Some}
use Rattle.qg_num.specs.declared.counters.Counters.{Counters}
use Rattle.qg_image.specs.declared.quota.Group.{Group}
use Rattle.qg_image.specs.declared.quota.Quota.{Quota}
use Rattle.qg_image.specs.State.{Layout}
use Rattle.qg_image.specs.Table.{keys_of}
use Rattle.qg_image.specs.Counts.{direct_count, due_counters}
use Rattle.qg_qgroups.specs.Agreement.{counted_groups}
use Rattle.qg_image.specs.Members.{Hierarchy, hierarchy_of, is_member}
use Rattle.qg_reach.proofs.Members.{one_mapped}
use Rattle.qg_account.specs.Moves.{CanMove, OwnerChange, moved, moved_all}
use Rattle.qg_account.specs.Laws.{ChangesCanBeTaken, CountedInOrder, GroupsAddUp, StoredAreCounted, bytes_in_both}
use Rattle.qg_account.specs.Updating.{CanTakeAll, with_change, with_changes}
use Rattle.qg_account.proofs.ChangeSteps.{AreSafe, can-move, changes-add-up, changes-safe}

-- groups, each with its counters
abbrev each_with : (ℕ → Counters) → List ℕ → List (ℕ × Counters)
each_with counters groups = map (λ group. (group, counters group)) groups

each-same : (counters others : ℕ → Counters) (groups : List ℕ) → ((group : ℕ) → counters group ≡ others group)
    → each_with counters groups ≡ each_with others groups
each-same counters others [] same = refl
each-same counters others (group ∷ groups) same =
    ap (λ (c : Counters). (group, c) ∷ each_with counters groups) (same group)
    ∙ ap (λ rest. (group, others group) ∷ rest) (each-same counters others groups same)

-- one change
changed-each : (hierarchy : Hierarchy) (change : OwnerChange) (counters : ℕ → Counters) (groups : List ℕ)
    → with_change hierarchy change (each_with counters groups)
    ≡ each_with (λ group. moved (is_member hierarchy group) change (counters group)) groups
changed-each hierarchy change counters [] = refl
changed-each hierarchy change counters (group ∷ groups) =
    ap (λ rest. (group, moved (is_member hierarchy group) change (counters group)) ∷ rest)
    (changed-each hierarchy change counters groups)

-- and all
all-changed : (hierarchy : Hierarchy) (changes : List (ℕ × OwnerChange)) (counters : ℕ → Counters) (groups : List ℕ)
    → with_changes hierarchy changes (each_with counters groups)
    ≡ each_with (λ group. moved_all (is_member hierarchy group) changes (counters group)) groups
all-changed hierarchy [] counters groups = refl
all-changed hierarchy (entry ∷ changes) counters groups =
    ap (with_changes hierarchy changes) (changed-each hierarchy entry.1 counters groups)
    ∙ all-changed hierarchy changes (λ group. moved (is_member hierarchy group) entry.1 (counters group)) groups

pub groups-add-up : GroupsAddUp
groups-add-up old new hierarchy changes are =
    all-changed hierarchy changes (direct_count old hierarchy) hierarchy.groups
    ∙ each-same (λ group. moved_all (is_member hierarchy group) changes (direct_count old hierarchy group))
    (direct_count new hierarchy) hierarchy.groups
    (λ group. changes-add-up old new hierarchy changes group are)

-- what is safe for each group can be taken
all-taken : (most : ℕ) (hierarchy : Hierarchy) (changes : List (ℕ × OwnerChange)) (counters : ℕ → Counters)
    (groups : List ℕ) → most < 2 ^ 64
    → ((group : ℕ) → AreSafe most (is_member hierarchy group) changes (counters group))
    → CanTakeAll hierarchy changes (each_with counters groups)
all-taken most hierarchy [] counters groups small safe = tt
all-taken most hierarchy (entry ∷ changes) counters groups small safe = (
  λ group kept has.
      let one = one_mapped (λ (g : ℕ). (g, counters g)) groups (group, kept) has in
      subst (λ (e : ℕ × Counters). CanMove (is_member hierarchy e.0) entry.1 e.1) one.2
      (can-move most (is_member hierarchy one.0) entry.1 (counters one.0) (safe one.0).0 small),
  subst (CanTakeAll hierarchy changes) (sym (changed-each hierarchy entry.1 counters groups))
      (all-taken most hierarchy changes (λ group. moved (is_member hierarchy group) entry.1 (counters group)) groups
      small
      (λ group. (safe group).1)),
)

pub changes-taken : ChangesCanBeTaken
changes-taken old new hierarchy changes are small =
    all-taken (bytes_in_both old new) hierarchy changes (direct_count old hierarchy) hierarchy.groups small
    (λ group. changes-safe old new hierarchy changes group are)

-- ---- what groups store

stored-each : (layout : Layout) (quota : Quota) (groups : List (ℕ × Group))
    → All (λ entry. entry.1.counters ≡ due_counters layout quota entry.0) groups
    → counted_groups groups ≡ each_with (direct_count layout (hierarchy_of quota)) (keys_of groups)
stored-each layout quota [] all = refl
stored-each layout quota (entry ∷ groups) all =
    ap (λ (c : Counters). (entry.0, c) ∷ counted_groups groups)
    (All-head (λ (one : ℕ × Group). one.1.counters ≡ due_counters layout quota one.0) entry groups all)
    ∙ ap (λ rest. (entry.0, direct_count layout (hierarchy_of quota) entry.0) ∷ rest)
    (stored-each layout quota groups
    (All-tail (λ (one : ℕ × Group). one.1.counters ≡ due_counters layout quota one.0) entry groups all))

pub stored-counted : StoredAreCounted
stored-counted layout quota all = stored-each layout quota quota.groups all

in-order : (counters : ℕ → Counters) (groups : List ℕ) (index group : ℕ) → slice_get groups index ≡ Some group
    → slice_get (map (λ entry. entry.1) (each_with counters groups)) index ≡ Some (counters group)
in-order counters [] index group is = absurd cc
in-order counters (one ∷ groups) zero group is = ap (λ (g : ℕ). Some (counters g)) (same_Some one group is)
in-order counters (one ∷ groups) (suc index) group is = in-order counters groups index group is

pub counted-in-order : CountedInOrder
counted-in-order layout hierarchy index group is =
    in-order (direct_count layout hierarchy) hierarchy.groups index group is
