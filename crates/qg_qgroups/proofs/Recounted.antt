-- Quota of which counters and stamps alone are others.
use Rattle.std.proofs.Common.{◌≡◌, ℕ, List, [], ◌∷◌, map, Option, Some, None, length, refl, sym, ap, ◌∙◌, nat_lt}
use Rattle.std.specs.Prelude.{◌||◌, ◌==◌, nat_le, not}
use Rattle.std.specs.List.{list_any}
use Rattle.qg_num.specs.declared.command.Command.{Command}
use Rattle.qg_num.specs.declared.command.Command.TheVariants as command
use Rattle.qg_num.specs.declared.refusal.Refusal.TheVariants as why
use Rattle.qg_image.specs.ItemMeaning.{first_some}
use Rattle.qg_image.specs.Table.{keys_of}
use Rattle.qg_image.specs.declared.quota.Group.{Group}
use Rattle.qg_image.specs.declared.quota.Quota.{Quota}
use Rattle.qg_image.specs.Members.{level_of_group}
use Rattle.qg_image.specs.Verdict.{most_groups, most_relations}
use Rattle.qg_machine.specs.GroupChange.{has_pair}
use Rattle.qg_machine.specs.Refusals.{refuse}
use Rattle.qg_qgroups.specs.Groups.{has_number}
use Rattle.qg_qgroups.specs.declared.limits.Maxima.{Maxima}
use Rattle.qg_qgroups.specs.Changing.{change_refusal, groups_in, pairs_in}
use Rattle.qg_qgroups.specs.Tracked.{limits_by, limits_in, IsRecounted, SameButCounts}
use Rattle.qg_qgroups.proofs.Tables.{keys-made}

-- each group with its number and its limits
module _ (f : ℕ × Group → ℕ × Group) (number : (entry : ℕ × Group) → (f entry).0 ≡ entry.0)
    (limits : (entry : ℕ × Group) → limits_in (f entry).1 ≡ limits_in entry.1) where
  limits-still : (groups : List (ℕ × Group)) → limits_by (map f groups) ≡ limits_by groups
  limits-still [] = refl
  limits-still (entry ∷ groups) =
      ap (λ (rest : List (ℕ × Maxima)). ((f entry).0, limits_in (f entry).1) ∷ rest) (limits-still groups)
      ∙ ap (λ (n : ℕ). (n, limits_in (f entry).1) ∷ limits_by groups) (number entry)
      ∙ ap (λ (both : Maxima). (entry.0, both) ∷ limits_by groups) (limits entry)

  pub recounted-by : (quota : Quota) → IsRecounted quota (record quota { groups = map f quota.groups })
  recounted-by quota = record { limits = limits-still quota.groups; pairs = refl }

-- nothing is other
pub recounted-self : (quota : Option Quota) → SameButCounts quota quota
recounted-self None = tt
recounted-self (Some quota) = record { limits = refl; pairs = refl }

-- the numbers of the groups stay
pub keys-recounted : (old new : Quota) → IsRecounted old new → keys_of new.groups ≡ keys_of old.groups
keys-recounted old new counted =
    sym (keys-made limits_in new.groups) ∙ ap (λ (table : List (ℕ × Maxima)). keys_of table) counted.limits
    ∙ keys-made limits_in old.groups

pairs-same : (old new : Quota) → IsRecounted old new → new.pairs ≡ old.pairs
pairs-same old new counted = counted.pairs

-- whether it is on or off
pub groups-recounted : (old new : Option Quota) → SameButCounts old new → groups_in new ≡ groups_in old
groups-recounted None None same = refl
groups-recounted None (Some new) same = absurd same
groups-recounted (Some old) None same = absurd same
groups-recounted (Some old) (Some new) same = keys-recounted old new same

pub pairs-recounted : (old new : Option Quota) → SameButCounts old new → pairs_in new ≡ pairs_in old
pairs-recounted None None same = refl
pairs-recounted None (Some new) same = absurd same
pairs-recounted (Some old) None same = absurd same
pairs-recounted (Some old) (Some new) same = pairs-same old new same

-- a command of quota is refused for the same
still : (old new : Quota) (subvolumes : List ℕ) (given : Command) → keys_of new.groups ≡ keys_of old.groups
    → new.pairs ≡ old.pairs
    → change_refusal (Some new) subvolumes given ≡ change_refusal (Some old) subvolumes given
still old new subvolumes command.QuotaOn keys pairs = refl
still old new subvolumes command.QuotaOff keys pairs = refl
still old new subvolumes (command.GroupCreate group) keys pairs =
    ap (λ (ks : List ℕ). first_some
    (None ∷ refuse (not (not (level_of_group group == 0))) why.Level ∷ refuse (has_number group ks) why.GroupThere
    ∷ refuse (nat_le most_groups (length ks)) why.TooMany ∷ [])) keys
still old new subvolumes (command.GroupDestroy group) keys pairs =
    ap (λ (ks : List ℕ). first_some
    (None ∷ refuse (not (has_number group ks)) why.NoGroup
    ∷ refuse (list_any (λ pair. pair.1 == group) new.pairs || has_number group subvolumes) why.Busy ∷ [])) keys
    ∙ ap (λ (ps : List (ℕ × ℕ)). first_some
    (None ∷ refuse (not (has_number group (keys_of old.groups))) why.NoGroup
    ∷ refuse (list_any (λ pair. pair.1 == group) ps || has_number group subvolumes) why.Busy ∷ [])) pairs
still old new subvolumes (command.Assign member parent) keys pairs =
    ap (λ (ks : List ℕ). first_some
    (None ∷ refuse (not (nat_lt (level_of_group member) (level_of_group parent))) why.Level
    ∷ refuse (not (has_number member ks)) why.NoGroup
    ∷ refuse (not (has_number parent ks)) why.NoGroup ∷ refuse (has_pair member parent new.pairs) why.Related
    ∷ refuse (nat_le most_relations (length new.pairs)) why.TooMany ∷ [])) keys
    ∙ ap (λ (ps : List (ℕ × ℕ)). first_some
    (None ∷ refuse (not (nat_lt (level_of_group member) (level_of_group parent))) why.Level
    ∷ refuse (not (has_number member (keys_of old.groups))) why.NoGroup
    ∷ refuse (not (has_number parent (keys_of old.groups))) why.NoGroup
    ∷ refuse (has_pair member parent ps) why.Related ∷ refuse (nat_le most_relations (length ps)) why.TooMany ∷ []))
    pairs
still old new subvolumes (command.Remove member parent) keys pairs =
    ap (λ (ps : List (ℕ × ℕ)). first_some (None ∷ refuse (not (has_pair member parent ps)) why.NotRelated ∷ [])) pairs
still old new subvolumes (command.Limit group which max) keys pairs =
    ap (λ (ks : List ℕ). first_some (None ∷ refuse (not (has_number group ks)) why.NoGroup ∷ [])) keys
still old new subvolumes _ keys pairs = refl

pub refusal-recounted : (old new : Option Quota) (subvolumes : List ℕ) (given : Command) → SameButCounts old new
    → change_refusal new subvolumes given ≡ change_refusal old subvolumes given
refusal-recounted None None subvolumes given same = refl
refusal-recounted None (Some new) subvolumes given same = absurd same
refusal-recounted (Some old) None subvolumes given same = absurd same
refusal-recounted (Some old) (Some new) subvolumes given same =
    still old new subvolumes given (keys-recounted old new same)
    (pairs-same old new same)
