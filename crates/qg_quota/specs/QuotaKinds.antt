-- What quota items tell, each kind by itself (this project's own).
use Rattle.std.specs.Prelude.{◌≡◌, ℕ, Bool, true, ◌&&◌, not, List, Option, Some, None, ◌==◌, nat_lt}
use Rattle.std.specs.List.{filter_map, list_all, list_any}
use Rattle.std.specs.List.Sorted.{IsStrictlySortedBy}
use Rattle.std.specs.Ordering.{nat_cmp}
use Rattle.qg_items.specs.declared.quota.QgroupInfo.{QgroupInfo}
use Rattle.qg_image.specs.Table.{has_key, keys_of, value_at}
use Rattle.qg_image.specs.declared.part.QuotaPart.{QuotaPart}
use Rattle.qg_image.specs.declared.part.QuotaPart.TheVariants.{Status, Info, Limits, Relation}
use Rattle.qg_image.specs.declared.quota.Group.{Group}
use Rattle.qg_image.specs.Members.{level_of_group}
use Rattle.qg_machine.specs.GroupChange.{has_pair}
use Rattle.qg_qgroups.specs.Groups.{pair_cmp}
use Rattle.qg_image.specs.ImageState.{group_told, info_told, limit_told}
use Rattle.qg_image.specs.Verdict.{is_group_number, is_limit, is_plain, is_status_part}
use Rattle.qg_quota.specs.declared.told.QuotaItems.{QuotaItems}

-- the two numbers of a relation's item, as its key has them
abbrev pub relation_told : QuotaPart → Option (ℕ × ℕ)
relation_told (Status status) = None
relation_told (Info group info) = None
relation_told (Limits group limit) = None
relation_told (Relation group other) = Some (group, other)

-- counters, limits and relations are those that items tell
pub record AreTold (parts : List QuotaPart) (told : QuotaItems) : Type 0 where
  pub infos : told.infos ≡ filter_map info_told parts
  pub limits : told.limits ≡ filter_map limit_told parts
  pub relations : told.relations.items ≡ filter_map relation_told parts

-- each of the three ascends
pub record Ascends (told : QuotaItems) : Type 0 where
  pub infos : IsStrictlySortedBy nat_cmp (keys_of told.infos)
  pub limits : IsStrictlySortedBy nat_cmp (keys_of told.limits)
  pub relations : IsStrictlySortedBy pair_cmp told.relations.items

-- one item fits the others, of which these are told: what `fits_quota` asks (lemma `fits-one`)
abbrev pub fits_told : QuotaItems → QuotaPart → Bool
fits_told told (Status status) = true
fits_told told (Info group info) = has_key group told.limits && is_group_number group && is_plain info
fits_told told (Limits group limit) = has_key group told.infos && is_limit limit
fits_told told (Relation group other) =
    has_pair other group told.relations.items && has_key group told.infos
    && not (level_of_group group == level_of_group other)

-- all items do, there is a state of quota, and each live subvolume's group has counters: what `is_quota` asks (lemma
-- `quota-judged`)
abbrev pub are_told : QuotaItems → List ℕ → List QuotaPart → Bool
are_told told live parts = list_any is_status_part parts && list_all (fits_told told) parts
    && list_all (λ sub. has_key sub told.infos) live

-- the group that counters tell, with the limits of its number
abbrev pub group_by : QuotaItems → ℕ × QgroupInfo → ℕ × Group
group_by told entry = (entry.0, group_told entry.1 (value_at entry.0 told.limits))

-- the first of two groups is the member: its level is less
abbrev pub rises : ℕ × ℕ → Bool
rises pair = nat_lt (level_of_group pair.0) (level_of_group pair.1)
