-- What writing and reading quota are to each other (this project's own).
use Rattle.std.specs.Prelude.{◌≡◌, ℕ, ◌≤◌, List, map, None, IsTrue, length}
use Rattle.std.specs.List.{All, filter_map}
use Rattle.qg_node.specs.declared.item.Item.{Item}
use Rattle.qg_node.specs.Fits.{ItemFits}
use Rattle.qg_node.specs.Nodes.{is_ascending}
use Rattle.qg_image.specs.ItemMeaning.{quota_part}
use Rattle.qg_image.specs.Table.{has_key}
use Rattle.qg_image.specs.declared.quota.Quota.{Quota}
use Rattle.qg_image.specs.Members.{hierarchy_of}
use Rattle.qg_qgroups.specs.Groups.{IsSound}
use Rattle.qg_image.specs.ImageState.{quota_told}
use Rattle.qg_image.specs.Verdict.{is_group_number, most_groups, most_relations}
use Rattle.qg_quota.specs.Quota.{items_rule, quota_rule}
use Rattle.qg_quota.specs.Written.{items_of_quota, parts_of_quota, status_at}

-- each live subvolume has its group, each group of level 0 has a number that a subvolume may have, and there are no
-- more groups and relations than are served
pub record IsServedFor (live : List ℕ) (quota : Quota) : Type 0 where
  pub own : All (λ sub. IsTrue (has_key sub quota.groups)) live
  pub numbers : All (λ entry. IsTrue (is_group_number entry.0)) quota.groups
  pub groups : length quota.groups ≤ most_groups
  pub relations : length quota.pairs ≤ most_relations

-- what is written of quota is read as that quota
abbrev pub QuotaIsReadBack : Type 0
QuotaIsReadBack = (generation : ℕ) (quota : Quota) → IsSound (hierarchy_of quota)
    → quota_told (parts_of_quota generation quota) ≡ quota

-- and breaks no rule
abbrev pub QuotaIsTaken : Type 0
QuotaIsTaken =
    (generation : ℕ) (live : List ℕ) (quota : Quota) → IsSound (hierarchy_of quota) → IsServedFor live quota
    → quota_rule live (parts_of_quota generation quota) ≡ None

-- items that break no rule are those that are written of the quota that they tell
abbrev pub ItemsAreWrittenBack : Type 0
ItemsAreWrittenBack =
    (generation : ℕ) (live : List ℕ) (items : List Item) → All ItemFits items
    → IsTrue (is_ascending (map (λ item. item.key) items))
    → items_rule generation live items ≡ None
    → items ≡ items_of_quota (status_at generation) (quota_told (filter_map quota_part items))
