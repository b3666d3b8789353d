-- The items of the quota tree, one by one (on-disk format, QGROUP_STATUS to QGROUP_RELATION).
use Rattle.std.specs.Prelude.{ℕ, ◌+◌, List, [], ◌∷◌, ◌++◌, map, Option, Some, None, unwrap_or}
use Rattle.std.specs.List.{fold}
use Rattle.qg_num.specs.declared.counters.Counters.{Counters}
use Rattle.qg_node.specs.Nodes.{item_under}
use Rattle.qg_node.specs.declared.item.Item.{Item}
use Rattle.qg_items.specs.declared.kind.TheConstants.{QGROUP_STATUS, QGROUP_INFO, QGROUP_LIMIT, QGROUP_RELATION}
use Rattle.qg_items.specs.declared.quota.QgroupStatus.{QgroupStatus}
use Rattle.qg_items.specs.declared.quota.QgroupInfo.{QgroupInfo}
use Rattle.qg_items.specs.declared.quota.QgroupLimit.{QgroupLimit}
use Rattle.qg_items.specs.ItemText.{status_text, info_text, limit_text}
use Rattle.qg_image.specs.declared.part.QuotaPart.{QuotaPart}
use Rattle.qg_image.specs.declared.part.QuotaPart.TheVariants.{Status, Info, Limits, Relation}
use Rattle.qg_image.specs.declared.quota.Group.{Group}
use Rattle.qg_image.specs.declared.quota.Quota.{Quota}
use Rattle.qg_machine.specs.GroupChange.{with_pair}

-- ---- numbers

-- quota is on, and no rescan runs
abbrev pub status_at : ℕ → QgroupStatus
status_at generation = record { generation = generation; flags = 1; cursor = 0 }

-- a group's counters, which a commit changed last
abbrev pub info_of : ℕ → Counters → QgroupInfo
info_of stamp counters = record {
  generation = stamp;
  rfer = counters.rfer;
  rfer_cmpr = counters.rfer;
  excl = counters.excl;
  excl_cmpr = counters.excl;
}

-- the flag of a limit, where it is set
abbrev pub flag_of : ℕ → Option ℕ → ℕ
flag_of flag None = 0
flag_of flag (Some most) = flag

-- a group's limits: MAX_RFER 1 on referenced bytes, MAX_EXCL 2 on exclusive ones; one that isn't set is 0
abbrev pub limit_of : Option ℕ → Option ℕ → QgroupLimit
limit_of max_rfer max_excl = record {
  flags = flag_of 1 max_rfer + flag_of 2 max_excl;
  max_rfer = unwrap_or max_rfer 0;
  max_excl = unwrap_or max_excl 0;
}

-- ---- relations

-- the two numbers of each relation, and the same turned round, ascending
abbrev pub both_ways : List (ℕ × ℕ) → List (ℕ × ℕ)
both_ways pairs = fold (λ made pair. with_pair (pair.1, pair.0) made) (fold (λ made pair. with_pair pair made) [] pairs)
    pairs

-- ---- what the items say

-- what the item of a group's counters says
abbrev pub info_part : ℕ × Group → QuotaPart
info_part entry = Info entry.0 (info_of entry.1.stamp entry.1.counters)

-- what the item of a group's limits says
abbrev pub limit_part : ℕ × Group → QuotaPart
limit_part entry = Limits entry.0 (limit_of entry.1.max_rfer entry.1.max_excl)

-- and one of a relation
abbrev pub relation_part : ℕ × ℕ → QuotaPart
relation_part pair = Relation pair.0 pair.1

-- what the items of quota say: that it is on, each group's counters, each group's limits, and each relation twice
abbrev pub parts_of_quota : ℕ → Quota → List QuotaPart
parts_of_quota generation quota =
    Status (status_at generation) ∷ map info_part quota.groups ++ map limit_part quota.groups
    ++ map relation_part (both_ways quota.pairs)

-- ---- the items

-- the item of the state of quota
abbrev pub item_of_status : QgroupStatus → Item
item_of_status status = item_under 0 QGROUP_STATUS 0 (status_text status)

-- the item of a group's counters
abbrev pub item_of_info : ℕ × Group → Item
item_of_info entry = item_under 0 QGROUP_INFO entry.0 (info_text (info_of entry.1.stamp entry.1.counters))

-- the item of a group's limits
abbrev pub item_of_limit : ℕ × Group → Item
item_of_limit entry = item_under 0 QGROUP_LIMIT entry.0 (limit_text (limit_of entry.1.max_rfer entry.1.max_excl))

-- the item of a relation, in one of its two directions; its body is empty
abbrev pub item_of_relation : ℕ × ℕ → Item
item_of_relation pair = item_under pair.0 QGROUP_RELATION pair.1 []

-- the state of quota, the counters of each group, and the limits of each
abbrev pub items_of_groups : QgroupStatus → List (ℕ × Group) → List Item
items_of_groups status groups = item_of_status status ∷ map item_of_info groups ++ map item_of_limit groups

-- and behind them each relation twice
abbrev pub items_of_quota : QgroupStatus → Quota → List Item
items_of_quota status quota = items_of_groups status quota.groups ++ map item_of_relation (both_ways quota.pairs)
