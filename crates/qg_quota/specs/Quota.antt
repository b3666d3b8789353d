-- What is asked of all items of the quota tree (this project's own).
use Rattle.std.specs.Prelude.{ℕ, List, Option, Some, None, if◌then◌else◌}
use Rattle.std.specs.List.{filter_map, list_all}
use Rattle.qg_num.specs.declared.rule.Rule.{Rule}
use Rattle.qg_num.specs.declared.rule.Rule.TheVariants as rule
use Rattle.qg_node.specs.declared.item.Item.{Item}
use Rattle.qg_image.specs.declared.part.QuotaPart.{QuotaPart}
use Rattle.qg_image.specs.ItemMeaning.{quota_part}
use Rattle.qg_image.specs.declared.tree.TreeKind.TheVariants.{Quotas}
use Rattle.qg_image.specs.Walk.{is_item_of}
use Rattle.qg_image.specs.Verdict.{is_quota, are_few}
use Rattle.qg_quota.specs.declared.fault.QuotaFault.{QuotaFault}
use Rattle.qg_quota.specs.declared.fault.QuotaFault.TheVariants as fault

-- the first of the rules `quota` and `limits` that the quota items of an image with these subvolumes break
abbrev pub quota_rule : List ℕ → List QuotaPart → Option Rule
quota_rule live parts = if is_quota live parts then (if are_few parts then None else Some rule.Limits) else Some
    rule.Quota

-- the first of the rules `item`, `quota` and `limits` that items of the quota tree of an image of this generation with
-- these subvolumes break
abbrev pub items_rule : ℕ → List ℕ → List Item → Option Rule
items_rule generation live items =
    if list_all (is_item_of Quotas generation) items then quota_rule live (filter_map quota_part items) else Some
    rule.Item

-- what holds of the rule, where one is broken
abbrev pub IfRule : QuotaFault → (Rule → Type 0) → Type 0
IfRule (fault.Rule rule) P = P rule
IfRule fault.NoMemory P = Unit {0}
