use Rattle.std.proofs.Common.{◌≤◌, ◌<◌, ◌^◌, length, map, subst, sym, ap, ◌∙◌, List, arith}
use Rattle.std.specs.Prelude.{All}
use Rattle.std.specs.List.{filter_map, list_all}
use Rattle.qg_node.specs.declared.item.Item.{Item}
use Rattle.qg_node.specs.Fits.{ItemFits}
use Rattle.qg_node.specs.Nodes.{is_ascending, items_bytes}
use Rattle.qg_image.specs.ItemMeaning.{quota_part}
use Rattle.qg_image.specs.declared.tree.TreeKind.TheVariants.{Quotas}
use Rattle.qg_image.specs.Walk.{is_item_of}
use Rattle.qg_quota.specs.Written.{status_at}
use Rattle.qg_quota.proofs.Items.{quota-told, quota-allowed, quota-ascending, quota-short, quota-fit, quota-bytes}
use Rattle.qg_quota.proofs.writing.quota_items.Goals as goal

pub returns-clause-told : goal.returns-clause-told
returns-clause-told c =
    let now : c.args.generation < 2 ^ 64 = omega arith in
    ap (filter_map quota_part) c.in_ok-items_of_quota.ensures.exact
    ∙ quota-told c.args.generation c.args.quota.now now c.in_ok-items_of_quota.ensures.groups

pub returns-clause-allowed : goal.returns-clause-allowed
returns-clause-allowed c =
    let now : c.args.generation < 2 ^ 64 = omega arith in
    ap (list_all (is_item_of Quotas c.args.generation)) c.in_ok-items_of_quota.ensures.exact
    ∙ quota-allowed c.args.generation c.args.quota.now now c.in_ok-items_of_quota.ensures.groups c.requires.stamped

pub returns-clause-ascending : goal.returns-clause-ascending
returns-clause-ascending c =
    ap (λ (items : List Item). is_ascending (map (λ item. item.key) items)) c.in_ok-items_of_quota.ensures.exact
    ∙ quota-ascending (status_at c.args.generation) c.args.quota.now c.requires.sound

pub returns-clause-short : goal.returns-clause-short
returns-clause-short c =
    subst (λ (items : List Item). All (λ (item : Item). length item.body ≤ 1024) items)
    (sym c.in_ok-items_of_quota.ensures.exact)
    (quota-short (status_at c.args.generation) c.args.quota.now)

pub returns-clause-fit : goal.returns-clause-fit
returns-clause-fit c =
    subst (λ (items : List Item). All ItemFits items) (sym c.in_ok-items_of_quota.ensures.exact)
    (quota-fit (status_at c.args.generation) c.args.quota.now c.in_ok-items_of_quota.ensures.groups
    c.in_ok-items_of_quota.ensures.pairs)

pub returns-clause-weight : goal.returns-clause-weight
returns-clause-weight c =
    ap items_bytes c.in_ok-items_of_quota.ensures.exact
    ∙ quota-bytes (status_at c.args.generation) c.args.quota.now c.requires.sound
