use Rattle.std.proofs.Common.{◌<◌, ◌^◌, map, subst, sym, ap, ◌∙◌, List, arith}
use Rattle.std.specs.Prelude.{All}
use Rattle.std.specs.List.{filter_map}
use Rattle.qg_node.specs.declared.item.Item.{Item}
use Rattle.qg_node.specs.Fits.{ItemFits}
use Rattle.qg_node.specs.Nodes.{is_ascending}
use Rattle.qg_image.specs.ItemMeaning.{quota_part}
use Rattle.qg_quota.specs.Written.{status_at}
use Rattle.qg_quota.proofs.Items.{quota-told, quota-ascending, quota-fit}
use Rattle.qg_quota.proofs.state.to_items.Goals as goal

pub returns-clause-told : goal.returns-clause-told
returns-clause-told c =
    let now : c.args.generation < 2 ^ 64 = omega arith in
    ap (filter_map quota_part) c.in_ok-items_of_quota.ensures.exact
    ∙ quota-told c.args.generation c.args.state.now.quota now c.in_ok-items_of_quota.ensures.groups

pub returns-clause-ascending : goal.returns-clause-ascending
returns-clause-ascending c =
    ap (λ (items : List Item). is_ascending (map (λ item. item.key) items)) c.in_ok-items_of_quota.ensures.exact
    ∙ quota-ascending (status_at c.args.generation) c.args.state.now.quota c.requires.sound

pub returns-clause-fit : goal.returns-clause-fit
returns-clause-fit c =
    subst (λ (items : List Item). All ItemFits items) (sym c.in_ok-items_of_quota.ensures.exact)
    (quota-fit (status_at c.args.generation) c.args.state.now.quota c.in_ok-items_of_quota.ensures.groups
    c.in_ok-items_of_quota.ensures.pairs)
