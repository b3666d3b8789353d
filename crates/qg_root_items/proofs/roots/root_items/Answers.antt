use Rattle.std.proofs.Common.{◌≤◌, length, map, subst, sym, ap, ◌∙◌, List}
use Rattle.std.specs.Prelude.{All}
use Rattle.std.specs.List.{filter_map, list_all}
use Rattle.qg_node.specs.declared.item.Item.{Item}
use Rattle.qg_node.specs.Fits.{ItemFits}
use Rattle.qg_node.specs.Nodes.{is_ascending, items_bytes}
use Rattle.qg_image.specs.ItemMeaning.{root_part}
use Rattle.qg_image.specs.declared.tree.TreeKind.TheVariants.{Roots}
use Rattle.qg_image.specs.Walk.{is_item_of}
use Rattle.qg_root_items.proofs.RootTree.{roots-told, roots-allowed, roots-ascending, roots-short, roots-fit}
use Rattle.qg_root_items.proofs.RootTree.{roots-bytes}
use Rattle.qg_root_items.proofs.roots.root_items.Goals as goal

pub items_of_roots-requires : goal.items_of_roots-requires
items_of_roots-requires c = c.requires.subvolumes.numbers

pub returns-clause-told : goal.returns-clause-told
returns-clause-told c =
    ap (filter_map root_part) c.in_ok-items_of_roots.ensures.exact
    ∙ roots-told c.args.extents.now c.args.subvolumes.now c.args.quotas.now c.requires.extents c.requires.subvolumes
    c.in_ok-items_of_roots.ensures.fits c.requires.quotas

pub returns-clause-allowed : goal.returns-clause-allowed
returns-clause-allowed c generation e s q =
    ap (list_all (is_item_of Roots generation)) c.in_ok-items_of_roots.ensures.exact
    ∙ roots-allowed c.args.extents.now c.args.subvolumes.now c.args.quotas.now generation
    c.requires.extents c.requires.subvolumes c.in_ok-items_of_roots.ensures.fits c.requires.quotas e s q

pub returns-clause-ascending : goal.returns-clause-ascending
returns-clause-ascending c =
    ap (λ (items : List Item). is_ascending (map (λ item. item.key) items)) c.in_ok-items_of_roots.ensures.exact
    ∙ roots-ascending c.args.extents.now c.args.subvolumes.now c.args.quotas.now c.requires.subvolumes

pub returns-clause-short : goal.returns-clause-short
returns-clause-short c =
    subst (λ (items : List Item). All (λ (item : Item). length item.body ≤ 1024) items)
    (sym c.in_ok-items_of_roots.ensures.exact)
    (roots-short c.args.extents.now c.args.subvolumes.now c.args.quotas.now)

pub returns-clause-fit : goal.returns-clause-fit
returns-clause-fit c =
    subst (λ (items : List Item). All ItemFits items) (sym c.in_ok-items_of_roots.ensures.exact)
    (roots-fit c.args.extents.now c.args.subvolumes.now c.args.quotas.now c.requires.extents c.requires.subvolumes
    c.in_ok-items_of_roots.ensures.fits c.requires.quotas)

pub returns-clause-weight : goal.returns-clause-weight
returns-clause-weight c =
    ap items_bytes c.in_ok-items_of_roots.ensures.exact
    ∙ roots-bytes c.args.extents.now c.args.subvolumes.now c.args.quotas.now c.requires.subvolumes
