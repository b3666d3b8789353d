use Rattle.std.proofs.Common.{◌≤◌, length, map, subst, sym, ap, ◌∙◌, List}
use Rattle.std.specs.Prelude.{All}
use Rattle.std.specs.List.{list_all}
use Rattle.qg_node.specs.declared.item.Item.{Item}
use Rattle.qg_node.specs.Fits.{ItemFits}
use Rattle.qg_node.specs.Nodes.{is_ascending, items_bytes}
use Rattle.qg_image.specs.FilesOf.{files_of}
use Rattle.qg_image.specs.declared.tree.TreeKind.TheVariants.{Files}
use Rattle.qg_image.specs.Walk.{is_item_of}
use Rattle.qg_root_items.proofs.FileTree.{file_items-told, file_items-of_tree, file_items-ascending, file_items-short}
use Rattle.qg_root_items.proofs.FileTree.{file_items-fit, file_items-bytes}
use Rattle.qg_root_items.proofs.files.file_items.Goals as goal

pub returns-clause-told : goal.returns-clause-told
returns-clause-told c generation small by =
    ap (files_of generation) c.in_ok-items_of_files.ensures
    ∙ file_items-told generation c.args.files.now c.requires small by

pub returns-clause-allowed : goal.returns-clause-allowed
returns-clause-allowed c generation small by =
    ap (list_all (is_item_of Files generation)) c.in_ok-items_of_files.ensures
    ∙ file_items-of_tree generation c.args.files.now c.requires small by

pub returns-clause-ascending : goal.returns-clause-ascending
returns-clause-ascending c =
    ap (λ (items : List Item). is_ascending (map (λ item. item.key) items)) c.in_ok-items_of_files.ensures
    ∙ file_items-ascending c.args.files.now c.requires

pub returns-clause-short : goal.returns-clause-short
returns-clause-short c =
    subst (λ (items : List Item). All (λ (item : Item). length item.body ≤ 1024) items)
    (sym c.in_ok-items_of_files.ensures) (file_items-short c.args.files.now)

pub returns-clause-fit : goal.returns-clause-fit
returns-clause-fit c =
    subst (λ (items : List Item). All ItemFits items) (sym c.in_ok-items_of_files.ensures)
    (file_items-fit c.args.files.now c.requires)

pub returns-clause-weight : goal.returns-clause-weight
returns-clause-weight c = ap items_bytes c.in_ok-items_of_files.ensures ∙ file_items-bytes c.args.files.now
