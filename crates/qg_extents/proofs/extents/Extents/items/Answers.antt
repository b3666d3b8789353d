use Rattle.std.proofs.Common.{◌≤◌, ℕ, List, map, length, sym, ap, subst, ◌∙◌}
use Rattle.std.specs.Prelude.{All, Some}
use Rattle.std.specs.List.{list_all}
use Rattle.std.proofs.lemmas.List.Elements.{recursion_from_All}
use Rattle.qg_node.specs.declared.item.Item.{Item}
use Rattle.qg_node.specs.Fits.{ItemFits}
use Rattle.qg_node.specs.Nodes.{is_ascending}
use Rattle.qg_tree_items.specs.Types.{ExtentPart}
use Rattle.qg_tree_items.specs.ItemMeaning.{extent_part}
use Rattle.qg_tree_items.specs.Types.{Extents}
use Rattle.qg_tree_items.specs.Walk.{is_item_of}
use Rattle.qg_refs.specs.declared.kept.Kept.{Kept}
use Rattle.qg_extents.specs.Written.{parts_of_book}
use Rattle.qg_extents.proofs.ItemsAscend.{book-ascending}
use Rattle.qg_extents.proofs.ItemsSaid.{book-allowed, book-fit, book-said, book-short}
use Rattle.qg_extents.proofs.Sayable.{table-ascend, table-sayable}
use Rattle.qg_extents.proofs.extents.Extents.items.Goals as goal

pub returns-clause-told : goal.returns-clause-told
returns-clause-told c =
    let table = c.self.inside.table.entries in
    ap (λ (items : List Item). map extent_part items) c.in_ok-items_of_table.ensures.exact
    ∙ book-said table (table-sayable table c.self.invariant c.in_ok-items_of_table.ensures.fit)
    ∙ ap (λ (t : List (ℕ × Kept)). map (λ (part : ExtentPart). Some part) (parts_of_book t)) c.self.view_is

pub returns-clause-allowed : goal.returns-clause-allowed
returns-clause-allowed c generation by =
    let table = c.self.inside.table.entries in
    let Made : ℕ × Kept → Type 0 = λ entry. entry.1.what.generation ≤ generation in
    ap (list_all (is_item_of Extents generation)) c.in_ok-items_of_table.ensures.exact
    ∙ book-allowed generation table (table-sayable table c.self.invariant c.in_ok-items_of_table.ensures.fit)
    (recursion_from_All Made table (subst (λ (t : List (ℕ × Kept)). All Made t) (sym c.self.view_is) by))

pub returns-clause-ascending : goal.returns-clause-ascending
returns-clause-ascending c =
    let table = c.self.inside.table.entries in
    ap (λ (items : List Item). is_ascending (map (λ item. item.key) items)) c.in_ok-items_of_table.ensures.exact
    ∙ book-ascending table c.self.invariant.ascend (table-ascend table c.self.invariant)

pub returns-clause-short : goal.returns-clause-short
returns-clause-short c =
    subst (λ (items : List Item). All (λ (item : Item). length item.body ≤ 1024) items)
    (sym c.in_ok-items_of_table.ensures.exact) (book-short c.self.inside.table.entries)

pub returns-clause-fit : goal.returns-clause-fit
returns-clause-fit c =
    let table = c.self.inside.table.entries in
    subst (λ (items : List Item). All ItemFits items) (sym c.in_ok-items_of_table.ensures.exact)
    (book-fit table (table-sayable table c.self.invariant c.in_ok-items_of_table.ensures.fit))
