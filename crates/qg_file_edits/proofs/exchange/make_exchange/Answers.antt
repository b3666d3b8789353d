use Rattle.std.proofs.Common.{◌++◌, ℕ, List, arith, length, sym, subst, ◌∙◌}
use Rattle.std.specs.Option.{option_to_list}
use Rattle.std.specs.List.{filter_map, flat_map}
use Rattle.qg_device.proofs.Causes.{cause-other}
use Rattle.qg_num.specs.declared.piece.Piece.{Piece}
use Rattle.qg_node.specs.declared.item.Item.{Item}
use Rattle.qg_root_items.specs.Written.{items_of_file}
use Rattle.qg_edit.proofs.Leaves.{ok-known}
use Rattle.qg_refs.specs.declared.kept.Kept.{Kept}
use Rattle.qg_extents.specs.Table.{IsTable}
use Rattle.qg_file_edits.specs.Named.{named, names_of}
use Rattle.qg_shared_trees.specs.Standing.{Stands, name_told}
use Rattle.qg_file_edits.specs.Naming.{AreCovered, AreNamed}
use Rattle.qg_file_edits.proofs.Edited.{made-not}
use Rattle.qg_file_edits.proofs.Handed.{handed, made-handed}
use Rattle.qg_file_edits.proofs.Kept.{leaves-kept, leaves-then, own-kept, own-then}
use Rattle.qg_file_edits.proofs.Phases.{edit-failed, first-named, last-unnamed, then-edited}
use Rattle.std.proofs.Common.{refl}
use Rattle.std.specs.Prelude.{Err}
use Rattle.qg_num.specs.declared.rule.Rule.TheVariants.{Refs}
use Rattle.qg_blocks.proofs.Stopping.{misfit-refs, stops-err, stops-rule}
use Rattle.qg_file_edits.proofs.exchange.make_exchange.Goals as goal

pub name_those_put-requires : goal.name_those_put-requires
name_those_put-requires g c = c.requires.ready

pub edit_items-requires-clause-subvolume : goal.edit_items-requires-clause-subvolume
edit_items-requires-clause-subvolume g c =
    c.in_ok-name_those_put.ensures.nodes.subvolume (g.D.Disk.history c.args.disk.now) (g.D.Disk.size c.args.disk.now)
    c.requires.subvolume

pub edit_items-requires-clause-gone : goal.edit_items-requires-clause-gone
edit_items-requires-clause-gone g c = c.requires.ready.gone

pub edit_items-requires-clause-put : goal.edit_items-requires-clause-put
edit_items-requires-clause-put g c = c.requires.ready.put

-- ---- the book ascends, whatever is answered

pub returns-in_err-name_those_put-clause-table : goal.returns-in_err-name_those_put-clause-table
returns-in_err-name_those_put-clause-table g c =
    subst (λ (refs : List (ℕ × Kept)). IsTable refs) c.refs.ensures c.len-ascending.ensures.table

pub returns-in_err-edit_items-clause-table : goal.returns-in_err-edit_items-clause-table
returns-in_err-edit_items-clause-table g c =
    subst (λ (refs : List (ℕ × Kept)). IsTable refs) c.refs.ensures c.len-ascending.ensures.table

pub returns-clause-table : goal.returns-clause-table
returns-clause-table g c =
    subst (λ (refs : List (ℕ × Kept)). IsTable refs) c.refs.ensures c.len-ascending.ensures.table

pub returns-clause-still : goal.returns-clause-still
returns-clause-still g c =
    ok-known _ c.unname_each-unnamed.result
    (subst (λ (refs : List (ℕ × Kept)). IsTable refs) c.refs-2.ensures c.len-ascending_still.ensures.table)

-- ---- pieces that cannot be named

pub returns-in_err-name_those_put-clause-told : goal.returns-in_err-name_those_put-clause-told
returns-in_err-name_those_put-clause-told g c edits files files_new stands makes =
    let old = c.args.fs.now in
    let new = c.name_those_put.new.fs in
    let before = g.D.Disk.history c.args.disk.now in
    let bytes = g.D.Disk.size c.args.disk.now in
    let items = flat_map items_of_file files_new in
    let failed = first-named edits c.args.ino c.args.change.now files files_new old new before bytes
    c.requires.subvolume
    stands makes _
    (λ some names here known few.
    c.in_err-name_those_put.ensures.named before bytes some names c.requires.subvolume here known few) in
    made-handed edits (length (c.args.change.now.named ++ option_to_list c.args.change.now.new))
    old new before items (named files_new) c.args.reads.now c.args.reads.now c.from_residual.result _
    (handed c.from_residual.result _ c.from_residual.ensures.1)
    (made-not edits (length (c.args.change.now.named ++ option_to_list c.args.change.now.new))
    old new before items (named files_new) c.args.reads.now _ failed.sound)

pub returns-in_err-name_those_put-clause-leaves : goal.returns-in_err-name_those_put-clause-leaves
returns-in_err-name_those_put-clause-leaves g c =
    leaves-kept c.args.fs.now c.name_those_put.new.fs (g.D.Disk.history c.args.disk.now) (g.D.Disk.size c.args.disk.now)
    c.in_err-name_those_put.ensures.nodes c.requires.subvolume

pub returns-in_err-name_those_put-clause-cause : goal.returns-in_err-name_those_put-clause-cause
returns-in_err-name_those_put-clause-cause g c =
    let faults = g.D.Disk.faults c.args.disk.now in
    cause-other faults faults c.from_residual.result (omega arith)
    (λ disk. c.in_err-name_those_put.ensures.fault
    (sym (handed c.from_residual.result _ c.from_residual.ensures.1) ∙ disk))

-- ---- items that cannot be edited

pub returns-in_err-edit_items-clause-told : goal.returns-in_err-edit_items-clause-told
returns-in_err-edit_items-clause-told g c edits files files_new stands makes =
    let old = c.args.fs.now in
    let mid = c.name_those_put.new.fs in
    let new = c.edit_items.new.fs in
    let ino = c.args.ino in
    let change = c.args.change.now in
    let before = g.D.Disk.history c.args.disk.now in
    let bytes = g.D.Disk.size c.args.disk.now in
    let items = flat_map items_of_file files_new in
    let begun = first-named edits ino change files files_new old mid before bytes c.requires.subvolume stands makes _
    (λ some names here known few.
    c.in_ok-name_those_put.ensures.named before bytes some names c.requires.subvolume here known few) in
    let nodes = c.in_ok-name_those_put.ensures.nodes in
    let edited = then-edited edits ino change files files_new old mid before bytes c.requires.subvolume stands makes
    nodes
    begun.done c.in_ok-name_those_put.ensures.heavier new c.args.reads.now c.edit_items.new.reads _
    (c.in_err-edit_items.ensures.told edits) in
    made-handed edits (length (c.args.change.now.named ++ option_to_list c.args.change.now.new))
    old new before items (named files_new) c.args.reads.now c.edit_items.new.reads
    c.from_residual-in_err-edit_items.result _
    (handed c.from_residual-in_err-edit_items.result _ c.from_residual-in_err-edit_items.ensures.1)
    (edit-failed edits ino change files files_new old mid before bytes c.requires.subvolume stands makes nodes
    begun.done c.in_ok-name_those_put.ensures.heavier
    new c.args.reads.now c.edit_items.new.reads _ edited)

pub returns-in_err-edit_items-clause-leaves : goal.returns-in_err-edit_items-clause-leaves
returns-in_err-edit_items-clause-leaves g c =
    let before = g.D.Disk.history c.args.disk.now in
    let bytes = g.D.Disk.size c.args.disk.now in
    leaves-then c.args.fs.now c.name_those_put.new.fs c.edit_items.new.fs before before
    (g.D.Disk.history c.edit_items.new.disk) bytes bytes (g.D.Disk.size c.edit_items.new.disk)
    (leaves-kept c.args.fs.now c.name_those_put.new.fs before bytes c.in_ok-name_those_put.ensures.nodes
    c.requires.subvolume) c.in_err-edit_items.ensures.leaves

-- ---- all is done

pub returns-clause-told : goal.returns-clause-told
returns-clause-told g c edits files files_new stands makes =
    let old = c.args.fs.now in
    let mid = c.name_those_put.new.fs in
    let edited = c.edit_items.new.fs in
    let new = c.unname_each-unnamed.new.fs in
    let ino = c.args.ino in
    let change = c.args.change.now in
    let before = g.D.Disk.history c.args.disk.now in
    let bytes = g.D.Disk.size c.args.disk.now in
    let after = g.D.Disk.history c.edit_items.new.disk in
    let left = g.D.Disk.size c.edit_items.new.disk in
    let leaves = c.in_ok-edit_items.ensures.leaves in
    let begun = first-named edits ino change files files_new old mid before bytes c.requires.subvolume stands makes _
    (λ some names here known few.
    c.in_ok-name_those_put.ensures.named before bytes some names c.requires.subvolume here known few) in
    let nodes = c.in_ok-name_those_put.ensures.nodes in
    let made = then-edited edits ino change files files_new old mid before bytes c.requires.subvolume stands makes nodes
    begun.done c.in_ok-name_those_put.ensures.heavier edited c.args.reads.now c.edit_items.new.reads _
    (c.in_ok-edit_items.ensures.told edits) in
    let unnamed = subst (λ (xs : List Piece). (some : List Item) (names : List (ℕ × Piece))
    → Stands edited after some (names_of ino xs ++ names)
    → AreCovered edited.tree.owner (filter_map name_told some) names
    → AreNamed edited new after some names c.unname_each-unnamed.result) c.as_slice.ensures
    (λ some names. c.unname_each-unnamed.ensures.unnamed after left some names leaves.subvolume) in
    last-unnamed edits ino change files files_new old mid before bytes c.requires.subvolume stands makes nodes
    begun.done c.in_ok-name_those_put.ensures.heavier
    edited new after left c.args.reads.now c.edit_items.new.reads c.unname_each-unnamed.result leaves.history
    leaves.subvolume
    c.unname_each-unnamed.ensures.nodes c.unname_each-unnamed.ensures.heavier made unnamed

pub returns-clause-leaves : goal.returns-clause-leaves
returns-clause-leaves g c =
    let before = g.D.Disk.history c.args.disk.now in
    let bytes = g.D.Disk.size c.args.disk.now in
    let after = g.D.Disk.history c.edit_items.new.disk in
    let left = g.D.Disk.size c.edit_items.new.disk in
    let leaves = c.in_ok-edit_items.ensures.leaves in
    leaves-then c.args.fs.now c.edit_items.new.fs c.unname_each-unnamed.new.fs before after after bytes left left
    (leaves-then c.args.fs.now c.name_those_put.new.fs c.edit_items.new.fs before before after bytes bytes left
    (leaves-kept c.args.fs.now c.name_those_put.new.fs before bytes c.in_ok-name_those_put.ensures.nodes
    c.requires.subvolume) leaves)
    (leaves-kept c.edit_items.new.fs c.unname_each-unnamed.new.fs after left c.unname_each-unnamed.ensures.nodes
    leaves.subvolume)

pub returns-clause-own : goal.returns-clause-own
returns-clause-own g c =
    let old = c.args.fs.now in
    let mid = c.name_those_put.new.fs in
    let edited = c.edit_items.new.fs in
    let new = c.unname_each-unnamed.new.fs in
    ok-known _ c.unname_each-unnamed.result
    (own-then old edited new
    (own-then old mid edited (own-kept old mid c.in_ok-name_those_put.ensures.nodes) c.in_ok-edit_items.ensures.own)
    (own-kept edited new c.unname_each-unnamed.ensures.nodes))

pub returns-clause-cause : goal.returns-clause-cause
returns-clause-cause g c =
    cause-other (g.D.Disk.faults c.args.disk.now) (g.D.Disk.faults c.edit_items.new.disk) c.unname_each-unnamed.result
    c.in_ok-edit_items.ensures.cause.fine c.unname_each-unnamed.ensures.fault

-- ---- over any disk

pub returns-in_err-name_those_put-clause-stops : goal.returns-in_err-name_those_put-clause-stops
returns-in_err-name_those_put-clause-stops g c =
    let sizes = c.args.fs.now.land.blocks.draft.sizes in
    let bytes = g.D.Disk.size c.args.disk.now in
    let fault = c.in_err-name_those_put.field-0.0 in
    stops-err (Unit {0}) c.from_residual.result fault sizes sizes bytes bytes c.from_residual.ensures.1 refl refl
    (stops-rule {A = Unit {0}} (Err fault) Refs sizes bytes misfit-refs c.in_err-name_those_put.ensures.refs)

pub returns-in_err-edit_items-clause-stops : goal.returns-in_err-edit_items-clause-stops
returns-in_err-edit_items-clause-stops g c =
    let residual = c.from_residual-in_err-edit_items in
    let bytes = g.D.Disk.size c.args.disk.now in
    let kept = leaves-kept c.args.fs.now c.name_those_put.new.fs (g.D.Disk.history c.args.disk.now) bytes
    c.in_ok-name_those_put.ensures.nodes c.requires.subvolume in
    stops-err (Unit {0}) residual.result c.in_err-edit_items.field-0.0
    c.name_those_put.new.fs.land.blocks.draft.sizes c.args.fs.now.land.blocks.draft.sizes bytes bytes
    residual.ensures.1 kept.node_sizes refl c.in_err-edit_items.ensures.stops

pub returns-clause-stops : goal.returns-clause-stops
returns-clause-stops g c =
    stops-rule c.unname_each-unnamed.result Refs c.args.fs.now.land.blocks.draft.sizes (g.D.Disk.size c.args.disk.now)
    misfit-refs c.unname_each-unnamed.ensures.refs
