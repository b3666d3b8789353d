use Rattle.std.proofs.Common.{sym, subst}
use Rattle.std.specs.Prelude.{IsTrue, not}
use Rattle.std.specs.List.{filter_map}
use Rattle.qg_num.specs.declared.key.Key.{Key}
use Rattle.qg_node.specs.declared.item.Item.{Item}
use Rattle.qg_items.specs.ItemText.{extent_data_text}
use Rattle.qg_root_items.specs.Written.{extent_data_of}
use Rattle.qg_edit.specs.Edits.{has_key, with_item, without_key}
use Rattle.qg_file_edits.specs.declared.step.Step.{Step}
use Rattle.qg_file_edits.specs.Applying.{CanApply, after_step, key_at}
use Rattle.qg_file_edits.specs.Editing.{AreMade}
use Rattle.qg_shared_trees.specs.Standing.{name_told}
use Rattle.qg_file_edits.specs.Naming.{AreCovered}
use Rattle.qg_file_edits.proofs.Once.{put-as}
use Rattle.qg_file_edits.proofs.editing.take_step.Goals as goal

pub returns-in-Remove-clause-told : goal.returns-in-Remove-clause-told
returns-in-Remove-clause-told g c items names stands can covered =
    let old = c.args.fs.now in
    let new = c.take_out.new.fs in
    let before = g.D.Disk.history c.args.disk.now in
    subst (λ (s : Step). CanApply c.args.ino s items
    → AreCovered old.tree.owner (filter_map name_told (after_step c.args.ino s items)) names
    → AreMade 1 0 old new before (after_step c.args.ino s items) names
    c.args.reads.now c.take_out.new.reads c.take_out.result) (sym c.in-Remove.is)
    (λ there named. subst (λ (k : Key). IsTrue (has_key k items)
    → AreMade 1 0 old new before (without_key k items) names
    c.args.reads.now
    c.take_out.new.reads c.take_out.result) c.piece_key.ensures (c.take_out.ensures.told items names stands) there) can
    covered

pub returns-in-Insert-clause-told : goal.returns-in-Insert-clause-told
returns-in-Insert-clause-told g c items names stands can covered =
    let old = c.args.fs.now in
    let new = c.put_new.new.fs in
    let before = g.D.Disk.history c.args.disk.now in
    let piece = c.in-Insert.piece in
    subst (λ (s : Step). CanApply c.args.ino s items
    → AreCovered old.tree.owner (filter_map name_told (after_step c.args.ino s items)) names
    → AreMade 1 0 old new before (after_step c.args.ino s items) names
    c.args.reads.now c.put_new.new.reads c.put_new.result) (sym c.in-Insert.is)
    (put-as (λ (k : Key). IsTrue (not (has_key k items)))
    (λ (item : Item). AreCovered old.tree.owner (filter_map name_told (with_item item items)) names
    → AreMade 1 0 old new before (with_item item items) names c.args.reads.now c.put_new.new.reads
    c.put_new.result)
    c.piece_key-key.result (key_at c.args.ino piece.position) c.piece_bytes-bytes.result
    (extent_data_text (extent_data_of piece)) c.piece_key-key.ensures c.piece_bytes-bytes.ensures
    (c.put_new.ensures.told items names stands)) can covered

pub returns-in-Replace-clause-told : goal.returns-in-Replace-clause-told
returns-in-Replace-clause-told g c items names stands can covered =
    let old = c.args.fs.now in
    let new = c.put_again.new.fs in
    let before = g.D.Disk.history c.args.disk.now in
    let piece = c.in-Replace.piece in
    subst (λ (s : Step). CanApply c.args.ino s items
    → AreCovered old.tree.owner (filter_map name_told (after_step c.args.ino s items)) names
    → AreMade 1 0 old new before (after_step c.args.ino s items) names
    c.args.reads.now c.put_again.new.reads c.put_again.result) (sym c.in-Replace.is)
    (put-as (λ (k : Key). IsTrue (has_key k items))
    (λ (item : Item). AreCovered old.tree.owner (filter_map name_told (with_item item items)) names
    → AreMade 1 0 old new before (with_item item items) names c.args.reads.now c.put_again.new.reads
    c.put_again.result)
    c.piece_key-there.result (key_at c.args.ino piece.position) c.piece_bytes-text.result
    (extent_data_text (extent_data_of piece)) c.piece_key-there.ensures c.piece_bytes-text.ensures
    (c.put_again.ensures.told items names stands)) can covered

-- ---- over any disk

pub returns-in-Remove-clause-stops : goal.returns-in-Remove-clause-stops
returns-in-Remove-clause-stops g c = c.take_out.ensures.stops

pub returns-in-Insert-clause-stops : goal.returns-in-Insert-clause-stops
returns-in-Insert-clause-stops g c = c.put_new.ensures.stops

pub returns-in-Replace-clause-stops : goal.returns-in-Replace-clause-stops
returns-in-Replace-clause-stops g c = c.put_again.ensures.stops
