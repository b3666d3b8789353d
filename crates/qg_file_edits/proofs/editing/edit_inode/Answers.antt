use Rattle.std.proofs.Common.{sym, subst}
use Rattle.std.specs.Prelude.{IsTrue, not}
use Rattle.std.specs.List.{filter_map}
use Rattle.qg_num.specs.declared.key.Key.{Key}
use Rattle.qg_node.specs.declared.item.Item.{Item}
use Rattle.qg_items.specs.ItemText.{inode_text}
use Rattle.qg_edit.specs.Edits.{has_key, with_item, without_key}
use Rattle.qg_file_edits.specs.declared.inode.InodeEdit.{InodeEdit}
use Rattle.qg_file_edits.specs.Editing.{AreMade, CanEditInode, after_inode, inode_key}
use Rattle.qg_shared_trees.specs.Standing.{name_told}
use Rattle.qg_file_edits.specs.Naming.{AreCovered}
use Rattle.qg_file_edits.proofs.Once.{put-as}
use Rattle.qg_file_edits.proofs.editing.edit_inode.Goals as goal

pub returns-in-Remove-clause-told : goal.returns-in-Remove-clause-told
returns-in-Remove-clause-told g c items names stands can covered =
    let old = c.args.fs.now in
    let new = c.take_out.new.fs in
    let before = g.D.Disk.history c.args.disk.now in
    subst (λ (e : InodeEdit). CanEditInode c.args.ino e items
    → AreCovered old.tree.owner (filter_map name_told (after_inode c.args.ino e items)) names
    → AreMade 1 0 old new before (after_inode c.args.ino e items) names c.args.reads.now c.take_out.new.reads
    c.take_out.result) (sym c.in-Remove.is)
    (λ there named. subst (λ (k : Key). IsTrue (has_key k items)
    → AreMade 1 0 old new before (without_key k items) names
    c.args.reads.now
    c.take_out.new.reads c.take_out.result) c.inode_key-key.ensures (c.take_out.ensures.told items names stands) there)
    can covered

pub returns-in-Insert-clause-told : goal.returns-in-Insert-clause-told
returns-in-Insert-clause-told g c items names stands can covered =
    let old = c.args.fs.now in
    let new = c.put_new.new.fs in
    let before = g.D.Disk.history c.args.disk.now in
    subst (λ (e : InodeEdit). CanEditInode c.args.ino e items
    → AreCovered old.tree.owner (filter_map name_told (after_inode c.args.ino e items)) names
    → AreMade 1 0 old new before (after_inode c.args.ino e items) names c.args.reads.now c.put_new.new.reads
    c.put_new.result) (sym c.in-Insert.is)
    (put-as (λ (k : Key). IsTrue (not (has_key k items)))
    (λ (item : Item). AreCovered old.tree.owner (filter_map name_told (with_item item items)) names
    → AreMade 1 0 old new before (with_item item items) names c.args.reads.now c.put_new.new.reads
    c.put_new.result)
    c.inode_key-key.result (inode_key c.args.ino) c.inode_bytes-bytes.result (inode_text c.in-Insert.inode)
    c.inode_key-key.ensures c.inode_bytes-bytes.ensures
    (c.put_new.ensures.told items names stands)) can covered

pub returns-in-Replace-clause-told : goal.returns-in-Replace-clause-told
returns-in-Replace-clause-told g c items names stands can covered =
    let old = c.args.fs.now in
    let new = c.put_again.new.fs in
    let before = g.D.Disk.history c.args.disk.now in
    subst (λ (e : InodeEdit). CanEditInode c.args.ino e items
    → AreCovered old.tree.owner (filter_map name_told (after_inode c.args.ino e items)) names
    → AreMade 1 0 old new before (after_inode c.args.ino e items) names c.args.reads.now c.put_again.new.reads
    c.put_again.result) (sym c.in-Replace.is)
    (put-as (λ (k : Key). IsTrue (has_key k items))
    (λ (item : Item). AreCovered old.tree.owner (filter_map name_told (with_item item items)) names
    → AreMade 1 0 old new before (with_item item items) names c.args.reads.now c.put_again.new.reads
    c.put_again.result)
    c.inode_key-key.result (inode_key c.args.ino) c.inode_bytes-text.result (inode_text c.in-Replace.inode)
    c.inode_key-key.ensures c.inode_bytes-text.ensures
    (c.put_again.ensures.told items names stands)) can covered

-- ---- over any disk

pub returns-in-Remove-clause-stops : goal.returns-in-Remove-clause-stops
returns-in-Remove-clause-stops g c = c.take_out.ensures.stops

pub returns-in-Insert-clause-stops : goal.returns-in-Insert-clause-stops
returns-in-Insert-clause-stops g c = c.put_new.ensures.stops

pub returns-in-Replace-clause-stops : goal.returns-in-Replace-clause-stops
returns-in-Replace-clause-stops g c = c.put_again.ensures.stops
