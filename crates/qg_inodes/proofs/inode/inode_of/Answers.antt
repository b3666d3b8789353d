use Rattle.std.proofs.Common.{◌≡◌, Some, None, sym, ap, ◌∙◌}
use Rattle.qg_items.specs.ItemReading.{inode_read}
use Rattle.qg_num.specs.declared.key.Key.{Key}
use Rattle.qg_tree_read.specs.Reading.{body_at}
use Rattle.qg_inodes.proofs.Answered.{inode-absent, inode-misread, inode-present, inode-read}
use Rattle.std.proofs.Common.{ℕ, refl}
use Rattle.std.specs.Prelude.{Err, List, Option}
use Rattle.qg_num.specs.declared.fault.BlockFault.{BlockFault}
use Rattle.qg_items.specs.declared.file.InodeItem.{InodeItem}
use Rattle.qg_inodes.proofs.Stopped.{pieces-unread, pieces-way}
use Rattle.qg_inodes.proofs.inode.inode_of.Goals as goal

pub returns-in_default-clause-found : goal.returns-in_default-clause-found
returns-in_default-clause-found g c files tells =
    let there = c.in_ok-body.ensures.found tells.items tells.tells in
    inode-absent c.args.tree.now c.args.blocks.now.draft (g.D.Disk.history c.args.disk.now) files tells c.args.ino
    (sym c.in_default.is ∙ there ∙ ap (λ (k : Key). body_at k tells.items) c.inode_key-key.ensures)

pub returns-in-Some-read_inode-clause-found : goal.returns-in-Some-read_inode-clause-found
returns-in-Some-read_inode-clause-found g c files tells =
    let there = c.in_ok-body.ensures.found tells.items tells.tells in
    inode-present c.args.tree.now c.args.blocks.now.draft (g.D.Disk.history c.args.disk.now) files tells c.args.ino
    c.in-Some.body c.in-Some-read_inode.inode
    (sym c.in-Some.is ∙ there ∙ ap (λ (k : Key). body_at k tells.items) c.inode_key-key.ensures)
    (c.in-Some-read_inode.ensures.exact ∙ ap inode_read c.as_slice.ensures)

pub returns-clause-sound : goal.returns-clause-sound
returns-clause-sound g c files tells =
    let there = c.in_ok-body.ensures.found tells.items tells.tells in
    absurd (inode-read c.args.tree.now c.args.blocks.now.draft (g.D.Disk.history c.args.disk.now) files tells c.args.ino
    c.in-Some.body
    (sym c.in-Some.is ∙ there ∙ ap (λ (k : Key). body_at k tells.items) c.inode_key-key.ensures)
    (c.in-None.ensures.exact ∙ ap inode_read c.as_slice.ensures))

pub returns-clause-broken : goal.returns-clause-broken
returns-clause-broken g c events history =
    inode-misread _ c.args.tree.now c.args.blocks.now.draft (g.D.Disk.history c.args.disk.now) events c.args.ino
    c.unread.result c.in-Some.body c.unread.ensures history
    (λ items tells.
    sym c.in-Some.is ∙ c.in_ok-body.ensures.found items tells
    ∙ ap (λ (k : Key). body_at k items) c.inode_key-key.ensures)
    (c.in-None.ensures.exact ∙ ap inode_read c.as_slice.ensures)

-- ---- over any disk

pub returns-in_err-body-clause-stops : goal.returns-in_err-body-clause-stops
returns-in_err-body-clause-stops g c =
    let draft = c.args.blocks.now.draft in
    let bytes = g.D.Disk.size c.args.disk.now in
    pieces-way (Option (List ℕ)) c.from_residual.result c.args.tree.now draft draft bytes bytes
    c.in_err-body.field-0.0 c.from_residual.ensures.1 refl refl c.in_err-body.ensures.stops

pub returns-clause-stops : goal.returns-clause-stops
returns-clause-stops g c =
    pieces-unread {A = Option InodeItem} (Err c.unread.result) c.args.tree.now c.args.blocks.now.draft
    (g.D.Disk.size c.args.disk.now) (ap (λ (f : BlockFault). Err f) c.unread.ensures)
