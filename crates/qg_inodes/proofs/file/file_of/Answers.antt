use Rattle.std.proofs.Common.{List, ◌+◌, sym, ◌∙◌, arith}
use Rattle.std.specs.Prelude.{Option}
use Rattle.qg_num.specs.declared.piece.Piece.{Piece}
use Rattle.qg_items.specs.declared.file.InodeItem.{InodeItem}
use Rattle.qg_inodes.proofs.PiecesRead.{handed}
use Rattle.qg_inodes.proofs.WholeFile.{file-whole, files-after, handed-sound, steps-whole}
use Rattle.std.proofs.Common.{refl}
use Rattle.qg_inodes.proofs.Stopped.{pieces-err}
use Rattle.qg_inodes.proofs.file.file_of.Goals as goal

pub returns-in_err-inode-clause-sound : goal.returns-in_err-inode-clause-sound
returns-in_err-inode-clause-sound g c files tells =
    handed-sound (Option InodeItem) c.from_residual.result _ (handed c.from_residual.result _ c.from_residual.ensures.1)
    (c.in_err-inode.ensures.sound files tells)

pub returns-in_err-pieces-clause-sound : goal.returns-in_err-pieces-clause-sound
returns-in_err-pieces-clause-sound g c files tells =
    let after =
    files-after c.args.tree.now c.args.blocks.now c.inode_of.new.blocks (g.D.Disk.history c.args.disk.now)
    (g.D.Disk.history c.inode_of.new.disk) (g.D.Disk.size c.args.disk.now) (g.D.Disk.size c.inode_of.new.disk)
    c.in_ok-inode.ensures.read files tells
    in
    handed-sound (List Piece) c.from_residual-in_err-pieces.result _
    (handed c.from_residual-in_err-pieces.result _ c.from_residual-in_err-pieces.ensures.1)
    (c.in_err-pieces.ensures.sound files after)

pub returns-in_err-pieces-clause-reads : goal.returns-in_err-pieces-clause-reads
returns-in_err-pieces-clause-reads g c files tells =
    let after =
    files-after c.args.tree.now c.args.blocks.now c.inode_of.new.blocks (g.D.Disk.history c.args.disk.now)
    (g.D.Disk.history c.inode_of.new.disk) (g.D.Disk.size c.args.disk.now) (g.D.Disk.size c.inode_of.new.disk)
    c.in_ok-inode.ensures.read files tells
    in
    steps-whole c.args.tree.now c.args.blocks.now.draft (g.D.Disk.history c.args.disk.now) files tells c.args.ino
    (c.args.tree.now.height + 1) c.args.reads.now c.inode_of.new.reads c.pieces_meeting.new.reads
    (omega (arith, c.in_ok-inode.ensures.reads)) (c.in_err-pieces.ensures.reads files after)

pub returns-clause-found : goal.returns-clause-found
returns-clause-found g c files tells =
    let after =
    files-after c.args.tree.now c.args.blocks.now c.inode_of.new.blocks (g.D.Disk.history c.args.disk.now)
    (g.D.Disk.history c.inode_of.new.disk) (g.D.Disk.size c.args.disk.now) (g.D.Disk.size c.inode_of.new.disk)
    c.in_ok-inode.ensures.read files tells
    in
    file-whole c.args.tree.now c.args.blocks.now.draft (g.D.Disk.history c.args.disk.now) files tells c.args.ino
    c.in-Some.inode c.in_ok-pieces.pieces (sym c.in-Some.is ∙ c.in_ok-inode.ensures.found files tells)
    (c.in_ok-pieces.ensures.found files after)

pub returns-clause-reads : goal.returns-clause-reads
returns-clause-reads g c files tells =
    let after =
    files-after c.args.tree.now c.args.blocks.now c.inode_of.new.blocks (g.D.Disk.history c.args.disk.now)
    (g.D.Disk.history c.inode_of.new.disk) (g.D.Disk.size c.args.disk.now) (g.D.Disk.size c.inode_of.new.disk)
    c.in_ok-inode.ensures.read files tells
    in
    steps-whole c.args.tree.now c.args.blocks.now.draft (g.D.Disk.history c.args.disk.now) files tells c.args.ino
    (c.args.tree.now.height + 1) c.args.reads.now c.inode_of.new.reads c.pieces_meeting.new.reads
    (omega (arith, c.in_ok-inode.ensures.reads)) (c.in_ok-pieces.ensures.reads files after)

-- ---- over any disk

pub returns-in_err-inode-clause-stops : goal.returns-in_err-inode-clause-stops
returns-in_err-inode-clause-stops g c =
    let draft = c.args.blocks.now.draft in
    let bytes = g.D.Disk.size c.args.disk.now in
    pieces-err (Option InodeItem) c.from_residual.result c.args.tree.now draft draft bytes bytes
    c.in_err-inode.field-0.0 c.from_residual.ensures.1 refl refl c.in_err-inode.ensures.stops

pub returns-in_err-pieces-clause-stops : goal.returns-in_err-pieces-clause-stops
returns-in_err-pieces-clause-stops g c =
    let residual = c.from_residual-in_err-pieces in
    let read = c.in_ok-inode.ensures.read in
    pieces-err (List Piece) residual.result c.args.tree.now c.args.blocks.now.draft c.inode_of.new.blocks.draft
    (g.D.Disk.size c.args.disk.now) (g.D.Disk.size c.inode_of.new.disk) c.in_err-pieces.field-0.0 residual.ensures.1
    read.draft read.size c.in_err-pieces.ensures.stops
