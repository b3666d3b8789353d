use Rattle.std.proofs.Common.{List}
use Rattle.qg_num.specs.declared.piece.Piece.{Piece}
use Rattle.qg_open_image.proofs.PiecesRead.{handed}
use Rattle.qg_open_image.proofs.WholeFile.{handed-sound}
use Rattle.qg_open_image.proofs.Looked.{holds-looked}
use Rattle.qg_machine.specs.FileChange.{pieces_meeting}
use Rattle.qg_open_image.specs.Files.{pieces_of}
use Rattle.qg_file_commands.proofs.Asked.{found-read, inode-read}
use Rattle.std.specs.Prelude.{Option}
use Rattle.qg_items.specs.declared.file.InodeItem.{InodeItem}
use Rattle.qg_open_image.proofs.Stopped.{first-err, read-err}
use Rattle.qg_file_commands.proofs.finding.found_in.Goals as goal

pub returns-in_err-met-clause-sound : goal.returns-in_err-met-clause-sound
returns-in_err-met-clause-sound g c = λ files holds.
    let looked = c.in_ok-inode.ensures.looked in
    let still = holds-looked c.args.kept.now c.inode_in.new.kept _ _ _ _ files looked holds in
    handed-sound (List Piece) c.from_residual-in_err-met.result _
    (handed c.from_residual-in_err-met.result _ c.from_residual-in_err-met.ensures.1)
    (c.in_err-met.ensures.sound files still)

pub returns-clause-found : goal.returns-clause-found
returns-clause-found g c = λ files holds.
    let looked = c.in_ok-inode.ensures.looked in
    let still = holds-looked c.args.kept.now c.inode_in.new.kept _ _ _ _ files looked holds in
    record {
      inode = c.in_ok-inode.ensures.found files holds;
      met = c.in_ok-met.ensures.found files still;
    }

-- ---- how much is read

pub returns-in_err-inode-clause-reads : goal.returns-in_err-inode-clause-reads
returns-in_err-inode-clause-reads g c = λ files holds.
    inode-read c.args.reads.now c.inode_in.new.reads
    (pieces_meeting c.args.from c.args.to (pieces_of c.args.ino files))
    (c.in_err-inode.ensures.reads files holds)

pub returns-in_err-met-clause-reads : goal.returns-in_err-met-clause-reads
returns-in_err-met-clause-reads g c = λ files holds.
    let still = holds-looked c.args.kept.now c.inode_in.new.kept _ _ _ _ files c.in_ok-inode.ensures.looked holds in
    found-read c.args.reads.now c.inode_in.new.reads c.pieces_in.new.reads
    (pieces_meeting c.args.from c.args.to (pieces_of c.args.ino files))
    (c.in_ok-inode.ensures.reads files holds) (c.in_err-met.ensures.reads files still)

pub returns-clause-reads : goal.returns-clause-reads
returns-clause-reads g c = λ files holds.
    let still = holds-looked c.args.kept.now c.inode_in.new.kept _ _ _ _ files c.in_ok-inode.ensures.looked holds in
    found-read c.args.reads.now c.inode_in.new.reads c.pieces_in.new.reads
    (pieces_meeting c.args.from c.args.to (pieces_of c.args.ino files))
    (c.in_ok-inode.ensures.reads files holds) (c.in_ok-met.ensures.reads files still)

-- ---- over any disk

pub returns-in_err-inode-clause-stops : goal.returns-in_err-inode-clause-stops
returns-in_err-inode-clause-stops g c =
    first-err (Option InodeItem) c.from_residual.result c.in_err-inode.field-0.0 c.args.kept.now
    (g.D.Disk.size c.args.disk.now) c.from_residual.ensures.1 c.in_err-inode.ensures.stops

pub returns-in_err-met-clause-stops : goal.returns-in_err-met-clause-stops
returns-in_err-met-clause-stops g c =
    let residual = c.from_residual-in_err-met in
    read-err (List Piece) residual.result c.in_err-met.field-0.0 c.args.kept.now c.inode_in.new.kept
    (g.D.Disk.history c.args.disk.now) (g.D.Disk.history c.inode_in.new.disk) (g.D.Disk.size c.args.disk.now)
    (g.D.Disk.size c.inode_in.new.disk) residual.ensures.1 c.in_ok-inode.ensures.looked c.in_err-met.ensures.stops
