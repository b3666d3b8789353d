use Rattle.qg_open_image.proofs.Looked.{is-near, is-readable, kept-read, tells-files}
use Rattle.qg_open_image.specs.Files.{pieces_of}
use Rattle.qg_file_commands.proofs.Asked.{low, pieces-read}
use Rattle.qg_open_image.proofs.InodesStopped.{stops-pieces}
use Rattle.qg_file_commands.proofs.finding.pieces_in.Goals as goal

pub pieces_meeting-requires : goal.pieces_meeting-requires
pieces_meeting-requires g c = record {
  readable = is-readable c.args.kept.now (g.D.Disk.history c.args.disk.now) (g.D.Disk.size c.args.disk.now)
      c.requires.kept;
}

pub returns-clause-found : goal.returns-clause-found
returns-clause-found g c = λ files holds. c.pieces_meeting.ensures.found files
    (tells-files c.args.kept.now.fs (g.D.Disk.history c.args.disk.now) files holds
    (is-near c.args.kept.now c.requires.kept.fitted))

pub returns-clause-sound : goal.returns-clause-sound
returns-clause-sound g c = λ files holds. c.pieces_meeting.ensures.sound files
    (tells-files c.args.kept.now.fs (g.D.Disk.history c.args.disk.now) files holds
    (is-near c.args.kept.now c.requires.kept.fitted))

pub returns-clause-kept : goal.returns-clause-kept
returns-clause-kept g c =
    kept-read c.args.kept.now c.pieces_meeting.new.blocks (g.D.Disk.history c.args.disk.now)
    (g.D.Disk.history c.pieces_meeting.new.disk) (g.D.Disk.size c.args.disk.now)
    (g.D.Disk.size c.pieces_meeting.new.disk)
    c.requires.kept c.pieces_meeting.ensures.read c.pieces_meeting.ensures.readable

pub returns-clause-reads : goal.returns-clause-reads
returns-clause-reads g c = λ files holds.
    pieces-read c.args.reads.now c.pieces_meeting.new.reads c.args.kept.now.fs.tree.height c.args.from c.args.to
    (pieces_of c.args.ino files)
    (low c.args.kept.now (g.D.Disk.history c.args.disk.now) (g.D.Disk.size c.args.disk.now) files c.requires.kept holds)
    (c.pieces_meeting.ensures.reads files
    (tells-files c.args.kept.now.fs (g.D.Disk.history c.args.disk.now) files holds
    (is-near c.args.kept.now c.requires.kept.fitted)))

pub returns-clause-stops : goal.returns-clause-stops
returns-clause-stops g c =
    stops-pieces c.pieces_meeting.result c.args.kept.now.fs.tree c.args.kept.now.fs.land.blocks.draft
    (g.D.Disk.size c.args.disk.now) c.pieces_meeting.ensures.stops
