use Rattle.qg_open_image.proofs.Looked.{is-near, is-readable, kept-read, tells-files}
use Rattle.qg_file_commands.proofs.Asked.{low, way-reads}
use Rattle.qg_open_image.proofs.InodesStopped.{stops-pieces}
use Rattle.qg_file_commands.proofs.finding.inode_in.Goals as goal

pub inode_of-requires : goal.inode_of-requires
inode_of-requires g c = record {
  readable = is-readable c.args.kept.now (g.D.Disk.history c.args.disk.now) (g.D.Disk.size c.args.disk.now)
      c.requires.kept;
}

pub returns-clause-found : goal.returns-clause-found
returns-clause-found g c = λ files holds. c.inode_of.ensures.found files
    (tells-files c.args.kept.now.fs (g.D.Disk.history c.args.disk.now) files holds
    (is-near c.args.kept.now c.requires.kept.fitted))

pub returns-clause-sound : goal.returns-clause-sound
returns-clause-sound g c = λ files holds. c.inode_of.ensures.sound files
    (tells-files c.args.kept.now.fs (g.D.Disk.history c.args.disk.now) files holds
    (is-near c.args.kept.now c.requires.kept.fitted))

pub returns-clause-kept : goal.returns-clause-kept
returns-clause-kept g c =
    kept-read c.args.kept.now c.inode_of.new.blocks (g.D.Disk.history c.args.disk.now)
    (g.D.Disk.history c.inode_of.new.disk) (g.D.Disk.size c.args.disk.now) (g.D.Disk.size c.inode_of.new.disk)
    c.requires.kept c.inode_of.ensures.read c.inode_of.ensures.readable

pub returns-clause-reads : goal.returns-clause-reads
returns-clause-reads g c = λ files holds.
    way-reads c.args.reads.now c.inode_of.new.reads c.args.kept.now.fs.tree.height
    (low c.args.kept.now (g.D.Disk.history c.args.disk.now) (g.D.Disk.size c.args.disk.now) files c.requires.kept holds)
    c.inode_of.ensures.reads

pub returns-clause-stops : goal.returns-clause-stops
returns-clause-stops g c =
    stops-pieces c.inode_of.result c.args.kept.now.fs.tree c.args.kept.now.fs.land.blocks.draft
    (g.D.Disk.size c.args.disk.now) c.inode_of.ensures.stops
