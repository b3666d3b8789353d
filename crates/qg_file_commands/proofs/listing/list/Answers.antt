use Rattle.std.proofs.Common.{refl, sym, ◌∙◌}
use Rattle.std.specs.Prelude.{Option}
use Rattle.qg_image.specs.declared.file.File.{File}
use Rattle.qg_open_image.proofs.PiecesRead.{handed}
use Rattle.qg_open_image.proofs.WholeFile.{handed-sound}
use Rattle.qg_open_image.specs.FsLawsKeeping.{other_names}
use Rattle.qg_file_commands.proofs.Listed.{lists, lists-no-file, lists-no-sub}
use Rattle.qg_open_image.proofs.Looked.{is-near, is-readable, keeps-looked, kept-read, looked-read, tells-files}
use Rattle.qg_open_image.proofs.Looked.{with_blocks}
use Rattle.qg_open_image.proofs.Turned.{looked-turned}
use Rattle.std.specs.Prelude.{Err}
use Rattle.qg_open_image.proofs.InodesStopped.{stops-pieces}
use Rattle.qg_open_image.proofs.Stopped.{turned-err}
use Rattle.qg_file_commands.proofs.listing.list.Goals as goal

pub file_of-requires : goal.file_of-requires
file_of-requires g c = record {
  readable = is-readable c.turn_to.new.kept (g.D.Disk.history c.args.disk.now) (g.D.Disk.size c.args.disk.now)
      (c.turn_to.ensures.kept (g.D.Disk.history c.args.disk.now) (g.D.Disk.size c.args.disk.now) c.requires.kept);
}

pub returns-in_err-file-clause-kept : goal.returns-in_err-file-clause-kept
returns-in_err-file-clause-kept g c =
    kept-read c.turn_to.new.kept c.file_of.new.blocks (g.D.Disk.history c.args.disk.now)
    (g.D.Disk.history c.file_of.new.disk) (g.D.Disk.size c.args.disk.now) (g.D.Disk.size c.file_of.new.disk)
    (c.turn_to.ensures.kept (g.D.Disk.history c.args.disk.now) (g.D.Disk.size c.args.disk.now) c.requires.kept)
    c.in_err-file.ensures.read c.in_err-file.ensures.readable

pub returns-in_err-file-clause-sound : goal.returns-in_err-file-clause-sound
returns-in_err-file-clause-sound g c = λ state events told given.
    let keeps = c.turn_to.ensures.keeps state (g.D.Disk.history c.args.disk.now) (g.D.Disk.size c.args.disk.now)
    (other_names state) c.requires.kept given in
    handed-sound (Option File) c.from_residual.result _ (handed c.from_residual.result _ c.from_residual.ensures.1)
    (c.in_err-file.ensures.sound keeps.files
    (tells-files c.turn_to.new.kept.fs (g.D.Disk.history c.args.disk.now) keeps.files keeps.keeps.holds
    (is-near c.turn_to.new.kept (c.turn_to.ensures.kept (g.D.Disk.history c.args.disk.now)
    (g.D.Disk.size c.args.disk.now) c.requires.kept).fitted)))

pub returns-in-None-clause-kept : goal.returns-in-None-clause-kept
returns-in-None-clause-kept g c =
    kept-read c.turn_to.new.kept c.file_of.new.blocks (g.D.Disk.history c.args.disk.now)
    (g.D.Disk.history c.file_of.new.disk) (g.D.Disk.size c.args.disk.now) (g.D.Disk.size c.file_of.new.disk)
    (c.turn_to.ensures.kept (g.D.Disk.history c.args.disk.now) (g.D.Disk.size c.args.disk.now) c.requires.kept)
    c.in_ok-file.ensures.read c.in_ok-file.ensures.readable

pub returns-in-Some-clause-kept : goal.returns-in-Some-clause-kept
returns-in-Some-clause-kept g c =
    kept-read c.turn_to.new.kept c.file_of.new.blocks (g.D.Disk.history c.args.disk.now)
    (g.D.Disk.history c.file_of.new.disk) (g.D.Disk.size c.args.disk.now) (g.D.Disk.size c.file_of.new.disk)
    (c.turn_to.ensures.kept (g.D.Disk.history c.args.disk.now) (g.D.Disk.size c.args.disk.now) c.requires.kept)
    c.in_ok-file.ensures.read c.in_ok-file.ensures.readable

pub turn_to-requires : goal.turn_to-requires
turn_to-requires g c = record { fitted = c.requires.kept.fitted }

pub returns-then-not-turn_to-clause-kept : goal.returns-then-not-turn_to-clause-kept
returns-then-not-turn_to-clause-kept g c =
    c.turn_to.ensures.kept (g.D.Disk.history c.args.disk.now) (g.D.Disk.size c.args.disk.now) c.requires.kept

pub returns-then-not-turn_to-clause-step : goal.returns-then-not-turn_to-clause-step
returns-then-not-turn_to-clause-step g c = λ state keeps.
    let history = g.D.Disk.history c.args.disk.now in
    lists-no-sub c.args.kept.now c.turn_to.new.kept state history c.args.sub c.args.ino keeps
    (c.turn_to.ensures.keeps state history (g.D.Disk.size c.args.disk.now) (other_names state) c.requires.kept keeps)
    (sym c.turn_to.ensures.there ∙ c.if-not-turn_to.true)

pub returns-then-not-turn_to-clause-looked : goal.returns-then-not-turn_to-clause-looked
returns-then-not-turn_to-clause-looked g c = record { same = c.turn_to.ensures.same; history = refl; size = refl }

pub returns-in_err-file-clause-looked : goal.returns-in_err-file-clause-looked
returns-in_err-file-clause-looked g c =
    looked-turned c.args.kept.now c.turn_to.new.kept (with_blocks c.turn_to.new.kept c.file_of.new.blocks) _ _ _ _
    c.turn_to.ensures.same
    (looked-read c.turn_to.new.kept c.file_of.new.blocks _ _ _ _ c.in_err-file.ensures.read)

pub returns-in-None-clause-looked : goal.returns-in-None-clause-looked
returns-in-None-clause-looked g c =
    looked-turned c.args.kept.now c.turn_to.new.kept (with_blocks c.turn_to.new.kept c.file_of.new.blocks) _ _ _ _
    c.turn_to.ensures.same
    (looked-read c.turn_to.new.kept c.file_of.new.blocks _ _ _ _ c.in_ok-file.ensures.read)

pub returns-in-Some-clause-looked : goal.returns-in-Some-clause-looked
returns-in-Some-clause-looked g c =
    looked-turned c.args.kept.now c.turn_to.new.kept (with_blocks c.turn_to.new.kept c.file_of.new.blocks) _ _ _ _
    c.turn_to.ensures.same
    (looked-read c.turn_to.new.kept c.file_of.new.blocks _ _ _ _ c.in_ok-file.ensures.read)

pub returns-in-None-clause-step : goal.returns-in-None-clause-step
returns-in-None-clause-step g c = λ state given.
    let keeps = c.turn_to.ensures.keeps state (g.D.Disk.history c.args.disk.now) (g.D.Disk.size c.args.disk.now)
    (other_names state) c.requires.kept given in
    let before = g.D.Disk.history c.args.disk.now in
    let after = g.D.Disk.history c.file_of.new.disk in
    let kept = c.turn_to.new.kept in
    let tells = tells-files kept.fs before keeps.files keeps.keeps.holds
    (is-near kept (c.turn_to.ensures.kept (g.D.Disk.history c.args.disk.now) (g.D.Disk.size c.args.disk.now)
    c.requires.kept).fitted) in
    lists-no-file (with_blocks kept c.file_of.new.blocks) state after c.args.sub c.args.ino
    (keeps-looked kept (with_blocks kept c.file_of.new.blocks) before after (g.D.Disk.size c.args.disk.now)
    (g.D.Disk.size c.file_of.new.disk) state (other_names state)
    (looked-read kept c.file_of.new.blocks before after (g.D.Disk.size c.args.disk.now)
    (g.D.Disk.size c.file_of.new.disk) c.in_ok-file.ensures.read) keeps)
    (sym (c.turn_to.ensures.hand c.if-not-turn_to.false)) (sym (c.in_ok-file.ensures.found keeps.files tells)
    ∙ c.in-None.is)

pub returns-in-Some-clause-step : goal.returns-in-Some-clause-step
returns-in-Some-clause-step g c = λ state given.
    let keeps = c.turn_to.ensures.keeps state (g.D.Disk.history c.args.disk.now) (g.D.Disk.size c.args.disk.now)
    (other_names state) c.requires.kept given in
    let before = g.D.Disk.history c.args.disk.now in
    let after = g.D.Disk.history c.file_of.new.disk in
    let kept = c.turn_to.new.kept in
    let tells = tells-files kept.fs before keeps.files keeps.keeps.holds
    (is-near kept (c.turn_to.ensures.kept (g.D.Disk.history c.args.disk.now) (g.D.Disk.size c.args.disk.now)
    c.requires.kept).fitted) in
    lists (with_blocks kept c.file_of.new.blocks) state after c.args.sub c.args.ino
    (keeps-looked kept (with_blocks kept c.file_of.new.blocks) before after (g.D.Disk.size c.args.disk.now)
    (g.D.Disk.size c.file_of.new.disk) state (other_names state)
    (looked-read kept c.file_of.new.blocks before after (g.D.Disk.size c.args.disk.now)
    (g.D.Disk.size c.file_of.new.disk) c.in_ok-file.ensures.read) keeps)
    c.in-Some.file (sym (c.turn_to.ensures.hand c.if-not-turn_to.false))
    (sym (c.in_ok-file.ensures.found keeps.files tells) ∙ c.in-Some.is)

-- ---- over any disk

pub returns-in_err-file-clause-stops : goal.returns-in_err-file-clause-stops
returns-in_err-file-clause-stops g c =
    let bytes = g.D.Disk.size c.args.disk.now in
    let fault = c.in_err-file.field-0.0 in
    let kept = c.turn_to.new.kept in
    turned-err (Option File) c.from_residual.result fault c.args.kept.now kept bytes bytes c.from_residual.ensures.1
    c.turn_to.ensures.same refl
    (stops-pieces {A = Option File} (Err fault) kept.fs.tree kept.fs.land.blocks.draft bytes
    c.in_err-file.ensures.stops)
