use Rattle.std.proofs.Common.{◌<◌, ◌≤◌, arith}
use Rattle.qg_num.specs.declared.answer.Answer.TheVariants as answer
use Rattle.qg_num.specs.declared.command.Command.TheVariants.{Commit}
use Rattle.qg_num.specs.declared.refusal.Refusal.TheVariants as why
use Rattle.qg_machine.specs.Refusals.{last_generation}
use Rattle.qg_open_image.specs.Calls.{commit_calls, unsure_calls}
use Rattle.qg_open_image.specs.FsLawsKeeping.{other_names}
use Rattle.qg_open_image.proofs.PiecesRead.{handed}
use Rattle.qg_open_image.proofs.Reserve.{finds-planned}
use Rattle.qg_open_image.proofs.WholeFile.{handed-sound}
use Rattle.qg_image_commits.proofs.Cleaned.{looked-nothing}
use Rattle.qg_image_commits.proofs.Commits.{commits-step, does_idle, does_refuse, early-state, far-step, pending-state}
use Rattle.qg_image_commits.proofs.Intact.{ended-intact, intact-handed}
use Rattle.qg_image_commits.proofs.OnDisk.{on-disk, on-error}
use Rattle.qg_image_commits.proofs.committing.commit.Goals as goal

pub returns-then-kept-eq0-clause-step : goal.returns-then-kept-eq0-clause-step
returns-then-kept-eq0-clause-step g c = λ state events keeps told.
    let history = g.D.Disk.history c.args.disk.now in
    let kept = c.args.kept.now in
    on-disk state Commit (answer.Commit kept.superblock.generation) kept events history told
    (does_idle kept state history c.requires.kept.fitted keeps c.if-kept-eq0.true)

pub returns-then-value-gt-LAST_GENERATION-clause-step : goal.returns-then-value-gt-LAST_GENERATION-clause-step
returns-then-value-gt-LAST_GENERATION-clause-step g c = λ state events keeps told.
    let history = g.D.Disk.history c.args.disk.now in
    let kept = c.args.kept.now in
    on-disk state Commit (answer.Refused why.NoGeneration) kept events history told
    (does_refuse kept state history c.requires.kept.fitted keeps (omega (arith, c.if-kept-eq0.false))
    (omega (arith, c.value.ensures, c.if-value-gt-LAST_GENERATION.true)))

-- a commit finds its slots, as something is pending
pub returns-clause-step : goal.returns-clause-step
returns-clause-step g c = λ state events keeps told.
    let history = g.D.Disk.history c.args.disk.now in
    let some : 0 < c.args.kept.now.pending = omega (arith, c.if-kept-eq0.false) in
    let early : c.args.kept.now.superblock.generation ≤ last_generation
    = omega (arith, c.value.ensures, c.if-value-gt-LAST_GENERATION.false) in
    commits-step state events (g.D.Disk.history c.commit_now.new.disk)
    (pending-state c.args.kept.now state history keeps some)
    (early-state c.args.kept.now state history c.requires.kept.fitted keeps early) c.commit_now.new.kept
    c.in_ok-commit_now.ensures.kept.fitted
    (c.in_ok-commit_now.ensures.commits state events (other_names state) keeps
    (finds-planned c.args.kept.now c.requires.kept.fitted (keeps.reserved some)) told)

pub returns-clause-so_far : goal.returns-clause-so_far
returns-clause-so_far g c = λ state events keeps told.
    let history = g.D.Disk.history c.args.disk.now in
    let some : 0 < c.args.kept.now.pending = omega (arith, c.if-kept-eq0.false) in
    let early : c.args.kept.now.superblock.generation ≤ last_generation
    = omega (arith, c.value.ensures, c.if-value-gt-LAST_GENERATION.false) in
    far-step state events (g.D.Disk.history c.commit_now.new.disk)
    (pending-state c.args.kept.now state history keeps some)
    (early-state c.args.kept.now state history c.requires.kept.fitted keeps early) commit_calls
    (c.in_ok-commit_now.ensures.so_far state events (other_names state) keeps
    (finds-planned c.args.kept.now c.requires.kept.fitted (keeps.reserved some)) told)

pub returns-in_err-commit_now-clause-so_far : goal.returns-in_err-commit_now-clause-so_far
returns-in_err-commit_now-clause-so_far g c = λ state events keeps told.
    let history = g.D.Disk.history c.args.disk.now in
    let some : 0 < c.args.kept.now.pending = omega (arith, c.if-kept-eq0.false) in
    let early : c.args.kept.now.superblock.generation ≤ last_generation
    = omega (arith, c.value.ensures, c.if-value-gt-LAST_GENERATION.false) in
    far-step state events (g.D.Disk.history c.commit_now.new.disk)
    (pending-state c.args.kept.now state history keeps some)
    (early-state c.args.kept.now state history c.requires.kept.fitted keeps early) commit_calls
    (c.in_err-commit_now.ensures.so_far state events (other_names state) keeps
    (finds-planned c.args.kept.now c.requires.kept.fitted (keeps.reserved some)) told)

pub returns-in_err-commit_now-clause-sound : goal.returns-in_err-commit_now-clause-sound
returns-in_err-commit_now-clause-sound g c = λ state events told keeps.
    let some : 0 < c.args.kept.now.pending = omega (arith, c.if-kept-eq0.false) in
    handed-sound (Unit {0}) c.from_residual.result _ (handed c.from_residual.result _ c.from_residual.ensures.1)
    (c.in_err-commit_now.ensures.sound state events (other_names state) keeps
    (finds-planned c.args.kept.now c.requires.kept.fitted (keeps.reserved some)) told)

pub returns-then-kept-eq0-clause-idle : goal.returns-then-kept-eq0-clause-idle
returns-then-kept-eq0-clause-idle g c = λ none.
    looked-nothing c.args.kept.now (g.D.Disk.history c.args.disk.now) (g.D.Disk.size c.args.disk.now)

pub returns-then-kept-eq0-clause-refused : goal.returns-then-kept-eq0-clause-refused
returns-then-kept-eq0-clause-refused g c = λ is.
    looked-nothing c.args.kept.now (g.D.Disk.history c.args.disk.now) (g.D.Disk.size c.args.disk.now)

pub returns-then-value-gt-LAST_GENERATION-clause-idle : goal.returns-then-value-gt-LAST_GENERATION-clause-idle
returns-then-value-gt-LAST_GENERATION-clause-idle g c = λ none.
    looked-nothing c.args.kept.now (g.D.Disk.history c.args.disk.now) (g.D.Disk.size c.args.disk.now)

pub returns-then-value-gt-LAST_GENERATION-clause-refused : goal.returns-then-value-gt-LAST_GENERATION-clause-refused
returns-then-value-gt-LAST_GENERATION-clause-refused g c = λ is.
    looked-nothing c.args.kept.now (g.D.Disk.history c.args.disk.now) (g.D.Disk.size c.args.disk.now)

pub commit_now-requires-clause-early : goal.commit_now-requires-clause-early
commit_now-requires-clause-early g c = omega (arith, c.value.ensures, c.if-value-gt-LAST_GENERATION.false)

pub returns-in_err-commit_now-clause-intact : goal.returns-in_err-commit_now-clause-intact
returns-in_err-commit_now-clause-intact g c =
    intact-handed c.from_residual.result _ g.D.Disk.takes_memory _ _ _ _
    (handed c.from_residual.result _ c.from_residual.ensures.1) c.in_err-commit_now.ensures.intact

pub returns-then-kept-eq0-clause-intact : goal.returns-then-kept-eq0-clause-intact
returns-then-kept-eq0-clause-intact g c = ended-intact _ g.D.Disk.takes_memory _ _ _ _

pub returns-then-value-gt-LAST_GENERATION-clause-intact : goal.returns-then-value-gt-LAST_GENERATION-clause-intact
returns-then-value-gt-LAST_GENERATION-clause-intact g c = ended-intact _ g.D.Disk.takes_memory _ _ _ _

pub returns-clause-intact : goal.returns-clause-intact
returns-clause-intact g c = ended-intact _ g.D.Disk.takes_memory _ _ _ _

pub returns-in_err-commit_now-clause-err : goal.returns-in_err-commit_now-clause-err
returns-in_err-commit_now-clause-err g c =
    on-error c.from_residual.result _ (record {
      superblock = c.in_err-commit_now.ensures.err;
      unmade = λ state events keeps told.
          let history = g.D.Disk.history c.args.disk.now in
          let some : 0 < c.args.kept.now.pending = omega (arith, c.if-kept-eq0.false) in
          let early : c.args.kept.now.superblock.generation ≤ last_generation
          = omega (arith, c.value.ensures, c.if-value-gt-LAST_GENERATION.false) in
          far-step state events (g.D.Disk.history c.commit_now.new.disk)
          (pending-state c.args.kept.now state history keeps some)
          (early-state c.args.kept.now state history c.requires.kept.fitted keeps early) unsure_calls
          (c.in_err-commit_now.ensures.stops state events (other_names state) keeps
          (finds-planned c.args.kept.now c.requires.kept.fitted (keeps.reserved some)) told);
    })
