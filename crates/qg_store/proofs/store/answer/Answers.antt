use Rattle.std.proofs.Common.{◌≡◌, ◌∙◌, ℕ, true, List, [], ap, inl, refl, rules, subst, sym}
use Rattle.std.specs.Prelude.{IfOk}
use Rattle.qg_num.specs.declared.command.Command.{Command}
use Rattle.qg_num.specs.declared.command.Command.TheVariants.{Clone, Commit, Delete, Ls, Owners, Show, Snap, SubCreate}
use Rattle.qg_num.specs.declared.command.Command.TheVariants.{Truncate, Unlink, Write}
use Rattle.qg_num.specs.declared.fault.BlockFault.TheVariants.{NoMemory}
use Rattle.qg_grammar.specs.ScriptText.{is_in_grammar}
use Rattle.qg_blocks.proofs.Broken.{broken-any, broken-then}
use Rattle.qg_image_commits.proofs.PiecesRead.{handed}
use Rattle.qg_image_commits.specs.Types.{OpenImage}
use Rattle.qg_image_commits.specs.Answering.{Answered, AnswersOn, IsDoneSoFar}
use Rattle.qg_image_commits.proofs.OnDisk.{each-given, last-always, last-given, last-same, on-disk, so-far-commit}
use Rattle.qg_image_commits.proofs.OnDisk.{still-commit, still-structural, unchanged-looked}
use Rattle.qg_store.proofs.StepsOfCommand.{asks-given, asks-grouped}
use Rattle.qg_file_commands.specs.Reading.{AsksForFew}
use Rattle.qg_image_commits.proofs.Stopped.{stops-stored}
use Rattle.qg_store.proofs.Served.{inode_told, target_told}
use Rattle.qg_store.proofs.Shown.{does_show}
use Rattle.qg_store.proofs.Stopped.{read-memory}
use Rattle.qg_store.proofs.Structured.{intact-given}
use Rattle.qg_store.proofs.store.answer.Goals as goal

-- ---- a write

pub write-requires-clause-least : goal.write-requires-clause-least
write-requires-clause-least g c =
    let at = c.in-Write in
    (inode_told at.sub at.ino at.off at.len
    (subst (λ (command : Command). is_in_grammar command ≡ true) at.is c.requires.numbers)).0

pub write-requires-clause-below : goal.write-requires-clause-below
write-requires-clause-below g c =
    let at = c.in-Write in
    (inode_told at.sub at.ino at.off at.len
    (subst (λ (command : Command). is_in_grammar command ≡ true) at.is c.requires.numbers)).1

pub returns-in-Write-clause-step : goal.returns-in-Write-clause-step
returns-in-Write-clause-step g c = λ state events keeps told.
    let at = c.in-Write in
    each-given state c.args.command.now (Write at.sub at.ino at.off at.len) c.write.result c.write.new.kept events
    (g.D.Disk.history c.write.new.disk) at.is (c.write.ensures.apart.0 ∙ told) (c.write.ensures.step state keeps)

pub returns-in-Write-clause-so_far : goal.returns-in-Write-clause-so_far
returns-in-Write-clause-so_far g c = λ state events keeps told. inl (c.write.ensures.apart.0 ∙ told)

pub returns-in-Write-clause-unchanged : goal.returns-in-Write-clause-unchanged
returns-in-Write-clause-unchanged g c =
    unchanged-looked c.write.result c.args.kept.now c.write.new.kept _ _ _ _ c.write.ensures.apart.0
    c.write.ensures.apart.1 c.write.ensures.unchanged

-- ---- a clone

pub clone-requires-clause-least : goal.clone-requires-clause-least
clone-requires-clause-least g c =
    let at = c.in-Clone in
    (target_told at.sub at.ino at.off at.len at.to_sub at.to_ino at.to_off
    (subst (λ (command : Command). is_in_grammar command ≡ true) at.is c.requires.numbers)).0

pub clone-requires-clause-below : goal.clone-requires-clause-below
clone-requires-clause-below g c =
    let at = c.in-Clone in
    (target_told at.sub at.ino at.off at.len at.to_sub at.to_ino at.to_off
    (subst (λ (command : Command). is_in_grammar command ≡ true) at.is c.requires.numbers)).1

pub returns-in-Clone-clause-step : goal.returns-in-Clone-clause-step
returns-in-Clone-clause-step g c = λ state events keeps told.
    let at = c.in-Clone in
    each-given state c.args.command.now (Clone at.sub at.ino at.off at.len at.to_sub at.to_ino at.to_off) c.clone.result
    c.clone.new.kept events (g.D.Disk.history c.clone.new.disk) at.is (c.clone.ensures.apart.0 ∙ told)
    (c.clone.ensures.step state keeps)

pub returns-in-Clone-clause-so_far : goal.returns-in-Clone-clause-so_far
returns-in-Clone-clause-so_far g c = λ state events keeps told. inl (c.clone.ensures.apart.0 ∙ told)

pub returns-in-Clone-clause-unchanged : goal.returns-in-Clone-clause-unchanged
returns-in-Clone-clause-unchanged g c =
    unchanged-looked c.clone.result c.args.kept.now c.clone.new.kept _ _ _ _ c.clone.ensures.apart.0
    c.clone.ensures.apart.1 c.clone.ensures.unchanged

-- ---- a size

pub returns-in-Truncate-clause-step : goal.returns-in-Truncate-clause-step
returns-in-Truncate-clause-step g c = λ state events keeps told.
    let at = c.in-Truncate in
    each-given state c.args.command.now (Truncate at.sub at.ino at.size) c.truncate.result c.truncate.new.kept events
    (g.D.Disk.history c.truncate.new.disk) at.is (c.truncate.ensures.apart.0 ∙ told)
    (c.truncate.ensures.step state keeps)

pub returns-in-Truncate-clause-so_far : goal.returns-in-Truncate-clause-so_far
returns-in-Truncate-clause-so_far g c = λ state events keeps told. inl (c.truncate.ensures.apart.0 ∙ told)

pub returns-in-Truncate-clause-unchanged : goal.returns-in-Truncate-clause-unchanged
returns-in-Truncate-clause-unchanged g c =
    unchanged-looked c.truncate.result c.args.kept.now c.truncate.new.kept _ _ _ _ c.truncate.ensures.apart.0
    c.truncate.ensures.apart.1 c.truncate.ensures.unchanged

-- ---- a file that goes

pub returns-in-Unlink-clause-step : goal.returns-in-Unlink-clause-step
returns-in-Unlink-clause-step g c = λ state events keeps told.
    let at = c.in-Unlink in
    each-given state c.args.command.now (Unlink at.sub at.ino) c.unlink.result c.unlink.new.kept events
    (g.D.Disk.history c.unlink.new.disk) at.is (c.unlink.ensures.apart.0 ∙ told) (c.unlink.ensures.step state keeps)

pub returns-in-Unlink-clause-so_far : goal.returns-in-Unlink-clause-so_far
returns-in-Unlink-clause-so_far g c = λ state events keeps told. inl (c.unlink.ensures.apart.0 ∙ told)

pub returns-in-Unlink-clause-unchanged : goal.returns-in-Unlink-clause-unchanged
returns-in-Unlink-clause-unchanged g c =
    unchanged-looked c.unlink.result c.args.kept.now c.unlink.new.kept _ _ _ _ c.unlink.ensures.apart.0
    c.unlink.ensures.apart.1 c.unlink.ensures.unchanged

-- ---- what is asked

pub returns-in_ok-show-in-Show-clause-step : goal.returns-in_ok-show-in-Show-clause-step
returns-in_ok-show-in-Show-clause-step g c = λ state events keeps told.
    let shown = c.in_ok-show-in-Show.field-0 in
    let history = g.D.Disk.history c.args.disk.now in
    subst (λ (command : Command). AnswersOn state command shown c.args.kept.now events history) (sym c.in-Show.is)
    (on-disk state Show shown c.args.kept.now events history told
    (does_show c.args.kept.now state shown history keeps c.in_ok-show-in-Show.ensures))

pub returns-in-Ls-clause-step : goal.returns-in-Ls-clause-step
returns-in-Ls-clause-step g c = λ state events keeps told.
    let at = c.in-Ls in
    each-given state c.args.command.now (Ls at.sub at.ino) c.list.result c.list.new.kept events
    (g.D.Disk.history c.list.new.disk) at.is (c.list.ensures.looked.history ∙ told) (c.list.ensures.step state keeps)

pub returns-in-Ls-clause-so_far : goal.returns-in-Ls-clause-so_far
returns-in-Ls-clause-so_far g c = λ state events keeps told. inl (c.list.ensures.looked.history ∙ told)

pub returns-in-Ls-clause-still : goal.returns-in-Ls-clause-still
returns-in-Ls-clause-still g c = λ none. (c.list.ensures.looked.history, c.list.ensures.looked.size)

pub returns-in-Ls-clause-err : goal.returns-in-Ls-clause-err
returns-in-Ls-clause-err g c =
    last-always c.args.command.now c.args.kept.now c.list.new.kept (g.D.Disk.history c.args.disk.now)
    (g.D.Disk.history c.list.new.disk) c.list.result
    (ap (λ (kept : OpenImage). kept.superblock) c.list.ensures.looked.same.rest) c.list.ensures.looked.history

-- ---- owners

pub returns-in-Owners-clause-step : goal.returns-in-Owners-clause-step
returns-in-Owners-clause-step g c = λ state events keeps told.
    each-given state c.args.command.now (Owners c.in-Owners.address) c.owners.result c.owners.new.kept events
    (g.D.Disk.history c.owners.new.disk) c.in-Owners.is (c.owners.ensures.looked.history ∙ told)
    (subst (λ (at : ℕ). IfOk c.owners.result (λ answer. Answered state (Owners at) answer [] c.owners.new.kept
    (g.D.Disk.history c.owners.new.disk))) c.new.ensures (c.owners.ensures.step state keeps))

pub returns-in-Owners-clause-so_far : goal.returns-in-Owners-clause-so_far
returns-in-Owners-clause-so_far g c = λ state events keeps told. inl (c.owners.ensures.looked.history ∙ told)

pub returns-in-Owners-clause-still : goal.returns-in-Owners-clause-still
returns-in-Owners-clause-still g c = λ none. (c.owners.ensures.looked.history, c.owners.ensures.looked.size)

pub returns-in-Owners-clause-err : goal.returns-in-Owners-clause-err
returns-in-Owners-clause-err g c =
    last-always c.args.command.now c.args.kept.now c.owners.new.kept (g.D.Disk.history c.args.disk.now)
    (g.D.Disk.history c.owners.new.disk) c.owners.result
    (ap (λ (kept : OpenImage). kept.superblock) c.owners.ensures.looked.same.rest) c.owners.ensures.looked.history

-- ---- a commit

pub returns-in-Commit-clause-so_far : goal.returns-in-Commit-clause-so_far
returns-in-Commit-clause-so_far g c = λ state events keeps told.
    so-far-commit state c.args.command.now events (g.D.Disk.history c.commit.new.disk) c.in-Commit.is
    (c.commit.ensures.so_far state events keeps told)

pub returns-in-Commit-clause-still : goal.returns-in-Commit-clause-still
returns-in-Commit-clause-still g c =
    still-commit c.args.kept.now c.commit.new.kept _ _ _ _ c.args.command.now c.in-Commit.is c.commit.ensures.idle

pub returns-in-Commit-clause-err : goal.returns-in-Commit-clause-err
returns-in-Commit-clause-err g c =
    last-same c.args.command.now c.args.kept.now c.commit.new.kept (g.D.Disk.history c.args.disk.now)
    (g.D.Disk.history c.commit.new.disk) c.commit.result c.commit.ensures.err

-- ---- structural commands

pub returns-in-SubCreate-clause-step : goal.returns-in-SubCreate-clause-step
returns-in-SubCreate-clause-step g c = λ state events keeps told.
    subst (λ (command : Command). IfOk c.create.result
    (λ answer. AnswersOn state command answer c.create.new.kept events
    (g.D.Disk.history c.create.new.disk))) (sym c.in-SubCreate.is) (c.create.ensures.step state events keeps told)

pub returns-in-SubCreate-clause-so_far : goal.returns-in-SubCreate-clause-so_far
returns-in-SubCreate-clause-so_far g c = λ state events keeps told.
    subst (λ (command : Command). IsDoneSoFar state command events (g.D.Disk.history c.create.new.disk))
    (sym c.in-SubCreate.is) (c.create.ensures.so_far state events keeps told)

pub returns-in-SubCreate-clause-unchanged : goal.returns-in-SubCreate-clause-unchanged
returns-in-SubCreate-clause-unchanged g c = c.create.ensures.refused

pub returns-in-SubCreate-clause-still : goal.returns-in-SubCreate-clause-still
returns-in-SubCreate-clause-still g c =
    still-structural c.args.command.now SubCreate c.args.kept.now.pending _ c.in-SubCreate.is refl (λ same. cc)

pub returns-in-SubCreate-clause-err : goal.returns-in-SubCreate-clause-err
returns-in-SubCreate-clause-err g c =
    last-given c.args.command.now SubCreate c.args.kept.now c.create.new.kept _ _ c.create.result c.in-SubCreate.is
    c.create.ensures.err

pub returns-in-Snap-clause-step : goal.returns-in-Snap-clause-step
returns-in-Snap-clause-step g c = λ state events keeps told.
    let at = c.in-Snap in
    let is : c.args.command.now ≡ Snap at.sub c.as_slice.result.now =
    at.is ∙ ap (λ (groups : List ℕ). Snap at.sub groups) (sym c.as_slice.ensures) in
    subst (λ (command : Command). IfOk c.snap.result (λ answer. AnswersOn state command answer c.snap.new.kept events
    (g.D.Disk.history c.snap.new.disk))) (sym is) (c.snap.ensures.step state events keeps told)

pub returns-in-Snap-clause-so_far : goal.returns-in-Snap-clause-so_far
returns-in-Snap-clause-so_far g c = λ state events keeps told.
    let at = c.in-Snap in
    let is : c.args.command.now ≡ Snap at.sub c.as_slice.result.now =
    at.is ∙ ap (λ (groups : List ℕ). Snap at.sub groups) (sym c.as_slice.ensures) in
    subst (λ (command : Command). IsDoneSoFar state command events (g.D.Disk.history c.snap.new.disk)) (sym is)
    (c.snap.ensures.so_far state events keeps told)

pub returns-in-Snap-clause-unchanged : goal.returns-in-Snap-clause-unchanged
returns-in-Snap-clause-unchanged g c = c.snap.ensures.refused

pub returns-in-Snap-clause-still : goal.returns-in-Snap-clause-still
returns-in-Snap-clause-still g c =
    still-structural c.args.command.now (Snap c.in-Snap.sub c.in-Snap.groups) c.args.kept.now.pending _ c.in-Snap.is
    refl
    (λ same. cc)

pub returns-in-Snap-clause-err : goal.returns-in-Snap-clause-err
returns-in-Snap-clause-err g c =
    let at = c.in-Snap in
    let is : c.args.command.now ≡ Snap at.sub c.as_slice.result.now =
    at.is ∙ ap (λ (groups : List ℕ). Snap at.sub groups) (sym c.as_slice.ensures) in
    last-given c.args.command.now (Snap at.sub c.as_slice.result.now) c.args.kept.now c.snap.new.kept _ _ c.snap.result
    is
    c.snap.ensures.err

pub returns-in-Delete-clause-step : goal.returns-in-Delete-clause-step
returns-in-Delete-clause-step g c = λ state events keeps told.
    subst (λ (command : Command). IfOk c.delete.result
    (λ answer. AnswersOn state command answer c.delete.new.kept events
    (g.D.Disk.history c.delete.new.disk))) (sym c.in-Delete.is) (c.delete.ensures.step state events keeps told)

pub returns-in-Delete-clause-so_far : goal.returns-in-Delete-clause-so_far
returns-in-Delete-clause-so_far g c = λ state events keeps told.
    subst (λ (command : Command). IsDoneSoFar state command events (g.D.Disk.history c.delete.new.disk))
    (sym c.in-Delete.is) (c.delete.ensures.so_far state events keeps told)

pub returns-in-Delete-clause-unchanged : goal.returns-in-Delete-clause-unchanged
returns-in-Delete-clause-unchanged g c = c.delete.ensures.refused

pub returns-in-Delete-clause-still : goal.returns-in-Delete-clause-still
returns-in-Delete-clause-still g c =
    still-structural c.args.command.now (Delete c.in-Delete.sub) c.args.kept.now.pending _ c.in-Delete.is refl
    (λ same. cc)

pub returns-in-Delete-clause-err : goal.returns-in-Delete-clause-err
returns-in-Delete-clause-err g c =
    last-given c.args.command.now (Delete c.in-Delete.sub) c.args.kept.now c.delete.new.kept _ _ c.delete.result
    c.in-Delete.is c.delete.ensures.err

pub returns-in-Write-clause-still : goal.returns-in-Write-clause-still
returns-in-Write-clause-still g c = λ none. c.write.ensures.apart

pub returns-in-Write-clause-err : goal.returns-in-Write-clause-err
returns-in-Write-clause-err g c =
    last-always c.args.command.now c.args.kept.now c.write.new.kept (g.D.Disk.history c.args.disk.now)
    (g.D.Disk.history c.write.new.disk) c.write.result c.write.ensures.superblock c.write.ensures.apart.0

pub returns-in-Clone-clause-still : goal.returns-in-Clone-clause-still
returns-in-Clone-clause-still g c = λ none. c.clone.ensures.apart

pub returns-in-Clone-clause-err : goal.returns-in-Clone-clause-err
returns-in-Clone-clause-err g c =
    last-always c.args.command.now c.args.kept.now c.clone.new.kept (g.D.Disk.history c.args.disk.now)
    (g.D.Disk.history c.clone.new.disk) c.clone.result c.clone.ensures.superblock c.clone.ensures.apart.0

pub returns-in-Truncate-clause-still : goal.returns-in-Truncate-clause-still
returns-in-Truncate-clause-still g c = λ none. c.truncate.ensures.apart

pub returns-in-Truncate-clause-err : goal.returns-in-Truncate-clause-err
returns-in-Truncate-clause-err g c =
    last-always c.args.command.now c.args.kept.now c.truncate.new.kept (g.D.Disk.history c.args.disk.now)
    (g.D.Disk.history c.truncate.new.disk) c.truncate.result c.truncate.ensures.superblock c.truncate.ensures.apart.0

pub returns-in-Unlink-clause-still : goal.returns-in-Unlink-clause-still
returns-in-Unlink-clause-still g c = λ none. c.unlink.ensures.apart

pub returns-in-Unlink-clause-err : goal.returns-in-Unlink-clause-err
returns-in-Unlink-clause-err g c =
    last-always c.args.command.now c.args.kept.now c.unlink.new.kept (g.D.Disk.history c.args.disk.now)
    (g.D.Disk.history c.unlink.new.disk) c.unlink.result c.unlink.ensures.superblock c.unlink.ensures.apart.0

-- ---- a rule of the image is found broken

pub returns-in-Write-clause-intact : goal.returns-in-Write-clause-intact
returns-in-Write-clause-intact g c = record {
  intact = broken-any c.write.result _ (inl c.write.ensures.apart.0);
  cause = stops-stored c.write.result c.args.kept.now (g.D.Disk.size c.args.disk.now)
      c.requires.kept.fitted c.write.ensures.stops;
}

pub returns-in-Clone-clause-intact : goal.returns-in-Clone-clause-intact
returns-in-Clone-clause-intact g c = record {
  intact = broken-any c.clone.result _ (inl c.clone.ensures.apart.0);
  cause = stops-stored c.clone.result c.args.kept.now (g.D.Disk.size c.args.disk.now)
      c.requires.kept.fitted c.clone.ensures.stops;
}

pub returns-in-Truncate-clause-intact : goal.returns-in-Truncate-clause-intact
returns-in-Truncate-clause-intact g c = record {
  intact = broken-any c.truncate.result _ (inl c.truncate.ensures.apart.0);
  cause = stops-stored c.truncate.result c.args.kept.now (g.D.Disk.size c.args.disk.now)
      c.requires.kept.fitted c.truncate.ensures.stops;
}

pub returns-in-Unlink-clause-intact : goal.returns-in-Unlink-clause-intact
returns-in-Unlink-clause-intact g c = record {
  intact = broken-any c.unlink.result _ (inl c.unlink.ensures.apart.0);
  cause = stops-stored c.unlink.result c.args.kept.now (g.D.Disk.size c.args.disk.now)
      c.requires.kept.fitted c.unlink.ensures.stops;
}

pub returns-in-Ls-clause-intact : goal.returns-in-Ls-clause-intact
returns-in-Ls-clause-intact g c = record {
  intact = broken-any c.list.result _ (inl c.list.ensures.looked.history);
  cause = stops-stored c.list.result c.args.kept.now (g.D.Disk.size c.args.disk.now)
      c.requires.kept.fitted c.list.ensures.stops;
}

pub returns-in-Owners-clause-intact : goal.returns-in-Owners-clause-intact
returns-in-Owners-clause-intact g c = record {
  intact = broken-any c.owners.result _ (inl c.owners.ensures.looked.history);
  cause = stops-stored c.owners.result c.args.kept.now (g.D.Disk.size c.args.disk.now)
      c.requires.kept.fitted c.owners.ensures.stops;
}

pub returns-in_ok-show-in-Show-clause-intact : goal.returns-in_ok-show-in-Show-clause-intact
returns-in_ok-show-in-Show-clause-intact g c = record { intact = tt; cause = tt }

pub returns-in_err-show-in-Show-clause-intact : goal.returns-in_err-show-in-Show-clause-intact
returns-in_err-show-in-Show-clause-intact g c =
    read-memory c.from_residual.result c.args.command.now c.args.kept.now c.args.kept.now _ _
    (g.D.Disk.size c.args.disk.now) (handed c.from_residual.result NoMemory c.from_residual.ensures.1)

pub returns-in-Commit-clause-intact : goal.returns-in-Commit-clause-intact
returns-in-Commit-clause-intact g c = record {
  intact = broken-then c.commit.result _ _ (λ same. inl same) c.commit.ensures.intact.broken;
  cause = stops-stored c.commit.result c.args.kept.now (g.D.Disk.size c.args.disk.now)
      c.requires.kept.fitted c.commit.ensures.intact.cause;
}

pub returns-in-SubCreate-clause-intact : goal.returns-in-SubCreate-clause-intact
returns-in-SubCreate-clause-intact g c = record {
  intact = intact-given c.args.command.now SubCreate c.args.kept.now c.create.new.kept _ _ c.create.result
      c.in-SubCreate.is c.create.ensures.intact;
  cause = c.create.ensures.stops;
}

pub returns-in-Snap-clause-intact : goal.returns-in-Snap-clause-intact
returns-in-Snap-clause-intact g c =
    let at = c.in-Snap in
    record {
      intact = intact-given c.args.command.now (Snap at.sub c.as_slice.result.now) c.args.kept.now c.snap.new.kept _ _
          c.snap.result (at.is ∙ ap (λ (groups : List ℕ). Snap at.sub groups) (sym c.as_slice.ensures))
          c.snap.ensures.intact;
      cause = c.snap.ensures.stops;
    }

pub returns-in-Delete-clause-intact : goal.returns-in-Delete-clause-intact
returns-in-Delete-clause-intact g c = record {
  intact = intact-given c.args.command.now (Delete c.in-Delete.sub) c.args.kept.now c.delete.new.kept _ _
      c.delete.result c.in-Delete.is c.delete.ensures.intact;
  cause = c.delete.ensures.stops;
}

-- ---- how much is read

pub returns-in-Write-clause-reads : goal.returns-in-Write-clause-reads
returns-in-Write-clause-reads g c =
    subst (λ (command : Command). IfOk c.write.result (λ answer. AsksForFew c.args.kept.now
    (g.D.Disk.history c.args.disk.now) command answer c.args.reads.now c.write.new.reads)) (sym c.in-Write.is)
    c.write.ensures.reads

pub returns-in-Clone-clause-reads : goal.returns-in-Clone-clause-reads
returns-in-Clone-clause-reads g c =
    subst (λ (command : Command). IfOk c.clone.result (λ answer. AsksForFew c.args.kept.now
    (g.D.Disk.history c.args.disk.now) command answer c.args.reads.now c.clone.new.reads)) (sym c.in-Clone.is)
    c.clone.ensures.reads

pub returns-in-Truncate-clause-reads : goal.returns-in-Truncate-clause-reads
returns-in-Truncate-clause-reads g c =
    subst (λ (command : Command). IfOk c.truncate.result (λ answer. AsksForFew c.args.kept.now
    (g.D.Disk.history c.args.disk.now) command answer c.args.reads.now c.truncate.new.reads)) (sym c.in-Truncate.is)
    c.truncate.ensures.reads

pub returns-in-Unlink-clause-reads : goal.returns-in-Unlink-clause-reads
returns-in-Unlink-clause-reads g c =
    subst (λ (command : Command). IfOk c.unlink.result (λ answer. AsksForFew c.args.kept.now
    (g.D.Disk.history c.args.disk.now) command answer c.args.reads.now c.unlink.new.reads)) (sym c.in-Unlink.is)
    c.unlink.ensures.reads

pub returns-in-Commit-clause-reads : goal.returns-in-Commit-clause-reads
returns-in-Commit-clause-reads g c =
    asks-given c.commit.result c.args.kept.now (g.D.Disk.history c.args.disk.now) c.args.command.now Commit _ _
    c.in-Commit.is refl

pub returns-in-SubCreate-clause-reads : goal.returns-in-SubCreate-clause-reads
returns-in-SubCreate-clause-reads g c =
    asks-given c.create.result c.args.kept.now (g.D.Disk.history c.args.disk.now) c.args.command.now SubCreate _ _
    c.in-SubCreate.is refl

pub returns-in-Snap-clause-reads : goal.returns-in-Snap-clause-reads
returns-in-Snap-clause-reads g c =
    asks-given c.snap.result c.args.kept.now (g.D.Disk.history c.args.disk.now) c.args.command.now
    (Snap c.in-Snap.sub c.in-Snap.groups) _ _
    c.in-Snap.is refl

pub returns-in-Delete-clause-reads : goal.returns-in-Delete-clause-reads
returns-in-Delete-clause-reads g c =
    asks-given c.delete.result c.args.kept.now (g.D.Disk.history c.args.disk.now) c.args.command.now
    (Delete c.in-Delete.sub) _ _
    c.in-Delete.is refl

pub returns-in-Ls-clause-reads : goal.returns-in-Ls-clause-reads
returns-in-Ls-clause-reads g c =
    asks-given c.list.result c.args.kept.now (g.D.Disk.history c.args.disk.now) c.args.command.now
    (Ls c.in-Ls.sub c.in-Ls.ino) _ _
    c.in-Ls.is refl

pub returns-in-Owners-clause-reads : goal.returns-in-Owners-clause-reads
returns-in-Owners-clause-reads g c =
    asks-given c.owners.result c.args.kept.now (g.D.Disk.history c.args.disk.now) c.args.command.now
    (Owners c.in-Owners.address) _ _
    c.in-Owners.is refl

pub returns-in-QuotaOn-clause-reads : goal.returns-in-QuotaOn-clause-reads
returns-in-QuotaOn-clause-reads g c =
    asks-grouped c.regroup.result c.args.kept.now (g.D.Disk.history c.args.disk.now) c.args.command.now _ _
    (search rules)
