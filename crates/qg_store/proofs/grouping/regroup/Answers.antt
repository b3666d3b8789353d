use Rattle.std.proofs.Common.{◌≡◌, ◌∙◌, ◌≤◌, ℕ, None, Some, ap, inl, refl, subst, sym, List}
use Rattle.qg_device.specs.History.{Event, Recorded}
use Rattle.qg_num.specs.declared.answer.Answer.TheVariants.{Done, Refused}
use Rattle.qg_num.specs.declared.fault.BlockFault.TheVariants.{NoMemory}
use Rattle.qg_space.specs.Holding.{free_slots}
use Rattle.qg_qgroups.specs.Tracked.{quota_of}
use Rattle.qg_image.specs.State.{State}
use Rattle.qg_machine.specs.Refusals.{refusal}
use Rattle.qg_image_commits.proofs.PiecesRead.{handed}
use Rattle.qg_image_commits.proofs.WholeFile.{handed-sound}
use Rattle.qg_image_commits.specs.Keeping.{IsKeptOf, structural_need_of}
use Rattle.qg_image_changes.specs.Changing.{HasRoom, group_copies}
use Rattle.qg_store.specs.Structural.{commit_refusal}
use Rattle.qg_file_commands.proofs.Edited.{if-none}
use Rattle.qg_image_commits.proofs.Looked.{node-size}
use Rattle.qg_image_commits.proofs.OnDisk.{last-any, on-disk, stays-pending}
use Rattle.qg_store.proofs.Reasoned.{copies-same, group-early, group-late, group-same}
use Rattle.qg_image_changes.proofs.Regrouped.{asked-so, comes-group, does-group, kept-regrouped, structural-group}
use Rattle.qg_image_changes.proofs.Regrouped.{superblock-regrouped}
use Rattle.qg_image_commits.proofs.Stepped.{does_nothing}
use Rattle.qg_store.proofs.Structured.{IsReady, of-changed, does-structural, early-second, held-regrouped, last-settled}
use Rattle.qg_store.proofs.Structured.{made-first}
use Rattle.qg_store.proofs.Structured.{intact-first, intact-handed, made-second, so-far-first, so-far-second}
use Rattle.qg_image_commits.proofs.Turned.{looked-refl}
use Rattle.qg_store.proofs.Stopped.{pending-stored, read-memory, second-stored}
use Rattle.qg_store.proofs.grouping.regroup.Given.{Over}
use Rattle.qg_store.proofs.grouping.regroup.Goals as goal
use Rattle.qg_store.proofs.grouping.regroup.Goals.{After-commit_pending, In_ok-change_groups}

pub refusal_of-requires : goal.refusal_of-requires
refusal_of-requires g c = c.requires.kept.fitted.tracked

pub copies_of-copies-requires : goal.copies_of-copies-requires
copies_of-copies-requires g c = record { fitted = c.requires.kept.fitted }

pub no_commit-requires : goal.no_commit-requires
no_commit-requires g c = record { size = node-size c.args.kept.now c.requires.kept.fitted }

-- ---- it is refused

pub returns-in-Some-clause-step : goal.returns-in-Some-clause-step
returns-in-Some-clause-step g c = λ state events keeps told.
    let kept = c.args.kept.now in
    let history = g.D.Disk.history c.args.disk.now in
    on-disk state c.args.command.now (Refused c.in-Some.why) kept events history told
    (does_nothing kept state history c.args.command.now c.in-Some.why keeps
    (group-early kept state history c.requires.kept.fitted keeps c.args.command.now c.in-Some.why c.requires.group
    (asked-so kept (quota_of kept.quota) c.as_slice.result.now c.args.command.now c.refusal_of.result
    (Some c.in-Some.why) c.as_slice.ensures c.refusal_of.ensures c.in-Some.is)))

pub returns-in-Some-clause-so_far : goal.returns-in-Some-clause-so_far
returns-in-Some-clause-so_far g c = λ state events keeps told. inl told

pub returns-in-Some-clause-refused : goal.returns-in-Some-clause-refused
returns-in-Some-clause-refused g c = λ is.
    looked-refl c.args.kept.now (g.D.Disk.history c.args.disk.now) (g.D.Disk.size c.args.disk.now)

pub returns-in-Some-2-clause-step : goal.returns-in-Some-2-clause-step
returns-in-Some-2-clause-step g c = λ state events keeps told.
    let kept = c.args.kept.now in
    let history = g.D.Disk.history c.args.disk.now in
    on-disk state c.args.command.now (Refused c.in-Some-2.why) kept events history told
    (does_nothing kept state history c.args.command.now c.in-Some-2.why keeps
    (group-late kept state history (g.D.Disk.size c.args.disk.now) c.requires.kept keeps c.in_ok-why.ensures.table
    c.args.command.now c.requires.group
    (asked-so kept (quota_of kept.quota) c.as_slice.result.now c.args.command.now c.refusal_of.result None
    c.as_slice.ensures c.refusal_of.ensures c.in_default.is)
    ∙ ap (commit_refusal kept) (sym c.copies_of-copies.ensures) ∙ sym c.in_ok-why.ensures.value ∙ c.in-Some-2.is))

pub returns-in-Some-2-clause-so_far : goal.returns-in-Some-2-clause-so_far
returns-in-Some-2-clause-so_far g c = λ state events keeps told. inl told

pub returns-in-Some-2-clause-refused : goal.returns-in-Some-2-clause-refused
returns-in-Some-2-clause-refused g c = λ is.
    looked-refl c.args.kept.now (g.D.Disk.history c.args.disk.now) (g.D.Disk.size c.args.disk.now)

pub returns-in_err-why-clause-so_far : goal.returns-in_err-why-clause-so_far
returns-in_err-why-clause-so_far g c = λ state events keeps told. inl told

-- ---- it isn't refused

unrefused : (g : Over) (c : After-commit_pending g) (state : State)
    → IsKeptOf c.args.kept.now state (g.D.Disk.history c.args.disk.now) → refusal state c.args.command.now ≡ None
unrefused g c state keeps =
    group-late c.args.kept.now state (g.D.Disk.history c.args.disk.now) (g.D.Disk.size c.args.disk.now) c.requires.kept
    keeps c.in_ok-why.ensures.table c.args.command.now c.requires.group
    (asked-so c.args.kept.now (quota_of c.args.kept.now.quota) c.as_slice.result.now c.args.command.now
    c.refusal_of.result None c.as_slice.ensures c.refusal_of.ensures c.in_default.is)
    ∙ ap (commit_refusal c.args.kept.now) (sym c.copies_of-copies.ensures) ∙ sym c.in_ok-why.ensures.value
    ∙ c.in_default-2.is

ready : (g : Over) (c : In_ok-change_groups g) (state : State) (events : List Event)
    → IsKeptOf c.args.kept.now state (g.D.Disk.history c.args.disk.now)
    → g.D.Disk.history c.args.disk.now ≡ Recorded events → refusal state c.args.command.now ≡ None
    → IsReady state c.args.command.now Done c.commit_pending.new.kept c.change_groups.new.kept events
    (g.D.Disk.history c.commit_pending.new.disk) (g.D.Disk.history c.commit_pending.new.disk)
ready g c state events keeps told unrefused =
    let first = c.in_ok-commit_pending.ensures.committed state events keeps told in
    let change = c.in_ok-change_groups.ensures.changed first.before (g.D.Disk.history c.commit_pending.new.disk)
    first.keeps c.in_ok-commit_pending.ensures.settled.pending in
    record {
      comes = comes-group c.args.command.now c.requires.group;
      unrefused = unrefused;
      done = c.in_ok-commit_pending.ensures.so_far state events keeps told;
      first = first;
      change = change;
      same = refl;
      held = held-regrouped first.before change.changed c.args.command.now Done c.requires.group change.changes;
      fits = c.in_ok-change_groups.ensures.fitted;
    }

-- ---- what is pending is committed

pub commit_pending-requires-clause-early : goal.commit_pending-requires-clause-early
commit_pending-requires-clause-early g c =
    if-none c.in_ok-why.field-0 _ c.in_default-2.is c.in_ok-why.ensures.early

pub returns-in_err-commit_pending-clause-so_far : goal.returns-in_err-commit_pending-clause-so_far
returns-in_err-commit_pending-clause-so_far g c = λ state events keeps told.
    so-far-first state c.args.command.now events (g.D.Disk.history c.commit_pending.new.disk)
    (g.D.Disk.history c.commit_pending.new.disk) (comes-group c.args.command.now c.requires.group)
    (unrefused g (goal.at.returns-in_err-commit_pending-clause-so_far g c).After-commit_pending state keeps) refl
    (c.in_err-commit_pending.ensures.so_far state events keeps told)

pub returns-in_err-commit_pending-clause-sound : goal.returns-in_err-commit_pending-clause-sound
returns-in_err-commit_pending-clause-sound g c = λ state events told keeps.
    handed-sound (Unit {0}) c.from_residual-in_err-commit_pending.result _
    (handed c.from_residual-in_err-commit_pending.result _ c.from_residual-in_err-commit_pending.ensures.1)
    (c.in_err-commit_pending.ensures.sound state events told keeps)

pub returns-in_err-commit_pending-clause-err : goal.returns-in_err-commit_pending-clause-err
returns-in_err-commit_pending-clause-err g c =
    let command = c.args.command.now in
    let kept = c.args.kept.now in
    let before = g.D.Disk.history c.args.disk.now in
    let after = g.D.Disk.history c.commit_pending.new.disk in
    last-any command kept c.commit_pending.new.kept before after c.from_residual-in_err-commit_pending.result
    (stays-pending command kept kept c.commit_pending.new.kept before before after refl
    (λ state events keeps told. (keeps, told)) c.in_err-commit_pending.ensures.err)

-- ---- the change

pub change_groups-requires : goal.change_groups-requires
change_groups-requires g c =
    let kept = c.args.kept.now in
    let mid = c.commit_pending.new.kept in
    let given = c.args.command.now in
    let settled = c.in_ok-commit_pending.ensures.settled in
    record {
      fitted = c.in_ok-commit_pending.ensures.kept.fitted;
      group = c.requires.group;
      free = group-same kept mid settled given
          ∙ asked-so kept (quota_of kept.quota) c.as_slice.result.now given c.refusal_of.result None c.as_slice.ensures
          c.refusal_of.ensures c.in_default.is;
      room = subst (λ (n : ℕ). HasRoom mid n) (sym (copies-same kept mid settled given))
          (c.in_ok-commit_pending.ensures.room (group_copies kept given)
          (subst (λ (n : ℕ). structural_need_of kept n ≤ free_slots kept.fs.land.space) c.copies_of-copies.ensures
          (if-none c.in_ok-why.field-0
          (structural_need_of kept c.copies_of-copies.result ≤ free_slots kept.fs.land.space) c.in_default-2.is
          c.in_ok-why.ensures.enough)));
    }

pub returns-in_err-change_groups-clause-so_far : goal.returns-in_err-change_groups-clause-so_far
returns-in_err-change_groups-clause-so_far g c = λ state events keeps told.
    so-far-first state c.args.command.now events (g.D.Disk.history c.commit_pending.new.disk)
    (g.D.Disk.history c.commit_pending.new.disk) (comes-group c.args.command.now c.requires.group)
    (unrefused g (goal.at.returns-in_err-change_groups-clause-so_far g c).After-commit_pending state keeps) refl
    (c.in_ok-commit_pending.ensures.so_far state events keeps told)

pub returns-in_err-change_groups-clause-err : goal.returns-in_err-change_groups-clause-err
returns-in_err-change_groups-clause-err g c =
    let kept = c.args.kept.now in
    let mid = c.commit_pending.new.kept in
    let new = c.change_groups.new.kept in
    let before = g.D.Disk.history c.args.disk.now in
    let after = g.D.Disk.history c.commit_pending.new.disk in
    last-any c.args.command.now kept new before after c.from_residual-in_err-change_groups.result
    (last-settled c.args.command.now kept kept mid new before after
    (structural-group c.args.command.now c.requires.group) refl refl c.in_ok-commit_pending.ensures.settled
    (superblock-regrouped mid new c.in_err-change_groups.ensures.rest)
    (λ state events keeps told. inl (made-first state mid events after after
    (c.in_ok-commit_pending.ensures.committed state events keeps told) refl)))

-- ---- it is committed

pub commit_now-requires : goal.commit_now-requires
commit_now-requires g c =
    let mid = c.commit_pending.new.kept in
    let new = c.change_groups.new.kept in
    record {
      kept = kept-regrouped mid new (g.D.Disk.history c.commit_pending.new.disk)
          (g.D.Disk.size c.commit_pending.new.disk) c.in_ok-commit_pending.ensures.kept
          c.in_ok-change_groups.ensures.rest c.in_ok-change_groups.ensures.fitted;
      early = early-second c.args.kept.now mid new c.in_ok-commit_pending.ensures.settled
          (superblock-regrouped mid new c.in_ok-change_groups.ensures.rest)
          (if-none c.in_ok-why.field-0 _ c.in_default-2.is c.in_ok-why.ensures.early);
    }

pub returns-in_err-commit_now-clause-so_far : goal.returns-in_err-commit_now-clause-so_far
returns-in_err-commit_now-clause-so_far g c = λ state events keeps told.
    let at = goal.at.returns-in_err-commit_now-clause-so_far g c in
    so-far-second
    (ready g at.In_ok-change_groups state events keeps told (unrefused g at.After-commit_pending state keeps))
    (g.D.Disk.history c.commit_now.new.disk) c.in_err-commit_now.ensures.so_far

pub returns-in_err-commit_now-clause-sound : goal.returns-in_err-commit_now-clause-sound
returns-in_err-commit_now-clause-sound g c = λ state events told keeps.
    let at = goal.at.returns-in_err-commit_now-clause-sound g c in
    handed-sound (Unit {0}) c.from_residual-in_err-commit_now.result _
    (handed c.from_residual-in_err-commit_now.result _ c.from_residual-in_err-commit_now.ensures.1)
    (of-changed
    (ready g at.In_ok-change_groups state events keeps told (unrefused g at.After-commit_pending state keeps)) _
    c.in_err-commit_now.ensures.sound)

pub returns-in_err-commit_now-clause-err : goal.returns-in_err-commit_now-clause-err
returns-in_err-commit_now-clause-err g c =
    let at = goal.at.returns-in_err-commit_now-clause-err g c in
    let kept = c.args.kept.now in
    let given = c.args.command.now in
    let mid = c.commit_pending.new.kept in
    let new = c.change_groups.new.kept in
    let before = g.D.Disk.history c.args.disk.now in
    let last = g.D.Disk.history c.commit_now.new.disk in
    last-any given kept c.commit_now.new.kept before last c.from_residual-in_err-commit_now.result
    (last-settled given kept kept mid c.commit_now.new.kept before last (structural-group given c.requires.group) refl
    refl c.in_ok-commit_pending.ensures.settled
    (c.in_err-commit_now.ensures.err ∙ superblock-regrouped mid new c.in_ok-change_groups.ensures.rest)
    (λ state events keeps told.
    made-second
    (ready g at.In_ok-change_groups state events keeps told (unrefused g at.After-commit_pending state keeps))
    last c.in_err-commit_now.ensures.stops))

pub returns-clause-step : goal.returns-clause-step
returns-clause-step g c = λ state events keeps told.
    let at = goal.at.returns-clause-step g c in
    does-structural
    (ready g at.In_ok-change_groups state events keeps told (unrefused g at.After-commit_pending state keeps))
    c.commit_now.new.kept (g.D.Disk.history c.commit_now.new.disk) c.in_ok-commit_now.ensures.commits
    (λ commits then does. does-group state c.args.command.now Done commits then c.requires.group does)

pub returns-clause-so_far : goal.returns-clause-so_far
returns-clause-so_far g c = λ state events keeps told.
    let at = goal.at.returns-clause-so_far g c in
    so-far-second
    (ready g at.In_ok-change_groups state events keeps told (unrefused g at.After-commit_pending state keeps))
    (g.D.Disk.history c.commit_now.new.disk) c.in_ok-commit_now.ensures.so_far

-- ---- over any disk

pub returns-in-Some-clause-intact : goal.returns-in-Some-clause-intact
returns-in-Some-clause-intact g c = record { intact = tt; cause = tt }

pub returns-in-Some-2-clause-intact : goal.returns-in-Some-2-clause-intact
returns-in-Some-2-clause-intact g c = record { intact = tt; cause = tt }

pub returns-in_err-why-clause-intact : goal.returns-in_err-why-clause-intact
returns-in_err-why-clause-intact g c =
    let residual = c.from_residual in
    read-memory residual.result c.args.command.now c.args.kept.now c.args.kept.now _ _ (g.D.Disk.size c.args.disk.now)
    (handed residual.result NoMemory residual.ensures.1)

pub returns-in_err-commit_pending-clause-intact : goal.returns-in_err-commit_pending-clause-intact
returns-in_err-commit_pending-clause-intact g c =
    let residual = c.from_residual-in_err-commit_pending in
    let before = g.D.Disk.history c.args.disk.now in
    let after = g.D.Disk.history c.commit_pending.new.disk in
    let bytes = g.D.Disk.size c.args.disk.now in
    record {
      intact = intact-handed (Unit {0}) residual.result _ c.args.command.now c.args.kept.now c.commit_pending.new.kept
          before after (after ≡ before) (handed residual.result _ residual.ensures.1) (λ same. inl same)
          c.in_err-commit_pending.ensures.calls.intact;
      cause = pending-stored (Unit {0}) residual.result _ c.args.kept.now c.args.kept.now bytes bytes
          residual.ensures.1 refl refl c.in_err-commit_pending.ensures.calls.cause;
    }

pub returns-in_err-change_groups-clause-intact : goal.returns-in_err-change_groups-clause-intact
returns-in_err-change_groups-clause-intact g c =
    let residual = c.from_residual-in_err-change_groups in
    read-memory residual.result c.args.command.now c.args.kept.now c.change_groups.new.kept _ _
    (g.D.Disk.size c.args.disk.now)
    (handed residual.result NoMemory residual.ensures.1)

pub returns-in_err-commit_now-clause-intact : goal.returns-in_err-commit_now-clause-intact
returns-in_err-commit_now-clause-intact g c =
    let residual = c.from_residual-in_err-commit_now in
    let kept = c.args.kept.now in
    let mid = c.commit_pending.new.kept in
    let new = c.change_groups.new.kept in
    let before = g.D.Disk.history c.args.disk.now in
    let between = g.D.Disk.history c.commit_pending.new.disk in
    let last = g.D.Disk.history c.commit_now.new.disk in
    let bytes = g.D.Disk.size c.args.disk.now in
    let grown = g.D.Disk.size c.commit_pending.new.disk in
    let superblock = superblock-regrouped mid new c.in_ok-change_groups.ensures.rest in
    record {
      intact = intact-handed (Unit {0}) residual.result _ c.args.command.now kept c.commit_now.new.kept before last
          (last ≡ between) (handed residual.result _ residual.ensures.1)
          (λ same. intact-first c.args.command.now kept kept mid c.commit_now.new.kept before before between last
          (structural-group c.args.command.now c.requires.group) refl refl
          c.in_ok-commit_pending.ensures.calls.none c.in_ok-commit_pending.ensures.calls.calls
          (c.in_err-commit_now.ensures.err ∙ superblock) same) c.in_err-commit_now.ensures.intact.broken;
      cause = second-stored (Unit {0}) residual.result _ kept kept mid new bytes bytes grown grown residual.ensures.1
          c.in_ok-change_groups.ensures.fitted refl c.in_ok-commit_pending.ensures.sizes.0 superblock refl
          c.in_ok-commit_pending.ensures.sizes.1 refl c.in_err-commit_now.ensures.intact.cause;
    }

pub returns-clause-intact : goal.returns-clause-intact
returns-clause-intact g c = record { intact = tt; cause = tt }
