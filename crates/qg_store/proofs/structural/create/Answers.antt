use Rattle.std.proofs.Common.{◌≡◌, ◌∙◌, ◌≤◌, inl, refl, sym, true, false, List, None}
use Rattle.qg_device.specs.History.{Event, Recorded}
use Rattle.qg_num.specs.declared.answer.Answer.TheVariants.{Refused, Sub}
use Rattle.qg_num.specs.declared.command.Command.TheVariants.{SubCreate}
use Rattle.qg_num.specs.declared.refusal.Refusal.TheVariants as why
use Rattle.qg_image.specs.State.{State}
use Rattle.qg_machine.specs.Refusals.{refusal}
use Rattle.qg_blocks.proofs.Broken.{broken-any}
use Rattle.qg_space.specs.Holding.{free_slots}
use Rattle.qg_image_commits.proofs.PiecesRead.{handed}
use Rattle.qg_image_commits.proofs.WholeFile.{handed-sound}
use Rattle.qg_image_commits.specs.Keeping.{IsKeptOf, structural_need_of}
use Rattle.qg_file_commands.proofs.Edited.{if-none}
use Rattle.qg_image_commits.proofs.Looked.{node-size}
use Rattle.qg_image_commits.proofs.OnDisk.{last-any, on-disk, stays-pending}
use Rattle.qg_store.proofs.Reasoned.{create-early, create-late, number-same, too-many-by, too-many-same}
use Rattle.qg_image_commits.proofs.Stepped.{does_nothing}
use Rattle.qg_store.proofs.Structured.{IsReady, of-changed, does-structural, early-second, held-created, last-settled}
use Rattle.qg_store.proofs.Structured.{made-first}
use Rattle.qg_store.proofs.Structured.{intact-first, intact-handed, made-second, so-far-first, so-far-second}
use Rattle.qg_image_commits.proofs.Turned.{looked-refl}
use Rattle.qg_store.proofs.Stopped.{change-stored, pending-stored, second-stored}
use Rattle.qg_store.proofs.structural.create.Given.{Over}
use Rattle.qg_store.proofs.structural.create.Goals as goal
use Rattle.qg_store.proofs.structural.create.Goals.{After-commit_pending, In_ok-create_change}

pub number_next-number-requires : goal.number_next-number-requires
number_next-number-requires g c = record { fitted = c.requires.kept.fitted }

pub are_too_many-requires : goal.are_too_many-requires
are_too_many-requires g c = record { fitted = c.requires.kept.fitted }

pub no_commit-requires : goal.no_commit-requires
no_commit-requires g c = record { size = node-size c.args.kept.now c.requires.kept.fitted }

-- ---- it is refused

pub returns-then-are_too_many-clause-step : goal.returns-then-are_too_many-clause-step
returns-then-are_too_many-clause-step g c = λ state events keeps told.
    let kept = c.args.kept.now in
    let history = g.D.Disk.history c.args.disk.now in
    on-disk state SubCreate (Refused why.TooMany) kept events history told
    (does_nothing kept state history SubCreate why.TooMany keeps
    (create-early kept state history c.requires.kept.fitted keeps
    (too-many-by kept 0 c.number_next-number.result c.are_too_many.result true c.number_next-number.ensures.value
    c.are_too_many.ensures c.if-are_too_many.true)))

pub returns-then-are_too_many-clause-so_far : goal.returns-then-are_too_many-clause-so_far
returns-then-are_too_many-clause-so_far g c = λ state events keeps told. inl told

pub returns-then-are_too_many-clause-refused : goal.returns-then-are_too_many-clause-refused
returns-then-are_too_many-clause-refused g c = λ is.
    looked-refl c.args.kept.now (g.D.Disk.history c.args.disk.now) (g.D.Disk.size c.args.disk.now)

pub returns-in-Some-clause-step : goal.returns-in-Some-clause-step
returns-in-Some-clause-step g c = λ state events keeps told.
    let kept = c.args.kept.now in
    let history = g.D.Disk.history c.args.disk.now in
    let few = too-many-by kept 0 c.number_next-number.result c.are_too_many.result false
    c.number_next-number.ensures.value c.are_too_many.ensures c.if-are_too_many.false in
    on-disk state SubCreate (Refused c.in-Some.why) kept events history told
    (does_nothing kept state history SubCreate c.in-Some.why keeps
    (create-late kept state history (g.D.Disk.size c.args.disk.now) c.requires.kept keeps c.in_ok-why.ensures.table few
    ∙ sym c.in_ok-why.ensures.value ∙ c.in-Some.is))

pub returns-in-Some-clause-so_far : goal.returns-in-Some-clause-so_far
returns-in-Some-clause-so_far g c = λ state events keeps told. inl told

pub returns-in-Some-clause-refused : goal.returns-in-Some-clause-refused
returns-in-Some-clause-refused g c = λ is.
    looked-refl c.args.kept.now (g.D.Disk.history c.args.disk.now) (g.D.Disk.size c.args.disk.now)

pub returns-in_err-why-clause-so_far : goal.returns-in_err-why-clause-so_far
returns-in_err-why-clause-so_far g c = λ state events keeps told. inl told

-- ---- it isn't refused

unrefused : (g : Over) (c : After-commit_pending g) (state : State)
    → IsKeptOf c.args.kept.now state (g.D.Disk.history c.args.disk.now) → refusal state SubCreate ≡ None
unrefused g c state keeps =
    create-late c.args.kept.now state (g.D.Disk.history c.args.disk.now) (g.D.Disk.size c.args.disk.now)
    c.requires.kept keeps c.in_ok-why.ensures.table
    (too-many-by c.args.kept.now 0 c.number_next-number.result c.are_too_many.result false
    c.number_next-number.ensures.value c.are_too_many.ensures c.if-are_too_many.false) ∙ sym c.in_ok-why.ensures.value
    ∙ c.in_default.is

ready : (g : Over) (c : In_ok-create_change g) (state : State) (events : List Event)
    → IsKeptOf c.args.kept.now state (g.D.Disk.history c.args.disk.now)
    → g.D.Disk.history c.args.disk.now ≡ Recorded events → refusal state SubCreate ≡ None
    → IsReady state SubCreate (Sub c.new-sub.result) c.commit_pending.new.kept c.create_change.new.kept events
    (g.D.Disk.history c.commit_pending.new.disk) (g.D.Disk.history c.create_change.new.disk)
ready g c state events keeps told unrefused =
    let first = c.in_ok-commit_pending.ensures.committed state events keeps told in
    let change = c.in_ok-create_change.ensures.changed first.before first.keeps
    c.in_ok-commit_pending.ensures.settled.pending in
    record {
      comes = refl;
      unrefused = unrefused;
      done = c.in_ok-commit_pending.ensures.so_far state events keeps told;
      first = first;
      change = change;
      same = c.in_ok-create_change.ensures.apart.0;
      held = held-created first.before change.changed (Sub c.new-sub.result) change.changes;
      fits = c.in_ok-create_change.ensures.kept.fitted;
    }

-- ---- what is pending is committed

pub commit_pending-requires-clause-early : goal.commit_pending-requires-clause-early
commit_pending-requires-clause-early g c =
    if-none c.in_ok-why.field-0 _ c.in_default.is c.in_ok-why.ensures.early

pub returns-in_err-commit_pending-clause-so_far : goal.returns-in_err-commit_pending-clause-so_far
returns-in_err-commit_pending-clause-so_far g c = λ state events keeps told.
    so-far-first state SubCreate events (g.D.Disk.history c.commit_pending.new.disk)
    (g.D.Disk.history c.commit_pending.new.disk) refl
    (unrefused g (goal.at.returns-in_err-commit_pending-clause-so_far g c).After-commit_pending state keeps)
    refl (c.in_err-commit_pending.ensures.so_far state events keeps told)

pub returns-in_err-commit_pending-clause-sound : goal.returns-in_err-commit_pending-clause-sound
returns-in_err-commit_pending-clause-sound g c = λ state events told keeps.
    handed-sound (Unit {0}) c.from_residual-in_err-commit_pending.result _
    (handed c.from_residual-in_err-commit_pending.result _ c.from_residual-in_err-commit_pending.ensures.1)
    (c.in_err-commit_pending.ensures.sound state events told keeps)

pub returns-in_err-commit_pending-clause-err : goal.returns-in_err-commit_pending-clause-err
returns-in_err-commit_pending-clause-err g c =
    let kept = c.args.kept.now in
    let before = g.D.Disk.history c.args.disk.now in
    last-any SubCreate kept c.commit_pending.new.kept before (g.D.Disk.history c.commit_pending.new.disk)
    c.from_residual-in_err-commit_pending.result
    (stays-pending SubCreate kept kept c.commit_pending.new.kept before before
    (g.D.Disk.history c.commit_pending.new.disk) refl (λ state events keeps told. (keeps, told))
    c.in_err-commit_pending.ensures.err)

-- ---- the change

pub create_change-requires : goal.create_change-requires
create_change-requires g c =
    let kept = c.args.kept.now in
    let mid = c.commit_pending.new.kept in
    let settled = c.in_ok-commit_pending.ensures.settled in
    record {
      kept = c.in_ok-commit_pending.ensures.kept;
      number = c.new-sub.ensures ∙ c.number_next-number.ensures.value ∙ sym (number-same kept mid settled);
      few = too-many-same kept mid settled 0
          ∙ too-many-by kept 0 c.number_next-number.result c.are_too_many.result false
          c.number_next-number.ensures.value c.are_too_many.ensures c.if-are_too_many.false;
      room = c.in_ok-commit_pending.ensures.room 18
          (if-none c.in_ok-why.field-0 (structural_need_of kept 18 ≤ free_slots kept.fs.land.space) c.in_default.is
          c.in_ok-why.ensures.enough);
    }

pub returns-in_err-create_change-clause-so_far : goal.returns-in_err-create_change-clause-so_far
returns-in_err-create_change-clause-so_far g c = λ state events keeps told.
    so-far-first state SubCreate events (g.D.Disk.history c.commit_pending.new.disk)
    (g.D.Disk.history c.create_change.new.disk) refl
    (unrefused g (goal.at.returns-in_err-create_change-clause-so_far g c).After-commit_pending state keeps)
    c.in_err-create_change.ensures.apart.0 (c.in_ok-commit_pending.ensures.so_far state events keeps told)

pub returns-in_err-create_change-clause-sound : goal.returns-in_err-create_change-clause-sound
returns-in_err-create_change-clause-sound g c = λ state events told keeps.
    let first = c.in_ok-commit_pending.ensures.committed state events keeps told in
    handed-sound (Unit {0}) c.from_residual-in_err-create_change.result _
    (handed c.from_residual-in_err-create_change.result _ c.from_residual-in_err-create_change.ensures.1)
    (c.in_err-create_change.ensures.sound first.before first.between first.keeps first.told)

pub returns-in_err-create_change-clause-err : goal.returns-in_err-create_change-clause-err
returns-in_err-create_change-clause-err g c =
    let kept = c.args.kept.now in
    let before = g.D.Disk.history c.args.disk.now in
    let after = g.D.Disk.history c.create_change.new.disk in
    last-any SubCreate kept c.create_change.new.kept before after c.from_residual-in_err-create_change.result
    (last-settled SubCreate kept kept c.commit_pending.new.kept c.create_change.new.kept before after refl refl refl
    c.in_ok-commit_pending.ensures.settled c.in_err-create_change.ensures.superblock
    (λ state events keeps told. inl (made-first state c.commit_pending.new.kept events
    (g.D.Disk.history c.commit_pending.new.disk) after
    (c.in_ok-commit_pending.ensures.committed state events keeps told) c.in_err-create_change.ensures.apart.0)))

-- ---- it is committed

pub commit_now-requires : goal.commit_now-requires
commit_now-requires g c = record {
  kept = c.in_ok-create_change.ensures.kept;
  early = early-second c.args.kept.now c.commit_pending.new.kept c.create_change.new.kept
      c.in_ok-commit_pending.ensures.settled c.in_ok-create_change.ensures.superblock
      (if-none c.in_ok-why.field-0 _ c.in_default.is c.in_ok-why.ensures.early);
}

pub returns-in_err-commit_now-clause-so_far : goal.returns-in_err-commit_now-clause-so_far
returns-in_err-commit_now-clause-so_far g c = λ state events keeps told.
    let at = goal.at.returns-in_err-commit_now-clause-so_far g c in
    so-far-second
    (ready g at.In_ok-create_change state events keeps told (unrefused g at.After-commit_pending state keeps))
    (g.D.Disk.history c.commit_now.new.disk) c.in_err-commit_now.ensures.so_far

pub returns-in_err-commit_now-clause-sound : goal.returns-in_err-commit_now-clause-sound
returns-in_err-commit_now-clause-sound g c = λ state events told keeps.
    let at = goal.at.returns-in_err-commit_now-clause-sound g c in
    handed-sound (Unit {0}) c.from_residual-in_err-commit_now.result _
    (handed c.from_residual-in_err-commit_now.result _ c.from_residual-in_err-commit_now.ensures.1)
    (of-changed
    (ready g at.In_ok-create_change state events keeps told (unrefused g at.After-commit_pending state keeps)) _
    c.in_err-commit_now.ensures.sound)

pub returns-in_err-commit_now-clause-err : goal.returns-in_err-commit_now-clause-err
returns-in_err-commit_now-clause-err g c =
    let at = goal.at.returns-in_err-commit_now-clause-err g c in
    let kept = c.args.kept.now in
    let before = g.D.Disk.history c.args.disk.now in
    let last = g.D.Disk.history c.commit_now.new.disk in
    last-any SubCreate kept c.commit_now.new.kept before last c.from_residual-in_err-commit_now.result
    (last-settled SubCreate kept kept c.commit_pending.new.kept c.commit_now.new.kept before last refl refl refl
    c.in_ok-commit_pending.ensures.settled
    (c.in_err-commit_now.ensures.err ∙ c.in_ok-create_change.ensures.superblock) (λ state events keeps told.
    made-second
    (ready g at.In_ok-create_change state events keeps told (unrefused g at.After-commit_pending state keeps))
    last c.in_err-commit_now.ensures.stops))

pub returns-clause-step : goal.returns-clause-step
returns-clause-step g c = λ state events keeps told.
    let at = goal.at.returns-clause-step g c in
    does-structural
    (ready g at.In_ok-create_change state events keeps told (unrefused g at.After-commit_pending state keeps))
    c.commit_now.new.kept (g.D.Disk.history c.commit_now.new.disk) c.in_ok-commit_now.ensures.commits
    (λ commits then does. does)

pub returns-clause-so_far : goal.returns-clause-so_far
returns-clause-so_far g c = λ state events keeps told.
    let at = goal.at.returns-clause-so_far g c in
    so-far-second
    (ready g at.In_ok-create_change state events keeps told (unrefused g at.After-commit_pending state keeps))
    (g.D.Disk.history c.commit_now.new.disk) c.in_ok-commit_now.ensures.so_far

-- ---- over any disk

pub returns-in_err-commit_pending-clause-intact : goal.returns-in_err-commit_pending-clause-intact
returns-in_err-commit_pending-clause-intact g c =
    let residual = c.from_residual-in_err-commit_pending in
    let after = g.D.Disk.history c.commit_pending.new.disk in
    intact-handed (Unit {0}) residual.result _ SubCreate c.args.kept.now c.commit_pending.new.kept
    (g.D.Disk.history c.args.disk.now) after (after ≡ (g.D.Disk.history c.args.disk.now))
    (handed residual.result _ residual.ensures.1) (λ same. inl (same)) c.in_err-commit_pending.ensures.calls.intact

pub returns-in_err-create_change-clause-intact : goal.returns-in_err-create_change-clause-intact
returns-in_err-create_change-clause-intact g c =
    broken-any c.from_residual-in_err-create_change.result _
    (intact-first SubCreate c.args.kept.now c.args.kept.now c.commit_pending.new.kept
    c.create_change.new.kept (g.D.Disk.history c.args.disk.now) (g.D.Disk.history c.args.disk.now)
    (g.D.Disk.history c.commit_pending.new.disk) (g.D.Disk.history c.create_change.new.disk)
    refl refl refl c.in_ok-commit_pending.ensures.calls.none
    c.in_ok-commit_pending.ensures.calls.calls c.in_err-create_change.ensures.superblock
    c.in_err-create_change.ensures.apart.0)

pub returns-in_err-commit_now-clause-intact : goal.returns-in_err-commit_now-clause-intact
returns-in_err-commit_now-clause-intact g c =
    let residual = c.from_residual-in_err-commit_now in
    let last = g.D.Disk.history c.commit_now.new.disk in
    intact-handed (Unit {0}) residual.result _ SubCreate c.args.kept.now c.commit_now.new.kept
    (g.D.Disk.history c.args.disk.now) last (last ≡ (g.D.Disk.history c.create_change.new.disk))
    (handed residual.result _ residual.ensures.1) (λ same.
    intact-first SubCreate c.args.kept.now c.args.kept.now c.commit_pending.new.kept
    c.commit_now.new.kept (g.D.Disk.history c.args.disk.now) (g.D.Disk.history c.args.disk.now)
    (g.D.Disk.history c.commit_pending.new.disk) (g.D.Disk.history c.commit_now.new.disk)
    refl refl refl c.in_ok-commit_pending.ensures.calls.none
    c.in_ok-commit_pending.ensures.calls.calls
    (c.in_err-commit_now.ensures.err ∙ c.in_ok-create_change.ensures.superblock)
    (same ∙ c.in_ok-create_change.ensures.apart.0)) c.in_err-commit_now.ensures.intact.broken

pub returns-in_err-commit_pending-clause-stops : goal.returns-in_err-commit_pending-clause-stops
returns-in_err-commit_pending-clause-stops g c =
    let residual = c.from_residual-in_err-commit_pending in
    pending-stored (Unit {0}) residual.result _ c.args.kept.now c.args.kept.now (g.D.Disk.size c.args.disk.now)
    (g.D.Disk.size c.args.disk.now) residual.ensures.1 refl refl
    c.in_err-commit_pending.ensures.calls.cause

pub returns-in_err-create_change-clause-stops : goal.returns-in_err-create_change-clause-stops
returns-in_err-create_change-clause-stops g c =
    let residual = c.from_residual-in_err-create_change in
    change-stored (Unit {0}) residual.result _ c.args.kept.now c.args.kept.now c.commit_pending.new.kept
    (g.D.Disk.size c.args.disk.now) (g.D.Disk.size c.args.disk.now) (g.D.Disk.size c.commit_pending.new.disk)
    residual.ensures.1 c.in_ok-commit_pending.ensures.kept.fitted
    refl
    c.in_ok-commit_pending.ensures.sizes.0 refl c.in_ok-commit_pending.ensures.sizes.1
    c.in_err-create_change.ensures.stops

pub returns-in_err-commit_now-clause-stops : goal.returns-in_err-commit_now-clause-stops
returns-in_err-commit_now-clause-stops g c =
    let residual = c.from_residual-in_err-commit_now in
    second-stored (Unit {0}) residual.result _ c.args.kept.now c.args.kept.now c.commit_pending.new.kept
    c.create_change.new.kept (g.D.Disk.size c.args.disk.now) (g.D.Disk.size c.args.disk.now)
    (g.D.Disk.size c.commit_pending.new.disk) (g.D.Disk.size c.create_change.new.disk) residual.ensures.1
    c.in_ok-create_change.ensures.kept.fitted
    refl
    c.in_ok-commit_pending.ensures.sizes.0 c.in_ok-create_change.ensures.superblock refl
    c.in_ok-commit_pending.ensures.sizes.1 c.in_ok-create_change.ensures.apart.1
    c.in_err-commit_now.ensures.intact.cause
