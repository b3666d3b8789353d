use Rattle.std.proofs.Common.{List, None, ◌≡◌, ◌∙◌, ◌+◌, ◌≤◌, ℕ, ap, inl, length, refl, subst, sym, true, false}
use Rattle.qg_device.specs.History.{Event, Recorded}
use Rattle.qg_num.specs.declared.answer.Answer.TheVariants.{Refused, Sub}
use Rattle.qg_num.specs.declared.command.Command.TheVariants.{Snap}
use Rattle.qg_num.specs.declared.refusal.Refusal.TheVariants as why
use Rattle.qg_image.specs.State.{State}
use Rattle.qg_machine.specs.Refusals.{refusal}
use Rattle.qg_blocks.proofs.Broken.{broken-any}
use Rattle.qg_space.specs.Holding.{free_slots}
use Rattle.qg_image_commits.proofs.PiecesRead.{handed}
use Rattle.qg_image_commits.proofs.WholeFile.{handed-sound}
use Rattle.qg_image_commits.specs.FsLawsKeeping.{other_names}
use Rattle.qg_image_commits.specs.Types.{OpenImage}
use Rattle.qg_image_commits.specs.Keeping.{IsKeptOf, structural_need_of}
use Rattle.qg_store.specs.Structural.{commit_refusal}
use Rattle.qg_file_commands.proofs.Cloned.{target-listed}
use Rattle.qg_file_commands.proofs.Edited.{if-none}
use Rattle.qg_image_commits.proofs.Looked.{node-size}
use Rattle.qg_image_commits.proofs.OnDisk.{last-any, on-disk, stays-pending}
use Rattle.qg_store.proofs.Reasoned.{number-same, snap-early, snap-late, snap-listed, snap-no-sub, snap-same}
use Rattle.qg_store.proofs.Reasoned.{too-many-by, too-many-same}
use Rattle.qg_image_commits.proofs.Stepped.{does_nothing}
use Rattle.qg_store.proofs.Structured.{IsReady, of-changed, does-structural, early-second, held-snapped, last-settled}
use Rattle.qg_store.proofs.Structured.{made-first}
use Rattle.qg_store.proofs.Structured.{intact-first, intact-handed, made-second, so-far-first, so-far-second}
use Rattle.qg_store.proofs.Stopped.{change-stored, pending-stored, second-stored}
use Rattle.qg_store.proofs.structural.snap.Given.{Over}
use Rattle.qg_store.proofs.structural.snap.Goals as goal
use Rattle.qg_store.proofs.structural.snap.Goals.{After-commit_pending, In_ok-snap_change}

pub turn_to-requires : goal.turn_to-requires
turn_to-requires g c = record { fitted = c.requires.kept.fitted }

-- ---- there is no such subvolume

pub returns-then-not-turn_to-clause-kept : goal.returns-then-not-turn_to-clause-kept
returns-then-not-turn_to-clause-kept g c =
    c.turn_to.ensures.kept (g.D.Disk.history c.args.disk.now) (g.D.Disk.size c.args.disk.now) c.requires.kept

pub returns-then-not-turn_to-clause-step : goal.returns-then-not-turn_to-clause-step
returns-then-not-turn_to-clause-step g c = λ state events given told.
    let history = g.D.Disk.history c.args.disk.now in
    let keeps = c.turn_to.ensures.keeps state history (g.D.Disk.size c.args.disk.now) (other_names state)
    c.requires.kept given in
    on-disk state (Snap c.args.sub c.args.parents.now) (Refused why.NoSub) c.turn_to.new.kept events history told
    (does_nothing c.turn_to.new.kept state history (Snap c.args.sub c.args.parents.now) why.NoSub keeps
    (snap-no-sub c.args.kept.now state history c.requires.kept.fitted given c.args.sub c.args.parents.now
    (sym c.turn_to.ensures.there ∙ c.if-not-turn_to.true)))

pub returns-then-not-turn_to-clause-so_far : goal.returns-then-not-turn_to-clause-so_far
returns-then-not-turn_to-clause-so_far g c = λ state events given told. inl told

pub returns-then-not-turn_to-clause-refused : goal.returns-then-not-turn_to-clause-refused
returns-then-not-turn_to-clause-refused g c = λ is.
    record { same = c.turn_to.ensures.same; history = refl; size = refl }

-- ---- it can't be put into these groups

pub refusal_of_parents-requires : goal.refusal_of_parents-requires
refusal_of_parents-requires g c =
    (c.turn_to.ensures.kept (g.D.Disk.history c.args.disk.now) (g.D.Disk.size c.args.disk.now)
    c.requires.kept).fitted.tracked

pub returns-in_err-why-clause-so_far : goal.returns-in_err-why-clause-so_far
returns-in_err-why-clause-so_far g c = λ state events given told. inl told

pub returns-in-Some-clause-kept : goal.returns-in-Some-clause-kept
returns-in-Some-clause-kept g c =
    c.turn_to.ensures.kept (g.D.Disk.history c.args.disk.now) (g.D.Disk.size c.args.disk.now) c.requires.kept

pub returns-in-Some-clause-step : goal.returns-in-Some-clause-step
returns-in-Some-clause-step g c = λ state events given told.
    let keeps = c.turn_to.ensures.keeps state (g.D.Disk.history c.args.disk.now) (g.D.Disk.size c.args.disk.now)
    (other_names state) c.requires.kept given in
    let kept = c.turn_to.new.kept in
    let history = g.D.Disk.history c.args.disk.now in
    on-disk state (Snap c.args.sub c.args.parents.now) (Refused c.in-Some.why) kept events history told
    (does_nothing kept state history (Snap c.args.sub c.args.parents.now) c.in-Some.why keeps
    (snap-listed kept state history (c.turn_to.ensures.kept history (g.D.Disk.size c.args.disk.now)
    c.requires.kept).fitted keeps c.args.sub c.args.parents.now c.in-Some.why
    (target-listed c.args.kept.now kept state history history given keeps c.args.sub
    (sym c.turn_to.ensures.there ∙ c.if-not-turn_to.false))
    (sym c.in_ok-why.ensures ∙ c.in-Some.is)))

pub returns-in-Some-clause-so_far : goal.returns-in-Some-clause-so_far
returns-in-Some-clause-so_far g c = λ state events given told. inl told

pub returns-in-Some-clause-refused : goal.returns-in-Some-clause-refused
returns-in-Some-clause-refused g c = λ is.
    record { same = c.turn_to.ensures.same; history = refl; size = refl }

-- ---- the number that it gets

pub number_next-number-requires : goal.number_next-number-requires
number_next-number-requires g c = record {
  fitted = (c.turn_to.ensures.kept (g.D.Disk.history c.args.disk.now)
      (g.D.Disk.size c.args.disk.now) c.requires.kept).fitted;
}

pub are_too_many-requires : goal.are_too_many-requires
are_too_many-requires g c = record {
  fitted = (c.turn_to.ensures.kept (g.D.Disk.history c.args.disk.now)
      (g.D.Disk.size c.args.disk.now) c.requires.kept).fitted;
}

pub returns-in_err-copies-clause-so_far : goal.returns-in_err-copies-clause-so_far
returns-in_err-copies-clause-so_far g c = λ state events given told. inl told

pub no_commit-requires : goal.no_commit-requires
no_commit-requires g c = record {
  size = node-size c.turn_to.new.kept (c.turn_to.ensures.kept (g.D.Disk.history
      c.args.disk.now) (g.D.Disk.size c.args.disk.now) c.requires.kept).fitted;
}

-- ---- it is refused

pub returns-then-are_too_many-clause-step : goal.returns-then-are_too_many-clause-step
returns-then-are_too_many-clause-step g c = λ state events given told.
    let keeps = c.turn_to.ensures.keeps state (g.D.Disk.history c.args.disk.now) (g.D.Disk.size c.args.disk.now)
    (other_names state) c.requires.kept given in
    let kept = c.turn_to.new.kept in
    let history = g.D.Disk.history c.args.disk.now in
    on-disk state (Snap c.args.sub c.args.parents.now) (Refused why.TooMany) kept events history told
    (does_nothing kept state history (Snap c.args.sub c.args.parents.now) why.TooMany keeps
    (snap-early kept state history (c.turn_to.ensures.kept (g.D.Disk.history c.args.disk.now) (g.D.Disk.size
    c.args.disk.now) c.requires.kept).fitted keeps c.args.sub c.args.parents.now
    (target-listed c.args.kept.now kept state (g.D.Disk.history c.args.disk.now) (g.D.Disk.history c.args.disk.now)
    given
    keeps c.args.sub (sym c.turn_to.ensures.there ∙ c.if-not-turn_to.false))
    (sym c.in_ok-why.ensures ∙ c.in_default.is)
    (too-many-by kept (length c.args.parents.now) c.number_next-number.result c.are_too_many.result true
    c.number_next-number.ensures.value
    c.are_too_many.ensures c.if-are_too_many.true)))

pub returns-then-are_too_many-clause-so_far : goal.returns-then-are_too_many-clause-so_far
returns-then-are_too_many-clause-so_far g c = λ state events given told. inl told

pub returns-then-are_too_many-clause-refused : goal.returns-then-are_too_many-clause-refused
returns-then-are_too_many-clause-refused g c = λ is.
    record { same = c.turn_to.ensures.same; history = refl; size = refl }

pub returns-in-Some-2-clause-step : goal.returns-in-Some-2-clause-step
returns-in-Some-2-clause-step g c = λ state events given told.
    let keeps = c.turn_to.ensures.keeps state (g.D.Disk.history c.args.disk.now) (g.D.Disk.size c.args.disk.now)
    (other_names state) c.requires.kept given in
    let kept = c.turn_to.new.kept in
    let history = g.D.Disk.history c.args.disk.now in
    let few = too-many-by kept (length c.args.parents.now) c.number_next-number.result c.are_too_many.result false
    c.number_next-number.ensures.value c.are_too_many.ensures c.if-are_too_many.false in
    on-disk state (Snap c.args.sub c.args.parents.now) (Refused c.in-Some-2.why) kept events history told
    (does_nothing kept state history (Snap c.args.sub c.args.parents.now) c.in-Some-2.why keeps
    (snap-late kept state history (g.D.Disk.size c.args.disk.now)
    (c.turn_to.ensures.kept (g.D.Disk.history c.args.disk.now) (g.D.Disk.size c.args.disk.now) c.requires.kept) keeps
    c.in_ok-why-2.ensures.table c.args.sub c.args.parents.now
    (target-listed c.args.kept.now kept state (g.D.Disk.history c.args.disk.now) (g.D.Disk.history c.args.disk.now)
    given
    keeps c.args.sub (sym c.turn_to.ensures.there ∙ c.if-not-turn_to.false))
    (sym c.in_ok-why.ensures ∙ c.in_default.is) few
    ∙ ap (commit_refusal c.turn_to.new.kept) (sym c.in_ok-copies.ensures)
    ∙ sym c.in_ok-why-2.ensures.value ∙ c.in-Some-2.is))

pub returns-in-Some-2-clause-so_far : goal.returns-in-Some-2-clause-so_far
returns-in-Some-2-clause-so_far g c = λ state events given told. inl told

pub returns-in-Some-2-clause-refused : goal.returns-in-Some-2-clause-refused
returns-in-Some-2-clause-refused g c = λ is.
    record { same = c.turn_to.ensures.same; history = refl; size = refl }

pub returns-in_err-why-2-clause-so_far : goal.returns-in_err-why-2-clause-so_far
returns-in_err-why-2-clause-so_far g c = λ state events given told. inl told

-- ---- a state that is kept

module _ (g : Over) (c : After-commit_pending g) (state : State)
    (given : IsKeptOf c.args.kept.now state (g.D.Disk.history c.args.disk.now)) where
  keeps : IsKeptOf c.turn_to.new.kept state (g.D.Disk.history c.args.disk.now)
  keeps =
      c.turn_to.ensures.keeps state (g.D.Disk.history c.args.disk.now) (g.D.Disk.size c.args.disk.now)
      (other_names state) c.requires.kept given

  unrefused : refusal state (Snap c.args.sub c.args.parents.now) ≡ None
  unrefused =
      snap-late c.turn_to.new.kept state (g.D.Disk.history c.args.disk.now) (g.D.Disk.size c.args.disk.now)
      (c.turn_to.ensures.kept (g.D.Disk.history c.args.disk.now) (g.D.Disk.size c.args.disk.now) c.requires.kept) keeps
      c.in_ok-why-2.ensures.table c.args.sub c.args.parents.now
      (target-listed c.args.kept.now c.turn_to.new.kept state (g.D.Disk.history c.args.disk.now)
      (g.D.Disk.history c.args.disk.now) given keeps c.args.sub
      (sym c.turn_to.ensures.there ∙ c.if-not-turn_to.false))
      (sym c.in_ok-why.ensures ∙ c.in_default.is)
      (too-many-by c.turn_to.new.kept (length c.args.parents.now) c.number_next-number.result
      c.are_too_many.result false c.number_next-number.ensures.value c.are_too_many.ensures c.if-are_too_many.false)
      ∙ ap (commit_refusal c.turn_to.new.kept) (sym c.in_ok-copies.ensures)
      ∙ sym c.in_ok-why-2.ensures.value ∙ c.in_default-2.is

ready : (g : Over) (c : In_ok-snap_change g) (state : State) (events : List Event)
    → IsKeptOf c.args.kept.now state (g.D.Disk.history c.args.disk.now)
    → g.D.Disk.history c.args.disk.now ≡ Recorded events
    → refusal state (Snap c.args.sub c.args.parents.now) ≡ None
    → IsReady state (Snap c.args.sub c.args.parents.now) (Sub c.new-copy.result) c.commit_pending.new.kept
    c.snap_change.new.kept events (g.D.Disk.history c.commit_pending.new.disk)
    (g.D.Disk.history c.snap_change.new.disk)
ready g c state events given told unrefused =
    let keeps = c.turn_to.ensures.keeps state (g.D.Disk.history c.args.disk.now) (g.D.Disk.size c.args.disk.now)
    (other_names state) c.requires.kept given in
    let first = c.in_ok-commit_pending.ensures.committed state events keeps told in
    let change = c.in_ok-snap_change.ensures.changed first.before first.keeps
    c.in_ok-commit_pending.ensures.settled.pending in
    record {
      comes = refl;
      unrefused = unrefused;
      done = c.in_ok-commit_pending.ensures.so_far state events keeps told;
      first = first;
      change = change;
      same = c.in_ok-snap_change.ensures.apart.0;
      held = held-snapped first.before change.changed c.args.sub c.args.parents.now (Sub c.new-copy.result)
          change.changes;
      fits = c.in_ok-snap_change.ensures.kept.fitted;
    }

-- ---- what is pending is committed

pub commit_pending-requires : goal.commit_pending-requires
commit_pending-requires g c = record {
  kept = c.turn_to.ensures.kept (g.D.Disk.history c.args.disk.now) (g.D.Disk.size c.args.disk.now) c.requires.kept;
  early = if-none c.in_ok-why-2.field-0 _ c.in_default-2.is c.in_ok-why-2.ensures.early;
}

pub returns-then-are_too_many-clause-kept : goal.returns-then-are_too_many-clause-kept
returns-then-are_too_many-clause-kept g c =
    c.turn_to.ensures.kept (g.D.Disk.history c.args.disk.now) (g.D.Disk.size c.args.disk.now) c.requires.kept

pub returns-in-Some-2-clause-kept : goal.returns-in-Some-2-clause-kept
returns-in-Some-2-clause-kept g c =
    c.turn_to.ensures.kept (g.D.Disk.history c.args.disk.now) (g.D.Disk.size c.args.disk.now) c.requires.kept

pub returns-in_err-commit_pending-clause-so_far : goal.returns-in_err-commit_pending-clause-so_far
returns-in_err-commit_pending-clause-so_far g c = λ state events given told.
    let at = (goal.at.returns-in_err-commit_pending-clause-so_far g c).After-commit_pending in
    so-far-first state (Snap c.args.sub c.args.parents.now) events (g.D.Disk.history c.commit_pending.new.disk)
    (g.D.Disk.history c.commit_pending.new.disk) refl (unrefused g at state given) refl
    (c.in_err-commit_pending.ensures.so_far state events (keeps g at state given) told)

pub returns-in_err-commit_pending-clause-sound : goal.returns-in_err-commit_pending-clause-sound
returns-in_err-commit_pending-clause-sound g c = λ state events told given.
    let at = (goal.at.returns-in_err-commit_pending-clause-sound g c).After-commit_pending in
    handed-sound (Unit {0}) c.from_residual-in_err-commit_pending.result _
    (handed c.from_residual-in_err-commit_pending.result _ c.from_residual-in_err-commit_pending.ensures.1)
    (c.in_err-commit_pending.ensures.sound state events told (keeps g at state given))

pub returns-in_err-commit_pending-clause-err : goal.returns-in_err-commit_pending-clause-err
returns-in_err-commit_pending-clause-err g c =
    let given = Snap c.args.sub c.args.parents.now in
    let before = g.D.Disk.history c.args.disk.now in
    let after = g.D.Disk.history c.commit_pending.new.disk in
    last-any given c.args.kept.now c.commit_pending.new.kept before after
    c.from_residual-in_err-commit_pending.result
    (stays-pending given c.args.kept.now c.turn_to.new.kept c.commit_pending.new.kept before before after
    c.turn_to.ensures.superblock (λ state events keeps told. (
      c.turn_to.ensures.keeps state before
          (g.D.Disk.size c.args.disk.now) (other_names state) c.requires.kept keeps,
      told,
    ))
    c.in_err-commit_pending.ensures.err)

-- ---- the change

pub snap_change-requires : goal.snap_change-requires
snap_change-requires g c =
    let kept = c.turn_to.new.kept in
    let mid = c.commit_pending.new.kept in
    let settled = c.in_ok-commit_pending.ensures.settled in
    let parents = c.args.parents.now in
    record {
      kept = c.in_ok-commit_pending.ensures.kept;
      hand = settled.owner ∙ c.turn_to.ensures.hand c.if-not-turn_to.false;
      number = c.new-copy.ensures ∙ c.number_next-number.ensures.value ∙ sym (number-same kept mid settled);
      listed = record {
        few = too-many-same kept mid settled (length parents)
            ∙ too-many-by kept (length parents) c.number_next-number.result c.are_too_many.result false
            c.number_next-number.ensures.value c.are_too_many.ensures c.if-are_too_many.false;
        parents = snap-same kept mid settled parents ∙ sym c.in_ok-why.ensures ∙ c.in_default.is;
      };
      room = c.in_ok-commit_pending.ensures.room (18 + length parents)
          (subst (λ (n : ℕ). structural_need_of kept n ≤ free_slots kept.fs.land.space) c.in_ok-copies.ensures
          (if-none c.in_ok-why-2.field-0
          (structural_need_of kept c.in_ok-copies.copies ≤ free_slots kept.fs.land.space) c.in_default-2.is
          c.in_ok-why-2.ensures.enough));
    }

pub returns-in_err-snap_change-clause-so_far : goal.returns-in_err-snap_change-clause-so_far
returns-in_err-snap_change-clause-so_far g c = λ state events given told.
    let at = (goal.at.returns-in_err-snap_change-clause-so_far g c).After-commit_pending in
    so-far-first state (Snap c.args.sub c.args.parents.now) events (g.D.Disk.history c.commit_pending.new.disk)
    (g.D.Disk.history c.snap_change.new.disk) refl (unrefused g at state given) c.in_err-snap_change.ensures.apart.0
    (c.in_ok-commit_pending.ensures.so_far state events (keeps g at state given) told)

pub returns-in_err-snap_change-clause-sound : goal.returns-in_err-snap_change-clause-sound
returns-in_err-snap_change-clause-sound g c = λ state events told given.
    let keeps = c.turn_to.ensures.keeps state (g.D.Disk.history c.args.disk.now) (g.D.Disk.size c.args.disk.now)
    (other_names state) c.requires.kept given in
    let first = c.in_ok-commit_pending.ensures.committed state events keeps told in
    handed-sound (Unit {0}) c.from_residual-in_err-snap_change.result _
    (handed c.from_residual-in_err-snap_change.result _ c.from_residual-in_err-snap_change.ensures.1)
    (c.in_err-snap_change.ensures.sound first.before first.between first.keeps first.told)

pub returns-in_err-snap_change-clause-err : goal.returns-in_err-snap_change-clause-err
returns-in_err-snap_change-clause-err g c =
    let kept = c.args.kept.now in
    let before = g.D.Disk.history c.args.disk.now in
    let after = g.D.Disk.history c.snap_change.new.disk in
    last-any (Snap c.args.sub c.args.parents.now) kept c.snap_change.new.kept before after
    c.from_residual-in_err-snap_change.result
    (last-settled (Snap c.args.sub c.args.parents.now) kept c.turn_to.new.kept c.commit_pending.new.kept
    c.snap_change.new.kept before
    after refl c.turn_to.ensures.superblock (ap (λ (k : OpenImage). k.pending) c.turn_to.ensures.same.rest)
    c.in_ok-commit_pending.ensures.settled c.in_err-snap_change.ensures.superblock (λ state events given told.
    let keeps = c.turn_to.ensures.keeps state before (g.D.Disk.size c.args.disk.now) (other_names state)
    c.requires.kept given in
    inl (made-first state c.commit_pending.new.kept events (g.D.Disk.history c.commit_pending.new.disk) after
    (c.in_ok-commit_pending.ensures.committed state events keeps told) c.in_err-snap_change.ensures.apart.0)))

-- ---- it is committed

pub commit_now-requires : goal.commit_now-requires
commit_now-requires g c = record {
  kept = c.in_ok-snap_change.ensures.kept;
  early = early-second c.turn_to.new.kept c.commit_pending.new.kept c.snap_change.new.kept
      c.in_ok-commit_pending.ensures.settled c.in_ok-snap_change.ensures.superblock
      (if-none c.in_ok-why-2.field-0 _ c.in_default-2.is c.in_ok-why-2.ensures.early);
}

pub returns-in_err-commit_now-clause-so_far : goal.returns-in_err-commit_now-clause-so_far
returns-in_err-commit_now-clause-so_far g c = λ state events given told.
    let at = goal.at.returns-in_err-commit_now-clause-so_far g c in
    so-far-second
    (ready g at.In_ok-snap_change state events given told (unrefused g at.After-commit_pending state given))
    (g.D.Disk.history c.commit_now.new.disk) c.in_err-commit_now.ensures.so_far

pub returns-in_err-commit_now-clause-sound : goal.returns-in_err-commit_now-clause-sound
returns-in_err-commit_now-clause-sound g c = λ state events told given.
    let at = goal.at.returns-in_err-commit_now-clause-sound g c in
    handed-sound (Unit {0}) c.from_residual-in_err-commit_now.result _
    (handed c.from_residual-in_err-commit_now.result _ c.from_residual-in_err-commit_now.ensures.1)
    (of-changed
    (ready g at.In_ok-snap_change state events given told (unrefused g at.After-commit_pending state given)) _
    c.in_err-commit_now.ensures.sound)

pub returns-in_err-commit_now-clause-err : goal.returns-in_err-commit_now-clause-err
returns-in_err-commit_now-clause-err g c =
    let at = goal.at.returns-in_err-commit_now-clause-err g c in
    let kept = c.args.kept.now in
    let before = g.D.Disk.history c.args.disk.now in
    let last = g.D.Disk.history c.commit_now.new.disk in
    last-any (Snap c.args.sub c.args.parents.now) kept c.commit_now.new.kept before last
    c.from_residual-in_err-commit_now.result
    (last-settled (Snap c.args.sub c.args.parents.now) kept c.turn_to.new.kept c.commit_pending.new.kept
    c.commit_now.new.kept before
    last refl c.turn_to.ensures.superblock (ap (λ (k : OpenImage). k.pending) c.turn_to.ensures.same.rest)
    c.in_ok-commit_pending.ensures.settled
    (c.in_err-commit_now.ensures.err ∙ c.in_ok-snap_change.ensures.superblock) (λ state events given told.
    made-second
    (ready g at.In_ok-snap_change state events given told (unrefused g at.After-commit_pending state given))
    last c.in_err-commit_now.ensures.stops))

pub returns-clause-step : goal.returns-clause-step
returns-clause-step g c = λ state events given told.
    let at = goal.at.returns-clause-step g c in
    does-structural
    (ready g at.In_ok-snap_change state events given told (unrefused g at.After-commit_pending state given))
    c.commit_now.new.kept (g.D.Disk.history c.commit_now.new.disk) c.in_ok-commit_now.ensures.commits
    (λ commits then does. does)

pub returns-clause-so_far : goal.returns-clause-so_far
returns-clause-so_far g c = λ state events given told.
    let at = goal.at.returns-clause-so_far g c in
    so-far-second
    (ready g at.In_ok-snap_change state events given told (unrefused g at.After-commit_pending state given))
    (g.D.Disk.history c.commit_now.new.disk) c.in_ok-commit_now.ensures.so_far

-- ---- over any disk

pub returns-in_err-commit_pending-clause-intact : goal.returns-in_err-commit_pending-clause-intact
returns-in_err-commit_pending-clause-intact g c =
    let residual = c.from_residual-in_err-commit_pending in
    let after = g.D.Disk.history c.commit_pending.new.disk in
    intact-handed (Unit {0}) residual.result _ (Snap c.args.sub c.args.parents.now) c.args.kept.now
    c.commit_pending.new.kept
    (g.D.Disk.history c.args.disk.now) after (after ≡ (g.D.Disk.history c.args.disk.now))
    (handed residual.result _ residual.ensures.1) (λ same. inl (same)) c.in_err-commit_pending.ensures.calls.intact

pub returns-in_err-snap_change-clause-intact : goal.returns-in_err-snap_change-clause-intact
returns-in_err-snap_change-clause-intact g c =
    broken-any c.from_residual-in_err-snap_change.result _
    (intact-first (Snap c.args.sub c.args.parents.now) c.args.kept.now c.turn_to.new.kept c.commit_pending.new.kept
    c.snap_change.new.kept (g.D.Disk.history c.args.disk.now) (g.D.Disk.history c.args.disk.now)
    (g.D.Disk.history c.commit_pending.new.disk) (g.D.Disk.history c.snap_change.new.disk) refl refl
    (ap (λ (k : OpenImage). k.pending) c.turn_to.ensures.same.rest)
    c.in_ok-commit_pending.ensures.calls.none c.in_ok-commit_pending.ensures.calls.calls
    c.in_err-snap_change.ensures.superblock c.in_err-snap_change.ensures.apart.0)

pub returns-in_err-commit_now-clause-intact : goal.returns-in_err-commit_now-clause-intact
returns-in_err-commit_now-clause-intact g c =
    let residual = c.from_residual-in_err-commit_now in
    let last = g.D.Disk.history c.commit_now.new.disk in
    intact-handed (Unit {0}) residual.result _ (Snap c.args.sub c.args.parents.now) c.args.kept.now
    c.commit_now.new.kept
    (g.D.Disk.history c.args.disk.now) last (last ≡ (g.D.Disk.history c.snap_change.new.disk))
    (handed residual.result _ residual.ensures.1) (λ same.
    intact-first (Snap c.args.sub c.args.parents.now) c.args.kept.now c.turn_to.new.kept c.commit_pending.new.kept
    c.commit_now.new.kept (g.D.Disk.history c.args.disk.now) (g.D.Disk.history c.args.disk.now)
    (g.D.Disk.history c.commit_pending.new.disk) (g.D.Disk.history c.commit_now.new.disk) refl refl
    (ap (λ (k : OpenImage). k.pending) c.turn_to.ensures.same.rest)
    c.in_ok-commit_pending.ensures.calls.none c.in_ok-commit_pending.ensures.calls.calls
    (c.in_err-commit_now.ensures.err ∙ c.in_ok-snap_change.ensures.superblock)
    (same ∙ c.in_ok-snap_change.ensures.apart.0)) c.in_err-commit_now.ensures.intact.broken

pub returns-in_err-commit_pending-clause-stops : goal.returns-in_err-commit_pending-clause-stops
returns-in_err-commit_pending-clause-stops g c =
    let residual = c.from_residual-in_err-commit_pending in
    pending-stored (Unit {0}) residual.result _ c.args.kept.now c.turn_to.new.kept (g.D.Disk.size c.args.disk.now)
    (g.D.Disk.size c.args.disk.now) residual.ensures.1 c.turn_to.ensures.superblock refl
    c.in_err-commit_pending.ensures.calls.cause

pub returns-in_err-snap_change-clause-stops : goal.returns-in_err-snap_change-clause-stops
returns-in_err-snap_change-clause-stops g c =
    let residual = c.from_residual-in_err-snap_change in
    change-stored (Unit {0}) residual.result _ c.args.kept.now c.turn_to.new.kept c.commit_pending.new.kept
    (g.D.Disk.size c.args.disk.now) (g.D.Disk.size c.args.disk.now) (g.D.Disk.size c.commit_pending.new.disk)
    residual.ensures.1 c.in_ok-commit_pending.ensures.kept.fitted
    c.turn_to.ensures.superblock
    c.in_ok-commit_pending.ensures.sizes.0 refl c.in_ok-commit_pending.ensures.sizes.1
    c.in_err-snap_change.ensures.stops

pub returns-in_err-commit_now-clause-stops : goal.returns-in_err-commit_now-clause-stops
returns-in_err-commit_now-clause-stops g c =
    let residual = c.from_residual-in_err-commit_now in
    second-stored (Unit {0}) residual.result _ c.args.kept.now c.turn_to.new.kept c.commit_pending.new.kept
    c.snap_change.new.kept (g.D.Disk.size c.args.disk.now) (g.D.Disk.size c.args.disk.now)
    (g.D.Disk.size c.commit_pending.new.disk) (g.D.Disk.size c.snap_change.new.disk) residual.ensures.1
    c.in_ok-snap_change.ensures.kept.fitted
    c.turn_to.ensures.superblock
    c.in_ok-commit_pending.ensures.sizes.0 c.in_ok-snap_change.ensures.superblock refl
    c.in_ok-commit_pending.ensures.sizes.1 c.in_ok-snap_change.ensures.apart.1 c.in_err-commit_now.ensures.intact.cause
