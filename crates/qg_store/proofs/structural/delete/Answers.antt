use Rattle.std.proofs.Common.{◌≡◌, ◌+◌, ◌∙◌, ◌≤◌, ℕ, List, ap, inl, refl, sym, None}
use Rattle.qg_device.specs.History.{Event, Recorded}
use Rattle.qg_num.specs.declared.answer.Answer.TheVariants.{Done, Refused}
use Rattle.qg_num.specs.declared.command.Command.TheVariants.{Delete}
use Rattle.qg_num.specs.declared.refusal.Refusal.TheVariants as why
use Rattle.qg_image.specs.Table.{has_key}
use Rattle.qg_machine.specs.Refusals.{refusal, nodes_reached}
use Rattle.qg_image.specs.State.{State}
use Rattle.qg_blocks.proofs.Broken.{broken-any}
use Rattle.qg_space.specs.Holding.{free_slots}
use Rattle.qg_image_commits.proofs.PiecesRead.{handed}
use Rattle.qg_image_commits.proofs.WholeFile.{handed-sound}
use Rattle.qg_image_commits.specs.FsLawsKeeping.{other_names}
use Rattle.qg_image_commits.specs.Types.{OpenImage}
use Rattle.qg_image_commits.specs.Keeping.{IsKeptOf, structural_need_of}
use Rattle.qg_file_commands.proofs.Cloned.{target-listed}
use Rattle.qg_file_commands.proofs.Edited.{if-none}
use Rattle.qg_image_commits.proofs.Looked.{keeps-looked, node-size, superblock-read}
use Rattle.qg_image_commits.proofs.OnDisk.{last-any, on-disk, stays-pending, stays-still}
use Rattle.qg_store.proofs.Reasoned.{delete-late, delete-no-sub, delete-top}
use Rattle.qg_image_commits.proofs.Stepped.{does_nothing}
use Rattle.qg_store.proofs.Structured.{IsReady, of-changed, does-structural, early-second, held-deleted, last-settled}
use Rattle.qg_store.proofs.Structured.{made-first}
use Rattle.qg_store.proofs.Structured.{intact-first, intact-handed, made-second, reached-settled, so-far-first}
use Rattle.qg_store.proofs.Structured.{so-far-second}
use Rattle.qg_image_commits.proofs.Turned.{looked-refl, looked-turned}
use Rattle.qg_image_commits.specs.Types.{KeptSubvolume}
use Rattle.qg_store.proofs.Stopped.{change-stored, first-stored, pending-stored, second-stored}
use Rattle.qg_store.proofs.structural.delete.Given.{Over}
use Rattle.qg_store.proofs.structural.delete.Goals as goal
use Rattle.qg_store.proofs.structural.delete.Goals.{After-commit_pending, In_ok-delete_change}

pub turn_to-requires : goal.turn_to-requires
turn_to-requires g c = record { fitted = c.requires.kept.fitted }

pub copies_of_tree-requires : goal.copies_of_tree-requires
copies_of_tree-requires g c = record {
  kept = c.turn_to.ensures.kept (g.D.Disk.history c.args.disk.now) (g.D.Disk.size c.args.disk.now) c.requires.kept;
}

-- ---- the top-level one stays, and so does one that isn't there

pub returns-then-value-eq-TOP_LEVEL-clause-step : goal.returns-then-value-eq-TOP_LEVEL-clause-step
returns-then-value-eq-TOP_LEVEL-clause-step g c = λ state events keeps told.
    let kept = c.args.kept.now in
    let history = g.D.Disk.history c.args.disk.now in
    on-disk state (Delete c.args.sub) (Refused why.TopLevel) kept events history told
    (does_nothing kept state history (Delete c.args.sub) why.TopLevel keeps
    (delete-top kept state history c.requires.kept.fitted keeps c.args.sub
    (sym c.value.ensures ∙ c.if-value-eq-TOP_LEVEL.true)))

pub returns-then-value-eq-TOP_LEVEL-clause-so_far : goal.returns-then-value-eq-TOP_LEVEL-clause-so_far
returns-then-value-eq-TOP_LEVEL-clause-so_far g c = λ state events keeps told. inl told

pub returns-then-value-eq-TOP_LEVEL-clause-refused : goal.returns-then-value-eq-TOP_LEVEL-clause-refused
returns-then-value-eq-TOP_LEVEL-clause-refused g c = λ is.
    looked-refl c.args.kept.now (g.D.Disk.history c.args.disk.now) (g.D.Disk.size c.args.disk.now)

pub returns-then-not-turn_to-clause-kept : goal.returns-then-not-turn_to-clause-kept
returns-then-not-turn_to-clause-kept g c =
    c.turn_to.ensures.kept (g.D.Disk.history c.args.disk.now) (g.D.Disk.size c.args.disk.now) c.requires.kept

pub returns-then-not-turn_to-clause-step : goal.returns-then-not-turn_to-clause-step
returns-then-not-turn_to-clause-step g c = λ state events given told.
    let history = g.D.Disk.history c.args.disk.now in
    let keeps = c.turn_to.ensures.keeps state history (g.D.Disk.size c.args.disk.now) (other_names state)
    c.requires.kept given in
    on-disk state (Delete c.args.sub) (Refused why.NoSub) c.turn_to.new.kept events history told
    (does_nothing c.turn_to.new.kept state history (Delete c.args.sub) why.NoSub keeps
    (delete-no-sub c.args.kept.now state history c.requires.kept.fitted given c.args.sub
    (λ is. c.if-value-eq-TOP_LEVEL.false (c.value.ensures ∙ is)) (sym c.turn_to.ensures.there ∙ c.if-not-turn_to.true)))

pub returns-then-not-turn_to-clause-so_far : goal.returns-then-not-turn_to-clause-so_far
returns-then-not-turn_to-clause-so_far g c = λ state events given told. inl told

pub returns-then-not-turn_to-clause-refused : goal.returns-then-not-turn_to-clause-refused
returns-then-not-turn_to-clause-refused g c = λ is.
    record { same = c.turn_to.ensures.same; history = refl; size = refl }

-- ---- its nodes are counted

pub returns-in_err-copies-clause-so_far : goal.returns-in_err-copies-clause-so_far
returns-in_err-copies-clause-so_far g c = λ state events given told. inl (c.in_err-copies.ensures.looked.history ∙ told)

pub returns-in_err-copies-clause-sound : goal.returns-in_err-copies-clause-sound
returns-in_err-copies-clause-sound g c = λ state events told given.
    let turned = c.turn_to.ensures.keeps state (g.D.Disk.history c.args.disk.now) (g.D.Disk.size c.args.disk.now)
    (other_names state) c.requires.kept given in
    handed-sound ℕ c.from_residual.result _ (handed c.from_residual.result _ c.from_residual.ensures.1)
    (c.in_err-copies.ensures.sound state events told turned)

pub returns-in_err-copies-clause-err : goal.returns-in_err-copies-clause-err
returns-in_err-copies-clause-err g c =
    last-any (Delete c.args.sub) c.args.kept.now c.copies_of_tree.new.kept (g.D.Disk.history c.args.disk.now)
    (g.D.Disk.history c.copies_of_tree.new.disk) c.from_residual.result
    (stays-still (Delete c.args.sub) c.args.kept.now c.copies_of_tree.new.kept (g.D.Disk.history c.args.disk.now)
    (g.D.Disk.history c.copies_of_tree.new.disk)
    (superblock-read c.turn_to.new.kept c.copies_of_tree.new.kept _ _ _ _ c.in_err-copies.ensures.looked
    ∙ c.turn_to.ensures.superblock) c.in_err-copies.ensures.looked.history)

pub no_commit-requires : goal.no_commit-requires
no_commit-requires g c = record { size = node-size c.copies_of_tree.new.kept c.in_ok-copies.ensures.kept.fitted }

-- ---- it is refused

pub returns-in-Some-clause-step : goal.returns-in-Some-clause-step
returns-in-Some-clause-step g c = λ state events given told.
    let turned = c.turn_to.ensures.keeps state (g.D.Disk.history c.args.disk.now) (g.D.Disk.size c.args.disk.now)
    (other_names state) c.requires.kept given in
    let looked = c.in_ok-copies.ensures.looked in
    let keeps = keeps-looked c.turn_to.new.kept c.copies_of_tree.new.kept _ _ _ _ state (other_names state) looked
    turned in
    let kept = c.copies_of_tree.new.kept in
    let history = g.D.Disk.history c.copies_of_tree.new.disk in
    on-disk state (Delete c.args.sub) (Refused c.in-Some.why) kept events history (looked.history ∙ told)
    (does_nothing kept state history (Delete c.args.sub) c.in-Some.why keeps
    (delete-late kept state history (g.D.Disk.size c.copies_of_tree.new.disk) c.in_ok-copies.ensures.kept keeps
    c.in_ok-why.ensures.table c.args.sub c.in_ok-copies.copies (λ is. c.if-value-eq-TOP_LEVEL.false (c.value.ensures
    ∙ is))
    (target-listed c.args.kept.now kept state (g.D.Disk.history c.args.disk.now)
    (g.D.Disk.history c.copies_of_tree.new.disk) given keeps c.args.sub
    (sym c.turn_to.ensures.there ∙ c.if-not-turn_to.false)) (sym (c.in_ok-copies.ensures.counted state turned
    ∙ ap (λ (n : ℕ). 18 + nodes_reached state n) (c.turn_to.ensures.hand c.if-not-turn_to.false)))
    ∙ sym c.in_ok-why.ensures.value ∙ c.in-Some.is))

pub returns-in-Some-clause-so_far : goal.returns-in-Some-clause-so_far
returns-in-Some-clause-so_far g c = λ state events given told. inl (c.in_ok-copies.ensures.looked.history ∙ told)

pub returns-in-Some-clause-refused : goal.returns-in-Some-clause-refused
returns-in-Some-clause-refused g c = λ is.
    looked-turned c.args.kept.now c.turn_to.new.kept c.copies_of_tree.new.kept _ _ _ _ c.turn_to.ensures.same
    c.in_ok-copies.ensures.looked

pub returns-in_err-why-clause-so_far : goal.returns-in_err-why-clause-so_far
returns-in_err-why-clause-so_far g c = λ state events given told. inl (c.in_ok-copies.ensures.looked.history ∙ told)

-- ---- a state that is kept, and isn't refused

module _ (g : Over) (c : After-commit_pending g) (state : State)
    (given : IsKeptOf c.args.kept.now state (g.D.Disk.history c.args.disk.now)) where
  turned : IsKeptOf c.turn_to.new.kept state (g.D.Disk.history c.args.disk.now)
  turned =
      c.turn_to.ensures.keeps state (g.D.Disk.history c.args.disk.now) (g.D.Disk.size c.args.disk.now)
      (other_names state) c.requires.kept given

  keeps : IsKeptOf c.copies_of_tree.new.kept state (g.D.Disk.history c.copies_of_tree.new.disk)
  keeps =
      keeps-looked c.turn_to.new.kept c.copies_of_tree.new.kept _ _ _ _ state (other_names state)
      c.in_ok-copies.ensures.looked turned

  counted : c.in_ok-copies.copies ≡ 18 + nodes_reached state c.args.sub
  counted =
      c.in_ok-copies.ensures.counted state turned
      ∙ ap (λ (n : ℕ). 18 + nodes_reached state n) (c.turn_to.ensures.hand c.if-not-turn_to.false)

  unrefused : refusal state (Delete c.args.sub) ≡ None
  unrefused =
      delete-late c.copies_of_tree.new.kept state (g.D.Disk.history c.copies_of_tree.new.disk)
      (g.D.Disk.size c.copies_of_tree.new.disk) c.in_ok-copies.ensures.kept keeps c.in_ok-why.ensures.table c.args.sub
      c.in_ok-copies.copies (λ is. c.if-value-eq-TOP_LEVEL.false (c.value.ensures ∙ is))
      (target-listed c.args.kept.now c.copies_of_tree.new.kept state (g.D.Disk.history c.args.disk.now)
      (g.D.Disk.history c.copies_of_tree.new.disk) given keeps c.args.sub
      (sym c.turn_to.ensures.there ∙ c.if-not-turn_to.false)) (sym counted)
      ∙ sym c.in_ok-why.ensures.value ∙ c.in_default.is

ready : (g : Over) (c : In_ok-delete_change g) (state : State) (events : List Event)
    → IsKeptOf c.copies_of_tree.new.kept state (g.D.Disk.history c.copies_of_tree.new.disk)
    → c.in_ok-copies.copies ≡ 18 + nodes_reached state c.args.sub
    → g.D.Disk.history c.copies_of_tree.new.disk ≡ Recorded events → refusal state (Delete c.args.sub) ≡ None
    → IsReady state (Delete c.args.sub) Done c.commit_pending.new.kept c.delete_change.new.kept events
    (g.D.Disk.history c.commit_pending.new.disk) (g.D.Disk.history c.delete_change.new.disk)
ready g c state events keeps counted told unrefused =
    let first = c.in_ok-commit_pending.ensures.committed state events keeps told in
    let change = c.in_ok-delete_change.ensures.changed first.before first.keeps
    c.in_ok-commit_pending.ensures.settled.pending
    (counted ∙ ap (λ (n : ℕ). 18 + n) (sym (reached-settled state first.earlier first.before first.first c.args.sub)))
    in
    record {
      comes = refl;
      unrefused = unrefused;
      done = c.in_ok-commit_pending.ensures.so_far state events keeps told;
      first = first;
      change = change;
      same = c.in_ok-delete_change.ensures.apart.0;
      held = held-deleted first.before change.changed c.args.sub Done change.changes;
      fits = c.in_ok-delete_change.ensures.kept.fitted;
    }

-- ---- what is pending is committed

pub commit_pending-requires : goal.commit_pending-requires
commit_pending-requires g c = record {
  kept = c.in_ok-copies.ensures.kept;
  early = if-none c.in_ok-why.field-0 _ c.in_default.is c.in_ok-why.ensures.early;
}

pub returns-in-Some-clause-kept : goal.returns-in-Some-clause-kept
returns-in-Some-clause-kept g c = c.in_ok-copies.ensures.kept

pub returns-in_err-commit_pending-clause-so_far : goal.returns-in_err-commit_pending-clause-so_far
returns-in_err-commit_pending-clause-so_far g c = λ state events given told.
    let at = (goal.at.returns-in_err-commit_pending-clause-so_far g c).After-commit_pending in
    so-far-first state (Delete c.args.sub) events (g.D.Disk.history c.commit_pending.new.disk)
    (g.D.Disk.history c.commit_pending.new.disk) refl (unrefused g at state given) refl
    (c.in_err-commit_pending.ensures.so_far state events (keeps g at state given)
    (c.in_ok-copies.ensures.looked.history ∙ told))

pub returns-in_err-commit_pending-clause-sound : goal.returns-in_err-commit_pending-clause-sound
returns-in_err-commit_pending-clause-sound g c = λ state events told given.
    handed-sound (Unit {0}) c.from_residual-in_err-commit_pending.result _
    (handed c.from_residual-in_err-commit_pending.result _ c.from_residual-in_err-commit_pending.ensures.1)
    (c.in_err-commit_pending.ensures.sound state events (c.in_ok-copies.ensures.looked.history ∙ told)
    (keeps g (goal.at.returns-in_err-commit_pending-clause-sound g c).After-commit_pending state given))

pub returns-in_err-commit_pending-clause-err : goal.returns-in_err-commit_pending-clause-err
returns-in_err-commit_pending-clause-err g c =
    let command = Delete c.args.sub in
    let before = g.D.Disk.history c.args.disk.now in
    let early = g.D.Disk.history c.copies_of_tree.new.disk in
    let after = g.D.Disk.history c.commit_pending.new.disk in
    let looked = c.in_ok-copies.ensures.looked in
    last-any command c.args.kept.now c.commit_pending.new.kept before after c.from_residual-in_err-commit_pending.result
    (stays-pending command c.args.kept.now c.copies_of_tree.new.kept c.commit_pending.new.kept before early after
    (superblock-read c.turn_to.new.kept c.copies_of_tree.new.kept _ _ _ _ looked ∙ c.turn_to.ensures.superblock)
    (λ state events given told.
    let turned = c.turn_to.ensures.keeps state before (g.D.Disk.size c.args.disk.now) (other_names state)
    c.requires.kept given in (
      keeps-looked c.turn_to.new.kept c.copies_of_tree.new.kept _ _ _ _ state (other_names state) looked turned,
      looked.history ∙ told,
    ))
    c.in_err-commit_pending.ensures.err)

-- ---- the change

pub delete_change-requires : goal.delete_change-requires
delete_change-requires g c =
    let kept = c.copies_of_tree.new.kept in
    let settled = c.in_ok-commit_pending.ensures.settled in
    record {
      kept = c.in_ok-commit_pending.ensures.kept;
      there = ap (λ (table : List (ℕ × KeptSubvolume)). has_key c.args.sub table)
          (settled.snapshots ∙ ap (λ (k : OpenImage). k.snapshots) c.in_ok-copies.ensures.looked.same
          ∙ ap (λ (k : OpenImage). k.snapshots) c.turn_to.ensures.same.rest)
          ∙ sym c.turn_to.ensures.there ∙ c.if-not-turn_to.false;
      other = λ is. c.if-value-eq-TOP_LEVEL.false (c.value.ensures ∙ is);
      room = c.in_ok-commit_pending.ensures.room c.in_ok-copies.copies
          (if-none c.in_ok-why.field-0 (structural_need_of kept c.in_ok-copies.copies ≤ free_slots kept.fs.land.space)
          c.in_default.is c.in_ok-why.ensures.enough);
    }

pub returns-in_err-delete_change-clause-so_far : goal.returns-in_err-delete_change-clause-so_far
returns-in_err-delete_change-clause-so_far g c = λ state events given told.
    let at = (goal.at.returns-in_err-delete_change-clause-so_far g c).After-commit_pending in
    so-far-first state (Delete c.args.sub) events (g.D.Disk.history c.commit_pending.new.disk)
    (g.D.Disk.history c.delete_change.new.disk) refl (unrefused g at state given) c.in_err-delete_change.ensures.apart.0
    (c.in_ok-commit_pending.ensures.so_far state events (keeps g at state given)
    (c.in_ok-copies.ensures.looked.history ∙ told))

pub returns-in_err-delete_change-clause-sound : goal.returns-in_err-delete_change-clause-sound
returns-in_err-delete_change-clause-sound g c = λ state events told given.
    let first = c.in_ok-commit_pending.ensures.committed state events
    (keeps g (goal.at.returns-in_err-delete_change-clause-sound g c).After-commit_pending state given)
    (c.in_ok-copies.ensures.looked.history ∙ told) in
    handed-sound (Unit {0}) c.from_residual-in_err-delete_change.result _
    (handed c.from_residual-in_err-delete_change.result _ c.from_residual-in_err-delete_change.ensures.1)
    (c.in_err-delete_change.ensures.sound first.before first.between first.keeps first.told)

pub returns-in_err-delete_change-clause-err : goal.returns-in_err-delete_change-clause-err
returns-in_err-delete_change-clause-err g c =
    let kept = c.args.kept.now in
    let before = g.D.Disk.history c.args.disk.now in
    let after = g.D.Disk.history c.delete_change.new.disk in
    last-any (Delete c.args.sub) kept c.delete_change.new.kept before after c.from_residual-in_err-delete_change.result
    (last-settled (Delete c.args.sub) kept c.copies_of_tree.new.kept c.commit_pending.new.kept
    c.delete_change.new.kept before after refl (superblock-read
    c.turn_to.new.kept c.copies_of_tree.new.kept _ _ _ _ c.in_ok-copies.ensures.looked ∙ c.turn_to.ensures.superblock)
    (ap (λ (k : OpenImage). k.pending) c.in_ok-copies.ensures.looked.same
    ∙ ap (λ (k : OpenImage). k.pending) c.turn_to.ensures.same.rest)
    c.in_ok-commit_pending.ensures.settled c.in_err-delete_change.ensures.superblock (λ state events given told.
    inl (made-first state c.commit_pending.new.kept events (g.D.Disk.history c.commit_pending.new.disk) after
    (c.in_ok-commit_pending.ensures.committed state events
    (keeps g (goal.at.returns-in_err-delete_change-clause-err g c).After-commit_pending state given)
    (c.in_ok-copies.ensures.looked.history ∙ told)) c.in_err-delete_change.ensures.apart.0)))

-- ---- it is committed

pub commit_now-requires : goal.commit_now-requires
commit_now-requires g c = record {
  kept = c.in_ok-delete_change.ensures.kept;
  early = early-second c.copies_of_tree.new.kept c.commit_pending.new.kept c.delete_change.new.kept
      c.in_ok-commit_pending.ensures.settled c.in_ok-delete_change.ensures.superblock
      (if-none c.in_ok-why.field-0 _ c.in_default.is c.in_ok-why.ensures.early);
}

pub returns-in_err-commit_now-clause-so_far : goal.returns-in_err-commit_now-clause-so_far
returns-in_err-commit_now-clause-so_far g c = λ state events given told.
    let at = goal.at.returns-in_err-commit_now-clause-so_far g c in
    so-far-second
    (ready g at.In_ok-delete_change state events (keeps g at.After-commit_pending state given)
    (counted g at.After-commit_pending state given) (c.in_ok-copies.ensures.looked.history ∙ told)
    (unrefused g at.After-commit_pending state given))
    (g.D.Disk.history c.commit_now.new.disk) c.in_err-commit_now.ensures.so_far

pub returns-in_err-commit_now-clause-sound : goal.returns-in_err-commit_now-clause-sound
returns-in_err-commit_now-clause-sound g c = λ state events told given.
    let at = goal.at.returns-in_err-commit_now-clause-sound g c in
    handed-sound (Unit {0}) c.from_residual-in_err-commit_now.result _
    (handed c.from_residual-in_err-commit_now.result _ c.from_residual-in_err-commit_now.ensures.1)
    (of-changed
    (ready g at.In_ok-delete_change state events (keeps g at.After-commit_pending state given)
    (counted g at.After-commit_pending state given) (c.in_ok-copies.ensures.looked.history ∙ told)
    (unrefused g at.After-commit_pending state given)) _
    c.in_err-commit_now.ensures.sound)

pub returns-in_err-commit_now-clause-err : goal.returns-in_err-commit_now-clause-err
returns-in_err-commit_now-clause-err g c =
    let at = goal.at.returns-in_err-commit_now-clause-err g c in
    let kept = c.args.kept.now in
    let before = g.D.Disk.history c.args.disk.now in
    let last = g.D.Disk.history c.commit_now.new.disk in
    last-any (Delete c.args.sub) kept c.commit_now.new.kept before last c.from_residual-in_err-commit_now.result
    (last-settled (Delete c.args.sub) kept c.copies_of_tree.new.kept c.commit_pending.new.kept
    c.commit_now.new.kept before last refl (superblock-read
    c.turn_to.new.kept c.copies_of_tree.new.kept _ _ _ _ c.in_ok-copies.ensures.looked ∙ c.turn_to.ensures.superblock)
    (ap (λ (k : OpenImage). k.pending) c.in_ok-copies.ensures.looked.same
    ∙ ap (λ (k : OpenImage). k.pending) c.turn_to.ensures.same.rest)
    c.in_ok-commit_pending.ensures.settled
    (c.in_err-commit_now.ensures.err ∙ c.in_ok-delete_change.ensures.superblock) (λ state events given told.
    made-second
    (ready g at.In_ok-delete_change state events (keeps g at.After-commit_pending state given)
    (counted g at.After-commit_pending state given) (c.in_ok-copies.ensures.looked.history ∙ told)
    (unrefused g at.After-commit_pending state given))
    last c.in_err-commit_now.ensures.stops))

pub returns-clause-step : goal.returns-clause-step
returns-clause-step g c = λ state events given told.
    let at = goal.at.returns-clause-step g c in
    does-structural
    (ready g at.In_ok-delete_change state events (keeps g at.After-commit_pending state given)
    (counted g at.After-commit_pending state given) (c.in_ok-copies.ensures.looked.history ∙ told)
    (unrefused g at.After-commit_pending state given))
    c.commit_now.new.kept (g.D.Disk.history c.commit_now.new.disk) c.in_ok-commit_now.ensures.commits
    (λ commits then does. does)

pub returns-clause-so_far : goal.returns-clause-so_far
returns-clause-so_far g c = λ state events given told.
    let at = goal.at.returns-clause-so_far g c in
    so-far-second
    (ready g at.In_ok-delete_change state events (keeps g at.After-commit_pending state given)
    (counted g at.After-commit_pending state given) (c.in_ok-copies.ensures.looked.history ∙ told)
    (unrefused g at.After-commit_pending state given))
    (g.D.Disk.history c.commit_now.new.disk) c.in_ok-commit_now.ensures.so_far

-- ---- over any disk

pub returns-in_err-copies-clause-intact : goal.returns-in_err-copies-clause-intact
returns-in_err-copies-clause-intact g c =
    broken-any c.from_residual.result _ (inl c.in_err-copies.ensures.looked.history)

pub returns-in_err-why-clause-intact : goal.returns-in_err-why-clause-intact
returns-in_err-why-clause-intact g c =
    broken-any c.from_residual-in_err-why.result _ (inl c.in_ok-copies.ensures.looked.history)

pub returns-in_err-commit_pending-clause-intact : goal.returns-in_err-commit_pending-clause-intact
returns-in_err-commit_pending-clause-intact g c =
    let residual = c.from_residual-in_err-commit_pending in
    let after = g.D.Disk.history c.commit_pending.new.disk in
    intact-handed (Unit {0}) residual.result _ (Delete c.args.sub) c.args.kept.now c.commit_pending.new.kept
    (g.D.Disk.history c.args.disk.now) after (after ≡ (g.D.Disk.history c.copies_of_tree.new.disk))
    (handed residual.result _ residual.ensures.1) (λ same. inl (same ∙ c.in_ok-copies.ensures.looked.history))
    c.in_err-commit_pending.ensures.calls.intact

pub returns-in_err-delete_change-clause-intact : goal.returns-in_err-delete_change-clause-intact
returns-in_err-delete_change-clause-intact g c =
    broken-any c.from_residual-in_err-delete_change.result _
    (intact-first (Delete c.args.sub) c.args.kept.now c.copies_of_tree.new.kept c.commit_pending.new.kept
    c.delete_change.new.kept (g.D.Disk.history c.args.disk.now) (g.D.Disk.history c.copies_of_tree.new.disk)
    (g.D.Disk.history c.commit_pending.new.disk) (g.D.Disk.history c.delete_change.new.disk) refl
    c.in_ok-copies.ensures.looked.history
    (ap (λ (k : OpenImage). k.pending) c.in_ok-copies.ensures.looked.same
    ∙ ap (λ (k : OpenImage). k.pending) c.turn_to.ensures.same.rest)
    c.in_ok-commit_pending.ensures.calls.none c.in_ok-commit_pending.ensures.calls.calls
    c.in_err-delete_change.ensures.superblock c.in_err-delete_change.ensures.apart.0)

pub returns-in_err-commit_now-clause-intact : goal.returns-in_err-commit_now-clause-intact
returns-in_err-commit_now-clause-intact g c =
    let residual = c.from_residual-in_err-commit_now in
    let last = g.D.Disk.history c.commit_now.new.disk in
    intact-handed (Unit {0}) residual.result _ (Delete c.args.sub) c.args.kept.now c.commit_now.new.kept
    (g.D.Disk.history c.args.disk.now) last (last ≡ (g.D.Disk.history c.delete_change.new.disk))
    (handed residual.result _ residual.ensures.1) (λ same.
    intact-first (Delete c.args.sub) c.args.kept.now c.copies_of_tree.new.kept c.commit_pending.new.kept
    c.commit_now.new.kept (g.D.Disk.history c.args.disk.now) (g.D.Disk.history c.copies_of_tree.new.disk)
    (g.D.Disk.history c.commit_pending.new.disk) (g.D.Disk.history c.commit_now.new.disk) refl
    c.in_ok-copies.ensures.looked.history
    (ap (λ (k : OpenImage). k.pending) c.in_ok-copies.ensures.looked.same
    ∙ ap (λ (k : OpenImage). k.pending) c.turn_to.ensures.same.rest)
    c.in_ok-commit_pending.ensures.calls.none c.in_ok-commit_pending.ensures.calls.calls
    (c.in_err-commit_now.ensures.err ∙ c.in_ok-delete_change.ensures.superblock)
    (same ∙ c.in_ok-delete_change.ensures.apart.0)) c.in_err-commit_now.ensures.intact.broken

pub returns-in_err-copies-clause-stops : goal.returns-in_err-copies-clause-stops
returns-in_err-copies-clause-stops g c =
    let history = g.D.Disk.history c.args.disk.now in
    let bytes = g.D.Disk.size c.args.disk.now in
    first-stored ℕ c.from_residual.result _ c.args.kept.now c.turn_to.new.kept bytes c.from_residual.ensures.1
    (c.turn_to.ensures.kept history bytes c.requires.kept).fitted c.turn_to.ensures.superblock
    c.in_err-copies.ensures.stops

pub returns-in_err-commit_pending-clause-stops : goal.returns-in_err-commit_pending-clause-stops
returns-in_err-commit_pending-clause-stops g c =
    let residual = c.from_residual-in_err-commit_pending in
    pending-stored (Unit {0}) residual.result _ c.args.kept.now c.copies_of_tree.new.kept
    (g.D.Disk.size c.args.disk.now) (g.D.Disk.size c.copies_of_tree.new.disk) residual.ensures.1
    (ap (λ (k : OpenImage). k.superblock) c.in_ok-copies.ensures.looked.same ∙ c.turn_to.ensures.superblock)
    c.in_ok-copies.ensures.looked.size c.in_err-commit_pending.ensures.calls.cause

pub returns-in_err-delete_change-clause-stops : goal.returns-in_err-delete_change-clause-stops
returns-in_err-delete_change-clause-stops g c =
    let residual = c.from_residual-in_err-delete_change in
    change-stored (Unit {0}) residual.result _ c.args.kept.now c.copies_of_tree.new.kept c.commit_pending.new.kept
    (g.D.Disk.size c.args.disk.now) (g.D.Disk.size c.copies_of_tree.new.disk) (g.D.Disk.size c.commit_pending.new.disk)
    residual.ensures.1 c.in_ok-commit_pending.ensures.kept.fitted
    (ap (λ (k : OpenImage). k.superblock) c.in_ok-copies.ensures.looked.same ∙ c.turn_to.ensures.superblock)
    c.in_ok-commit_pending.ensures.sizes.0 c.in_ok-copies.ensures.looked.size c.in_ok-commit_pending.ensures.sizes.1
    c.in_err-delete_change.ensures.stops

pub returns-in_err-commit_now-clause-stops : goal.returns-in_err-commit_now-clause-stops
returns-in_err-commit_now-clause-stops g c =
    let residual = c.from_residual-in_err-commit_now in
    second-stored (Unit {0}) residual.result _ c.args.kept.now c.copies_of_tree.new.kept c.commit_pending.new.kept
    c.delete_change.new.kept (g.D.Disk.size c.args.disk.now) (g.D.Disk.size c.copies_of_tree.new.disk)
    (g.D.Disk.size c.commit_pending.new.disk) (g.D.Disk.size c.delete_change.new.disk) residual.ensures.1
    c.in_ok-delete_change.ensures.kept.fitted
    (ap (λ (k : OpenImage). k.superblock) c.in_ok-copies.ensures.looked.same ∙ c.turn_to.ensures.superblock)
    c.in_ok-commit_pending.ensures.sizes.0 c.in_ok-delete_change.ensures.superblock c.in_ok-copies.ensures.looked.size
    c.in_ok-commit_pending.ensures.sizes.1 c.in_ok-delete_change.ensures.apart.1
    c.in_err-commit_now.ensures.intact.cause
