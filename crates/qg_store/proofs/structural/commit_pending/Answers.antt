use Rattle.std.proofs.Common.{arith, inl, refl}
use Rattle.qg_image_commits.specs.Calls.{commit_calls, unsure_calls}
use Rattle.qg_image_commits.specs.FsLawsKeeping.{other_names}
use Rattle.qg_image_commits.proofs.Reserve.{finds-planned}
use Rattle.qg_image_commits.proofs.Stopped.{stops-stored}
use Rattle.qg_store.proofs.Committed.{committed-none, committed-some, on-if, room-committed, room-same}
use Rattle.qg_image_changes.proofs.Fitting.{on-ok}
use Rattle.qg_store.proofs.Committed.{on-err-then, settled-committed, settled-same, so-far-pending, some-number}
use Rattle.qg_store.proofs.Committed.{stays-last}
use Rattle.qg_store.proofs.structural.commit_pending.Goals as goal

-- ---- nothing is pending

pub returns-then-kept-eq0-clause-settled : goal.returns-then-kept-eq0-clause-settled
returns-then-kept-eq0-clause-settled g c = settled-same c.args.kept.now c.if-kept-eq0.true

pub returns-then-kept-eq0-clause-room : goal.returns-then-kept-eq0-clause-room
returns-then-kept-eq0-clause-room g c = λ copies enough. room-same c.args.kept.now copies enough

pub returns-then-kept-eq0-clause-committed : goal.returns-then-kept-eq0-clause-committed
returns-then-kept-eq0-clause-committed g c = λ state events keeps told.
    committed-none c.args.kept.now state events (g.D.Disk.history c.args.disk.now) c.requires.kept.fitted keeps told
    c.if-kept-eq0.true

pub returns-then-kept-eq0-clause-so_far : goal.returns-then-kept-eq0-clause-so_far
returns-then-kept-eq0-clause-so_far g c = λ state events keeps told. inl told

pub returns-then-kept-eq0-clause-calls : goal.returns-then-kept-eq0-clause-calls
returns-then-kept-eq0-clause-calls g c = record {
  none = λ is. refl;
  calls = λ some. absurd (omega (arith, some, c.if-kept-eq0.true));
  intact = tt;
  cause = tt;
}

-- ---- something is

pub commit_now-requires-clause-early : goal.commit_now-requires-clause-early
commit_now-requires-clause-early g c = let early = c.requires.early in omega (arith, early)

pub returns-clause-settled : goal.returns-clause-settled
returns-clause-settled g c =
    on-ok _ _ c.commit_now.result
    (λ leaves. settled-committed c.args.kept.now c.commit_now.new.kept
    (some-number c.args.kept.now.pending c.if-kept-eq0.false) leaves.room) c.commit_now.ensures.leaves

pub returns-clause-room : goal.returns-clause-room
returns-clause-room g c = λ copies enough.
    on-ok _ _ c.commit_now.result
    (λ leaves. room-committed c.args.kept.now c.commit_now.new.kept copies c.requires.kept.fitted leaves.room
    c.commit_now.ensures.sizes.0 enough) c.commit_now.ensures.leaves

pub returns-clause-committed : goal.returns-clause-committed
returns-clause-committed g c = λ state events keeps told.
    let some = some-number c.args.kept.now.pending c.if-kept-eq0.false in
    on-if _ _ c.commit_now.result
    (committed-some c.args.kept.now state events (g.D.Disk.history c.args.disk.now) c.requires.kept.fitted keeps
    c.commit_now.new.kept (g.D.Disk.history c.commit_now.new.disk) some)
    (c.commit_now.ensures.commits state events (other_names state) keeps
    (finds-planned c.args.kept.now c.requires.kept.fitted (keeps.reserved some)) told)

pub returns-clause-so_far : goal.returns-clause-so_far
returns-clause-so_far g c = λ state events keeps told.
    let some = some-number c.args.kept.now.pending c.if-kept-eq0.false in
    so-far-pending c.args.kept.now state events (g.D.Disk.history c.args.disk.now) c.requires.kept.fitted keeps
    commit_calls (g.D.Disk.history c.commit_now.new.disk) some c.requires.early
    (c.commit_now.ensures.so_far state events (other_names state) keeps
    (finds-planned c.args.kept.now c.requires.kept.fitted (keeps.reserved some)) told)

pub returns-clause-sound : goal.returns-clause-sound
returns-clause-sound g c = λ state events told keeps.
    let some = some-number c.args.kept.now.pending c.if-kept-eq0.false in
    c.commit_now.ensures.sound state events (other_names state) keeps
    (finds-planned c.args.kept.now c.requires.kept.fitted (keeps.reserved some)) told

pub returns-clause-calls : goal.returns-clause-calls
returns-clause-calls g c =
    let some = some-number c.args.kept.now.pending c.if-kept-eq0.false in
    record {
      none = λ is. absurd (omega (arith, is, some));
      calls = on-ok _ _ c.commit_now.result (λ leaves some. (leaves.nodes, leaves.calls)) c.commit_now.ensures.leaves;
      intact = c.commit_now.ensures.intact.broken;
      cause = stops-stored c.commit_now.result c.args.kept.now (g.D.Disk.size c.args.disk.now)
          c.requires.kept.fitted c.commit_now.ensures.intact.cause;
    }

pub returns-clause-err : goal.returns-clause-err
returns-clause-err g c =
    stays-last c.args.kept.now c.commit_now.new.kept (g.D.Disk.history c.args.disk.now)
    (g.D.Disk.history c.commit_now.new.disk) c.commit_now.result c.commit_now.ensures.err (λ state events keeps told.
    let some = some-number c.args.kept.now.pending c.if-kept-eq0.false in
    on-err-then _ _ c.commit_now.result
    (so-far-pending c.args.kept.now state events (g.D.Disk.history c.args.disk.now) c.requires.kept.fitted keeps
    unsure_calls (g.D.Disk.history c.commit_now.new.disk) some c.requires.early)
    (c.commit_now.ensures.stops state events (other_names state) keeps
    (finds-planned c.args.kept.now c.requires.kept.fitted (keeps.reserved some)) told))
