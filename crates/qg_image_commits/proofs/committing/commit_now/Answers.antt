use Rattle.std.proofs.Common.{◌≡◌, ◌⊎◌, List, arith, ap, inl, inr, ◌∙◌}
use Rattle.qg_device.specs.History.{Event, Recorded}
use Rattle.qg_super.specs.SuperText.{sizes_of}
use Rattle.qg_image.specs.Record.{Record}
use Rattle.qg_image.specs.State.{State}
use Rattle.qg_open_image.proofs.Looked.{with_blocks}
use Rattle.qg_open_image.proofs.PiecesRead.{handed}
use Rattle.qg_open_image.proofs.WholeFile.{handed-sound}
use Rattle.qg_open_image.specs.declared.open_image.OpenImage.{OpenImage}
use Rattle.qg_open_image.specs.Keeping.{IsKeptWith}
use Rattle.qg_image_commits.specs.Planning.{StopsCommitOf}
use Rattle.qg_image_commits.specs.declared.planning.Plan.{Plan}
use Rattle.qg_image_commits.proofs.Cleaned.{surveyed-keeps}
use Rattle.qg_image_commits.proofs.CommitKeeps.{plan-still}
use Rattle.qg_image_commits.proofs.CommitOver.{GivesTrees, backed-then, calls-over, committed-on, kept-forgotten}
use Rattle.qg_image_commits.proofs.CommitOver.{kept-then, room-back, room-then, started, stopped-so, unfresh}
use Rattle.qg_image_commits.proofs.CommitOver.{written-then}
use Rattle.qg_image_commits.proofs.Commits.{stops-starts}
use Rattle.qg_num.specs.declared.fault.BlockFault.TheVariants.{NoMemory}
use Rattle.qg_blocks.proofs.Stopping.{stops-memory}
use Rattle.qg_open_image.proofs.Stopped.{first-err}
use Rattle.qg_image_commits.proofs.Intact.{ended-intact, stops-intact, written-intact}
use Rattle.qg_image_commits.proofs.OnDisk.{on-err, on-error}
use Rattle.qg_image_commits.proofs.committing.commit_now.Given.{Over}
use Rattle.qg_image_commits.proofs.committing.commit_now.Goals as goal
use Rattle.qg_image_commits.proofs.committing.commit_now.Goals.{In_err-trees, In_ok-plan, In_ok-trees}

-- the trees were laid out once the slots were forgotten, and the disk was given the calls
gives : (g : Over) (c : In_ok-trees g)
    → GivesTrees c.plan_of.new.kept c.forget_slots.new.blocks c.in_ok-plan.plan c.in_ok-trees.trees
    c.as_slice.result.now (g.D.Disk.history c.plan_of.new.disk) (g.D.Disk.history c.write_trees.new.disk)
    (g.D.Disk.size c.plan_of.new.disk)
gives g c = record {
  same = c.forget_slots.ensures.same;
  fits = c.in_ok-plan.ensures.kept;
  backed = c.forget_slots.ensures.backed (g.D.Disk.history c.plan_of.new.disk) c.in_ok-plan.ensures.kept.backed;
  plan_is = c.in_ok-plan.ensures.plan;
  given = c.as_slice.ensures;
  gone = c.forget_slots.ensures.forgotten;
  laid = c.in_ok-trees.ensures.laid;
  read = c.in_ok-trees.ensures.read;
  sized = g.met.D.Disk.sized c.plan_of.new.disk;
  calls = c.in_ok-trees.ensures.calls;
}

-- what is kept is kept once the plan was made
keeps-planned : (g : Over) (c : In_ok-plan g) (state : State) (names : List Record)
    → IsKeptWith c.args.kept.now state (g.D.Disk.history c.args.disk.now) names
    → IsKeptWith c.plan_of.new.kept state (g.D.Disk.history c.plan_of.new.disk) names
keeps-planned g c =
    surveyed-keeps c.args.kept.now c.plan_of.new.kept (g.D.Disk.history c.args.disk.now)
    (g.D.Disk.history c.plan_of.new.disk) (g.D.Disk.size c.args.disk.now) (g.D.Disk.size c.plan_of.new.disk)
    c.in_ok-plan.ensures.looked

-- ---- what is asked

pub forget_slots-requires : goal.forget_slots-requires
forget_slots-requires g c = record {
  clean = unfresh c.plan_of.new.kept c.in_ok-plan.plan.slots c.as_slice.result.now c.as_slice.ensures
      c.in_ok-plan.ensures.kept.fitted c.in_ok-plan.ensures.plan.is.free;
}

pub write_trees-requires-clause-kept : goal.write_trees-requires-clause-kept
write_trees-requires-clause-kept g c =
    kept-forgotten c.plan_of.new.kept _ c.forget_slots.ensures.same (g.D.Disk.history c.plan_of.new.disk)
    (g.D.Disk.size c.plan_of.new.disk)
    c.in_ok-plan.ensures.kept
    (c.forget_slots.ensures.backed (g.D.Disk.history c.plan_of.new.disk) c.in_ok-plan.ensures.kept.backed)

pub write_trees-requires-clause-early : goal.write_trees-requires-clause-early
write_trees-requires-clause-early g c =
    let same = ap (λ (kept : OpenImage). kept.superblock.generation) c.in_ok-plan.ensures.looked.rest in
    omega (arith, same, c.requires.early)

pub write_trees-requires-clause-plan : goal.write_trees-requires-clause-plan
write_trees-requires-clause-plan g c =
    plan-still c.plan_of.new.kept _ c.in_ok-plan.plan c.in_ok-plan.ensures.plan

pub keep_commit-requires-clause-fitted : goal.keep_commit-requires-clause-fitted
keep_commit-requires-clause-fitted g c =
    (kept-forgotten c.plan_of.new.kept _ c.forget_slots.ensures.same (g.D.Disk.history c.plan_of.new.disk)
    (g.D.Disk.size c.plan_of.new.disk)
    c.in_ok-plan.ensures.kept
    (c.forget_slots.ensures.backed (g.D.Disk.history c.plan_of.new.disk) c.in_ok-plan.ensures.kept.backed)).fitted

pub keep_commit-requires-clause-early : goal.keep_commit-requires-clause-early
keep_commit-requires-clause-early g c =
    let same = ap (λ (kept : OpenImage). kept.superblock.generation) c.in_ok-plan.ensures.looked.rest in
    omega (arith, same, c.requires.early)

pub keep_commit-requires-clause-plan : goal.keep_commit-requires-clause-plan
keep_commit-requires-clause-plan g c =
    plan-still c.plan_of.new.kept _ c.in_ok-plan.plan c.in_ok-plan.ensures.plan

pub keep_commit-requires-clause-backed : goal.keep_commit-requires-clause-backed
keep_commit-requires-clause-backed g c =
    backed-then c.plan_of.new.kept _ c.in_ok-plan.plan c.in_ok-trees.trees c.as_slice.result.now
    (g.D.Disk.history c.plan_of.new.disk)
    (g.D.Disk.history c.write_trees.new.disk) (g.D.Disk.size c.plan_of.new.disk)
    (gives g (goal.at.keep_commit-requires-clause-backed g c).In_ok-trees)

pub keep_commit-requires-clause-written : goal.keep_commit-requires-clause-written
keep_commit-requires-clause-written g c =
    written-then c.plan_of.new.kept _ c.in_ok-plan.plan c.in_ok-trees.trees c.as_slice.result.now
    (g.D.Disk.history c.plan_of.new.disk)
    (g.D.Disk.history c.write_trees.new.disk) (g.D.Disk.size c.plan_of.new.disk)
    (gives g (goal.at.keep_commit-requires-clause-written g c).In_ok-trees)

-- ---- what was done

pub returns-clause-kept : goal.returns-clause-kept
returns-clause-kept g c =
    kept-then c.plan_of.new.kept _ c.in_ok-plan.plan c.in_ok-trees.trees c.as_slice.result.now
    (g.D.Disk.history c.plan_of.new.disk)
    (g.D.Disk.history c.write_trees.new.disk) (g.D.Disk.size c.plan_of.new.disk)
    (gives g (goal.at.returns-clause-kept g c).In_ok-trees)
    c.keep_commit.new.kept (g.D.Disk.size c.write_trees.new.disk) c.keep_commit.ensures.keeps.0
    c.in_ok-trees.ensures.no_less c.keep_commit.ensures.subvolume c.keep_commit.ensures.keeps.1

pub returns-clause-commits : goal.returns-clause-commits
returns-clause-commits g c = λ state events names keeps enough told.
    committed-on c.plan_of.new.kept _ c.in_ok-plan.plan c.in_ok-trees.trees c.as_slice.result.now
    (g.D.Disk.history c.plan_of.new.disk)
    (g.D.Disk.history c.write_trees.new.disk) (g.D.Disk.size c.plan_of.new.disk)
    (gives g (goal.at.returns-clause-commits g c).In_ok-trees)
    events (c.in_ok-plan.ensures.looked.read.history ∙ told) state names
    (keeps-planned g (goal.at.returns-clause-commits g c).In_ok-plan state names keeps)
    (c.in_ok-plan.ensures.told state names keeps) c.keep_commit.new.kept c.keep_commit.ensures.keeps.0
    (λ items pieces. c.keep_commit.ensures.stands events (g.D.Disk.size c.plan_of.new.disk) items pieces)

pub returns-clause-so_far : goal.returns-clause-so_far
returns-clause-so_far g c = λ state events names keeps enough told.
    inr (started c.plan_of.new.kept _ c.in_ok-plan.plan c.in_ok-trees.trees c.as_slice.result.now
    (g.D.Disk.history c.plan_of.new.disk)
    (g.D.Disk.history c.write_trees.new.disk) (g.D.Disk.size c.plan_of.new.disk)
    (gives g (goal.at.returns-clause-so_far g c).In_ok-trees)
    events (c.in_ok-plan.ensures.looked.read.history ∙ told) state names
    (keeps-planned g (goal.at.returns-clause-so_far g c).In_ok-plan state names keeps)
    (c.in_ok-plan.ensures.told state names keeps))

pub returns-clause-leaves : goal.returns-clause-leaves
returns-clause-leaves g c =
    let room =
    room-back c.args.kept.now c.plan_of.new.kept c.keep_commit.new.kept (g.D.Disk.history c.args.disk.now)
    (g.D.Disk.history c.plan_of.new.disk) (g.D.Disk.size c.args.disk.now) (g.D.Disk.size c.plan_of.new.disk)
    c.in_ok-plan.ensures.looked
    (room-then c.plan_of.new.kept _ c.in_ok-plan.plan c.in_ok-trees.trees c.as_slice.result.now
    (g.D.Disk.history c.plan_of.new.disk)
    (g.D.Disk.history c.write_trees.new.disk) (g.D.Disk.size c.plan_of.new.disk)
    (gives g (goal.at.returns-clause-leaves g c).In_ok-trees)
    c.keep_commit.new.kept c.keep_commit.ensures.keeps.0) in
    let over =
    calls-over (with_blocks c.plan_of.new.kept c.forget_slots.new.blocks).fs c.in_ok-trees.trees
    c.keep_commit.new.kept.superblock (g.D.Disk.history c.args.disk.now)
    (g.D.Disk.history c.plan_of.new.disk) (g.D.Disk.history c.write_trees.new.disk)
    c.keep_commit.ensures.keeps.0.superblock c.in_ok-plan.ensures.looked.read.history
    c.in_ok-trees.ensures.calls in
    record { room = room; nodes = over.0; calls = over.1 }

pub returns-clause-sizes : goal.returns-clause-sizes
returns-clause-sizes g c = (
  ap sizes_of c.keep_commit.ensures.keeps.0.superblock ∙ ap sizes_of c.in_ok-trees.ensures.laid.laid.leads
      ∙ ap (λ (kept : OpenImage). sizes_of kept.superblock) c.in_ok-plan.ensures.looked.rest,
  let size = c.in_ok-plan.ensures.looked.read.size in omega (arith, size, c.in_ok-trees.ensures.no_less),
)

-- ---- where it did not end

pub returns-in_err-plan-clause-so_far : goal.returns-in_err-plan-clause-so_far
returns-in_err-plan-clause-so_far g c = λ state events names keeps enough told.
    inl (c.in_err-plan.ensures.looked.read.history ∙ told)

pub returns-in_err-plan-clause-stops : goal.returns-in_err-plan-clause-stops
returns-in_err-plan-clause-stops g c = λ state events names keeps enough told.
    on-err c.from_residual.result _ (inl (c.in_err-plan.ensures.looked.read.history ∙ told))

pub returns-in_err-plan-clause-sound : goal.returns-in_err-plan-clause-sound
returns-in_err-plan-clause-sound g c = λ state events names keeps enough told.
    handed-sound Plan c.from_residual.result _ (handed c.from_residual.result _ c.from_residual.ensures.1)
    (c.in_err-plan.ensures.sound state events names told keeps enough)

pub returns-in_err-plan-clause-err : goal.returns-in_err-plan-clause-err
returns-in_err-plan-clause-err g c =
    on-error _ _ (ap (λ (kept : OpenImage). kept.superblock) c.in_err-plan.ensures.looked.rest)

pub returns-in_err-plan-clause-sizes : goal.returns-in_err-plan-clause-sizes
returns-in_err-plan-clause-sizes g c = (
  ap (λ (kept : OpenImage). sizes_of kept.superblock) c.in_err-plan.ensures.looked.rest,
  let size = c.in_err-plan.ensures.looked.read.size in omega (arith, size),
)

pub returns-in_err-copy-clause-so_far : goal.returns-in_err-copy-clause-so_far
returns-in_err-copy-clause-so_far g c = λ state events names keeps enough told.
    inl (c.in_ok-plan.ensures.looked.read.history ∙ told)

pub returns-in_err-copy-clause-stops : goal.returns-in_err-copy-clause-stops
returns-in_err-copy-clause-stops g c = λ state events names keeps enough told.
    on-err c.from_residual-in_err-copy.result _ (inl (c.in_ok-plan.ensures.looked.read.history ∙ told))

pub returns-in_err-copy-clause-err : goal.returns-in_err-copy-clause-err
returns-in_err-copy-clause-err g c =
    on-error _ _ (ap (λ (kept : OpenImage). kept.superblock) c.in_ok-plan.ensures.looked.rest)

pub returns-in_err-copy-clause-sizes : goal.returns-in_err-copy-clause-sizes
returns-in_err-copy-clause-sizes g c = (
  ap (λ (kept : OpenImage). sizes_of kept.superblock) c.in_ok-plan.ensures.looked.rest,
  let size = c.in_ok-plan.ensures.looked.read.size in omega (arith, size),
)

-- how far it came
stopped : (g : Over) (c : In_err-trees g) (state : State) (events : List Event) (names : List Record)
    → IsKeptWith c.args.kept.now state (g.D.Disk.history c.args.disk.now) names
    → IsKeptWith c.plan_of.new.kept state (g.D.Disk.history c.plan_of.new.disk) names
    → g.D.Disk.history c.args.disk.now ≡ Recorded events
    → (g.D.Disk.history c.write_trees.new.disk ≡ Recorded events)
    ⊎ StopsCommitOf state events (g.D.Disk.history c.write_trees.new.disk)
stopped g c state events names keeps planned told =
    let same = c.in_ok-plan.ensures.looked.read.history ∙ told in
    stopped-so c.plan_of.new.kept _ c.in_ok-plan.plan events (g.D.Disk.history c.plan_of.new.disk)
    (g.D.Disk.history c.write_trees.new.disk) (g.D.Disk.size c.plan_of.new.disk) state names
    c.forget_slots.ensures.same c.in_ok-plan.ensures.kept
    (c.forget_slots.ensures.backed (g.D.Disk.history c.plan_of.new.disk) c.in_ok-plan.ensures.kept.backed)
    planned (c.in_ok-plan.ensures.told state names keeps) same (g.met.D.Disk.sized c.plan_of.new.disk events same)
    (c.in_err-trees.ensures.stopped events same)

pub returns-in_err-trees-clause-so_far : goal.returns-in_err-trees-clause-so_far
returns-in_err-trees-clause-so_far g c = λ state events names keeps enough told.
    let at = goal.at.returns-in_err-trees-clause-so_far g c in
    stops-starts state events (g.D.Disk.history c.write_trees.new.disk)
    (stopped g at.In_err-trees state events names keeps (keeps-planned g at.In_ok-plan state names keeps) told)

pub returns-in_err-trees-clause-stops : goal.returns-in_err-trees-clause-stops
returns-in_err-trees-clause-stops g c = λ state events names keeps enough told.
    let at = goal.at.returns-in_err-trees-clause-stops g c in
    on-err c.from_residual-in_err-trees.result _
    (stopped g at.In_err-trees state events names keeps (keeps-planned g at.In_ok-plan state names keeps) told)

pub returns-in_err-trees-clause-err : goal.returns-in_err-trees-clause-err
returns-in_err-trees-clause-err g c =
    on-error _ _ (ap (λ (kept : OpenImage). kept.superblock) c.in_ok-plan.ensures.looked.rest)

pub returns-in_err-trees-clause-sizes : goal.returns-in_err-trees-clause-sizes
returns-in_err-trees-clause-sizes g c = (
  ap (λ (kept : OpenImage). sizes_of kept.superblock) c.in_ok-plan.ensures.looked.rest,
  let size = c.in_ok-plan.ensures.looked.read.size in omega (arith, size, c.in_err-trees.ensures.no_less),
)

pub returns-in_err-plan-clause-intact : goal.returns-in_err-plan-clause-intact
returns-in_err-plan-clause-intact g c =
    stops-intact c.from_residual.result g.D.Disk.takes_memory _ _ _ _ c.in_err-plan.ensures.looked.read.history
    (first-err Plan c.from_residual.result c.in_err-plan.field-0.0 c.args.kept.now (g.D.Disk.size c.args.disk.now)
    c.from_residual.ensures.1 c.in_err-plan.ensures.stops)

pub returns-in_err-copy-clause-intact : goal.returns-in_err-copy-clause-intact
returns-in_err-copy-clause-intact g c =
    let residual = c.from_residual-in_err-copy in
    let sizes = c.args.kept.now.fs.land.blocks.draft.sizes in
    let bytes = g.D.Disk.size c.args.disk.now in
    stops-intact residual.result g.D.Disk.takes_memory sizes bytes _ _ c.in_ok-plan.ensures.looked.read.history
    (stops-memory residual.result sizes bytes (handed residual.result NoMemory residual.ensures.1))

pub returns-in_err-trees-clause-intact : goal.returns-in_err-trees-clause-intact
returns-in_err-trees-clause-intact g c =
    let history = g.D.Disk.history in
    written-intact c.from_residual-in_err-trees.result _ g.D.Disk.takes_memory
    c.args.kept.now.fs.land.blocks.draft.sizes (g.D.Disk.size c.args.disk.now) (history c.args.disk.now)
    (history c.plan_of.new.disk) (history c.write_trees.new.disk)
    (handed c.from_residual-in_err-trees.result _ c.from_residual-in_err-trees.ensures.1)
    c.in_ok-plan.ensures.looked.read.history c.in_err-trees.ensures.no_image
    (λ none refused. ap history (c.in_err-trees.ensures.memory none refused))

pub returns-clause-intact : goal.returns-clause-intact
returns-clause-intact g c = ended-intact _ g.D.Disk.takes_memory _ _ _ _
