use Rattle.std.proofs.Common.{ℕ, ap, inl, sym, ◌∙◌}
use Rattle.std.specs.Prelude.{◌∷◌, Option}
use Rattle.std.proofs.lemmas.Result.{err_from_is_err_and}
use Rattle.qg_device.specs.History.{Recorded, Synced, with_event}
use Rattle.qg_commit.specs.Opening.{with_repair}
use Rattle.qg_commit.proofs.OpeningCalls.{outlives_fault, outlives_opened}
use Rattle.qg_commit.proofs.Touched.{looked-kept, looked-sync, opening-kept, opening-written}
use Rattle.qg_commit.proofs.opening.open.Goals as goal
use Rattle.qg_commit.proofs.opening.open.Goals.{in-Some+in_ok-write_place, in_default}

pub returns-in_err-image-clause-refused : goal.returns-in_err-image-clause-refused
returns-in_err-image-clause-refused g c = λ events told.
    let is = err_from_is_err_and c.from_residual-in_err-image.result c.from_residual-in_err-image.ensures.1 in
    rw (is.1, is.2) (c.in_err-image.ensures.failure (Synced ∷ events) (c.in_ok-sync.ensures.event
    ∙ ap (with_event Synced) told))

pub returns-clause-image : goal.returns-clause-image
returns-clause-image g c = λ events told. c.in_ok-image.ensures.image (Synced ∷ events) (c.in_ok-sync.ensures.event
    ∙ ap (with_event Synced) told)

-- what is done to the disk, whatever comes of it
pub returns-in_err-sync-clause-touches : goal.returns-in_err-sync-clause-touches
returns-in_err-sync-clause-touches g c =
    λ events told. inl (looked-sync events _ _ c.sync.result told c.sync.ensures.event)

pub returns-in_err-image-clause-touches : goal.returns-in_err-image-clause-touches
returns-in_err-image-clause-touches g c = λ events told.
    inl (looked-kept events _ _ (looked-sync events _ _ c.sync.result told c.sync.ensures.event)
    c.read_image.ensures.history)

pub returns-in_err-write_place-clause-touches : goal.returns-in_err-write_place-clause-touches
returns-in_err-write_place-clause-touches g c = λ events told.
    let synced = c.in_ok-sync.ensures.event ∙ ap (with_event Synced) told in
    opening-written events c.in_ok-image.image c.in-Some.place _ (c.in_ok-image.ensures.image (Synced ∷ events) synced)
    c.in-Some.is
    (c.write_place.ensures.touches (Synced ∷ events) (c.read_image.ensures.history ∙ synced))

pub returns-clause-touches : goal.returns-clause-touches
returns-clause-touches g c = λ events told.
    let synced = c.in_ok-sync.ensures.event ∙ ap (with_event Synced) told in
    elim c.match-image.branch [
      | in-Some+in_ok-write_place w ↦ opening-kept events _ _
          (opening-written events c.in_ok-image.image w.in-Some.place _
          (c.in_ok-image.ensures.image (Synced ∷ events) synced) w.in-Some.is
          (w.write_place.ensures.touches (Synced ∷ events) (c.read_image.ensures.history ∙ synced)))
          (ap g.D.Disk.history w.disk-is)
      | in_default w ↦ inl (looked-kept events _ _ (looked-sync events _ _ c.sync.result told c.sync.ensures.event)
          (ap g.D.Disk.history w.disk-is ∙ c.read_image.ensures.history))
    ]

-- both places hold one superblock then
pub returns-clause-repaired : goal.returns-clause-repaired
returns-clause-repaired g c = λ events told.
    let history = g.D.Disk.history in
    let synced = c.in_ok-sync.ensures.event ∙ ap (with_event Synced) told in
    let read = c.read_image.ensures.history ∙ synced in
    let repair = λ (stale : Option ℕ). Recorded (with_repair c.in_ok-image.image.superblock stale (Synced ∷ events)) in
    elim c.match-image.branch [
      | in-Some+in_ok-write_place w ↦
          ap history w.disk-is ∙ w.in_ok-write_place.ensures.calls (Synced ∷ events) read ∙ ap repair (sym w.in-Some.is)
      | in_default w ↦ ap history w.disk-is ∙ read ∙ ap repair (sym w.in_default.is)
    ]

-- ---- crashes

pub returns-in_err-sync-clause-crashes : goal.returns-in_err-sync-clause-crashes
returns-in_err-sync-clause-crashes g c = λ events told.
    outlives_fault events _ (returns-in_err-sync-clause-touches g c events told) c.from_residual.result
    c.from_residual.ensures.0

pub returns-in_err-image-clause-crashes : goal.returns-in_err-image-clause-crashes
returns-in_err-image-clause-crashes g c = λ events told.
    outlives_fault events _ (returns-in_err-image-clause-touches g c events told) c.from_residual-in_err-image.result
    c.from_residual-in_err-image.ensures.0

pub returns-in_err-write_place-clause-crashes : goal.returns-in_err-write_place-clause-crashes
returns-in_err-write_place-clause-crashes g c = λ events told.
    outlives_fault events _ (returns-in_err-write_place-clause-touches g c events told)
    c.from_residual-in_err-write_place.result
    c.from_residual-in_err-write_place.ensures.0

pub returns-clause-crashes : goal.returns-clause-crashes
returns-clause-crashes g c = λ events told.
    let image = c.in_ok-image.image in
    let is = c.in_ok-image.ensures.image (Synced ∷ events) (c.in_ok-sync.ensures.event ∙ ap (with_event Synced) told) in
    outlives_opened events _ (returns-clause-touches g c events told) image image.superblock image.stale is.chosen
    is.stale
    (returns-clause-repaired g c events told)
