use Rattle.std.proofs.Common.{◌∷◌, ◌∙◌, ℕ, List, Option, ap, refl, subst, sym}
use Rattle.qg_device.specs.History.{History, Recorded, Synced, content}
use Rattle.qg_super.specs.Places.{first_place, second_place}
use Rattle.qg_image.specs.ImageState.{super_in}
use Rattle.qg_image_commits.specs.CommitOpening.{with_repair}
use Rattle.qg_image_commits.proofs.OpeningCalls.{outlives_fault}
use Rattle.qg_image_commits.specs.Keeping.{IsKeptOf}
use Rattle.qg_image_changes.proofs.Opened.{image-long}
use Rattle.qg_store.proofs.Repaired.{kept-reopened}
use Rattle.qg_store.proofs.store.Store.open.Goals as goal

pub returns-clause-sound : goal.returns-clause-sound
returns-clause-sound g c = λ events told. (c.in_ok-image.ensures.image events told).sound

pub returns-clause-opened : goal.returns-clause-opened
returns-clause-opened g c = λ events state told stands.
    let super = c.in_ok-image.image.superblock in
    let image = c.in_ok-image.ensures.image events told in
    record {
      running = refl;
      keeps = subst (λ (history : History). IsKeptOf c.in_ok-kept.kept state history)
          (sym (c.in_ok-image.ensures.repaired events told))
          (kept-reopened c.in_ok-kept.kept super events (super_in (content events) first_place)
          (super_in (content events) second_place) c.in_ok-image.image.stale state c.in_ok-image.ensures.fits
          c.in_ok-kept.ensures.fitted c.in_ok-kept.ensures.superblock
          (image-long c.in_ok-image.image (content events) c.in_ok-image.ensures.fits image) image.stale
          (c.in_ok-kept.ensures.keeps events state image stands));
    }

pub returns-clause-repaired : goal.returns-clause-repaired
returns-clause-repaired g c = λ events told.
    let image = c.in_ok-image.ensures.image events told in
    record {
      super = c.in_ok-image.image.superblock;
      chosen = image.chosen;
      repaired = c.in_ok-image.ensures.repaired events told
          ∙ ap (λ (stale : Option ℕ). Recorded (with_repair c.in_ok-image.image.superblock stale (Synced ∷ events)))
          image.stale;
    }

-- ---- crashes

pub returns-in_err-image-clause-crashes : goal.returns-in_err-image-clause-crashes
returns-in_err-image-clause-crashes g c = λ events told.
    outlives_fault events _ (c.in_err-image.ensures.touches events told) c.from_residual.result
    c.from_residual.ensures.0

pub returns-in_err-kept-clause-crashes : goal.returns-in_err-kept-clause-crashes
returns-in_err-kept-clause-crashes g c = λ events told.
    outlives_fault events _ (c.in_ok-image.ensures.touches events told) c.from_residual-in_err-kept.result
    c.from_residual-in_err-kept.ensures.0

pub returns-clause-crashes : goal.returns-clause-crashes
returns-clause-crashes g c = λ events told.
    let outlives = c.in_ok-image.ensures.crashes events told in
    record { crashes = outlives.crashes; early = outlives.early; rests = λ state stands. outlives.rests state stands }
