-- What opening does to a disk, call by call.
use Rattle.std.proofs.Common.{◌≡◌, ◌⊎◌, inl, inr, ℕ, List, ◌∷◌, sym, ap, ◌∙◌, subst}
use Rattle.std.specs.Prelude.{Some, Result, Ok, Err}
use Rattle.qg_device.specs.History.{Event, History, Recorded, Wrote, Tore, Synced, content, with_event}
use Rattle.qg_disk.specs.declared.fault.DiskFault.{DiskFault}
use Rattle.qg_disk.specs.declared.fault.DiskFault.TheVariants.{Failed, NoMemory}
use Rattle.qg_disk.specs.Disk.{Syncs, Writes}
use Rattle.qg_super.specs.declared.superblock.Super.{Super}
use Rattle.qg_super.specs.SuperText.{super_text}
use Rattle.qg_other_trees.specs.Types.{Image}
use Rattle.qg_other_trees.specs.IsImage.{IsImage}
use Rattle.qg_commit.specs.Opening.{IsLookedAt, IsWriting}
use Rattle.qg_commit.specs.Opened.{IsOpening}

pub looked-sync : (events : List Event) (old new : History) (result : Result Unit DiskFault)
    → old ≡ Recorded events → Syncs old new result → IsLookedAt events new
looked-sync events old new (Ok done) told is = inr (is ∙ ap (with_event Synced) told)
looked-sync events old new (Err fault) told is = inl (is ∙ told)

pub looked-kept : (events : List Event) (old new : History) → IsLookedAt events old → new ≡ old
    → IsLookedAt events new
looked-kept events old new looked is = subst (IsLookedAt events) (sym is) looked

-- ---- the repair

-- its write
text-written : (super : Super) (place : ℕ) (events : List Event) (old new : History)
    (result : Result Unit DiskFault) → old ≡ Recorded events
    → Writes old new result place (super_text place super) → (new ≡ Recorded events) ⊎ IsWriting super place events new
text-written super place events old new (Ok done) told is =
    inr (inr (inl (is ∙ ap (with_event (Wrote place (super_text place super))) told)))
text-written super place events old new (Err Failed) told is =
    inr (inl (is.0, is.1, is.2 ∙ ap (with_event (Tore place (super_text place super) is.0)) told))
text-written super place events old new (Err NoMemory) told is = inl (is ∙ told)

pub writing-write : (super : Super) (place : ℕ) (events : List Event) (bytes : List ℕ) (old new : History)
    (result : Result Unit DiskFault)
    → bytes ≡ super_text place super → old ≡ Recorded events → Writes old new result place bytes
    → (new ≡ Recorded events) ⊎ IsWriting super place events new
writing-write super place events bytes old new result text told is =
    text-written super place events old new result told (subst (Writes old new result place) text is)

-- and then its sync
text-synced : (super : Super) (place : ℕ) (events : List Event) (old new : History)
    (result : Result Unit DiskFault)
    → old ≡ Recorded (Wrote place (super_text place super) ∷ events) → Syncs old new result
    → IsWriting super place events new
text-synced super place events old new (Ok done) told is = inr (inr (is ∙ ap (with_event Synced) told))
text-synced super place events old new (Err fault) told is = inr (inl (is ∙ told))

pub writing-sync : (super : Super) (place : ℕ) (events : List Event) (bytes : List ℕ)
    (old mid new : History) (result : Result Unit DiskFault)
    → bytes ≡ super_text place super → old ≡ Recorded events → mid ≡ with_event (Wrote place bytes) old
    → Syncs mid new result → IsWriting super place events new
writing-sync super place events bytes old mid new result text told wrote is =
    text-synced super place events mid new result
    (wrote ∙ ap (λ (text : List ℕ). with_event (Wrote place text) old) text
    ∙ ap (with_event (Wrote place (super_text place super))) told) is

-- the stale place of an image was being written
pub opening-written : (events : List Event) (image : Image) (place : ℕ) (history : History)
    → IsImage (content events) image → image.stale ≡ Some place
    → (history ≡ Recorded (Synced ∷ events)) ⊎ IsWriting image.superblock place (Synced ∷ events) history
    → IsOpening events history
opening-written events image place history is stale (inl told) = inl (inr told)
opening-written events image place history is stale (inr written) = inr (record {
  sound = is.sound;
  super = image.superblock;
  chosen = is.chosen;
  place = place;
  stale = sym is.stale ∙ stale;
  written = written;
})

pub opening-kept : (events : List Event) (old new : History) → IsOpening events old → new ≡ old
    → IsOpening events new
opening-kept events old new opening is = subst (IsOpening events) (sym is) opening
