-- The premise that a torn superblock does not match its checksum by chance (this project's own).
use Rattle.std.specs.Prelude.{ℕ, Bool, List, is_some}
use Rattle.qg_device.specs.History.{Event}
use Rattle.qg_device.specs.CrashSince.{events_by}
use Rattle.qg_device.specs.LastWrite.{Rewriting, last_rewriting}
use Rattle.qg_device.specs.NoChance.{NoChanceAt}
use Rattle.qg_super.specs.Places.{first_place, second_place}
use Rattle.qg_super.specs.SuperText.{super_read}

-- the bytes of a superblock (on-disk format, "superblock")
abbrev pub super_bytes : ℕ
super_bytes = 4096

-- bytes are valid at a place where they are the text of a superblock for that place
abbrev pub is_valid : ℕ → List ℕ → Bool
is_valid place bytes = is_some (super_read place bytes)

-- what each of the two superblock places of an image holds is the old bytes of that place, or the new ones, or not
-- valid
pub record NoChance (image : List ℕ) (first second : Rewriting) : Type 0 where
  pub at_first : NoChanceAt (is_valid first_place) first_place super_bytes first image
  pub at_second : NoChanceAt (is_valid second_place) second_place super_bytes second image

-- That of an image that a crash left at a moment: the old bytes of a place are those before the last write to it that
-- had begun by then, the new ones are that write's; where none had begun since an earlier moment, both are what the
-- place held at that one.
abbrev pub NoChanceSince : ℕ → List Event → List ℕ → ℕ → Type 0
NoChanceSince since events image moment =
    let by_then = events_by moment events in
    NoChance image (last_rewriting first_place super_bytes since by_then)
    (last_rewriting second_place super_bytes since by_then)
