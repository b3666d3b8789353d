-- What a command that edits files reads and leaves of what is kept, and why it is refused (this project's own).
-- Positions, lengths and sizes are in bytes.
use Rattle.std.specs.Prelude.{◌≡◌, ℕ, ◌+◌, ◌==◌, ◌&&◌, List, [], ◌∷◌, Option, not, nat_lt}
use Rattle.qg_device.specs.History.{History}
use Rattle.qg_num.specs.declared.refusal.Refusal.{Refusal}
use Rattle.qg_num.specs.declared.refusal.Refusal.TheVariants as why
use Rattle.qg_image.specs.FilesOf.{is_aligned}
use Rattle.qg_image.specs.ItemMeaning.{first_some}
use Rattle.qg_image.specs.State.{State}
use Rattle.qg_image.specs.Verdict.{longest_extent}
use Rattle.qg_machine.specs.Refusals.{no_align, no_far, no_file, no_source, no_sub, refuse, share_a_byte}
use Rattle.qg_machine.specs.Refusals.{too_many_pending}
use Rattle.qg_space.specs.Holding.{free_slots}
use Rattle.qg_open_image.specs.declared.open_image.OpenImage.{OpenImage}
use Rattle.qg_open_image.specs.Keeping.{SameButClean, need_of}

-- ---- what is read

-- Nodes were read, or put out of memory: clean nodes alone may be others, the tree at hand is the same, and the disk
-- was not written
pub record HasReadNodes (old new : OpenImage) (before after : History) (bytes left : ℕ) : Type 0 where
  pub same : new ≡ record old {
    fs = record old.fs {
      land = record old.fs.land {
        blocks = record old.fs.land.blocks { clean = new.fs.land.blocks.clean };
      };
    };
  }
  pub history : after ≡ before
  pub size : left ≡ bytes

-- so it is where another tree may be at hand
pub record HasLooked (old new : OpenImage) (before after : History) (bytes left : ℕ) : Type 0 where
  pub same : SameButClean old new
  pub history : after ≡ before
  pub size : left ≡ bytes

-- ---- why a command is refused, before the free slots are counted: the first that holds

-- a write, before its run is looked for
abbrev pub range_refusal : State → ℕ → ℕ → ℕ → Option Refusal
range_refusal state sub off len = first_some
    (no_sub state sub ∷ no_align (off ∷ []) len ∷ no_far ((off + len) ∷ []) ∷ refuse (nat_lt longest_extent len) why.Far
    ∷ too_many_pending state ∷ [])

-- a clone
abbrev pub clone_refusal : State → ℕ → ℕ → ℕ → ℕ → ℕ → ℕ → ℕ → Option Refusal
clone_refusal state sub ino off len to_sub to_ino to_off = first_some
    (no_sub state sub ∷ no_sub state to_sub ∷ no_file state sub ino ∷ no_align (off ∷ to_off ∷ []) len
    ∷ no_far ((off + len) ∷ (to_off + len) ∷ []) ∷ no_source state sub ino (off + len)
    ∷ refuse ((sub == to_sub) && (ino == to_ino) && share_a_byte off to_off len) why.Overlap ∷ too_many_pending state
    ∷ [])

-- a truncate
abbrev pub size_refusal : State → ℕ → ℕ → ℕ → Option Refusal
size_refusal state sub ino size = first_some
    (no_sub state sub ∷ no_file state sub ino ∷ refuse (not (is_aligned size)) why.Align ∷ no_far (size ∷ [])
    ∷ too_many_pending state ∷ [])

-- an unlink
abbrev pub unlink_refusal : State → ℕ → ℕ → Option Refusal
unlink_refusal state sub ino = first_some (no_sub state sub ∷ no_file state sub ino ∷ too_many_pending state ∷ [])

-- ---- reservations

-- what a write reserves, in bytes: what is written, and a node
abbrev pub write_reserves : OpenImage → ℕ → ℕ
write_reserves kept len = len + kept.superblock.nodesize

-- what a clone reserves, in bytes: a node
abbrev pub clone_reserves : OpenImage → ℕ
clone_reserves kept = kept.superblock.nodesize

-- ---- slots

-- a command that touches so many pieces is refused for want of slots
abbrev pub slots_refusal : OpenImage → ℕ → Option Refusal
slots_refusal kept pieces =
    refuse (nat_lt (free_slots kept.fs.land.space) (need_of kept pieces))
    (why.NoNodes (free_slots kept.fs.land.space) (need_of kept pieces))
