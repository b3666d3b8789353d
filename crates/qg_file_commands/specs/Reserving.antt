-- What a file command asks whose bytes are reserved (this project's own).
use Rattle.std.specs.Prelude.{◌≡◌, ℕ, ◌<◌, List}
use Rattle.qg_qgroups.specs.OnOrOff.{path_in}
use Rattle.qg_qgroups.specs.Tracked.{quota_of}
use Rattle.qg_open_image.specs.declared.open_image.OpenImage.{OpenImage}

-- one command more may be pending, and these are the groups above a subvolume, for which its bytes are held
pub record CanReserve (kept : OpenImage) (groups : List ℕ) (sub : ℕ) : Type 0 where
  pub few : kept.pending < 65536
  pub path : groups ≡ path_in (quota_of kept.quota) sub
