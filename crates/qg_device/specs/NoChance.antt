-- The premise that a torn place is not taken for a whole one by chance (this project's own).
use Rattle.std.specs.Prelude.{◌≡◌, ◌≢◌, ℕ, Bool, false, List}
use Rattle.qg_device.specs.History.{range}
use Rattle.qg_device.specs.LastWrite.{Rewriting}

-- where n bytes of an image from `place` on are neither the old ones nor the new ones, they do not pass the test of
-- valid bytes
abbrev pub NoChanceAt : (List ℕ → Bool) → ℕ → ℕ → Rewriting → List ℕ → Type 0
NoChanceAt is_valid place n rewriting image =
    range place n image ≢ rewriting.old → range place n image ≢ rewriting.new → is_valid (range place n image) ≡ false
