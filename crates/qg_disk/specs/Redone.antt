-- What a disk in memory does again of its record, to hold what a crash left (this project's own).
use Rattle.std.specs.Prelude.{ℕ, Bool, true, false, List, [], ◌∷◌, fold}
use Rattle.qg_device.specs.History.{Event}
use Rattle.qg_disk.specs.declared.tear.Tear.{Tear}
use Rattle.qg_disk.specs.declared.call.Request.{Request}
use Rattle.qg_disk.specs.declared.call.Request.TheVariants as request
use Rattle.qg_disk.specs.declared.call.Call.{Call}
use Rattle.qg_disk.specs.Call.{after_request}
use Rattle.qg_disk.specs.Crashed.{with_tear}

-- the call is a sync that was answered Ok
abbrev pub is_sync : Call → Bool
is_sync call = is_sync_of call.request call.failed where
  is_sync_of : Request → Bool → Bool
  is_sync_of (request.Read at count) failed = false
  is_sync_of (request.Write at bytes) failed = false
  is_sync_of (request.Cut len) failed = false
  is_sync_of request.Sync false = true
  is_sync_of request.Sync true = false

-- what events leave of what was there before, the newest first
abbrev pub with_tears : Tear → List Event → List ℕ → List ℕ
with_tears tear [] old = old
with_tears tear (event ∷ older) old = with_tear tear event (with_tears tear older old)

-- what a call leaves of it
abbrev pub with_call_torn : Tear → List ℕ → Call → List ℕ
with_call_torn tear old call = with_tears tear (after_request call.request call.failed []) old

-- what several leave, the oldest first
abbrev pub with_calls_torn : Tear → List Call → List ℕ → List ℕ
with_calls_torn tear calls old = fold (with_call_torn tear) old calls
