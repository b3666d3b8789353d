-- What the calls of a disk in memory did to it (this project's own).
use Rattle.std.specs.Prelude.{◌≡◌, ℕ, ◌+◌, ◌/◌, ◌<◌, ◌^◌, Bool, true, false, List, [], ◌∷◌}
use Rattle.std.specs.Prelude.{length, take, fold}
use Rattle.std.proofs.Common.{ap}
use Rattle.qg_device.specs.History.{Event, Recorded, Wrote, Tore, Cut, CutShort, Synced, content}
use Rattle.qg_disk.specs.declared.call.Request.{Request}
use Rattle.qg_disk.specs.declared.call.Request.TheVariants as request
use Rattle.qg_disk.specs.declared.call.Call.{Call}

-- the history after one request more, which failed or not: a write that fails leaves the first half of its bytes, a cut
-- that fails leaves nothing behind its length, a read and a sync that fails do nothing
abbrev pub after_request : Request → Bool → List Event → List Event
after_request (request.Read at count) failed older = older
after_request (request.Write at bytes) false older = Wrote at bytes ∷ older
after_request (request.Write at bytes) true older = Tore at bytes (take (length bytes / 2) bytes) ∷ older
after_request (request.Cut len) false older = Cut len ∷ older
after_request (request.Cut len) true older = CutShort len [] ∷ older
after_request request.Sync false older = Synced ∷ older
after_request request.Sync true older = older

-- the history that calls leave, which stand with the oldest first
unfoldable pub history_of : List Call → List Event
history_of calls = fold (λ older call. after_request call.request call.failed older) [] calls

-- how many bytes calls leave
unfoldable pub size_of : List Call → ℕ
size_of calls = length (content (history_of calls))

-- the range of a write ends where a number of 64 bits can say
abbrev pub Fits : Request → Type 0
Fits (request.Read at count) = Unit {0}
Fits (request.Write at bytes) = at + length bytes < 2 ^ 64
Fits (request.Cut len) = Unit {0}
Fits request.Sync = Unit {0}

-- they leave as many bytes as the history that is told of them
pub sized_as_told : (calls : List Call) (events : List Event) → Recorded (history_of calls) ≡ Recorded events
    → size_of calls ≡ length (content events)
unfolding history_of size_of
sized_as_told calls events told =
    let same : history_of calls ≡ events = cc in ap (λ (list : List Event). length (content list)) same
