-- What a crash leaves where it does the same to all that no sync had made sure of.
use Rattle.std.proofs.Common.{◌≡◌, ◌∙◌, ℕ, ◌≤◌, ◌-◌, max, Bool, true, false, List, [], ◌∷◌, ◌++◌, length, take, drop}
use Rattle.std.proofs.Common.{refl, sym, ap, arith}
use Rattle.std.specs.List.{fold, list_any}
use Rattle.std.proofs.lemmas.List.{append-nil, length-take, take-append-drop, take_rest}
use Rattle.std.proofs.lemmas.Bool.{or_parts}
use Rattle.std.proofs.lemmas.List.Sums.{fold-append}
use Rattle.qg_disk.proofs.Sizes.{history_of-push}
use Rattle.qg_device.specs.History.{Event, Wrote, Tore, Cut, CutShort, Synced, content, overlay, torn}
use Rattle.qg_device.specs.Crash.{Torn, Shortened, Leaves}
use Rattle.qg_disk.proofs.Images.{Torn-overlay, Torn-torn, Shortened-cut}
use Rattle.qg_disk.specs.declared.tear.Tear.{Tear}
use Rattle.qg_disk.specs.declared.tear.Tear.TheVariants.{Old, New, Split}
use Rattle.qg_disk.specs.declared.call.Request.{Request}
use Rattle.qg_disk.specs.declared.call.Request.TheVariants as request
use Rattle.qg_disk.specs.declared.call.Call.{Call}
use Rattle.qg_disk.specs.Call.{after_request, history_of}
use Rattle.qg_disk.specs.Crashed.{with_write, with_torn, with_cut, crashed}
use Rattle.qg_disk.specs.Redone.{is_sync, with_call_torn, with_calls_torn}

-- ---- it is one of the images that a crash may leave

-- nothing needs to have changed
Torn-same : (at n : ℕ) (old : List ℕ) → Torn at n old old
Torn-same at n old = record { same = λ place inside apart. refl; no_shorter = omega arith; no_longer = omega arith }

Shortened-same : (len behind : ℕ) (old : List ℕ) → Shortened len behind old old
Shortened-same len behind old = record {
  same = λ place before inside. refl;
  no_shorter = omega arith;
  no_longer = omega arith;
}

Torn-with_write : (tear : Tear) (at : ℕ) (bytes old : List ℕ)
    → Torn at (length bytes) old (with_write tear at bytes old)
Torn-with_write Old at bytes old = Torn-same at (length bytes) old
Torn-with_write New at bytes old = Torn-overlay at (length bytes) bytes old (omega arith)
Torn-with_write (Split n) at bytes old =
    Torn-torn at (length bytes) (take n bytes) old (omega (arith, length-take n bytes))

Torn-with_torn : (tear : Tear) (at n : ℕ) (left old : List ℕ) → length left ≤ n
    → Torn at n old (with_torn tear at left old)
Torn-with_torn Old at n left old fits = Torn-same at n old
Torn-with_torn New at n left old fits = Torn-torn at n left old fits
Torn-with_torn (Split m) at n left old fits = Torn-torn at n (take m left) old (omega (arith, length-take m left))

-- a cut that leaves fewer bytes behind its length
Shortened-less : (len few many : ℕ) (old new : List ℕ) → few ≤ many → Shortened len few old new
    → Shortened len many old new
Shortened-less len few many old new less is =
    record { same = is.same; no_shorter = is.no_shorter; no_longer = omega (arith, is.no_longer) }

Shortened-with_cut : (tear : Tear) (len : ℕ) (left old : List ℕ)
    → Shortened len (length left) old (with_cut tear len left old)
Shortened-with_cut Old len left old = Shortened-same len (length left) old
Shortened-with_cut New len left old = Shortened-cut len left old
Shortened-with_cut (Split n) len left old =
    Shortened-less len (length (take n left)) (length left) old (take len old ++ take n left)
    (omega (arith, length-take n left)) (Shortened-cut len (take n left) old)

pub Leaves-crashed : (tear : Tear) (events : List Event) → Leaves events (crashed tear events)
Leaves-crashed tear [] = refl
Leaves-crashed tear (Wrote at bytes ∷ older) =
    (crashed tear older, Leaves-crashed tear older, Torn-with_write tear at bytes (crashed tear older))
Leaves-crashed tear (Tore at asked left ∷ older) = (
  crashed tear older,
  Leaves-crashed tear older,
  Torn-with_torn tear at (max (length asked) (length left)) left
      (crashed tear older) (omega arith),
)
Leaves-crashed tear (Cut len ∷ older) =
    (crashed tear older, Leaves-crashed tear older, Shortened-with_cut tear len [] (crashed tear older))
Leaves-crashed tear (CutShort len left ∷ older) =
    (crashed tear older, Leaves-crashed tear older, Shortened-with_cut tear len left (crashed tear older))
Leaves-crashed tear (Synced ∷ older) = refl

-- where all is done, it is what the disk holds
pub crashed-new : (events : List Event) → crashed New events ≡ content events
crashed-new [] = refl
crashed-new (Wrote at bytes ∷ older) = ap (overlay at bytes) (crashed-new older)
crashed-new (Tore at asked left ∷ older) = ap (torn at left) (crashed-new older)
crashed-new (Cut len ∷ older) = append-nil (take len (crashed New older)) ∙ ap (take len) (crashed-new older)
crashed-new (CutShort len left ∷ older) = ap (λ (old : List ℕ). take len old ++ left) (crashed-new older)
crashed-new (Synced ∷ older) = refl

-- ---- calls that are done again

-- where all is done, what calls leave is what a disk holds after them
with_call_torn-new : (request : Request) (failed : Bool) (events : List Event)
    → content (after_request request failed events) ≡ with_call_torn New (content events)
    (record { request = request; failed = failed })
with_call_torn-new (request.Read at count) failed events = refl
with_call_torn-new (request.Write at bytes) false events = refl
with_call_torn-new (request.Write at bytes) true events = refl
with_call_torn-new (request.Cut len) false events = sym (append-nil (take len (content events)))
with_call_torn-new (request.Cut len) true events = refl
with_call_torn-new request.Sync false events = refl
with_call_torn-new request.Sync true events = refl

abbrev after_call : List Event → Call → List Event
after_call older call = after_request call.request call.failed older

fold-new : (calls : List Call) (events : List Event)
    → content (fold after_call events calls) ≡ with_calls_torn New calls (content events)
fold-new [] events = refl
fold-new (call ∷ calls) events =
    fold-new calls (after_call events call)
    ∙ ap (with_calls_torn New calls) (with_call_torn-new call.request call.failed events)

-- of calls that are no syncs, what they leave is what a crash leaves after them
with_call_torn-crashed : (tear : Tear) (request : Request) (failed : Bool) (events : List Event)
    → is_sync (record { request = request; failed = failed }) ≡ false
    → crashed tear (after_request request failed events) ≡ with_call_torn tear (crashed tear events)
    (record { request = request; failed = failed })
with_call_torn-crashed tear (request.Read at count) failed events is = refl
with_call_torn-crashed tear (request.Write at bytes) false events is = refl
with_call_torn-crashed tear (request.Write at bytes) true events is = refl
with_call_torn-crashed tear (request.Cut len) false events is = refl
with_call_torn-crashed tear (request.Cut len) true events is = refl
with_call_torn-crashed tear request.Sync false events is = cc
with_call_torn-crashed tear request.Sync true events is = refl

fold-crashed : (tear : Tear) (calls : List Call) (events : List Event) → list_any is_sync calls ≡ false
    → crashed tear (fold after_call events calls) ≡ with_calls_torn tear calls (crashed tear events)
fold-crashed tear [] events none = refl
fold-crashed tear (call ∷ calls) events none =
    let parts = or_parts (is_sync call) (list_any is_sync calls) none in
    fold-crashed tear calls (after_call events call) parts.1
    ∙ ap (with_calls_torn tear calls) (with_call_torn-crashed tear call.request call.failed events parts.0)

-- calls done again: all up to the last sync, and of those behind it what the tear says
pub crashed-calls : (tear : Tear) (calls : List Call) (count : ℕ)
    → ((t : Tear) → crashed t (history_of (take count calls)) ≡ content (history_of (take count calls)))
    → list_any is_sync (drop count calls) ≡ false
    → with_calls_torn tear (drop count calls) (with_calls_torn New (take count calls) []) ≡ crashed tear
    (history_of calls)
unfolding history_of
crashed-calls tear calls count settled behind =
    let front = take count calls in
    let back = drop count calls in
    let whole : fold after_call (fold after_call [] front) back ≡ fold after_call [] calls =
    sym (fold-append after_call [] front back) ∙ ap (fold after_call []) (take-append-drop count calls) in
    ap (with_calls_torn tear back) (sym (fold-new front []) ∙ sym (settled tear))
    ∙ sym (fold-crashed tear back (fold after_call [] front) behind)
    ∙ ap (crashed tear) whole

-- a sync that was answered, behind calls
history_of-sync : (calls after : List Call) → after ≡ calls ++ record { request = request.Sync; failed = false } ∷ []
    → history_of after ≡ Synced ∷ history_of calls
history_of-sync calls after is = ap history_of is
    ∙ history_of-push calls (record { request = request.Sync; failed = false })

-- the calls that are done again for a crash, and a sync behind them
pub crashed-done : (tear : Tear) (calls start first second after : List Call) (count : ℕ)
    → ((t : Tear) → crashed t (history_of (take count calls)) ≡ content (history_of (take count calls)))
    → list_any is_sync (drop count calls) ≡ false
    → start ≡ []
    → content (history_of first) ≡ with_calls_torn New (take count calls) (content (history_of start))
    → content (history_of second) ≡ with_calls_torn tear (take (length calls - count) (drop count calls))
    (content (history_of first))
    → after ≡ second ++ record { request = request.Sync; failed = false } ∷ []
    → content (history_of after) ≡ crashed tear (history_of calls)
unfolding history_of
crashed-done tear calls start first second after count settled behind none is_first is_second is_after =
    let first_whole : content (history_of first) ≡ with_calls_torn New (take count calls) [] =
    is_first ∙ ap (λ (some_calls : List Call). with_calls_torn New (take count calls) (content (history_of some_calls)))
    none in
    ap content (history_of-sync second after is_after)
    ∙ is_second
    ∙ ap (λ (some_calls : List Call). with_calls_torn tear some_calls (content (history_of first)))
    (take_rest calls count)
    ∙ ap (with_calls_torn tear (drop count calls)) first_whole
    ∙ crashed-calls tear calls count settled behind

pub ends_synced : (calls after : List Call) → after ≡ calls ++ record { request = request.Sync; failed = false } ∷ []
    → (older : List Event) × (history_of after ≡ Synced ∷ older)
ends_synced calls after is = (history_of calls, history_of-sync calls after is)
