-- An image that was opened, and one that was not.
use Rattle.std.proofs.Common.{◌≡◌, ◌⊎◌, ℕ, List, Option, Some, None, inl, inr, refl, sym, subst}
use Rattle.qg_device.specs.History.{Event, History, Recorded, content}
use Rattle.qg_super.specs.declared.superblock.Super.{Super}
use Rattle.qg_image.specs.State.{State}
use Rattle.qg_image.specs.ImageState.{state_in, super_of}
use Rattle.qg_image.specs.StateOf.{StateOf}
use Rattle.qg_image.specs.Verdict.{IsSound, verdict}
use Rattle.qg_image.specs.declared.failure.Failure.{Failure}
use Rattle.qg_walk.specs.declared.fault.OpenFault.{OpenFault}
use Rattle.qg_walk.specs.declared.fault.OpenFault.TheVariants as opening
use Rattle.qg_store.proofs.Verdicts.{verdict_none}
use Rattle.qg_store.specs.CommitOpened.{IsOpening}
use Rattle.qg_store.specs.CommitOpening.{IsLookedAt, IsUntouched}
use Rattle.qg_program.specs.declared.status.Status.{Status}
use Rattle.qg_program.specs.declared.status.Status.TheVariants as status
use Rattle.qg_program.specs.Following.{Follows}

-- a sound image stands for a state
state-found : (bytes : List ℕ) (found : Option Super) → super_of bytes ≡ found → IsSound bytes
    → (state : State) × StateOf bytes state
state-found bytes None is sound = let broken = verdict_none bytes is in absurd cc
state-found bytes (Some super) is sound =
    (state_in super bytes, record { sound = sound; super = super; chosen = is; stands = refl })

pub state-sound : (bytes : List ℕ) → IsSound bytes → (state : State) × StateOf bytes state
state-sound bytes sound = state-found bytes (super_of bytes) refl sound

-- an image that was judged was not written
pub untouched-judged : (fault : OpenFault) {history : History} {events : List Event}
    → IsUntouched fault history events
    → (fault ≡ opening.Disk → ⊥) → (fault ≡ opening.NoMemory → ⊥) → history ≡ Recorded events
untouched-judged (opening.Broken rule address) same disk memory = same
untouched-judged (opening.Differs group which stored counted) same disk memory = same
untouched-judged opening.Disk same disk memory = absurd (disk refl)
untouched-judged opening.NoMemory same disk memory = absurd (memory refl)

-- nor was any that is not sound
pub looked-unsound : (events : List Event) (failure : Failure) (history : History)
    → verdict (content events) ≡ Some failure → IsOpening events history
    → IsLookedAt events history
looked-unsound events failure history unsound (inl looked) = looked
looked-unsound events failure history unsound (inr repairing) = let sound : verdict (content events) ≡ None =
    repairing.sound in absurd cc

-- a sound image that was not opened: no line was answered, nothing was committed, and nothing was taken
pub follows-unopened : (end : Status) (state : State) (input : List ℕ) {left : Option (List ℕ)} {events : List Event}
    {history : History} {old new : Option (List ℕ)}
    → (end ≡ status.Disk) ⊎ (end ≡ status.NoMemory) → IsOpening events history → new ≡ old → left ≡ Some input
    → Follows end state input left events history old new
follows-unopened end state input {left} {events} {history} {old} {new} (inl is) touched same untaken =
    subst (λ (end : Status). Follows end state input left events history old new) (sym is)
    (inl (record { unopened = record { touched = touched; silent = same }; untaken = untaken }))
follows-unopened end state input {left} {events} {history} {old} {new} (inr is) touched same untaken =
    subst (λ (end : Status). Follows end state input left events history old new) (sym is)
    (inl (record { unopened = record { touched = touched; silent = same }; untaken = untaken }))
