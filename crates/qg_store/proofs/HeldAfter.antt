-- What the last commit holds once some were done.
use Rattle.std.proofs.Common.{◌≡◌, ℕ, inl, inr, Bool, true, false, List, [], ◌∷◌, ◌++◌, Option, Some, None, refl, sym}
use Rattle.std.proofs.Common.{ap, ◌∙◌}
use Rattle.std.specs.Prelude.{MatchBool, MatchOption}
use Rattle.qg_num.specs.declared.answer.Answer.{Answer}
use Rattle.qg_num.specs.declared.answer.Answer.TheVariants as answer
use Rattle.qg_num.specs.declared.command.Command.{Command}
use Rattle.qg_num.specs.declared.command.Command.TheVariants.{Write, Clone, Truncate, Unlink, Commit, Show, Ls, Owners}
use Rattle.qg_num.specs.declared.command.Command.TheVariants.{SubCreate, Snap, Delete, QuotaOn, QuotaOff, GroupCreate}
use Rattle.qg_num.specs.declared.command.Command.TheVariants.{GroupDestroy, Assign, Remove, Limit}
use Rattle.qg_num.specs.declared.refusal.Refusal.{Refusal}
use Rattle.qg_image.specs.declared.file.File.{File}
use Rattle.qg_image.specs.Table.{value_at}
use Rattle.qg_image.specs.State.{Committed, State, Subvolume}
use Rattle.qg_machine.specs.FileChange.{FileChange, file_change}
use Rattle.qg_machine.specs.Refusals.{is_pending, refusal}
use Rattle.qg_machine.specs.Run.{Turn}
use Rattle.qg_machine.specs.Step.{Commits, Does, DoesChange, DoesStructural, Stays, with_tree}
use Rattle.qg_store.proofs.Synced.{held_after}

-- the commits lead from what the old state held to what the new one holds
abbrev pub HoldsLast : State → List State → State → Type 0
HoldsLast old commits new = held_after old.held commits ≡ new.held

pub held_after-append : (held : Committed) (first more : List State)
    → held_after held (first ++ more) ≡ held_after (held_after held first) more
held_after-append held [] more = refl
held_after-append held (state ∷ states) more = held_after-append state.held states more

stays-held : (old : State) (commits : List State) (new : State) → Stays old commits new → HoldsLast old commits new
stays-held old commits new stays = ap (held_after old.held) stays.1 ∙ ap (λ (state : State). state.held) (sym stays.0)

tree-held : (state : State) (sub : ℕ) (files : List (ℕ × File)) (root : ℕ) (found : Option Subvolume)
    → value_at sub state.subvolumes ≡ found → (with_tree state sub files root).held ≡ state.held
tree-held state sub files root None is = rw is refl
tree-held state sub files root (Some subvolume) is = rw is refl

change-held : (old : State) (given : Command) (reply : Answer) (commits : List State) (new : State)
    (found : Option FileChange) → MatchOption found ⊥ (DoesChange old given reply commits new)
    → HoldsLast old commits new
change-held old given reply commits new None does = absurd does
change-held old given reply commits new (Some change) does =
    ap (held_after old.held) does.1 ∙ sym (ap (λ (state : State). state.held) does.2.changed
    ∙ tree-held old change.sub change.files does.2.root (value_at change.sub old.subvolumes) refl)

commit-held : (old : State) (commits : List State) (new : State) (pending : Bool)
    → MatchBool pending (Commits old new × (commits ≡ new ∷ [])) ((new ≡ old) × (commits ≡ []))
    → HoldsLast old commits new
commit-held old commits new true does = ap (held_after old.held) does.1
commit-held old commits new false does = stays-held old commits new does

structural-held : (old : State) (given : Command) (reply : Answer) (commits : List State) (new : State)
    → DoesStructural old given reply commits new → HoldsLast old commits new
structural-held old given reply commits new does = ap (held_after old.held) does.told
    ∙ held_after-append old.held does.earlier (new ∷ [])

does-held : (old : State) (given : Command) (reply : Answer) (commits : List State) (new : State)
    → Does old given reply commits new → HoldsLast old commits new
does-held old (Write sub ino off len) reply commits new does = change-held old (Write sub ino off len) reply commits new
    (file_change old (Write sub ino off len)) does
does-held old (Clone sub ino off len to_sub to_ino to_off) reply commits new does =
    change-held old (Clone sub ino off len to_sub to_ino to_off) reply commits new
    (file_change old (Clone sub ino off len to_sub to_ino to_off)) does
does-held old (Truncate sub ino size) reply commits new does = change-held old (Truncate sub ino size) reply commits new
    (file_change old (Truncate sub ino size)) does
does-held old (Unlink sub ino) reply commits new does =
    change-held old (Unlink sub ino) reply commits new (file_change old (Unlink sub ino)) does
does-held old Commit reply commits new does = commit-held old commits new (is_pending old) does.1
does-held old Show reply commits new does = stays-held old commits new does.1
does-held old (Ls sub ino) reply commits new does = stays-held old commits new does.1
does-held old (Owners address) reply commits new does = stays-held old commits new does.1
does-held old SubCreate reply commits new does = structural-held old SubCreate reply commits new does
does-held old (Snap sub parents) reply commits new does = structural-held old (Snap sub parents) reply commits new does
does-held old (Delete sub) reply commits new does = structural-held old (Delete sub) reply commits new does
does-held old QuotaOn reply commits new does = structural-held old QuotaOn reply commits new does
does-held old QuotaOff reply commits new does = structural-held old QuotaOff reply commits new does
does-held old (GroupCreate group) reply commits new does =
    structural-held old (GroupCreate group) reply commits new does
does-held old (GroupDestroy group) reply commits new does =
    structural-held old (GroupDestroy group) reply commits new does
does-held old (Assign member parent) reply commits new does =
    structural-held old (Assign member parent) reply commits new does
does-held old (Remove member parent) reply commits new does =
    structural-held old (Remove member parent) reply commits new does
does-held old (Limit group which max) reply commits new does =
    structural-held old (Limit group which max) reply commits new does

step-held : (old : State) (given : Command) (reply : Answer) (commits : List State) (new : State)
    (refused : Option Refusal)
    → MatchOption refused (Does old given reply commits new) (λ why. (reply ≡ answer.Refused why)
    × Stays old commits new) → HoldsLast old commits new
step-held old given reply commits new None does = does-held old given reply commits new does
step-held old given reply commits new (Some why) does = stays-held old commits new does.1

pub turn-held : (old : State) (line reply : List ℕ) (commits : List State) (new : State)
    → Turn old line reply commits new → HoldsLast old commits new
turn-held old line reply commits new (inl obeys) =
    step-held old obeys.command obeys.answer commits new (refusal old obeys.command) obeys.step
turn-held old line reply commits new (inr ignores) = stays-held old commits new ignores.stays
