-- The commits of a step lead from the last one before it to that of the state that it comes to.
use Rattle.std.proofs.Common.{◌≡◌, ◌∙◌, inl, inr, ℕ, ◌+◌, ◌<◌, Bool, true, false, List, [], ◌∷◌, ◌++◌, Option, Some}
use Rattle.std.proofs.Common.{None}
use Rattle.std.proofs.Common.{arith, refl, sym, ap, subst}
use Rattle.std.specs.Prelude.{MatchBool, MatchOption}
use Rattle.qg_num.specs.declared.answer.Answer.{Answer}
use Rattle.qg_num.specs.declared.answer.Answer.TheVariants as answer
use Rattle.qg_num.specs.declared.command.Command.{Command}
use Rattle.qg_num.specs.declared.command.Command.TheVariants.{Write, Clone, Truncate, Unlink, Commit, Show, Ls, Owners}
use Rattle.qg_num.specs.declared.command.Command.TheVariants.{SubCreate, Snap, Delete, QuotaOn, QuotaOff, GroupCreate}
use Rattle.qg_num.specs.declared.command.Command.TheVariants.{GroupDestroy, Assign, Remove, Limit}
use Rattle.qg_num.specs.declared.refusal.Refusal.{Refusal}
use Rattle.qg_image.specs.declared.file.File.{File}
use Rattle.qg_image.specs.Table.{value_at}
use Rattle.qg_image.specs.State.{State, Subvolume}
use Rattle.qg_machine.specs.FileChange.{FileChange, file_change}
use Rattle.qg_machine.specs.Refusals.{is_pending, refusal}
use Rattle.qg_machine.specs.Run.{Run, Turn}
use Rattle.qg_machine.specs.Step.{Changes, Commits, CommitsPending, Does, DoesChange, DoesStructural, Stays, Step}
use Rattle.qg_machine.specs.Step.{with_tree}
use Rattle.qg_store.specs.Crashes.{IsLastCommit, last_commit}

-- ---- words

-- each of these states is of a later generation than the one before it, and of the same sizes
abbrev pub AreLater : State → List State → Type 0
AreLater old [] = Unit {0}
AreLater old (state ∷ states) = (old.generation < state.generation) × (state.sizes ≡ old.sizes) × AreLater state states

-- these commits lead from the last one to that of a state
pub record LeadTo (committed : State) (commits : List State) (new : State) : Type 0 where
  pub later : AreLater committed commits
  pub last : IsLastCommit (last_commit committed commits) new

-- ---- the last commit stays

pub last-itself : (state : State) → IsLastCommit state state
last-itself state = record { held = refl; generation = refl; sizes = refl }

pub last-then : (committed old new : State) → IsLastCommit committed old → IsLastCommit old new
    → IsLastCommit committed new
last-then committed old new first second = record {
  held = first.held ∙ second.held;
  generation = first.generation ∙ second.generation;
  sizes = first.sizes ∙ second.sizes;
}

-- no commit leads on
none-lead : (committed old new : State) (commits : List State) → IsLastCommit committed old → IsLastCommit old new
    → commits ≡ [] → LeadTo committed commits new
none-lead committed old new commits last same none =
    let lead : LeadTo committed [] new = record { later = tt; last = last-then committed old new last same } in
    subst (λ (list : List State). LeadTo committed list new) (sym none) lead

stays-lead : (committed old new : State) (commits : List State) → IsLastCommit committed old → Stays old commits new
    → LeadTo committed commits new
stays-lead committed old new commits last stays =
    let same : IsLastCommit old new =
    subst (λ (state : State). IsLastCommit old state) (sym stays.0) (last-itself old) in
    none-lead committed old new commits last same stays.1

-- ---- a commit

commit-leads : (committed old new : State) → IsLastCommit committed old → Commits old new
    → LeadTo committed (new ∷ []) new
commit-leads committed old new last commits =
    let next : new.generation ≡ old.generation + 1 = ap (λ (state : State). state.generation) commits.committed in
    let was : committed.generation ≡ old.generation = last.generation in
    let sizes : new.sizes ≡ old.sizes = ap (λ (state : State). state.sizes) commits.committed in
    let later : committed.generation < new.generation = omega (arith, next, was) in
    record { later = (later, sizes ∙ sym last.sizes, tt); last = last-itself new }

pending-leads-by : (committed old new : State) (commits : List State) (pending : Bool) → IsLastCommit committed old
    → MatchBool pending (Commits old new × (commits ≡ new ∷ [])) ((new ≡ old) × (commits ≡ []))
    → LeadTo committed commits new
pending-leads-by committed old new commits true last does =
    subst (λ (list : List State). LeadTo committed list new) (sym does.1) (commit-leads committed old new last does.0)
pending-leads-by committed old new commits false last does = stays-lead committed old new commits last does

pub pending-leads : (committed old new : State) (commits : List State) → IsLastCommit committed old
    → CommitsPending old commits new → LeadTo committed commits new
pending-leads committed old new commits last does =
    pending-leads-by committed old new commits (is_pending old) last does

-- ---- one after the other

later-append : (committed : State) (first more : List State) → AreLater committed first
    → AreLater (last_commit committed first) more → AreLater committed (first ++ more)
later-append committed [] more later rest = rest
later-append committed (state ∷ first) more later rest =
    (later.0, later.1, later-append state first more later.2 rest)

last-append : (committed : State) (first more : List State)
    → last_commit committed (first ++ more) ≡ last_commit (last_commit committed first) more
last-append committed [] more = refl
last-append committed (state ∷ first) more = last-append state first more

pub lead-then : (committed : State) (first more : List State) (new : State) → AreLater committed first
    → LeadTo (last_commit committed first) more new → LeadTo committed (first ++ more) new
lead-then committed first more new later rest = record {
  later = later-append committed first more later rest.later;
  last = subst (λ (state : State). IsLastCommit state new) (sym (last-append committed first more)) rest.last;
}

-- ---- a structural change

-- what it leaves is of the same last commit
same-last : (old new changed : State) → new ≡ changed → IsLastCommit old changed → IsLastCommit old new
same-last old new changed is last = subst (λ (state : State). IsLastCommit old state) (sym is) last

pub changes-last : (old new : State) (given : Command) (reply : Answer) → Changes old given reply new
    → IsLastCommit old new
changes-last old new SubCreate reply changes =
    same-last old new _ changes.1.created (record { held = refl; generation = refl; sizes = refl })
changes-last old new (Snap sub parents) reply changes =
    same-last old new _ changes.1.copied (record { held = refl; generation = refl; sizes = refl })
changes-last old new (Delete sub) reply changes =
    same-last old new _ changes.1 (record { held = refl; generation = refl; sizes = refl })
changes-last old new QuotaOn reply changes =
    same-last old new _ changes.1 (record { held = refl; generation = refl; sizes = refl })
changes-last old new QuotaOff reply changes =
    same-last old new _ changes.1 (record { held = refl; generation = refl; sizes = refl })
changes-last old new (GroupCreate group) reply changes =
    same-last old new _ changes.1 (record { held = refl; generation = refl; sizes = refl })
changes-last old new (GroupDestroy group) reply changes =
    same-last old new _ changes.1 (record { held = refl; generation = refl; sizes = refl })
changes-last old new (Assign member parent) reply changes =
    same-last old new _ changes.1 (record { held = refl; generation = refl; sizes = refl })
changes-last old new (Remove member parent) reply changes =
    same-last old new _ changes.1 (record { held = refl; generation = refl; sizes = refl })
changes-last old new (Limit group which max) reply changes =
    same-last old new _ changes.1 (record { held = refl; generation = refl; sizes = refl })
changes-last old new (Write sub ino off len) reply changes = absurd changes
changes-last old new (Clone sub ino off len to_sub to_ino to_off) reply changes = absurd changes
changes-last old new (Truncate sub ino size) reply changes = absurd changes
changes-last old new (Unlink sub ino) reply changes = absurd changes
changes-last old new Commit reply changes = absurd changes
changes-last old new Show reply changes = absurd changes
changes-last old new (Ls sub ino) reply changes = absurd changes
changes-last old new (Owners address) reply changes = absurd changes

-- it is the machine's, with the commits before and behind it
pub does-changes : (old before changed new : State) (given : Command) (reply : Answer) (commits : List State)
    → Changes before given reply changed → DoesStructural old given reply commits new
    → Does old given reply commits new
does-changes old before changed new SubCreate reply commits changes does = does
does-changes old before changed new (Snap sub parents) reply commits changes does = does
does-changes old before changed new (Delete sub) reply commits changes does = does
does-changes old before changed new QuotaOn reply commits changes does = does
does-changes old before changed new QuotaOff reply commits changes does = does
does-changes old before changed new (GroupCreate group) reply commits changes does = does
does-changes old before changed new (GroupDestroy group) reply commits changes does = does
does-changes old before changed new (Assign member parent) reply commits changes does = does
does-changes old before changed new (Remove member parent) reply commits changes does = does
does-changes old before changed new (Limit group which max) reply commits changes does = does
does-changes old before changed new (Write sub ino off len) reply commits changes does = absurd changes
does-changes old before changed new (Clone sub ino off len to_sub to_ino to_off) reply commits changes does =
    absurd changes
does-changes old before changed new (Truncate sub ino size) reply commits changes does = absurd changes
does-changes old before changed new (Unlink sub ino) reply commits changes does = absurd changes
does-changes old before changed new Commit reply commits changes does = absurd changes
does-changes old before changed new Show reply commits changes does = absurd changes
does-changes old before changed new (Ls sub ino) reply commits changes does = absurd changes
does-changes old before changed new (Owners address) reply commits changes does = absurd changes

pub structural-leads : (committed old new : State) (given : Command) (reply : Answer) (commits : List State)
    → IsLastCommit committed old → DoesStructural old given reply commits new → LeadTo committed commits new
structural-leads committed old new given reply commits last does =
    let first = pending-leads committed old does.before does.earlier last does.first in
    let mid = last_commit committed does.earlier in
    let changed = changes-last does.before does.changed given reply does.changes in
    let second = commit-leads mid does.changed new (last-then mid does.before does.changed first.last changed)
    does.second in
    subst (λ (list : List State). LeadTo committed list new) (sym does.told)
    (lead-then committed does.earlier (new ∷ []) new first.later second)

-- ---- a file command

tree-last : (state : State) (sub : ℕ) (files : List (ℕ × File)) (root : ℕ) (found : Option Subvolume)
    → value_at sub state.subvolumes ≡ found → IsLastCommit state (with_tree state sub files root)
tree-last state sub files root None is = record { held = rw is refl; generation = rw is refl; sizes = rw is refl }
tree-last state sub files root (Some subvolume) is =
    record { held = rw is refl; generation = rw is refl; sizes = rw is refl }

change-leads : (committed old new : State) (given : Command) (reply : Answer) (commits : List State)
    (found : Option FileChange) → IsLastCommit committed old
    → MatchOption found ⊥ (DoesChange old given reply commits new) → LeadTo committed commits new
change-leads committed old new given reply commits None last does = absurd does
change-leads committed old new given reply commits (Some change) last does =
    let tree = tree-last old change.sub change.files does.2.root (value_at change.sub old.subvolumes) refl in
    let kept = same-last old new _ does.2.changed
    (record { held = tree.held; generation = tree.generation; sizes = tree.sizes }) in
    none-lead committed old new commits last kept does.1

-- ---- a step

module _ (committed old new : State) (reply : Answer) (commits : List State) (last : IsLastCommit committed old) where
  changes-file : (given : Command)
      → MatchOption (file_change old given) ⊥ (DoesChange old given reply commits new) → LeadTo committed commits new
  changes-file given does =
      change-leads committed old new given reply commits (file_change old given) last does

  changes-structure : (given : Command) → DoesStructural old given reply commits new → LeadTo committed commits new
  changes-structure given does = structural-leads committed old new given reply commits last does

  changes-nothing : Stays old commits new → LeadTo committed commits new
  changes-nothing stays = stays-lead committed old new commits last stays

  does-lead : (given : Command) → Does old given reply commits new → LeadTo committed commits new
  does-lead (Write sub ino off len) does = changes-file (Write sub ino off len) does
  does-lead (Clone sub ino off len to_sub to_ino to_off) does =
      changes-file (Clone sub ino off len to_sub to_ino to_off) does
  does-lead (Truncate sub ino size) does = changes-file (Truncate sub ino size) does
  does-lead (Unlink sub ino) does = changes-file (Unlink sub ino) does
  does-lead Commit does = pending-leads committed old new commits last does.1
  does-lead Show does = changes-nothing does.1
  does-lead (Ls sub ino) does = changes-nothing does.1
  does-lead (Owners address) does = changes-nothing does.1
  does-lead SubCreate does = changes-structure SubCreate does
  does-lead (Snap sub parents) does = changes-structure (Snap sub parents) does
  does-lead (Delete sub) does = changes-structure (Delete sub) does
  does-lead QuotaOn does = changes-structure QuotaOn does
  does-lead QuotaOff does = changes-structure QuotaOff does
  does-lead (GroupCreate group) does = changes-structure (GroupCreate group) does
  does-lead (GroupDestroy group) does = changes-structure (GroupDestroy group) does
  does-lead (Assign member parent) does = changes-structure (Assign member parent) does
  does-lead (Remove member parent) does = changes-structure (Remove member parent) does
  does-lead (Limit group which max) does = changes-structure (Limit group which max) does

  step-leads-by : (given : Command) (refused : Option Refusal)
      → MatchOption refused (Does old given reply commits new)
      (λ why. (reply ≡ answer.Refused why) × Stays old commits new) → LeadTo committed commits new
  step-leads-by given None does = does-lead given does
  step-leads-by given (Some why) does = changes-nothing does.1

  pub step-leads : (given : Command) → Step old given reply commits new → LeadTo committed commits new
  step-leads given does = step-leads-by given (refusal old given) does

-- ---- lines

pub turn-leads : (committed old new : State) (line reply : List ℕ) (commits : List State) → IsLastCommit committed old
    → Turn old line reply commits new → LeadTo committed commits new
turn-leads committed old new line reply commits last (inl obeys) =
    step-leads committed old new obeys.answer commits last obeys.command obeys.step
turn-leads committed old new line reply commits last (inr ignores) =
    stays-lead committed old new commits last ignores.stays

pub run-leads : (committed old new : State) (lines replies : List (List ℕ)) (commits : List State)
    → IsLastCommit committed old → Run old lines replies commits new → LeadTo committed commits new
run-leads committed old new [] [] commits last run = stays-lead committed old new commits last run
run-leads committed old new [] (reply ∷ replies) commits last run = absurd run
run-leads committed old new (line ∷ lines) [] commits last run = absurd run
run-leads committed old new (line ∷ lines) (reply ∷ replies) commits last run =
    let mid = run.0 in
    let first = turn-leads committed old mid line reply run.1 last run.3 in
    let rest = run-leads (last_commit committed run.1) mid new lines replies run.2 first.last run.4 in
    subst (λ (list : List State). LeadTo committed list new) (sym run.5)
    (lead-then committed run.1 run.2 new first.later rest)
