-- The steps that a command takes.
use Rattle.std.proofs.Common.{◌≡◌, ℕ, ◌+◌, ◌*◌, ◌-◌, ◌≤◌, Bool, true, false, [], None, Some, Result, Ok, Err, refl, sym}
use Rattle.std.proofs.Common.{ap, ◌∙◌, arith}
use Rattle.std.specs.Prelude.{IfOk}
use Rattle.std.specs.List.{sum_by}
use Rattle.std.proofs.lemmas.Bool.{true≢false}
use Rattle.std.proofs.lemmas.Option.{none-some}
use Rattle.qg_device.specs.History.{History}
use Rattle.qg_num.specs.declared.answer.Answer.{Answer}
use Rattle.qg_num.specs.declared.command.Command.{Command}
use Rattle.qg_num.specs.declared.command.Command.TheVariants.{Assign, Clone, Commit, Delete, GroupCreate, GroupDestroy}
use Rattle.qg_num.specs.declared.command.Command.TheVariants.{Limit, Ls, Owners, QuotaOff, QuotaOn, Remove, Show, Snap}
use Rattle.qg_num.specs.declared.command.Command.TheVariants.{SubCreate, Truncate, Unlink, Write}
use Rattle.qg_num.specs.declared.fault.BlockFault.{BlockFault}
use Rattle.qg_num.specs.declared.fault.Stop.{Stop}
use Rattle.qg_image.specs.State.{Layout, State, layout_of}
use Rattle.qg_machine.specs.FileChange.{FileChange, file_change}
use Rattle.qg_machine.specs.Touched.{touched}
use Rattle.qg_machine.specs.Work.{reads_of_look_up}
use Rattle.qg_qgroups.specs.Changing.{is_group_command}
use Rattle.qg_image_commits.specs.Types.{OpenImage}
use Rattle.qg_image_commits.specs.Keeping.{IsKeptOf}
use Rattle.qg_image_commits.specs.Stored.{IsStoreOf, Stored}
use Rattle.qg_file_commands.specs.Reading.{AsksForFew}
use Rattle.qg_store.specs.Work.{TakesSteps}

-- ---- a command that is no file command

-- a command that changes files
abbrev pub is_of_files : Command → Bool
is_of_files (Write sub ino off len) = true
is_of_files (Clone sub ino off len to_sub to_ino to_off) = true
is_of_files (Truncate sub ino size) = true
is_of_files (Unlink sub ino) = true
is_of_files _ = false

-- it changes no files
changes-none : (command : Command) → is_of_files command ≡ false → (state : State) → None ≡ file_change state command
unfolding file_change
changes-none (Write sub ino off len) other state = absurd (true≢false other)
changes-none (Clone sub ino off len to_sub to_ino to_off) other state = absurd (true≢false other)
changes-none (Truncate sub ino size) other state = absurd (true≢false other)
changes-none (Unlink sub ino) other state = absurd (true≢false other)
changes-none Commit other state = refl
changes-none SubCreate other state = refl
changes-none (Snap sub groups) other state = refl
changes-none (Delete sub) other state = refl
changes-none QuotaOn other state = refl
changes-none QuotaOff other state = refl
changes-none (GroupCreate group) other state = refl
changes-none (GroupDestroy group) other state = refl
changes-none (Assign member parent) other state = refl
changes-none (Remove member parent) other state = refl
changes-none (Limit group which max) other state = refl
changes-none Show other state = refl
changes-none (Ls sub ino) other state = refl
changes-none (Owners address) other state = refl

-- so it is of each command of quota
no-file : (command : Command) → is_group_command command ≡ true → is_of_files command ≡ false
no-file (Write sub ino off len) is = absurd (true≢false (sym is))
no-file (Clone sub ino off len to_sub to_ino to_off) is = absurd (true≢false (sym is))
no-file (Truncate sub ino size) is = absurd (true≢false (sym is))
no-file (Unlink sub ino) is = absurd (true≢false (sym is))
no-file Commit is = refl
no-file SubCreate is = refl
no-file (Snap sub groups) is = refl
no-file (Delete sub) is = refl
no-file QuotaOn is = refl
no-file QuotaOff is = refl
no-file (GroupCreate group) is = refl
no-file (GroupDestroy group) is = refl
no-file (Assign member parent) is = refl
no-file (Remove member parent) is = refl
no-file (Limit group which max) is = refl
no-file Show is = refl
no-file (Ls sub ino) is = refl
no-file (Owners address) is = refl

pub asks-none : (result : Result Answer BlockFault) (kept : OpenImage) (history : History) (command : Command)
    (before now : ℕ) → is_of_files command ≡ false
    → IfOk result (λ answer. AsksForFew kept history command answer before now)
asks-none (Ok answer) kept history command before now other =
    λ accepted state change keeps told. absurd (none-some change (changes-none command other state ∙ told))
asks-none (Err fault) kept history command before now other = tt

-- the command being a known one
pub asks-given : (result : Result Answer BlockFault) (kept : OpenImage) (history : History) (command given : Command)
    (before now : ℕ) → command ≡ given → is_of_files given ≡ false
    → IfOk result (λ answer. AsksForFew kept history command answer before now)
asks-given result kept history command given before now is other =
    asks-none result kept history command before now (ap is_of_files is ∙ other)

-- or one of quota
pub asks-grouped : (result : Result Answer BlockFault) (kept : OpenImage) (history : History) (command : Command)
    (before now : ℕ) → is_group_command command ≡ true
    → IfOk result (λ answer. AsksForFew kept history command answer before now)
asks-grouped result kept history command before now is =
    asks-none result kept history command before now (no-file command is)

-- ---- what was counted

no-more : (n : ℕ) → n ≡ n + 0
no-more n = omega arith

at-least : (n : ℕ) → 0 ≤ n
at-least n = omega arith

so-far : (reads reads' : ℕ) → reads' ≤ reads + (reads' - reads)
so-far reads reads' = omega arith

-- what a command touches counts the pieces
first-few : (p a b c d e : ℕ) → p ≤ p + a + b + c + d + e
first-few p a b c d e = omega arith

touches-pieces : (state : State) (change : FileChange) (after : Layout) → change.pieces ≤ touched state change after
unfolding touched
touches-pieces state change after = first-few change.pieces _ _ _ _ _

few-enough : (reads reads' pieces touches looked : ℕ) → pieces ≤ touches → reads' ≤ reads + 61 * (pieces + 3)
    → reads' - reads ≤ 256 * (touches + 8) + looked
few-enough reads reads' pieces touches looked most few = omega (arith, most, few)

pub steps-stopped : (command : Command) (stop : Stop) (old new : Stored) (before after : History)
    (looks reads reads' : ℕ) → TakesSteps command (Err stop) old new before after looks looks reads reads'
steps-stopped command stop old new before after looks reads reads' = record {
  taken = record { reads = reads' - reads; looked_up = [] };
  counted = record { looked = no-more looks; asked = so-far reads reads' };
  none = refl;
  bounded = tt;
}

pub steps-done : (command : Command) (answer : Answer) (old new : Stored) (kept : OpenImage) (before after : History)
    (looks reads reads' : ℕ) → ((state : State) → IsStoreOf old state before → IsKeptOf kept state before)
    → AsksForFew kept before command answer reads reads'
    → TakesSteps command (Ok answer) old new before after looks looks reads reads'
steps-done command answer old new kept before after looks reads reads' keeps few = record {
  taken = record { reads = reads' - reads; looked_up = [] };
  counted = record { looked = no-more looks; asked = so-far reads reads' };
  none = refl;
  bounded = λ accepted state changed events change store told then change_told. record {
    looks = at-least _;
    reads = few-enough reads reads' change.pieces (touched state change (layout_of changed))
        (sum_by (reads_of_look_up state) []) (touches-pieces state change (layout_of changed))
        (few accepted state change (keeps state store) change_told);
  };
}
