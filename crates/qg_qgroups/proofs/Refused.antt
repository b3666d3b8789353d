-- When commands of quota are refused and what they change, by quota alone and as the machine has it.
use Rattle.std.proofs.Common.{◌≡◌, ℕ, Bool, true, false, List, [], ◌∷◌, ◌++◌, Option, Some, None, refl, sym, ap, length}
use Rattle.std.proofs.Common.{nat_lt}
use Rattle.std.specs.Prelude.{◌||◌, ◌==◌, not, nat_le}
use Rattle.std.specs.Bool.{then_some}
use Rattle.std.specs.List.{list_any}
use Rattle.std.proofs.lemmas.Bool.{true≢false}
use Rattle.std.proofs.lemmas.List.{length-map}
use Rattle.qg_image.specs.Verdict.{most_groups, most_relations}
use Rattle.qg_num.specs.declared.answer.Answer.{Answer}
use Rattle.qg_num.specs.declared.answer.Answer.TheVariants as answer
use Rattle.qg_num.specs.declared.command.Command.{Command}
use Rattle.qg_num.specs.declared.command.Command.TheVariants as command
use Rattle.qg_num.specs.declared.refusal.Refusal.{Refusal}
use Rattle.qg_num.specs.declared.refusal.Refusal.TheVariants as why
use Rattle.qg_image.specs.Table.{keys_of}
use Rattle.qg_image.specs.ItemMeaning.{first_some}
use Rattle.qg_image.specs.declared.quota.Quota.{Quota}
use Rattle.qg_image.specs.Members.{hierarchy_of, level_of_group}
use Rattle.qg_image.specs.State.{State, Subvolume, next_generation}
use Rattle.qg_machine.specs.GroupChange.{has_pair}
use Rattle.qg_machine.specs.Refusals.{groups_of, no_commit, pairs_of, refusal, refuse}
use Rattle.qg_machine.specs.Step.{Changes, with_quota}
use Rattle.qg_qgroups.specs.declared.fault.HierFault.TheVariants as fault
use Rattle.qg_qgroups.specs.Faults.{no_group}
use Rattle.qg_qgroups.specs.Groups.{has_members, has_number}
use Rattle.qg_qgroups.specs.Changing.{change_fault, change_refusal, change_refusals, group_changed, groups_in}
use Rattle.qg_qgroups.specs.Changing.{is_group_change, is_group_command, pairs_in}
use Rattle.qg_qgroups.specs.OnOrOff.{quota_changed}
use Rattle.qg_qgroups.proofs.Tables.{key-found}

-- ---- a command that isn't refused finds no fault

-- none of some holds exactly if the first doesn't, nor any behind it
pub none-of : {A : Type 0} (o : Option A) (rest : List (Option A)) → first_some (o ∷ rest) ≡ None
    → (o ≡ None) × (first_some rest ≡ None)
none-of None rest none = (refl, none)
none-of (Some x) rest none = absurd (some_none none) where
  some_none : Some x ≡ None → ⊥
  some_none same = cc

pub refused-not : (b : Bool) (given : Refusal) → refuse b given ≡ None → b ≡ false
refused-not true given none = absurd (some_none none) where
  some_none : Some given ≡ None → ⊥
  some_none same = cc
refused-not false given none = refl

-- the same test with another answer
other_answer : {A B : Type 0} (b : Bool) (x : A) (y : B) → then_some b x ≡ None → then_some b y ≡ None
other_answer true x y none = absurd (some_none none) where
  some_none : Some x ≡ None → ⊥
  some_none same = cc
other_answer false x y none = refl

one_answer : {A B : Type 0} (a b : Bool) (x : A) (y : B) → then_some (a || b) x ≡ None → then_some a y ≡ None
one_answer true b x y none = other_answer true x y none
one_answer false b x y none = refl

first_two : {A : Type 0} (o p : Option A) → o ≡ None → p ≡ None → first_some (o ∷ p ∷ []) ≡ None
first_two o p none other = rw (none, other) refl

first_four : {A : Type 0} (o p q r : Option A) → o ≡ None → p ≡ None → q ≡ None → r ≡ None
    → first_some (o ∷ p ∷ q ∷ r ∷ []) ≡ None
first_four o p q r a b c d = rw (a, b, c, d) refl

-- the refusals of the quota that is on, and of a group that isn't there
abbrev missing : Quota → ℕ → Option Refusal
missing quota group = refuse (not (has_number group (keys_of quota.groups))) why.NoGroup

abbrev wrong_level : ℕ → ℕ → Option Refusal
wrong_level member parent = refuse (not (nat_lt (level_of_group member) (level_of_group parent))) why.Level

pub free-change : (quota : Quota) (subvolumes : List ℕ) (given : Command)
    → change_refusal (Some quota) subvolumes given ≡ None
    → change_fault (hierarchy_of quota) given ≡ None
free-change quota subvolumes (command.GroupCreate group) none =
    let there : Option Refusal = refuse (has_number group (keys_of quota.groups)) why.GroupThere in
    let many : Option Refusal = refuse (nat_le most_groups (length (keys_of quota.groups))) why.TooMany in
    let level = none-of (refuse (not (not (level_of_group group == 0))) why.Level) (there ∷ many ∷ []) none in
    other_answer (has_number group (keys_of quota.groups)) why.GroupThere fault.GroupThere
    (none-of there (many ∷ []) level.1).0
free-change quota subvolumes (command.GroupDestroy group) none =
    let members : Bool = has_members (hierarchy_of quota) group in
    let busy : Option Refusal = refuse (members || has_number group subvolumes) why.Busy in
    let absent = none-of (missing quota group) (busy ∷ []) none in
    first_two (no_group (hierarchy_of quota) group) (then_some members fault.Busy)
    (other_answer (not (has_number group (keys_of quota.groups))) why.NoGroup fault.NoGroup absent.0)
    (one_answer members (has_number group subvolumes) why.Busy fault.Busy (none-of busy [] absent.1).0)
free-change quota subvolumes (command.Assign member parent) none =
    let related : Option Refusal = refuse (has_pair member parent quota.pairs) why.Related in
    let many : Option Refusal = refuse (nat_le most_relations (length quota.pairs)) why.TooMany in
    let level = none-of (wrong_level member parent) (missing quota member ∷ missing quota parent ∷ related ∷ many ∷ [])
    none in
    let below = none-of (missing quota member) (missing quota parent ∷ related ∷ many ∷ []) level.1 in
    let above = none-of (missing quota parent) (related ∷ many ∷ []) below.1 in
    first_four (then_some (not (nat_lt (level_of_group member) (level_of_group parent))) fault.Level)
    (no_group (hierarchy_of quota) member) (no_group (hierarchy_of quota) parent)
    (then_some (has_pair member parent quota.pairs) fault.Related)
    (other_answer (not (nat_lt (level_of_group member) (level_of_group parent))) why.Level fault.Level level.0)
    (other_answer (not (has_number member (keys_of quota.groups))) why.NoGroup fault.NoGroup below.0)
    (other_answer (not (has_number parent (keys_of quota.groups))) why.NoGroup fault.NoGroup above.0)
    (other_answer (has_pair member parent quota.pairs) why.Related fault.Related
    (none-of related (many ∷ []) above.1).0)
free-change quota subvolumes (command.Remove member parent) none =
    let apart = none-of (refuse (not (has_pair member parent quota.pairs)) why.NotRelated) [] none in
    other_answer (not (has_pair member parent quota.pairs)) why.NotRelated fault.NotRelated apart.0
free-change quota subvolumes (command.Limit group which max) none =
    let absent = none-of (missing quota group) [] none in
    other_answer (not (has_number group (keys_of quota.groups))) why.NoGroup fault.NoGroup absent.0
free-change quota subvolumes _ none = refl

-- ---- refusals of the machine

refused : (state : State) (quota : Option Quota) (given : Command) → is_group_command given ≡ true
    → refusal (record state { quota = quota }) given
    ≡ first_some (change_refusals quota (keys_of state.subvolumes) given
    ++ no_commit (record state { quota = quota }) given ∷ [])
unfolding refusal
refused state None command.QuotaOn is =
    ap (λ (n : ℕ). first_some (refuse (nat_lt most_groups n) why.TooMany ∷ no_commit (record state { quota = None })
    command.QuotaOn ∷ []))
    (sym (length-map state.subvolumes (λ (entry : ℕ × Subvolume). entry.0)))
refused state (Some quota) command.QuotaOn is = refl
refused state None command.QuotaOff is = refl
refused state (Some quota) command.QuotaOff is = refl
refused state None (command.GroupCreate group) is = refl
refused state (Some quota) (command.GroupCreate group) is = refl
refused state None (command.GroupDestroy group) is = refl
refused state (Some quota) (command.GroupDestroy group) is =
    ap (λ (b : Bool). first_some (missing quota group ∷ refuse (list_any (λ pair. pair.1 == group) quota.pairs || b)
    why.Busy
    ∷ no_commit (record state { quota = Some quota }) (command.GroupDestroy group) ∷ []))
    (sym (key-found group state.subvolumes))
refused state None (command.Assign member parent) is = refl
refused state (Some quota) (command.Assign member parent) is = refl
refused state None (command.Remove member parent) is = refl
refused state (Some quota) (command.Remove member parent) is = refl
refused state None (command.Limit group which max) is = refl
refused state (Some quota) (command.Limit group which max) is = refl
refused state quota _ is = absurd (true≢false (sym is))

-- a command of quota is refused by quota and the subvolumes, and then by the room for its commit
pub refusal-is : (state : State) (given : Command) → is_group_command given ≡ true
    → refusal state given ≡ first_some (change_refusals state.quota (keys_of state.subvolumes) given
    ++ no_commit state given ∷ [])
refusal-is state given is = refused state state.quota given is

-- the groups and relations that there are
pub groups-told : (state : State) → groups_of state ≡ groups_in state.quota
groups-told state = told state.quota where
  told : (quota : Option Quota) → groups_of (record state { quota = quota }) ≡ groups_in quota
  told None = refl
  told (Some quota) = refl

pub pairs-told : (state : State) → pairs_of state ≡ pairs_in state.quota
pairs-told state = told state.quota where
  told : (quota : Option Quota) → pairs_of (record state { quota = quota }) ≡ pairs_in quota
  told None = refl
  told (Some quota) = refl

-- ---- changes of the machine

-- what the machine changes by a command of groups
pub changes-by : (old : State) (given : Command) (reply : Answer) (new : State) → is_group_change given ≡ true
    → reply ≡ answer.Done
    → new ≡ with_quota old (group_changed (next_generation old) given) → Changes old given reply new
changes-by old (command.GroupCreate group) reply new is done changed = (done, changed)
changes-by old (command.GroupDestroy group) reply new is done changed = (done, changed)
changes-by old (command.Assign member parent) reply new is done changed = (done, changed)
changes-by old (command.Remove member parent) reply new is done changed = (done, changed)
changes-by old (command.Limit group which max) reply new is done changed = (done, changed)
changes-by old _ reply new is done changed = absurd (true≢false (sym is))

-- and by any command of quota
pub changes-quota : (old : State) (given : Command) (reply : Answer) (new : State) → is_group_command given ≡ true
    → reply ≡ answer.Done
    → new ≡ record old { quota = quota_changed (next_generation old) (keys_of old.subvolumes) given old.quota }
    → Changes old given reply new
changes-quota old command.QuotaOn reply new is done changed = (done, changed)
changes-quota old command.QuotaOff reply new is done changed = (done, changed)
changes-quota old (command.GroupCreate group) reply new is done changed = (done, changed)
changes-quota old (command.GroupDestroy group) reply new is done changed = (done, changed)
changes-quota old (command.Assign member parent) reply new is done changed = (done, changed)
changes-quota old (command.Remove member parent) reply new is done changed = (done, changed)
changes-quota old (command.Limit group which max) reply new is done changed = (done, changed)
changes-quota old _ reply new is done changed = absurd (true≢false (sym is))
