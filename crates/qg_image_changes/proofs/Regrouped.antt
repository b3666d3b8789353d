-- A command of quota: it is of the machine's structural commands, and what it changes is kept of the state that this
-- leaves.
use Rattle.std.proofs.Common.{◌≡◌, ℕ, ◌+◌, ◌*◌, ◌<◌, ◌≤◌, Bool, true, false, List, [], ◌∷◌, arith, length, map, Option}
use Rattle.std.proofs.Common.{Some, None, refl, sym, ap, subst, ◌∙◌}
use Rattle.std.specs.Prelude.{◌||◌, ◌==◌, IfSome, nat_lt, not}
use Rattle.std.specs.List.{All, Contains}
use Rattle.std.specs.List.Sorted.{IsStrictlyIncreasing}
use Rattle.std.specs.Option.{option_map}
use Rattle.std.proofs.lemmas.Bool.{ltb-false, true≢false}
use Rattle.std.proofs.lemmas.List.{length-map}
use Rattle.std.proofs.lemmas.List.Elements.{All-contains}
use Rattle.std.proofs.lemmas.Map.Keys.{IsStrictlyIncreasing-from_sorted}
use Rattle.std.proofs.lemmas.Option.{none-some}
use Rattle.std.proofs.Math.Nat.{add-mul, mul-le-mul_left}
use Rattle.qg_device.specs.History.{History}
use Rattle.qg_num.specs.declared.answer.Answer.{Answer}
use Rattle.qg_num.specs.declared.answer.Answer.TheVariants.{Done}
use Rattle.qg_num.specs.declared.command.Command.{Command}
use Rattle.qg_num.specs.declared.command.Command.TheVariants as command
use Rattle.qg_num.specs.declared.refusal.Refusal.{Refusal}
use Rattle.qg_num.specs.declared.refusal.Refusal.TheVariants as why
use Rattle.qg_super.specs.Places.{capacity, total_bytes}
use Rattle.qg_super.specs.SuperText.{sizes_of}
use Rattle.qg_image.specs.ItemMeaning.{is_subvolume_number}
use Rattle.qg_image.specs.Table.{has_key, keys_of}
use Rattle.qg_image.specs.declared.quota.Group.{Group}
use Rattle.qg_image.specs.declared.quota.Quota.{Quota}
use Rattle.qg_image.specs.Members.{hierarchy_of, id_of_group, level_of_group}
use Rattle.qg_image.specs.State.{Accepted, State, next_generation}
use Rattle.qg_image.specs.Verdict.{is_group_number, most_groups}
use Rattle.qg_machine.specs.GroupChange.{new_group, quota_for, same_pair, with_limit}
use Rattle.qg_machine.specs.Refusals.{refuse}
use Rattle.qg_machine.specs.Step.{DoesStructural}
use Rattle.qg_machine.specs.Step as machine
use Rattle.qg_blocks.specs.NodesFound.{IsBacked}
use Rattle.qg_space.specs.Holding.{free_slots}
use Rattle.qg_qgroups.specs.Groups.{IsSound}
use Rattle.qg_qgroups.specs.declared.state.QuotaState.{QuotaState}
use Rattle.qg_qgroups.specs.Changing.{change_fault, change_refusal, group_changed, is_group_command}
use Rattle.qg_qgroups.specs.OnOrOff.{quota_changed}
use Rattle.qg_qgroups.specs.Tracked.{HoldsAll, HoldsAtMost, IsTracked, quota_of}
use Rattle.qg_qgroups.proofs.Fitted.{few-after, left-few, limit-kept, numbers-after, own-after, pairs-after, pairs-put}
use Rattle.qg_qgroups.proofs.Fitted.{stamps-after}
use Rattle.qg_qgroups.proofs.Refused.{changes-quota, free-change, none-of, refused-not}
use Rattle.qg_qgroups.proofs.Reserved.{bound-more, holds-least}
use Rattle.qg_open_image.proofs.Lists.{from-mapped}
use Rattle.qg_open_image.specs.Editable.{AreGroups, AreGroupsOf}
use Rattle.qg_open_image.specs.Trees.{quota_tree_bytes, root_tree_bytes}
use Rattle.qg_open_image.specs.FsLawsKeeping.{KeepsState, other_names}
use Rattle.qg_open_image.specs.declared.open_image.OpenImage.{OpenImage}
use Rattle.qg_open_image.specs.declared.open_image.KeptSubvolume.{KeptSubvolume}
use Rattle.qg_open_image.specs.Answering.{comes_to_disk, is_structural}
use Rattle.qg_open_image.specs.Keeping.{HoldsPending, IsFitted, IsKept, IsKeptOf, IsKeptWith, commit_room_of}
use Rattle.qg_open_image.specs.Keeping.{most_reserved}
use Rattle.qg_open_image.specs.Keeping.{quota_weight, root_weight}
use Rattle.qg_image_changes.specs.Changing.{HasRoom, IsChanged, group_copies}
use Rattle.qg_open_image.proofs.Reserve.{large, none-listed, reserve-none}
use Rattle.qg_image_changes.proofs.GroupAdded.{length-put, room-grown, sound-tracked}
use Rattle.qg_image_changes.proofs.Numbered.{number-below}
use Rattle.qg_open_image.proofs.Stepped.{keys-kept}
use Rattle.qg_open_image.proofs.Tables.{all-of, listed-key}

-- ---- of the machine's structural commands

pub structural-group : (given : Command) → is_group_command given ≡ true → is_structural given ≡ true
structural-group command.QuotaOn group = refl
structural-group command.QuotaOff group = refl
structural-group (command.GroupCreate number) group = refl
structural-group (command.GroupDestroy number) group = refl
structural-group (command.Assign member parent) group = refl
structural-group (command.Remove member parent) group = refl
structural-group (command.Limit number which max) group = refl
structural-group _ group = absurd (true≢false (sym group))

pub comes-group : (given : Command) → is_group_command given ≡ true → comes_to_disk given ≡ true
comes-group command.QuotaOn group = refl
comes-group command.QuotaOff group = refl
comes-group (command.GroupCreate number) group = refl
comes-group (command.GroupDestroy number) group = refl
comes-group (command.Assign member parent) group = refl
comes-group (command.Remove member parent) group = refl
comes-group (command.Limit number which max) group = refl
comes-group _ group = absurd (true≢false (sym group))

-- none of them is a commit
pub no-commit-group : (given : Command) → is_group_command given ≡ true → given ≡ command.Commit → ⊥
no-commit-group given group is = true≢false (sym group ∙ ap is_group_command is)

-- so what holds where none comes to the disk holds of it
pub still-group : (given : Command) (pending : ℕ) (P : Type 0) → is_group_command given ≡ true
    → (comes_to_disk given ≡ true → (given ≡ command.Commit → 0 < pending) → ⊥) → P
still-group given pending P group none =
    absurd (none (comes-group given group) (λ is. absurd (no-commit-group given group is)))

pub does-group : (state : State) (given : Command) (reply : Answer) (commits : List State) (new : State)
    → is_group_command given ≡ true → DoesStructural state given reply commits new
    → machine.Does state given reply commits new
does-group state command.QuotaOn reply commits new group does = does
does-group state command.QuotaOff reply commits new group does = does
does-group state (command.GroupCreate number) reply commits new group does = does
does-group state (command.GroupDestroy number) reply commits new group does = does
does-group state (command.Assign member parent) reply commits new group does = does
does-group state (command.Remove member parent) reply commits new group does = does
does-group state (command.Limit number which max) reply commits new group does = does
does-group state _ reply commits new group does = absurd (true≢false (sym group))

-- the nodes that any but one that turns quota on may copy
pub copies-other : (kept : OpenImage) (given : Command) → (given ≡ command.QuotaOn → ⊥) → 18 ≡ group_copies kept given
copies-other kept command.QuotaOn on = absurd (on refl)
copies-other kept given on = refl

-- ---- why it is refused, as it was asked

pub asked-so : (kept : OpenImage) (quota : Option Quota) (seen : List (ℕ × KeptSubvolume)) (given : Command)
    (found answer : Option Refusal)
    → seen ≡ kept.snapshots → found ≡ change_refusal quota (keys_of seen) given → found ≡ answer
    → change_refusal quota (keys_of kept.snapshots) given ≡ answer
asked-so kept quota seen given found answer same asked is =
    ap (λ (table : List (ℕ × KeptSubvolume)). change_refusal quota (keys_of table) given) (sym same) ∙ sym asked ∙ is

-- ---- all but quota is as it was

pub kept-regrouped : (mid new : OpenImage) (history : History) (bytes : ℕ) → IsKept mid history bytes
    → new ≡ record mid { quota = new.quota } → IsFitted new → IsKept new history bytes
kept-regrouped mid new history bytes fits rest fitted = record {
  fitted = fitted;
  backed = subst (λ (k : OpenImage). IsBacked k.fs.land.blocks history) (sym rest) fits.backed;
  long = subst (λ (k : OpenImage). total_bytes (sizes_of k.superblock) ≤ bytes) (sym rest) fits.long;
}

pub superblock-regrouped : (mid new : OpenImage) → new ≡ record mid { quota = new.quota }
    → new.superblock ≡ mid.superblock
superblock-regrouped mid new rest = ap (λ (k : OpenImage). k.superblock) rest

-- ---- quota that is turned on

-- each subvolume has its group
keys_for : (stamp : ℕ) (live : List ℕ) → keys_of (map (λ sub. (sub, new_group stamp)) live) ≡ live
keys_for stamp [] = refl
keys_for stamp (sub ∷ live) = ap (λ (numbers : List ℕ). sub ∷ numbers) (keys_for stamp live)

itself : (n : ℕ) → n ≤ n
itself n = omega arith

or_late : (a b : Bool) → b ≡ true → (a || b) ≡ true
or_late true b second = refl
or_late false b second = second

number_fits : (n : ℕ) → is_subvolume_number n ≡ true → is_group_number n ≡ true
number_fits n number =
    let under = number-below n number in
    let id : id_of_group n ≡ n = omega (arith, under) in
    or_late (not (level_of_group n == 0)) (is_subvolume_number (id_of_group n)) (ap is_subvolume_number id ∙ number)

module _ (stamp : ℕ) (live : List ℕ) where
  abbrev made_groups : List (ℕ × Group)
  made_groups = map (λ sub. (sub, new_group stamp)) live

  made_from : (entry : ℕ × Group) → Contains made_groups entry
      → (sub : ℕ) × Contains live sub × ((sub, new_group stamp) ≡ entry)
  made_from entry has = from-mapped (λ (sub : ℕ). (sub, new_group stamp)) live entry has

  pub groups-on : length live ≤ most_groups → IsStrictlyIncreasing live
      → All (λ sub. is_subvolume_number sub ≡ true) live
      → IsSound (hierarchy_of (quota_for stamp live)) → AreGroups stamp live (quota_for stamp live)
  groups-on few up numbers sound = record {
    few = let same = length-map {B = ℕ × Group} live (λ (sub : ℕ). (sub, new_group stamp)) in omega (arith, same, few);
    ascending = subst (λ (ns : List ℕ). IsStrictlyIncreasing ns) (sym (keys_for stamp live)) up;
    numbers = all-of (λ (e : ℕ × Group). is_group_number e.0 ≡ true) made_groups (λ entry has.
        let made = made_from entry has in
        subst (λ (e : ℕ × Group). is_group_number e.0 ≡ true) made.2
        (number_fits made.0 (All-contains (λ (sub : ℕ). is_subvolume_number sub ≡ true) live made.0 numbers made.1)));
    own = all-of (λ (sub : ℕ). has_key sub made_groups ≡ true) live (λ sub has.
        listed-key sub made_groups (subst (λ (ns : List ℕ). Contains ns sub) (sym (keys_for stamp live)) has));
    stamped = all-of (λ (e : ℕ × Group). e.1.stamp ≤ stamp) made_groups (λ entry has.
        let made = made_from entry has in
        subst (λ (e : ℕ × Group). e.1.stamp ≤ stamp) made.2 (itself stamp));
    few_pairs = omega arith;
    sound = sound;
  }

-- there are few subvolumes
few_live : (quota : Option Quota) (live : List ℕ) → change_refusal quota live command.QuotaOn ≡ None
    → length live ≤ most_groups
few_live None live free =
    ltb-false most_groups (length live)
    (refused-not (nat_lt most_groups (length live)) why.TooMany
    (none-of (refuse (nat_lt most_groups (length live)) why.TooMany) [] free).0)
few_live (Some quota) live free = absurd (none-some why.QuotaOn (sym free))

-- ---- what the quota tree can tell

-- of quota that stays on
groups_change : (stamp : ℕ) (live : List ℕ) (given : Command) (quota : Quota)
    → change_refusal (Some quota) live given ≡ None → AreGroups stamp live quota
    → IsSound (hierarchy_of (group_changed stamp given quota)) → AreGroups stamp live (group_changed stamp given quota)
groups_change stamp live given quota free groups sound = record {
  few = few-after stamp live quota given free groups.sound.groups groups.few;
  ascending = IsStrictlyIncreasing-from_sorted (keys_of (group_changed stamp given quota).groups) sound.groups;
  numbers = numbers-after stamp live quota given free groups.numbers;
  own = own-after stamp live quota given free groups.own;
  stamped = stamps-after stamp live quota given groups.stamped;
  few_pairs = pairs-after stamp live quota given free groups.few_pairs;
  sound = sound;
}

groups_changed : (stamp : ℕ) (live : List ℕ) (given : Command) (before : Option Quota)
    → change_refusal before live given ≡ None → AreGroupsOf stamp live before
    → ((quota : Quota) → option_map (group_changed stamp given) before ≡ Some quota → IsSound (hierarchy_of quota))
    → AreGroupsOf stamp live (option_map (group_changed stamp given) before)
groups_changed stamp live given None free groups sound = tt
groups_changed stamp live given (Some quota) free groups sound =
    groups_change stamp live given quota free groups (sound (group_changed stamp given quota) refl)

-- and of any, after a command of quota that isn't refused
pub groups-regrouped : (stamp : ℕ) (live : List ℕ) (given : Command) (before : Option Quota)
    → change_refusal before live given ≡ None → IsStrictlyIncreasing live
    → All (λ sub. is_subvolume_number sub ≡ true) live → AreGroupsOf stamp live before
    → ((quota : Quota) → quota_changed stamp live given before ≡ Some quota → IsSound (hierarchy_of quota))
    → AreGroupsOf stamp live (quota_changed stamp live given before)
groups-regrouped stamp live command.QuotaOn before free up numbers groups sound =
    groups-on stamp live (few_live before live free) up numbers (sound (quota_for stamp live) refl)
groups-regrouped stamp live command.QuotaOff before free up numbers groups sound = tt
groups-regrouped stamp live given before free up numbers groups sound =
    groups_changed stamp live given before free groups sound

-- ---- what is tracked

-- a change that isn't refused finds no fault
free_by : (tracked : Option QuotaState) (live : List ℕ) (given : Command)
    → change_refusal (quota_of tracked) live given ≡ None
    → IfSome tracked (λ state. change_fault (hierarchy_of state.quota) given ≡ None)
free_by None live given free = tt
free_by (Some state) live given free = free-change state.quota live given free

pub free-tracked : (kept : OpenImage) (live : List ℕ) (given : Command)
    → change_refusal (quota_of kept.quota) live given ≡ None
    → IfSome kept.quota (λ state. change_fault (hierarchy_of state.quota) given ≡ None)
free-tracked kept live given free = free_by kept.quota live given free

-- where nothing is held, no more than any bound is
most_by : (tracked : Option QuotaState) (bound : ℕ) → IfSome tracked (λ quota. HoldsAll quota [])
    → IfSome tracked (HoldsAtMost bound)
most_by None bound holds = tt
most_by (Some state) bound holds = bound-more state 0 bound (omega arith) (holds-least state holds)

pub most-none : (kept : OpenImage) (bound : ℕ) → HoldsPending kept [] → IfSome kept.quota (HoldsAtMost bound)
most-none kept bound holds = most_by kept.quota bound holds

-- a command that neither turns quota on nor off changes the groups
pub changed-other : (stamp : ℕ) (live : List ℕ) (given : Command) (quota : Option Quota)
    → (given ≡ command.QuotaOn → ⊥) → (given ≡ command.QuotaOff → ⊥)
    → quota_changed stamp live given quota ≡ option_map (group_changed stamp given) quota
changed-other stamp live command.QuotaOn quota on off = absurd (on refl)
changed-other stamp live command.QuotaOff quota on off = absurd (off refl)
changed-other stamp live given quota on off = refl

-- ---- what the other trees take

-- a change of groups adds one group at the most, and one relation
lengths_after : (stamp : ℕ) (given : Command) (quota : Quota)
    → (length (group_changed stamp given quota).groups ≤ length quota.groups + 1)
    × (length (group_changed stamp given quota).pairs ≤ length quota.pairs + 1)
lengths_after stamp (command.GroupCreate group) quota =
    (length-put group (new_group stamp) quota.groups, omega arith)
lengths_after stamp (command.GroupDestroy group) quota =
    let groups = left-few (λ (entry : ℕ × Group). not (entry.0 == group)) quota.groups in
    let pairs = left-few (λ (pair : ℕ × ℕ). not (pair.0 == group)) quota.pairs in
    (omega (arith, groups), omega (arith, pairs))
lengths_after stamp (command.Assign member parent) quota = (omega arith, pairs-put (member, parent) quota.pairs)
lengths_after stamp (command.Remove member parent) quota =
    let pairs = left-few (λ (pair : ℕ × ℕ). not (same_pair pair (member, parent))) quota.pairs in
    (omega arith, omega (arith, pairs))
lengths_after stamp (command.Limit number which max) quota =
    limit-kept number which max quota
    (λ (made : Quota). (length made.groups ≤ length quota.groups + 1) × (length made.pairs ≤ length quota.pairs + 1))
    (omega arith, omega arith)
    (λ group found. (length-put number (with_limit which max group) quota.groups, omega arith))
lengths_after stamp _ quota = (omega arith, omega arith)

-- so much more the trees' items take at the most
abbrev pub weight_more : Command → ℕ → ℕ
weight_more command.QuotaOn many = 521 + many * 130
weight_more _ many = 521

weighs_changed : (stamp many : ℕ) (given : Command) (before : Option Quota)
    → root_tree_bytes many (option_map (group_changed stamp given) before)
    + quota_tree_bytes (option_map (group_changed stamp given) before)
    ≤ root_tree_bytes many before + quota_tree_bytes before + 521
weighs_changed stamp many given None = omega arith
weighs_changed stamp many given (Some quota) =
    let more = lengths_after stamp given quota in
    let groups = more.0 in
    let pairs = more.1 in
    omega (arith, groups, pairs)

weighs_off : (many : ℕ) (before : Option Quota)
    → root_tree_bytes many None + quota_tree_bytes None ≤ root_tree_bytes many before + quota_tree_bytes before + 521
weighs_off many None = omega arith
weighs_off many (Some quota) = omega arith

weighs_on : (stamp : ℕ) (live : List ℕ) (before : Option Quota)
    → root_tree_bytes (length live) (Some (quota_for stamp live)) + quota_tree_bytes (Some (quota_for stamp live))
    ≤ root_tree_bytes (length live) before + quota_tree_bytes before + (521 + length live * 130)
weighs_on stamp live None =
    let many = length-map {B = ℕ × Group} live (λ (sub : ℕ). (sub, new_group stamp)) in
    omega (arith, many)
weighs_on stamp live (Some quota) =
    let many = length-map {B = ℕ × Group} live (λ (sub : ℕ). (sub, new_group stamp)) in
    omega (arith, many)

pub weighs-regrouped : (stamp : ℕ) (live : List ℕ) (given : Command) (before : Option Quota)
    → root_tree_bytes (length live) (quota_changed stamp live given before)
    + quota_tree_bytes (quota_changed stamp live given before)
    ≤ root_tree_bytes (length live) before + quota_tree_bytes before + weight_more given (length live)
weighs-regrouped stamp live command.QuotaOn before = weighs_on stamp live before
weighs-regrouped stamp live command.QuotaOff before = weighs_off (length live) before
weighs-regrouped stamp live given before = weighs_changed stamp (length live) given before

-- ---- the slots that are left

-- so many nodes it fills more
abbrev nodes_more : Command → ℕ → ℕ
nodes_more command.QuotaOn many = many + 1
nodes_more _ many = 1

fits_on : (many room : ℕ) → 521 ≤ room → 130 ≤ room → 0 + (521 + many * 130) ≤ (many + 1) * room
fits_on many room wide enough =
    let each : many * 130 ≤ many * room = mul-le-mul_left many enough in
    let all : (many + 1) * room ≡ many * room + 1 * room = add-mul many 1 room in
    omega (arith, wide, each, all)

fits_more : (given : Command) (many room : ℕ) → 521 ≤ room → 130 ≤ room
    → 0 + weight_more given many ≤ nodes_more given many * room
fits_more command.QuotaOn many room wide enough = fits_on many room wide enough
fits_more _ many room wide enough = omega (arith, wide)

few_more : (kept : OpenImage) (given : Command)
    → 5 * nodes_more given (length kept.snapshots) + 0 + 40 ≤ 10 * group_copies kept given + 67
few_more kept command.QuotaOn = omega arith
few_more kept _ = omega arith

-- ---- what is kept then

-- what is kept with other quota
abbrev pub with_tracked : OpenImage → Option QuotaState → OpenImage
with_tracked old quota = record old { quota = quota }

-- Quota was changed by a command of quota that isn't refused: what is looked up agrees with it, no more is held than
-- was, and nothing where nothing was
pub record IsRegrouped (old : OpenImage) (given : Command) (quota : Option QuotaState) : Type 0 where
  pub changed : quota_of quota
      ≡ quota_changed old.fs.tree.next (keys_of old.snapshots) given (quota_of old.quota)
  pub tracked : IfSome quota IsTracked
  pub most : (bound : ℕ) → IfSome old.quota (HoldsAtMost bound) → IfSome quota (HoldsAtMost bound)
  pub none : HoldsPending old [] → IfSome quota (λ state. HoldsAll state [])

-- so it is where it was changed in the generation to come
pub regrouped-so : (old new : OpenImage) (given : Command) (stamp : ℕ) → stamp ≡ old.fs.tree.next
    → quota_of new.quota ≡ quota_changed stamp (keys_of old.snapshots) given (quota_of old.quota)
    → IfSome new.quota IsTracked
    → ((bound : ℕ) → IfSome old.quota (HoldsAtMost bound) → IfSome new.quota (HoldsAtMost bound))
    → (HoldsPending old [] → HoldsPending new []) → IsRegrouped old given new.quota
regrouped-so old new given stamp dated changed tracked most none = record {
  changed = changed ∙ ap (λ (n : ℕ). quota_changed n (keys_of old.snapshots) given (quota_of old.quota)) dated;
  tracked = tracked;
  most = most;
  none = none;
}

module _ (old : OpenImage) (given : Command) (quota : Option QuotaState) (fits : IsFitted old)
    (free : change_refusal (quota_of old.quota) (keys_of old.snapshots) given ≡ None)
    (regrouped : IsRegrouped old given quota)
  where
    numbers : All (λ sub. is_subvolume_number sub ≡ true) (keys_of old.snapshots)
    numbers =
        all-of (λ (sub : ℕ). is_subvolume_number sub ≡ true) (keys_of old.snapshots) (λ sub has.
        let entry = from-mapped (λ (e : ℕ × KeptSubvolume). e.0) old.snapshots sub has in
        subst (λ (n : ℕ). is_subvolume_number n ≡ true) entry.2
        (All-contains (λ (e : ℕ × KeptSubvolume). is_subvolume_number e.0 ≡ true) old.snapshots entry.0
        fits.subvolumes.numbers entry.1))

    sound_now : (made : Quota) → quota_changed old.fs.tree.next (keys_of old.snapshots) given (quota_of old.quota)
        ≡ Some made
        → IsSound (hierarchy_of made)
    sound_now made is = sound-tracked quota made (regrouped.changed ∙ is) regrouped.tracked

    groups_now : AreGroupsOf old.fs.tree.next (keys_of old.snapshots) (quota_of quota)
    groups_now =
        subst (λ (made : Option Quota). AreGroupsOf old.fs.tree.next (keys_of old.snapshots) made)
        (sym regrouped.changed)
        (groups-regrouped old.fs.tree.next (keys_of old.snapshots) given (quota_of old.quota) free
        fits.subvolumes.ascending numbers fits.groups sound_now)

    pub fitted-regrouped : IsFitted (with_tracked old quota)
    fitted-regrouped = record {
      superblock = fits.superblock;
      subvolumes = fits.subvolumes;
      trees = fits.trees;
      numbered = fits.numbered;
      turn = fits.turn;
      groups = groups_now;
      tracked = regrouped.tracked;
      bounded = regrouped.most (old.pending * most_reserved) fits.bounded;
      next = fits.next;
      sizes = fits.sizes;
      drafted = fits.drafted;
    }

    -- ---- the slots

    abbrev changed_now : Option Quota
    changed_now = quota_changed old.fs.tree.next (keys_of old.snapshots) given (quota_of old.quota)

    weighs : root_weight (with_tracked old quota) + quota_weight (with_tracked old quota)
        ≤ root_weight old + quota_weight old + weight_more given (length old.snapshots)
    weighs =
        let many : length (keys_of old.snapshots) ≡ length old.snapshots =
        length-map old.snapshots (λ (e : ℕ × KeptSubvolume). e.0) in
        subst (λ (made : Option Quota). root_tree_bytes (length old.snapshots) made + quota_tree_bytes made
        ≤ root_weight old + quota_weight old + weight_more given (length old.snapshots)) (sym regrouped.changed)
        (subst (λ (n : ℕ). root_tree_bytes n changed_now + quota_tree_bytes changed_now
        ≤ root_tree_bytes n (quota_of old.quota) + quota_tree_bytes (quota_of old.quota) + weight_more given n) many
        (weighs-regrouped old.fs.tree.next (keys_of old.snapshots) given (quota_of old.quota)))

    pub room-regrouped : HasRoom old (group_copies old given)
        → commit_room_of (with_tracked old quota) ≤ free_slots old.fs.land.space
    room-regrouped room =
        let wide = large old fits in
        let some : 521 ≤ capacity old.superblock.nodesize = omega (arith, wide) in
        let each : 130 ≤ capacity old.superblock.nodesize = omega (arith, wide) in
        room-grown old (with_tracked old quota) (group_copies old given) (nodes_more given (length old.snapshots)) 0 0
        (weight_more given (length old.snapshots)) fits room refl (omega arith) weighs
        (fits_more given (length old.snapshots) (capacity old.superblock.nodesize) some each) (omega arith)
        (few_more old given)

    -- ---- the state

    module _ (state : State) (history : History) (keeps : IsKeptOf old state history)
        (none : old.pending ≡ 0)
        (group : is_group_command given ≡ true) (room : HasRoom old (group_copies old given)) where
      abbrev changed : State
      changed = record state {
        quota = quota_changed (next_generation state) (keys_of state.subvolumes) given state.quota;
      }

      quota_now : changed.quota ≡ quota_of quota
      quota_now =
          (λ i. quota_changed (keeps.keeps.laid.generation i)
          (keys-kept old state history (other_names state) fits keeps i) given (keeps.quota i))
          ∙ sym regrouped.changed

      empty : state.pending ≡ []
      empty = none-listed state.pending (keeps.pending ∙ none)

      holds_now : IfSome quota (λ tracked. HoldsAll tracked state.pending)
      holds_now =
          subst (λ (list : List Accepted). IfSome quota (λ tracked. HoldsAll tracked list)) (sym empty)
          (regrouped.none (subst (λ (list : List Accepted). HoldsPending old list) empty keeps.holds))

      state_now : KeepsState old.fs history changed keeps.mine keeps.files
      state_now = record {
        there = keeps.keeps.there;
        are = keeps.keeps.are;
        holds = keeps.keeps.holds;
        have = keeps.keeps.have;
        laid = record {
          sizes = keeps.keeps.laid.sizes;
          generation = keeps.keeps.laid.generation;
          layout = keeps.keeps.laid.layout;
        };
        held_slots = keeps.keeps.held_slots;
        held_runs = keeps.keeps.held_runs;
      }

      keeps_now : IsKeptWith (with_tracked old quota) changed history (other_names state)
      keeps_now = record {
        files = keeps.files;
        mine = keeps.mine;
        keeps = state_now;
        short = keeps.short;
        snapshots = keeps.snapshots;
        quota = quota_now;
        holds = holds_now;
        pending = keeps.pending;
        recorded = record { kept = keeps.recorded.kept; same = keeps.recorded.same };
        others = keeps.others;
        reserved = λ some. absurd (omega (arith, some, none));
        reserve = reserve-none changed (keeps.pending ∙ none);
        idle = λ idle same. keeps.idle none refl;
      }

      pub changed-regrouped : IsChanged state given Done (with_tracked old quota) history
      changed-regrouped = record {
        changed = changed;
        changes = changes-quota state given Done changed group refl refl;
        keeps = keeps_now;
        room = room-regrouped room;
      }
