-- Why a structural command may be refused, told by what is kept.
use Rattle.std.proofs.Common.{◌≡◌, ℕ, ◌+◌, ◌*◌, ◌^◌, Bool, true, false, List, [], ◌∷◌, ◌++◌, None, Some, Option, refl}
use Rattle.std.proofs.Common.{sym, ap, ◌∙◌}
use Rattle.std.specs.Prelude.{◌||◌, ◌&&◌, ◌==◌, is_some, length, nat_le, nat_lt, not}
use Rattle.std.specs.List.{list_any}
use Rattle.std.proofs.lemmas.Bool.{eq-eqb, ne_eqb, true≢false}
use Rattle.std.proofs.lemmas.Option.{none-some}
use Rattle.qg_device.specs.History.{History}
use Rattle.qg_num.specs.declared.command.Command.{Command}
use Rattle.qg_num.specs.declared.command.Command.TheVariants.{Delete, Snap, SubCreate}
use Rattle.qg_num.specs.declared.command.Command.TheVariants as command
use Rattle.qg_num.specs.declared.refusal.Refusal.{Refusal}
use Rattle.qg_num.specs.declared.refusal.Refusal.TheVariants as why
use Rattle.qg_items.specs.declared.tree.TheConstants.{TOP_LEVEL}
use Rattle.qg_image.specs.ItemMeaning.{first_some}
use Rattle.qg_image.specs.Table.{has_key, keys_of}
use Rattle.qg_image.specs.declared.quota.Quota.{Quota}
use Rattle.qg_image.specs.Members.{level_of_group, next_subvolume}
use Rattle.qg_image.specs.Need.{nodes_filled, structural_need}
use Rattle.qg_image.specs.State.{State, is_quota_on}
use Rattle.qg_image.specs.Verdict.{most_groups, most_relations, most_subvolumes}
use Rattle.qg_machine.specs.Refusals.{last_generation, no_commit, no_nodes, no_parents, no_sub, refusal, refuse}
use Rattle.qg_machine.specs.Refusals.{structural_copies, too_many_subvolumes}
use Rattle.qg_qgroups.specs.Groups.{has_number}
use Rattle.qg_qgroups.specs.Changing.{change_refusal, change_refusals, groups_in, is_group_command, pairs_in}
use Rattle.qg_qgroups.specs.OnOrOff.{parents_refusal, snap_refusal}
use Rattle.qg_qgroups.specs.Tracked.{SameButCounts, quota_of}
use Rattle.qg_qgroups.proofs.Recounted.{groups-recounted, pairs-recounted, refusal-recounted}
use Rattle.qg_qgroups.proofs.Refused.{refusal-is}
use Rattle.qg_qgroups.proofs.Snapped.{snap-told}
use Rattle.qg_extents.specs.Table.{IsTable}
use Rattle.qg_image_commits.specs.FsLawsKeeping.{other_names}
use Rattle.qg_image_commits.specs.Types.{OpenImage}
use Rattle.qg_image_commits.specs.Keeping.{IsFitted, IsKept, IsKeptOf, structural_need_of}
use Rattle.qg_store.specs.Structural.{IsSettledFrom, commit_refusal}
use Rattle.qg_image_changes.specs.Changing.{group_copies, number_next, too_many_refusal}
use Rattle.qg_image_commits.proofs.Known.{no-other, sub-there}
use Rattle.qg_file_commands.proofs.Refused.{first_one}
use Rattle.qg_image_commits.proofs.Stepped.{free-told, keys-kept, many-kept, nodesize-kept, weight-kept}
use Rattle.qg_image_changes.proofs.HowMany.{generation-told, too-many-told}
use Rattle.qg_image_commits.specs.Types.{KeptSubvolume}

-- ---- the first of some

joined : (a b : Option Refusal) (rest : List (Option Refusal))
    → first_some (a ∷ b ∷ rest) ≡ first_some (first_some (a ∷ b ∷ []) ∷ rest)
joined None None rest = refl
joined None (Some x) rest = refl
joined (Some x) b rest = refl

-- one of the first ones holds, or else the last is asked
found-first : (first : List (Option Refusal)) (last : Option Refusal) (reason : Refusal)
    → first_some first ≡ Some reason → first_some (first ++ last ∷ []) ≡ Some reason
found-first [] last reason is = absurd (none-some reason is)
found-first (None ∷ first) last reason is = found-first first last reason is
found-first (Some x ∷ first) last reason is = is

found-last : (first : List (Option Refusal)) (last : Option Refusal) → first_some first ≡ None
    → first_some (first ++ last ∷ []) ≡ first_some (last ∷ [])
found-last [] last none = refl
found-last (None ∷ first) last none = found-last first last none
found-last (Some x ∷ first) last none = absurd (none-some x (sym none))

-- ---- what is refused of lists alone

module _ (kept : OpenImage) (state : State) (history : History) (fits : IsFitted kept)
    (keeps : IsKeptOf kept state history) where
  pub create-early : too_many_refusal kept 0 ≡ Some why.TooMany → refusal state SubCreate ≡ Some why.TooMany
  unfolding refusal
  create-early is =
      ap (λ (first : Option Refusal). first_some (first ∷ no_commit state SubCreate ∷ []))
      (too-many-told kept state history fits keeps 0 ∙ is)

  -- a snapshot that is put into some groups
  abbrev snap_parts : ℕ → List ℕ → List (Option Refusal)
  snap_parts sub parents =
      refuse (not (is_quota_on state) && nat_lt 0 (length parents)) why.NoQuota ∷ no_parents state [] parents
      ∷ too_many_subvolumes state (length parents) ∷ no_commit state (Snap sub parents) ∷ []

  pub snap-no-sub : (sub : ℕ) (parents : List ℕ) → has_key sub kept.snapshots ≡ false
      → refusal state (Snap sub parents) ≡ Some why.NoSub
  unfolding refusal
  snap-no-sub sub parents none =
      ap (λ (first : Option Refusal). first_some (first ∷ snap_parts sub parents))
      (no-other kept state history keeps sub none)

  list_told : (parents : List ℕ)
      → first_some (refuse (not (is_quota_on state) && nat_lt 0 (length parents)) why.NoQuota
      ∷ no_parents state [] parents ∷ [])
      ≡ snap_refusal (quota_of kept.quota) parents
  list_told parents =
      sym (snap-told state parents) ∙ ap (λ (quota : Option Quota). snap_refusal quota parents) keeps.quota

  pub snap-there : (sub : ℕ) (parents : List ℕ) → has_key sub kept.snapshots ≡ true
      → refusal state (Snap sub parents)
      ≡ first_some (snap_refusal (quota_of kept.quota) parents ∷ too_many_refusal kept (length parents)
      ∷ no_commit state (Snap sub parents) ∷ [])
  unfolding refusal
  snap-there sub parents there =
      ap (λ (first : Option Refusal). first_some (first ∷ snap_parts sub parents))
      (sub-there kept state history keeps sub there)
      ∙ joined (refuse (not (is_quota_on state) && nat_lt 0 (length parents)) why.NoQuota) (no_parents state [] parents)
      (too_many_subvolumes state (length parents) ∷ no_commit state (Snap sub parents) ∷ [])
      ∙ (λ i. first_some (list_told parents i ∷ too-many-told kept state history fits keeps (length parents) i
      ∷ no_commit state (Snap sub parents) ∷ []))

  pub snap-listed : (sub : ℕ) (parents : List ℕ) (reason : Refusal) → has_key sub kept.snapshots ≡ true
      → snap_refusal (quota_of kept.quota) parents ≡ Some reason → refusal state (Snap sub parents) ≡ Some reason
  snap-listed sub parents reason there is =
      snap-there sub parents there
      ∙ ap (λ (first : Option Refusal). first_some (first ∷ too_many_refusal kept (length parents)
      ∷ no_commit state (Snap sub parents) ∷ [])) is

  pub snap-behind : (sub : ℕ) (parents : List ℕ) → has_key sub kept.snapshots ≡ true
      → snap_refusal (quota_of kept.quota) parents ≡ None
      → refusal state (Snap sub parents)
      ≡ first_some (too_many_refusal kept (length parents) ∷ no_commit state (Snap sub parents) ∷ [])
  snap-behind sub parents there none =
      snap-there sub parents there
      ∙ ap (λ (first : Option Refusal). first_some (first ∷ too_many_refusal kept (length parents)
      ∷ no_commit state (Snap sub parents) ∷ [])) none

  pub snap-early : (sub : ℕ) (parents : List ℕ) → has_key sub kept.snapshots ≡ true
      → snap_refusal (quota_of kept.quota) parents ≡ None
      → too_many_refusal kept (length parents) ≡ Some why.TooMany → refusal state (Snap sub parents) ≡ Some why.TooMany
  snap-early sub parents there none is =
      snap-behind sub parents there none
      ∙ ap (λ (first : Option Refusal). first_some (first ∷ no_commit state (Snap sub parents) ∷ [])) is

  -- a command of quota
  refusals_kept : (given : Command) → change_refusal state.quota (keys_of state.subvolumes) given
      ≡ change_refusal (quota_of kept.quota) (keys_of kept.snapshots) given
  refusals_kept given =
      λ i. change_refusal (keeps.quota i) (keys-kept kept state history (other_names state) fits keeps i) given

  pub group-early : (given : Command) (reason : Refusal) → is_group_command given ≡ true
      → change_refusal (quota_of kept.quota) (keys_of kept.snapshots) given ≡ Some reason
      → refusal state given ≡ Some reason
  group-early given reason group is =
      refusal-is state given group
      ∙ found-first (change_refusals state.quota (keys_of state.subvolumes) given) (no_commit state given) reason
      (refusals_kept given ∙ is)

  pub group-behind : (given : Command) → is_group_command given ≡ true
      → change_refusal (quota_of kept.quota) (keys_of kept.snapshots) given ≡ None
      → refusal state given ≡ no_commit state given
  group-behind given group none =
      refusal-is state given group
      ∙ found-last (change_refusals state.quota (keys_of state.subvolumes) given) (no_commit state given)
      (refusals_kept given ∙ none)
      ∙ first_one (no_commit state given)

  -- the nodes that it may copy
  pub copies-told : (given : Command) → is_group_command given ≡ true
      → structural_copies state given ≡ group_copies kept given
  copies-told command.QuotaOn group =
      ap (λ (n : ℕ). 18 + n) (many-kept kept state history (other_names state) fits keeps)
  copies-told command.QuotaOff group = refl
  copies-told (command.GroupCreate number) group = refl
  copies-told (command.GroupDestroy number) group = refl
  copies-told (command.Assign member parent) group = refl
  copies-told (command.Remove member parent) group = refl
  copies-told (command.Limit number which max) group = refl
  copies-told _ group = absurd (true≢false (sym group))

  pub delete-top : (sub : ℕ) → sub ≡ TOP_LEVEL → refusal state (Delete sub) ≡ Some why.TopLevel
  unfolding refusal
  delete-top sub is =
      ap (λ (b : Bool). first_some (refuse b why.TopLevel ∷ no_sub state sub ∷ no_commit state (Delete sub) ∷ []))
      (eq-eqb sub TOP_LEVEL is)

  pub delete-no-sub : (sub : ℕ) → (sub ≡ TOP_LEVEL → ⊥) → has_key sub kept.snapshots ≡ false
      → refusal state (Delete sub) ≡ Some why.NoSub
  unfolding refusal
  delete-no-sub sub other none = λ i. first_some (refuse (ne_eqb sub TOP_LEVEL other i) why.TopLevel
      ∷ no-other kept state history keeps sub none i ∷ no_commit state (Delete sub) ∷ [])

-- ---- the last two

module _ (kept : OpenImage) (state : State) (history : History) (bytes : ℕ) (fits : IsKept kept history bytes)
    (keeps : IsKeptOf kept state history) (table : IsTable kept.fs.refs.refs) where
  need_told : (copies : ℕ) → structural_need state copies ≡ structural_need_of kept copies
  need_told copies =
      λ i. 10 * copies + 16 * nodes_filled (nodesize-kept kept state history bytes fits keeps table i)
      (weight-kept kept state history bytes fits keeps table i) + 80

  pub commit-told : (given : Command) (copies : ℕ) → structural_copies state given ≡ copies
      → no_commit state given ≡ commit_refusal kept copies
  commit-told given copies same =
      (λ i. first_some (refuse (nat_lt last_generation (generation-told kept state history fits.fitted keeps i))
      why.NoGeneration ∷ no_nodes state (structural_need state (same i)) ∷ []))
      ∙ (λ i. first_some (refuse (nat_lt last_generation kept.superblock.generation) why.NoGeneration
      ∷ refuse (nat_lt (free-told kept state history bytes fits keeps table i) (need_told copies i))
      (why.NoNodes (free-told kept state history bytes fits keeps table i) (need_told copies i)) ∷ []))

  -- a subvolume that is made, one that is a snapshot, and one that goes
  pub create-late : too_many_refusal kept 0 ≡ None → refusal state SubCreate ≡ commit_refusal kept 18
  unfolding refusal
  create-late none =
      ap (λ (first : Option Refusal). first_some (first ∷ no_commit state SubCreate ∷ []))
      (too-many-told kept state history fits.fitted keeps 0 ∙ none)
      ∙ first_one (no_commit state SubCreate) ∙ commit-told SubCreate 18 refl

  pub snap-late : (sub : ℕ) (parents : List ℕ) → has_key sub kept.snapshots ≡ true
      → snap_refusal (quota_of kept.quota) parents ≡ None → too_many_refusal kept (length parents) ≡ None
      → refusal state (Snap sub parents) ≡ commit_refusal kept (18 + length parents)
  snap-late sub parents there free none =
      snap-behind kept state history fits.fitted keeps sub parents there free
      ∙ ap (λ (first : Option Refusal). first_some (first ∷ no_commit state (Snap sub parents) ∷ [])) none
      ∙ first_one (no_commit state (Snap sub parents)) ∙ commit-told (Snap sub parents) (18 + length parents) refl

  -- and a command of quota
  pub group-late : (given : Command) → is_group_command given ≡ true
      → change_refusal (quota_of kept.quota) (keys_of kept.snapshots) given ≡ None
      → refusal state given ≡ commit_refusal kept (group_copies kept given)
  group-late given group none =
      group-behind kept state history fits.fitted keeps given group none
      ∙ commit-told given (group_copies kept given) (copies-told kept state history fits.fitted keeps given group)

  pub delete-late : (sub copies : ℕ) → (sub ≡ TOP_LEVEL → ⊥) → has_key sub kept.snapshots ≡ true
      → structural_copies state (Delete sub) ≡ copies → refusal state (Delete sub) ≡ commit_refusal kept copies
  unfolding refusal
  delete-late sub copies other there same =
      (λ i. first_some (refuse (ne_eqb sub TOP_LEVEL other i) why.TopLevel
      ∷ sub-there kept state history keeps sub there i ∷ no_commit state (Delete sub) ∷ []))
      ∙ first_one (no_commit state (Delete sub)) ∙ commit-told (Delete sub) copies same

-- ---- over any disk

-- whether one more would pass a limit
pub too-many-by : (kept : OpenImage) (relations number : ℕ) (found is : Bool) → number ≡ number_next kept
    → found ≡ (nat_le most_subvolumes (length kept.snapshots)
    || (is_some (quota_of kept.quota) && nat_le most_groups (length (groups_in (quota_of kept.quota))))
    || nat_lt most_relations (length (pairs_in (quota_of kept.quota)) + relations) || nat_le (2 ^ 48) number)
    → found ≡ is → too_many_refusal kept relations ≡ refuse is why.TooMany
too-many-by kept relations number found is same made told =
    ap (λ (n : ℕ). refuse (nat_le most_subvolumes (length kept.snapshots)
    || (is_some (quota_of kept.quota) && nat_le most_groups (length (groups_in (quota_of kept.quota))))
    || nat_lt most_relations (length (pairs_in (quota_of kept.quota)) + relations) || nat_le (2 ^ 48) n) why.TooMany)
    (sym same)
    ∙ ap (λ (b : Bool). refuse b why.TooMany) (sym made ∙ told)

on-recounted : (old new : Option Quota) → SameButCounts old new → is_some new ≡ is_some old
on-recounted None None same = refl
on-recounted None (Some new) same = absurd same
on-recounted (Some old) None same = absurd same
on-recounted (Some old) (Some new) same = refl

parents-same : (one other : Option Quota) (earlier parents : List ℕ) → groups_in one ≡ groups_in other
    → parents_refusal one earlier parents ≡ parents_refusal other earlier parents
parents-same one other earlier [] same = refl
parents-same one other earlier (group ∷ parents) same =
    λ i. first_some (refuse (not (not (level_of_group group == 0))) why.Level
    ∷ refuse (not (has_number group (same i))) why.NoGroup
    ∷ refuse (list_any (λ before. before == group) earlier) why.Related
    ∷ parents-same one other (group ∷ earlier) parents same i ∷ [])

module _ (old new : OpenImage) (settled : IsSettledFrom old new) where
  groups_same : groups_in (quota_of new.quota) ≡ groups_in (quota_of old.quota)
  groups_same = groups-recounted (quota_of old.quota) (quota_of new.quota) settled.groups

  pairs_same : pairs_in (quota_of new.quota) ≡ pairs_in (quota_of old.quota)
  pairs_same = pairs-recounted (quota_of old.quota) (quota_of new.quota) settled.groups

  on_same : is_some (quota_of new.quota) ≡ is_some (quota_of old.quota)
  on_same = on-recounted (quota_of old.quota) (quota_of new.quota) settled.groups

  -- the number that comes next, and whether that is one too many, are the same where subvolumes, groups and relations
  -- are
  pub number-same : number_next new ≡ number_next old
  number-same = λ i. next_subvolume (keys_of (settled.snapshots i)) (groups_same i)

  pub too-many-same : (relations : ℕ) → too_many_refusal new relations ≡ too_many_refusal old relations
  too-many-same relations =
      λ i. refuse (nat_le most_subvolumes (length (settled.snapshots i))
      || (on_same i && nat_le most_groups (length (groups_same i)))
      || nat_lt most_relations (length (pairs_same i) + relations) || nat_le (2 ^ 48) (number-same i)) why.TooMany

  -- so is why a snapshot's list is refused, and a command of quota
  pub snap-same : (parents : List ℕ)
      → snap_refusal (quota_of new.quota) parents ≡ snap_refusal (quota_of old.quota) parents
  snap-same parents =
      λ i. first_some (refuse (not (on_same i) && nat_lt 0 (length parents)) why.NoQuota
      ∷ parents-same (quota_of new.quota) (quota_of old.quota) [] parents groups_same i ∷ [])

  pub group-same : (given : Command) → change_refusal (quota_of new.quota) (keys_of new.snapshots) given
      ≡ change_refusal (quota_of old.quota) (keys_of old.snapshots) given
  group-same given =
      refusal-recounted (quota_of old.quota) (quota_of new.quota) (keys_of new.snapshots) given settled.groups
      ∙ ap (λ (table : List (ℕ × KeptSubvolume)). change_refusal (quota_of old.quota) (keys_of table) given)
      settled.snapshots

  -- and the nodes that it may copy
  pub copies-same : (given : Command) → group_copies new given ≡ group_copies old given
  copies-same command.QuotaOn = ap (λ (table : List (ℕ × KeptSubvolume)). 18 + length table) settled.snapshots
  copies-same _ = refl
