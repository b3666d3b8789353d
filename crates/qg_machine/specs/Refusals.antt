-- When each command is refused: the first of its refusals, in their order, that holds (this project's own).
use Rattle.std.specs.Prelude.{ℕ, ◌+◌, ◌^◌, Bool, ◌&&◌, ◌||◌, not, List, [], ◌∷◌, length, Option, Some, None, is_none}
use Rattle.std.specs.Prelude.{◌==◌, nat_le, nat_lt, if◌then◌else◌}
use Rattle.std.specs.Bool.{then_some}
use Rattle.std.specs.List.{filter, list_any}
use Rattle.std.specs.Option.{option_map}
use Rattle.qg_num.specs.declared.command.Command.{Command}
use Rattle.qg_num.specs.declared.command.Command.TheVariants as command
use Rattle.qg_num.specs.declared.refusal.Refusal.{Refusal}
use Rattle.qg_num.specs.declared.refusal.Refusal.TheVariants as why
use Rattle.qg_items.specs.declared.tree.TheConstants.{TOP_LEVEL}
use Rattle.qg_image.specs.Table.{has_key, with_value, keys_of}
use Rattle.qg_image.specs.ItemMeaning.{some_passes, first_some}
use Rattle.qg_image.specs.declared.file.File.{File}
use Rattle.qg_image.specs.FilesOf.{largest_size, is_aligned}
use Rattle.qg_image.specs.declared.quota.Quota.{Quota}
use Rattle.qg_image.specs.State.{State, Subvolume, layout_of, has_subvolume, file_at, node_at, is_quota_on, is_live}
use Rattle.qg_image.specs.State.{live_subvolume, live_subvolumes, subvolume_numbers}
use Rattle.qg_image.specs.Reach.{level_of, reach, distinct}
use Rattle.qg_image.specs.Members.{level_of_group, next_subvolume}
use Rattle.qg_image.specs.Limits.{over}
use Rattle.qg_image.specs.Space.{free_slots, first_run}
use Rattle.qg_image.specs.Need.{file_copies, file_need, structural_need}
use Rattle.qg_image.specs.Verdict.{most_subvolumes, most_groups, most_relations, longest_extent}
use Rattle.qg_machine.specs.FileChange.{FileChange, file_change}
use Rattle.qg_machine.specs.GroupChange.{has_pair}

-- the refusal, where the test passes
abbrev pub refuse : Bool → Refusal → Option Refusal
refuse test refusal = then_some test refusal

-- ---- subvolumes and files

-- there is no such live subvolume
abbrev pub no_sub : State → ℕ → Option Refusal
no_sub state sub = refuse (not (is_live state sub)) why.NoSub

-- the subvolume has no such file
abbrev pub no_file : State → ℕ → ℕ → Option Refusal
no_file state sub ino = refuse (is_none (file_at state sub ino)) why.NoFile

-- positions are of whole sectors, and so is a length, which is not 0
abbrev pub no_align : List ℕ → ℕ → Option Refusal
no_align positions len = refuse (list_any (λ position. not (is_aligned position)) (len ∷ positions) || (len == 0))
    why.Align

-- ends are by the largest size
abbrev pub no_far : List ℕ → Option Refusal
no_far ends = refuse (list_any (λ end. nat_lt largest_size end) ends) why.Far

-- the source's range ends by the source's size
abbrev pub no_source : State → ℕ → ℕ → ℕ → Option Refusal
no_source state sub ino end = refuse (some_passes (λ file. nat_lt file.size end) (file_at state sub ino)) why.Source

-- two ranges of one length share a byte
abbrev pub share_a_byte : ℕ → ℕ → ℕ → Bool
share_a_byte a b len = nat_lt a (b + len) && nat_lt b (a + len)

-- ---- limits

-- the most file commands that may be pending
abbrev pub most_pending : ℕ
most_pending = 65536

-- as many file commands are pending as may be
abbrev pub too_many_pending : State → Option Refusal
too_many_pending state = refuse (nat_le most_pending (length state.pending)) why.TooMany

-- the groups and relations there are
abbrev pub groups_of : State → List ℕ
groups_of state = groups_told state.quota where
  groups_told : Option Quota → List ℕ
  groups_told None = []
  groups_told (Some quota) = keys_of quota.groups

-- the relations of groups; none while quota is off
abbrev pub pairs_of : State → List (ℕ × ℕ)
pairs_of state = pairs_told state.quota where
  pairs_told : Option Quota → List (ℕ × ℕ)
  pairs_told None = []
  pairs_told (Some quota) = quota.pairs

-- the number that the next subvolume gets, which no other has, whether it lives or not
abbrev pub number_to_come : State → ℕ
number_to_come state = next_subvolume (subvolume_numbers state) (groups_of state)

-- one subvolume more, with its group and so many relations, would pass a limit
abbrev pub too_many_subvolumes : State → ℕ → Option Refusal
too_many_subvolumes state relations = refuse
    (nat_le most_subvolumes (length state.subvolumes)
    || (is_quota_on state && nat_le most_groups (length (groups_of state)))
    || nat_lt most_relations (length (pairs_of state) + relations) || nat_le (2 ^ 48) (number_to_come state))
    why.TooMany

-- ---- quota

-- quota is off
abbrev pub no_quota : State → Option Refusal
no_quota state = refuse (not (is_quota_on state)) why.NoQuota

-- the group isn't there
abbrev pub no_group : State → ℕ → Option Refusal
no_group state group = refuse (not (list_any (λ kept. kept == group) (groups_of state))) why.NoGroup

-- a group's level is not what the command asks for
abbrev pub no_level : Bool → Option Refusal
no_level test = refuse (not test) why.Level

-- so many bytes more into a subvolume would pass a limit on the way up
abbrev pub over_limit : State → ℕ → ℕ → Option Refusal
over_limit state sub n = passed state.quota where
  passed : Option Quota → Option Refusal
  passed None = None
  passed (Some quota) = option_map (λ found. why.Quota found.0 found.1) (over quota state.pending sub n)

-- the groups that a snapshot is to be put into, one after the other: none of level 0, each there, none twice
abbrev pub no_parents : State → List ℕ → List ℕ → Option Refusal
no_parents state earlier [] = None
no_parents state earlier (group ∷ groups) = first_some
    (no_level (not (level_of_group group == 0)) ∷ no_group state group
    ∷ refuse (list_any (λ before. before == group) earlier) why.Related
    ∷ no_parents state (group ∷ earlier) groups ∷ [])

-- ---- need of slots

-- a state with other files of a live subvolume
abbrev pub with_files : State → ℕ → List (ℕ × File) → State
with_files state sub files = changed (live_subvolume state sub) where
  changed : Option Subvolume → State
  changed None = state
  changed (Some subvolume) =
      record state { subvolumes = with_value sub (record subvolume { files = files }) state.subvolumes }

-- the level of a live subvolume's root node
abbrev pub root_level : State → ℕ → ℕ
root_level state sub = level_told (live_subvolume state sub) where
  level_told : Option Subvolume → ℕ
  level_told None = 0
  level_told (Some subvolume) = level_of (node_at state.layout subvolume.root)

-- the nodes that a file command may copy
abbrev pub change_copies : State → FileChange → ℕ
change_copies state change = file_copies (root_level state change.sub) change.pieces

-- the slots that a file command needs
abbrev pub change_need : State → FileChange → ℕ
change_need state change = file_need state (change_copies state change)

-- fewer slots are free than are needed
abbrev pub no_nodes : State → ℕ → Option Refusal
no_nodes state need = refuse (nat_lt (free_slots state) need) (why.NoNodes (free_slots state) need)

-- the same of a file command, where it changes anything
abbrev pub no_nodes_for : State → Option FileChange → Option Refusal
no_nodes_for state None = None
no_nodes_for state (Some change) = no_nodes state (change_need state change)

-- how many nodes a subvolume reaches
abbrev pub nodes_reached : State → ℕ → ℕ
nodes_reached state sub =
    length (filter (λ element. has_key element.address state.layout) (distinct (reach (layout_of state) sub)))

-- the nodes that a structural command may copy
abbrev pub structural_copies : State → Command → ℕ
structural_copies state (command.Delete sub) = 18 + nodes_reached state sub
structural_copies state (command.Snap sub groups) = 18 + length groups
structural_copies state command.QuotaOn = 18 + length (live_subvolumes state)
structural_copies state _ = 18

-- ---- commits

-- the greatest committed generation that a command which commits may meet
abbrev pub last_generation : ℕ
last_generation = 2 ^ 63

-- the committed generation is past that one
abbrev pub no_generation : State → Option Refusal
no_generation state = refuse (nat_lt last_generation state.generation) why.NoGeneration

-- a file command is pending
abbrev pub is_pending : State → Bool
is_pending state = nat_lt 0 (length state.pending)

-- what each structural command is refused for at last
abbrev pub no_commit : State → Command → Option Refusal
no_commit state structural =
    first_some (no_generation state ∷ no_nodes state (structural_need state (structural_copies state structural)) ∷ [])

-- ---- each command

-- the first reason, in the order of its row, for which a command is refused; none where it is done
unfoldable pub refusal : State → Command → Option Refusal
refusal state (command.Write sub ino off len) = first_some
    (no_sub state sub ∷ no_align (off ∷ []) len ∷ no_far ((off + len) ∷ []) ∷ refuse (nat_lt longest_extent len) why.Far
    ∷ too_many_pending state
    ∷ over_limit state sub (len + state.sizes.nodesize) ∷ refuse (is_none (first_run state len)) why.NoRun
    ∷ no_nodes_for state (file_change state (command.Write sub ino off len)) ∷ [])
refusal state (command.Clone sub ino off len to_sub to_ino to_off) = first_some
    (no_sub state sub ∷ no_sub state to_sub ∷ no_file state sub ino ∷ no_align (off ∷ to_off ∷ []) len
    ∷ no_far ((off + len) ∷ (to_off + len) ∷ [])
    ∷ no_source state sub ino (off + len) ∷ refuse ((sub == to_sub) && (ino == to_ino) && share_a_byte off to_off len)
    why.Overlap ∷ too_many_pending state
    ∷ over_limit state to_sub state.sizes.nodesize
    ∷ no_nodes_for state (file_change state (command.Clone sub ino off len to_sub to_ino to_off)) ∷ [])
refusal state (command.Truncate sub ino size) = first_some
    (no_sub state sub ∷ no_file state sub ino ∷ refuse (not (is_aligned size)) why.Align ∷ no_far (size ∷ [])
    ∷ too_many_pending state
    ∷ no_nodes_for state (file_change state (command.Truncate sub ino size)) ∷ [])
refusal state (command.Unlink sub ino) = first_some
    (no_sub state sub ∷ no_file state sub ino ∷ too_many_pending state ∷ no_nodes_for state
    (file_change state (command.Unlink sub ino)) ∷ [])
refusal state command.Commit = if is_pending state then no_generation state else None
refusal state command.SubCreate = first_some (too_many_subvolumes state 0 ∷ no_commit state command.SubCreate ∷ [])
refusal state (command.Snap sub groups) = first_some
    (no_sub state sub ∷ refuse (not (is_quota_on state) && nat_lt 0 (length groups)) why.NoQuota
    ∷ no_parents state [] groups
    ∷ too_many_subvolumes state (length groups) ∷ no_commit state (command.Snap sub groups) ∷ [])
refusal state (command.Delete sub) = first_some
    (refuse (sub == TOP_LEVEL) why.TopLevel ∷ no_sub state sub ∷ no_commit state (command.Delete sub) ∷ [])
refusal state command.QuotaOn = first_some
    (refuse (is_quota_on state) why.QuotaOn ∷ refuse (nat_lt most_groups (length state.subvolumes)) why.TooMany
    ∷ no_commit state command.QuotaOn ∷ [])
refusal state command.QuotaOff = first_some (no_quota state ∷ no_commit state command.QuotaOff ∷ [])
refusal state (command.GroupCreate group) = first_some
    (no_quota state ∷ no_level (not (level_of_group group == 0))
    ∷ refuse (list_any (λ kept. kept == group) (groups_of state)) why.GroupThere
    ∷ refuse (nat_le most_groups (length (groups_of state))) why.TooMany ∷ no_commit state (command.GroupCreate group)
    ∷ [])
refusal state (command.GroupDestroy group) = first_some
    (no_quota state ∷ no_group state group ∷ refuse (list_any (λ pair. pair.1 == group) (pairs_of state)
    || has_subvolume state group) why.Busy
    ∷ no_commit state (command.GroupDestroy group) ∷ [])
refusal state (command.Assign member parent) = first_some
    (no_quota state ∷ no_level (nat_lt (level_of_group member) (level_of_group parent)) ∷ no_group state member
    ∷ no_group state parent
    ∷ refuse (has_pair member parent (pairs_of state)) why.Related
    ∷ refuse (nat_le most_relations (length (pairs_of state))) why.TooMany
    ∷ no_commit state (command.Assign member parent) ∷ [])
refusal state (command.Remove member parent) = first_some
    (no_quota state ∷ refuse (not (has_pair member parent (pairs_of state))) why.NotRelated ∷ no_commit state
    (command.Remove member parent) ∷ [])
refusal state (command.Limit group which max) = first_some
    (no_quota state ∷ no_group state group ∷ no_commit state (command.Limit group which max) ∷ [])
refusal state command.Show = no_quota state
refusal state (command.Ls sub ino) = first_some (no_sub state sub ∷ no_file state sub ino ∷ [])
refusal state (command.Owners address) = None
