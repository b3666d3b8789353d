-- When an image is sound: all rules in one order, and the first that fails is the verdict (this project's own).
use Rattle.std.specs.Prelude.{◌≡◌, ℕ, ◌+◌, ◌*◌, Bool, true, false, ◌&&◌, ◌||◌, not, List, [], ◌∷◌, length, map, Option}
use Rattle.std.specs.Prelude.{Some, None, is_some, ◌==◌, nat_le, nat_lt, if◌then◌else◌}
use Rattle.std.specs.List.{list_any, list_all, filter_map, fold, count_by}
use Rattle.std.specs.Option.{option_map}
use Rattle.qg_num.specs.declared.counters.Which.{Which}
use Rattle.qg_num.specs.declared.counters.Which.TheVariants.{Rfer, Excl}
use Rattle.qg_num.specs.declared.rule.Rule.TheVariants as rule
use Rattle.qg_items.specs.declared.root.RootItem.{RootItem}
use Rattle.qg_items.specs.declared.quota.QgroupInfo.{QgroupInfo}
use Rattle.qg_items.specs.declared.quota.QgroupLimit.{QgroupLimit}
use Rattle.qg_items.specs.declared.tree.TheConstants.{EXTENT_TREE, TOP_LEVEL, QUOTA_TREE}
use Rattle.qg_super.specs.declared.sizes.Sizes.{Sizes}
use Rattle.qg_super.specs.declared.superblock.Super.{Super}
use Rattle.qg_super.specs.Places.{first_place, second_place, total_bytes, is_run}
use Rattle.qg_super.specs.SuperText.{sizes_of, same_super}
use Rattle.qg_image.specs.Table.{has_key, value_at, keys_of}
use Rattle.qg_image.specs.declared.part.QuotaPart.{QuotaPart}
use Rattle.qg_image.specs.declared.part.QuotaPart.TheVariants.{Status, Info, Limits, Relation}
use Rattle.qg_image.specs.ItemMeaning.{is_subvolume_number}
use Rattle.qg_image.specs.FilesOf.{file_parts, are_files}
use Rattle.qg_image.specs.declared.quota.Quota.{Quota}
use Rattle.qg_image.specs.declared.quota.Group.{Group}
use Rattle.qg_image.specs.declared.element.Element.{Element}
use Rattle.qg_image.specs.State.{Layout, layout_of}
use Rattle.qg_image.specs.Members.{level_of_group, id_of_group}
use Rattle.qg_image.specs.Counts.{due_counters}
use Rattle.qg_image.specs.Space.{present_extents}
use Rattle.qg_image.specs.Owed.{disagreement, homeless}
use Rattle.qg_image.specs.declared.failure.Failure.{Failure}
use Rattle.qg_image.specs.declared.failure.Failure.TheVariants.{Broken, Differs}
use Rattle.qg_image.specs.Failure.{unless, first_failure}
use Rattle.qg_image.specs.declared.tree.TreeKind.{TreeKind}
use Rattle.qg_image.specs.declared.tree.TreeKind.TheVariants.{Roots, Extents, Quotas, Files}
use Rattle.qg_image.specs.Walk.{root_expected, root_told, tree_failure}
use Rattle.qg_image.specs.ImageState.{super_in, super_of, items_of_root, roots_in, subvolume_roots, extent_parts}
use Rattle.qg_image.specs.ImageState.{quota_parts, info_told, limit_told, max_rfer_told, max_excl_told, state_in}

-- ---- limits of the store

-- the most subvolumes that are there at once
abbrev pub most_subvolumes : ℕ
most_subvolumes = 4096

-- the most groups
abbrev pub most_groups : ℕ
most_groups = 4096

-- the most relations of groups
abbrev pub most_relations : ℕ
most_relations = 16384

-- the longest data extent, in bytes
abbrev pub longest_extent : ℕ
longest_extent = 134217728

-- ---- superblocks

-- two superblocks of one generation say the same
abbrev pub are_mirrored : Option Super → Option Super → Bool
are_mirrored None second = true
are_mirrored (Some first) None = true
are_mirrored (Some first) (Some second) = not (first.generation == second.generation) || same_super first second

-- its length, and its two superblocks
abbrev pub places_failure : Super → Option Super → Option Super → ℕ → Option Failure
places_failure super first second len = first_failure
    (unless (nat_le (total_bytes (sizes_of super)) len) rule.Length len ∷ unless (are_mirrored first second) rule.Mirror
    second_place ∷ [])

-- ---- the root tree

-- the extent tree and the top-level subvolume are there
unfoldable pub are_roots : List (ℕ × RootItem) → Bool
are_roots roots = has_key EXTENT_TREE roots && has_key TOP_LEVEL roots

-- the walk of the root tree, and what it names
abbrev pub roots_failure : Super → List ℕ → Option Failure
roots_failure super image = first_failure
    (tree_failure Roots super image (root_expected None None) super.root
    ∷ unless (are_roots (roots_in super image)) rule.Root super.root
    ∷ unless (nat_le (length (subvolume_roots (roots_in super image))) most_subvolumes) rule.Limits super.root
    ∷ [])

-- the first failure of a tree with this ROOT_ITEM; of no tree there is none
abbrev pub root_failure : TreeKind → Super → List ℕ → Option RootItem → Option Failure
root_failure tree super image None = None
root_failure tree super image (Some root) = tree_failure tree super image (root_told root) root.bytenr

-- ---- the quota tree

-- an item of the quota tree tells the state of quota
abbrev pub is_status_part : QuotaPart → Bool
is_status_part (Status status) = true
is_status_part (Info group info) = false
is_status_part (Limits group limit) = false
is_status_part (Relation group other) = false

-- a limit that is not set is 0
abbrev pub is_limit : QgroupLimit → Bool
is_limit limit = (is_some (max_rfer_told limit) || (limit.max_rfer == 0))
    && (is_some (max_excl_told limit) || (limit.max_excl == 0))

-- the compressed counters are the plain ones
abbrev pub is_plain : QgroupInfo → Bool
is_plain info = (info.rfer_cmpr == info.rfer) && (info.excl_cmpr == info.excl)

-- an item under the key (a, b) is twinned by one under (b, a)
abbrev pub has_twin : List QuotaPart → ℕ → ℕ → Bool
has_twin parts group other = list_any is_twin parts where
  is_twin : QuotaPart → Bool
  is_twin (Status status) = false
  is_twin (Info group' info) = false
  is_twin (Limits group' limit) = false
  is_twin (Relation group' other') = (group' == other) && (other' == group)

-- a group of level 0 is that of a number that a subvolume may have
abbrev pub is_group_number : ℕ → Bool
is_group_number group = not (level_of_group group == 0) || is_subvolume_number (id_of_group group)

-- one item fits the others
abbrev pub fits_quota : List QuotaPart → QuotaPart → Bool
fits_quota parts (Status status) = true
fits_quota parts (Info group info) = has_key group (filter_map limit_told parts) && is_group_number group
    && is_plain info
fits_quota parts (Limits group limit) = has_key group (filter_map info_told parts) && is_limit limit
fits_quota parts (Relation group other) =
    has_twin parts group other && has_key group (filter_map info_told parts)
    && not (level_of_group group == level_of_group other)

-- the quota items fit each other and the subvolumes
unfoldable pub is_quota : List ℕ → List QuotaPart → Bool
is_quota subvolumes parts =
    list_any is_status_part parts && list_all (fits_quota parts) parts
    && list_all (λ sub. has_key sub (filter_map info_told parts)) subvolumes

-- an item of the quota tree tells a relation
abbrev pub is_relation_part : QuotaPart → Bool
is_relation_part (Status status) = false
is_relation_part (Info group info) = false
is_relation_part (Limits group limit) = false
is_relation_part (Relation group other) = true

-- no more groups and relations than are served; each relation stands twice
unfoldable pub are_few : List QuotaPart → Bool
are_few parts = nat_le (length (filter_map info_told parts)) most_groups && nat_le (count_by is_relation_part parts)
    (2 * most_relations)

-- the walk of the quota tree, and then its rules
abbrev pub quota_failure : Super → List ℕ → List (ℕ × RootItem) → Option RootItem → Option Failure
quota_failure super image roots None = None
quota_failure super image roots (Some root) = first_failure
    (tree_failure Quotas super image (root_told root) root.bytenr
    ∷ unless (is_quota (keys_of (subvolume_roots roots)) (quota_parts super image)) rule.Quota root.bytenr
    ∷ unless (are_few (quota_parts super image)) rule.Limits root.bytenr
    ∷ [])

-- ---- subvolumes

-- the walk of one subvolume, and then the rule on its files
abbrev pub subvolume_failure : Super → List ℕ → RootItem → Option Failure
subvolume_failure super image root = first_failure
    (tree_failure Files super image (root_told root) root.bytenr
    ∷ unless (are_files (file_parts (items_of_root Files super image root))) rule.File root.bytenr
    ∷ [])

-- ---- space

-- extents ascend by address, and where that is one by length
abbrev pub is_before : Element → Element → Bool
is_before a b = nat_lt a.address b.address || ((a.address == b.address) && nat_lt a.bytes b.bytes)

-- two extents are the same
abbrev pub same_extent : Element → Element → Bool
same_extent a b = (a.address == b.address) && (a.bytes == b.bytes)

-- ascending extents, each once, with this one
abbrev pub with_extent : Element → List Element → List Element
with_extent extent [] = extent ∷ []
with_extent extent (other ∷ others) =
    if is_before extent other then extent ∷ other ∷ others
    else (if same_extent extent other then other ∷ others else other ∷ with_extent extent others)

-- the extents, ascending, each once
abbrev pub extent_set : List Element → List Element
extent_set extents = fold (λ set extent. with_extent extent set) [] extents

-- whole sectors in the data area, no more than the longest
abbrev pub is_extent : Sizes → Element → Bool
is_extent sizes extent = is_run sizes extent.address extent.bytes && nat_le extent.bytes longest_extent

-- an extent lies where it may and ends by the next one; so no extent stands with two lengths
unfoldable pub space_failure : Sizes → List Element → Option Failure
space_failure sizes [] = None
space_failure sizes (extent ∷ []) = unless (is_extent sizes extent) rule.Space extent.address
space_failure sizes (extent ∷ next ∷ later) = first_failure
    (unless (is_extent sizes extent && nat_le (extent.address + extent.bytes) next.address) rule.Space extent.address
    ∷ space_failure sizes (next ∷ later)
    ∷ [])

-- ---- references

-- the extent tree records what is owed, and each node that is not full is reached by its owner
unfoldable pub references_failure : Super → List ℕ → Layout → Option Failure
references_failure super image layout = first_failure
    (option_map (Broken rule.Refs) (disagreement layout (extent_parts super image))
    ∷ option_map (Broken rule.Home) (homeless layout)
    ∷ [])

-- ---- counts

-- a stored counter is the one that is due
abbrev pub counted : ℕ → Which → ℕ → ℕ → Option Failure
counted group which stored due = if stored == due then None else Some (Differs group which stored due)

-- the first counter that is not: referenced before exclusive, groups ascending
abbrev pub group_failure : Layout → Quota → ℕ × Group → Option Failure
group_failure layout quota entry = first_failure
    (counted entry.0 Rfer entry.1.counters.rfer (due_counters layout quota entry.0).rfer
    ∷ counted entry.0 Excl entry.1.counters.excl (due_counters layout quota entry.0).excl
    ∷ [])

-- the first counter of an image that is not the one that is due; there is none while quota is off
unfoldable pub counts_failure : Layout → Option Quota → Option Failure
counts_failure layout None = None
counts_failure layout (Some quota) = first_failure (map (group_failure layout quota) quota.groups)

-- ---- the verdict

-- what the trees say together: where extents lie, what is recorded, and what groups count
abbrev pub together_failure : Super → List ℕ → Option Failure
together_failure super image =
    let state = state_in super image in
    first_failure
    (space_failure (sizes_of super) (extent_set (present_extents state))
    ∷ references_failure super image (layout_of state)
    ∷ counts_failure (layout_of state) state.quota
    ∷ [])

-- all rules on an image with this superblock, in their order
unfoldable pub image_failure : Super → List ℕ → Option Failure
image_failure super image =
    let roots = roots_in super image in
    first_failure
    (places_failure super (super_in image first_place) (super_in image second_place) (length image)
    ∷ roots_failure super image
    ∷ root_failure Extents super image (value_at EXTENT_TREE roots)
    ∷ quota_failure super image roots (value_at QUOTA_TREE roots)
    ∷ first_failure (map (λ entry. subvolume_failure super image entry.1) (subvolume_roots roots))
    ∷ together_failure super image
    ∷ [])

-- the first failure of an image; none where it is sound
unfoldable pub verdict : List ℕ → Option Failure
verdict image = judged (super_of image) where
  judged : Option Super → Option Failure
  judged None = Some (Broken rule.Super first_place)
  judged (Some super) = image_failure super image

-- the image is sound
abbrev pub IsSound : List ℕ → Type 0
IsSound image = verdict image ≡ None
