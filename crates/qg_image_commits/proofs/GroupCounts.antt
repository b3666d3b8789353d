-- Each group's count, by the direct counts of the groups in the order of their numbers.
use Rattle.std.proofs.Common.{◌≡◌, ℕ, zero, suc, ◌+◌, ◌<◌, List, [], ◌∷◌, map, length, get_or, Option, Some, sym, ap}
use Rattle.std.proofs.Common.{subst, ◌∙◌, arith}
use Rattle.std.specs.Prelude.{◌==◌, All, slice_get}
use Rattle.std.specs.List.{Contains}
use Rattle.std.specs.List.Sorted.{IsPermutation, IsStrictlyIncreasing}
use Rattle.std.specs.Option.{option_map}
use Rattle.std.proofs.lemmas.Bool.{cond-false, cond-true, eq-eqb, ne_eqb}
use Rattle.std.proofs.lemmas.List.Elements.{All-contains}
use Rattle.std.proofs.lemmas.List.Kept.{AllPairs-from_increasing}
use Rattle.std.proofs.lemmas.Option.{get_or_from_slice_get, none-some, same_Some, slice_get-get_or, slice_get-map}
use Rattle.std.proofs.lemmas.Option.{slice_get_within}
use Rattle.qg_num.specs.declared.counters.Counters.{Counters}
use Rattle.qg_image.specs.Table.{keys_of}
use Rattle.qg_image.specs.declared.quota.Group.{Group}
use Rattle.qg_image.specs.declared.quota.Quota.{Quota}
use Rattle.qg_image.specs.Counts.{direct_count}
use Rattle.qg_image.specs.Members.{hierarchy_of, level_of_group}
use Rattle.qg_image.specs.State.{Layout, State, layout_of}
use Rattle.qg_owner_rule.proofs.Listed.{at_read, index_of}
use Rattle.qg_reach.proofs.Members.{one_mapped}
use Rattle.qg_qgroup_counts.specs.Direct.{AreGroupCounts}
use Rattle.qg_tree_read.specs.Tree.{Root}
use Rattle.qg_open_image.specs.Standing.{trees_of}
use Rattle.qg_open_image.proofs.Ordered.{contained}
use Rattle.qg_qgroups.specs.Changing.{groups_in}
use Rattle.qg_qgroups.proofs.Reserved.{level-lowest}
use Rattle.qg_open_image.specs.Editable.{AreGroups, AreGroupsOf}
use Rattle.qg_open_image.specs.FsLawsKeeping.{AreDueCounters}
use Rattle.qg_open_image.specs.declared.open_image.OpenImage.{OpenImage}
use Rattle.qg_open_image.specs.Keeping.{IsFitted}
use Rattle.qg_image_commits.specs.Planning.{counters_by, root_of_tree}
use Rattle.qg_open_image.proofs.Early.{All-from-contains}
use Rattle.qg_open_image.proofs.Looked.{tree-numbered}

-- ---- a place in a list

-- the first is less than the others
first_less : (n : ℕ) (ns : List ℕ) (i m : ℕ) → IsStrictlyIncreasing (n ∷ ns) → slice_get ns i ≡ Some m → n < m
first_less n ns i m up at =
    let inside = slice_get_within ns i m at in
    let rise = AllPairs-from_increasing (n ∷ ns) up 0 (suc i) 0 (omega arith) (omega (arith, inside)) in
    let is = get_or_from_slice_get ns i m 0 at in
    omega (arith, rise, is)

tail_up : (n : ℕ) (ns : List ℕ) → IsStrictlyIncreasing (n ∷ ns) → IsStrictlyIncreasing ns
tail_up n ns up = λ k short.
    let next : suc k + 1 ≡ suc (k + 1) = omega arith in
    subst (λ (j : ℕ). get_or ns k 0 < get_or (n ∷ ns) j 0) next (up (suc k) (omega (arith, short)))

-- the count at the place of a number
pub by-place : (numbers : List ℕ) (counts : List Counters) (i n : ℕ) (count : Counters)
    → IsStrictlyIncreasing numbers → slice_get numbers i ≡ Some n → slice_get counts i ≡ Some count
    → counters_by numbers counts n ≡ count
by-place [] counts i n count up at there = absurd (none-some n at)
by-place (m ∷ numbers) [] i n count up at there = absurd (none-some count there)
by-place (m ∷ numbers) (first ∷ counts) zero n count up at there =
    let here = same_Some m n at in
    cond-true (m == n) first (counters_by numbers counts n) (eq-eqb m n here) ∙ same_Some first count there
by-place (m ∷ numbers) (first ∷ counts) (suc i) n count up at there =
    let less = first_less m numbers i n up at in
    cond-false (m == n) first (counters_by numbers counts n) (ne_eqb m n (λ same. omega (arith, less, same)))
    ∙ by-place numbers counts i n count (tail_up m numbers up) at there

-- ---- groups

-- the number of the group at an index
number_at : (groups : List (ℕ × Group)) (i : ℕ) (entry : ℕ × Group) → slice_get groups i ≡ Some entry
    → slice_get (keys_of groups) i ≡ Some entry.0
number_at groups i entry at =
    slice_get-map (λ (e : ℕ × Group). e.0) groups i ∙ ap (option_map (λ (e : ℕ × Group). e.0)) at

-- the count at a group's index is the one of its number
pub count-at : (groups : List (ℕ × Group)) (counts : List Counters) (i : ℕ) (entry : ℕ × Group) (other : Counters)
    → IsStrictlyIncreasing (keys_of groups) → length counts ≡ length groups → i < length groups
    → entry ≡ get_or groups i entry → get_or counts i other ≡ counters_by (keys_of groups) counts entry.0
count-at groups counts i entry other up same short here =
    let inside : i < length counts = omega (arith, same, short) in
    let number = number_at groups i entry (at_read groups i entry short here) in
    sym (by-place (keys_of groups) counts i entry.0 (get_or counts i other) up number
    (slice_get-get_or counts i other inside))

-- each group's count is its direct count
pub counts-direct : (layout : Layout) (quota : Quota) (counts : List Counters)
    → IsStrictlyIncreasing (keys_of quota.groups) → AreGroupCounts layout (hierarchy_of quota) counts
    → (entry : ℕ × Group) → Contains quota.groups entry
    → counters_by (keys_of quota.groups) counts entry.0 ≡ direct_count layout (hierarchy_of quota) entry.0
counts-direct layout quota counts up direct entry has =
    let at = index_of quota.groups entry has in
    let number = number_at quota.groups at.0 entry at.1 in
    by-place (keys_of quota.groups) counts at.0 entry.0 (direct_count layout (hierarchy_of quota) entry.0) up number
    (direct at.0 entry.0 number)

-- so they are of a state whose quota this is
pub direct-told : (state : State) (generation : ℕ) (subvolumes : List ℕ) (told : Option Quota) (counts : List Counters)
    → state.quota ≡ told → AreGroupsOf generation subvolumes told
    → ((quota : Quota) → told ≡ Some quota → AreGroupCounts (layout_of state) (hierarchy_of quota) counts)
    → AreDueCounters state (counters_by (groups_in told) counts)
direct-told state generation subvolumes told counts same groups direct quota on entry has =
    let is : told ≡ Some quota = sym same ∙ on in
    let own : AreGroups generation subvolumes quota =
    subst (λ (o : Option Quota). AreGroupsOf generation subvolumes o) is groups in
    ap (λ (o : Option Quota). counters_by (groups_in o) counts entry.0) is
    ∙ counts-direct (layout_of state) quota counts own.ascending (direct quota is) entry has

-- ---- subvolumes

-- the numbers of trees are those of groups of level 0
pub trees-low : (kept : OpenImage) → IsFitted kept → (trees : List Root) → IsPermutation (trees_of kept.fs) trees
    → All (λ tree. level_of_group tree.owner ≡ 0) trees
trees-low kept fits trees moved =
    All-from-contains (λ (tree : Root). level_of_group tree.owner ≡ 0) trees
    (λ tree has.
    level-lowest tree.owner (tree-numbered kept fits tree (contained (trees_of kept.fs) trees tree moved has)))

-- and so are those of their roots
pub roots-low : (trees : List Root) (roots : List (ℕ × ℕ)) → roots ≡ map root_of_tree trees
    → All (λ tree. level_of_group tree.owner ≡ 0) trees → All (λ root. level_of_group root.0 ≡ 0) roots
roots-low trees roots is low =
    let each = All-from-contains (λ (root : ℕ × ℕ). level_of_group root.0 ≡ 0) (map root_of_tree trees)
    (λ root has.
    let tree = one_mapped root_of_tree trees root has in
    subst (λ (r : ℕ × ℕ). level_of_group r.0 ≡ 0) tree.2
    (All-contains (λ (t : Root). level_of_group t.owner ≡ 0) trees tree.0 low tree.1)) in
    subst (λ (list : List (ℕ × ℕ)). All (λ root. level_of_group root.0 ≡ 0) list) (sym is) each
