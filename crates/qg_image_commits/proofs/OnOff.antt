-- Quota that may be off, by its two cases: what it weighs, its groups, and what is held for them. Weights are in bytes.
use Rattle.std.proofs.Common.{◌≡◌, ℕ, ◌+◌, ◌*◌, Bool, true, false, List, length, Option, Some, None, refl, sym, ap}
use Rattle.std.proofs.Common.{subst, ◌∙◌, arith}
use Rattle.std.specs.Prelude.{IfSome, is_some, not}
use Rattle.std.specs.List.Sorted.{IsStrictlyIncreasing}
use Rattle.std.proofs.lemmas.Bool.{true≢false}
use Rattle.std.proofs.lemmas.List.{length-map}
use Rattle.std.proofs.lemmas.Option.{none-some, same_Some}
use Rattle.qg_num.specs.declared.counters.Counters.{Counters}
use Rattle.qg_image.specs.Table.{keys_of}
use Rattle.qg_image.specs.declared.quota.Group.{Group}
use Rattle.qg_image.specs.declared.quota.Quota.{Quota}
use Rattle.qg_image.specs.Members.{Hierarchy, hierarchy_of}
use Rattle.qg_image.specs.State.{Layout}
use Rattle.qg_qgroup_counts.specs.Direct.{AreGroupCounts}
use Rattle.qg_qgroups.specs.declared.state.QuotaState.{QuotaState}
use Rattle.qg_qgroups.specs.Changing.{groups_in}
use Rattle.qg_qgroups.specs.Tracked.{IsRecounted, IsTracked, SameButCounts, quota_of}
use Rattle.qg_qgroups.proofs.Recounted.{keys-recounted, recounted-by}
use Rattle.qg_open_image.specs.Editable.{AreGroupsOf}
use Rattle.qg_open_image.specs.Trees.{quota_tree_bytes, quota_trees, root_tree_bytes}
use Rattle.qg_open_image.specs.FsLawsKeeping.{group_after, quota_after, quota_laid}
use Rattle.qg_image_commits.specs.Planning.{counters_by}

-- ---- counters alone are others

-- a commit changes counters and stamps alone
pub laid-recounted : (generation : ℕ) (counters : ℕ → Counters) (quota : Option Quota)
    → SameButCounts quota (quota_laid generation counters quota)
laid-recounted generation counters None = tt
laid-recounted generation counters (Some quota) =
    recounted-by (group_after generation counters) (λ entry. refl) (λ entry. refl) quota

-- there is a quota tree as before
pub trees-recounted : (old new : Option Quota) → SameButCounts old new → quota_trees new ≡ quota_trees old
trees-recounted None None same = refl
trees-recounted None (Some new) same = absurd same
trees-recounted (Some old) None same = absurd same
trees-recounted (Some old) (Some new) same = refl

groups_many : (old new : Quota) → IsRecounted old new → length new.groups ≡ length old.groups
groups_many old new same =
    sym (length-map new.groups (λ (entry : ℕ × Group). entry.0))
    ∙ ap (λ (keys : List ℕ). length keys) (keys-recounted old new same)
    ∙ length-map old.groups (λ (entry : ℕ × Group). entry.0)

pairs_many : (old new : Quota) → IsRecounted old new → length new.pairs ≡ length old.pairs
pairs_many old new same = ap (λ (pairs : List (ℕ × ℕ)). length pairs) same.pairs

-- and its items take as much
pub bytes-recounted : (old new : Option Quota) → SameButCounts old new → quota_tree_bytes new ≡ quota_tree_bytes old
bytes-recounted None None same = refl
bytes-recounted None (Some new) same = absurd same
bytes-recounted (Some old) None same = absurd same
bytes-recounted (Some old) (Some new) same =
    λ i. 57 + 130 * groups_many old new same i + 50 * pairs_many old new same i

-- so do those of the root tree of as many subvolumes
pub roots-recounted : (old new : Option Quota) (before after : ℕ) → after ≡ before → SameButCounts old new
    → root_tree_bytes after new ≡ root_tree_bytes before old
roots-recounted old new before after many same = λ i. 464 * (many i + 1 + trees-recounted old new same i)

-- ---- its groups

-- they ascend
pub groups-ascend : (generation : ℕ) (subvolumes : List ℕ) (quota : Option Quota)
    → AreGroupsOf generation subvolumes quota → IsStrictlyIncreasing (groups_in quota)
groups-ascend generation subvolumes None groups = λ k short. absurd (omega (arith, short))
groups-ascend generation subvolumes (Some quota) groups = groups.ascending

-- while it is off there are none
pub none-off : (quota : Option QuotaState) → is_some quota ≡ false → 0 ≡ length (groups_in (quota_of quota))
none-off None off = refl
none-off (Some state) off = absurd (true≢false off)

pub never-off : (quota : Option QuotaState) (on : Quota) → is_some quota ≡ false → quota_of quota ≡ Some on → ⊥
never-off None on off is = none-some on is
never-off (Some state) on off is = true≢false off

-- a test says that it is off
pub off-told : (quota : Option QuotaState) (test : Bool) → is_some quota ≡ not test → test ≡ true
    → is_some quota ≡ false
off-told quota test told is = told ∙ ap not is

-- where it is, its test says so
pub off-is : (quota : Option QuotaState) → quota ≡ None → is_some quota ≡ false
off-is quota is = ap (λ (q : Option QuotaState). is_some q) is

-- those that the hierarchy has are those of the quota
pub as-many : (quota : Option QuotaState) (state : QuotaState) (count : ℕ) → quota ≡ Some state
    → IfSome quota IsTracked → count ≡ length state.hierarchy.groups → count ≡ length (groups_in (quota_of quota))
as-many quota state count is tracked many =
    let own : IsTracked state = subst (λ (q : Option QuotaState). IfSome q IsTracked) is tracked in
    many ∙ ap (λ (hierarchy : Hierarchy). length hierarchy.groups) own.same
    ∙ ap (λ (q : Option QuotaState). length (groups_in (quota_of q))) (sym is)

-- and counts by the one are counts by the other
pub tracked-counts : (layout : Layout) (quota : Option QuotaState) (state : QuotaState) (on : Quota)
    (counts : List Counters) → quota ≡ Some state → IfSome quota IsTracked → quota_of quota ≡ Some on
    → AreGroupCounts layout state.hierarchy counts → AreGroupCounts layout (hierarchy_of on) counts
tracked-counts layout quota state on counts is tracked told direct =
    let own : IsTracked state = subst (λ (q : Option QuotaState). IfSome q IsTracked) is tracked in
    let same : state.quota ≡ on =
    same_Some state.quota on (ap quota_of (sym is) ∙ told) in
    subst (λ (hierarchy : Hierarchy). AreGroupCounts layout hierarchy counts)
    (own.same ∙ ap hierarchy_of same) direct

-- ---- its counters

-- where it is on its groups ascend, and so many are counted
pub ascend-on : (quota : Option QuotaState) (state : QuotaState) → quota ≡ Some state
    → IsStrictlyIncreasing (groups_in (quota_of quota)) → IsStrictlyIncreasing (keys_of state.quota.groups)
ascend-on quota state is up =
    subst (λ (q : Option QuotaState). IsStrictlyIncreasing (groups_in (quota_of q))) is up

pub many-on : (quota : Option QuotaState) (state : QuotaState) (count : ℕ) → quota ≡ Some state
    → count ≡ length (groups_in (quota_of quota)) → count ≡ length state.quota.groups
many-on quota state count is many =
    many ∙ ap (λ (q : Option QuotaState). length (groups_in (quota_of q))) is
    ∙ length-map state.quota.groups (λ (entry : ℕ × Group). entry.0)

-- what a commit lays of it, by counts in the order of its groups
abbrev pub laid_by : ℕ → List Counters → Option QuotaState → Option Quota
laid_by next counts quota = quota_laid next (counters_by (groups_in (quota_of quota)) counts) (quota_of quota)

pub laid-off : (next : ℕ) (counts : List Counters) (quota : Option QuotaState) → quota ≡ None
    → ◌≡◌ {A = Option Quota} None (laid_by next counts quota)
laid-off next counts quota is = ap (laid_by next counts) (sym is)

pub laid-on : (next : ℕ) (counts : List Counters) (quota : Option QuotaState) (state : QuotaState) (now : Quota)
    → quota ≡ Some state → now ≡ quota_after next (counters_by (keys_of state.quota.groups) counts) state.quota
    → Some now ≡ laid_by next counts quota
laid-on next counts quota state now is counted =
    ap (λ (q : Quota). Some q) counted ∙ ap (laid_by next counts) (sym is)

-- ---- a commit takes it over

-- it stays off
pub stays-off : (tracked : Option QuotaState) (counted : Option Quota) → tracked ≡ None
    → SameButCounts (quota_of tracked) counted → quota_of tracked ≡ counted
stays-off None None is same = refl
stays-off None (Some new) is same = absurd same
stays-off (Some state) counted is same = absurd (none-some state (sym is))

-- and there is nothing to be said of it
pub off-settled : (tracked : Option QuotaState) (P : QuotaState → Type 0) → tracked ≡ None → IfSome tracked P
off-settled tracked P is = subst (λ (q : Option QuotaState). IfSome q P) (sym is) tt
