-- The groups of a committed state: each stores the counters that are due.
use Rattle.std.proofs.Common.{◌≡◌, ℕ, List, [], ◌∷◌, map, get_or, Option, Some, None, refl, sym, ap, subst, ◌∙◌}
use Rattle.std.specs.Prelude.{◌==◌, All}
use Rattle.std.specs.List.{Contains}
use Rattle.std.proofs.lemmas.Bool.{cond-true, eq-eqb}
use Rattle.std.proofs.lemmas.List.Elements.{Contains-get_or}
use Rattle.std.proofs.lemmas.Option.{same_Some}
use Rattle.qg_num.specs.declared.counters.Counters.{Counters}
use Rattle.qg_num.specs.declared.counters.Which.{Which}
use Rattle.qg_num.specs.declared.counters.Which.TheVariants.{Rfer, Excl}
use Rattle.qg_image.specs.Table.{keys_of}
use Rattle.qg_image.specs.declared.quota.Group.{Group}
use Rattle.qg_image.specs.declared.quota.Quota.{Quota}
use Rattle.qg_image.specs.Counts.{direct_count, due_counters}
use Rattle.qg_image.specs.Members.{Hierarchy, hierarchy_of}
use Rattle.qg_image.specs.State.{Layout, State, layout_of}
use Rattle.qg_image.proofs.Contained.{contains_here, contains_later}
use Rattle.qg_image.specs.declared.failure.Failure.{Failure}
use Rattle.qg_image.specs.declared.failure.Failure.TheVariants.{Differs}
use Rattle.qg_image.specs.Failure.{first_failure}
use Rattle.qg_image.specs.Verdict.{counted, counts_failure, group_failure}
use Rattle.qg_file_edits.proofs.Lists.{from-mapped}
use Rattle.qg_fs_laws.specs.Keeping.{AreDueCounters, group_after, quota_after, quota_laid}

-- ---- of any groups

none_first : (a : Option Failure) (rest : List (Option Failure)) → a ≡ None → first_failure rest ≡ None
    → first_failure (a ∷ rest) ≡ None
none_first a rest none later = ap (λ (o : Option Failure). first_failure (o ∷ rest)) none ∙ later

same_counted : (group : ℕ) (which : Which) (stored due : ℕ) → stored ≡ due
    → counted group which stored due ≡ None
same_counted group which stored due is =
    cond-true (stored == due) None (Some (Differs group which stored due)) (eq-eqb stored due is)

group_keeps : (layout : Layout) (quota : Quota) (entry : ℕ × Group)
    → entry.1.counters ≡ due_counters layout quota entry.0 → group_failure layout quota entry ≡ None
group_keeps layout quota entry is =
    let rfer = ap (λ (c : Counters). c.rfer) is in
    let excl = ap (λ (c : Counters). c.excl) is in
    let due = due_counters layout quota entry.0 in
    let first = counted entry.0 Rfer entry.1.counters.rfer due.rfer in
    let second = counted entry.0 Excl entry.1.counters.excl due.excl in
    none_first first (second ∷ []) (same_counted entry.0 Rfer entry.1.counters.rfer due.rfer rfer)
    (none_first second [] (same_counted entry.0 Excl entry.1.counters.excl due.excl excl) refl)

groups_keep : (layout : Layout) (quota : Quota) (groups : List (ℕ × Group))
    → ((entry : ℕ × Group) → Contains groups entry → entry.1.counters ≡ due_counters layout quota entry.0)
    → first_failure (map (group_failure layout quota) groups) ≡ None
groups_keep layout quota [] each = refl
groups_keep layout quota (entry ∷ groups) each =
    none_first (group_failure layout quota entry) (map (group_failure layout quota) groups)
    (group_keeps layout quota entry (each entry (contains_here entry groups)))
    (groups_keep layout quota groups (λ other has. each other (contains_later entry groups other has)))

-- ---- of those of a commit

keys_after : (generation : ℕ) (counters : ℕ → Counters) (groups : List (ℕ × Group))
    → keys_of (map (group_after generation counters) groups) ≡ keys_of groups
keys_after generation counters [] = refl
keys_after generation counters (entry ∷ groups) =
    ap (λ (keys : List ℕ). entry.0 ∷ keys) (keys_after generation counters groups)

module _ (state : State) (generation : ℕ) (counters : ℕ → Counters) (due : AreDueCounters state counters)
    (quota : Quota) (on : state.quota ≡ Some quota) where
  abbrev after : Quota
  after = quota_after generation counters quota

  -- members are as they were
  hierarchy_after : hierarchy_of after ≡ hierarchy_of quota
  hierarchy_after =
      λ i. record { groups = keys_after generation counters quota.groups i; pairs = quota.pairs }

  each_due : (entry : ℕ × Group) → Contains after.groups entry
      → entry.1.counters ≡ due_counters (layout_of state) after entry.0
  each_due entry has =
      let was = from-mapped (group_after generation counters) quota.groups entry has in
      let count : (group_after generation counters was.0).1.counters
      ≡ due_counters (layout_of state) quota (group_after generation counters was.0).0 =
      due quota on was.0 was.1 in
      subst (λ (e : ℕ × Group). e.1.counters ≡ due_counters (layout_of state) after e.0) was.2
      (count ∙ ap (λ (h : Hierarchy). direct_count (layout_of state) h was.0.0) (sym hierarchy_after))

  kept_on : counts_failure (layout_of state) (Some after) ≡ None
  unfolding counts_failure
  kept_on = groups_keep (layout_of state) after after.groups each_due

  stores_on : (stored : Quota) → Some after ≡ Some stored
      → All (λ entry. entry.1.counters ≡ due_counters (layout_of state) stored entry.0) stored.groups
  stores_on stored there =
      subst (λ (q : Quota).
      All (λ (entry : ℕ × Group). entry.1.counters ≡ due_counters (layout_of state) q entry.0) q.groups)
      (same_Some after stored there)
      (λ k d below. each_due (get_or after.groups k d) (Contains-get_or after.groups k d below))

-- ---- while quota may be off

kept_off : (layout : Layout) → counts_failure layout None ≡ None
unfolding counts_failure
kept_off layout = refl

module _ (state : State) (generation : ℕ) (counters : ℕ → Counters) (due : AreDueCounters state counters) where
  kept_by : (quota : Option Quota) → state.quota ≡ quota
      → counts_failure (layout_of state) (quota_laid generation counters quota) ≡ None
  kept_by None is = kept_off (layout_of state)
  kept_by (Some quota) is = kept_on state generation counters due quota is

  pub counts-kept : counts_failure (layout_of state) (quota_laid generation counters state.quota) ≡ None
  counts-kept = kept_by state.quota refl

  stores_by : (quota : Option Quota) → state.quota ≡ quota
      → (stored : Quota) → quota_laid generation counters quota ≡ Some stored
      → All (λ entry. entry.1.counters ≡ due_counters (layout_of state) stored entry.0) stored.groups
  stores_by None is stored there = absurd cc
  stores_by (Some quota) is stored there = stores_on state generation counters due quota is stored there

  pub stores : (stored : Quota) → quota_laid generation counters state.quota ≡ Some stored
      → All (λ entry. entry.1.counters ≡ due_counters (layout_of state) stored entry.0) stored.groups
  stores stored there = stores_by state.quota refl stored there
