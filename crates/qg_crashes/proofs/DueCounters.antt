-- A state that an image stands for stores the counters that are due.
use Rattle.std.proofs.Common.{◌≡◌, ◌∙◌, ℕ, suc, Bool, true, false, cond, List, [], ◌∷◌, map, refl, sym, ap, subst}
use Rattle.std.proofs.Common.{arith}
use Rattle.std.specs.Prelude.{Option, Some, None, ◌==◌}
use Rattle.std.specs.List.{All}
use Rattle.std.proofs.lemmas.Bool.{eqb-true}
use Rattle.std.proofs.lemmas.List.Elements.{All-cons}
use Rattle.qg_num.specs.declared.counters.Counters.{Counters}
use Rattle.qg_num.specs.declared.counters.Which.{Which}
use Rattle.qg_num.specs.declared.counters.Which.TheVariants.{Rfer, Excl}
use Rattle.qg_super.specs.SuperText.{sizes_of}
use Rattle.qg_image.specs.declared.quota.Group.{Group}
use Rattle.qg_image.specs.declared.quota.Quota.{Quota}
use Rattle.qg_image.specs.Counts.{due_counters}
use Rattle.qg_image.specs.Space.{present_extents}
use Rattle.qg_image.specs.State.{Layout, State, layout_of}
use Rattle.qg_image.specs.declared.failure.Failure.{Failure}
use Rattle.qg_image.specs.declared.failure.Failure.TheVariants.{Differs}
use Rattle.qg_image.specs.Failure.{first_failure}
use Rattle.qg_image.specs.ImageState.{state_in}
use Rattle.qg_image.specs.Verdict.{counted, counts_failure, extent_set, group_failure, references_failure}
use Rattle.qg_image.specs.Verdict.{space_failure}
use Rattle.qg_crashes.specs.StoredCounters.{StandsCounted}
use Rattle.qg_crashes.proofs.Below.{neither}
use Rattle.qg_crashes.proofs.SameStates.{first_of_more, keeps_rules, none_of_three, rules_by}

same_count : (group : ℕ) (which : Which) (stored direct : ℕ) (same : Bool) → (stored == direct) ≡ same
    → cond same None (Some (Differs group which stored direct)) ≡ None → stored ≡ direct
same_count group which stored direct true is none = eqb-true stored direct is
same_count group which stored direct false is none = absurd cc

no_difference : (group : ℕ) (which : Which) (stored direct : ℕ) → counted group which stored direct ≡ None
    → stored ≡ direct
no_difference group which stored direct none = same_count group which stored direct (stored == direct) refl none

both_counts : (counters : Counters) (rfer excl : ℕ) → counters.rfer ≡ rfer → counters.excl ≡ excl
    → counters ≡ record { rfer = rfer; excl = excl }
both_counts counters rfer excl is_rfer is_excl =
    let make : ℕ → ℕ → Counters = λ a b. record { rfer = a; excl = b } in
    ap (λ (a : ℕ). make a counters.excl) is_rfer ∙ ap (λ (b : ℕ). make rfer b) is_excl

one_counted : (layout : Layout) (quota : Quota) (entry : ℕ × Group)
    → group_failure layout quota entry ≡ None
    → entry.1.counters ≡ due_counters layout quota entry.0
one_counted layout quota entry none =
    let rfer = (due_counters layout quota entry.0).rfer in
    let excl = (due_counters layout quota entry.0).excl in
    let parts = neither (counted entry.0 Rfer entry.1.counters.rfer rfer)
    (counted entry.0 Excl entry.1.counters.excl excl) none in
    both_counts entry.1.counters rfer excl (no_difference entry.0 Rfer entry.1.counters.rfer rfer parts.0)
    (no_difference entry.0 Excl entry.1.counters.excl excl parts.1)

all_counted : (layout : Layout) (quota : Quota) (groups : List (ℕ × Group))
    → first_failure (map (group_failure layout quota) groups) ≡ None
    → All (λ entry. entry.1.counters ≡ due_counters layout quota entry.0) groups
all_counted layout quota [] none = λ k any below. absurd (omega arith)
all_counted layout quota (entry ∷ groups) none =
    let parts = first_of_more (group_failure layout quota entry) (map (group_failure layout quota) groups) none in
    All-cons (λ (some : ℕ × Group). some.1.counters ≡ due_counters layout quota some.0) entry groups
    (one_counted layout quota entry parts.0)
    (all_counted layout quota groups parts.1)

quota_counted : (layout : Layout) (told : Option Quota) (quota : Quota) → told ≡ Some quota
    → counts_failure layout told ≡ None
    → All (λ entry. entry.1.counters ≡ due_counters layout quota entry.0) quota.groups
unfolding counts_failure
quota_counted layout None quota is none = absurd cc
quota_counted layout (Some other) quota is none =
    let same : other ≡ quota = cc in
    subst (λ (q : Quota). All (λ (entry : ℕ × Group). entry.1.counters ≡ due_counters layout q entry.0) q.groups) same
    (all_counted layout other other.groups none)

pub stands_counted : StandsCounted
stands_counted state image stands =
    λ quota is.
    let super = stands.super in
    let here = state_in super image in
    let rules = keeps_rules super image (rules_by image super stands.chosen stands.sound) in
    let parts = none_of_three (space_failure (sizes_of super) (extent_set (present_extents here)))
    (references_failure super image (layout_of here))
    (counts_failure (layout_of here) here.quota) rules.together in
    let told : here.quota ≡ Some quota = ap (λ (s : State). s.quota) (sym stands.stands) ∙ is in
    let all = quota_counted (layout_of here) here.quota quota told parts.2 in
    subst (λ (s : State). All (λ (entry : ℕ × Group). entry.1.counters ≡ due_counters (layout_of s) quota entry.0)
    quota.groups) (sym stands.stands) all
