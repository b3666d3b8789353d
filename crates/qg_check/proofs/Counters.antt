-- The stored counters of groups, judged one after the other.
use Rattle.std.proofs.Common.{◌≡◌, ℕ, ◌≤◌, ◌<◌, ◌+◌, zero, suc, List, [], ◌∷◌, map, drop, length, get_or, refl, sym, ap}
use Rattle.std.proofs.Common.{subst, ◌∙◌, arith}
use Rattle.std.specs.Prelude.{Option, Some, None, slice_get}
use Rattle.std.specs.Option.{option_map}
use Rattle.std.proofs.lemmas.List.{length-map}
use Rattle.std.proofs.lemmas.Option.{slice_get-get_or, slice_get-map}
use Rattle.qg_num.specs.declared.counters.Counters.{Counters}
use Rattle.qg_num.specs.declared.counters.Which.TheVariants.{Rfer, Excl}
use Rattle.qg_image.specs.Table.{keys_of}
use Rattle.qg_image.specs.declared.quota.Group.{Group}
use Rattle.qg_image.specs.declared.quota.Quota.{Quota}
use Rattle.qg_image.specs.State.{Layout}
use Rattle.qg_image.specs.Members.{Hierarchy}
use Rattle.qg_image.specs.Counts.{direct_count, due_counters}
use Rattle.qg_image.specs.declared.failure.Failure.{Failure}
use Rattle.qg_image.specs.Failure.{first_failure}
use Rattle.qg_image.specs.Verdict.{counted, counts_failure, group_failure}
use Rattle.qg_owner_rule.proofs.Listed.{at_one, at_read}
use Rattle.qg_qgroup_counts.specs.Direct.{AreGroupCounts}
use Rattle.qg_qgroups.specs.declared.state.QuotaState.{QuotaState}
use Rattle.qg_qgroups.specs.Tracked.{IsTracked}

-- ---- one after the other

-- the first some groups were judged, and all is well
pub record HaveJudged (judge : ℕ × Group → Option Failure) (count : ℕ) (groups : List (ℕ × Group)) : Type 0 where
  pub left : first_failure (map judge groups) ≡ first_failure (map judge (drop count groups))

pub counts_judged : (layout : Layout) (quota : Quota)
    → counts_failure layout (Some quota) ≡ first_failure (map (group_failure layout quota) quota.groups)
unfolding counts_failure
counts_judged layout quota = refl

-- while quota is off nothing is
pub counts_none : (layout : Layout) → counts_failure layout None ≡ None
unfolding counts_failure
counts_none layout = refl

pub HaveJudged-none : (judge : ℕ × Group → Option Failure) (groups : List (ℕ × Group)) → HaveJudged judge 0 groups
HaveJudged-none judge groups = record { left = refl }

-- the next one
at_next : (count : ℕ) (groups : List (ℕ × Group)) (entry : ℕ × Group) → count < length groups
    → entry ≡ get_or groups count entry
    → drop count groups ≡ entry ∷ drop (suc count) groups
at_next zero [] entry short is = absurd (omega arith)
at_next zero (first ∷ groups) entry short is = rw is refl
at_next (suc count) [] entry short is = absurd (omega arith)
at_next (suc count) (first ∷ groups) entry short is = at_next count groups entry (omega arith) is

one_more : (count : ℕ) → count + 1 ≡ suc count
one_more count = omega arith

pub HaveJudged-more : (judge : ℕ × Group → Option Failure) (count : ℕ) (groups : List (ℕ × Group)) (entry : ℕ × Group)
    → count < length groups → entry ≡ get_or groups count entry
    → judge entry ≡ None → HaveJudged judge count groups → HaveJudged judge (count + 1) groups
HaveJudged-more judge count groups entry short is none have = record {
  left = have.left ∙ (rw (one_more count, at_next count groups entry short is, none) refl);
}

pub HaveJudged-found : (judge : ℕ × Group → Option Failure) (count : ℕ) (groups : List (ℕ × Group)) (entry : ℕ × Group)
    (failure : Failure) → count < length groups
    → entry ≡ get_or groups count entry → judge entry ≡ Some failure → HaveJudged judge count groups
    → first_failure (map judge groups) ≡ Some failure
HaveJudged-found judge count groups entry failure short is some have = have.left
    ∙ (rw (at_next count groups entry short is, some) refl)

pub HaveJudged-all : (judge : ℕ × Group → Option Failure) (count : ℕ) (groups : List (ℕ × Group))
    → length groups ≤ count → HaveJudged judge count groups
    → first_failure (map judge groups) ≡ None
HaveJudged-all judge count groups long have = have.left
    ∙ ap (λ (rest : List (ℕ × Group)). first_failure (map judge rest)) (none_left count groups long) where
      none_left : (count : ℕ) (groups : List (ℕ × Group)) → length groups ≤ count → drop count groups ≡ []
      none_left zero [] long = refl
      none_left (suc count) [] long = refl
      none_left zero (first ∷ groups) long = absurd (omega arith)
      none_left (suc count) (first ∷ groups) long = none_left count groups (omega arith)

-- one group is judged by the counters that are due
pub judged_so : (layout : Layout) (quota : Quota) (entry : ℕ × Group) (due : Counters)
    (told : Option Failure) → due ≡ due_counters layout quota entry.0
    → told ≡ first_failure (counted entry.0 Rfer entry.1.counters.rfer due.rfer
    ∷ counted entry.0 Excl entry.1.counters.excl due.excl ∷ [])
    → group_failure layout quota entry ≡ told
judged_so layout quota entry due told same is =
    ap (λ (c : Counters). first_failure (counted entry.0 Rfer entry.1.counters.rfer c.rfer
    ∷ counted entry.0 Excl entry.1.counters.excl c.excl ∷ [])) (sym same) ∙ sym is

-- ---- by the counters at its index

-- as many are counted as are judged
pub as_many : (state : QuotaState) (counters : List Counters) → IsTracked state
    → length counters ≡ length state.hierarchy.groups → length counters ≡ length state.quota.groups
as_many state counters tracked same =
    same ∙ ap (λ (hierarchy : Hierarchy). length hierarchy.groups) tracked.same
    ∙ length-map state.quota.groups (λ (entry : ℕ × Group). entry.0)

-- the number of the group at an index
number_at : (groups : List (ℕ × Group)) (index : ℕ) (entry : ℕ × Group) → index < length groups
    → entry ≡ get_or groups index entry → slice_get (keys_of groups) index ≡ Some entry.0
number_at groups index entry short here =
    slice_get-map (λ (entry : ℕ × Group). entry.0) groups index
    ∙ ap (λ (found : Option (ℕ × Group)). option_map (λ (entry : ℕ × Group). entry.0) found)
    (at_read groups index entry short here)

-- the counters there are its direct count
pub counted_at : (layout : Layout) (hierarchy : Hierarchy) (groups : List (ℕ × Group)) (counters : List Counters)
    (index : ℕ) (entry : ℕ × Group) (other : Counters)
    → hierarchy.groups ≡ keys_of groups → AreGroupCounts layout hierarchy counters → length counters ≡ length groups
    → index < length groups → entry ≡ get_or groups index entry
    → get_or counters index other ≡ direct_count layout hierarchy entry.0
counted_at layout hierarchy groups counters index entry other numbers are same short here =
    let number = subst (λ (list : List ℕ). slice_get list index ≡ Some entry.0) (sym numbers)
    (number_at groups index entry short here) in
    let inside : index < length counters = omega (arith, same, short) in
    at_one counters index (get_or counters index other) (direct_count layout hierarchy entry.0)
    (slice_get-get_or counters index other inside) (are index entry.0 number)
