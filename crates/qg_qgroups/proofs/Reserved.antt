-- Reservations as commands ask for them, and what is held between two commits.
use Rattle.std.proofs.Common.{◌≡◌, ℕ, ◌<◌, ◌≤◌, Bool, true, false, List, [], ◌∷◌, arith, Option, Some, None, refl, sym}
use Rattle.std.proofs.Common.{ap, subst, ◌∙◌, inl, inr}
use Rattle.std.specs.Prelude.{◌/◌, ◌⊎◌, ◌||◌, ◌&&◌, ◌==◌, nat_le, nat_lt, if◌then◌else◌}
use Rattle.std.specs.Option.{option_map}
use Rattle.std.proofs.lemmas.Bool.{and_parts, eqb-true, ltb-true}
use Rattle.qg_num.specs.declared.counters.Which.{Which}
use Rattle.qg_num.specs.declared.refusal.Refusal.TheVariants as why
use Rattle.qg_image.specs.ItemMeaning.{is_subvolume_number}
use Rattle.qg_image.specs.Table.{has_key}
use Rattle.qg_image.specs.declared.quota.Quota.{Quota}
use Rattle.qg_image.specs.Limits.{over}
use Rattle.qg_image.specs.Members.{hierarchy_of, is_member, level_of_group}
use Rattle.qg_image.specs.State.{Accepted, State}
use Rattle.qg_machine.specs.Refusals.{over_limit}
use Rattle.qg_qgroups.specs.Limit.{SameHeld}
use Rattle.qg_qgroups.specs.declared.judging.ReservationAnswer.{ReservationAnswer}
use Rattle.qg_qgroups.specs.declared.state.QuotaState.{QuotaState}
use Rattle.qg_qgroups.specs.Judging.{over_in}
use Rattle.qg_qgroups.specs.OnOrOff.{refusal_in}
use Rattle.qg_qgroups.specs.Tracked.{HasGroup, HoldsAll, HoldsAtMost}
use Rattle.qg_qgroups.proofs.Paths.{reserved-more, reserved-none}
use Rattle.qg_qgroups.proofs.Tables.{key-found}

-- ---- a subvolume's group

either : (a b : Bool) → (a || b) ≡ true → (a ≡ true) ⊎ (b ≡ true)
either true b is = inl refl
either false b is = inr is

small_level : (n : ℕ) → n < 281474976710656 → n / 281474976710656 ≡ 0
small_level n small = omega arith

-- the number of a subvolume is that of a group of level 0
pub level-lowest : (n : ℕ) → is_subvolume_number n ≡ true → level_of_group n ≡ 0
unfolding is_subvolume_number
level-lowest n number = elim (either (n == 5) (nat_le 256 n && nat_lt n 281474976710656) number) [
  | inl is ↦ subst (λ (m : ℕ). level_of_group m ≡ 0) (sym (eqb-true n 5 is)) refl
  | inr free ↦ small_level n (ltb-true n 281474976710656 (and_parts (nat_le 256 n) (nat_lt n 281474976710656) free).1)
]

-- a subvolume whose number is among the groups' has its group
pub has-group : (quota : Quota) (sub : ℕ) → has_key sub quota.groups ≡ true → is_subvolume_number sub ≡ true
    → HasGroup quota sub
has-group quota sub there number = record {
  there = key-found sub quota.groups ∙ there;
  level = level-lowest sub number;
}

-- ---- why a reservation is refused

module _ (state : State) (sub n : ℕ) where
  -- while quota is on, as the machine refuses it
  pub refusal-told : (quota : Quota) (judged : ReservationAnswer) → state.quota ≡ Some quota
      → over_in judged ≡ over quota state.pending sub n
      → refusal_in judged ≡ over_limit state sub n
  refusal-told quota judged on is =
      ap (λ (found : Option (ℕ × Which)). option_map (λ one. why.Quota one.0 one.1) found) is
      ∙ sym (ap (λ (q : Option Quota). over_limit (record state { quota = q }) sub n) on)

  -- and while it is off, not at all
  pub refusal-off : state.quota ≡ None → over_limit state sub n ≡ None
  refusal-off off = ap (λ (q : Option Quota). over_limit (record state { quota = q }) sub n) off

-- ---- what is held

-- a command that reserves nothing adds nothing
pub holds-nothing : (state : QuotaState) (given : Accepted) (pending : List Accepted) → given.amount ≡ 0
    → HoldsAll state pending
    → HoldsAll state (given ∷ pending)
holds-nothing state given pending none holds group =
    let more = reserved-more (hierarchy_of state.quota) given pending group in
    omega (arith, more, holds group, nothing (is_member (hierarchy_of state.quota) group given.sub)) where
      nothing : (b : Bool) → (if b then given.amount else 0) ≡ 0
      nothing true = none
      nothing false = refl

module _ (state : QuotaState) where
  -- nothing pending, nothing held
  pub holds-least : HoldsAll state [] → HoldsAtMost 0 state
  holds-least holds group =
      omega (arith, holds group, reserved-none (hierarchy_of state.quota) group)

  -- a greater bound
  pub bound-more : (bound more : ℕ) → bound ≤ more → HoldsAtMost bound state → HoldsAtMost more state
  bound-more bound more le most group = omega (arith, le, most group)

-- as much is held as before
pub bound-still : (old new : QuotaState) (bound : ℕ) → SameHeld old.limits new.limits → HoldsAtMost bound old
    → HoldsAtMost bound new
bound-still old new bound same most group = omega (arith, same group, most group)
