-- How many subvolumes and groups there are, told by what is kept.
use Rattle.std.proofs.Common.{◌≡◌, ℕ, ◌+◌, ◌^◌, List, Option, arith, ap, ◌∙◌}
use Rattle.std.specs.Prelude.{◌||◌, ◌&&◌, is_some, length, nat_le, nat_lt}
use Rattle.qg_device.specs.History.{History}
use Rattle.qg_num.specs.declared.refusal.Refusal.TheVariants as why
use Rattle.qg_image.specs.declared.quota.Quota.{Quota}
use Rattle.qg_image.specs.Members.{next_subvolume}
use Rattle.qg_image.specs.State.{State, is_quota_on}
use Rattle.qg_image.specs.Verdict.{most_groups, most_relations, most_subvolumes}
use Rattle.qg_machine.specs.Refusals.{groups_of, number_to_come, pairs_of, refuse, too_many_subvolumes}
use Rattle.qg_qgroups.specs.Changing.{groups_in, pairs_in}
use Rattle.qg_qgroups.specs.Tracked.{quota_of}
use Rattle.qg_qgroups.proofs.Refused.{groups-told, pairs-told}
use Rattle.qg_open_image.specs.FsLawsKeeping.{other_names}
use Rattle.qg_open_image.specs.declared.open_image.OpenImage.{OpenImage}
use Rattle.qg_open_image.specs.Keeping.{IsFitted, IsKeptOf}
use Rattle.qg_image_changes.specs.Changing.{number_next, too_many_refusal}
use Rattle.qg_open_image.proofs.Stepped.{keys-kept, many-kept}

module _ (kept : OpenImage) (state : State) (history : History) (fits : IsFitted kept)
    (keeps : IsKeptOf kept state history) where
  groups_kept : groups_of state ≡ groups_in (quota_of kept.quota)
  groups_kept = groups-told state ∙ ap (λ (quota : Option Quota). groups_in quota) keeps.quota

  pairs_kept : pairs_of state ≡ pairs_in (quota_of kept.quota)
  pairs_kept = pairs-told state ∙ ap (λ (quota : Option Quota). pairs_in quota) keeps.quota

  on_kept : is_quota_on state ≡ is_some (quota_of kept.quota)
  on_kept = ap (λ (quota : Option Quota). is_some quota) keeps.quota

  pub number-told : number_to_come state ≡ number_next kept
  number-told =
      λ i. next_subvolume (keys-kept kept state history (other_names state) fits keeps i) (groups_kept i)

  pub too-many-told : (relations : ℕ) → too_many_subvolumes state relations ≡ too_many_refusal kept relations
  too-many-told relations =
      λ i. refuse
      (nat_le most_subvolumes (many-kept kept state history (other_names state) fits keeps i)
      || (on_kept i && nat_le most_groups (length (groups_kept i)))
      || nat_lt most_relations (length (pairs_kept i) + relations) || nat_le (2 ^ 48) (number-told i)) why.TooMany

  -- the generation of the last commit
  pub generation-told : state.generation ≡ kept.superblock.generation
  generation-told =
      let come = keeps.keeps.laid.generation in
      let next = fits.next in
      omega (arith, come, next)
