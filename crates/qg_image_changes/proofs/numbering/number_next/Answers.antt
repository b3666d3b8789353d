use Rattle.std.proofs.Common.{◌≡◌, ◌∙◌, ℕ, List, true, ap, arith, subst, sym}
use Rattle.std.specs.Prelude.{max}
use Rattle.std.specs.List.{All, fold}
use Rattle.qg_image.specs.ItemMeaning.{is_subvolume_number}
use Rattle.qg_image.specs.Table.{keys_of}
use Rattle.qg_qgroups.specs.Changing.{groups_in}
use Rattle.qg_qgroups.specs.Tracked.{quota_of}
use Rattle.qg_image_changes.proofs.Numbered.{next-is}
use Rattle.qg_image_changes.proofs.numbering.number_next.Goals as goal
use Rattle.qg_open_image.specs.declared.open_image.KeptSubvolume.{KeptSubvolume}

pub last_subvolume-last-requires : goal.last_subvolume-last-requires
last_subvolume-last-requires c = record {
  numbers = subst
      (λ (table : List (ℕ × KeptSubvolume)). All (λ (e : ℕ × KeptSubvolume). is_subvolume_number e.0 ≡ true) table)
      (sym c.as_slice.ensures) c.requires.fitted.subvolumes.numbers;
}

pub returns-clause-value : goal.returns-clause-value
returns-clause-value c =
    let kept = c.args.kept.now in
    next-is (keys_of kept.snapshots) (groups_in (quota_of kept.quota)) c.last_subvolume-last.result
    c.last_in_quota.result
    (c.last_subvolume-last.ensures.value
    ∙ ap (λ (table : List (ℕ × KeptSubvolume)). fold max 255 (keys_of table)) c.as_slice.ensures)
    c.last_in_quota.ensures.value

pub returns-clause-some : goal.returns-clause-some
returns-clause-some c =
    let first = c.last_subvolume-last.ensures.least in
    let second = c.last_in_quota.ensures.least in
    omega (arith, first, second)
