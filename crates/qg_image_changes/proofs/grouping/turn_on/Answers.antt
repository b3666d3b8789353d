use Rattle.std.proofs.Common.{ℕ, List, Some, ap, subst, sym, ◌∙◌}
use Rattle.std.specs.List.Sorted.{IsStrictlySortedBy}
use Rattle.std.specs.Ordering.{nat_cmp}
use Rattle.std.proofs.lemmas.Map.Keys.{sorted_from_strictly_increasing}
use Rattle.qg_image.specs.Table.{keys_of}
use Rattle.qg_image.specs.declared.quota.Quota.{Quota}
use Rattle.qg_machine.specs.GroupChange.{quota_for}
use Rattle.qg_image_changes.proofs.grouping.turn_on.Goals as goal
use Rattle.qg_open_image.specs.declared.open_image.KeptSubvolume.{KeptSubvolume}

pub of_subvolumes-requires : goal.of_subvolumes-requires
of_subvolumes-requires c =
    subst (λ (table : List (ℕ × KeptSubvolume)). IsStrictlySortedBy nat_cmp (keys_of table)) (sym c.as_slice.ensures)
    (sorted_from_strictly_increasing (keys_of c.args.kept.now.snapshots) c.requires.ascending)

pub returns-clause-quota : goal.returns-clause-quota
returns-clause-quota c =
    ap (λ (quota : Quota). Some quota)
    (c.in_ok-quota.ensures.quota
    ∙ ap (λ (table : List (ℕ × KeptSubvolume)). quota_for c.args.stamp (keys_of table)) c.as_slice.ensures)
