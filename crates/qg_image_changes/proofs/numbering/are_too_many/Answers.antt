use Rattle.qg_image.specs.Table.{keys_of}
use Rattle.qg_qgroups.specs.Tracked.{quota_of}
use Rattle.qg_image_changes.proofs.Numbered.{pairs-few}
use Rattle.qg_image_changes.proofs.numbering.are_too_many.Goals as goal

pub is_full-requires : goal.is_full-requires
is_full-requires c =
    let kept = c.args.kept.now in
    record {
      few = pairs-few kept.fs.tree.next (keys_of kept.snapshots) (quota_of kept.quota) c.requires.fitted.groups;
    }
