use Rattle.std.proofs.Common.{sym, ◌∙◌}
use Rattle.qg_qgroups.proofs.RefusedByEach.{keys-any}
use Rattle.qg_qgroups.proofs.refusing.is_subvolume.Goals as goal

pub returns : goal.returns
returns g c = c.has_entry.ensures ∙ sym (keys-any c.args.group c.args.subvolumes.now)
