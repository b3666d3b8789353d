use Rattle.std.proofs.Common.{refl}
use Rattle.qg_file_edits.proofs.changes.unlink_change.Goals as goal

pub returns : goal.returns
returns c = record { gone = refl; put = c.new-put.ensures; named = c.new-named.ensures; new = refl; inode = refl }
