use Rattle.qg_fs_laws.proofs.HeldStands.{held-kept}
use Rattle.qg_fs_laws.proofs.stepping.held_state_is_kept.Goals as goal

pub returns : goal.returns
returns c = record {
  kept = λ fs history bytes state mine kept held trees young there hand others.
      held-kept fs history bytes state mine kept held trees there hand others young;
}
