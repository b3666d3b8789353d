use Rattle.qg_commit.proofs.OnDisk.{is-flushed}
use Rattle.qg_commit.proofs.laws.fresh_are_flushed.Goals as goal

pub returns : goal.returns
returns c = record {
  flushed = λ fs before bytes roots book quota generation slots trees subvolume laying free gone read long.
      is-flushed fs roots book quota generation slots trees laying subvolume.editable.drafted free read before
      long subvolume.editable.backed gone;
}
