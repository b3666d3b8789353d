use Rattle.qg_commit.proofs.OnDisk.{on-disk}
use Rattle.qg_commit.proofs.laws.commit_is_on_disk.Goals as goal

pub returns : goal.returns
returns c = record {
  held = λ fs events bytes items names roots book quota generation slots trees subvolume stands laying free read
      long.
      on-disk fs roots book quota generation slots trees laying subvolume.editable.drafted free read events long
      bytes subvolume items names stands;
}
