use Rattle.qg_fs_laws.proofs.Reach.{reach-told}
use Rattle.qg_fs_laws.proofs.stepping.reach_is_the_trees.Goals as goal

pub returns : goal.returns
returns c = record {
  reach = λ fs history bytes state mine files kept keeps apart.
      reach-told fs history bytes state mine files kept keeps apart;
}
