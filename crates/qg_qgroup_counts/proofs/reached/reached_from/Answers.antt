use Rattle.std.proofs.Common.{arith}
use Rattle.qg_qgroup_counts.proofs.reached.reached_from.Goals as goal

pub returns : goal.returns
returns c =
    let sized = c.in_ok-settle_all.ensures.sized in
    let settled = c.in_ok-settle_all.ensures.settled c.args.roots.now c.in_ok-ways.ensures in
    record {
      same = sized.same;
      inside = sized.inside;
      tells = λ place subvolume node at. settled place subvolume node at (omega arith);
    }
