use Rattle.std.proofs.Common.{◌≡◌, ◌+◌, ◌-◌, subst, arith}
use Rattle.qg_qgroup_counts.specs.Reached.{AreSettledFrom}
use Rattle.qg_qgroup_counts.proofs.reached.settle_all.Goals as goal

pub loop-depth-preserved : goal.loop-depth-preserved
loop-depth-preserved c =
    let highest = c.highest_level-highest.result in
    let depth = c.loop-depth.depth in
    let level : highest - depth ≡ highest - (depth + 1) + 1 = omega (arith, c.loop-depth-test.true) in
    record {
      sized = c.in_ok-settle_level.ensures.sized;
      settled = λ roots ways.
          subst (λ n. AreSettledFrom c.args.nodes.now roots n c.settle_level.new.reached) level
          (c.in_ok-settle_level.ensures.settles roots ways (c.loop-depth.invariant.settled roots ways));
    }

pub returns-clause-settled : goal.returns-clause-settled
returns-clause-settled c = λ roots ways.
    let lowest : c.highest_level-highest.result - c.loop-depth.depth + 1 ≡ 0 + 1 =
    omega (arith, c.loop-depth-test.false)
    in
    c.in_ok-settle_level-2.ensures.settles roots ways
    (subst (λ n. AreSettledFrom c.args.nodes.now roots n c.loop-depth.reached) lowest
    (c.loop-depth.invariant.settled roots ways))
