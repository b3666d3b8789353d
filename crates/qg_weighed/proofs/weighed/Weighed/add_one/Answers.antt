use Rattle.std.proofs.Common.{arith}
use Rattle.qg_weighed.proofs.Weights.{weight-added}
use Rattle.qg_weighed.proofs.weighed.Weighed.add_one.Goals as goal

pub invariant_of-self-2 : goal.invariant_of-self-2
invariant_of-self-2 c =
    let more = weight-added c.self.inside.held c.self.inside.refs c.add_one.new.self c.args.at c.args.what
    c.args.reference c.self.invariant.held_kept c.self.invariant.refs_kept c.len-ascending.ensures.table
    c.in_ok-add_one.ensures.ok in
    record {
      refs_kept = c.len-ascending.ensures.table;
      held_kept = c.self.invariant.held_kept;
      weight = omega (arith, more, c.lacking-more.ensures, c.in_ok-bytes.ensures, c.self.invariant.weight);
    }
