use Rattle.std.proofs.Common.{sym, ◌∙◌}
use Rattle.qg_weighed.proofs.Weights.{weight-marked}
use Rattle.qg_weighed.proofs.weighed.Weighed.mark.Goals as goal

pub invariant_of-self : goal.invariant_of-self
invariant_of-self c = record {
  refs_kept = c.len-ascending.ensures.table;
  held_kept = c.self.invariant.held_kept;
  weight = c.self.invariant.weight
      ∙ sym (weight-marked c.self.inside.held c.self.inside.refs c.mark.new.self c.args.at c.self.invariant.refs_kept
      c.len-ascending.ensures.table c.mark.ensures);
}
