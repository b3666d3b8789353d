use Rattle.std.proofs.Common.{ap, ◌∙◌}
use Rattle.qg_space.specs.Holding.{Holding}
use Rattle.qg_space.proofs.Both.{holding_both, new_apart}
use Rattle.qg_space.proofs.space.Space.hold_runs.Goals as goal

pub invariant_of-self : goal.invariant_of-self
invariant_of-self c =
    let sizes = ap (λ (h : Holding). h.sizes) c.self.view_is in
    record {
      served = c.self.invariant.served;
      apart = new_apart c.self.inside.sizes c.args.self.now c.in_ok-runs.runs.items c.args.extents.now sizes
          c.in_ok-runs.ensures.runs c.requires;
      front = c.in_ok-runs.ensures.front;
      all = c.self.invariant.all;
      counted = c.self.invariant.counted;
      used = c.self.invariant.used;
    }

pub returns-clause-ok : goal.returns-clause-ok
returns-clause-ok c =
    let s = c.self.inside in
    holding_both s.sizes s.runs.items c.in_ok-runs.runs.items s.slots.items c.args.extents.now c.in_ok-runs.ensures.runs
    ∙ ap (λ (h : Holding). record h { runs = c.args.extents.now; held_runs = c.args.extents.now }) c.self.view_is
