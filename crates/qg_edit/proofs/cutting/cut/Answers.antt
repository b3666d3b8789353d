use Rattle.std.proofs.Common.{rules, sym, subst, ap, ◌∙◌}
use Rattle.qg_node.specs.declared.node.Node.{Node}
use Rattle.qg_edit.specs.Outcome.{IsNodeFor, cleared}
use Rattle.qg_edit.proofs.Leaves.{IsNodeFor-cleared}
use Rattle.qg_edit.proofs.Cuts.{front-cut, rest-of_cut}
use Rattle.qg_edit.proofs.cutting.cut.Goals as goal

pub returns-then-not-has_short_bodies-clause-node : goal.returns-then-not-has_short_bodies-clause-node
returns-then-not-has_short_bodies-clause-node c =
    subst (λ (n : Node). IsNodeFor c.args.nodesize c.args.node.now n) (sym c.clear.ensures)
    (IsNodeFor-cleared c.args.nodesize c.args.node.now c.requires.size)

pub returns-in-Ok-clause-node : goal.returns-in-Ok-clause-node
returns-in-Ok-clause-node c =
    front-cut c.args.nodesize c.header-address.result.address c.args.node.now c.split.new.node c.in-Ok.rest
    c.requires.size c.requires.levelled c.requires.ascending c.in-Ok.ensures.split

pub returns-in-Ok-clause-cut : goal.returns-in-Ok-clause-cut
returns-in-Ok-clause-cut c = record {
  cut = search rules;
  overfull = search rules;
  rest = rest-of_cut c.args.nodesize c.header-address.result.address c.args.node.now c.split.new.node c.in-Ok.rest
      c.requires.size c.requires.levelled c.requires.ascending
      (ap (λ h. h.address) c.header-address.ensures) c.in-Ok.ensures.split;
}

pub returns-in-Err-clause-node : goal.returns-in-Err-clause-node
returns-in-Err-clause-node c =
    subst (λ (n : Node). IsNodeFor c.args.nodesize c.args.node.now n)
    (sym (c.clear-in-Err.ensures ∙ ap cleared c.in-Err.ensures.err))
    (IsNodeFor-cleared c.args.nodesize c.args.node.now c.requires.size)
