use Rattle.std.proofs.Common.{sym, ap, subst, ◌∙◌}
use Rattle.qg_node.specs.declared.node.Node.{Node}
use Rattle.qg_node.specs.declared.node.Node.TheVariants.{Inner}
use Rattle.qg_node.specs.declared.pointer.Pointer.{Pointer}
use Rattle.std.specs.Prelude.{List, length, ◌≤◌}
use Rattle.qg_node.specs.Nodes.{own_pointers}
use Rattle.qg_shape.specs.Parts.{with_pointers}
use Rattle.qg_edit.specs.Outcome.{spliced}
use Rattle.qg_edit.proofs.Singles.{spliced-one}
use Rattle.qg_edit.proofs.splicing.put_pointers.Goals as goal

pub returns-in-len1-clause-ok : goal.returns-in-len1-clause-ok
returns-in-len1-clause-ok c =
    let within = subst (λ (n : Node). c.args.to ≤ length (own_pointers n)) c.in-Inner.is c.requires.within.1 in
    let put = c.set.ensures ∙ spliced-one c.args.from c.args.to c.args.new.now c.one-item.result c.in-Inner.pointers
    c.in-len1.len_at_least c.in-len1.len_below c.one-item.is c.if-to-from-eq1.true within in
    ap (λ (ps : List Pointer). Inner c.in-Inner.header ps) put
    ∙ ap (λ (n : Node). with_pointers n (spliced c.args.from c.args.to c.args.new.now (own_pointers n)))
    (sym c.in-Inner.is)
