use Rattle.std.proofs.Common.{sym, ap, ◌∙◌}
use Rattle.qg_tree_read.specs.Reading.{last_upto}
use Rattle.qg_tree_read.proofs.Parts.{last-part}
use Rattle.qg_tree_read.proofs.Reached.{leaf-read}
use Rattle.qg_tree_read.proofs.tree.Tree.last_to.Goals as goal

pub returns-clause-found : goal.returns-clause-found
returns-clause-found g c items tells =
    let reached = c.in_ok-way.ensures.reached in
    let same = leaf-read c.peek.result.now reached.header reached.items c.leaf_items-items.result.now
    (sym c.peek.ensures ∙ reached.is) c.leaf_items-items.ensures in
    c.in_ok-last_of.ensures ∙ ap (last_upto c.args.to) same
    ∙ sym (last-part c.args.to c.in_ok-way.way.expected.to items reached.items reached.past
    (reached.part items tells))
