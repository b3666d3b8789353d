use Rattle.std.proofs.Common.{◌++◌, List, rules, sym, ap, ◌∙◌}
use Rattle.qg_num.specs.Key.{IsKey}
use Rattle.qg_node.specs.declared.item.Item.{Item}
use Rattle.qg_tree_read.specs.Reading.{items_within}
use Rattle.qg_tree_read.proofs.Ranges.{further-within, gathers}
use Rattle.qg_tree_read.proofs.Reached.{leaf-read}
use Rattle.qg_tree_read.proofs.tree.Tree.gather.Goals as goal

pub returns-clause-found : goal.returns-clause-found
returns-clause-found g c items tells =
    let reached = c.in_ok-way.ensures.reached in
    let same = leaf-read c.peek.result.now reached.header reached.items c.leaf_items-items.result.now
    (sym c.peek.ensures ∙ reached.is) c.leaf_items-items.ensures in
    let more = c.in_ok-add_within.ensures
    ∙ ap (λ (xs : List Item). c.args.found.now ++ items_within c.args.from c.args.to xs) same in
    rw c.next_within.ensures
    (gathers c.args.from c.args.to c.in_ok-way.way.expected.to items reached.items c.args.found.now
    c.add_within.new.found reached.past (reached.part items tells) more)

pub returns-clause-further : goal.returns-clause-further
returns-clause-further g c =
    let fits : IsKey c.args.from = search rules in
    rw c.next_within.ensures
    (further-within c.args.from c.args.to c.in_ok-way.way.expected.to fits c.in_ok-way.ensures.reached.past)
