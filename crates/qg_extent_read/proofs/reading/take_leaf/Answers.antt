use Rattle.std.proofs.Common.{◌≡◌, true, List, map, rules, sym, ap, subst, ◌∙◌}
use Rattle.qg_num.specs.Key.{IsKey}
use Rattle.qg_node.specs.declared.item.Item.{Item}
use Rattle.qg_node.specs.Nodes.{is_ascending}
use Rattle.qg_tree_read.proofs.Ranges.{further-within}
use Rattle.qg_tree_read.proofs.Reached.{leaf-read}
use Rattle.qg_extent_read.specs.Leaves.{taken_within}
use Rattle.qg_extent_read.proofs.Turns.{taken-leaf}
use Rattle.qg_extent_read.proofs.reading.take_leaf.Goals as goal

pub returns-clause-found : goal.returns-clause-found
returns-clause-found g c items tells =
    let reached = c.in_ok-way.ensures.reached in
    let after = g.R.ItemReader.after in
    let same = leaf-read c.peek.result.now reached.leaf.header reached.leaf.items c.leaf_items-items.result.now
    (sym c.peek.ensures ∙ reached.leaf.is) c.leaf_items-items.ensures in
    let taken = c.in_ok-take_within.ensures
    ∙ ap (λ (xs : List Item). taken_within after c.args.reader.now c.args.from c.args.to xs) same in
    rw c.next_within.ensures
    (taken-leaf after c.args.tree.now c.args.blocks.now.draft (g.D.Disk.history c.args.disk.now) c.args.from c.args.to
    items c.args.reader.now c.take_within.new.reader c.reach.new.blocks c.in_ok-way.way reached tells taken)

pub returns-clause-further : goal.returns-clause-further
returns-clause-further g c =
    let fits : IsKey c.args.from = search rules in
    rw c.next_within.ensures
    (further-within c.args.from c.args.to c.in_ok-way.way.expected.to fits c.in_ok-way.ensures.reached.leaf.past)

pub take_within-requires : goal.take_within-requires
take_within-requires g c =
    let leaf = c.in_ok-way.ensures.reached.leaf in
    let same = leaf-read c.peek.result.now leaf.header leaf.items c.leaf_items-items.result.now
    (sym c.peek.ensures ∙ leaf.is) c.leaf_items-items.ensures in
    subst (λ (xs : List Item). is_ascending (map (λ item. item.key) xs) ≡ true) (sym same) leaf.ascending
