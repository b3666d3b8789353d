use Rattle.std.proofs.Common.{◌≡◌, ℕ, List, refl, ap, subst, ◌∙◌}
use Rattle.qg_node.specs.declared.node.Node.{Node}
use Rattle.qg_node.specs.Nodes.{header_of}
use Rattle.qg_node_alloc.specs.NodesFound.{fresh_at}
use Rattle.qg_node_alloc.proofs.Telling.{fresh-held}
use Rattle.qg_node_alloc.specs.Tellings.Telling.{Made}
use Rattle.qg_refs.specs.declared.kept.Kept.{Kept}
use Rattle.qg_weighed.specs.Table.{IsTable}
use Rattle.qg_tree_backrefs.proofs.Settles.{IsPutAt-fresh, Settled-made, some-fresh}
use Rattle.qg_tree_backrefs.proofs.Stepping.{Follows-more}
use Rattle.qg_tree_backrefs.proofs.book.TreeRefsBook.made.Goals as goal

pub returns-clause-told : goal.returns-clause-told
returns-clause-told g c before log follows =
    Follows-more before c.args.self.now c.make.new.self log (Made c.args.at) follows c.in_ok-make.ensures.0

pub returns-clause-settled : goal.returns-clause-settled
returns-clause-settled g c before puts settled fits =
    let self = c.args.self.now in
    let land = c.args.land.now in
    let at = c.args.at in
    let table = subst (λ (refs : List (ℕ × Kept)). IsTable refs) c.refs.ensures c.len-ascending.ensures.table in
    let mine = some-fresh (fresh_at land.blocks.draft at) c.requires.fresh in
    let same = fresh-held land.blocks at mine.0 c.peek.result.now mine.1 c.peek.ensures in
    let level = c.in_ok-make.ensures.1 ∙ c.level-level.ensures ∙ ap (λ (n : Node). (header_of n).level) same in
    let put = IsPutAt-fresh before land land at mine.0 puts refl refl mine.1 in
    Settled-made self c.make.new.self before land (g.D.Disk.history c.args._disk.now) at mine.0 table settled
    c.in_ok-make.ensures.0 level put fits
