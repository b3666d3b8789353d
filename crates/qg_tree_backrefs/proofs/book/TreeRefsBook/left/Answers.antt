use Rattle.std.proofs.Common.{◌≡◌, ℕ, List, Some, ap, subst, sym, ◌∙◌}
use Rattle.qg_node.specs.declared.node.Node.{Node}
use Rattle.qg_node_alloc.specs.NodesFound.{fresh_at, held_at}
use Rattle.qg_node_alloc.proofs.Telling.{fresh-held, held-told}
use Rattle.qg_refs.specs.declared.kept.Kept.{Kept}
use Rattle.qg_weighed.specs.Table.{IsTable, book_of}
use Rattle.qg_tree_backrefs.proofs.Placing.{IsLetGo}
use Rattle.qg_tree_backrefs.proofs.Settles.{IsEmptied-fresh, Settled-left}
use Rattle.qg_tree_backrefs.proofs.Stepping.{Follows-left}
use Rattle.qg_tree_backrefs.proofs.book.TreeRefsBook.left.Goals as goal

pub returns-clause-told : goal.returns-clause-told
returns-clause-told g c node there before log follows =
    let blocks = c.args.land.now.blocks in
    Follows-left before c.args.self.now c.leave.new.self log node c.peek.result.now (held_at blocks c.args.at)
    c.peek.ensures
    (held-told blocks (g.D.Disk.history c.args._disk.now) c.args.at node c.requires.backed there c.requires.loaded)
    follows c.in_ok-leave.ensures.0

pub returns-clause-rests : goal.returns-clause-rests
returns-clause-rests g c generation drafted =
    c.let_go.ensures.rests (g.D.Disk.history c.args._disk.now) generation c.requires.backed drafted

pub returns-clause-settled : goal.returns-clause-settled
returns-clause-settled g c before empties settled fits =
    let self = c.args.self.now in
    let land = c.args.land.now in
    let at = c.args.at in
    let node = c.peek.result.now in
    let table = subst (λ (refs : List (ℕ × Kept)). IsTable refs) c.refs.ensures c.len-ascending.ensures.table in
    let same = fresh-held land.blocks at empties.here.0 node empties.here.1 c.peek.ensures in
    let here : fresh_at land.blocks.draft at ≡ Some node =
    empties.here.1 ∙ ap (λ (n : Node). Some n) (sym same) in
    let emptied = IsEmptied-fresh before land at node empties here in
    let gone = subst (λ (refs : List (ℕ × Kept)). IsLetGo (book_of refs) land c.let_go.new.land at) c.refs-2.ensures
    (record { stays = c.let_go.ensures.stays; goes = c.let_go.ensures.goes; gone = c.let_go.ensures.gone }) in
    Settled-left self c.leave.new.self before land c.let_go.new.land (g.D.Disk.history c.args._disk.now) at node table
    settled c.in_ok-leave.ensures.0 c.in_ok-leave.ensures.1 emptied gone c.let_go.ensures.sizes fits
