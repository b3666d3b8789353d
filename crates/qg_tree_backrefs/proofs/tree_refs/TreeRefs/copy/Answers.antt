use Rattle.std.proofs.Common.{ℕ, ◌<◌, List, Some, ap, length, subst, ◌∙◌}
use Rattle.std.specs.Prelude.{IfSome}
use Rattle.std.specs.Option.{option_or}
use Rattle.qg_node_alloc.specs.Tellings.Telling.{Copied}
use Rattle.qg_refs.specs.declared.kept.Kept.{Kept}
use Rattle.qg_refs.specs.Book.{references_at}
use Rattle.qg_weighed.specs.Table.{book_of}
use Rattle.qg_tree_backrefs.specs.declared.coming.Coming.{Coming}
use Rattle.qg_tree_backrefs.specs.declared.tree_refs.TreeRefs.{TreeRefs}
use Rattle.qg_tree_backrefs.specs.Exchange.{exchange_told}
use Rattle.qg_tree_backrefs.specs.Following.{comes}
use Rattle.qg_tree_backrefs.proofs.Stepping.{Step-exchanged, copy-lent}
use Rattle.qg_tree_backrefs.proofs.tree_refs.TreeRefs.copy.Goals as goal

pub exchange-requires : goal.exchange-requires
exchange-requires c =
    subst (λ (refs : List (ℕ × Kept)). IfSome c.in_ok-lists.lists.full
    (λ at. 0 < length (references_at (book_of refs) at)))
    c.refs.ensures c.in_ok-lists.ensures.some

pub returns : goal.returns
returns c =
    let self = c.args.self.now in
    let misfit = c.in_ok-misfit.misfit in
    let coming =
    ap (λ (some : Coming). Some some)
    (c.comes-coming.ensures ∙ ap (λ (level : ℕ). comes self c.args.copy level) c.level.ensures) in
    let told = c.in_ok-lists.ensures.exact
    ∙ copy-lent self c.refs.result.now c.self.inside.tree c.args.node.now c.refs.ensures
    (ap (λ (book : TreeRefs). book.tree) c.self.view_is) in
    Step-exchanged self c.note.new.self (Copied c.args.node.now c.args.copy) c.exchange.new.self.refs 0 misfit
    (exchange_told c.in_ok-lists.lists) (Some c.comes-coming.result)
    told coming c.in_ok-misfit.ensures.done (λ can level. c.in_ok-misfit.ensures.proper can)
    (c.note.ensures
    ∙ ap (λ (book : TreeRefs). record book { misfit = option_or book.misfit misfit }) c.exchange.ensures.others)
