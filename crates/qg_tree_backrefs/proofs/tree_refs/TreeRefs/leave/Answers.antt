use Rattle.std.proofs.Common.{ℕ, ◌<◌, List, None, ap, length, refl, subst, sym, ◌∙◌}
use Rattle.std.specs.Prelude.{IfSome, Option}
use Rattle.std.specs.Option.{option_or}
use Rattle.qg_node_alloc.specs.Tellings.Telling.{Left}
use Rattle.qg_refs.specs.declared.kept.Kept.{Kept}
use Rattle.qg_refs.specs.Book.{references_at}
use Rattle.qg_weighed.specs.Table.{book_of}
use Rattle.qg_tree_backrefs.specs.declared.tree_refs.TreeRefs.{TreeRefs}
use Rattle.qg_tree_backrefs.specs.Exchange.{exchange_told}
use Rattle.qg_tree_backrefs.proofs.Stepping.{Step-whole, leaving-lent, none-or, or-none}
use Rattle.qg_tree_backrefs.proofs.tree_refs.TreeRefs.leave.Goals as goal

pub exchange-requires : goal.exchange-requires
exchange-requires c =
    subst (λ (refs : List (ℕ × Kept)). IfSome c.in_ok-lists.lists.full
    (λ at. 0 < length (references_at (book_of refs) at)))
    c.refs.ensures c.in_ok-lists.ensures.some

pub returns : goal.returns
returns c =
    let self = c.args.self.now in
    let level = c.other_level-level.result in
    let misfit = c.in_ok-misfit.misfit in
    let told = c.in_ok-lists.ensures.exact
    ∙ leaving-lent self c.refs.result.now c.self.inside.tree c.args.node.now c.refs.ensures
    (ap (λ (book : TreeRefs). book.tree) c.self.view_is) in
    let whole = Step-whole self c.note.new.self (Left c.args.node.now) c.exchange.new.self.refs 0
    (option_or level misfit) (exchange_told c.in_ok-lists.lists) None
    told refl (λ none. c.in_ok-misfit.ensures.done (or-none level misfit none).1)
    (λ can keeps. none-or level misfit (c.other_level-level.ensures ∙ keeps) (c.in_ok-misfit.ensures.proper can))
    (c.note.ensures
    ∙ ap (λ (book : TreeRefs). record book { misfit = option_or book.misfit c.or.result }) c.exchange.ensures.others
    ∙ ap (λ (o : Option ℕ). record self { refs = c.exchange.new.self.refs; misfit = option_or self.misfit o })
    c.or.ensures) in
    (whole.0, λ none. sym c.other_level-level.ensures ∙ (or-none level misfit (sym whole.2 ∙ none)).0)
