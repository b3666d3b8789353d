use Rattle.std.proofs.Common.{Some, ap, ◌∙◌}
use Rattle.std.specs.Option.{option_or}
use Rattle.qg_node_alloc.specs.Tellings.Telling.{Made}
use Rattle.qg_backref_rule.specs.OwedLists.{owings_told}
use Rattle.qg_tree_backrefs.specs.declared.coming.Coming.{Coming}
use Rattle.qg_tree_backrefs.specs.declared.tree_refs.TreeRefs.{TreeRefs}
use Rattle.qg_tree_backrefs.proofs.Stepping.{exchange_with, Step-at, nothing-told}
use Rattle.qg_tree_backrefs.proofs.tree_refs.TreeRefs.make.Goals as goal

pub returns : goal.returns
returns c =
    let self = c.args.self.now in
    let misfit = c.in_ok-misfit.misfit in
    Step-at self c.note.new.self (Made c.args.at) c.exchange.new.self.refs c.args.level misfit
    (exchange_with (owings_told c.new.result.items) (owings_told c.new-2.result.items)) (Some c.comes-coming.result)
    (nothing-told c.new.result.items c.new-2.result.items c.new.ensures.items c.new-2.ensures.items)
    (ap (λ (some : Coming). Some some) c.comes-coming.ensures)
    c.in_ok-misfit.ensures.done (λ can level. c.in_ok-misfit.ensures.proper can)
    (c.note.ensures
    ∙ ap (λ (book : TreeRefs). record book { misfit = option_or book.misfit misfit }) c.exchange.ensures.others)
