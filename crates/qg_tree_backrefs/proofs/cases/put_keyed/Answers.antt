use Rattle.std.proofs.Common.{List, ap, ◌∙◌, ◌++◌}
use Rattle.std.proofs.lemmas.Result.{on_ok_weaker}
use Rattle.qg_image.specs.Owed.{Owing}
use Rattle.qg_backref_rule.specs.OwedLists.{owings_told}
use Rattle.qg_node.specs.declared.node.Header.{Header}
use Rattle.qg_tree_backrefs.proofs.Keyed.{keyed-under}
use Rattle.qg_tree_backrefs.proofs.cases.put_keyed.Goals as goal

pub returns : goal.returns
returns c =
    on_ok_weaker c.owings_under.result
    (λ put. put
    ∙ ap (λ (more : List Owing). owings_told c.args.owings.now.items ++ more)
    (keyed-under (record c.header.result { owner = c.args.tree }) c.args.node.now c.args.tree
    (ap (λ (h : Header). record h { owner = c.args.tree }) c.header.ensures)))
    c.owings_under.ensures
