use Rattle.std.proofs.Common.{◌≡◌, List, [], ◌++◌, ap, ◌∙◌}
use Rattle.qg_node.specs.declared.node.Header.{Header}
use Rattle.qg_image.specs.Owed.{Owing}
use Rattle.qg_cow_refs.specs.Children.{keyed_children}
use Rattle.qg_backref_rule.specs.OwedLists.{owings_told}
use Rattle.qg_tree_backrefs.proofs.Keyed.{keyed-under}
use Rattle.qg_subvolumes.proofs.sharing.keyed_children.Goals as goal

pub returns : goal.returns
returns c =
    let none : owings_told c.new-owings.result.items ≡ [] = ap owings_told c.new-owings.ensures.items in
    c.in_ok-owings_under.ensures
    ∙ ap (λ (more : List Owing). owings_told c.new-owings.result.items ++ more)
    (keyed-under (record c.header.result { owner = c.args.tree }) c.args.node.now c.args.tree
    (ap (λ (h : Header). record h { owner = c.args.tree }) c.header.ensures))
    ∙ ap (λ (front : List Owing). front ++ keyed_children c.args.node.now c.args.tree) none
