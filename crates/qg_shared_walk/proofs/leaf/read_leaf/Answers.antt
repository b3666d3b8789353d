use Rattle.std.proofs.Common.{◌≡◌, ◌++◌, ap, ◌∙◌}
use Rattle.qg_tree_items.proofs.KeysOfParts.{files_ascending}
use Rattle.qg_shared_walk.proofs.leaf.read_leaf.Goals as goal

pub row_of-requires : goal.row_of-requires
row_of-requires c =
    let said = c.in_ok-add_said.ensures.said in
    let parts : c.add_said.new.parts ≡ said.parts = said.more
    ∙ ap (λ front. front ++ said.parts) c.in_ok-parts.ensures in
    rw (c.as_slice.ensures, parts)
    (files_ascending said.parts (record { items = c.args.items.now; said = said.said; ascending = c.requires }))
