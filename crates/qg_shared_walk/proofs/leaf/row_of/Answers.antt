use Rattle.std.proofs.Common.{◌≡◌, ◌+◌, List, ◌∷◌, ◌++◌, [], map, take, drop, sym, ap, subst, ◌∙◌}
use Rattle.std.specs.Prelude.{IsTrue}
use Rattle.std.proofs.lemmas.List.{take-append-drop, take_more}
use Rattle.qg_node.specs.Nodes.{is_ascending}
use Rattle.qg_image.specs.declared.part.FilePart.{FilePart}
use Rattle.qg_tree_items.specs.Keys.{file_key}
use Rattle.qg_tree_items.specs.Rows.{Tells}
use Rattle.qg_tree_items.proofs.KeysAscend.{ascending_front}
use Rattle.qg_shared_walk.proofs.leaf.row_of.Goals as goal

pub loop-part-preserved : goal.loop-part-preserved
loop-part-preserved c =
    let parts = c.args.parts.now in
    let index = c.loop-part.part-index in
    let part = c.part-item.result in
    let front = take index parts in
    let longer : take (index + 1) parts ≡ front ++ part ∷ [] =
    take_more parts index part c.loop-part-test.true ∙ ap (λ (p : FilePart). front ++ p ∷ []) (sym c.part-item.is) in
    let whole : take (index + 1) parts ++ drop (index + 1) parts ≡ parts = take-append-drop (index + 1) parts in
    let ascends : IsTrue (is_ascending (map file_key (take (index + 1) parts))) =
    ascending_front (take (index + 1) parts) (drop (index + 1) parts)
    (subst (λ (ps : List FilePart). IsTrue (is_ascending (map file_key ps))) (sym whole) c.requires) in
    subst (λ (ps : List FilePart). Tells c.push.new.self ps) (sym longer)
    (c.push.ensures front c.loop-part.invariant
    (subst (λ (ps : List FilePart). IsTrue (is_ascending (map file_key ps))) longer ascends))
