use Rattle.std.proofs.Common.{◌≡◌, ◌++◌, ◌∷◌, [], List, true, sym, ap, subst, ◌∙◌}
use Rattle.std.specs.Ordering.{is_lt}
use Rattle.qg_num.specs.Key.{key_cmp}
use Rattle.qg_node.specs.declared.pointer.Pointer.{Pointer}
use Rattle.qg_node.specs.declared.node.Node.TheVariants.{Inner}
use Rattle.qg_node.specs.NodeText.{IsNode}
use Rattle.qg_tree_edits.proofs.RootEdited.{above-sound}
use Rattle.qg_tree_edits.proofs.rooting.node_above.Goals as goal

pub returns-then-is_before-clause-sound : goal.returns-then-is_before-clause-sound
returns-then-is_before-clause-sound c size sized =
    let list : c.push-then-is_before.new.self ≡ c.pointer_to-first.result ∷ c.pointer_to-second.result ∷ [] =
    c.in_ok-push-2.ensures.ok
    ∙ ap (λ (xs : List Pointer). xs ++ c.pointer_to-second.result ∷ []) (c.in_ok-push.ensures.ok
    ∙ ap (λ (xs : List Pointer). xs ++ c.pointer_to-first.result ∷ []) c.new-pointers.ensures) in
    let less : is_lt (key_cmp c.pointer_to-first.result.key c.pointer_to-second.result.key) ≡ true =
    sym c.is_before.ensures ∙ c.if-is_before.true in
    subst (λ (xs : List Pointer). IsNode size (Inner c.args.header xs)) (sym list)
    (above-sound size c.args.header c.pointer_to-first.result c.pointer_to-second.result sized c.requires.level.0
    c.requires.level.1 less)
