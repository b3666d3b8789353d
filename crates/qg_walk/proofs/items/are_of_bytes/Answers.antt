use Rattle.std.proofs.Common.{ℕ, List, subst}
use Rattle.std.proofs.lemmas.List.Elements.{All-more}
use Rattle.qg_num.specs.Fields.{IsBytes}
use Rattle.qg_node.specs.declared.item.Item.{Item}
use Rattle.qg_walk.proofs.items.are_of_bytes.Goals as goal

pub loop-item-preserved : goal.loop-item-preserved
loop-item-preserved c =
    let body : IsBytes c.item-item.result.body =
    subst (λ (bytes : List ℕ). IsBytes bytes) c.as_slice.ensures c.are_bytes.ensures in
    All-more (λ (item : Item). IsBytes item.body) c.args.items.now c.loop-item.item-index c.item-item.result
    c.loop-item-test.true c.loop-item.invariant (subst (λ (item : Item). IsBytes item.body) c.item-item.is body)
