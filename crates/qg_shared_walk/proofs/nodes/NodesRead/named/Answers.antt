use Rattle.std.proofs.Common.{◌≡◌, ◌≤◌, ◌<◌, ◌++◌, List, arith, length, get_or, ap, sym, subst, ◌∙◌}
use Rattle.std.proofs.lemmas.List.{take_all}
use Rattle.qg_image.specs.declared.element.Element.{Element}
use Rattle.qg_shared_walk.specs.declared.nodes.NodeRead.{NodeRead}
use Rattle.qg_shared_walk.proofs.Naming.{extents_told, one_more_read}
use Rattle.qg_shared_walk.proofs.nodes.NodesRead.named.Goals as goal

pub loop-node-preserved : goal.loop-node-preserved
loop-node-preserved c =
    let reads = c.args.self.now.nodes.items in
    let i = c.loop-node.node-index in
    let read = c.node-item.result in
    let slice = c.as_slice-node-items.ensures.value in
    let short = subst (λ (list : List NodeRead). c.loop-node.node-index < length list) slice c.loop-node-test.true in
    let here = subst (λ (list : List NodeRead). c.node-item.result
    ≡ get_or list c.loop-node.node-index c.node-item.result)
    slice c.node-item.is in
    c.in_ok-put_extents.ensures ∙ ap (λ (own : List Element). c.loop-node.named.items ++ own) c.as_slice.ensures
    ∙ ap (λ (all : List Element). all ++ c.node-item.result.extents) c.loop-node.invariant
    ∙ sym (one_more_read reads i read short here)

pub returns : goal.returns
returns c =
    let reads = c.args.self.now.nodes.items in
    let end : length reads ≤ c.loop-node.node-index = omega (
      arith,
      ap length c.as_slice-node-items.ensures.value,
      c.loop-node-test.false,
    ) in
    c.loop-node.invariant ∙ ap extents_told (take_all c.loop-node.node-index reads end)
