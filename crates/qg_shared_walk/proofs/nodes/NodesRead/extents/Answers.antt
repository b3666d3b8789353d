use Rattle.std.proofs.Common.{ap, ◌∙◌}
use Rattle.qg_image.specs.Verdict.{extent_set}
use Rattle.qg_reach.proofs.Members.{same_moved, same_back}
use Rattle.qg_reach.proofs.ExtentSets.{extent_set_of_same}
use Rattle.qg_shared_walk.proofs.Naming.{named_of_nodes}
use Rattle.qg_shared_walk.proofs.nodes.NodesRead.extents.Goals as goal

pub returns : goal.returns
returns c = λ nodes are.
    let named = c.in_ok-named.named.items in
    let sorted = c.sort.new.extents.items in
    c.in_ok-without_repeats.ensures ∙ ap extent_set c.as_slice.ensures.value
    ∙ extent_set_of_same sorted named (same_back named sorted (same_moved named sorted c.sort.ensures.moved))
    ∙ ap extent_set (c.in_ok-named.ensures ∙ named_of_nodes c.args.self.now.nodes.items nodes are)
