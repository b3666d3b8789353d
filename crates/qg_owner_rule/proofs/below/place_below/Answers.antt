use Rattle.std.proofs.Common.{ap, ◌∙◌, arith}
use Rattle.std.proofs.lemmas.Option.{slice_get_within}
use Rattle.qg_owner_rule.specs.declared.linked.Linked.{Linked}
use Rattle.qg_owner_rule.proofs.Listed.{at_one, at_read}
use Rattle.qg_owner_rule.proofs.Pointing.{none_under, none_under_leaf}
use Rattle.qg_owner_rule.proofs.below.place_below.Goals as goal
use Rattle.qg_owner_rule.proofs.below.place_below.Goals.{else-parent-gt0-via-then-parent-gt0+else-nodes-place}
use Rattle.qg_owner_rule.proofs.below.place_below.Goals.{else-parent-gt0-via-else-parent-gt0}

pub returns-else-parent-gt0-clause-absent : goal.returns-else-parent-gt0-clause-absent
returns-else-parent-gt0-clause-absent c =
    let nodes = c.args.nodes.now in
    let parent = c.args.parent.now in
    elim c.else-parent-gt0.branch [
      | else-parent-gt0-via-then-parent-gt0+else-nodes-place w ↦
          let found = c.in_ok-place.ensures.there in
          let node = w.index-nodes-place.result in
          let inside = slice_get_within nodes c.in_ok-place.place found.0 found.1 in
          let at = at_read nodes c.in_ok-place.place node inside w.index-nodes-place.is in
          let one = at_one nodes c.in_ok-place.place node found.0 at found.1 in
          none_under nodes parent c.args.address c.in_ok-place.place node c.requires at
          (ap (λ (n : Linked). n.address) one ∙ found.2)
          (λ lower.
          omega (
            arith,
            lower,
            w.if-parent-gt0.true,
            w.if-nodes-place.false,
            ap (λ (n : Linked). n.level)
                w.index-nodes-place.is,
          ))
      | else-parent-gt0-via-else-parent-gt0 w ↦ none_under_leaf nodes parent c.args.address w.if-parent-gt0.false
    ]
