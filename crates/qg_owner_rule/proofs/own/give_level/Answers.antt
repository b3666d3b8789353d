use Rattle.std.proofs.Common.{ℕ, ◌<◌, List, [], length, sym, subst, ◌∙◌, arith}
use Rattle.std.specs.List.{All}
use Rattle.std.proofs.lemmas.List.{get_or_default}
use Rattle.qg_owner_rule.specs.Housed.{StayOwn, WereGiven}
use Rattle.qg_owner_rule.proofs.Listed.{at_read}
use Rattle.qg_owner_rule.proofs.Owning.{below_within, level_more}
use Rattle.qg_owner_rule.proofs.own.give_level.Goals as goal
use Rattle.qg_owner_rule.proofs.own.give_level.Goals.{then-node-level+then-own-i, else-node-level}

pub give_to-requires-clause-inside : goal.give_to-requires-clause-inside
give_to-requires-clause-inside c =
    let nodes = c.args.nodes.now in
    let i = c.loop-i.i in
    let node = c.index-nodes-i.result in
    let here = at_read nodes i node c.loop-i-test.true c.index-nodes-i.is in
    let short : i < length c.args.below.now = omega (arith, c.loop-i-test.true, c.requires.below.same) in
    let below =
    c.as_slice.ensures ∙ c.index-below-i.is ∙ get_or_default c.args.below.now i c.index-below-i.result [] short in
    subst (All (λ (place : ℕ). place < length nodes)) (sym below)
    (below_within nodes c.args.below.now i node c.requires.below here)

pub loop-i-preserved : goal.loop-i-preserved
loop-i-preserved c =
    let nodes = c.args.nodes.now in
    let i = c.loop-i.i in
    let node = c.index-nodes-i.result in
    let here = at_read nodes i node c.loop-i-test.true c.index-nodes-i.is in
    elim c.if-node-level.branch [
      | then-node-level+then-own-i w ↦
          let short : i < length c.args.below.now = omega (arith, c.loop-i-test.true, c.requires.below.same) in
          let below =
          w.as_slice.ensures ∙ w.index-below-i.is
          ∙ get_or_default c.args.below.now i w.index-below-i.result [] short in
          let given =
          subst (λ (places : List ℕ). WereGiven nodes places node.owner c.loop-i.own w.give_to.new.own) below
          w.give_to.ensures in
          subst (StayOwn nodes c.args.own.now) (sym w.own-is)
          (level_more nodes c.args.below.now i node c.args.own.now c.loop-i.own w.give_to.new.own c.requires.below here
          w.if-own-i.true c.loop-i.invariant given)
      | else-node-level w ↦ subst (StayOwn nodes c.args.own.now) (sym w.own-is) c.loop-i.invariant
    ]
