use Rattle.std.proofs.Common.{◌≡◌, ℕ, ◌<◌, ◌+◌, [], List, length, take, get_or, sym, subst, ◌∙◌, arith}
use Rattle.std.specs.Int.{bit_at}
use Rattle.std.specs.List.{All}
use Rattle.std.proofs.lemmas.List.{get_or_default}
use Rattle.qg_owner_rule.specs.Marks.{HaveAlso, AreSpread}
use Rattle.qg_owner_rule.proofs.Listed.{at_read}
use Rattle.qg_owner_rule.proofs.Marking.{none_marked}
use Rattle.qg_owner_rule.proofs.Spreading.{below_inside, spread_same, spread_more, spread_all}
use Rattle.qg_owner_rule.proofs.marks.spread_level.Goals as goal
use Rattle.qg_owner_rule.proofs.marks.spread_level.Goals.{then-node-level+then-rows-i-ne0, else-node-level}
use Rattle.qg_owner_rule.proofs.marks.spread_level.Goals.{else-node-level-via-then-node-level+else-rows-i-ne0}
use Rattle.qg_owner_rule.proofs.marks.spread_level.Goals.{else-node-level-via-else-node-level}

pub add_marks-requires : goal.add_marks-requires
add_marks-requires c =
    let nodes = c.args.nodes.now in
    let i = c.loop-i.i in
    let node = c.index-nodes-i.result in
    let at = at_read nodes i node c.loop-i-test.true c.index-nodes-i.is in
    let same : length c.loop-i.rows ≡ length nodes = omega (arith, c.loop-i.auto.rows, c.requires.same) in
    let short : i < length c.args.below.now = omega (arith, c.loop-i-test.true, c.requires.below.same) in
    let below =
    c.as_slice.ensures ∙ c.index-below-i.is ∙ get_or_default c.args.below.now i c.index-below-i.result [] short in
    subst (All (λ (place : ℕ). place < length c.loop-i.rows)) (sym below)
    (below_inside nodes c.args.below.now c.loop-i.rows i node c.requires.below at same)

pub loop-i-preserved : goal.loop-i-preserved
loop-i-preserved c =
    let nodes = c.args.nodes.now in
    let i = c.loop-i.i in
    let node = c.index-nodes-i.result in
    let at = at_read nodes i node c.loop-i-test.true c.index-nodes-i.is in
    elim c.if-node-level.branch [
      | then-node-level+then-rows-i-ne0 w ↦
          let short : i < length c.args.below.now = omega (arith, c.loop-i-test.true, c.requires.below.same) in
          let below =
          w.as_slice.ensures ∙ w.index-below-i.is
          ∙ get_or_default c.args.below.now i w.index-below-i.result [] short in
          let also =
          subst (λ (places : List ℕ).
          HaveAlso places (get_or c.loop-i.rows i 0) c.loop-i.rows w.add_marks.new.rows)
          below w.add_marks.ensures in
          subst (AreSpread (take (i + 1) nodes) nodes c.args.level c.args.rows.now) (sym w.rows-is)
          (spread_more nodes c.args.level i node at c.args.below.now c.args.rows.now c.loop-i.rows w.add_marks.new.rows
          w.if-node-level.true c.requires.below c.loop-i.invariant also)
      | else-node-level w ↦
          subst (AreSpread (take (i + 1) nodes) nodes c.args.level c.args.rows.now) (sym w.rows-is)
          (spread_same nodes c.args.level i node at c.args.rows.now c.loop-i.rows
          (λ is bit has. elim w.else-node-level.branch [
            | else-node-level-via-then-node-level+else-rows-i-ne0 w' ↦
                none_marked bit (subst (λ marks. bit_at marks bit ≡ 1) w'.if-rows-i-ne0.false has)
            | else-node-level-via-else-node-level w' ↦ w'.if-node-level.false is
          ]) c.loop-i.invariant)
    ]

pub returns : goal.returns
returns c =
    spread_all c.args.nodes.now c.loop-i.i c.args.level c.args.rows.now c.loop-i.rows c.loop-i-test.false
    c.loop-i.invariant
