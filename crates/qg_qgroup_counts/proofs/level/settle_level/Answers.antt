use Rattle.std.proofs.Common.{ℕ, ◌+◌, ◌<◌, List, [], length, map, get_or, set, sym, ap, subst, ◌∙◌, arith}
use Rattle.std.specs.List.{All}
use Rattle.std.proofs.lemmas.List.{get_or_default, length-set}
use Rattle.qg_owner_rule.proofs.Listed.{at_read}
use Rattle.qg_qgroup_counts.specs.declared.reached.Reached.{Reached}
use Rattle.qg_qgroup_counts.specs.Sets.{IsUnionOf}
use Rattle.qg_qgroup_counts.specs.Reached.{IsSized}
use Rattle.qg_qgroup_counts.proofs.Settling.{SettledFirst, places_within, settled_all, settled_same, all_inside}
use Rattle.qg_qgroup_counts.proofs.Settling.{settled_more}
use Rattle.qg_qgroup_counts.proofs.level.settle_level.Goals as goal
use Rattle.qg_qgroup_counts.proofs.level.settle_level.Goals.{then-node-level+in_ok-over+in_ok-reached, else-node-level}

pub sets_at-requires : goal.sets_at-requires
sets_at-requires c =
    let nodes = c.args.nodes.now in
    let above = c.args.ways.now.above.items in
    let i = c.loop-i.i in
    let node = c.index-nodes-i.result in
    let at = at_read nodes i node c.loop-i-test.true c.index-nodes-i.is in
    let short : i < length above = omega (arith, c.loop-i-test.true, c.requires.sized.above.same) in
    let list =
    c.as_slice-then-node-level.ensures ∙ c.index.ensures ∙ get_or_default above i c.index.result.now [] short in
    let long =
    ap (λ (numbers : List ℕ). length numbers) c.as_slice.ensures.value ∙ c.loop-i.invariant.sized.same in
    subst (All (λ (place : ℕ). place < length c.as_slice.result.now)) (sym list)
    (places_within nodes above i node (length c.as_slice.result.now) c.requires.sized.above at long)

pub loop-i-preserved : goal.loop-i-preserved
loop-i-preserved c =
    let nodes = c.args.nodes.now in
    let above = c.args.ways.now.above.items in
    let own = c.args.ways.now.own.items in
    let i = c.loop-i.i in
    let node = c.index-nodes-i.result in
    let at = at_read nodes i node c.loop-i-test.true c.index-nodes-i.is in
    let numbers = c.loop-i.reached.numbers.items in
    let old = c.loop-i.reached.sets.rows.items in
    let sized = c.loop-i.invariant.sized in
    let short : i < length above = omega (arith, c.loop-i-test.true, sized.above.same) in
    let short-own : i < length own = omega (arith, c.loop-i-test.true, sized.own) in
    elim c.if-node-level.branch [
      | then-node-level+in_ok-over+in_ok-reached w ↦
          let made = w.in_ok-reached.field-0 in
          let new = w.union_with.new.self.rows.items in
          let list =
          w.as_slice-then-node-level.ensures ∙ w.index.ensures ∙ get_or_default above i w.index.result.now [] short in
          let over =
          w.as_slice-then-node-level-2.ensures ∙ w.in_ok-over.ensures
          ∙ ap (λ (ns : List ℕ). map (λ place. get_or ns place 0) w.as_slice-then-node-level.result.now)
          w.as_slice.ensures.value
          ∙ ap (λ (places : List ℕ). map (λ place. get_or numbers place 0) places) list in
          let begun =
          w.as_slice-own.ensures ∙ w.index-then-node-level.ensures
          ∙ get_or_default own i w.index-then-node-level.result.now [] short-own in
          let union =
          subst (λ (row : List ℕ). IsUnionOf old row (map (λ place. get_or numbers place 0) (get_or above i [])) new
          made)
          begun
          (subst (λ (sets : List ℕ). IsUnionOf old w.as_slice-own.result.now sets new made) over
          w.in_ok-reached.ensures) in
          let is-numbers = ap (λ (reached : Reached). reached.numbers.items) w.reached-is in
          let is-rows = ap (λ (reached : Reached). reached.sets.rows.items) w.reached-is in
          record {
            sized = record {
              above = sized.above;
              own = sized.own;
              same = ap (λ (list' : List ℕ). length list') is-numbers ∙ length-set numbers i made ∙ sized.same;
              inside = subst (All (λ one. one < length c.if-node-level.reached.sets.rows.items)) (sym is-numbers)
                  (subst (λ (rows : List (List ℕ)). All (λ one. one < length rows) (set numbers i made)) (sym is-rows)
                  (all_inside nodes i numbers old new node at above own sized.above sized.same sized.inside made
                  union));
            };
            settled = λ roots ways from.
                subst (λ (ns : List ℕ).
                SettledFirst nodes roots c.args.level (i + 1) ns c.if-node-level.reached.sets.rows.items)
                (sym is-numbers)
                (subst (λ (rows : List (List ℕ)). SettledFirst nodes roots c.args.level (i + 1)
                (set numbers i made) rows)
                (sym is-rows)
                (settled_more nodes i numbers old new node at above own sized.above sized.same sized.inside made union
                roots c.args.level w.if-node-level.true ways.own (c.loop-i.invariant.settled roots ways from)));
          }
      | else-node-level w ↦
          let is = sym w.reached-is in
          record {
            sized = subst (IsSized nodes c.args.ways.now) is sized;
            settled = λ roots ways from.
                subst (λ (reached : Reached).
                SettledFirst nodes roots c.args.level (i + 1) reached.numbers.items reached.sets.rows.items) is
                (settled_same nodes roots c.args.level i numbers old node at w.if-node-level.false
                (c.loop-i.invariant.settled roots ways from));
          }
    ]

pub returns-clause-settles : goal.returns-clause-settles
returns-clause-settles c = λ roots ways from.
    settled_all c.args.nodes.now roots c.args.level c.loop-i.i c.loop-i.reached.numbers.items
    c.loop-i.reached.sets.rows.items c.loop-i-test.false (c.loop-i.invariant.settled roots ways from)
