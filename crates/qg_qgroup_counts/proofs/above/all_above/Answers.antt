use Rattle.std.proofs.Common.{ℕ, ◌<◌, List, length, sym, ap, subst, ◌∙◌}
use Rattle.std.specs.List.{All}
use Rattle.std.proofs.lemmas.List.{take_at}
use Rattle.qg_qgroup_counts.specs.Above.{AreAbove, AreTurned}
use Rattle.qg_qgroup_counts.proofs.Turning.{below_within, above_all}
use Rattle.qg_qgroup_counts.proofs.above.all_above.Goals as goal

pub turn-requires-clause-inside : goal.turn-requires-clause-inside
turn-requires-clause-inside c =
    let lists = c.as_mut_slice.result.now in
    let long = ap (λ (list : List (List ℕ)). length list) c.as_mut_slice.ensures.value ∙ c.in_ok-above.ensures.same in
    subst (All (λ (places : List ℕ). All (λ (place : ℕ). place < length lists) places)) (sym c.as_slice.ensures.value)
    (below_within c.args.nodes.now c.in_ok-below.below.items c.in_ok-below.ensures (length lists) long)

pub returns : goal.returns
returns c =
    let nodes = c.args.nodes.now in
    let above = c.in_ok-above.above in
    let below = c.in_ok-below.below.items in
    let new = c.turn.new.above in
    let value = c.as_mut_slice.ensures.value in
    let long = c.turn.auto.above ∙ ap (λ (list : List (List ℕ)). length list) value in
    let turned =
    subst (λ (list : List (List ℕ)). AreTurned list new) c.as_slice.ensures.value c.in_ok-turn.ensures.turned in
    subst (AreAbove nodes) (sym (take_at new _ above.len (long ∙ sym above.ok.0)))
    (above_all nodes below c.in_ok-below.ensures new (long ∙ c.in_ok-above.ensures.same) turned)
