use Rattle.std.proofs.Common.{◌<◌, ◌≤◌, ◌+◌, List, ℕ, IfNone, length, get_or, sym, ap, subst, ◌∙◌}
use Rattle.std.specs.List.{All}
use Rattle.qg_owner_rule.specs.declared.linked.Linked.{Linked}
use Rattle.qg_owner_rule.specs.Places.{IsUnder, ArePlacesBelow}
use Rattle.qg_owner_rule.proofs.Pointing.{cut, places_same, places_more, places_all}
use Rattle.qg_owner_rule.proofs.below.places_below.Goals as goal
use Rattle.qg_owner_rule.proofs.below.places_below.Goals.{in-Some+in_ok-push, in_default}

pub loop-child-preserved : goal.loop-child-preserved
loop-child-preserved c =
    let nodes = c.args.nodes.now in
    let parent = c.args.parent.now in
    let i = c.loop-child.child-index in
    let child = c.child-item.result in
    let short = subst (λ (list : List ℕ). i < length list) c.as_slice-child-items.ensures c.loop-child-test.true in
    let is = c.child-item.is ∙ ap (λ (list : List ℕ). get_or list i child) c.as_slice-child-items.ensures in
    elim c.match-place_below.branch [
      | in-Some+in_ok-push w ↦
          subst (ArePlacesBelow nodes (cut parent (i + 1))) (sym (w.places-is ∙ w.in_ok-push.ensures.ok))
          (places_more nodes parent i child c.loop-child.places short is c.loop-child.invariant w.in-Some.place
          c.requires w.in-Some.ensures.there)
      | in_default w ↦
          subst (ArePlacesBelow nodes (cut parent (i + 1))) (sym w.places-is)
          (places_same nodes parent i child c.loop-child.places short is c.loop-child.invariant
          (subst (λ found. IfNone found (All (λ (node : Linked). IsUnder parent child node → ⊥) nodes))
          w.in_default.is c.place_below.ensures.absent))
    ]

pub returns : goal.returns
returns c =
    let all =
    subst (λ (list : List ℕ). length list ≤ c.loop-child.child-index)
    c.as_slice-child-items.ensures c.loop-child-test.false in
    places_all c.args.nodes.now c.args.parent.now c.loop-child.child-index c.loop-child.places all
    c.loop-child.invariant
