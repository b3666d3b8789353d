use Rattle.std.proofs.Common.{◌+◌, take, get_or, sym, ap, subst, ◌∙◌}
use Rattle.std.proofs.lemmas.Bool.{eqb-true}
use Rattle.std.proofs.lemmas.List.{take_all, get_or_default}
use Rattle.qg_owner_rule.specs.declared.linked.Linked.{Linked}
use Rattle.qg_owner_rule.specs.Housed.{WereGiven}
use Rattle.qg_owner_rule.proofs.Listed.{at_read}
use Rattle.qg_owner_rule.proofs.Owning.{given_more, given_same}
use Rattle.qg_owner_rule.proofs.own.give_to.Goals as goal
use Rattle.qg_owner_rule.proofs.own.give_to.Goals.{then-eq, else-eq}

pub loop-place-preserved : goal.loop-place-preserved
loop-place-preserved c =
    let nodes = c.args.nodes.now in
    let places = c.args.places.now in
    let i = c.loop-place.place-index in
    let short = c.loop-place-test.true in
    let at = get_or places i 0 in
    let read = get_or_default places i 0 at short in
    let node = c.index-nodes-place.result in
    let here = at_read nodes at node (c.requires.inside i 0 short) c.index-nodes-place.is in
    let before = c.loop-place.invariant in
    let Given = WereGiven nodes (take (i + 1) places) c.args.owner c.args.own.now in
    elim c.if-eq.branch [
      | then-eq w ↦
          let same =
          ap (λ (n : Linked). n.owner) c.index-nodes-place.is
          ∙ eqb-true (get_or nodes at node).owner c.args.owner (sym c.eq.ensures ∙ w.if-eq.true) in
          subst Given (sym w.own-is)
          (given_more nodes places c.args.owner c.args.own.now c.loop-place.own i at node short read here before same)
      | else-eq w ↦
          subst Given (sym w.own-is)
          (given_same nodes places c.args.owner c.args.own.now c.loop-place.own i at node short read here before)
    ]

pub returns : goal.returns
returns c =
    subst (λ places. WereGiven c.args.nodes.now places c.args.owner c.args.own.now c.loop-place.own)
    (take_all c.loop-place.place-index c.args.places.now c.loop-place-test.false) c.loop-place.invariant
