use Rattle.std.proofs.Common.{◌+◌, ◌++◌, ◌∷◌, [], List, ℕ, sym, ap, subst, ◌∙◌, arith}
use Rattle.qg_owner_rule.proofs.Listed.{at_read}
use Rattle.qg_image_commits.proofs.Owned.{AreSetsFirst, no-sets, sets-all, sets-more, sets-same}
use Rattle.qg_image_commits.proofs.ownership.sets_at.Goals as goal
use Rattle.qg_image_commits.proofs.ownership.sets_at.Goals.{then-has_at+in_ok-push, else-has_at}

pub loop-i-init : goal.loop-i-init
loop-i-init c =
    subst (λ (sets : List ℕ). AreSetsFirst c.args.reached.now c.args.nodes.now c.args.address 0 sets)
    (sym c.new-sets.ensures) (no-sets c.args.reached.now c.args.nodes.now c.args.address)

pub loop-i-preserved : goal.loop-i-preserved
loop-i-preserved c =
    let reached = c.args.reached.now in
    let nodes = c.args.nodes.now in
    let i = c.loop-i.i in
    let node = c.index-nodes-i.result in
    let here = at_read nodes i node c.loop-i-test.true c.index-nodes-i.is in
    elim c.if-has_at.branch [
      | then-has_at+in_ok-push w ↦
          subst (λ (sets : List ℕ). AreSetsFirst reached nodes c.args.address (i + 1) sets)
          (sym (w.sets-is ∙ w.in_ok-push.ensures.ok ∙ ap (λ (set : ℕ). c.loop-i.sets ++ set ∷ []) w.set_of.ensures))
          (sets-more reached nodes c.args.address i node c.loop-i.sets here c.loop-i.invariant
          (sym c.has_at.ensures ∙ w.if-has_at.true))
      | else-has_at w ↦
          subst (λ (sets : List ℕ). AreSetsFirst reached nodes c.args.address (i + 1) sets) (sym w.sets-is)
          (sets-same reached nodes c.args.address i node c.loop-i.sets here c.loop-i.invariant
          (sym c.has_at.ensures ∙ w.if-has_at.false))
    ]

pub returns : goal.returns
returns c =
    sets-all c.args.reached.now c.args.nodes.now c.args.address c.loop-i.i c.loop-i.sets
    (λ less. omega (arith, less, c.loop-i-test.false)) c.loop-i.invariant
