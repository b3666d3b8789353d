use Rattle.std.proofs.Common.{◌++◌, ◌∙◌, sym, arith}
use Rattle.std.proofs.lemmas.List.Sums.{sum_by-append}
use Rattle.qg_shape.proofs.Aims.{IsCut-near}
use Rattle.qg_shape.proofs.joining.join_lists.Goals as goal

pub returns-clause-joined : goal.returns-clause-joined
returns-clause-joined g c =
    let weight = g.T.Weighed.weight in
    let left = c.args.left.now in
    let right = c.args.right.now in
    let weighs = sum_by-append weight left right ∙ sym c.requires.total in (
      omega (arith, weighs, c.if-total-room.false),
      IsCut-near 524 524 c.args.room c.args.total c.half.result weight (left ++ right) c.share.new.left
          c.share.new.right c.half.ensures weighs c.in_ok-share.ensures.whole c.in_ok-share.ensures.near,
    )
