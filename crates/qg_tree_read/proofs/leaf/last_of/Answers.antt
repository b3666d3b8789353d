use Rattle.std.proofs.Common.{◌≡◌, Some, ◌<◌, ℕ, arith, sym, subst, ap, ◌∙◌}
use Rattle.qg_shape.specs.Places.{GoesAt}
use Rattle.qg_tree_read.proofs.Leaves.{at-found, keys_of, last-back, last-first, last-there}
use Rattle.qg_tree_read.proofs.leaf.last_of.Goals as goal

pub returns-in_ok-copy-in-Ok : goal.returns-in_ok-copy-in-Ok
returns-in_ok-copy-in-Ok c =
    let there = at-found c.args.items.now c.in-Ok.place c.args.to c.index-items-place.result c.in-Ok.ensures.found
    c.index-items-place.is in
    ap Some c.in_ok-copy-in-Ok.ensures.copy
    ∙ sym (last-there c.args.to c.args.items.now c.in-Ok.place c.index-items-place.result c.requires there.0 there.1)

pub returns-in-Err-eq0 : goal.returns-in-Err-eq0
returns-in-Err-eq0 c =
    let low : c.in-Err-eq0.field-0 ≡ 0 = omega arith in
    sym (last-first c.args.to c.args.items.now
    (subst (λ (n : ℕ). GoesAt (keys_of c.args.items.now) c.args.to n) low c.in-Err-eq0.ensures.absent))

pub returns-in_ok-copy-in-Err : goal.returns-in_ok-copy-in-Err
returns-in_ok-copy-in-Err c =
    let above : 0 < c.in-Err.place = omega arith in
    ap Some c.in_ok-copy-in-Err.ensures.copy
    ∙ sym (last-back c.args.to c.args.items.now c.in-Err.place c.index-items-place-in-Err.result c.in-Err.ensures.absent
    above c.index-items-place-in-Err.is)
