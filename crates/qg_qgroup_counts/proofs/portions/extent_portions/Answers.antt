use Rattle.std.proofs.Common.{◌≡◌, ℕ, ◌+◌, ◌<◌, List, [], length, map, sym, subst, ◌∙◌, arith}
use Rattle.std.specs.Prelude.{slice_index}
use Rattle.std.proofs.lemmas.List.{get_or_default}
use Rattle.qg_owner_rule.proofs.Listed.{at_read}
use Rattle.qg_qgroup_counts.specs.Sets.{IsUnionOf}
use Rattle.qg_qgroup_counts.proofs.ExtentsInTurn.{Told, first_all, told_more, told_none}
use Rattle.qg_qgroup_counts.proofs.portions.extent_portions.Goals as goal

pub loop-i-init : goal.loop-i-init
loop-i-init c =
    let reached = c.args.reached.now in
    subst (Told reached reached c.args.namers.now c.args.extents.now 0) (sym c.in_ok-portions.ensures.items)
    (told_none reached c.args.namers.now c.args.extents.now)

pub loop-i-preserved : goal.loop-i-preserved
loop-i-preserved c =
    let extents = c.args.extents.now in
    let namers = c.args.namers.now in
    let i = c.loop-i.i in
    let extent = c.index-extents-i.result in
    let here = at_read extents i extent c.loop-i-test.true c.index-extents-i.is in
    let inside : i < length namers = omega (arith, c.requires, c.loop-i-test.true) in
    let places = c.as_slice.ensures ∙ c.index-namers-i.is ∙ get_or_default namers i c.index-namers-i.result [] inside in
    let mid = c.loop-i.reached in
    let new = c.portion_of.new.reached in
    let portion = c.in_ok-portion_of.field-0 in
    let union =
    subst (λ (list : List ℕ). IsUnionOf mid.sets.rows.items []
    (map (λ (place : ℕ). slice_index mid.numbers.items place) list) new.sets.rows.items portion.set) places
    c.in_ok-portion_of.ensures.union in
    subst (Told c.args.reached.now new namers extents (i + 1)) (sym c.in_ok-push.ensures.items)
    (told_more c.args.reached.now mid new namers extents i c.loop-i.portions.items extent portion c.loop-i.invariant
    here
    c.in_ok-portion_of.ensures.bytes union c.in_ok-portion_of.ensures.reach)

pub returns : goal.returns
returns c = λ links roots told within.
    let end : c.loop-i.i ≡ length c.args.extents.now = omega arith in
    let done = c.loop-i.invariant links roots told within in (
      done.0,
      first_all links roots c.loop-i.reached.sets.rows.items c.args.namers.now c.args.extents.now c.loop-i.i
          c.loop-i.portions.items end done.1,
    )
