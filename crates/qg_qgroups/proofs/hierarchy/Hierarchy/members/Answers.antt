use Rattle.std.proofs.Common.{ℕ, ◌<◌, ◌≤◌, sym, ◌∙◌, arith}
use Rattle.qg_qgroups.proofs.Order.{greatest_above, greatest_falls, greatest_of}
use Rattle.qg_qgroups.proofs.Related.{above_nothing}
use Rattle.qg_qgroups.proofs.Walks.{descend_begin, descend_end, descend_more, has_one, seen_kept, seen_sound}
use Rattle.qg_qgroups.proofs.Walks.{stepped_less}
use Rattle.qg_qgroups.proofs.Walks.{with_members}
use Rattle.qg_qgroups.proofs.hierarchy.Hierarchy.members.Goals as goal

pub loop-last-init : goal.loop-last-init
loop-last-init c =
    let n = c.self.inside in
    let number = c.number-number.result in
    let kept = seen_kept n.groups n.up c.args.self.now number c.args.group c.self.view_is c.number-number.ensures
    (sym c.if-not-has_number.ensures) in
    let one = has_one number c.args.group c.new-pending.result.keys c.put_number.new.numbers.keys
    c.number-number.ensures c.new-pending.ensures.empty c.in_ok-put_number.ensures.has in
    descend_begin c.args.self.now c.args.group c.put_number.new.numbers.keys kept c.put_number.ensures.ordered one

pub loop-last-smaller : goal.loop-last-smaller
loop-last-smaller c =
    let n = c.self.inside in
    let last = c.in-Some.last in
    let old = c.loop-last.pending.keys in
    let new = c.put_others.new.into.keys in
    let sound = seen_sound n.groups n.up n.down c.args.self.now c.self.invariant c.self.view_is in
    let stepped = with_members n.groups n.up n.down c.args.self.now last old c.take_number.new.numbers.keys new
    c.self.invariant c.self.view_is c.take_number.ensures.has c.in_ok-put_others.ensures.has in
    let less : greatest_of new < last = greatest_falls last new (above_nothing last c.in-Some.ensures.above)
    (stepped_less c.args.self.now last old new sound c.in-Some.ensures stepped) in
    let most : last ≤ greatest_of old = greatest_above last old c.in-Some.ensures.there in
    less_through less most where
      less_through : {a b d : ℕ} → a < b → b ≤ d → a < d
      less_through {a} {b} {d} g h = omega (arith, g, h)

pub loop-last-preserved : goal.loop-last-preserved
loop-last-preserved c =
    let n = c.self.inside in
    let last = c.in-Some.last in
    let old = c.loop-last.pending.keys in
    let new = c.put_others.new.into.keys in
    let sound = seen_sound n.groups n.up n.down c.args.self.now c.self.invariant c.self.view_is in
    let stepped = with_members n.groups n.up n.down c.args.self.now last old c.take_number.new.numbers.keys new
    c.self.invariant c.self.view_is c.take_number.ensures.has c.in_ok-put_others.ensures.has in
    descend_more c.args.self.now c.args.group last old new sound c.loop-last.invariant c.in-Some.ensures stepped
    c.put_others.ensures.ordered

pub returns-clause-ok : goal.returns-clause-ok
returns-clause-ok c =
    let n = c.self.inside in
    let sound = seen_sound n.groups n.up n.down c.args.self.now c.self.invariant c.self.view_is in
    c.in_ok-subvolumes_of.ensures
    ∙ descend_end c.args.self.now c.args.group c.loop-last.pending.keys sound c.loop-last.invariant
    c.in_default.ensures
