use Rattle.std.proofs.Common.{ℕ, ◌-◌, ◌<◌, ◌^◌, List, [], ◌∷◌, ◌++◌, sym, ap, subst, ◌∙◌, arith}
use Rattle.qg_qgroups.proofs.Order.{first_of, first_rises}
use Rattle.qg_qgroups.proofs.Walks.{Climbs, climb_begin, climb_end, climb_less, climb_more, has_one, seen_kept}
use Rattle.qg_qgroups.proofs.Walks.{seen_sound}
use Rattle.qg_qgroups.proofs.Walks.{with_parents}
use Rattle.qg_qgroups.proofs.hierarchy.Hierarchy.above.Goals as goal

pub loop-next-init : goal.loop-next-init
loop-next-init c =
    let n = c.self.inside in
    let number = c.number-number.result in
    let kept = seen_kept n.groups n.up c.args.self.now number c.args.group c.self.view_is c.number-number.ensures
    (sym c.if-not-has_number.ensures) in
    let one = has_one number c.args.group c.new-pending.result.keys c.put_number.new.numbers.keys
    c.number-number.ensures c.new-pending.ensures.empty c.in_ok-put_number.ensures.has in
    subst (λ (above : List ℕ). Climbs c.args.self.now c.args.group above c.put_number.new.numbers.keys)
    (sym c.new-above.ensures)
    (climb_begin c.args.self.now c.args.group c.put_number.new.numbers.keys kept c.put_number.ensures.ordered one)

pub loop-next-smaller : goal.loop-next-smaller
loop-next-smaller c =
    let n = c.self.inside in
    let next = c.in-Some.next in
    let sound = seen_sound n.groups n.up n.down c.args.self.now c.self.invariant c.self.view_is in
    let more = with_parents n.groups n.up c.args.self.now next c.take_least.new.numbers.keys c.put_others.new.into.keys
    c.self.view_is c.in_ok-put_others.ensures.has in
    let less = climb_less c.args.self.now c.args.group next c.loop-next.above c.loop-next.pending.keys
    c.take_least.new.numbers.keys c.put_others.new.into.keys sound c.loop-next.invariant c.in-Some.ensures.taken
    more in
    subst (λ (ns : List ℕ). 2 ^ 64 - first_of c.put_others.new.into.keys < 2 ^ 64 - first_of ns)
    (sym c.in-Some.ensures.taken)
    (first_rises next c.put_others.new.into.keys (omega arith) less)

pub loop-next-preserved : goal.loop-next-preserved
loop-next-preserved c =
    let n = c.self.inside in
    let next = c.in-Some.next in
    let sound = seen_sound n.groups n.up n.down c.args.self.now c.self.invariant c.self.view_is in
    let more = with_parents n.groups n.up c.args.self.now next c.take_least.new.numbers.keys c.put_others.new.into.keys
    c.self.view_is c.in_ok-put_others.ensures.has in
    subst (λ (above : List ℕ). Climbs c.args.self.now c.args.group above c.put_others.new.into.keys)
    (sym (c.in_ok-push.ensures.ok ∙ ap (λ (m : ℕ). c.loop-next.above ++ m ∷ []) c.from_number.ensures))
    (climb_more c.args.self.now c.args.group next c.loop-next.above c.loop-next.pending.keys
    c.take_least.new.numbers.keys c.put_others.new.into.keys sound c.loop-next.invariant
    c.in-Some.ensures.taken more c.put_others.ensures.ordered)

pub returns-clause-ok : goal.returns-clause-ok
returns-clause-ok c =
    let n = c.self.inside in
    let sound = seen_sound n.groups n.up n.down c.args.self.now c.self.invariant c.self.view_is in
    climb_end c.args.self.now c.args.group c.loop-next.above c.loop-next.pending.keys sound c.loop-next.invariant
    c.in_default.ensures.taken
