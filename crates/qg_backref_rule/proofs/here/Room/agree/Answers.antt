use Rattle.std.proofs.Common.{Bool, refl, sym, ap, subst, ◌∙◌}
use Rattle.std.specs.Prelude.{◌&&◌}
use Rattle.std.specs.List.Sorted.{IsPermutation}
use Rattle.qg_image.specs.Owed.{are_references}
use Rattle.qg_backref_rule.specs.Judged.{what_of, counts_told}
use Rattle.qg_backref_rule.proofs.OneAddress.{agree_by}
use Rattle.qg_backref_rule.proofs.here.Room.agree.Goals as goal

pub returns-then-is_recorded_once : goal.returns-then-is_recorded_once
returns-then-is_recorded_once c =
    sym (ap (λ b. b && c.are_references.result) c.if-is_recorded_once.true)
    ∙ agree_by (what_of c.args.kind.now) _ c.put_owed.new.owed.items c.as_slice-owed.result.now c.args.parts.now
    c.put_told.new.told.items c.as_slice-told.result.now
    c.sum_of.result c.is_recorded_once.result c.are_references.result c.in_ok-put_told.ensures
    (subst (IsPermutation c.put_told.new.told.items) (sym c.as_slice-told.ensures.value)
    c.sort_counted.ensures.moved)
    c.in_ok-put_owed.ensures (subst (IsPermutation c.put_owed.new.owed.items) (sym c.as_slice-owed.ensures.value)
    c.sort.ensures.moved) c.sum_of.ensures c.is_recorded_once.ensures c.are_references.ensures

pub returns-else-is_recorded_once : goal.returns-else-is_recorded_once
returns-else-is_recorded_once c =
    let owed : Bool = are_references (counts_told c.as_slice-told.result.now) c.as_slice-owed.result.now in
    c.if-is_recorded_once.false ∙ sym (ap (λ b. b && owed) c.if-is_recorded_once.false)
    ∙ agree_by (what_of c.args.kind.now) _ c.put_owed.new.owed.items c.as_slice-owed.result.now c.args.parts.now
    c.put_told.new.told.items c.as_slice-told.result.now
    c.sum_of.result c.is_recorded_once.result owed c.in_ok-put_told.ensures
    (subst (IsPermutation c.put_told.new.told.items) (sym c.as_slice-told.ensures.value)
    c.sort_counted.ensures.moved)
    c.in_ok-put_owed.ensures (subst (IsPermutation c.put_owed.new.owed.items) (sym c.as_slice-owed.ensures.value)
    c.sort.ensures.moved) c.sum_of.ensures c.is_recorded_once.ensures refl
