use Rattle.std.proofs.Common.{sym, ap, ◌∙◌, append-nil, Vec, Global}
use Rattle.std.specs.Prelude.{Some, None}
use Rattle.std.specs.Option.{option_map}
use Rattle.qg_refs.specs.declared.counted.Counted.{Counted}
use Rattle.qg_backref_rule.specs.Judged.{count_told, counts_told}
use Rattle.qg_backref_rule.proofs.Collecting.{counts_more}
use Rattle.qg_backref_rule.proofs.references.put_told.Goals as goal
use Rattle.qg_backref_rule.proofs.references.put_told.Goals.{in-Some+in_ok-push, in_default}

pub loop-part-preserved : goal.loop-part-preserved
loop-part-preserved c = elim c.match-entry_of.branch [
  | in-Some+in_ok-push w ↦
      ap (λ (v : Vec Counted Global). counts_told v.items) w.told-is ∙ ap counts_told w.in_ok-push.ensures.items
      ∙ counts_more c.loop-part.told.items c.args.parts.now c.loop-part.part-index c.part-item.result
      (Some w.in-Some.entry) c.loop-part-test.true c.part-item.is c.loop-part.invariant
      (ap (option_map count_told) (sym w.in-Some.is) ∙ c.entry_of.ensures)
  | in_default w ↦
      ap (λ (v : Vec Counted Global). counts_told v.items) w.told-is
      ∙ ap counts_told (sym (append-nil c.loop-part.told.items))
      ∙ counts_more c.loop-part.told.items c.args.parts.now c.loop-part.part-index c.part-item.result None
      c.loop-part-test.true c.part-item.is c.loop-part.invariant
      (ap (option_map count_told) (sym w.in_default.is) ∙ c.entry_of.ensures)
]
