use Rattle.std.proofs.Common.{sym, ◌∙◌}
use Rattle.qg_backref_rule.specs.Judged.{what_of}
use Rattle.qg_backref_rule.proofs.Collecting.{two_records}
use Rattle.qg_backref_rule.proofs.record.is_recorded_once.Goals as goal

pub returns-then-is_some : goal.returns-then-is_some
returns-then-is_some c =
    sym (two_records (what_of c.args.kind.now) c.args.refs c.args.parts.now c.loop-part.part-index c.part-item.result
    c.loop-part.found c.loop-part-test.true c.part-item.is
    (sym c.is_record.ensures ∙ c.if-is_record.true) c.loop-part.invariant (sym c.is_some.ensures ∙ c.if-is_some.true))
