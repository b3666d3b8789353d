use Rattle.std.proofs.Common.{Option, ℕ, ◌<◌, length, sym, subst, ◌∙◌, ap}
use Rattle.std.specs.Prelude.{IfSome, slice_get}
use Rattle.std.specs.Option.{option_and_then}
use Rattle.qg_extents.proofs.Singles.{another_record, first_record, listed, no_record}
use Rattle.qg_extents.proofs.head.only_record.Goals as goal
use Rattle.qg_extents.proofs.head.only_record.Goals.{then-is_record+else-is_some, else-is_record}

pub returns-then-is_some-clause-only : goal.returns-then-is_some-clause-only
returns-then-is_some-clause-only c =
    another_record c.args.here.now c.loop-index.index c.loop-index.only c.index-here-index.result c.loop-index-test.true
    c.loop-index.invariant.records c.loop-index.invariant.bound
    (sym c.is_some.ensures ∙ c.if-is_some.true) c.index-here-index.is (sym c.is_record.ensures ∙ c.if-is_record.true)

pub loop-index-preserved : goal.loop-index-preserved
loop-index-preserved c = elim c.if-is_record.branch [
  | then-is_record+else-is_some w ↦ record {
    records = first_record c.args.here.now c.loop-index.index c.loop-index.only c.index-here-index.result
        c.loop-index-test.true c.loop-index.invariant.records
        (sym w.is_some.ensures ∙ w.if-is_some.false) c.index-here-index.is
        (sym c.is_record.ensures ∙ w.if-is_record.true)
        ∙ sym (ap (λ (only : Option ℕ). listed (option_and_then (slice_get c.args.here.now) only)) w.only-is);
    bound = subst (λ (only : Option ℕ). IfSome only (λ index. index < length c.args.here.now))
        (sym w.only-is) c.loop-index-test.true;
  }
  | else-is_record w ↦ record {
    records = no_record c.args.here.now c.loop-index.index c.index-here-index.result c.loop-index-test.true
        c.index-here-index.is (sym c.is_record.ensures ∙ w.if-is_record.false)
        ∙ c.loop-index.invariant.records ∙ sym (ap (λ (only : Option ℕ). listed
        (option_and_then (slice_get c.args.here.now) only)) w.only-is);
    bound = subst (λ (only : Option ℕ). IfSome only (λ index. index < length c.args.here.now))
        (sym w.only-is) c.loop-index.invariant.bound;
  }
]
