use Rattle.std.proofs.Common.{ℕ, List, []}
use Rattle.std.specs.List.{fold}
use Rattle.qg_machine.specs.GroupChange.{with_pair}
use Rattle.qg_quota.proofs.BothWays.{one-put, turned}
use Rattle.qg_quota.proofs.pairs.both_ways.Goals as goal

pub loop-pair-preserved : goal.loop-pair-preserved
loop-pair-preserved c = record {
  keys = one-put (λ pair. pair) [] c.loop-pair.related.keys c.put_pair.new.pairs.keys c.args.pairs.now
      c.loop-pair.pair-index c.pair-item.result
      c.loop-pair-test.true c.pair-item.is c.loop-pair.invariant.keys c.in_ok-put_pair.ensures.keys;
  fit = c.put_pair.ensures.fit;
}

pub loop-relation-preserved : goal.loop-relation-preserved
loop-relation-preserved c = record {
  keys = one-put turned (fold (λ (made : List (ℕ × ℕ)) (pair : ℕ × ℕ). with_pair pair made) [] c.args.pairs.now)
      c.loop-relation.related.keys
      c.put_pair-in-loop-relation.new.pairs.keys c.args.pairs.now c.loop-relation.relation-index c.relation-item.result
      c.loop-relation-test.true c.relation-item.is c.loop-relation.invariant.keys c.in_ok-put_pair-2.ensures.keys;
  fit = c.put_pair-in-loop-relation.ensures.fit;
}
