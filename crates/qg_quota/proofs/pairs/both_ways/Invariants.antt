use Rattle.std.proofs.Common.{◌≡◌, [], take}
use Rattle.std.specs.List.{fold}
use Rattle.qg_machine.specs.GroupChange.{with_pair}
use Rattle.qg_qgroups.specs.Kept.{PairsFit}
use Rattle.qg_quota.proofs.pairs.both_ways.Given as goal

abbrev pub invariant-loop-pair : goal.invariant-loop-pair
invariant-loop-pair l = record {
  keys : l.related.keys ≡ fold (λ made pair. with_pair pair made) [] (take l.pair-index l.pairs);
  fit : PairsFit l.related;
}

abbrev pub invariant-loop-relation : goal.invariant-loop-relation
invariant-loop-relation l = record {
  keys : l.related.keys
      ≡ fold (λ made pair. with_pair (pair.1, pair.0) made) (fold (λ made pair. with_pair pair made) [] l.pairs)
      (take l.relation-index l.pairs);
  fit : PairsFit l.related;
}
