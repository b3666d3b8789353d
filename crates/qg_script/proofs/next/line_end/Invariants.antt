use Rattle.std.proofs.Common.{◌≡◌, ◌-◌}
use Rattle.qg_script.specs.Feeding.{HoldsLine}
use Rattle.qg_script.proofs.Scanning.{IsScanned}
use Rattle.qg_script.proofs.next.line_end.Given as goal

abbrev pub invariant-loop-end : goal.invariant-loop-end
invariant-loop-end g l = record {
  scanned : IsScanned l.initial.feed l.feed (g.S.Source.bytes_left l.initial.source) (g.S.Source.bytes_left l.source)
      l.scanned;
  later : g.S.Source.faults l.source ≡ g.S.Source.faults l.initial.source;
  held : HoldsLine l.initial.feed → (l.scanned ≡ 0) × (l.feed ≡ l.initial.feed) × (l.source ≡ l.initial.source);
}

abbrev pub decreases-loop-end : goal.decreases-loop-end
decreases-loop-end g l = 67108865 - l.feed.taken
