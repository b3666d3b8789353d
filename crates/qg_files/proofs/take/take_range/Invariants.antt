use Rattle.std.proofs.Common.{◌≡◌, take}
use Rattle.std.specs.List.{filter_map}
use Rattle.std.specs.Option.{option_and_then}
use Rattle.qg_machine.specs.FileChange.{part_before, part_after}
use Rattle.qg_files.proofs.take.take_range.Given as goal

abbrev pub invariant-loop-piece : goal.invariant-loop-piece
invariant-loop-piece l = l.taken ≡ filter_map (λ piece. option_and_then (part_before l.to) (part_after l.from piece))
    (take l.piece-index l.piece-items)
