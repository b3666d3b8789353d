use Rattle.std.proofs.Common.{◌≡◌, map, take}
use Rattle.std.specs.Prelude.{◌==◌, not}
use Rattle.std.specs.List.{filter}
use Rattle.qg_image_changes.specs.Opened.{tree_for}
use Rattle.qg_image_changes.proofs.opening.others_of.Given as goal

abbrev pub invariant-loop-entry : goal.invariant-loop-entry
invariant-loop-entry l =
    l.trees.items ≡ map (tree_for l.next) (filter (λ entry. not (entry.0 == l.number)) (take l.entry-index l.roots))
