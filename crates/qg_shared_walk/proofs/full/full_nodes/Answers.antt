use Rattle.std.proofs.Common.{◌≡◌, ℕ, ◌++◌, Global, Option, Vec, append-nil, sym, ap, ◌∙◌}
use Rattle.std.specs.Prelude.{◌==◌}
use Rattle.std.specs.List.{filter_map}
use Rattle.std.specs.Option.{option_to_list}
use Rattle.std.proofs.lemmas.List.{take_all}
use Rattle.std.proofs.lemmas.List.Sorted.{IsNonDecreasingBy-from_sort, list_any-IsPermutation}
use Rattle.qg_shared_walk.specs.Marked.{full_address, is_marked}
use Rattle.qg_shared_walk.proofs.Marking.{full_any, full_more}
use Rattle.qg_shared_walk.proofs.full.full_nodes.Goals as goal
use Rattle.qg_shared_walk.proofs.full.full_nodes.Goals.{in-Some+in_ok-push, in_default}

pub loop-part-preserved : goal.loop-part-preserved
loop-part-preserved c =
    let found = c.loop-part.full.items in
    let items = λ (full : Vec ℕ Global). full.items in
    let with = λ (given : Option ℕ). found ++ option_to_list given in
    full_more c.args.parts.now c.loop-part.part-index c.part-item.result found c.match-full_address.full.items
    c.loop-part-test.true c.part-item.is c.loop-part.invariant (elim c.match-full_address.branch [
      | in-Some+in_ok-push w ↦
          ap items w.full-is ∙ w.in_ok-push.ensures.items ∙ ap with (sym w.in-Some.is ∙ c.full_address.ensures)
      | in_default w ↦
          ap items w.full-is ∙ sym (append-nil found) ∙ ap with (sym w.in_default.is ∙ c.full_address.ensures)
    ])

pub returns-clause-ascending : goal.returns-clause-ascending
returns-clause-ascending c = IsNonDecreasingBy-from_sort (λ (n : ℕ). n) _ c.sort_unstable.ensures.sorted

pub returns-clause-marks : goal.returns-clause-marks
returns-clause-marks c = λ address.
    let found = c.loop-part.full.items in
    let all : found ≡ filter_map full_address c.args.parts.now
    = c.loop-part.invariant ∙ ap (filter_map full_address) (take_all c.loop-part.part-index c.args.parts.now
    c.loop-part-test.false) in
    sym (list_any-IsPermutation (λ (other : ℕ). other == address) found c.sort_unstable.new.self.items
    c.sort_unstable.ensures.permutation)
    ∙ ap (λ full. is_marked full address) all ∙ full_any c.args.parts.now address
