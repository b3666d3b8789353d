-- Changes of references to one address (this project's own).
use Rattle.std.specs.Prelude.{ℕ, ◌+◌, List, [], ◌∷◌, Option, Some, None, IsTrue, if◌then◌else◌}
use Rattle.std.specs.List.{AllPairs}
use Rattle.qg_items.specs.declared.extent.Reference.{Reference}
use Rattle.qg_image.specs.Record.{same_reference}
use Rattle.qg_refs.specs.Order.{precedes}
use Rattle.qg_delayed.specs.declared.change.Change.{Change}

-- changes ascend by reference, each once
abbrev pub ChangesAscend : List Change → Type 0
ChangesAscend changes = AllPairs (λ change later. IsTrue (precedes change.reference later.reference)) changes

-- the change of a reference, where there is one
abbrev pub change_of : Reference → List Change → Option Change
change_of reference [] = None
change_of reference (change ∷ changes) =
    if same_reference reference change.reference then Some change else change_of reference changes

-- the same changes with this one, in the place of that of the same reference
abbrev pub with_change : Change → List Change → List Change
with_change change [] = change ∷ []
with_change change (first ∷ rest) =
    if same_reference change.reference first.reference then change ∷ rest
    else (if precedes change.reference first.reference then change ∷ first ∷ rest else first ∷ with_change change rest)

-- a number of each change, together
abbrev pub sum_each : (Change → ℕ) → List Change → ℕ
sum_each number [] = 0
sum_each number (change ∷ changes) = number change + sum_each number changes

-- how often the book below has these references, together
abbrev pub sum_below : List Change → ℕ
sum_below changes = sum_each (λ change. change.below) changes

-- how often they are there now, together
abbrev pub sum_now : List Change → ℕ
sum_now changes = sum_each (λ change. change.now) changes
