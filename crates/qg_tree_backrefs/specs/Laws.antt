-- Laws of what changes of references make of the extent tree's weight (this project's own). Addresses are in bytes.
use Rattle.std.specs.Prelude.{◌≡◌, ℕ, ◌+◌, ◌≤◌, List, None, if◌then◌else◌, is_some}
use Rattle.std.specs.List.{sum_by}
use Rattle.qg_items.specs.declared.extent.Reference.{Reference}
use Rattle.qg_node_alloc.specs.Tellings.{Telling}
use Rattle.qg_refs.specs.declared.kept.What.{What}
use Rattle.qg_refs.specs.declared.kept.Kept.{Kept}
use Rattle.qg_refs.specs.Book.{Adds, Drops}
use Rattle.qg_weighed.specs.Table.{IsTable, book_of}
use Rattle.qg_weighed.specs.Weight.{extent_record_bytes, reference_bytes, weight_of}
use Rattle.qg_tree_backrefs.specs.declared.tree_refs.TreeRefs.{TreeRefs}
use Rattle.qg_tree_backrefs.specs.Exchange.{Exchange, Exchanges}
use Rattle.qg_tree_backrefs.specs.Following.{Follows, Step}
use Rattle.qg_tree_backrefs.specs.Heavier.{BookGetsHeavier, GetsHeavier, owings_bytes, telling_bytes}

-- one reference more takes its item, and where nothing was there the record besides
abbrev pub AddsWeigh : Type 0
AddsWeigh = (old new : List (ℕ × Kept)) (at : ℕ) (what : What) (reference : Reference) → IsTable old → IsTable new
    → Adds (book_of old) (book_of new) at what reference
    → GetsHeavier old new (reference_bytes reference + (if is_some (book_of old at) then 0 else extent_record_bytes))

-- one reference fewer takes no more
abbrev pub DropsWeigh : Type 0
DropsWeigh = (old new : List (ℕ × Kept)) (at : ℕ) (reference : Reference) → IsTable old → IsTable new
    → Drops (book_of old) (book_of new) at reference → GetsHeavier old new 0

-- an exchange with which no node comes takes no more than what is gained
abbrev pub ExchangesWeigh : Type 0
ExchangesWeigh = (old new : List (ℕ × Kept)) (exchange : Exchange) → IsTable old → IsTable new
    → Exchanges (book_of old) (book_of new) exchange None → GetsHeavier old new (owings_bytes exchange.gains)

-- a telling that meets no misfit takes no more than a node that comes, and what its children gain
abbrev pub StepWeighs : Type 0
StepWeighs = (before after : TreeRefs) (telling : Telling) → IsTable before.refs → IsTable after.refs
    → (step : Step before telling after) → step.misfit ≡ None → BookGetsHeavier before after (telling_bytes telling)

-- and a list of them that meets none
abbrev pub FollowsWeighs : Type 0
FollowsWeighs = (before after : TreeRefs) (tellings : List Telling) → IsTable before.refs → IsTable after.refs
    → Follows before tellings after → after.misfit ≡ None
    → BookGetsHeavier before after (sum_by telling_bytes tellings)

-- ---- books that get heavier

-- one change and another take together what each takes
abbrev pub ChangesSum : Type 0
ChangesSum = (old mid new : TreeRefs) (first second : ℕ) → BookGetsHeavier old mid first
    → BookGetsHeavier mid new second → BookGetsHeavier old new (first + second)

-- with what the last commit recorded of it a book takes no more either
abbrev pub BookWeighs : Type 0
BookWeighs = (old new : TreeRefs) (most : ℕ) → BookGetsHeavier old new most
    → weight_of new.held new.refs ≤ weight_of old.held old.refs + most
