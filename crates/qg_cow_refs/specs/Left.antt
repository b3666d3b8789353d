-- What it does to references that a subvolume no longer reaches a node (this project's own).
use Rattle.std.specs.Prelude.{ℕ, Bool, true, ◌&&◌, not, List, [], ◌++◌, Option, Some, None, ◌==◌, if◌then◌else◌}
use Rattle.std.specs.List.Sorted.{IsPermutation}
use Rattle.qg_image.specs.State.{Placed}
use Rattle.qg_image.specs.Owed.{Owing, owed_by_node}
use Rattle.qg_cow_refs.specs.declared.cases.Leaving.{Leaving}
use Rattle.qg_cow_refs.specs.declared.cases.Leaving.TheVariants.{Goes, TurnsFull, Stays}
use Rattle.qg_cow_refs.specs.Children.{owner_of, keyed_children, shared_children, owed_if_there, LeftBy}

-- the case, by how many references the node has left, its full mark, the tree that made it, and the subvolume that
-- reached it
abbrev pub left_case : ℕ → Bool → ℕ → ℕ → Leaving
left_case count full owner tree =
    if count == 0 then Goes else (if (owner == tree) && not full then TurnsFull else Stays)

-- the case of a node
abbrev pub case_of : ℕ → Placed → ℕ → Leaving
case_of count old tree = left_case count old.full (owner_of old) tree

-- what becomes of the node
abbrev pub left_after : Leaving → Placed → Option Placed
left_after Goes old = None
left_after TurnsFull old = Some (record old { full = true })
left_after Stays old = Some old

-- what the children gain
abbrev pub leaving_gains : Leaving → Placed → List Owing
leaving_gains Goes old = []
leaving_gains TurnsFull old = shared_children old.node
leaving_gains Stays old = []

-- what the children lose
abbrev pub leaving_losses : Leaving → Placed → List Owing
leaving_losses Goes old = owed_by_node old
leaving_losses TurnsFull old = keyed_children old.node (owner_of old)
leaving_losses Stays old = []

-- ---- laws

-- what is gained and lost turns what the node owed into what it owes, if it stays
abbrev pub LeavingTurnsOwed : Type 0
LeavingTurnsOwed = (count : ℕ) (old : Placed) (tree : ℕ)
    → IsPermutation (owed_by_node old ++ leaving_gains (case_of count old tree) old)
    (owed_if_there (left_after (case_of count old tree) old) ++ leaving_losses (case_of count old tree) old)

-- the node stays where it has a reference left
abbrev pub LeavingLeaves : Type 0
LeavingLeaves = (count : ℕ) (old : Placed) (tree : ℕ) → LeftBy tree count old (left_after (case_of count old tree) old)
