-- The changes where a node is left turn what it owed into what it owes.
use Rattle.std.specs.Prelude.{◌≡◌, ℕ, Bool, true, false, ◌&&◌, ◌||◌, not, [], ◌++◌, Some, ◌==◌, nat_lt, is_some}
use Rattle.std.specs.Prelude.{if◌then◌else◌, refl}
use Rattle.std.specs.List.Sorted.{IsPermutation}
use Rattle.std.proofs.Common.{sym, ◌∙◌, subst, arith, append-nil}
use Rattle.std.proofs.lemmas.Bool.Decides.{nat_tests}
use Rattle.std.proofs.lemmas.List.Sorted.{IsPermutation-refl, IsPermutation-append_comm}
use Rattle.qg_node.specs.declared.node.Node.{Node}
use Rattle.qg_image.specs.State.{Placed}
use Rattle.qg_image.specs.Owed.{owed_by_node}
use Rattle.qg_cow_refs.specs.declared.cases.Leaving.{Leaving}
use Rattle.qg_cow_refs.specs.declared.cases.Leaving.TheVariants.{Goes, TurnsFull, Stays}
use Rattle.qg_cow_refs.specs.Children.{owner_of, keyed_children, shared_children, owed_if_there}
use Rattle.qg_cow_refs.specs.Left.{left_after, leaving_gains, leaving_losses, LeavingTurnsOwed, LeavingLeaves}
use Rattle.qg_cow_refs.proofs.CopyLaws.{owed-keyed}

-- what leaving a node does to its children
abbrev pub ChildrenTurn : Leaving → Placed → Type 0
ChildrenTurn leaving old = IsPermutation (owed_by_node old ++ leaving_gains leaving old)
    (owed_if_there (left_after leaving old) ++ leaving_losses leaving old)

pub children-go : (old : Placed) → ChildrenTurn Goes old
children-go old = subst (λ before. IsPermutation before (owed_by_node old)) (sym (append-nil (owed_by_node old)))
    (IsPermutation-refl (owed_by_node old))

pub children-share : (old : Placed) → old.full ≡ false → ChildrenTurn TurnsFull old
children-share old bare =
    subst (λ owed. IsPermutation (owed ++ shared_children old.node)
    (shared_children old.node ++ keyed_children old.node (owner_of old))) (sym (owed-keyed old bare))
    (IsPermutation-append_comm (keyed_children old.node (owner_of old)) (shared_children old.node))

pub children-stay : (old : Placed) → ChildrenTurn Stays old
children-stay old = IsPermutation-refl (owed_by_node old ++ [])

case-turns : (none own full : Bool) (old : Placed) → old.full ≡ full
    → ChildrenTurn (if none then Goes else (if own && not full then TurnsFull else Stays)) old
case-turns true own full old mark = children-go old
case-turns false true false old mark = children-share old mark
case-turns false true true old mark = children-stay old
case-turns false false full old mark = children-stay old

pub leaving-turns : LeavingTurnsOwed
leaving-turns count old tree = case-turns (count == 0) (owner_of old == tree) old.full old refl

case-leaves : (none own full : Bool) (node : Node)
    → let old : Placed = record { node = node; full = full } in
    let after = left_after (if none then Goes else (if own && not full then TurnsFull else Stays)) old in
    (is_some after ≡ not none) × ((placed : Placed) → after ≡ Some placed → placed ≡ record old { full = full || own })
case-leaves true own full node = (refl, λ placed is. cc)
case-leaves false true false node = (refl, λ placed is. cc)
case-leaves false true true node = (refl, λ placed is. cc)
case-leaves false false true node = (refl, λ placed is. cc)
case-leaves false false false node = (refl, λ placed is. cc)

some-left : (count : ℕ) → not (count == 0) ≡ nat_lt 0 count
some-left count = grind (arith, nat_tests)

pub leaving-leaves : LeavingLeaves
leaving-leaves count old tree =
    let left = case-leaves (count == 0) (owner_of old == tree) old.full old.node in
    record { stays = left.0 ∙ some-left count; same = left.1 }
