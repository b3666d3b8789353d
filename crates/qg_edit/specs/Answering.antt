-- Which answer a call on nodes gives, and when (this project's own).
use Rattle.std.specs.Prelude.{◌≡◌, ◌⊎◌, ⊤, ℕ, List, Result, Ok, Err, IsTrue, map}
use Rattle.qg_num.specs.declared.rule.Rule.{Rule}
use Rattle.qg_num.specs.declared.rule.Rule.TheVariants.{Item, Refs}
use Rattle.qg_num.specs.declared.fault.BlockFault.{BlockFault}
use Rattle.qg_num.specs.declared.fault.BlockFault.TheVariants.{NoMemory, Disk, Image}
use Rattle.qg_num.specs.declared.key.Key.{Key}
use Rattle.qg_node.specs.declared.node.Node.{Node}
use Rattle.qg_node.specs.declared.pointer.Pointer.{Pointer}
use Rattle.qg_node.specs.Nodes.{header_of, is_ascending, own_items, own_pointers}
use Rattle.qg_shape.specs.Filled.{HasShortBodies, IsOverfull}
use Rattle.qg_shape.specs.Parts.{with_items}
use Rattle.qg_edit.specs.declared.edit.Change.{Change}
use Rattle.qg_edit.specs.Edits.{CanChange, changed}
use Rattle.qg_edit.specs.Outcome.{IsInFront, spliced}

-- a call is done only where all is well, and names a rule at an address only where it is broken there. It tells of no
-- disk, and memory may be refused in place of any answer
abbrev pub AnswersBy : {A : Type 0} → Type 0 → (Rule → ℕ → Type 0) → Result A BlockFault → Type 0
AnswersBy AllIsWell IsBroken (Ok x) = AllIsWell
AnswersBy AllIsWell IsBroken (Err (Image rule at)) = IsBroken rule at
AnswersBy AllIsWell IsBroken (Err Disk) = ⊥
AnswersBy AllIsWell IsBroken (Err NoMemory) = ⊤

-- this rule, at the address of a node of which something is not so
abbrev pub IsBrokenUnless : Rule → Node → Type 0 → Rule → ℕ → Type 0
IsBrokenUnless one node IsSo rule at = (rule ≡ one) × ((at ≡ (header_of node).address) × (IsSo → ⊥))

-- a node that has too much has no body of more than 1024 bytes, so that it can be cut
abbrev pub CanCut : ℕ → Node → Type 0
CanCut nodesize node = IsOverfull nodesize node → HasShortBodies node

-- a leaf is what a change relies on, and what becomes of it can be cut where it has too much
abbrev pub IsChangeable : ℕ → Key → Change → Node → Type 0
IsChangeable nodesize key change leaf = CanChange key change (own_items leaf)
    × CanCut nodesize (with_items leaf (changed key change (own_items leaf)))

-- which rule a change of a leaf breaks: `refs` where the leaf is not what the change relies on, and else `item` where
-- it has too much then, and a body of more than 1024 bytes
abbrev pub IsBrokenByChange : ℕ → Key → Change → Node → Rule → ℕ → Type 0
IsBrokenByChange nodesize key change leaf rule at =
    IsBrokenUnless Refs leaf (CanChange key change (own_items leaf)) rule at
    ⊎ (CanChange key change (own_items leaf)
    × IsBrokenUnless Item leaf (CanCut nodesize (with_items leaf (changed key change (own_items leaf)))) rule at)

-- keys ascend with pointers in the place of others
abbrev pub CanSplice : ℕ → ℕ → List Pointer → Node → Type 0
CanSplice from to new node =
    IsTrue (is_ascending (map (λ pointer. pointer.key) (spliced from to new (own_pointers node))))

-- two neighbours follow each other, and no body has more than 1024 bytes
pub record CanMerge (left right : Node) : Type 0 where
  pub front : IsInFront left right
  pub left_short : HasShortBodies left
  pub right_short : HasShortBodies right

-- which rule a merge of two neighbours breaks: `refs` at the left one where they don't follow each other, and else
-- `item` at the first that has a body of more than 1024 bytes
abbrev pub IsBrokenByMerge : Node → Node → Rule → ℕ → Type 0
IsBrokenByMerge left right rule at =
    IsBrokenUnless Refs left (IsInFront left right) rule at
    ⊎ (IsInFront left right × (IsBrokenUnless Item left (HasShortBodies left) rule at
    ⊎ (HasShortBodies left × IsBrokenUnless Item right (HasShortBodies right) rule at)))
