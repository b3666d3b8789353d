-- What a copy of a node does to references (this project's own). The copy has the editing subvolume as owner, is not
-- full, and has the generation to come. Addresses are in bytes.
use Rattle.std.specs.Prelude.{◌≡◌, ℕ, ◌-◌, ◌≤◌, Bool, true, false, ◌&&◌, not, List, [], ◌∷◌, ◌++◌, Option, Some, None}
use Rattle.std.specs.Prelude.{◌==◌, nat_lt, if◌then◌else◌}
use Rattle.std.specs.List.Sorted.{IsPermutation}
use Rattle.qg_node.specs.Nodes.{header_of}
use Rattle.qg_image.specs.State.{Placed}
use Rattle.qg_image.specs.Owed.{Owing, owed_by_node}
use Rattle.qg_cow_refs.specs.declared.cases.Edits.{Edits}
use Rattle.qg_cow_refs.specs.declared.cases.Edits.TheVariants.{ShareOld, AddKeyed, TurnKeyed, TakeOver}
use Rattle.qg_cow_refs.specs.Children.{owner_of, with_header, keyed_children, shared_children, way_to, owed_if_there}
use Rattle.qg_cow_refs.specs.Children.{LeftBy}

-- the case, by how many references the node has, its full mark, the tree that made it, and the subvolume that edits it
abbrev pub copy_case : ℕ → Bool → ℕ → ℕ → Edits
copy_case count full owner tree =
    if nat_lt 1 count then (if (owner == tree) && not full then ShareOld else AddKeyed) else
    (if full then TurnKeyed else TakeOver)

-- the case of a node
abbrev pub case_of : ℕ → Placed → ℕ → Edits
case_of count old tree = copy_case count old.full (owner_of old) tree

-- the copy of a node at an address, of a generation
abbrev pub copy_of : Placed → ℕ → ℕ → ℕ → Placed
copy_of old address generation tree = record {
  node = with_header (record {
    address = address;
    generation = generation;
    owner = tree;
    level = (header_of old.node).level;
  }) old.node;
  full = false;
}

-- what becomes of the old node
abbrev pub old_after : Edits → Placed → Option Placed
old_after ShareOld old = Some (record old { full = true })
old_after AddKeyed old = Some old
old_after TurnKeyed old = None
old_after TakeOver old = None

-- what the children gain
abbrev pub children_gain : Edits → Placed → ℕ → List Owing
children_gain ShareOld old tree = shared_children old.node
children_gain AddKeyed old tree = keyed_children old.node tree
children_gain TurnKeyed old tree = keyed_children old.node tree
children_gain TakeOver old tree = []

-- what the children lose
abbrev pub children_lose : Edits → Placed → List Owing
children_lose ShareOld old = []
children_lose AddKeyed old = []
children_lose TurnKeyed old = shared_children old.node
children_lose TakeOver old = []

-- what is gained in all: the copy is reached in place of the old node
abbrev pub copy_gains : Edits → Placed → ℕ → ℕ → List Owing
copy_gains edits old address tree = way_to address tree ∷ children_gain edits old tree

-- what is lost in all: the old node loses the subvolume's reference
abbrev pub copy_losses : Edits → Placed → ℕ → List Owing
copy_losses edits old tree = way_to (header_of old.node).address tree ∷ children_lose edits old

-- what is owed before, by the way to the old node and by the old node
abbrev pub owed_before : Placed → ℕ → List Owing
owed_before old tree = way_to (header_of old.node).address tree ∷ owed_by_node old

-- what is owed after, by the way to the copy, by the old node if it stays, and by the copy
abbrev pub owed_after : Edits → Placed → ℕ → ℕ → ℕ → List Owing
owed_after edits old address generation tree =
    way_to address tree ∷ owed_if_there (old_after edits old) ++ owed_by_node (copy_of old address generation tree)

-- a node of one reference that is not full was made by the subvolume that reaches it: a node that is not full is
-- reached by its owner
abbrev pub IsOwnWhereAlone : ℕ → Placed → ℕ → Type 0
IsOwnWhereAlone count old tree = count ≤ 1 → old.full ≡ false → owner_of old ≡ tree

-- ---- laws

-- what is gained and lost turns what was owed into what is owed
abbrev pub CopyTurnsOwed : Type 0
CopyTurnsOwed = (count : ℕ) (old : Placed) (address generation tree : ℕ) → IsOwnWhereAlone count old tree
    → IsPermutation
    (owed_before old tree ++ copy_gains (case_of count old tree) old address tree)
    (owed_after (case_of count old tree) old address generation tree ++ copy_losses (case_of count old tree) old tree)

-- the old node has one reference less
abbrev pub CopyLeavesOld : Type 0
CopyLeavesOld = (count : ℕ) (old : Placed) (tree : ℕ)
    → LeftBy tree (count - 1) old (old_after (case_of count old tree) old)
