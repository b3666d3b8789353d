-- What an edit leaves of one node (this project's own).
use Rattle.std.specs.Prelude.{◌≡◌, ◌⊎◌, ◌↔◌, ⊤, ℕ, ◌++◌, List, [], take, drop, Option, Some, None, IsSome, IsTrue}
use Rattle.qg_node.specs.declared.pointer.Pointer.{Pointer}
use Rattle.qg_node.specs.declared.node.Node.{Node}
use Rattle.qg_node.specs.declared.node.Node.TheVariants.{Leaf}
use Rattle.qg_node.specs.Nodes.{header_of, is_ascending, own_keys}
use Rattle.qg_node.specs.NodeText.{IsNode}
use Rattle.qg_shape.specs.declared.joining.Joined.{Joined}
use Rattle.qg_shape.specs.declared.joining.Joined.TheVariants.{Whole, Parted}
use Rattle.qg_shape.specs.Filled.{IsOverfull}
use Rattle.qg_shape.specs.Outcomes.{IsSplit}

-- a node holds the whole, or a front of it where it has too much; the rest is a node of its own, which names the same
-- address
abbrev pub IsCutOf : ℕ → Node → Node → Option Node → Type 0
IsCutOf nodesize whole node None = node ≡ whole
IsCutOf nodesize whole node (Some rest) = IsSplit nodesize (header_of whole).address whole node rest

-- a node has a text, and names the address, the owner and the generation of another
pub record IsNodeFor (nodesize : ℕ) (old new : Node) : Type 0 where
  pub sound : IsNode nodesize new
  pub address : (header_of new).address ≡ (header_of old).address
  pub owner : (header_of new).owner ≡ (header_of old).owner
  pub generation : (header_of new).generation ≡ (header_of old).generation

-- the rest too, where there is one
abbrev pub RestIsNode : ℕ → Node → Option Node → Type 0
RestIsNode nodesize old None = ⊤
RestIsNode nodesize old (Some rest) = IsNodeFor nodesize old rest

-- a node is what is left of this whole in the place of an old one: all of it, or a front. There is a rest exactly where
-- the whole has too much, and it is a node too
pub record IsLeftOf (nodesize : ℕ) (old whole node : Node) (more : Option Node) : Type 0 where
  pub cut : IsCutOf nodesize whole node more
  pub overfull : IsSome more ↔ IsOverfull nodesize whole
  pub rest : RestIsNode nodesize old more

-- pointers with others in the place of those from one index up to another
abbrev pub spliced : ℕ → ℕ → List Pointer → List Pointer → List Pointer
spliced from to new pointers = take from pointers ++ new ++ drop to pointers

-- an empty leaf in the place of a node
abbrev pub cleared : Node → Node
cleared node = Leaf (record (header_of node) { level = 0 }) []

-- a node is as it was, or an empty leaf in its place
abbrev pub IsOldOrCleared : Node → Node → Type 0
IsOldOrCleared old new = (new ≡ old) ⊎ (new ≡ cleared old)

-- two neighbours are nodes after they were joined; where all is in the left one, the right one need not be
abbrev pub AreNodesAfter : ℕ → Node → Node → Node → Node → Joined → Type 0
AreNodesAfter nodesize left right new_left new_right Whole = IsNodeFor nodesize left new_left
AreNodesAfter nodesize left right new_left new_right Parted = IsNodeFor nodesize left new_left
    × IsNodeFor nodesize right new_right

-- the keys of one node are less than those of another
abbrev pub IsInFront : Node → Node → Type 0
IsInFront left right = IsTrue (is_ascending (own_keys left ++ own_keys right))
