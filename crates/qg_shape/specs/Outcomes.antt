-- What is left where a node is cut in two, and where two are joined (this project's own).
use Rattle.std.specs.Prelude.{◌≡◌, ℕ, ◌+◌, ◌<◌}
use Rattle.qg_node.specs.declared.node.Node.{Node}
use Rattle.qg_node.specs.Nodes.{header_of, used_bytes}
use Rattle.qg_shape.specs.declared.joining.Joined.{Joined}
use Rattle.qg_shape.specs.declared.joining.Joined.TheVariants.{Whole, Parted}
use Rattle.qg_shape.specs.Parts.{AreAlike, whole_of, emptied}
use Rattle.qg_shape.specs.Filled.{Fits, IsFilled}

-- a node kept a front of its items or pointers, and a node at another address has the rest, with the same header else;
-- both are filled
pub record IsSplit (nodesize address : ℕ) (old front rest : Node) : Type 0 where
  pub whole : whole_of front rest ≡ old
  pub alike : AreAlike front rest
  pub header : header_of rest ≡ record (header_of old) { address = address }
  pub front_filled : IsFilled nodesize front
  pub rest_filled : IsFilled nodesize rest

-- two nodes fit in one: the left one has the items or pointers of both, and the right one has none
pub record IsWhole (nodesize : ℕ) (left right new_left new_right : Node) : Type 0 where
  pub all : new_left ≡ whole_of left right
  pub none : new_right ≡ emptied right
  pub fits : Fits nodesize new_left

-- two nodes do not fit in one: they have shared their items or pointers anew, and both are filled
pub record IsParted (nodesize : ℕ) (left right new_left new_right : Node) : Type 0 where
  pub heavy : nodesize < 101 + (used_bytes left + used_bytes right)
  pub whole : whole_of new_left new_right ≡ whole_of left right
  pub alike : AreAlike new_left new_right
  pub header : header_of new_right ≡ header_of right
  pub left_filled : IsFilled nodesize new_left
  pub right_filled : IsFilled nodesize new_right

-- what became of two nodes, by what was answered
abbrev pub IsJoined : ℕ → Node → Node → Node → Node → Joined → Type 0
IsJoined nodesize left right new_left new_right Whole = IsWhole nodesize left right new_left new_right
IsJoined nodesize left right new_left new_right Parted = IsParted nodesize left right new_left new_right
