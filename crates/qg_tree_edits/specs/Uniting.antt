-- Two neighbours in a tree, of which one isn't a quarter full (this project's own). Addresses are in bytes.
use Rattle.std.specs.Prelude.{◌≡◌, ◌⊎◌, ◌≢◌, ℕ, ◌+◌, List, Option, Some}
use Rattle.qg_device.specs.History.{History}
use Rattle.qg_num.specs.declared.key.Key.{Key}
use Rattle.qg_node.specs.declared.pointer.Pointer.{Pointer}
use Rattle.qg_image.specs.declared.tree.TreeKind.{TreeKind}
use Rattle.qg_node_alloc.specs.declared.ground.Ground.{Ground}
use Rattle.qg_node_alloc.specs.Tellings.{LetsGo}
use Rattle.qg_shape.specs.declared.joining.Joined.{Joined}
use Rattle.qg_shape.specs.declared.joining.Joined.TheVariants.{Whole, Parted}
use Rattle.qg_tree_edits.specs.declared.instead.Instead.{Instead}
use Rattle.qg_tree_edits.specs.declared.pairing.Pair.{Pair}
use Rattle.qg_tree_edits.specs.declared.child.Neighbour.{Neighbour}
use Rattle.qg_tree_read.specs.Tree.{Root}
use Rattle.qg_tree_edits.specs.Editing.{AreRewritten, IsBeside, IsJoinedThere, IsOwned, alone}

-- ---- what becomes of both

-- what stands there then: the left one alone, where all is in it and the right one was let go; else both
abbrev pub EndsAs : Ground → Ground → ℕ → ℕ → Instead → Joined → Type 0
EndsAs mid new left right instead Whole = (instead ≡ alone left) × LetsGo mid new right
EndsAs mid new left right instead Parted = (instead ≡ record { now = left; more = Some right }) × (new ≡ mid)

-- two fresh nodes were joined
pub record AreUnited (old new : Ground) (left right : ℕ) (instead : Instead) : Type 0 where
  pub mid : Ground
  pub joined : Joined
  pub rewritten : AreRewritten old mid left right
  pub there : IsJoinedThere old mid left right joined
  pub ends : EndsAs mid new left right instead joined

-- ---- the neighbour that a child is joined with

-- the child at a place and the neighbour that was owned, from left to right
pub record IsPaired (tree : TreeKind) (root : Root) (old new : Ground) (history : History)
    (pointers : List Pointer) (to : Option Key) (level place child : ℕ) (pair : Pair) : Type 0 where
  pub beside : Neighbour
  pub now : ℕ
  pub is : IsBeside pointers to level place beside
  pub owned : IsOwned tree root old new history beside.way.expected beside.way.address now
  pub apart : now ≢ child
  pub front : pair.front ≡ beside.front
  pub sides : ((beside.front ≡ place) × (pair.left ≡ child) × (pair.right ≡ now))
      ⊎ ((beside.front + 1 ≡ place) × (pair.left ≡ now) × (pair.right ≡ child))
