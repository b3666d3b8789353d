-- What is read of the nodes that subvolumes reach, each once (this project's own). Addresses are in bytes.
use Rattle.std.specs.Prelude.{◌≡◌, ◌⊎◌, ℕ, ◌+◌, ◌≤◌, List, length, map, Option, Some, None, IsSome, Contains, All}
use Rattle.std.specs.BTreeMap.{is_at}
use Rattle.std.specs.Map.{lookup}
use Rattle.std.specs.Ordering.{nat_cmp}
use Rattle.qg_image.specs.Table.{keys_of, value_at}
use Rattle.qg_image.specs.State.{Placed, State, node_at}
use Rattle.qg_image.specs.Walk.{root_expected}
use Rattle.qg_refs.specs.Book.{Book, full_in}
use Rattle.qg_qgroup_counts.specs.Surveyed.{surveyed_of}
use Rattle.qg_qgroup_counts.specs.declared.surveyed.Surveyed.{Surveyed}
use Rattle.qg_tree_read.specs.Tree.{Reaches, Root}
use Rattle.qg_tree_read.specs.declared.way.Way.{Way}
use Rattle.qg_subvolumes.specs.ForestStanding.{tree_of}
use Rattle.qg_subvolumes.specs.Counting.{LeadsToBranch}

-- what was read of the node at an address
abbrev pub link_at : List (ℕ × Surveyed) → ℕ → Option Surveyed
link_at links q = lookup (is_at (nat_cmp q)) links

-- a book has the marks of a layout's nodes
abbrev pub MarksNodes : Book → State → Type 0
MarksNodes book state = (q : ℕ) (placed : Placed) → value_at q state.layout ≡ Some placed
    → full_in (book q) ≡ placed.full

-- what was read of some nodes of a layout, by their addresses; of each node's children, too
pub record AreRead (state : State) (links : List (ℕ × Surveyed)) : Type 0 where
  pub each : (q : ℕ) (link : Surveyed) → link_at links q ≡ Some link
      → (placed : Placed) × (value_at q state.layout ≡ Some placed) × (link ≡ surveyed_of q placed)
  pub closed : (q : ℕ) (link : Surveyed) → link_at links q ≡ Some link
      → (child : ℕ) → Contains link.linked.children child → IsSome (link_at links child)

-- all that is reached from the node of a level at an address was read
abbrev pub HasBelow : State → ℕ → ℕ → List (ℕ × Surveyed) → Type 0
HasBelow state level address links = (q : ℕ) → Reaches (node_at state.layout) level address q → IsSome (link_at links q)

-- what was read before is as it was, and what came is of no higher level
pub record Adds (level : ℕ) (old new : List (ℕ × Surveyed)) : Type 0 where
  pub kept : (q : ℕ) (link : Surveyed) → link_at old q ≡ Some link → link_at new q ≡ Some link
  pub low : (q : ℕ) (link : Surveyed) → link_at new q ≡ Some link → (link_at old q ≡ Some link)
      ⊎ (link.linked.level ≤ level)

-- Nodes were read on, of a level at most. Each that came was read once, but that those on the way may have been read
-- and not come
pub record GoesOn (state : State) (level : ℕ) (old new : List (ℕ × Surveyed)) (before after : ℕ) : Type 0 where
  pub read : AreRead state new
  pub adds : Adds level old new
  pub once : after + length old ≤ before + length new + (level + 1)

-- all below the node of a level at an address was read, and each node that came was read once
pub record EndsBelow (state : State) (level address : ℕ) (old new : List (ℕ × Surveyed))
    (before after : ℕ) : Type 0 where
  pub below : HasBelow state level address new
  pub once : after + length old ≤ before + length new

-- all below the nodes of a level that ways lead to was read, and each node that came was read once
pub record EndBelow (state : State) (level : ℕ) (ways : List Way) (old new : List (ℕ × Surveyed))
    (before after : ℕ) : Type 0
  where
    pub below : All (λ way. HasBelow state level way.address new) ways
    pub once : after + length old ≤ before + length new

-- the way to a tree's root leads to a branch, of eight levels at most
pub record LeadsOn (state : State) (tree : Root) : Type 0 where
  pub low : tree.height ≤ 7
  pub leads : (way : Way) → way.address ≡ tree.address → way.expected ≡ root_expected (Some tree.height) None
      → LeadsToBranch state tree.height way

-- all nodes of some trees were read, and each node that came was read once
pub record EndTrees (state : State) (trees : List Root) (old new : List (ℕ × Surveyed))
    (before after : ℕ) : Type 0 where
  pub below : All (λ tree. HasBelow state tree.height tree.address new) trees
  pub once : after + length old ≤ before + length new

-- the trees of all subvolumes of a state, ascending by number
abbrev pub trees_of : State → List Root
trees_of state = map (tree_of state) (keys_of state.subvolumes)
