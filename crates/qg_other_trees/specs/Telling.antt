-- A state that the root, extent and quota trees of a commit tell (this project's own). Addresses and lengths are in
-- bytes.
use Rattle.std.specs.Prelude.{◌≡◌, ℕ, ◌<◌, ◌≤◌, false, List, [], ◌∷◌, Option, Some, None, Contains, IsSome, ◌==◌}
use Rattle.std.specs.List.{AllByRecursion, IsDistinct}
use Rattle.std.specs.List.Sorted.{IsPermutation}
use Rattle.qg_num.specs.declared.counters.Counters.{Counters}
use Rattle.qg_node.specs.declared.node.Node.{Node}
use Rattle.qg_node.specs.Nodes.{header_of}
use Rattle.qg_items.specs.declared.extent.Reference.{Reference}
use Rattle.qg_items.specs.declared.root.RootItem.{RootItem}
use Rattle.qg_items.specs.declared.tree.TheConstants.{TOP_LEVEL}
use Rattle.qg_super.specs.declared.sizes.Sizes.{Sizes}
use Rattle.qg_image.specs.Table.{value_at}
use Rattle.qg_image.specs.declared.element.Element.{Element}
use Rattle.qg_image.specs.declared.quota.Quota.{Quota}
use Rattle.qg_image.specs.State.{Layout, Placed, State, Subvolume, layout_of, node_at, blank_quota}
use Rattle.qg_image.specs.Owed.{is_nothing, layout_extents, owed_count, what_at}
use Rattle.qg_image.specs.ImageState.{addresses_of}
use Rattle.qg_image.specs.OtherTrees.{AreOtherTrees, subvolume_items}
use Rattle.qg_refs.specs.declared.kept.Kept.{Kept}
use Rattle.qg_refs.specs.Book.{AgreesWithOwed, Book, full_in, what_in}
use Rattle.qg_extents.specs.Table.{book_of, IsTable}
use Rattle.qg_other_trees.specs.declared.laying.OtherTrees.{OtherTrees}
use Rattle.qg_other_trees.specs.Trees.{nodes_laid}

-- ---- what a book knows

-- of a node: its level, generation and full mark
pub record IsKnownNode (placed : Placed) (kept : Option Kept) : Type 0 where
  pub bytes : ℕ
  pub known : what_in kept ≡ Some (record {
    bytes = bytes;
    level = Some (header_of placed.node).level;
    generation = (header_of placed.node).generation;
  })
  pub full : full_in kept ≡ placed.full

-- of a data extent: its length
pub record IsKnownExtent (bytes : ℕ) (kept : Option Kept) : Type 0 where
  pub generation : ℕ
  pub known : what_in kept ≡ Some (record { bytes = bytes; level = None; generation = generation })

-- A book knows what a layout has: it counts what is owed, of each node and data extent it knows what it is, and what is
-- owed is owed to a node or a data extent
pub record Knows (layout : Layout) (book : Book) : Type 0 where
  pub owed : AgreesWithOwed layout book
  pub nodes : (at : ℕ) (placed : Placed) → value_at at layout.nodes ≡ Some placed → IsKnownNode placed (book at)
  pub extents : (run : Element) → Contains (layout_extents layout) run → IsKnownExtent run.bytes (book run.address)
  pub begins : (at : ℕ) (reference : Reference) → 0 < owed_count layout at reference
      → is_nothing (what_at layout at) ≡ false

-- ---- the state

-- quota with one group, that of the top-level subvolume, which has these counters since a generation and no limit
abbrev pub one_group : Counters → ℕ → Quota
one_group counters stamp = record blank_quota {
  groups = (TOP_LEVEL, record { counters = counters; max_rfer = None; max_excl = None; stamp = stamp }) ∷ [];
}

-- a subvolume's root node stands in a layout
abbrev pub HasRoot : List (ℕ × Placed) → ℕ × Subvolume → Type 0
HasRoot layout entry = IsSome (node_at layout entry.1.root)

-- a committed state with these sizes and this generation; its subvolumes have these ROOT_ITEMs, and its quota is this;
-- and a table has the references to its nodes and data extents
pub record IsStateOf (sizes : Sizes) (generation : ℕ) (roots : List (ℕ × RootItem)) (book : List (ℕ × Kept))
    (quota : Option Quota) (state : State) : Type 0 where
  pub some : 1 ≤ generation
  pub same_sizes : sizes ≡ state.sizes
  pub same_generation : generation ≡ state.generation
  pub there : AllByRecursion (HasRoot state.layout) state.subvolumes
  pub roots_are : subvolume_items state ≡ roots
  pub quota_is : state.quota ≡ quota
  pub table : IsTable book
  pub known : Knows (layout_of state) (book_of book)

-- ---- what is told

-- these are the nodes that were laid out in slots, each tree's in the order of its walk; they tell this state, and lie
-- apart
pub record AreToldBy (state : State) (slots : List ℕ) (trees : OtherTrees) (others : List Node) : Type 0 where
  pub moved : IsPermutation others (nodes_laid trees)
  pub within : (slot : ℕ) → Contains (addresses_of others) slot → Contains slots slot
  pub apart : IsDistinct (λ a b. a == b) (addresses_of others)
  pub tell : AreOtherTrees state others
