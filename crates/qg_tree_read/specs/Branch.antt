-- A part of a tree: the node of a level at an address, and all that stands below it (on-disk format, "B-tree").
-- Addresses are in bytes.
use Rattle.std.specs.Prelude.{◌≡◌, ℕ, zero, suc, ◌*◌, ◌++◌, List, [], ◌∷◌, Option, Some, None, IsTrue, nat_le}
use Rattle.qg_node.specs.declared.item.Item.{Item}
use Rattle.qg_node.specs.declared.pointer.Pointer.{Pointer}
use Rattle.qg_node.specs.declared.node.Header.{Header}
use Rattle.qg_node.specs.declared.node.Node.{Node}
use Rattle.qg_node.specs.declared.node.Node.TheVariants.{Leaf, Inner}
use Rattle.qg_node.specs.Nodes.{header_of, own_keys, used_bytes}
use Rattle.qg_super.specs.declared.superblock.Super.{Super}
use Rattle.qg_super.specs.Places.{capacity}
use Rattle.qg_blocks.specs.IsShaped.{is_first}
use Rattle.qg_blocks.specs.Types.{TreeKind}
use Rattle.qg_blocks.specs.Walk.{is_generation, is_owner}

-- a node that a tree may have on a level: by its level, its owner and its generation
pub record IsMember (tree : TreeKind) (super : Super) (level : ℕ) (header : Header) : Type 0 where
  pub levelled : header.level ≡ level
  pub owned : IsTrue (is_owner tree header.owner)
  pub dated : IsTrue (is_generation super.generation None header.generation)

-- what a pointer leads to: a node of the pointer's generation, a quarter full at least, that begins at the pointer's
-- key
pub record IsPointed (super : Super) (nodes : ℕ → Option Node) (pointer : Pointer) : Type 0 where
  pub node : Node
  pub there : nodes pointer.child ≡ Some node
  pub dated : (header_of node).generation ≡ pointer.generation
  pub full : IsTrue (nat_le (capacity super.nodesize) (4 * used_bytes node))
  pub first : IsTrue (is_first pointer.key (own_keys node))

-- what holds of each pointer and of the items under it, where these are the items under all of them, from left to right
abbrev pub UnderEach : (Pointer → List Item → Type 0) → List Pointer → List Item → Type 0
UnderEach Under [] items = items ≡ []
UnderEach Under (pointer ∷ pointers) items =
    (first : List Item) × (others : List Item) × (items ≡ first ++ others) × Under pointer first
    × UnderEach Under pointers others

-- The node of a level at an address, and those below it, are nodes of a tree, and these are the items under it. What
-- range their keys are in, and how full the first one is, is not said
unfoldable pub IsBranch : TreeKind → Super → (ℕ → Option Node) → ℕ → ℕ → List Item → Type 0
IsBranch tree super nodes zero address items =
    (header : Header) × (nodes address ≡ Some (Leaf header items)) × IsMember tree super zero header
IsBranch tree super nodes (suc level) address items =
    (header : Header) × (pointers : List Pointer) × (nodes address ≡ Some (Inner header pointers))
    × IsMember tree super (suc level) header
    × UnderEach (λ pointer under. IsPointed super nodes pointer × IsBranch tree super nodes level pointer.child under)
    pointers items

-- pointers to nodes of a level, and the items under them
abbrev pub AreBranches : TreeKind → Super → (ℕ → Option Node) → ℕ → List Pointer → List Item → Type 0
AreBranches tree super nodes level =
    UnderEach (λ pointer under. IsPointed super nodes pointer × IsBranch tree super nodes level pointer.child under)
