-- Where a reading of a tree names a rule, over any disk, also one that tells nothing (this project's own). Addresses
-- are in bytes.
use Rattle.std.specs.Prelude.{◌≡◌, ⊤, ◌⊎◌, ℕ, zero, suc, Some, None, Result, Ok, Err}
use Rattle.qg_num.specs.declared.fault.BlockFault.{BlockFault}
use Rattle.qg_num.specs.declared.fault.BlockFault.TheVariants.{NoMemory, Disk, Image}
use Rattle.qg_num.specs.declared.rule.Rule.{Rule}
use Rattle.qg_node.specs.declared.node.Node.{Node}
use Rattle.qg_super.specs.declared.superblock.Super.{Super}
use Rattle.qg_blocks.specs.Types.{Broken, Expected, TreeKind}
use Rattle.qg_blocks.specs.Walk.{root_expected}
use Rattle.qg_walk.specs.Standing.{form_failure}
use Rattle.qg_blocks.specs.NodesInMemory.{Draft}
use Rattle.qg_blocks.specs.NodesFound.{HasNoNode, IsNodeAt}
use Rattle.qg_tree_read.specs.Tree.{Root, super_of}
use Rattle.qg_tree_read.specs.Way.{LeadsOn}

-- ---- what is expected at an address, and is not there

-- A node that has a text and names an address is none such as is expected there: of the rules from `depth` to `shape`
-- this is the first that it breaks. They ask the level, the generation, the first key and the next one that the pointer
-- above told, and the owner
pub record IsStray (tree : TreeKind) (super : Super) (expected : Expected) (address : ℕ) (rule : Rule) : Type 0 where
  pub node : Node
  pub kept : IsNodeAt super.nodesize address node
  pub strays : form_failure tree super expected address node ≡ Some (Broken rule address)

-- no node such as is expected is at an address: a disk of so many bytes has none there for just that rule, or the one
-- there is none such
abbrev pub LacksNode : TreeKind → Root → Draft → ℕ → Expected → ℕ → Rule → Type 0
LacksNode tree root draft bytes expected address rule =
    HasNoNode draft.sizes bytes address rule ⊎ IsStray tree (super_of root draft) expected address rule

-- where a rule is named, it is at this address, at which there is no node such as is expected for just that rule
abbrev pub StopsThere : {A : Type 0} → Result A BlockFault → TreeKind → Root → Draft → ℕ → Expected → ℕ → Type 0
StopsThere (Ok x) tree root draft bytes expected address = ⊤
StopsThere (Err (Image rule at)) tree root draft bytes expected address =
    (at ≡ address) × LacksNode tree root draft bytes expected address rule
StopsThere (Err Disk) tree root draft bytes expected address = ⊤
StopsThere (Err NoMemory) tree root draft bytes expected address = ⊤

-- ---- on the way down from a root

-- Pointers lead from a root to an address so many levels below, where this is expected, by nodes that have a text and
-- name their addresses, and of which each is such as is expected of it: over any disk, and so of some nodes
unfoldable pub MayComeTo : TreeKind → Super → Expected → ℕ → ℕ → Expected → ℕ → Type 0
MayComeTo tree super expected root zero below address = (below ≡ expected) × (address ≡ root)
MayComeTo tree super expected root (suc depth) below address =
    (above : Expected) × (parent : ℕ) × (node : Node) × MayComeTo tree super expected root depth above parent
    × IsNodeAt super.nodesize parent node × (form_failure tree super above parent node ≡ None)
    × LeadsOn node above below address

-- no node such as is expected is at an address that pointers lead to from the root of a tree
pub record LacksOnWay (tree : TreeKind) (root : Root) (draft : Draft) (bytes : ℕ) (rule : Rule) (address : ℕ)
    : Type 0 where
  pub depth : ℕ
  pub expected : Expected
  pub comes : MayComeTo tree (super_of root draft) (root_expected (Some root.height) None) root.address depth expected
      address
  pub lacks : LacksNode tree root draft bytes expected address rule

-- a rule is named only at an address on the way down, where there is no node such as is expected for just that rule
abbrev pub StopsOnWay : {A : Type 0} → Result A BlockFault → TreeKind → Root → Draft → ℕ → Type 0
StopsOnWay (Ok x) tree root draft bytes = ⊤
StopsOnWay (Err (Image rule at)) tree root draft bytes = LacksOnWay tree root draft bytes rule at
StopsOnWay (Err Disk) tree root draft bytes = ⊤
StopsOnWay (Err NoMemory) tree root draft bytes = ⊤
