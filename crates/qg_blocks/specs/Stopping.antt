-- Why a call names a rule at an address, over any disk, also one that tells nothing (this project's own). Addresses are
-- in bytes.
use Rattle.std.specs.Prelude.{◌≡◌, ⊤, ◌⊎◌, ℕ, Some, Result, Ok, Err, length}
use Rattle.qg_num.specs.declared.fault.BlockFault.{BlockFault}
use Rattle.qg_num.specs.declared.fault.BlockFault.TheVariants.{NoMemory, Disk, Image}
use Rattle.qg_num.specs.declared.rule.Rule.{Rule}
use Rattle.qg_num.specs.declared.rule.Rule.TheVariants.{File, Item, Refs, Shape}
use Rattle.qg_node.specs.declared.node.Node.{Node}
use Rattle.qg_node.specs.Nodes.{own_pointers}
use Rattle.qg_super.specs.declared.sizes.Sizes.{Sizes}
use Rattle.qg_super.specs.declared.superblock.Super.{Super}
use Rattle.qg_image.specs.Walk.{node_failure}
use Rattle.qg_blocks.specs.Types.{Broken, Expected, TreeKind}
use Rattle.qg_blocks.specs.NodesFound.{HasNoNode, IsNodeAt}

-- A node that has a text and names an address is none such as a tree expects there: of the rules from `depth` to `item`
-- this is the first that it breaks. They ask the level, the generation, the first key and the next one that the pointer
-- above told, and the tree's owner
pub record IsMisplaced (nodesize address : ℕ) (rule : Rule) : Type 0 where
  pub tree : TreeKind
  pub super : Super
  pub expected : Expected
  pub node : Node
  pub sized : super.nodesize ≡ nodesize
  pub kept : IsNodeAt nodesize address node
  pub breaks : node_failure tree super expected address node ≡ Some (Broken rule address)

-- rule `shape`: a node that has a text and names an address has one pointer, and so no two children that can be joined
pub record IsLone (nodesize address : ℕ) (rule : Rule) : Type 0 where
  pub shape : rule ≡ Shape
  pub node : Node
  pub kept : IsNodeAt nodesize address node
  pub lone : length (own_pointers node) ≡ 1

-- a rule on how things fit that were read in different places, or are in memory: references or slots that are not what
-- they should be, an item that says nothing or is longer than a tree holds, pieces that no file has
abbrev pub IsMisfit : Rule → Type 0
IsMisfit rule = (rule ≡ Refs) ⊎ ((rule ≡ Item) ⊎ (rule ≡ File))

-- Why a rule is named at an address: a disk of so many bytes has no node there for just that rule; or a node there is
-- none such as is expected, for just that rule; or it is a lone one; or the rule is on how things fit
abbrev pub IsStopCause : Sizes → ℕ → Rule → ℕ → Type 0
IsStopCause sizes bytes rule address = HasNoNode sizes bytes address rule ⊎ (IsMisplaced sizes.nodesize address rule
    ⊎ (IsLone sizes.nodesize address rule ⊎ IsMisfit rule))

-- a call names a rule at an address only for such a cause
abbrev pub StopsForCause : {A : Type 0} → Result A BlockFault → Sizes → ℕ → Type 0
StopsForCause (Ok x) sizes bytes = ⊤
StopsForCause (Err (Image rule at)) sizes bytes = IsStopCause sizes bytes rule at
StopsForCause (Err Disk) sizes bytes = ⊤
StopsForCause (Err NoMemory) sizes bytes = ⊤

-- where a call names a rule, it is this one
abbrev pub NamesRule : {A : Type 0} → Result A BlockFault → Rule → Type 0
NamesRule (Ok x) wanted = ⊤
NamesRule (Err (Image rule at)) wanted = rule ≡ wanted
NamesRule (Err Disk) wanted = ⊤
NamesRule (Err NoMemory) wanted = ⊤
