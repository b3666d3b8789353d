-- What nodes in memory and a disk tell together (this project's own).
--
-- A disk is told by its history: what was done to it, where it tells.
use Rattle.std.specs.Prelude.{◌≡◌, ◌⊎◌, ⊤, ℕ, false, nat_eq, List, length, Option, Some, None, Result, Ok, Err, IsOk}
use Rattle.std.specs.Prelude.{IsSome, Contains}
use Rattle.std.specs.Result.{result_ok}
use Rattle.std.specs.Ordering.{nat_cmp}
use Rattle.std.specs.BTreeMap.{is_at}
use Rattle.std.specs.Map.{lookup}
use Rattle.qg_device.specs.History.{Event, History, Recorded, Unrecorded, content}
use Rattle.qg_num.specs.declared.rule.Rule.{Rule}
use Rattle.qg_num.specs.declared.rule.Rule.TheVariants.{Slot}
use Rattle.qg_num.specs.declared.fault.BlockFault.{BlockFault}
use Rattle.qg_num.specs.declared.fault.BlockFault.TheVariants.{NoMemory, Disk, Image}
use Rattle.qg_node.specs.declared.node.Node.{Node}
use Rattle.qg_node.specs.Nodes.{header_of}
use Rattle.qg_node.specs.NodeText.{IsNode}
use Rattle.qg_node.specs.Reading.{node_read}
use Rattle.qg_super.specs.declared.sizes.Sizes.{Sizes}
use Rattle.qg_blocks.specs.NodesInMemory.{Draft, Held}
use Rattle.qg_blocks.specs.Standing.{has_slot, ruled, standing}

-- ---- nodes in memory

-- the fresh node at an address
abbrev pub fresh_at : Draft → ℕ → Option Node
fresh_at draft address = lookup (is_at (nat_cmp address)) draft.fresh

-- the clean node at an address
abbrev pub clean_at : Held → ℕ → Option Node
clean_at held address = lookup (nat_eq address) held.clean

-- the first of two that is some
abbrev pub first_of : {A : Type 0} → Option A → Option A → Option A
first_of (Some x) other = Some x
first_of None other = other

-- the node in memory at an address: the fresh one, or else the clean one
abbrev pub held_at : Held → ℕ → Option Node
held_at held address = first_of (fresh_at held.draft address) (clean_at held address)

-- ---- what is told

-- a fresh node, or else what stands in an image
abbrev pub fresh_or : Option Node → Result Node Rule → Result Node Rule
fresh_or (Some node) other = Ok node
fresh_or None other = other

-- what is found at an address over an image: a node, or the first rule that is broken there
abbrev pub found : Draft → List ℕ → ℕ → Result Node Rule
found draft image address = fresh_or (fresh_at draft address) (standing draft.sizes image address)

-- a fresh node, or else what stands on a disk that tells
abbrev pub told_or : Option Node → Sizes → History → ℕ → Option Node
told_or (Some node) sizes history address = Some node
told_or None sizes (Unrecorded changes) address = None
told_or None sizes (Recorded events) address = result_ok (standing sizes (content events) address)

-- the map from address to node: what fresh nodes and a disk tell together. A disk that tells nothing adds none.
unfoldable pub told : Draft → History → ℕ → Option Node
told draft history address = told_or (fresh_at draft address) draft.sizes history address

-- ---- clean nodes

-- where the disk tells, this node stands at an address
abbrev pub StandsThere : Sizes → History → ℕ → Node → Type 0
StandsThere sizes history address node = (events : List Event) → history ≡ Recorded events
    → standing sizes (content events) address ≡ Ok node

-- a node that has a text of so many bytes, and names an address as its own
pub record IsNodeAt (nodesize address : ℕ) (node : Node) : Type 0 where
  pub sound : IsNode nodesize node
  pub placed : (header_of node).address ≡ address

-- each clean node stands at its address, where the disk tells. Over any disk it has a text and names its address, and
-- no node is fresh there
pub record IsBacked (held : Held) (history : History) : Type 0 where
  pub stands : (address : ℕ) (node : Node) → Contains held.clean (address, node)
      → StandsThere held.draft.sizes history address node
  pub kept : (address : ℕ) (node : Node) → Contains held.clean (address, node)
      → IsNodeAt held.draft.sizes.nodesize address node
  pub apart : (address : ℕ) (node : Node) → Contains held.clean (address, node) → fresh_at held.draft address ≡ None

-- the map from address to node stays as it is, and so does the room for clean nodes, which are those of the disk
pub record StaysBacked (before after : Held) (history : History) : Type 0 where
  pub draft : after.draft ≡ before.draft
  pub bound : after.bound ≡ before.bound
  pub backed : IsBacked after history

-- a node is in memory at an address: the one that is told, where one is; and one that is not fresh has a text and names
-- the address
pub record IsAtHand (memory : Held) (draft : Draft) (history : History) (address : ℕ) : Type 0 where
  pub held : IsSome (held_at memory address)
  pub told : (node : Node) → told draft history address ≡ Some node → held_at memory address ≡ Some node
  pub kept : (node : Node) → fresh_at draft address ≡ None → held_at memory address ≡ Some node
      → IsNodeAt draft.sizes.nodesize address node

-- ---- answers

-- a call that reads at an address finds a node there, or answers the first rule that is broken there; unless memory was
-- refused or the disk failed
abbrev pub Answers : {A : Type 0} → Result A BlockFault → ℕ → Result Node Rule → Type 0
Answers (Ok x) address wanted = IsOk wanted
Answers (Err (Image rule at)) address wanted = (at ≡ address) × (wanted ≡ Err rule)
Answers (Err Disk) address wanted = ⊤
Answers (Err NoMemory) address wanted = ⊤

-- and the node that it answers is the one that is found
abbrev pub Finds : Result Node BlockFault → ℕ → Result Node Rule → Type 0
Finds (Ok node) address wanted = wanted ≡ Ok node
Finds (Err fault) address wanted = Answers {A = Node} (Err fault) address wanted

-- no rule is broken
abbrev pub BreaksNone : {A : Type 0} → Result A BlockFault → Type 0
BreaksNone (Ok x) = ⊤
BreaksNone (Err (Image rule at)) = ⊥
BreaksNone (Err Disk) = ⊤
BreaksNone (Err NoMemory) = ⊤

-- this holds where a rule was found broken
abbrev pub IfBroken : {A : Type 0} → Result A BlockFault → Type 0 → Type 0
IfBroken (Ok x) Holds = ⊤
IfBroken (Err (Image rule at)) Holds = Holds
IfBroken (Err Disk) Holds = ⊤
IfBroken (Err NoMemory) Holds = ⊤

-- where a rule was found broken, it is this one, at this address
abbrev pub BreaksAt : {A : Type 0} → Result A BlockFault → Rule → ℕ → Type 0
BreaksAt (Ok x) wanted address = ⊤
BreaksAt (Err (Image rule at)) wanted address = (rule ≡ wanted) × (at ≡ address)
BreaksAt (Err Disk) wanted address = ⊤
BreaksAt (Err NoMemory) wanted address = ⊤

-- as many bytes as a node has, of which this rule is the first that they break as the node of an address
pub record FailsAsNode (nodesize address : ℕ) (rule : Rule) : Type 0 where
  pub bytes : List ℕ
  pub whole : length bytes ≡ nodesize
  pub fails : ruled (node_read address bytes) ≡ Err rule

-- why a disk of so many bytes has no node at an address: no slot of it is there, or what was read fails this rule
abbrev pub HasNoNode : Sizes → ℕ → ℕ → Rule → Type 0
HasNoNode sizes bytes address rule =
    ((has_slot sizes bytes address ≡ false) × (rule ≡ Slot)) ⊎ FailsAsNode sizes.nodesize address rule

-- where a rule was found broken, it is at this address, at which a disk of so many bytes has no node for just that
-- rule: over any disk, also one that tells nothing
abbrev pub BreaksForCause : {A : Type 0} → Result A BlockFault → Sizes → ℕ → ℕ → Type 0
BreaksForCause (Ok x) sizes bytes address = ⊤
BreaksForCause (Err (Image rule at)) sizes bytes address = (at ≡ address) × HasNoNode sizes bytes address rule
BreaksForCause (Err Disk) sizes bytes address = ⊤
BreaksForCause (Err NoMemory) sizes bytes address = ⊤
