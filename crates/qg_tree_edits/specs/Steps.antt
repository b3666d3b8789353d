-- What each step of an edit asks and leaves (this project's own). Addresses are in bytes.
use Rattle.std.specs.Prelude.{◌≡◌, ℕ, ◌+◌, ◌-◌, ◌*◌, ◌<◌, ◌≤◌, List, ◌++◌, length, Option, Some, None, Result, IfOk}
use Rattle.std.specs.Prelude.{IsErrOf, OnOk, OnErr}
use Rattle.qg_device.specs.Cause.{HasCause}
use Rattle.qg_device.specs.History.{Event, History, Recorded}
use Rattle.qg_num.specs.declared.key.Key.{Key}
use Rattle.qg_num.specs.declared.rule.Rule.{Rule}
use Rattle.qg_num.specs.declared.fault.BlockFault.{BlockFault}
use Rattle.qg_num.specs.declared.fault.BlockFault.TheVariants.{Disk}
use Rattle.qg_node.specs.declared.item.Item.{Item}
use Rattle.qg_node.specs.declared.pointer.Pointer.{Pointer}
use Rattle.qg_node.specs.declared.node.Header.{Header}
use Rattle.qg_node.specs.declared.node.Node.{Node}
use Rattle.qg_node.specs.Nodes.{own_pointers}
use Rattle.qg_node.specs.NodeText.{IsNodeSize}
use Rattle.qg_super.specs.declared.superblock.Super.{Super}
use Rattle.qg_shape.specs.Filled.{HasShortBodies, IsThin}
use Rattle.qg_blocks.specs.NodesFound.{BreaksNone, fresh_at, told}
use Rattle.qg_space.specs.Holding.{free_slots}
use Rattle.qg_image.specs.declared.expected.Expected.{Expected}
use Rattle.qg_image.specs.declared.tree.TreeKind.{TreeKind}
use Rattle.qg_node_alloc.specs.declared.ground.Ground.{Ground}
use Rattle.qg_node_alloc.specs.Changes.{IsOwnedBy}
use Rattle.qg_node_alloc.specs.Land.{Rests}
use Rattle.qg_node_alloc.specs.Tellings.{Telling}
use Rattle.qg_edit.specs.declared.edit.Edit.{Edit}
use Rattle.qg_edit.specs.declared.edit.Change.TheVariants.{Clear}
use Rattle.qg_edit.specs.Edits.{growth_of}
use Rattle.qg_edit.specs.Outcome.{IsInFront}
use Rattle.qg_walk.specs.Standing.{form_failure}
use Rattle.qg_tree_read.specs.Tree.{Root, super_of}
use Rattle.qg_tree_edits.specs.declared.instead.Instead.{Instead}
use Rattle.qg_tree_edits.specs.declared.pairing.Pair.{Pair}
use Rattle.qg_tree_edits.specs.First.{least, leaves, leaves_behind}
use Rattle.qg_tree_edits.specs.Editing.{CanLead, CanMake, IsEditable, IsEmptyIfLeaf, IsFreshOn, IsOwned, IsPartEdited}
use Rattle.qg_tree_edits.specs.Editing.{IsPartFit, IsPlacedBehind, IsSettled, IsUnsettled, KeepsLeaves, Moves}
use Rattle.qg_tree_edits.specs.Editing.{RestIsReady, StandsInstead, alone, slots_for}
use Rattle.qg_tree_edits.specs.Uniting.{IsPaired}
use Rattle.qg_tree_edits.specs.Rooting.{HasRoot, StandsForRoot, StaysTree}
use Rattle.qg_tree_edits.specs.Counting.{IsPartTold, IsRootTold, IsSettledTold, TellsUnited}
use Rattle.qg_tree_edits.specs.Failing.{ArentJoined, CantGrow, CantSettle, FailsUnder, IsMisled, IsRefused}
use Rattle.qg_tree_edits.specs.Failing.{LacksNeighbour, NamesOnly, StandsFor}

-- ---- any step

-- what a step asks over any disk: nodes and space in which a tree is edited by the generation to come, a number and a
-- generation that nodes may have which are made for it, and so many free slots
pub record IsReadyFor (many : ℕ) (tree : TreeKind) (root : Root) (land : Ground) (history : History) (bytes : ℕ)
    : Type 0 where
  pub editable : IsEditable land history bytes root.next
  pub makes : CanMake tree root
  pub slots : many ≤ free_slots land.space

-- ---- a node is owned

-- Over any disk: the node is owned that the way leads to expect. At most one slot fewer is free, and each fresh node
-- has the tree's number as owner, or the owner that the fresh node at its address had
pub record OwnsNode (tree : TreeKind) (root : Root) (expected : Expected) (at : ℕ) (old new : Ground)
    (history : History) (result : Result ℕ BlockFault) : Type 0 where
  pub is : IfOk result (λ now. IsOwned tree root old new history expected at now)
  pub count : OnOk result (free_slots old.space ≤ 1 + free_slots new.space)
  pub owners : OnOk result (IsOwnedBy root.owner old new)

-- No rule is named where such a node is told, and over a disk that tells only where it is misread. `Disk` is answered
-- exactly where the disk met a fault
pub record FailsToOwn (tree : TreeKind) (root : Root) (expected : Expected) (at : ℕ) (old new : Ground)
    (history : History) (before now : ℕ) (result : Result ℕ BlockFault) : Type 0 where
  pub sound : (node : Node) → told old.blocks.draft history at ≡ Some node
      → form_failure tree (super_of root old.blocks.draft) expected at node ≡ None → BreaksNone result
  pub broken : (events : List Event) → history ≡ Recorded events
      → NamesOnly (IsRefused tree root old new events expected at) result
  pub cause : HasCause Disk before now result

-- ---- the rest of a node that was cut is placed

-- a fresh node of a level lies at an address, and what was cut off it, if anything, may be written
pub record HasRest (land : Ground) (level now generation : ℕ) (rest : Option Node) : Type 0 where
  pub fresh : IsFreshOn land level now
  pub ready : RestIsReady land.space.sizes.nodesize level generation rest

-- The rest lies behind its node and has this owner, each is fresh and of the level, and where there is no rest the node
-- is alone. It takes a slot only where there is one, and fresh nodes above stay as they are
pub record PlacesRest (owner : ℕ) (old new : Ground) (level now : ℕ) (rest : Option Node)
    (result : Result Instead BlockFault) : Type 0 where
  pub stood : IfOk result (λ instead. StandsInstead new level instead)
  pub placed : IfOk result (λ instead. IsPlacedBehind owner old new now rest instead)
  pub whole : rest ≡ None → IfOk result (λ instead. instead.more ≡ None)
  pub moves : OnOk result (Moves (slots_for rest) level old new)

-- ---- a tree gets its root

-- Over any disk: the tree keeps its number and generation, and gets at most so many levels higher. At most so many
-- slots fewer are free, and each fresh node has the tree's number as owner, or the owner that the fresh node at its
-- address had. After an Err the tree is where it was
pub record SetsRoot {T : Type 0} (levels slots : ℕ) (before after : Root) (old new : Ground)
    (result : Result T BlockFault) : Type 0 where
  pub stays : StaysTree levels before after
  pub count : OnOk result (free_slots old.space ≤ slots + free_slots new.space)
  pub owners : OnOk result (IsOwnedBy before.owner old new)
  pub err : OnErr result (after ≡ before)

-- Where these are the items under what stands in the place of the root: the tree has them. Where one node stands there,
-- each leaf keeps its items. And the book is told what becomes of the ways
pub record RootsItems {B T : Type 0} (follows : B → List Telling → B → Type 0) (tree : TreeKind) (before after : Root)
    (old new : Ground) (history : History) (instead : Instead) (items : List Item) (book later : B)
    (result : Result T BlockFault) : Type 0 where
  pub rooted : OnOk result (HasRoot tree before after old new history instead items)
  pub leaves : instead.more ≡ None
      → OnOk result (leaves (told new.blocks.draft history) after.height after.address
      ≡ leaves (told old.blocks.draft history) before.height instead.now)
  pub told : (start : B) (log : List Telling) → follows start log book
      → OnOk result ((tellings : List Telling) × follows start (log ++ tellings) later
      × IsRootTold before after old new history instead tellings)

-- Over a disk that tells no rule is named where the items ascend and the tree may get higher, and else only where no
-- root fits. `Disk` is answered exactly where the disk met a fault
pub record FailsToRoot {T : Type 0} (tree : TreeKind) (root : Root) (old new : Ground) (history : History)
    (instead : Instead) (before now : ℕ) (result : Result T BlockFault) : Type 0 where
  pub sound : (events : List Event) → history ≡ Recorded events → (items : List Item)
      → StandsForRoot tree root old history instead items → root.height < 7 → BreaksNone result
  pub broken : (events : List Event) → history ≡ Recorded events → NamesOnly (CantGrow root new) result
  pub cause : HasCause Disk before now result

-- ---- a part of a tree is edited

-- Over any disk: what stands in the place of the node of a level at an address is fresh and of that level, and is one
-- node where no item comes. It lies at the address, or in a slot that was free. At most 2 * (level + 1) slots fewer are
-- free, fresh nodes above stay as they are, and each fresh node has the owner, or the one that the fresh node at its
-- address had
pub record EditsPart (edit : Edit) (owner level at : ℕ) (old new : Ground) (result : Result Instead BlockFault)
    : Type 0 where
  pub stood : IfOk result (λ instead. StandsInstead new level instead)
  pub whole : growth_of edit.change ≡ 0 → IfOk result (λ instead. instead.more ≡ None)
  pub there : IfOk result (λ instead. StandsFor old at instead.now)
  pub moves : OnOk result (Moves (2 * (level + 1)) level old new)
  pub owners : OnOk result (IsOwnedBy owner old new)

-- Where the edit may be done to a part of a tree with these items: it is edited. Where the first leaf is cleared, each
-- other leaf keeps its items. And the book is told what becomes of the ways
pub record EditsItems {B : Type 0} (follows : B → List Telling → B → Type 0) (tree : TreeKind) (root : Root)
    (edit : Edit) (level at : ℕ) (old new : Ground) (history : History) (items : List Item)
    (book later : B) (result : Result Instead BlockFault) : Type 0 where
  pub edited : IfOk result (λ instead. IsPartEdited tree root old new history level at edit items instead)
  pub leaves : edit.key ≡ least → edit.change ≡ Clear
      → IfOk result (λ instead. leaves (told new.blocks.draft history) level instead.now
      ≡ leaves_behind (leaves (told old.blocks.draft history) level at))
  pub told : (before : B) (log : List Telling) → follows before log book
      → IfOk result (λ instead. (tellings : List Telling) × follows before (log ++ tellings) later
      × IsPartTold old new history level at instead tellings)

-- Over a disk that tells no rule is named where the edit may be done to a part of a tree, and else only where something
-- does not fit there. `Disk` is answered exactly where the disk met a fault
pub record FailsToEdit (tree : TreeKind) (root : Root) (edit : Edit) (level : ℕ) (expected : Expected) (at : ℕ)
    (old new : Ground) (history : History) (before now : ℕ) (result : Result Instead BlockFault)
    : Type 0 where
  pub sound : (events : List Event) → history ≡ Recorded events → (items : List Item)
      → IsPartFit tree root old history level expected at edit items → BreaksNone result
  pub broken : (events : List Event) → history ≡ Recorded events
      → NamesOnly (FailsUnder tree root edit events level expected at old new) result
  pub cause : HasCause Disk before now result

-- ---- a fresh node is edited where it lies

-- nodes and space agree on the size of a node, and it is one that nodes may have
pub record HasNodeSize (land : Ground) : Type 0 where
  pub size : IsNodeSize land.space.sizes.nodesize
  pub nodesize : land.blocks.draft.sizes.nodesize ≡ land.space.sizes.nodesize

-- No rule is named where the fresh node at an address is such, and else only where it is so of the node. `Disk` is
-- never answered
pub record FailsInPlace {T : Type 0} (land : Ground) (at : ℕ) (IsSuch : Node → Type 0)
    (IsSo : Node → Rule → ℕ → Type 0) (result : Result T BlockFault) : Type 0 where
  pub sound : (node : Node) → fresh_at land.blocks.draft at ≡ Some node → IsSuch node → BreaksNone result
  pub broken : (node : Node) → fresh_at land.blocks.draft at ≡ Some node → NamesOnly (IsSo node) result
  pub no_disk : IsErrOf result Disk → ⊥

-- No rule is named where a node of a tree is led to what stands in the place of children, and else only where its
-- pointers would not ascend. `Disk` is never answered
pub record FailsToLead {T : Type 0} (land : Ground) (at from to : ℕ) (instead : Instead)
    (result : Result T BlockFault) : Type 0 where
  pub sound : (tree : TreeKind) (super : Super) (history : History) (level : ℕ) (pointers : List Pointer)
      (header : Header) (items : List Item)
      → CanLead tree super land history level at from to instead pointers header items → BreaksNone result
  pub broken : (node : Node) → fresh_at land.blocks.draft at ≡ Some node
      → NamesOnly (IsMisled land node from to instead) result
  pub no_disk : IsErrOf result Disk → ⊥

-- ---- two fresh neighbours are joined

-- Where a generation may write the fresh nodes, it may write them afterwards, and what the last commit holds is as it
-- was. The book is told where the right one is left, and what stood of book, land and disk between two edits stands
-- still
pub record UnitesDrafted {B D : Type 0} (follows : B → List Telling → B → Type 0) (Settled : B → Ground → D → Type 0)
    (old new : Ground) (after : History) (generation right : ℕ) (book later : B) (disk left : D)
    (result : Result Instead BlockFault) : Type 0 where
  pub rests : Rests old new after generation
  pub told : (before : B) (log : List Telling) → follows before log book
      → IfOk result (λ instead. (tellings : List Telling) × follows before (log ++ tellings) later
      × TellsUnited right instead tellings)
  pub settled : Settled book old disk → OnOk result (Settled later new left)

-- Over a disk that tells no rule is named where the keys of two fresh neighbours follow each other and their bodies are
-- short, and else only where they don't. `Disk` is answered exactly where the disk met a fault
pub record FailsToUnite {T : Type 0} (old new : Ground) (left right : ℕ) (history : History)
    (before now : ℕ) (result : Result T BlockFault) : Type 0 where
  pub sound : (events : List Event) → history ≡ Recorded events → (a b : Node) → fresh_at old.blocks.draft left ≡ Some a
      → fresh_at old.blocks.draft right ≡ Some b → IsInFront a b → HasShortBodies a → HasShortBodies b
      → BreaksNone result
  pub broken : (events : List Event) → history ≡ Recorded events → (a b : Node)
      → fresh_at old.blocks.draft left ≡ Some a → fresh_at old.blocks.draft right ≡ Some b
      → NamesOnly (ArentJoined new left right a b) result
  pub cause : HasCause Disk before now result

-- ---- the pointers of a node are set

-- a fresh node of the level above lies at an address, and has a pointer at an index
pub record HasPlace (land : Ground) (level at place : ℕ) : Type 0 where
  pub fresh : IsFreshOn land (level + 1) at
  pub inside : (node : Node) → fresh_at land.blocks.draft at ≡ Some node → place < length (own_pointers node)

-- a fresh node of a level that isn't a quarter full lies at an address
pub record IsThinOn (land : Ground) (level at : ℕ) : Type 0 where
  pub fresh : IsFreshOn land level at
  pub thin : (node : Node) → fresh_at land.blocks.draft at ≡ Some node → IsThin land.space.sizes.nodesize node

-- Over any disk: the neighbour of the child at an index of a node is owned, and the pair is these two. At most one slot
-- fewer is free, and each fresh node has the tree's number as owner, or the owner that the fresh node at its address
-- had
pub record OwnsNeighbour (tree : TreeKind) (root : Root) (level at : ℕ) (to : Option Key) (place child : ℕ)
    (old new : Ground) (history : History) (result : Result Pair BlockFault) : Type 0 where
  pub is : (node : Node) → fresh_at old.blocks.draft at ≡ Some node
      → IfOk result (λ pair. IsPaired tree root old new history (own_pointers node) to level place child pair)
  pub count : OnOk result (free_slots old.space ≤ 1 + free_slots new.space)
  pub owners : OnOk result (IsOwnedBy root.owner old new)

-- No rule is named where the child at an index of a node of a tree was edited, and over a disk that tells only where it
-- has no neighbour, or that one is misread, or is the child. `Disk` is answered exactly where the disk met a
-- fault
pub record FailsToPair (tree : TreeKind) (root : Root) (level at : ℕ) (to : Option Key) (place child : ℕ)
    (old new : Ground) (history : History) (before now : ℕ) (result : Result Pair BlockFault)
    : Type 0 where
  pub sound : (items : List Item) → IsUnsettled tree root old history level at to place (alone child) items
      → BreaksNone result
  pub broken : (node : Node) → fresh_at old.blocks.draft at ≡ Some node → IsFreshOn old level child
      → (events : List Event) → history ≡ Recorded events
      → NamesOnly (LacksNeighbour tree root new events node at to level place child) result
  pub cause : HasCause Disk before now result

-- Over any disk: the node stays a fresh one of its level, and what is cut off it may be written; nothing is where one
-- node stands in the child's place. A slot is taken only where nothing is cut off, fresh nodes above stay as they are,
-- and each fresh node has the tree's number as owner, or the owner that the fresh node at its address had
pub record SetsPointers (root : Root) (level at : ℕ) (child : Instead) (old new : Ground)
    (result : Result (Option Node) BlockFault) : Type 0 where
  pub parent : OnOk result (IsFreshOn new (level + 1) at)
  pub ready : IfOk result (λ rest. RestIsReady old.space.sizes.nodesize (level + 1) root.next rest)
  pub whole : child.more ≡ None → IfOk result (λ rest. rest ≡ None)
  pub moves : IfOk result (λ rest. Moves (1 - slots_for rest) (level + 1) old new)
  pub owners : OnOk result (IsOwnedBy root.owner old new)

-- Where the child at an index of a node of a tree was edited, and these are the items under the node: its pointers lead
-- to them. Where the first child stands alone, each leaf below keeps its items, and a child that was an empty leaf is
-- gone. And the book is told what becomes of the ways
pub record SettlesItems {B : Type 0} (follows : B → List Telling → B → Type 0) (tree : TreeKind) (root : Root)
    (level at place : ℕ) (child : Instead) (old new : Ground) (history : History)
    (pointers : List Pointer) (header : Header) (items : List Item) (book later : B)
    (result : Result (Option Node) BlockFault) : Type 0 where
  pub settled : IfOk result (λ rest. IsSettled tree root old new history level at place child pointers header items
      rest)
  pub leaves : place ≡ 0 → child.more ≡ None → IsEmptyIfLeaf old history level child.now
      → OnOk result (KeepsLeaves old new history level at child.now pointers)
  pub told : (before : B) (log : List Telling) → follows before log book
      → IfOk result (λ rest. (tellings : List Telling) × follows before (log ++ tellings) later
      × IsSettledTold tree root old new history level at place child pointers header items rest tellings)

-- Over a disk that tells no rule is named where the child at an index of a node of a tree was edited, and else only
-- where something does not fit there. `Disk` is answered exactly where the disk met a fault
pub record FailsToSettle (tree : TreeKind) (root : Root) (level at : ℕ) (to : Option Key) (place : ℕ) (child : Instead)
    (old new : Ground) (history : History) (before now : ℕ) (result : Result (Option Node) BlockFault)
    : Type 0 where
  pub sound : (events : List Event) → history ≡ Recorded events → (items : List Item)
      → IsUnsettled tree root old history level at to place child items → BreaksNone result
  pub broken : (node : Node) → fresh_at old.blocks.draft at ≡ Some node → (events : List Event)
      → history ≡ Recorded events
      → NamesOnly (CantSettle tree root new events node at to level place child.now) result
  pub cause : HasCause Disk before now result
