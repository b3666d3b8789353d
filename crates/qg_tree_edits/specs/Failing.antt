-- Where an edit of a tree names a rule, over a disk that tells, and what does not fit there (this project's own).
-- Addresses are in bytes.
use Rattle.std.specs.Prelude.{◌≡◌, ⊤, ◌⊎◌, ℕ, zero, suc, ◌≤◌, ◌<◌, List, [], ◌∷◌, map, length, Option, Some, None}
use Rattle.std.specs.Prelude.{Result, Ok, Err, IsTrue, MatchOption}
use Rattle.std.specs.Ordering.{is_lt}
use Rattle.qg_device.specs.History.{Event, Recorded, content}
use Rattle.qg_num.specs.Key.{key_cmp}
use Rattle.qg_num.specs.declared.key.Key.{Key}
use Rattle.qg_num.specs.declared.rule.Rule.{Rule}
use Rattle.qg_num.specs.declared.rule.Rule.TheVariants.{Shape, Refs}
use Rattle.qg_num.specs.declared.fault.BlockFault.{BlockFault}
use Rattle.qg_num.specs.declared.fault.BlockFault.TheVariants.{NoMemory, Disk, Image}
use Rattle.qg_node.specs.declared.pointer.Pointer.{Pointer}
use Rattle.qg_node.specs.declared.node.Node.{Node}
use Rattle.qg_node.specs.Nodes.{header_of, own_pointers}
use Rattle.qg_shape.specs.Places.{LeadsTo}
use Rattle.qg_shape.specs.Pointing.{pointer_to}
use Rattle.qg_image.specs.declared.expected.Expected.{Expected}
use Rattle.qg_image.specs.declared.tree.TreeKind.{TreeKind}
use Rattle.qg_image.specs.Walk.{root_expected}
use Rattle.qg_blocks.specs.NodesFound.{found, fresh_at}
use Rattle.qg_space.specs.Holding.{is_free_slot}
use Rattle.qg_node_alloc.specs.declared.ground.Ground.{Ground}
use Rattle.qg_edit.specs.declared.edit.Edit.{Edit}
use Rattle.qg_edit.specs.Answering.{CanSplice, IsBrokenByChange, IsBrokenByMerge}
use Rattle.qg_tree_read.specs.declared.way.Way.{Way}
use Rattle.qg_tree_read.specs.Tree.{Root, super_of}
use Rattle.qg_tree_read.specs.Way.{BreaksThere}
use Rattle.qg_tree_edits.specs.declared.child.Neighbour.{Neighbour}
use Rattle.qg_tree_edits.specs.declared.instead.Instead.{Instead}
use Rattle.qg_tree_edits.specs.Editing.{IsBeside, IsFreshOn, IsOwned, IsWayAt, StandsInstead}

-- a call names a rule at an address only where this is so
abbrev pub NamesOnly : {A : Type 0} → (Rule → ℕ → Type 0) → Result A BlockFault → Type 0
NamesOnly IsSo (Ok x) = ⊤
NamesOnly IsSo (Err (Image rule at)) = IsSo rule at
NamesOnly IsSo (Err Disk) = ⊤
NamesOnly IsSo (Err NoMemory) = ⊤

-- ---- a node that is read

-- What is found at the address that a way has come to breaks a rule: there is no node, or it is none such as the way
-- leads to expect
pub record IsMisread (tree : TreeKind) (root : Root) (land : Ground) (events : List Event) (expected : Expected)
    (at : ℕ)
    (rule : Rule) (address : ℕ) : Type 0 where
  pub there : address ≡ at
  pub breaks : BreaksThere tree (super_of root land.blocks.draft) expected at rule
      (found land.blocks.draft (content events) at)

-- and no fresh node is changed by then
abbrev pub IsRefused : TreeKind → Root → Ground → Ground → List Event → Expected → ℕ → Rule → ℕ → Type 0
IsRefused tree root old new events expected at rule address =
    IsMisread tree root old events expected at rule address × (new.blocks.draft ≡ old.blocks.draft)

-- ---- a child that was edited, and what stands in its place does not fit its node

-- A child that was edited has no neighbour to be joined with: its node has no other pointer, or what the pointer beside
-- leads to is misread, or that pointer leads to the child itself
abbrev pub LacksNeighbour : TreeKind → Root → Ground → List Event → Node → ℕ → Option Key → ℕ → ℕ → ℕ → Rule → ℕ
    → Type 0
LacksNeighbour tree root land events node at to level place child rule address =
    ((length (own_pointers node) ≡ 1) × (rule ≡ Shape) × (address ≡ at))
    ⊎ ((beside : Neighbour) × IsBeside (own_pointers node) to level place beside
    × (IsMisread tree root land events beside.way.expected beside.way.address rule address
    ⊎ ((beside.way.address ≡ child) × (rule ≡ Refs) × (address ≡ at))))

-- Two fresh nodes, which lie there still, are not joined: their keys don't follow each other, or a body is longer than
-- a tree holds
pub record ArentJoined (land : Ground) (left right : ℕ) (a b : Node) (rule : Rule) (address : ℕ) : Type 0 where
  pub left_here : fresh_at land.blocks.draft left ≡ Some a
  pub right_here : fresh_at land.blocks.draft right ≡ Some b
  pub broken : IsBrokenByMerge a b rule address

-- and so a child is not joined with a fresh node of its level, in front or behind
pub record CantJoin (land : Ground) (level child : ℕ) (rule : Rule) (address : ℕ) : Type 0 where
  pub left : ℕ
  pub right : ℕ
  pub one : (left ≡ child) ⊎ (right ≡ child)
  pub a : Node
  pub b : Node
  pub levels : ((header_of a).level ≡ level) × ((header_of b).level ≡ level)
  pub arent : ArentJoined land left right a b rule address

-- these are the pointers to what stands there
pub record PointTo (land : Ground) (instead : Instead) (pointers : List Pointer) : Type 0 where
  pub node : Node
  pub here : fresh_at land.blocks.draft instead.now ≡ Some node
  pub more : MatchOption instead.more (pointers ≡ pointer_to node ∷ [])
      (λ more. (other : Node) × (fresh_at land.blocks.draft more ≡ Some other)
      × (pointers ≡ pointer_to node ∷ pointer_to other ∷ []))

-- the pointers of a node would not ascend with those to what stands there, in the place of the ones from an index up to
-- another
pub record IsMisled (land : Ground) (node : Node) (from to : ℕ) (instead : Instead) (rule : Rule) (address : ℕ)
    : Type 0 where
  pub refs : rule ≡ Refs
  pub named : address ≡ (header_of node).address
  pub pointers : List Pointer
  pub point : PointTo land instead pointers
  pub disorder : CanSplice from to pointers node → ⊥

-- and so a node can't lead to one or two fresh nodes of the level below, in the place of its child, or of the child and
-- others
pub record CantLead (land : Ground) (node : Node) (level place : ℕ) (rule : Rule) (address : ℕ) : Type 0 where
  pub from : ℕ
  pub to : ℕ
  pub over : (from ≤ place) × (place < to)
  pub instead : Instead
  pub stands : StandsInstead land level instead
  pub misled : IsMisled land node from to instead rule address

-- what stands in the place of the child at an index does not fit its node, for one of these reasons
abbrev pub CantSettle : TreeKind → Root → Ground → List Event → Node → ℕ → Option Key → ℕ → ℕ → ℕ → Rule → ℕ → Type 0
CantSettle tree root land events node at to level place child rule address =
    LacksNeighbour tree root land events node at to level place child rule address
    ⊎ (CantJoin land level child rule address ⊎ CantLead land node level place rule address)

-- ---- an edit on its way down

-- the pointer that the edit's key leads on to, at an index of a node, and the way that it leads
pub record LeadsDown (node : Node) (to : Option Key) (level : ℕ) (edit : Edit) (place : ℕ) (way : Way) : Type 0 where
  pub leads : LeadsTo (map (λ pointer. pointer.key) (own_pointers node)) edit.key place
  pub is : IsWayAt (own_pointers node) to level place way

-- what stands for the node at an address lies there, or in a slot that was free
abbrev pub StandsFor : Ground → ℕ → ℕ → Type 0
StandsFor land at now = (now ≡ at) ⊎ IsTrue (is_free_slot land.space now)

-- A node that an edit has come to by its key does not fit. It is misread. Or it is owned, and is a leaf that is not
-- what the change relies on, or that can't be cut. Or it is owned, and so it is with the node that its pointer leads on
-- to, or with what stands in that one's place once it is edited
unfoldable pub FailsUnder : TreeKind → Root → Edit → List Event → ℕ → Expected → ℕ → Ground → Ground → Rule → ℕ → Type 0
FailsUnder tree root edit events zero expected at old new rule address =
    IsMisread tree root old events expected at rule address
    ⊎ ((mid : Ground) × (now : ℕ) × (owned : IsOwned tree root old mid (Recorded events) expected at now)
    × IsBrokenByChange mid.space.sizes.nodesize edit.key edit.change owned.mine rule address)
FailsUnder tree root edit events (suc level) expected at old new rule address =
    IsMisread tree root old events expected at rule address
    ⊎ ((mid : Ground) × (now : ℕ) × (owned : IsOwned tree root old mid (Recorded events) expected at now)
    × (place : ℕ) × (way : Way) × LeadsDown owned.mine expected.to level edit place way
    × (FailsUnder tree root edit events level way.expected way.address mid new rule address
    ⊎ ((child : ℕ) × StandsFor mid way.address child
    × CantSettle tree root new events owned.mine now expected.to level place child rule address)))

-- ---- an edit of a tree

-- No root fits above two fresh nodes of the level of a tree's root: the tree is as high as trees get, or the first key
-- of the second is not greater
pub record CantGrow (root : Root) (land : Ground) (rule : Rule) (address : ℕ) : Type 0 where
  pub more : ℕ
  pub first : IsFreshOn land root.height address
  pub second : IsFreshOn land root.height more
  pub refs : rule ≡ Refs
  pub high : (7 ≤ root.height)
      ⊎ (IsTrue (is_lt (key_cmp (pointer_to first.node).key (pointer_to second.node).key)) → ⊥)

-- A tree that is edited over a disk that tells breaks a rule at an address: on the way that the edit's key leads down
-- from the root a node does not fit, or no root fits above what stands in the root's place then
pub record IsUnfit (tree : TreeKind) (root : Root) (edit : Edit) (old new : Ground) (events : List Event) (rule : Rule)
    (address : ℕ) : Type 0 where
  pub is : FailsUnder tree root edit events root.height (root_expected (Some root.height) None) root.address old new
      rule address ⊎ CantGrow root new rule address
