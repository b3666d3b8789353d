-- An edit of a part of a tree by copy on write (this project's own). Addresses are in bytes.
use Rattle.std.specs.Prelude.{◌≡◌, ◌≢◌, ⊤, ◌⊎◌, ℕ, suc, ◌+◌, ◌≤◌, ◌<◌, List, [], ◌∷◌, ◌++◌, map, take, drop, length}
use Rattle.std.specs.Prelude.{Option, Some, None, IsSome, IsTrue, MatchOption, slice_get}
use Rattle.std.specs.List.{All, list_all}
use Rattle.std.specs.Ordering.{is_lt}
use Rattle.qg_device.specs.History.{History}
use Rattle.qg_num.specs.Key.{key_cmp}
use Rattle.qg_num.specs.declared.key.Key.{Key}
use Rattle.qg_node.specs.declared.item.Item.{Item}
use Rattle.qg_node.specs.declared.pointer.Pointer.{Pointer}
use Rattle.qg_node.specs.declared.node.Header.{Header}
use Rattle.qg_node.specs.declared.node.Node.{Node}
use Rattle.qg_node.specs.declared.node.Node.TheVariants.{Leaf, Inner}
use Rattle.qg_node.specs.Nodes.{header_of, is_ascending}
use Rattle.qg_node.specs.NodeText.{IsNode, IsNodeSize}
use Rattle.qg_super.specs.declared.superblock.Super.{Super}
use Rattle.qg_super.specs.Places.{second_place}
use Rattle.qg_image.specs.Below.{items_below}
use Rattle.qg_blocks.specs.Lending.{with_fresh}
use Rattle.qg_blocks.specs.NodesFound.{IsBacked, IsNodeAt, fresh_at, told}
use Rattle.qg_space.specs.Holding.{free_slots, is_free_slot}
use Rattle.qg_image.specs.declared.expected.Expected.{Expected}
use Rattle.qg_image.specs.declared.tree.TreeKind.{TreeKind}
use Rattle.qg_image.specs.Walk.{is_owner, walk_failure}
use Rattle.qg_walk.specs.Standing.{expected_below, form_failure}
use Rattle.qg_node_alloc.specs.declared.ground.Ground.{Ground}
use Rattle.qg_node_alloc.specs.Changes.{Makes}
use Rattle.qg_node_alloc.specs.Land.{IsDrafted}
use Rattle.qg_node_alloc.specs.Tellings.{node_copy}
use Rattle.qg_edit.specs.declared.edit.Edit.{Edit}
use Rattle.qg_edit.specs.Edits.{CanEdit, edited}
use Rattle.qg_edit.specs.Outcome.{IsCutOf, IsNodeFor, RestIsNode, cleared}
use Rattle.qg_tree_edits.specs.declared.instead.Instead.{Instead}
use Rattle.qg_shape.specs.declared.joining.Joined.{Joined}
use Rattle.qg_shape.specs.declared.joining.Joined.TheVariants.{Whole, Parted}
use Rattle.qg_shape.specs.Filled.{IsFilled, IsThin}
use Rattle.qg_shape.specs.Outcomes.{IsParted, IsWhole}
use Rattle.qg_shape.specs.Parts.{emptied}
use Rattle.qg_tree_read.specs.Tree.{Reaches, Root, found_in, super_of}
use Rattle.qg_tree_read.specs.declared.way.Way.{Way}
use Rattle.qg_tree_edits.specs.declared.child.Neighbour.{Neighbour}
use Rattle.qg_tree_read.specs.Branch.{AreBranches, IsBranch, IsMember}
use Rattle.qg_tree_edits.specs.First.{first_leaf, least, leaves, leaves_joined, leaves_under}

-- ---- what an edit asks, over any disk

-- nodes and space in which a tree is edited by the generation to come: clean nodes are the disk's, fresh ones may be
-- written, and the disk has room for all slots
pub record IsEditable (land : Ground) (history : History) (bytes generation : ℕ) : Type 0 where
  pub backed : IsBacked land.blocks history
  pub drafted : IsDrafted land generation
  pub room : second_place ≤ bytes

-- the nodes that are made for the tree are such as it may have
pub record CanMake (tree : TreeKind) (root : Root) : Type 0 where
  pub owner : IsTrue (is_owner tree root.owner)
  pub next : 0 < root.next

-- a fresh node of a level lies at an address
pub record IsFreshOn (land : Ground) (level at : ℕ) : Type 0 where
  pub node : Node
  pub here : fresh_at land.blocks.draft at ≡ Some node
  pub levelled : (header_of node).level ≡ level

-- ---- what becomes of fresh nodes

-- fresh nodes stay as they are, and new ones may come
abbrev pub KeepsFresh : Ground → Ground → Type 0
KeepsFresh old new = (at : ℕ) (node : Node) → fresh_at old.blocks.draft at ≡ Some node
    → fresh_at new.blocks.draft at ≡ Some node

-- fresh nodes above a level stay as they are
abbrev pub KeepsAbove : ℕ → Ground → Ground → Type 0
KeepsAbove level old new =
    (at : ℕ) (node : Node) → fresh_at old.blocks.draft at ≡ Some node → level < (header_of node).level
    → fresh_at new.blocks.draft at ≡ Some node

-- a fresh node is edited where it lies: another one that has a text and names the same address and generation is in its
-- place, and nothing else changes
pub record IsRewritten (old new : Ground) (at : ℕ) (before : Node) : Type 0 where
  pub node : Node
  pub is : new ≡ record old { blocks = with_fresh old.blocks at node }
  pub named : IsNodeFor old.space.sizes.nodesize before node

-- and it holds the whole, or a front of it
pub record IsCutThere (nodesize : ℕ) (new : Ground) (at : ℕ) (before whole : Node) (rest : Option Node) : Type 0 where
  pub node : Node
  pub here : fresh_at new.blocks.draft at ≡ Some node
  pub cut : IsCutOf nodesize whole node rest
  pub named : RestIsNode nodesize before rest

-- ---- a node that is owned

-- a node that the way leads to expect was judged, and is or was copied to a fresh one, which has the same items or
-- pointers. A fresh one stays where it is. All other nodes are told as before
pub record IsOwned (tree : TreeKind) (root : Root) (old new : Ground) (history : History) (expected : Expected)
    (at now : ℕ) : Type 0 where
  pub node : Node
  pub formed : form_failure tree (super_of root old.blocks.draft) expected at node ≡ None
  pub kept : IsNodeAt old.space.sizes.nodesize at node
  pub alone : (other : Node) → told old.blocks.draft history at ≡ Some other → other ≡ node
  pub mine : Node
  pub here : fresh_at new.blocks.draft now ≡ Some mine
  pub same : ((mine ≡ node) × (now ≡ at) × (new.space ≡ old.space))
      ⊎ ((mine ≡ node_copy node now root.owner root.next) × IsTrue (is_free_slot old.space now))
  pub others : (history : History) (q : ℕ) → q ≢ now
      → told new.blocks.draft history q ≡ told old.blocks.draft history q
  pub keeps : KeepsFresh old new
  pub stays : IsSome (fresh_at old.blocks.draft at) → now ≡ at
  pub freed : (q : ℕ) → IsTrue (is_free_slot new.space q) → IsTrue (is_free_slot old.space q) ⊎ (q ≡ at)

-- ---- what stands in the place of a node

-- one node alone
abbrev pub alone : ℕ → Instead
alone address = record { now = address; more = None }

-- a fresh node lies at an address, and names it
pub record IsNamed (land : Ground) (at : ℕ) : Type 0 where
  pub node : Node
  pub here : fresh_at land.blocks.draft at ≡ Some node
  pub named : (header_of node).address ≡ at

-- what holds of each node that stands there
abbrev pub OfEach : (ℕ → Type 0) → Instead → Type 0
OfEach P instead = P instead.now × MatchOption instead.more ⊤ P

-- what stands there is reached at an address
abbrev pub ReachesInstead : (ℕ → Option Node) → ℕ → Instead → ℕ → Type 0
ReachesInstead nodes level instead q = Reaches nodes level instead.now q
    ⊎ MatchOption instead.more ⊥ (λ more. Reaches nodes level more q)

-- a node is told that fills its bytes
pub record FillsThere (nodesize : ℕ) (nodes : ℕ → Option Node) (at : ℕ) : Type 0 where
  pub node : Node
  pub there : nodes at ≡ Some node
  pub filled : IsFilled nodesize node

-- these are the items under what stands there. Where two nodes do, both are full enough
pub record HoldInstead (tree : TreeKind) (super : Super) (nodes : ℕ → Option Node) (level : ℕ) (instead : Instead)
    (items : List Item) : Type 0 where
  pub mine : List Item
  pub rest : List Item
  pub items_are : items ≡ mine ++ rest
  pub here : IsBranch tree super nodes level instead.now mine
  pub behind : MatchOption instead.more (rest ≡ [])
      (λ more. IsBranch tree super nodes level more rest × FillsThere super.nodesize nodes instead.now
      × FillsThere super.nodesize nodes more)

-- ---- an edit, where the disk tells

-- a part of a tree that an edit may be done to: the walk meets no failure there, no free slot is reached, bodies are
-- short, and the edit finds what it relies on
pub record IsPartFit (tree : TreeKind) (root : Root) (land : Ground) (history : History) (level : ℕ)
    (expected : Expected) (at : ℕ) (edit : Edit) (items : List Item) : Type 0 where
  pub levelled : expected.level ≡ Some level
  pub walked : walk_failure (form_failure tree (super_of root land.blocks.draft))
      (found_in (told land.blocks.draft history)) level expected at ≡ None
  pub items_are : items_below (told land.blocks.draft history) level at ≡ Some items
  pub apart : (q : ℕ) → IsTrue (is_free_slot land.space q) → Reaches (told land.blocks.draft history) level at q → ⊥
  pub short : All (λ item. length item.body ≤ 1024) items
  pub can : CanEdit edit items

-- of some items those of one leaf are edited: those in front are less than the edit's key, and those behind are greater
pub record IsLeafEdited (edit : Edit) (old new : List Item) : Type 0 where
  pub front : List Item
  pub leaf : List Item
  pub back : List Item
  pub old_are : old ≡ front ++ (leaf ++ back)
  pub new_are : new ≡ front ++ (edited edit leaf ++ back)
  pub less : IsTrue (list_all (λ item. is_lt (key_cmp item.key edit.key)) front)
  pub greater : IsTrue (list_all (λ item. is_lt (key_cmp edit.key item.key)) back)

-- what an edit leaves of a part of a tree: what stands in its place holds the items once those of one leaf are edited,
-- the first one where the key is the least; it reaches what was reached before, and slots that were free; only these
-- are told otherwise, whatever a disk tells, only these get free, and no free slot is reached
pub record IsPartEdited (tree : TreeKind) (root : Root) (old new : Ground) (history : History) (level at : ℕ)
    (edit : Edit) (items : List Item) (instead : Instead) : Type 0 where
  pub items_new : List Item
  pub edits : IsLeafEdited edit items items_new
  pub first : edit.key ≡ least → edits.leaf ≡ first_leaf (told old.blocks.draft history) level at
  pub holds : HoldInstead tree (super_of root old.blocks.draft) (told new.blocks.draft history) level instead items_new
  pub reach : (q : ℕ) → ReachesInstead (told new.blocks.draft history) level instead q
      → Reaches (told old.blocks.draft history) level at q ⊎ IsTrue (is_free_slot old.space q)
  pub others : (disk : History) (q : ℕ) → (IsTrue (is_free_slot old.space q) → ⊥)
      → (Reaches (told old.blocks.draft history) level at q → ⊥)
      → told new.blocks.draft disk q ≡ told old.blocks.draft disk q
  pub freed : (q : ℕ) → IsTrue (is_free_slot new.space q) → IsTrue (is_free_slot old.space q)
      ⊎ Reaches (told old.blocks.draft history) level at q
  pub free : (q : ℕ) → IsTrue (is_free_slot new.space q)
      → ReachesInstead (told new.blocks.draft history) level instead q → ⊥

-- ---- the rest of a node that was cut

-- what was cut off, if anything, has a text, a level and the generation to come
abbrev pub RestIsReady : ℕ → ℕ → ℕ → Option Node → Type 0
RestIsReady nodesize level generation None = ⊤
RestIsReady nodesize level generation (Some node) = IsNode nodesize node × ((header_of node).level ≡ level)
    × ((header_of node).generation ≡ generation)

-- the node at an address is of its level still, and so is what was cut off it
pub record StaysCut (nodesize : ℕ) (old : Node) (land : Ground) (at : ℕ) (rest : Option Node) : Type 0 where
  pub stays : IsFreshOn land (header_of old).level at
  pub ready : RestIsReady nodesize (header_of old).level (header_of old).generation rest

-- a node, with this owner
abbrev pub with_owner : ℕ → Node → Node
with_owner owner (Leaf header items) = Leaf (record header { owner = owner }) items
with_owner owner (Inner header pointers) = Inner (record header { owner = owner }) pointers

-- what was cut off, if anything, lies in a slot that was free, and has this owner; all other nodes are told as before,
-- and no other slot is taken or given back
abbrev pub IsPlacedBehind : ℕ → Ground → Ground → ℕ → Option Node → Instead → Type 0
IsPlacedBehind owner old new now None instead = (instead ≡ record { now = now; more = None }) × (new ≡ old)
IsPlacedBehind owner old new now (Some node) instead = (more : ℕ) × (instead ≡ record { now = now; more = Some more })
    × Makes old new more (with_owner owner node)

-- ---- two neighbours

-- two fresh nodes of one level, of which one isn't a quarter full
pub record ArePair (land : Ground) (left right : ℕ) : Type 0 where
  pub a : Node
  pub b : Node
  pub left_here : fresh_at land.blocks.draft left ≡ Some a
  pub right_here : fresh_at land.blocks.draft right ≡ Some b
  pub size : IsNodeSize land.space.sizes.nodesize
  pub nodesize : land.blocks.draft.sizes.nodesize ≡ land.space.sizes.nodesize
  pub left_sound : IsNode land.space.sizes.nodesize a
  pub right_sound : IsNode land.space.sizes.nodesize b
  pub level : (header_of a).level ≡ (header_of b).level
  pub thin : IsThin land.space.sizes.nodesize a ⊎ IsThin land.space.sizes.nodesize b

-- both are edited where they lie, and nothing else changes
pub record AreRewritten (old new : Ground) (left right : ℕ) : Type 0 where
  pub mid : Ground
  pub first : (node : Node) → fresh_at old.blocks.draft right ≡ Some node → IsRewritten old mid right node
  pub later : (node : Node) → fresh_at old.blocks.draft left ≡ Some node → IsRewritten mid new left node

-- what becomes of two nodes that are joined: the left one takes all, or both share anew
abbrev pub IsJoinedAs : ℕ → Node → Node → Node → Node → Joined → Type 0
IsJoinedAs nodesize c d a b Whole = IsWhole nodesize c d a (emptied d) × (b ≡ cleared d)
IsJoinedAs nodesize c d a b Parted = IsParted nodesize c d a b

-- they are joined: into the left one, and an empty leaf is in the place of the right one; or both share anew
pub record IsJoinedThere (old new : Ground) (left right : ℕ) (joined : Joined) : Type 0 where
  pub a : Node
  pub b : Node
  pub left_there : fresh_at new.blocks.draft left ≡ Some a
  pub right_there : fresh_at new.blocks.draft right ≡ Some b
  pub is : (c d : Node) → fresh_at old.blocks.draft left ≡ Some c → fresh_at old.blocks.draft right ≡ Some d
      → IsJoinedAs old.space.sizes.nodesize c d a b joined

-- ---- the way from a node

-- a pointer at a place of a node, and the way that it leads
pub record IsWayAt (pointers : List Pointer) (to : Option Key) (level place : ℕ) (way : Way) : Type 0 where
  pub pointer : Pointer
  pub there : slice_get pointers place ≡ Some pointer
  pub child : way.address ≡ pointer.child
  pub expects : way.expected ≡ expected_below level to pointer (drop (place + 1) pointers)

-- the neighbour of the child at a place: the one behind, where the pair begins at the place, or the one in front, where
-- it ends there
pub record IsBeside (pointers : List Pointer) (to : Option Key) (level place : ℕ) (beside : Neighbour) : Type 0 where
  pub other : ℕ
  pub way : IsWayAt pointers to level other beside.way
  pub pair : ((beside.front ≡ place) × (other ≡ place + 1)) ⊎ ((beside.front + 1 ≡ place) × (other ≡ beside.front))

-- ---- what an edit does over any disk

-- what stands in the place of a node of a level is fresh and of that level, each at an address of its own
pub record StandsInstead (land : Ground) (level : ℕ) (instead : Instead) : Type 0 where
  pub now : IsFreshOn land level instead.now
  pub more : MatchOption instead.more ⊤ (λ more. IsFreshOn land level more × (more ≢ instead.now))

-- at most so many slots fewer are free, and fresh nodes above a level stay as they are
pub record Moves (most level : ℕ) (old new : Ground) : Type 0 where
  pub count : free_slots old.space ≤ most + free_slots new.space
  pub above : KeepsAbove level old new

-- the slots that the rest of a node needs
abbrev pub slots_for : Option Node → ℕ
slots_for None = 0
slots_for (Some rest) = 1

-- ---- a child was edited, and its node is not yet

-- an address is reached from another child than the one at a place
abbrev pub ReachesBeside : (ℕ → Option Node) → ℕ → List Pointer → ℕ → ℕ → Type 0
ReachesBeside nodes level pointers place q =
    (i : ℕ) × (pointer : Pointer) × (i ≢ place) × (slice_get pointers i ≡ Some pointer)
    × Reaches nodes level pointer.child q

-- an address is reached from what stands in a child's place, or from another child
abbrev pub ReachesParts : (ℕ → Option Node) → ℕ → List Pointer → ℕ → Instead → ℕ → Type 0
ReachesParts nodes level pointers place child q = ReachesInstead nodes level child q
    ⊎ ReachesBeside nodes level pointers place q

-- an address is reached from one of these pointers
abbrev pub ReachesEach : (ℕ → Option Node) → ℕ → List Pointer → ℕ → Type 0
ReachesEach nodes level pointers q = (i : ℕ) × (pointer : Pointer) × (slice_get pointers i ≡ Some pointer)
    × Reaches nodes level pointer.child q

-- The child at a place of a fresh node was edited. These are the items under it and the other children. The other
-- children are what the way to them leads to expect; no two of all reach the same address, and none a free slot
pub record IsUnsettled (tree : TreeKind) (root : Root) (land : Ground) (history : History) (level at : ℕ)
    (to : Option Key) (place : ℕ) (child : Instead) (items : List Item) : Type 0 where
  pub header : Header
  pub pointers : List Pointer
  pub here : fresh_at land.blocks.draft at ≡ Some (Inner header pointers)
  pub member : IsMember tree (super_of root land.blocks.draft) (suc level) header
  pub inside : place < length pointers
  pub front : List Item
  pub mine : List Item
  pub back : List Item
  pub items_are : items ≡ front ++ (mine ++ back)
  pub before : AreBranches tree (super_of root land.blocks.draft) (told land.blocks.draft history) level
      (take place pointers) front
  pub holds : HoldInstead tree (super_of root land.blocks.draft) (told land.blocks.draft history) level child mine
  pub after : AreBranches tree (super_of root land.blocks.draft) (told land.blocks.draft history) level
      (drop (place + 1) pointers) back
  pub judged : (i : ℕ) (pointer : Pointer) → i ≢ place → slice_get pointers i ≡ Some pointer
      → (node : Node) × (told land.blocks.draft history pointer.child ≡ Some node)
      × (form_failure tree (super_of root land.blocks.draft) (expected_below level to pointer (drop (i + 1) pointers))
      pointer.child node ≡ None)
  pub several : 2 ≤ length pointers
  pub ascending : IsTrue (is_ascending (map (λ item. item.key) items))
  pub short : All (λ item. length item.body ≤ 1024) items
  pub apart : (i j : ℕ) (p r : Pointer) → i ≢ place → j ≢ place → i ≢ j → slice_get pointers i ≡ Some p
      → slice_get pointers j ≡ Some r
      → (q : ℕ) → Reaches (told land.blocks.draft history) level p.child q
      → Reaches (told land.blocks.draft history) level r.child q → ⊥
  pub alone : (i : ℕ) (pointer : Pointer) → i ≢ place → slice_get pointers i ≡ Some pointer
      → (q : ℕ) → Reaches (told land.blocks.draft history) level pointer.child q
      → ReachesInstead (told land.blocks.draft history) level child q → ⊥
  pub free : (q : ℕ) → IsTrue (is_free_slot land.space q)
      → ReachesParts (told land.blocks.draft history) level pointers place child q → ⊥

-- Its pointers were set: they lead to the same items. Where the node has too much, it holds a front of them. What they
-- reach was reached before or is a slot that was free; only these and the node itself are told otherwise, whatever a
-- disk tells, only these get free, and no free slot is reached
pub record IsSettled (tree : TreeKind) (root : Root) (old new : Ground) (history : History) (level at place : ℕ)
    (child : Instead) (pointers : List Pointer) (header : Header) (items : List Item) (rest : Option Node) : Type
    0 where
  pub pointers_new : List Pointer
  pub branches : AreBranches tree (super_of root old.blocks.draft) (told new.blocks.draft history) level pointers_new
      items
  pub cut : IsCutThere old.space.sizes.nodesize new at (Inner header pointers) (Inner header pointers_new) rest
  pub reach : (q : ℕ) → ReachesEach (told new.blocks.draft history) level pointers_new q
      → ReachesParts (told old.blocks.draft history) level pointers place child q ⊎ IsTrue (is_free_slot old.space q)
  pub others : (disk : History) (q : ℕ) → q ≢ at → (IsTrue (is_free_slot old.space q) → ⊥)
      → (ReachesParts (told old.blocks.draft history) level pointers place child q → ⊥)
      → told new.blocks.draft disk q ≡ told old.blocks.draft disk q
  pub freed : (q : ℕ) → IsTrue (is_free_slot new.space q) → IsTrue (is_free_slot old.space q)
      ⊎ ReachesParts (told old.blocks.draft history) level pointers place child q
  pub free : (q : ℕ) → IsTrue (is_free_slot new.space q)
      → ReachesEach (told new.blocks.draft history) level pointers_new q → ⊥

-- ---- pointers that are set

-- what is known where pointers of a fresh node are set: what they and the others lead to, and that all items ascend
pub record CanLead (tree : TreeKind) (super : Super) (land : Ground) (history : History) (level at from to : ℕ)
    (instead : Instead) (pointers : List Pointer) (header : Header) (items : List Item) : Type 0 where
  pub here : fresh_at land.blocks.draft at ≡ Some (Inner header pointers)
  pub member : IsMember tree super (suc level) header
  pub front : List Item
  pub mine : List Item
  pub back : List Item
  pub items_are : items ≡ front ++ (mine ++ back)
  pub before : AreBranches tree super (told land.blocks.draft history) level (take from pointers) front
  pub holds : HoldInstead tree super (told land.blocks.draft history) level instead mine
  pub after : AreBranches tree super (told land.blocks.draft history) level (drop to pointers) back
  pub full : FillsThere super.nodesize (told land.blocks.draft history) instead.now
  pub size : IsNodeSize super.nodesize
  pub ascending : IsTrue (is_ascending (map (λ item. item.key) items))

-- they are set: these lead to the same items. Nothing but the node is told otherwise, whatever a disk tells
pub record HasLed (tree : TreeKind) (super : Super) (old new : Ground) (history : History)
    (level at from to : ℕ) (instead : Instead) (pointers : List Pointer) (header : Header) (items : List Item)
    (rest : Option Node) : Type 0 where
  pub now : Pointer
  pub more : List Pointer
  pub leads : now.child ≡ instead.now
  pub leads_on : MatchOption instead.more (more ≡ []) (λ address. (pointer : Pointer) × (more ≡ pointer ∷ [])
      × (pointer.child ≡ address))
  pub branches : AreBranches tree super (told new.blocks.draft history) level (take from pointers ++ (now ∷ more)
      ++ drop to pointers) items
  pub cut : IsCutThere old.space.sizes.nodesize new at (Inner header pointers)
      (Inner header (take from pointers ++ (now ∷ more) ++ drop to pointers)) rest
  pub others : (disk : History) (q : ℕ) → q ≢ at
      → told new.blocks.draft disk q ≡ told old.blocks.draft disk q
  pub space : new.space ≡ old.space

-- ---- the leaves of a node whose first child was edited

-- a child of a level is an empty leaf, if it is a leaf
abbrev pub IsEmptyIfLeaf : Ground → History → ℕ → ℕ → Type 0
IsEmptyIfLeaf land history level child = level ≡ 0 → leaves (told land.blocks.draft history) level child ≡ [] ∷ []

-- The pointers of a node were set, whose first child was edited: each leaf below keeps its items, and a child that was
-- an empty leaf is gone
pub record KeepsLeaves (old new : Ground) (history : History) (level at child : ℕ)
    (pointers : List Pointer) : Type 0 where
  pub kept : leaves (told new.blocks.draft history) (suc level) at
      ≡ leaves_joined level (leaves (told old.blocks.draft history) level child)
      (leaves_under (λ q. leaves (told old.blocks.draft history) level q) (drop 1 pointers))
