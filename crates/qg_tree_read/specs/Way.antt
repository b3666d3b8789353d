-- The way from a root down, and how a reading answers (this project's own). Addresses are in bytes.
use Rattle.std.specs.Prelude.{◌≡◌, ⊤, ◌⊎◌, ℕ, zero, suc, ◌+◌, ◌-◌, List, [], ◌∷◌, ◌++◌, map, drop, length, not, true}
use Rattle.std.specs.Prelude.{if◌then◌else◌, ◌<◌, Option, Some, None, Result, Ok, Err, slice_get, IfSome, IsSome}
use Rattle.std.specs.Prelude.{IsTrue}
use Rattle.std.specs.List.{list_all}
use Rattle.std.specs.Ordering.{is_lt}
use Rattle.qg_device.specs.History.{Event, History, Recorded, content}
use Rattle.qg_num.specs.Key.{IsKey, key_cmp}
use Rattle.qg_num.specs.declared.key.Key.{Key}
use Rattle.qg_num.specs.declared.fault.BlockFault.{BlockFault}
use Rattle.qg_num.specs.declared.fault.BlockFault.TheVariants.{NoMemory, Disk, Image}
use Rattle.qg_num.specs.declared.rule.Rule.{Rule}
use Rattle.qg_node.specs.declared.item.Item.{Item}
use Rattle.qg_node.specs.declared.pointer.Pointer.{Pointer}
use Rattle.qg_node.specs.declared.node.Header.{Header}
use Rattle.qg_node.specs.declared.node.Node.{Node}
use Rattle.qg_node.specs.declared.node.Node.TheVariants.{Leaf}
use Rattle.qg_node.specs.Nodes.{header_of, is_ascending, own_pointers}
use Rattle.qg_super.specs.declared.superblock.Super.{Super}
use Rattle.qg_shape.specs.Places.{LeadsTo}
use Rattle.qg_blocks.specs.Types.{Expected}
use Rattle.qg_blocks.specs.Types.{Broken}
use Rattle.qg_blocks.specs.Types.{TreeKind}
use Rattle.qg_blocks.specs.Walk.{ends_before, root_expected}
use Rattle.qg_walk.specs.Added.{is_to}
use Rattle.qg_walk.specs.Standing.{expected_below, form_failure}
use Rattle.qg_blocks.specs.NodesInMemory.{Draft, Held}
use Rattle.qg_blocks.specs.NodesFound.{IsBacked, IsNodeAt, found, held_at, told}
use Rattle.qg_blocks.specs.Writing.{ArePlaced}
use Rattle.qg_tree_read.specs.declared.way.Way.{Way}
use Rattle.qg_tree_read.specs.Reading.{body_at, is_upto, items_within, last_upto, rest_within}
use Rattle.qg_tree_read.specs.Tree.{Root, TellsTree, super_of}

-- ---- where the walk of a tree comes to

-- a pointer of a node leads to an address, where this is expected if `above` is expected of the node
pub record LeadsOn (node : Node) (above below : Expected) (address : ℕ) : Type 0 where
  pub place : ℕ
  pub pointer : Pointer
  pub there : slice_get (own_pointers node) place ≡ Some pointer
  pub child : address ≡ pointer.child
  pub expects : below ≡ expected_below ((header_of node).level - 1) above.to pointer
      (drop (place + 1) (own_pointers node))

-- The walk from a root comes to an address so many levels below, and expects this there. No node above breaks a rule
-- from `depth` to `shape`
unfoldable pub ComesTo : TreeKind → Super → (ℕ → Option Node) → Expected → ℕ → ℕ → Expected → ℕ → Type 0
ComesTo tree super nodes expected root zero below address = (below ≡ expected) × (address ≡ root)
ComesTo tree super nodes expected root (suc depth) below address =
    (above : Expected) × (parent : ℕ) × (node : Node) × ComesTo tree super nodes expected root depth above parent
    × (nodes parent ≡ Some node) × (form_failure tree super above parent node ≡ None) × LeadsOn node above below address

-- what was found at an address breaks a rule: there is no node, or it is none such as is expected there
abbrev pub BreaksThere : TreeKind → Super → Expected → ℕ → Rule → Result Node Rule → Type 0
BreaksThere tree super expected address rule (Err broken) = broken ≡ rule
BreaksThere tree super expected address rule (Ok node) = form_failure tree super expected address node
    ≡ Some (Broken rule address)

-- a rule is broken at an address that the walk of a tree comes to, over what these events told
pub record BreaksOnWay (tree : TreeKind) (root : Root) (draft : Draft) (events : List Event) (rule : Rule)
    (address : ℕ) : Type 0 where
  pub depth : ℕ
  pub expected : Expected
  pub comes : ComesTo tree (super_of root draft) (told draft (Recorded events)) (root_expected (Some root.height) None)
      root.address depth expected address
  pub breaks : BreaksThere tree (super_of root draft) expected address rule (found draft (content events) address)

-- a call answers a rule and an address only where that rule is broken there
abbrev pub FailsOnWay : {A : Type 0} → TreeKind → Root → Draft → List Event → Result A BlockFault → Type 0
FailsOnWay tree root draft events (Ok x) = ⊤
FailsOnWay tree root draft events (Err (Image rule address)) = BreaksOnWay tree root draft events rule address
FailsOnWay tree root draft events (Err Disk) = ⊤
FailsOnWay tree root draft events (Err NoMemory) = ⊤

-- ---- what a reading leaves

-- what a reading asks: each clean node in memory is the disk's, and each fresh one has a text and a slot inside the
-- disk
pub record IsReadable (held : Held) (history : History) (bytes : ℕ) : Type 0 where
  pub backed : IsBacked held history
  pub placed : ArePlaced held.draft bytes

-- a reading changes no node, nor the bound of the clean ones, and writes nothing to the disk
pub record HasRead (old new : Held) (before after : History) (bytes left : ℕ) : Type 0 where
  pub draft : new.draft ≡ old.draft
  pub bound : new.bound ≡ old.bound
  pub history : after ≡ before
  pub size : left ≡ bytes

-- ---- one node

-- a node is in memory at an address, which breaks no rule from `depth` to `shape`. It is the one told there, where one
-- is told
pub record IsVisited (tree : TreeKind) (super : Super) (expected : Expected) (draft : Draft) (history : History)
    (held : Held) (address : ℕ) : Type 0 where
  pub node : Node
  pub is : held_at held address ≡ Some node
  pub formed : form_failure tree super expected address node ≡ None
  pub kept : IsNodeAt draft.sizes.nodesize address node
  pub tells : (events : List Event) → history ≡ Recorded events → told draft history address ≡ Some node
  pub alone : (other : Node) → told draft history address ≡ Some other → other ≡ node

-- a call that looks at one address answers a rule only where it is broken there
abbrev pub FailsThere : {A : Type 0} → TreeKind → Super → Expected → ℕ → Result Node Rule → Result A BlockFault → Type 0
FailsThere tree super expected address wanted (Ok x) = ⊤
FailsThere tree super expected address wanted (Err (Image rule at)) = (at ≡ address)
    × BreaksThere tree super expected address rule wanted
FailsThere tree super expected address wanted (Err Disk) = ⊤
FailsThere tree super expected address wanted (Err NoMemory) = ⊤

-- the pointer that leads on to a key, among those of a node whose children have a level
pub record LeadsFor (pointers : List Pointer) (to : Option Key) (level : ℕ) (key : Key) (way : Way) : Type 0 where
  pub place : ℕ
  pub pointer : Pointer
  pub there : slice_get pointers place ≡ Some pointer
  pub leads : LeadsTo (map (λ pointer. pointer.key) pointers) key place
  pub child : way.address ≡ pointer.child
  pub expects : way.expected ≡ expected_below level to pointer (drop (place + 1) pointers)

-- ---- one leaf of a tree

-- items that begin at a key, which none of them is less than. Where no key is told there are none
abbrev pub Follow : Option Key → List Item → Type 0
Follow None items = items ≡ []
Follow (Some key) [] = ⊥
Follow (Some key) (item ∷ items) = (item.key ≡ key)
    × IsTrue (list_all (λ later. not (is_lt (key_cmp later.key key))) (item ∷ items))

-- Some of a tree's items stand in the leaf that a key leads to. Those in front have lesser keys, and where there are
-- any the leaf has one whose key is not greater. Those behind begin at the key `to`, which all of the leaf are less
-- than
pub record IsPartFor (key : Key) (to : Option Key) (whole part : List Item) : Type 0 where
  pub front : List Item
  pub back : List Item
  pub whole_is : whole ≡ front ++ (part ++ back)
  pub less : IsTrue (list_all (λ item. is_lt (key_cmp item.key key)) front)
  pub upto : (front ≡ []) ⊎ IsSome (last_upto key part)
  pub within : IsTrue (ends_before to (map (λ item. item.key) part))
  pub behind : Follow to back

-- a way has come to the leaf that a key leads to, which is in memory
pub record IsReached (tree : TreeKind) (root : Root) (draft : Draft) (history : History) (key : Key)
    (held : Held) (way : Way) : Type 0 where
  pub header : Header
  pub items : List Item
  pub is : held_at held way.address ≡ Some (Leaf header items)
  pub ascending : IsTrue (is_ascending (map (λ item. item.key) items))
  pub past : IsTrue (is_to way.expected.to key)
  pub part : (whole : List Item) → TellsTree tree root draft history whole → IsPartFor key way.expected.to whole items

-- the next key on the way, where it is not greater than another
abbrev pub next_within : Key → Option Key → Option Key
next_within to None = None
next_within to (Some key) = if is_upto to key then Some key else None

-- The items of one leaf from one key to another were put behind others. The rest of those of the tree are the ones from
-- `next` on, which is a key of the tree, if it is told. Where `from` is one too, there was an item
pub record Gathers (from to : Key) (whole old new : List Item) (next : Option Key) : Type 0 where
  pub added : List Item
  pub more : new ≡ old ++ added
  pub whole_is : items_within from to whole ≡ added ++ rest_within next to whole
  pub some : IsSome (body_at from whole) → IsTrue (is_upto to from) → 0 < length added
  pub further : IfSome next (λ key. IsSome (body_at key whole))

-- a key, if it is told, is greater than one that fits its fields, and not greater than another
pub record IsFurther (from to : Key) (next : Option Key) : Type 0 where
  pub fits : IsKey from
  pub greater : IfSome next (λ key. is_lt (key_cmp from key) ≡ true)
  pub upto : IfSome next (λ key. is_upto to key ≡ true)
