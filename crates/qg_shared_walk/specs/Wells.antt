-- Nodes below which all is well, in an image that some events leave (this project's own).
use Rattle.std.specs.Prelude.{◌≡◌, ◌≤◌, ◌-◌, All, ℕ, true, List, [], length, map, slice_get, Option, Some, None}
use Rattle.std.specs.Prelude.{Ok, IsTrue}
use Rattle.std.specs.List.{Contains, list_all}
use Rattle.qg_device.specs.History.{Event, Recorded, content}
use Rattle.qg_num.specs.Fields.{IsBytes}
use Rattle.qg_num.specs.declared.key.Key.{Key}
use Rattle.qg_node.specs.declared.item.Item.{Item}
use Rattle.qg_node.specs.declared.pointer.Pointer.{Pointer}
use Rattle.qg_node.specs.declared.node.Node.{Node}
use Rattle.qg_super.specs.declared.superblock.Super.{Super}
use Rattle.qg_image.specs.declared.part.FilePart.{FilePart}
use Rattle.qg_image.specs.ItemMeaning.{file_part}
use Rattle.qg_tree_items.specs.Rows.{Tells}
use Rattle.qg_image.specs.declared.failure.Failure.{Failure}
use Rattle.qg_image.specs.declared.tree.TreeKind.TheVariants.{Files}
use Rattle.qg_image.specs.declared.expected.Expected.{Expected}
use Rattle.qg_image.specs.Walk.{is_item_of, node_failure, node_found, pointers_failure, walk_failure}
use Rattle.qg_walk.specs.Added.{AreSpaced, Below as BelowAddress, Found, HasAdded, below_node, below_pointers}
use Rattle.qg_shared_walk.specs.declared.digest.Below.{Below}
use Rattle.qg_shared_walk.specs.declared.digest.Digest.{Digest}
use Rattle.qg_shared_walk.specs.Digests.{IsDigestOf, ends_by, fits}

-- the first failure from an address down
abbrev pub all_failure : Super → List Event → ℕ → Expected → ℕ → Option Failure
all_failure super events depth expected address = walk_failure (node_failure Files super)
    (node_found super (content events)) depth expected address

-- the first failure below pointers
abbrev pub below_failure : Super → List Event → ℕ → ℕ → Option Key → List Pointer → Option Failure
below_failure super events depth level to pointers =
    pointers_failure
    (walk_failure (node_failure Files super) (node_found super (content events)) depth) level to pointers

-- what the items of leaves say, and the nodes, from left to right
pub record Whole : Type 0 where
  pub parts : List FilePart
  pub nodes : List Node

-- the same as a walk finds it
abbrev pub found_of : List FilePart → List Node → Found FilePart (List Node)
found_of parts nodes = record { parts = parts; nodes = nodes }

-- a list of nodes is that one
abbrev pub AreThese : List Node → List Node → Type 0
AreThese all nodes = all ≡ nodes

-- this stands below in the image, and its keys lie within a range
abbrev pub AreBelow : Super → List Event → Option Key → Option Key → (List ℕ → BelowAddress) → Whole → Type 0
AreBelow super events from to below whole =
    HasAdded Files file_part AreThese super (Recorded events) from to below (found_of [] [])
    (found_of whole.parts whole.nodes)

-- The node at an address has this digest, and below it all is well: where the digest fits what is expected no rule is
-- broken there and
-- below, and where it does not, one is. What stands there and below is
-- this, and all its nodes are kept
pub record IsWell (super : Super) (events : List Event) (kept : List Node) (address : ℕ) (digest : Digest)
    (whole : Whole) : Type 0 where
  pub node : Node
  pub found : node_found super (content events) address ≡ Ok node
  pub told : IsDigestOf super.nodesize node digest
  pub low : digest.level ≤ 7
  pub sound : (expected : Expected) (depth : ℕ) → digest.level ≤ depth → fits expected digest ≡ true
      → all_failure super events depth expected address ≡ None
  pub only : (expected : Expected) (depth : ℕ) → digest.level ≤ depth
      → all_failure super events depth expected address ≡ None → fits expected digest ≡ true
  pub below : (expected : Expected) → fits expected digest ≡ true
      → AreBelow super events expected.from expected.to (below_node super address) whole
  pub row : Tells digest.below.row whole.parts
  pub remembered : (n : Node) → Contains whole.nodes n → Contains kept n

-- the same of the nodes of a level that pointers lead to
pub record AreWell (super : Super) (events : List Event) (kept : List Node) (level : ℕ) (pointers : List Pointer)
    (below : Below) (whole : Whole) : Type 0 where
  pub sound : (to : Option Key) (depth : ℕ) → level ≤ depth → ends_by to below.last ≡ true
      → below_failure super events depth level to pointers ≡ None
  pub only : (to : Option Key) (depth : ℕ) → level ≤ depth
      → below_failure super events depth level to pointers ≡ None → ends_by to below.last ≡ true
  pub stand : (from to : Option Key) → AreSpaced from to pointers → ends_by to below.last ≡ true
      → AreBelow super events from to (below_pointers super level pointers) whole
  pub row : Tells below.row whole.parts
  pub remembered : (n : Node) → Contains whole.nodes n → Contains kept n

-- each item of a leaf is one that a subvolume's tree may hold, and this is kept of them
pub record IsLeafRead (generation : ℕ) (items : List Item) (below : Below) : Type 0 where
  pub held : IsTrue (list_all (is_item_of Files generation) items)
  pub bytes : All (λ item. IsBytes item.body) items
  pub last : below.last ≡ slice_get (map (λ item. item.key) items) (length items - 1)
  pub parts : List FilePart
  pub said : map file_part items ≡ map (λ part. Some part) parts
  pub row : Tells below.row parts
