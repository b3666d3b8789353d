-- What a walk adds to what was found before (this project's own).
use Rattle.std.specs.Prelude.{◌≡◌, All, ℕ, Bool, true, not, List, [], ◌∷◌, ◌++◌, map, Option, Some, None, IsTrue}
use Rattle.std.specs.List.{list_all}
use Rattle.std.specs.Ordering.{is_lt}
use Rattle.qg_device.specs.History.{Event, History, Recorded, content}
use Rattle.qg_num.specs.Fields.{IsBytes}
use Rattle.qg_num.specs.Key.{key_cmp}
use Rattle.qg_num.specs.declared.key.Key.{Key}
use Rattle.qg_node.specs.declared.item.Item.{Item}
use Rattle.qg_node.specs.declared.pointer.Pointer.{Pointer}
use Rattle.qg_node.specs.declared.node.Node.{Node}
use Rattle.qg_node.specs.Nodes.{header_of, is_ascending}
use Rattle.qg_super.specs.declared.superblock.Super.{Super}
use Rattle.qg_super.specs.Places.{is_slot}
use Rattle.qg_super.specs.SuperText.{sizes_of}
use Rattle.qg_image.specs.Below.{items_below, joined, nodes_below}
use Rattle.qg_image.specs.declared.tree.TreeKind.{TreeKind}
use Rattle.qg_image.specs.Walk.{ends_before, is_item_of, next_key, node_found}
use Rattle.qg_image.specs.ItemsUnder.{nodes_of}
use Rattle.qg_image.specs.ImageState.{level_in}
use Rattle.qg_walk.specs.declared.walked.Walked.{Walked}

-- ---- ranges of keys

-- the key is not less than the one told, if one was; of keys that begin at one (`begins_at`) each is so (lemma
-- `begins_at-all`)
abbrev pub is_from : Option Key → Key → Bool
is_from None key = true
is_from (Some from) key = not (is_lt (key_cmp key from))

-- the key is less than the one told, if one was: what `ends_before` says of each of some keys (lemma
-- `ends_before-each`)
abbrev pub is_to : Option Key → Key → Bool
is_to None key = true
is_to (Some to) key = is_lt (key_cmp key to)

-- keys that ascend within a range
pub record AreWithin (from to : Option Key) (keys : List Key) : Type 0 where
  pub ascending : IsTrue (is_ascending keys)
  pub first : IsTrue (list_all (is_from from) keys)
  pub last : IsTrue (ends_before to keys)

-- each pointer's key lies within a range, and is less than the next one's
abbrev pub AreSpaced : Option Key → Option Key → List Pointer → Type 0
AreSpaced from to [] = Unit {0}
AreSpaced from to (pointer ∷ pointers) = IsTrue (is_from from pointer.key)
    × IsTrue (is_to (next_key to pointers) pointer.key) × AreSpaced from to pointers

-- ---- what stands below

-- the items and the nodes from some place of a tree down
pub record Below : Type 0 where
  pub items : Option (List Item)
  pub nodes : Option (List Node)

-- those from the node at an address of an image
abbrev pub below_node : Super → ℕ → List ℕ → Below
below_node super address image =
    let level = level_in super image address in
    record {
      items = items_below (nodes_of (node_found super image)) level address;
      nodes = nodes_below (nodes_of (node_found super image)) level address;
    }

-- those from the nodes of a level that pointers lead to
abbrev pub below_pointers : Super → ℕ → List Pointer → List ℕ → Below
below_pointers super level pointers image = record {
  items = joined (λ pointer. items_below (nodes_of (node_found super image)) level pointer.child) pointers;
  nodes = joined (λ pointer. nodes_below (nodes_of (node_found super image)) level pointer.child) pointers;
}

-- what was found of a tree: what its items say, and what is kept of its nodes
pub record Found (P N : Type 0) : Type 0 where
  pub parts : List P
  pub nodes : N

-- that of a walk, where this is what its parts keep
abbrev pub found_by : {L P N : Type 0} → (L → List P) → Walked L N → Found P N
found_by list walked = record { parts = list walked.parts; nodes = walked.nodes }

-- What was found grew by what some items say, which the tree may hold, whose bodies are bytes and whose keys ascend
-- within a range, and by what is kept of some nodes, which lie in slots. Where the disk tells what it holds, those are
-- the items and nodes that stand there
pub record HasAdded {P N : Type 0} (tree : TreeKind) (meaning : Item → Option P) (keeps : N → List Node
    → Type 0) (super : Super) (history : History) (from to : Option Key) (below : List ℕ
    → Below) (old new : Found P N) : Type 0 where
  pub items : List Item
  pub nodes : List Node
  pub parts : List P
  pub held : IsTrue (list_all (is_item_of tree super.generation) items)
  pub bytes : All (λ item. IsBytes item.body) items
  pub within : AreWithin from to (map (λ item. item.key) items)
  pub said : map meaning items ≡ map (λ part. Some part) parts
  pub slots : IsTrue (list_all (λ node. is_slot (sizes_of super) (header_of node).address) nodes)
  pub more_parts : new.parts ≡ old.parts ++ parts
  pub more_nodes : (before : List Node) → keeps old.nodes before → keeps new.nodes (before ++ nodes)
  pub items_stand : (events : List Event) → history ≡ Recorded events → (below (content events)).items ≡ Some items
  pub nodes_stand : (events : List Event) → history ≡ Recorded events → (below (content events)).nodes ≡ Some nodes

-- what was said grew by what each of some items says, in their order
pub record AddsSaid {P : Type 0} (meaning : Item → Option P) (items : List Item) (old new : List P) : Type 0 where
  pub parts : List P
  pub said : map meaning items ≡ map (λ part. Some part) parts
  pub more : new ≡ old ++ parts
