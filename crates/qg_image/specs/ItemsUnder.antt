-- The items and the nodes under a node (on-disk format, "B-tree").
use Rattle.std.specs.Prelude.{ℕ, Bool, List, Option, Result, is_none}
use Rattle.std.specs.Result.{result_ok}
use Rattle.qg_node.specs.declared.item.Item.{Item}
use Rattle.qg_node.specs.declared.node.Node.{Node}
use Rattle.qg_super.specs.declared.superblock.Super.{Super}
use Rattle.qg_image.specs.Below.{items_below, nodes_below}
use Rattle.qg_image.specs.ItemMeaning.{when}
use Rattle.qg_image.specs.declared.failure.Failure.{Failure}
use Rattle.qg_image.specs.declared.tree.TreeKind.{TreeKind}
use Rattle.qg_image.specs.declared.expected.Expected.{Expected}
use Rattle.qg_image.specs.Walk.{way_failure, walk_failure, deepest}

-- each node on the way keeps the rules from `slot` to `range`
unfoldable pub is_way : TreeKind → Super → (ℕ → Result Node Failure) → Expected → ℕ → Bool
is_way tree super found expected address =
    is_none (walk_failure (way_failure tree super) found deepest expected address)

-- the nodes that are found
abbrev pub nodes_of : (ℕ → Result Node Failure) → ℕ → Option Node
nodes_of found address = result_ok (found address)

-- the items under the node of a level at an address, from left to right. Undefined where a node on the way breaks a
-- rule from `slot` to `range`
abbrev pub items_under : TreeKind → Super → (ℕ → Result Node Failure) → ℕ → Expected → ℕ → Option (List Item)
items_under tree super found level expected address =
    when (is_way tree super found expected address) (items_below (nodes_of found) level address)

-- the nodes from it down, each before its children. Undefined where `items_under` is
abbrev pub nodes_under : TreeKind → Super → (ℕ → Result Node Failure) → ℕ → Expected → ℕ → Option (List Node)
nodes_under tree super found level expected address =
    when (is_way tree super found expected address) (nodes_below (nodes_of found) level address)
