-- What a reader takes of the leaves of the extent tree, one after another (this project's own).
use Rattle.std.specs.Prelude.{◌≡◌, ◌≤◌, List, ◌++◌, length, Option, IfSome, IsTrue}
use Rattle.std.specs.List.{fold}
use Rattle.qg_device.specs.History.{History}
use Rattle.qg_num.specs.declared.key.Key.{Key}
use Rattle.qg_node.specs.declared.item.Item.{Item}
use Rattle.qg_super.specs.Places.{is_served}
use Rattle.qg_blocks.specs.NodesInMemory.{Draft}
use Rattle.qg_tree_read.specs.Reading.{items_within, rest_within}
use Rattle.qg_tree_read.specs.Tree.{Root}
use Rattle.qg_extent_read.specs.Looked.{EachSays}
use Rattle.qg_extent_read.specs.Ways.{BeginsLeaf}

-- what a reader is once it has taken the items from one key to another
abbrev pub taken_within : {R : Type 0} → (R → Item → R) → R → Key → Key → List Item → R
taken_within after reader from to items = fold after reader (items_within from to items)

-- A reader has taken the items of one leaf from one key to another. The rest of the tree's are those
-- from `next` on, if it is told, at which a leaf begins. Where one begins at the first key, and `next` is told, it has
-- at least eight items: a leaf that a pointer leads to is a quarter full, and its items take 53 bytes each at most
pub record HasTakenLeaf {R : Type 0} (after : R → Item → R) (root : Root) (draft : Draft) (history : History)
    (from to : Key) (whole : List Item) (old new : R) (next : Option Key) : Type 0 where
  pub added : List Item
  pub whole_is : items_within from to whole ≡ added ++ rest_within next to whole
  pub taken : new ≡ fold after old added
  pub begins : IfSome next (λ key. BeginsLeaf root draft history key)
  pub many : BeginsLeaf root draft history from → EachSays whole → IsTrue (is_served draft.sizes)
      → IfSome next (λ key. 8 ≤ length added)
