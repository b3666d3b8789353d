-- A child that is to be edited, and what is around it in its node.
use Rattle.std.proofs.Common.{◌≡◌, ◌≢◌, ℕ, suc, ◌+◌, ◌≤◌, ◌<◌, List, ◌++◌, map, take, drop, length, Option, Some, None}
use Rattle.std.specs.Prelude.{IsTrue, slice_get}
use Rattle.std.specs.List.{All, list_all}
use Rattle.std.specs.Ordering.{is_lt}
use Rattle.qg_device.specs.History.{History}
use Rattle.qg_num.specs.Key.{key_cmp}
use Rattle.qg_num.specs.declared.key.Key.{Key}
use Rattle.qg_node.specs.declared.item.Item.{Item}
use Rattle.qg_node.specs.declared.pointer.Pointer.{Pointer}
use Rattle.qg_node.specs.declared.node.Header.{Header}
use Rattle.qg_node.specs.declared.node.Node.{Node}
use Rattle.qg_node.specs.declared.node.Node.TheVariants.{Inner}
use Rattle.qg_node.specs.Nodes.{is_ascending}
use Rattle.qg_image.specs.declared.tree.TreeKind.{TreeKind}
use Rattle.qg_walk.specs.Standing.{expected_below, form_failure}
use Rattle.qg_blocks.specs.NodesFound.{fresh_at, told}
use Rattle.qg_space.specs.Holding.{is_free_slot}
use Rattle.qg_node_alloc.specs.declared.ground.Ground.{Ground}
use Rattle.qg_tree_read.specs.Tree.{Reaches, Root, super_of}
use Rattle.qg_tree_read.specs.Branch.{AreBranches, IsMember}

-- The child at a place of a fresh node is to be edited under a key. These are the items under it, `mine`, and under the
-- other children, whose keys are less in front and greater behind. The other children are what the way to them leads to
-- expect; no two children reach the same address, and none of the others a free slot
pub record IsAround (tree : TreeKind) (root : Root) (land : Ground) (history : History) (level at : ℕ)
    (to : Option Key) (place : ℕ) (key : Key) (pointers : List Pointer) (front mine back items : List Item) : Type
    0 where
  pub header : Header
  pub here : fresh_at land.blocks.draft at ≡ Some (Inner header pointers)
  pub member : IsMember tree (super_of root land.blocks.draft) (suc level) header
  pub inside : place < length pointers
  pub items_are : items ≡ front ++ (mine ++ back)
  pub before : AreBranches tree (super_of root land.blocks.draft) (told land.blocks.draft history) level
      (take place pointers) front
  pub after : AreBranches tree (super_of root land.blocks.draft) (told land.blocks.draft history) level
      (drop (place + 1) pointers) back
  pub less : IsTrue (list_all (λ item. is_lt (key_cmp item.key key)) front)
  pub greater : IsTrue (list_all (λ item. is_lt (key_cmp key item.key)) back)
  pub judged : (i : ℕ) (pointer : Pointer) → i ≢ place → slice_get pointers i ≡ Some pointer
      → (node : Node) × (told land.blocks.draft history pointer.child ≡ Some node)
      × (form_failure tree (super_of root land.blocks.draft) (expected_below level to pointer (drop (i + 1) pointers))
      pointer.child node ≡ None)
  pub several : 2 ≤ length pointers
  pub ascending : IsTrue (is_ascending (map (λ item. item.key) items))
  pub short : All (λ item. length item.body ≤ 1024) items
  pub apart : (i j : ℕ) (p r : Pointer) → i ≢ j → slice_get pointers i ≡ Some p → slice_get pointers j ≡ Some r
      → (q : ℕ) → Reaches (told land.blocks.draft history) level p.child q
      → Reaches (told land.blocks.draft history) level r.child q → ⊥
  pub free : (q : ℕ) → IsTrue (is_free_slot land.space q) → (i : ℕ) (pointer : Pointer)
      → slice_get pointers i ≡ Some pointer → Reaches (told land.blocks.draft history) level pointer.child q → ⊥
