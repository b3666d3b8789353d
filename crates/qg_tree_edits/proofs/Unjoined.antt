-- What `settle` hands on where a child needs no neighbour.
use Rattle.std.proofs.Common.{◌≡◌, ℕ, ◌+◌, List, [], refl, sym, subst, Option, Some, None}
use Rattle.std.specs.Prelude.{MatchOption}
use Rattle.qg_device.specs.History.{History}
use Rattle.qg_num.specs.declared.key.Key.{Key}
use Rattle.qg_node.specs.declared.item.Item.{Item}
use Rattle.qg_node.specs.declared.node.Node.{Node}
use Rattle.qg_node.specs.NodeText.{IsNode}
use Rattle.qg_image.specs.declared.tree.TreeKind.{TreeKind}
use Rattle.qg_shape.specs.Filled.{IsThin}
use Rattle.qg_blocks.specs.NodesFound.{fresh_at, told}
use Rattle.qg_node_alloc.specs.declared.ground.Ground.{Ground}
use Rattle.qg_node_alloc.specs.Land.{IsDrafted}
use Rattle.qg_node_alloc.proofs.Lands.{told-fresh_at}
use Rattle.qg_tree_edits.specs.declared.instead.Instead.{Instead}
use Rattle.qg_tree_read.specs.Tree.{Root, super_of}
use Rattle.qg_tree_read.specs.Branch.{IsBranch}
use Rattle.qg_tree_edits.specs.Editing.{CanLead, FillsThere, IsFreshOn, IsUnsettled, StandsInstead}
use Rattle.qg_tree_edits.proofs.Served.{filled-not_thin, node-drafted, size-blocks}

-- the node in the child's place is full enough: it is not thin, or has one behind it
full_there : (tree : TreeKind) (root : Root) (land : Ground) (history : History) (level generation : ℕ)
    (child : Instead) (rest : List Item) → IsDrafted land generation → IsFreshOn land level child.now
    → (child.more ≡ None → (node : Node) → fresh_at land.blocks.draft child.now ≡ Some node
    → IsThin land.blocks.draft.sizes.nodesize node → ⊥)
    → MatchOption child.more (rest ≡ []) (λ more. IsBranch tree (super_of root land.blocks.draft)
    (told land.blocks.draft history) level more rest
    × FillsThere (super_of root land.blocks.draft).nodesize (told land.blocks.draft history) child.now
    × FillsThere (super_of root land.blocks.draft).nodesize (told land.blocks.draft history) more)
    → FillsThere land.blocks.draft.sizes.nodesize (told land.blocks.draft history) child.now
full_there tree root land history level generation child rest drafted fresh full behind =
    of child.more refl behind where
      of : (o : Option ℕ) → child.more ≡ o
          → MatchOption o (rest ≡ []) (λ more. IsBranch tree (super_of root land.blocks.draft)
          (told land.blocks.draft history) level more rest
          × FillsThere (super_of root land.blocks.draft).nodesize (told land.blocks.draft history) child.now
          × FillsThere (super_of root land.blocks.draft).nodesize (told land.blocks.draft history) more)
          → FillsThere land.blocks.draft.sizes.nodesize (told land.blocks.draft history) child.now
      of (Some more) is behind = behind.1
      of None is behind = record {
        node = fresh.node;
        there = told-fresh_at land.blocks.draft history child.now fresh.node fresh.here;
        filled = filled-not_thin land.blocks.draft.sizes.nodesize fresh.node
            (subst (λ (n : ℕ). IsNode n fresh.node) (sym drafted.sizes.nodesize)
            (node-drafted land generation child.now fresh.node drafted fresh.here)) (full is fresh.node fresh.here);
      }

pub can-lead : (tree : TreeKind) (root : Root) (land : Ground) (history : History) (level at generation : ℕ)
    (to : Option Key) (place : ℕ) (child : Instead) (items : List Item)
    → IsDrafted land generation → StandsInstead land level child
    → (child.more ≡ None → (node : Node) → fresh_at land.blocks.draft child.now ≡ Some node
    → IsThin land.blocks.draft.sizes.nodesize node → ⊥)
    → (un : IsUnsettled tree root land history level at to place child items)
    → CanLead tree (super_of root land.blocks.draft) land history level at place (place + 1) child un.pointers un.header
    items
can-lead tree root land history level at generation to place child items drafted stands full un = record {
  here = un.here;
  member = un.member;
  front = un.front;
  mine = un.mine;
  back = un.back;
  items_are = un.items_are;
  before = un.before;
  holds = un.holds;
  after = un.after;
  full = full_there tree root land history level generation child un.holds.rest drafted stands.now full un.holds.behind;
  size = size-blocks land generation drafted;
  ascending = un.ascending;
}
