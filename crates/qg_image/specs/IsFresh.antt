-- The state of an image that was just made (this project's own).
use Rattle.std.specs.Prelude.{◌≡◌, ℕ, false, List, [], ◌∷◌, Some, None, IsTrue, ◌==◌}
use Rattle.std.specs.List.{IsDistinct, list_all}
use Rattle.qg_node.specs.declared.item.Item.{Item}
use Rattle.qg_node.specs.declared.node.Node.{Node}
use Rattle.qg_node.specs.declared.node.Node.TheVariants.{Leaf}
use Rattle.qg_items.specs.declared.tree.TheConstants.{ROOT_TREE, EXTENT_TREE, TOP_LEVEL, QUOTA_TREE}
use Rattle.qg_super.specs.declared.sizes.Sizes.{Sizes}
use Rattle.qg_super.specs.Places.{is_slot}
use Rattle.qg_image.specs.declared.quota.Group.{Group}
use Rattle.qg_image.specs.State.{State, blank_state, blank_subvolume, blank_quota}
use Rattle.qg_image.specs.ImageState.{as_committed}
use Rattle.qg_image.specs.OtherTrees.{AreOtherTrees}

-- the group of the top-level subvolume: it counts the root node alone, and has no limit
abbrev pub fresh_group : Sizes → Group
fresh_group sizes = record {
  counters = record { rfer = sizes.nodesize; excl = sizes.nodesize };
  max_rfer = None;
  max_excl = None;
  stamp = 1;
}

-- a leaf of generation 1 with these items
abbrev pub fresh_leaf : ℕ → ℕ → List Item → Node
fresh_leaf owner address items = Leaf (record { address = address; generation = 1; owner = owner; level = 0 }) items

-- generation 1, quota on, the top-level subvolume an empty leaf at an address, its group with its counts and no limit;
-- the root, extent and quota trees have these nodes
abbrev pub fresh_state : Sizes → List Node → ℕ → State
fresh_state sizes others root = as_committed others (record (blank_state sizes) {
  generation = 1;
  subvolumes = (TOP_LEVEL, blank_subvolume root) ∷ [];
  layout = (root, record { node = fresh_leaf TOP_LEVEL root []; full = false }) ∷ [];
  quota = Some (record blank_quota { groups = (TOP_LEVEL, fresh_group sizes) ∷ [] });
})

-- the state is fresh for the sizes: each of its four trees is one leaf, in any slots that are apart
pub record IsFresh (sizes : Sizes) (state : State) : Type 0 where
  pub root : ℕ
  pub roots : ℕ
  pub root_items : List Item
  pub extents : ℕ
  pub extent_items : List Item
  pub quotas : ℕ
  pub quota_items : List Item
  pub others : List Node
  pub leaves : others ≡ fresh_leaf ROOT_TREE roots root_items ∷ fresh_leaf EXTENT_TREE extents extent_items
      ∷ fresh_leaf QUOTA_TREE quotas quota_items ∷ []
  pub fresh : state ≡ fresh_state sizes others root
  pub trees : AreOtherTrees state others
  pub apart : IsDistinct (λ a b. a == b) (roots ∷ extents ∷ root ∷ quotas ∷ [])
  pub in_slots : IsTrue (list_all (is_slot sizes) (roots ∷ extents ∷ root ∷ quotas ∷ []))
