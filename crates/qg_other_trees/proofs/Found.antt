-- The nodes of a layout, found in an image.
use Rattle.std.proofs.Common.{◌≡◌, ℕ, true, List, [], ◌∷◌, refl, sym, ap, subst, ◌∙◌}
use Rattle.std.specs.Prelude.{Option}
use Rattle.std.specs.List.{AllByRecursion, filter_map}
use Rattle.std.specs.Option.{option_map}
use Rattle.qg_node.specs.declared.node.Node.{Node}
use Rattle.qg_items.specs.declared.root.RootItem.{RootItem}
use Rattle.qg_super.specs.declared.superblock.Super.{Super}
use Rattle.qg_super.specs.Places.{is_served}
use Rattle.qg_image.specs.State.{State, Subvolume, node_at}
use Rattle.qg_image.specs.OtherTrees.{root_item_of, subvolume_items}
use Rattle.qg_machine.specs.Layout.{IsTreeOf, IsWhole}
use Rattle.qg_other_trees.specs.Holds.{AreRuns, AreThoseOf, HoldsLayout, IsToCome, IsWalkedIn, nodes_of_roots}
use Rattle.qg_other_trees.proofs.MetNodes.{all_nodes, finds, met, those}
use Rattle.qg_other_trees.proofs.Walked.{in_slots, nodes_found}
use Rattle.qg_other_trees.proofs.SubvolumeTree.{root_node, root_there}

module _ (state : State) (whole : IsWhole state) where
  -- a subvolume's ROOT_ITEM, of its root node
  abbrev pub item_of : (entry : ℕ × Subvolume) → IsTreeOf state entry.1 → ℕ × RootItem
  item_of entry tree = (entry.0, root_item_of entry.1 (root_node state whole entry.1 tree))

  -- the ROOT_ITEMs of subvolumes that have trees
  abbrev pub items_of : (subvolumes : List (ℕ × Subvolume))
      → AllByRecursion (λ entry. IsTreeOf state entry.1) subvolumes
      → List (ℕ × RootItem)
  items_of [] trees = []
  items_of (entry ∷ subvolumes) trees = item_of entry trees.0 ∷ items_of subvolumes trees.1

  abbrev own_item : ℕ × Subvolume → Option (ℕ × RootItem)
  own_item entry = option_map (λ root. (entry.0, root_item_of entry.1 root)) (node_at state.layout entry.1.root)

  each_has_root : (subvolumes : List (ℕ × Subvolume))
      (trees : AllByRecursion (λ entry. IsTreeOf state entry.1) subvolumes)
      → filter_map own_item subvolumes ≡ items_of subvolumes trees
  each_has_root [] trees = refl
  each_has_root (entry ∷ subvolumes) trees =
      rw (root_there state whole entry.1 trees.0, each_has_root subvolumes trees.1) refl

  pub items_are : subvolume_items state ≡ items_of state.subvolumes whole.trees
  unfolding subvolume_items
  items_are = each_has_root state.subvolumes whole.trees

  module _ (super : Super) (image : List ℕ) (comes : IsToCome state super)
      (holds : HoldsLayout super image state.layout) where
    all_found : (subvolumes : List (ℕ × Subvolume))
        (trees : AllByRecursion (λ entry. IsTreeOf state entry.1) subvolumes)
        → nodes_of_roots super image (items_of subvolumes trees) ≡ all_nodes state whole subvolumes trees
    all_found [] trees = refl
    all_found (entry ∷ subvolumes) trees =
        rw (nodes_found state super image whole comes holds entry.1 trees.0, all_found subvolumes trees.1) refl

    -- the nodes found in the image under the roots of subvolumes are those that are found in the layout
    pub those_found : nodes_of_roots super image (subvolume_items state) ≡ those state whole
    those_found = ap (nodes_of_roots super image) items_are ∙ all_found state.subvolumes whole.trees

-- those that were found in an image are those of the layout
pub are_those_of : (state : State) (super : Super) (image : List ℕ) → IsWhole state
    → IsToCome state super → HoldsLayout super image state.layout → is_served state.sizes ≡ true → AreRuns state
    → AllByRecursion (λ entry. IsWalkedIn state entry.1 super image) state.subvolumes
    → AreThoseOf state.layout (nodes_of_roots super image (subvolume_items state))
are_those_of state super image whole comes holds served runs walked =
    let slots = in_slots state super image whole comes holds in
    let are : AreThoseOf state.layout (those state whole) = record {
      met = met state whole served runs slots;
      there = (finds state whole).each;
    } in
    subst (λ (nodes : List Node). AreThoseOf state.layout nodes) (sym (those_found state whole super image comes holds))
    are
