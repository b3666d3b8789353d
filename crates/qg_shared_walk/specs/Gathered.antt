-- When the two rules can be judged by what was gathered (this project's own). Addresses are in bytes.
use Rattle.std.specs.Prelude.{◌≡◌, ℕ, List, map, None, IsTrue}
use Rattle.std.specs.List.{Contains, flat_map}
use Rattle.qg_items.specs.declared.root.RootItem.{RootItem}
use Rattle.qg_super.specs.declared.superblock.Super.{Super}
use Rattle.qg_super.specs.Places.{is_served}
use Rattle.qg_super.specs.SuperText.{sizes_of}
use Rattle.qg_image.specs.declared.part.ExtentPart.{ExtentPart}
use Rattle.qg_image.specs.declared.element.Element.{Element}
use Rattle.qg_image.specs.Reach.{extent_of, pieces_of}
use Rattle.qg_image.specs.declared.tree.TreeKind.TheVariants.{Files}
use Rattle.qg_image.specs.Walk.{root_told, tree_failure}
use Rattle.qg_image.specs.ImageState.{extent_parts, roots_in, subvolume_roots}
use Rattle.qg_image.specs.Verdict.{space_failure}
use Rattle.qg_reach.specs.Sets.{HaveSame}
use Rattle.qg_shared_walk.specs.declared.nodes.NodesRead.{NodesRead}
use Rattle.qg_shared_walk.specs.ReadOfTrees.{AreFound}
use Rattle.qg_shared_walk.specs.NodeFacts.{AreOfNodes}

-- where a subvolume's root lies, by its ROOT_ITEM
abbrev pub root_at : ℕ × RootItem → ℕ × ℕ
root_at entry = (entry.0, entry.1.bytenr)

-- In an image of served sizes these are the ROOT_ITEMs of the subvolumes, and the walks of their trees met no failure.
-- This was gathered of their nodes, of each once; they name these extents, which keep the rule `space`, and the extent
-- tree says these parts
pub record AreGathered (super : Super) (image : List ℕ) (roots : List (ℕ × RootItem)) (nodes : NodesRead)
    (extents : List Element) (parts : List ExtentPart) : Type 0 where
  pub served : IsTrue (is_served (sizes_of super))
  pub subvolumes : subvolume_roots (roots_in super image) ≡ roots
  pub sound : (entry : ℕ × RootItem) → Contains roots entry
      → tree_failure Files super image (root_told entry.1) entry.1.bytenr ≡ None
  pub gathered : AreFound super image roots AreOfNodes nodes
  pub named : HaveSame extents (flat_map (λ node. map extent_of (pieces_of node)) gathered.nodes)
  pub space : space_failure (sizes_of super) extents ≡ None
  pub told : parts ≡ extent_parts super image
