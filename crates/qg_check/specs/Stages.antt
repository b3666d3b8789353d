-- The rules behind those on the root tree, where the trees that it names were told (this project's own).
use Rattle.std.specs.Prelude.{ℕ, List, [], ◌∷◌, map, Option, IsTrue}
use Rattle.qg_items.specs.declared.root.RootItem.{RootItem}
use Rattle.qg_super.specs.declared.superblock.Super.{Super}
use Rattle.qg_super.specs.SuperText.{is_super}
use Rattle.qg_image.specs.declared.failure.Failure.{Failure}
use Rattle.qg_image.specs.declared.tree.TreeKind.TheVariants.{Extents}
use Rattle.qg_image.specs.Failure.{first_failure}
use Rattle.qg_image.specs.Walk.{root_told, tree_failure}
use Rattle.qg_image.specs.ImageState.{roots_in}
use Rattle.qg_image.specs.Verdict.{quota_failure, subvolume_failure, together_failure}
use Rattle.qg_check.specs.declared.trees.Trees.{Trees}

-- the extent tree
abbrev pub extents_failure : Super → List ℕ → RootItem → Option Failure
extents_failure super image root = tree_failure Extents super image (root_told root) root.bytenr

-- the rules on the other trees, and on what they say together
abbrev pub trees_failure : Super → List ℕ → Trees → Option Failure
trees_failure super image trees = first_failure
    (extents_failure super image trees.extents
    ∷ quota_failure super image (roots_in super image) trees.quotas
    ∷ first_failure (map (λ entry. subvolume_failure super image entry.1) trees.subvolumes)
    ∷ together_failure super image
    ∷ [])

-- the fields are some that a superblock may have
abbrev pub FieldsFit : Super → Type 0
FieldsFit super = IsTrue (is_super super)
