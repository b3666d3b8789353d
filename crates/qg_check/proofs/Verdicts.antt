-- The verdict on an image, by the parts that it looks at.
use Rattle.std.proofs.Common.{◌≡◌, ℕ, List, [], ◌∷◌, map, length, refl, sym, ap}
use Rattle.std.specs.Prelude.{Option, Some, None}
use Rattle.qg_num.specs.declared.rule.Rule.TheVariants as rule
use Rattle.qg_items.specs.declared.root.RootItem.{RootItem}
use Rattle.qg_super.specs.declared.superblock.Super.{Super}
use Rattle.qg_super.specs.Places.{first_place, second_place}
use Rattle.qg_image.specs.Table.{value_at}
use Rattle.qg_image.specs.declared.failure.Failure.{Failure}
use Rattle.qg_image.specs.declared.failure.Failure.TheVariants.{Broken}
use Rattle.qg_image.specs.declared.tree.TreeKind.TheVariants.{Extents}
use Rattle.qg_image.specs.Failure.{first_failure}
use Rattle.qg_image.specs.ImageState.{super_in, super_of, roots_in, subvolume_roots}
use Rattle.qg_image.specs.Verdict.{verdict, image_failure, root_failure, quota_failure, subvolume_failure}
use Rattle.qg_image.specs.Verdict.{places_failure, roots_failure, together_failure}
use Rattle.qg_check.specs.declared.trees.Trees.{Trees}
use Rattle.qg_check.specs.Stages.{trees_failure}
use Rattle.qg_check.specs.Trees.{AreTrees}

-- ---- several failures

pub alone : (a : Option Failure) → first_failure (a ∷ []) ≡ a
alone (Some a) = refl
alone None = refl

in_parts : (a b : Option Failure) (rest : List (Option Failure))
    → first_failure (a ∷ b ∷ rest) ≡ first_failure (a ∷ b ∷ first_failure rest ∷ [])
in_parts (Some a) b rest = refl
in_parts None (Some b) rest = refl
in_parts None None rest = sym (alone (first_failure rest))

-- ---- the verdict

-- without a superblock
pub verdict_none : (image : List ℕ) → super_of image ≡ None → verdict image ≡ Some (Broken rule.Super first_place)
unfolding verdict
verdict_none image none = rw none refl

pub verdict_some : (image : List ℕ) (super : Super) → super_of image ≡ Some super
    → verdict image ≡ image_failure super image
unfolding verdict
verdict_some image super chosen = rw chosen refl

-- the rules behind the root tree's
abbrev pub rest_failures : Super → List ℕ → List (Option Failure)
rest_failures super image =
    root_failure Extents super image (value_at 2 (roots_in super image)) ∷ quota_failure super image
    (roots_in super image) (value_at 8 (roots_in super image))
    ∷ first_failure (map (λ entry. subvolume_failure super image entry.1) (subvolume_roots (roots_in super image)))
    ∷ together_failure super image ∷ []

abbrev pub rest_failure : Super → List ℕ → Option Failure
rest_failure super image = first_failure (rest_failures super image)

pub image_failure_parts : (super : Super) (image : List ℕ) → image_failure super image
    ≡ first_failure (places_failure super (super_in image first_place) (super_in image second_place) (length image)
    ∷ roots_failure super image ∷ rest_failure super image ∷ [])
unfolding image_failure
image_failure_parts super image =
    in_parts (places_failure super (super_in image first_place) (super_in image second_place) (length image))
    (roots_failure super image) (rest_failures super image)

-- those are the trees' where the root tree names them
pub rest_failure_trees : (super : Super) (image : List ℕ) (trees : Trees) → AreTrees super image trees
    → rest_failure super image ≡ trees_failure super image trees
rest_failure_trees super image trees are =
    same_rest (together_failure super image)
    (ap (root_failure Extents super image) are.named.extent_tree)
    (ap (quota_failure super image (roots_in super image)) are.named.quota_tree)
    (ap (λ (entries : List (ℕ × RootItem)). first_failure
    (map (λ entry. subvolume_failure super image entry.1) entries)) are.named.all)
  where
    same_rest : {a a' b b' s s' : Option Failure} (d : Option Failure) → a ≡ a' → b ≡ b' → s ≡ s'
        → first_failure (a ∷ b ∷ s ∷ d ∷ []) ≡ first_failure (a' ∷ b' ∷ s' ∷ d ∷ [])
    same_rest d h k l = rw (h, k, l) refl
