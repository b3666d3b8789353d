-- What items say, where each says something.
use Rattle.std.proofs.Common.{◌≡◌, ℕ, List, [], ◌∷◌, map, refl, ap}
use Rattle.std.specs.Prelude.{Option, Some, None}
use Rattle.std.specs.List.{filter_map}
use Rattle.qg_node.specs.declared.item.Item.{Item}
use Rattle.qg_node.specs.declared.node.Node.{Node}
use Rattle.qg_items.specs.declared.root.RootItem.{RootItem}
use Rattle.qg_super.specs.declared.superblock.Super.{Super}
use Rattle.qg_image.specs.ItemMeaning.{root_part, quota_part}
use Rattle.qg_image.specs.Table.{value_at}
use Rattle.qg_image.specs.declared.tree.TreeKind.{TreeKind}
use Rattle.qg_image.specs.declared.tree.TreeKind.TheVariants.{Roots, Quotas}
use Rattle.qg_image.specs.Walk.{root_expected, root_told}
use Rattle.qg_image.specs.ImageState.{roots_in, tree_items, items_of_root, quota_parts}
use Rattle.qg_walk.specs.IsWalk.{IsWalk}

-- the parts are what is said, and nothing was left out
pub filter_map_said : {P : Type 0} (meaning : Item → Option P) (items : List Item) (parts : List P)
    → map meaning items ≡ map (λ part. Some part) parts → filter_map meaning items ≡ parts
filter_map_said meaning [] [] h = refl
filter_map_said meaning [] (part ∷ parts) h = absurd cc
filter_map_said meaning (item ∷ items) [] h = absurd cc
filter_map_said {P} meaning (item ∷ items) (part ∷ parts) h =
    let first : meaning item ≡ Some part = cc in
    let rest : map meaning items ≡ map (λ part. Some part) parts = cc in
    rw first (ap (λ (all : List P). part ∷ all) (filter_map_said meaning items parts rest))

-- so a walk of the root tree finds the trees that it names
pub roots_read : {N : Type 0} {keeps : N → List Node → Type 0} (super : Super) (image : List ℕ)
    (parts : List (ℕ × RootItem)) (nodes : N)
    → IsWalk Roots root_part keeps super image (root_expected None None) super.root parts nodes
    → roots_in super image ≡ parts
unfolding roots_in
roots_read super image parts nodes walk =
    filter_map_said root_part (tree_items Roots super image (root_expected None None) super.root) parts walk.said

-- and one of another tree what its items say
pub tree_read : {P N : Type 0} {keeps : N → List Node → Type 0} (tree : TreeKind) (meaning : Item
    → Option P) (super : Super) (image : List ℕ) (root : RootItem) (parts : List P) (nodes : N)
    → IsWalk tree meaning keeps super image (root_told root) root.bytenr parts nodes
    → filter_map meaning (items_of_root tree super image root) ≡ parts
tree_read tree meaning super image root parts nodes walk =
    filter_map_said meaning (tree_items tree super image (root_told root) root.bytenr) parts walk.said

-- the quota tree's, where the root tree names it
pub quota_parts_of : (super : Super) (image : List ℕ) (root : RootItem) → value_at 8 (roots_in super image) ≡ Some root
    → quota_parts super image ≡ filter_map quota_part (items_of_root Quotas super image root)
unfolding quota_parts
quota_parts_of super image root there = rw there refl

-- ---- answers

-- an answer that is not something is nothing
pub is_none : {A : Type 0} (found : Option A) → ((x : A) → found ≡ Some x → ⊥) → found ≡ None
is_none None h = refl
is_none (Some x) h = absurd (h x refl)
