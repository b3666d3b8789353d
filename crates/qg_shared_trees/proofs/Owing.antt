-- What a layout owes, as its roots and its nodes.
use Rattle.std.proofs.Common.{◌≡◌, ℕ, ◌+◌, List, [], ◌∷◌, ◌++◌, map, arith, refl, ap, ◌∙◌}
use Rattle.std.specs.List.{flat_map}
use Rattle.qg_items.specs.declared.extent.Reference.{Reference}
use Rattle.qg_image.specs.State.{Layout, Placed}
use Rattle.qg_image.specs.Owed.{Owing, owed, owed_by_node, owed_count}
use Rattle.qg_cow_refs.specs.Children.{way_to}
use Rattle.qg_tree_backrefs.specs.Exchange.{times}
use Rattle.qg_tree_backrefs.proofs.Times.{times-append}
use Rattle.qg_shared_trees.proofs.Tables.{times-flat}

-- what subvolumes owe their roots, and what nodes owe
abbrev pub root_owes : ℕ × ℕ → List Owing
root_owes entry = way_to entry.1 entry.0 ∷ []

abbrev pub node_owes : ℕ × Placed → List Owing
node_owes entry = owed_by_node entry.1

roots_flat : (roots : List (ℕ × ℕ)) (at : ℕ) (reference : Reference)
    → times (map (λ entry. way_to entry.1 entry.0) roots) at reference ≡ times (flat_map root_owes roots) at reference
roots_flat [] at reference = refl
roots_flat (root ∷ roots) at reference =
    let first = times-append (root_owes root) (map (λ entry. way_to entry.1 entry.0) roots) at reference in
    let last = times-flat root_owes root roots at reference in
    let rest = roots_flat roots at reference in
    omega (arith, first, last, rest)

owed_times : (layout : Layout) (at : ℕ) (reference : Reference) → owed_count layout at reference
    ≡ times (owed layout) at reference
unfolding owed_count times
owed_times layout at reference = refl

owed_is : (layout : Layout) → owed layout
    ≡ map (λ entry. way_to entry.1 entry.0) layout.roots ++ flat_map node_owes layout.nodes
unfolding owed
owed_is layout = refl

-- as often as a reference is owed: by the roots, and by the nodes
pub owed-parts : (layout : Layout) (at : ℕ) (reference : Reference) → owed_count layout at reference
    ≡ times (flat_map root_owes layout.roots) at reference + times (flat_map node_owes layout.nodes) at reference
owed-parts layout at reference =
    let whole = owed_times layout at reference
    ∙ ap (λ (owings : List Owing). times owings at reference) (owed_is layout)
    ∙ times-append (map (λ entry. way_to entry.1 entry.0) layout.roots) (flat_map node_owes layout.nodes) at
    reference in
    let roots = roots_flat layout.roots at reference in
    omega (arith, whole, roots)

-- what is owed by the images of some things is owed by these
pub times-mapped : {A B : Type 0} (h : A → B) (f : B → List Owing) (xs : List A) (at : ℕ) (reference : Reference)
    → times (flat_map f (map h xs)) at reference ≡ times (flat_map (λ x. f (h x)) xs) at reference
times-mapped {A} {B} h f [] at reference = refl
times-mapped {A} {B} h f (x ∷ xs) at reference =
    let first = times-flat f (h x) (map h xs) at reference in
    let last = times-flat (λ (y : A). f (h y)) x xs at reference in
    let rest = times-mapped h f xs at reference in
    omega (arith, first, last, rest)
