-- Keyed references of a tree to the children of a node.
use Rattle.std.proofs.Common.{◌≡◌, ℕ, false, ◌++◌, map, refl, ap, ◌∙◌}
use Rattle.std.specs.List.{flat_map}
use Rattle.qg_node.specs.declared.node.Header.{Header}
use Rattle.qg_node.specs.declared.node.Node.{Node}
use Rattle.qg_node.specs.declared.node.Node.TheVariants.{Leaf, Inner}
use Rattle.qg_node.specs.Nodes.{header_of, own_items, own_pointers}
use Rattle.qg_image.specs.ItemMeaning.{file_part}
use Rattle.qg_image.specs.Owed.{owed_by_node, owed_by_part, owed_to_child}
use Rattle.qg_cow_refs.specs.Children.{keyed_children}

-- what a node would owe under its header with another owner
keyed_own : (node : Node) (tree : ℕ)
    → map (λ pointer. owed_to_child (record (header_of node) { owner = tree }) false pointer.child) (own_pointers node)
    ++ flat_map (λ item. owed_by_part (record (header_of node) { owner = tree }) false (file_part item))
    (own_items node) ≡ keyed_children node tree
unfolding owed_by_node
keyed_own (Leaf header items) tree = refl
keyed_own (Inner header pointers) tree = refl

pub keyed-under : (header : Header) (node : Node) (tree : ℕ) → header ≡ record (header_of node) { owner = tree }
    → map (λ pointer. owed_to_child header false pointer.child) (own_pointers node)
    ++ flat_map (λ item. owed_by_part header false (file_part item)) (own_items node) ≡ keyed_children node tree
keyed-under header node tree is =
    ap (λ (h : Header). map (λ pointer. owed_to_child h false pointer.child) (own_pointers node)
    ++ flat_map (λ item. owed_by_part h false (file_part item)) (own_items node)) is
    ∙ keyed_own node tree
