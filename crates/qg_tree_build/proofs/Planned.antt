-- The slots that the nodes of a tree are to lie in.
use Rattle.std.proofs.Common.{◌≡◌, ℕ, ◌≤◌, true, List, [], ◌∷◌, length, map, take, drop, arith, sym, ap, subst, ◌∙◌}
use Rattle.std.specs.Prelude.{◌==◌, min}
use Rattle.std.specs.List.{AllByRecursion, IsDistinct, list_all}
use Rattle.std.proofs.lemmas.Bool.{and_parts}
use Rattle.std.proofs.lemmas.List.{take-append-drop}
use Rattle.qg_node.specs.declared.item.Item.{Item}
use Rattle.qg_node.specs.declared.node.Node.{Node}
use Rattle.qg_node.specs.NodeText.{IsNodeSize}
use Rattle.qg_super.proofs.Served.{SizesFit-is_served}
use Rattle.qg_space.specs.Holding.{free_slots, is_free_slot}
use Rattle.qg_space.proofs.Listed.{free_slots-le-slots}
use Rattle.qg_node_alloc.specs.declared.ground.Ground.{Ground}
use Rattle.qg_node_alloc.specs.Land.{IsDrafted}
use Rattle.qg_tree_layout.specs.Build.{IsBuilt}
use Rattle.qg_tree_layout.specs.Row.{address_of}
use Rattle.qg_tree_layout.proofs.Frame.{IsDistinct-front}
use Rattle.qg_tree_build.specs.Building.{most_nodes}
use Rattle.qg_tree_build.specs.Planning.{IsPlanned}

-- nodes in slots that are free
free_each : (land : Ground) (nodes : List Node) (slots : List ℕ) → list_all (is_free_slot land.space) slots ≡ true
    → map address_of nodes ≡ take (length nodes) slots
    → AllByRecursion (λ node. is_free_slot land.space (address_of node) ≡ true) nodes
free_each land [] slots free placed = tt
free_each land (node ∷ nodes) [] free placed = absurd cc
free_each land (node ∷ nodes) (slot ∷ slots) free placed =
    let parts = and_parts (is_free_slot land.space slot) (list_all (is_free_slot land.space) slots) free in
    let first : address_of node ≡ slot = cc in
    let later : map address_of nodes ≡ take (length nodes) slots = cc in
    (ap (is_free_slot land.space) first ∙ parts.0, free_each land nodes slots parts.1 later)

module _ (land : Ground) (next : ℕ) (drafted : IsDrafted land next) (nodesize : ℕ)
    (sized : nodesize ≡ land.blocks.draft.sizes.nodesize) where
  pub same-size : nodesize ≡ land.space.sizes.nodesize
  same-size = sized ∙ drafted.sizes.nodesize

  pub is-size : IsNodeSize nodesize
  is-size =
      subst (λ (n : ℕ). IsNodeSize n) (sym same-size)
      (SizesFit-is_served land.space.sizes drafted.sizes.served).node_size

  module _ (items : List Item) (room : most_nodes land.space.sizes.nodesize items ≤ free_slots land.space) where
    pub room-here : most_nodes nodesize items ≤ free_slots land.space
    room-here = subst (λ (n : ℕ). most_nodes n items ≤ free_slots land.space) (sym same-size) room

    pub few-here : most_nodes nodesize items ≤ 16128
    few-here =
        let fit = (SizesFit-is_served land.space.sizes drafted.sizes.served).slots in
        let all = free_slots-le-slots land.space in
        let room = room-here in
        omega (arith, fit, all, room)

    -- so many slots are listed
    pub listed : (count : ℕ) (slots : List ℕ) → count ≡ most_nodes nodesize items
        → length slots ≡ min count (free_slots land.space) → length slots ≡ most_nodes nodesize items
    listed count slots asked long =
        let room = room-here in
        omega (arith, asked, long, room)

    pub planned : (owner : ℕ) (slots : List ℕ) (nodes : List Node) (root level : ℕ)
        → list_all (is_free_slot land.space) slots ≡ true → IsDistinct (λ a b. a == b) slots
        → IsBuilt nodesize owner next items slots nodes root level → IsPlanned land owner next items nodes root level
    planned owner slots nodes root level free apart built = record {
      slots = slots;
      built = subst (λ (n : ℕ). IsBuilt n owner next items slots nodes root level) same-size built;
      free = free_each land nodes slots free built.placed;
      apart = subst (λ (ns : List ℕ). IsDistinct (λ a b. a == b) ns) (sym built.placed)
          (IsDistinct-front (λ a b. a == b) (take (length nodes) slots) (drop (length nodes) slots)
          (subst (λ (ns : List ℕ). IsDistinct (λ a b. a == b) ns) (sym (take-append-drop (length nodes) slots)) apart));
    }
