-- A state whose layout is trees that stand is whole.
use Rattle.std.proofs.Common.{◌≡◌, ℕ, true, List, map, Some, arith, sym, ap, subst, ◌∙◌, inl, inr}
use Rattle.std.specs.Prelude.{◌==◌, IsTrue}
use Rattle.std.specs.List.{Contains, filter_map}
use Rattle.std.specs.List.Sorted.{IsStrictlyIncreasing}
use Rattle.std.proofs.lemmas.Bool.{eqb-true as number_is, or_cases}
use Rattle.std.proofs.lemmas.List.Elements.{Contains-append_left}
use Rattle.qg_device.specs.History.{History}
use Rattle.qg_num.specs.declared.piece.Piece.{Piece}
use Rattle.qg_node.specs.declared.item.Item.{Item}
use Rattle.qg_node.specs.declared.node.Node.{Node}
use Rattle.qg_node.specs.Nodes.{own_items}
use Rattle.qg_node.specs.NodeText.{IsNode}
use Rattle.qg_super.specs.declared.sizes.Sizes.{Sizes}
use Rattle.qg_super.specs.Places.{is_slot}
use Rattle.qg_image.specs.Table.{keys_of, value_at}
use Rattle.qg_machine.specs.Layout.{IsWhole}
use Rattle.qg_machine.specs.Layout as machine
use Rattle.qg_image.specs.declared.element.Element.{Element}
use Rattle.qg_image.specs.Reach.{extent_of, is_among, own_elements, pieces_of, reaches}
use Rattle.qg_image.specs.State.{Placed, State, layout_of, node_at}
use Rattle.qg_image.proofs.Contained.{contains_cases}
use Rattle.qg_owner_rule.proofs.Reaching.{value_of_entry}
use Rattle.qg_image.specs.declared.tree.TreeKind.TheVariants.{Files}
use Rattle.qg_node_alloc.specs.Land.{IsDrafted}
use Rattle.qg_shared_trees.specs.Tree.{Reaches, Root, super_of}
use Rattle.qg_shared_trees.proofs.BranchFrames.{reach-same}
use Rattle.qg_shared_trees.proofs.ForestExtents.{among-one}
use Rattle.qg_fs_tree.specs.declared.fs_tree.FsTree.{FsTree}
use Rattle.qg_fs_tree.specs.Standing.{IsAtHome, IsReachedBy, IsSubvolume, Stands, items_in, name_of, name_told}
use Rattle.qg_fs_tree.specs.Standing.{names_elsewhere, nodes_of, trees_of}
use Rattle.qg_fs_tree.proofs.Before.{name_apart, names_there}
use Rattle.qg_fs_tree.proofs.Fixed.{elsewhere_name}
use Rattle.qg_shared_trees.proofs.BranchItems.{from-leaf}
use Rattle.qg_fs_tree.proofs.Lists.{all-contained, made-some}
use Rattle.qg_fs_tree.proofs.Lying.{told-at}
use Rattle.qg_fs_tree.proofs.Nodes.{names-some, times-many}
use Rattle.qg_fs_tree.proofs.Owings.{names_of}
use Rattle.qg_shared_trees.specs.Laying.{AreFit, HaveFiles, IsLaidOut, IsMetAs}
use Rattle.qg_shared_trees.proofs.Extents.{own-extent}
use Rattle.qg_shared_trees.proofs.Nodes.{nodes-ascend, reached-by}
use Rattle.qg_shared_trees.proofs.Reach.{in-reaches, is_reached-in, reach-on, reaches-in, reaches-root}
use Rattle.qg_shared_trees.proofs.Roots.{root-tree}
use Rattle.qg_shared_trees.proofs.Trees.{branch, drafted, entry-there, items-at_hand, laid-there, met-slot, nodes-laid}
use Rattle.qg_shared_trees.proofs.Trees.{numbers-apart, root-level, roots-laid, sized, tree-value, trees-laid}

module _ (fs : FsTree) (history : History) (bytes : ℕ) (items : List Item) (names : List (ℕ × Piece))
    (subvolume : IsSubvolume fs history bytes) (stands : Stands fs history items names) where
  abbrev fresh : IsDrafted fs.land fs.tree.next
  fresh = drafted fs history bytes items names subvolume stands

  -- ---- no piece that a tree tells begins in a slot

  -- each piece of the tree at hand is named
  own_apart : (name : ℕ × Piece) (q : ℕ) → Contains (filter_map name_told items) name
      → IsTrue (is_slot fs.land.space.sizes q) → name.1.extent ≡ q → ⊥
  own_apart name q has slot same =
      let reference = (name_of fs.tree.owner name).reference in
      let told = names_there fs.tree.owner (filter_map name_told items) name has in
      let within = stands.within name.1.extent reference in
      let most = times-many (names_of fs.tree.owner names) name.1.extent reference in
      let named = names-some fs.tree.owner names name.1.extent (omega (arith, told, within, most)) in
      name_apart fs history items names stands fresh named.name q
      (Contains-append_left names (names_elsewhere fs history) named.name named.among) slot (named.is ∙ same)

  -- nor one that a node tells that some tree reaches
  told_apart : (tree : Root) → Contains (trees_of fs) tree → (at : ℕ) (node : Node) → IsReachedBy fs history tree at
      → nodes_of fs history at ≡ Some node → (item : Item) → Contains (own_items node) item → (name : ℕ × Piece)
      → name_told item ≡ Some name → (q : ℕ) → IsTrue (is_slot fs.land.space.sizes q) → name.1.extent ≡ q → ⊥
  told_apart tree has at node reached there item own name told q slot same =
      elim (contains_cases fs.tree fs.others.items tree has) [
        | inl mine ↦
            let among = from-leaf Files (super_of tree fs.land.blocks.draft) (nodes_of fs history) item tree.height
            tree.address (items_in fs history tree) (branch fs history bytes items names subvolume stands tree has) at
            reached node there own in
            let here = subst (λ (t : Root). Contains (items_in fs history t) item) (sym mine) among in
            let listed = subst (λ (xs : List Item). Contains xs item)
            (items-at_hand fs history bytes items names subvolume stands) here in
            own_apart name q (made-some name_told items item name listed told) slot same
        | inr later ↦
            name_apart fs history items names stands fresh name q
            (elsewhere_name fs history items names stands fresh at node name
            (record { tree = tree; among = later; reached = reached }) there
            (made-some name_told (own_items node) item name own told)) slot same
      ]

  module _ (state : State) (laid : IsLaidOut state fs history) where
    there : (q : ℕ) (tree : Root) → Contains (trees_of fs) tree → IsReachedBy fs history tree q
        → node_at state.layout q ≡ nodes_of fs history q
    there q tree has reached = laid-there fs history bytes items names subvolume stands state laid q
        (record { tree = tree; among = has; reached = reached })

    -- what a tree reaches it reaches in the state's layout too
    pub reaches-laid : (tree : Root) → Contains (trees_of fs) tree → (q : ℕ) → IsReachedBy fs history tree q
        → Reaches (node_at state.layout) tree.height tree.address q
    reaches-laid tree has q reached =
        reach-on (nodes_of fs history) (node_at state.layout) tree.height tree.address
        (λ r reaches. there r tree has reaches) q reached

    pub laid-reaches : (tree : Root) → Contains (trees_of fs) tree → (q : ℕ)
        → Reaches (node_at state.layout) tree.height tree.address q → IsReachedBy fs history tree q
    laid-reaches tree has q reached =
        reach-same (nodes_of fs history) (node_at state.layout) tree.height tree.address
        (λ r reaches. there r tree has reaches) q reached

    pub node-laid : (q : ℕ) (placed : Placed) → IsMetAs fs history q placed
        → node_at state.layout q ≡ Some placed.node
    node-laid q placed its =
        laid-there fs history bytes items names subvolume stands state laid q its.met ∙ its.told

    -- a subvolume reaches what its tree does
    pub owner-reaches : (tree : Root) → Contains (trees_of fs) tree → (q : ℕ) → IsReachedBy fs history tree q
        → reaches (layout_of state) tree.owner q ≡ true
    owner-reaches tree has q reached =
        let entry = entry-there fs history bytes items names subvolume stands q
        (record { tree = tree; among = has; reached = reached }) in
        reaches-in (layout_of state) tree.owner tree.address tree.height
        (tree-value fs history bytes items names subvolume stands state laid tree has)
        (root-level fs history bytes items names subvolume stands state laid tree has) q entry.0.node
        (reaches-laid tree has q reached) (node-laid q entry.0 entry.1)

    -- what a node of a tree is, or names, is reached by that tree, where it lies in a slot
    slot_reached : (tree : Root) → Contains (trees_of fs) tree → (q at : ℕ) (node : Node)
        → IsReachedBy fs history tree at → nodes_of fs history at ≡ Some node
        → is_among q (own_elements state.sizes.nodesize at (Some node)) ≡ true
        → IsTrue (is_slot fs.land.space.sizes q) → IsReachedBy fs history tree q
    slot_reached tree has q at node reached told own slot =
        elim (or_cases (at == q) (is_among q (map extent_of (pieces_of node))) own) [
          | inl itself ↦ subst (λ (a : ℕ). IsReachedBy fs history tree a) (number_is at q itself) reached
          | inr names_it ↦
              let element = among-one q (map extent_of (pieces_of node)) names_it in
              let item = own-extent node element.0 element.1 in
              absurd (told_apart tree has at node reached told item.0 item.1 item.2.name item.2.told q slot
              (ap (λ (e : Element). e.address) item.2.is ∙ element.2))
        ]

    told_laid : (tree : Root) → Contains (trees_of fs) tree → (at : ℕ) (node : Node) → IsReachedBy fs history tree at
        → node_at state.layout at ≡ Some node → nodes_of fs history at ≡ Some node
    told_laid tree has at node reached laid_so = sym (there at tree has reached) ∙ laid_so

    -- and a slot that it reaches its tree does
    pub owner-tree : (number q : ℕ) → reaches (layout_of state) number q ≡ true
        → IsTrue (is_slot fs.land.space.sizes q) → IsAtHome fs history q number
    owner-tree number q is slot =
        let root = reaches-root (layout_of state) number q is in
        let own = root-tree fs stands.ascending (numbers-apart fs history bytes items names subvolume stands) number
        root.0 (ap (λ (table : List (ℕ × ℕ)). value_at number table)
        (sym (roots-laid fs history bytes items names subvolume stands state laid)) ∙ root.1) in
        let tree = own.tree in
        let here : value_at number (layout_of state).roots ≡ Some tree.address =
        root.1 ∙ ap (λ (n : ℕ). Some n) (sym own.root_is) in
        let found = in-reaches (layout_of state) number tree.address tree.height here
        (root-level fs history bytes items names subvolume stands state laid tree own.among) q is in
        let reached = laid-reaches tree own.among found.0 found.2 in
        record {
          tree = tree;
          among = own.among;
          number = own.number_is;
          reached = slot_reached tree own.among q found.0 found.1 reached
              (told_laid tree own.among found.0 found.1 reached found.3) found.4 slot;
        }

    -- each entry is one of the trees
    pub value-laid : (q : ℕ) (placed : Placed) → value_at q state.layout ≡ Some placed → IsMetAs fs history q placed
    value-laid q placed is =
        reached-by fs history q placed
        (ap (λ (table : List (ℕ × Placed)). value_at q table)
        (sym (nodes-laid fs history bytes items names subvolume stands state laid)) ∙ is)

    pub layout-ascends : IsStrictlyIncreasing (keys_of state.layout)
    layout-ascends = subst (λ (table : List (ℕ × Placed)). IsStrictlyIncreasing (keys_of table))
        (sym (nodes-laid fs history bytes items names subvolume stands state laid))
        (nodes-ascend fs history (sized fs history bytes items names subvolume stands)
        (met-slot fs history bytes items names subvolume stands))

    pub entry-laid : (entry : ℕ × Placed) → Contains state.layout entry → IsMetAs fs history entry.0 entry.1
    entry-laid entry has = value-laid entry.0 entry.1 (value_of_entry state.layout entry layout-ascends has)

    entry_sound : AreFit fs history → (entry : ℕ × Placed) → Contains state.layout entry
        → machine.IsReached state entry
    entry_sound fit entry has =
        let its = entry-laid entry has in
        let sound = fit entry.0 entry.1.node its.met its.told in
        record {
          node_of_format = subst (λ (n : ℕ). IsNode n entry.1.node)
              (sym (ap (λ (sizes : Sizes). sizes.nodesize) laid.sizes)) sound.sound;
          fits = sound.fits;
          placed = (told-at fs.land history fs.tree.next fresh entry.0 entry.1.node its.told).placed;
          reached = is_reached-in (layout_of state) its.met.tree.owner its.met.tree.address its.met.tree.height
              (tree-value fs history bytes items names subvolume stands state laid its.met.tree its.met.among)
              (root-level fs history bytes items names subvolume stands state laid its.met.tree its.met.among)
              entry.0 entry.1.node (reaches-laid its.met.tree its.met.among entry.0 its.met.reached)
              (node-laid entry.0 entry.1 its);
        }

    pub IsWhole-laid : HaveFiles state fs history → AreFit fs history → IsWhole state
    IsWhole-laid files fit = record {
      ascending = layout-ascends;
      trees = trees-laid fs history bytes items names subvolume stands state laid files;
      reached = all-contained (machine.IsReached state) state.layout (entry_sound fit);
    }

pub state-whole : (fs : FsTree) (history : History) (bytes : ℕ) (items : List Item)
    (names : List (ℕ × Piece)) (state : State)
    → IsSubvolume fs history bytes → Stands fs history items names → IsLaidOut state fs history
    → HaveFiles state fs history → AreFit fs history → IsWhole state
state-whole fs history bytes items names state subvolume stands laid files fit =
    IsWhole-laid fs history bytes items names subvolume stands state laid files fit
