-- The nodes that a commit writes are those that the last commit does not hold.
use Rattle.std.proofs.Common.{◌≡◌, ℕ, ◌<◌, Bool, true, not, List, [], ◌∷◌, ◌++◌, map, Option, Some, None, arith, refl}
use Rattle.std.proofs.Common.{sym, ap, subst, ◌∙◌, inl, inr}
use Rattle.std.specs.Prelude.{◌==◌, Contains, IsTrue}
use Rattle.std.specs.List.{filter}
use Rattle.std.specs.List.Sorted.{IsPermutation, IsStrictlySortedBy}
use Rattle.std.specs.Ordering.{nat_cmp}
use Rattle.std.proofs.lemmas.Bool.{cases_Bool, cond-true, eq-eqb, eqb-true}
use Rattle.std.proofs.lemmas.List.Elements.{filter-append}
use Rattle.std.proofs.lemmas.List.Sorted.{Contains-permutation, IsPermutation-append, IsPermutation-append_comm}
use Rattle.std.proofs.lemmas.List.Sorted.{IsPermutation-refl, IsPermutation-sym, IsPermutation-trans}
use Rattle.std.proofs.lemmas.Map.Keys.{sorted_from_strictly_increasing}
use Rattle.qg_device.specs.History.{History}
use Rattle.qg_num.specs.declared.piece.Piece.{Piece}
use Rattle.qg_node.specs.declared.item.Item.{Item}
use Rattle.qg_node.specs.declared.node.Node.{Node}
use Rattle.qg_node.specs.Nodes.{header_of}
use Rattle.qg_items.specs.declared.root.RootItem.{RootItem}
use Rattle.qg_super.specs.Places.{is_slot}
use Rattle.qg_super.proofs.Served.{SizesFit-is_served}
use Rattle.qg_image.specs.Table.{keys_of}
use Rattle.qg_image.specs.State.{Committed, Placed, State}
use Rattle.qg_image.proofs.Contained.{contains_here, contains_later}
use Rattle.qg_space.proofs.Members.{contains_filter, filter_contains, one_passes, passes_one}
use Rattle.qg_machine.specs.Written.{is_held_by, new_nodes}
use Rattle.qg_owner_rule.proofs.Reaching.{entry_of_value, value_of_entry}
use Rattle.qg_image.specs.declared.quota.Quota.{Quota}
use Rattle.qg_refs.specs.declared.kept.Kept.{Kept}
use Rattle.qg_refs.specs.Book.{full_in}
use Rattle.qg_extents.specs.Table.{IsTable, book_of}
use Rattle.qg_blocks.specs.NodesFound.{fresh_at}
use Rattle.qg_tree_layout.specs.Row.{address_of}
use Rattle.qg_node_alloc.specs.Land.{IsDrafted}
use Rattle.qg_commit.specs.Types.{OtherTrees}
use Rattle.qg_commit.specs.Trees.{nodes_laid}
use Rattle.qg_reach.proofs.Members.{contains_map, one_mapped}
use Rattle.qg_shared_trees.specs.Types.{FsTree}
use Rattle.qg_shared_trees.specs.Standing.{IsSubvolume, Stands, nodes_of}
use Rattle.qg_shared_trees.proofs.Lying.{told-at}
use Rattle.qg_shared_trees.specs.Laying.{HoldsSlots, IsMet, IsMetAs, nodes_in}
use Rattle.qg_shared_trees.proofs.Moved.{fresh-told}
use Rattle.qg_shared_trees.proofs.Nodes.{nodes-ascend, reached-by, value-reached}
use Rattle.qg_shared_trees.proofs.Trees.{met-slot}
use Rattle.qg_commit.specs.HoldsAfter.{AreFree}
use Rattle.qg_commit.specs.Writing.{IsLaying, fresh_nodes, nodes_written}
use Rattle.qg_commit.proofs.Ascending.{Ascends, ascends-filter, ascends-sorted, same-ascending}
use Rattle.qg_commit.proofs.FreshNodes.{fresh-addresses, fresh-listed, fresh-there}
use Rattle.qg_commit.proofs.LaidNodes.{laid-within}
use Rattle.qg_commit.proofs.Subvolume.{fresh-AreWritable, fresh-reached, given-apart, met-held}

-- ---- what a commit holds

unheld : (before : Committed) (node : Node) → (Contains before.nodes (address_of node) → ⊥)
    → not (is_held_by before node) ≡ true
unheld before node none = elim (cases_Bool (is_held_by before node)) [
  | inl some ↦
      let found = one_passes (λ (address : ℕ). address == (header_of node).address) before.nodes some in
      let same = eqb-true found.0 (header_of node).address found.2 in
      absurd (none (subst (λ (n : ℕ). Contains before.nodes n) same found.1))
  | inr clear ↦ ap not clear
]

held_not : (before : Committed) (node : Node) → Contains before.nodes (address_of node)
    → not (is_held_by before node) ≡ true → ⊥
held_not before node has is =
    let some = passes_one (λ (address : ℕ). address == (header_of node).address) before.nodes (address_of node) has
    (eq-eqb (address_of node) (header_of node).address refl) in
    let wrong : not true ≡ true = ap not (sym some) ∙ is in
    absurd cc

filter_all : (test : Node → Bool) (nodes : List Node) → ((node : Node) → Contains nodes node → test node ≡ true)
    → filter test nodes ≡ nodes
filter_all test [] all = refl
filter_all test (node ∷ nodes) all =
    cond-true (test node) (node ∷ filter test nodes) (filter test nodes) (all node (contains_here node nodes))
    ∙ ap (λ (rest : List Node). node ∷ rest)
    (filter_all test nodes (λ later has. all later (contains_later node nodes later has)))

-- ---- nodes of a layout

abbrev layout_nodes : List (ℕ × Placed) → List Node
layout_nodes layout = map (λ entry. entry.1.node) layout

mapped_keys : (layout : List (ℕ × Placed))
    → ((entry : ℕ × Placed) → Contains layout entry → address_of entry.1.node ≡ entry.0)
    → map address_of (layout_nodes layout) ≡ keys_of layout
mapped_keys [] each = refl
mapped_keys (entry ∷ layout) each =
    ap (λ (n : ℕ). n ∷ map address_of (layout_nodes layout)) (each entry (contains_here entry layout))
    ∙ ap (λ (ns : List ℕ). entry.0 ∷ ns)
    (mapped_keys layout (λ later has. each later (contains_later entry layout later has)))

module _ (fs : FsTree) (history : History) (bytes : ℕ) (items : List Item) (names : List (ℕ × Piece))
    (roots : List (ℕ × RootItem)) (book : List (ℕ × Kept)) (quota : Option Quota) (generation : ℕ) (slots : List ℕ)
    (trees : OtherTrees) (old new : State) (subvolume : IsSubvolume fs history bytes)
    (stands : Stands fs history items names) (table : IsTable fs.refs.refs)
    (laying : IsLaying fs.land.space.sizes generation roots book quota slots fs.land.blocks.draft trees)
    (free : AreFree fs.land.space slots) (holds : HoldsSlots old fs.land.space.held_slots)
    (layout_is : new.layout ≡ nodes_in fs history) (others_are : IsPermutation new.held.others (nodes_laid trees)) where
  abbrev drafted : IsDrafted fs.land fs.tree.next
  drafted = subvolume.editable.drafted

  -- the node is none that the last commit holds
  abbrev is_new : Node → Bool
  is_new node = not (is_held_by old.held node)

  abbrev layout : List (ℕ × Placed)
  layout = nodes_in fs history

  abbrev fresh : List Node
  fresh = fresh_nodes fs.land.blocks.draft

  some_bytes : 0 < fs.land.space.sizes.nodesize
  some_bytes =
      let least = (SizesFit-is_served fs.land.space.sizes drafted.sizes.served).least in omega (arith, least)

  slots_met : (q : ℕ) → IsMet fs history q → IsTrue (is_slot fs.land.space.sizes q)
  slots_met q met = met-slot fs history bytes items names subvolume stands q met

  entry_reached : (entry : ℕ × Placed) → Contains layout entry → IsMetAs fs history entry.0 entry.1
  entry_reached entry has =
      reached-by fs history entry.0 entry.1
      (value_of_entry layout entry (nodes-ascend fs history some_bytes slots_met) has)

  entry_named : (entry : ℕ × Placed) → Contains layout entry → address_of entry.1.node ≡ entry.0
  entry_named entry has =
      (told-at fs.land history fs.tree.next drafted entry.0 entry.1.node (entry_reached entry has).told).placed

  -- a node of the layout that the last commit does not hold is fresh
  new_fresh : (node : Node) → Contains (filter is_new (layout_nodes layout)) node → Contains fresh node
  new_fresh node has =
      let parts = filter_contains is_new (layout_nodes layout) node has in
      let found = one_mapped (λ (entry : ℕ × Placed). entry.1.node) layout node parts.0 in
      let its = entry_reached found.0 found.1 in
      let named : address_of node ≡ found.0.0 = ap address_of (sym found.2) ∙ entry_named found.0 found.1 in
      from found.0.0 (fresh_at fs.land.blocks.draft found.0.0) refl its.met
      (its.told ∙ ap (λ (n : Node). Some n) found.2) named parts.1 where
        from : (q : ℕ) (o : Option Node) → fresh_at fs.land.blocks.draft q ≡ o → IsMet fs history q
            → nodes_of fs history q ≡ Some node → address_of node ≡ q → is_new node ≡ true → Contains fresh node
        from q (Some mine) is reached told named new_one =
            let same : Some mine ≡ Some node = sym (fresh-told fs.land history q mine is) ∙ told in
            let same' : mine ≡ node = cc in
            subst (λ (n : Node). Contains fresh n) same' (fresh-listed fs.land.blocks.draft laying.ascending q mine is)
        from q None none reached told named new_one =
            let has = met-held fs history bytes items names subvolume stands q reached none in
            let there = (holds q).0 has in
            absurd (held_not old.held node (subst (λ (n : ℕ). Contains old.held.nodes n) (sym named) there) new_one)

  -- and each fresh node is one of the layout, which the last commit does not hold
  fresh_new : (node : Node) → Contains fresh node → Contains (filter is_new (layout_nodes layout)) node
  fresh_new node has =
      let q = address_of node in
      let there = fresh-there fs.land.blocks.draft laying.ascending fs.land.space.sizes (fresh-AreWritable fs drafted)
      node has in
      let reached = fresh-reached fs history bytes items names subvolume stands table q node there in
      let placed : Placed = record { node = node; full = full_in (book_of fs.refs.refs q) } in
      let value = value-reached fs history some_bytes slots_met q placed
      (record { met = reached; told = fresh-told fs.land history q node there; full = refl }) in
      let entry = entry_of_value q placed layout value in
      let among = contains_map (λ (entry : ℕ × Placed). entry.1.node) layout (q, placed) entry in
      contains_filter is_new (layout_nodes layout) node among
      (unheld old.held node (λ held_there. (drafted.each q node there).apart ((holds q).1 held_there)))

  fresh_ascends : Ascends Node address_of fresh
  fresh_ascends =
      ascends-sorted Node address_of fresh
      (subst (IsStrictlySortedBy nat_cmp)
      (sym (fresh-addresses fs.land.blocks.draft laying.ascending fs.land.space.sizes (fresh-AreWritable fs drafted)))
      laying.ascending)

  layout_ascends : Ascends Node address_of (layout_nodes layout)
  layout_ascends =
      ascends-sorted Node address_of (layout_nodes layout)
      (subst (IsStrictlySortedBy nat_cmp) (sym (mapped_keys layout entry_named))
      (sorted_from_strictly_increasing (keys_of layout) (nodes-ascend fs history some_bytes slots_met)))

  -- so they are the same, in the same order
  new_same : filter is_new (layout_nodes layout) ≡ fresh
  new_same =
      same-ascending Node address_of (filter is_new (layout_nodes layout)) fresh
      (ascends-filter Node address_of is_new (layout_nodes layout) layout_ascends) fresh_ascends new_fresh fresh_new

  -- the last commit holds no node of the other trees
  others_new : filter is_new new.held.others ≡ new.held.others
  others_new = filter_all is_new new.held.others (λ node has.
      let other = Contains-permutation new.held.others (nodes_laid trees) node others_are has in
      let within = laid-within fs.land.space.sizes generation roots book quota slots trees laying.laid node
      other in
      unheld old.held node
      (λ held_there. given-apart fs slots free (address_of node) within ((holds (address_of node)).1 held_there)))

  abbrev both : List Node
  both = new.held.others ++ fresh

  new_are : new_nodes old.held new ≡ both
  unfolding new_nodes
  new_are =
      filter-append is_new new.held.others (layout_nodes new.layout)
      ∙ ap (λ (front : List Node). front ++ filter is_new (layout_nodes new.layout)) others_new
      ∙ ap (λ (table : List (ℕ × Placed)). new.held.others ++ filter is_new (layout_nodes table)) layout_is
      ∙ ap (λ (back : List Node). new.held.others ++ back) new_same

  turned : IsPermutation (nodes_written fs.land.blocks.draft trees) both
  turned =
      IsPermutation-trans (fresh ++ nodes_laid trees) (nodes_laid trees ++ fresh) both
      (IsPermutation-append_comm fresh (nodes_laid trees))
      (IsPermutation-append (nodes_laid trees) new.held.others fresh fresh
      (IsPermutation-sym new.held.others (nodes_laid trees) others_are) (IsPermutation-refl fresh))

  pub written-new : IsPermutation (nodes_written fs.land.blocks.draft trees) (new_nodes old.held new)
  written-new = subst (IsPermutation (nodes_written fs.land.blocks.draft trees)) (sym new_are) turned
