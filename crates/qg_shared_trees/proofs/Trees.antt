-- Trees that stand are the trees of subvolumes in a state.
use Rattle.std.proofs.Common.{◌≡◌, ◌≢◌, ℕ, ◌<◌, ◌≤◌, Bool, true, false, List, [], ◌∷◌, map, Option, Some, None, arith}
use Rattle.std.proofs.Common.{refl, sym, ap, subst, ◌∙◌, inl, inr}
use Rattle.std.specs.Prelude.{◌&&◌, IsTrue}
use Rattle.std.specs.Bool.{then_some}
use Rattle.std.specs.List.{AllByRecursion, Contains, list_all}
use Rattle.std.specs.List.Sorted.{IsStrictlyIncreasing}
use Rattle.std.specs.Option.{option_map}
use Rattle.qg_device.specs.History.{History}
use Rattle.qg_num.specs.declared.piece.Piece.{Piece}
use Rattle.qg_node.specs.declared.item.Item.{Item}
use Rattle.qg_node.specs.declared.node.Node.{Node}
use Rattle.qg_node.specs.Nodes.{header_of}
use Rattle.qg_super.specs.declared.sizes.Sizes.{Sizes}
use Rattle.qg_super.specs.Places.{is_slot}
use Rattle.qg_image.specs.declared.file.File.{File}
use Rattle.qg_image.specs.FilesOf.{are_files, file_parts, files_in, files_of, is_file_item, AreItemsOfFiles}
use Rattle.qg_image.specs.Table.{keys_of, value_at}
use Rattle.qg_image.specs.declared.tree.TreeKind.TheVariants.{Files}
use Rattle.qg_image.specs.ItemsUnder.{items_under}
use Rattle.qg_image.specs.Walk.{deepest, is_item_of, node_failure, root_expected, walk_failure}
use Rattle.qg_machine.specs.Layout.{IsTreeOf, found_in, super_to_come}
use Rattle.qg_image.specs.Reach.{level_of}
use Rattle.qg_image.specs.State.{Layout, Placed, State, Subvolume, layout_of, next_generation, node_at}
use Rattle.qg_image.proofs.Contained.{contains_cases}
use Rattle.qg_owner_rule.proofs.Reaching.{value_of_entry}
use Rattle.qg_space.proofs.Marks.{SlotsFit-is_served}
use Rattle.qg_node_alloc.specs.Land.{IsDrafted}
use Rattle.qg_refs.specs.Book.{full_in}
use Rattle.qg_extents.specs.Table.{book_of}
use Rattle.qg_shared_trees.specs.Branch.{IsBranch}
use Rattle.qg_shared_trees.specs.Tree.{IsTree, Root, TellsTree, super_of}
use Rattle.qg_shared_trees.proofs.BranchFrames.{reach-top}
use Rattle.qg_shared_trees.proofs.BranchWalk.{branch-under}
use Rattle.qg_shared_trees.proofs.Branches.{branch-top}
use Rattle.qg_shared_trees.proofs.Frames.{IsTree-same}
use Rattle.qg_shared_trees.proofs.Meeting.{root-valued}
use Rattle.qg_shared_trees.proofs.Snapshotted.{root_entry}
use Rattle.qg_fs_tree.specs.declared.fs_tree.FsTree.{FsTree}
use Rattle.qg_fs_tree.specs.Standing.{IsReachedBy, IsSubvolume, Stands, items_in, layout_in, nodes_of, roots_of}
use Rattle.qg_fs_tree.specs.Standing.{trees_of}
use Rattle.qg_fs_tree.proofs.Before as standing
use Rattle.qg_fs_tree.proofs.Counts.{node-there}
use Rattle.qg_fs_tree.proofs.Lists.{all-contained}
use Rattle.qg_fs_tree.proofs.Lying.{told-at}
use Rattle.qg_shared_trees.specs.Laying.{HaveFiles, IsLaidOut, IsMet, IsMetAs, nodes_in}
use Rattle.qg_shared_trees.proofs.Nodes.{value-reached}
use Rattle.qg_shared_trees.proofs.Roots.{HasRoot, root-tree, roots-ascend, tree-root}
use Rattle.qg_shared_trees.proofs.Walks.{tree-items, tree-walked}

-- ---- items of files

passed : {A : Type 0} (a b : Bool) (x y : A) → then_some (a && b) x ≡ Some y → a ≡ true
passed true b x y is = refl
passed false b x y is = absurd cc

pub items-of-files : (generation : ℕ) (items : List Item) (files : List (ℕ × File))
    → AreItemsOfFiles generation items files → list_all (is_item_of Files generation) items ≡ true
unfolding files_of is_item_of
items-of-files generation items files is =
    passed (list_all (is_file_item generation) items) (are_files (file_parts items)) (files_in (file_parts items)) files
    is

-- numbers with their roots have the numbers that they had
keys_same : (table : List (ℕ × Subvolume)) → keys_of (map root_entry table) ≡ keys_of table
keys_same [] = refl
keys_same (entry ∷ table) = ap (λ (ns : List ℕ). entry.0 ∷ ns) (keys_same table)

module _ (fs : FsTree) (history : History) (bytes : ℕ) (items : List Item) (names : List (ℕ × Piece))
    (subvolume : IsSubvolume fs history bytes) (stands : Stands fs history items names) where
  pub drafted : IsDrafted fs.land fs.tree.next
  drafted = subvolume.editable.drafted

  pub sized : 0 < fs.land.space.sizes.nodesize
  sized = (SlotsFit-is_served fs.land.space.sizes drafted.sizes.served).some

  -- ---- each tree

  pub numbers-apart : (other : Root) → Contains fs.others.items other → other.owner ≢ fs.tree.owner
  numbers-apart other has = (standing.other_stands fs history items names stands drafted other has).number

  own_tree : standing.IsTreeOf fs history fs.tree
  own_tree = record { items = items; rooted = stands.rooted; drafted = drafted }

  pub tree-stands : (tree : Root) → Contains (trees_of fs) tree → standing.IsTreeOf fs history tree
  tree-stands tree has = elim (contains_cases fs.tree fs.others.items tree has) [
    | inl same ↦ subst (λ (t : Root). standing.IsTreeOf fs history t) same own_tree
    | inr later ↦ standing.other-tree fs history items names stands drafted tree later
  ]

  pub next-same : (tree : Root) → Contains (trees_of fs) tree → tree.next ≡ fs.tree.next
  next-same tree has = elim (contains_cases fs.tree fs.others.items tree has) [
    | inl same ↦ ap (λ (t : Root). t.next) (sym same)
    | inr later ↦ (standing.other_stands fs history items names stands drafted tree later).next
  ]

  items_told : (tree : Root) (own : List Item) → TellsTree Files tree fs.land.blocks.draft history own
      → items_in fs history tree ≡ own
  items_told tree own tells = rw tells.items_are refl

  pub items-at_hand : items_in fs history fs.tree ≡ items
  items-at_hand = items_told fs.tree items stands.rooted.tells

  -- it has its items
  pub tree-told : (tree : Root) → Contains (trees_of fs) tree
      → TellsTree Files tree fs.land.blocks.draft history (items_in fs history tree)
  tree-told tree has =
      let own = tree-stands tree has in
      subst (λ (xs : List Item). TellsTree Files tree fs.land.blocks.draft history xs)
      (sym (items_told tree own.items own.rooted.tells)) own.rooted.tells

  pub branch : (tree : Root) → Contains (trees_of fs) tree
      → IsBranch Files (super_of tree fs.land.blocks.draft) (nodes_of fs history) tree.height tree.address
      (items_in fs history tree)
  branch tree has =
      let told = tree-told tree has in
      branch-under Files (super_of tree fs.land.blocks.draft) (nodes_of fs history) tree.height
      (root_expected (Some tree.height) None) tree.address (items_in fs history tree)
      (record { levelled = refl; walked = told.walked; items_are = told.items_are })

  pub root-there : (tree : Root) → Contains (trees_of fs) tree
      → (node : Node) × (nodes_of fs history tree.address ≡ Some node) × ((header_of node).level ≡ tree.height)
  root-there tree has = branch-top Files (super_of tree fs.land.blocks.draft) (nodes_of fs history) tree.height
      tree.address (items_in fs history tree) (branch tree has)

  pub height-low : (tree : Root) → Contains (trees_of fs) tree → tree.height ≤ 7
  height-low tree has =
      let root = root-there tree has in
      let low = (told-at fs.land history fs.tree.next drafted tree.address root.0 root.1).level in
      let is = root.2 in
      omega (arith, low, is)

  pub root-reached : (tree : Root) → IsReachedBy fs history tree tree.address
  root-reached tree = reach-top (nodes_of fs history) tree.height tree.address

  -- ---- what is met

  pub met-slot : (q : ℕ) → IsMet fs history q → IsTrue (is_slot fs.land.space.sizes q)
  met-slot q met = stands.placed met.tree q met.among met.reached

  -- each address that some tree reaches has its entry
  pub entry-there : (q : ℕ) → IsMet fs history q → (placed : Placed) × IsMetAs fs history q placed
  entry-there q met =
      let own = tree-stands met.tree met.among in
      let node = node-there fs history met.tree own.items own.rooted own.drafted q met.reached in (
        record { node = node.0; full = full_in (book_of fs.refs.refs q) },
        record { met = met; told = node.1; full = refl },
      )

  pub found-there : (q : ℕ) → IsMet fs history q → node_at (nodes_in fs history) q ≡ nodes_of fs history q
  found-there q met =
      let entry = entry-there q met in
      ap (option_map (λ (placed : Placed). placed.node))
      (value-reached fs history sized met-slot q entry.0 entry.1) ∙ sym entry.1.told

  -- ---- the state

  module _ (state : State) (laid : IsLaidOut state fs history) where
    pub nodes-laid : state.layout ≡ nodes_in fs history
    nodes-laid = ap (λ (layout : Layout). layout.nodes) laid.layout

    pub roots-laid : (layout_of state).roots ≡ roots_of fs
    unfolding layout_in
    roots-laid = ap (λ (layout : Layout). layout.roots) laid.layout

    pub laid-there : (q : ℕ) → IsMet fs history q → node_at state.layout q ≡ nodes_of fs history q
    laid-there q met = ap (λ (layout : List (ℕ × Placed)). node_at layout q) nodes-laid ∙ found-there q met

    -- subvolumes ascend by number
    subvolumes_up : IsStrictlyIncreasing (keys_of state.subvolumes)
    subvolumes_up = subst (λ (ns : List ℕ). IsStrictlyIncreasing ns)
        (ap (λ (table : List (ℕ × ℕ)). keys_of table) (sym roots-laid) ∙ keys_same state.subvolumes)
        (roots-ascend fs stands.ascending numbers-apart)

    pub value-subvolume : (entry : ℕ × Subvolume) → Contains state.subvolumes entry
        → value_at entry.0 state.subvolumes ≡ Some entry.1
    value-subvolume entry has = value_of_entry state.subvolumes entry subvolumes_up has

    -- each has a tree
    pub subvolume-tree : (number : ℕ) (mine : Subvolume) → value_at number state.subvolumes ≡ Some mine
        → HasRoot fs number mine.root
    subvolume-tree number mine there =
        root-tree fs stands.ascending numbers-apart number mine.root
        (ap (λ (table : List (ℕ × ℕ)). value_at number table) (sym roots-laid)
        ∙ root-valued number state.subvolumes
        ∙ ap (λ (o : Option Subvolume). option_map (λ (s : Subvolume). s.root) o) there)

    -- and each tree is one's
    pub tree-value : (tree : Root) → Contains (trees_of fs) tree
        → value_at tree.owner (layout_of state).roots ≡ Some tree.address
    tree-value tree has =
        ap (λ (table : List (ℕ × ℕ)). value_at tree.owner table) roots-laid
        ∙ tree-root fs stands.ascending numbers-apart tree has

    rooted_of : (o : Option Subvolume) (root : ℕ) → option_map (λ (s : Subvolume). s.root) o ≡ Some root
        → (mine : Subvolume) × (o ≡ Some mine) × (mine.root ≡ root)
    rooted_of None root is = let wrong : ◌≡◌ {A = Option ℕ} None (Some root) = is in absurd cc
    rooted_of (Some mine) root is =
        (mine, refl, let e : ◌≡◌ {A = Option ℕ} (Some mine.root) (Some root) = is in cc)

    pub tree-subvolume : (tree : Root) → Contains (trees_of fs) tree
        → (mine : Subvolume) × (value_at tree.owner state.subvolumes ≡ Some mine) × (mine.root ≡ tree.address)
    tree-subvolume tree has =
        rooted_of (value_at tree.owner state.subvolumes) tree.address
        (sym (root-valued tree.owner state.subvolumes) ∙ tree-value tree has)

    size_is : (tree : Root) → (super_to_come state).nodesize ≡ (super_of tree fs.land.blocks.draft).nodesize
    size_is tree = ap (λ (sizes : Sizes). sizes.nodesize) laid.sizes ∙ sym drafted.sizes.nodesize

    module _ (tree : Root) (has : Contains (trees_of fs) tree) where
      stands_there : IsTree Files (super_of tree fs.land.blocks.draft) (node_at state.layout) tree.height
          tree.address (items_in fs history tree)
      stands_there = IsTree-same Files (super_of tree fs.land.blocks.draft) (nodes_of fs history)
          (node_at state.layout) tree.height tree.address (items_in fs history tree) (tree-told tree has)
          (λ q reached. laid-there q (record { tree = tree; among = has; reached = reached }))

      pub root-level : level_of (node_at state.layout tree.address) ≡ tree.height
      root-level =
          let root = root-there tree has in
          ap level_of (laid-there tree.address
          (record { tree = tree; among = has; reached = root-reached tree }) ∙ root.1) ∙ root.2

      dated_so : next_generation state ≡ tree.next
      dated_so = laid.generation ∙ sym (next-same tree has)

      module _ (mine : Subvolume) (files : AreItemsOfFiles fs.tree.next (items_in fs history tree) mine.files) where
        files_here : AreItemsOfFiles (next_generation state) (items_in fs history tree) mine.files
        files_here = ap (λ (n : ℕ). files_of n (items_in fs history tree)) laid.generation ∙ files

        each_item : list_all (is_item_of Files (next_generation state)) (items_in fs history tree) ≡ true
        each_item = items-of-files (next_generation state) (items_in fs history tree) mine.files files_here

        walked_there : walk_failure (node_failure Files (super_to_come state)) (found_in state.layout) deepest
            (root_expected None None) tree.address ≡ None
        walked_there = tree-walked Files (super_of tree fs.land.blocks.draft) (super_to_come state) dated_so
            (size_is tree) (node_at state.layout) tree.height tree.address (items_in fs history tree)
            (height-low tree has) stands_there each_item

        items_there : items_under Files (super_to_come state) (found_in state.layout) tree.height
            (root_expected None None) tree.address ≡ Some (items_in fs history tree)
        items_there = tree-items Files (super_of tree fs.land.blocks.draft) (super_to_come state) dated_so
            (size_is tree) (node_at state.layout) tree.height tree.address (items_in fs history tree)
            (height-low tree has) stands_there each_item

        items_at_root : items_under Files (super_to_come state) (found_in state.layout)
            (level_of (node_at state.layout tree.address)) (root_expected None None) tree.address
            ≡ Some (items_in fs history tree)
        items_at_root =
            ap (λ (n : ℕ). items_under Files (super_to_come state) (found_in state.layout) n
            (root_expected None None) tree.address) root-level
            ∙ items_there

        pub IsTreeOf-laid : tree.address ≡ mine.root → IsTreeOf state mine
        IsTreeOf-laid root = record {
          items = items_in fs history tree;
          walked = subst (λ (at : ℕ). walk_failure (node_failure Files (super_to_come state))
              (found_in state.layout) deepest (root_expected None None) at ≡ None) root walked_there;
          under = subst (λ (at : ℕ). items_under Files (super_to_come state) (found_in state.layout)
              (level_of (node_at state.layout at)) (root_expected None None) at ≡ Some (items_in fs history tree)) root
              items_at_root;
          files = files_here;
        }

    -- each subvolume has its tree
    each_laid : HaveFiles state fs history → (entry : ℕ × Subvolume) → Contains state.subvolumes entry
        → IsTreeOf state entry.1
    each_laid files entry has =
        let there = value-subvolume entry has in
        let root = subvolume-tree entry.0 entry.1 there in
        let own = subst (λ (n : ℕ). value_at n state.subvolumes ≡ Some entry.1) (sym root.number_is) there in
        IsTreeOf-laid root.tree root.among entry.1 (files root.tree entry.1 root.among own) root.root_is

    pub trees-laid : HaveFiles state fs history → AllByRecursion (λ entry. IsTreeOf state entry.1) state.subvolumes
    trees-laid files =
        all-contained (λ (entry : ℕ × Subvolume). IsTreeOf state entry.1) state.subvolumes (each_laid files)

-- as the laws say it
pub heights-low : (fs : FsTree) (history : History) (bytes : ℕ) (items : List Item)
    (names : List (ℕ × Piece)) → IsSubvolume fs history bytes → Stands fs history items names
    → (tree : Root) → Contains (trees_of fs) tree → tree.height ≤ deepest
heights-low fs history bytes items names subvolume stands tree has =
    height-low fs history bytes items names subvolume stands tree has

pub trees-walked : (fs : FsTree) (history : History) (bytes : ℕ) (items : List Item)
    (names : List (ℕ × Piece)) (state : State)
    → IsSubvolume fs history bytes → Stands fs history items names → IsLaidOut state fs history
    → HaveFiles state fs history → AllByRecursion (λ entry. IsTreeOf state entry.1) state.subvolumes
trees-walked fs history bytes items names state subvolume stands laid files =
    trees-laid fs history bytes items names subvolume stands state laid files
