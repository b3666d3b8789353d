-- The ROOT_ITEMs of a state's subvolumes, by the trees that are kept of it and what their book knows of each root.
use Rattle.std.proofs.Common.{◌≡◌, ℕ, List, [], ◌∷◌, Option, Some, refl, sym, ap, subst, ◌∙◌}
use Rattle.std.specs.Prelude.{is_some}
use Rattle.std.specs.List.{AllByRecursion, Contains, cons_option, filter_map, flat_map}
use Rattle.std.specs.List.Sorted.{IsStrictlyIncreasing}
use Rattle.std.specs.Option.{option_map}
use Rattle.std.proofs.lemmas.Option.{same_Some}
use Rattle.qg_device.specs.History.{History}
use Rattle.qg_node.specs.declared.node.Node.{Node}
use Rattle.qg_node.specs.Nodes.{header_of}
use Rattle.qg_items.specs.declared.root.RootItem.{RootItem}
use Rattle.qg_image.specs.declared.file.File.{File}
use Rattle.qg_image.specs.Table.{keys_of, value_at}
use Rattle.qg_image.specs.Reach.{level_of}
use Rattle.qg_image.specs.State.{Placed, State, Subvolume, node_at}
use Rattle.qg_image.proofs.Contained.{contains_here, contains_later}
use Rattle.qg_owner_rule.proofs.Reaching.{value_of_entry}
use Rattle.qg_image.specs.OtherTrees.{root_item_of, subvolume_items}
use Rattle.qg_root_items.specs.Written.{items_of_file}
use Rattle.qg_refs.specs.declared.kept.What.{What}
use Rattle.qg_refs.specs.Book.{what_in}
use Rattle.qg_extents.specs.Table.{book_of}
use Rattle.qg_tree_read.specs.Tree.{Root}
use Rattle.qg_file_edits.specs.Named.{named}
use Rattle.qg_file_edits.specs.Settled.{what_of}
use Rattle.qg_file_edits.specs.Types.{FsTree}
use Rattle.qg_file_edits.specs.Standing.{Stands, trees_of}
use Rattle.qg_file_edits.proofs.Lists.{all-contained}
use Rattle.qg_file_edits.specs.Laying.{IsMet}
use Rattle.qg_file_edits.proofs.Nodes.{value-reached}
use Rattle.qg_file_edits.proofs.Roots.{HasRoot as HasTree}
use Rattle.qg_file_edits.proofs.Trees.{entry-there, met-slot, nodes-laid, root-level, root-reached, sized}
use Rattle.qg_file_edits.proofs.Trees.{subvolume-tree, value-subvolume}
use Rattle.qg_commit.specs.Telling.{HasRoot}
use Rattle.qg_fs_laws.specs.Keeping.{IsKept, KeepsState}
use Rattle.qg_fs_laws.proofs.Kept.{counted, stands}
use Rattle.qg_fs_laws.proofs.Numbers.{numbers-ascend}
use Rattle.qg_fs_laws.specs.Committing.{AreRootsNow, root_made}
use Rattle.qg_fs_laws.proofs.Said.{first-is, none-some, rest-is, some-none}

-- ---- tables of the same numbers

-- what is made of a table is another of the same numbers, where each entry makes the other's of its number
made_same : {A B : Type 0} (make : ℕ × A → Option (ℕ × B)) (table : List (ℕ × A)) (made : List (ℕ × B))
    → keys_of made ≡ keys_of table
    → ((entry : ℕ × A) (other : ℕ × B) → Contains table entry → Contains made other → other.0 ≡ entry.0
    → make entry ≡ Some other)
    → filter_map make table ≡ made
made_same make [] [] numbers each = refl
made_same make [] (other ∷ made) numbers each = absurd (some-none other.0 (keys_of made) numbers)
made_same make (entry ∷ table) [] numbers each = absurd (none-some entry.0 (keys_of table) numbers)
made_same {A} {B} make (entry ∷ table) (other ∷ made) numbers each =
    let same = first-is other.0 entry.0 (keys_of made) (keys_of table) numbers in
    let later = rest-is other.0 entry.0 (keys_of made) (keys_of table) numbers in
    ap (λ (o : Option (ℕ × B)). cons_option o (filter_map make table))
    (each entry other (contains_here entry table) (contains_here other made) same)
    ∙ ap (λ (rest : List (ℕ × B)). other ∷ rest)
    (made_same make table made later
    (λ e o has has_other is. each e o (contains_later entry table e has) (contains_later other made o has_other) is))

-- ---- the trees

-- a subvolume's ROOT_ITEM with its number, if its root node stands in the layout
abbrev item_of : State → ℕ × Subvolume → Option (ℕ × RootItem)
item_of state entry =
    option_map (λ (root : Node). (entry.0, root_item_of entry.1 root)) (node_at state.layout entry.1.root)

item_made : (entry : ℕ × Subvolume) (other : ℕ × RootItem) (there : Option Placed) (placed : Placed)
    → there ≡ Some placed → other.0 ≡ entry.0 → root_item_of entry.1 placed.node ≡ other.1
    → option_map (λ (root : Node). (entry.0, root_item_of entry.1 root)) (option_map (λ (p : Placed). p.node) there)
    ≡ Some other
item_made entry other there placed is same item =
    ap (λ (o : Option Placed). option_map (λ (root : Node). (entry.0, root_item_of entry.1 root))
    (option_map (λ (p : Placed). p.node) o)) is
    ∙ (λ i. Some (sym same i, item i))

module _ (fs : FsTree) (history : History) (bytes : ℕ) (state : State) (mine : Subvolume)
    (files : List (ℕ × File)) (kept : IsKept fs history bytes) (keeps : KeepsState fs history state mine files) where
  stood : Stands fs history (flat_map items_of_file files) (named files)
  stood = stands fs history bytes state mine files kept keeps

  -- a subvolume's tree
  tree_there : (entry : ℕ × Subvolume) → Contains state.subvolumes entry → HasTree fs entry.0 entry.1.root
  tree_there entry has =
      subvolume-tree fs history bytes (flat_map items_of_file files) (named files) kept.subvolume stood state keeps.laid
      entry.0 entry.1
      (value-subvolume fs history bytes (flat_map items_of_file files) (named files) kept.subvolume stood state
      keeps.laid entry has)

  -- a tree's root has its entry in the state's layout
  root_placed : (tree : Root) → Contains (trees_of fs) tree
      → (placed : Placed) × (value_at tree.address state.layout ≡ Some placed)
  root_placed tree among =
      let met : IsMet fs history tree.address = record {
        tree = tree;
        among = among;
        reached = root-reached fs history bytes (flat_map items_of_file files) (named files) kept.subvolume stood tree;
      } in
      let entry = entry-there fs history bytes (flat_map items_of_file files) (named files) kept.subvolume stood
      tree.address met in
      let value : value_at tree.address state.layout ≡ Some entry.0 =
      ap (λ (table : List (ℕ × Placed)). value_at tree.address table)
      (nodes-laid fs history bytes (flat_map items_of_file files) (named files) kept.subvolume stood state keeps.laid)
      ∙ value-reached fs history
      (sized fs history bytes (flat_map items_of_file files) (named files) kept.subvolume stood)
      (met-slot fs history bytes (flat_map items_of_file files) (named files) kept.subvolume stood)
      tree.address entry.0 entry.1 in
      (entry.0, value)

  -- its ROOT_ITEM, by what the book knows of it
  item_is : (tree : Root) → Contains (trees_of fs) tree → (subvolume : Subvolume) → subvolume.root ≡ tree.address
      → (placed : Placed) → value_at tree.address state.layout ≡ Some placed → (what : What)
      → what_in (book_of fs.refs.refs tree.address) ≡ Some what
      → root_item_of subvolume placed.node ≡ root_made tree subvolume.last_snapshot what.generation
  item_is tree among subvolume lies placed there what known =
      let own = what_of fs.land.space.sizes.nodesize (header_of placed.node).generation placed.node in
      let told = (counted fs history bytes state mine files kept keeps).nodes tree.address placed there in
      let dated = ap (λ (w : What). w.generation) (same_Some own what (sym told ∙ known)) in
      let here = ap (option_map (λ (p : Placed). p.node)) there in
      let levelled = sym (ap level_of here)
      ∙ root-level fs history bytes (flat_map items_of_file files) (named files) kept.subvolume stood state keeps.laid
      tree among in
      λ i. record {
        generation = dated i;
        bytenr = lies i;
        last_snapshot = subvolume.last_snapshot;
        refs = 1;
        level = levelled i;
      }

  node_there : (entry : ℕ × Subvolume) → Contains state.subvolumes entry
      → (placed : Placed) × (value_at entry.1.root state.layout ≡ Some placed)
  node_there entry has =
      let own = tree_there entry has in
      subst (λ (at : ℕ). (placed : Placed) × (value_at at state.layout ≡ Some placed)) own.root_is
      (root_placed own.tree own.among)

  pub have-roots : AllByRecursion (HasRoot state.layout) state.subvolumes
  have-roots = all-contained (HasRoot state.layout) state.subvolumes (λ entry has.
      ap (λ (o : Option Placed). is_some (option_map (λ (p : Placed). p.node) o)) (node_there entry has).1)

  module _ (roots : List (ℕ × RootItem)) (now : AreRootsNow fs state roots) where
    roots_up : IsStrictlyIncreasing (keys_of roots)
    roots_up = subst (λ (ns : List ℕ). IsStrictlyIncreasing ns) (sym now.numbers)
        (numbers-ascend fs history bytes state mine files kept keeps)

    -- the ROOT_ITEM of a subvolume is the one of its number
    own_item : (entry : ℕ × Subvolume) (other : ℕ × RootItem) → Contains state.subvolumes entry → Contains roots other
        → other.0 ≡ entry.0 → (own : HasTree fs entry.0 entry.1.root) (placed : Placed)
        → value_at own.tree.address state.layout ≡ Some placed → root_item_of entry.1 placed.node ≡ other.1
    own_item entry other has has_root same own placed there =
        let listed = value-subvolume fs history bytes (flat_map items_of_file files) (named files) kept.subvolume stood
        state keeps.laid entry has in
        let owner = own.number_is in
        let of_tree : value_at own.tree.owner state.subvolumes ≡ Some entry.1 =
        ap (λ (n : ℕ). value_at n state.subvolumes) owner ∙ listed in
        let root_listed : value_at own.tree.owner roots ≡ Some other.1 =
        ap (λ (n : ℕ). value_at n roots) (owner ∙ sym same) ∙ value_of_entry roots other roots_up has_root in
        let its = now.each own.tree entry.1 other.1 own.among of_tree root_listed in
        item_is own.tree own.among entry.1 (sym own.root_is) placed there its.what its.known ∙ sym its.root_is

    one_root : (entry : ℕ × Subvolume) (other : ℕ × RootItem) → Contains state.subvolumes entry → Contains roots other
        → other.0 ≡ entry.0 → item_of state entry ≡ Some other
    one_root entry other has has_root same =
        let own = tree_there entry has in
        let placed = root_placed own.tree own.among in
        let here : value_at entry.1.root state.layout ≡ Some placed.0 =
        ap (λ (at : ℕ). value_at at state.layout) (sym own.root_is) ∙ placed.1 in
        item_made entry other (value_at entry.1.root state.layout) placed.0 here same
        (own_item entry other has has_root same own placed.0 placed.1)

    pub roots-are : subvolume_items state ≡ roots
    unfolding subvolume_items
    roots-are = made_same (item_of state) state.subvolumes roots now.numbers one_root
