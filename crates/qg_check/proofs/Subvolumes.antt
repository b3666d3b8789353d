-- What the trees of subvolumes hold, where they keep all rules.
use Rattle.std.proofs.Common.{◌≡◌, ℕ, Bool, true, false, List, [], ◌∷◌, ◌++◌, map, refl, sym, ap, subst, ◌∙◌, inl, inr}
use Rattle.std.specs.Prelude.{All, Option, Some, None, is_some, unwrap_or}
use Rattle.std.specs.List.{AllByRecursion, Contains, cons_option, flat_map, list_all}
use Rattle.std.specs.Option.{option_map}
use Rattle.std.proofs.lemmas.Bool.{and_from, and_parts}
use Rattle.std.proofs.lemmas.List.Folds.{list_all-append}
use Rattle.qg_num.specs.Fields.{IsBytes}
use Rattle.qg_num.specs.declared.rule.Rule.TheVariants as rule
use Rattle.qg_node.specs.declared.item.Item.{Item}
use Rattle.qg_node.specs.declared.node.Node.{Node}
use Rattle.qg_node.specs.Nodes.{own_items}
use Rattle.qg_items.specs.declared.root.RootItem.{RootItem}
use Rattle.qg_super.specs.declared.superblock.Super.{Super}
use Rattle.qg_image.specs.Below.{nodes_below}
use Rattle.qg_image.specs.declared.file.File.{File}
use Rattle.qg_image.specs.declared.part.FilePart.{FilePart}
use Rattle.qg_image.specs.FilesOf.{are_files, file_parts, files_in, AreItemsOfFiles}
use Rattle.qg_image.specs.ItemMeaning.{file_part, when}
use Rattle.qg_tree_items.specs.PartsSaid.{file_said}
use Rattle.qg_image.specs.declared.element.Element.{Element}
use Rattle.qg_image.specs.Reach.{extent_of, pieces_of}
use Rattle.qg_image.specs.Space.{present_extents}
use Rattle.qg_image.specs.State.{Subvolume}
use Rattle.qg_image.proofs.Contained.{contains_cases, contains_here, contains_later, none_contained}
use Rattle.qg_image.specs.declared.failure.Failure.{Failure}
use Rattle.qg_image.specs.declared.tree.TreeKind.TheVariants.{Files}
use Rattle.qg_image.specs.Failure.{first_failure, unless}
use Rattle.qg_image.specs.ItemsUnder.{is_way, items_under, nodes_of}
use Rattle.qg_image.specs.ImageState.{items_of_root, level_in, nodes_of_root, roots_in, state_in, subvolume_in}
use Rattle.qg_image.specs.ImageState.{subvolume_roots, subvolumes_in, tree_items}
use Rattle.qg_image.specs.Verdict.{subvolume_failure}
use Rattle.qg_image.specs.Walk.{is_item_of, node_found, root_told, tree_failure}
use Rattle.qg_walk.proofs.Failures.{kept-none, neither}
use Rattle.qg_reach.specs.Sets.{HaveSame}
use Rattle.qg_reach.proofs.Members.{contains_flat_map, one_flat_mapped}
use Rattle.qg_shared_walk.specs.declared.nodes.NodesRead.{NodesRead}
use Rattle.qg_shared_walk.proofs.Apart.{tree_branch, tree_under}
use Rattle.qg_check.specs.IsImage.{IsSubvolumeOf}
use Rattle.qg_check.specs.Trees.{AreFileTrees}
use Rattle.qg_check.proofs.Found.{items_below-is}
use Rattle.qg_check.proofs.ItemsOfFiles.{files_of_held}
use Rattle.qg_check.proofs.Pieces.{pieces_same}

-- ---- lists

-- where the first failure of all is none, each has none
pub none_of_all : {A : Type 0} (fails : A → Option Failure) (xs : List A) → first_failure (map fails xs) ≡ None
    → (x : A) → Contains xs x → fails x ≡ None
none_of_all fails [] none x has = absurd (none_contained x has)
none_of_all fails (y ∷ ys) none x has =
    let split = parts (fails y) (first_failure (map fails ys)) (in_parts (fails y) (map fails ys) ∙ none) in
    elim (contains_cases y ys x has) [
      | inl is ↦ subst (λ z. fails z ≡ None) is split.0
      | inr later ↦ none_of_all fails ys split.1 x later
    ]
  where
    parts : (a b : Option Failure) → first_failure (a ∷ b ∷ []) ≡ None → (a ≡ None) × (b ≡ None)
    parts a b none' = neither a b none'

    in_parts : (a : Option Failure) (rest : List (Option Failure))
        → first_failure (a ∷ first_failure rest ∷ []) ≡ first_failure (a ∷ rest)
    in_parts (Some a) rest = refl
    in_parts None rest = alone (first_failure rest) where
      alone : (a : Option Failure) → first_failure (a ∷ []) ≡ a
      alone (Some a) = refl
      alone None = refl

-- what holds of each holds of all
pub all_of : {A : Type 0} (P : A → Type 0) (xs : List A) → ((x : A) → Contains xs x → P x) → AllByRecursion P xs
all_of P [] each = tt
all_of P (x ∷ xs) each = (each x (contains_here x xs), all_of P xs (λ y has. each y (contains_later x xs y has)))

all_in : {A B : Type 0} (test : B → Bool) (f : A → List B) (xs : List A)
    → ((x : A) → Contains xs x → list_all test (f x) ≡ true) → list_all test (flat_map f xs) ≡ true
all_in test f [] each = refl
all_in test f (x ∷ xs) each =
    list_all-append test (f x) (flat_map f xs)
    ∙ and_from (list_all test (f x)) (list_all test (flat_map f xs)) (each x (contains_here x xs))
    (all_in test f xs (λ y has. each y (contains_later x xs y has)))

-- ---- the items of a tree

when_true : {A : Type 0} (test : Bool) (given : Option A) (x : A) → when test given ≡ Some x
    → (test ≡ true) × (given ≡ Some x)
when_true true given x is = (refl, is)
when_true false given x is = absurd cc

tree_items-are : (super : Super) (image : List ℕ) (root : RootItem) (items : List Item)
    → items_under Files super (node_found super image) (level_in super image root.bytenr) (root_told root) root.bytenr
    ≡ Some items
    → items_of_root Files super image root ≡ items
unfolding tree_items
tree_items-are super image root items is = rw is refl

-- each item of a subvolume's tree tells something
all_tell : (generation : ℕ) (items : List Item) → list_all (is_item_of Files generation) items ≡ true
    → map file_part items ≡ map (λ part. Some part) (file_parts items)
all_tell generation [] held = refl
all_tell generation (item ∷ items) held =
    let split = and_parts (is_item_of Files generation item) (list_all (is_item_of Files generation) items) held in
    one (file_part item) (file_said generation item split.0) (all_tell generation items split.1)
  where
    one : (told : Option FilePart) → is_some told ≡ true
        → map file_part items ≡ map (λ part. Some part) (file_parts items)
        → told ∷ map file_part items ≡ map (λ part. Some part) (cons_option told (file_parts items))
    one None some rest = absurd cc
    one (Some part) some rest = ap (λ (list : List (Option FilePart)). Some part ∷ list) rest

-- ---- one subvolume

module _ (super : Super) (image : List ℕ) (root : RootItem) (kept : subvolume_failure super image root ≡ None) where
  parts : (tree_failure Files super image (root_told root) root.bytenr ≡ None)
      × (unless (are_files (file_parts (items_of_root Files super image root))) rule.File root.bytenr ≡ None)
  parts = neither (tree_failure Files super image (root_told root) root.bytenr)
      (unless (are_files (file_parts (items_of_root Files super image root))) rule.File root.bytenr) kept

  pub tree_kept : tree_failure Files super image (root_told root) root.bytenr ≡ None
  tree_kept = parts.0

  files_kept : are_files (file_parts (items_of_root Files super image root)) ≡ true
  files_kept = kept-none (are_files (file_parts (items_of_root Files super image root))) rule.File root.bytenr parts.1

  items_are : items_of_root Files super image root ≡ flat_map own_items (nodes_of_root Files super image root)
  items_are =
      let found = nodes_of (node_found super image) in
      let level = level_in super image root.bytenr in
      let nodes = nodes_of_root Files super image root in
      let under = when_true (is_way Files super (node_found super image) (root_told root) root.bytenr)
      (nodes_below found level root.bytenr) nodes
      (tree_under Files super image (root_told root) root.bytenr tree_kept) in
      let below = items_below-is found level root.bytenr ∙ ap (option_map (flat_map own_items)) under.1 in
      tree_items-are super image root (flat_map own_items nodes) (rw under.0 below)

  held : list_all (is_item_of Files super.generation) (items_of_root Files super image root) ≡ true
  held =
      let nodes = nodes_of_root Files super image root in
      let branch = tree_branch Files super image (root_told root) root.bytenr nodes tree_kept
      (tree_under Files super image (root_told root) root.bytenr tree_kept) in
      ap (list_all (is_item_of Files super.generation)) items_are
      ∙ all_in (is_item_of Files super.generation) own_items nodes (λ node has. (branch.reached.each node has).held)

  files_are : AreItemsOfFiles super.generation (items_of_root Files super image root)
      (files_in (file_parts (items_of_root Files super image root)))
  files_are =
      let items = items_of_root Files super image root in
      files_of_held super.generation items (file_parts items) (files_in (file_parts items)) held refl
      (record { are = files_kept; is = refl })

  pub is_subvolume : All (λ item. IsBytes item.body) (items_of_root Files super image root)
      → IsSubvolumeOf super image root
  is_subvolume bytes = record {
    files = files_in (file_parts (items_of_root Files super image root));
    told = files_are;
    bodies = bytes;
  }

  -- the extents that its files name are those that its nodes name
  pub files_name : HaveSame (flat_map (λ file. map extent_of file.1.pieces) (subvolume_in super image root).files)
      (flat_map (λ node. map extent_of (pieces_of node)) (nodes_of_root Files super image root))
  files_name =
      let items = items_of_root Files super image root in
      let files = files_in (file_parts items) in
      let same : (subvolume_in super image root).files ≡ files =
      ap (λ (told : Option (List (ℕ × File))). unwrap_or told []) files_are in
      subst (λ (list : List (ℕ × File)). HaveSame (flat_map (λ file. map extent_of file.1.pieces) list)
      (flat_map (λ node. map extent_of (pieces_of node)) (nodes_of_root Files super image root))) (sym same)
      (pieces_same (nodes_of_root Files super image root) items (file_parts items) files items_are
      (all_tell super.generation items held) files_kept refl)

-- ---- all subvolumes

module _ (super : Super) (image : List ℕ) (roots : List (ℕ × RootItem)) (nodes : NodesRead)
    (are : AreFileTrees super image roots nodes) where
  pub each_kept : (entry : ℕ × RootItem) → Contains roots entry → subvolume_failure super image entry.1 ≡ None
  each_kept = none_of_all (λ (entry : ℕ × RootItem). subvolume_failure super image entry.1) roots are.sound

  pub each_walked : (entry : ℕ × RootItem) → Contains roots entry
      → tree_failure Files super image (root_told entry.1) entry.1.bytenr ≡ None
  each_walked entry has = tree_kept super image entry.1 (each_kept entry has)

  pub are_subvolumes : AllByRecursion (λ entry. IsSubvolumeOf super image entry.1) roots
  are_subvolumes =
      all_of (λ (entry : ℕ × RootItem). IsSubvolumeOf super image entry.1) roots
      (λ entry has. is_subvolume super image entry.1 (each_kept entry has) (are.found.bytes entry has))

  abbrev own_extents : ℕ × RootItem → List Element
  own_extents entry = flat_map (λ file. map extent_of file.1.pieces) (subvolume_in super image entry.1).files

  -- the extents that files name are those that nodes name
  all_name : HaveSame (flat_map own_extents roots) (flat_map (λ node. map extent_of (pieces_of node)) are.found.nodes)
  all_name = record {
    into = λ extent has.
        let entry = one_flat_mapped own_extents roots extent has in
        let own = (files_name super image entry.0.1 (each_kept entry.0 entry.1)).into extent entry.2 in
        let node = one_flat_mapped (λ (node : Node). map extent_of (pieces_of node))
        (nodes_of_root Files super image entry.0.1) extent own in
        contains_flat_map (λ (node : Node). map extent_of (pieces_of node)) are.found.nodes node.0 extent
        (are.found.all entry.0 node.0 entry.1 node.1) node.2;
    back = λ extent has.
        let node = one_flat_mapped (λ (node : Node). map extent_of (pieces_of node)) are.found.nodes extent has in
        let entry = are.found.only node.0 node.1 in
        let own = contains_flat_map (λ (node : Node). map extent_of (pieces_of node))
        (nodes_of_root Files super image entry.0.1) node.0 extent entry.2 node.2 in
        contains_flat_map own_extents roots entry.0 extent entry.1
        ((files_name super image entry.0.1 (each_kept entry.0 entry.1)).back extent own);
  }

  extents_of_entries : (entries : List (ℕ × RootItem))
      → flat_map (λ (entry : ℕ × Subvolume). flat_map (λ file. map extent_of file.1.pieces) entry.1.files)
      (map (λ entry. (entry.0, subvolume_in super image entry.1)) entries) ≡ flat_map own_extents entries
  extents_of_entries [] = refl
  extents_of_entries (entry ∷ entries) = ap (λ (rest : List Element). own_extents entry ++ rest)
      (extents_of_entries entries)

  pub present_name : subvolume_roots (roots_in super image) ≡ roots
      → HaveSame (present_extents (state_in super image))
      (flat_map (λ node. map extent_of (pieces_of node)) are.found.nodes)
  unfolding present_extents state_in subvolumes_in
  present_name all =
      let is = extents_of_entries (subvolume_roots (roots_in super image)) ∙ ap (flat_map own_extents) all in
      subst (λ (list : List Element). HaveSame list (flat_map (λ node. map extent_of (pieces_of node)) are.found.nodes))
      (sym is) all_name
