-- Trees that were laid out one behind the other tell the state that they were laid out for.
use Rattle.std.proofs.Common.{◌≡◌, ℕ, ◌≤◌, true, List, ◌++◌, map, length, drop, refl, sym, ap, subst, ◌∙◌, arith}
use Rattle.std.specs.Prelude.{◌==◌, nat_le, nat_lt, Contains, Option, Some, None}
use Rattle.std.specs.List.{AllByRecursion, IsDistinct, filter_map, list_all}
use Rattle.std.specs.List.Sorted.{IsPermutation}
use Rattle.std.specs.Option.{option_map}
use Rattle.std.proofs.lemmas.Bool.{and_from, le-leb, lt-ltb}
use Rattle.std.proofs.lemmas.List.{append_assoc}
use Rattle.std.proofs.lemmas.List.Elements.{Contains-append_left}
use Rattle.std.proofs.lemmas.List.Sorted.{Contains-permutation, IsPermutation-append, IsPermutation-append_comm}
use Rattle.std.proofs.lemmas.List.Sorted.{IsPermutation-map, IsPermutation-sym}
use Rattle.std.proofs.lemmas.Map.Keys.{IsDistinct-IsPermutation}
use Rattle.qg_node.specs.declared.item.Item.{Item}
use Rattle.qg_node.specs.declared.node.Node.{Node}
use Rattle.qg_items.specs.declared.root.RootItem.{RootItem}
use Rattle.qg_items.specs.declared.tree.TheConstants.{ROOT_TREE, EXTENT_TREE, QUOTA_TREE}
use Rattle.qg_super.specs.declared.sizes.Sizes.{Sizes}
use Rattle.qg_super.specs.declared.superblock.Super.{Super}
use Rattle.qg_image.specs.ItemMeaning.{extent_part, quota_part, root_part}
use Rattle.qg_image.specs.Table.{keys_of, value_at}
use Rattle.qg_image.specs.declared.part.ExtentPart.{ExtentPart}
use Rattle.qg_image.specs.declared.part.QuotaPart.{QuotaPart}
use Rattle.qg_image.specs.declared.quota.Quota.{Quota}
use Rattle.qg_image.specs.State.{State, layout_of}
use Rattle.qg_image.specs.Owed.{Agrees}
use Rattle.qg_image.specs.declared.tree.TreeKind.{TreeKind}
use Rattle.qg_image.specs.declared.tree.TreeKind.TheVariants.{Extents, Quotas, Roots}
use Rattle.qg_image.specs.ImageState.{addresses_of, quota_told, subvolume_roots}
use Rattle.qg_image.specs.OtherTrees.{AreOtherTrees, IsOfFormat, IsTreeOfNodes, IsTreeOfRoot, subvolume_items, super_at}
use Rattle.qg_image.specs.Walk.{is_generation, is_item_of, is_owner, root_expected, root_told}
use Rattle.qg_root_items.specs.Written.{roots_named}
use Rattle.qg_refs.specs.declared.kept.Kept.{Kept}
use Rattle.qg_tree_layout.specs.declared.building.Built.{Built}
use Rattle.qg_tree_layout.specs.Row.{address_of}
use Rattle.qg_tree_layout.proofs.Frame.{AllByRecursion-append, IsDistinct-front}
use Rattle.qg_other_trees.specs.declared.laying.OtherTrees.{OtherTrees}
use Rattle.qg_other_trees.specs.Telling.{AreToldBy, IsStateOf}
use Rattle.qg_check.specs.Editable.{AreGroupsOf}
use Rattle.qg_other_trees.specs.Trees.{AreTrees, IsQuotaTreeOf, IsTreeOfItems, nodes_laid, quota_nodes_laid}
use Rattle.qg_other_trees.specs.Trees.{root_item_laid}
use Rattle.qg_other_trees.proofs.Lists.{quota_said, quotas_named, subvolumes_named}
use Rattle.qg_other_trees.proofs.Others.{format, tree_open, tree_told}
use Rattle.qg_other_trees.proofs.QuotaTree.{quota_placed, quota_same, quota_told_by, quota_walked, root_if}
use Rattle.qg_other_trees.proofs.Recorded.{book_agrees}
use Rattle.qg_reach.proofs.Members.{contains_map, one_mapped}
use Rattle.qg_other_trees.proofs.Slots.{LieFirst, LieFirst-more, LieFirst-placed, distinct-drop, flips, placed_apart}
use Rattle.qg_other_trees.proofs.TreesIn.{IsBuiltFor}

-- ---- the trees

pub generation_now : (generation : ℕ) → 1 ≤ generation → is_generation generation None generation ≡ true
generation_now generation some =
    and_from (nat_lt 0 generation) (nat_le generation generation) (lt-ltb 0 generation (omega (arith, some)))
    (le-leb generation generation (omega arith))

-- the quota tree, if there is one, is a tree of nodes of the format, and tells this quota
pub record TellsQuota (super : Super) (nodesize generation : ℕ) (quota : Option Quota) (slots : List ℕ)
    (quotas : Option Built) (laid : IsQuotaTreeOf nodesize generation quota slots quotas) : Type 0 where
  pub tree : IsTreeOfRoot Quotas super (root_if generation quotas)
      (quota_walked nodesize generation quota slots quotas laid)
      (quota_told_by nodesize generation quota slots quotas laid)
  pub formats : AllByRecursion (IsOfFormat nodesize) (quota_walked nodesize generation quota slots quotas laid)
  pub says : quota
      ≡ option_map (λ root. quota_told
      (filter_map quota_part (quota_told_by nodesize generation quota slots quotas laid)))
      (root_if generation quotas)

module _ (sizes : Sizes) (generation : ℕ) (roots : List (ℕ × RootItem)) (book : List (ℕ × Kept)) (quota : Option Quota)
    (slots : List ℕ) (trees : OtherTrees) (state : State) (differ : IsDistinct (λ a b. a == b) slots)
    (are : AreTrees sizes generation roots book quota slots trees)
    (is : IsStateOf sizes generation roots book quota state) where
  -- the superblock of the state that leads to the root tree
  abbrev pub leads : Super
  leads = super_at state trees.roots.root

  abbrev pub built_for : (tree : TreeKind) (owner : ℕ) (Tell : List Item → Type 0) (here : List ℕ) (built : Built)
      → is_owner tree owner ≡ true → (laid : IsTreeOfItems tree owner sizes.nodesize generation Tell here built)
      → IsBuiltFor tree leads sizes.nodesize owner generation laid.items here built.nodes built.root built.level
  built_for tree owner Tell here built owned laid = record {
    built = laid.stands;
    allows = record {
      same = ap (λ (s : Sizes). s.nodesize) (sym is.same_sizes);
      owned = owned;
      made = subst (λ (g : ℕ). is_generation g None generation ≡ true) is.same_generation
          (generation_now generation is.some);
    };
    hold = subst (λ (g : ℕ). list_all (is_item_of tree g) laid.items ≡ true) is.same_generation laid.allowed;
  }

  -- the slots behind the extent tree, and those behind the quota tree
  abbrev pub behind_extents : List ℕ
  behind_extents = drop (length trees.extents.nodes) slots

  abbrev pub laid_quotas : List Node
  laid_quotas = quota_nodes_laid trees.quotas

  abbrev pub behind_quotas : List ℕ
  behind_quotas = drop (length laid_quotas) behind_extents

  differ_extents : IsDistinct (λ a b. a == b) behind_extents
  differ_extents = distinct-drop slots (length trees.extents.nodes) differ

  differ_quotas : IsDistinct (λ a b. a == b) behind_quotas
  differ_quotas = distinct-drop behind_extents (length laid_quotas) differ_extents

  abbrev pub for_extents : IsBuiltFor Extents leads sizes.nodesize EXTENT_TREE generation are.extent_tree.items slots
      trees.extents.nodes trees.extents.root trees.extents.level
  for_extents = built_for Extents EXTENT_TREE _ slots trees.extents refl are.extent_tree

  abbrev pub for_roots : IsBuiltFor Roots leads sizes.nodesize ROOT_TREE generation are.root_tree.items behind_quotas
      trees.roots.nodes trees.roots.root trees.roots.level
  for_roots = built_for Roots ROOT_TREE _ behind_quotas trees.roots refl are.root_tree

  apart_extents : IsDistinct (λ a b. a == b) (map address_of trees.extents.nodes)
  apart_extents = placed_apart trees.extents.nodes slots are.extent_tree.stands.placed differ

  apart_roots : IsDistinct (λ a b. a == b) (map address_of trees.roots.nodes)
  apart_roots = placed_apart trees.roots.nodes behind_quotas are.root_tree.stands.placed differ_quotas

  -- the nodes of each in the order of its walk
  abbrev extent_those : List Node
  extent_those = are.extent_tree.stands.reached.those

  abbrev pub quota_those : List Node
  quota_those = quota_walked sizes.nodesize generation quota behind_extents trees.quotas are.quota_tree

  abbrev pub quota_items : List Item
  quota_items = quota_told_by sizes.nodesize generation quota behind_extents trees.quotas are.quota_tree

  abbrev root_those : List Node
  root_those = are.root_tree.stands.reached.those

  abbrev pub others : List Node
  others = root_those ++ extent_those ++ quota_those

  pub moved : IsPermutation others (nodes_laid trees)
  moved =
      IsPermutation-append (root_those ++ extent_those) (trees.roots.nodes ++ trees.extents.nodes) quota_those
      laid_quotas
      (IsPermutation-append root_those trees.roots.nodes extent_those trees.extents.nodes
      are.root_tree.stands.reached.same are.extent_tree.stands.reached.same)
      (quota_same sizes.nodesize generation quota behind_extents trees.quotas are.quota_tree)

  -- the nodes in the order in which they lie
  abbrev in_order : List Node
  in_order = trees.extents.nodes ++ laid_quotas ++ trees.roots.nodes

  turned : IsPermutation in_order (nodes_laid trees)
  turned =
      subst (λ (nodes : List Node). IsPermutation in_order nodes)
      (sym (append_assoc trees.roots.nodes trees.extents.nodes laid_quotas))
      (IsPermutation-append_comm (trees.extents.nodes ++ laid_quotas) trees.roots.nodes)

  -- they lie one behind the other
  one_behind : LieFirst in_order slots (drop (length trees.roots.nodes) behind_quotas)
  one_behind =
      let placed = quota_placed sizes.nodesize generation quota behind_extents trees.quotas are.quota_tree in
      let two = LieFirst-more trees.extents.nodes laid_quotas slots behind_extents behind_quotas
      (LieFirst-placed trees.extents.nodes slots are.extent_tree.stands.placed)
      (LieFirst-placed laid_quotas behind_extents placed) in
      LieFirst-more (trees.extents.nodes ++ laid_quotas) trees.roots.nodes slots behind_quotas
      (drop (length trees.roots.nodes) behind_quotas) two
      (LieFirst-placed trees.roots.nodes behind_quotas are.root_tree.stands.placed)

  laid_apart : IsDistinct (λ a b. a == b) (map address_of (nodes_laid trees))
  laid_apart =
      let whole = subst (IsDistinct (λ a b. a == b)) (sym one_behind) differ in
      let front = IsDistinct-front (λ a b. a == b) (map address_of in_order)
      (drop (length trees.roots.nodes) behind_quotas) whole in
      IsDistinct-IsPermutation (λ a b. a == b) flips (map address_of in_order) (map address_of (nodes_laid trees))
      (IsPermutation-map address_of in_order (nodes_laid trees) turned) front

  within : (slot : ℕ) → Contains (addresses_of others) slot → Contains slots slot
  within slot has =
      let node = one_mapped address_of others slot has in
      let laid = Contains-permutation others (nodes_laid trees) node.0 moved node.1 in
      let there = Contains-permutation (nodes_laid trees) in_order node.0
      (IsPermutation-sym in_order (nodes_laid trees) turned) laid in
      let front = Contains-append_left (map address_of in_order) (drop (length trees.roots.nodes) behind_quotas)
      (address_of node.0) (contains_map address_of in_order node.0 there) in
      subst (λ (q : ℕ). Contains slots q) node.2
      (subst (λ (list : List ℕ). Contains list (address_of node.0)) one_behind front)

  apart : IsDistinct (λ a b. a == b) (addresses_of others)
  apart =
      IsDistinct-IsPermutation (λ a b. a == b) flips (map address_of (nodes_laid trees)) (map address_of others)
      (IsPermutation-map address_of (nodes_laid trees) others (IsPermutation-sym others (nodes_laid trees) moved))
      laid_apart

  -- ---- each is a tree

  roots_told : IsTreeOfNodes Roots leads (root_expected None None) trees.roots.root root_those are.root_tree.items
  roots_told =
      tree_open Roots leads sizes.nodesize ROOT_TREE generation are.root_tree.items behind_quotas trees.roots.nodes
      trees.roots.root trees.roots.level for_roots apart_roots

  extents_told : IsTreeOfNodes Extents leads (root_told (root_item_laid trees.extents generation)) trees.extents.root
      extent_those are.extent_tree.items
  extents_told =
      tree_told Extents leads sizes.nodesize EXTENT_TREE generation are.extent_tree.items slots trees.extents.nodes
      trees.extents.root trees.extents.level for_extents apart_extents

  -- of a quota tree it is, where there is one
  quota_tells : (q : Option Quota) (here : List ℕ) (quotas : Option Built) → IsDistinct (λ a b. a == b) here
      → AreGroupsOf generation (keys_of roots) q → (laid : IsQuotaTreeOf sizes.nodesize generation q here quotas)
      → TellsQuota leads sizes.nodesize generation q here quotas laid
  quota_tells None here None distinct groups laid = record { tree = (refl, refl); formats = tt; says = refl }
  quota_tells None here (Some built) distinct groups laid = absurd laid
  quota_tells (Some q) here None distinct groups laid = absurd laid
  quota_tells (Some q) here (Some built) distinct groups laid =
      let fits = built_for Quotas QUOTA_TREE _ here built refl laid in
      let differs = placed_apart built.nodes here laid.stands.placed distinct in
      let said : q ≡ quota_told (filter_map quota_part laid.items) =
      quota_said generation (keys_of roots) q groups
      ∙ ap (λ (parts : List QuotaPart). quota_told parts) (sym laid.told.told) in
      record {
        tree = tree_told Quotas leads sizes.nodesize QUOTA_TREE generation laid.items here built.nodes built.root
            built.level
            fits differs;
        formats = format Quotas leads sizes.nodesize QUOTA_TREE generation laid.items here built.nodes built.root
            built.level
            fits differs;
        says = ap (λ (quota : Quota). Some quota) said;
      }

  quotas_told : TellsQuota leads sizes.nodesize generation quota behind_extents trees.quotas are.quota_tree
  quotas_told = quota_tells quota behind_extents trees.quotas differ_extents are.groups are.quota_tree

  formats : AllByRecursion (IsOfFormat sizes.nodesize) others
  formats =
      let roots = format Roots leads sizes.nodesize ROOT_TREE generation are.root_tree.items behind_quotas
      trees.roots.nodes trees.roots.root trees.roots.level for_roots apart_roots in
      let extents = format Extents leads sizes.nodesize EXTENT_TREE generation are.extent_tree.items slots
      trees.extents.nodes trees.extents.root trees.extents.level for_extents apart_extents in
      AllByRecursion-append (IsOfFormat sizes.nodesize) (root_those ++ extent_those) quota_those
      (AllByRecursion-append (IsOfFormat sizes.nodesize) root_those extent_those roots extents) quotas_told.formats

  -- ---- what they tell

  abbrev pub extents_root : RootItem
  extents_root = root_item_laid trees.extents generation

  abbrev pub quotas_root : Option RootItem
  quotas_root = root_if generation trees.quotas

  named : filter_map root_part are.root_tree.items ≡ roots_named extents_root roots quotas_root
  named = are.root_tree.told.told

  subvolumes : subvolume_roots (filter_map root_part are.root_tree.items) ≡ subvolume_items state
  subvolumes =
      ap subvolume_roots named ∙ subvolumes_named generation extents_root roots quotas_root are.subvolumes
      ∙ sym is.roots_are

  agrees : Agrees (layout_of state) (filter_map extent_part are.extent_tree.items)
  agrees =
      subst (λ (parts : List ExtentPart). Agrees (layout_of state) parts) (sym are.extent_tree.told.told)
      (book_agrees (layout_of state) book is.table is.known)

  told : state.quota ≡ option_map (λ root. quota_told (filter_map quota_part quota_items)) quotas_root
  told = is.quota_is ∙ quotas_told.says

  tell : AreOtherTrees state others
  tell = record {
    format = subst (λ (s : Sizes). AllByRecursion (IsOfFormat s.nodesize) others) is.same_sizes formats;
    root = trees.roots.root;
    root_nodes = root_those;
    root_items = are.root_tree.items;
    roots = roots_told;
    subvolumes = subvolumes;
    extent_root = extents_root;
    extents_named = ap (value_at EXTENT_TREE) named;
    extent_nodes = extent_those;
    extent_items = are.extent_tree.items;
    extents = extents_told;
    agrees = agrees;
    quota_root = quotas_root;
    quotas_named = ap (value_at QUOTA_TREE) named
        ∙ quotas_named generation extents_root roots quotas_root are.subvolumes;
    quota_nodes = quota_those;
    quota_items = quota_items;
    quotas = quotas_told.tree;
    told = told;
    all = refl;
  }

  pub are_those : AreToldBy state slots trees others
  are_those = record { moved = moved; within = within; apart = apart; tell = tell }

  pub are_told : (others : List Node) × AreToldBy state slots trees others
  are_told = (others, are_those)
