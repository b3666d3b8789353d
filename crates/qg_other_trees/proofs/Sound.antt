-- An image that holds the trees of a commit, and the nodes of a whole layout where they lie, is sound.
use Rattle.std.proofs.Common.{◌≡◌, ℕ, ◌+◌, ◌≤◌, Bool, true, false, cond, List, [], ◌∷◌, ◌++◌, map, length, get_or, not}
use Rattle.std.proofs.Common.{refl, sym, ap, subst, ◌∙◌}
use Rattle.std.specs.Bool.{then_some}
use Rattle.std.specs.Prelude.{◌&&◌, ◌==◌, nat_le, nat_lt, unwrap_or, Option, Some, None, Ok, slice_range}
use Rattle.std.specs.List.{All, AllByRecursion, IsDistinct, filter_map, find, list_all}
use Rattle.std.specs.Option.{option_map}
use Rattle.std.proofs.lemmas.Bool.{eq-eqb, le-leb}
use Rattle.std.proofs.lemmas.List.Elements.{All-contains, Contains-append_left, Contains-append_right, Contains-get_or}
use Rattle.qg_num.specs.declared.rule.Rule.{Rule}
use Rattle.qg_num.specs.declared.rule.Rule.TheVariants as rule
use Rattle.qg_node.specs.declared.item.Item.{Item}
use Rattle.qg_node.specs.declared.node.Node.{Node}
use Rattle.qg_node.specs.Nodes.{header_of}
use Rattle.qg_items.specs.declared.root.RootItem.{RootItem}
use Rattle.qg_items.specs.declared.tree.TheConstants.{ROOT_TREE, EXTENT_TREE, QUOTA_TREE}
use Rattle.qg_super.specs.declared.sizes.Sizes.{Sizes}
use Rattle.qg_super.specs.declared.superblock.Super.{Super}
use Rattle.qg_super.specs.Places.{first_place, is_served, second_place, total_bytes}
use Rattle.qg_super.specs.SuperText.{choose, sizes_of, super_read}
use Rattle.qg_super.proofs.Served.{SuperFits-is_super}
use Rattle.qg_super.proofs.SuperTexts.{super_writes_back}
use Rattle.qg_image.specs.FilesOf.{are_files, file_parts, files_in, files_of, is_file_item, files_told, AreItemsOfFiles}
use Rattle.qg_image.specs.ItemMeaning.{extent_part, quota_part, root_part}
use Rattle.qg_image.specs.Table.{keys_of, value_at}
use Rattle.qg_image.specs.declared.file.File.{File}
use Rattle.qg_image.specs.declared.part.ExtentPart.{ExtentPart}
use Rattle.qg_image.specs.declared.part.QuotaPart.{QuotaPart}
use Rattle.qg_image.specs.declared.quota.Quota.{Quota}
use Rattle.qg_image.specs.declared.element.Element.{Element}
use Rattle.qg_image.specs.Owed.{Agrees, agrees_at, disagreement, homeless}
use Rattle.qg_image.specs.Space.{present_extents}
use Rattle.qg_image.specs.State.{Layout, Placed, State, Subvolume, layout_of, next_generation, blank_state}
use Rattle.qg_image.specs.declared.failure.Failure.{Failure}
use Rattle.qg_image.specs.declared.tree.TreeKind.TheVariants.{Extents, Files, Quotas, Roots}
use Rattle.qg_image.specs.Failure.{first_failure, unless}
use Rattle.qg_image.specs.ImageState.{as_committed, extent_parts, items_of_root, layout_in, nodes_of_root, of_tree}
use Rattle.qg_image.specs.ImageState.{other_nodes, quota_in, quota_parts, quota_told, roots_in, state_in, subvolume_in}
use Rattle.qg_image.specs.ImageState.{subvolume_roots, subvolumes_in, super_in, super_of, tree_nodes, subvolume_told}
use Rattle.qg_image.specs.OtherTrees.{subvolume_items, super_at}
use Rattle.qg_image.specs.Verdict.{IsSound, are_few, are_roots, counts_failure, extent_set, is_quota, most_subvolumes}
use Rattle.qg_image.specs.Verdict.{places_failure, quota_failure, references_failure, root_failure, roots_failure}
use Rattle.qg_image.specs.Verdict.{space_failure, subvolume_failure, together_failure}
use Rattle.qg_image.specs.Walk.{node_found, root_expected, root_told, tree_failure}
use Rattle.qg_machine.specs.Layout.{IsTreeOf, IsWhole}
use Rattle.qg_reach.proofs.Layouts.{layout_by, layout_in-nodes}
use Rattle.qg_check.proofs.Verdicts.{image_failure_parts, rest_failure, verdict_some}
use Rattle.qg_check.specs.Editable.{AreGroupsOf}
use Rattle.qg_root_items.specs.Written.{roots_named}
use Rattle.qg_tree_layout.specs.declared.building.Built.{Built}
use Rattle.qg_refs.specs.declared.kept.Kept.{Kept}
use Rattle.qg_extents.specs.Written.{parts_of_book}
use Rattle.qg_other_trees.specs.declared.laying.OtherTrees.{OtherTrees}
use Rattle.qg_other_trees.specs.Holds.{AreRuns, HasCommit, HoldsLayout, IsToCome, IsTreeIn, nodes_of_roots}
use Rattle.qg_other_trees.specs.Sound.{IsCommitted, KeepsRules, committed}
use Rattle.qg_other_trees.specs.Telling.{IsStateOf}
use Rattle.qg_other_trees.specs.Trees.{AreTrees, IsQuotaTreeOf, nodes_laid, quota_nodes_laid, root_item_laid}
use Rattle.qg_other_trees.specs.Trees.{superblock_laid}
use Rattle.qg_other_trees.proofs.Found.{item_of, items_are, items_of, those_found}
use Rattle.qg_other_trees.proofs.LayoutSame.{layout_is}
use Rattle.qg_other_trees.proofs.Lists.{quota_few, quota_keeps, quota_said, quotas_named, roots_keep, subvolumes_named}
use Rattle.qg_other_trees.proofs.MetNodes.{those}
use Rattle.qg_other_trees.proofs.QuotaTree.{parts_if, quota_walked, root_if}
use Rattle.qg_other_trees.proofs.Recorded.{book_agrees}
use Rattle.qg_other_trees.proofs.Telling.{are_those, behind_extents, behind_quotas, built_for, extents_root}
use Rattle.qg_other_trees.proofs.Telling.{for_extents, for_roots, others, quotas_root}
use Rattle.qg_other_trees.proofs.TreesIn.{IsTreeIn-open, IsTreeIn-told, those_open, those_told}
use Rattle.qg_other_trees.proofs.Walked.{in_slots, tree_in}
use Rattle.qg_other_trees.proofs.SubvolumeTree.{nodes}

-- ---- parts of a list

all_front : {A : Type 0} (P : A → Type 0) (front back : List A) → All P (front ++ back) → All P front
all_front P front back all = λ k d below.
    All-contains P (front ++ back) (get_or front k d) all
    (Contains-append_left front back (get_or front k d) (Contains-get_or front k d below))

all_back : {A : Type 0} (P : A → Type 0) (front back : List A) → All P (front ++ back) → All P back
all_back P front back all = λ k d below.
    All-contains P (front ++ back) (get_or back k d) all
    (Contains-append_right front back (get_or back k d) (Contains-get_or back k d below))

-- ---- parts that fail nowhere

both_none : (a b : Option Failure) → a ≡ None → b ≡ None → first_failure (a ∷ b ∷ []) ≡ None
both_none a b ha hb = rw (ha, hb) refl

three_none : (a b c : Option Failure) → a ≡ None → b ≡ None → c ≡ None → first_failure (a ∷ b ∷ c ∷ []) ≡ None
three_none a b c ha hb hc = rw (ha, hb, hc) refl

four_none : (a b c d : Option Failure) → a ≡ None → b ≡ None → c ≡ None → d ≡ None
    → first_failure (a ∷ b ∷ c ∷ d ∷ []) ≡ None
four_none a b c d ha hb hc hd = rw (ha, hb, hc, hd) refl

kept_so : (test : Bool) (broken : Rule) (address : ℕ) → test ≡ true → unless test broken address ≡ None
kept_so test broken address h = rw h refl

-- ---- the superblocks

places_pass : (super : Super) (len : ℕ) → total_bytes (sizes_of super) ≤ len
    → places_failure super (Some super) (Some super) len ≡ None
places_pass super len long =
    simp (
      le-leb (total_bytes (sizes_of super)) len long,
      eq-eqb super.generation super.generation refl,
      eq-eqb super.root super.root refl,
      eq-eqb super.nodesize super.nodesize refl,
      eq-eqb super.slots super.slots refl,
      eq-eqb super.sectors super.sectors refl,
      eq-eqb super.format super.format refl,
    ) refl

-- none of two that are the same is before the other
chosen_same : (super : Super) → choose (Some super) (Some super) ≡ Some super
chosen_same super = either (nat_lt super.generation super.generation) where
  either : (before : Bool) → cond before (Some super) (Some super) ≡ Some super
  either true = refl
  either false = refl

pub super_chosen : (super : Super) (image : List ℕ) → super_in image first_place ≡ Some super
    → super_in image second_place ≡ Some super → super_of image ≡ Some super
unfolding super_of
super_chosen super image first second = rw (first, second) (chosen_same super)

read_served : (place : ℕ) (bytes : List ℕ) (super : Super) → super_read place bytes ≡ Some super
    → is_served (sizes_of super) ≡ true
read_served place bytes super read = (SuperFits-is_super super (super_writes_back place bytes super read).served).served

-- ---- what trees say

then_passes : {A : Type 0} (a b : Bool) (x y : A) → then_some (a && b) x ≡ Some y → b ≡ true
then_passes true true x y h = refl
then_passes true false x y h = absurd cc
then_passes false b x y h = absurd cc

-- the parts of a subvolume's files fit each other
files_fit : (generation : ℕ) (items : List Item) (files : List (ℕ × File)) → AreItemsOfFiles generation items files
    → are_files (file_parts items) ≡ true
unfolding files_of
files_fit generation items files h =
    then_passes (list_all (is_file_item generation) items) (are_files (file_parts items)) (files_in (file_parts items))
    files h

none_found : (test : ℕ → Bool) (xs : List ℕ) → ((x : ℕ) → test x ≡ true) → find (λ x. not (test x)) xs ≡ None
none_found test [] all = refl
none_found test (x ∷ xs) all = rw (all x) (none_found test xs all)

nothing_disagrees : (layout : Layout) (parts : List ExtentPart) → Agrees layout parts → disagreement layout parts ≡ None
unfolding disagreement
nothing_disagrees layout parts agrees = none_found (agrees_at layout parts) _ agrees

references_kept : (super : Super) (image : List ℕ) (layout : Layout)
    → disagreement layout (extent_parts super image) ≡ None
    → homeless layout ≡ None → references_failure super image layout ≡ None
unfolding references_failure
references_kept super image layout agree home = rw (agree, home) refl

-- ---- the quota tree

-- what an image has of the quota tree that was laid out, if one was
record FindsQuota (super : Super) (image : List ℕ) (nodesize generation : ℕ) (quota : Option Quota) (slots : List ℕ)
    (quotas : Option Built) (laid : IsQuotaTreeOf nodesize generation quota slots quotas) : Type 0 where
  nodes : of_tree (nodes_of_root Quotas super image) (root_if generation quotas)
      ≡ quota_walked nodesize generation quota slots quotas laid
  parts : filter_map quota_part (of_tree (items_of_root Quotas super image) (root_if generation quotas))
      ≡ parts_if generation quota
  walked : root_failure Quotas super image (root_if generation quotas) ≡ None

-- its items tell the quota
quota_back : (nodesize generation : ℕ) (subvolumes : List ℕ) (quota : Option Quota) (slots : List ℕ)
    (quotas : Option Built)
    → AreGroupsOf generation subvolumes quota → IsQuotaTreeOf nodesize generation quota slots quotas
    → option_map (λ root. quota_told (parts_if generation quota)) (root_if generation quotas) ≡ quota
quota_back nodesize generation subvolumes None slots None groups laid = refl
quota_back nodesize generation subvolumes None slots (Some built) groups laid = absurd laid
quota_back nodesize generation subvolumes (Some quota) slots None groups laid = absurd laid
quota_back nodesize generation subvolumes (Some quota) slots (Some built) groups laid =
    ap (λ (q : Quota). Some q) (sym (quota_said generation subvolumes quota groups))

-- and break no rule
quota_passes : (super : Super) (image : List ℕ) (nodesize generation : ℕ) (subvolumes : List ℕ) (quota : Option Quota)
    (slots : List ℕ) (quotas : Option Built) (roots : List (ℕ × RootItem)) → AreGroupsOf generation subvolumes quota
    → IsQuotaTreeOf nodesize generation quota slots quotas → keys_of (subvolume_roots roots) ≡ subvolumes
    → quota_parts super image ≡ parts_if generation quota
    → root_failure Quotas super image (root_if generation quotas) ≡ None
    → quota_failure super image roots (root_if generation quotas) ≡ None
quota_passes super image nodesize generation subvolumes None slots None roots groups laid same said walked = refl
quota_passes super image nodesize generation subvolumes None slots (Some built) roots groups laid same said walked =
    absurd laid
quota_passes super image nodesize generation subvolumes (Some quota) slots None roots groups laid same said walked =
    absurd laid
quota_passes super image nodesize generation subvolumes (Some quota) slots (Some built) roots groups laid same said
    walked =
    let root = root_item_laid built generation in
    let parts = quota_parts super image in
    let subs = keys_of (subvolume_roots roots) in
    let keeps : is_quota subs parts ≡ true =
    ap (λ (list : List ℕ). is_quota list parts) same ∙ ap (is_quota subvolumes) said
    ∙ quota_keeps generation subvolumes quota groups in
    let few : are_few parts ≡ true = ap are_few said ∙ quota_few generation subvolumes quota groups in
    three_none (tree_failure Quotas super image (root_told root) root.bytenr)
    (unless (is_quota subs parts) rule.Quota root.bytenr) (unless (are_few parts) rule.Limits root.bytenr) walked
    (kept_so (is_quota subs parts) rule.Quota root.bytenr keeps)
    (kept_so (are_few parts) rule.Limits root.bytenr few)

-- ---- the image

module _ (sizes : Sizes) (roots : List (ℕ × RootItem)) (book : List (ℕ × Kept)) (quota : Option Quota)
    (slots : List ℕ) (trees : OtherTrees) (old : State) (image : List ℕ) (whole : IsWhole old)
    (differ : IsDistinct (λ a b. a == b) slots)
    (are : AreTrees sizes (next_generation old) roots book quota slots trees)
    (is : IsStateOf sizes (next_generation old) roots book quota (committed [] old quota))
    (has_given : HasCommit trees.superblock (nodes_laid trees) image)
    (holds_given : HoldsLayout trees.superblock image old.layout)
    (runs : AreRuns old) (space : space_failure old.sizes (extent_set (present_extents old)) ≡ None)
    (counts : counts_failure (layout_of old) quota ≡ None)
    (home : homeless (layout_of old) ≡ None) where
  abbrev state : State
  state = committed [] old quota

  abbrev generation : ℕ
  generation = next_generation old

  abbrev super : Super
  super = super_at state trees.roots.root

  same_super : trees.superblock ≡ super
  same_super =
      are.leads ∙ ap (λ (s : Sizes). superblock_laid s generation trees.roots.root) is.same_sizes

  has : HasCommit super (nodes_laid trees) image
  has = subst (λ (s : Super). HasCommit s (nodes_laid trees) image) same_super has_given

  holds : HoldsLayout super image old.layout
  holds = subst (λ (s : Super). HoldsLayout s image old.layout) same_super holds_given

  comes : IsToCome old super
  comes = record { generation = refl; same_sizes = refl }

  served : is_served old.sizes ≡ true
  served = read_served first_place (slice_range image first_place (first_place + 4096)) super has.first

  -- ---- the other trees

  abbrev IsThere : Node → Type 0
  IsThere node = node_found super image (header_of node).address ≡ Ok node

  found_first : All IsThere (trees.roots.nodes ++ trees.extents.nodes)
  found_first = all_front IsThere (trees.roots.nodes ++ trees.extents.nodes) (quota_nodes_laid trees.quotas) has.found

  abbrev root_items : List Item
  root_items = are.root_tree.items

  abbrev extent_items : List Item
  extent_items = are.extent_tree.items

  abbrev named_extents : RootItem
  named_extents = extents_root sizes generation roots book quota slots trees state differ are is

  abbrev named_quotas : Option RootItem
  named_quotas = quotas_root sizes generation roots book quota slots trees state differ are is

  root_tree : IsTreeIn Roots super image (root_expected None None) super.root root_items trees.roots.nodes
  root_tree =
      IsTreeIn-open Roots super sizes.nodesize ROOT_TREE generation root_items
      (behind_quotas sizes generation roots book quota slots trees state differ are is) trees.roots.nodes
      trees.roots.root trees.roots.level
      (for_roots sizes generation roots book quota slots trees state differ are is) image
      (all_front IsThere trees.roots.nodes trees.extents.nodes found_first)

  root_order : root_tree.those ≡ are.root_tree.stands.reached.those
  unfolding root_tree
  root_order =
      those_open Roots super sizes.nodesize ROOT_TREE generation root_items
      (behind_quotas sizes generation roots book quota slots trees state differ are is) trees.roots.nodes
      trees.roots.root trees.roots.level
      (for_roots sizes generation roots book quota slots trees state differ are is) image
      (all_front IsThere trees.roots.nodes trees.extents.nodes found_first)

  extent_tree : IsTreeIn Extents super image (root_told named_extents) named_extents.bytenr extent_items
      trees.extents.nodes
  extent_tree =
      IsTreeIn-told Extents super sizes.nodesize EXTENT_TREE generation extent_items slots trees.extents.nodes
      trees.extents.root trees.extents.level
      (for_extents sizes generation roots book quota slots trees state differ are is) image
      (all_back IsThere trees.roots.nodes trees.extents.nodes found_first)

  extent_order : extent_tree.those ≡ are.extent_tree.stands.reached.those
  unfolding extent_tree
  extent_order =
      those_told Extents super sizes.nodesize EXTENT_TREE generation extent_items slots trees.extents.nodes
      trees.extents.root trees.extents.level
      (for_extents sizes generation roots book quota slots trees state differ are is) image
      (all_back IsThere trees.roots.nodes trees.extents.nodes found_first)

  abbrev behind : List ℕ
  behind = behind_extents sizes generation roots book quota slots trees state differ are is

  -- where its nodes are found
  quota_finds : (q : Option Quota) (here : List ℕ) (quotas : Option Built)
      → (laid : IsQuotaTreeOf sizes.nodesize generation q here quotas) → All IsThere (quota_nodes_laid quotas)
      → FindsQuota super image sizes.nodesize generation q here quotas laid
  quota_finds None here None laid there = record { nodes = refl; parts = refl; walked = refl }
  quota_finds None here (Some built) laid there = absurd laid
  quota_finds (Some q) here None laid there = absurd laid
  quota_finds (Some q) here (Some built) laid there =
      let fits = built_for sizes generation roots book quota slots trees state differ are is Quotas QUOTA_TREE _ here
      built refl
      laid in
      let tree = IsTreeIn-told Quotas super sizes.nodesize QUOTA_TREE generation laid.items here built.nodes built.root
      built.level fits image there in
      let order = those_told Quotas super sizes.nodesize QUOTA_TREE generation laid.items here built.nodes built.root
      built.level fits image there in
      record {
        nodes = tree.nodes_are ∙ order;
        parts = ap (λ (items : List Item). filter_map quota_part items) tree.items_are ∙ laid.told.told;
        walked = tree.walked;
      }

  quota_tree : FindsQuota super image sizes.nodesize generation quota behind trees.quotas are.quota_tree
  quota_tree =
      quota_finds quota behind trees.quotas are.quota_tree
      (all_back IsThere (trees.roots.nodes ++ trees.extents.nodes) (quota_nodes_laid trees.quotas) has.found)

  -- ---- what they say

  roots_said : roots_in super image ≡ roots_named named_extents roots named_quotas
  unfolding roots_in
  roots_said = ap (λ (items : List Item). filter_map root_part items) root_tree.items_are ∙ are.root_tree.told.told

  extents_named : value_at EXTENT_TREE (roots_in super image) ≡ Some named_extents
  extents_named = ap (value_at EXTENT_TREE) roots_said

  quotas_there : value_at QUOTA_TREE (roots_in super image) ≡ named_quotas
  quotas_there = ap (value_at QUOTA_TREE) roots_said
      ∙ quotas_named generation named_extents roots named_quotas are.subvolumes

  only : subvolume_roots (roots_in super image) ≡ roots
  only = ap subvolume_roots roots_said ∙ subvolumes_named generation named_extents roots named_quotas are.subvolumes

  roots_are : are_roots (roots_in super image) ≡ true
  roots_are = ap are_roots roots_said ∙ roots_keep generation named_extents roots named_quotas are.subvolumes

  extents_said : extent_parts super image ≡ parts_of_book book
  unfolding extent_parts
  extents_said =
      rw extents_named
      (ap (λ (items : List Item). filter_map extent_part items) extent_tree.items_are ∙ are.extent_tree.told.told)

  quotas_said : quota_parts super image ≡ parts_if generation quota
  unfolding quota_parts
  quotas_said =
      ap (λ (root : Option RootItem). filter_map quota_part (of_tree (items_of_root Quotas super image) root))
      quotas_there
      ∙ quota_tree.parts

  agrees : Agrees (layout_of old) (extent_parts super image)
  agrees =
      subst (λ (parts : List ExtentPart). Agrees (layout_of old) parts) (sym extents_said)
      (book_agrees (layout_of old) book is.table is.known)

  -- ---- the subvolumes' trees

  -- the nodes of the other trees don't matter for them
  same_items : (held : List Node) → subvolume_items (committed held old quota) ≡ subvolume_items old
  unfolding subvolume_items
  same_items held = refl

  roots_of_old : roots ≡ items_of old whole old.subvolumes whole.trees
  roots_of_old = sym is.roots_are ∙ same_items [] ∙ items_are old whole

  module _ (entry : ℕ × Subvolume) (tree : IsTreeOf old entry.1) where
    abbrev named_root : RootItem
    named_root = (item_of old whole entry tree).1

    file_tree : IsTreeIn Files super image (root_told named_root) named_root.bytenr tree.items
        (nodes old whole entry.1 tree)
    file_tree = tree_in old super image whole comes holds entry.1 tree

    fit : are_files (file_parts tree.items) ≡ true
    fit = files_fit generation tree.items entry.1.files tree.files

    own_in : subvolume_in super image named_root ≡ entry.1
    own_in =
        let told : files_told generation (items_of_root Files super image named_root) ≡ entry.1.files =
        ap (λ (items : List Item). files_told generation items) file_tree.items_are
        ∙ ap (λ (files : Option (List (ℕ × File))). unwrap_or files []) tree.files in
        ap (λ (files : List (ℕ × File)). subvolume_told files named_root) told

    one_passes : subvolume_failure super image named_root ≡ None
    one_passes =
        let test = are_files (file_parts (items_of_root Files super image named_root)) in
        both_none (tree_failure Files super image (root_told named_root) named_root.bytenr)
        (unless test rule.File named_root.bytenr)
        file_tree.walked
        (kept_so test rule.File named_root.bytenr
        (ap (λ (items : List Item). are_files (file_parts items)) file_tree.items_are ∙ fit))

  all_in : (subvolumes : List (ℕ × Subvolume)) (trees : AllByRecursion (λ entry. IsTreeOf old entry.1) subvolumes)
      → map (λ entry. (entry.0, subvolume_in super image entry.1)) (items_of old whole subvolumes trees) ≡ subvolumes
  all_in [] trees = refl
  all_in (entry ∷ subvolumes) trees = rw (own_in entry trees.0, all_in subvolumes trees.1) refl

  all_pass : (subvolumes : List (ℕ × Subvolume)) (trees : AllByRecursion (λ entry. IsTreeOf old entry.1) subvolumes)
      → first_failure (map (λ entry. subvolume_failure super image entry.1) (items_of old whole subvolumes trees))
      ≡ None
  all_pass [] trees = refl
  all_pass (entry ∷ subvolumes) trees = rw (one_passes entry trees.0) (all_pass subvolumes trees.1)

  -- ---- the state

  root_nodes_are : tree_nodes Roots super image (root_expected None None) super.root
      ≡ are.root_tree.stands.reached.those
  root_nodes_are = root_tree.nodes_are ∙ root_order

  extent_nodes_are : of_tree (nodes_of_root Extents super image) (value_at EXTENT_TREE (roots_in super image))
      ≡ are.extent_tree.stands.reached.those
  extent_nodes_are =
      ap (of_tree (nodes_of_root Extents super image)) extents_named ∙ extent_tree.nodes_are ∙ extent_order

  quota_nodes_are : of_tree (nodes_of_root Quotas super image) (value_at QUOTA_TREE (roots_in super image))
      ≡ quota_walked sizes.nodesize generation quota behind trees.quotas are.quota_tree
  quota_nodes_are = ap (of_tree (nodes_of_root Quotas super image)) quotas_there ∙ quota_tree.nodes

  three_are : (a b c x y z : List Node) → a ≡ x → b ≡ y → c ≡ z → a ++ b ++ c ≡ x ++ y ++ z
  three_are a b c x y z first second third = rw (first, second, third) refl

  others_in : other_nodes super image ≡ others sizes generation roots book quota slots trees state differ are is
  others_in = three_are _ _ _ _ _ _ root_nodes_are extent_nodes_are quota_nodes_are

  subvolumes_are : subvolumes_in super image ≡ old.subvolumes
  unfolding subvolumes_in
  subvolumes_are =
      ap (λ (named : List (ℕ × RootItem)). map (λ entry. (entry.0, subvolume_in super image entry.1)) named) (only
      ∙ roots_of_old)
      ∙ all_in old.subvolumes whole.trees

  layout_same : layout_in super image ≡ old.layout
  layout_same =
      let nodes_are : nodes_of_roots super image (subvolume_roots (roots_in super image)) ≡ those old whole =
      ap (nodes_of_roots super image) (only ∙ sym is.roots_are ∙ same_items [])
      ∙ those_found old whole super image comes holds in
      layout_in-nodes super image
      ∙ ap (λ (list : List Node). layout_by (extent_parts super image) list) nodes_are
      ∙ layout_is old whole served runs (in_slots old super image whole comes holds) (extent_parts super image) agrees

  quota_same : quota_in super image ≡ quota
  quota_same =
      ap (λ (root : Option RootItem). option_map (λ (own : RootItem). quota_told (quota_parts super image)) root)
      quotas_there
      ∙ ap (λ (parts : List QuotaPart). option_map (λ (own : RootItem). quota_told parts) named_quotas) quotas_said
      ∙ quota_back sizes.nodesize generation (keys_of roots) quota behind trees.quotas are.groups are.quota_tree

  abbrev laid : List Node
  laid = others sizes generation roots book quota slots trees state differ are is

  abbrev now : List Node → List (ℕ × Subvolume) → List (ℕ × Placed) → Option Quota → State
  now nodes subvolumes layout quota = as_committed nodes (record (blank_state old.sizes) {
    generation = generation;
    subvolumes = subvolumes;
    layout = layout;
    quota = quota;
  })

  state_parts : state_in super image
      ≡ now (other_nodes super image) (subvolumes_in super image) (layout_in super image) (quota_in super image)
  unfolding state_in
  state_parts = refl

  -- what the last commit held before is not asked
  state_now : now laid old.subvolumes old.layout quota ≡ committed laid old quota
  unfolding present_extents
  state_now = refl

  state_same : state_in super image ≡ committed laid old quota
  state_same =
      state_parts
      ∙ ap (λ (list : List Node). now list (subvolumes_in super image) (layout_in super image) (quota_in super image))
      others_in
      ∙ ap (λ (list : List (ℕ × Subvolume)). now laid list (layout_in super image) (quota_in super image))
      subvolumes_are
      ∙ ap (λ (list : List (ℕ × Placed)). now laid old.subvolumes list (quota_in super image)) layout_same
      ∙ ap (λ (quota : Option Quota). now laid old.subvolumes old.layout quota) quota_same
      ∙ state_now

  layout_now : layout_of (state_in super image) ≡ layout_of old
  layout_now = ap layout_of state_same

  -- ---- no rule is broken

  roots_pass : roots_failure super image ≡ None
  roots_pass =
      three_none (tree_failure Roots super image (root_expected None None) super.root)
      (unless (are_roots (roots_in super image)) rule.Root super.root)
      (unless (nat_le (length (subvolume_roots (roots_in super image))) most_subvolumes) rule.Limits super.root)
      root_tree.walked (kept_so (are_roots (roots_in super image)) rule.Root super.root roots_are)
      (kept_so (nat_le (length (subvolume_roots (roots_in super image))) most_subvolumes) rule.Limits super.root
      (ap (λ (named : List (ℕ × RootItem)). nat_le (length named) most_subvolumes) only
      ∙ le-leb (length roots) most_subvolumes are.subvolumes.few))

  extents_pass : root_failure Extents super image (value_at EXTENT_TREE (roots_in super image)) ≡ None
  extents_pass = ap (root_failure Extents super image) extents_named ∙ extent_tree.walked

  subvolumes_keyed : keys_of (subvolume_roots (roots_in super image)) ≡ keys_of roots
  subvolumes_keyed = ap (λ (list : List (ℕ × RootItem)). keys_of list) only

  quota_pass : quota_failure super image (roots_in super image) named_quotas ≡ None
  quota_pass =
      quota_passes super image sizes.nodesize generation (keys_of roots) quota behind trees.quotas
      (roots_in super image)
      are.groups are.quota_tree subvolumes_keyed quotas_said quota_tree.walked

  quotas_pass : quota_failure super image (roots_in super image) (value_at QUOTA_TREE (roots_in super image)) ≡ None
  quotas_pass = ap (quota_failure super image (roots_in super image)) quotas_there ∙ quota_pass

  subvolumes_pass : first_failure
      (map (λ entry. subvolume_failure super image entry.1) (subvolume_roots (roots_in super image)))
      ≡ None
  subvolumes_pass =
      ap (λ (named : List (ℕ × RootItem)). first_failure (map (λ entry. subvolume_failure super image entry.1) named))
      (only ∙ roots_of_old)
      ∙ all_pass old.subvolumes whole.trees

  present_now : present_extents (committed laid old quota) ≡ present_extents old
  unfolding present_extents
  present_now = refl

  space_pass : space_failure (sizes_of super) (extent_set (present_extents (state_in super image))) ≡ None
  space_pass =
      ap (λ (now : State). space_failure old.sizes (extent_set (present_extents now))) state_same
      ∙ ap (λ (named : List Element). space_failure old.sizes (extent_set named)) present_now
      ∙ space

  references_pass : references_failure super image (layout_of (state_in super image)) ≡ None
  references_pass =
      ap (references_failure super image) layout_now
      ∙ references_kept super image (layout_of old)
      (nothing_disagrees (layout_of old) (extent_parts super image) agrees) home

  counts_pass : counts_failure (layout_of (state_in super image)) (state_in super image).quota ≡ None
  counts_pass = ap (λ (now : State). counts_failure (layout_of now) now.quota) state_same ∙ counts

  places_pass_here : places_failure super (super_in image first_place) (super_in image second_place) (length image)
      ≡ None
  places_pass_here = rw (has.first, has.second) (places_pass super (length image) has.long)

  keeps : KeepsRules super image
  keeps = record {
    places = places_pass_here;
    roots = roots_pass;
    extents = extents_pass;
    quotas = quotas_pass;
    subvolumes = subvolumes_pass;
    space = space_pass;
    references = references_pass;
    counts = counts_pass;
  }

  together_pass : together_failure super image ≡ None
  together_pass =
      three_none (space_failure (sizes_of super) (extent_set (present_extents (state_in super image)))) _
      (counts_failure (layout_of (state_in super image)) (state_in super image).quota) space_pass
      (cc references_pass) counts_pass

  sound : IsSound image
  sound =
      let rest : rest_failure super image ≡ None =
      four_none (root_failure Extents super image (value_at EXTENT_TREE (roots_in super image)))
      (quota_failure super image (roots_in super image) (value_at QUOTA_TREE (roots_in super image)))
      (first_failure (map (λ entry. subvolume_failure super image entry.1) (subvolume_roots (roots_in super image))))
      (together_failure super image) extents_pass quotas_pass subvolumes_pass together_pass in
      verdict_some image super (super_chosen super image has.first has.second) ∙ image_failure_parts super image
      ∙ three_none (places_failure super (super_in image first_place) (super_in image second_place) (length image))
      (roots_failure super image) (rest_failure super image) places_pass_here roots_pass rest

  -- the state with these nodes is one that the trees tell, too
  is_now : IsStateOf sizes generation roots book quota (committed laid old quota)
  is_now = record {
    some = is.some;
    same_sizes = is.same_sizes;
    same_generation = is.same_generation;
    there = is.there;
    roots_are = same_items laid ∙ sym (same_items []) ∙ is.roots_are;
    quota_is = is.quota_is;
    table = is.table;
    known = is.known;
  }

  pub is_committed : IsCommitted trees old quota slots image
  is_committed = record {
    others = laid;
    told = are_those sizes generation roots book quota slots trees (committed laid old quota) differ are is_now;
    rules = subst (λ (s : Super). KeepsRules s image) (sym same_super) keeps;
    stands = record {
      sound = sound;
      super = super;
      chosen = super_chosen super image has.first has.second;
      stands = sym state_same;
    };
  }

  -- these are the nodes of its other trees, each tree's in the order of its walk
  pub committed_others : is_committed.others
      ≡ are.root_tree.stands.reached.those ++ are.extent_tree.stands.reached.those
      ++ quota_walked sizes.nodesize generation quota behind trees.quotas are.quota_tree
  unfolding is_committed
  committed_others = refl
