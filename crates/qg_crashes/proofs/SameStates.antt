-- Two images stand for one state where the second has the superblock of the first and each node that the state holds.
use Rattle.std.proofs.Common.{◌≡◌, ◌∙◌, ℕ, ◌≤◌, Bool, true, false, List, [], ◌∷◌, ◌++◌, length, map, refl, sym, ap}
use Rattle.std.proofs.Common.{subst}
use Rattle.std.specs.Prelude.{Option, Some, None, nat_le}
use Rattle.std.specs.List.{Contains, AllByRecursion, filter_map, flat_map, fold}
use Rattle.std.specs.Option.{option_map}
use Rattle.std.proofs.lemmas.Bool.{le-leb, leb-true}
use Rattle.std.proofs.lemmas.List.Elements.{Contains-append_left, Contains-append_right}
use Rattle.qg_num.specs.declared.rule.Rule.TheVariants as rule
use Rattle.qg_node.specs.declared.item.Item.{Item}
use Rattle.qg_node.specs.declared.node.Node.{Node}
use Rattle.qg_node.specs.Nodes.{header_of}
use Rattle.qg_items.specs.declared.root.RootItem.{RootItem}
use Rattle.qg_items.specs.declared.tree.TheConstants.{EXTENT_TREE, QUOTA_TREE}
use Rattle.qg_super.specs.declared.superblock.Super.{Super}
use Rattle.qg_super.specs.Places.{first_place, second_place, total_bytes}
use Rattle.qg_super.specs.SuperText.{sizes_of}
use Rattle.qg_image.specs.Table.{keys_of, value_at, with_value}
use Rattle.qg_image.specs.declared.part.ExtentPart.{ExtentPart}
use Rattle.qg_image.specs.declared.part.QuotaPart.{QuotaPart}
use Rattle.qg_image.specs.ItemMeaning.{root_part, extent_part, quota_part}
use Rattle.qg_image.specs.FilesOf.{are_files, file_parts, files_told}
use Rattle.qg_image.specs.declared.quota.Quota.{Quota}
use Rattle.qg_image.specs.State.{State, Subvolume, Placed, layout_of, blank_state}
use Rattle.qg_image.specs.Owed.{disagreement, homeless}
use Rattle.qg_image.specs.Space.{present_extents}
use Rattle.qg_image.specs.declared.failure.Failure.{Failure}
use Rattle.qg_image.specs.declared.failure.Failure.TheVariants.{Broken}
use Rattle.qg_image.specs.declared.tree.TreeKind.TheVariants.{Roots, Extents, Quotas, Files}
use Rattle.qg_image.specs.Failure.{first_failure, unless}
use Rattle.qg_image.specs.ImageState.{addresses_of, as_committed, extent_parts, extent_root, items_of_root, layout_in}
use Rattle.qg_image.specs.ImageState.{nodes_of_root, of_tree, other_nodes, placed, quota_in, quota_parts, quota_root}
use Rattle.qg_image.specs.ImageState.{quota_told, root_items, root_nodes, roots_in, state_in, subvolume_in}
use Rattle.qg_image.specs.ImageState.{subvolume_roots, subvolumes_in, super_in, super_of, tree_items, tree_nodes}
use Rattle.qg_image.specs.ImageState.{subvolume_told}
use Rattle.qg_image.specs.StateOf.{StateOf}
use Rattle.qg_image.specs.Verdict.{IsSound, are_few, are_mirrored, are_roots, counts_failure, extent_set, image_failure}
use Rattle.qg_image.specs.Verdict.{is_quota, most_subvolumes, places_failure, quota_failure, references_failure}
use Rattle.qg_image.specs.Verdict.{root_failure, roots_failure, space_failure, subvolume_failure, together_failure}
use Rattle.qg_image.specs.Verdict.{verdict}
use Rattle.qg_image.specs.Walk.{node_found, root_expected, root_told, tree_failure}
use Rattle.qg_crashes.specs.Reading.{HasWhatIsHeld, ReadsWhatIsHeld}
use Rattle.qg_crashes.proofs.Below.{neither}
use Rattle.qg_crashes.proofs.Lists.{are_keys, contains_mapped, each_of_joined, joined_same, mapped_same}
use Rattle.qg_crashes.proofs.SameTrees.{HaveSame, same_failure, same_items, same_nodes, option_failure, option_items}
use Rattle.qg_crashes.proofs.SameTrees.{option_nodes}

-- ---- the first of several failures

pub none_of_three : (a b c : Option Failure) → first_failure (a ∷ b ∷ c ∷ []) ≡ None
    → (a ≡ None) × (b ≡ None) × (c ≡ None)
none_of_three None None None none = (refl, refl, refl)
none_of_three (Some failure) b c none = absurd cc
none_of_three None (Some failure) c none = absurd cc
none_of_three None None (Some failure) none = absurd cc

pub first_of_more : (a : Option Failure) (more : List (Option Failure)) → first_failure (a ∷ more) ≡ None
    → (a ≡ None) × (first_failure more ≡ None)
first_of_more None more none = (refl, none)
first_of_more (Some failure) more none = absurd cc

-- ---- subvolumes, each by itself

each_walked : (super : Super) (image : List ℕ) (entries : List (ℕ × RootItem))
    → first_failure (map (λ entry. subvolume_failure super image entry.1) entries) ≡ None
    → AllByRecursion (λ entry. subvolume_failure super image entry.1 ≡ None) entries
each_walked super image [] none = tt
each_walked super image (entry ∷ entries) none =
    let parts = first_of_more (subvolume_failure super image entry.1)
    (map (λ (other : ℕ × RootItem). subvolume_failure super image other.1) entries) none in
    (parts.0, each_walked super image entries parts.1)

-- no rule of an image is broken, part by part
pub record KeepsRules (super : Super) (image : List ℕ) : Type 0 where
  pub places : places_failure super (super_in image first_place) (super_in image second_place) (length image) ≡ None
  pub roots : roots_failure super image ≡ None
  pub extents : root_failure Extents super image (extent_root super image) ≡ None
  pub quotas : quota_failure super image (roots_in super image) (quota_root super image) ≡ None
  pub files : first_failure
      (map (λ entry. subvolume_failure super image entry.1) (subvolume_roots (roots_in super image))) ≡ None
  pub together : together_failure super image ≡ None

pub keeps_rules : (super : Super) (image : List ℕ) → image_failure super image ≡ None → KeepsRules super image
unfolding image_failure
keeps_rules super image none =
    let files = first_failure (map (λ (entry : ℕ × RootItem). subvolume_failure super image entry.1)
    (subvolume_roots (roots_in super image))) in
    let together = together_failure super image in
    let quotas = quota_failure super image (roots_in super image) (quota_root super image) in
    let extents = root_failure Extents super image (extent_root super image) in
    let roots = roots_failure super image in
    let one = first_of_more (places_failure super (super_in image first_place) (super_in image second_place)
    (length image))
    (roots ∷ extents ∷ quotas ∷ files ∷ together ∷ []) none in
    let two = first_of_more roots (extents ∷ quotas ∷ files ∷ together ∷ []) one.1 in
    let three = first_of_more extents (quotas ∷ files ∷ together ∷ []) two.1 in
    let four = none_of_three quotas files together three.1 in
    record { places = one.0; roots = two.0; extents = three.0; quotas = four.0; files = four.1; together = four.2 }

no_more : (a : Option Failure) (more : List (Option Failure)) → a ≡ None → first_failure more ≡ None
    → first_failure (a ∷ more) ≡ None
no_more None more none rest = rest
no_more (Some failure) more none rest = absurd cc

breaks_none : (super : Super) (image : List ℕ) → KeepsRules super image → image_failure super image ≡ None
unfolding image_failure
breaks_none super image keeps =
    let files = first_failure (map (λ (entry : ℕ × RootItem). subvolume_failure super image entry.1)
    (subvolume_roots (roots_in super image))) in
    let together = together_failure super image in
    let quotas = quota_failure super image (roots_in super image) (quota_root super image) in
    let extents = root_failure Extents super image (extent_root super image) in
    let roots = roots_failure super image in
    let places = places_failure super (super_in image first_place) (super_in image second_place) (length image) in
    no_more places (roots ∷ extents ∷ quotas ∷ files ∷ together ∷ []) keeps.places
    (no_more roots (extents ∷ quotas ∷ files ∷ together ∷ []) keeps.roots
    (no_more extents (quotas ∷ files ∷ together ∷ []) keeps.extents
    (no_more quotas (files ∷ together ∷ []) keeps.quotas
    (no_more files (together ∷ []) keeps.files
    (no_more together [] keeps.together refl)))))

-- ---- the state

abbrev state_with : Super → List Node → List (ℕ × Subvolume) → List (ℕ × Placed) → Option Quota → State
state_with super others subvolumes layout quota = as_committed others (record (blank_state (sizes_of super)) {
  generation = super.generation;
  subvolumes = subvolumes;
  layout = layout;
  quota = quota;
})

-- the nodes of all subvolumes, subvolume by subvolume
abbrev file_nodes : Super → List ℕ → ℕ × RootItem → List Node
file_nodes super image entry = nodes_of_root Files super image entry.1

abbrev all_file_nodes : Super → List ℕ → List Node
all_file_nodes super image = flat_map (λ entry. file_nodes super image entry) (subvolume_roots (roots_in super image))

held_nodes : (super : Super) (image : List ℕ)
    → (state_in super image).held.nodes ≡ addresses_of (other_nodes super image) ++ keys_of (layout_in super image)
unfolding state_in
held_nodes super image = refl

layout_keys : (super : Super) (image : List ℕ) (node : Node) → Contains (all_file_nodes super image) node
    → Contains (keys_of (layout_in super image)) (header_of node).address
unfolding layout_in
layout_keys super image node has =
    are_keys (λ (n : Node). (header_of n).address) (λ (n : Node). placed (extent_parts super image) n)
    (all_file_nodes super image) [] node has

module _ (super : Super) (old new : List ℕ) (rules : KeepsRules super old)
    (found : (address : ℕ) → Contains (state_in super old).held.nodes address
    → node_found super new address ≡ node_found super old address) where
  -- ---- which nodes both have

  abbrev Same : List Node → Type 0
  Same nodes = HaveSame super old new nodes

  held_same : (address : ℕ) → Contains (addresses_of (other_nodes super old) ++ keys_of (layout_in super old)) address
      → node_found super new address ≡ node_found super old address
  held_same address has = found address (subst (λ (xs : List ℕ). Contains xs address) (sym (held_nodes super old)) has)

  others_same : Same (other_nodes super old)
  others_same node has =
      held_same (header_of node).address
      (Contains-append_left (addresses_of (other_nodes super old)) (keys_of (layout_in super old))
      (header_of node).address
      (contains_mapped (λ (n : Node). (header_of n).address) (other_nodes super old) node has))

  files_same : Same (all_file_nodes super old)
  files_same node has =
      held_same (header_of node).address
      (Contains-append_right (addresses_of (other_nodes super old)) (keys_of (layout_in super old))
      (header_of node).address (layout_keys super old node has))

  abbrev extents_there : List Node
  extents_there = of_tree (nodes_of_root Extents super old) (extent_root super old)

  abbrev quotas_there : List Node
  quotas_there = of_tree (nodes_of_root Quotas super old) (quota_root super old)

  roots_agree : Same (root_nodes super old)
  roots_agree node has = others_same node
      (Contains-append_left (root_nodes super old ++ extents_there) quotas_there node
      (Contains-append_left (root_nodes super old) extents_there node has))

  extents_agree : Same extents_there
  extents_agree node has =
      others_same node
      (Contains-append_left (root_nodes super old ++ extents_there) quotas_there node
      (Contains-append_right (root_nodes super old) extents_there node has))

  quotas_agree : Same quotas_there
  quotas_agree node has =
      others_same node (Contains-append_right (root_nodes super old ++ extents_there) quotas_there node has)

  -- ---- the root tree

  roots_walked : tree_failure Roots super old (root_expected None None) super.root ≡ None
  roots_walked =
      (none_of_three (tree_failure Roots super old (root_expected None None) super.root)
      (unless (are_roots (roots_in super old)) rule.Root super.root)
      (unless (nat_le (length (subvolume_roots (roots_in super old))) most_subvolumes) rule.Limits super.root)
      rules.roots).0

  roots_failure_same : tree_failure Roots super new (root_expected None None) super.root ≡ tree_failure Roots super old
      (root_expected None None) super.root
  roots_failure_same = same_failure super old new Roots (root_expected None None) super.root roots_walked roots_agree

  root_items_same : root_items super new ≡ root_items super old
  root_items_same = same_items super old new Roots (root_expected None None) super.root roots_walked roots_agree

  root_nodes_same : root_nodes super new ≡ root_nodes super old
  root_nodes_same = same_nodes super old new Roots (root_expected None None) super.root roots_walked roots_agree

  roots_same : roots_in super new ≡ roots_in super old
  unfolding roots_in
  roots_same = ap (filter_map root_part) root_items_same

  all_roots_same : roots_failure super new ≡ roots_failure super old
  all_roots_same =
      ap (λ (failure : Option Failure). first_failure
      (failure ∷ unless (are_roots (roots_in super new)) rule.Root super.root
      ∷ unless (nat_le (length (subvolume_roots (roots_in super new))) most_subvolumes) rule.Limits super.root ∷ []))
      roots_failure_same
      ∙ ap (λ (roots : List (ℕ × RootItem)). first_failure
      (tree_failure Roots super old (root_expected None None) super.root ∷ unless (are_roots roots) rule.Root super.root
      ∷ unless (nat_le (length (subvolume_roots roots)) most_subvolumes) rule.Limits super.root ∷ [])) roots_same

  -- ---- the extent tree

  extent_root_same : extent_root super new ≡ extent_root super old
  extent_root_same = ap (value_at EXTENT_TREE) roots_same

  extents_failure_same : root_failure Extents super new (extent_root super new) ≡ root_failure Extents super old
      (extent_root super old)
  extents_failure_same =
      ap (root_failure Extents super new) extent_root_same
      ∙ option_failure super old new Extents (extent_root super old) rules.extents extents_agree

  extent_parts_same : extent_parts super new ≡ extent_parts super old
  unfolding extent_parts
  extent_parts_same =
      ap (λ (root : Option RootItem). filter_map extent_part (of_tree (items_of_root Extents super new) root))
      extent_root_same
      ∙ ap (filter_map extent_part)
      (option_items super old new Extents (extent_root super old) rules.extents extents_agree)

  -- ---- the quota tree

  quota_root_same : quota_root super new ≡ quota_root super old
  quota_root_same = ap (value_at QUOTA_TREE) roots_same

  quotas_walked : (root : Option RootItem) → quota_failure super old (roots_in super old) root ≡ None
      → root_failure Quotas super old root ≡ None
  quotas_walked None none = refl
  quotas_walked (Some root) none =
      (none_of_three (tree_failure Quotas super old (root_told root) root.bytenr)
      (unless (is_quota (keys_of (subvolume_roots (roots_in super old))) (quota_parts super old)) rule.Quota
      root.bytenr)
      (unless (are_few (quota_parts super old)) rule.Limits root.bytenr) none).0

  quotas_kept : root_failure Quotas super old (quota_root super old) ≡ None
  quotas_kept = quotas_walked (quota_root super old) rules.quotas

  quota_parts_same : quota_parts super new ≡ quota_parts super old
  unfolding quota_parts
  quota_parts_same =
      ap (λ (root : Option RootItem). filter_map quota_part (of_tree (items_of_root Quotas super new) root))
      quota_root_same
      ∙ ap (filter_map quota_part) (option_items super old new Quotas (quota_root super old) quotas_kept quotas_agree)

  quota_same : quota_in super new ≡ quota_in super old
  quota_same =
      ap (λ (root : Option RootItem). option_map (λ (some : RootItem). quota_told (quota_parts super new)) root)
      quota_root_same
      ∙ ap (λ (parts : List QuotaPart). option_map (λ (some : RootItem). quota_told parts) (quota_root super old))
      quota_parts_same

  quotas_at : (root : Option RootItem) → root_failure Quotas super new root ≡ root_failure Quotas super old root
      → quota_failure super new (roots_in super new) root ≡ quota_failure super old (roots_in super old) root
  quotas_at None walked = refl
  quotas_at (Some root) walked =
      ap (λ (failure : Option Failure). first_failure
      (failure ∷ unless (is_quota (keys_of (subvolume_roots (roots_in super new))) (quota_parts super new)) rule.Quota
      root.bytenr
      ∷ unless (are_few (quota_parts super new)) rule.Limits root.bytenr ∷ [])) walked
      ∙ ap (λ (roots : List (ℕ × RootItem)). first_failure
      (tree_failure Quotas super old (root_told root) root.bytenr
      ∷ unless (is_quota (keys_of (subvolume_roots roots)) (quota_parts super new)) rule.Quota root.bytenr
      ∷ unless (are_few (quota_parts super new)) rule.Limits root.bytenr ∷ [])) roots_same
      ∙ ap (λ (parts : List QuotaPart). first_failure
      (tree_failure Quotas super old (root_told root) root.bytenr
      ∷ unless (is_quota (keys_of (subvolume_roots (roots_in super old))) parts) rule.Quota root.bytenr
      ∷ unless (are_few parts) rule.Limits root.bytenr ∷ [])) quota_parts_same

  quotas_failure_same : quota_failure super new (roots_in super new) (quota_root super new) ≡ quota_failure super old
      (roots_in super old) (quota_root super old)
  quotas_failure_same =
      ap (λ (root : Option RootItem). quota_failure super new (roots_in super new) root) quota_root_same
      ∙ quotas_at (quota_root super old)
      (option_failure super old new Quotas (quota_root super old) quotas_kept quotas_agree)

  -- ---- the other nodes

  other_nodes_same : other_nodes super new ≡ other_nodes super old
  other_nodes_same =
      let extents : of_tree (nodes_of_root Extents super new) (extent_root super new) ≡ extents_there =
      ap (λ (root : Option RootItem). of_tree (nodes_of_root Extents super new) root) extent_root_same
      ∙ option_nodes super old new Extents (extent_root super old) rules.extents extents_agree in
      let quotas : of_tree (nodes_of_root Quotas super new) (quota_root super new) ≡ quotas_there =
      ap (λ (root : Option RootItem). of_tree (nodes_of_root Quotas super new) root) quota_root_same
      ∙ option_nodes super old new Quotas (quota_root super old) quotas_kept quotas_agree in
      ap (λ (nodes : List Node). nodes ++ of_tree (nodes_of_root Extents super new) (extent_root super new)
      ++ of_tree (nodes_of_root Quotas super new) (quota_root super new)) root_nodes_same
      ∙ ap (λ (nodes : List Node). root_nodes super old ++ nodes ++ of_tree (nodes_of_root Quotas super new)
      (quota_root super new)) extents
      ∙ ap (λ (nodes : List Node). root_nodes super old ++ extents_there ++ nodes) quotas

  -- ---- subvolumes

  -- of each subvolume both have the nodes, and it is walked in the old image
  record IsCarried (entry : ℕ × RootItem) : Type 0 where
    walked : tree_failure Files super old (root_told entry.1) entry.1.bytenr ≡ None
    same : Same (nodes_of_root Files super old entry.1)

  carried : (entries : List (ℕ × RootItem))
      → AllByRecursion (λ entry. subvolume_failure super old entry.1 ≡ None) entries
      → AllByRecursion (λ entry. Same (file_nodes super old entry)) entries → AllByRecursion IsCarried entries
  carried [] none same = tt
  carried (entry ∷ entries) none same = (
    record {
      walked = (neither (tree_failure Files super old (root_told entry.1) entry.1.bytenr)
          (unless (are_files (file_parts (items_of_root Files super old entry.1))) rule.File entry.1.bytenr) none.0).0;
      same = same.0;
    },
    carried entries none.1 same.1,
  )

  all_carried : AllByRecursion IsCarried (subvolume_roots (roots_in super old))
  all_carried =
      carried (subvolume_roots (roots_in super old))
      (each_walked super old (subvolume_roots (roots_in super old)) rules.files)
      (each_of_joined (λ (node : Node). node_found super new (header_of node).address ≡ node_found super old
      (header_of node).address)
      (λ (entry : ℕ × RootItem). file_nodes super old entry) (subvolume_roots (roots_in super old)) files_same)

  each_same : {A : Type 0} (one other : ℕ × RootItem → A)
      → ((entry : ℕ × RootItem) → IsCarried entry → one entry ≡ other entry)
      → (entries : List (ℕ × RootItem)) → AllByRecursion IsCarried entries
      → AllByRecursion (λ entry. one entry ≡ other entry) entries
  each_same one other each [] are = tt
  each_same one other each (entry ∷ entries) are = (each entry are.0, each_same one other each entries are.1)

  items_same_of : (entry : ℕ × RootItem) → IsCarried entry
      → items_of_root Files super new entry.1 ≡ items_of_root Files super old entry.1
  items_same_of entry is = same_items super old new Files (root_told entry.1) entry.1.bytenr is.walked is.same

  nodes_same_of : (entry : ℕ × RootItem) → IsCarried entry
      → nodes_of_root Files super new entry.1 ≡ nodes_of_root Files super old entry.1
  nodes_same_of entry is = same_nodes super old new Files (root_told entry.1) entry.1.bytenr is.walked is.same

  failure_same_of : (entry : ℕ × RootItem) → IsCarried entry
      → subvolume_failure super new entry.1 ≡ subvolume_failure super old entry.1
  failure_same_of entry is =
      ap (λ (failure : Option Failure). first_failure
      (failure ∷ unless (are_files (file_parts (items_of_root Files super new entry.1))) rule.File entry.1.bytenr ∷ []))
      (same_failure super old new Files (root_told entry.1) entry.1.bytenr is.walked is.same)
      ∙ ap (λ (items : List Item). first_failure
      (tree_failure Files super old (root_told entry.1) entry.1.bytenr ∷ unless (are_files (file_parts items)) rule.File
      entry.1.bytenr ∷ []))
      (items_same_of entry is)

  abbrev told_in : List ℕ → ℕ × RootItem → ℕ × Subvolume
  told_in image entry = (entry.0, subvolume_in super image entry.1)

  told_same_of : (entry : ℕ × RootItem) → IsCarried entry → told_in new entry ≡ told_in old entry
  told_same_of entry is =
      let make : List Item → ℕ × Subvolume = λ items.
      (entry.0, subvolume_told (files_told super.generation items) entry.1) in
      ap make (items_same_of entry is)

  files_failure_same : first_failure
      (map (λ entry. subvolume_failure super new entry.1) (subvolume_roots (roots_in super new)))
      ≡ first_failure (map (λ entry. subvolume_failure super old entry.1) (subvolume_roots (roots_in super old)))
  files_failure_same =
      ap (λ (roots : List (ℕ × RootItem)). first_failure
      (map (λ (entry : ℕ × RootItem). subvolume_failure super new entry.1) (subvolume_roots roots))) roots_same
      ∙ ap (λ (failures : List (Option Failure)). first_failure failures)
      (mapped_same (λ (entry : ℕ × RootItem). subvolume_failure super new entry.1)
      (λ (entry : ℕ × RootItem). subvolume_failure super old entry.1)
      (subvolume_roots (roots_in super old))
      (each_same (λ (entry : ℕ × RootItem). subvolume_failure super new entry.1)
      (λ (entry : ℕ × RootItem). subvolume_failure super old entry.1) failure_same_of
      (subvolume_roots (roots_in super old)) all_carried))

  subvolumes_same : subvolumes_in super new ≡ subvolumes_in super old
  unfolding subvolumes_in
  subvolumes_same =
      ap (λ (roots : List (ℕ × RootItem)). map (λ (entry : ℕ × RootItem). told_in new entry) (subvolume_roots roots))
      roots_same
      ∙ mapped_same (told_in new) (told_in old) (subvolume_roots (roots_in super old))
      (each_same (told_in new) (told_in old) told_same_of (subvolume_roots (roots_in super old)) all_carried)

  -- ---- the layout

  abbrev table_of : List ExtentPart → List Node → List (ℕ × Placed)
  table_of parts nodes = fold (λ layout node. with_value (header_of node).address (placed parts node) layout) [] nodes

  all_nodes_same : all_file_nodes super new ≡ all_file_nodes super old
  all_nodes_same =
      ap (λ (roots : List (ℕ × RootItem)). flat_map (λ (entry : ℕ × RootItem). file_nodes super new entry)
      (subvolume_roots roots)) roots_same
      ∙ joined_same (λ (entry : ℕ × RootItem). file_nodes super new entry)
      (λ (entry : ℕ × RootItem). file_nodes super old entry)
      (subvolume_roots (roots_in super old))
      (each_same (λ (entry : ℕ × RootItem). file_nodes super new entry)
      (λ (entry : ℕ × RootItem). file_nodes super old entry) nodes_same_of
      (subvolume_roots (roots_in super old)) all_carried)

  layout_same : layout_in super new ≡ layout_in super old
  unfolding layout_in
  layout_same =
      ap (λ (parts : List ExtentPart). table_of parts (all_file_nodes super new)) extent_parts_same
      ∙ ap (λ (nodes : List Node). table_of (extent_parts super old) nodes) all_nodes_same

  -- ---- the state, and what the trees say together

  state_same : state_in super new ≡ state_in super old
  unfolding state_in
  state_same =
      ap (λ (others : List Node). state_with super others (subvolumes_in super new) (layout_in super new)
      (quota_in super new)) other_nodes_same
      ∙ ap (λ (subvolumes : List (ℕ × Subvolume)). state_with super (other_nodes super old) subvolumes
      (layout_in super new) (quota_in super new)) subvolumes_same
      ∙ ap (λ (layout : List (ℕ × Placed)). state_with super (other_nodes super old) (subvolumes_in super old) layout
      (quota_in super new)) layout_same
      ∙ ap (λ (quota : Option Quota). state_with super (other_nodes super old) (subvolumes_in super old)
      (layout_in super old) quota) quota_same

  abbrev said_together : State → List ExtentPart → Option Failure
  said_together state parts = first_failure
      (space_failure (sizes_of super) (extent_set (present_extents state))
      ∷ first_failure (option_map (Broken rule.Refs) (disagreement (layout_of state) parts)
      ∷ option_map (Broken rule.Home) (homeless (layout_of state)) ∷ [])
      ∷ counts_failure (layout_of state) state.quota ∷ [])

  together_same : together_failure super new ≡ together_failure super old
  unfolding references_failure
  together_same =
      ap (λ (state : State). said_together state (extent_parts super new)) state_same
      ∙ ap (λ (parts : List ExtentPart). said_together (state_in super old) parts) extent_parts_same

  rules_same : places_failure super (super_in new first_place) (super_in new second_place) (length new) ≡ None
      → KeepsRules super new
  rules_same places = record {
    places = places;
    roots = all_roots_same ∙ rules.roots;
    extents = extents_failure_same ∙ rules.extents;
    quotas = quotas_failure_same ∙ rules.quotas;
    files = files_failure_same ∙ rules.files;
    together = together_same ∙ rules.together;
  }

-- ---- an image by the superblock that counts

sound_by : (image : List ℕ) (super : Super) → super_of image ≡ Some super → image_failure super image ≡ None
    → IsSound image
unfolding verdict
sound_by image super counts none = rw counts none

pub rules_by : (image : List ℕ) (super : Super) → super_of image ≡ Some super → IsSound image
    → image_failure super image ≡ None
unfolding verdict
rules_by image super counts sound = rw counts at sound

tests_kept : (long mirrored : Bool) (n : ℕ) → long ≡ true → mirrored ≡ true
    → first_failure (unless long rule.Length n ∷ unless mirrored rule.Mirror second_place ∷ []) ≡ None
tests_kept true true n is_long is_mirrored = refl
tests_kept true false n is_long is_mirrored = absurd cc
tests_kept false mirrored n is_long is_mirrored = absurd cc

places_kept : (super : Super) (image : List ℕ) → total_bytes (sizes_of super) ≤ length image
    → are_mirrored (super_in image first_place) (super_in image second_place) ≡ true
    → places_failure super (super_in image first_place) (super_in image second_place) (length image) ≡ None
places_kept super image long mirrored =
    tests_kept (nat_le (total_bytes (sizes_of super)) (length image))
    (are_mirrored (super_in image first_place) (super_in image second_place)) (length image)
    (le-leb (total_bytes (sizes_of super)) (length image) long) mirrored

-- a sound image is as long as its superblock says, and its superblocks are no two that differ
pub record IsLongAndMirrored (super : Super) (image : List ℕ) : Type 0 where
  pub long : total_bytes (sizes_of super) ≤ length image
  pub mirrored : are_mirrored (super_in image first_place) (super_in image second_place) ≡ true

kept_test : (long mirrored : Bool) (n : ℕ)
    → first_failure (unless long rule.Length n ∷ unless mirrored rule.Mirror second_place ∷ []) ≡ None
    → (long ≡ true) × (mirrored ≡ true)
kept_test true true n none = (refl, refl)
kept_test true false n none = absurd cc
kept_test false mirrored n none = absurd cc

pub sound_places : (image : List ℕ) (super : Super) → super_of image ≡ Some super → IsSound image
    → IsLongAndMirrored super image
sound_places image super counts sound =
    let rules = keeps_rules super image (rules_by image super counts sound) in
    let tests = kept_test (nat_le (total_bytes (sizes_of super)) (length image))
    (are_mirrored (super_in image first_place) (super_in image second_place))
    (length image) rules.places in
    record { long = leb-true (total_bytes (sizes_of super)) (length image) tests.0; mirrored = tests.1 }

pub reads_what_is_held : ReadsWhatIsHeld
reads_what_is_held state image other stands has =
    let super = stands.super in
    let rules = keeps_rules super image (rules_by image super stands.chosen stands.sound) in
    let found : (address : ℕ) → Contains (state_in super image).held.nodes address
    → node_found super other address ≡ node_found super image address =
    λ address held. has.found address (subst (λ (s : State). Contains s.held.nodes address) (sym stands.stands) held) in
    let kept = rules_same super image other rules found (places_kept super other has.long has.mirrored) in
    record {
      sound = sound_by other super has.counts (breaks_none super other kept);
      super = super;
      chosen = has.counts;
      stands = stands.stands ∙ sym (state_same super image other rules found);
    }
