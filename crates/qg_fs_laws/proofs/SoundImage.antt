-- What a verdict without a failure says of an image, part by part.
use Rattle.std.proofs.Common.{◌≡◌, ℕ, ◌≤◌, true, List, [], ◌∷◌, map, length, Option, Some, None, refl, ap, subst, ◌∙◌}
use Rattle.std.specs.Prelude.{is_some, nat_le, IsTrue}
use Rattle.std.specs.List.{AllByRecursion, list_all, list_any}
use Rattle.std.specs.Option.{option_map}
use Rattle.std.proofs.lemmas.Bool.{and_from, and_parts, leb-true}
use Rattle.std.proofs.lemmas.Option.{same_Some}
use Rattle.qg_num.specs.declared.rule.Rule.TheVariants as rule
use Rattle.qg_node.specs.declared.item.Item.{Item}
use Rattle.qg_items.specs.declared.root.RootItem.{RootItem}
use Rattle.qg_items.specs.declared.tree.TheConstants.{EXTENT_TREE, QUOTA_TREE, TOP_LEVEL}
use Rattle.qg_super.specs.declared.superblock.Super.{Super}
use Rattle.qg_super.specs.Places.{first_place, is_served, second_place, total_bytes}
use Rattle.qg_super.specs.SuperText.{is_super, sizes_of}
use Rattle.qg_image.specs.FilesOf.{are_files, file_parts, files_in, files_of, is_file_item, AreItemsOfFiles}
use Rattle.qg_image.specs.ItemMeaning.{extent_part_stamps, is_subvolume_number}
use Rattle.qg_image.specs.Table.{has_key, value_at}
use Rattle.qg_image.specs.declared.part.ExtentPart.{ExtentPart}
use Rattle.qg_image.specs.declared.quota.Quota.{Quota}
use Rattle.qg_image.specs.Owed.{Agrees, homeless}
use Rattle.qg_image.specs.Space.{present_extents}
use Rattle.qg_image.specs.State.{layout_of}
use Rattle.qg_image.specs.declared.failure.Failure.{Failure}
use Rattle.qg_image.specs.declared.tree.TreeKind.TheVariants.{Extents, Files, Quotas, Roots}
use Rattle.qg_image.specs.Failure.{first_failure, unless}
use Rattle.qg_image.specs.ImageState.{extent_parts, items_of_root, nodes_of_root, quota_in, quota_parts}
use Rattle.qg_image.specs.ImageState.{quota_root, quota_told, root_items, root_nodes, roots_in, state_in}
use Rattle.qg_image.specs.ImageState.{subvolume_roots, super_in, super_of}
use Rattle.qg_image.specs.Verdict.{IsSound, are_roots, extent_set, fits_quota, image_failure, is_quota}
use Rattle.qg_image.specs.Verdict.{is_status_part, places_failure, quota_failure, root_failure, roots_failure}
use Rattle.qg_image.specs.Verdict.{space_failure, subvolume_failure, together_failure, verdict}
use Rattle.qg_image.specs.Walk.{are_by, is_item_of, root_expected, root_told, tree_failure}
use Rattle.qg_walk.proofs.Failures.{kept-none}
use Rattle.qg_commit_trees.specs.Opening.{IsSoundImage, IsSoundSubvolume}
use Rattle.qg_fs_laws.specs.Opening.{AreItemsOf, HoldsOthers, HoldsQuotaOf}
use Rattle.qg_fs_laws.proofs.Ascending.{roots-ascend, subvolumes-ascend, value-kept}
use Rattle.qg_fs_laws.proofs.ImageWalks.{items-ascend, items-held, items-walked, nodes-walked}
use Rattle.qg_fs_laws.proofs.OtherRecords.{dated-parts, extents-say}

-- ---- several failures

none_first : (first : Option Failure) (rest : List (Option Failure)) → first_failure (first ∷ rest) ≡ None
    → (first ≡ None) × (first_failure rest ≡ None)
none_first None rest none = (refl, none)
none_first (Some failure) rest none = absurd cc

-- ---- the verdict

no_failure : (super : Super) (image : List ℕ) → super_of image ≡ Some super → IsSound image
    → image_failure super image ≡ None
unfolding verdict
no_failure super image chosen sound = rw chosen at sound

-- what a superblock's fields say of the sizes
served_by : (super : Super) → is_super super ≡ true → is_served (sizes_of super) ≡ true
unfolding is_super
served_by super is =
    let whole = and_parts _ _ is in
    (and_parts _ _ whole.0).1

-- the extent tree and the top-level subvolume are there
roots_there : (roots : List (ℕ × RootItem)) → are_roots roots ≡ true
    → (has_key EXTENT_TREE roots ≡ true) × (has_key TOP_LEVEL roots ≡ true)
unfolding are_roots
roots_there roots are = and_parts _ _ are

top_kept : (roots : List (ℕ × RootItem)) → has_key TOP_LEVEL roots ≡ true
    → has_key TOP_LEVEL (subvolume_roots roots) ≡ true
unfolding is_subvolume_number
top_kept roots has = ap (λ (o : Option RootItem). is_some o) (value-kept is_subvolume_number TOP_LEVEL refl roots) ∙ has

-- the state of quota is told, and the items of quota fit each other
fits_there : (subvolumes : List ℕ) (super : Super) (image : List ℕ)
    → is_quota subvolumes (quota_parts super image) ≡ true
    → (list_any is_status_part (quota_parts super image) ≡ true)
    × (list_all (fits_quota (quota_parts super image)) (quota_parts super image) ≡ true)
unfolding is_quota
fits_there subvolumes super image is = and_parts _ _ (and_parts _ _ is).0

-- items that a subvolume's tree may hold, and that keep the rule `file`, are read as files
files_read : (generation : ℕ) (items : List Item) → list_all (is_item_of Files generation) items ≡ true
    → are_files (file_parts items) ≡ true → AreItemsOfFiles generation items (files_in (file_parts items))
unfolding files_of is_item_of
files_read generation items held are =
    rw (and_from (list_all (is_file_item generation) items) (are_files (file_parts items)) held are) refl

some_value : (o : Option RootItem) → is_some o ≡ true → (root : RootItem) × (o ≡ Some root)
some_value None some = absurd cc
some_value (Some root) some = (root, refl)

module _ (super : Super) (image : List ℕ) (sound : IsSound image) (chosen : super_of image ≡ Some super) where
  -- the parts of the verdict, in their order
  record HasNone : Type 0 where
    places : places_failure super (super_in image first_place) (super_in image second_place) (length image) ≡ None
    roots : roots_failure super image ≡ None
    extents : root_failure Extents super image (value_at EXTENT_TREE (roots_in super image)) ≡ None
    quotas : quota_failure super image (roots_in super image) (value_at QUOTA_TREE (roots_in super image)) ≡ None
    subvolumes : first_failure (map (λ entry. subvolume_failure super image entry.1)
        (subvolume_roots (roots_in super image))) ≡ None
    together : together_failure super image ≡ None

  none : HasNone
  unfolding image_failure
  none =
      let first = none_first _ _ (no_failure super image chosen sound) in
      let second = none_first _ _ first.1 in
      let third = none_first _ _ second.1 in
      let fourth = none_first _ _ third.1 in
      let fifth = none_first _ _ fourth.1 in
      record {
        places = first.0;
        roots = second.0;
        extents = third.0;
        quotas = fourth.0;
        subvolumes = fifth.0;
        together = (none_first _ _ fifth.1).0;
      }

  long : total_bytes (sizes_of super) ≤ length image
  long =
      let first = none_first (unless (nat_le (total_bytes (sizes_of super)) (length image)) rule.Length (length image))
      _ none.places in
      leb-true (total_bytes (sizes_of super)) (length image)
      (kept-none (nat_le (total_bytes (sizes_of super)) (length image)) rule.Length (length image) first.0)

  space : space_failure (sizes_of super) (extent_set (present_extents (state_in super image))) ≡ None
  space = (none_first (space_failure (sizes_of super) (extent_set (present_extents (state_in super image)))) _
      none.together).0

  root_walked : tree_failure Roots super image (root_expected None None) super.root ≡ None
  root_walked = (none_first (tree_failure Roots super image (root_expected None None) super.root) _ none.roots).0

  trees_there : (has_key EXTENT_TREE (roots_in super image) ≡ true) × (has_key TOP_LEVEL (roots_in super image) ≡ true)
  trees_there =
      let behind = none_first (tree_failure Roots super image (root_expected None None) super.root) _ none.roots in
      let next = none_first (unless (are_roots (roots_in super image)) rule.Root super.root) _ behind.1 in
      roots_there (roots_in super image) (kept-none (are_roots (roots_in super image)) rule.Root super.root next.0)

  root_tree : AreItemsOf Roots super.generation (root_nodes super image)
      (root_items super image)
  root_tree = items-held Roots super image (root_expected None None) super.root root_walked

  -- ---- the extent tree

  extent_tree : (root : RootItem) × (value_at EXTENT_TREE (roots_in super image) ≡ Some root)
  extent_tree = some_value (value_at EXTENT_TREE (roots_in super image)) trees_there.0

  extent_items : AreItemsOf Extents super.generation (nodes_of_root Extents super image extent_tree.0)
      (items_of_root Extents super image extent_tree.0)
  extent_items =
      let walked : tree_failure Extents super image (root_told extent_tree.0) extent_tree.0.bytenr ≡ None =
      subst (λ (o : Option RootItem). root_failure Extents super image o ≡ None) extent_tree.1 none.extents in
      items-held Extents super image (root_told extent_tree.0) extent_tree.0.bytenr walked

  -- no record of the extent tree is of a generation past the superblock's
  pub image-dated : list_all (λ part. are_by super.generation (extent_part_stamps part)) (extent_parts super image)
      ≡ true
  image-dated =
      ap (list_all (λ (told : ExtentPart). are_by super.generation (extent_part_stamps told)))
      (extents-say super image extent_tree.0 extent_tree.1)
      ∙ dated-parts super.generation (items_of_root Extents super image extent_tree.0) extent_items.held

  -- ---- the subvolumes

  -- one of them
  sound_one : (root : RootItem) → subvolume_failure super image root ≡ None → IsSoundSubvolume super image root
  sound_one root passes =
      let items = items_of_root Files super image root in
      let walked = none_first (tree_failure Files super image (root_told root) root.bytenr) _ passes in
      let file = none_first (unless (are_files (file_parts items)) rule.File root.bytenr) [] walked.1 in
      let held = (items-held Files super image (root_told root) root.bytenr walked.0).held in
      record {
        walked = walked.0;
        items = items-walked Files super image (root_told root) root.bytenr walked.0;
        nodes = nodes-walked Files super image (root_told root) root.bytenr walked.0;
        held = held;
        files = files_in (file_parts items);
        files_are = files_read super.generation items held
            (kept-none (are_files (file_parts items)) rule.File root.bytenr file.0);
      }

  sound_each : (entries : List (ℕ × RootItem))
      → first_failure (map (λ entry. subvolume_failure super image entry.1) entries) ≡ None
      → AllByRecursion (λ entry. IsSoundSubvolume super image entry.1) entries
  sound_each [] passes = tt
  sound_each (entry ∷ entries) passes =
      let both = none_first (subvolume_failure super image entry.1) _ passes in
      (sound_one entry.1 both.0, sound_each entries both.1)

  pub image-known : IsTrue (is_super super)
      → Agrees (layout_of (state_in super image)) (extent_parts super image)
      → homeless (layout_of (state_in super image)) ≡ None → IsSoundImage super image
  image-known fields agrees home = record {
    served = served_by super fields;
    long = long;
    ascending = subvolumes-ascend super image (roots-ascend super image
        (items-ascend Roots super image (root_expected None None) super.root root_walked refl refl) root_tree.held);
    top = top_kept (roots_in super image) trees_there.1;
    each = sound_each (subvolume_roots (roots_in super image)) none.subvolumes;
    space = space;
    agrees = agrees;
    dated = image-dated;
    home = home;
  }

  -- ---- the other trees

  quota_known : (named : Option RootItem) (quota : Option Quota) → quota_root super image ≡ named
      → option_map (λ root. quota_told (quota_parts super image)) named ≡ quota → HoldsQuotaOf super image named quota
  quota_known None None there is = tt
  quota_known None (Some quota) there is = absurd cc
  quota_known (Some root) None there is = absurd cc
  quota_known (Some root) (Some quota) there is =
      let all = subst (λ (o : Option RootItem). quota_failure super image (roots_in super image) o ≡ None) there
      none.quotas in
      let first = none_first (tree_failure Quotas super image (root_told root) root.bytenr) _ all in
      let second = none_first _ _ first.1 in
      let fits = fits_there _ super image (kept-none _ rule.Quota root.bytenr second.0) in
      record {
        items = items-held Quotas super image (root_told root) root.bytenr first.0;
        status = fits.0;
        fit = fits.1;
        tell = same_Some (quota_told (quota_parts super image)) quota is;
      }

  pub others-known : (quota : Option Quota) → quota_in super image ≡ quota → HoldsOthers super image quota
  others-known quota is = record {
    roots = root_tree;
    extent_root = extent_tree.0;
    extents_named = extent_tree.1;
    extents = extent_items;
    quota_tree = quota_known (quota_root super image) quota refl is;
  }
