-- What the items of an image's root, extent and quota trees name, tree by tree.
use Rattle.std.proofs.Common.{◌≡◌, ℕ, Bool, true, List, [], ◌∷◌, ◌++◌, map, Option, Some, None, refl, sym, ap}
use Rattle.std.proofs.Common.{◌∙◌, arith}
use Rattle.std.specs.List.{cons_option, filter_map, flat_map, list_all}
use Rattle.std.proofs.lemmas.Bool.{and_from, and_parts}
use Rattle.std.proofs.lemmas.List.Concat.{flat_map-append}
use Rattle.std.proofs.lemmas.List.Elements.{filter_map-append}
use Rattle.std.proofs.lemmas.Option.{none-some}
use Rattle.qg_num.specs.declared.key.Key.{Key}
use Rattle.qg_node.specs.declared.item.Item.{Item}
use Rattle.qg_node.specs.declared.node.Node.{Node}
use Rattle.qg_node.specs.Nodes.{own_items}
use Rattle.qg_items.specs.declared.kind.TheConstants.{QGROUP_INFO, QGROUP_LIMIT, QGROUP_RELATION, QGROUP_STATUS}
use Rattle.qg_items.specs.declared.kind.TheConstants.{ROOT_ITEM}
use Rattle.qg_items.specs.declared.root.RootItem.{RootItem}
use Rattle.qg_items.specs.declared.tree.TheConstants.{EXTENT_TREE}
use Rattle.qg_super.specs.declared.superblock.Super.{Super}
use Rattle.qg_image.specs.Table.{value_at}
use Rattle.qg_image.specs.declared.part.ExtentPart.{ExtentPart}
use Rattle.qg_image.specs.declared.part.QuotaPart.{QuotaPart}
use Rattle.qg_image.specs.declared.part.QuotaPart.TheVariants as part
use Rattle.qg_image.specs.ItemMeaning.{extent_part, extent_part_stamps, quota_part, root_part, some_passes}
use Rattle.qg_tree_items.specs.Keys.{quota_key}
use Rattle.qg_tree_items.proofs.KeysOfParts.{quota_keyed, root_keyed}
use Rattle.qg_image.specs.declared.quota.Quota.{Quota}
use Rattle.qg_image.specs.Need.{held_records}
use Rattle.qg_image.specs.Record.{Record, RootOf, extent_record, quota_record, record_named}
use Rattle.qg_image.specs.declared.tree.TreeKind.TheVariants.{Extents, Quotas, Roots}
use Rattle.qg_image.specs.ImageState.{extent_parts, items_of_root, nodes_of_root, of_tree, other_nodes, quota_parts}
use Rattle.qg_image.specs.ImageState.{quota_root, root_items, root_nodes, roots_in, state_in}
use Rattle.qg_image.specs.Walk.{are_by, is_item_of}
use Rattle.qg_fs_laws.specs.Opening.{HoldsOthers, HoldsQuotaOf}

-- ---- what an item says that its tree may hold

some_of : {P : Type 0} (test : P → Bool) (o : Option P) → some_passes test o ≡ true
    → (x : P) × (o ≡ Some x) × (test x ≡ true)
some_of test None passes = absurd cc
some_of test (Some x) passes = (x, refl, passes)

pub root-said : (generation : ℕ) (item : Item) → is_item_of Roots generation item ≡ true
    → (part : ℕ × RootItem) × (root_part item ≡ Some part)
unfolding is_item_of
root-said generation item may = let found = some_of _ (root_part item) may in (found.0, found.1)

extent_said : (generation : ℕ) (item : Item) → is_item_of Extents generation item ≡ true
    → (part : ExtentPart) × (extent_part item ≡ Some part) × (are_by generation (extent_part_stamps part) ≡ true)
unfolding is_item_of
extent_said generation item may = some_of _ (extent_part item) may

quota_said : (generation : ℕ) (item : Item) → is_item_of Quotas generation item ≡ true
    → (part : QuotaPart) × (quota_part item ≡ Some part)
unfolding is_item_of
quota_said generation item may = let found = some_of _ (quota_part item) may in (found.0, found.1)

-- ---- an item of one tree is none of another

no_extent_root : (item : Item) → item.key.kind ≡ ROOT_ITEM → extent_part item ≡ None
unfolding extent_part
no_extent_root item is = rw is refl

no_extent_status : (item : Item) → item.key.kind ≡ QGROUP_STATUS → extent_part item ≡ None
unfolding extent_part
no_extent_status item is = rw is refl

no_extent_info : (item : Item) → item.key.kind ≡ QGROUP_INFO → extent_part item ≡ None
unfolding extent_part
no_extent_info item is = rw is refl

no_extent_limit : (item : Item) → item.key.kind ≡ QGROUP_LIMIT → extent_part item ≡ None
unfolding extent_part
no_extent_limit item is = rw is refl

no_extent_relation : (item : Item) → item.key.kind ≡ QGROUP_RELATION → extent_part item ≡ None
unfolding extent_part
no_extent_relation item is = rw is refl

root_kind : (item : Item) (entry : ℕ × RootItem) → root_part item ≡ Some entry → item.key.kind ≡ ROOT_ITEM
root_kind item entry is = ap (λ (key : Key). key.kind) (sym (root_keyed item entry is))

quota_kind : (item : Item) (told : QuotaPart) → quota_part item ≡ Some told → item.key.kind ≡ (quota_key told).kind
quota_kind item told is = ap (λ (key : Key). key.kind) (sym (quota_keyed item told is))

no_root_extent : (item : Item) (told : ExtentPart) → extent_part item ≡ Some told → root_part item ≡ None
no_root_extent item told is = from (root_part item) refl where
  from : (o : Option (ℕ × RootItem)) → root_part item ≡ o → o ≡ None
  from None root = refl
  from (Some entry) root =
      absurd (none-some told (sym (no_extent_root item (root_kind item entry root)) ∙ is))

other_kind : (told : QuotaPart) → (quota_key told).kind ≡ ROOT_ITEM → ⊥
other_kind (part.Status status) is = omega (arith, is)
other_kind (part.Info group info) is = omega (arith, is)
other_kind (part.Limits group limit) is = omega (arith, is)
other_kind (part.Relation group other) is = omega (arith, is)

no_root_quota : (item : Item) (told : QuotaPart) → quota_part item ≡ Some told → root_part item ≡ None
no_root_quota item told is = from (root_part item) refl where
  from : (o : Option (ℕ × RootItem)) → root_part item ≡ o → o ≡ None
  from None root = refl
  from (Some entry) root =
      absurd (other_kind told (sym (quota_kind item told is) ∙ root_kind item entry root))

no_extent_kind : (item : Item) (told : QuotaPart) → item.key.kind ≡ (quota_key told).kind → extent_part item ≡ None
no_extent_kind item (part.Status status) is = no_extent_status item is
no_extent_kind item (part.Info group info) is = no_extent_info item is
no_extent_kind item (part.Limits group limit) is = no_extent_limit item is
no_extent_kind item (part.Relation group other) is = no_extent_relation item is

-- ---- what each names

root_names : (item : Item) (entry : ℕ × RootItem) → root_part item ≡ Some entry
    → record_named item ≡ Some (RootOf entry.0)
unfolding record_named
root_names item entry is = rw is refl

extent_names : (item : Item) (told : ExtentPart) → extent_part item ≡ Some told
    → record_named item ≡ Some (extent_record told)
unfolding record_named
extent_names item told is = rw (no_root_extent item told is, is) refl

quota_names : (item : Item) (told : QuotaPart) → quota_part item ≡ Some told
    → record_named item ≡ Some (quota_record told)
unfolding record_named
quota_names item told is =
    rw (no_root_quota item told is, no_extent_kind item told (quota_kind item told is), is) refl

module _ {P : Type 0} (meaning : Item → Option P) (record_of : P → Record) (may : Item → Bool)
    (says : (item : Item) → may item ≡ true → (x : P) × (meaning item ≡ Some x))
    (names : (item : Item) (x : P) → meaning item ≡ Some x → record_named item ≡ Some (record_of x)) where
  all_named : (items : List Item) → list_all may items ≡ true
      → filter_map record_named items ≡ map record_of (filter_map meaning items)
  all_named [] each = refl
  all_named (item ∷ items) each =
      let both = and_parts (may item) (list_all may items) each in
      let its = says item both.0 in
      ap (λ (o : Option Record). cons_option o (filter_map record_named items)) (names item its.0 its.1)
      ∙ ap (λ (records : List Record). record_of its.0 ∷ records) (all_named items both.1)
      ∙ ap (λ (o : Option P). map record_of (cons_option o (filter_map meaning items))) (sym its.1)

-- ---- the trees of an image

abbrev pub entry_record : ℕ × RootItem → Record
entry_record entry = RootOf entry.0

others-there : (super : Super) (image : List ℕ) → (state_in super image).held.others ≡ other_nodes super image
unfolding state_in
others-there super image = refl

pub extents-say : (super : Super) (image : List ℕ) (root : RootItem)
    → value_at EXTENT_TREE (roots_in super image) ≡ Some root
    → extent_parts super image ≡ filter_map extent_part (items_of_root Extents super image root)
unfolding extent_parts
extents-say super image root named = rw named refl

-- the nodes of the quota tree, and none while quota is off
abbrev quota_nodes : Super → List ℕ → List Node
quota_nodes super image = of_tree (nodes_of_root Quotas super image) (quota_root super image)

-- the items of the quota tree, and what they name; none while quota is off
record QuotaItems (super : Super) (image : List ℕ) : Type 0 where
  items : List Item
  stand : items ≡ flat_map own_items (quota_nodes super image)
  records : filter_map record_named items ≡ map quota_record (quota_parts super image)

no_parts : (super : Super) (image : List ℕ) → quota_root super image ≡ None → quota_parts super image ≡ []
unfolding quota_parts
no_parts super image is = rw is refl

quotas_say : (super : Super) (image : List ℕ) (root : RootItem) → quota_root super image ≡ Some root
    → quota_parts super image ≡ filter_map quota_part (items_of_root Quotas super image root)
unfolding quota_parts
quotas_say super image root is = rw is refl

quota_items : (super : Super) (image : List ℕ) (named : Option RootItem) (quota : Option Quota)
    → quota_root super image ≡ named → HoldsQuotaOf super image named quota → QuotaItems super image
quota_items super image None None is holds = record {
  items = [];
  stand = ap (λ (o : Option RootItem). flat_map own_items (of_tree (nodes_of_root Quotas super image) o)) (sym is);
  records = ap (map quota_record) (sym (no_parts super image is));
}
quota_items super image None (Some quota) is holds = absurd holds
quota_items super image (Some root) None is holds = absurd holds
quota_items super image (Some root) (Some quota) is holds = record {
  items = items_of_root Quotas super image root;
  stand = holds.items.stand
      ∙ ap (λ (o : Option RootItem). flat_map own_items (of_tree (nodes_of_root Quotas super image) o)) (sym is);
  records = all_named quota_part quota_record (is_item_of Quotas super.generation) (quota_said super.generation)
      quota_names (items_of_root Quotas super image root) holds.items.held
      ∙ ap (map quota_record) (sym (quotas_say super image root is));
}

module _ (super : Super) (image : List ℕ) (quota : Option Quota) (holds : HoldsOthers super image quota) where
  quotas : QuotaItems super image
  quotas = quota_items super image (quota_root super image) quota refl holds.quota_tree

  nodes_there : other_nodes super image ≡ root_nodes super image
      ++ nodes_of_root Extents super image holds.extent_root ++ quota_nodes super image
  nodes_there =
      ap (λ (o : Option RootItem). root_nodes super image ++ of_tree (nodes_of_root Extents super image) o
      ++ quota_nodes super image) holds.extents_named

  items_there : flat_map own_items (other_nodes super image) ≡ root_items super image
      ++ items_of_root Extents super image holds.extent_root ++ quotas.items
  items_there =
      ap (flat_map own_items) nodes_there
      ∙ flat_map-append own_items (root_nodes super image ++ nodes_of_root Extents super image holds.extent_root)
      (quota_nodes super image)
      ∙ ap (λ (items : List Item). items ++ flat_map own_items (quota_nodes super image))
      (flat_map-append own_items (root_nodes super image) (nodes_of_root Extents super image holds.extent_root))
      ∙ rw (← holds.roots.stand, ← holds.extents.stand, ← quotas.stand) refl

  extents_there : extent_parts super image
      ≡ filter_map extent_part (items_of_root Extents super image holds.extent_root)
  extents_there = extents-say super image holds.extent_root holds.extents_named

  roots_say : roots_in super image ≡ filter_map root_part (root_items super image)
  unfolding roots_in
  roots_say = refl

  root_records_there : filter_map record_named (root_items super image) ≡ map entry_record (roots_in super image)
  root_records_there =
      all_named root_part entry_record (is_item_of Roots super.generation) (root-said super.generation) root_names
      (root_items super image) holds.roots.held
      ∙ ap (map entry_record) (sym roots_say)

  extent_records_there : filter_map record_named (items_of_root Extents super image holds.extent_root)
      ≡ map extent_record (extent_parts super image)
  extent_records_there =
      all_named extent_part extent_record (is_item_of Extents super.generation)
      (λ item may. let said = extent_said super.generation item may in (said.0, said.1)) extent_names
      (items_of_root Extents super image holds.extent_root) holds.extents.held
      ∙ ap (map extent_record) (sym extents_there)

  -- what the last commit's items name
  pub records-there : held_records (state_in super image).held
      ≡ map entry_record (roots_in super image) ++ map extent_record (extent_parts super image)
      ++ map quota_record (quota_parts super image)
  unfolding held_records
  records-there =
      ap (λ (nodes : List Node). filter_map record_named (flat_map own_items nodes)) (others-there super image)
      ∙ ap (filter_map record_named) items_there
      ∙ filter_map-append record_named
      (root_items super image ++ items_of_root Extents super image holds.extent_root) quotas.items
      ∙ ap (λ (records : List Record). records ++ filter_map record_named quotas.items)
      (filter_map-append record_named (root_items super image)
      (items_of_root Extents super image holds.extent_root))
      ∙ rw (root_records_there, extent_records_there, quotas.records) refl

-- ---- generations

-- no record of the extent tree's items is of a generation past the one by which the tree may hold them
pub dated-parts : (generation : ℕ) (items : List Item) → list_all (is_item_of Extents generation) items ≡ true
    → list_all (λ part. are_by generation (extent_part_stamps part)) (filter_map extent_part items) ≡ true
dated-parts generation [] each = refl
dated-parts generation (item ∷ items) each =
    let both = and_parts (is_item_of Extents generation item) (list_all (is_item_of Extents generation) items) each in
    let its = extent_said generation item both.0 in
    let later = dated-parts generation items both.1 in
    ap (λ (o : Option ExtentPart). list_all (λ (told : ExtentPart). are_by generation (extent_part_stamps told))
    (cons_option o (filter_map extent_part items))) its.1
    ∙ and_from (are_by generation (extent_part_stamps its.0)) _ its.2 later
