-- What the last commit of a sound image names besides the extent tree's records: the trees, groups and relations that
-- there are.
use Rattle.std.proofs.Common.{◌≡◌, ℕ, ◌<◌, ◌≤◌, Bool, true, false, List, [], ◌∷◌, map, Option, Some, None, refl, sym}
use Rattle.std.proofs.Common.{ap, arith, subst, ◌∙◌, inl, inr}
use Rattle.std.specs.Prelude.{◌||◌, ◌==◌, is_some, nat_lt}
use Rattle.std.specs.Bool.{then_some}
use Rattle.std.specs.List.{Contains, filter_map, list_all, list_any}
use Rattle.std.proofs.lemmas.Bool.{and_parts, cases_Bool, cond-false, cond-true, eq-eqb, eqb-true, lt-ltb, ltb-false}
use Rattle.std.proofs.lemmas.Bool.{not-true, or_cases}
use Rattle.std.proofs.lemmas.Bool.{or_left, or_right, true≢false}
use Rattle.std.proofs.lemmas.Option.{none-some, option_and_then_some, same_Some}
use Rattle.qg_node.specs.declared.item.Item.{Item}
use Rattle.qg_items.specs.declared.quota.QgroupInfo.{QgroupInfo}
use Rattle.qg_items.specs.declared.quota.QgroupLimit.{QgroupLimit}
use Rattle.qg_items.specs.declared.root.RootItem.{RootItem}
use Rattle.qg_items.specs.declared.tree.TheConstants.{EXTENT_TREE, QUOTA_TREE}
use Rattle.qg_items.specs.ItemReading.{root_read}
use Rattle.qg_items.proofs.Trips.{then_some_parts}
use Rattle.qg_super.specs.declared.superblock.Super.{Super}
use Rattle.qg_image.specs.ItemMeaning.{is_subvolume_number, root_part, when}
use Rattle.qg_image.specs.Table.{keys_of, value_at}
use Rattle.qg_image.specs.declared.part.QuotaPart.{QuotaPart}
use Rattle.qg_image.specs.declared.part.QuotaPart.TheVariants as part
use Rattle.qg_image.specs.declared.quota.Group.{Group}
use Rattle.qg_image.specs.declared.quota.Quota.{Quota}
use Rattle.qg_image.specs.Members.{level_of_group}
use Rattle.qg_image.specs.Need.{held_records, quota_records, root_records}
use Rattle.qg_image.specs.Record.{Record, RootOf, InfoOf, LimitOf, RelationOf, Status, extent_record, quota_record}
use Rattle.qg_image.proofs.Contained.{contains_cases, contains_here, contains_later, none_contained}
use Rattle.qg_owner_rule.proofs.Reaching.{entry_of_value}
use Rattle.qg_backref_rule.proofs.Filters.{contains_kept, kept_contains}
use Rattle.qg_image.specs.ImageState.{extent_parts, group_told, info_told, limit_told, pair_told, quota_in}
use Rattle.qg_image.specs.ImageState.{quota_parts, quota_root, quota_told, root_items, roots_in, state_in}
use Rattle.qg_image.specs.ImageState.{subvolume_in}
use Rattle.qg_image.specs.ImageState.{subvolume_roots, subvolumes_in}
use Rattle.qg_image.specs.Verdict.{fits_quota, has_twin, is_status_part}
use Rattle.qg_weighed.specs.Laws.{is_among, is_of_extents}
use Rattle.qg_weighed.proofs.Layouts.{bool-iff, in-named, named-in}
use Rattle.qg_weighed.proofs.Trees.{Are, are-both, none-named, quota-are, root-are}
use Rattle.qg_file_edits.proofs.Lists.{from-mapped, from-some, has-mapped, made-some}
use Rattle.qg_fs_laws.specs.Keeping.{NamesOthers, other_names}
use Rattle.qg_fs_laws.specs.Opening.{HoldsOthers, HoldsQuota, HoldsQuotaOf}
use Rattle.qg_fs_laws.proofs.Naming.{NamesEach, NamesQuota, among-has, extents-named, group-named, has-among}
use Rattle.qg_fs_laws.proofs.Naming.{named-among, names-are, names_by, pair-named, quota-among, quota-named}
use Rattle.qg_fs_laws.proofs.Naming.{quota-tree-named, quota_names, quota_tree_names, status-named, subvolume-named}
use Rattle.qg_fs_laws.proofs.OpenedRecords.{among-held, extents_other}
use Rattle.qg_fs_laws.proofs.OtherRecords.{entry_record}

-- ---- the root tree

when_parts : {A : Type 0} (b : Bool) (o : Option A) (x : A) → when b o ≡ Some x → (b ≡ true) × (o ≡ Some x)
when_parts true o x is = (refl, is)
when_parts false o x is = absurd (none-some x is)

-- a tree that the root tree may name
abbrev IsNamed : ℕ → Type 0
IsNamed tree = ((tree == EXTENT_TREE) || (tree == QUOTA_TREE) || is_subvolume_number tree) ≡ true

root_named : (item : Item) (entry : ℕ × RootItem) → root_part item ≡ Some entry → IsNamed entry.0
unfolding root_part
root_named item entry is =
    let given = when_parts _ _ entry is in
    let tests = and_parts _ _ given.0 in
    option_and_then_some _ (root_read item.body) entry given.1
    (λ root read told.
    subst (λ (tree : ℕ). IsNamed tree)
    (ap (λ (e : ℕ × RootItem). e.0) (then_some_parts _ (item.key.objectid, root) entry told).1) tests.1)

-- ---- the quota tree

keyed : {A : Type 0} (o : Option A) → is_some o ≡ true → (x : A) × (o ≡ Some x)
keyed None some = absurd cc
keyed (Some x) some = (x, refl)

-- the parts that tell a group's counters, its limits, and a relation
info_part : (told : QuotaPart) (entry : ℕ × QgroupInfo) → info_told told ≡ Some entry
    → told ≡ part.Info entry.0 entry.1
info_part (part.Status status) entry is = absurd (none-some entry is)
info_part (part.Info group info) entry is =
    ap (λ (e : ℕ × QgroupInfo). part.Info e.0 e.1) (same_Some (group, info) entry is)
info_part (part.Limits group limit) entry is = absurd (none-some entry is)
info_part (part.Relation group other) entry is = absurd (none-some entry is)

limit_part : (told : QuotaPart) (entry : ℕ × QgroupLimit) → limit_told told ≡ Some entry
    → told ≡ part.Limits entry.0 entry.1
limit_part (part.Status status) entry is = absurd (none-some entry is)
limit_part (part.Info group info) entry is = absurd (none-some entry is)
limit_part (part.Limits group limit) entry is =
    ap (λ (e : ℕ × QgroupLimit). part.Limits e.0 e.1) (same_Some (group, limit) entry is)
limit_part (part.Relation group other) entry is = absurd (none-some entry is)

pair_part : (told : QuotaPart) (pair : ℕ × ℕ) → pair_told told ≡ Some pair → told ≡ part.Relation pair.0 pair.1
pair_part (part.Status status) pair is = absurd (none-some pair is)
pair_part (part.Info group info) pair is = absurd (none-some pair is)
pair_part (part.Limits group limit) pair is = absurd (none-some pair is)
pair_part (part.Relation group other) pair is =
    ap (λ (p : ℕ × ℕ). part.Relation p.0 p.1)
    (then_some_parts (nat_lt (level_of_group group) (level_of_group other)) (group, other) pair is).1

pair_lesser : (group other : ℕ) → level_of_group group < level_of_group other
    → pair_told (part.Relation group other) ≡ Some (group, other)
pair_lesser group other less =
    ap (λ (b : Bool). then_some b (group, other)) (lt-ltb (level_of_group group) (level_of_group other) less)

-- the numbers of groups
abbrev group_by : List QuotaPart → ℕ × QgroupInfo → Group
group_by parts entry = group_told entry.1 (value_at entry.0 (filter_map limit_told parts))

keys_made : {A B : Type 0} (f : ℕ × A → B) (entries : List (ℕ × A))
    → keys_of (map (λ (entry : ℕ × A). (entry.0, f entry)) entries) ≡ keys_of entries
keys_made f [] = refl
keys_made {A} f (entry ∷ entries) = ap (λ (keys : List ℕ). entry.0 ∷ keys) (keys_made {A = A} f entries)

groups_are : (parts : List QuotaPart) → keys_of (quota_told parts).groups ≡ keys_of (filter_map info_told parts)
unfolding quota_told
groups_are parts = keys_made (group_by parts) (filter_map info_told parts)

pairs_are : (parts : List QuotaPart) → (quota_told parts).pairs ≡ filter_map pair_told parts
unfolding quota_told
pairs_are parts = refl

each_fits : (test : QuotaPart → Bool) (parts : List QuotaPart) (told : QuotaPart) → list_all test parts ≡ true
    → Contains parts told → test told ≡ true
each_fits test [] told all has = absurd (none_contained told has)
each_fits test (first ∷ parts) told all has =
    let both = and_parts (test first) (list_all test parts) all in
    elim (contains_cases first parts told has) [
      | inl same ↦ ap test (sym same) ∙ both.0
      | inr later ↦ each_fits test parts told both.1 later
    ]

-- a twin is there
twin_part : (parts : List QuotaPart) (group other : ℕ) → has_twin parts group other ≡ true
    → Contains parts (part.Relation other group)
twin_part [] group other has = absurd cc
twin_part (part.Status status ∷ parts) group other has =
    contains_later (part.Status status) parts (part.Relation other group) (twin_part parts group other has)
twin_part (part.Info told info ∷ parts) group other has =
    contains_later (part.Info told info) parts (part.Relation other group) (twin_part parts group other has)
twin_part (part.Limits told limit ∷ parts) group other has =
    contains_later (part.Limits told limit) parts (part.Relation other group) (twin_part parts group other has)
twin_part (part.Relation lower higher ∷ parts) group other has = elim (or_cases _ _ has) [
  | inl here ↦
      let both = and_parts (lower == other) (higher == group) here in
      let same : part.Relation lower higher ≡ part.Relation other group =
      ap (λ (n : ℕ). part.Relation n higher) (eqb-true lower other both.0)
      ∙ ap (λ (n : ℕ). part.Relation other n) (eqb-true higher group both.1) in
      subst (λ (told : QuotaPart). Contains (part.Relation lower higher ∷ parts) told) same
      (contains_here (part.Relation lower higher) parts)
  | inr later ↦
      contains_later (part.Relation lower higher) parts (part.Relation other group)
      (twin_part parts group other later)
]

-- the state of quota is named where it is told
status_named : (parts : List QuotaPart) → list_any is_status_part parts ≡ true
    → is_among (map quota_record parts) Status ≡ true
status_named [] told = absurd cc
status_named (part.Status status ∷ parts) told = refl
status_named (part.Info group info ∷ parts) told = status_named parts told
status_named (part.Limits group limit ∷ parts) told = status_named parts told
status_named (part.Relation group other ∷ parts) told = status_named parts told

module _ (parts : List QuotaPart) (fit : list_all (fits_quota parts) parts ≡ true) where
  -- a group that is listed has counters and limits
  group_info : (group : ℕ) → Contains (keys_of (filter_map info_told parts)) group
      → (info : QgroupInfo) × Contains parts (part.Info group info)
  group_info group has =
      let entry = from-mapped (λ (e : ℕ × QgroupInfo). e.0) (filter_map info_told parts) group has in
      let found = from-some info_told parts entry.0 entry.1 in
      let is : found.0 ≡ part.Info group entry.0.1 =
      info_part found.0 entry.0 found.2 ∙ ap (λ (n : ℕ). part.Info n entry.0.1) entry.2 in
      (entry.0.1, subst (λ (told : QuotaPart). Contains parts told) is found.1)

  group_limit : (group : ℕ) → Contains (keys_of (filter_map info_told parts)) group
      → (limit : QgroupLimit) × Contains parts (part.Limits group limit)
  group_limit group has =
      let info = group_info group has in
      let fits = each_fits (fits_quota parts) parts (part.Info group info.0) fit info.1 in
      let value = keyed (value_at group (filter_map limit_told parts)) (and_parts _ _ (and_parts _ _ fits).0).0 in
      let found = from-some limit_told parts (group, value.0)
      (entry_of_value group value.0 (filter_map limit_told parts) value.1) in
      let is : found.0 ≡ part.Limits group value.0 = limit_part found.0 (group, value.0) found.2 in
      (value.0, subst (λ (told : QuotaPart). Contains parts told) is found.1)

  -- and whatever has counters or limits is listed
  info_group : (group : ℕ) (info : QgroupInfo) → Contains parts (part.Info group info)
      → Contains (keys_of (filter_map info_told parts)) group
  info_group group info has =
      has-mapped (λ (e : ℕ × QgroupInfo). e.0) (filter_map info_told parts) (group, info)
      (made-some info_told parts (part.Info group info) (group, info) has refl)

  limit_group : (group : ℕ) (limit : QgroupLimit) → Contains parts (part.Limits group limit)
      → Contains (keys_of (filter_map info_told parts)) group
  limit_group group limit has =
      let fits = each_fits (fits_quota parts) parts (part.Limits group limit) fit has in
      let value = keyed (value_at group (filter_map info_told parts)) (and_parts _ _ fits).0 in
      has-mapped (λ (e : ℕ × QgroupInfo). e.0) (filter_map info_told parts) (group, value.0)
      (entry_of_value group value.0 (filter_map info_told parts) value.1)

  -- a relation stands under both its keys
  pair_there : (pair : ℕ × ℕ) → Contains (filter_map pair_told parts) pair
      → Contains parts (part.Relation pair.0 pair.1)
  pair_there pair has =
      let found = from-some pair_told parts pair has in
      subst (λ (told : QuotaPart). Contains parts told) (pair_part found.0 pair found.2) found.1

  twin_there : (group other : ℕ) → Contains parts (part.Relation group other)
      → Contains parts (part.Relation other group)
  twin_there group other has =
      let fits = and_parts _ _ (each_fits (fits_quota parts) parts (part.Relation group other) fit has) in
      twin_part parts group other (and_parts _ _ fits.0).0

  apart : (group other : ℕ) → Contains parts (part.Relation group other)
      → level_of_group group ≡ level_of_group other → ⊥
  apart group other has same =
      let fits = and_parts _ _ (each_fits (fits_quota parts) parts (part.Relation group other) fit has) in
      true≢false (sym (eq-eqb (level_of_group group) (level_of_group other) same)
      ∙ not-true (level_of_group group == level_of_group other) fits.1)

  -- of the two groups the one of lesser level is the member
  member_first : (group other : ℕ) → Contains parts (part.Relation group other)
      → level_of_group group < level_of_group other → Contains (filter_map pair_told parts) (group, other)
  member_first group other has less =
      made-some pair_told parts (part.Relation group other) (group, other) has (pair_lesser group other less)

-- ---- what quota names

-- no entry of a table stands under a number that is not there
none_listed : {A : Type 0} (n : ℕ) (table : List (ℕ × A)) (entry : ℕ × A) → value_at n table ≡ None
    → Contains table entry → entry.0 ≡ n → ⊥
none_listed n [] entry none has is = none_contained entry has
none_listed {A} n (first ∷ table) entry none has is = elim (cases_Bool (first.0 == n)) [
  | inl same ↦
      none-some first.1 (sym none ∙ cond-true (first.0 == n) (Some first.1) (value_at n table) same)
  | inr other ↦ elim (contains_cases first table entry has) [
    | inl here ↦
        true≢false (sym (eq-eqb first.0 n (ap (λ (e : ℕ × A). e.0) here ∙ is)) ∙ other)
    | inr later ↦
        none_listed n table entry (sym (cond-false (first.0 == n) (Some first.1) (value_at n table) other) ∙ none) later
        is
  ]
]

-- What is known of the items of an image's root and quota trees by this quota: these name the state of quota, its
-- groups and its relations, and all of them; and the root tree names the quota tree while quota is on
record KnowsQuota (super : Super) (image : List ℕ) (quota : Option Quota) : Type 0 where
  tree : (entry : ℕ × RootItem) → Contains (roots_in super image) entry → entry.0 ≡ QUOTA_TREE
      → Contains (quota_tree_names quota) (RootOf QUOTA_TREE)
  part : (told : QuotaPart) → Contains (quota_parts super image) told → Contains (quota_names quota) (quota_record told)
  tree_named : (one : Record) → Contains (quota_tree_names quota) one
      → is_among (map entry_record (roots_in super image)) one ≡ true
  part_named : (one : Record) → Contains (quota_names quota) one
      → is_among (map quota_record (quota_parts super image)) one ≡ true

no_parts : (super : Super) (image : List ℕ) → quota_root super image ≡ None → quota_parts super image ≡ []
unfolding quota_parts
no_parts super image is = rw is refl

module _ (super : Super) (image : List ℕ) (root : RootItem) (quota : Quota)
    (named : quota_root super image ≡ Some root) (holds : HoldsQuota super image root quota) where
  groups_there : keys_of quota.groups ≡ keys_of (filter_map info_told (quota_parts super image))
  groups_there =
      ap (λ (q : Quota). keys_of q.groups) (sym holds.tell) ∙ groups_are (quota_parts super image)

  pairs_there : quota.pairs ≡ filter_map pair_told (quota_parts super image)
  pairs_there = ap (λ (q : Quota). q.pairs) (sym holds.tell) ∙ pairs_are (quota_parts super image)

  group_there : (group : ℕ) → Contains (keys_of (filter_map info_told (quota_parts super image))) group
      → Contains (keys_of quota.groups) group
  group_there group has = subst (λ (ns : List ℕ). Contains ns group) (sym groups_there) has

  relation_there : (lower higher : ℕ) → Contains (quota_parts super image) (part.Relation lower higher)
      → Contains (quota_names (Some quota)) (RelationOf lower higher)
  relation_there lower higher has = elim (cases_Bool (nat_lt (level_of_group lower) (level_of_group higher))) [
    | inl less ↦
        pair-named quota (lower, higher) (RelationOf lower higher)
        (subst (λ (ps : List (ℕ × ℕ)). Contains ps (lower, higher)) (sym pairs_there)
        (made-some pair_told (quota_parts super image) (part.Relation lower higher) (lower, higher) has
        (ap (λ (b : Bool). then_some b (lower, higher)) less)))
        (contains_here (RelationOf lower higher) (RelationOf higher lower ∷ []))
    | inr past ↦
        let high = ltb-false (level_of_group lower) (level_of_group higher) past in
        let twin = twin_there (quota_parts super image) holds.fit lower higher has in
        let less : level_of_group higher < level_of_group lower =
        below (level_of_group higher) (level_of_group lower) high
        (λ same. apart (quota_parts super image) holds.fit lower higher has (sym same)) in
        pair-named quota (higher, lower) (RelationOf lower higher)
        (subst (λ (ps : List (ℕ × ℕ)). Contains ps (higher, lower)) (sym pairs_there)
        (member_first (quota_parts super image) holds.fit higher lower twin less))
        (contains_later (RelationOf higher lower) (RelationOf lower higher ∷ []) (RelationOf lower higher)
        (contains_here (RelationOf lower higher) []))
  ] where
    below : (a b : ℕ) → a ≤ b → (a ≡ b → ⊥) → a < b
    below a b low differ = omega arith

  part_there : (told : QuotaPart) → Contains (quota_parts super image) told
      → Contains (quota_names (Some quota)) (quota_record told)
  part_there (part.Status status) has = status-named quota
  part_there (part.Info group info) has =
      group-named quota group (InfoOf group)
      (group_there group (info_group (quota_parts super image) holds.fit group info has))
      (contains_here (InfoOf group) (LimitOf group ∷ []))
  part_there (part.Limits group limit) has =
      group-named quota group (LimitOf group)
      (group_there group (limit_group (quota_parts super image) holds.fit group limit has))
      (contains_later (InfoOf group) (LimitOf group ∷ []) (LimitOf group) (contains_here (LimitOf group) []))
  part_there (part.Relation lower higher) has = relation_there lower higher has

  listed_group : (group : ℕ) → Contains (keys_of quota.groups) group
      → Contains (keys_of (filter_map info_told (quota_parts super image))) group
  listed_group group has = subst (λ (ns : List ℕ). Contains ns group) groups_there has

  listed_pair : (pair : ℕ × ℕ) → Contains quota.pairs pair
      → Contains (quota_parts super image) (part.Relation pair.0 pair.1)
  listed_pair pair has =
      pair_there (quota_parts super image) holds.fit pair
      (subst (λ (ps : List (ℕ × ℕ)). Contains ps pair) pairs_there has)

  named_part : (told : QuotaPart) → Contains (quota_parts super image) told
      → is_among (map quota_record (quota_parts super image)) (quota_record told) ≡ true
  named_part told has = in-named quota_record (quota_parts super image) told has

  each_part : NamesQuota quota (map quota_record (quota_parts super image))
  each_part = record {
    status = status_named (quota_parts super image) holds.status;
    info = λ group has.
        let told = group_info (quota_parts super image) holds.fit group (listed_group group has) in
        named_part (part.Info group told.0) told.1;
    limit = λ group has.
        let told = group_limit (quota_parts super image) holds.fit group (listed_group group has) in
        named_part (part.Limits group told.0) told.1;
    member = λ pair has. named_part (part.Relation pair.0 pair.1) (listed_pair pair has);
    parent = λ pair has. named_part (part.Relation pair.1 pair.0)
        (twin_there (quota_parts super image) holds.fit pair.0 pair.1 (listed_pair pair has));
  }

  root_named_there : (one : Record) → Contains (RootOf QUOTA_TREE ∷ []) one
      → is_among (map entry_record (roots_in super image)) one ≡ true
  root_named_there one has = elim (contains_cases (RootOf QUOTA_TREE) [] one has) [
    | inl is ↦
        subst (λ (r : Record). is_among (map entry_record (roots_in super image)) r ≡ true) is
        (in-named entry_record (roots_in super image) (QUOTA_TREE, root)
        (entry_of_value QUOTA_TREE root (roots_in super image) named))
    | inr none ↦ absurd (none_contained one none)
  ]

  knows_on : KnowsQuota super image (Some quota)
  knows_on = record {
    tree = λ entry has is. contains_here (RootOf QUOTA_TREE) [];
    part = part_there;
    tree_named = root_named_there;
    part_named = quota-among quota (map quota_record (quota_parts super image)) each_part;
  }

knows_off : (super : Super) (image : List ℕ) → quota_root super image ≡ None → KnowsQuota super image None
knows_off super image none = record {
  tree = λ entry has is. absurd (none_listed QUOTA_TREE (roots_in super image) entry none has is);
  part = λ told has.
      absurd (none_contained told (subst (λ (parts : List QuotaPart). Contains parts told) (no_parts super image none)
      has));
  tree_named = λ one has. absurd (none_contained one has);
  part_named = λ one has. absurd (none_contained one has);
}

knows : (super : Super) (image : List ℕ) (named : Option RootItem) (quota : Option Quota)
    → quota_root super image ≡ named → HoldsQuotaOf super image named quota → KnowsQuota super image quota
knows super image None None is holds = knows_off super image is
knows super image None (Some quota) is holds = absurd holds
knows super image (Some root) None is holds = absurd holds
knows super image (Some root) (Some quota) is holds = knows_on super image root quota is holds

-- ---- all of them

module _ (super : Super) (image : List ℕ) (quota : Option Quota) (quota_is : quota_in super image ≡ quota)
    (holds : HoldsOthers super image quota) where
  abbrev numbers : List ℕ
  numbers = keys_of (state_in super image).subvolumes

  known : KnowsQuota super image quota
  known = knows super image (quota_root super image) quota refl holds.quota_tree

  state_quota : (state_in super image).quota ≡ quota
  unfolding state_in
  state_quota = quota_is

  names_there : other_names (state_in super image) ≡ names_by (keys_of (state_in super image).subvolumes) quota
  names_there = names-are (state_in super image) quota state_quota

  numbers_there : keys_of (state_in super image).subvolumes ≡ keys_of (subvolume_roots (roots_in super image))
  unfolding state_in subvolumes_in
  numbers_there =
      keys_made (λ (entry : ℕ × RootItem). subvolume_in super image entry.1) (subvolume_roots (roots_in super image))

  -- ---- what the items name is there

  named_tree : (entry : ℕ × RootItem) → Contains (roots_in super image) entry → IsNamed entry.0
  unfolding roots_in
  named_tree entry has =
      let found = from-some root_part (root_items super image) entry has in
      root_named found.0 entry found.2

  subvolume_there : (entry : ℕ × RootItem) → Contains (subvolume_roots (roots_in super image)) entry
      → Contains (keys_of (state_in super image).subvolumes) entry.0
  subvolume_there entry has =
      subst (λ (ns : List ℕ). Contains ns entry.0) (sym numbers_there)
      (has-mapped (λ (e : ℕ × RootItem). e.0) (subvolume_roots (roots_in super image)) entry has)

  abbrev IsThere : Record → Type 0
  IsThere one = Contains (names_by (keys_of (state_in super image).subvolumes) quota) one

  tree_there : (entry : ℕ × RootItem) → Contains (roots_in super image) entry → IsThere (RootOf entry.0)
  tree_there entry has =
      elim (or_cases ((entry.0 == EXTENT_TREE) || (entry.0 == QUOTA_TREE)) (is_subvolume_number entry.0)
      (named_tree entry has)) [
        | inl other ↦ elim (or_cases (entry.0 == EXTENT_TREE) (entry.0 == QUOTA_TREE) other) [
          | inl extents ↦
              subst (λ (n : ℕ). IsThere (RootOf n)) (sym (eqb-true entry.0 EXTENT_TREE extents))
              (extents-named numbers quota)
          | inr quotas ↦
              let is = eqb-true entry.0 QUOTA_TREE quotas in
              subst (λ (n : ℕ). IsThere (RootOf n)) (sym is)
              (quota-tree-named numbers quota (RootOf QUOTA_TREE) (known.tree entry has is))
        ]
        | inr subvolume ↦
            subvolume-named numbers quota entry.0
            (subvolume_there entry
            (contains_kept (λ (e : ℕ × RootItem). is_subvolume_number e.0) (roots_in super image) entry has subvolume))
      ]

  held_there : (one : Record) → is_of_extents one ≡ false
      → is_among (held_records (state_in super image).held) one ≡ true → IsThere one
  held_there one other among =
      let there = sym (among-held super image quota holds one) ∙ among in
      elim (or_cases _ _ there) [
        | inl front ↦ elim (or_cases _ _ front) [
          | inl roots ↦
              let found = named-in entry_record (roots_in super image) one roots in
              subst (λ (r : Record). IsThere r) (sym found.2) (tree_there found.0 found.1)
          | inr extents ↦
              absurd (true≢false (sym extents
              ∙ none-named true (map extent_record (extent_parts super image)) one
              (extents_other (extent_parts super image)) other))
        ]
        | inr quotas ↦
            let found = named-in quota_record (quota_parts super image) one quotas in
            subst (λ (r : Record). IsThere r) (sym found.2)
            (quota-named numbers quota (quota_record found.0) (known.part found.0 found.1))
      ]

  -- ---- and what is there the items name

  root_among : (one : Record) → is_among (map entry_record (roots_in super image)) one ≡ true
      → is_among (held_records (state_in super image).held) one ≡ true
  root_among one among =
      among-held super image quota holds one
      ∙ or_left _ (is_among (map quota_record (quota_parts super image)) one)
      (or_left _ (is_among (map extent_record (extent_parts super image)) one) among)

  quota_among : (one : Record) → is_among (map quota_record (quota_parts super image)) one ≡ true
      → is_among (held_records (state_in super image).held) one ≡ true
  quota_among one among =
      among-held super image quota holds one
      ∙ or_right (is_among (map entry_record (roots_in super image)) one
      || is_among (map extent_record (extent_parts super image)) one) _ among

  named_root : (number : ℕ) (root : RootItem) → Contains (roots_in super image) (number, root)
      → is_among (held_records (state_in super image).held) (RootOf number) ≡ true
  named_root number root has =
      root_among (RootOf number) (in-named entry_record (roots_in super image) (number, root) has)

  named_subvolume : (number : ℕ) → Contains (keys_of (state_in super image).subvolumes) number
      → is_among (held_records (state_in super image).held) (RootOf number) ≡ true
  named_subvolume number has =
      let entry = from-mapped (λ (e : ℕ × RootItem). e.0) (subvolume_roots (roots_in super image)) number
      (subst (λ (ns : List ℕ). Contains ns number) numbers_there has) in
      let there =
      kept_contains (λ (e : ℕ × RootItem). is_subvolume_number e.0) (roots_in super image) entry.0 entry.1 in
      subst (λ (n : ℕ). is_among (held_records (state_in super image).held) (RootOf n) ≡ true) entry.2
      (named_root entry.0.0 entry.0.1 there.0)

  each_named : NamesEach (keys_of (state_in super image).subvolumes) quota (held_records (state_in super image).held)
  each_named = record {
    extents = named_root EXTENT_TREE holds.extent_root
        (entry_of_value EXTENT_TREE holds.extent_root (roots_in super image) holds.extents_named);
    subvolume = named_subvolume;
    quota_tree = λ one has. root_among one (known.tree_named one has);
    own = λ one has. quota_among one (known.part_named one has);
  }

  -- ---- together

  names_are : Are false (other_names (state_in super image))
  names_are =
      are-both false (root_records (state_in super image)) (quota_records (state_in super image).quota)
      (root-are (state_in super image)) (quota-are (state_in super image).quota)

  no_extents : (one : Record) → is_among (other_names (state_in super image)) one ≡ true → is_of_extents one ≡ false
  no_extents one among = elim (cases_Bool (is_of_extents one)) [
    | inl extents ↦
        absurd (true≢false (sym among ∙ none-named false (other_names (state_in super image)) one names_are extents))
    | inr other ↦ other
  ]

  same_names : (one : Record) → is_of_extents one ≡ false
      → is_among (held_records (state_in super image).held) one ≡ is_among (other_names (state_in super image)) one
  same_names one other =
      bool-iff (is_among (held_records (state_in super image).held) one)
      (is_among (other_names (state_in super image)) one)
      (λ among. ap (λ (names : List Record). is_among names one) names_there
      ∙ has-among (names_by numbers quota) one (held_there one other among))
      (λ among. named-among numbers quota (held_records (state_in super image).held) each_named one
      (among-has (names_by numbers quota) one
      (sym (ap (λ (names : List Record). is_among names one) names_there) ∙ among)))

  pub opened-names : NamesOthers (state_in super image).held (other_names (state_in super image))
  opened-names = record { others = no_extents; same = same_names }
