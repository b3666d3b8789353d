-- What the items of a commit's root, extent and quota trees name: those of the extent tree the book's records, the
-- others what its subvolumes and groups have.
use Rattle.std.proofs.Common.{◌≡◌, ℕ, Bool, true, false, List, [], ◌∷◌, ◌++◌, map, length, drop, Option, Some, None}
use Rattle.std.proofs.Common.{refl}
use Rattle.std.proofs.Common.{sym, ap, subst, ◌∙◌, inl, inr, arith}
use Rattle.std.specs.Prelude.{◌&&◌, ◌||◌, ◌==◌, is_some}
use Rattle.std.specs.List.{Contains, filter_map, flat_map, list_all, list_any}
use Rattle.std.specs.List.Sorted.{IsPermutation}
use Rattle.std.specs.Option.{option_map}
use Rattle.std.proofs.lemmas.Bool.{and_left, and_parts, and_right, cases_Bool, eqb-true, true≢false}
use Rattle.std.proofs.lemmas.List.{append-nil, length-append, length-map, map-append}
use Rattle.std.proofs.lemmas.List.Elements.{Contains-append_cases, filter_map-append}
use Rattle.std.proofs.lemmas.List.Folds.{list_any-append}
use Rattle.std.proofs.lemmas.List.Sorted.{Contains-permutation, IsPermutation-append, IsPermutation-sym}
use Rattle.std.proofs.lemmas.List.Sorted.{IsPermutation-refl, IsPermutation-trans}
use Rattle.std.proofs.lemmas.Grind.{flat_map-append}
use Rattle.qg_node.specs.declared.item.Item.{Item}
use Rattle.qg_node.specs.declared.node.Node.{Node}
use Rattle.qg_node.specs.Nodes.{own_items}
use Rattle.qg_items.specs.declared.kind.TheConstants.{ROOT_ITEM}
use Rattle.qg_items.specs.declared.quota.QgroupStatus.{QgroupStatus}
use Rattle.qg_items.specs.declared.root.RootItem.{RootItem}
use Rattle.qg_items.specs.declared.tree.TheConstants.{EXTENT_TREE, QUOTA_TREE}
use Rattle.qg_super.specs.declared.sizes.Sizes.{Sizes}
use Rattle.qg_image.specs.declared.part.ExtentPart.{ExtentPart}
use Rattle.qg_image.specs.declared.part.ExtentPart.TheVariants.{DataRecord, NodeRecord, Referenced}
use Rattle.qg_image.specs.declared.part.QuotaPart.{QuotaPart}
use Rattle.qg_image.specs.ItemMeaning.{extent_part, first_some, is_keyed, quota_part, root_part, some_passes, when}
use Rattle.qg_image.specs.Table.{keys_of}
use Rattle.qg_image.specs.declared.quota.Group.{Group}
use Rattle.qg_image.specs.declared.quota.Quota.{Quota}
use Rattle.qg_image.specs.Need.{held_records, quota_records}
use Rattle.qg_image.specs.Record.{Record, InfoOf, LimitOf, RootOf, Status, RelationOf, extent_record, quota_record}
use Rattle.qg_image.specs.Record.{record_named, same_record}
use Rattle.qg_image.specs.State.{Committed, State, nothing_held}
use Rattle.qg_image.proofs.Contained.{contains_cases, none_contained}
use Rattle.qg_image.specs.Among.{node_among}
use Rattle.qg_image.specs.declared.tree.TreeKind.TheVariants.{Extents}
use Rattle.qg_image.specs.Walk.{is_item_of}
use Rattle.qg_root_items.specs.Written.{item_of_named, items_of_roots, roots_named}
use Rattle.qg_quota.specs.Written.{both_ways, info_part, item_of_info, item_of_limit, item_of_relation, item_of_status}
use Rattle.qg_quota.specs.Written.{items_of_quota, limit_part, parts_of_quota, relation_part, status_at}
use Rattle.qg_commit.proofs.CheckFound.{items_below-nodes}
use Rattle.qg_backref_rule.proofs.Passing.{all_at}
use Rattle.qg_space.proofs.Members.{any_same, one_passes}
use Rattle.qg_refs.specs.declared.kept.Kept.{Kept}
use Rattle.qg_extents.specs.Table.{IsTable}
use Rattle.qg_extents.specs.Written.{parts_of_book}
use Rattle.qg_weighed.specs.Laws.{IsRecorded, is_among, is_of_extents}
use Rattle.qg_weighed.specs.Weight.{records_in}
use Rattle.qg_weighed.proofs.Distinct.{same_record_is}
use Rattle.qg_weighed.proofs.Named.{said-recorded}
use Rattle.qg_tree_layout.specs.Build.{IsBuilt}
use Rattle.qg_tree_layout.specs.declared.building.Built.{Built}
use Rattle.qg_file_edits.proofs.Lists.{from-flat, from-mapped, from-some, has-flat, made-some}
use Rattle.qg_commit.specs.Types.{OtherTrees}
use Rattle.qg_commit.specs.Trees.{AreTrees, IsQuotaTreeOf, nodes_laid, quota_nodes_laid, root_item_laid}
use Rattle.qg_fs_laws.specs.Keeping.{NamesOthers, other_names}
use Rattle.qg_fs_laws.proofs.Said.{IsOfQuota, all-said, any-both, any-both-ways, any-mapped, any-with, both_of}
use Rattle.qg_fs_laws.proofs.Said.{infos-named, limits-named, none-said, quotas-named, related, relation_of}
use Rattle.qg_fs_laws.proofs.Said.{relations-named, roots-named}

-- ---- items of the root and the quota tree

root_none : (entry : ℕ × RootItem) → extent_part (item_of_named entry) ≡ None
unfolding extent_part
root_none entry = refl

roots_say_none : (extents : RootItem) (roots : List (ℕ × RootItem)) (quotas : Option RootItem)
    → filter_map extent_part (items_of_roots extents roots quotas) ≡ []
roots_say_none extents roots quotas = none-said extent_part (items_of_roots extents roots quotas) (λ item has.
    let entry = from-mapped item_of_named (roots_named extents roots quotas) item has in
    ap extent_part (sym entry.2) ∙ root_none entry.0)

status_of_quota : (status : QgroupStatus) → IsOfQuota (item_of_status status)
unfolding root_part extent_part
status_of_quota status = record { root = refl; extent = refl }

info_of_quota : (entry : ℕ × Group) → IsOfQuota (item_of_info entry)
unfolding root_part extent_part
info_of_quota entry = record { root = refl; extent = refl }

limit_of_quota : (entry : ℕ × Group) → IsOfQuota (item_of_limit entry)
unfolding root_part extent_part
limit_of_quota entry = record { root = refl; extent = refl }

when_false : {A : Type 0} (test : Bool) (given : Option A) → test ≡ false → when test given ≡ None
when_false {A} test given false_now = ap (λ (b : Bool). when b given) false_now

relation_no_root : (pair : ℕ × ℕ) → root_part (item_of_relation pair) ≡ None
unfolding root_part
relation_no_root pair =
    when_false _ _ (and_left _ _ (and_left ((pair.0 == pair.0) && false) _ (and_right (pair.0 == pair.0) false refl)))

relation_of_quota : (pair : ℕ × ℕ) → IsOfQuota (item_of_relation pair)
unfolding extent_part
relation_of_quota pair = record { root = relation_no_root pair; extent = refl }

of_quota : (status : QgroupStatus) (quota : Quota) (item : Item)
    → Contains (items_of_quota status quota) item → IsOfQuota item
of_quota status quota item has =
    let infos = map item_of_info quota.groups in
    let limits = map item_of_limit quota.groups in
    let relations = map item_of_relation (both_ways quota.pairs) in
    elim (contains_cases (item_of_status status) (infos ++ limits ++ relations) item has) [
      | inl first ↦ subst (λ (i : Item). IsOfQuota i) first (status_of_quota status)
      | inr later ↦ elim (Contains-append_cases (infos ++ limits) relations item later) [
        | inl group ↦ elim (Contains-append_cases infos limits item group) [
          | inl info ↦
              let entry = from-mapped item_of_info quota.groups item info in
              subst (λ (i : Item). IsOfQuota i) entry.2 (info_of_quota entry.0)
          | inr limit ↦
              let entry = from-mapped item_of_limit quota.groups item limit in
              subst (λ (i : Item). IsOfQuota i) entry.2 (limit_of_quota entry.0)
        ]
        | inr relation ↦
            let pair = from-mapped item_of_relation (both_ways quota.pairs) item relation in
            subst (λ (i : Item). IsOfQuota i) pair.2 (relation_of_quota pair.0)
      ]
    ]

quotas_say_none : (status : QgroupStatus) (quota : Quota)
    → filter_map extent_part (items_of_quota status quota) ≡ []
quotas_say_none status quota = none-said extent_part (items_of_quota status quota)
    (λ item has. (of_quota status quota item has).extent)

-- what the root tree's items name, where each of them is read
roots_name : (extents : RootItem) (roots : List (ℕ × RootItem)) (quotas : Option RootItem)
    → filter_map root_part (items_of_roots extents roots quotas) ≡ roots_named extents roots quotas
    → filter_map record_named (items_of_roots extents roots quotas)
    ≡ map RootOf (keys_of (roots_named extents roots quotas))
roots_name extents roots quotas said =
    roots-named (items_of_roots extents roots quotas) (roots_named extents roots quotas)
    (all-said root_part (items_of_roots extents roots quotas) (roots_named extents roots quotas)
    (length-map (roots_named extents roots quotas) item_of_named) said)

as_many : (groups : List (ℕ × Group)) → length (map item_of_info groups ++ map item_of_limit groups)
    ≡ length (map info_part groups ++ map limit_part groups)
as_many groups =
    let items = length-append (map item_of_info groups) (map item_of_limit groups) in
    let parts = length-append (map info_part groups) (map limit_part groups) in
    let infos = length-map groups item_of_info in
    let limits = length-map groups item_of_limit in
    let info_parts = length-map groups info_part in
    let limit_parts = length-map groups limit_part in
    omega (arith, items, parts, infos, limits, info_parts, limit_parts)

-- what quota names, as its items stand
abbrev written_names : Quota → List Record
written_names quota =
    Status ∷ map InfoOf (keys_of quota.groups) ++ map LimitOf (keys_of quota.groups)
    ++ map relation_of (both_ways quota.pairs)

-- and the quota tree's
quotas_name : (generation : ℕ) (quota : Quota)
    → filter_map quota_part (items_of_quota (status_at generation) quota) ≡ parts_of_quota generation quota
    → filter_map record_named (items_of_quota (status_at generation) quota) ≡ written_names quota
quotas_name generation quota said =
    let groups = quota.groups in
    let pairs = both_ways quota.pairs in
    let items = items_of_quota (status_at generation) quota in
    let infos = map info_part groups in
    let limits = map limit_part groups in
    let long : length items ≡ length (parts_of_quota generation quota) =
    let behind = as_many groups in
    let front_items = length-append (map item_of_info groups ++ map item_of_limit groups)
    (map item_of_relation pairs) in
    let front_parts = length-append (infos ++ limits) (map relation_part pairs) in
    let many_items = length-map pairs item_of_relation in
    let many_parts = length-map pairs relation_part in
    omega (arith, behind, front_items, front_parts, many_items, many_parts) in
    quotas-named items (parts_of_quota generation quota) (of_quota (status_at generation) quota)
    (all-said quota_part items (parts_of_quota generation quota) long said)
    ∙ ap (λ (records : List Record). Status ∷ records)
    (map-append quota_record (infos ++ limits) (map relation_part pairs)
    ∙ ap (λ (records : List Record). records ++ map quota_record (map relation_part pairs))
    (map-append quota_record infos limits)
    ∙ (λ i. infos-named groups i ++ limits-named groups i ++ relations-named pairs i))

-- ---- what subvolumes and groups have

-- the root of the quota tree, where there is one
abbrev quota_root : Option Quota → List Record
quota_root None = []
quota_root (Some quota) = RootOf QUOTA_TREE ∷ []

-- what the root tree would name, and what the root and the quota tree would, where these subvolumes and this quota are
-- there
abbrev own_names : List ℕ → Option Quota → List Record
own_names subvolumes quota = RootOf EXTENT_TREE ∷ (map RootOf subvolumes ++ quota_root quota)

abbrev pub names_of : List ℕ → Option Quota → List Record
names_of subvolumes quota = own_names subvolumes quota ++ quota_records quota

names_by : (state : State) (quota : Option Quota) → state.quota ≡ quota
    → other_names state ≡ names_of (keys_of state.subvolumes) quota
names_by state None is = ap (λ (o : Option Quota). other_names (record state { quota = o })) is
names_by state (Some quota) is = ap (λ (o : Option Quota). other_names (record state { quota = o })) is

-- and so of a state's
pub names-are : (state : State) → other_names state ≡ names_of (keys_of state.subvolumes) state.quota
names-are state = names_by state state.quota refl

or_last : (a b c : Bool) → (a || (b || c)) ≡ (a || (c || (b || false)))
or_last true b c = refl
or_last false true true = refl
or_last false true false = refl
or_last false false true = refl
or_last false false false = refl

-- there is a quota tree exactly while quota is on
abbrev AreAlike : Option RootItem → Option Quota → Type 0
AreAlike None None = Unit {0}
AreAlike (Some quotas) (Some quota) = Unit {0}
AreAlike _ _ = ⊥

roots_alike : (extents : RootItem) (quotas : Option RootItem) (quota : Option Quota) (roots : List (ℕ × RootItem))
    (one : Record) → AreAlike quotas quota
    → is_among (map RootOf (keys_of (roots_named extents roots quotas))) one
    ≡ is_among (own_names (keys_of roots) quota) one
roots_alike extents None None roots one alike =
    ap (λ (records : List Record). is_among (RootOf EXTENT_TREE ∷ records) one)
    (sym (append-nil (map RootOf (keys_of roots))))
roots_alike extents None (Some quota) roots one alike = absurd alike
roots_alike extents (Some quotas) None roots one alike = absurd alike
roots_alike extents (Some quotas) (Some quota) roots one alike =
    let test : ℕ → Bool = λ tree. same_record one (RootOf tree) in
    any-mapped (same_record one) RootOf (keys_of (roots_named extents roots (Some quotas)))
    ∙ ap (λ (b : Bool). test EXTENT_TREE || b) (any-with test QUOTA_TREE quotas roots)
    ∙ or_last (test EXTENT_TREE) (test QUOTA_TREE) (list_any test (keys_of roots))
    ∙ ap (λ (b : Bool). test EXTENT_TREE || (b || (test QUOTA_TREE || false)))
    (sym (any-mapped (same_record one) RootOf (keys_of roots)))
    ∙ ap (λ (b : Bool). test EXTENT_TREE || b)
    (sym (list_any-append (same_record one) (map RootOf (keys_of roots)) (RootOf QUOTA_TREE ∷ [])))

quotas_alike : (quota : Quota) (one : Record)
    → is_among (written_names quota) one ≡ is_among (quota_records (Some quota)) one
quotas_alike quota one =
    let groups = keys_of quota.groups in
    let test = same_record one in
    let relations = map relation_of (both_ways quota.pairs) in
    ap (λ (b : Bool). test Status || b)
    (list_any-append test (map InfoOf groups ++ map LimitOf groups) relations
    ∙ ap (λ (b : Bool). b || list_any test relations)
    (list_any-append test (map InfoOf groups) (map LimitOf groups) ∙ sym (any-both test groups))
    ∙ ap (λ (b : Bool). list_any test (flat_map both_of groups) || b) (any-both-ways test quota.pairs)
    ∙ sym (list_any-append test (flat_map both_of groups) (flat_map related quota.pairs)))

-- none of them is of the extent tree
is_other : (records : List Record) → ((one : Record) → Contains records one → is_of_extents one ≡ false)
    → (one : Record) → is_among records one ≡ true → is_of_extents one ≡ false
is_other records each one among =
    let found = one_passes (same_record one) records among in
    ap is_of_extents (same_record_is one found.0 found.2) ∙ each found.0 found.1

quota_root_other : (quota : Option Quota) (one : Record) → Contains (quota_root quota) one → is_of_extents one ≡ false
quota_root_other None one has = absurd (none_contained one has)
quota_root_other (Some quota) one has = elim (contains_cases (RootOf QUOTA_TREE) [] one has) [
  | inl same ↦ ap is_of_extents (sym same)
  | inr none ↦ absurd (none_contained one none)
]

roots_other : (subvolumes : List ℕ) (quota : Option Quota) (one : Record) → Contains (own_names subvolumes quota) one
    → is_of_extents one ≡ false
roots_other subvolumes quota one has =
    elim (contains_cases (RootOf EXTENT_TREE) (map RootOf subvolumes ++ quota_root quota) one has) [
      | inl first ↦ ap is_of_extents (sym first)
      | inr later ↦ elim (Contains-append_cases (map RootOf subvolumes) (quota_root quota) one later) [
        | inl own ↦
            let tree = from-mapped RootOf subvolumes one own in
            ap is_of_extents (sym tree.2)
        | inr last ↦ quota_root_other quota one last
      ]
    ]

groups_other : (groups : List ℕ) (one : Record) → Contains (flat_map both_of groups) one → is_of_extents one ≡ false
groups_other groups one has =
    let group = from-flat both_of groups one has in
    elim (contains_cases (InfoOf group.0) (LimitOf group.0 ∷ []) one group.2) [
      | inl info ↦ ap is_of_extents (sym info)
      | inr later ↦ elim (contains_cases (LimitOf group.0) [] one later) [
        | inl limit ↦ ap is_of_extents (sym limit)
        | inr none ↦ absurd (none_contained one none)
      ]
    ]

pairs_other : (pairs : List (ℕ × ℕ)) (one : Record)
    → Contains (flat_map (λ (pair : ℕ × ℕ). RelationOf pair.0 pair.1 ∷ RelationOf pair.1 pair.0 ∷ []) pairs) one
    → is_of_extents one ≡ false
pairs_other pairs one has =
    let pair = from-flat (λ (pair : ℕ × ℕ). RelationOf pair.0 pair.1 ∷ RelationOf pair.1 pair.0 ∷ []) pairs one has in
    elim (contains_cases (RelationOf pair.0.0 pair.0.1) (RelationOf pair.0.1 pair.0.0 ∷ []) one pair.2) [
      | inl info ↦ ap is_of_extents (sym info)
      | inr later ↦ elim (contains_cases (RelationOf pair.0.1 pair.0.0) [] one later) [
        | inl limit ↦ ap is_of_extents (sym limit)
        | inr none ↦ absurd (none_contained one none)
      ]
    ]

quotas_other : (quota : Option Quota) (one : Record) → Contains (quota_records quota) one → is_of_extents one ≡ false
quotas_other None one has = absurd (none_contained one has)
quotas_other (Some quota) one has =
    let related : List Record =
    flat_map (λ (pair : ℕ × ℕ). RelationOf pair.0 pair.1 ∷ RelationOf pair.1 pair.0 ∷ []) quota.pairs in
    elim (contains_cases Status (flat_map both_of (keys_of quota.groups) ++ related) one has) [
      | inl first ↦ ap is_of_extents (sym first)
      | inr later ↦ elim (Contains-append_cases (flat_map both_of (keys_of quota.groups)) related one later) [
        | inl own ↦ groups_other (keys_of quota.groups) one own
        | inr pair ↦ pairs_other quota.pairs one pair
      ]
    ]

names_other : (subvolumes : List ℕ) (quota : Option Quota) (one : Record) → Contains (names_of subvolumes quota) one
    → is_of_extents one ≡ false
names_other subvolumes quota one has =
    elim (Contains-append_cases (own_names subvolumes quota) (quota_records quota) one has) [
      | inl root ↦ roots_other subvolumes quota one root
      | inr group ↦ quotas_other quota one group
    ]

-- ---- items of the extent tree

when_some : {A : Type 0} (test : Bool) (given : Option A) → is_some (when test given) ≡ true → test ≡ true
when_some true given some = refl
when_some false given some = some

-- an item of the root tree is none of the extent tree
none_of_extents : (item : Item) → is_some (root_part item) ≡ true → extent_part item ≡ None
unfolding root_part extent_part
none_of_extents item some =
    let test = and_parts (is_keyed item.key.objectid ROOT_ITEM 0 item) _ (when_some _ _ some) in
    let keyed = and_parts ((item.key.objectid == item.key.objectid) && (item.key.kind == ROOT_ITEM))
    (item.key.offset == 0) test.0 in
    let kind = and_parts (item.key.objectid == item.key.objectid) (item.key.kind == ROOT_ITEM) keyed.0 in
    let is : item.key.kind ≡ ROOT_ITEM = eqb-true item.key.kind ROOT_ITEM kind.1 in
    rw is refl

part_of_extents : (said : ExtentPart) → is_of_extents (extent_record said) ≡ true
part_of_extents (DataRecord address bytes extent) = refl
part_of_extents (NodeRecord address level extent) = refl
part_of_extents (Referenced address reference count) = refl

some_is : (a b : Record) → Some a ≡ Some b → b ≡ a
some_is a b is = cc

named_by : (root : Option (ℕ × RootItem)) (extent : Option ExtentPart) (quota : Option QuotaPart) (one : Record)
    → (is_some root ≡ true → extent ≡ None) → is_some extent ≡ true
    → first_some (option_map (λ (entry : ℕ × RootItem). RootOf entry.0) root ∷ option_map extent_record extent
    ∷ option_map quota_record quota ∷ []) ≡ Some one → is_of_extents one ≡ true
named_by (Some entry) None quota one apart some is = absurd (true≢false (sym some))
named_by (Some entry) (Some said) quota one apart some is = let wrong : Some said ≡ None = apart refl in absurd cc
named_by None None quota one apart some is = absurd (true≢false (sym some))
named_by None (Some said) quota one apart some is =
    ap is_of_extents (some_is (extent_record said) one is) ∙ part_of_extents said

said_some : (test : ExtentPart → Bool) (o : Option ExtentPart) → some_passes test o ≡ true → is_some o ≡ true
said_some test None passes = passes
said_some test (Some said) passes = refl

-- each item that the extent tree may hold says something
may_say : (generation : ℕ) (item : Item) → is_item_of Extents generation item ≡ true
    → is_some (extent_part item) ≡ true
unfolding is_item_of
may_say generation item may = said_some _ (extent_part item) may

extents_name : (generation : ℕ) (items : List Item) (item : Item) (one : Record)
    → list_all (is_item_of Extents generation) items ≡ true → Contains items item → record_named item ≡ Some one
    → is_of_extents one ≡ true
unfolding record_named
extents_name generation items item one allowed has is =
    named_by (root_part item) (extent_part item) (quota_part item) one (none_of_extents item)
    (may_say generation item (all_at (is_item_of Extents generation) items item allowed has)) is

-- ---- nodes in another order

abbrev records_of : List Node → List Record
records_of nodes = filter_map record_named (flat_map own_items nodes)

records_into : (nodes others : List Node) → ((node : Node) → Contains nodes node → Contains others node)
    → (one : Record) → Contains (records_of nodes) one → Contains (records_of others) one
records_into nodes others among one has =
    let item = from-some record_named (flat_map own_items nodes) one has in
    let node = from-flat own_items nodes item.0 item.1 in
    made-some record_named (flat_map own_items others) item.0 one
    (has-flat own_items others node.0 item.0 (among node.0 node.1) node.2) item.2

records_alike : (nodes others : List Node) → IsPermutation nodes others → (one : Record)
    → is_among (records_of nodes) one ≡ is_among (records_of others) one
records_alike nodes others moved one =
    any_same (same_record one) (records_of nodes) (records_of others)
    (λ other. (
      records_into nodes others (λ node has. Contains-permutation nodes others node moved has) other,
      records_into others nodes
          (λ node has. Contains-permutation others nodes node (IsPermutation-sym nodes others moved) has) other,
    ))

-- ---- the three trees

-- the nodes of a tree, in the order of its walk, have its items
in_order : (nodesize owner generation : ℕ) (items : List Item) (slots : List ℕ) (nodes : List Node) (root level : ℕ)
    → (built : IsBuilt nodesize owner generation items slots nodes root level)
    → flat_map own_items built.reached.those ≡ items
in_order nodesize owner generation items slots nodes root level built =
    sym (items_below-nodes (node_among nodes) level root items built.reached.those built.held built.reached.under)

or_without : (a b c : Bool) → b ≡ false → ((a || b) || c) ≡ (a || c)
or_without true b c none = refl
or_without false true c none = absurd (true≢false none)
or_without false false c none = refl

-- What the quota tree's nodes have, in the order of its walk: items that say nothing of the extent tree, and name what
-- quota does; nothing while quota is off, when there is no such tree
record QuotaSaid (generation : ℕ) (quota : Option Quota) (built : Option Built) : Type 0 where
  walked : List Node
  same : IsPermutation walked (quota_nodes_laid built)
  items : List Item
  ordered : flat_map own_items walked ≡ items
  says : filter_map extent_part items ≡ []
  names : (one : Record) → is_among (filter_map record_named items) one ≡ is_among (quota_records quota) one
  alike : AreAlike (option_map (λ tree. root_item_laid tree generation) built) quota

quota_said : (nodesize generation : ℕ) (quota : Option Quota) (slots : List ℕ) (built : Option Built)
    → IsQuotaTreeOf nodesize generation quota slots built → QuotaSaid generation quota built
quota_said nodesize generation None slots None is = record {
  walked = [];
  same = IsPermutation-refl [];
  items = [];
  ordered = refl;
  says = refl;
  names = λ one. refl;
  alike = tt;
}
quota_said nodesize generation None slots (Some built) is = absurd is
quota_said nodesize generation (Some quota) slots None is = absurd is
quota_said nodesize generation (Some quota) slots (Some built) is = record {
  walked = is.stands.reached.those;
  same = is.stands.reached.same;
  items = is.items;
  ordered = in_order _ _ _ is.items _ built.nodes built.root built.level is.stands;
  says = ap (filter_map extent_part) is.told.written ∙ quotas_say_none (status_at generation) quota;
  names = λ one.
      ap (λ (records : List Record). is_among records one)
      (ap (filter_map record_named) is.told.written
      ∙ quotas_name generation quota (ap (filter_map quota_part) (sym is.told.written) ∙ is.told.told))
      ∙ quotas_alike quota one;
  alike = tt;
}

module _ (sizes : Sizes) (generation : ℕ) (roots : List (ℕ × RootItem)) (book : List (ℕ × Kept))
    (quota : Option Quota) (slots : List ℕ) (trees : OtherTrees)
    (are : AreTrees sizes generation roots book quota slots trees)
    (others : List Node) (moved : IsPermutation others (nodes_laid trees)) where
  abbrev roots_walked : List Node
  roots_walked = are.root_tree.stands.reached.those

  abbrev extents_walked : List Node
  extents_walked = are.extent_tree.stands.reached.those

  said : QuotaSaid generation quota trees.quotas
  said = quota_said sizes.nodesize generation quota (drop (length trees.extents.nodes) slots) trees.quotas
      are.quota_tree

  abbrev quotas_walked : List Node
  quotas_walked = said.walked

  abbrev walked : List Node
  walked = roots_walked ++ extents_walked ++ quotas_walked

  walked_laid : IsPermutation walked (nodes_laid trees)
  walked_laid =
      IsPermutation-append (roots_walked ++ extents_walked) (trees.roots.nodes ++ trees.extents.nodes) quotas_walked
      (quota_nodes_laid trees.quotas)
      (IsPermutation-append roots_walked trees.roots.nodes extents_walked trees.extents.nodes
      are.root_tree.stands.reached.same are.extent_tree.stands.reached.same)
      said.same

  others_walked : IsPermutation others walked
  others_walked = IsPermutation-trans others (nodes_laid trees) walked moved
      (IsPermutation-sym walked (nodes_laid trees) walked_laid)

  abbrev all_items : List Item
  all_items = are.root_tree.items ++ are.extent_tree.items ++ said.items

  items_walked : flat_map own_items walked ≡ all_items
  items_walked =
      let of_roots = in_order _ _ _ are.root_tree.items _ trees.roots.nodes trees.roots.root trees.roots.level
      are.root_tree.stands in
      let of_extents = in_order _ _ _ are.extent_tree.items _ trees.extents.nodes trees.extents.root trees.extents.level
      are.extent_tree.stands in
      let of_quotas = said.ordered in
      flat_map-append own_items (roots_walked ++ extents_walked) quotas_walked
      ∙ ap (λ (items : List Item). items ++ flat_map own_items quotas_walked)
      (flat_map-append own_items roots_walked extents_walked)
      ∙ (λ i. of_roots i ++ of_extents i ++ of_quotas i)

  roots_say : filter_map extent_part are.root_tree.items ≡ []
  roots_say = ap (filter_map extent_part) are.root_tree.told.written ∙ roots_say_none _ roots _

  all_say : filter_map extent_part (flat_map own_items walked) ≡ parts_of_book book
  all_say =
      ap (filter_map extent_part) items_walked
      ∙ filter_map-append extent_part (are.root_tree.items ++ are.extent_tree.items) said.items
      ∙ ap (λ (parts : List ExtentPart). parts ++ filter_map extent_part said.items)
      (filter_map-append extent_part are.root_tree.items are.extent_tree.items)
      ∙ (λ i. roots_say i ++ are.extent_tree.told.told i ++ said.says i)
      ∙ append-nil (parts_of_book book)

  -- ---- what the last commit records

  records_same : (one : Record) → is_among (records_of others) one ≡ is_among (records_of walked) one
  records_same = records_alike others walked others_walked

  module _ (state : State) (table : IsTable book) where
    abbrev in_walk : State
    in_walk = record state { held = record nothing_held { others = walked } }

    walk_recorded : IsRecorded in_walk book
    walk_recorded = said-recorded in_walk book table all_say

    walk_held : (one : Record) → is_of_extents one ≡ true
        → is_among (records_of walked) one ≡ is_among (records_in book) one
    unfolding held_records
    walk_held one extents = walk_recorded.same one extents

  pub same-recorded : (state : State) → IsTable book → state.held.others ≡ others → IsRecorded state book
  unfolding held_records
  same-recorded state table is = record {
    kept = table;
    same = λ one extents.
        ap (λ (nodes : List Node). is_among (records_of nodes) one) is ∙ records_same one
        ∙ walk_held state table one extents;
  }

  -- ---- and what its other items name

  abbrev extents_root : RootItem
  extents_root = root_item_laid trees.extents generation

  abbrev quotas_root : Option RootItem
  quotas_root = option_map (λ built. root_item_laid built generation) trees.quotas

  root_records_are : filter_map record_named are.root_tree.items
      ≡ map RootOf (keys_of (roots_named extents_root roots quotas_root))
  root_records_are =
      ap (filter_map record_named) are.root_tree.told.written
      ∙ roots_name extents_root roots quotas_root
      (ap (filter_map root_part) (sym are.root_tree.told.written) ∙ are.root_tree.told.told)

  extents_apart : (one : Record) → is_of_extents one ≡ false
      → is_among (filter_map record_named are.extent_tree.items) one ≡ false
  extents_apart one other = elim (cases_Bool (is_among (filter_map record_named are.extent_tree.items) one)) [
    | inl among ↦
        let found = one_passes (same_record one) (filter_map record_named are.extent_tree.items) among in
        let item = from-some record_named are.extent_tree.items found.0 found.1 in
        let extents = extents_name generation are.extent_tree.items item.0 found.0 are.extent_tree.allowed item.1
        item.2 in
        absurd (true≢false (sym extents ∙ ap is_of_extents (sym (same_record_is one found.0 found.2)) ∙ other))
    | inr none ↦ none
  ]

  walk_parts : records_of walked
      ≡ (filter_map record_named are.root_tree.items ++ filter_map record_named are.extent_tree.items)
      ++ filter_map record_named said.items
  walk_parts =
      ap (filter_map record_named) items_walked
      ∙ filter_map-append record_named (are.root_tree.items ++ are.extent_tree.items) said.items
      ∙ ap (λ (records : List Record). records ++ filter_map record_named said.items)
      (filter_map-append record_named are.root_tree.items are.extent_tree.items)

  -- what is none of the extent tree's is among what subvolumes and groups have
  walk_names : (one : Record) → is_of_extents one ≡ false
      → is_among (records_of walked) one ≡ is_among (names_of (keys_of roots) quota) one
  walk_names one other =
      let test = same_record one in
      let of_roots = filter_map record_named are.root_tree.items in
      let of_extents = filter_map record_named are.extent_tree.items in
      let of_quotas = filter_map record_named said.items in
      ap (λ (records : List Record). list_any test records) walk_parts
      ∙ list_any-append test (of_roots ++ of_extents) of_quotas
      ∙ ap (λ (b : Bool). b || list_any test of_quotas) (list_any-append test of_roots of_extents)
      ∙ or_without (list_any test of_roots) (list_any test of_extents) (list_any test of_quotas)
      (extents_apart one other)
      ∙ ap (λ (records : List Record). list_any test records || list_any test of_quotas) root_records_are
      ∙ (λ i. roots_alike extents_root quotas_root quota roots one said.alike i || said.names one i)
      ∙ sym (list_any-append test (own_names (keys_of roots) quota) (quota_records quota))

  pub names-others : (held : Committed) (subvolumes : List ℕ) → held.others ≡ others → keys_of roots ≡ subvolumes
      → NamesOthers held (names_of subvolumes quota)
  unfolding held_records
  names-others held subvolumes is numbers = record {
    others = is_other (names_of subvolumes quota) (names_other subvolumes quota);
    same = λ one other.
        ap (λ (nodes : List Node). is_among (records_of nodes) one) is ∙ records_same one
        ∙ walk_names one other
        ∙ ap (λ (ns : List ℕ). is_among (names_of ns quota) one) numbers;
  }
