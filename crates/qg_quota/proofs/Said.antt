-- What items of the quota tree say, and that they are the items of what they say.
use Rattle.std.proofs.Common.{◌≡◌, ℕ, Bool, true, false, List, [], ◌∷◌, map, length, refl, ap, sym, subst, ◌∙◌}
use Rattle.std.specs.Prelude.{◌&&◌, ◌==◌, IsTrue, Option, Some, None, nat_le}
use Rattle.std.specs.Bool.{then_some}
use Rattle.std.specs.List.{All, cons_option, filter_map, list_all}
use Rattle.std.specs.Option.{option_map, option_and_then}
use Rattle.std.proofs.lemmas.Bool.{and_parts, eqb-true, true≢false}
use Rattle.std.proofs.lemmas.List.{nil_from_length}
use Rattle.std.proofs.lemmas.List.Elements.{All-head, All-tail}
use Rattle.std.proofs.lemmas.Option.{none-some, same_Some, option_and_then_some}
use Rattle.qg_num.specs.Fields.{IsBytes}
use Rattle.qg_node.specs.declared.item.Item.{Item}
use Rattle.qg_node.specs.Fits.{ItemFits}
use Rattle.qg_node.specs.Nodes.{is_ascending}
use Rattle.qg_items.specs.declared.kind.TheConstants.{QGROUP_STATUS, QGROUP_INFO, QGROUP_LIMIT, QGROUP_RELATION}
use Rattle.qg_items.specs.declared.quota.QgroupStatus.{QgroupStatus}
use Rattle.qg_items.specs.declared.quota.QgroupInfo.{QgroupInfo}
use Rattle.qg_items.specs.declared.quota.QgroupLimit.{QgroupLimit}
use Rattle.qg_items.specs.ItemReading.{status_read, info_read, limit_read}
use Rattle.qg_items.specs.ItemText.{status_text, info_text, limit_text}
use Rattle.qg_items.proofs.QuotaBodies.{status_text-from_read, info_text-from_read, limit_text-from_read}
use Rattle.qg_items.proofs.Trips.{then_some_parts}
use Rattle.qg_image.specs.declared.part.QuotaPart.{QuotaPart}
use Rattle.qg_image.specs.declared.part.QuotaPart.TheVariants.{Status, Info, Limits, Relation}
use Rattle.qg_image.specs.ItemMeaning.{when, ◌orelse◌, is_keyed, is_status, quota_part, quota_part_stamps, some_passes}
use Rattle.qg_tree_items.specs.Keys.{quota_key}
use Rattle.qg_tree_items.proofs.KeysOfParts.{quota_keyed, quotas_ascending}
use Rattle.qg_image.specs.declared.tree.TreeKind.TheVariants.{Quotas}
use Rattle.qg_image.specs.Walk.{are_by, is_item_of, tells_generation}

-- ---- one item

pub when-parts : {A : Type 0} (b : Bool) (o : Option A) (x : A) → when b o ≡ Some x → (b ≡ true) × (o ≡ Some x)
when-parts true o x is = (refl, is)
when-parts false o x is = absurd (none-some x is)

orelse_some : {A P : Type 0} (a b : Option A) (x : A) → (a orelse b) ≡ Some x → (a ≡ Some x → P) → (b ≡ Some x → P) → P
orelse_some None b x is first second = second is
orelse_some (Some y) b x is first second = first is

option_map_some : {A B P : Type 0} (f : A → B) (o : Option A) (y : B) → option_map f o ≡ Some y
    → ((x : A) → o ≡ Some x → f x ≡ y → P) → P
option_map_some f None y is then = absurd (none-some y is)
option_map_some f (Some x) y is then = then x refl (same_Some (f x) y is)

-- what holds of each part that an item may say holds of the one that it says
module _ (item : Item) (part : QuotaPart) (P : QuotaPart → Type 0)
    (status : (told : QgroupStatus) → status_read item.body ≡ Some told → is_status told ≡ true → P (Status told))
    (info : (told : QgroupInfo) → info_read item.body ≡ Some told → P (Info item.key.offset told))
    (limit : (told : QgroupLimit) → limit_read item.body ≡ Some told → nat_le told.flags 3 ≡ true
    → P (Limits item.key.offset told))
    (relation : item.body ≡ [] → P (Relation item.key.objectid item.key.offset)) where
  status_case : when (is_keyed 0 QGROUP_STATUS 0 item)
      (option_and_then (λ told. then_some (is_status told) (Status told)) (status_read item.body)) ≡ Some part → P part
  status_case h =
      let given = when-parts _ _ part h in
      option_and_then_some _ (status_read item.body) part given.1
      (λ told read is. let parts = then_some_parts (is_status told) (Status told) part is in
      subst P parts.1 (status told read parts.0))

  info_case : when (is_keyed 0 QGROUP_INFO item.key.offset item)
      (option_map (Info item.key.offset) (info_read item.body)) ≡ Some part → P part
  info_case h =
      let given = when-parts _ _ part h in
      option_map_some _ (info_read item.body) part given.1 (λ told read is. subst P is (info told read))

  limit_case : when (is_keyed 0 QGROUP_LIMIT item.key.offset item)
      (option_and_then (λ told. then_some (nat_le told.flags 3) (Limits item.key.offset told)) (limit_read item.body))
      ≡ Some part → P part
  limit_case h =
      let given = when-parts _ _ part h in
      option_and_then_some _ (limit_read item.body) part given.1
      (λ told read is. let parts = then_some_parts (nat_le told.flags 3) (Limits item.key.offset told) part is in
      subst P parts.1 (limit told read parts.0))

  relation_case : when ((item.key.kind == QGROUP_RELATION) && (length item.body == 0))
      (Some (Relation item.key.objectid item.key.offset)) ≡ Some part → P part
  relation_case h =
      let given = when-parts _ _ part h in
      let empty : length item.body ≡ 0 =
      eqb-true (length item.body) 0
      (and_parts (item.key.kind == QGROUP_RELATION) (length item.body == 0) given.0).1 in
      subst P (same_Some (Relation item.key.objectid item.key.offset) part given.1)
      (relation (nil_from_length item.body empty))

  pub part-cases : quota_part item ≡ Some part → P part
  unfolding quota_part
  part-cases h =
      orelse_some _ _ part h status_case
      (λ later. orelse_some _ _ part later info_case
      (λ last. orelse_some _ _ part last limit_case relation_case))

-- quota is on, and flags of limits are known
abbrev pub is_known : QuotaPart → Bool
is_known (Status status) = is_status status
is_known (Info group info) = true
is_known (Limits group limit) = nat_le limit.flags 3
is_known (Relation group other) = true

known : (item : Item) (part : QuotaPart) → quota_part item ≡ Some part → is_known part ≡ true
known item part h =
    part-cases item part (λ part. is_known part ≡ true) (λ told read on. on) (λ told read. refl) (λ told read few. few)
    (λ empty. refl) h

abbrev body_of : QuotaPart → List ℕ
body_of (Status status) = status_text status
body_of (Info group info) = info_text info
body_of (Limits group limit) = limit_text limit
body_of (Relation group other) = []

body_is : (item : Item) (part : QuotaPart) → IsBytes item.body → quota_part item ≡ Some part → item.body ≡ body_of part
body_is item part bytes h =
    part-cases item part (λ part. item.body ≡ body_of part)
    (λ told read on. status_text-from_read item.body told bytes read)
    (λ told read. info_text-from_read item.body told bytes read)
    (λ told read few. limit_text-from_read item.body told bytes read) (λ empty. empty) h

-- the item of what is said
abbrev pub item_of_part : QuotaPart → Item
item_of_part part = record { key = quota_key part; body = body_of part }

item_is : (item : Item) (part : QuotaPart) → IsBytes item.body → quota_part item ≡ Some part → item ≡ item_of_part part
item_is item part bytes h = λ i. record { key = sym (quota_keyed item part h) i; body = body_is item part bytes h i }

-- the tree may hold an item that says this in an image of this generation
abbrev pub passes : ℕ → QuotaPart → Bool
passes generation part = are_by generation (quota_part_stamps part) && tells_generation generation part

-- each item that the tree may hold says something
pub said-one : (generation : ℕ) (item : Item) → is_item_of Quotas generation item ≡ true
    → (part : QuotaPart) × (quota_part item ≡ Some part) × (passes generation part ≡ true) × (is_known part ≡ true)
unfolding is_item_of
said-one generation item h = cases (quota_part item) refl h where
  cases : (o : Option QuotaPart) → quota_part item ≡ o → some_passes (passes generation) o ≡ true
      → (part : QuotaPart) × (quota_part item ≡ Some part) × (passes generation part ≡ true) × (is_known part ≡ true)
  cases None is h = absurd (true≢false (sym h))
  cases (Some part) is h = (part, is, h, known item part is)

-- ---- all items

pub said-all : (generation : ℕ) (items : List Item) → list_all (is_item_of Quotas generation) items ≡ true
    → map quota_part items ≡ map (λ part. Some part) (filter_map quota_part items)
said-all generation [] all = refl
said-all generation (item ∷ items) all =
    let both = and_parts (is_item_of Quotas generation item) (list_all (is_item_of Quotas generation) items) all in
    let one = said-one generation item both.0 in
    let rest = said-all generation items both.1 in
    subst (λ (o : Option QuotaPart). ◌≡◌ {A = List (Option QuotaPart)} (o ∷ map quota_part items)
    (map (λ part. Some part) (cons_option o (filter_map quota_part items)))) (sym one.1)
    (ap (λ (list : List (Option QuotaPart)). Some one.0 ∷ list) rest)

-- so the parts' keys ascend
pub said-ascending : (generation : ℕ) (items : List Item) → list_all (is_item_of Quotas generation) items ≡ true
    → IsTrue (is_ascending (map (λ (item : Item). item.key) items))
    → IsTrue (is_ascending (map quota_key (filter_map quota_part items)))
said-ascending generation items all up =
    quotas_ascending (filter_map quota_part items) (record {
      items = items;
      said = said-all generation items all;
      ascending = up;
    })

pub said-passes : (generation : ℕ) (items : List Item) → list_all (is_item_of Quotas generation) items ≡ true
    → list_all (passes generation) (filter_map quota_part items) ≡ true
said-passes generation [] all = refl
said-passes generation (item ∷ items) all =
    let both = and_parts (is_item_of Quotas generation item) (list_all (is_item_of Quotas generation) items) all in
    let one = said-one generation item both.0 in
    let rest = said-passes generation items both.1 in
    subst (λ (o : Option QuotaPart). list_all (passes generation) (cons_option o (filter_map quota_part items)) ≡ true)
    (sym one.1)
    (ap (λ (here : Bool). here && list_all (passes generation) (filter_map quota_part items)) one.2 ∙ rest)

pub said-known : (generation : ℕ) (items : List Item) → list_all (is_item_of Quotas generation) items ≡ true
    → list_all is_known (filter_map quota_part items) ≡ true
said-known generation [] all = refl
said-known generation (item ∷ items) all =
    let both = and_parts (is_item_of Quotas generation item) (list_all (is_item_of Quotas generation) items) all in
    let one = said-one generation item both.0 in
    let rest = said-known generation items both.1 in
    subst (λ (o : Option QuotaPart). list_all is_known (cons_option o (filter_map quota_part items)) ≡ true) (sym one.1)
    (ap (λ (here : Bool). here && list_all is_known (filter_map quota_part items)) one.3 ∙ rest)

-- items whose bodies are bytes are those of what they say
pub items-said : (generation : ℕ) (items : List Item) → list_all (is_item_of Quotas generation) items ≡ true
    → All ItemFits items
    → items ≡ map item_of_part (filter_map quota_part items)
items-said generation [] all fit = refl
items-said generation (item ∷ items) all fit =
    let both = and_parts (is_item_of Quotas generation item) (list_all (is_item_of Quotas generation) items) all in
    let one = said-one generation item both.0 in
    let rest = items-said generation items both.1 (All-tail ItemFits item items fit) in
    let bytes = All-head ItemFits item items fit in
    subst (λ (o : Option QuotaPart). ◌≡◌ {A = List Item} (item ∷ items)
    (map item_of_part (cons_option o (filter_map quota_part items)))) (sym one.1)
    (ap (λ (first : Item). first ∷ items) (item_is item one.0 bytes.body one.1)
    ∙ ap (λ (list : List Item). item_of_part one.0 ∷ list) rest)
