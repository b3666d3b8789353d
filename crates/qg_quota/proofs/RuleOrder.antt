-- The rules on items, by what was read of them.
use Rattle.std.proofs.Common.{◌≡◌, ℕ, ◌+◌, ◌<◌, Bool, true, false, List, [], ◌∷◌, ◌++◌, get_or, length, take, refl, ap}
use Rattle.std.proofs.Common.{sym, ◌∙◌, inl, inr}
use Rattle.std.specs.Prelude.{IsTrue, Option, Some, None, map, if◌then◌else◌}
use Rattle.std.specs.Bool.{then_some}
use Rattle.std.specs.List.{cons_option, filter_map, list_all}
use Rattle.std.proofs.lemmas.Bool.{cases_Bool}
use Rattle.std.proofs.lemmas.List.Folds.{list_all_at}
use Rattle.std.proofs.lemmas.Option.{none-some}
use Rattle.qg_num.specs.declared.rule.Rule.TheVariants as rule
use Rattle.qg_node.specs.declared.item.Item.{Item}
use Rattle.qg_node.specs.Nodes.{is_ascending}
use Rattle.qg_items.proofs.Trips.{then_some_parts}
use Rattle.qg_image.specs.declared.part.QuotaPart.{QuotaPart}
use Rattle.qg_image.specs.ItemMeaning.{quota_part, when}
use Rattle.qg_tree_items.specs.Keys.{quota_key}
use Rattle.qg_image.specs.declared.tree.TreeKind.TheVariants.{Quotas}
use Rattle.qg_image.specs.Walk.{is_item_of}
use Rattle.qg_quota.specs.Quota.{items_rule, quota_rule}
use Rattle.qg_quota.proofs.Lists.{all-more, filter_map-more}
use Rattle.qg_quota.proofs.Said.{said-ascending, said-one, when-parts}

-- what was read of an item: what it says, where it is allowed
module _ (generation : ℕ) (items : List Item) (i : ℕ) (item : Item) (inside : i < length items)
    (at : item ≡ get_or items i item)
    (read : Option QuotaPart) (is : read ≡ when (is_item_of Quotas generation item) (quota_part item)) where
  -- where nothing was, it isn't allowed
  not_allowed : read ≡ None → is_item_of Quotas generation item ≡ false
  not_allowed none = elim (cases_Bool (is_item_of Quotas generation item)) [
    | inl allowed ↦
        let one = said-one generation item allowed in
        let clash : None ≡ Some one.0 = sym none ∙ is ∙ ap (λ (b : Bool). when b (quota_part item)) allowed ∙ one.1 in
        absurd (none-some one.0 clash)
    | inr other ↦ other
  ]

  pub nothing-read : read ≡ None
      → None ≡ then_some (list_all (is_item_of Quotas generation) items) (filter_map quota_part items)
  nothing-read none =
      let one : is_item_of Quotas generation (get_or items i item) ≡ false = ap (is_item_of Quotas generation) (sym at)
      ∙ not_allowed none in
      ap (λ (b : Bool). then_some b (filter_map quota_part items))
      (sym (list_all_at (is_item_of Quotas generation) items i item inside one))

  pub next-allowed : (part : QuotaPart) → read ≡ Some part → list_all (is_item_of Quotas generation) (take i items)
      ≡ true
      → list_all (is_item_of Quotas generation) (take (i + 1) items) ≡ true
  next-allowed part some so_far =
      all-more (is_item_of Quotas generation) items i item inside at so_far
      (when-parts (is_item_of Quotas generation item) (quota_part item) part (sym is ∙ some)).0

  pub next-part : (part : QuotaPart) (made more : List QuotaPart) → read ≡ Some part
      → made ≡ filter_map quota_part (take i items)
      → more ≡ made ++ part ∷ []
      → more ≡ filter_map quota_part (take (i + 1) items)
  next-part part made more some before put =
      let says = (when-parts (is_item_of Quotas generation item) (quota_part item) part (sym is ∙ some)).1 in
      put ∙ ap (λ (list : List QuotaPart). list ++ part ∷ []) before
      ∙ ap (λ (o : Option QuotaPart). filter_map quota_part (take i items) ++ cons_option o []) (sym says)
      ∙ sym (filter_map-more quota_part items i item inside at)

-- what was read of some items: what all say, where each is allowed
module _ (generation : ℕ) (items seen : List Item) (same : seen ≡ items) (read : Option (List QuotaPart))
    (is : read ≡ then_some (list_all (is_item_of Quotas generation) seen) (filter_map quota_part seen)) where
  read_is : read ≡ then_some (list_all (is_item_of Quotas generation) items) (filter_map quota_part items)
  read_is = is ∙ ap (λ (list : List Item). then_some (list_all (is_item_of Quotas generation) list)
      (filter_map quota_part list)) same

  pub read-parts : (parts : List QuotaPart) → read ≡ Some parts
      → (list_all (is_item_of Quotas generation) items ≡ true) × (filter_map quota_part items ≡ parts)
  read-parts parts some = then_some_parts (list_all (is_item_of Quotas generation) items) (filter_map quota_part items)
      parts (sym read_is ∙ some)

  -- where something was read, the rules are those on what was read
  pub rule-of-parts : (live : List ℕ) (parts : List QuotaPart) → read ≡ Some parts
      → items_rule generation live items ≡ quota_rule live parts
  rule-of-parts live parts some =
      let both = read-parts parts some in
      ap (λ (b : Bool). if b then quota_rule live (filter_map quota_part items) else Some rule.Item) both.0
      ∙ ap (quota_rule live) both.1

  pub parts-ascend : (parts : List QuotaPart) → read ≡ Some parts
      → IsTrue (is_ascending (map (λ (item : Item). item.key) items))
      → IsTrue (is_ascending (map quota_key parts))
  parts-ascend parts some up =
      let both = read-parts parts some in
      ap (λ (list : List QuotaPart). is_ascending (map quota_key list)) (sym both.1)
      ∙ said-ascending generation items both.0 up

  -- and where nothing was, some item isn't allowed
  pub rule-of-none : (live : List ℕ) → read ≡ None → items_rule generation live items ≡ Some rule.Item
  rule-of-none live none =
      ap (λ (b : Bool). if b then quota_rule live (filter_map quota_part items) else Some rule.Item)
      (broken (list_all (is_item_of Quotas generation) items) (filter_map quota_part items) (sym none ∙ read_is)) where
        broken : (b : Bool) (parts : List QuotaPart) → None ≡ then_some b parts → b ≡ false
        broken true parts same = absurd (none-some parts same)
        broken false parts same = refl
