-- The records of the extent tree that items name are those of what the items say.
use Rattle.std.proofs.Common.{◌≡◌, ℕ, Bool, true, false, List, [], ◌∷◌, map, Option, Some, None, refl, sym, ap, ◌∙◌}
use Rattle.std.specs.Prelude.{◌&&◌, ◌||◌, ◌==◌, is_some}
use Rattle.std.specs.List.{cons_option, filter_map, flat_map}
use Rattle.std.specs.Option.{option_map}
use Rattle.std.proofs.lemmas.Bool.{and_parts, eqb-true, false_from_ne_true, true≢false}
use Rattle.qg_node.specs.declared.item.Item.{Item}
use Rattle.qg_node.specs.Nodes.{own_items}
use Rattle.qg_items.specs.declared.kind.TheConstants.{ROOT_ITEM}
use Rattle.qg_items.specs.declared.root.RootItem.{RootItem}
use Rattle.qg_image.specs.declared.part.ExtentPart.{ExtentPart}
use Rattle.qg_image.specs.declared.part.QuotaPart.{QuotaPart}
use Rattle.qg_image.specs.declared.part.QuotaPart.TheVariants as part
use Rattle.qg_image.specs.ItemMeaning.{extent_part, first_some, is_keyed, quota_part, root_part, when}
use Rattle.qg_image.specs.Need.{held_records}
use Rattle.qg_image.specs.Record.{Record, RootOf, extent_record, quota_record, record_named, same_record}
use Rattle.qg_image.specs.State.{State}
use Rattle.qg_extents.specs.Types.{Kept}
use Rattle.qg_extents.specs.Table.{IsTable}
use Rattle.qg_extents.specs.Written.{parts_of_book}
use Rattle.qg_weighed.specs.Laws.{IsRecorded, is_among, is_of_extents}
use Rattle.qg_weighed.proofs.Distinct.{same_record_is}

-- ---- one item

when_some : {A : Type 0} (test : Bool) (given : Option A) → is_some (when test given) ≡ true → test ≡ true
when_some true given some = refl
when_some false given some = some

-- an item of the root tree is none of the extent tree
exclusive : (item : Item) → is_some (root_part item) ≡ true → extent_part item ≡ None
unfolding root_part extent_part
exclusive item some =
    let test = and_parts (is_keyed item.key.objectid ROOT_ITEM 0 item) _ (when_some _ _ some) in
    let keyed = and_parts ((item.key.objectid == item.key.objectid) && (item.key.kind == ROOT_ITEM))
    (item.key.offset == 0) test.0 in
    let kind = and_parts (item.key.objectid == item.key.objectid) (item.key.kind == ROOT_ITEM) keyed.0 in
    let is : item.key.kind ≡ ROOT_ITEM = eqb-true item.key.kind ROOT_ITEM kind.1 in
    rw is refl

quota-other : (part : QuotaPart) → is_of_extents (quota_record part) ≡ false
quota-other (part.Status status) = refl
quota-other (part.Info group info) = refl
quota-other (part.Limits group limit) = refl
quota-other (part.Relation group other) = refl

unlike : (one other : Record) → is_of_extents one ≡ true → is_of_extents other ≡ false → same_record one other ≡ false
unlike one other extents none = false_from_ne_true (same_record one other)
    (λ same. true≢false (sym extents ∙ ap is_of_extents (same_record_is one other same) ∙ none))

abbrev Entry : Type 0
Entry = ℕ × RootItem

-- what an item names, by what it says as one of each tree
abbrev named_by : Option Entry → Option ExtentPart → Option QuotaPart → Option Record
named_by root extent quota = first_some
    (option_map (λ (entry : Entry). RootOf entry.0) root ∷ option_map extent_record extent
    ∷ option_map quota_record quota ∷ [])

module _ (records : List Record) (parts : List ExtentPart) (one : Record) (extents : is_of_extents one ≡ true)
    (alike : is_among records one ≡ is_among (map extent_record parts) one) where
  item-named : (root : Option Entry) (extent : Option ExtentPart) (quota : Option QuotaPart)
      → (is_some root ≡ true → extent ≡ None)
      → is_among (cons_option (named_by root extent quota) records) one
      ≡ is_among (map extent_record (cons_option extent parts)) one
  item-named (Some entry) None quota apart =
      ap (λ (b : Bool). b || is_among records one) (unlike one (RootOf entry.0) extents refl) ∙ alike
  item-named (Some entry) (Some part) quota apart = absurd (some_none (apart refl))
    where
      some_none : Some part ≡ None → ⊥
      some_none is = cc
  item-named None (Some part) quota apart = ap (λ (b : Bool). same_record one (extent_record part) || b) alike
  item-named None None (Some part) apart =
      ap (λ (b : Bool). b || is_among records one) (unlike one (quota_record part) extents (quota-other part)) ∙ alike
  item-named None None None apart = alike

-- ---- all items

items-named : (items : List Item) (one : Record) → is_of_extents one ≡ true
    → is_among (filter_map record_named items) one ≡ is_among (map extent_record (filter_map extent_part items)) one
unfolding record_named
items-named [] one extents = refl
items-named (item ∷ items) one extents =
    item-named (filter_map record_named items) (filter_map extent_part items) one extents
    (items-named items one extents) (root_part item) (extent_part item) (quota_part item) (exclusive item)

-- so where the items of the last commit say what a table's do, it records that table
pub said-recorded : (state : State) (held : List (ℕ × Kept)) → IsTable held
    → filter_map extent_part (flat_map own_items state.held.others) ≡ parts_of_book held → IsRecorded state held
unfolding held_records
said-recorded state held is said = record {
  kept = is;
  same = λ one extents. items-named (flat_map own_items state.held.others) one extents
      ∙ ap (λ (parts : List ExtentPart). is_among (map extent_record parts) one) said;
}
