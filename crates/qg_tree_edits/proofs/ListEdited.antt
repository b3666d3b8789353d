-- What an edit of one leaf's items makes of all.
use Rattle.std.proofs.Common.{◌≡◌, true, false, List, [], ◌∷◌, ◌++◌, refl, sym, ap, ◌∙◌, inl, inr}
use Rattle.std.specs.Prelude.{⊤, Bool, not}
use Rattle.std.specs.List.{list_all}
use Rattle.std.specs.Ordering.{is_lt}
use Rattle.std.proofs.lemmas.Bool.{and_parts, cases_Bool}
use Rattle.std.proofs.lemmas.List.Elements.{filter-append}
use Rattle.qg_num.specs.Key.{key_cmp}
use Rattle.qg_num.specs.declared.key.Key.{Key}
use Rattle.qg_node.specs.declared.item.Item.{Item}
use Rattle.qg_image.specs.IsShaped.{same_key}
use Rattle.qg_walk.proofs.KeyRanges.{list_all-weaker, not_less_behind}
use Rattle.qg_edit.specs.declared.edit.Edit.{Edit}
use Rattle.qg_edit.specs.declared.edit.Change.{Change}
use Rattle.qg_edit.specs.declared.edit.Change.TheVariants.{Insert, Replace, Remove, Clear}
use Rattle.qg_edit.specs.Edits.{changed, edited, with_item, without_key}
use Rattle.qg_edit.proofs.Lists.{same-not_greater, same-not_less}
use Rattle.qg_tree_edits.specs.Editing.{IsLeafEdited}

not_true : (b : Bool) → not b ≡ true → b ≡ false
not_true true is = absurd cc
not_true false is = refl

-- items in front of the key stay in front of it
with_front : (new : Item) (front rest : List Item) → list_all (λ item. is_lt (key_cmp item.key new.key)) front ≡ true
    → with_item new (front ++ rest) ≡ front ++ with_item new rest
with_front new [] rest all = refl
with_front new (item ∷ front) rest all =
    let parts = and_parts (is_lt (key_cmp item.key new.key))
    (list_all (λ (other : Item). is_lt (key_cmp other.key new.key)) front) all in
    rw parts.0 (ap (λ (xs : List Item). item ∷ xs) (with_front new front rest parts.1))

-- and those behind it behind
with_first : (new : Item) (back : List Item) → list_all (λ item. is_lt (key_cmp new.key item.key)) back ≡ true
    → with_item new back ≡ new ∷ back
with_first new [] all = refl
with_first new (item ∷ back) all =
    let parts = and_parts (is_lt (key_cmp new.key item.key))
    (list_all (λ (other : Item). is_lt (key_cmp new.key other.key)) back) all in
    let not_less = not_true (is_lt (key_cmp item.key new.key)) (not_less_behind new.key item.key parts.0) in
    let differ = same-not_greater item.key new.key parts.0 in
    rw (not_less, differ) refl

with_back : (new : Item) (leaf back : List Item) → list_all (λ item. is_lt (key_cmp new.key item.key)) back ≡ true
    → with_item new (leaf ++ back) ≡ with_item new leaf ++ back
with_back new [] back all = with_first new back all
with_back new (item ∷ leaf) back all = elim (cases_Bool (is_lt (key_cmp item.key new.key))) [
  | inl less ↦ rw less (ap (λ (xs : List Item). item ∷ xs) (with_back new leaf back all))
  | inr unless ↦ elim (cases_Bool (same_key item.key new.key)) [
    | inl same ↦ rw (unless, same) refl
    | inr differ ↦ rw (unless, differ) refl
  ]
]

with_between : (new : Item) (front leaf back : List Item) → list_all (λ item. is_lt (key_cmp item.key new.key)) front
    ≡ true → list_all (λ item. is_lt (key_cmp new.key item.key)) back ≡ true
    → front ++ (with_item new leaf ++ back) ≡ with_item new (front ++ (leaf ++ back))
with_between new front leaf back less greater =
    sym (with_front new front (leaf ++ back) less
    ∙ ap (λ (xs : List Item). front ++ xs) (with_back new leaf back greater))

-- items of other keys stay
without_others : (key : Key) (items : List Item) → list_all (λ item. not (same_key item.key key)) items ≡ true
    → without_key key items ≡ items
without_others key [] all = refl
without_others key (item ∷ items) all =
    let parts = and_parts (not (same_key item.key key))
    (list_all (λ (other : Item). not (same_key other.key key)) items) all in
    rw parts.0 (ap (λ (xs : List Item). item ∷ xs) (without_others key items parts.1))

none_less : (key : Key) (items : List Item) → list_all (λ item. is_lt (key_cmp item.key key)) items ≡ true
    → list_all (λ item. not (same_key item.key key)) items ≡ true
none_less key items all = list_all-weaker (λ (item : Item). is_lt (key_cmp item.key key))
    (λ (item : Item). not (same_key item.key key)) (λ item less. ap not (same-not_less item.key key less)) items all

none_greater : (key : Key) (items : List Item) → list_all (λ item. is_lt (key_cmp key item.key)) items ≡ true
    → list_all (λ item. not (same_key item.key key)) items ≡ true
none_greater key items all =
    list_all-weaker (λ (item : Item). is_lt (key_cmp key item.key)) (λ (item : Item). not (same_key item.key key))
    (λ item more. ap not (same-not_greater item.key key more)) items all

without_between : (key : Key) (front leaf back : List Item) → list_all (λ item. is_lt (key_cmp item.key key)) front
    ≡ true → list_all (λ item. is_lt (key_cmp key item.key)) back ≡ true
    → front ++ (without_key key leaf ++ back) ≡ without_key key (front ++ (leaf ++ back))
without_between key front leaf back less greater =
    sym (filter-append (λ (item : Item). not (same_key item.key key)) front (leaf ++ back)
    ∙ ap (λ (xs : List Item). xs ++ without_key key (leaf ++ back))
    (without_others key front (none_less key front less))
    ∙ ap (λ (xs : List Item). front ++ xs) (filter-append (λ (item : Item). not (same_key item.key key)) leaf back
    ∙ ap (λ (xs : List Item). without_key key leaf ++ xs) (without_others key back (none_greater key back greater))))

-- ---- an edit that clears no leaf does to all items what it does to those of the leaf

abbrev pub ClearsNone : Change → Type 0
ClearsNone (Insert body) = ⊤
ClearsNone (Replace body) = ⊤
ClearsNone Remove = ⊤
ClearsNone Clear = ⊥

changed_between : (key : Key) (change : Change) (front leaf back : List Item) → ClearsNone change
    → list_all (λ item. is_lt (key_cmp item.key key)) front ≡ true
    → list_all (λ item. is_lt (key_cmp key item.key)) back ≡ true
    → front ++ (changed key change leaf ++ back) ≡ changed key change (front ++ (leaf ++ back))
changed_between key (Insert body) front leaf back none less greater =
    with_between (record { key = key; body = body }) front leaf back less greater
changed_between key (Replace body) front leaf back none less greater =
    with_between (record { key = key; body = body }) front leaf back less greater
changed_between key Remove front leaf back none less greater = without_between key front leaf back less greater
changed_between key Clear front leaf back none less greater = absurd none

pub leaf-whole : (edit : Edit) (old new : List Item) → ClearsNone edit.change → IsLeafEdited edit old new
    → new ≡ edited edit old
leaf-whole edit old new none is =
    is.new_are ∙ changed_between edit.key edit.change is.front is.leaf is.back none is.less is.greater
    ∙ ap (changed edit.key edit.change) (sym is.old_are)
