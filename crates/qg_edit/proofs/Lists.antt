-- What an edit makes of items whose keys ascend, by the place of its key.
use Rattle.std.proofs.Common.{◌≡◌, ℕ, zero, suc, true, false, List, [], ◌∷◌, map, refl, sym, ap, subst, ◌∙◌, arith}
use Rattle.std.proofs.Common.{take, set, Some}
use Rattle.std.specs.Prelude.{Bool, ◌||◌, insert, remove, slice_get}
use Rattle.std.specs.List.{list_all}
use Rattle.std.specs.Ordering.{is_lt}
use Rattle.std.proofs.lemmas.Bool.{and_parts, false_from_ne_true, true≢false}
use Rattle.qg_num.specs.declared.key.Key.{Key}
use Rattle.qg_num.specs.Key.{key_cmp}
use Rattle.qg_node.specs.declared.item.Item.{Item}
use Rattle.qg_node.specs.Nodes.{is_ascending}
use Rattle.qg_image.specs.IsShaped.{same_key}
use Rattle.qg_shape.specs.Places.{GoesAt}
use Rattle.qg_shape.proofs.Ascending.{all_behind, ascending_tail_of, less_trans, not_itself, same_itself}
use Rattle.qg_walk.proofs.KeyRanges.{same_key-true}
use Rattle.qg_edit.specs.Edits.{has_key, with_item, without_key}

abbrev pub keys_of : List Item → List Key
keys_of items = map (λ item. item.key) items

-- ---- keys

-- of two keys that are the same neither is less
pub same-not_less : (a b : Key) → is_lt (key_cmp a b) ≡ true → same_key a b ≡ false
same-not_less a b less = false_from_ne_true (same_key a b) (λ same.
    true≢false (sym less ∙ ap (λ (k : Key). is_lt (key_cmp k b)) (same_key-true a b same) ∙ not_itself b))

pub same-not_greater : (a b : Key) → is_lt (key_cmp b a) ≡ true → same_key a b ≡ false
same-not_greater a b less = false_from_ne_true (same_key a b) (λ same.
    true≢false (sym less ∙ ap (λ (k : Key). is_lt (key_cmp b k)) (same_key-true a b same) ∙ not_itself b))

pub greater-not_less : (a b : Key) → is_lt (key_cmp b a) ≡ true → is_lt (key_cmp a b) ≡ false
greater-not_less a b less =
    false_from_ne_true (is_lt (key_cmp a b)) (λ other. true≢false (sym (less_trans b a b less other) ∙ not_itself b))

-- ---- one item more

-- the place in the rest of a list
goes_later : (key first : Key) (keys : List Key) (place : ℕ) → GoesAt (first ∷ keys) key (suc place)
    → GoesAt keys key place
goes_later key first keys place goes =
    let parts = and_parts (is_lt (key_cmp first key)) (list_all (λ other. is_lt (key_cmp other key)) (take place keys))
    goes.between.less in
    record { within = omega (arith, goes.within); between = record { less = parts.1; greater = goes.between.greater } }

-- an item is put where its key goes
pub with_item-goes : (new : Item) (items : List Item) (place : ℕ) → GoesAt (keys_of items) new.key place
    → with_item new items ≡ insert items place new
with_item-goes new [] zero goes = refl
with_item-goes new [] (suc place) goes = absurd (let within = goes.within in omega (arith, within))
with_item-goes new (item ∷ items) zero goes =
    let parts = and_parts (is_lt (key_cmp new.key item.key))
    (list_all (λ other. is_lt (key_cmp new.key other)) (keys_of items)) goes.between.greater in
    let unless = greater-not_less item.key new.key parts.0 in
    let other = same-not_greater item.key new.key parts.0 in
    rw (unless, other) refl
with_item-goes new (item ∷ items) (suc place) goes =
    let parts = and_parts (is_lt (key_cmp item.key new.key))
    (list_all (λ other. is_lt (key_cmp other new.key)) (take place (keys_of items))) goes.between.less in
    let less = parts.0 in
    rw less (ap (λ (xs : List Item). item ∷ xs)
    (with_item-goes new items place (goes_later new.key item.key (keys_of items) place goes)))

-- no item has it
pub has_key-goes : (key : Key) (items : List Item) (place : ℕ) → GoesAt (keys_of items) key place
    → has_key key items ≡ false
has_key-goes key [] place goes = refl
has_key-goes key (item ∷ items) zero goes =
    let parts = and_parts (is_lt (key_cmp key item.key)) (list_all (λ other. is_lt (key_cmp key other)) (keys_of items))
    goes.between.greater in
    let other = same-not_greater item.key key parts.0 in
    rw other (has_key-goes key items zero
    (record { within = omega arith; between = record { less = refl; greater = parts.1 } }))
has_key-goes key (item ∷ items) (suc place) goes =
    let parts = and_parts (is_lt (key_cmp item.key key))
    (list_all (λ other. is_lt (key_cmp other key)) (take place (keys_of items))) goes.between.less in
    let other = same-not_less item.key key parts.0 in
    rw other (has_key-goes key items place (goes_later key item.key (keys_of items) place goes))

-- ---- the item with a key

abbrev pub IsThere : Key → List Item → ℕ → Item → Type 0
IsThere key items place item = (slice_get items place ≡ Some item) × (item.key ≡ key)

key_there : (key : Key) (items : List Item) (place : ℕ) → slice_get (keys_of items) place ≡ Some key
    → (item : Item) × IsThere key items place item
key_there key [] place is = absurd cc
key_there key (item ∷ items) zero is = (item, (refl, cc))
key_there key (item ∷ items) (suc place) is = key_there key items place is

pub item-there : (key : Key) (items : List Item) (place : ℕ) → slice_get (keys_of items) place ≡ Some key
    → (item : Item) × IsThere key items place item
item-there = key_there

pub has_key-there : (key : Key) (items : List Item) (place : ℕ) → slice_get (keys_of items) place ≡ Some key
    → has_key key items ≡ true
has_key-there key [] place is = absurd cc
has_key-there key (item ∷ items) zero is =
    let same : item.key ≡ key = cc in
    let there : same_key item.key key ≡ true = rw same (same_itself key) in
    rw there refl
has_key-there key (item ∷ items) (suc place) is =
    let later = has_key-there key items place is in
    let Q : Bool → Type 0 = λ b. (b || has_key key items) ≡ true in
    elim (same_key item.key key) as Q [ true ↦ refl | false ↦ later ]

-- the first of items, in front of one with a key, is less
first_less : (first : Key) (items : List Item) (place : ℕ) (key : Key) → is_ascending (first ∷ keys_of items) ≡ true
    → slice_get (keys_of items) place ≡ Some key → is_lt (key_cmp first key) ≡ true
unfolding is_ascending
first_less first items place key ascending is =
    behind (keys_of items) place (all_behind first (keys_of items) ascending) is where
      behind : (keys : List Key) (place : ℕ) → list_all (λ other. is_lt (key_cmp first other)) keys ≡ true
          → slice_get keys place ≡ Some key → is_lt (key_cmp first key) ≡ true
      behind [] place all is = absurd cc
      behind (other ∷ keys) zero all is = let same : other ≡ key = cc in
          rw (sym same) ((and_parts (is_lt (key_cmp first other)) (list_all (λ other. is_lt (key_cmp first other)) keys)
          all).0)
      behind (other ∷ keys) (suc place) all is =
          behind keys place ((and_parts (is_lt (key_cmp first other))
          (list_all (λ other. is_lt (key_cmp first other)) keys)
          all).1) is

-- it gets another body
pub with_item-there : (items : List Item) (place : ℕ) (item new : Item) → is_ascending (keys_of items) ≡ true
    → slice_get items place ≡ Some item → item.key ≡ new.key
    → with_item new items ≡ set items place new
with_item-there [] place item new ascending there same = absurd cc
with_item-there (first ∷ items) zero item new ascending there same =
    let is : first.key ≡ new.key = let e : first ≡ item = cc in ap (λ (i : Item). i.key) e ∙ same in
    let unless : is_lt (key_cmp first.key new.key) ≡ false = rw is (not_itself new.key) in
    let equal : same_key first.key new.key ≡ true = rw is (same_itself new.key) in
    rw (unless, equal) refl
with_item-there (first ∷ items) (suc place) item new ascending there same =
    let key : slice_get (keys_of items) place ≡ Some new.key = key_at items place item new.key there same in
    let less = first_less first.key items place new.key ascending key in
    rw less (ap (λ (xs : List Item). first ∷ xs)
    (with_item-there items place item new (ascending_tail_of first.key (keys_of items) ascending) there same)) where
      key_at : (items : List Item) (place : ℕ) (item : Item) (key : Key) → slice_get items place ≡ Some item
          → item.key ≡ key → slice_get (keys_of items) place ≡ Some key
      key_at [] place item key there same = absurd cc
      key_at (first ∷ items) zero item key there same = let e : first ≡ item = cc in
          ap Some (ap (λ (i : Item). i.key) e ∙ same)
      key_at (first ∷ items) (suc place) item key there same = key_at items place item key there same

-- what is greater than a key stays without it
without_behind : (key : Key) (items : List Item) → list_all (λ other. is_lt (key_cmp key other)) (keys_of items) ≡ true
    → without_key key items ≡ items
without_behind key [] greater = refl
without_behind key (item ∷ items) greater =
    let parts = and_parts (is_lt (key_cmp key item.key)) (list_all (λ other. is_lt (key_cmp key other)) (keys_of items))
    greater in
    let other = same-not_greater item.key key parts.0 in
    rw other (ap (λ (xs : List Item). item ∷ xs) (without_behind key items parts.1))

without_first : (key : Key) (first : Item) (items : List Item) → is_ascending (keys_of (first ∷ items)) ≡ true
    → first.key ≡ key → without_key key (first ∷ items) ≡ items
unfolding is_ascending
without_first key first items ascending same =
    let equal : same_key first.key key ≡ true = rw same (same_itself key) in
    let greater : list_all (λ other. is_lt (key_cmp key other)) (keys_of items) ≡ true =
    subst (λ (k : Key). list_all (λ other. is_lt (key_cmp k other)) (keys_of items) ≡ true) same
    (all_behind first.key (keys_of items) ascending) in
    rw equal (without_behind key items greater)

-- it goes
pub without_key-there : (key : Key) (items : List Item) (place : ℕ) → is_ascending (keys_of items) ≡ true
    → slice_get (keys_of items) place ≡ Some key → without_key key items ≡ remove items place
without_key-there key [] place ascending is = absurd cc
without_key-there key (first ∷ items) zero ascending is =
    without_first key first items ascending (let e : first.key ≡ key = cc in e)
without_key-there key (first ∷ items) (suc place) ascending is =
    let other = same-not_less first.key key (first_less first.key items place key ascending is) in
    rw other (ap (λ (xs : List Item). first ∷ xs)
    (without_key-there key items place (ascending_tail_of first.key (keys_of items) ascending) is))
