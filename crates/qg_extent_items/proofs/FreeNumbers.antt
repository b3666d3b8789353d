-- The least number that no EXTENT_DATA_REF of an address has, item by item.
use Rattle.std.proofs.Common.{◌≡◌, ℕ, ◌+◌, ◌≤◌, ◌<◌, Bool, true, false, List, [], ◌∷◌, ◌++◌, length, take, drop}
use Rattle.std.proofs.Common.{get_or, refl, sym, ap, ◌∙◌, arith, inl, inr, ◌⊎◌, take_all, take-append-drop}
use Rattle.std.specs.Prelude.{◌||◌}
use Rattle.std.specs.List.{list_all}
use Rattle.std.specs.Cmp.{nat_cmp_is}
use Rattle.std.specs.Ordering.{is_lt, nat_cmp}
use Rattle.std.specs.declared.cmp.Ordering.TheVariants.{Less, Equal}
use Rattle.std.proofs.lemmas.Bool.{and_parts, cases_eq, false_from_ne_true, not_from_false, or_from, or_left}
use Rattle.std.proofs.lemmas.Bool.{or_right, true≢false}
use Rattle.std.proofs.lemmas.List.{drop_more, map-append}
use Rattle.std.proofs.lemmas.List.Folds.{list_any_more}
use Rattle.qg_num.specs.declared.key.Key.{Key}
use Rattle.qg_num.specs.Key.{key_cmp}
use Rattle.qg_node.specs.declared.item.Item.{Item}
use Rattle.qg_node.specs.Nodes.{is_ascending}
use Rattle.qg_image.specs.IsShaped.{same_key}
use Rattle.qg_shape.proofs.Ascending.{all_before}
use Rattle.qg_walk.proofs.KeyRanges.{same_key-true}
use Rattle.qg_edit.specs.Edits.{has_key}
use Rattle.qg_edit.proofs.Lists.{greater-not_less, keys_of}
use Rattle.qg_extent_items.specs.Reading.{data_ref_key}
use Rattle.qg_extent_items.specs.Standing.{IsFreeNumber}
use Rattle.qg_extent_items.proofs.Keyed.{Ascend, key-among}
use Rattle.qg_extent_items.proofs.Splices.{Among}

-- of the first items the least number that none has
pub record IsFreeSoFar (at : ℕ) (items : List Item) (i number : ℕ) : Type 0 where
  pub free : Ascend items → has_key (data_ref_key at number) (take i items) ≡ false
  pub least : (lesser : ℕ) → lesser < number → has_key (data_ref_key at lesser) (take i items) ≡ true

pub so-far-none : (at : ℕ) (items : List Item) → IsFreeSoFar at items 0 0
so-far-none at items = record { free = λ _. refl; least = λ lesser below. absurd (omega (arith, below)) }

-- one more item
has_more : (key : Key) (items : List Item) (i : ℕ) (item : Item) → i < length items → item ≡ get_or items i item
    → has_key key (take (i + 1) items) ≡ (has_key key (take i items) || same_key item.key key)
has_more key items i item inside is =
    list_any_more (λ (other : Item). same_key other.key key) items i item inside
    ∙ ap (λ (other : Item). has_key key (take i items) || same_key other.key key) (sym is)

pub so-far-other : (at : ℕ) (items : List Item) (i number : ℕ) (item : Item) → i < length items
    → item ≡ get_or items i item → same_key item.key (data_ref_key at number) ≡ false
    → IsFreeSoFar at items i number → IsFreeSoFar at items (i + 1) number
so-far-other at items i number item inside is differs so = record {
  free = λ ascend. has_more (data_ref_key at number) items i item inside is
      ∙ or_from (has_key (data_ref_key at number) (take i items)) (same_key item.key (data_ref_key at number))
      (so.free ascend) differs;
  least = λ lesser below. has_more (data_ref_key at lesser) items i item inside is
      ∙ or_left (has_key (data_ref_key at lesser) (take i items)) (same_key item.key (data_ref_key at lesser))
      (so.least lesser below);
}

-- a number is before the next one
next_less : (at number : ℕ) → is_lt (key_cmp (data_ref_key at number) (data_ref_key at (number + 1))) ≡ true
next_less at number =
    let same : nat_cmp at at ≡ Equal = sym (nat_cmp_is at at Equal refl) in
    let less : nat_cmp number (number + 1) ≡ Less = sym (nat_cmp_is number (number + 1) Less (omega arith)) in
    rw (same, less) refl

next_differs : (at number : ℕ) → same_key (data_ref_key at number) (data_ref_key at (number + 1)) ≡ false
next_differs at number =
    false_from_ne_true (same_key (data_ref_key at number) (data_ref_key at (number + 1))) (λ same.
    omega (
      arith,
      ap (λ (key : Key). key.offset) (same_key-true (data_ref_key at number) (data_ref_key at (number + 1))
          same),
    ))

-- what stands among keys that pass passes
passes : (p : Key → Bool) (items : List Item) (item : Item) → list_all p (keys_of items) ≡ true → Among item items
    → p item.key ≡ true
passes p [] item all among = absurd among
passes p (first ∷ items) item all (inl same) =
    ap (λ (other : Item). p other.key) (sym same) ∙ (and_parts (p first.key) (list_all p (keys_of items)) all).0
passes p (first ∷ items) item all (inr later) =
    passes p items item (and_parts (p first.key) (list_all p (keys_of items)) all).1 later

-- no item before one has a greater key
none_before : (at number i : ℕ) (items : List Item) (item : Item) → Ascend items → i < length items
    → item ≡ get_or items i item → item.key ≡ data_ref_key at number
    → has_key (data_ref_key at (number + 1)) (take i items) ≡ false
none_before at number i items item ascend inside is key =
    let split : items ≡ take i items ++ (item ∷ drop (i + 1) items) =
    sym (take-append-drop i items) ∙ ap (λ (l : List Item). take i items ++ l)
    (drop_more items i item inside ∙ ap (λ (x : Item). x ∷ drop (i + 1) items) (sym is)) in
    let keys : is_ascending (keys_of (take i items) ++ (item.key ∷ keys_of (drop (i + 1) items))) ≡ true =
    ap is_ascending (sym (map-append (λ (x : Item). x.key) (take i items) (item ∷ drop (i + 1) items))
    ∙ ap keys_of (sym split)) ∙ ascend in
    let less = all_before (keys_of (take i items)) item.key (keys_of (drop (i + 1) items)) keys in
    false_from_ne_true (has_key (data_ref_key at (number + 1)) (take i items)) (λ has.
    let found = key-among (data_ref_key at (number + 1)) (take i items) has in
    let own = passes (λ other. is_lt (key_cmp other item.key)) (take i items) found.0 less found.1.0 in
    let below : is_lt (key_cmp (data_ref_key at (number + 1)) (data_ref_key at number)) ≡ true =
    ap (λ (k : Key). is_lt (key_cmp k (data_ref_key at number))) (sym found.1.1)
    ∙ ap (λ (k : Key). is_lt (key_cmp found.0.key k)) (sym key) ∙ own in
    true≢false (sym below ∙ greater-not_less (data_ref_key at (number + 1)) (data_ref_key at number)
    (next_less at number)))

pub so-far-next : (at : ℕ) (items : List Item) (i number : ℕ) (item : Item) → i < length items
    → item ≡ get_or items i item → same_key item.key (data_ref_key at number) ≡ true
    → IsFreeSoFar at items i number → IsFreeSoFar at items (i + 1) (number + 1)
so-far-next at items i number item inside is same so =
    let key : item.key ≡ data_ref_key at number = same_key-true item.key (data_ref_key at number) same in
    record {
      free = λ ascend. has_more (data_ref_key at (number + 1)) items i item inside is
          ∙ or_from (has_key (data_ref_key at (number + 1)) (take i items))
          (same_key item.key (data_ref_key at (number + 1)))
          (none_before at number i items item ascend inside is key)
          (ap (λ (k : Key). same_key k (data_ref_key at (number + 1))) key ∙ next_differs at number);
      least = λ lesser below. has_more (data_ref_key at lesser) items i item inside is
          ∙ each lesser below (cases_eq lesser number);
    }
  where
    each : (lesser : ℕ) → lesser < number + 1 → (lesser ≡ number) ⊎ (lesser ≡ number → ⊥)
        → (has_key (data_ref_key at lesser) (take i items) || same_key item.key (data_ref_key at lesser)) ≡ true
    each lesser below (inl is) =
        or_right (has_key (data_ref_key at lesser) (take i items)) (same_key item.key (data_ref_key at lesser))
        (ap (λ (n : ℕ). same_key item.key (data_ref_key at n)) is ∙ same)
    each lesser below (inr apart) =
        or_left (has_key (data_ref_key at lesser) (take i items)) (same_key item.key (data_ref_key at lesser))
        (so.least lesser (omega (arith, below, apart)))

-- all items
pub so-far-all : (at : ℕ) (items : List Item) (i number : ℕ) → length items ≤ i → IsFreeSoFar at items i number
    → Ascend items → IsFreeNumber at items number
so-far-all at items i number past so ascend =
    let all : take i items ≡ items = take_all i items past in
    record {
      free = not_from_false (has_key (data_ref_key at number) items)
          (ap (λ (l : List Item). has_key (data_ref_key at number) l) (sym all) ∙ so.free ascend);
      least = λ lesser below. ap (λ (l : List Item). has_key (data_ref_key at lesser) l) (sym all)
          ∙ so.least lesser below;
    }
