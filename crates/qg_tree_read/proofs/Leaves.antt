-- What is read of one leaf.
use Rattle.std.proofs.Common.{◌≡◌, ℕ, zero, suc, ◌+◌, true, List, [], ◌∷◌, ◌++◌, map, refl, sym, ap, subst, ◌∙◌, take}
use Rattle.std.proofs.Common.{drop, get_or, length, arith, ◌<◌, ◌-◌, Some, None}
use Rattle.std.specs.Prelude.{Bool, filter, slice_get}
use Rattle.std.specs.List.{list_all}
use Rattle.std.specs.Option.{option_map}
use Rattle.std.specs.Ordering.{is_lt}
use Rattle.std.proofs.lemmas.Option.{slice_get-map, slice_get_read, slice_get_within}
use Rattle.std.proofs.lemmas.Bool.{and_from, and_parts}
use Rattle.std.proofs.lemmas.List.{map-append, take-append-drop, take-map, drop-map, length-map}
use Rattle.std.proofs.lemmas.List.Elements.{filter-append}
use Rattle.std.proofs.lemmas.List.Folds.{list_all-map}
use Rattle.qg_num.specs.Key.{key_cmp}
use Rattle.qg_num.specs.declared.key.Key.{Key}
use Rattle.qg_node.specs.declared.item.Item.{Item}
use Rattle.qg_node.specs.Nodes.{is_ascending}
use Rattle.qg_blocks.specs.IsShaped.{same_key}
use Rattle.qg_shape.specs.Places.{GoesAt}
use Rattle.qg_shape.proofs.Ascending.{all_before, all_behind, ascending_back, same_itself}
use Rattle.qg_walk.proofs.KeyRanges.{not_less_behind, not_less_itself}
use Rattle.qg_tree_read.specs.Reading.{body_at, is_upto, last_or, last_upto}
use Rattle.qg_tree_read.proofs.Under.{all_to}
use Rattle.qg_tree_read.proofs.Leads.{cut_at}
use Rattle.qg_tree_read.proofs.Parts.{all_past, body-none, body-skip, filter_none, last_or-append, not_false}

abbrev pub keys_of : List Item → List Key
keys_of items = map (λ item. item.key) items

-- where items ascend, those in front of one are less than it, and those behind it greater
pub record IsCut (items : List Item) (item : Item) : Type 0 where
  pub front : List Item
  pub back : List Item
  pub whole : items ≡ front ++ (item ∷ back)
  pub less : all_to (Some item.key) front ≡ true
  pub past : all_past item.key back ≡ true

pub cut-there : (items : List Item) (place : ℕ) (item : Item) → is_ascending (keys_of items) ≡ true
    → slice_get items place ≡ Some item → IsCut items item
unfolding is_ascending
cut-there items place item ascending there =
    let front = take place items in
    let back = drop (place + 1) items in
    let cut = cut_at items place item there in
    let keys : is_ascending (keys_of front ++ (item.key ∷ keys_of back)) ≡ true =
    sym (ap is_ascending (ap keys_of cut ∙ map-append (λ (x : Item). x.key) front (item ∷ back))) ∙ ascending in
    let behind : is_ascending (item.key ∷ keys_of back) ≡ true =
    ascending_back (keys_of front) (item.key ∷ keys_of back) keys in
    record {
      front = front;
      back = back;
      whole = cut;
      less = sym (list_all-map (λ (other : Key). is_lt (key_cmp other item.key)) (λ (x : Item). x.key) front)
          ∙ all_before (keys_of front) item.key (keys_of back) keys;
      past = sym (list_all-map (λ (other : Key). is_lt (key_cmp item.key other)) (λ (x : Item). x.key) back)
          ∙ all_behind item.key (keys_of back) behind;
    }

-- an item that was found, and read
pub at-found : (items : List Item) (place : ℕ) (key : Key) (item : Item) → slice_get (keys_of items) place ≡ Some key
    → item ≡ get_or items place item
    → (slice_get items place ≡ Some item) × (item.key ≡ key)
at-found items place key item found is =
    let inside : place < length items =
    omega (arith, slice_get_within (keys_of items) place key found, length-map items (λ (x : Item). x.key)) in
    let there = slice_get_read items (length items) place item refl inside is in
    let same = sym (slice_get-map (λ (x : Item). x.key) items place ∙ ap (option_map (λ (x : Item). x.key)) there)
    ∙ found in
    (there, cc same)

-- ---- the body under a key

body_here : (key : Key) (item : Item) (back : List Item) → item.key ≡ key → body_at key (item ∷ back) ≡ Some item.body
body_here key item back same = let is = subst (λ (k : Key). same_key item.key k ≡ true) same (same_itself item.key) in
    rw is refl

pub body-there : (key : Key) (items : List Item) (place : ℕ) (item : Item) → is_ascending (keys_of items) ≡ true
    → slice_get items place ≡ Some item → item.key ≡ key
    → body_at key items ≡ Some item.body
body-there key items place item ascending there same =
    let cut = cut-there items place item ascending there in
    let less = subst (λ (k : Key). all_to (Some k) cut.front ≡ true) same cut.less in
    ap (body_at key) cut.whole ∙ body-skip key cut.front (item ∷ cut.back) less ∙ body_here key item cut.back same

-- where a key would be put, those in front are less, and those behind greater
pub record IsParted (key : Key) (items : List Item) (place : ℕ) : Type 0 where
  pub less : all_to (Some key) (take place items) ≡ true
  pub past : all_past key (drop place items) ≡ true

pub parted-goes : (key : Key) (items : List Item) (place : ℕ) → GoesAt (keys_of items) key place
    → IsParted key items place
parted-goes key items place goes = record {
  less = sym (list_all-map (λ (other : Key). is_lt (key_cmp other key)) (λ (x : Item). x.key) (take place items))
      ∙ sym (ap (list_all (λ (other : Key). is_lt (key_cmp other key))) (take-map (λ (x : Item). x.key) place items))
      ∙ goes.between.less;
  past = sym (list_all-map (λ (other : Key). is_lt (key_cmp key other)) (λ (x : Item). x.key) (drop place items))
      ∙ sym (ap (list_all (λ (other : Key). is_lt (key_cmp key other))) (drop-map (λ (x : Item). x.key) place items))
      ∙ goes.between.greater;
}

pub body-absent : (key : Key) (items : List Item) (place : ℕ) → GoesAt (keys_of items) key place
    → body_at key items ≡ None
body-absent key items place goes =
    let parted = parted-goes key items place goes in
    ap (body_at key) (sym (take-append-drop place items))
    ∙ body-skip key (take place items) (drop place items) parted.less ∙ body-none key (drop place items) parted.past

-- ---- the last one upto a key

filter_all : (p q : Item → Bool) → ((item : Item) → q item ≡ true → p item ≡ true) → (items : List Item)
    → list_all q items ≡ true → filter p items ≡ items
filter_all p q each [] all = refl
filter_all p q each (item ∷ items) all =
    let parts = and_parts (q item) (list_all q items) all in
    rw (each item parts.0) (ap (λ (xs : List Item). item ∷ xs) (filter_all p q each items parts.1))

filter_first : (p : Item → Bool) (item : Item) (back : List Item) → p item ≡ true → filter p back ≡ []
    → filter p (item ∷ back) ≡ item ∷ []
filter_first p item back passes none = rw (passes, none) refl

less_upto_it : (to key : Key) → is_lt (key_cmp key to) ≡ true → is_upto to key ≡ true
less_upto_it to key less = not_less_behind key to less

last_cut : (to : Key) (front back : List Item) (item : Item) → all_to (Some to) front ≡ true
    → is_upto to item.key ≡ true → all_past to back ≡ true
    → last_upto to (front ++ (item ∷ back)) ≡ Some item
last_cut to front back item less upto past =
    let p : Item → Bool = λ x. is_upto to x.key in
    let none = filter_none p (λ (x : Item). is_lt (key_cmp to x.key)) (λ x. not_false (is_lt (key_cmp to x.key))) back
    past in
    let all = filter_all p (λ (x : Item). is_lt (key_cmp x.key to)) (λ x. less_upto_it to x.key) front less in
    let whole : filter p (front ++ (item ∷ back)) ≡ front ++ (item ∷ []) =
    filter-append p front (item ∷ back) ∙ ap (λ (xs : List Item). xs ++ filter p (item ∷ back)) all
    ∙ ap (λ (xs : List Item). front ++ xs) (filter_first p item back upto none) in
    ap (last_or None) whole ∙ last_or-append None front (item ∷ [])

pub last-there : (to : Key) (items : List Item) (place : ℕ) (item : Item) → is_ascending (keys_of items) ≡ true
    → slice_get items place ≡ Some item → item.key ≡ to
    → last_upto to items ≡ Some item
last-there to items place item ascending there same =
    let cut = cut-there items place item ascending there in
    let less = subst (λ (k : Key). all_to (Some k) cut.front ≡ true) same cut.less in
    let past = subst (λ (k : Key). all_past k cut.back ≡ true) same cut.past in
    ap (last_upto to) cut.whole ∙ last_cut to cut.front cut.back item less (rw same (not_less_itself to)) past

pub last-first : (to : Key) (items : List Item) → GoesAt (keys_of items) to 0 → last_upto to items ≡ None
last-first to items goes =
    let p : Item → Bool = λ x. is_upto to x.key in
    ap (last_or None) (filter_none p (λ (x : Item). is_lt (key_cmp to x.key))
    (λ x. not_false (is_lt (key_cmp to x.key))) items (parted-goes to items 0 goes).past)

front_of : (p : Item → Bool) (front : List Item) (item : Item) → list_all p (front ++ (item ∷ [])) ≡ true
    → (list_all p front ≡ true) × (p item ≡ true)
front_of p [] item h = (refl, (and_parts (p item) true h).0)
front_of p (x ∷ front) item h =
    let parts = and_parts (p x) (list_all p (front ++ (item ∷ []))) h in
    let rest = front_of p front item parts.1 in
    (and_from (p x) (list_all p front) parts.0 rest.0, rest.1)

take_next : (items : List Item) (place : ℕ) (item : Item) → slice_get items place ≡ Some item
    → take (suc place) items ≡ take place items ++ (item ∷ [])
take_next [] place item is = absurd cc
take_next (x ∷ items) zero item is = let same : x ≡ item = cc in ap (λ (y : Item). y ∷ []) same
take_next (x ∷ items) (suc place) item is = ap (λ (ys : List Item). x ∷ ys) (take_next items place item is)

take_one_more : (items : List Item) (place : ℕ) (item : Item) → slice_get items place ≡ Some item
    → take (place + 1) items ≡ take place items ++ (item ∷ [])
take_one_more items place item is = let next : place + 1 ≡ suc place = omega arith in ap (λ (n : ℕ). take n items) next
    ∙ take_next items place item is

pub last-before : (to : Key) (items : List Item) (place : ℕ) (item : Item) → GoesAt (keys_of items) to (place + 1)
    → slice_get items place ≡ Some item → last_upto to items ≡ Some item
last-before to items place item goes there =
    let parted = parted-goes to items (place + 1) goes in
    let less = subst (λ (xs : List Item). all_to (Some to) xs ≡ true) (take_one_more items place item there)
    parted.less in
    let parts = front_of (λ (x : Item). is_lt (key_cmp x.key to)) (take place items) item less in
    ap (last_upto to) (cut_at items place item there)
    ∙ last_cut to (take place items) (drop (place + 1) items) item parts.0 (less_upto_it to item.key parts.1)
    parted.past

pub last-back : (to : Key) (items : List Item) (place : ℕ) (item : Item) → GoesAt (keys_of items) to place → 0 < place
    → item ≡ get_or items (place - 1) item → last_upto to items ≡ Some item
last-back to items place item goes above is =
    let inside : place - 1 < length items = omega (arith, goes.within, above, length-map items (λ (x : Item). x.key)) in
    let there = slice_get_read items (length items) (place - 1) item refl inside is in
    let next : place ≡ place - 1 + 1 = omega (arith, above) in
    last-before to items (place - 1) item (subst (λ (n : ℕ). GoesAt (keys_of items) to n) next goes) there
