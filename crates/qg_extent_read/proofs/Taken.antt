-- One item of a leaf more: what a reader takes of it.
use Rattle.std.proofs.Common.{◌≡◌, ℕ, zero, suc, ◌+◌, ◌<◌, true, false, Bool, List, [], ◌∷◌, ◌++◌, length, map, take}
use Rattle.std.proofs.Common.{drop, get_or, Some, refl, sym, ap, subst, ◌∙◌, append-nil, arith}
use Rattle.std.specs.Prelude.{not, slice_get}
use Rattle.std.specs.List.{fold, list_all}
use Rattle.std.specs.Ordering.{is_lt}
use Rattle.std.proofs.lemmas.Bool.{and_from, and_parts, and_right, not_from_false}
use Rattle.std.proofs.lemmas.List.{drop-map, drop_more, map-append, take-append-drop, take-map, take_more}
use Rattle.std.proofs.lemmas.List.Elements.{filter-append}
use Rattle.std.proofs.lemmas.List.Folds.{list_all-map}
use Rattle.std.proofs.lemmas.List.Sums.{fold_push}
use Rattle.std.proofs.lemmas.Option.{get_or_from_slice_get, slice_get_within}
use Rattle.qg_num.specs.Key.{key_cmp}
use Rattle.qg_num.specs.declared.key.Key.{Key}
use Rattle.qg_node.specs.declared.item.Item.{Item}
use Rattle.qg_node.specs.Nodes.{is_ascending}
use Rattle.qg_shape.proofs.Ascending.{all_before, all_behind, ascending_back, less_trans}
use Rattle.qg_walk.proofs.KeyRanges.{list_all-weaker, not_less_behind, not_less_itself}
use Rattle.qg_tree_read.specs.Reading.{is_upto, is_within, items_within}
use Rattle.qg_tree_read.proofs.Leads.{cut_at}
use Rattle.qg_tree_read.proofs.Leaves.{keys_of}
use Rattle.qg_tree_read.proofs.Parts.{all_past, filter_none, not_false}
use Rattle.qg_tree_read.proofs.Under.{all_to}
use Rattle.qg_extent_read.specs.Leaves.{taken_within}

-- ---- one item more

-- what holds of each of some items
each_at : (p : Item → Bool) (items : List Item) (i : ℕ) (item : Item) → list_all p items ≡ true → i < length items
    → item ≡ get_or items i item → p item ≡ true
each_at p [] i item all inside is = absurd (omega (arith, inside))
each_at p (first ∷ items) zero item all inside is =
    subst (λ (x : Item). p x ≡ true) (sym is) (and_parts (p first) (list_all p items) all).0
each_at p (first ∷ items) (suc i) item all inside is =
    each_at p items i item (and_parts (p first) (list_all p items) all).1 (omega (arith, inside)) is

within_more : (from to : Key) (items : List Item) (i : ℕ) (item : Item) → i < length items
    → item ≡ get_or items i item → list_all (λ (x : Item). not (is_lt (key_cmp x.key from))) items ≡ true
    → is_lt (key_cmp to item.key) ≡ false
    → items_within from to (take (i + 1) items) ≡ items_within from to (take i items) ++ item ∷ []
within_more from to items i item inside is after before =
    let next : take (i + 1) items ≡ take i items ++ item ∷ [] =
    take_more items i item inside ∙ ap (λ (x : Item). take i items ++ x ∷ []) (sym is) in
    let here = each_at (λ (x : Item). not (is_lt (key_cmp x.key from))) items i item after inside is in
    let within : is_within from to item.key ≡ true =
    and_from (not (is_lt (key_cmp item.key from))) (is_upto to item.key) here
    (not_from_false (is_lt (key_cmp to item.key)) before) in
    let one : items_within from to (item ∷ []) ≡ item ∷ [] = rw within refl in
    ap (items_within from to) next
    ∙ filter-append (λ (x : Item). is_within from to x.key) (take i items) (item ∷ [])
    ∙ ap (λ (xs : List Item). items_within from to (take i items) ++ xs) one

pub taken-more : {R : Type 0} (after : R → Item → R) (reader now : R) (from to : Key) (items : List Item) (i : ℕ)
    (item : Item) → i < length items → item ≡ get_or items i item
    → list_all (λ (x : Item). not (is_lt (key_cmp x.key from))) items ≡ true → is_lt (key_cmp to item.key) ≡ false
    → now ≡ taken_within after reader from to (take i items)
    → after now item ≡ taken_within after reader from to (take (i + 1) items)
taken-more {R} after reader now from to items i item inside is past before so_far =
    ap (λ (x : R). after x item) so_far
    ∙ sym (fold_push after reader (items_within from to (take i items)) item)
    ∙ ap (fold after reader) (sym (within_more from to items i item inside is past before))

-- ---- where in a leaf they stand

none_within : (from to : Key) (items : List Item) → all_to (Some from) items ≡ true → items_within from to items ≡ []
none_within from to items less =
    filter_none (λ (item : Item). is_within from to item.key) (λ (item : Item). is_lt (key_cmp item.key from))
    (λ item h. rw (not_false (is_lt (key_cmp item.key from)) h) refl) items less

-- those in front of a place are less than the first key
pub from-place : (from to : Key) (items : List Item) (place : ℕ) → all_to (Some from) (take place items) ≡ true
    → items_within from to items ≡ items_within from to (drop place items)
from-place from to items place less =
    ap (items_within from to) (sym (take-append-drop place items))
    ∙ filter-append (λ (item : Item). is_within from to item.key) (take place items) (drop place items)
    ∙ ap (λ (xs : List Item). xs ++ items_within from to (drop place items))
    (none_within from to (take place items) less)

-- so it is where the key was found
pub less-found : (key : Key) (items : List Item) (place : ℕ) → is_ascending (keys_of items) ≡ true
    → slice_get (keys_of items) place ≡ Some key → all_to (Some key) (take place items) ≡ true
less-found key items place ascending found =
    let keys = keys_of items in
    let cut = cut_at keys place key found in
    sym (list_all-map (λ (other : Key). is_lt (key_cmp other key)) (λ (item : Item). item.key) (take place items))
    ∙ sym (ap (list_all (λ (other : Key). is_lt (key_cmp other key)))
    (take-map (λ (item : Item). item.key) place items))
    ∙ all_before (take place keys) key (drop (place + 1) keys)
    (subst (λ (ks : List Key). is_ascending ks ≡ true) cut ascending)

-- those from the place on are not
pub from-found : (key : Key) (items : List Item) (place : ℕ) → is_ascending (keys_of items) ≡ true
    → slice_get (keys_of items) place ≡ Some key
    → list_all (λ (item : Item). not (is_lt (key_cmp item.key key))) (drop place items) ≡ true
unfolding is_ascending
from-found key items place ascending found =
    let keys = keys_of items in
    let back = drop (place + 1) keys in
    let p = λ (other : Key). not (is_lt (key_cmp other key)) in
    let cut = cut_at keys place key found in
    let behind : is_ascending (key ∷ back) ≡ true = ascending_back (take place keys) (key ∷ back)
    (subst (λ (ks : List Key). is_ascending ks ≡ true) cut ascending) in
    let inside : place < length keys = slice_get_within keys place key found in
    let here : drop place keys ≡ key ∷ back =
    drop_more keys place key inside ∙ ap (λ (k : Key). k ∷ back) (get_or_from_slice_get keys place key key found) in
    let all : list_all p (key ∷ back) ≡ true =
    and_from (p key) (list_all p back) (not_less_itself key)
    (list_all-weaker (λ (other : Key). is_lt (key_cmp key other)) p (λ other. not_less_behind key other) back
    (all_behind key back behind)) in
    sym (list_all-map p (λ (item : Item). item.key) (drop place items))
    ∙ sym (ap (list_all p) (drop-map (λ (item : Item). item.key) place items)) ∙ ap (list_all p) here ∙ all

pub from-past : (key : Key) (items : List Item) → all_past key items ≡ true
    → list_all (λ (item : Item). not (is_lt (key_cmp item.key key))) items ≡ true
from-past key items past =
    list_all-weaker (λ (item : Item). is_lt (key_cmp key item.key))
    (λ (item : Item). not (is_lt (key_cmp item.key key)))
    (λ item. not_less_behind key item.key) items past

pub ascending-drop : (items : List Item) (place : ℕ) → is_ascending (keys_of items) ≡ true
    → is_ascending (keys_of (drop place items)) ≡ true
ascending-drop items place ascending =
    ascending_back (keys_of (take place items)) (keys_of (drop place items))
    (sym (ap is_ascending (ap keys_of (sym (take-append-drop place items))
    ∙ map-append (λ (item : Item). item.key) (take place items) (drop place items))) ∙ ascending)

-- and those from one on that is greater than the last key are greater too
pub upto-place : (from to : Key) (items : List Item) (i : ℕ) (item : Item) → i < length items
    → item ≡ get_or items i item → is_ascending (keys_of items) ≡ true → is_lt (key_cmp to item.key) ≡ true
    → items_within from to items ≡ items_within from to (take i items)
unfolding is_ascending
upto-place from to items i item inside is ascending less =
    let back = drop (i + 1) items in
    let whole : items ≡ take i items ++ (item ∷ back) =
    sym (take-append-drop i items) ∙ ap (λ (xs : List Item). take i items ++ xs)
    (drop_more items i item inside ∙ ap (λ (x : Item). x ∷ back) (sym is)) in
    let keys : is_ascending (keys_of (take i items) ++ (item.key ∷ keys_of back)) ≡ true =
    sym (ap is_ascending (ap keys_of whole ∙ map-append (λ (x : Item). x.key) (take i items) (item ∷ back)))
    ∙ ascending in
    let behind : is_ascending (item.key ∷ keys_of back) ≡ true =
    ascending_back (keys_of (take i items)) (item.key ∷ keys_of back) keys in
    let past = sym (list_all-map (λ (other : Key). is_lt (key_cmp item.key other)) (λ (x : Item). x.key) back)
    ∙ all_behind item.key (keys_of back) behind in
    let all : list_all (λ (x : Item). is_lt (key_cmp to x.key)) (item ∷ back) ≡ true =
    and_from (is_lt (key_cmp to item.key)) (list_all (λ (x : Item). is_lt (key_cmp to x.key)) back) less
    (list_all-weaker (λ (x : Item). is_lt (key_cmp item.key x.key)) (λ (x : Item). is_lt (key_cmp to x.key))
    (λ x h. less_trans to item.key x.key less h) back past) in
    let none = filter_none (λ (x : Item). is_within from to x.key) (λ (x : Item). is_lt (key_cmp to x.key))
    (λ x h. and_right (not (is_lt (key_cmp x.key from))) (is_upto to x.key) (not_false (is_lt (key_cmp to x.key)) h))
    (item ∷ back) all in
    ap (items_within from to) whole
    ∙ filter-append (λ (x : Item). is_within from to x.key) (take i items) (item ∷ back)
    ∙ ap (λ (xs : List Item). items_within from to (take i items) ++ xs) none
    ∙ append-nil (items_within from to (take i items))
