-- Lists of items or pointers after an edit: their keys ascend, what holds of each holds, and their weights add up.
use Rattle.std.proofs.Common.{◌≡◌, ℕ, suc, ◌<◌, true, List, [], ◌∷◌, ◌++◌, map, length, sym, ap, ◌∙◌, arith, take, drop}
use Rattle.std.proofs.Common.{get_or, set}
use Rattle.std.specs.Prelude.{insert, remove}
use Rattle.std.specs.List.{All}
use Rattle.std.proofs.Math.Seq.{drop-cons}
use Rattle.std.proofs.lemmas.List.{drop-map, drop-set-lt, get_or-set_same, length-map, length-set, map-append, map-set}
use Rattle.std.proofs.lemmas.List.{take-append-drop, take-map, take-set}
use Rattle.std.proofs.lemmas.List.Elements.{All-append, All-cons, All-drop, All-take}
use Rattle.qg_num.specs.declared.key.Key.{Key}
use Rattle.qg_node.specs.Nodes.{is_ascending}
use Rattle.qg_shape.specs.Places.{GoesAt, IsBetween}
use Rattle.qg_shape.proofs.Ascending.{ascending_back, ascending_front, ascending_round, ascending_tail_of}
use Rattle.qg_shape.proofs.Ascending.{ascending_without}

-- a list by what stands at an index
parted_at : {A : Type 0} (xs : List A) (i : ℕ) (d : A) → i < length xs
    → take i xs ++ get_or xs i d ∷ drop (suc i) xs ≡ xs
parted_at {A} xs i d inside = ap (λ (back : List A). take i xs ++ back) (sym (drop-cons xs i d inside))
    ∙ take-append-drop i xs

set_parted : {A : Type 0} (xs : List A) (i : ℕ) (x : A) → i < length xs → set xs i x ≡ take i xs ++ x ∷ drop (suc i) xs
set_parted {A} xs i x inside =
    let long : i < length (set xs i x) = omega (arith, inside, length-set xs i x) in
    sym (parted_at (set xs i x) i x long)
    ∙ ap (λ (front : List A). front ++ get_or (set xs i x) i x ∷ drop (suc i) (set xs i x)) (take-set xs i x)
    ∙ ap (λ (there : A). take i xs ++ there ∷ drop (suc i) (set xs i x)) (get_or-set_same xs i x x inside)
    ∙ ap (λ (back : List A). take i xs ++ x ∷ back) (drop-set-lt (suc i) xs i x (omega arith))

-- ---- keys

-- a key that goes at a place is put there
pub ascending_insert : (keys : List Key) (key : Key) (place : ℕ) → is_ascending keys ≡ true → GoesAt keys key place
    → is_ascending (insert keys place key) ≡ true
ascending_insert keys key place ascending goes =
    let parts : is_ascending (take place keys ++ drop place keys) ≡ true = ap is_ascending (take-append-drop place keys)
    ∙ ascending in
    ascending_round (take place keys) key (drop place keys) (ascending_front (take place keys) (drop place keys) parts)
    goes.between.less
    (ascending_back (take place keys) (drop place keys) parts) goes.between.greater

pub ascending_remove : (keys : List Key) (place : ℕ) → place < length keys → is_ascending keys ≡ true
    → is_ascending (remove keys place) ≡ true
ascending_remove [] place inside ascending = absurd (omega arith)
ascending_remove (first ∷ keys) place inside ascending =
    let all = first ∷ keys in
    ascending_without (take place all) (get_or all place first) (drop (suc place) all)
    (ap is_ascending (parted_at all place first inside) ∙ ascending)

-- a key between its neighbours is put in the place of another
pub ascending_set : (keys : List Key) (key : Key) (place : ℕ) → place < length keys → is_ascending keys ≡ true
    → IsBetween (take place keys) key (drop (suc place) keys) → is_ascending (set keys place key) ≡ true
ascending_set [] key place inside ascending between = absurd (omega arith)
ascending_set (first ∷ keys) key place inside ascending between =
    let all = first ∷ keys in
    let there = get_or all place first in
    let behind = drop (suc place) all in
    let parts : is_ascending (take place all ++ there ∷ behind) ≡ true =
    ap is_ascending (parted_at all place first inside) ∙ ascending in
    ap is_ascending (set_parted all place key inside)
    ∙ ascending_round (take place all) key behind (ascending_front (take place all) (there ∷ behind) parts) between.less
    (ascending_tail_of there behind (ascending_back (take place all) (there ∷ behind) parts)) between.greater

pub map-insert : {A B : Type 0} (f : A → B) (xs : List A) (i : ℕ) (x : A)
    → map f (insert xs i x) ≡ insert (map f xs) i (f x)
map-insert {A} {B} f xs i x =
    map-append f (take i xs) (x ∷ drop i xs)
    ∙ ap (λ (front : List B). front ++ f x ∷ map f (drop i xs)) (sym (take-map f i xs))
    ∙ ap (λ (back : List B). take i (map f xs) ++ f x ∷ back) (sym (drop-map f i xs))

pub map-remove : {A B : Type 0} (f : A → B) (xs : List A) (i : ℕ) → map f (remove xs i) ≡ remove (map f xs) i
map-remove {A} {B} f xs i =
    map-append f (take i xs) (drop (suc i) xs)
    ∙ ap (λ (front : List B). front ++ map f (drop (suc i) xs)) (sym (take-map f i xs))
    ∙ ap (λ (back : List B). take i (map f xs) ++ back) (sym (drop-map f (suc i) xs))

module _ {A : Type 0} (key_of : A → Key) where
  pub insert_ascends : (xs : List A) (x : A) (place : ℕ) → is_ascending (map key_of xs) ≡ true
      → GoesAt (map key_of xs) (key_of x) place → is_ascending (map key_of (insert xs place x)) ≡ true
  insert_ascends xs x place ascending goes = ap is_ascending (map-insert key_of xs place x)
      ∙ ascending_insert (map key_of xs) (key_of x) place ascending goes

  pub remove_ascends : (xs : List A) (place : ℕ) → place < length xs → is_ascending (map key_of xs) ≡ true
      → is_ascending (map key_of (remove xs place)) ≡ true
  remove_ascends xs place inside ascending =
      ap is_ascending (map-remove key_of xs place)
      ∙ ascending_remove (map key_of xs) place (omega (arith, inside, length-map xs key_of)) ascending

  pub set_ascends : (xs : List A) (x : A) (place : ℕ) → place < length xs → is_ascending (map key_of xs) ≡ true
      → IsBetween (take place (map key_of xs)) (key_of x) (drop (suc place) (map key_of xs))
      → is_ascending (map key_of (set xs place x)) ≡ true
  set_ascends xs x place inside ascending between =
      ap is_ascending (map-set key_of xs place x)
      ∙ ascending_set (map key_of xs) (key_of x) place (omega (arith, inside, length-map xs key_of)) ascending
      between

-- ---- each of them

pub All-insert : {A : Type 0} (P : A → Type 0) (xs : List A) (x : A) (place : ℕ) → All P xs → P x
    → All P (insert xs place x)
All-insert P xs x place all new = All-append P (take place xs) (x ∷ drop place xs) (All-take P place xs all)
    (All-cons P x (drop place xs) new (All-drop P place xs all))

pub All-remove : {A : Type 0} (P : A → Type 0) (xs : List A) (place : ℕ) → All P xs → All P (remove xs place)
All-remove P xs place all = All-append P (take place xs) (drop (suc place) xs) (All-take P place xs all)
    (All-drop P (suc place) xs all)
