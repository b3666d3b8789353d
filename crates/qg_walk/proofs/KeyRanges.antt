-- Ranges of keys: a list that ends where the next one begins.
use Rattle.std.proofs.Common.{◌≡◌, ◌-◌, true, false, List, [], ◌∷◌, ◌++◌, map, length, refl, sym, ap, subst, ◌∙◌, arith}
use Rattle.std.proofs.Common.{Option, Some, None, inl, inr}
use Rattle.std.specs.Prelude.{Bool, not, ◌==◌, ◌&&◌, slice_get}
use Rattle.std.specs.List.{list_all}
use Rattle.std.specs.declared.cmp.Ordering.{Ordering}
use Rattle.std.specs.declared.cmp.Ordering.TheVariants.{Less, Equal, Greater}
use Rattle.std.specs.Ordering.{is_gt, is_lt, ordering_reverse}
use Rattle.std.proofs.Math.Bool.{and_assoc, and-true}
use Rattle.std.proofs.lemmas.Bool.{and_from, and_parts, cases_Bool, eqb-true}
use Rattle.std.proofs.lemmas.Cmp.{alike_right, tied_itself, upto}
use Rattle.std.proofs.lemmas.List.Folds.{list_all-append}
use Rattle.qg_num.specs.Key.{key_cmp}
use Rattle.qg_num.specs.declared.key.Key.{Key}
use Rattle.qg_num.proofs.KeyOrder.{key_cmp_total}
use Rattle.qg_node.specs.declared.pointer.Pointer.{Pointer}
use Rattle.qg_node.specs.Nodes.{ascends_from, is_ascending}
use Rattle.qg_tree_items.proofs.Parts.{and-false}
use Rattle.qg_image.specs.IsShaped.{same_key}
use Rattle.qg_image.specs.Walk.{begins_at, ends_before, next_key}
use Rattle.qg_walk.specs.Added.{is_from, is_to, AreSpaced, AreWithin}

-- ---- the order

pub is_less : (answer : Ordering) → is_lt answer ≡ true → answer ≡ Less
is_less Less h = refl
is_less Equal h = absurd cc
is_less Greater h = absurd cc

pub not_greater : (a b : Ordering) → a ≡ ordering_reverse b → not (is_lt a) ≡ true → is_gt b ≡ false
not_greater a Less e h = refl
not_greater a Equal e h = refl
not_greater Less Greater e h = absurd cc
not_greater Equal Greater e h = absurd cc
not_greater Greater Greater e h = absurd cc

pub not_less : (a b : Ordering) → a ≡ ordering_reverse b → is_gt b ≡ false → not (is_lt a) ≡ true
not_less a Less e h = rw e refl
not_less a Equal e h = rw e refl
not_less a Greater e h = absurd cc

-- what is not less than a key that is not less than another is not less than that one
pub not_less_trans : (from key later : Key) → not (is_lt (key_cmp key from)) ≡ true
    → not (is_lt (key_cmp later key)) ≡ true → not (is_lt (key_cmp later from)) ≡ true
not_less_trans from key later h k =
    not_less (key_cmp later from) (key_cmp from later) (key_cmp_total.antisymm later from)
    (upto key_cmp_total from key later
    (not_greater (key_cmp key from) (key_cmp from key) (key_cmp_total.antisymm key from) h)
    (not_greater (key_cmp later key) (key_cmp key later) (key_cmp_total.antisymm later key) k))

pub less_trans : (a b c : Key) → is_lt (key_cmp a b) ≡ true → is_lt (key_cmp b c) ≡ true → is_lt (key_cmp a c) ≡ true
less_trans a b c h k = ap is_lt (key_cmp_total.trans a b c (is_less (key_cmp a b) h) (is_less (key_cmp b c) k))

-- what is less than a key is less than one that is not less than it
pub less_upto : (before key later : Key) → is_lt (key_cmp before key) ≡ true → not (is_lt (key_cmp later key)) ≡ true
    → is_lt (key_cmp before later) ≡ true
less_upto before key later h k =
    cases (key_cmp key later) refl
    (not_greater (key_cmp later key) (key_cmp key later) (key_cmp_total.antisymm later key) k) where
      cases : (answer : Ordering) → key_cmp key later ≡ answer → is_gt answer ≡ false
          → is_lt (key_cmp before later) ≡ true
      cases Less e upto = less_trans before key later h (ap is_lt e)
      cases Equal e upto = ap is_lt (sym (alike_right key_cmp_total key later before e)) ∙ h
      cases Greater e upto = absurd cc

pub same_key-true : (a b : Key) → same_key a b ≡ true → a ≡ b
same_key-true a b same =
    let to_kind = and_parts ((a.objectid == b.objectid) && (a.kind == b.kind)) (a.offset == b.offset) same in
    let parts = and_parts (a.objectid == b.objectid) (a.kind == b.kind) to_kind.0 in
    let objectid = eqb-true a.objectid b.objectid parts.0 in
    let kind = eqb-true a.kind b.kind parts.1 in
    let offset = eqb-true a.offset b.offset to_kind.1 in
    λ i. record { objectid = objectid i; kind = kind i; offset = offset i }

pub not_less_itself : (key : Key) → not (is_lt (key_cmp key key)) ≡ true
not_less_itself key = ap (λ (answer : Ordering). not (is_lt answer)) (tied_itself key_cmp_total key)

-- what is greater than a key is not less than it
pub not_less_behind : (before key : Key) → is_lt (key_cmp before key) ≡ true → not (is_lt (key_cmp key before)) ≡ true
not_less_behind before key less = not_less (key_cmp key before) (key_cmp before key) (key_cmp_total.antisymm key before)
    (ap is_gt (is_less (key_cmp before key) less))

-- ---- all of some keys

pub list_all-weaker : {X : Type 0} (p q : X → Bool) → ((x : X) → p x ≡ true → q x ≡ true) → (xs : List X)
    → list_all p xs ≡ true → list_all q xs ≡ true
list_all-weaker p q each [] h = refl
list_all-weaker p q each (x ∷ xs) h =
    let parts = and_parts (p x) (list_all p xs) h in
    and_from (q x) (list_all q xs) (each x parts.0) (list_all-weaker p q each xs parts.1)

pub list_all-both : {X : Type 0} (p : X → Bool) (xs ys : List X) → list_all p xs ≡ true → list_all p ys ≡ true
    → list_all p (xs ++ ys) ≡ true
list_all-both p xs ys h k = list_all-append p xs ys ∙ and_from (list_all p xs) (list_all p ys) h k

pub list_all-true : {X : Type 0} (xs : List X) → list_all (λ x. true) xs ≡ true
list_all-true [] = refl
list_all-true (x ∷ xs) = list_all-true xs

-- ---- two lists with a key between

ascends_behind : (before key : Key) (keys : List Key) → is_lt (key_cmp before key) ≡ true → is_ascending keys ≡ true
    → list_all (is_from (Some key)) keys ≡ true → ascends_from before keys ≡ true
unfolding ascends_from is_ascending
ascends_behind before key [] h ascending from = refl
ascends_behind before key (first ∷ keys) h ascending from =
    let parts = and_parts (not (is_lt (key_cmp first key))) (list_all (is_from (Some key)) keys) from in
    and_from (is_lt (key_cmp before first)) (ascends_from first keys) (less_upto before key first h parts.0) ascending

ascends_on : (before key : Key) (front back : List Key) → ascends_from before front ≡ true
    → is_lt (key_cmp before key) ≡ true → list_all (is_to (Some key)) front ≡ true
    → is_ascending back ≡ true → list_all (is_from (Some key)) back ≡ true → ascends_from before (front ++ back) ≡ true
unfolding ascends_from
ascends_on before key [] back h below to ascending from = ascends_behind before key back below ascending from
ascends_on before key (first ∷ front) back h below to ascending from =
    let parts = and_parts (is_lt (key_cmp before first)) (ascends_from first front) h in
    let tos = and_parts (is_lt (key_cmp first key)) (list_all (is_to (Some key)) front) to in
    and_from (is_lt (key_cmp before first)) (ascends_from first (front ++ back)) parts.0
    (ascends_on first key front back parts.1 tos.0 tos.1 ascending from)

ascending_on : (key : Key) (front back : List Key) → is_ascending front ≡ true
    → list_all (is_to (Some key)) front ≡ true → is_ascending back ≡ true
    → list_all (is_from (Some key)) back ≡ true → is_ascending (front ++ back) ≡ true
unfolding is_ascending
ascending_on key [] back h to ascending from = ascending
ascending_on key (first ∷ front) back h to ascending from =
    let tos = and_parts (is_lt (key_cmp first key)) (list_all (is_to (Some key)) front) to in
    ascends_on first key front back h tos.0 tos.1 ascending from

pub is_from-later : (from : Option Key) (key later : Key) → is_from from key ≡ true → is_from (Some key) later ≡ true
    → is_from from later ≡ true
is_from-later None key later h k = refl
is_from-later (Some from) key later h k = not_less_trans from key later h k

pub is_to-earlier : (to : Option Key) (key earlier : Key) → is_to to key ≡ true → is_to (Some key) earlier ≡ true
    → is_to to earlier ≡ true
is_to-earlier None key earlier h k = refl
is_to-earlier (Some to) key earlier h k = less_trans earlier key to k h

-- keys end before one where each of them does
pub ends_before-each : (to : Option Key) (keys : List Key) → ends_before to keys ≡ list_all (is_to to) keys
ends_before-each None keys = sym (list_all-true keys)
ends_before-each (Some to) keys = refl

pub AreWithin-none : (from to : Option Key) → AreWithin from to []
unfolding is_ascending
AreWithin-none from to = record { ascending = refl; first = refl; last = ends_before-each to [] }

pub AreWithin-append : (from to : Option Key) (key : Key) (front back : List Key) → AreWithin from (Some key) front
    → AreWithin (Some key) to back
    → is_from from key ≡ true → is_to to key ≡ true → AreWithin from to (front ++ back)
AreWithin-append from to key front back h k first last = record {
  ascending = ascending_on key front back h.ascending h.last k.ascending k.first;
  first = list_all-both (is_from from) front back h.first
      (list_all-weaker (is_from (Some key)) (is_from from) (λ later. is_from-later from key later first) back k.first);
  last =
      ends_before-each to (front ++ back)
      ∙ list_all-both (is_to to) front back
      (list_all-weaker (is_to (Some key)) (is_to to) (λ earlier. is_to-earlier to key earlier last) front h.last)
      (sym (ends_before-each to back) ∙ k.last);
}

-- ---- the keys of a node

pub begins_at-all : (from : Option Key) (keys : List Key) → begins_at from keys ≡ true
    → list_all (is_from from) keys ≡ true
begins_at-all None keys h = list_all-true keys
begins_at-all (Some from) [] h = refl
begins_at-all (Some from) (key ∷ keys) h =
    let parts = and_parts (same_key key from) (list_all (λ later. not (is_lt (key_cmp later from))) keys) h in
    and_from (not (is_lt (key_cmp key from))) (list_all (is_from (Some from)) keys)
    (rw (same_key-true key from parts.0) (not_less_itself from)) parts.1

pub AreWithin-own : (from to : Option Key) (keys : List Key) → is_ascending keys ≡ true → begins_at from keys ≡ true
    → ends_before to keys ≡ true → AreWithin from to keys
AreWithin-own from to keys ascending begins ends =
    record { ascending = ascending; first = begins_at-all from keys begins; last = ends }

-- ---- ascending keys, by the first and the last of them

some-injective : {a b : Key} → Some a ≡ Some b → a ≡ b
some-injective {a} {b} same = cc

pub all_from : (from low : Key) (keys : List Key) → not (is_lt (key_cmp low from)) ≡ true → ascends_from low keys ≡ true
    → list_all (λ later. not (is_lt (key_cmp later from))) keys ≡ true
unfolding ascends_from
all_from from low [] h ascends = refl
all_from from low (key ∷ keys) h ascends =
    let parts = and_parts (is_lt (key_cmp low key)) (ascends_from key keys) ascends in
    let here = not_less_trans from low key h (not_less_behind low key parts.0) in
    and_from (not (is_lt (key_cmp key from))) (list_all (λ later. not (is_lt (key_cmp later from))) keys) here
    (all_from from key keys here parts.1)

begins_by_first : (from key : Key) (keys : List Key) → ascends_from key keys ≡ true
    → begins_at (Some from) (key ∷ keys) ≡ same_key key from
begins_by_first from key keys ascends = elim (cases_Bool (same_key key from)) [
  | inl same ↦
      let here : not (is_lt (key_cmp key from)) ≡ true = rw (same_key-true key from same) (not_less_itself from) in
      and_from (same_key key from) (list_all (λ later. not (is_lt (key_cmp later from))) keys) same
      (all_from from key keys here ascends) ∙ sym same
  | inr differ ↦ rw differ refl
]

-- as two keys are compared
pub same_key-nested : (a b : Key) → ((a.objectid == b.objectid) && ((a.kind == b.kind) && (a.offset == b.offset)))
    ≡ same_key a b
same_key-nested a b = sym (and_assoc (a.objectid == b.objectid) (a.kind == b.kind) (a.offset == b.offset))

pub begins_at-first : (from first : Key) (keys : List Key) → is_ascending keys ≡ true → slice_get keys 0 ≡ Some first
    → begins_at (Some from) keys ≡ same_key first from
unfolding is_ascending
begins_at-first from first [] ascends is = absurd cc
begins_at-first from first (key ∷ keys) ascends is = begins_by_first from key keys ascends
    ∙ ap (λ k. same_key k from) (some-injective is)

ends_by_last : (to key last : Key) (keys : List Key) → ascends_from key keys ≡ true
    → slice_get (key ∷ keys) (length keys) ≡ Some last
    → list_all (λ k. is_lt (key_cmp k to)) (key ∷ keys) ≡ is_lt (key_cmp last to)
unfolding ascends_from
ends_by_last to key last [] ascends is = and-true (is_lt (key_cmp key to))
    ∙ ap (λ k. is_lt (key_cmp k to)) (some-injective is)
ends_by_last to key last (next ∷ keys) ascends is =
    let parts = and_parts (is_lt (key_cmp key next)) (ascends_from next keys) ascends in
    let later = ends_by_last to next last keys parts.1 is in
    elim (cases_Bool (list_all (λ k. is_lt (key_cmp k to)) (next ∷ keys))) [
      | inl all ↦
          let below = (and_parts (is_lt (key_cmp next to)) (list_all (λ k. is_lt (key_cmp k to)) keys) all).0 in
          and_from (is_lt (key_cmp key to)) (list_all (λ k. is_lt (key_cmp k to)) (next ∷ keys))
          (less_trans key next to parts.0 below) all ∙ sym all ∙ later
      | inr some ↦ ap (λ b. is_lt (key_cmp key to) && b) some ∙ and-false (is_lt (key_cmp key to)) ∙ sym some ∙ later
    ]

pub ends_before-last : (to last : Key) (keys : List Key) → is_ascending keys ≡ true
    → slice_get keys (length keys - 1) ≡ Some last → ends_before (Some to) keys ≡ is_lt (key_cmp last to)
unfolding is_ascending
ends_before-last to last [] ascends is = absurd cc
ends_before-last to last (key ∷ keys) ascends is =
    let back : length (key ∷ keys) - 1 ≡ length keys = omega arith in
    ends_by_last to key last keys ascends (subst (λ n. slice_get (key ∷ keys) n ≡ Some last) back is)

pub to_next : (to : Option Key) (key : Key) (pointers : List Pointer) → is_to to key ≡ true
    → ascends_from key (map (λ pointer. pointer.key) pointers) ≡ true
    → is_to (next_key to pointers) key ≡ true
unfolding ascends_from
to_next to key [] last h = last
to_next to key (next ∷ pointers) last h =
    (and_parts (is_lt (key_cmp key next.key)) (ascends_from next.key (map (λ pointer. pointer.key) pointers)) h).0

pub ascending_behind : (key : Key) (keys : List Key) → ascends_from key keys ≡ true → is_ascending keys ≡ true
unfolding ascends_from is_ascending
ascending_behind key [] h = refl
ascending_behind key (first ∷ keys) h = (and_parts (is_lt (key_cmp key first)) (ascends_from first keys) h).1

pub AreSpaced-within : (from to : Option Key) (pointers : List Pointer)
    → AreWithin from to (map (λ pointer. pointer.key) pointers) → AreSpaced from to pointers
unfolding is_ascending
AreSpaced-within from to [] within = tt
AreSpaced-within from to (pointer ∷ pointers) within =
    let keys = map (λ (pointer : Pointer). pointer.key) pointers in
    let first = and_parts (is_from from pointer.key) (list_all (is_from from) keys) within.first in
    let last = and_parts (is_to to pointer.key) (list_all (is_to to) keys)
    (sym (ends_before-each to (pointer.key ∷ keys)) ∙ within.last) in
    let rest : AreWithin from to keys =
    record {
      ascending = ascending_behind pointer.key keys within.ascending;
      first = first.1;
      last = ends_before-each to keys ∙ last.1;
    } in
    (first.0, to_next to pointer.key pointers last.0 within.ascending, AreSpaced-within from to pointers rest)
