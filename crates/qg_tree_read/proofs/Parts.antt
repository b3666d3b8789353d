-- What is read of all items of a tree is what is read of those in one leaf.
use Rattle.std.proofs.Common.{◌≡◌, ℕ, true, false, List, [], ◌∷◌, ◌++◌, refl, ap, subst, ◌∙◌, Option, Some, None, inl}
use Rattle.std.proofs.Common.{inr}
use Rattle.std.specs.Prelude.{Bool, not, ◌⊎◌, cond, filter, if◌then◌else◌, IsSome}
use Rattle.std.specs.List.{list_all}
use Rattle.std.specs.Ordering.{is_lt}
use Rattle.std.proofs.lemmas.Bool.{and_parts}
use Rattle.std.proofs.lemmas.List.{append-nil}
use Rattle.std.proofs.lemmas.List.Elements.{filter-append}
use Rattle.qg_num.specs.Key.{key_cmp}
use Rattle.qg_num.specs.declared.key.Key.{Key}
use Rattle.qg_node.specs.declared.item.Item.{Item}
use Rattle.qg_blocks.specs.IsShaped.{same_key}
use Rattle.qg_walk.specs.Added.{is_from, is_to}
use Rattle.qg_walk.proofs.KeyRanges.{less_upto, list_all-weaker, not_less_itself, same_key-true}
use Rattle.qg_tree_read.specs.Reading.{body_at, is_upto, last_or, last_upto}
use Rattle.qg_tree_read.specs.Way.{Follow, IsPartFor}
use Rattle.qg_tree_read.proofs.Under.{BeginAt, all_to}

-- ---- the last of some

last_or_some : (item : Item) (items : List Item) → IsSome (last_or (Some item) items)
last_or_some item [] = refl
last_or_some item (next ∷ items) = last_or_some next items

-- some item is not greater than a key which the first is not greater than
pub last-begin : (key from : Key) (items : List Item) → is_upto key from ≡ true → BeginAt from items
    → IsSome (last_upto key items)
last-begin key from [] upto begins = absurd begins
last-begin key from (item ∷ items) upto begins =
    let here : is_upto key item.key ≡ true = rw begins upto in
    rw here (last_or_some item (filter (λ (item : Item). is_upto key item.key) items))

pub last_or-append : (other : Option Item) (front back : List Item)
    → last_or other (front ++ back) ≡ last_or (last_or other front) back
last_or-append other [] back = refl
last_or-append other (item ∷ front) back = last_or-append (Some item) front back

last_or-any : (other : Option Item) (items : List Item) → IsSome (last_or None items)
    → last_or other items ≡ last_or None items
last_or-any other [] some = absurd cc
last_or-any other (item ∷ items) some = refl

-- ---- tests of keys

not_true : (b : Bool) → (b ≡ true → ⊥) → b ≡ false
not_true true h = absurd (h refl)
not_true false h = refl

pub not_false : (b : Bool) → b ≡ true → not b ≡ false
not_false true h = refl
not_false false h = absurd cc

not_both : (key : Key) → is_lt (key_cmp key key) ≡ true → ⊥
not_both key less = let itself = not_less_itself key in cc

-- keys of which one is less are not the same
pub less_differ : (a b : Key) → is_lt (key_cmp a b) ≡ true → same_key a b ≡ false
less_differ a b less = not_true (same_key a b)
    (λ same. not_both b (subst (λ (k : Key). is_lt (key_cmp k b) ≡ true) (same_key-true a b same) less))

pub greater_differ : (a b : Key) → is_lt (key_cmp b a) ≡ true → same_key a b ≡ false
greater_differ a b less =
    not_true (same_key a b) (λ same.
    not_both b (subst (λ (k : Key). is_lt (key_cmp b k) ≡ true) (same_key-true a b same) less))

-- each of some items has a key greater than another
abbrev pub all_past : Key → List Item → Bool
all_past key items = list_all (λ item. is_lt (key_cmp key item.key)) items

pub follow-past : (key : Key) (to : Option Key) (back : List Item) → is_to to key ≡ true → Follow to back
    → all_past key back ≡ true
follow-past key None back less follow = rw follow refl
follow-past key (Some to) [] less follow = absurd follow
follow-past key (Some to) (item ∷ back) less follow =
    list_all-weaker (λ (item : Item). is_from (Some to) item.key) (λ (item : Item). is_lt (key_cmp key item.key))
    (λ item. less_upto key to item.key less) (item ∷ back) follow.1

-- ---- the body under a key

pub body-skip : (key : Key) (front back : List Item) → all_to (Some key) front ≡ true
    → body_at key (front ++ back) ≡ body_at key back
body-skip key [] back less = refl
body-skip key (item ∷ front) back less =
    let parts = and_parts (is_lt (key_cmp item.key key)) (all_to (Some key) front) less in
    rw (less_differ item.key key parts.0) (body-skip key front back parts.1)

pub body-none : (key : Key) (items : List Item) → all_past key items ≡ true → body_at key items ≡ None
body-none key [] past = refl
body-none key (item ∷ items) past =
    let parts = and_parts (is_lt (key_cmp key item.key)) (all_past key items) past in
    rw (greater_differ item.key key parts.0) (body-none key items parts.1)

body_end : (key : Key) (front back : List Item) → all_past key back ≡ true
    → body_at key (front ++ back) ≡ body_at key front
body_end key [] back past = body-none key back past
body_end key (item ∷ front) back past =
    ap (λ (o : Option (List ℕ)). if same_key item.key key then Some item.body else o) (body_end key front back past)

pub body-part : (key : Key) (to : Option Key) (whole part : List Item) → is_to to key ≡ true
    → IsPartFor key to whole part → body_at key whole ≡ body_at key part
body-part key to whole part past is =
    ap (body_at key) is.whole_is ∙ body-skip key is.front (part ++ is.back) is.less
    ∙ body_end key part is.back (follow-past key to is.back past is.behind)

-- ---- the last one upto a key

pub filter_none : (p q : Item → Bool) → ((item : Item) → q item ≡ true → p item ≡ false) → (items : List Item)
    → list_all q items ≡ true → filter p items ≡ []
filter_none p q each [] all = refl
filter_none p q each (item ∷ items) all =
    let parts = and_parts (q item) (list_all q items) all in rw (each item parts.0) (filter_none p q each items parts.1)

pub filter_same : (p p' q : Item → Bool) → ((item : Item) → q item ≡ true → p item ≡ p' item) → (items : List Item)
    → list_all q items ≡ true → filter p items ≡ filter p' items
filter_same p p' q each [] all = refl
filter_same p p' q each (item ∷ items) all =
    let parts = and_parts (q item) (list_all q items) all in
    let rest = filter_same p p' q each items parts.1 in
    ap (λ (b : Bool). cond b (item ∷ filter p items) (filter p items)) (each item parts.0)
    ∙ ap (λ (xs : List Item). cond (p' item) (item ∷ xs) xs) rest

-- of three lists, of which the last has none
filter_three : (p : Item → Bool) (front part back : List Item) → filter p back ≡ []
    → filter p (front ++ (part ++ back)) ≡ filter p front ++ filter p part
filter_three p front part back none =
    filter-append p front (part ++ back)
    ∙ ap (λ (xs : List Item). filter p front ++ xs) (filter-append p part back
    ∙ ap (λ (xs : List Item). filter p part ++ xs) none ∙ append-nil (filter p part))

last_from : (front part : List Item) (key : Key) → (front ≡ []) ⊎ IsSome (last_upto key part)
    → last_or None (filter (λ item. is_upto key item.key) front ++ filter (λ item. is_upto key item.key) part)
    ≡ last_upto key part
last_from front part key upto =
    let p : Item → Bool = λ item. is_upto key item.key in
    elim upto [
      | inl empty ↦ ap (λ (xs : List Item). last_or None (filter p xs ++ filter p part)) empty
      | inr some ↦ last_or-append None (filter p front) (filter p part)
          ∙ last_or-any (last_or None (filter p front)) (filter p part) some
    ]

pub last-part : (key : Key) (to : Option Key) (whole part : List Item) → is_to to key ≡ true
    → IsPartFor key to whole part → last_upto key whole ≡ last_upto key part
last-part key to whole part past is =
    let p : Item → Bool = λ item. is_upto key item.key in
    let none = filter_none p (λ (item : Item). is_lt (key_cmp key item.key))
    (λ item. not_false (is_lt (key_cmp key item.key))) is.back (follow-past key to is.back past is.behind) in
    ap (last_upto key) is.whole_is ∙ ap (last_or None) (filter_three p is.front part is.back none)
    ∙ last_from is.front part key is.upto
