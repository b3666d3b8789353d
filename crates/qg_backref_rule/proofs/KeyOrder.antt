-- Items in the order of their keys: what those of the extent tree say ascends by address.
use Rattle.std.proofs.Common.{◌≡◌, ℕ, zero, suc, ◌≤◌, true, List, [], ◌∷◌, map, get_or, refl}
use Rattle.std.proofs.Common.{ap, subst, ◌∙◌, arith, inl, inr}
use Rattle.std.specs.Prelude.{Option, Some, None}
use Rattle.std.specs.List.{Contains, filter_map, cons_option}
use Rattle.std.specs.List.Sorted.{IsNonDecreasingBy}
use Rattle.std.specs.Ordering.{is_lt}
use Rattle.std.proofs.lemmas.Bool.Decides.{nat_tests}
use Rattle.std.proofs.lemmas.List.Elements.{Contains-get_or}
use Rattle.qg_num.specs.declared.key.Key.{Key}
use Rattle.qg_num.specs.Key.{key_cmp}
use Rattle.qg_node.specs.declared.item.Item.{Item}
use Rattle.qg_node.specs.Nodes.{ascends_from, is_ascending}
use Rattle.qg_image.specs.declared.part.ExtentPart.{ExtentPart}
use Rattle.qg_image.specs.ItemMeaning.{extent_part}
use Rattle.qg_image.specs.Owed.{part_address}
use Rattle.qg_image.proofs.Contained.{none_contained, contains_cases}
use Rattle.qg_backref_rule.proofs.PartSaid.{holds-said}
use Rattle.qg_backref_rule.proofs.Passing.{and_first, and_second}
use Rattle.qg_backref_rule.proofs.Filters.{Rises}

-- ---- the address of what an item says

pub extent_part_at : (item : Item) (part : ExtentPart) → extent_part item ≡ Some part
    → part_address part ≡ item.key.objectid
extent_part_at item =
    holds-said (λ part. part_address part ≡ item.key.objectid) item (record {
      data_record = λ extent. refl;
      node_record = λ extent. refl;
      tree = refl;
      parent = refl;
      file = λ keyed. refl;
      leaf = λ shared. refl;
    })

-- ---- all items

object_rises : (a b : Key) → is_lt (key_cmp a b) ≡ true → a.objectid ≤ b.objectid
object_rises a b h = grind (arith, nat_tests)

-- what one item says, and what others say, where these come no lower
first_behind : (n : ℕ) (item : Item) (items : List Item) → n ≤ item.key.objectid
    → ((part : ExtentPart) → Contains (filter_map extent_part items) part → item.key.objectid ≤ part_address part)
    → (given : Option ExtentPart) → extent_part item ≡ given → (part : ExtentPart)
    → Contains (cons_option given (filter_map extent_part items)) part → n ≤ part_address part
first_behind n item items le later None is part there = omega (arith, le, later part there)
first_behind n item items le later (Some own) is part there =
    elim (contains_cases own (filter_map extent_part items) part there) [
      | inl same ↦ omega (arith, le, ap part_address same, extent_part_at item own is)
      | inr rest ↦ omega (arith, le, later part rest)
    ]

first_rises : (item : Item) (items : List Item) → ((part : ExtentPart) → Contains (filter_map extent_part items) part
    → item.key.objectid ≤ part_address part)
    → Rises part_address (filter_map extent_part items) → (given : Option ExtentPart) → extent_part item ≡ given
    → Rises part_address (cons_option given (filter_map extent_part items))
first_rises item items later up None is = up
first_rises item items later up (Some own) is = (λ y has. omega (arith, extent_part_at item own is, later y has), up)

-- what items say that come behind a key
behind : (before : Key) (items : List Item) → ascends_from before (map (λ (item : Item). item.key) items) ≡ true
    → (part : ExtentPart) → Contains (filter_map extent_part items) part → before.objectid ≤ part_address part
unfolding ascends_from
behind before [] up = λ part has. absurd (none_contained part has)
behind before (item ∷ items) up =
    let rest = and_second (is_lt (key_cmp before item.key))
    (ascends_from item.key (map (λ (item : Item). item.key) items)) up in
    let first = object_rises before item.key
    (and_first (is_lt (key_cmp before item.key)) (ascends_from item.key (map (λ (item : Item). item.key) items))
    up) in
    first_behind before.objectid item items first (behind item.key items rest) (extent_part item) refl

rises_behind : (before : Key) (items : List Item) → ascends_from before (map (λ (item : Item). item.key) items) ≡ true
    → Rises part_address (filter_map extent_part items)
unfolding ascends_from
rises_behind before [] up = tt
rises_behind before (item ∷ items) up =
    let rest = and_second (is_lt (key_cmp before item.key))
    (ascends_from item.key (map (λ (item : Item). item.key) items)) up in
    first_rises item items (behind item.key items rest) (rises_behind item.key items rest) (extent_part item) refl

by_rises : {X : Type 0} (key : X → ℕ) (xs : List X) → Rises key xs → IsNonDecreasingBy key xs
by_rises key [] up i j d le inside = absurd (omega (arith, inside))
by_rises key (x ∷ xs) up zero zero d le inside = omega arith
by_rises key (x ∷ xs) up zero (suc j) d le inside =
    up.0 (get_or xs j d) (Contains-get_or xs j d (omega (arith, inside)))
by_rises key (x ∷ xs) up (suc i) zero d le inside = absurd (omega (arith, le))
by_rises key (x ∷ xs) up (suc i) (suc j) d le inside =
    by_rises key xs up.1 i j d (omega (arith, le)) (omega (arith, inside))

all_rise : (items : List Item) → is_ascending (map (λ (item : Item). item.key) items) ≡ true
    → Rises part_address (filter_map extent_part items)
unfolding is_ascending
all_rise [] up = tt
all_rise (item ∷ items) up = first_rises item items (behind item.key items up) (rises_behind item.key items up)
    (extent_part item) refl

all_given : {A : Type 0} (givens : List (Option A)) (xs : List A) → givens ≡ map (λ x. Some x) xs
    → filter_map (λ given. given) givens ≡ xs
all_given givens [] are = ap (filter_map (λ given. given)) are
all_given givens (x ∷ xs) are = ap (filter_map (λ given. given)) are
    ∙ ap (λ ws. x ∷ ws) (all_given (map (λ y. Some y) xs) xs refl)

of_mapped : {A B : Type 0} (f : A → Option B) (xs : List A) → filter_map f xs ≡ filter_map (λ given. given) (map f xs)
of_mapped f [] = refl
of_mapped f (x ∷ xs) = ap (cons_option (f x)) (of_mapped f xs)

-- what the items of the extent tree say, in the order of their keys
pub parts_in_order : (items : List Item) (parts : List ExtentPart)
    → map extent_part items ≡ map (λ part. Some part) parts
    → is_ascending (map (λ (item : Item). item.key) items) ≡ true
    → IsNonDecreasingBy part_address parts
parts_in_order items parts are up =
    subst (λ ps. IsNonDecreasingBy part_address ps) (of_mapped extent_part items
    ∙ all_given (map extent_part items) parts are)
    (by_rises part_address (filter_map extent_part items) (all_rise items up))
