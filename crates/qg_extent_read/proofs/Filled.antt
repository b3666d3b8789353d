-- A leaf that a pointer leads to, and that ends where the next one begins, has eight items of the extent tree at least.
use Rattle.std.proofs.Common.{◌≡◌, ℕ, ◌+◌, ◌*◌, ◌≤◌, true, Bool, List, [], ◌∷◌, ◌++◌, map, length, Option, Some}
use Rattle.std.proofs.Common.{None, refl, sym, ap, subst, ◌∙◌, arith}
use Rattle.std.specs.Prelude.{is_some}
use Rattle.std.specs.List.{list_all}
use Rattle.std.proofs.lemmas.Bool.{and_from, and_parts, leb-true}
use Rattle.std.proofs.lemmas.List.Folds.{list_all-map}
use Rattle.std.proofs.lemmas.List.Sums.{sum_by-cons}
use Rattle.qg_num.specs.declared.key.Key.{Key}
use Rattle.qg_node.specs.declared.item.Item.{Item}
use Rattle.qg_node.specs.declared.node.Header.{Header}
use Rattle.qg_node.specs.declared.node.Node.TheVariants.{Leaf}
use Rattle.qg_node.specs.Nodes.{item_bytes, items_bytes}
use Rattle.qg_super.specs.declared.sizes.Sizes.{Sizes}
use Rattle.qg_super.specs.declared.superblock.Super.{Super}
use Rattle.qg_super.specs.Places.{capacity, is_served}
use Rattle.qg_super.proofs.Served.{SizesFit-is_served}
use Rattle.qg_blocks.specs.IsShaped.{is_shaped}
use Rattle.qg_blocks.specs.Types.{Expected, TreeKind}
use Rattle.qg_tree_items.specs.ItemMeaning.{extent_part}
use Rattle.qg_tree_items.specs.Types.{ExtentPart}
use Rattle.qg_walk.specs.Added.{is_from, is_to}
use Rattle.qg_walk.specs.Standing.{form_failure}
use Rattle.qg_walk.proofs.KeyRanges.{begins_at-all, ends_before-each, not_less_behind, not_less_trans}
use Rattle.qg_tree_read.specs.Reading.{is_upto, is_within, items_within}
use Rattle.qg_tree_read.proofs.BranchForms.{form-expected, shape-parts}
use Rattle.qg_tree_read.proofs.Under.{all_from, all_to}
use Rattle.qg_extent_read.specs.Looked.{EachSays}
use Rattle.qg_extent_read.proofs.Said.{says}

-- ---- how many bytes

short_one : (o : Option ExtentPart) (item : Item) → extent_part item ≡ o → is_some o ≡ true → length item.body ≤ 28
short_one None item is some = absurd cc
short_one (Some part) item is some = (says item part is).short

-- items that say something take at most 53 bytes each
pub bytes_few : (items : List Item) → EachSays items → items_bytes items ≤ 53 * length items
bytes_few [] each = omega arith
bytes_few (item ∷ items) each =
    let parts = and_parts (is_some (extent_part item)) (list_all (λ (x : Item). is_some (extent_part x)) items) each in
    let short = short_one (extent_part item) item refl parts.0 in
    let rest = bytes_few items parts.1 in
    let all : items_bytes (item ∷ items) ≡ item_bytes item + items_bytes items = sum_by-cons item_bytes item items in
    omega (arith, all, short, rest)

-- ---- those from one key to another are all

pub all_within : (from to next : Key) (items : List Item) → is_upto to next ≡ true
    → all_from (Some from) items ≡ true → all_to (Some next) items ≡ true → items_within from to items ≡ items
all_within from to next [] upto after before = refl
all_within from to next (item ∷ items) upto after before =
    let first = and_parts (is_from (Some from) item.key) (all_from (Some from) items) after in
    let last = and_parts (is_to (Some next) item.key) (all_to (Some next) items) before in
    let here : is_upto to item.key ≡ true =
    not_less_trans item.key next to (not_less_behind item.key next last.0) upto in
    let is : is_within from to item.key ≡ true = and_from (is_from (Some from) item.key) (is_upto to item.key) first.0
    here in
    rw is (ap (λ (xs : List Item). item ∷ xs) (all_within from to next items upto first.1 last.1))

-- ---- a part of a tree's items

pub part_says : (front part back : List Item) → EachSays (front ++ (part ++ back)) → EachSays part
part_says [] part back each =
    first part back each where
      first : (xs ys : List Item) → EachSays (xs ++ ys) → EachSays xs
      first [] ys h = refl
      first (x ∷ xs) ys h =
          let parts = and_parts (is_some (extent_part x)) _ h in
          and_from (is_some (extent_part x)) (list_all (λ (item : Item). is_some (extent_part item)) xs) parts.0
          (first xs ys parts.1)
part_says (x ∷ front) part back each =
    part_says front part back (and_parts (is_some (extent_part x)) _ each).1

-- ---- a leaf

keys_all : (p : Key → Bool) (items : List Item) → list_all p (map (λ (item : Item). item.key) items) ≡ true
    → list_all (λ (item : Item). p item.key) items ≡ true
keys_all p items h = sym (list_all-map p (λ (item : Item). item.key) items) ∙ h

count_of_bytes : (capacity bytes count : ℕ) → 3995 ≤ capacity → capacity ≤ 4 * bytes → bytes ≤ 53 * count → 8 ≤ count
count_of_bytes capacity bytes count least full few = omega (arith, least, full, few)

pub leaf-filled : (tree : TreeKind) (super : Super) (sizes : Sizes) (expected : Expected) (address : ℕ)
    (header : Header) (items : List Item) (from to next : Key)
    → super.nodesize ≡ sizes.nodesize → is_served sizes ≡ true
    → form_failure tree super expected address (Leaf header items) ≡ None → expected.from ≡ Some from
    → expected.to ≡ Some next → is_upto to next ≡ true → EachSays items → 8 ≤ length (items_within from to items)
leaf-filled tree super sizes expected address header items from to next size served formed begins ends upto each =
    let is = form-expected tree super expected address (Leaf header items) formed in
    let keys = map (λ (item : Item). item.key) items in
    let after : all_from (Some from) items ≡ true =
    keys_all (is_from (Some from)) items (subst (λ (o : Option Key). list_all (is_from o) keys ≡ true) begins
    (begins_at-all expected.from keys is.begins)) in
    let before : all_to (Some next) items ≡ true =
    keys_all (is_to (Some next)) items (subst (λ (o : Option Key). list_all (is_to o) keys ≡ true) ends
    (sym (ends_before-each expected.to keys) ∙ is.ends)) in
    let shape = shape-parts super.nodesize from (Leaf header items)
    (subst (λ (o : Option Key). is_shaped super.nodesize o (Leaf header items) ≡ true) begins is.shaped) in
    let full = leb-true (capacity super.nodesize) (4 * items_bytes items) shape.0 in
    let least = (SizesFit-is_served sizes served).least in
    let room : 3995 ≤ capacity super.nodesize = omega (arith, least, size) in
    subst (λ (xs : List Item). 8 ≤ length xs) (sym (all_within from to next items upto after before))
    (count_of_bytes (capacity super.nodesize) (items_bytes items) (length items) room full (bytes_few items each))
