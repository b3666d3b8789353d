-- The trees that an image's root tree names ascend by number, and so do its subvolumes.
use Rattle.std.proofs.Common.{◌≡◌, ℕ, Bool, true, List, [], ◌∷◌, map, Option, refl, sym, ap, subst, ◌∙◌, inl, inr}
use Rattle.std.specs.Prelude.{◌==◌}
use Rattle.std.specs.List.{AllByRecursion, cons_option, filter, filter_map, list_all}
use Rattle.std.specs.List.Sorted.{IsStrictlyIncreasing, IsStrictlySortedBy}
use Rattle.std.specs.Ordering.{is_lt, nat_cmp, ordering_then}
use Rattle.std.specs.declared.cmp.Ordering.{Ordering}
use Rattle.std.specs.declared.cmp.Ordering.TheVariants.{Less, Equal, Greater}
use Rattle.std.proofs.lemmas.Bool.{and_parts, cases_Bool, eqb-true}
use Rattle.std.proofs.lemmas.List.Kept.{IsStrictlyIncreasing-filter}
use Rattle.std.proofs.lemmas.Map.Keys.{IsStrictlyIncreasing-from_sorted}
use Rattle.qg_num.specs.Key.{key_cmp}
use Rattle.qg_num.specs.declared.key.Key.{Key}
use Rattle.qg_node.specs.declared.item.Item.{Item}
use Rattle.qg_node.specs.Nodes.{is_ascending}
use Rattle.qg_items.specs.declared.root.RootItem.{RootItem}
use Rattle.qg_super.specs.declared.superblock.Super.{Super}
use Rattle.qg_image.specs.ItemMeaning.{is_subvolume_number, root_part}
use Rattle.qg_image.specs.Table.{keys_of, value_at}
use Rattle.qg_tree_items.specs.Keys.{root_key}
use Rattle.qg_tree_items.proofs.KeysOfParts.{root_keyed}
use Rattle.qg_shape.proofs.Ascending.{all_behind, ascending_tail_of}
use Rattle.qg_image.specs.declared.tree.TreeKind.TheVariants.{Roots}
use Rattle.qg_image.specs.ImageState.{root_items, roots_in, subvolume_roots}
use Rattle.qg_image.specs.Walk.{is_item_of}
use Rattle.qg_fs_laws.proofs.OtherRecords.{root-said}

-- ---- keys and numbers

less_number : (answer : Ordering) → is_lt (ordering_then answer Equal) ≡ true → answer ≡ Less
less_number Less is = refl
less_number Equal is = absurd cc
less_number Greater is = absurd cc

-- where the key of one ROOT_ITEM is less than that of another, so is the number
number_less : (a b : ℕ × RootItem) → is_lt (key_cmp (root_key a) (root_key b)) ≡ true → nat_cmp a.0 b.0 ≡ Less
number_less a b is = less_number (nat_cmp a.0 b.0) is

abbrev keys_told : List Item → List Key
keys_told items = map (λ item. item.key) items

module _ (generation : ℕ) where
  numbers_behind : (low : ℕ × RootItem) (items : List Item)
      → list_all (λ other. is_lt (key_cmp (root_key low) other)) (keys_told items) ≡ true
      → list_all (is_item_of Roots generation) items ≡ true
      → AllByRecursion (λ number. nat_cmp low.0 number ≡ Less) (keys_of (filter_map root_part items))
  numbers_behind low [] less each = tt
  numbers_behind low (item ∷ items) less each =
      let both = and_parts (is_item_of Roots generation item) (list_all (is_item_of Roots generation) items) each in
      let its = root-said generation item both.0 in
      let front = and_parts (is_lt (key_cmp (root_key low) item.key))
      (list_all (λ (other : Key). is_lt (key_cmp (root_key low) other)) (keys_told items)) less in
      let here : is_lt (key_cmp (root_key low) (root_key its.0)) ≡ true =
      subst (λ (key : Key). is_lt (key_cmp (root_key low) key) ≡ true) (sym (root_keyed item its.0 its.1)) front.0 in
      subst (λ (o : Option (ℕ × RootItem)). AllByRecursion (λ (number : ℕ). nat_cmp low.0 number ≡ Less)
      (keys_of (cons_option o (filter_map root_part items)))) (sym its.1)
      (number_less low its.0 here, numbers_behind low items front.1 both.1)

  first_least : (key : Key) (keys : List Key) → is_ascending (key ∷ keys) ≡ true
      → list_all (λ other. is_lt (key_cmp key other)) keys ≡ true
  unfolding is_ascending
  first_least key keys up = all_behind key keys up

  numbers_sorted : (items : List Item) → is_ascending (keys_told items) ≡ true
      → list_all (is_item_of Roots generation) items ≡ true
      → IsStrictlySortedBy nat_cmp (keys_of (filter_map root_part items))
  unfolding IsStrictlySortedBy
  numbers_sorted [] up each = tt
  numbers_sorted (item ∷ items) up each =
      let both = and_parts (is_item_of Roots generation item) (list_all (is_item_of Roots generation) items) each in
      let its = root-said generation item both.0 in
      let less : list_all (λ (other : Key). is_lt (key_cmp (root_key its.0) other)) (keys_told items) ≡ true =
      subst (λ (key : Key). list_all (λ (other : Key). is_lt (key_cmp key other)) (keys_told items) ≡ true)
      (sym (root_keyed item its.0 its.1)) (first_least item.key (keys_told items) up) in
      subst (λ (o : Option (ℕ × RootItem)).
      IsStrictlySortedBy nat_cmp (keys_of (cons_option o (filter_map root_part items)))) (sym its.1) (
        numbers_behind its.0 items less both.1,
        numbers_sorted items (ascending_tail_of item.key (keys_told items) up) both.1,
      )

-- ---- those of subvolumes

-- the numbers of what a test of numbers keeps
keys_kept : (keep : ℕ → Bool) (entries : List (ℕ × RootItem))
    → keys_of (filter (λ entry. keep entry.0) entries) ≡ filter keep (keys_of entries)
keys_kept keep [] = refl
keys_kept keep (entry ∷ entries) = elim (cases_Bool (keep entry.0)) [
  | inl here ↦ rw here (ap (λ (numbers : List ℕ). entry.0 ∷ numbers) (keys_kept keep entries))
  | inr gone ↦ rw gone (keys_kept keep entries)
]

-- what stands at a number that is kept
pub value-kept : (keep : ℕ → Bool) (n : ℕ) → keep n ≡ true → (entries : List (ℕ × RootItem))
    → value_at n (filter (λ entry. keep entry.0) entries) ≡ value_at n entries
value-kept keep n kept [] = refl
value-kept keep n kept (entry ∷ entries) = elim (cases_Bool (entry.0 == n)) [
  | inl here ↦
      let first : keep entry.0 ≡ true = ap keep (eqb-true entry.0 n here) ∙ kept in
      rw (first, here) refl
  | inr other ↦ elim (cases_Bool (keep entry.0)) [
    | inl first ↦ rw (first, other) (value-kept keep n kept entries)
    | inr gone ↦ rw (gone, other) (value-kept keep n kept entries)
  ]
]

module _ (super : Super) (image : List ℕ) where
  named_there : roots_in super image ≡ filter_map root_part (root_items super image)
  unfolding roots_in
  named_there = refl

  pub roots-ascend : is_ascending (map (λ item. item.key) (root_items super image)) ≡ true
      → list_all (is_item_of Roots super.generation) (root_items super image) ≡ true
      → IsStrictlyIncreasing (keys_of (roots_in super image))
  roots-ascend up each =
      subst (λ (entries : List (ℕ × RootItem)). IsStrictlyIncreasing (keys_of entries)) (sym named_there)
      (IsStrictlyIncreasing-from_sorted (keys_of (filter_map root_part (root_items super image)))
      (numbers_sorted super.generation (root_items super image) up each))

  pub subvolumes-ascend : IsStrictlyIncreasing (keys_of (roots_in super image))
      → IsStrictlyIncreasing (keys_of (subvolume_roots (roots_in super image)))
  subvolumes-ascend up =
      subst (λ (numbers : List ℕ). IsStrictlyIncreasing numbers)
      (sym (keys_kept is_subvolume_number (roots_in super image)))
      (IsStrictlyIncreasing-filter is_subvolume_number (keys_of (roots_in super image)) up)
