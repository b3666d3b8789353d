-- The items of the root tree.
use Rattle.std.proofs.Common.{◌≡◌, ℕ, ◌+◌, ◌*◌, ◌≤◌, ◌<◌, ◌^◌, inl, inr, Bool, true, false, List, [], ◌∷◌, ◌++◌, map}
use Rattle.std.proofs.Common.{length, take, get_or, refl, sym, ap, ◌∙◌, arith, lit<}
use Rattle.std.specs.Prelude.{Option, Some, None, All, IfSome, not, ◌==◌, ◌&&◌, ◌||◌, nat_lt}
use Rattle.std.specs.List.{AllByRecursion, filter_map, list_all}
use Rattle.std.proofs.lemmas.Bool.{cases_Bool, eq-eqb, eqb-true, le-leb, true≢false}
use Rattle.std.proofs.lemmas.Bool.Decides.{nat_tests}
use Rattle.std.proofs.lemmas.List.{map-append, append_assoc, take_more}
use Rattle.std.proofs.lemmas.List.Elements.{All-from_recursion, recursion_from_All}
use Rattle.std.proofs.lemmas.List.Sums.{sum_by-cons}
use Rattle.qg_node.specs.declared.item.Item.{Item}
use Rattle.qg_node.specs.Fits.{ItemFits}
use Rattle.qg_node.specs.Nodes.{is_ascending, ascends_from, item_bytes, items_bytes}
use Rattle.qg_items.specs.declared.root.RootItem.{RootItem}
use Rattle.qg_items.specs.Laws.{RootFits}
use Rattle.qg_items.specs.ItemText.{root_text}
use Rattle.qg_items.proofs.RootBody.{length-root_text, root_read-root_text}
use Rattle.qg_image.specs.ItemMeaning.{is_subvolume_number, root_part}
use Rattle.qg_image.specs.Table.{with_value}
use Rattle.qg_num.specs.Key.{key_cmp}
use Rattle.std.specs.Ordering.{is_lt}
use Rattle.qg_tree_items.specs.Keys.{key_with}
use Rattle.qg_image.specs.declared.tree.TreeKind.TheVariants.{Roots}
use Rattle.qg_image.specs.Walk.{is_item_of}
use Rattle.qg_root_items.specs.Writable.{AreWritableRoots, IsRootBy, IsWritableRoot}
use Rattle.qg_root_items.specs.Written.{item_of_named, items_of_roots, quota_roots, roots_beside, roots_named}
use Rattle.qg_root_items.specs.Written.{with_quotas}
use Rattle.qg_node.proofs.ItemUnder.{item-fits}
use Rattle.qg_root_items.proofs.Bodies.{root_text-AreBytes}
use Rattle.qg_root_items.proofs.Rising.{Above, Rises, Rises-increasing, before_object, both}

-- ---- numbers of subvolumes

other_than_quotas : (n : ℕ) → is_subvolume_number n ≡ true → (n == 8) ≡ false
unfolding is_subvolume_number
other_than_quotas n is = elim (cases_Bool (n == 8)) [
  | inl same ↦ absurd (true≢false (sym is ∙ ap is_subvolume_number (eqb-true n 8 same)))
  | inr other ↦ other
]

above_extents : (n : ℕ) → is_subvolume_number n ≡ true → 2 < n
unfolding is_subvolume_number
above_extents n is = grind (arith, nat_tests)

number_fits : (n : ℕ) → is_subvolume_number n ≡ true → n < 2 ^ 64
unfolding is_subvolume_number
number_fits n is = grind (arith, nat_tests)

-- ---- the quota tree's ROOT_ITEM among the others

-- what is still to be put, the quota tree's among it where it isn't put yet
abbrev pub roots_left : Bool → RootItem → List (ℕ × RootItem) → List (ℕ × RootItem)
roots_left true quotas left = left
roots_left false quotas left = with_value 8 quotas left

pub next_left : (named : Bool) (quotas : RootItem) (entry : ℕ × RootItem) (entries : List (ℕ × RootItem))
    → is_subvolume_number entry.0 ≡ true
    → roots_left named quotas (entry ∷ entries)
    ≡ roots_beside ((named || nat_lt 8 entry.0) && not named) quotas entry
    ++ roots_left (named || nat_lt 8 entry.0) quotas entries
next_left true quotas entry entries is = refl
next_left false quotas entry entries is = elim (cases_Bool (nat_lt 8 entry.0)) [
  | inl behind ↦ rw behind refl
  | inr before ↦ rw (before, other_than_quotas entry.0 is) refl
]

-- what holds of each, and of the quota tree's, holds of all
all_named : (P : ℕ × RootItem → Type 0) (quotas : RootItem) (entries : List (ℕ × RootItem)) → P (8, quotas)
    → AllByRecursion P entries
    → AllByRecursion P (with_value 8 quotas entries)
all_named P quotas [] own each = (own, tt)
all_named P quotas (entry ∷ entries) own each = elim (cases_Bool (nat_lt 8 entry.0)) [
  | inl behind ↦ rw behind (own, each)
  | inr before ↦ elim (cases_Bool (entry.0 == 8)) [
    | inl same ↦ rw (before, same) (own, each.1)
    | inr other ↦ rw (before, other) (each.0, all_named P quotas entries own each.1)
  ]
]

AreNumbers : List (ℕ × RootItem) → Type 0
AreNumbers entries = AllByRecursion (λ entry. is_subvolume_number entry.0 ≡ true) entries

one_more : (quotas : RootItem) (entries : List (ℕ × RootItem)) → AreNumbers entries
    → length (with_value 8 quotas entries) ≡ length entries + 1
unfolding AreNumbers
one_more quotas [] numbers = refl
one_more quotas (entry ∷ entries) numbers = elim (cases_Bool (nat_lt 8 entry.0)) [
  | inl behind ↦ rw behind (omega arith)
  | inr before ↦ rw (before, other_than_quotas entry.0 numbers.0) (omega (arith, one_more quotas entries numbers.1))
]

above_with : (n : ℕ) (quotas : RootItem) (entries : List (ℕ × RootItem)) → n < 8 → AreNumbers entries → Above n entries
    → Above n (with_value 8 quotas entries)
unfolding AreNumbers
above_with n quotas [] low numbers above = (low, tt)
above_with n quotas (entry ∷ entries) low numbers above = elim (cases_Bool (nat_lt 8 entry.0)) [
  | inl behind ↦
      let high : 8 < entry.0 = grind (arith, nat_tests) in
      rw behind (low, (high, above.1))
  | inr before ↦
      let other = other_than_quotas entry.0 numbers.0 in
      let below : entry.0 < 8 = grind (arith, nat_tests) in
      rw (before, other) (above.0, above_with entry.0 quotas entries below numbers.1 above.1)
]

-- ---- with the quota tree's or without it

-- what holds of each, and of the quota tree's, where there is one, holds of all
all_with : (P : ℕ × RootItem → Type 0) (quotas : Option RootItem) (entries : List (ℕ × RootItem))
    → IfSome quotas (λ root. P (8, root)) → AllByRecursion P entries → AllByRecursion P (with_quotas quotas entries)
all_with P None entries own each = each
all_with P (Some root) entries own each = all_named P root entries own each

many_with : (quotas : Option RootItem) (entries : List (ℕ × RootItem)) → AreNumbers entries
    → length (with_quotas quotas entries) ≡ length entries + quota_roots quotas
many_with None entries numbers = omega arith
many_with (Some root) entries numbers = one_more root entries numbers

ascend_with : (n : ℕ) (quotas : Option RootItem) (entries : List (ℕ × RootItem)) → n < 8 → AreNumbers entries
    → Above n entries → Above n (with_quotas quotas entries)
ascend_with n None entries low numbers above = above
ascend_with n (Some root) entries low numbers above = above_with n root entries low numbers above

above_two : (entries : List (ℕ × RootItem)) → AreNumbers entries → Rises entries → Above 2 entries
unfolding AreNumbers
above_two [] numbers rises = tt
above_two (entry ∷ entries) numbers rises = (above_extents entry.0 numbers.0, rises)

-- ---- one ROOT_ITEM

-- the tree is one that the root tree may name, and its ROOT_ITEM can be written
record IsNamed (entry : ℕ × RootItem) : Type 0 where
  known : ((entry.0 == 2) || (entry.0 == 8) || is_subvolume_number entry.0) ≡ true
  small : entry.0 < 2 ^ 64
  writable : IsWritableRoot entry.1

root_told : (entry : ℕ × RootItem) → IsNamed entry → root_part (item_of_named entry) ≡ Some entry
unfolding root_part
root_told entry is = rw (
  eq-eqb entry.0 entry.0 refl,
  is.known,
  root_read-root_text entry.1 is.writable.fits,
  is.writable.counted,
) refl

root_allowed : (generation : ℕ) (entry : ℕ × RootItem) → IsNamed entry → IsRootBy generation entry.1
    → is_item_of Roots generation (item_of_named entry) ≡ true
unfolding is_item_of
root_allowed generation entry is by =
    rw (
      root_told entry is,
      le-leb entry.1.generation generation by.made,
      le-leb entry.1.last_snapshot generation
          by.copied,
    ) refl

root_fits : (entry : ℕ × RootItem) → IsNamed entry → ItemFits (item_of_named entry)
root_fits entry is =
    item-fits entry.0 132 0 (root_text entry.1) is.small (lit< tt) (lit< tt)
    (root_text-AreBytes entry.1 is.writable.fits.level)

short_root : (root : RootItem) → length (root_text root) ≤ 1024
short_root root = omega (arith, length-root_text root)

-- ---- any

are_told : (entries : List (ℕ × RootItem)) → AllByRecursion IsNamed entries
    → filter_map root_part (map item_of_named entries) ≡ entries
are_told [] are = refl
are_told (entry ∷ entries) are = rw (root_told entry are.0, are_told entries are.1) refl

are_allowed : (generation : ℕ) (entries : List (ℕ × RootItem)) → AllByRecursion IsNamed entries
    → AllByRecursion (λ entry. IsRootBy generation entry.1) entries
    → list_all (is_item_of Roots generation) (map item_of_named entries) ≡ true
are_allowed generation [] are by = refl
are_allowed generation (entry ∷ entries) are by =
    both (is_item_of Roots generation (item_of_named entry))
    (list_all (is_item_of Roots generation) (map item_of_named entries))
    (root_allowed generation entry are.0 by.0) (are_allowed generation entries are.1 by.1)

ascend_above : (n : ℕ) (entries : List (ℕ × RootItem)) → Above n entries
    → ascends_from (key_with n 132 0) (map (λ (item : Item). item.key) (map item_of_named entries)) ≡ true
unfolding ascends_from
ascend_above n [] above = refl
ascend_above n (entry ∷ entries) above =
    both (is_lt (key_cmp (key_with n 132 0) (key_with entry.0 132 0)))
    (ascends_from (key_with entry.0 132 0) (map (λ (item : Item). item.key) (map item_of_named entries)))
    (before_object 132 n entry.0 above.0) (ascend_above entry.0 entries above.1)

are_short : (entries : List (ℕ × RootItem))
    → AllByRecursion (λ (item : Item). length item.body ≤ 1024) (map item_of_named entries)
are_short [] = tt
are_short (entry ∷ entries) = (short_root entry.1, are_short entries)

all_fit : (entries : List (ℕ × RootItem)) → AllByRecursion IsNamed entries
    → AllByRecursion ItemFits (map item_of_named entries)
all_fit [] are = tt
all_fit (entry ∷ entries) are = (root_fits entry are.0, all_fit entries are.1)

all_weigh : (entries : List (ℕ × RootItem)) → items_bytes (map item_of_named entries) ≡ 464 * length entries
all_weigh [] = refl
all_weigh (entry ∷ entries) =
    let first : item_bytes (item_of_named entry) ≡ 464 = omega (arith, length-root_text entry.1) in
    omega (arith, first, all_weigh entries, sum_by-cons item_bytes (item_of_named entry) (map item_of_named entries))

-- ---- all that the root tree names

-- the quota tree's ROOT_ITEM, where there is one
quotas_named : (quotas : Option RootItem) → IfSome quotas IsWritableRoot → IfSome quotas (λ root. IsNamed (8, root))
quotas_named None q = tt
quotas_named (Some root) q = record { known = refl; small = lit< tt; writable = q }

module _ (extents : RootItem) (subvolumes : List (ℕ × RootItem)) (quotas : Option RootItem) where
  numbers_are : AreWritableRoots subvolumes → AreNumbers subvolumes
  unfolding AreNumbers
  numbers_are are = recursion_from_All (λ entry. is_subvolume_number entry.0 ≡ true) subvolumes are.numbers

  each_named : (entries : List (ℕ × RootItem)) → AreNumbers entries → AllByRecursion (λ entry. entry.1.refs ≡ 1) entries
      → AllByRecursion (λ entry. RootFits entry.1) entries → AllByRecursion IsNamed entries
  unfolding AreNumbers
  each_named [] numbers counted fits = tt
  each_named (entry ∷ entries) numbers counted fits =
      let known : ((entry.0 == 2) || (entry.0 == 8) || is_subvolume_number entry.0) ≡ true =
      either (entry.0 == 2) (entry.0 == 8) (is_subvolume_number entry.0) numbers.0 in
      let first : IsNamed entry = record {
        known = known;
        small = number_fits entry.0 numbers.0;
        writable = record { counted = counted.0; fits = fits.0 };
      } in
      (first, each_named entries numbers.1 counted.1 fits.1)
    where
      either : (a b c : Bool) → c ≡ true → (a || b || c) ≡ true
      either true b c h = refl
      either false true c h = refl
      either false false c h = h

  all_are : IsWritableRoot extents → AreWritableRoots subvolumes → All (λ entry. RootFits entry.1) subvolumes
      → IfSome quotas IsWritableRoot → AllByRecursion IsNamed (roots_named extents subvolumes quotas)
  all_are e are fits q =
      let counted = recursion_from_All (λ entry. entry.1.refs ≡ 1) subvolumes are.counted in
      let fit = recursion_from_All (λ entry. RootFits entry.1) subvolumes fits in
      let own : IsNamed (2, extents) = record { known = refl; small = lit< tt; writable = e } in (
        own,
        all_with IsNamed quotas subvolumes (quotas_named quotas q)
            (each_named subvolumes (numbers_are are) counted fit),
      )

  pub roots-told : IsWritableRoot extents → AreWritableRoots subvolumes → All (λ entry. RootFits entry.1) subvolumes
      → IfSome quotas IsWritableRoot
      → filter_map root_part (items_of_roots extents subvolumes quotas) ≡ roots_named extents subvolumes quotas
  roots-told e are fits q = are_told (roots_named extents subvolumes quotas) (all_are e are fits q)

  pub roots-allowed : (generation : ℕ) → IsWritableRoot extents → AreWritableRoots subvolumes
      → All (λ entry. RootFits entry.1) subvolumes
      → IfSome quotas IsWritableRoot
      → IsRootBy generation extents → All (λ entry. IsRootBy generation entry.1) subvolumes
      → IfSome quotas (IsRootBy generation)
      → list_all (is_item_of Roots generation) (items_of_roots extents subvolumes quotas) ≡ true
  roots-allowed generation e are fits q by_e by by_q =
      let each = recursion_from_All (λ entry. IsRootBy generation entry.1) subvolumes by in
      are_allowed generation (roots_named extents subvolumes quotas) (all_are e are fits q)
      (by_e, all_with (λ entry. IsRootBy generation entry.1) quotas subvolumes by_q each)

  pub roots-ascending : AreWritableRoots subvolumes
      → is_ascending (map (λ (item : Item). item.key) (items_of_roots extents subvolumes quotas)) ≡ true
  unfolding is_ascending
  roots-ascending are =
      let numbers = numbers_are are in
      let above = above_two subvolumes numbers (Rises-increasing subvolumes are.ascending) in
      ascend_above 2 (with_quotas quotas subvolumes) (ascend_with 2 quotas subvolumes (lit< tt) numbers above)

  pub roots-short : All (λ (item : Item). length item.body ≤ 1024) (items_of_roots extents subvolumes quotas)
  roots-short =
      All-from_recursion (λ (item : Item). length item.body ≤ 1024) (items_of_roots extents subvolumes quotas)
      (are_short (roots_named extents subvolumes quotas))

  pub roots-fit : IsWritableRoot extents → AreWritableRoots subvolumes → All (λ entry. RootFits entry.1) subvolumes
      → IfSome quotas IsWritableRoot
      → All ItemFits (items_of_roots extents subvolumes quotas)
  roots-fit e are fits q =
      All-from_recursion ItemFits (items_of_roots extents subvolumes quotas)
      (all_fit (roots_named extents subvolumes quotas) (all_are e are fits q))

  pub roots-bytes : AreWritableRoots subvolumes
      → items_bytes (items_of_roots extents subvolumes quotas) ≡ 464 * (length subvolumes + 1 + quota_roots quotas)
  roots-bytes are =
      omega (arith, all_weigh (roots_named extents subvolumes quotas), many_with quotas subvolumes (numbers_are are))

-- ---- one item more is put

pub one_put : (front items more : List Item) (subvolumes : List (ℕ × RootItem)) (i : ℕ) (entry : ℕ × RootItem)
    → i < length subvolumes → entry ≡ get_or subvolumes i entry → items ≡ front ++ map item_of_named (take i subvolumes)
    → more ≡ items ++ item_of_named entry ∷ [] → more ≡ front ++ map item_of_named (take (i + 1) subvolumes)
one_put front items more subvolumes i entry inside is before put =
    let here : List (ℕ × RootItem) = entry ∷ [] in
    let split : take (i + 1) subvolumes ≡ take i subvolumes ++ here =
    take_more subvolumes i entry inside ∙ ap (λ (e : ℕ × RootItem). take i subvolumes ++ e ∷ []) (sym is) in
    let mapped : map item_of_named (take (i + 1) subvolumes) ≡ map item_of_named (take i subvolumes)
    ++ item_of_named entry ∷ [] =
    ap (map item_of_named) split ∙ map-append item_of_named (take i subvolumes) here in
    let last : List Item = item_of_named entry ∷ [] in
    put ∙ ap (λ (all : List Item). all ++ last) before ∙ append_assoc front (map item_of_named (take i subvolumes)) last
    ∙ ap (λ (all : List Item). front ++ all) (sym mapped)

-- ---- one subvolume more is put

pub roots-put : (items more : List Item) (named next first : Bool) (quotas : RootItem) (entry : ℕ × RootItem)
    (left entries : List (ℕ × RootItem))
    → is_subvolume_number entry.0 ≡ true → left ≡ entry ∷ entries → next ≡ (named || nat_lt 8 entry.0)
    → first ≡ (next && not named) → more ≡ items ++ map item_of_named (roots_beside first quotas entry)
    → more ++ map item_of_named (roots_left next quotas entries) ≡ items
    ++ map item_of_named (roots_left named quotas left)
roots-put items more named next first quotas entry left entries number stands is first_is put =
    let behind = named || nat_lt 8 entry.0 in
    let now = map item_of_named (roots_beside (behind && not named) quotas entry) in
    let then = map item_of_named (roots_left behind quotas entries) in
    let whole : map item_of_named (roots_left named quotas (entry ∷ entries)) ≡ now ++ then =
    ap (map item_of_named) (next_left named quotas entry entries number)
    ∙ map-append item_of_named (roots_beside (behind && not named) quotas entry) (roots_left behind quotas entries) in
    rw (put, first_is, is, stands, whole) (append_assoc items now then)
