-- The keys of the items of a table ascend.
use Rattle.std.proofs.Common.{◌≡◌, ℕ, suc, ◌+◌, ◌<◌, Bool, true, List, [], ◌∷◌, ◌++◌, map, Option, Some, None, refl}
use Rattle.std.proofs.Common.{sym, arith}
use Rattle.std.specs.Prelude.{◌&&◌}
use Rattle.std.specs.Cmp.{nat_cmp_is, ranked}
use Rattle.std.specs.List.{AllByRecursion}
use Rattle.std.specs.List.Sorted.{IsStrictlySortedBy}
use Rattle.std.specs.Map.{keys_of}
use Rattle.std.specs.Ordering.{is_lt, nat_cmp}
use Rattle.std.specs.declared.cmp.Ordering.TheVariants.{Less, Equal}
use Rattle.std.proofs.lemmas.Bool.{true≢false}
use Rattle.std.proofs.lemmas.Bool.Decides.{nat_tests}
use Rattle.qg_num.specs.Key.{key_cmp}
use Rattle.qg_num.specs.declared.key.Key.{Key}
use Rattle.qg_node.specs.declared.item.Item.{Item}
use Rattle.qg_node.specs.Nodes.{ascends_from, is_ascending}
use Rattle.qg_items.specs.declared.extent.ExtentItem.{ExtentItem}
use Rattle.qg_items.specs.declared.extent.Reference.{Reference}
use Rattle.qg_items.specs.declared.extent.Reference.TheVariants.{KeyedBlock, SharedBlock, KeyedData, SharedData}
use Rattle.qg_tree_items.specs.Keys.{key_with}
use Rattle.qg_refs.specs.declared.counted.Counted.{Counted}
use Rattle.qg_refs.specs.declared.kept.Kept.{Kept}
use Rattle.qg_refs.specs.Counts.{Ascend}
use Rattle.qg_refs.specs.Order.{precedes}
use Rattle.qg_extents.specs.Written.{extent_of, item_of_reference, number_behind, items_of_references, record_item}
use Rattle.qg_extents.specs.Written.{item_of_record, items_of_book}

-- ---- two keys

is_less : (a b : ℕ) → a < b → nat_cmp a b ≡ Less
is_less a b h = sym (nat_cmp_is a b Less h)

is_same : (a : ℕ) → nat_cmp a a ≡ Equal
is_same a = sym (nat_cmp_is a a Equal refl)

both : (a b : Bool) → a ≡ true → b ≡ true → (a && b) ≡ true
both a b first second = rw (first, second) refl

-- a key of a lesser object is before
before_object : (low key : Key) → low.objectid < key.objectid → is_lt (key_cmp low key) ≡ true
before_object low key h = rw (is_less low.objectid key.objectid h) refl

-- ---- the keys of one address

-- the kind and the offset of a reference's key
abbrev kind_of : Reference → ℕ
kind_of (KeyedBlock root) = 176
kind_of (KeyedData root ino offset) = 178
kind_of (SharedBlock parent) = 182
kind_of (SharedData parent) = 184

abbrev place_of : ℕ → Reference → ℕ
place_of number (KeyedBlock root) = root
place_of number (KeyedData root ino offset) = number
place_of number (SharedBlock parent) = parent
place_of number (SharedData parent) = parent

reference_keyed : (at number : ℕ) (reference : Reference) (count : ℕ)
    → (item_of_reference at number reference count).key ≡ key_with at (kind_of reference) (place_of number reference)
reference_keyed at number (KeyedBlock root) count = refl
reference_keyed at number (KeyedData root ino offset) count = refl
reference_keyed at number (SharedBlock parent) count = refl
reference_keyed at number (SharedData parent) count = refl

abbrev record_kind : Option ℕ → ℕ
record_kind None = 168
record_kind (Some level) = 169

abbrev record_place : ℕ → Option ℕ → ℕ
record_place bytes None = bytes
record_place bytes (Some level) = level

record_keyed : (at bytes : ℕ) (level : Option ℕ) (extent : ExtentItem)
    → (record_item at bytes level extent).key ≡ key_with at (record_kind level) (record_place bytes level)
record_keyed at bytes None extent = refl
record_keyed at bytes (Some level) extent = refl

-- a record is before the references
record_before : (at bytes number : ℕ) (level : Option ℕ) (reference : Reference)
    → is_lt (key_cmp (key_with at (record_kind level) (record_place bytes level))
    (key_with at (kind_of reference) (place_of number reference))) ≡ true
record_before at bytes number None (KeyedBlock root) = rw (is_same at) refl
record_before at bytes number None (KeyedData root ino offset) = rw (is_same at) refl
record_before at bytes number None (SharedBlock parent) = rw (is_same at) refl
record_before at bytes number None (SharedData parent) = rw (is_same at) refl
record_before at bytes number (Some level) (KeyedBlock root) = rw (is_same at) refl
record_before at bytes number (Some level) (KeyedData root ino offset) = rw (is_same at) refl
record_before at bytes number (Some level) (SharedBlock parent) = rw (is_same at) refl
record_before at bytes number (Some level) (SharedData parent) = rw (is_same at) refl

less_root : (a b : ℕ) → precedes (KeyedBlock a) (KeyedBlock b) ≡ true → a < b
less_root a b h = grind (arith, nat_tests)

less_parent : (a b : ℕ) → precedes (SharedBlock a) (SharedBlock b) ≡ true → a < b
less_parent a b h = grind (arith, nat_tests)

less_leaf : (a b : ℕ) → precedes (SharedData a) (SharedData b) ≡ true → a < b
less_leaf a b h = grind (arith, nat_tests)

-- a reference before another one has a lesser key
reference_before : (at number : ℕ) (a b : Reference) → precedes a b ≡ true
    → is_lt (key_cmp (key_with at (kind_of a) (place_of number a))
    (key_with at (kind_of b) (place_of (number_behind number a) b))) ≡ true
reference_before at number (KeyedBlock a) (KeyedBlock b) h = rw (is_same at, is_less a b (less_root a b h)) refl
reference_before at number (KeyedBlock a) (KeyedData root ino offset) h = rw (is_same at) refl
reference_before at number (KeyedBlock a) (SharedBlock b) h = rw (is_same at) refl
reference_before at number (KeyedBlock a) (SharedData b) h = rw (is_same at) refl
reference_before at number (KeyedData root ino offset) (KeyedBlock b) h = absurd (true≢false (sym h))
reference_before at number (KeyedData root ino offset) (KeyedData root' ino' offset') h = rw
    (is_same at, is_less number (number + 1) (omega arith)) refl
reference_before at number (KeyedData root ino offset) (SharedBlock b) h = rw (is_same at) refl
reference_before at number (KeyedData root ino offset) (SharedData b) h = rw (is_same at) refl
reference_before at number (SharedBlock a) (KeyedBlock b) h = absurd (true≢false (sym h))
reference_before at number (SharedBlock a) (KeyedData root ino offset) h = absurd (true≢false (sym h))
reference_before at number (SharedBlock a) (SharedBlock b) h = rw (is_same at, is_less a b (less_parent a b h)) refl
reference_before at number (SharedBlock a) (SharedData b) h = rw (is_same at) refl
reference_before at number (SharedData a) (KeyedBlock b) h = absurd (true≢false (sym h))
reference_before at number (SharedData a) (KeyedData root ino offset) h = absurd (true≢false (sym h))
reference_before at number (SharedData a) (SharedBlock b) h = absurd (true≢false (sym h))
reference_before at number (SharedData a) (SharedData b) h = rw (is_same at, is_less a b (less_leaf a b h)) refl

-- ---- one address, and what stands behind it

-- items whose keys ascend behind each key of an address
record Follow (at : ℕ) (rest : List Item) : Type 0 where
  after : (kind offset : ℕ) → ascends_from (key_with at kind offset) (map (λ item. item.key) rest) ≡ true

-- a key is before that of the first reference
abbrev IsBefore : ℕ → ℕ → ℕ → ℕ → List Counted → Type 0
IsBefore at kind offset number [] = Unit {0}
IsBefore at kind offset number (entry ∷ entries) =
    is_lt (key_cmp (key_with at kind offset) (key_with at (kind_of entry.reference) (place_of number entry.reference)))
    ≡ true

later_ascend : (entry : Counted) (entries : List Counted) → Ascend (entry ∷ entries) → Ascend entries
later_ascend entry entries up = λ i j d below inside. up (suc i) (suc j) d (omega arith) (omega arith)

next_before : (at number : ℕ) (entry : Counted) (entries : List Counted) → Ascend (entry ∷ entries)
    → IsBefore at (kind_of entry.reference) (place_of number entry.reference)
    (number_behind number entry.reference) entries
next_before at number entry [] up = tt
next_before at number entry (next ∷ entries) up = reference_before at number entry.reference next.reference
    (up 0 1 entry (omega arith) (omega arith))

references_ascend : (at kind offset number : ℕ) (entries : List Counted) (rest : List Item)
    → IsBefore at kind offset number entries → Ascend entries → Follow at rest
    → ascends_from (key_with at kind offset) (map (λ item. item.key) (items_of_references at number entries ++ rest)) ≡
    true
unfolding ascends_from
references_ascend at kind offset number [] rest before up follow = follow.after kind offset
references_ascend at kind offset number (entry ∷ entries) rest before up follow =
    rw (reference_keyed at number entry.reference entry.count)
    (both (is_lt (key_cmp (key_with at kind offset) (key_with at (kind_of entry.reference)
    (place_of number entry.reference)))) _ before
    (references_ascend at (kind_of entry.reference) (place_of number entry.reference)
    (number_behind number entry.reference) entries rest
    (next_before at number entry entries up) (later_ascend entry entries up) follow))

record_first : (at bytes : ℕ) (level : Option ℕ) (entries : List Counted)
    → IsBefore at (record_kind level) (record_place bytes level) 0 entries
record_first at bytes level [] = tt
record_first at bytes level (entry ∷ entries) = record_before at bytes 0 level entry.reference

extent_ascends : (entry : ℕ × Kept) (rest : List Item) → Ascend entry.1.references → Follow entry.0 rest
    → ascends_from (item_of_record entry).key (map (λ item. item.key)
    (items_of_references entry.0 0 entry.1.references ++ rest)) ≡ true
extent_ascends entry rest up follow =
    let level = entry.1.what.level in
    let bytes = entry.1.what.bytes in
    rw (record_keyed entry.0 bytes level (extent_of entry.1))
    (references_ascend entry.0 (record_kind level) (record_place bytes level) 0 entry.1.references rest
    (record_first entry.0 bytes level entry.1.references) up follow)

-- ---- a table

-- addresses ascend, and all are above one
abbrev pub Rise : ℕ → List (ℕ × Kept) → Type 0
Rise at [] = Unit {0}
Rise at (entry ∷ table) = (at < entry.0) × Rise entry.0 table

table_follows : (at : ℕ) (table : List (ℕ × Kept)) → Rise at table
    → AllByRecursion (λ entry. Ascend entry.1.references) table → Follow at (items_of_book table)
unfolding ascends_from
table_follows at [] rise up = record { after = λ kind offset. refl }
table_follows at (entry ∷ table) rise up = record {
  after = λ kind offset.
      both (is_lt (key_cmp (key_with at kind offset) (item_of_record entry).key)) _
      (rw (record_keyed entry.0 entry.1.what.bytes entry.1.what.level (extent_of entry.1))
      (before_object (key_with at kind offset) _ rise.0))
      (extent_ascends entry (items_of_book table) up.0 (table_follows entry.0 table rise.1 up.1));
}

rise_from : (entry : ℕ × Kept) (table : List (ℕ × Kept)) → IsStrictlySortedBy nat_cmp (keys_of (entry ∷ table))
    → Rise entry.0 table
unfolding IsStrictlySortedBy
rise_from entry [] ascend = tt
rise_from entry (next ∷ table) ascend = (ranked entry.0 next.0 Less (sym ascend.0.0), rise_from next table ascend.1)

pub book-ascending : (table : List (ℕ × Kept)) → IsStrictlySortedBy nat_cmp (keys_of table)
    → AllByRecursion (λ entry. Ascend entry.1.references) table
    → is_ascending (map (λ (item : Item). item.key) (items_of_book table)) ≡ true
unfolding is_ascending
book-ascending [] ascend up = refl
book-ascending (entry ∷ table) ascend up =
    extent_ascends entry (items_of_book table) up.0 (table_follows entry.0 table (rise_from entry table ascend) up.1)
