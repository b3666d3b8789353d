-- What the items from one key to another say is what is told of an address, or a part of that.
use Rattle.std.proofs.Common.{◌≡◌, ℕ, ◌≤◌, ◌<◌, true, false, Bool, List, [], ◌∷◌, length, Option, Some, None}
use Rattle.std.proofs.Common.{refl, sym, ap, ◌∙◌, arith, suc, inl, inr}
use Rattle.std.specs.Prelude.{◌&&◌, ◌==◌, cond, filter, is_some}
use Rattle.std.specs.List.{cons_option, filter_map, list_all}
use Rattle.std.proofs.lemmas.Bool.{and_parts, cases_Bool, eq-eqb, eqb-false, eqb-true, ne_eqb}
use Rattle.qg_num.specs.declared.key.Key.{Key}
use Rattle.qg_node.specs.declared.item.Item.{Item}
use Rattle.qg_items.specs.declared.extent.Reference.{Reference}
use Rattle.qg_items.specs.declared.extent.Reference.TheVariants.{KeyedBlock, SharedBlock, KeyedData, SharedData}
use Rattle.qg_blocks.specs.IsShaped.{same_key}
use Rattle.qg_tree_items.specs.ItemMeaning.{extent_part}
use Rattle.qg_tree_items.specs.Keys.{key_with}
use Rattle.qg_tree_items.specs.Owed.{is_record, part_address}
use Rattle.qg_tree_items.specs.Record.{same_reference}
use Rattle.qg_tree_items.specs.Types.{ExtentPart}
use Rattle.qg_tree_items.specs.Types.{DataRecord, NodeRecord, Referenced}
use Rattle.qg_tree_read.specs.Reading.{is_within, items_within}
use Rattle.qg_extent_read.specs.Looked.{EachSays, end_at, first_at, records_end, reference_from, reference_to}
use Rattle.qg_extent_read.specs.Looked.{references_begin, told_at}
use Rattle.qg_extent_read.proofs.Keyed.{above-kinds, below-kinds, within-kinds, within-one}
use Rattle.qg_extent_read.proofs.Entries.{tells_one}
use Rattle.qg_extent_read.proofs.Said.{IsReferenceBy, IsSaidBy, says}

-- ---- items from one key to another, and parts that pass a test

-- the test is passed by what is said from one key to another
abbrev Agrees : Key → Key → (ExtentPart → Bool) → Type 0
Agrees from to test = (key : Key) (part : ExtentPart) → IsSaidBy key part → is_within from to key ≡ test part

none_more : (items : List Item) (rest : List ExtentPart) (item : Item) (b : Bool) → extent_part item ≡ None
    → filter_map extent_part items ≡ rest → filter_map extent_part (cond b (item ∷ items) items) ≡ rest
none_more items rest item true is same = rw is same
none_more items rest item false is same = same

some_more : (items : List Item) (rest : List ExtentPart) (item : Item) (b : Bool) (part : ExtentPart)
    → extent_part item ≡ Some part → filter_map extent_part items ≡ rest
    → filter_map extent_part (cond b (item ∷ items) items) ≡ cond b (part ∷ rest) rest
some_more items rest item true part is same = rw is (ap (λ (xs : List ExtentPart). part ∷ xs) same)
some_more items rest item false part is same = same

one_more : (from to : Key) (test : ExtentPart → Bool) → Agrees from to test → (item : Item) (items : List Item)
    → filter_map extent_part (items_within from to items) ≡ filter test (filter_map extent_part items)
    → (o : Option ExtentPart) → extent_part item ≡ o
    → filter_map extent_part (items_within from to (item ∷ items))
    ≡ filter test (filter_map extent_part (item ∷ items))
one_more from to test agrees item items rest None is =
    none_more (items_within from to items) (filter test (filter_map extent_part items)) item
    (is_within from to item.key) is rest
    ∙ sym (ap (λ (o : Option ExtentPart). filter test (cons_option o (filter_map extent_part items))) is)
one_more from to test agrees item items rest (Some part) is =
    some_more (items_within from to items) (filter test (filter_map extent_part items)) item
    (is_within from to item.key) part is rest
    ∙ ap (λ (b : Bool). cond b (part ∷ filter test (filter_map extent_part items))
    (filter test (filter_map extent_part items))) (agrees item.key part (says item part is).keyed)
    ∙ sym (ap (λ (o : Option ExtentPart). filter test (cons_option o (filter_map extent_part items))) is)

-- what those items say is what passes
pub told-within : (from to : Key) (test : ExtentPart → Bool) → Agrees from to test → (items : List Item)
    → filter_map extent_part (items_within from to items) ≡ filter test (filter_map extent_part items)
told-within from to test agrees [] = refl
told-within from to test agrees (item ∷ items) =
    one_more from to test agrees item items (told-within from to test agrees items) (extent_part item) refl

-- ---- the tests

is_at : (at : ℕ) (key : Key) (part : ExtentPart) → IsSaidBy key part → (key.objectid == at) ≡ (part_address part == at)
is_at at key (DataRecord address bytes extent) said = ap (λ (n : ℕ). n == at) said.0
is_at at key (NodeRecord address level extent) said = ap (λ (n : ℕ). n == at) said.0
is_at at key (Referenced address reference count) said = ap (λ (n : ℕ). n == at) said.0

-- the type of a part's item
record IsOfKind (key : Key) : Type 0 where
  low : 168 ≤ key.kind
  high : key.kind < 185

reference_kind : (key : Key) (reference : Reference) → IsReferenceBy key reference → (176 ≤ key.kind) × (key.kind < 185)
reference_kind key (KeyedBlock root) (kind, offset) = (omega (arith, kind), omega (arith, kind))
reference_kind key (KeyedData root ino offset) kind = (omega (arith, kind), omega (arith, kind))
reference_kind key (SharedBlock parent) (kind, offset) = (omega (arith, kind), omega (arith, kind))
reference_kind key (SharedData parent) (kind, offset) = (omega (arith, kind), omega (arith, kind))

part_kind : (key : Key) (part : ExtentPart) → IsSaidBy key part → IsOfKind key
part_kind key (DataRecord address bytes extent) (is, kind) =
    record { low = omega (arith, kind); high = omega (arith, kind) }
part_kind key (NodeRecord address level extent) (is, kind) =
    record { low = omega (arith, kind); high = omega (arith, kind) }
part_kind key (Referenced address reference count) (is, by) =
    let kinds = reference_kind key reference by in
    record { low = omega (arith, kinds.0); high = kinds.1 }

-- all parts of an address
pub agrees-at : (at : ℕ) → Agrees (first_at at) (end_at at) (λ part. part_address part == at)
agrees-at at key part said =
    let kind = part_kind key part said in
    within-kinds at 168 185 key kind.low kind.high ∙ is_at at key part said

-- what is told of an address
pub told-address : (at : ℕ) (items : List Item)
    → filter_map extent_part (items_within (first_at at) (end_at at) items) ≡ told_at at items
told-address at items = told-within (first_at at) (end_at at) (λ part. part_address part == at) (agrees-at at) items

and_true : (b : Bool) → (b && true) ≡ b
and_true true = refl
and_true false = refl

and_false : (b : Bool) → (b && false) ≡ false
and_false true = refl
and_false false = refl

-- its records
abbrev pub is_record_at : ℕ → ExtentPart → Bool
is_record_at at part = (part_address part == at) && is_record part

agrees_records : (at : ℕ) → Agrees (first_at at) (records_end at) (is_record_at at)
agrees_records at key (DataRecord address bytes extent) (is, kind) =
    within-kinds at 168 170 key (omega (arith, kind)) (omega (arith, kind)) ∙ ap (λ (n : ℕ). n == at) is
    ∙ sym (and_true (address == at))
agrees_records at key (NodeRecord address level extent) (is, kind) =
    within-kinds at 168 170 key (omega (arith, kind)) (omega (arith, kind)) ∙ ap (λ (n : ℕ). n == at) is
    ∙ sym (and_true (address == at))
agrees_records at key (Referenced address reference count) (is, by) =
    let kinds = reference_kind key reference by in
    above-kinds at 168 170 key (omega (arith, kinds.0)) ∙ sym (and_false (address == at))

-- a filter of a filter
both_more : (p q : ExtentPart → Bool) (part : ExtentPart) (parts : List ExtentPart)
    → filter (λ part. p part && q part) parts ≡ filter q (filter p parts) → (a b : Bool) → q part ≡ b
    → cond (a && b) (part ∷ filter (λ x. p x && q x) parts) (filter (λ x. p x && q x) parts)
    ≡ filter q (cond a (part ∷ filter p parts) (filter p parts))
both_more p q part parts rest true true is = rw is (ap (λ (xs : List ExtentPart). part ∷ xs) rest)
both_more p q part parts rest true false is = rw is rest
both_more p q part parts rest false b is = rest

filter_both : (p q : ExtentPart → Bool) (parts : List ExtentPart)
    → filter (λ part. p part && q part) parts ≡ filter q (filter p parts)
filter_both p q [] = refl
filter_both p q (part ∷ parts) = both_more p q part parts (filter_both p q parts) (p part) (q part) refl

pub told-records : (at : ℕ) (items : List Item)
    → filter_map extent_part (items_within (first_at at) (records_end at) items)
    ≡ filter is_record (told_at at items)
told-records at items =
    told-within (first_at at) (records_end at) (is_record_at at) (agrees_records at) items
    ∙ filter_both (λ part. part_address part == at) is_record (filter_map extent_part items)

-- its references
agrees_ones : (at : ℕ) → Agrees (references_begin at) (end_at at) (λ part. (part_address part == at) && tells_one part)
agrees_ones at key (DataRecord address bytes extent) (is, kind) =
    below-kinds at 176 185 key (omega (arith, kind)) ∙ sym (and_false (address == at))
agrees_ones at key (NodeRecord address level extent) (is, kind) =
    below-kinds at 176 185 key (omega (arith, kind)) ∙ sym (and_false (address == at))
agrees_ones at key (Referenced address reference count) (is, by) =
    let kinds = reference_kind key reference by in
    within-kinds at 176 185 key kinds.0 kinds.1 ∙ ap (λ (n : ℕ). n == at) is ∙ sym (and_true (address == at))

pub told-references : (at : ℕ) (items : List Item)
    → filter_map extent_part (items_within (references_begin at) (end_at at) items)
    ≡ filter tells_one (told_at at items)
told-references at items =
    told-within (references_begin at) (end_at at) (λ part. (part_address part == at) && tells_one part)
    (agrees_ones at) items
    ∙ filter_both (λ part. part_address part == at) tells_one (filter_map extent_part items)

-- ---- the items of a reference

-- a part that tells a reference to an address; where it is an EXTENT_DATA_REF, any one
abbrev may_be : Reference → Reference → Bool
may_be (KeyedData root ino offset) (KeyedData root' ino' offset') = true
may_be (KeyedData root ino offset) (KeyedBlock root') = false
may_be (KeyedData root ino offset) (SharedBlock parent') = false
may_be (KeyedData root ino offset) (SharedData parent') = false
may_be (KeyedBlock root) other = same_reference (KeyedBlock root) other
may_be (SharedBlock parent) other = same_reference (SharedBlock parent) other
may_be (SharedData parent) other = same_reference (SharedData parent) other

abbrev pub may_tell : Reference → ExtentPart → Bool
may_tell reference (DataRecord address bytes extent) = false
may_tell reference (NodeRecord address level extent) = false
may_tell reference (Referenced address other count) = may_be reference other

abbrev pub may_tell_at : ℕ → Reference → ExtentPart → Bool
may_tell_at at reference part = (part_address part == at) && may_tell reference part

-- a key of one type is another's where address and offset are the same
one_key : (at kind offset : ℕ) (key : Key) → key.kind ≡ kind
    → same_key key (key_with at kind offset) ≡ ((key.objectid == at) && (key.offset == offset))
one_key at kind offset key is = rw (eq-eqb key.kind kind is) (here (key.objectid == at) (key.offset == offset)) where
  here : (a b : Bool) → (a && true && b) ≡ (a && b)
  here true b = refl
  here false b = refl

other_key : (at kind offset : ℕ) (key : Key) → (key.kind ≡ kind → ⊥) → same_key key (key_with at kind offset) ≡ false
other_key at kind offset key differ = rw (ne_eqb key.kind kind differ)
    (here (key.objectid == at) (key.offset == offset)) where
      here : (a b : Bool) → (a && false && b) ≡ false
      here true b = refl
      here false b = refl

eqb_flip : (a b : ℕ) → (a == b) ≡ (b == a)
eqb_flip a b = elim (cases_Bool (a == b)) [
  | inl same ↦ same ∙ sym (eq-eqb b a (sym (eqb-true a b same)))
  | inr differ ↦ differ ∙ sym (ne_eqb b a (λ is. eqb-false a b differ (sym is)))
]

-- what an item of the same type names is in its key
same_kind : (at kind n m address : ℕ) (key : Key) → key.objectid ≡ address → key.kind ≡ kind → key.offset ≡ m
    → is_within (key_with at kind n) (key_with at kind n) key ≡ ((address == at) && (n == m))
same_kind at kind n m address key is same offset =
    within-one (key_with at kind n) key ∙ one_key at kind n key same
    ∙ ap (λ (x : ℕ). (x == at) && (key.offset == n)) is
    ∙ ap (λ (x : ℕ). (address == at) && (x == n)) offset
    ∙ ap (λ (b : Bool). (address == at) && b) (eqb_flip m n)

-- and one of another type is not it
other_kind : (at kind n address : ℕ) (key : Key) → (key.kind ≡ kind → ⊥)
    → is_within (key_with at kind n) (key_with at kind n) key ≡ ((address == at) && false)
other_kind at kind n address key differ =
    within-one (key_with at kind n) key ∙ other_key at kind n key differ ∙ sym (and_false (address == at))

kinds_differ : (a b k : ℕ) → k ≡ b → ((a == b) ≡ false) → k ≡ a → ⊥
kinds_differ a b k is differ that = eqb-false a b differ (sym that ∙ is)

agrees_reference : (at : ℕ) (reference : Reference)
    → Agrees (reference_from at reference) (reference_to at reference) (may_tell_at at reference)
agrees_reference at (KeyedBlock root) key (DataRecord address bytes extent) (is, kind) =
    other_kind at 176 root address key (kinds_differ 176 168 key.kind kind refl)
agrees_reference at (KeyedBlock root) key (NodeRecord address level extent) (is, kind) =
    other_kind at 176 root address key (kinds_differ 176 169 key.kind kind refl)
agrees_reference at (KeyedBlock root) key (Referenced address (KeyedBlock r) count) (is, (kind, offset)) =
    same_kind at 176 root r address key is kind offset
agrees_reference at (KeyedBlock root) key (Referenced address (KeyedData r i o) count) (is, kind) =
    other_kind at 176 root address key (kinds_differ 176 178 key.kind kind refl)
agrees_reference at (KeyedBlock root) key (Referenced address (SharedBlock p) count) (is, (kind, offset)) =
    other_kind at 176 root address key (kinds_differ 176 182 key.kind kind refl)
agrees_reference at (KeyedBlock root) key (Referenced address (SharedData p) count) (is, (kind, offset)) =
    other_kind at 176 root address key (kinds_differ 176 184 key.kind kind refl)
agrees_reference at (SharedBlock parent) key (DataRecord address bytes extent) (is, kind) =
    other_kind at 182 parent address key (kinds_differ 182 168 key.kind kind refl)
agrees_reference at (SharedBlock parent) key (NodeRecord address level extent) (is, kind) =
    other_kind at 182 parent address key (kinds_differ 182 169 key.kind kind refl)
agrees_reference at (SharedBlock parent) key (Referenced address (KeyedBlock r) count) (is, (kind, offset)) =
    other_kind at 182 parent address key (kinds_differ 182 176 key.kind kind refl)
agrees_reference at (SharedBlock parent) key (Referenced address (KeyedData r i o) count) (is, kind) =
    other_kind at 182 parent address key (kinds_differ 182 178 key.kind kind refl)
agrees_reference at (SharedBlock parent) key (Referenced address (SharedBlock p) count) (is, (kind, offset)) =
    same_kind at 182 parent p address key is kind offset
agrees_reference at (SharedBlock parent) key (Referenced address (SharedData p) count) (is, (kind, offset)) =
    other_kind at 182 parent address key (kinds_differ 182 184 key.kind kind refl)
agrees_reference at (SharedData parent) key (DataRecord address bytes extent) (is, kind) =
    other_kind at 184 parent address key (kinds_differ 184 168 key.kind kind refl)
agrees_reference at (SharedData parent) key (NodeRecord address level extent) (is, kind) =
    other_kind at 184 parent address key (kinds_differ 184 169 key.kind kind refl)
agrees_reference at (SharedData parent) key (Referenced address (KeyedBlock r) count) (is, (kind, offset)) =
    other_kind at 184 parent address key (kinds_differ 184 176 key.kind kind refl)
agrees_reference at (SharedData parent) key (Referenced address (KeyedData r i o) count) (is, kind) =
    other_kind at 184 parent address key (kinds_differ 184 178 key.kind kind refl)
agrees_reference at (SharedData parent) key (Referenced address (SharedBlock p) count) (is, (kind, offset)) =
    other_kind at 184 parent address key (kinds_differ 184 182 key.kind kind refl)
agrees_reference at (SharedData parent) key (Referenced address (SharedData p) count) (is, (kind, offset)) =
    same_kind at 184 parent p address key is kind offset
agrees_reference at (KeyedData root ino off) key (DataRecord address bytes extent) (is, kind) =
    below-kinds at 178 179 key (omega (arith, kind)) ∙ sym (and_false (address == at))
agrees_reference at (KeyedData root ino off) key (NodeRecord address level extent) (is, kind) =
    below-kinds at 178 179 key (omega (arith, kind)) ∙ sym (and_false (address == at))
agrees_reference at (KeyedData root ino off) key (Referenced address (KeyedBlock r) count) (is, (kind, offset)) =
    below-kinds at 178 179 key (omega (arith, kind)) ∙ sym (and_false (address == at))
agrees_reference at (KeyedData root ino off) key (Referenced address (KeyedData r i o) count) (is, kind) =
    within-kinds at 178 179 key (omega (arith, kind)) (omega (arith, kind)) ∙ ap (λ (n : ℕ). n == at) is
    ∙ sym (and_true (address == at))
agrees_reference at (KeyedData root ino off) key (Referenced address (SharedBlock p) count) (is, (kind, offset)) =
    above-kinds at 178 179 key (omega (arith, kind)) ∙ sym (and_false (address == at))
agrees_reference at (KeyedData root ino off) key (Referenced address (SharedData p) count) (is, (kind, offset)) =
    above-kinds at 178 179 key (omega (arith, kind)) ∙ sym (and_false (address == at))

pub told-reference : (at : ℕ) (reference : Reference) (items : List Item)
    → filter_map extent_part (items_within (reference_from at reference) (reference_to at reference) items)
    ≡ filter (may_tell reference) (told_at at items)
told-reference at reference items =
    told-within (reference_from at reference) (reference_to at reference) (may_tell_at at reference)
    (agrees_reference at reference) items
    ∙ filter_both (λ part. part_address part == at) (may_tell reference) (filter_map extent_part items)

-- ---- how many there are

says_more : (item : Item) (items : List Item) → is_some (extent_part item) ≡ true
    → length (filter_map extent_part items) ≡ length items → (o : Option ExtentPart) → extent_part item ≡ o → (b : Bool)
    → length (filter_map extent_part (cond b (item ∷ items) items)) ≡ length (cond b (item ∷ items) items)
says_more item items some rest None is b = let none = sym (ap (λ (o : Option ExtentPart). is_some o) is) ∙ some in
    absurd cc
says_more item items some rest (Some part) is true = rw is (ap (λ (n : ℕ). suc n) rest)
says_more item items some rest (Some part) is false = rest

within_says : (from to : Key) (items : List Item) → EachSays items
    → length (filter_map extent_part (items_within from to items)) ≡ length (items_within from to items)
within_says from to [] each = refl
within_says from to (item ∷ items) each =
    let parts = and_parts (is_some (extent_part item)) (list_all (λ (x : Item). is_some (extent_part x)) items) each in
    says_more item (items_within from to items) parts.0 (within_says from to items parts.1) (extent_part item) refl
    (is_within from to item.key)

-- items from one key to another are as many as the parts that they say
pub count-said : (from to : Key) (items : List Item) (parts : List ExtentPart)
    → filter_map extent_part (items_within from to items) ≡ parts → EachSays items
    → length (items_within from to items) ≡ length parts
count-said from to items parts is each =
    sym (within_says from to items each) ∙ ap (λ (xs : List ExtentPart). length xs) is

few_more : (part : ExtentPart) (xs ys : List ExtentPart) → length xs ≤ length ys → (b : Bool)
    → length (cond b (part ∷ xs) xs) ≤ length (part ∷ ys)
few_more part xs ys rest true = omega (arith, rest)
few_more part xs ys rest false = omega (arith, rest)

pub filter-few : (test : ExtentPart → Bool) (parts : List ExtentPart) → length (filter test parts) ≤ length parts
filter-few test [] = omega arith
filter-few test (part ∷ parts) = few_more part (filter test parts) parts (filter-few test parts) (test part)
