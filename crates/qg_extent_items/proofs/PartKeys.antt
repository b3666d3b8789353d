-- Which key an item of the extent tree has by what it says.
use Rattle.std.proofs.Common.{◌≡◌, ℕ, Bool, true, false, Option, Some, None, refl, sym, ap, subst, ◌∙◌, arith, eq-eqb}
use Rattle.std.specs.Prelude.{◌&&◌, ◌==◌, length}
use Rattle.std.specs.Option.{option_map}
use Rattle.std.proofs.lemmas.Bool.{and_parts, eqb-true, true≢false}
use Rattle.std.proofs.lemmas.Option.{none-some, same_Some}
use Rattle.qg_num.specs.declared.key.Key.{Key}
use Rattle.qg_node.specs.declared.item.Item.{Item}
use Rattle.qg_items.specs.declared.kind.TheConstants.{EXTENT_ITEM, METADATA_ITEM, TREE_BLOCK_REF, EXTENT_DATA_REF}
use Rattle.qg_items.specs.declared.kind.TheConstants.{SHARED_BLOCK_REF, SHARED_DATA_REF}
use Rattle.qg_items.specs.declared.extent.ExtentItem.{ExtentItem}
use Rattle.qg_items.specs.declared.extent.Reference.{Reference}
use Rattle.qg_items.specs.declared.extent.Reference.TheVariants.{KeyedBlock, SharedBlock, KeyedData, SharedData}
use Rattle.qg_items.specs.ItemReading.{extent_read, data_ref_read, shared_data_ref_read}
use Rattle.qg_tree_items.specs.Types.{ExtentPart}
use Rattle.qg_tree_items.specs.Types.{DataRecord, NodeRecord, Referenced}
use Rattle.qg_tree_items.specs.ItemMeaning.{extent_part, when, ◌orelse◌}
use Rattle.qg_tree_items.specs.Keys.{key_with}
use Rattle.qg_tree_items.specs.Owed.{is_record, part_address}
use Rattle.qg_tree_items.specs.Record.{same_reference}
use Rattle.qg_refs.proofs.RankOrder.{same_reference_is, same_itself}
use Rattle.qg_extents.specs.declared.head.Head.{Head}
use Rattle.qg_extents.specs.Written.{extent_of_head, item_of_head, item_of_reference, record_item, record_part}
use Rattle.qg_extents.proofs.ItemsSaid.{flags_small, record_said}
use Rattle.qg_extent_items.specs.Laws.{HeadFits}
use Rattle.qg_extent_items.specs.Standing.{is_reference_to}

-- ---- the key of what is said

-- the key of a reference's item; an EXTENT_DATA_REF has this number in it
abbrev pub reference_key : ℕ → ℕ → Reference → Key
reference_key at number (KeyedBlock root) = key_with at TREE_BLOCK_REF root
reference_key at number (KeyedData root ino offset) = key_with at EXTENT_DATA_REF number
reference_key at number (SharedBlock parent) = key_with at SHARED_BLOCK_REF parent
reference_key at number (SharedData parent) = key_with at SHARED_DATA_REF parent

-- the key of the item that says this
abbrev pub part_key : ℕ → ExtentPart → Key
part_key number (DataRecord address bytes extent) = key_with address EXTENT_ITEM bytes
part_key number (NodeRecord address level extent) = key_with address METADATA_ITEM level
part_key number (Referenced address reference count) = reference_key address number reference

-- an item has the key of what it says
abbrev IsKeyed : Item → ExtentPart → Type 0
IsKeyed item part = item.key ≡ part_key item.key.offset part

-- ---- what alternatives tell

when_parts : {A : Type 0} (b : Bool) (o : Option A) (x : A) → when b o ≡ Some x → (b ≡ true) × (o ≡ Some x)
when_parts true o x is = (refl, is)
when_parts false o x is = absurd (none-some x is)

orelse_some : {A P : Type 0} (a b : Option A) (x : A) → (a orelse b) ≡ Some x → (a ≡ Some x → P) → (b ≡ Some x → P) → P
orelse_some None b x is first second = second is
orelse_some (Some y) b x is first second = first is

option_map_some : {A B P : Type 0} (f : A → B) (o : Option A) (y : B) → option_map f o ≡ Some y
    → ((x : A) → o ≡ Some x → f x ≡ y → P) → P
option_map_some f None y is then = absurd (none-some y is)
option_map_some f (Some x) y is then = then x refl (same_Some (f x) y is)

-- a key of this kind
kind_made : (item : Item) (kind : ℕ) → (item.key.kind == kind) ≡ true
    → item.key ≡ key_with item.key.objectid kind item.key.offset
kind_made item kind h =
    let is : item.key.kind ≡ kind = eqb-true item.key.kind kind h in
    λ i. record { objectid = item.key.objectid; kind = is i; offset = item.key.offset }

data_record : (item : Item) (part : ExtentPart)
    → when (item.key.kind == EXTENT_ITEM) (option_map (DataRecord item.key.objectid item.key.offset)
    (extent_read item.body)) ≡ Some part → IsKeyed item part
data_record item part h =
    let given = when_parts _ _ part h in
    option_map_some _ (extent_read item.body) part given.1
    (λ extent read is. subst (λ (p : ExtentPart). IsKeyed item p) is (kind_made item EXTENT_ITEM given.0))

node_record : (item : Item) (part : ExtentPart)
    → when (item.key.kind == METADATA_ITEM) (option_map (NodeRecord item.key.objectid item.key.offset)
    (extent_read item.body)) ≡ Some part → IsKeyed item part
node_record item part h =
    let given = when_parts _ _ part h in
    option_map_some _ (extent_read item.body) part given.1
    (λ extent read is. subst (λ (p : ExtentPart). IsKeyed item p) is (kind_made item METADATA_ITEM given.0))

keyed_block : (item : Item) (part : ExtentPart)
    → when ((item.key.kind == TREE_BLOCK_REF) && (length item.body == 0))
    (Some (Referenced item.key.objectid (KeyedBlock item.key.offset) 1)) ≡ Some part → IsKeyed item part
keyed_block item part h =
    let given = when_parts _ _ part h in
    subst (λ (p : ExtentPart). IsKeyed item p) (same_Some _ part given.1)
    (kind_made item TREE_BLOCK_REF (and_parts _ _ given.0).0)

shared_block : (item : Item) (part : ExtentPart)
    → when ((item.key.kind == SHARED_BLOCK_REF) && (length item.body == 0))
    (Some (Referenced item.key.objectid (SharedBlock item.key.offset) 1)) ≡ Some part → IsKeyed item part
shared_block item part h =
    let given = when_parts _ _ part h in
    subst (λ (p : ExtentPart). IsKeyed item p) (same_Some _ part given.1)
    (kind_made item SHARED_BLOCK_REF (and_parts _ _ given.0).0)

keyed_data : (item : Item) (part : ExtentPart)
    → when (item.key.kind == EXTENT_DATA_REF)
    (option_map (λ keyed. Referenced item.key.objectid (KeyedData keyed.root keyed.objectid keyed.offset) keyed.count)
    (data_ref_read item.body)) ≡ Some part → IsKeyed item part
keyed_data item part h =
    let given = when_parts _ _ part h in
    option_map_some _ (data_ref_read item.body) part given.1
    (λ keyed read is. subst (λ (p : ExtentPart). IsKeyed item p) is (kind_made item EXTENT_DATA_REF given.0))

shared_data : (item : Item) (part : ExtentPart)
    → when (item.key.kind == SHARED_DATA_REF)
    (option_map (λ shared. Referenced item.key.objectid (SharedData item.key.offset) shared.count)
    (shared_data_ref_read item.body)) ≡ Some part → IsKeyed item part
shared_data item part h =
    let given = when_parts _ _ part h in
    option_map_some _ (shared_data_ref_read item.body) part given.1
    (λ shared read is. subst (λ (p : ExtentPart). IsKeyed item p) is (kind_made item SHARED_DATA_REF given.0))

pub part-keyed : (item : Item) (part : ExtentPart) → extent_part item ≡ Some part
    → item.key ≡ part_key item.key.offset part
unfolding extent_part
part-keyed item part h =
    orelse_some _ _ part h (data_record item part)
    (λ second. orelse_some _ _ part second (node_record item part)
    (λ third. orelse_some _ _ part third (keyed_block item part)
    (λ fourth. orelse_some _ _ part fourth (shared_block item part)
    (λ fifth. orelse_some _ _ part fifth (keyed_data item part) (shared_data item part)))))

-- ---- addresses

reference_object : (at number : ℕ) (reference : Reference) → (reference_key at number reference).objectid ≡ at
reference_object at number (KeyedBlock root) = refl
reference_object at number (KeyedData root ino offset) = refl
reference_object at number (SharedBlock parent) = refl
reference_object at number (SharedData parent) = refl

part_object : (number : ℕ) (part : ExtentPart) → (part_key number part).objectid ≡ part_address part
part_object number (DataRecord address bytes extent) = refl
part_object number (NodeRecord address level extent) = refl
part_object number (Referenced address reference count) = reference_object address number reference

-- an item is at the address of what it says
pub part-address : (item : Item) (part : ExtentPart) → extent_part item ≡ Some part
    → item.key.objectid ≡ part_address part
part-address item part says =
    ap (λ (key : Key). key.objectid) (part-keyed item part says) ∙ part_object item.key.offset part

-- ---- the keys of items that are written

pub reference-key : (at number : ℕ) (reference : Reference) (count : ℕ)
    → (item_of_reference at number reference count).key ≡ reference_key at number reference
reference-key at number (KeyedBlock root) count = refl
reference-key at number (KeyedData root ino offset) count = refl
reference-key at number (SharedBlock parent) count = refl
reference-key at number (SharedData parent) count = refl

pub record-key : (at bytes : ℕ) (level : Option ℕ) (extent : ExtentItem) (number : ℕ)
    → (record_item at bytes level extent).key ≡ part_key number (record_part at bytes level extent)
record-key at bytes None extent number = refl
record-key at bytes (Some level) extent number = refl

-- records of so many bytes or of a level have one key, whatever else they tell
pub one-record-key : (at bytes : ℕ) (level : Option ℕ) (extent other : ExtentItem)
    → (record_item at bytes level extent).key ≡ (record_item at bytes level other).key
one-record-key at bytes None extent other = refl
one-record-key at bytes (Some level) extent other = refl

-- ---- what has such a key

-- a part with the key of a record at an address is one
pub is-record-key : (number other : ℕ) (part : ExtentPart) (at bytes : ℕ) (level : Option ℕ) (extent : ExtentItem)
    → part_key number part ≡ part_key other (record_part at bytes level extent)
    → (is_record part ≡ true) × (part_address part ≡ at)
is-record-key number other (DataRecord address bytes' extent') at bytes None extent same =
    (refl, ap (λ (key : Key). key.objectid) same)
is-record-key number other (DataRecord address bytes' extent') at bytes (Some level) extent same =
    (refl, ap (λ (key : Key). key.objectid) same)
is-record-key number other (NodeRecord address level' extent') at bytes None extent same =
    (refl, ap (λ (key : Key). key.objectid) same)
is-record-key number other (NodeRecord address level' extent') at bytes (Some level) extent same =
    (refl, ap (λ (key : Key). key.objectid) same)
is-record-key number other (Referenced address (KeyedBlock root) count) at bytes None extent same =
    absurd (omega (arith, ap (λ (key : Key). key.kind) same))
is-record-key number other (Referenced address (KeyedBlock root) count) at bytes (Some level) extent same =
    absurd (omega (arith, ap (λ (key : Key). key.kind) same))
is-record-key number other (Referenced address (KeyedData root ino offset) count) at bytes None extent same =
    absurd (omega (arith, ap (λ (key : Key). key.kind) same))
is-record-key number other (Referenced address (KeyedData root ino offset) count) at bytes (Some level) extent same =
    absurd (omega (arith, ap (λ (key : Key). key.kind) same))
is-record-key number other (Referenced address (SharedBlock parent) count) at bytes None extent same =
    absurd (omega (arith, ap (λ (key : Key). key.kind) same))
is-record-key number other (Referenced address (SharedBlock parent) count) at bytes (Some level) extent same =
    absurd (omega (arith, ap (λ (key : Key). key.kind) same))
is-record-key number other (Referenced address (SharedData parent) count) at bytes None extent same =
    absurd (omega (arith, ap (λ (key : Key). key.kind) same))
is-record-key number other (Referenced address (SharedData parent) count) at bytes (Some level) extent same =
    absurd (omega (arith, ap (λ (key : Key). key.kind) same))

-- a reference that has no number of its own in its key
abbrev pub HasNone : Reference → Type 0
HasNone (KeyedBlock root) = Unit {0}
HasNone (KeyedData root ino offset) = ⊥
HasNone (SharedBlock parent) = Unit {0}
HasNone (SharedData parent) = Unit {0}

both_same : (a b : ℕ) (x y : Reference) → a ≡ b → x ≡ y → ((a == b) && same_reference y x) ≡ true
both_same a b x y address is =
    ap (λ (n : ℕ). (n == b) && same_reference y x) address
    ∙ ap (λ (z : Reference). (b == b) && same_reference y z) is
    ∙ rw (eq-eqb b b refl, same_itself y) refl

-- a part with the key of one is that one
pub is-reference-key : (number other : ℕ) (part : ExtentPart) (at : ℕ) (reference : Reference) → HasNone reference
    → part_key number part ≡ reference_key at other reference → is_reference_to at reference part ≡ true
is-reference-key number other (Referenced address (KeyedBlock root') count) at (KeyedBlock root) none same =
    both_same address at (KeyedBlock root') (KeyedBlock root) (ap (λ (key : Key). key.objectid) same)
    (ap (λ (key : Key). KeyedBlock key.offset) same)
is-reference-key number other (Referenced address (SharedBlock parent') count) at (SharedBlock parent) none same =
    both_same address at (SharedBlock parent') (SharedBlock parent) (ap (λ (key : Key). key.objectid) same)
    (ap (λ (key : Key). SharedBlock key.offset) same)
is-reference-key number other (Referenced address (SharedData parent') count) at (SharedData parent) none same =
    both_same address at (SharedData parent') (SharedData parent) (ap (λ (key : Key). key.objectid) same)
    (ap (λ (key : Key). SharedData key.offset) same)
is-reference-key number other part at (KeyedData root ino offset) none same = absurd none
is-reference-key number other part at reference none same = absurd (omega (arith, ap (λ (key : Key). key.kind) same))

-- what is a reference to an address, is it
pub is-told : (at : ℕ) (reference : Reference) (part : ExtentPart) → is_reference_to at reference part ≡ true
    → (count : ℕ) × (part ≡ Referenced at reference count)
is-told at reference (DataRecord address bytes extent) is = absurd (true≢false (sym is))
is-told at reference (NodeRecord address level extent) is = absurd (true≢false (sym is))
is-told at reference (Referenced address told count) is =
    let parts = and_parts (address == at) (same_reference reference told) is in
    let place : address ≡ at = eqb-true address at parts.0 in
    let same : told ≡ reference = sym (same_reference_is reference told parts.1) in
    (count, (λ i. Referenced (place i) (same i) count))

pub told-is : (at : ℕ) (reference : Reference) (count : ℕ)
    → is_reference_to at reference (Referenced at reference count) ≡ true
told-is at reference count = rw (eq-eqb at at refl, same_itself reference) refl

-- ---- a record that is written

abbrev pub part_of_head : ℕ → Head → ExtentPart
part_of_head at head = record_part at head.what.bytes head.what.level (extent_of_head head)

pub head-said : (at : ℕ) (head : Head) → HeadFits head
    → extent_part (item_of_head at head) ≡ Some (part_of_head at head)
head-said at head fits =
    record_said at head.what.bytes head.what.level (extent_of_head head)
    (record { refs = fits.refs; generation = fits.generation; flags = flags_small head.what.level head.full })
