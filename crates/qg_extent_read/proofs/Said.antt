-- What an item of the extent tree says: by which key, in how many bytes, and of which generation.
use Rattle.std.proofs.Common.{◌≡◌, ℕ, ◌-◌, ◌≤◌, ◌^◌, true, false, Bool, List, [], ◌∷◌, length, Option, Some, None}
use Rattle.std.proofs.Common.{refl, sym, ap, subst, ◌∙◌, arith}
use Rattle.std.specs.Prelude.{◌==◌, ◌&&◌, nat_le}
use Rattle.std.specs.Bool.{then_some}
use Rattle.std.specs.Option.{option_map}
use Rattle.std.proofs.lemmas.Bool.{and_from, and_parts, eqb-true, le-leb}
use Rattle.std.proofs.lemmas.Option.{none-some, same_Some}
use Rattle.qg_num.specs.Fields.{IsBytes, u64_at}
use Rattle.qg_num.specs.declared.key.Key.{Key}
use Rattle.qg_num.proofs.Numbers.{u64_at-lt}
use Rattle.qg_node.specs.declared.item.Item.{Item}
use Rattle.qg_items.specs.ItemReading.{data_ref_read, extent_read, shared_data_ref_read}
use Rattle.qg_items.specs.declared.extent.ExtentDataRef.{ExtentDataRef}
use Rattle.qg_items.specs.declared.extent.ExtentItem.{ExtentItem}
use Rattle.qg_items.specs.declared.extent.SharedDataRef.{SharedDataRef}
use Rattle.qg_items.specs.declared.extent.Reference.{Reference}
use Rattle.qg_items.specs.declared.extent.Reference.TheVariants.{KeyedBlock, SharedBlock, KeyedData, SharedData}
use Rattle.qg_items.specs.declared.kind.TheConstants.{EXTENT_ITEM, METADATA_ITEM, TREE_BLOCK_REF, EXTENT_DATA_REF}
use Rattle.qg_items.specs.declared.kind.TheConstants.{SHARED_BLOCK_REF, SHARED_DATA_REF}
use Rattle.qg_tree_items.specs.ItemMeaning.{◌orelse◌, extent_part, extent_part_stamps, some_passes, when}
use Rattle.qg_tree_items.specs.Types.{ExtentPart, Extents}
use Rattle.qg_tree_items.specs.Types.{DataRecord, NodeRecord, Referenced}
use Rattle.qg_tree_items.specs.Walk.{are_by, is_item_of}

-- ---- alternatives

when_some : {A P : Type 0} (b : Bool) (o : Option A) (x : A) → when b o ≡ Some x → (b ≡ true → o ≡ Some x → P) → P
when_some true o x is then = then refl is
when_some false o x is then = absurd (none-some x is)

or_some : {A P : Type 0} (a b : Option A) (x : A) → (a orelse b) ≡ Some x → (a ≡ Some x → P) → (b ≡ Some x → P) → P
or_some None b x is first second = second is
or_some (Some y) b x is first second = first is

map_some : {A B P : Type 0} (f : A → B) (o : Option A) (y : B) → option_map f o ≡ Some y
    → ((x : A) → o ≡ Some x → f x ≡ y → P) → P
map_some f None y is then = absurd (none-some y is)
map_some f (Some x) y is then = then x refl (same_Some (f x) y is)

read_some : {A : Type 0} (b : Bool) (x y : A) → then_some b x ≡ Some y → (b ≡ true) × (x ≡ y)
read_some true x y is = (refl, same_Some x y is)
read_some false x y is = absurd (none-some y is)

-- ---- bodies

record IsRecordBody (body : List ℕ) (extent : ExtentItem) : Type 0 where
  long : length body ≡ 24
  dated : extent.generation ≡ u64_at 8 body

record_body : (body : List ℕ) (extent : ExtentItem) → extent_read body ≡ Some extent → IsRecordBody body extent
unfolding extent_read
record_body body extent is =
    let parts = read_some (length body == 24) _ extent is in
    record {
      long = eqb-true (length body) 24 parts.0;
      dated = sym (ap (λ (e : ExtentItem). e.generation) parts.1);
    }

keyed_body : (body : List ℕ) (keyed : ExtentDataRef) → data_ref_read body ≡ Some keyed → length body ≡ 28
unfolding data_ref_read
keyed_body body keyed is = eqb-true (length body) 28 (read_some (length body == 28) _ keyed is).0

shared_body : (body : List ℕ) (shared : SharedDataRef) → shared_data_ref_read body ≡ Some shared → length body ≡ 4
unfolding shared_data_ref_read
shared_body body shared is = eqb-true (length body) 4 (read_some (length body == 4) _ shared is).0

-- ---- an item

-- the type and the offset of the key under which a reference stands
abbrev pub IsReferenceBy : Key → Reference → Type 0
IsReferenceBy key (KeyedBlock root) = (key.kind ≡ 176) × (key.offset ≡ root)
IsReferenceBy key (KeyedData root ino offset) = key.kind ≡ 178
IsReferenceBy key (SharedBlock parent) = (key.kind ≡ 182) × (key.offset ≡ parent)
IsReferenceBy key (SharedData parent) = (key.kind ≡ 184) × (key.offset ≡ parent)

-- a part is said under a key
abbrev pub IsSaidBy : Key → ExtentPart → Type 0
IsSaidBy key (DataRecord address bytes extent) = (key.objectid ≡ address) × (key.kind ≡ 168)
IsSaidBy key (NodeRecord address level extent) = (key.objectid ≡ address) × (key.kind ≡ 169)
IsSaidBy key (Referenced address reference count) = (key.objectid ≡ address) × IsReferenceBy key reference

-- an item says a part
pub record Says (item : Item) (part : ExtentPart) : Type 0 where
  pub keyed : IsSaidBy item.key part
  pub short : length item.body ≤ 28
  pub dated : IsBytes item.body → are_by (2 ^ 64 - 1) (extent_part_stamps part) ≡ true

low_stamp : (body : List ℕ) (stamp : ℕ) → stamp ≡ u64_at 8 body → IsBytes body → are_by (2 ^ 64 - 1) (stamp ∷ []) ≡ true
low_stamp body stamp is bytes =
    let low = u64_at-lt 8 body bytes in
    let upto : stamp ≤ 2 ^ 64 - 1 = omega (arith, low, is) in
    and_from (nat_le stamp (2 ^ 64 - 1)) true (le-leb stamp (2 ^ 64 - 1) upto) refl

says_record : (item : Item) (part : ExtentPart) (extent : ExtentItem) → extent_read item.body ≡ Some extent
    → IsSaidBy item.key part → extent_part_stamps part ≡ extent.generation ∷ [] → Says item part
says_record item part extent read keyed stamps =
    let body = record_body item.body extent read in
    let long = body.long in
    record {
      keyed = keyed;
      short = omega (arith, long);
      dated = λ bytes. ap (are_by (2 ^ 64 - 1)) stamps ∙ low_stamp item.body extent.generation body.dated bytes;
    }

says_data : (item : Item) (part : ExtentPart) → item.key.kind ≡ 168
    → option_map (DataRecord item.key.objectid item.key.offset) (extent_read item.body) ≡ Some part → Says item part
says_data item part kind is =
    map_some (DataRecord item.key.objectid item.key.offset) (extent_read item.body) part is (λ extent read that.
    subst (λ (p : ExtentPart). Says item p) that
    (says_record item (DataRecord item.key.objectid item.key.offset extent) extent read (refl, kind) refl))

says_node : (item : Item) (part : ExtentPart) → item.key.kind ≡ 169
    → option_map (NodeRecord item.key.objectid item.key.offset) (extent_read item.body) ≡ Some part → Says item part
says_node item part kind is =
    map_some (NodeRecord item.key.objectid item.key.offset) (extent_read item.body) part is (λ extent read that.
    subst (λ (p : ExtentPart). Says item p) that
    (says_record item (NodeRecord item.key.objectid item.key.offset extent) extent read (refl, kind) refl))

says_block : (item : Item) (part : ExtentPart) (reference : Reference) → length item.body ≡ 0
    → IsReferenceBy item.key reference → Some (Referenced item.key.objectid reference 1) ≡ Some part → Says item part
says_block item part reference empty keyed is =
    subst (λ (p : ExtentPart). Says item p) (same_Some (Referenced item.key.objectid reference 1) part is)
    (let made : Says item (Referenced item.key.objectid reference 1) =
    record { keyed = (refl, keyed); short = omega (arith, empty); dated = λ bytes. refl } in made)

says_keyed : (item : Item) (part : ExtentPart) → item.key.kind ≡ 178
    → option_map (λ keyed. Referenced item.key.objectid (KeyedData keyed.root keyed.objectid keyed.offset) keyed.count)
    (data_ref_read item.body) ≡ Some part → Says item part
says_keyed item part kind is =
    map_some (λ (keyed : ExtentDataRef).
    Referenced item.key.objectid (KeyedData keyed.root keyed.objectid keyed.offset) keyed.count)
    (data_ref_read item.body) part is (λ keyed read that.
    let long = keyed_body item.body keyed read in
    let made : Says item (Referenced item.key.objectid (KeyedData keyed.root keyed.objectid keyed.offset) keyed.count) =
    record { keyed = (refl, kind); short = omega (arith, long); dated = λ bytes. refl } in
    subst (λ (p : ExtentPart). Says item p) that made)

says_shared : (item : Item) (part : ExtentPart) → item.key.kind ≡ 184
    → option_map (λ shared. Referenced item.key.objectid (SharedData item.key.offset) shared.count)
    (shared_data_ref_read item.body) ≡ Some part → Says item part
says_shared item part kind is =
    map_some (λ (shared : SharedDataRef). Referenced item.key.objectid (SharedData item.key.offset) shared.count)
    (shared_data_ref_read item.body) part is (λ shared read that.
    let long = shared_body item.body shared read in
    let made : Says item (Referenced item.key.objectid (SharedData item.key.offset) shared.count) =
    record { keyed = (refl, (kind, refl)); short = omega (arith, long); dated = λ bytes. refl } in
    subst (λ (p : ExtentPart). Says item p) that made)

block_parts : (item : Item) (kind : ℕ) → ((item.key.kind == kind) && (length item.body == 0)) ≡ true
    → (item.key.kind ≡ kind) × (length item.body ≡ 0)
block_parts item kind is =
    let parts = and_parts (item.key.kind == kind) (length item.body == 0) is in
    (eqb-true item.key.kind kind parts.0, eqb-true (length item.body) 0 parts.1)

pub says : (item : Item) (part : ExtentPart) → extent_part item ≡ Some part → Says item part
unfolding extent_part
says item part is =
    or_some _ _ part is
    (λ here. when_some (item.key.kind == EXTENT_ITEM) _ part here (λ kind read.
    says_data item part (eqb-true item.key.kind EXTENT_ITEM kind) read))
    (λ rest. or_some _ _ part rest
    (λ here. when_some (item.key.kind == METADATA_ITEM) _ part here (λ kind read.
    says_node item part (eqb-true item.key.kind METADATA_ITEM kind) read))
    (λ rest. or_some _ _ part rest
    (λ here. when_some ((item.key.kind == TREE_BLOCK_REF) && (length item.body == 0)) _ part here (λ test read.
    let parts = block_parts item TREE_BLOCK_REF test in
    says_block item part (KeyedBlock item.key.offset) parts.1 (parts.0, refl) read))
    (λ rest. or_some _ _ part rest
    (λ here. when_some ((item.key.kind == SHARED_BLOCK_REF) && (length item.body == 0)) _ part here (λ test read.
    let parts = block_parts item SHARED_BLOCK_REF test in
    says_block item part (SharedBlock item.key.offset) parts.1 (parts.0, refl) read))
    (λ rest. or_some _ _ part rest
    (λ here. when_some (item.key.kind == EXTENT_DATA_REF) _ part here (λ kind read.
    says_keyed item part (eqb-true item.key.kind EXTENT_DATA_REF kind) read))
    (λ here. when_some (item.key.kind == SHARED_DATA_REF) _ part here (λ kind read.
    says_shared item part (eqb-true item.key.kind SHARED_DATA_REF kind) read))))))

-- ---- what the tree may hold in an image of the greatest generation

passes_when : (o : Option ExtentPart) → ((part : ExtentPart) → o ≡ Some part
    → are_by (2 ^ 64 - 1) (extent_part_stamps part) ≡ true)
    → when (some_passes (λ part. are_by (2 ^ 64 - 1) (extent_part_stamps part)) o) o ≡ o
passes_when None each = refl
passes_when (Some part) each = rw (each part refl) refl

-- an item whose body is bytes says all that it says
pub said-any : (item : Item) → IsBytes item.body → when (is_item_of Extents (2 ^ 64 - 1) item) (extent_part item)
    ≡ extent_part item
unfolding is_item_of
said-any item bytes = passes_when (extent_part item) (λ part is. (says item part is).dated bytes)
