-- The bodies of the extent tree's items: bytes that are read are so spelled, and what is so spelled is read.
use Rattle.std.proofs.Common.{◌≡◌, ℕ, ◌+◌, ◌≤◌, List, [], length, take, drop, Some, refl, subst, ap, ◌∙◌, arith}
use Rattle.std.specs.Prelude.{◌==◌}
use Rattle.std.proofs.lemmas.Bool.{eqb-true}
use Rattle.qg_num.specs.Fields.{IsBytes, u32_bytes, u64_bytes, u32_at, u64_at}
use Rattle.qg_num.proofs.Numbers.{u32_at-lt, u32_at-u32_bytes, u64_at-lt, u64_at-u64_bytes}
use Rattle.qg_num.proofs.Standing.{Stands, Stands-then, Stands-whole, u32_stands, u64_stands}
use Rattle.qg_items.specs.declared.extent.ExtentItem.{ExtentItem}
use Rattle.qg_items.specs.declared.extent.ExtentDataRef.{ExtentDataRef}
use Rattle.qg_items.specs.declared.extent.SharedDataRef.{SharedDataRef}
use Rattle.qg_items.specs.ItemText.{extent_text, data_ref_text, shared_data_ref_text}
use Rattle.qg_items.specs.ItemReading.{extent_read, data_ref_read, shared_data_ref_read}
use Rattle.qg_items.specs.Laws.{ExtentFits, DataRefFits, SharedDataRefFits, RoundTrips}
use Rattle.qg_items.proofs.Trips.{then_some_parts, round_trips}

-- ---- EXTENT_ITEM

abbrev extent_in : List ℕ → ExtentItem
extent_in bytes = record { refs = u64_at 0 bytes; generation = u64_at 8 bytes; flags = u64_at 16 bytes }

pub extent_text-from_fields : (bytes : List ℕ) → IsBytes bytes → length bytes ≡ 24
    → bytes ≡ extent_text (extent_in bytes)
unfolding extent_text
extent_text-from_fields bytes are long =
    let u64 : (a : ℕ) → a + 8 ≤ 24 → Stands bytes a (a + 8) (u64_bytes (u64_at a bytes)) =
    λ a within. u64_stands bytes a are (omega arith) in
    let to_2 = Stands-then (u64 0 (omega arith)) (u64 8 (omega arith)) in
    let to_3 = Stands-then to_2 (u64 16 (omega arith)) in
    Stands-whole to_3 long

extent_read_parts : (bytes : List ℕ) (extent : ExtentItem) → extent_read bytes ≡ Some extent
    → (length bytes ≡ 24) × (extent_in bytes ≡ extent)
unfolding extent_read
extent_read_parts bytes extent read =
    let parts = then_some_parts (length bytes == 24) (extent_in bytes) extent read in
    (eqb-true (length bytes) 24 parts.0, parts.1)

pub extent_text-from_read : (bytes : List ℕ) (extent : ExtentItem) → IsBytes bytes → extent_read bytes ≡ Some extent
    → bytes ≡ extent_text extent
extent_text-from_read bytes extent are read =
    let parts = extent_read_parts bytes extent read in
    extent_text-from_fields bytes are parts.0 ∙ ap extent_text parts.1

pub ExtentFits-from_read : (bytes : List ℕ) (extent : ExtentItem) → IsBytes bytes → extent_read bytes ≡ Some extent
    → ExtentFits extent
ExtentFits-from_read bytes extent are read =
    subst ExtentFits (extent_read_parts bytes extent read).1
    (record { refs = u64_at-lt 0 bytes are; generation = u64_at-lt 8 bytes are; flags = u64_at-lt 16 bytes are })

same_extent : (a b : ExtentItem) → a.refs ≡ b.refs → a.generation ≡ b.generation → a.flags ≡ b.flags → a ≡ b
same_extent a b refs generation flags =
    let same : ◌≡◌ {A = ExtentItem} (record { refs = a.refs; generation = a.generation; flags = a.flags })
    (record { refs = b.refs; generation = b.generation; flags = b.flags }) = cc in
    same

extent_in-extent_text : (extent : ExtentItem) → ExtentFits extent → extent_in (extent_text extent) ≡ extent
unfolding extent_text u64_bytes
extent_in-extent_text extent fits =
    let text = extent_text extent in
    same_extent (extent_in text) extent
    (u64_at-u64_bytes 0 extent.refs (take 0 text) (drop 8 text) refl fits.refs)
    (u64_at-u64_bytes 8 extent.generation (take 8 text) (drop 16 text) refl fits.generation)
    (u64_at-u64_bytes 16 extent.flags (take 16 text) (drop 24 text) refl fits.flags)

pub length-extent_text : (extent : ExtentItem) → length (extent_text extent) ≡ 24
unfolding extent_text u64_bytes
length-extent_text extent = refl

pub extent_read-extent_text : (extent : ExtentItem) → ExtentFits extent → extent_read (extent_text extent) ≡ Some extent
unfolding extent_read
extent_read-extent_text extent fits = rw (length-extent_text extent, extent_in-extent_text extent fits) refl

pub extent_trips : RoundTrips ExtentFits extent_text extent_read
extent_trips = round_trips ExtentFits extent_text extent_read extent_read-extent_text extent_text-from_read
    ExtentFits-from_read

-- ---- EXTENT_DATA_REF

abbrev data_ref_in : List ℕ → ExtentDataRef
data_ref_in bytes = record {
  root = u64_at 0 bytes;
  objectid = u64_at 8 bytes;
  offset = u64_at 16 bytes;
  count = u32_at 24 bytes;
}

pub data_ref_text-from_fields : (bytes : List ℕ) → IsBytes bytes → length bytes ≡ 28
    → bytes ≡ data_ref_text (data_ref_in bytes)
unfolding data_ref_text
data_ref_text-from_fields bytes are long =
    let u64 : (a : ℕ) → a + 8 ≤ 28 → Stands bytes a (a + 8) (u64_bytes (u64_at a bytes)) =
    λ a within. u64_stands bytes a are (omega arith) in
    let u32 : (a : ℕ) → a + 4 ≤ 28 → Stands bytes a (a + 4) (u32_bytes (u32_at a bytes)) =
    λ a within. u32_stands bytes a are (omega arith) in
    let to_2 = Stands-then (u64 0 (omega arith)) (u64 8 (omega arith)) in
    let to_3 = Stands-then to_2 (u64 16 (omega arith)) in
    let to_4 = Stands-then to_3 (u32 24 (omega arith)) in
    Stands-whole to_4 long

data_ref_read_parts : (bytes : List ℕ) (reference : ExtentDataRef) → data_ref_read bytes ≡ Some reference
    → (length bytes ≡ 28) × (data_ref_in bytes ≡ reference)
unfolding data_ref_read
data_ref_read_parts bytes reference read =
    let parts = then_some_parts (length bytes == 28) (data_ref_in bytes) reference read in
    (eqb-true (length bytes) 28 parts.0, parts.1)

pub data_ref_text-from_read : (bytes : List ℕ) (reference : ExtentDataRef) → IsBytes bytes
    → data_ref_read bytes ≡ Some reference → bytes ≡ data_ref_text reference
data_ref_text-from_read bytes reference are read =
    let parts = data_ref_read_parts bytes reference read in
    data_ref_text-from_fields bytes are parts.0 ∙ ap data_ref_text parts.1

pub DataRefFits-from_read : (bytes : List ℕ) (reference : ExtentDataRef) → IsBytes bytes
    → data_ref_read bytes ≡ Some reference → DataRefFits reference
DataRefFits-from_read bytes reference are read =
    subst DataRefFits (data_ref_read_parts bytes reference read).1
    (record {
      root = u64_at-lt 0 bytes are;
      objectid = u64_at-lt 8 bytes are;
      offset = u64_at-lt 16 bytes are;
      count = u32_at-lt 24 bytes are;
    })

same_data_ref : (a b : ExtentDataRef) → a.root ≡ b.root → a.objectid ≡ b.objectid → a.offset ≡ b.offset
    → a.count ≡ b.count → a ≡ b
same_data_ref a b root objectid offset count =
    let same : ◌≡◌ {A = ExtentDataRef} (record {
      root = a.root;
      objectid = a.objectid;
      offset = a.offset;
      count = a.count;
    }) (record { root = b.root; objectid = b.objectid; offset = b.offset; count = b.count }) = cc in
    same

data_ref_in-data_ref_text : (reference : ExtentDataRef) → DataRefFits reference
    → data_ref_in (data_ref_text reference) ≡ reference
unfolding data_ref_text u64_bytes u32_bytes
data_ref_in-data_ref_text reference fits =
    let text = data_ref_text reference in
    same_data_ref (data_ref_in text) reference
    (u64_at-u64_bytes 0 reference.root (take 0 text) (drop 8 text) refl fits.root)
    (u64_at-u64_bytes 8 reference.objectid (take 8 text) (drop 16 text) refl fits.objectid)
    (u64_at-u64_bytes 16 reference.offset (take 16 text) (drop 24 text) refl fits.offset)
    (u32_at-u32_bytes 24 reference.count (take 24 text) (drop 28 text) refl fits.count)

pub length-data_ref_text : (reference : ExtentDataRef) → length (data_ref_text reference) ≡ 28
unfolding data_ref_text u64_bytes u32_bytes
length-data_ref_text reference = refl

pub data_ref_read-data_ref_text : (reference : ExtentDataRef) → DataRefFits reference
    → data_ref_read (data_ref_text reference) ≡ Some reference
unfolding data_ref_read
data_ref_read-data_ref_text reference fits =
    rw (length-data_ref_text reference, data_ref_in-data_ref_text reference fits) refl

pub data_ref_trips : RoundTrips DataRefFits data_ref_text data_ref_read
data_ref_trips = round_trips DataRefFits data_ref_text data_ref_read data_ref_read-data_ref_text data_ref_text-from_read
    DataRefFits-from_read

-- ---- SHARED_DATA_REF

abbrev shared_data_ref_in : List ℕ → SharedDataRef
shared_data_ref_in bytes = record { count = u32_at 0 bytes }

pub shared_data_ref_text-from_fields : (bytes : List ℕ) → IsBytes bytes → length bytes ≡ 4
    → bytes ≡ shared_data_ref_text (shared_data_ref_in bytes)
unfolding shared_data_ref_text
shared_data_ref_text-from_fields bytes are long =
    let u32 : (a : ℕ) → a + 4 ≤ 4 → Stands bytes a (a + 4) (u32_bytes (u32_at a bytes)) =
    λ a within. u32_stands bytes a are (omega arith) in
    Stands-whole (u32 0 (omega arith)) long

shared_data_ref_read_parts : (bytes : List ℕ) (reference : SharedDataRef) → shared_data_ref_read bytes ≡ Some reference
    → (length bytes ≡ 4) × (shared_data_ref_in bytes ≡ reference)
unfolding shared_data_ref_read
shared_data_ref_read_parts bytes reference read =
    let parts = then_some_parts (length bytes == 4) (shared_data_ref_in bytes) reference read in
    (eqb-true (length bytes) 4 parts.0, parts.1)

pub shared_data_ref_text-from_read : (bytes : List ℕ) (reference : SharedDataRef) → IsBytes bytes
    → shared_data_ref_read bytes ≡ Some reference → bytes ≡ shared_data_ref_text reference
shared_data_ref_text-from_read bytes reference are read =
    let parts = shared_data_ref_read_parts bytes reference read in
    shared_data_ref_text-from_fields bytes are parts.0 ∙ ap shared_data_ref_text parts.1

pub SharedDataRefFits-from_read : (bytes : List ℕ) (reference : SharedDataRef) → IsBytes bytes
    → shared_data_ref_read bytes ≡ Some reference → SharedDataRefFits reference
SharedDataRefFits-from_read bytes reference are read =
    subst SharedDataRefFits (shared_data_ref_read_parts bytes reference read).1
    (record { count = u32_at-lt 0 bytes are })

shared_data_ref_in-shared_data_ref_text : (reference : SharedDataRef) → SharedDataRefFits reference
    → shared_data_ref_in (shared_data_ref_text reference) ≡ reference
unfolding shared_data_ref_text u32_bytes
shared_data_ref_in-shared_data_ref_text reference fits =
    let count : u32_at 0 (shared_data_ref_text reference) ≡ reference.count =
    u32_at-u32_bytes 0 reference.count [] [] refl fits.count in
    let same : ◌≡◌ {A = SharedDataRef} (record { count = u32_at 0 (shared_data_ref_text reference) })
    (record { count = reference.count }) = ap (λ (n : ℕ). record { count = n }) count in
    same

pub length-shared_data_ref_text : (reference : SharedDataRef) → length (shared_data_ref_text reference) ≡ 4
unfolding shared_data_ref_text u32_bytes
length-shared_data_ref_text reference = refl

pub shared_data_ref_read-shared_data_ref_text : (reference : SharedDataRef) → SharedDataRefFits reference
    → shared_data_ref_read (shared_data_ref_text reference) ≡ Some reference
unfolding shared_data_ref_read
shared_data_ref_read-shared_data_ref_text reference fits =
    rw (length-shared_data_ref_text reference, shared_data_ref_in-shared_data_ref_text reference fits) refl

pub shared_data_ref_trips : RoundTrips SharedDataRefFits shared_data_ref_text shared_data_ref_read
shared_data_ref_trips = round_trips SharedDataRefFits shared_data_ref_text shared_data_ref_read
    shared_data_ref_read-shared_data_ref_text shared_data_ref_text-from_read SharedDataRefFits-from_read
