-- The bodies of a subvolume's items: bytes that are read are so spelled, and what is so spelled is read.
use Rattle.std.proofs.Common.{◌≡◌, ℕ, ◌+◌, ◌-◌, ◌≤◌, true, List, [], ◌∷◌, ◌++◌, length, take, drop, Some, refl, subst}
use Rattle.std.proofs.Common.{ap, ◌∙◌, arith}
use Rattle.std.specs.Prelude.{◌==◌, ◌&&◌, slice_index}
use Rattle.std.proofs.lemmas.Bool.{and_parts, eqb-true}
use Rattle.qg_num.specs.Fields.{IsBytes, u16_bytes, u64_bytes, u64_at, is_zero, zeros}
use Rattle.qg_num.proofs.Numbers.{u64_at-lt, u64_at-u64_bytes}
use Rattle.qg_num.proofs.Standing.{Stands, Stands-first, Stands-second, Stands-then, Stands-whole, byte_stands}
use Rattle.qg_num.proofs.Standing.{zeros_stand, u64_stands}
use Rattle.qg_items.specs.declared.file.InodeItem.{InodeItem}
use Rattle.qg_items.specs.declared.file.ExtentData.{ExtentData}
use Rattle.qg_items.specs.ItemText.{inode_text, extent_data_text}
use Rattle.qg_items.specs.ItemReading.{inode_read, extent_data_read}
use Rattle.qg_items.specs.Laws.{InodeFits, ExtentDataFits, RoundTrips}
use Rattle.qg_items.proofs.Trips.{then_some_parts, round_trips}

-- ---- INODE_ITEM

abbrev inode_in : List ℕ → InodeItem
inode_in bytes = record {
  generation = u64_at 0 bytes;
  transid = u64_at 8 bytes;
  size = u64_at 16 bytes;
  nbytes = u64_at 24 bytes;
}

pub inode_text-from_fields : (bytes : List ℕ) → IsBytes bytes → length bytes ≡ 160 → is_zero 32 160 bytes ≡ true
    → bytes ≡ inode_text (inode_in bytes)
unfolding inode_text
inode_text-from_fields bytes are long rest =
    let u64 : (a : ℕ) → a + 8 ≤ 160 → Stands bytes a (a + 8) (u64_bytes (u64_at a bytes)) =
    λ a within. u64_stands bytes a are (omega arith) in
    let gap : (a b : ℕ) → a ≤ b → b ≤ 160 → is_zero a b bytes ≡ true → Stands bytes a b (zeros (b - a)) =
    λ a b order within zero. zeros_stand bytes a b order (omega arith) zero in
    let to_2 = Stands-then (u64 0 (omega arith)) (u64 8 (omega arith)) in
    let to_3 = Stands-then to_2 (u64 16 (omega arith)) in
    let to_4 = Stands-then to_3 (u64 24 (omega arith)) in
    let to_5 = Stands-then to_4 (gap 32 160 (omega arith) (omega arith) rest) in
    Stands-whole to_5 long

inode_read_parts : (bytes : List ℕ) (inode : InodeItem) → inode_read bytes ≡ Some inode
    → (length bytes ≡ 160) × (is_zero 32 160 bytes ≡ true) × (inode_in bytes ≡ inode)
unfolding inode_read
inode_read_parts bytes inode read =
    let parts = then_some_parts ((length bytes == 160) && is_zero 32 160 bytes) (inode_in bytes) inode read in
    let tests = and_parts (length bytes == 160) (is_zero 32 160 bytes) parts.0 in
    (eqb-true (length bytes) 160 tests.0, tests.1, parts.1)

pub inode_text-from_read : (bytes : List ℕ) (inode : InodeItem) → IsBytes bytes → inode_read bytes ≡ Some inode
    → bytes ≡ inode_text inode
inode_text-from_read bytes inode are read =
    let parts = inode_read_parts bytes inode read in
    inode_text-from_fields bytes are parts.0 parts.1 ∙ ap inode_text parts.2

pub InodeFits-from_read : (bytes : List ℕ) (inode : InodeItem) → IsBytes bytes → inode_read bytes ≡ Some inode
    → InodeFits inode
InodeFits-from_read bytes inode are read =
    subst InodeFits (inode_read_parts bytes inode read).2
    (record {
      generation = u64_at-lt 0 bytes are;
      transid = u64_at-lt 8 bytes are;
      size = u64_at-lt 16 bytes are;
      nbytes = u64_at-lt 24 bytes are;
    })

same_inode : (a b : InodeItem) → a.generation ≡ b.generation → a.transid ≡ b.transid → a.size ≡ b.size
    → a.nbytes ≡ b.nbytes → a ≡ b
same_inode a b generation transid size nbytes =
    let same : ◌≡◌ {A = InodeItem} (record {
      generation = a.generation;
      transid = a.transid;
      size = a.size;
      nbytes = a.nbytes;
    }) (record {
      generation = b.generation;
      transid = b.transid;
      size = b.size;
      nbytes = b.nbytes;
    }) = cc in
    same

inode_in-inode_text : (inode : InodeItem) → InodeFits inode → inode_in (inode_text inode) ≡ inode
unfolding inode_text u64_bytes
inode_in-inode_text inode fits =
    let text = inode_text inode in
    same_inode (inode_in text) inode
    (u64_at-u64_bytes 0 inode.generation (take 0 text) (drop 8 text) refl fits.generation)
    (u64_at-u64_bytes 8 inode.transid (take 8 text) (drop 16 text) refl fits.transid)
    (u64_at-u64_bytes 16 inode.size (take 16 text) (drop 24 text) refl fits.size)
    (u64_at-u64_bytes 24 inode.nbytes (take 24 text) (drop 32 text) refl fits.nbytes)

pub length-inode_text : (inode : InodeItem) → length (inode_text inode) ≡ 160
unfolding inode_text u64_bytes
length-inode_text inode = refl

rest-inode_text : (inode : InodeItem) → is_zero 32 160 (inode_text inode) ≡ true
unfolding inode_text u64_bytes
rest-inode_text inode = refl

pub inode_read-inode_text : (inode : InodeItem) → InodeFits inode → inode_read (inode_text inode) ≡ Some inode
unfolding inode_read
inode_read-inode_text inode fits = rw (length-inode_text inode, rest-inode_text inode, inode_in-inode_text inode fits)
    refl

pub inode_trips : RoundTrips InodeFits inode_text inode_read
inode_trips = round_trips InodeFits inode_text inode_read inode_read-inode_text inode_text-from_read InodeFits-from_read

-- ---- EXTENT_DATA

abbrev extent_data_in : List ℕ → ExtentData
extent_data_in bytes = record {
  generation = u64_at 0 bytes;
  ram_bytes = u64_at 8 bytes;
  disk_bytenr = u64_at 21 bytes;
  disk_num_bytes = u64_at 29 bytes;
  offset = u64_at 37 bytes;
  num_bytes = u64_at 45 bytes;
}

pub extent_data_text-from_fields : (bytes : List ℕ) → IsBytes bytes → length bytes ≡ 53
    → is_zero 16 20 bytes ≡ true → slice_index bytes 20 ≡ 1
    → bytes ≡ extent_data_text (extent_data_in bytes)
unfolding extent_data_text u16_bytes
extent_data_text-from_fields bytes are long plain regular =
    let u64 : (a : ℕ) → a + 8 ≤ 53 → Stands bytes a (a + 8) (u64_bytes (u64_at a bytes)) =
    λ a within. u64_stands bytes a are (omega arith) in
    let plain_zeros : Stands bytes 16 20 ((0 ∷ 0 ∷ []) ++ (0 ∷ 0 ∷ [])) =
    zeros_stand bytes 16 20 (omega arith) (omega arith) plain in
    let kind : Stands bytes 20 21 (1 ∷ []) = rw regular at (byte_stands bytes 20 (omega arith)) in
    let to_2 = Stands-then (u64 0 (omega arith)) (u64 8 (omega arith)) in
    let to_3 = Stands-then to_2 (Stands-first 18 (0 ∷ 0 ∷ []) (0 ∷ 0 ∷ []) refl plain_zeros) in
    let to_4 = Stands-then to_3 (Stands-second 18 (0 ∷ 0 ∷ []) (0 ∷ 0 ∷ []) refl plain_zeros) in
    let to_5 = Stands-then to_4 kind in
    let to_6 = Stands-then to_5 (u64 21 (omega arith)) in
    let to_7 = Stands-then to_6 (u64 29 (omega arith)) in
    let to_8 = Stands-then to_7 (u64 37 (omega arith)) in
    let to_9 = Stands-then to_8 (u64 45 (omega arith)) in
    Stands-whole to_9 long

extent_data_read_parts : (bytes : List ℕ) (piece : ExtentData) → extent_data_read bytes ≡ Some piece
    → (length bytes ≡ 53) × (is_zero 16 20 bytes ≡ true) × (slice_index bytes 20 ≡ 1) × (extent_data_in bytes ≡ piece)
unfolding extent_data_read
extent_data_read_parts bytes piece read =
    let parts = then_some_parts ((length bytes == 53) && is_zero 16 20 bytes && (slice_index bytes 20 == 1))
    (extent_data_in bytes) piece read in
    let tests_2 = and_parts ((length bytes == 53) && is_zero 16 20 bytes) (slice_index bytes 20 == 1) parts.0 in
    let tests_1 = and_parts (length bytes == 53) (is_zero 16 20 bytes) tests_2.0 in
    (eqb-true (length bytes) 53 tests_1.0, tests_1.1, eqb-true (slice_index bytes 20) 1 tests_2.1, parts.1)

pub extent_data_text-from_read : (bytes : List ℕ) (piece : ExtentData) → IsBytes bytes
    → extent_data_read bytes ≡ Some piece → bytes ≡ extent_data_text piece
extent_data_text-from_read bytes piece are read =
    let parts = extent_data_read_parts bytes piece read in
    extent_data_text-from_fields bytes are parts.0 parts.1 parts.2 ∙ ap extent_data_text parts.3

pub ExtentDataFits-from_read : (bytes : List ℕ) (piece : ExtentData) → IsBytes bytes
    → extent_data_read bytes ≡ Some piece → ExtentDataFits piece
ExtentDataFits-from_read bytes piece are read =
    subst ExtentDataFits (extent_data_read_parts bytes piece read).3
    (record {
      generation = u64_at-lt 0 bytes are;
      ram_bytes = u64_at-lt 8 bytes are;
      disk_bytenr = u64_at-lt 21 bytes are;
      disk_num_bytes = u64_at-lt 29 bytes are;
      offset = u64_at-lt 37 bytes are;
      num_bytes = u64_at-lt 45 bytes are;
    })

same_extent_data : (a b : ExtentData) → a.generation ≡ b.generation → a.ram_bytes ≡ b.ram_bytes
    → a.disk_bytenr ≡ b.disk_bytenr → a.disk_num_bytes ≡ b.disk_num_bytes → a.offset ≡ b.offset
    → a.num_bytes ≡ b.num_bytes → a ≡ b
same_extent_data a b generation ram_bytes disk_bytenr disk_num_bytes offset num_bytes =
    let same : ◌≡◌ {A = ExtentData} (record {
      generation = a.generation;
      ram_bytes = a.ram_bytes;
      disk_bytenr = a.disk_bytenr;
      disk_num_bytes = a.disk_num_bytes;
      offset = a.offset;
      num_bytes = a.num_bytes;
    })
    (record {
      generation = b.generation;
      ram_bytes = b.ram_bytes;
      disk_bytenr = b.disk_bytenr;
      disk_num_bytes = b.disk_num_bytes;
      offset = b.offset;
      num_bytes = b.num_bytes;
    }) = cc in
    same

extent_data_in-extent_data_text : (piece : ExtentData) → ExtentDataFits piece
    → extent_data_in (extent_data_text piece) ≡ piece
unfolding extent_data_text u64_bytes u16_bytes
extent_data_in-extent_data_text piece fits =
    let text = extent_data_text piece in
    same_extent_data (extent_data_in text) piece
    (u64_at-u64_bytes 0 piece.generation (take 0 text) (drop 8 text) refl fits.generation)
    (u64_at-u64_bytes 8 piece.ram_bytes (take 8 text) (drop 16 text) refl fits.ram_bytes)
    (u64_at-u64_bytes 21 piece.disk_bytenr (take 21 text) (drop 29 text) refl fits.disk_bytenr)
    (u64_at-u64_bytes 29 piece.disk_num_bytes (take 29 text) (drop 37 text) refl fits.disk_num_bytes)
    (u64_at-u64_bytes 37 piece.offset (take 37 text) (drop 45 text) refl fits.offset)
    (u64_at-u64_bytes 45 piece.num_bytes (take 45 text) (drop 53 text) refl fits.num_bytes)

pub length-extent_data_text : (piece : ExtentData) → length (extent_data_text piece) ≡ 53
unfolding extent_data_text u64_bytes u16_bytes
length-extent_data_text piece = refl

plain-extent_data_text : (piece : ExtentData) → is_zero 16 20 (extent_data_text piece) ≡ true
unfolding extent_data_text u64_bytes u16_bytes
plain-extent_data_text piece = refl

regular-extent_data_text : (piece : ExtentData) → slice_index (extent_data_text piece) 20 ≡ 1
unfolding extent_data_text u64_bytes u16_bytes
regular-extent_data_text piece = refl

pub extent_data_read-extent_data_text : (piece : ExtentData) → ExtentDataFits piece
    → extent_data_read (extent_data_text piece) ≡ Some piece
unfolding extent_data_read
extent_data_read-extent_data_text piece fits =
    rw (
      length-extent_data_text piece,
      plain-extent_data_text piece,
      regular-extent_data_text piece,
      extent_data_in-extent_data_text piece fits,
    ) refl

pub extent_data_trips : RoundTrips ExtentDataFits extent_data_text extent_data_read
extent_data_trips = round_trips ExtentDataFits extent_data_text extent_data_read extent_data_read-extent_data_text
    extent_data_text-from_read ExtentDataFits-from_read
