-- The body of a ROOT_ITEM: bytes that are read are so spelled, and what is so spelled is read.
use Rattle.std.proofs.Common.{◌≡◌, ℕ, ◌+◌, ◌-◌, ◌≤◌, true, List, length, take, drop, Some, refl, subst, ap, ◌∙◌, arith}
use Rattle.std.specs.Prelude.{◌==◌, ◌&&◌, slice_index}
use Rattle.std.proofs.lemmas.Bool.{and_parts, eqb-true}
use Rattle.qg_num.specs.Fields.{IsBytes, u32_bytes, u64_bytes, u32_at, u64_at, is_zero, zeros}
use Rattle.qg_num.proofs.Numbers.{u32_at-lt, u32_at-u32_bytes, u64_at-lt, u64_at-u64_bytes}
use Rattle.qg_num.proofs.Standing.{Stands, Stands-then, Stands-whole, byte_stands, zeros_stand, u32_stands, u64_stands}
use Rattle.qg_items.specs.declared.root.RootItem.{RootItem}
use Rattle.qg_items.specs.ItemText.{root_text}
use Rattle.qg_items.specs.ItemReading.{root_read}
use Rattle.qg_items.specs.Laws.{RootFits, RoundTrips}
use Rattle.qg_items.proofs.Trips.{then_some_parts, round_trips}

-- ---- ROOT_ITEM

abbrev root_in : List ℕ → RootItem
root_in bytes = record {
  generation = u64_at 160 bytes;
  bytenr = u64_at 176 bytes;
  last_snapshot = u64_at 200 bytes;
  refs = u32_at 216 bytes;
  level = slice_index bytes 238;
}

pub root_text-from_fields : (bytes : List ℕ) → IsBytes bytes → length bytes ≡ 439
    → is_zero 0 160 bytes ≡ true → is_zero 168 176 bytes ≡ true → is_zero 184 200 bytes ≡ true
    → is_zero 208 216 bytes ≡ true → is_zero 220 238 bytes ≡ true → is_zero 239 439 bytes ≡ true
    → bytes ≡ root_text (root_in bytes)
unfolding root_text
root_text-from_fields bytes are long front before_bytenr before_last_snapshot before_refs before_level rest =
    let u64 : (a : ℕ) → a + 8 ≤ 439 → Stands bytes a (a + 8) (u64_bytes (u64_at a bytes)) =
    λ a within. u64_stands bytes a are (omega arith) in
    let u32 : (a : ℕ) → a + 4 ≤ 439 → Stands bytes a (a + 4) (u32_bytes (u32_at a bytes)) =
    λ a within. u32_stands bytes a are (omega arith) in
    let gap : (a b : ℕ) → a ≤ b → b ≤ 439 → is_zero a b bytes ≡ true → Stands bytes a b (zeros (b - a)) =
    λ a b order within zero. zeros_stand bytes a b order (omega arith) zero in
    let to_2 = Stands-then (gap 0 160 (omega arith) (omega arith) front) (u64 160 (omega arith)) in
    let to_3 = Stands-then to_2 (gap 168 176 (omega arith) (omega arith) before_bytenr) in
    let to_4 = Stands-then to_3 (u64 176 (omega arith)) in
    let to_5 = Stands-then to_4 (gap 184 200 (omega arith) (omega arith) before_last_snapshot) in
    let to_6 = Stands-then to_5 (u64 200 (omega arith)) in
    let to_7 = Stands-then to_6 (gap 208 216 (omega arith) (omega arith) before_refs) in
    let to_8 = Stands-then to_7 (u32 216 (omega arith)) in
    let to_9 = Stands-then to_8 (gap 220 238 (omega arith) (omega arith) before_level) in
    let to_10 = Stands-then to_9 (byte_stands bytes 238 (omega arith)) in
    let to_11 = Stands-then to_10 (gap 239 439 (omega arith) (omega arith) rest) in
    Stands-whole to_11 long

root_read_parts : (bytes : List ℕ) (root : RootItem) → root_read bytes ≡ Some root
    → (length bytes ≡ 439) × (is_zero 0 160 bytes ≡ true) × (is_zero 168 176 bytes ≡ true)
    × (is_zero 184 200 bytes ≡ true) × (is_zero 208 216 bytes ≡ true) × (is_zero 220 238 bytes ≡ true)
    × (is_zero 239 439 bytes ≡ true) × (root_in bytes ≡ root)
unfolding root_read
root_read_parts bytes root read =
    let parts = then_some_parts ((length bytes == 439) && is_zero 0 160 bytes && is_zero 168 176 bytes
    && is_zero 184 200 bytes && is_zero 208 216 bytes && is_zero 220 238 bytes && is_zero 239 439 bytes)
    (root_in bytes) root read in
    let tests_6 = and_parts ((length bytes == 439) && is_zero 0 160 bytes && is_zero 168 176 bytes
    && is_zero 184 200 bytes && is_zero 208 216 bytes && is_zero 220 238 bytes) (is_zero 239 439 bytes) parts.0 in
    let tests_5 = and_parts ((length bytes == 439) && is_zero 0 160 bytes && is_zero 168 176 bytes
    && is_zero 184 200 bytes && is_zero 208 216 bytes) (is_zero 220 238 bytes) tests_6.0 in
    let tests_4 = and_parts ((length bytes == 439) && is_zero 0 160 bytes && is_zero 168 176 bytes
    && is_zero 184 200 bytes) (is_zero 208 216 bytes) tests_5.0 in
    let tests_3 = and_parts ((length bytes == 439) && is_zero 0 160 bytes && is_zero 168 176 bytes)
    (is_zero 184 200 bytes) tests_4.0 in
    let tests_2 = and_parts ((length bytes == 439) && is_zero 0 160 bytes) (is_zero 168 176 bytes) tests_3.0 in
    let tests_1 = and_parts (length bytes == 439) (is_zero 0 160 bytes) tests_2.0 in
    (eqb-true (length bytes) 439 tests_1.0, tests_1.1, tests_2.1, tests_3.1, tests_4.1, tests_5.1, tests_6.1, parts.1)

pub root_text-from_read : (bytes : List ℕ) (root : RootItem) → IsBytes bytes → root_read bytes ≡ Some root
    → bytes ≡ root_text root
root_text-from_read bytes root are read =
    let parts = root_read_parts bytes root read in
    root_text-from_fields bytes are parts.0 parts.1 parts.2 parts.3 parts.4 parts.5 parts.6 ∙ ap root_text parts.7

pub RootFits-from_read : (bytes : List ℕ) (root : RootItem) → IsBytes bytes → root_read bytes ≡ Some root
    → RootFits root
RootFits-from_read bytes root are read =
    subst RootFits (root_read_parts bytes root read).7
    (record {
      generation = u64_at-lt 160 bytes are;
      bytenr = u64_at-lt 176 bytes are;
      last_snapshot = u64_at-lt 200 bytes are;
      refs = u32_at-lt 216 bytes are;
      level = are 238;
    })

same_root : (a b : RootItem) → a.generation ≡ b.generation → a.bytenr ≡ b.bytenr → a.last_snapshot ≡ b.last_snapshot
    → a.refs ≡ b.refs → a.level ≡ b.level → a ≡ b
same_root a b generation bytenr last_snapshot refs level =
    let same : ◌≡◌ {A = RootItem} (record {
      generation = a.generation;
      bytenr = a.bytenr;
      last_snapshot = a.last_snapshot;
      refs = a.refs;
      level = a.level;
    })
    (record {
      generation = b.generation;
      bytenr = b.bytenr;
      last_snapshot = b.last_snapshot;
      refs = b.refs;
      level = b.level;
    }) = cc in
    same

root_in-root_text : (root : RootItem) → RootFits root → root_in (root_text root) ≡ root
unfolding root_text u64_bytes u32_bytes
root_in-root_text root fits =
    let text = root_text root in
    same_root (root_in text) root
    (u64_at-u64_bytes 160 root.generation (take 160 text) (drop 168 text) refl fits.generation)
    (u64_at-u64_bytes 176 root.bytenr (take 176 text) (drop 184 text) refl fits.bytenr)
    (u64_at-u64_bytes 200 root.last_snapshot (take 200 text) (drop 208 text) refl fits.last_snapshot)
    (u32_at-u32_bytes 216 root.refs (take 216 text) (drop 220 text) refl fits.refs)
    refl

pub length-root_text : (root : RootItem) → length (root_text root) ≡ 439
unfolding root_text u64_bytes u32_bytes
length-root_text root = refl

front-root_text : (root : RootItem) → is_zero 0 160 (root_text root) ≡ true
unfolding root_text u64_bytes u32_bytes
front-root_text root = refl

before_bytenr-root_text : (root : RootItem) → is_zero 168 176 (root_text root) ≡ true
unfolding root_text u64_bytes u32_bytes
before_bytenr-root_text root = refl

before_last_snapshot-root_text : (root : RootItem) → is_zero 184 200 (root_text root) ≡ true
unfolding root_text u64_bytes u32_bytes
before_last_snapshot-root_text root = refl

before_refs-root_text : (root : RootItem) → is_zero 208 216 (root_text root) ≡ true
unfolding root_text u64_bytes u32_bytes
before_refs-root_text root = refl

before_level-root_text : (root : RootItem) → is_zero 220 238 (root_text root) ≡ true
unfolding root_text u64_bytes u32_bytes
before_level-root_text root = refl

rest-root_text : (root : RootItem) → is_zero 239 439 (root_text root) ≡ true
unfolding root_text u64_bytes u32_bytes
rest-root_text root = refl

pub root_read-root_text : (root : RootItem) → RootFits root → root_read (root_text root) ≡ Some root
unfolding root_read
root_read-root_text root fits =
    rw (
      length-root_text root,
      front-root_text root,
      before_bytenr-root_text root,
      before_last_snapshot-root_text root,
      before_refs-root_text root,
      before_level-root_text root,
      rest-root_text root,
      root_in-root_text root fits,
    ) refl

pub root_trips : RoundTrips RootFits root_text root_read
root_trips = round_trips RootFits root_text root_read root_read-root_text root_text-from_read RootFits-from_read
