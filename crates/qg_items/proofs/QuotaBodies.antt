-- The bodies of the quota tree's items: bytes that are read are so spelled, and what is so spelled is read.
use Rattle.std.proofs.Common.{◌≡◌, ℕ, ◌+◌, ◌-◌, ◌≤◌, true, List, length, take, drop, Some, refl, subst, ap, ◌∙◌, arith}
use Rattle.std.specs.Prelude.{◌==◌, ◌&&◌}
use Rattle.std.proofs.lemmas.Bool.{and_parts, eqb-true}
use Rattle.qg_num.specs.Fields.{IsBytes, u64_bytes, u64_at, is_zero, zeros}
use Rattle.qg_num.proofs.Numbers.{u64_at-lt, u64_at-u64_bytes}
use Rattle.qg_num.proofs.Standing.{Stands, Stands-then, Stands-whole, zeros_stand, u64_stands}
use Rattle.qg_items.specs.declared.quota.QgroupStatus.{QgroupStatus}
use Rattle.qg_items.specs.declared.quota.QgroupInfo.{QgroupInfo}
use Rattle.qg_items.specs.declared.quota.QgroupLimit.{QgroupLimit}
use Rattle.qg_items.specs.ItemText.{status_text, info_text, limit_text}
use Rattle.qg_items.specs.ItemReading.{status_read, info_read, limit_read}
use Rattle.qg_items.specs.Laws.{StatusFits, InfoFits, LimitFits, RoundTrips}
use Rattle.qg_items.proofs.Trips.{then_some_parts, round_trips}

-- ---- QGROUP_STATUS

abbrev status_in : List ℕ → QgroupStatus
status_in bytes = record { generation = u64_at 8 bytes; flags = u64_at 16 bytes; cursor = u64_at 24 bytes }

pub status_text-from_fields : (bytes : List ℕ) → IsBytes bytes → length bytes ≡ 32 → u64_at 0 bytes ≡ 1
    → bytes ≡ status_text (status_in bytes)
unfolding status_text
status_text-from_fields bytes are long version =
    let u64 : (a : ℕ) → a + 8 ≤ 32 → Stands bytes a (a + 8) (u64_bytes (u64_at a bytes)) =
    λ a within. u64_stands bytes a are (omega arith) in
    let first : Stands bytes 0 8 (u64_bytes 1) = rw version at (u64 0 (omega arith)) in
    let to_2 = Stands-then first (u64 8 (omega arith)) in
    let to_3 = Stands-then to_2 (u64 16 (omega arith)) in
    let to_4 = Stands-then to_3 (u64 24 (omega arith)) in
    Stands-whole to_4 long

status_read_parts : (bytes : List ℕ) (status : QgroupStatus) → status_read bytes ≡ Some status
    → (length bytes ≡ 32) × (u64_at 0 bytes ≡ 1) × (status_in bytes ≡ status)
unfolding status_read
status_read_parts bytes status read =
    let parts = then_some_parts ((length bytes == 32) && (u64_at 0 bytes == 1)) (status_in bytes) status read in
    let tests = and_parts (length bytes == 32) (u64_at 0 bytes == 1) parts.0 in
    (eqb-true (length bytes) 32 tests.0, eqb-true (u64_at 0 bytes) 1 tests.1, parts.1)

pub status_text-from_read : (bytes : List ℕ) (status : QgroupStatus) → IsBytes bytes → status_read bytes ≡ Some status
    → bytes ≡ status_text status
status_text-from_read bytes status are read =
    let parts = status_read_parts bytes status read in
    status_text-from_fields bytes are parts.0 parts.1 ∙ ap status_text parts.2

pub StatusFits-from_read : (bytes : List ℕ) (status : QgroupStatus) → IsBytes bytes → status_read bytes ≡ Some status
    → StatusFits status
StatusFits-from_read bytes status are read =
    subst StatusFits (status_read_parts bytes status read).2
    (record { generation = u64_at-lt 8 bytes are; flags = u64_at-lt 16 bytes are; cursor = u64_at-lt 24 bytes are })

same_status : (a b : QgroupStatus) → a.generation ≡ b.generation → a.flags ≡ b.flags → a.cursor ≡ b.cursor → a ≡ b
same_status a b generation flags cursor =
    let same : ◌≡◌ {A = QgroupStatus} (record { generation = a.generation; flags = a.flags; cursor = a.cursor })
    (record { generation = b.generation; flags = b.flags; cursor = b.cursor }) = cc in
    same

status_in-status_text : (status : QgroupStatus) → StatusFits status → status_in (status_text status) ≡ status
unfolding status_text u64_bytes
status_in-status_text status fits =
    let text = status_text status in
    same_status (status_in text) status
    (u64_at-u64_bytes 8 status.generation (take 8 text) (drop 16 text) refl fits.generation)
    (u64_at-u64_bytes 16 status.flags (take 16 text) (drop 24 text) refl fits.flags)
    (u64_at-u64_bytes 24 status.cursor (take 24 text) (drop 32 text) refl fits.cursor)

pub length-status_text : (status : QgroupStatus) → length (status_text status) ≡ 32
unfolding status_text u64_bytes
length-status_text status = refl

version-status_text : (status : QgroupStatus) → u64_at 0 (status_text status) ≡ 1
unfolding status_text u64_bytes u64_at
version-status_text status = refl

pub status_read-status_text : (status : QgroupStatus) → StatusFits status
    → status_read (status_text status) ≡ Some status
unfolding status_read
status_read-status_text status fits =
    rw (length-status_text status, version-status_text status, status_in-status_text status fits) refl

pub status_trips : RoundTrips StatusFits status_text status_read
status_trips = round_trips StatusFits status_text status_read status_read-status_text status_text-from_read
    StatusFits-from_read

-- ---- QGROUP_INFO

abbrev info_in : List ℕ → QgroupInfo
info_in bytes = record {
  generation = u64_at 0 bytes;
  rfer = u64_at 8 bytes;
  rfer_cmpr = u64_at 16 bytes;
  excl = u64_at 24 bytes;
  excl_cmpr = u64_at 32 bytes;
}

pub info_text-from_fields : (bytes : List ℕ) → IsBytes bytes → length bytes ≡ 40 → bytes ≡ info_text (info_in bytes)
unfolding info_text
info_text-from_fields bytes are long =
    let u64 : (a : ℕ) → a + 8 ≤ 40 → Stands bytes a (a + 8) (u64_bytes (u64_at a bytes)) =
    λ a within. u64_stands bytes a are (omega arith) in
    let to_2 = Stands-then (u64 0 (omega arith)) (u64 8 (omega arith)) in
    let to_3 = Stands-then to_2 (u64 16 (omega arith)) in
    let to_4 = Stands-then to_3 (u64 24 (omega arith)) in
    let to_5 = Stands-then to_4 (u64 32 (omega arith)) in
    Stands-whole to_5 long

info_read_parts : (bytes : List ℕ) (info : QgroupInfo) → info_read bytes ≡ Some info
    → (length bytes ≡ 40) × (info_in bytes ≡ info)
unfolding info_read
info_read_parts bytes info read =
    let parts = then_some_parts (length bytes == 40) (info_in bytes) info read in
    (eqb-true (length bytes) 40 parts.0, parts.1)

pub info_text-from_read : (bytes : List ℕ) (info : QgroupInfo) → IsBytes bytes → info_read bytes ≡ Some info
    → bytes ≡ info_text info
info_text-from_read bytes info are read =
    let parts = info_read_parts bytes info read in
    info_text-from_fields bytes are parts.0 ∙ ap info_text parts.1

pub InfoFits-from_read : (bytes : List ℕ) (info : QgroupInfo) → IsBytes bytes → info_read bytes ≡ Some info
    → InfoFits info
InfoFits-from_read bytes info are read =
    subst InfoFits (info_read_parts bytes info read).1
    (record {
      generation = u64_at-lt 0 bytes are;
      rfer = u64_at-lt 8 bytes are;
      rfer_cmpr = u64_at-lt 16 bytes are;
      excl = u64_at-lt 24 bytes are;
      excl_cmpr = u64_at-lt 32 bytes are;
    })

same_info : (a b : QgroupInfo) → a.generation ≡ b.generation → a.rfer ≡ b.rfer → a.rfer_cmpr ≡ b.rfer_cmpr
    → a.excl ≡ b.excl → a.excl_cmpr ≡ b.excl_cmpr → a ≡ b
same_info a b generation rfer rfer_cmpr excl excl_cmpr =
    let same : ◌≡◌ {A = QgroupInfo} (record {
      generation = a.generation;
      rfer = a.rfer;
      rfer_cmpr = a.rfer_cmpr;
      excl = a.excl;
      excl_cmpr = a.excl_cmpr;
    }) (record {
      generation = b.generation;
      rfer = b.rfer;
      rfer_cmpr = b.rfer_cmpr;
      excl = b.excl;
      excl_cmpr = b.excl_cmpr;
    }) = cc in
    same

info_in-info_text : (info : QgroupInfo) → InfoFits info → info_in (info_text info) ≡ info
unfolding info_text u64_bytes
info_in-info_text info fits =
    let text = info_text info in
    same_info (info_in text) info
    (u64_at-u64_bytes 0 info.generation (take 0 text) (drop 8 text) refl fits.generation)
    (u64_at-u64_bytes 8 info.rfer (take 8 text) (drop 16 text) refl fits.rfer)
    (u64_at-u64_bytes 16 info.rfer_cmpr (take 16 text) (drop 24 text) refl fits.rfer_cmpr)
    (u64_at-u64_bytes 24 info.excl (take 24 text) (drop 32 text) refl fits.excl)
    (u64_at-u64_bytes 32 info.excl_cmpr (take 32 text) (drop 40 text) refl fits.excl_cmpr)

pub length-info_text : (info : QgroupInfo) → length (info_text info) ≡ 40
unfolding info_text u64_bytes
length-info_text info = refl

pub info_read-info_text : (info : QgroupInfo) → InfoFits info → info_read (info_text info) ≡ Some info
unfolding info_read
info_read-info_text info fits = rw (length-info_text info, info_in-info_text info fits) refl

pub info_trips : RoundTrips InfoFits info_text info_read
info_trips = round_trips InfoFits info_text info_read info_read-info_text info_text-from_read InfoFits-from_read

-- ---- QGROUP_LIMIT

abbrev limit_in : List ℕ → QgroupLimit
limit_in bytes = record { flags = u64_at 0 bytes; max_rfer = u64_at 8 bytes; max_excl = u64_at 16 bytes }

pub limit_text-from_fields : (bytes : List ℕ) → IsBytes bytes → length bytes ≡ 40 → is_zero 24 40 bytes ≡ true
    → bytes ≡ limit_text (limit_in bytes)
unfolding limit_text
limit_text-from_fields bytes are long rest =
    let u64 : (a : ℕ) → a + 8 ≤ 40 → Stands bytes a (a + 8) (u64_bytes (u64_at a bytes)) =
    λ a within. u64_stands bytes a are (omega arith) in
    let gap : (a b : ℕ) → a ≤ b → b ≤ 40 → is_zero a b bytes ≡ true → Stands bytes a b (zeros (b - a)) =
    λ a b order within zero. zeros_stand bytes a b order (omega arith) zero in
    let to_2 = Stands-then (u64 0 (omega arith)) (u64 8 (omega arith)) in
    let to_3 = Stands-then to_2 (u64 16 (omega arith)) in
    let to_4 = Stands-then to_3 (gap 24 40 (omega arith) (omega arith) rest) in
    Stands-whole to_4 long

limit_read_parts : (bytes : List ℕ) (limit : QgroupLimit) → limit_read bytes ≡ Some limit
    → (length bytes ≡ 40) × (is_zero 24 40 bytes ≡ true) × (limit_in bytes ≡ limit)
unfolding limit_read
limit_read_parts bytes limit read =
    let parts = then_some_parts ((length bytes == 40) && is_zero 24 40 bytes) (limit_in bytes) limit read in
    let tests = and_parts (length bytes == 40) (is_zero 24 40 bytes) parts.0 in
    (eqb-true (length bytes) 40 tests.0, tests.1, parts.1)

pub limit_text-from_read : (bytes : List ℕ) (limit : QgroupLimit) → IsBytes bytes → limit_read bytes ≡ Some limit
    → bytes ≡ limit_text limit
limit_text-from_read bytes limit are read =
    let parts = limit_read_parts bytes limit read in
    limit_text-from_fields bytes are parts.0 parts.1 ∙ ap limit_text parts.2

pub LimitFits-from_read : (bytes : List ℕ) (limit : QgroupLimit) → IsBytes bytes → limit_read bytes ≡ Some limit
    → LimitFits limit
LimitFits-from_read bytes limit are read =
    subst LimitFits (limit_read_parts bytes limit read).2
    (record { flags = u64_at-lt 0 bytes are; max_rfer = u64_at-lt 8 bytes are; max_excl = u64_at-lt 16 bytes are })

same_limit : (a b : QgroupLimit) → a.flags ≡ b.flags → a.max_rfer ≡ b.max_rfer → a.max_excl ≡ b.max_excl → a ≡ b
same_limit a b flags max_rfer max_excl =
    let same : ◌≡◌ {A = QgroupLimit} (record { flags = a.flags; max_rfer = a.max_rfer; max_excl = a.max_excl })
    (record { flags = b.flags; max_rfer = b.max_rfer; max_excl = b.max_excl }) = cc in
    same

limit_in-limit_text : (limit : QgroupLimit) → LimitFits limit → limit_in (limit_text limit) ≡ limit
unfolding limit_text u64_bytes
limit_in-limit_text limit fits =
    let text = limit_text limit in
    same_limit (limit_in text) limit
    (u64_at-u64_bytes 0 limit.flags (take 0 text) (drop 8 text) refl fits.flags)
    (u64_at-u64_bytes 8 limit.max_rfer (take 8 text) (drop 16 text) refl fits.max_rfer)
    (u64_at-u64_bytes 16 limit.max_excl (take 16 text) (drop 24 text) refl fits.max_excl)

pub length-limit_text : (limit : QgroupLimit) → length (limit_text limit) ≡ 40
unfolding limit_text u64_bytes
length-limit_text limit = refl

rest-limit_text : (limit : QgroupLimit) → is_zero 24 40 (limit_text limit) ≡ true
unfolding limit_text u64_bytes
rest-limit_text limit = refl

pub limit_read-limit_text : (limit : QgroupLimit) → LimitFits limit → limit_read (limit_text limit) ≡ Some limit
unfolding limit_read
limit_read-limit_text limit fits = rw (length-limit_text limit, rest-limit_text limit, limit_in-limit_text limit fits)
    refl

pub limit_trips : RoundTrips LimitFits limit_text limit_read
limit_trips = round_trips LimitFits limit_text limit_read limit_read-limit_text limit_text-from_read LimitFits-from_read
