-- A key's bytes give the key, and the key gives its bytes.
use Rattle.std.proofs.Common.{◌≡◌, ℕ, zero, suc, ◌+◌, ◌≤◌, ◌<◌, List, [], ◌∷◌, ◌++◌, length, take, drop, set, sym, ap}
use Rattle.std.proofs.Common.{subst, ◌∙◌, arith}
use Rattle.std.specs.Prelude.{slice_index}
use Rattle.std.proofs.lemmas.List.{append_assoc, length-append}
use Rattle.qg_num.specs.Fields.{IsBytes, u64_bytes, u64_at}
use Rattle.qg_num.proofs.Numbers.{IsBytes-append, IsBytes-u64_bytes, length-u64_bytes, u64_at-lt}
use Rattle.qg_num.proofs.Standing.{Stands, Stands-first, Stands-second, Stands-then, byte_stands, slice_index-stands}
use Rattle.qg_num.proofs.Standing.{u64_at-stands, u64_stands, whole_stands}
use Rattle.qg_num.proofs.Written.{length-put, put_byte, put_then}
use Rattle.qg_num.specs.declared.key.Key.{Key}
use Rattle.qg_num.specs.Key.{IsKey, key_at, key_bytes}

pub length-key_bytes : (key : Key) → length (key_bytes key) ≡ 17
length-key_bytes key =
    omega (
      arith,
      length-append (u64_bytes key.objectid) (key.kind ∷ u64_bytes key.offset),
      length-u64_bytes
          key.objectid,
      length-u64_bytes key.offset,
    )

-- what reading finds
pub key_stands : (bytes : List ℕ) (place : ℕ) → IsBytes bytes → place + 17 ≤ length bytes
    → Stands bytes place (place + 17) (key_bytes (key_at place bytes))
key_stands bytes place are within =
    let kind_to : place + 8 + 1 ≡ place + 9 = omega arith in
    let offset_to : place + 9 + 8 ≡ place + 17 = omega arith in
    let kind = subst (λ (to : ℕ). Stands bytes (place + 8) to (slice_index bytes (place + 8) ∷ [])) kind_to
    (byte_stands bytes (place + 8) (omega arith)) in
    let offset = subst (λ (to : ℕ). Stands bytes (place + 9) to (u64_bytes (u64_at (place + 9) bytes))) offset_to
    (u64_stands bytes (place + 9) are (omega arith)) in
    Stands-then (u64_stands bytes place are (omega arith)) (Stands-then kind offset)

-- what is read where a key stands
pub key_at-stands : {bytes : List ℕ} {a b : ℕ} (key : Key) → IsKey key → Stands bytes a b (key_bytes key)
    → key_at a bytes ≡ key
key_at-stands {bytes = bytes} {a = a} {b = b} key fits stands =
    let first = u64_bytes key.objectid in
    let rest = key.kind ∷ u64_bytes key.offset in
    let eight : a + length first ≡ a + 8 = omega (arith, length-u64_bytes key.objectid) in
    let nine : a + 8 + length (key.kind ∷ []) ≡ a + 9 = omega arith in
    let behind = Stands-second (a + 8) first rest eight stands in
    let objectid = u64_at-stands key.objectid fits.objectid (Stands-first (a + 8) first rest eight stands) in
    let kind = slice_index-stands behind in
    let offset = u64_at-stands key.offset fits.offset
    (Stands-second (a + 9) (key.kind ∷ []) (u64_bytes key.offset) nine behind) in
    λ i. record { objectid = objectid i; kind = kind i; offset = offset i }

-- a key's bytes, whole, are read as the key
pub key_at-key_bytes : (key : Key) → IsKey key → key_at 0 (key_bytes key) ≡ key
key_at-key_bytes key fits = key_at-stands key fits (whole_stands (key_bytes key) 17 (length-key_bytes key))

-- two keys with the same bytes are one
pub key_bytes_cancel : (a b : Key) → IsKey a → IsKey b → key_bytes a ≡ key_bytes b → a ≡ b
key_bytes_cancel a b fits_a fits_b same = sym (key_at-key_bytes a fits_a) ∙ ap (key_at 0) same
    ∙ key_at-key_bytes b fits_b

-- a key's numbers, written one behind the other, are its bytes
pub key_put : (key : Key) (place : ℕ) (old mid new : List ℕ) → place + 17 ≤ length old
    → mid ≡ take place old ++ (u64_bytes key.objectid ++ drop (place + 8) old)
    → new ≡ take (place + 9) (set mid (place + 8) key.kind)
    ++ (u64_bytes key.offset ++ drop (place + 9 + 8) (set mid (place + 8) key.kind))
    → new ≡ take place old ++ (key_bytes key ++ drop (place + 17) old)
key_put key place old mid new within was is =
    let object = u64_bytes key.objectid in
    let kind = key.kind ∷ [] in
    let two = set mid (place + 8) key.kind in
    let nine : place + 8 + 1 ≡ place + 9 = omega arith in
    let all : place + 9 + 8 ≡ place + 17 = omega arith in
    let long : length mid ≡ length old =
    length-put place 8 object old mid (omega arith) (length-u64_bytes key.objectid) was in
    let second : two ≡ take place old ++ ((object ++ kind) ++ drop (place + 8 + 1) old) =
    put_then place 8 1 object kind old mid two (omega arith) (length-u64_bytes key.objectid) was
    (put_byte (place + 8) key.kind mid (omega arith)) in
    let so_far : two ≡ take place old ++ ((object ++ kind) ++ drop (place + 9) old) =
    second ∙ ap (λ (to : ℕ). take place old ++ ((object ++ kind) ++ drop to old)) nine in
    let front : length (object ++ kind) ≡ 9 = omega (arith, length-append object kind, length-u64_bytes key.objectid) in
    put_then place 9 8 (object ++ kind) (u64_bytes key.offset) old two new (omega arith) front so_far is
    ∙ ap (λ (to : ℕ). take place old ++ (((object ++ kind) ++ u64_bytes key.offset) ++ drop to old)) all
    ∙ ap (λ (text : List ℕ). take place old ++ (text ++ drop (place + 17) old))
    (append_assoc object kind (u64_bytes key.offset))

-- ---- which lists and keys fit

pub IsKey-key_at : (bytes : List ℕ) (place : ℕ) → IsBytes bytes → IsKey (key_at place bytes)
IsKey-key_at bytes place are = record {
  objectid = u64_at-lt place bytes are;
  kind = are (place + 8);
  offset = u64_at-lt (place + 9) bytes are;
}

byte : (n : ℕ) → n < 256 → IsBytes (n ∷ [])
byte n fits zero = fits
byte n fits (suc i) = omega arith

pub IsBytes-key_bytes : (key : Key) → IsKey key → IsBytes (key_bytes key)
IsBytes-key_bytes key fits =
    IsBytes-append (u64_bytes key.objectid) (key.kind ∷ u64_bytes key.offset) (IsBytes-u64_bytes key.objectid)
    (IsBytes-append (key.kind ∷ []) (u64_bytes key.offset) (byte key.kind fits.kind) (IsBytes-u64_bytes key.offset))
