-- Keys: their order and their bytes (on-disk format, "Key").
use Rattle.std.specs.Prelude.{ℕ, ◌+◌, ◌^◌, ◌<◌, List, ◌∷◌, ◌++◌, slice_index}
use Rattle.std.specs.Ordering.{nat_cmp, ordering_then}
use Rattle.std.specs.declared.cmp.Ordering.{Ordering}
use Rattle.qg_num.specs.Fields.{u64_bytes, u64_at}
use Rattle.qg_num.specs.declared.key.Key.{Key}

-- by object, then by type, then by offset
abbrev pub key_cmp : Key → Key → Ordering
key_cmp a b = ordering_then (nat_cmp a.objectid b.objectid)
    (ordering_then (nat_cmp a.kind b.kind) (nat_cmp a.offset b.offset))

-- the 17 bytes of a key: the object's number in 8, the type in one, the offset in 8
abbrev pub key_bytes : Key → List ℕ
key_bytes key = u64_bytes key.objectid ++ key.kind ∷ u64_bytes key.offset

-- the key whose 17 bytes stand at a place
abbrev pub key_at : ℕ → List ℕ → Key
key_at place bytes = record {
  objectid = u64_at place bytes;
  kind = slice_index bytes (place + 8);
  offset = u64_at (place + 9) bytes;
}

-- each number of the key fits its field
pub record IsKey (key : Key) : Type 0 where
  pub objectid : key.objectid < 2 ^ 64
  pub kind : key.kind < 256
  pub offset : key.offset < 2 ^ 64
