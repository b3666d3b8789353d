-- The text of a superblock, when bytes are one, and which of two is chosen (on-disk format, "superblock").
--
-- What the text has as `zeros` is 0 in this project's own profile.
use Rattle.std.specs.Prelude.{◌≡◌, ℕ, ◌-◌, ◌^◌, Bool, ◌&&◌, List, ◌++◌, codes, Option, Some, None, nat_le, nat_lt, ◌==◌}
use Rattle.std.specs.Prelude.{if◌then◌else◌, IsTrue}
use Rattle.std.specs.Bool.{then_some}
use Rattle.std.specs.Str.{bytes_eq}
use Rattle.qg_num.specs.Fields.{u64_bytes, u32_bytes, u64_at, u32_at, zeros}
use Rattle.qg_crc32c.specs.Crc32c.{crc32c_of}
use Rattle.qg_super.specs.declared.sizes.Sizes.{Sizes}
use Rattle.qg_super.specs.declared.superblock.Super.{Super}
use Rattle.qg_super.specs.Places.{total_bytes, is_served}

-- the sizes that a superblock tells: the bytes of a node, the node slots, the data sectors
abbrev pub sizes_of : Super → Sizes
sizes_of super = record { nodesize = super.nodesize; slots = super.slots; sectors = super.sectors }

-- `QGRPIMG1` (this project's own)
abbrev pub magic : List ℕ
magic = codes "QGRPIMG1"

-- what the checksum covers: the 4096 bytes but for the first 32. The place is at 48, the magic at 64, the generation at
-- 72, the root at 80, the image's length at 112, the sector's at 144, the node's at 148, slots, sectors and format from
-- 2048 on
unfoldable pub covered_text : ℕ → Super → List ℕ
covered_text place super =
    zeros 16 ++ u64_bytes place ++ zeros 8 ++ magic ++ u64_bytes super.generation ++ u64_bytes super.root ++ zeros 24
    ++ u64_bytes (total_bytes (sizes_of super)) ++ zeros 24 ++ u32_bytes 4096 ++ u32_bytes super.nodesize ++ zeros 1896
    ++ u64_bytes super.slots ++ u64_bytes super.sectors ++ u32_bytes super.format ++ zeros 2028

-- the 4096 bytes at a place: the checksum in 4 of 32 bytes, and what it covers
unfoldable pub super_text : ℕ → Super → List ℕ
super_text place super = u32_bytes (crc32c_of (covered_text place super)) ++ zeros 28 ++ covered_text place super

-- the fields that a superblock may have: each fits, the generation to come too, and the sizes are served
unfoldable pub is_super : Super → Bool
is_super super = nat_le 1 super.generation && nat_lt super.generation (2 ^ 64 - 1) && nat_lt super.root (2 ^ 64)
    && is_served (sizes_of super) && (super.format == 1)

-- the bytes are the text of the superblock for that place
pub record IsSuperText (place : ℕ) (bytes : List ℕ) (super : Super) : Type 0 where
  pub text : bytes ≡ super_text place super
  pub served : IsTrue (is_super super)

-- the fields where a superblock has them
abbrev pub fields_at : List ℕ → Super
fields_at bytes = record {
  generation = u64_at 72 bytes;
  root = u64_at 80 bytes;
  nodesize = u32_at 148 bytes;
  slots = u64_at 2048 bytes;
  sectors = u64_at 2056 bytes;
  format = u32_at 2064 bytes;
}

-- the superblock whose text for that place the bytes are
unfoldable pub super_read : ℕ → List ℕ → Option Super
super_read place bytes = then_some (is_super (fields_at bytes) && bytes_eq bytes (super_text place (fields_at bytes)))
    (fields_at bytes)

-- of two superblocks the one with the greater generation, the first where they are equal
abbrev pub choose : Option Super → Option Super → Option Super
choose None second = second
choose (Some first) None = Some first
choose (Some first) (Some second) = if nat_lt first.generation second.generation then Some second else Some first

-- two superblocks are the same but for the place and the checksum
abbrev pub same_super : Super → Super → Bool
same_super a b = (a.generation == b.generation) && (a.root == b.root) && (a.nodesize == b.nodesize)
    && (a.slots == b.slots) && (a.sectors == b.sectors) && (a.format == b.format)
