-- Where things lie in an image (this project's own, but for the two superblock places: on-disk format, "superblock").
--
-- An address is an offset in the image, in bytes.
use Rattle.std.specs.Prelude.{ℕ, ◌+◌, ◌-◌, ◌*◌, ◌/◌, ◌%◌, Bool, ◌&&◌, ◌||◌, nat_le, nat_lt, ◌==◌}
use Rattle.qg_super.specs.declared.sizes.Sizes.{Sizes}

-- where the first superblock lies; each has 4096 bytes
abbrev pub first_place : ℕ
first_place = 65536

-- where the second superblock lies
abbrev pub second_place : ℕ
second_place = 67108864

-- the bytes of a sector
abbrev pub sector : ℕ
sector = 4096

-- where the node slots begin
abbrev pub slots_begin : ℕ
slots_begin = 1048576

-- where the data area begins
abbrev pub data_begin : ℕ
data_begin = 67174400

-- the address of a node slot
abbrev pub slot_at : Sizes → ℕ → ℕ
slot_at sizes k = slots_begin + k * sizes.nodesize

-- the address of a data sector
abbrev pub sector_at : ℕ → ℕ
sector_at k = data_begin + k * sector

-- the bytes of an image; what lies past them is never read
abbrev pub total_bytes : Sizes → ℕ
total_bytes sizes = data_begin + sizes.sectors * sector

-- the address is that of a node slot
unfoldable pub is_slot : Sizes → ℕ → Bool
is_slot sizes address =
    nat_le slots_begin address && ((address - slots_begin) % sizes.nodesize == 0)
    && nat_lt ((address - slots_begin) / sizes.nodesize) sizes.slots

-- a run of whole sectors, one at least, that lies in the data area
unfoldable pub is_run : Sizes → ℕ → ℕ → Bool
is_run sizes address bytes =
    nat_le data_begin address && ((address - data_begin) % sector == 0) && (bytes % sector == 0) && nat_lt 0 bytes
    && nat_le (address + bytes) (total_bytes sizes)

-- what a node's items or pointers may take, in bytes
abbrev pub capacity : ℕ → ℕ
capacity nodesize = nodesize - 101

-- the sizes that are served
unfoldable pub is_served : Sizes → Bool
is_served sizes =
    (((sizes.nodesize == 4096) && nat_le sizes.slots 16128) || ((sizes.nodesize == 16384) && nat_le sizes.slots 4032))
    && nat_le 64 sizes.slots && nat_le 16 sizes.sectors && nat_le sizes.sectors 16777216
