-- The order of references: that of their keys, and for keyed ones to data by what they name (this project's own).
use Rattle.std.specs.Prelude.{ℕ, Bool, ◌&&◌, ◌||◌, ◌==◌, nat_lt}
use Rattle.qg_items.specs.declared.extent.Reference.{Reference}
use Rattle.qg_items.specs.declared.extent.Reference.TheVariants.{KeyedBlock, SharedBlock, KeyedData, SharedData}
use Rattle.qg_refs.specs.declared.order.Rank.{Rank}

-- what orders a reference: the type of its item (TREE_BLOCK_REF 176, EXTENT_DATA_REF 178, SHARED_BLOCK_REF 182,
-- SHARED_DATA_REF 184), the tree or the parent, the file and the offset
abbrev pub rank_of : Reference → Rank
rank_of (KeyedBlock root) = record { kind = 176; from = root; ino = 0; offset = 0 }
rank_of (KeyedData root ino offset) = record { kind = 178; from = root; ino = ino; offset = offset }
rank_of (SharedBlock parent) = record { kind = 182; from = parent; ino = 0; offset = 0 }
rank_of (SharedData parent) = record { kind = 184; from = parent; ino = 0; offset = 0 }

-- by the type first, then by the tree or the parent, then by the file, then by the offset
abbrev pub is_lower : Rank → Rank → Bool
is_lower a b =
    nat_lt a.kind b.kind
    || ((a.kind == b.kind)
    && (nat_lt a.from b.from
    || ((a.from == b.from) && (nat_lt a.ino b.ino || ((a.ino == b.ino) && nat_lt a.offset b.offset)))))

-- one reference comes before another
abbrev pub precedes : Reference → Reference → Bool
precedes a b = is_lower (rank_of a) (rank_of b)
