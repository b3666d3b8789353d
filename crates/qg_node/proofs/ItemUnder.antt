-- An item under a key that is one, with a body of bytes, fits.
use Rattle.std.proofs.Common.{ℕ, ◌<◌, ◌^◌, List}
use Rattle.qg_num.proofs.AreBytes.{AreBytes}
use Rattle.qg_node.specs.Fits.{ItemFits}
use Rattle.qg_node.specs.Nodes.{item_under}

-- an item with such a body fits
pub item-fits : (objectid kind offset : ℕ) (body : List ℕ) → objectid < 2 ^ 64 → kind < 256 → offset < 2 ^ 64
    → AreBytes body
    → ItemFits (item_under objectid kind offset body)
item-fits objectid kind offset body object_fits kind_fits offset_fits are =
    record { key = record { objectid = object_fits; kind = kind_fits; offset = offset_fits }; body = are.are }
