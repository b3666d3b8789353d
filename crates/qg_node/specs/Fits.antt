-- Numbers that fit their fields (on-disk format, "nodes and leaves"): a field of 8 bytes holds one below 2^64, a byte
-- one below 256.
--
-- Every node that a program holds is so, since its fields have these types.
use Rattle.std.specs.Prelude.{◌^◌, ◌<◌, All}
use Rattle.qg_num.specs.Fields.{IsBytes}
use Rattle.qg_num.specs.Key.{IsKey}
use Rattle.qg_node.specs.declared.item.Item.{Item}
use Rattle.qg_node.specs.declared.pointer.Pointer.{Pointer}
use Rattle.qg_node.specs.declared.node.Header.{Header}
use Rattle.qg_node.specs.declared.node.Node.{Node}
use Rattle.qg_node.specs.declared.node.Node.TheVariants.{Leaf, Inner}

-- an item's key and body
pub record ItemFits (item : Item) : Type 0 where
  pub key : IsKey item.key
  pub body : IsBytes item.body

-- a pointer's key, address and generation
pub record PointerFits (pointer : Pointer) : Type 0 where
  pub key : IsKey pointer.key
  pub child : pointer.child < 2 ^ 64
  pub generation : pointer.generation < 2 ^ 64

-- a header's address, generation, owner and level
pub record HeaderFits (header : Header) : Type 0 where
  pub address : header.address < 2 ^ 64
  pub generation : header.generation < 2 ^ 64
  pub owner : header.owner < 2 ^ 64
  pub level : header.level < 256

-- each number of a node
abbrev pub NodeFits : Node → Type 0
NodeFits (Leaf header items) = HeaderFits header × All ItemFits items
NodeFits (Inner header pointers) = HeaderFits header × All PointerFits pointers
