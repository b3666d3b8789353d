-- What is remembered of the nodes that were read (this project's own).
use Rattle.std.specs.Prelude.{◌≡◌, ℕ, true, false, List, ◌++◌, map, Option, Some, None, Ok}
use Rattle.std.proofs.Common.{eqb, ◌⊎◌}
use Rattle.std.specs.List.{Contains, IsDistinct}
use Rattle.std.specs.Map.{lookup}
use Rattle.std.specs.Ordering.{is_eq, nat_cmp}
use Rattle.qg_device.specs.History.{Event, content}
use Rattle.qg_num.specs.declared.key.Key.{Key}
use Rattle.qg_node.specs.declared.pointer.Pointer.{Pointer}
use Rattle.qg_node.specs.declared.node.Node.{Node}
use Rattle.qg_node.specs.Nodes.{header_of}
use Rattle.qg_super.specs.declared.superblock.Super.{Super}
use Rattle.qg_image.specs.declared.expected.Expected.{Expected}
use Rattle.qg_image.specs.Walk.{next_key, node_found}
use Rattle.qg_shared_walk.specs.declared.digest.Below.{Below}
use Rattle.qg_shared_walk.specs.declared.digest.Digest.{Digest}
use Rattle.qg_shared_walk.specs.Digests.{IsDigestOf, ends_by, fits}
use Rattle.qg_shared_walk.specs.Wells.{AreWell, IsWell, Whole}

-- the digest that is remembered for an address
abbrev pub digest_at : List (ℕ × Digest) → ℕ → Option Digest
digest_at digests address = lookup (λ other. is_eq (nat_cmp address other)) digests

-- one more is remembered
abbrev pub IsEntered : List (ℕ × Digest) → List (ℕ × Digest) → ℕ → Digest → Type 0
IsEntered old new address digest =
    (digest_at new address ≡ Some digest) ×
    ((other : ℕ) → is_eq (nat_cmp address other) ≡ false → digest_at new other ≡ digest_at old other)

-- where a node lies, in bytes
abbrev pub address_of : Node → ℕ
address_of node = (header_of node).address

-- The reader keeps these nodes: each lies in the image, no two at one address, and each is remembered. Below what is
-- remembered all is well
pub record Remembers {N : Type 0} (super : Super) (events : List Event) (keeps : N → List Node → Type 0)
    (kept : List Node) (digests : List (ℕ × Digest)) (reader : N) : Type 0 where
  pub are : keeps reader kept
  pub found : (node : Node) → Contains kept node → node_found super (content events) (address_of node) ≡ Ok node
  pub distinct : IsDistinct eqb (map address_of kept)
  pub noted : (node : Node) → Contains kept node → digest_at digests (address_of node) ≡ None → ⊥
  pub well : (address : ℕ) (digest : Digest) → digest_at digests address ≡ Some digest
      → (whole : Whole) × IsWell super events kept address digest whole

-- after a walk from an address down more is remembered: what stands there, and nothing else
pub record Walks {N : Type 0} (super : Super) (events : List Event) (keeps : N → List Node → Type 0)
    (old : List Node) (digests : List (ℕ × Digest)) (reader : N) (expected : Expected) (address : ℕ)
    (digest : Digest) : Type 0 where
  pub now : List Node
  pub remembers : Remembers super events keeps now digests reader
  pub stay : (node : Node) → Contains old node → Contains now node
  pub whole : Whole
  pub well : IsWell super events now address digest whole
  pub fitting : fits expected digest ≡ true
  pub more : (node : Node) → Contains now node → Contains old node ⊎ Contains whole.nodes node

-- the same after a walk below pointers, those in front of the rest
pub record WalksBelow {N : Type 0} (super : Super) (events : List Event) (keeps : N → List Node → Type 0)
    (old : List Node) (digests : List (ℕ × Digest)) (reader : N) (to : Option Key) (level : ℕ)
    (pointers rest : List Pointer) (below : Below) : Type 0 where
  pub front : List Pointer
  pub all : pointers ≡ front ++ rest
  pub now : List Node
  pub remembers : Remembers super events keeps now digests reader
  pub stay : (node : Node) → Contains old node → Contains now node
  pub whole : Whole
  pub well : AreWell super events now level front below whole
  pub ends : ends_by (next_key to rest) below.last ≡ true
  pub more : (node : Node) → Contains now node → Contains old node ⊎ Contains whole.nodes node

-- A node that was judged, and below which nodes were walked. With what is kept of the items below it all is well
-- there, once the node is
-- remembered itself
pub record IsWellBelow {N : Type 0} (super : Super) (events : List Event) (keeps : N → List Node → Type 0)
    (old : List Node) (digests : List (ℕ × Digest)) (reader : N) (expected : Expected) (address : ℕ) (node : Node)
    (below : Below) : Type 0 where
  pub now : List Node
  pub remembers : Remembers super events keeps now digests reader
  pub stay : (n : Node) → Contains old n → Contains now n
  pub whole : Whole
  pub found : node_found super (content events) address ≡ Ok node
  pub has : Contains whole.nodes node
  pub well : (digest : Digest) (kept : List Node) → IsDigestOf super.nodesize node digest → digest.below ≡ below
      → ((n : Node) → Contains now n → Contains kept n) → Contains kept node
      → IsWell super events kept address digest whole
  pub fitting : (digest : Digest) → IsDigestOf super.nodesize node digest → digest.below ≡ below
      → fits expected digest ≡ true
  pub more : (n : Node) → Contains now n → Contains old n ⊎ Contains whole.nodes n
