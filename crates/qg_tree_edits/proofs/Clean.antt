-- What is told where no node is fresh.
use Rattle.std.proofs.Common.{◌≡◌, ℕ, List, refl}
use Rattle.std.specs.Prelude.{Option, Some, None, IsSome, is_some, if◌then◌else◌}
use Rattle.qg_device.specs.History.{History}
use Rattle.qg_node.specs.declared.node.Node.{Node}
use Rattle.qg_node.specs.Nodes.{header_of}
use Rattle.qg_blocks.specs.NodesFound.{fresh_at, told}
use Rattle.qg_node_alloc.specs.declared.ground.Ground.{Ground}
use Rattle.qg_node_alloc.specs.Tellings.Telling.{Copied}
use Rattle.qg_tree_edits.specs.Counting.{IsAsWas, clean_at}

pub none-unless : (fresh : Option Node) → (IsSome fresh → ⊥) → fresh ≡ None
none-unless None never = refl
none-unless (Some node) never = absurd (never refl)

same_unless : (fresh there : Option Node) → fresh ≡ None → (if is_some fresh then None else there) ≡ there
same_unless None there none = refl
same_unless (Some node) there none = cc

is_unless : (fresh there : Option Node) (node : Node) → (if is_some fresh then None else there) ≡ Some node
    → (fresh ≡ None) × (there ≡ Some node)
is_unless None there node is = (refl, is)
is_unless (Some other) there node is = cc

-- it is the same that is told
pub clean-same : (land : Ground) (history : History) (q : ℕ) → fresh_at land.blocks.draft q ≡ None
    → clean_at land history q ≡ told land.blocks.draft history q
clean-same land history q none = same_unless (fresh_at land.blocks.draft q) (told land.blocks.draft history q) none

pub clean-is : (land : Ground) (history : History) (q : ℕ) (node : Node)
    → clean_at land history q ≡ Some node
    → (fresh_at land.blocks.draft q ≡ None) × (told land.blocks.draft history q ≡ Some node)
clean-is land history q node is =
    is_unless (fresh_at land.blocks.draft q) (told land.blocks.draft history q) node is

-- so what is copied was not fresh, and is what stood there
pub copied-was : (land : Ground) (history : History) (node : Node) (copy : ℕ)
    → IsAsWas (clean_at land history) (Copied node copy)
    → (fresh_at land.blocks.draft (header_of node).address ≡ None)
    × (told land.blocks.draft history (header_of node).address ≡ Some node)
copied-was land history node copy is = clean-is land history (header_of node).address node is
