-- The state of the machine (this project's own, after btrfs-qgroup(8) and fs/btrfs/qgroup.c).
--
-- Each table ascends by number. Addresses, sizes and counters are in bytes.
use Rattle.std.specs.Prelude.{ℕ, ◌+◌, Bool, List, Option, Some, None, [], map, is_some}
use Rattle.std.specs.Option.{option_map}
use Rattle.qg_num.specs.declared.command.Command.{Command}
use Rattle.qg_node.specs.declared.node.Node.{Node}
use Rattle.qg_super.specs.declared.sizes.Sizes.{Sizes}
use Rattle.qg_image.specs.declared.quota.Quota.{Quota}
use Rattle.qg_image.specs.declared.element.Element.{Element}
use Rattle.qg_image.specs.Table.{value_at, has_key, keys_of}
use Rattle.qg_image.specs.declared.file.File.{File}

-- a subvolume: its files by number, the address of its root node, and the generation of the commit that last made a
-- snapshot of it or made it by one, else 0
pub record Subvolume : Type 0 where
  pub files : List (ℕ × File)
  pub root : ℕ
  pub last_snapshot : ℕ

-- one whose root node lies at this address: without files, and no snapshot was made of it or made it
abbrev pub blank_subvolume : ℕ → Subvolume
blank_subvolume root = record { files = []; root = root; last_snapshot = 0 }

-- a node of the layout, and whether it owes its children shared references (FULL_BACKREF)
pub record Placed : Type 0 where
  pub node : Node
  pub full : Bool

-- an accepted file command: the subvolume that it edits and the bytes that it reserved, its need of slots and its
-- copies when it was accepted, and what it touched
pub record Accepted : Type 0 where
  pub command : Command
  pub sub : ℕ
  pub amount : ℕ
  pub need : ℕ
  pub copies : ℕ
  pub touched : ℕ

-- what the last commit holds: the addresses of all its nodes; the nodes of its root, extent and quota trees, each of
-- which tells where it lies; and its data extents
pub record Committed : Type 0 where
  pub nodes : List ℕ
  pub others : List Node
  pub extents : List Element

-- what is held before the first commit
abbrev pub nothing_held : Committed
nothing_held = record { nodes = []; others = []; extents = [] }

-- quota without groups, and so without relations
abbrev pub blank_quota : Quota
blank_quota = record { groups = []; pairs = [] }

-- the state: the sizes of the image, the committed generation, the subvolumes by number, the nodes that some subvolume
-- reaches by address, quota (none while it is off), the file commands accepted since the last commit, the newest first,
-- and what that commit holds
pub record State : Type 0 where
  pub sizes : Sizes
  pub generation : ℕ
  pub subvolumes : List (ℕ × Subvolume)
  pub layout : List (ℕ × Placed)
  pub quota : Option Quota
  pub pending : List Accepted
  pub held : Committed

-- the state of these sizes with nothing in it: generation 0, no subvolume and no node, quota off, and nothing pending
abbrev pub blank_state : Sizes → State
blank_state sizes = record {
  sizes = sizes;
  generation = 0;
  subvolumes = [];
  layout = [];
  quota = None;
  pending = [];
  held = nothing_held;
}

-- where the subvolumes' trees lie: the bytes of a node, the address of each subvolume's root node by its number, and
-- their nodes by address
pub record Layout : Type 0 where
  pub nodesize : ℕ
  pub roots : List (ℕ × ℕ)
  pub nodes : List (ℕ × Placed)

-- the layout of a state: the roots of its subvolumes, and its nodes
abbrev pub layout_of : State → Layout
layout_of state = record {
  nodesize = state.sizes.nodesize;
  roots = map (λ entry. (entry.0, entry.1.root)) state.subvolumes;
  nodes = state.layout;
}

-- the generation to come
abbrev pub next_generation : State → ℕ
next_generation state = state.generation + 1

-- the numbers of the subvolumes, ascending
abbrev pub subvolume_numbers : State → List ℕ
subvolume_numbers state = keys_of state.subvolumes

-- there is a subvolume of this number, whether it lives or not
abbrev pub has_subvolume : State → ℕ → Bool
has_subvolume state sub = has_key sub state.subvolumes

-- the subvolumes that live, by number: those that commands name and whose files are there. So far each one does
abbrev pub live_subvolumes : State → List (ℕ × Subvolume)
live_subvolumes state = state.subvolumes

-- the subvolume of this number, if it lives
abbrev pub live_subvolume : State → ℕ → Option Subvolume
live_subvolume state sub = value_at sub (live_subvolumes state)

-- it lives
abbrev pub is_live : State → ℕ → Bool
is_live state sub = has_key sub (live_subvolumes state)

-- a live subvolume's files
abbrev pub files_in_sub : State → ℕ → List (ℕ × File)
files_in_sub state sub = files_or_none (live_subvolume state sub) where
  files_or_none : Option Subvolume → List (ℕ × File)
  files_or_none None = []
  files_or_none (Some subvolume) = subvolume.files

-- a file of a live subvolume, by its number
abbrev pub file_at : State → ℕ → ℕ → Option File
file_at state sub ino = value_at ino (files_in_sub state sub)

-- the layout's node at an address
abbrev pub node_at : List (ℕ × Placed) → ℕ → Option Node
node_at layout address = option_map (λ placed. placed.node) (value_at address layout)

-- quota is on
abbrev pub is_quota_on : State → Bool
is_quota_on state = is_some state.quota
