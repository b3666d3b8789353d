-- What a crash in the midst of a commit leaves, where the trees of subvolumes are edited by copy on write (this
-- project's own). Addresses are in bytes.
use Rattle.std.specs.Prelude.{◌≡◌, ◌⊎◌, ℕ, ◌<◌, List, ◌∷◌, Some, All, IsTrue, not, ◌==◌}
use Rattle.std.specs.List.{list_any}
use Rattle.std.specs.Map.{keys_of}
use Rattle.qg_device.specs.History.{Event, Synced, content}
use Rattle.qg_super.specs.declared.sizes.Sizes.{Sizes}
use Rattle.qg_image.specs.State.{Committed, State}
use Rattle.qg_image.specs.ImageState.{super_of}
use Rattle.qg_image.specs.StateOf.{StateOf}
use Rattle.qg_image.specs.Walk.{node_found}
use Rattle.qg_crashes.specs.Committing.{Crashing}
use Rattle.qg_crashes.specs.States.{IsMirrored, first_synced}
use Rattle.qg_blocks.specs.NodesInMemory.{Draft}
use Rattle.qg_commit.specs.Calls.{with_commit}
use Rattle.qg_commit.specs.Types.{OtherTrees}
use Rattle.qg_commit.specs.Types.{TreeContents}
use Rattle.qg_commit.specs.Writing.{IsLayingOf, nodes_written}

-- ---- what a commit finds

-- the last commit holds no node at this address
abbrev pub IsSpared : Committed → ℕ → Type 0
IsSpared held address = IsTrue (not (list_any (λ other. other == address) held.nodes))

-- the last commit holds none of the slots, and no node where a fresh one lies
pub record SparesHeld (held : Committed) (slots : List ℕ) (draft : Draft) : Type 0 where
  pub at_slots : All (IsSpared held) slots
  pub at_fresh : All (IsSpared held) (keys_of draft.fresh)

-- A commit of this generation finds this image: it stands for an older state of these sizes, at both places, and the
-- commit writes nothing where that holds a node
pub record IsFound (old : State) (sizes : Sizes) (generation : ℕ) (slots : List ℕ) (draft : Draft)
    (image : List ℕ) : Type 0 where
  pub mirrored : IsMirrored old image
  pub same_sizes : old.sizes ≡ sizes
  pub older : old.generation < generation
  pub spares : SparesHeld old.held slots draft

-- ---- what a crash leaves of it

-- the superblock of these trees counts in an image, and each address reads as once the whole commit is done
pub record HasWhole (draft : Draft) (trees : OtherTrees) (before : List Event) (image : List ℕ) : Type 0 where
  pub counts : super_of image ≡ Some trees.superblock
  pub reads : (address : ℕ) → node_found trees.superblock image address
      ≡ node_found trees.superblock
      (content (with_commit trees.superblock (nodes_written draft trees) (Synced ∷ before))) address

-- Trees were laid out, and whatever a crash leaves since the commit began stands for the old state, while the first
-- place was not made sure of, or has the whole commit
pub record LeavesTrees (old : State) (sizes : Sizes) (generation : ℕ) (told : TreeContents) (slots : List ℕ)
    (draft : Draft)
    (before after : List Event) : Type 0 where
  pub trees : OtherTrees
  pub is : IsLayingOf sizes generation told slots draft trees
  pub each : (image : List ℕ) (moment : ℕ) → Crashing before after image moment
      → (StateOf image old × (moment < first_synced before (nodes_written draft trees) trees.superblock))
      ⊎ HasWhole draft trees before image
