-- When a subvolume's tree stands, and what its book knows then (this project's own). Places and lengths are in bytes.
use Rattle.std.specs.Prelude.{◌≡◌, ◌⊎◌, ⊤, ℕ, ◌≤◌, All, List, ◌∷◌, length, IsTrue}
use Rattle.qg_device.specs.History.{Event, History, Recorded, Wrote, Synced, content}
use Rattle.qg_num.specs.declared.piece.Piece.{Piece}
use Rattle.qg_node.specs.declared.item.Item.{Item}
use Rattle.qg_super.specs.declared.sizes.Sizes.{Sizes}
use Rattle.qg_super.specs.declared.superblock.Super.{Super}
use Rattle.qg_super.specs.Places.{first_place, is_served, second_place, total_bytes}
use Rattle.qg_super.specs.SuperText.{sizes_of, super_text}
use Rattle.qg_blocks.specs.NodesFound.{IsBacked}
use Rattle.qg_blocks.specs.Writing.{Keeps}
use Rattle.qg_extents.specs.Table.{IsTable}
use Rattle.qg_shared_trees.specs.Types.{FsTree}
use Rattle.qg_shared_trees.specs.Standing.{CanTurn, IsSubvolume, Stands, nodes_of}
use Rattle.qg_commit_trees.specs.Committing.{IsCommitted, StandsStill, WritesTree}
use Rattle.qg_commit_trees.specs.Knowing.{IsSameButClean, KnowsRoot}
use Rattle.qg_commit_trees.specs.Opening.{IsOpened, IsSoundImage, StandsOpened}

-- over any disk that is no shorter than before, a tree is left for the next generation to edit, where clean nodes are
-- the disk's
abbrev pub IsSubvolumeStill : Type 0
IsSubvolumeStill = (old new : FsTree) (besides : List ℕ) (before after : History) (bytes left : ℕ)
    → IsSubvolume old before bytes → IsCommitted old new besides → IsBacked new.land.blocks after → bytes ≤ left
    → IsSubvolume new after left

-- and each of the trees may be the one at hand, where it might
abbrev pub CanTurnStill : Type 0
CanTurnStill = (old new : FsTree) (besides : List ℕ) → CanTurn old → IsCommitted old new besides → CanTurn new

-- a tree that stood, and that a commit wrote, stands with the same items and names
abbrev pub StandsOnceCommitted : Type 0
StandsOnceCommitted = (old new : FsTree) (besides : List ℕ) (events later : List Event) (bytes : ℕ) (items : List Item)
    (names : List (ℕ × Piece)) → IsTable old.refs.refs → IsSubvolume old (Recorded events) bytes
    → Stands old (Recorded events) items names → IsCommitted old new besides
    → WritesTree old (Recorded events) (Recorded later)
    → StandsStill old new (Recorded events) (Recorded later) items names

-- over any disk that has room for all slots, what was made of an image is left for a tree to be edited, where clean
-- nodes are the disk's
abbrev pub IsSubvolumeOpened : Type 0
IsSubvolumeOpened = (fs : FsTree) (super : Super) (image : List ℕ) (history : History)
    (bytes : ℕ) → IsOpened fs super image → IsTrue (is_served (sizes_of super))
    → IsBacked fs.land.blocks history → second_place ≤ bytes → IsSubvolume fs history bytes

-- each of its trees may be the one at hand
abbrev pub CanTurnOpened : Type 0
CanTurnOpened = (fs : FsTree) (super : Super) (image : List ℕ) → IsOpened fs super image → CanTurn fs

-- and where the disk tells a sound image, the trees stand
abbrev pub StandsOnceOpened : Type 0
StandsOnceOpened = (fs : FsTree) (super : Super) (events : List Event)
    → IsTable fs.refs.refs → IsSoundImage super (content events)
    → IsOpened fs super (content events) → StandsOpened fs super events

-- ---- what is told alike

-- over any disk that is no shorter, a tree with other clean nodes in memory is left to be edited, where these are the
-- disk's
abbrev pub IsSubvolumeAlike : Type 0
IsSubvolumeAlike = (old new : FsTree) (before after : History) (bytes left : ℕ)
    → IsSubvolume old before bytes → IsSameButClean old new → IsBacked new.land.blocks after → bytes ≤ left
    → IsSubvolume new after left

-- and where it tells what it told, a tree stands that stood
abbrev pub StandsWhereToldAlike : Type 0
StandsWhereToldAlike = (old new : FsTree) (before after : History) (items : List Item)
    (names : List (ℕ × Piece)) → IsSameButClean old new
    → ((q : ℕ) → nodes_of new after q ≡ nodes_of old before q)
    → Stands old before items names → StandsStill old new before after items names

-- the same is told where nothing changes in slots
abbrev pub IsToldAlike : Type 0
IsToldAlike = (old new : FsTree) (before : History) (later : List Event) → IsSameButClean old new
    → Keeps old.land.blocks.draft.sizes before (Recorded later) (λ at. ⊤)
    → (q : ℕ) → nodes_of new (Recorded later) q ≡ nodes_of old before q

-- a sync changes nothing there
abbrev pub SyncsKeepSlots : Type 0
SyncsKeepSlots = (sizes : Sizes) (events : List Event)
    → Keeps sizes (Recorded events) (Recorded (Synced ∷ events)) (λ at. ⊤)

-- nor does a superblock that is written at its place and made sure of, where nodes and slots are those of sizes that
-- are served
abbrev pub SuperblocksKeepSlots : Type 0
SuperblocksKeepSlots = (sizes whole : Sizes) (super : Super) (place : ℕ) (events : List Event)
    → IsTrue (is_served whole) → sizes.nodesize ≡ whole.nodesize → sizes.slots ≡ whole.slots
    → total_bytes whole ≤ length (content events) → (place ≡ first_place) ⊎ (place ≡ second_place)
    → Keeps sizes (Recorded events) (Recorded (Synced ∷ Wrote place (super_text place super) ∷ events)) (λ at. ⊤)

-- ---- what a book knows

-- the book of a tree that stands knows the root
abbrev pub StandingKnowsRoot : Type 0
StandingKnowsRoot = (fs : FsTree) (history : History) (bytes : ℕ) (items : List Item)
    (names : List (ℕ × Piece)) → IsSubvolume fs history bytes → Stands fs history items names → KnowsRoot fs history

-- and nothing that is of a generation past the one to come
abbrev pub StandingKnowsNoLater : Type 0
StandingKnowsNoLater = (fs : FsTree) (history : History) (bytes : ℕ) (items : List Item)
    (names : List (ℕ × Piece)) → IsTable fs.refs.refs → IsSubvolume fs history bytes → Stands fs history items names
    → All (λ entry. entry.1.what.generation ≤ fs.tree.next) fs.refs.refs
