-- Laws that lead from a sound image that was just opened to trees that are kept of its state (this project's own).
use Rattle.std.specs.Prelude.{◌≡◌, ℕ, List, Option, None, Some, IsTrue}
use Rattle.qg_device.specs.History.{Event, Recorded, content}
use Rattle.qg_items.specs.declared.root.RootItem.{RootItem}
use Rattle.qg_super.specs.declared.superblock.Super.{Super}
use Rattle.qg_super.specs.SuperText.{is_super}
use Rattle.qg_image.specs.declared.file.File.{File}
use Rattle.qg_image.specs.declared.quota.Quota.{Quota}
use Rattle.qg_image.specs.Owed.{Agrees, homeless}
use Rattle.qg_image.specs.State.{layout_of}
use Rattle.qg_image.specs.ImageState.{extent_parts, quota_in, state_in, super_of, subvolume_told}
use Rattle.qg_image.specs.Verdict.{IsSound}
use Rattle.qg_weighed.specs.Laws.{IsRecorded}
use Rattle.qg_extents.specs.Table.{IsTable}
use Rattle.qg_file_edits.specs.Types.{FsTree}
use Rattle.qg_commit_trees.specs.Opening.{IsOpened, IsSoundImage}
use Rattle.qg_fs_laws.specs.Keeping.{KeepsState, NamesOthers, other_names}
use Rattle.qg_fs_laws.specs.Opening.{HasBytes, HoldsCommit, HoldsOthers, IsOf}

-- ---- what the verdict says

-- a sound image is one of which trees can be made, where the extent tree's records are what is owed, and each node that
-- is not full is reached by its owner
abbrev pub SoundImageIsKnown : Type 0
SoundImageIsKnown = (super : Super) (image : List ℕ)
    → IsSound image → super_of image ≡ Some super → IsTrue (is_super super)
    → Agrees (layout_of (state_in super image)) (extent_parts super image)
    → homeless (layout_of (state_in super image)) ≡ None
    → IsSoundImage super image

-- and its other trees hold what they may
abbrev pub SoundImageHoldsOthers : Type 0
SoundImageHoldsOthers = (super : Super) (image : List ℕ) (quota : Option Quota)
    → IsSound image → super_of image ≡ Some super → quota_in super image ≡ quota
    → HoldsOthers super image quota

-- ---- the trees that are made

-- what is made of a sound image is kept of the state that the image stands for
abbrev pub OpenedIsKept : Type 0
OpenedIsKept = (fs : FsTree) (super : Super) (events : List Event) (root : RootItem) (files : List (ℕ × File))
    → IsTable fs.refs.refs → IsSoundImage super (content events) → IsOpened fs super (content events)
    → HoldsCommit fs super (content events) → HasBytes super (content events)
    → IsOf super (content events) fs.tree.owner root files
    → KeepsState fs (Recorded events) (state_in super (content events)) (subvolume_told files root) files

-- the book is what the last commit recorded
abbrev pub OpenedIsRecorded : Type 0
OpenedIsRecorded = (fs : FsTree) (super : Super) (image : List ℕ) (quota : Option Quota)
    → IsTable fs.refs.refs → IsSoundImage super image → IsOpened fs super image
    → HoldsCommit fs super image → HoldsOthers super image quota
    → IsRecorded (state_in super image) fs.refs.held

-- and besides the extent tree's, the last commit's items name what those of its subvolumes and groups do
abbrev pub OpenedNamesOthers : Type 0
OpenedNamesOthers = (super : Super) (image : List ℕ) (quota : Option Quota)
    → quota_in super image ≡ quota → HoldsOthers super image quota
    → NamesOthers (state_in super image).held (other_names (state_in super image))
