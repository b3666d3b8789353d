-- A law of what a file command leaves (this project's own). Weights are in bytes, the rest in slots.
use Rattle.std.specs.Prelude.{ℕ, ◌+◌, ◌*◌, ◌≤◌, List}
use Rattle.qg_device.specs.History.{History}
use Rattle.qg_image.specs.declared.file.File.{File}
use Rattle.qg_image.specs.Need.{file_copies, nodes_filled}
use Rattle.qg_space.specs.Holding.{free_slots}
use Rattle.qg_weighed.specs.Weight.{weight_of}
use Rattle.qg_shared_trees.specs.Types.{FsTree}
use Rattle.qg_file_edits.specs.Files.{LeavesFiles}

-- A command that touches so many pieces, and finds the slots free that it needs, leaves those free that a commit may
-- want for what the two books take. What a command needs may count some bytes besides
abbrev pub CommandLeavesRoom : Type 0
CommandLeavesRoom = (old new : FsTree) (history : History) (files : List (ℕ × File)) (pieces besides : ℕ)
    → 4096 ≤ old.land.space.sizes.nodesize → LeavesFiles old new history files pieces
    → 10 * file_copies old.tree.height pieces
    + 8 * nodes_filled old.land.space.sizes.nodesize (weight_of old.refs.held old.refs.refs + besides) + 40
    ≤ free_slots old.land.space
    → 5 * nodes_filled old.land.space.sizes.nodesize (weight_of new.refs.held new.refs.refs) + 40
    ≤ free_slots new.land.space
