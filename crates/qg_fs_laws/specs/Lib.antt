pub use Rattle.qg_file_edits.specs.Changes
pub use Rattle.qg_file_edits.specs.Counting
pub use Rattle.qg_file_edits.specs.Files
pub use Rattle.qg_file_edits.specs.Following
pub use Rattle.qg_file_edits.specs.ForestStanding
pub use Rattle.qg_file_edits.specs.Heavier
pub use Rattle.qg_file_edits.specs.Laying
pub use Rattle.qg_file_edits.specs.Named
pub use Rattle.qg_file_edits.specs.Need
pub use Rattle.qg_file_edits.specs.Settled
pub use Rattle.qg_file_edits.specs.Standing
pub use Rattle.qg_file_edits.specs.TreeBook
pub use Rattle.qg_file_edits.specs.TreeEditsEditing
pub use Rattle.qg_commit_trees.specs.Committing as CommitTreesCommitting
pub use Rattle.qg_commit_trees.specs.Opening as CommitTreesOpening
pub use Rattle.qg_commit.specs.Calls
pub use Rattle.qg_commit.specs.Editable
pub use Rattle.qg_commit.specs.Fresh
pub use Rattle.qg_commit.specs.HoldsAfter
pub use Rattle.qg_commit.specs.IsImage
pub use Rattle.qg_commit.specs.Mkfs
pub use Rattle.qg_commit.specs.Opened
pub use Rattle.qg_commit.specs.Opening as CommitOpening
pub use Rattle.qg_commit.specs.Report
pub use Rattle.qg_commit.specs.Sound
pub use Rattle.qg_commit.specs.Stale
pub use Rattle.qg_commit.specs.Trees
pub use Rattle.qg_commit.specs.Writing
pub mod Keeping
pub mod StepLaws
pub mod Opening
pub mod OpeningLaws
pub mod Committing
pub mod CommitLaws
pub mod Types
