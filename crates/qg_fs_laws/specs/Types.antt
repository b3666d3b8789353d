-- Types of the crates below that this crate passes on.
pub use Rattle.qg_file_edits.specs.Types.{FsTree, TreeRefs}
pub use Rattle.qg_file_edits.specs.declared.found.Found.{Found}
pub use Rattle.qg_commit.specs.Types.{Broken, Differs, Image, OtherTrees, Report, Sound, TreeContents}
