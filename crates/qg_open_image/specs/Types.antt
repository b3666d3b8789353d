-- Types of the crates below that this crate passes on.
pub use Rattle.qg_fs_laws.specs.Types.{Broken, Differs, Found, FsTree, Image, OtherTrees, Report, Sound, TreeContents}
pub use Rattle.qg_fs_laws.specs.Types.{TreeRefs}
