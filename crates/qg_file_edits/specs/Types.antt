-- Types of the crates below that this crate passes on.
pub use Rattle.qg_shared_trees.specs.Types.{FsTree, TreeRefs}
