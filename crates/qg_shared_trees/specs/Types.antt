-- Types of the crates below that this crate passes on.
pub use Rattle.qg_tree_backrefs.specs.declared.tree_refs.TreeRefs.{TreeRefs}
pub use Rattle.qg_fs_tree.specs.declared.fs_tree.FsTree.{FsTree}
