-- Types of the crates below that this crate passes on.
pub use Rattle.qg_other_trees.specs.Types.{Broken, Differs, Image, Report, Sound}
pub use Rattle.qg_other_trees.specs.declared.laying.OtherTrees.{OtherTrees}
pub use Rattle.qg_other_trees.specs.declared.laying.TreeContents.{TreeContents}
