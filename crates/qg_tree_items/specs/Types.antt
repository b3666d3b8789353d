-- Types of the crates below that this crate passes on.
pub use Rattle.qg_image.specs.declared.file.File.{File}
pub use Rattle.qg_image.specs.declared.part.ExtentPart.{ExtentPart}
pub use Rattle.qg_image.specs.declared.part.ExtentPart.TheVariants.{DataRecord, NodeRecord, Referenced}
pub use Rattle.qg_image.specs.declared.part.FilePart.{FilePart}
pub use Rattle.qg_image.specs.declared.part.FilePart.TheVariants.{Inode, PieceOf}
pub use Rattle.qg_image.specs.declared.tree.TreeKind.TheVariants.{Extents}
