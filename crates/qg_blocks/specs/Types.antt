-- Types of the crates below that this crate passes on.
pub use Rattle.qg_image.specs.declared.expected.Expected.{Expected}
pub use Rattle.qg_image.specs.declared.failure.Failure.{Failure}
pub use Rattle.qg_image.specs.declared.failure.Failure.TheVariants.{Broken, Differs}
pub use Rattle.qg_image.specs.declared.tree.TreeKind.{TreeKind}
