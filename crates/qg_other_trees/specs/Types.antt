-- Types of the crates below that this crate passes on.
pub use Rattle.qg_check.specs.declared.image.Image.{Image}
pub use Rattle.qg_check.specs.declared.report.Report.{Report}
pub use Rattle.qg_check.specs.declared.report.Report.TheVariants.{Broken, Differs, Sound}
