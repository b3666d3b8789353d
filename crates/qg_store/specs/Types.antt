-- Types of the crates below that this crate passes on.
pub use Rattle.qg_image_commits.specs.Types.{Broken, Differs, Report, Sound}
