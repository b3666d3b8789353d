-- Types of the crates below that this crate passes on.
pub use Rattle.qg_open_image.specs.Types.{Broken, Differs, FsTree, Report, Sound}
pub use Rattle.qg_open_image.specs.declared.open_image.OpenImage.{OpenImage}
pub use Rattle.qg_open_image.specs.declared.open_image.KeptSubvolume.{KeptSubvolume}
