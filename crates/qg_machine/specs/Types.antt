-- Types of the crates below that this crate passes on.
pub use Rattle.qg_image.specs.declared.quota.Group.{Group}
pub use Rattle.qg_image.specs.declared.quota.Quota.{Quota}
