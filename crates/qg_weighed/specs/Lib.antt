pub use Rattle.qg_extents.specs.Table
pub mod Weight
pub mod Laws
