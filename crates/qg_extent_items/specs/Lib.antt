pub use Rattle.qg_extents.specs.BookRecords
pub mod Told
pub mod Standing
pub mod BookEdits
pub mod Reading
pub mod Laws
pub mod Examples
