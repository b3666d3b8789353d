pub use Rattle.qg_shared_trees.specs.ForestStanding
pub mod Dropping
pub mod Counting
pub mod Beginning
