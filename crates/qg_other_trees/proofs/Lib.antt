pub use Rattle.qg_check.proofs.Found as CheckFound
pub use Rattle.qg_check.proofs.Verdicts
pub mod Slots
pub mod Enough
pub mod TreesIn
pub mod Others
pub mod QuotaTree
pub mod Recorded
pub mod Telling
pub mod Weight
pub mod Bound
pub mod SubvolumeTree
pub mod Walked
pub mod MetNodes
pub mod Found
pub mod Tables
pub mod LayoutSame
pub mod Owing
pub mod Sound
mod Lists
pub mod One
