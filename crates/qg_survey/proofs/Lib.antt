pub mod Reading
pub mod Rounds
pub mod Stepped
pub mod Ordered
pub mod TreesRead
pub mod Links
