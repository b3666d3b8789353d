pub mod Changes
pub mod Below
pub mod Entry
pub mod Merged
pub mod LookUps
pub mod Flushing
pub mod Making
