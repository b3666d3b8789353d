pub mod Tree
pub mod Reading
pub mod Way
pub mod Branch
pub mod Stopping
