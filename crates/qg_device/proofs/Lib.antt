pub mod Causes
pub mod Histories
