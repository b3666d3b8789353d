pub mod Changing
pub mod Opened
