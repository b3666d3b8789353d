pub mod Runs
pub mod Served
pub mod Slots
pub mod SuperTexts
