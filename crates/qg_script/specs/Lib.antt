pub mod Feeding
pub mod LineBytes
pub mod Lines
pub mod ReadLine
pub mod Reading
pub mod Added
pub mod ReportText
