pub mod Answering
pub mod Edits
pub mod Outcome
