pub mod Looked
pub mod Ways
pub mod Leaves
pub mod Kept
