pub mod Fault
pub mod IsWalk
pub mod Standing
pub mod Added
pub mod WalkKeeps
