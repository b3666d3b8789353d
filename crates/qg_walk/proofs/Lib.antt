pub mod Slots
pub mod Found
pub mod KeyRanges
pub mod Failures
pub mod Growth
pub mod WholeTree
