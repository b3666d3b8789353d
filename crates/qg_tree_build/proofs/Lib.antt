pub mod Filled
pub mod Planned
pub mod Walked
pub mod WaysToNodes
pub mod Slots
pub mod Laid
pub mod Telling
pub mod Standing
