pub mod Slots
pub mod Committing
pub mod Opening
pub mod Knowing
pub mod Laws
