pub use Rattle.qg_blocks.specs.NodesInMemory
pub use Rattle.qg_blocks.specs.NodesFound
pub mod Land
pub mod Tellings
pub mod SlotTally
pub mod Changes
pub mod Calls
