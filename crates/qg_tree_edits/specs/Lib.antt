pub use Rattle.qg_tree_read.specs.Branch
pub use Rattle.qg_tree_read.specs.Tree
pub use Rattle.qg_edit.specs.Edits
pub use Rattle.qg_node_alloc.specs.Calls as NodeAllocCalls
pub use Rattle.qg_node_alloc.specs.Land
pub use Rattle.qg_node_alloc.specs.Tellings
pub mod First
pub mod Editing
pub mod Uniting
pub mod Rooting
pub mod Counting
pub mod Failing
pub mod Steps
pub mod Calls
pub mod Types
pub mod OwnSlots
pub mod SlotLaws
