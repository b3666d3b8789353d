pub mod Build
pub mod FillsNode
pub mod Row
