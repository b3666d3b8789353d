pub mod Nodes
pub mod NodeText
pub mod Reading
pub mod Rules
pub mod Fits
pub mod Laws
