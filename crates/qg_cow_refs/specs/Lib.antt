pub mod Children
pub mod Copying
pub mod Left
pub mod Examples
