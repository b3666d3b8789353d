pub mod Lists
pub mod Leaves
pub mod Cuts
pub mod Order
pub mod Singles
