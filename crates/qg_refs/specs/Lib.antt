pub mod Order
pub mod Counts
pub mod Book
