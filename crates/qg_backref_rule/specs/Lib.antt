pub mod OwedLists
pub mod Judged
