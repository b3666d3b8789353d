pub mod Linked
pub mod Leading
pub mod Places
pub mod Marks
pub mod Housed
