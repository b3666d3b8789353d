pub mod Crc32c
pub mod Running
pub mod Rows
pub mod Examples
