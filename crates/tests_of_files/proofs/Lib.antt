pub mod Seventh
