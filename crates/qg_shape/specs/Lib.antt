pub mod Parts
pub mod Filled
pub mod Places
pub mod Pointing
pub mod Outcomes
pub mod Cut
