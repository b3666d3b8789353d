pub mod Places
pub mod SuperText
pub mod NoChance
pub mod Laws
pub mod Examples
