pub mod ItemText
pub mod ItemReading
pub mod Laws
pub mod Examples
