pub mod GeneratedScript
pub mod Examples
