pub mod Run
pub mod Fields
pub mod Holding
pub mod Lying
pub mod Agreement
pub mod ManySlots
