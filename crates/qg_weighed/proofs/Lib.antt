pub mod Distinct
pub mod Recorded
pub mod Weights
pub mod Known
pub mod Trees
pub mod Layouts
pub mod Law
pub mod Named
mod Fresh
