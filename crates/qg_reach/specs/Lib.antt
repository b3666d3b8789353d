pub mod Sets
pub mod Fits
