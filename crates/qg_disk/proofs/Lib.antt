pub mod Overlay
pub mod Sizes
pub mod Images
pub mod Crashes
pub mod Untold
