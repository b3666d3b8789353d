pub mod Copied
pub mod ReadingLoops
pub mod Texts
pub mod Filling
pub mod TextBytes
pub mod Found
pub mod Again
pub mod ItemUnder
