pub mod Built
pub mod Digits
pub mod FourWords
pub mod Hyphens
pub mod Line
pub mod OneForm
pub mod Steps
pub mod FormsOfMatches
