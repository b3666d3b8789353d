pub mod RankOrder
pub mod Counting
