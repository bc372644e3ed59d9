pub mod Ranking
pub mod Giving
